-- What holds of two lists place by place, of which the second grows by one item after another.
use Rattle.std.proofs.Common.{◌≡◌, ℕ, ◌+◌, List, [], ◌∷◌, ◌++◌, length, sym, subst, ap, ◌∙◌, Result, Ok, Err, IfOk}
use Rattle.std.proofs.Common.{append_assoc, arith}
use Rattle.std.proofs.lemmas.List.{append-nil}
use Rattle.std.specs.List.{AllZip}

module _ {A B : Type 0} (P : A → B → Type 0) where
  -- whatever goes with the rest goes with all, after what is there
  abbrev pub Goes : List A → List A → List B → Type 0
  Goes all rest done = (later : List B) → AllZip P rest later → AllZip P all (done ++ later)

  -- the rest begins with x, and y was put to what is there
  pub goes_on :
      (all before after : List A) (done more : List B) (x : A) (y : B)
      → before ≡ x ∷ after → more ≡ done ++ y ∷ [] → P x y
      → Goes all before done → Goes all after more
  goes_on all before after done more x y first put holds goes later zipped =
      subst (AllZip P all) (sym (ap (λ ys. ys ++ later) put ∙ append_assoc done (y ∷ []) later))
      (goes (y ∷ later) (subst (λ xs. AllZip P xs (y ∷ later)) (sym first) (holds, zipped)))

  -- nothing is left
  pub goes_whole : (all rest : List A) (done : List B) → length rest ≡ 0 → Goes all rest done → AllZip P all done
  goes_whole all [] done none goes = subst (AllZip P all) (append-nil done) (goes [] tt)
  goes_whole all (x ∷ xs) done none goes = absurd (omega (arith, none))

-- how many are left after the first
pub left_less :
    {A : Type 0} (before after : List A) (x : A) (m n : ℕ)
    → m ≡ length before → before ≡ x ∷ after → n + 1 ≡ m → n ≡ length after
left_less before after x m n long first less = grind (arith, ap length first)

pub none_left : {A : Type 0} (rest : List A) (n : ℕ) → n ≡ length rest → n ≡ 0 → length rest ≡ 0
none_left rest n long none = sym long ∙ none

pub if_ok_so : {X E : Type 0} (P Q : X → Type 0) → ((x : X) → P x → Q x) → (r : Result X E) → IfOk r P → IfOk r Q
if_ok_so P Q so (Ok x) has = so x has
if_ok_so P Q so (Err e) has = tt

-- from the items of one list by those of a second to those of a third
pub zip_through :
    {A B C : Type 0} (P : A → B → Type 0) (Q : B → C → Type 0) (R : A → C → Type 0)
    → ((a : A) (b : B) (c : C) → P a b → Q b c → R a c)
    → (xs : List A) (ys : List B) (zs : List C) → AllZip P xs ys → AllZip Q ys zs → AllZip R xs zs
zip_through P Q R step [] [] [] p q = tt
zip_through P Q R step [] [] (z ∷ zs) p q = q
zip_through P Q R step [] (y ∷ ys) zs p q = absurd p
zip_through P Q R step (x ∷ xs) [] zs p q = absurd p
zip_through P Q R step (x ∷ xs) (y ∷ ys) [] p q = q
zip_through P Q R step (x ∷ xs) (y ∷ ys) (z ∷ zs) p q =
    (step x y z p.0 q.0, zip_through P Q R step xs ys zs p.1 q.1)

-- what holds of the two in each place has this too
pub zip_so :
    {A B : Type 0} (P Q : A → B → Type 0) → ((a : A) (b : B) → P a b → Q a b)
    → (xs : List A) (ys : List B) → AllZip P xs ys → AllZip Q xs ys
zip_so P Q so [] [] p = tt
zip_so P Q so [] (y ∷ ys) p = absurd p
zip_so P Q so (x ∷ xs) [] p = absurd p
zip_so P Q so (x ∷ xs) (y ∷ ys) p = (so x y p.0, zip_so P Q so xs ys p.1)
