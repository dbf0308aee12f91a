-- What the numbers that each was told add up to.
use Rattle.std.proofs.Common.{◌≡◌, ℕ, ◌+◌, List, [], ◌∷◌, map, sum, length, subst, ap, arith}
use Rattle.std.proofs.Common.{Result, Ok, IfOk, Option, Some, None, IfSome}
use Rattle.std.proofs.lemmas.List.Sums.{sum_by-cons}
use Rattle.std.specs.List.{AllZip}

module _ {E : Type 0} where
  -- who ended well did as many as told
  abbrev pub IsAsTold : ℕ → Result ℕ E → Type 0
  IsAsTold lines end = IfOk end (λ done. done ≡ lines)

  -- so far they are total, and the rest is as told
  pub record Adds (told : List ℕ) (total : ℕ) (rest : List (Result ℕ E)) : Type 0 where
    pub later : List ℕ
    pub as_told : AllZip IsAsTold later rest
    pub adds : total + sum later ≡ sum told

  pub adds_more :
      (told : List ℕ) (total done : ℕ) (before after : List (Result ℕ E))
      → before ≡ Ok done ∷ after → Adds told total before → Adds told (total + done) after
  adds_more told total done before after first so_far =
      step so_far.later so_far.adds (subst (AllZip IsAsTold so_far.later) first so_far.as_told)
    where
      step : (later : List ℕ) → total + sum later ≡ sum told → AllZip IsAsTold later (Ok done ∷ after)
          → Adds told (total + done) after
      step [] adds zipped = absurd zipped
      step (n ∷ ns) adds zipped = record {
        later = ns;
        as_told = zipped.1;
        adds = grind (arith, sum_by-cons (λ x. x) n ns, zipped.0, adds);
      }

  pub adds_all :
      (told : List ℕ) (total : ℕ) (rest : List (Result ℕ E)) → length rest ≡ 0
      → Adds told total rest → total ≡ sum told
  adds_all told total rest none so_far = last rest none so_far.later so_far.as_told so_far.adds
    where
      last : (rest : List (Result ℕ E)) → length rest ≡ 0 → (later : List ℕ) → AllZip IsAsTold later rest
          → total + sum later ≡ sum told → total ≡ sum told
      last [] none [] zipped adds = omega (arith, adds)
      last [] none (n ∷ ns) zipped adds = absurd zipped
      last (r ∷ rs) none later zipped adds = absurd (omega (arith, none))

  pub as_each_was_told :
      {W : Type 0} (lines : W → ℕ) (ws : List W) (ends : List (Result ℕ E))
      → AllZip (λ w end. IfOk end (λ done. done ≡ lines w)) ws ends → AllZip IsAsTold (map lines ws) ends
  as_each_was_told lines [] [] zipped = tt
  as_each_was_told lines [] (e ∷ es) zipped = zipped
  as_each_was_told lines (w ∷ ws) [] zipped = zipped
  as_each_was_told lines (w ∷ ws) (e ∷ es) zipped = (zipped.0, as_each_was_told lines ws es zipped.1)

-- how many are left after the first
pub left_less :
    {A : Type 0} (before after : List A) (x : A) (m n : ℕ)
    → m ≡ length before → before ≡ x ∷ after → n + 1 ≡ m → n ≡ length after
left_less before after x m n long first less = grind (arith, ap length first)

pub if_some_so : {X : Type 0} (P Q : X → Type 0) → ((x : X) → P x → Q x) → (o : Option X) → IfSome o P → IfSome o Q
if_some_so P Q so (Some x) has = so x has
if_some_so P Q so None has = tt
