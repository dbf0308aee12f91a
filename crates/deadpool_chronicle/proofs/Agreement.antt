-- The pages agree with the history as it grows, and as callers are let in.
use native.Mathlib.Decide.{ℕ_discrete}
use Rattle.std.proofs.Common.{eq-eqb, ne_eqb, ◌≡◌, ◌≢◌, ℕ, zero, suc, ◌<◌, ◌==◌, Bool, List, [], ◌∷◌, ◌++◌, map, length}
use Rattle.std.proofs.Common.{set, get_or, sym, refl, ap, ◌∙◌}
use Rattle.std.proofs.lemmas.Grind.{get_or-set_at}
use Rattle.std.proofs.lemmas.List.{append-nil, get_or-set_other, map-append}
use Rattle.std.proofs.lemmas.List.Elements.{filter-append}
use Rattle.std.specs.Prelude.{filter, if◌then◌else◌}
use Rattle.deadpool_chronicle.specs.History.{calls_by}
use Rattle.deadpool_chronicle.specs.Owned.{Agree}

abbrev Page : Type 0 → Type 0
Page E = List E × ℕ

module _ {E : Type 0} where
  abbrev empty : Page E
  empty = ([], 0)

  abbrev entries : Page E → List E
  entries page = page.0

  calls_by-append : (number : ℕ) (log more : List (ℕ × E))
      → calls_by number (log ++ more) ≡ calls_by number log ++ calls_by number more
  calls_by-append number log more =
      ap (map (λ (x : ℕ × E). x.1)) (filter-append (λ (x : ℕ × E). x.0 == number) log more)
      ∙ map-append (λ (x : ℕ × E). x.1) (filter (λ (x : ℕ × E). x.0 == number) log)
      (filter (λ (x : ℕ × E). x.0 == number) more)

  -- what one entry is to the caller with that number
  abbrev one_by : ℕ × E → Bool → List E
  one_by x is_its = map (λ (x : ℕ × E). x.1) (if is_its then x ∷ [] else [])

  pub calls_by-own : (number : ℕ) (log : List (ℕ × E)) (e : E)
      → calls_by number (log ++ (number, e) ∷ []) ≡ calls_by number log ++ e ∷ []
  calls_by-own number log e =
      calls_by-append number log ((number, e) ∷ [])
      ∙ ap (λ is_its. calls_by number log ++ one_by (number, e) is_its) (eq-eqb number number refl)

  calls_by-other : (number other : ℕ) (log : List (ℕ × E)) (e : E) → number ≢ other
      → calls_by number (log ++ (other, e) ∷ []) ≡ calls_by number log
  calls_by-other number other log e apart =
      calls_by-append number log ((other, e) ∷ [])
      ∙ (ap (λ is_its. calls_by number log ++ one_by (other, e) is_its) (ne_eqb other number (λ same. apart (sym same)))
      ∙ append-nil (calls_by number log))

  -- one page is written anew, while the history gets no entry but of its caller
  agree-set : (log log' : List (ℕ × E)) (pages : List (Page E)) (i : ℕ) (page : Page E) → i < length pages
      → calls_by i log' ≡ page.0
      → ((k : ℕ) → k ≢ i → calls_by k log' ≡ calls_by k log) → Agree log pages → Agree log' (set pages i page)
  agree-set log log' pages i page less here others agree k = at (ℕ_discrete k i)
    where
      at : Dec (k ≡ i) → calls_by k log' ≡ (get_or (set pages i page) k empty).0
      at (yes same) = ap (λ (j : ℕ). calls_by j log') same
          ∙ (here ∙ sym (ap entries (get_or-set_at pages i k page empty same less)))
      at (no apart) = others k apart ∙ (agree k ∙ sym (ap entries (get_or-set_other pages i k page empty apart)))

  pub agree-note : (log : List (ℕ × E)) (pages : List (Page E)) (i : ℕ) (mine : List E) (n : ℕ) (e : E)
      → Agree log pages → i < length pages
      → get_or pages i empty ≡ (mine, n) → Agree (log ++ (i, e) ∷ []) (set pages i (mine ++ e ∷ [], n))
  agree-note log pages i mine n e agree less is =
      agree-set log (log ++ (i, e) ∷ []) pages i (mine ++ e ∷ [], n) less
      (calls_by-own i log e ∙ ap (λ (ys : List E). ys ++ e ∷ []) (agree i ∙ ap entries is))
      (λ k apart. calls_by-other k i log e apart) agree

  -- what stands beside the entries of a page may change
  pub agree-count : (log : List (ℕ × E)) (pages : List (Page E)) (i : ℕ) (mine : List E) (n m : ℕ) → Agree log pages
      → i < length pages
      → get_or pages i empty ≡ (mine, n) → Agree log (set pages i (mine, m))
  agree-count log pages i mine n m agree less is =
      agree-set log log pages i (mine, m) less (agree i ∙ ap entries is) (λ k apart. refl) agree

  get_or-more : (pages : List (Page E)) (k : ℕ) → get_or (pages ++ empty ∷ []) k empty ≡ get_or pages k empty
  get_or-more [] zero = refl
  get_or-more [] (suc zero) = refl
  get_or-more [] (suc (suc k)) = refl
  get_or-more (page ∷ pages) zero = refl
  get_or-more (page ∷ pages) (suc k) = get_or-more pages k

  pub agree-admit : (log : List (ℕ × E)) (pages : List (Page E)) → Agree log pages → Agree log (pages ++ empty ∷ [])
  agree-admit log pages agree k = agree k ∙ ap entries (sym (get_or-more pages k))

  pub agree-none : Agree [] (empty ∷ [])
  agree-none zero = refl
  agree-none (suc k) = refl
