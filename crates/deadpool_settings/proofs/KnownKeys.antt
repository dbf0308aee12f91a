-- The first unknown key of an object is there and unknown, and if there is none, each key is known.
use Rattle.deadpool_settings.proofs.Words.{◌≡◌, ℕ, List, Bool, true, false, Option, Some, None, refl, sym, ap, ◌∙◌}
use Rattle.deadpool_settings.proofs.Words.{subst, inl, inr, IsSome, cases_Bool, some_value, get, get_member, Data}
use Rattle.deadpool_settings.proofs.Words.{null, boolean, number, string, array, object, Members, no_members, member}
use Rattle.std.proofs.Common.{Ordering, Less, Equal, Greater, nat_cmp, is_eq}
use Rattle.std.proofs.lemmas.Cmp.{nat_list_cmp_total, tied_itself}
use Rattle.std.proofs.lemmas.Map.Text.{is_eq-slice_cmp}
use Rattle.std.proofs.lemmas.Slice.Eq.{bytes_eq-Decides}
use Rattle.std.specs.Cmp.Lexicographic.{slice_cmp}
use Rattle.std.specs.Ordering.{match_ordering}
use Rattle.deadpool_settings.specs.Keys.{unknown_key, unknown_member}

same_key : (k l : List ℕ) → slice_cmp nat_cmp k l ≡ Equal → k ≡ l
same_key k l is = (bytes_eq-Decides k l).0 (sym (is_eq-slice_cmp k l) ∙ ap is_eq is)

still_there : (o : Ordering) (rest : Option Data) (d : Data) → IsSome rest
    → IsSome (match_ordering o rest (Some d) rest)
still_there Less rest d h = h
still_there Equal rest d h = refl
still_there Greater rest d h = h

is_there : (l : List ℕ) (d : Data) (ms : Members) → IsSome (get_member l (member l d ms))
is_there l d ms = let tied : slice_cmp nat_cmp l l ≡ Equal = tied_itself nat_list_cmp_total l in rw tied refl

module _ (has : List ℕ → Bool) where
  unknown_is_there : (ms : Members) (k : List ℕ) → unknown_member has ms ≡ Some k
      → IsSome (get_member k ms) × (has k ≡ false)
  unknown_is_there no_members k h = cc
  unknown_is_there (member l d ms) k h =
      elim (cases_Bool (has l)) [
        | inl known ↦
            let later = unknown_is_there ms k (rw known at h) in
            (still_there (slice_cmp nat_cmp k l) (get_member k ms) d later.0, later.1)
        | inr unknown ↦
            let first = rw unknown at h in
            let same : l ≡ k = cc in
            subst (λ k. IsSome (get_member k (member l d ms)) × (has k ≡ false)) same (is_there l d ms, unknown)
      ]

  at_or_later : (o : Ordering) (k l : List ℕ) (rest : Option Data) (d x : Data) → slice_cmp nat_cmp k l ≡ o
      → has l ≡ true → (rest ≡ Some x → has k ≡ true) → match_ordering o rest (Some d) rest ≡ Some x → has k ≡ true
  at_or_later Less k l rest d x is known later found = later found
  at_or_later Equal k l rest d x is known later found = ap has (same_key k l is) ∙ known
  at_or_later Greater k l rest d x is known later found = later found

  known_if_none : (ms : Members) → unknown_member has ms ≡ None → (k : List ℕ) (x : Data) → get_member k ms ≡ Some x
      → has k ≡ true
  known_if_none no_members h k x found = cc
  known_if_none (member l d ms) h k x found =
      elim (cases_Bool (has l)) [
        | inl known ↦ at_or_later (slice_cmp nat_cmp k l) k l (get_member k ms) d x refl known
            (known_if_none ms (rw known at h) k x) found
        | inr unknown ↦ let first = rw unknown at h in cc
      ]

  pub key_is_unknown : (d : Data) (k : List ℕ) → unknown_key has d ≡ Some k → IsSome (get k d) × (has k ≡ false)
  key_is_unknown null k h = cc
  key_is_unknown (boolean b) k h = cc
  key_is_unknown (number n) k h = cc
  key_is_unknown (string s) k h = cc
  key_is_unknown (array ds) k h = cc
  key_is_unknown (object ms) k h = unknown_is_there ms k h

  pub keys_are_known : (d : Data) → unknown_key has d ≡ None → (k : List ℕ) (x : Data) → get k d ≡ Some x
      → has k ≡ true
  keys_are_known null h k x found = cc
  keys_are_known (boolean b) h k x found = cc
  keys_are_known (number n) h k x found = cc
  keys_are_known (string s) h k x found = cc
  keys_are_known (array ds) h k x found = cc
  keys_are_known (object ms) h k x found = known_if_none ms h k x found

  none_unless_found : (d : Data) → ((k : List ℕ) (x : Data) → get k d ≡ Some x → has k ≡ true)
      → (first : Option (List ℕ)) → unknown_key has d ≡ first → first ≡ None
  none_unless_found d known None h = refl
  none_unless_found d known (Some k) h =
      let unknown = key_is_unknown d k h in
      let there = some_value (get k d) unknown.0 in
      let is_known = known k there.0 there.1 in
      let is_unknown = unknown.1 in
      cc

  pub none_is_unknown : (d : Data) → ((k : List ℕ) (x : Data) → get k d ≡ Some x → has k ≡ true)
      → unknown_key has d ≡ None
  none_is_unknown d known = none_unless_found d known (unknown_key has d) refl
