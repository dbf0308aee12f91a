-- A journal has the first of all entries, however many there are.
use Rattle.deadpool_unmanaged_history.proofs.Words.{◌≡◌, ◌∙◌, ◌<◌, ◌≤◌, true, false, List, [], ◌∷◌, ◌++◌, length}
use Rattle.deadpool_unmanaged_history.proofs.Words.{nat_lt}
use Rattle.deadpool_unmanaged_history.proofs.Words.{ap, sym, arith, inl, inr, length-append, ltb-true, ltb-false}
use Rattle.deadpool_unmanaged_history.proofs.Words.{cases_Bool}
use Rattle.deadpool_unmanaged_history.proofs.Words.{lt-ltb, le-ltb, length-take-le, take_all, take-append-le}
use Rattle.deadpool_unmanaged_history.proofs.Words.{LogState, no_entries, noted, Entry, HasFirst, no_tally, Journaling}
use Rattle.deadpool_unmanaged_history.proofs.Words.{JournalInvariant}

module _ {O : Type 0} where
  -- there is none yet
  pub has_none : (kept : LogState O) → kept ≡ no_entries kept.most → HasFirst kept []
  has_none kept empty =
      let entries : kept.entries ≡ [] = ap (λ (k : LogState O). k.entries) empty in
      let is_full : kept.is_full ≡ false = ap (λ (k : LogState O). k.is_full) empty in (
        entries ∙ sym (take_all kept.most [] (omega arith)),
        is_full ∙ sym (le-ltb kept.most 0 (omega arith)),
      )

  -- if it has fewer than there may be it has all
  has_all : (kept : LogState O) (es : List (Entry O)) → HasFirst kept es → length kept.entries < kept.most
      → length es < kept.most
  has_all kept es first room =
      elim (cases_Bool (nat_lt (length es) kept.most)) [
        | inl fewer ↦ ltb-true (length es) kept.most fewer
        | inr as_many ↦
            absurd (
            let same = ap length first.0 in
            let all = length-take-le kept.most es (ltb-false (length es) kept.most as_many) in
            omega (arith, same, all, room)
            )
      ]

  -- and if it has as many, these are no more than all
  has_no_more : (kept : LogState O) (es : List (Entry O)) → HasFirst kept es → kept.most ≤ length kept.entries
      → kept.most ≤ length es
  has_no_more kept es first none =
      elim (cases_Bool (nat_lt (length es) kept.most)) [
        | inl fewer ↦
            absurd (
            let less = ltb-true (length es) kept.most fewer in
            let same = ap length (first.0 ∙ take_all kept.most es (omega (arith, less))) in
            omega (arith, same, less, none)
            )
        | inr as_many ↦ ltb-false (length es) kept.most as_many
      ]

  first_if_room : (kept : LogState O) (es : List (Entry O)) (e : Entry O) → HasFirst kept es
      → length kept.entries < kept.most
      → HasFirst (record kept { entries = kept.entries ++ e ∷ [] }) (es ++ e ∷ [])
  first_if_room kept es e first room =
      let within = has_all kept es first room in
      let longer = length-append es (e ∷ []) in (
        ap (λ (x : List (Entry O)). x ++ e ∷ []) (first.0 ∙ take_all kept.most es (omega (arith, within)))
            ∙ sym (take_all kept.most (es ++ e ∷ []) (omega (arith, longer, within))),
        first.1 ∙ le-ltb kept.most (length es) (omega (arith, within))
            ∙ sym (le-ltb kept.most (length (es ++ e ∷ [])) (omega (arith, longer, within))),
      )

  first_if_full : (kept : LogState O) (es : List (Entry O)) (e : Entry O) → HasFirst kept es
      → kept.most ≤ length kept.entries → HasFirst (record kept { is_full = true }) (es ++ e ∷ [])
  first_if_full kept es e first none =
      let beyond = has_no_more kept es first none in
      let longer = length-append es (e ∷ []) in (
        first.0 ∙ sym (take-append-le kept.most es (e ∷ []) beyond),
        sym (lt-ltb kept.most (length (es ++ e ∷ [])) (omega (arith, longer, beyond))),
      )

  -- one entry more
  pub has_first : (kept : LogState O) (es : List (Entry O)) (e : Entry O) → HasFirst kept es
      → HasFirst (noted e kept) (es ++ e ∷ [])
  has_first kept es e first =
      elim (cases_Bool (nat_lt (length kept.entries) kept.most)) [
        | inl room ↦ rw room (first_if_room kept es e first (ltb-true (length kept.entries) kept.most room))
        | inr none ↦ rw none (first_if_full kept es e first (ltb-false (length kept.entries) kept.most none))
      ]

-- nothing is counted before the first step
pub has_no_tally : {T O : Type 0} (name : T → O) (j : Journaling T O) → JournalInvariant name j
    → j.log ≡ no_entries j.log.most → j.tally ≡ no_tally
has_no_tally {O} name j k empty =
    let entries : j.log.entries ≡ [] = ap (λ (l : LogState O). l.entries) empty in
    let free : j.log.is_full ≡ false = ap (λ (l : LogState O). l.is_full) empty in
    let counts = rw entries at k.counts.2 in
    sym (k.counts.3 free).1 ∙ counts.1
