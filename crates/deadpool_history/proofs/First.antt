-- A journal has the first of all entries, however many there are. With none, nothing is counted.
use Rattle.std.proofs.Common.{◌≡◌, ◌∙◌, ℕ, ◌<◌, ◌≤◌, true, false, List, [], ◌∷◌, ◌++◌, length, nat_lt}
use Rattle.std.proofs.Common.{Result, Ok, Err, IfOk, drop, ap, sym, arith, inl, inr, length-append, ltb-true, ltb-false}
use Rattle.std.proofs.lemmas.Bool.{cases_Bool, lt-ltb, le-ltb}
use Rattle.std.proofs.lemmas.List.{drop_all, length-take-le, take_all, take-append-le}
use Rattle.std.proofs.lemmas.List.{take-append-drop}
use Rattle.std.specs.declared.alloc.AllocError.{AllocError}
use Rattle.deadpool_journal.specs.Journaling.{Journaling}
use Rattle.deadpool_journal.specs.Kept.{JournalInvariant}
use Rattle.deadpool_journal.specs.LogState.{LogState, no_entries, noted}
use Rattle.deadpool_journal.specs.declared.entry.Entry.{Entry}
use Rattle.deadpool_journal.specs.Tally.{no_tally}
use Rattle.deadpool_journal.specs.declared.journal.Journal.{Journal}
use Rattle.deadpool_history.specs.History.{HasFirst, History, IsBeginning, LeadsTo, entries_of}

-- there is none yet
pub has_none : (kept : LogState) → kept ≡ no_entries kept.most → HasFirst kept []
has_none kept empty =
    let entries : kept.entries ≡ [] = ap (λ (k : LogState). k.entries) empty in
    let is_full : kept.is_full ≡ false = ap (λ (k : LogState). k.is_full) empty in (
      entries ∙ sym (take_all kept.most [] (omega arith)),
      is_full ∙ sym (le-ltb kept.most 0 (omega arith)),
    )

-- if it has fewer than there may be it has all
has_all : (kept : LogState) (es : List Entry) → HasFirst kept es → length kept.entries < kept.most
    → length es < kept.most
has_all kept es first room =
    elim (cases_Bool (nat_lt (length es) kept.most)) [
      | inl fewer ↦ ltb-true (length es) kept.most fewer
      | inr as_many ↦
          absurd (
          let same = ap length first.0 in
          let all = length-take-le kept.most es (ltb-false (length es) kept.most as_many) in
          omega (arith, same, all, room)
          )
    ]

-- and if it has as many, these are no more than all
has_no_more : (kept : LogState) (es : List Entry) → HasFirst kept es → kept.most ≤ length kept.entries
    → kept.most ≤ length es
has_no_more kept es first none =
    elim (cases_Bool (nat_lt (length es) kept.most)) [
      | inl fewer ↦
          absurd (
          let less = ltb-true (length es) kept.most fewer in
          let same = ap length (first.0 ∙ take_all kept.most es (omega (arith, less))) in
          omega (arith, same, less, none)
          )
      | inr as_many ↦ ltb-false (length es) kept.most as_many
    ]

first_if_room : (kept : LogState) (es : List Entry) (e : Entry) → HasFirst kept es
    → length kept.entries < kept.most
    → HasFirst (record kept { entries = kept.entries ++ e ∷ [] }) (es ++ e ∷ [])
first_if_room kept es e first room =
    let within = has_all kept es first room in
    let longer = length-append es (e ∷ []) in (
      ap (λ (x : List Entry). x ++ e ∷ []) (first.0 ∙ take_all kept.most es (omega (arith, within)))
          ∙ sym (take_all kept.most (es ++ e ∷ []) (omega (arith, longer, within))),
      first.1 ∙ le-ltb kept.most (length es) (omega (arith, within))
          ∙ sym (le-ltb kept.most (length (es ++ e ∷ [])) (omega (arith, longer, within))),
    )

first_if_full : (kept : LogState) (es : List Entry) (e : Entry) → HasFirst kept es
    → kept.most ≤ length kept.entries → HasFirst (record kept { is_full = true }) (es ++ e ∷ [])
first_if_full kept es e first none =
    let beyond = has_no_more kept es first none in
    let longer = length-append es (e ∷ []) in (
      first.0 ∙ sym (take-append-le kept.most es (e ∷ []) beyond),
      sym (lt-ltb kept.most (length (es ++ e ∷ [])) (omega (arith, longer, beyond))),
    )

-- one entry more
pub has_first : (kept : LogState) (es : List Entry) (e : Entry) → HasFirst kept es
    → HasFirst (noted e kept) (es ++ e ∷ [])
has_first kept es e first =
    elim (cases_Bool (nat_lt (length kept.entries) kept.most)) [
      | inl room ↦ rw room (first_if_room kept es e first (ltb-true (length kept.entries) kept.most room))
      | inr none ↦ rw none (first_if_full kept es e first (ltb-false (length kept.entries) kept.most none))
    ]

-- nothing stands after the first, if there are no more
nothing_after : (most : ℕ) (es : List Entry) → nat_lt most (length es) ≡ false → drop most es ≡ []
nothing_after most es none = drop_all most es (ltb-false most (length es) none)

module _ {T : Type 0} where
  -- nothing is counted before the first step
  pub has_no_tally : (j : Journaling T) → JournalInvariant j → j.log ≡ no_entries j.log.most → j.tally ≡ no_tally
  has_no_tally j k empty =
      let entries : j.log.entries ≡ [] = ap (λ (l : LogState). l.entries) empty in
      let free : j.log.is_full ≡ false = ap (λ (l : LogState). l.is_full) empty in
      let counts = rw entries at k.counts.2 in
      sym (k.counts.3 free).1 ∙ counts.1

  -- what a copy has
  pub is_beginning : (j : Journaling T) (log : History) (journal : Journal) → LeadsTo j log → journal.limit ≡ j.limit
      → journal.mode ≡ j.mode → journal.min_idle ≡ j.min_idle → journal.max_waiting ≡ j.max_waiting
      → journal.entries.items ≡ j.log.entries → journal.full ≡ j.log.is_full → IsBeginning journal log
  is_beginning j log journal leads limit mode min_idle max_waiting entries full =
      let es = entries_of leads.0 in
      let first = leads.1.1.1 in
      let rest : List Entry = drop j.log.most es in (
        leads.0,
        (
          rw (limit, mode, min_idle, max_waiting) leads.1.0,
          (
            rest,
            (
              sym (ap (λ (x : List Entry). x ++ rest) (entries ∙ first.0) ∙ take-append-drop j.log.most es),
              λ not_full. nothing_after j.log.most es (sym first.1 ∙ sym full ∙ not_full),
            ),
          ),
        ),
      )

  -- what one has for which there was memory
  pub beginning_if_ok : (j : Journaling T) (log : History) (result : Result Journal AllocError) → LeadsTo j log
      → IfOk result (λ journal. journal.limit ≡ j.limit) → IfOk result (λ journal. journal.mode ≡ j.mode)
      → IfOk result (λ journal. journal.min_idle ≡ j.min_idle)
      → IfOk result (λ journal. journal.max_waiting ≡ j.max_waiting)
      → IfOk result (λ journal. journal.entries.items ≡ j.log.entries)
      → IfOk result (λ journal. journal.full ≡ j.log.is_full) → IfOk result (λ journal. IsBeginning journal log)
  beginning_if_ok j log (Ok journal) leads limit mode min_idle max_waiting entries full =
      is_beginning j log journal leads limit mode min_idle max_waiting entries full
  beginning_if_ok j log (Err refused) leads limit mode min_idle max_waiting entries full = tt
