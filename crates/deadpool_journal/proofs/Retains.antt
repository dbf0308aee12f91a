-- What a retain notes is what it removed.
use Rattle.deadpool_journal.proofs.Words.{◌≡◌, ℕ, ◌+◌, ◌-◌, ◌≤◌, true, false, List, [], ◌∷◌, map, length, refl, ap, ◌∙◌}
use Rattle.deadpool_journal.proofs.Words.{arith, inl, inr, ◌==◌, nat_lt, Result, Ok, Err, ltb-false, AllocError, eq-eqb}
use Rattle.deadpool_journal.proofs.Words.{ne_eqb, length-map, CoreState, DeskState, least_idle, Retained, Reviews}
use Rattle.deadpool_journal.proofs.Words.{ReviewsFrom, Retains, RetainsNoting, Removal, Ghosts as RetainerOf, Slot}
use Rattle.deadpool_journal.proofs.Words.{number_of, numbered, Journaling, JournalInvariant, remaining, StandIn, IsStep}
use Rattle.deadpool_journal.proofs.Words.{NotesRetain, Entry}
use Rattle.deadpool_journal.proofs.{ByNumber.some_numbered, Kept.step_full}
use Rattle.deadpool_desk.specs.CoreSteps as core_steps
use Rattle.deadpool_desk.specs.DeskState.{size}
use Rattle.deadpool_journal.specs.Tally.{counted_retain}

-- if nothing is removed, all remains
remaining-none : (at : ℕ) (xs : List ℕ) → remaining at [] xs ≡ xs
remaining-none at [] = refl
remaining-none at (x ∷ xs) = refl

module _ {T R L : Type 0} (asks : RetainerOf R T L) where
  -- the first that is noted stands no earlier than the first that was asked about
  first_noted : (least idle at : ℕ) (slots : List (Slot T)) (r : R) (kept : List (Slot T)) (removed : List L)
      (n : Removal) (ns : List Removal) (r' : R) → ReviewsFrom asks least idle at slots r kept removed (n ∷ ns) r'
      → at ≤ n.position
  first_noted least idle at [] r kept removed n ns r' h = absurd (let none = h.2 in cc)
  first_noted least idle at (slot ∷ slots) r kept removed n ns r' (inl (next, others, keeps, is, rest)) =
      let later = first_noted least idle (at + 1) slots next others removed n ns r' rest in omega (arith, later)
  first_noted least idle at (slot ∷ slots) r kept removed n ns r'
      (inr (next, left, others, notes, gives_up, is, is_noted, rest)) =
      let same : n ≡ record { position = at; number = slot.number } = cc in
      let here : n.position ≡ at = ap (λ (m : Removal). m.position) same in
      omega (arith, here)

  -- if the first is kept
  pub kept_stands : (at x : ℕ) (xs ys : List ℕ) (noted : List Removal)
      → ((n : Removal) (ns : List Removal) → noted ≡ n ∷ ns → at + 1 ≤ n.position)
      → StandIn (at + 1) noted xs × (ys ≡ remaining (at + 1) noted xs)
      → StandIn at noted (x ∷ xs) × ((x ∷ ys) ≡ remaining at noted (x ∷ xs))
  kept_stands at x xs ys [] later h = (tt, ap (λ zs. x ∷ zs) (h.1 ∙ remaining-none (at + 1) xs))
  kept_stands at x xs ys (n ∷ ns) later h =
      let after = later n ns refl in
      let other : (n.position == at) ≡ false = ne_eqb n.position at (λ same. absurd (omega (arith, after, same))) in
      rw other (h.0, ap (λ zs. x ∷ zs) h.1)

  stands : (least idle at : ℕ) (slots : List (Slot T)) (r : R) (kept : List (Slot T)) (removed : List L)
      (noted : List Removal) (r' : R) → ReviewsFrom asks least idle at slots r kept removed noted r'
      → StandIn at noted (map number_of slots) × (map number_of kept ≡ remaining at noted (map number_of slots))
  stands least idle at [] r kept removed noted r' h = rw (h.0, h.2) (tt, refl)
  stands least idle at (slot ∷ slots) r kept removed noted r' (inl (next, others, keeps, is, rest)) =
      let later = stands least idle (at + 1) slots next others removed noted r' rest in
      rw is
      (kept_stands at slot.number (map number_of slots) (map number_of others) noted
      (λ n ns same. first_noted least idle (at + 1) slots next others removed n ns r' (rw same at rest))
      later)
  stands least idle at (slot ∷ slots) r kept removed noted r'
      (inr (next, left, others, notes, gives_up, is, is_noted, rest)) =
      let later = stands least (idle - 1) (at + 1) slots next kept others notes r' rest in
      let here : (at == at) ≡ true = eq-eqb at at refl in
      rw (is_noted, here) ((refl, later.0), later.1)

  -- no more go than `min_idle` leaves
  noted_few : (least idle at : ℕ) (slots : List (Slot T)) (r : R) (kept : List (Slot T)) (removed : List L)
      (noted : List Removal) (r' : R) → ReviewsFrom asks least idle at slots r kept removed noted r'
      → length noted ≤ idle - least
  noted_few least idle at [] r kept removed noted r' h = rw h.2 (omega arith)
  noted_few least idle at (slot ∷ slots) r kept removed noted r' (inl (next, others, keeps, is, rest)) =
      noted_few least idle (at + 1) slots next others removed noted r' rest
  noted_few least idle at (slot ∷ slots) r kept removed noted r'
      (inr (next, left, others, notes, goes, is, is_noted, rest)) =
      let later = noted_few least (idle - 1) (at + 1) slots next kept others notes r' rest in
      let more = goes.0 in
      let longer = ap length is_noted in
      omega (arith, later, more, longer)

  -- what a review gives up can be noted
  reviews_noted : (least idle at : ℕ) (slots : List (Slot T)) (r : R) (kept : List (Slot T)) (removed : List L) (r' : R)
      → Reviews asks least idle slots r kept removed r'
      → (noted : List Removal) × ReviewsFrom asks least idle at slots r kept removed noted r'
  reviews_noted least idle at [] r kept removed r' h = ([], (h.0, h.1, refl, h.2))
  reviews_noted least idle at (slot ∷ slots) r kept removed r' (inl (next, others, keeps, is, rest)) =
      let later = reviews_noted least idle (at + 1) slots next others removed r' rest in
      (later.0, inl (next, others, keeps, is, later.1))
  reviews_noted least idle at (slot ∷ slots) r kept removed r' (inr (next, left, others, gives_up, is, rest)) =
      let later = reviews_noted least (idle - 1) (at + 1) slots next kept others r' rest in (
        record { position = at; number = slot.number } ∷ later.0,
        inr (next, left, others, later.0, gives_up, is, refl, later.1),
      )

  pub retain_noted : (d d' : DeskState (Slot T)) (r r' : R) (given : Retained L) → Retains asks d r (Ok given) d' r'
      → (noted : List Removal) × RetainsNoting asks d r (Ok (given, noted)) d' r'
  retain_noted d d' r r' given h =
      let all = reviews_noted (least_idle d.limit d) (length d.idle) 0 d.idle r h.0 given.removed r' h.1 in
      (all.0, (h.0, all.1, h.2, h.3))

  pub retain_numbered : (d d' : DeskState (Slot T)) (r r' : R) (given : Retained L × List Removal)
      → RetainsNoting asks d r (Ok given) d' r'
      → IsStep (numbered d) (Entry.Retain (Ok given.1)) (numbered d')
  retain_numbered d d' r r' given h =
      let all = stands (least_idle d.limit d) (length d.idle) 0 d.idle r h.0 given.0.removed given.1 r' h.1 in
      let few = noted_few (least_idle d.limit d) (length d.idle) 0 d.idle r h.0 given.0.removed given.1 r' h.1 in (
        all.0,
        rw (length-map d.idle (number_of {T = T})) few,
        ap numbered h.3 ∙ ap (λ (i : List ℕ). record (numbered d) { idle = i }) all.1,
      )

  pub refused_retain_numbered : (d d' : DeskState (Slot T)) (r r' : R) (e : AllocError)
      → RetainsNoting asks d r (Err e) d' r' → IsStep (numbered d) (Entry.Retain (Err e)) (numbered d')
  refused_retain_numbered d d' r r' e h = (some_numbered d.idle h.0, ap numbered h.1)

  -- what a retain leaves if there is no room for its entry
  abbrev pub unnoted : Journaling T → CoreState T → Result (Retained L) AllocError → Journaling T
  unnoted j core reply = record j {
    core = core;
    log = record j.log { is_full = true };
    tally = counted_retain (size j.core.desk - size core.desk) reply j.tally;
  }

  -- If there is no room for the entry only the mark is set, and what the retain gave up could have been noted.
  pub unnoted_retain : (j : Journaling T) (core : CoreState T) (r r' : R) (reply : Result (Retained L) AllocError)
      → core_steps.Retains asks j.core r reply core r'
      → nat_lt (length j.log.entries) j.log.most ≡ false
      → NotesRetain asks j r reply (unnoted j core reply) r'
  unnoted_retain j core r r' (Ok given) h none = let all = retain_noted j.core.desk core.desk r r' given h.0 in
      (all.0, (all.1, h.1, h.2), rw none refl)
  unnoted_retain j core r r' (Err e) h none = rw none refl

  pub unnoted_kept : (j : Journaling T) (core : CoreState T) (r r' : R) (reply : Result (Retained L) AllocError)
      → JournalInvariant j → core_steps.Retains asks j.core r reply core r'
      → nat_lt (length j.log.entries) j.log.most ≡ false
      → JournalInvariant (unnoted j core reply)
  unnoted_kept j core r r' (Ok given) kept h none =
      let all = retain_noted j.core.desk core.desk r r' given h.0 in
      step_full j core (Entry.Retain (Ok all.0)) kept (retain_numbered j.core.desk core.desk r r' (given, all.0) all.1)
      (ltb-false (length j.log.entries) j.log.most none)
  unnoted_kept j core r r' (Err e) kept h none =
      step_full j core (Entry.Retain (Err e)) kept (refused_retain_numbered j.core.desk core.desk r r' e h.0)
      (ltb-false (length j.log.entries) j.log.most none)
