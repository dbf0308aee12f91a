-- How far a retain has come with the idle objects.
use Rattle.deadpool_desk.proofs.Names.{◌≡◌, ℕ, ◌+◌, ◌-◌, ◌<◌, ◌≤◌, List, [], ◌∷◌, ◌++◌, length, drop, Some, None}
use Rattle.deadpool_desk.proofs.Names.{slice_get, refl, sym, ap, inl, inr, arith, append-nil, append_assoc}
use Rattle.deadpool_desk.proofs.Names.{length-append, add-zero, length-drop, Goes, Reviews, ReviewsFrom, Retains}
use Rattle.deadpool_desk.proofs.Names.{RetainsNoting, Stays, Ok, DeskState, least_idle, Retained, Removal, Slot}
use Rattle.deadpool_desk.specs.declared.retain.Retainer.{Ghosts as RetainerOf}

-- Of all objects some are not asked about yet. Behind them stand those that were kept, and whatever comes of the former
-- completes what has come of the others.
pub record IsReviewing {T R L : Type 0} (asks : RetainerOf R T L) (least : ℕ) (all : List (Slot T)) (first : R)
    (asked : ℕ) (items : List (Slot T)) (removed : List L) (noted : List Removal) (r : R) : Type 0 where
  pub rest : List (Slot T)
  pub kept : List (Slot T)
  pub order : items ≡ rest ++ kept
  pub left : length rest + asked ≡ length all
  pub fewer : length kept ≤ asked
  pub completes : (others : List (Slot T)) (gone : List L) (notes : List Removal) (last : R)
      → ReviewsFrom asks least (length items) asked rest r others gone notes last
      → ReviewsFrom asks least (length all) 0 all first (kept ++ others) (removed ++ gone) (noted ++ notes) last

module _ {T R L : Type 0} (asks : RetainerOf R T L) (least : ℕ) (all : List (Slot T)) (first : R) where
  -- before the first question
  pub review_begins : IsReviewing asks least all first 0 all [] [] first
  review_begins = record {
    rest = all;
    kept = [];
    order = sym (append-nil all);
    left = add-zero (length all);
    fewer = omega arith;
    completes = λ others gone notes last given. given;
  }

  -- when none is left to be asked about
  ends : (asked : ℕ) (items : List (Slot T)) (removed : List L) (noted : List Removal) (r : R)
      (rest kept : List (Slot T)) → rest ≡ [] → items ≡ rest ++ kept
      → ((others : List (Slot T)) (gone : List L) (notes : List Removal) (last : R)
      → ReviewsFrom asks least (length items) asked rest r others gone notes last
      → ReviewsFrom asks least (length all) 0 all first (kept ++ others) (removed ++ gone) (noted ++ notes) last)
      → ReviewsFrom asks least (length all) 0 all first items removed noted r
  ends asked items removed noted r rest kept none order completes =
      let all_kept : items ≡ kept = rw none at order in
      let whole : ReviewsFrom asks least (length all) 0 all first (kept ++ []) (removed ++ []) (noted ++ []) r =
      completes [] [] [] r (rw none (refl, refl, refl, refl)) in
      rw all_kept (rw (append-nil kept, append-nil removed, append-nil noted) at whole)

  pub review_ends : (asked : ℕ) (items : List (Slot T)) (removed : List L) (noted : List Removal) (r : R)
      → IsReviewing asks least all first asked items removed noted r → length all ≤ asked
      → ReviewsFrom asks least (length all) 0 all first items removed noted r
  review_ends asked items removed noted r so_far done = by_cases so_far.rest refl
    where
      by_cases : (xs : List (Slot T)) → so_far.rest ≡ xs
          → ReviewsFrom asks least (length all) 0 all first items removed noted r
      by_cases [] is = ends asked items removed noted r so_far.rest so_far.kept is so_far.order so_far.completes
      by_cases (x ∷ xs) is = absurd (omega (arith, ap length is, so_far.left, done))

  -- the first of the ring is the first that is not asked about yet
  first_left : (items rest kept : List (Slot T)) (slot x : Slot T) (xs : List (Slot T)) → items ≡ rest ++ kept
      → rest ≡ x ∷ xs → slice_get items 0 ≡ Some slot → (x ≡ slot) × (drop 1 items ≡ xs ++ kept)
  first_left items rest kept slot x xs order is next =
      let front : items ≡ x ∷ (xs ++ kept) = rw is at order in
      let same : Some x ≡ Some slot = rw front at next in
      (cc, rw front refl)

  -- until then the ring is not empty
  pub review_goes_on : (asked : ℕ) (items : List (Slot T)) (removed : List L) (noted : List Removal) (r : R)
      → IsReviewing asks least all first asked items removed noted r → asked < length all → slice_get items 0 ≡ None → ⊥
  review_goes_on asked items removed noted r so_far more empty = by_cases so_far.rest refl
    where
      by_cases : (rest : List (Slot T)) → so_far.rest ≡ rest → ⊥
      by_cases [] is = absurd (omega (arith, ap length is, so_far.left, more))
      by_cases (x ∷ xs) is =
          let front : items ≡ x ∷ (xs ++ so_far.kept) = rw is at so_far.order in
          let same : Some x ≡ None = rw front at empty in
          cc

  module _ (asked : ℕ) (items : List (Slot T)) (removed : List L) (noted : List Removal) (r r' : R) (slot : Slot T)
      (so_far : IsReviewing asks least all first asked items removed noted r) (more : asked < length all)
      (next : slice_get items 0 ≡ Some slot) where
    -- the object is kept, and goes to the back, if a ring of that room has a place for it
    pub review_keeps : (room : ℕ) → length all ≤ room → Stays asks least (length items) slot r r'
        → IsReviewing asks least all first (asked + 1)
        (drop (length (drop 1 items ++ slot ∷ []) - room) (drop 1 items ++ slot ∷ [])) removed noted r'
    review_keeps room fits keeps = by_cases so_far.rest refl
      where
        by_cases : (rest : List (Slot T)) → so_far.rest ≡ rest
            → IsReviewing asks least all first (asked + 1)
            (drop (length (drop 1 items ++ slot ∷ []) - room) (drop 1 items ++ slot ∷ [])) removed noted r'
        by_cases [] is = absurd (omega (arith, ap length is, so_far.left, more))
        by_cases (x ∷ xs) is =
            let was = first_left items so_far.rest so_far.kept slot x xs so_far.order is next in
            let front : items ≡ x ∷ (xs ++ so_far.kept) = rw is at so_far.order in
            let within : length ((xs ++ so_far.kept) ++ slot ∷ []) - room ≡ 0 =
            omega (
              arith,
              length-append (xs ++ so_far.kept) (slot ∷ []),
              length-append xs so_far.kept,
              ap length is,
              so_far.left,
              so_far.fewer,
              fits,
            ) in
            let around : drop (length (drop 1 items ++ slot ∷ []) - room) (drop 1 items ++ slot ∷ [])
            ≡ (xs ++ so_far.kept) ++ slot ∷ [] = rw (was.1, within) refl in
            let as_many : length (drop (length (drop 1 items ++ slot ∷ []) - room) (drop 1 items ++ slot ∷ []))
            ≡ length items =
            omega (arith, ap length around, length-append (xs ++ so_far.kept) (slot ∷ []), ap length front) in
            let whole : (others : List (Slot T)) (gone : List L) (notes : List Removal) (last : R)
            → ReviewsFrom asks least (length items) (asked + 1) xs r' others gone notes last
            → ReviewsFrom asks least (length all) 0 all first ((so_far.kept ++ slot ∷ []) ++ others) (removed ++ gone)
            (noted ++ notes) last =
            λ others gone notes last given.
            rw append_assoc
            (so_far.completes (slot ∷ others) gone notes last
            (rw (is, was.0) (inl (r', others, keeps, refl, given)))) in
            record {
              rest = xs;
              kept = so_far.kept ++ slot ∷ [];
              order = rw (around, append_assoc) refl;
              left = omega (arith, ap length is, so_far.left);
              fewer = omega (arith, length-append so_far.kept (slot ∷ []), so_far.fewer);
              completes = λ others gone notes last given. whole others gone notes last (rw as_many at given);
            }

    -- the object is given up, and its value goes to the end of the list
    abbrev pub note : Removal
    note = record { position = asked; number = slot.number }

    pub review_gives_up : (left : L) → Goes asks least (length items) slot r left r'
        → IsReviewing asks least all first (asked + 1) (drop 1 items) (removed ++ left ∷ []) (noted ++ note ∷ []) r'
    review_gives_up left gives_up = by_cases so_far.rest refl
      where
        by_cases : (rest : List (Slot T)) → so_far.rest ≡ rest
            → IsReviewing asks least all first (asked + 1) (drop 1 items) (removed ++ left ∷ []) (noted ++ note ∷ []) r'
        by_cases [] is = absurd (omega (arith, ap length is, so_far.left, more))
        by_cases (x ∷ xs) is =
            let was = first_left items so_far.rest so_far.kept slot x xs so_far.order is next in
            let one_fewer : length (drop 1 items) ≡ length items - 1 = length-drop 1 items in
            let whole : (others : List (Slot T)) (gone : List L) (notes : List Removal) (last : R)
            → ReviewsFrom asks least (length items - 1) (asked + 1) xs r' others gone notes last
            → ReviewsFrom asks least (length all) 0 all first (so_far.kept ++ others) ((removed ++ left ∷ []) ++ gone)
            ((noted ++ note ∷ []) ++ notes) last =
            λ others gone notes last given.
            rw (append_assoc {A = L}, append_assoc {A = Removal})
            (so_far.completes others (left ∷ gone) (note ∷ notes) last
            (rw (is, was.0) (inr (r', left, gone, notes, gives_up, refl, refl, given)))) in
            record {
              rest = xs;
              kept = so_far.kept;
              order = was.1;
              left = omega (arith, ap length is, so_far.left);
              fewer = omega (arith, so_far.fewer);
              completes = λ others gone notes last given. whole others gone notes last (rw one_fewer at given);
            }

module _ {T R L : Type 0} (asks : RetainerOf R T L) where
  -- without the notes it is a review
  pub reviews_forget : (least idle at : ℕ) (slots : List (Slot T)) (r : R) (kept : List (Slot T)) (removed : List L)
      (noted : List Removal) (r' : R) → ReviewsFrom asks least idle at slots r kept removed noted r'
      → Reviews asks least idle slots r kept removed r'
  reviews_forget least idle at [] r kept removed noted r' h = (h.0, h.1, h.3)
  reviews_forget least idle at (slot ∷ slots) r kept removed noted r' (inl (next, others, stays, is, rest)) =
      inl (next, others, stays, is, reviews_forget least idle (at + 1) slots next others removed noted r' rest)
  reviews_forget least idle at (slot ∷ slots) r kept removed noted r'
      (inr (next, left, others, notes, goes, is, is_noted, rest)) =
      inr (next, left, others, goes, is, reviews_forget least (idle - 1) (at + 1) slots next kept others notes r' rest)

  -- a retain that is noted is a retain
  pub retains_forget : (d d' : DeskState (Slot T)) (r r' : R) (given : Retained L × List Removal)
      → RetainsNoting asks d r (Ok given) d' r' → Retains asks d r (Ok given.0) d' r'
  retains_forget d d' r r' given h = (
    h.0,
    reviews_forget (least_idle d.limit d) (length d.idle) 0 d.idle r h.0 given.0.removed given.1 r' h.1,
    h.2,
    h.3,
  )

  -- no more are kept than were asked about
  pub reviews_fewer : (least idle at : ℕ) (slots : List (Slot T)) (r : R) (kept : List (Slot T)) (removed : List L)
      (noted : List Removal) (r' : R) → ReviewsFrom asks least idle at slots r kept removed noted r'
      → length kept ≤ length slots
  reviews_fewer least idle at [] r kept removed noted r' h = let none = ap length h.0 in omega (arith, none)
  reviews_fewer least idle at (slot ∷ slots) r kept removed noted r' (inl (next, others, stays, is, rest)) =
      let fewer = reviews_fewer least idle (at + 1) slots next others removed noted r' rest in
      let longer = ap length is in
      omega (arith, fewer, longer)
  reviews_fewer least idle at (slot ∷ slots) r kept removed noted r'
      (inr (next, left, others, notes, goes, is, is_noted, rest)) =
      let fewer = reviews_fewer least (idle - 1) (at + 1) slots next kept others notes r' rest in
      omega (arith, fewer)
