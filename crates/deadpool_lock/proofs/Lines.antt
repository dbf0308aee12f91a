-- Those in a line, and the places for their wakers, as they come, are told and leave.
use Rattle.std.proofs.Common.{◌≡◌, ℕ, zero, suc, ◌-◌, ◌<◌, ◌≤◌, ◌==◌, ◌∙◌, Bool, true, false, Option, Some, None}
use Rattle.std.proofs.Common.{List, [], ◌∷◌, ◌++◌, length, replicate, length-append, get_or-set_same}
use Rattle.std.proofs.Common.{arith, inl, inr, is_some, refl}
use Rattle.std.proofs.lemmas.Bool.{cases_Bool, lt-ltb}
use Rattle.std.proofs.lemmas.Bool.Decides.{eqb_tells}
use Rattle.std.specs.Prelude.{◌||◌, IfSome, IfNone, IsTrue, nat_lt}
use Rattle.std.specs.Option.{option_map_or, option_or}
use Rattle.deadpool_gate.specs.Gate.{Waiter, Joins, answer_of, arrived, asked, change_first, entry_at_once}
use Rattle.deadpool_gate.specs.Gate.{find_waiter, remove_first, with_word}
use Rattle.deadpool_gate.specs.declared.gate.Ask.TheVariants as ask
use Rattle.deadpool_gate.specs.declared.gate.Entry.{Entry}
use Rattle.deadpool_gate.specs.declared.gate.Entry.TheVariants as entry
use Rattle.deadpool_lock.specs.Ends.{HavePlaces}
use Rattle.deadpool_lock.specs.Places.{left_in, taken_out, waker_at, with_room}

pub have_longer : (ws : List Waiter) (m n : ℕ) → m ≤ n → HavePlaces ws m → HavePlaces ws n
have_longer [] m n le have = tt
have_longer (w ∷ ws) m n le have = (omega (arith, have.0), have_longer ws m n le have.1)

-- room for one more takes no place away
pub have_room : {W : Type 0} (ws : List Waiter) (t : ℕ) (places : List (Option W)) → HavePlaces ws (length places)
    → HavePlaces ws (length (with_room t places))
have_room ws t places have =
    have_longer ws (length places) (length (with_room t places)) (rw (length-append) (omega arith)) have

pub have_joined : (ws : List Waiter) (t n : ℕ) → HavePlaces ws n → t < n → HavePlaces (ws ++ arrived t ∷ []) n
have_joined [] t n have lt = (lt, tt)
have_joined (w ∷ ws) t n have lt = (have.0, have_joined ws t n have.1 lt)

pub have_removed : (test : Waiter → Bool) (ws : List Waiter) (n : ℕ) → HavePlaces ws n
    → HavePlaces (remove_first test ws) n
have_removed test [] n have = tt
have_removed test (w ∷ ws) n have =
    elim (cases_Bool (test w)) [
      | inl passes ↦ rw passes have.1
      | inr fails ↦ rw fails (have.0, have_removed test ws n have.1)
    ]

pub have_told : (test : Waiter → Bool) (ws : List Waiter) (n : ℕ) → HavePlaces ws n
    → HavePlaces (change_first test with_word ws) n
have_told test [] n have = tt
have_told test (w ∷ ws) n have =
    elim (cases_Bool (test w)) [
      | inl passes ↦ rw passes (have.0, have.1)
      | inr fails ↦ rw fails (have.0, have_told test ws n have.1)
    ]

-- who asks leaves, or stays where it is
pub have_asked : (is_closed : Bool) (t : ℕ) (ws : List Waiter) (n : ℕ) → HavePlaces ws n
    → HavePlaces (asked is_closed t ws) n
have_asked is_closed t ws n have =
    elim (cases_Bool (option_map_or (λ w. w.granted || is_closed) (find_waiter t ws) false)) [
      | inl leaves ↦ rw leaves (have_removed (λ w. w.ticket == t) ws n have)
      | inr stays ↦ rw stays have
    ]

-- who wants to enter joins, where there is a place for it, or is not listed
pub have_entered : (is_closed : Bool) (ws : List Waiter) (answer : Entry) (ws' : List Waiter) (n : ℕ)
    → IfSome (entry_at_once is_closed 0 true) (λ _. ws' ≡ ws)
    → IfNone (entry_at_once is_closed 0 true) (Joins ws answer ws')
    → ((t : ℕ) → answer ≡ entry.Waiting t → t < n) → HavePlaces ws n → HavePlaces ws' n
have_entered true ws answer ws' n same joins place have = rw same have
have_entered false ws (entry.Waiting t) ws' n same joins place have =
    rw (joins.1) (have_joined ws t n have (place t refl))
have_entered false ws entry.OutOfMemory ws' n same joins place have = rw joins have
have_entered false ws entry.Closed ws' n same joins place have = absurd joins
have_entered false ws entry.Granted ws' n same joins place have = absurd joins
have_entered false ws entry.Full ws' n same joins place have = absurd joins

-- who is listed has a place
pub has_place : (t : ℕ) (ws : List Waiter) (n : ℕ) → HavePlaces ws n → is_some (find_waiter t ws) ≡ true → t < n
has_place t [] n have found = absurd (let differ : false ≡ true = found in cc)
has_place t (w ∷ ws) n have found =
    elim (eqb_tells w.ticket t) [
      | inl same ↦ rw (← same.1) have.0
      | inr other ↦ has_place t ws n have.1 (rw (other.0) at found)
    ]

-- who has joined is listed
pub listed_joined : (t : ℕ) (ws : List Waiter) → is_some (find_waiter t (ws ++ arrived t ∷ [])) ≡ true
listed_joined t [] =
    elim (eqb_tells t t) [
      | inl same ↦ rw (same.0) refl
      | inr other ↦ absurd (other.1 refl)
    ]
listed_joined t (w ∷ ws) =
    elim (eqb_tells w.ticket t) [
      | inl same ↦ rw (same.0) refl
      | inr other ↦ rw (other.0) (listed_joined t ws)
    ]

-- who is told to wait on is listed
pub listed_waiting : (c : Bool) (t : ℕ) (ws : List Waiter) → ask.Waiting ≡ answer_of c (find_waiter t ws)
    → is_some (find_waiter t (asked c t ws)) ≡ true
listed_waiting c t ws answer = by_cases (find_waiter t ws) refl
  where
    by_cases : (o : Option Waiter) → find_waiter t ws ≡ o → is_some (find_waiter t (asked c t ws)) ≡ true
    by_cases None is = absurd (let told : ask.Waiting ≡ ask.Unknown = rw is at answer in cc)
    by_cases (Some w) is =
        elim (cases_Bool c) [
          | inl closed ↦ absurd (let told : ask.Waiting ≡ ask.Closed = rw (is, closed) at answer in cc)
          | inr open' ↦
              elim (cases_Bool w.granted) [
                | inl has ↦ absurd (let told : ask.Waiting ≡ ask.Granted = rw (is, open', has) at answer in cc)
                | inr lacks ↦ rw (is, lacks, open', is) refl
              ]
        ]

-- a waker that is lent to a place stands there, and otherwise the one that was kept
left_at : {W : Type 0} (t : ℕ) (places : List (Option W)) (waker : Option W) → t < length places
    → waker_at t (left_in t waker places) ≡ option_or waker (waker_at t places)
left_at t places None lt = refl
left_at t places (Some w) lt = get_or-set_same places t (Some w) None lt

pub exchanged_at : {W : Type 0} (t : ℕ) (places places' : List (Option W)) (waker waker' : Option W) (has : Bool)
    → t < length places → has ≡ nat_lt t (length places)
    → (IsTrue has → (places' ≡ left_in t waker places) × (waker' ≡ taken_out t waker places))
    → (places' ≡ left_in t waker places) × (waker' ≡ taken_out t waker places)
    × (waker_at t places' ≡ option_or waker (waker_at t places))
exchanged_at t places places' waker waker' has lt is exchanged =
    let both = exchanged (is ∙ lt-ltb t (length places) lt) in
    (both.0, both.1, rw (both.0) (left_at t places waker lt))

-- whoever lends a waker gets what was kept in the place, and no other
pub taken_same : {W : Type 0} (t : ℕ) (waker : Option W) (places places' : List (Option W))
    → waker_at t places ≡ waker_at t places' → taken_out t waker places ≡ taken_out t waker places'
taken_same t None places places' same = refl
taken_same t (Some w) places places' same = same

-- room for more is empty
module _ {W : Type 0} where
  empty_room : (n t : ℕ) → waker_at t (replicate {A = Option W} n None) ≡ None
  empty_room zero t = refl
  empty_room (suc n) zero = refl
  empty_room (suc n) (suc t) = empty_room n t

  more_room : (n t : ℕ) (places : List (Option W)) → waker_at t (places ++ replicate n None) ≡ waker_at t places
  more_room n t [] = empty_room n t
  more_room n zero (waker ∷ places) = refl
  more_room n (suc t) (waker ∷ places) = more_room n t places

  pub waker_at-room : (t : ℕ) (places : List (Option W)) → waker_at t (with_room t places) ≡ waker_at t places
  waker_at-room t places = more_room (suc t - length places) t places
