-- Who has an object by its own steps holds it.
use Rattle.std.proofs.Common.{◌≡◌, ℕ, List, [], ◌∷◌, ◌++◌, Bool, true, false, refl, sym, ◌∙◌, inl, inr}
use Rattle.std.proofs.Common.{Option, Some, None}
use Rattle.std.specs.Prelude.{◌==◌, IsSome, if◌then◌else◌}
use Rattle.std.proofs.lemmas.Bool.{cases_Bool, eq-eqb, eqb-true, and_parts, or_right}
use Rattle.deadpool_desk.specs.declared.step.Held.TheVariants as held
use Rattle.deadpool_desk.specs.declared.step.Reply.{Reply}
use Rattle.deadpool_desk.specs.declared.step.Step.{Step}
use Rattle.deadpool_desk.specs.declared.step.Step.TheVariants.{Enter, Ask, Again, Discard, Created, Failed, Refused}
use Rattle.deadpool_desk.specs.declared.step.Step.TheVariants.{Back, Withdraw, Cancel, Take}
use Rattle.deadpool_journal.specs.declared.entry.Entry.{Entry}
use Rattle.deadpool_turns.specs.Holders.{CanPass, HandsOn, HandsOver, IsOwn, Out, Passes, Passing, Gets, Gives}
use Rattle.deadpool_turns.specs.Holders.{GivesOne, Stays, created_by, gets, given_by, has_after, holds}
use Rattle.deadpool_turns.specs.Holders.{is_done, is_held}
use Rattle.deadpool_turns.specs.Holders.{is_unknown, passing, without_held}

-- what a holder has by its own steps, it holds
abbrev pub IsBacked : ℕ → Option ℕ → Out → Type 0
IsBacked holder has out = (n : ℕ) → has ≡ Some n → holds holder n out ≡ true

pub backs_nothing : (holder : ℕ) (out : Out) → IsBacked holder None out
backs_nothing holder out n is = absurd (let none : None ≡ Some n = is in cc)

is_held-self : (c n : ℕ) → is_held c n (c, n) ≡ true
is_held-self c n = rw (eq-eqb c c refl, eq-eqb n n refl) refl

-- another one keeps its objects when an object is given away
holds-without : (a c n m : ℕ) (out : Out) → (c == a) ≡ false → holds a n out ≡ true
    → holds a n (without_held c m out) ≡ true
holds-without a c n m [] other h = h
holds-without a c n m (x ∷ xs) other h =
    elim (cases_Bool (is_held c m x)) [
      | inl gone ↦
          rw gone (elim (cases_Bool (is_held a n x)) [
            | inl here ↦
                let by_c : x.0 ≡ c = eqb-true x.0 c (and_parts (x.0 == c) (x.1 == m) gone).0 in
                let by_a : x.0 ≡ a = eqb-true x.0 a (and_parts (x.0 == a) (x.1 == n) here).0 in
                let same : (c == a) ≡ true = eq-eqb c a (sym by_c ∙ by_a) in
                absurd (let differ : true ≡ false = sym same ∙ other in cc)
            | inr later ↦ rw later at h
          ])
      | inr stays ↦
          rw stays (elim (cases_Bool (is_held a n x)) [
            | inl here ↦ rw here refl
            | inr later ↦ rw later (holds-without a c n m xs other (rw later at h))
          ])
    ]

-- what is given away is what the giver has
pub can_hand : (c : ℕ) (p : Passing) (has : Option ℕ) (out : Out) → CanPass p has → IsBacked c has out
    → (after : Out) × Passes c p out after
can_hand c (Gets n) has out can backed = ((c, n) ∷ out, refl)
can_hand c (Gives n) has out can backed = (without_held c n out, (backed n can, refl))
can_hand c GivesOne (Some n) out can backed = (without_held c n out, (n, (backed n refl, refl)))
can_hand c GivesOne None out can backed = absurd (let none : false ≡ true = can in cc)
can_hand c Stays has out can backed = (out, refl)

-- and each has as much as before of its own
own_stays : (c : ℕ) (p : Passing) (has : Option ℕ) (out out' : Out) → Passes c p out out' → IsBacked c has out
    → IsBacked c (has_after p has) out'
own_stays c (Gets m) has out out' passes backed n is =
    let same : m ≡ n = let e : Some m ≡ Some n = is in cc in
    rw (passes, same) (rw (is_held-self c n) refl)
own_stays c (Gives m) has out out' passes backed n is = absurd (let none : None ≡ Some n = is in cc)
own_stays c GivesOne has out out' passes backed n is = absurd (let none : None ≡ Some n = is in cc)
own_stays c Stays has out out' passes backed n is = rw passes (backed n is)

other_stays : (a c : ℕ) (p : Passing) (has : Option ℕ) (out out' : Out) → (c == a) ≡ false → Passes c p out out'
    → IsBacked a has out → IsBacked a has out'
other_stays a c (Gets m) has out out' other passes backed n is = rw passes (or_right _ _ (backed n is))
other_stays a c (Gives m) has out out' other passes backed n is =
    rw passes.1 (holds-without a c n m out other (backed n is))
other_stays a c GivesOne has out out' other passes backed n is =
    rw passes.1.1 (holds-without a c n passes.0 out other (backed n is))
other_stays a c Stays has out out' other passes backed n is = rw passes (backed n is)

pub stays_backed : (a c : ℕ) (p : Passing) (has : Option ℕ) (out out' : Out) → Passes c p out out'
    → IsBacked a has out → IsBacked a (if c == a then has_after p has else has) out'
stays_backed a c p has out out' passes backed =
    elim (cases_Bool (c == a)) [
      | inl own ↦
          let same : c ≡ a = eqb-true c a own in
          rw own (own_stays a p has out out' (rw same at passes) backed)
      | inr other ↦ rw other (other_stays a c p has out out' other passes backed)
    ]

-- One step more.
pub hands_on : (out mid out' : Out) (log : List (ℕ × Entry)) (c : ℕ) (e : Entry) → HandsOn out log mid
    → HandsOver c e mid out' → HandsOn out (log ++ (c, e) ∷ []) out'
hands_on out mid out' [] c e before hands = (out', (rw before at hands, refl))
hands_on out mid out' (x ∷ log) c e before hands =
    (before.0, (before.1.0, hands_on before.0 mid out' log c e before.1.1 hands))

-- whatever the reply
can_get : (object has : Option ℕ) → CanPass (gets object) has
can_get (Some n) has = tt
can_get None has = tt

can_give : (does : Bool) (has : Option ℕ) → IsSome has → CanPass (if does then GivesOne else Stays) has
can_give true has some = some
can_give false has some = tt

can_take : (fails : Bool) (has : Option ℕ) → IsSome has → CanPass (if fails then Stays else GivesOne) has
can_take true has some = tt
can_take false has some = some

can_come_back : (fails : Bool) (n : ℕ) (has : Option ℕ) → has ≡ Some n → CanPass (if fails then Stays else Gives n) has
can_come_back true n has same = tt
can_come_back false n has same = same

pub can_pass : (step : Step) (object has : Option ℕ) (reply : Reply) → IsOwn step object has
    → CanPass (passing step object reply) has
can_pass (Enter wait) object has reply own = can_get (given_by object reply) has
can_pass (Ask ticket expired) object has reply own = can_get (given_by object reply) has
can_pass (Again allowance) object has reply own = can_get (given_by object reply) has
can_pass Created object has reply own = can_get (created_by reply) has
can_pass Back (Some n) has reply own = can_come_back (is_unknown reply) n has own
can_pass Back None has reply own = tt
can_pass Take object has reply own = can_take (is_unknown reply) has own
can_pass Discard object has reply own = can_give (is_done reply) has own
can_pass Refused object has reply own = can_give (is_done reply) has own
can_pass (Cancel held.Object) object has reply own = can_give (is_done reply) has own
can_pass (Cancel held.Place) object has reply own = tt
can_pass (Cancel held.Creation) object has reply own = tt
can_pass Failed object has reply own = tt
can_pass (Withdraw ticket) object has reply own = tt
