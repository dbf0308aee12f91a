-- What a holder has by its own steps, it holds.
use Rattle.std.proofs.Common.{ℕ, List, [], ◌∷◌, Option, None}
use Rattle.std.specs.Prelude.{◌==◌, if◌then◌else◌}
use Rattle.deadpool_journal.specs.declared.entry.Entry.{Entry}
use Rattle.deadpool_journal.specs.declared.entry.Entry.TheVariants.{Made}
use Rattle.deadpool_turns.specs.Holders.{HandsOn, Out, has_after, passing, passing_by}
use Rattle.deadpool_turns.specs.Own.{EachHandsItsOwn, EachHoldsItsOwn, has_by}
use Rattle.deadpool_turns.proofs.Own.{IsBacked, backs_nothing, can_hand, can_pass, hands_on, stays_backed}

-- along the steps
backed_on : (a : ℕ) (log : List (ℕ × Entry)) (has : Option ℕ) (out out' : Out) → HandsOn out log out'
    → IsBacked a has out → IsBacked a (has_by a has log) out'
backed_on a [] has out out' hands backed = rw hands backed
backed_on a ((c, e) ∷ log) has out out' (after, (here, rest)) backed =
    backed_on a log (if c == a then has_after (passing_by e) has else has) after out' rest
    (stays_backed a c (passing_by e) has out after here backed)

pub holds_own : EachHoldsItsOwn
holds_own holder n log out hands has = backed_on holder log None [] out hands (backs_nothing holder []) n has

pub hands_own : EachHandsItsOwn
hands_own holder log out step object reply hands own =
    let has = has_by holder None log in
    let handed =
    can_hand holder (passing step object reply) has out (can_pass step object has reply own)
    (backed_on holder log None [] out hands (backs_nothing holder [])) in
    (handed.0, hands_on [] out handed.0 log holder (Made step object reply) hands handed.1)
