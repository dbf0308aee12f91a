-- Whoever joins is the last of the line, and one that finds no memory leaves the line as it was.
use Rattle.std.proofs.Common.{◌+◌, ◌++◌, ◌∷◌, [], Option, Some, None, ap, refl}
use Rattle.std.specs.Option.{IfNone}
use Rattle.deadpool_gate.specs.declared.gate.Entry.{Entry}
use Rattle.deadpool_gate.specs.declared.gate.Entry.TheVariants as entry
use Rattle.deadpool_gate.specs.declared.gate.Gate.TheInside.{Inside}
use Rattle.deadpool_gate.specs.Gate.{arrived, Joins}
use Rattle.deadpool_gate.specs.GateFields.{Shows, waiters_of}
use Rattle.deadpool_gate.proofs.GateFields.{Joining, KeepsLinks, GateInvariant-shows}
use Rattle.deadpool_gate.proofs.GateFields.{Shows-is, Shows-joined, Shows-kept}
use Rattle.deadpool_gate.proofs.GateFields.{Shows-seen}
use Rattle.deadpool_gate.proofs.GateLinks.{Stores-unlisted}
use Rattle.deadpool_gate.proofs.gate.Gate.enter.Goals as goal

-- what holds, holds if there is no answer at once
no_answer : (o : Option Entry) (P : Type 0) → P → IfNone o P
no_answer None P holds = holds
no_answer (Some answer) P holds = tt

-- the fields when no memory was found
abbrev refused : goal.In_default → Inside
refused c = record c.self.inside { store = c.put.new.self; accesses_before = c.accesses-self-inside.result }

shows_refused : (c : goal.In_default) → Shows (refused c) c.args.self.now.waiters
shows_refused c =
    let shows = Shows-seen _ _ c.self.view_is c.self.invariant in
    let keeps : KeepsLinks c.self.inside (refused c) = record {
      slots = c.in_default.ensures.unchanged;
      first = refl;
      last = refl;
      first_waiting = refl;
      first_unnotified = refl;
      granted = refl;
      waiting = refl;
    } in
    Shows-kept c.self.inside (refused c) c.args.self.now.waiters keeps shows.line shows

pub invariant_of-self-in_default : goal.invariant_of-self-in_default
invariant_of-self-in_default c = GateInvariant-shows (refused c) _ (shows_refused c)

pub returns-in_default-clause-joins : goal.returns-in_default-clause-joins
returns-in_default-clause-joins c = no_answer _ _ (Shows-is (refused c) _ (shows_refused c))

-- the fields with the new waiter
abbrev after : goal.After-self-4-1 → Inside
after c = record c.self.inside {
  store = c.link.new.store;
  accesses_before = c.accesses-self-inside.result;
  first = Some c.unwrap_or.result;
  last = Some c.in-Ok.key;
  first_waiting = Some c.unwrap_or-2.result;
  first_unnotified = Some c.unwrap_or-3.result;
  waiting = c.self.inside.waiting + 1;
}

shows_after : (c : goal.After-self-4-1) → Shows (after c) (c.args.self.now.waiters ++ arrived c.in-Ok.key ∷ [])
shows_after c =
    let joining : Joining c.self.inside (after c) c.put.new.self.nodes c.in-Ok.key = record {
      vacant = c.in-Ok.ensures.vacant;
      puts = c.in-Ok.ensures.updates;
      more = c.in-Ok.ensures.len;
      few = c.in-Ok.ensures.few;
      links = c.link.ensures.changes;
      same = c.link.ensures.len;
      is_closed = refl;
      first = ap Some c.unwrap_or.ensures;
      last = refl;
      first_waiting = ap Some c.unwrap_or-2.ensures;
      first_unnotified = ap Some c.unwrap_or-3.ensures;
      granted = refl;
      waiting = refl;
    } in
    Shows-joined c.self.inside (after c) c.put.new.self.nodes c.args.self.now.waiters c.in-Ok.key joining
    (Shows-seen _ _ c.self.view_is c.self.invariant)

pub invariant_of-self-2 : goal.invariant_of-self-2
invariant_of-self-2 c = GateInvariant-shows (after c) _ (shows_after c)

pub returns-clause-joins : goal.returns-clause-joins
returns-clause-joins c =
    let shows = Shows-seen _ _ c.self.view_is c.self.invariant in
    let fresh = Stores-unlisted c.self.inside.store.nodes c.args.self.now.waiters c.in-Ok.key shows.stores
    c.in-Ok.ensures.vacant in
    let joins : Joins c.args.self.now.waiters (entry.Waiting c.in-Ok.key) (waiters_of (after c)) =
    (fresh, Shows-is (after c) _ (shows_after c)) in
    no_answer _ _ joins
