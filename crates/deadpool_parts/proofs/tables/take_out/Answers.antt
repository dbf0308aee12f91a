-- The one that is taken out is the first with the number, and the table is without it then.
use Rattle.deadpool_parts.proofs.{Words.◌≡◌, Words.◌==◌, Words.Some, Words.None, Words.sym, Words.position}
use Rattle.deadpool_parts.proofs.{Places.found_at_place, Places.nothing_found, Numbered.removed_at_place}
use Rattle.deadpool_parts.proofs.{Numbered.none_there}
use Rattle.deadpool_parts.proofs.tables.take_out.Goals as goal

pub returns-in-Some-clause-item : goal.returns-in-Some-clause-item
returns-in-Some-clause-item g c =
    let number = g.T.Numbered.number_of in
    let place : position (λ x. number x == c.args.number) c.args.items.now.items ≡ Some c.in-Some.at =
    rw c.index_of.ensures at c.in-Some.is in
    sym (found_at_place (λ x. number x == c.args.number) c.args.items.now.items c.in-Some.at c.remove.result place
    c.remove.ensures.value)

pub returns-in-Some-clause-items : goal.returns-in-Some-clause-items
returns-in-Some-clause-items g c =
    let number = g.T.Numbered.number_of in
    let place : position (λ x. number x == c.args.number) c.args.items.now.items ≡ Some c.in-Some.at =
    rw c.index_of.ensures at c.in-Some.is in
    rw c.remove.ensures.items (removed_at_place number c.args.number c.args.items.now.items c.in-Some.at place)

pub returns-in-None-clause-item : goal.returns-in-None-clause-item
returns-in-None-clause-item g c =
    let number = g.T.Numbered.number_of in
    let place : position (λ x. number x == c.args.number) c.args.items.now.items ≡ None =
    rw c.index_of.ensures at c.in-None.is in
    sym (nothing_found (λ x. number x == c.args.number) c.args.items.now.items place)

pub returns-in-None-clause-items : goal.returns-in-None-clause-items
returns-in-None-clause-items g c =
    let number = g.T.Numbered.number_of in
    let place : position (λ x. number x == c.args.number) c.args.items.now.items ≡ None =
    rw c.index_of.ensures at c.in-None.is in
    sym (none_there number c.args.number c.args.items.now.items
    (nothing_found (λ x. number x == c.args.number) c.args.items.now.items place))
