-- The buyers are told the price that the pool's manager was given.
use Rattle.std.proofs.Common.{rules, ◌≡◌, ◌*◌, IfOk, IfSome, subst}
use Rattle.std.specs.List.{AllZip}
use Rattle.every_call_threads.proofs.built.told.Goals as goal

pub returns-clause-buyers : goal.returns-clause-buyers
returns-clause-buyers g c =
    let given : c.max_size-builder.result.manager.0.price ≡ c.args.price = search rules in
    subst
    (λ price. IfOk c.with_threads.result
    (λ told. AllZip (λ buyer known. IfSome known (λ cost. cost ≡ buyer.tickets * price))
    c.args.buyers.items told.0.items))
    given c.with_threads.ensures.workers_built
