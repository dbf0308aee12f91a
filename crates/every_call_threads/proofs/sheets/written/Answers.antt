-- Each was told its own lines.
use Rattle.std.proofs.Common.{◌≡◌, ℕ, List, map, sum, vec_items}
use Rattle.std.specs.List.{AllZip}
use Rattle.every_call_threads.proofs.Sums.{IsAsTold, as_each_was_told, if_some_so}
use Rattle.every_call_threads.proofs.sheets.written.Goals as goal

pub returns-clause-writers : goal.returns-clause-writers
returns-clause-writers g c =
    let writers = vec_items c.args.writers in let ends = vec_items c.in_ok-outputs.outputs.0 in
    if_some_so (λ total. (told : List ℕ) → AllZip IsAsTold told ends → total ≡ sum told)
    (λ lines. lines ≡ sum (map (λ w. w.lines) writers))
    (λ total adds.
    adds (map (λ w. w.lines) writers)
    (as_each_was_told (λ w. w.lines) writers ends c.in_ok-outputs.ensures.workers))
    c.total_of.result c.total_of.ensures
