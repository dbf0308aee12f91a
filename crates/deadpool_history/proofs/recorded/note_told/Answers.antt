-- The line is that of the one that was named.
use Rattle.std.proofs.Common.{◌++◌, [], ◌∷◌, ap, ◌∙◌}
use Rattle.deadpool_history.specs.declared.line.Line.{Line}
use Rattle.deadpool_history.proofs.recorded.note_told.Goals as goal

pub returns-in-Some : goal.returns-in-Some
returns-in-Some g c =
    let added = c.note.ensures.call.0 in
    rw (c.in-Some.is) (
    added.1.1 ∙ ap (λ (l : Line). c.args.author.now.log ++ (c.args.caller.now.number, l) ∷ []) added.1.0
    )
