-- The object of a step is known by what the step has left.
use Rattle.deadpool_unmanaged_journal.specs.declared.entry.Entry.TheVariants.{Made}
use Rattle.deadpool_unmanaged_history.proofs.Words.{refl, object_of}
use Rattle.deadpool_unmanaged_history.specs.declared.line.Line.TheVariants.{Next}
use Rattle.deadpool_unmanaged_history.proofs.recorded.note_step.Goals as goal

pub note-requires : goal.note-requires
note-requires g c =
    let e = Made c.args.step.now (object_of c.args.pool.now.core.pool c.args.reply.now c.args.hand.now)
    c.args.reply.now in
    record { says = (Next e, (e, (refl, refl))) }
