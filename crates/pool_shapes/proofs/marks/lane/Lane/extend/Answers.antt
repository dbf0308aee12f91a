-- A lane with one more column shows what it showed, and this in the new column.
use Rattle.pool_shapes.proofs.Drawn.{Words.arith, Words.rules, Words.◌+◌, Words.◌∙◌}
use Rattle.pool_shapes.proofs.Drawn.{Words.ap, Words.sym, LaidMarks.next_of}
use Rattle.pool_shapes.proofs.Drawn.{LaidMarks.wide_laid, LaidMarks.wide_columns}
use Rattle.pool_shapes.proofs.Drawn.{LaidMarks.wide_first, LaidMarks.more_columns}
use Rattle.pool_shapes.proofs.Drawn.{LaidMarks.more_laid, LaidMarks.next_last, LaidMarks.next_mark}
use Rattle.pool_shapes.proofs.marks.lane.Lane.extend.Goals as goal

pub overflow_add-self : goal.overflow_add-self
overflow_add-self g c =
    omega (arith, next_of c.self.inside.earlier.items c.self.inside.last _ c.self.view_is, c.requires)

pub invariant_of-self : goal.invariant_of-self
invariant_of-self g c = wide_laid c.self.inside.earlier.items c.self.inside.last c.self.invariant

pub returns-then-is_same-clause-columns : goal.returns-then-is_same-clause-columns
returns-then-is_same-clause-columns g c =
    wide_columns c.self.inside.earlier.items c.self.inside.last _ _ c.self.view_is c.self.invariant
    (search (rules, c.if-is_same.true, c.is_same.ensures))

pub returns-then-is_same-clause-first : goal.returns-then-is_same-clause-first
returns-then-is_same-clause-first g c = wide_first c.self.inside.earlier.items c.self.inside.last _ c.self.view_is

pub returns-then-is_same-clause-next : goal.returns-then-is_same-clause-next
returns-then-is_same-clause-next g c =
    next_last c.self.inside.earlier.items (record c.self.inside.last { to = c.self.inside.last.to + 1 })
    ∙ ap (λ n. n + 1) (sym (next_of c.self.inside.earlier.items c.self.inside.last _ c.self.view_is))

pub overflow_add-self-2 : goal.overflow_add-self-2
overflow_add-self-2 g c =
    omega (arith, next_of c.self.inside.earlier.items c.self.inside.last _ c.self.view_is, c.requires)

pub invariant_of-self-2 : goal.invariant_of-self-2
invariant_of-self-2 g c =
    more_laid c.self.inside.earlier.items c.self.inside.last c.push.new.self.items c.args.shows
    c.in_ok-push.ensures.items
    c.self.invariant

pub returns-clause-columns : goal.returns-clause-columns
returns-clause-columns g c =
    more_columns c.self.inside.earlier.items c.self.inside.last c.push.new.self.items _ c.args.shows
    c.in_ok-push.ensures.items c.self.view_is

pub returns-clause-next : goal.returns-clause-next
returns-clause-next g c = next_last c.push.new.self.items (next_mark c.self.inside.last c.args.shows)
    ∙ ap (λ n. n + 1) (sym (next_of c.self.inside.earlier.items c.self.inside.last _ c.self.view_is))
