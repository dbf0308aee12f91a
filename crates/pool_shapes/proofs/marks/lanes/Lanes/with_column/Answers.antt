-- Lanes with one more column show the whole picture, with new lanes for what is left.
use Rattle.pool_shapes.proofs.Drawn.{Words.◌≤◌, Words.length, Words.subst, Words.sym, Words.Draws, Words.Rows}
use Rattle.pool_shapes.proofs.Drawn.{GrownLanes.all_end, GrownLanes.all_drawn}
use Rattle.pool_shapes.proofs.marks.lanes.Lanes.with_column.Goals as goal

pub invariant_of-result : goal.invariant_of-result
invariant_of-result g c =
    all_end c.self.inside.columns c.self.inside.lanes.items c.extend_all.new.lanes.items c.begin_rest.new.lanes.items
    c.args.shown.now (subst (λ (v : Rows g.row.T.Denot). length v.lanes ≤ length c.args.shown.now)
    (sym c.self.view_is) c.requires.enough) c.in_ok-extend_all.ensures c.in_ok-begin_rest.ensures c.self.invariant

pub returns-clause-drawn : goal.returns-clause-drawn
returns-clause-drawn g c =
    λ frames d. all_drawn c.self.inside.columns c.self.inside.lanes.items c.extend_all.new.lanes.items
    c.begin_rest.new.lanes.items c.args.shown.now
    (subst (λ (v : Rows g.row.T.Denot). length v.lanes ≤ length c.args.shown.now)
    (sym c.self.view_is) c.requires.enough)
    c.in_ok-extend_all.ensures c.in_ok-begin_rest.ensures frames
    (subst (λ (v : Rows g.row.T.Denot). Draws frames v) (sym c.self.view_is) d)
