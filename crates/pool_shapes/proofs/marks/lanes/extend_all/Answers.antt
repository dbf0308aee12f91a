-- Each lane is extended by its part of a column.
use Rattle.pool_shapes.proofs.Drawn.Words.{rules, arith, ◌≡◌, ◌∙◌, [], sym, subst, length-set, get_or_default, lane_at}
use Rattle.pool_shapes.proofs.Drawn.Words.{Extends}
use Rattle.pool_shapes.proofs.Drawn.GrownLanes.{rest_more, done_more}
use Rattle.pool_shapes.proofs.marks.lanes.extend_all.Goals as goal

pub loop-at-preserved : goal.loop-at-preserved
loop-at-preserved g c = record {
  count = search (rules, length-set);
  rest = rest_more c.args.lanes.now.items c.loop-at.lanes.items c.loop-at.at c.extend.new.self c.loop-at.invariant.rest;
  done = done_more c.args.lanes.now.items c.loop-at.lanes.items c.args.shown.now c.loop-at.at c.extend.new.self
      c.index-shown-at.result (omega (arith, c.loop-at.invariant.count)) extended c.index-shown-at.is
      c.loop-at.invariant.done;
}
  where
    was_there : c.index_mut.result.now ≡ lane_at c.loop-at.at c.args.lanes.now.items
    was_there = c.index_mut.ensures.value ∙ sym
        (get_or_default c.loop-at.lanes.items c.loop-at.at [] c.index_mut.result.now
        (omega (arith, c.loop-at.invariant.count))) ∙ c.loop-at.invariant.rest c.loop-at.at (omega arith)

    extended : Extends (lane_at c.loop-at.at c.args.lanes.now.items) c.index-shown-at.result c.extend.new.self
    extended = subst (λ l. Extends l c.index-shown-at.result c.extend.new.self) was_there
        (record {
          columns_are = c.in_ok-extend.ensures.columns;
          first = c.in_ok-extend.ensures.first;
          next = c.in_ok-extend.ensures.next;
        })

pub returns : goal.returns
returns g c = record {
  count = c.loop-at.invariant.count;
  each = λ k x h e. c.loop-at.invariant.done k x (omega arith) e;
}
