-- Each turn adds what was told, and at the end all is added.
use Rattle.std.proofs.Common.{◌∷◌, sym, subst, ap, ◌∙◌, rules, arith}
use Rattle.std.specs.List.{AllZip}
use Rattle.std.specs.Vec.Iter.{into_iter_items}
use Rattle.every_call_threads.proofs.Sums.{IsAsTold, Adds, adds_more, adds_all, left_less}
use Rattle.every_call_threads.proofs.sheets.total_of.Goals as goal

pub loop-end-init : goal.loop-end-init
loop-end-init c = record {
  left = search rules;
  adds = (λ told zipped. record {
    later = told;
    as_told = subst (AllZip IsAsTold told) (sym c.into_iter-end-iterator.ensures.into_iter_gives.0) zipped;
    adds = omega arith;
  });
}

pub loop-end-preserved : goal.loop-end-preserved
loop-end-preserved c =
    let was = c.loop-end.invariant in let step = c.in-Some.ensures.steps in
    let before = into_iter_items c.loop-end.end-iterator in let after = into_iter_items c.next.new.self in
    record {
      left = left_less before after c.in-Some.end _ _ was.left step.0 step.1;
      adds = (λ told zipped.
          subst (λ total. Adds told total after) (sym c.in_ok-total.ensures.1)
          (adds_more told c.loop-end.total c.in-Ok.lines before after
          (step.0 ∙ ap (λ end. end ∷ after) c.in-Ok.is) (was.adds told zipped)));
    }

pub returns : goal.returns
returns c told zipped =
    let was = c.loop-end.invariant in
    adds_all told c.loop-end.total (into_iter_items c.loop-end.end-iterator)
    (sym was.left ∙ c.in-None.ensures.steps.0) (was.adds told zipped)
