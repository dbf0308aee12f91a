-- A review keeps, gives up and notes objects as `Reviews` says, and has memory for each.
use Rattle.deadpool_desk.proofs.Names.{◌<◌, ◌≤◌, ◌∙◌, length, sym, arith, rules}
use Rattle.deadpool_desk.proofs.Reviewing.{review_begins, review_keeps, review_gives_up, review_goes_on, review_ends}
use Rattle.deadpool_desk.proofs.review.review.Goals as goal
use Rattle.deadpool_desk.proofs.review.review.Goals.{in-Ok+in-Some-1, in-Ok+in-None-1, in-Err, else-loop-asked-test}
use Rattle.deadpool_desk.proofs.review.review.Goals.{then-loop-asked-test+in_default}

pub loop-asked-init : goal.loop-asked-init
loop-asked-init g c = record {
  can_call = search rules;
  count = search rules;
  capacity = search rules;
  fits = search rules;
  fewer = search rules;
  memory = search rules;
  few_noted = search rules;
  noted_memory = search rules;
  reviewing = rw (
    c.in_ok-removed.ensures.items,
    c.in_ok-noted.ensures.items,
  ) (review_begins g.R.Retainer c.args.least c.args.ring.now.items c.args.retainer.now);
}

pub loop-asked-preserved : goal.loop-asked-preserved
loop-asked-preserved g c =
    let before = c.loop-asked.invariant in
    let all = c.args.ring.now.items in
    let asked = c.loop-asked.asked in
    let items = c.loop-asked.ring.items in
    let removed = c.loop-asked.removed.items in
    let noted = c.loop-asked.noted.items in
    let next = sym c.pop_front.ensures.value ∙ c.in-Some.is in
    let more : asked < length all = omega (arith, c.loop-asked-test.true, before.count) in
    let idle = c.len-idle.ensures.len in
    let fits : length all ≤ c.loop-asked.ring.capacity = omega (arith, before.fits, before.capacity) in
    let kept =
    λ (keeps : _). review_keeps g.R.Retainer c.args.least all c.args.retainer.now asked items removed noted
    c.loop-asked.retainer c.ask_about.new.retainer c.in-Some.slot before.reviewing more next
    c.loop-asked.ring.capacity fits keeps in
    let given_up =
    λ (left : _) (gives_up : _). review_gives_up g.R.Retainer c.args.least all c.args.retainer.now asked items removed
    noted c.loop-asked.retainer c.ask_about.new.retainer c.in-Some.slot before.reviewing more next left gives_up in
    elim c.match-ask_about.branch [
      | in-Ok+in-Some-1 w ↦
          let answer = w.in-Ok.ensures.answer in
          rw (
            w.ring-is,
            w.push_back.ensures.items,
            c.pop_front.ensures.items,
            answer.0,
            w.removed-is,
            w.noted-is,
          ) record {
            can_call = c.ask_about.ensures.can_call;
            count = before.count;
            capacity = before.capacity;
            fits = before.fits;
            fewer = omega (arith, before.fewer);
            memory = before.memory;
            few_noted = omega (arith, before.few_noted);
            noted_memory = before.noted_memory;
            reviewing = kept (rw idle at answer.1);
          }
      | in-Ok+in-None-1 w ↦
          let answer = w.in-Ok.ensures.answer in
          rw (
            w.ring-is,
            w.push_back.ensures.items,
            c.pop_front.ensures.items,
            answer.0,
            w.removed-is,
            w.noted-is,
          ) record {
            can_call = c.ask_about.ensures.can_call;
            count = before.count;
            capacity = before.capacity;
            fits = before.fits;
            fewer = omega (arith, before.fewer);
            memory = before.memory;
            few_noted = omega (arith, before.few_noted);
            noted_memory = before.noted_memory;
            reviewing = kept (rw idle at answer.1);
          }
      | in-Err w ↦
          let one = w.append.ensures in
          let two = w.append-in-Err.ensures in
          rw (w.ring-is, c.pop_front.ensures.items, w.removed-is, w.noted-is, one.items, two.items) record {
            can_call = c.ask_about.ensures.can_call;
            count = before.count;
            capacity = before.capacity;
            fits = before.fits;
            fewer = omega (arith, before.fewer, one.len);
            memory = omega (arith, before.memory, one.capacity);
            few_noted = omega (arith, before.few_noted, two.len);
            noted_memory = omega (arith, before.noted_memory, two.capacity);
            reviewing = given_up w.in-Err.left (rw idle at w.in-Err.ensures.answer);
          }
    ]

pub returns-clause-reviewed : goal.returns-clause-reviewed
returns-clause-reviewed g c =
    let before = c.loop-asked.invariant in
    let all = c.args.ring.now.items in
    let asked = c.loop-asked.asked in
    elim c.loop-asked-test.branch [
      | else-loop-asked-test w ↦
          let all_asked : length all ≤ asked = omega (arith, before.count, w.loop-asked-test.false) in
          rw w.ring-is
          (review_ends g.R.Retainer c.args.least all c.args.retainer.now asked c.loop-asked.ring.items
          c.loop-asked.removed.items c.loop-asked.noted.items c.loop-asked.retainer before.reviewing all_asked)
      | then-loop-asked-test+in_default w ↦
          let more : asked < length all = omega (arith, before.count, w.loop-asked-test.true) in
          let empty = sym w.pop_front.ensures.value ∙ w.in_default.is in
          absurd (review_goes_on g.R.Retainer c.args.least all c.args.retainer.now asked c.loop-asked.ring.items
          c.loop-asked.removed.items c.loop-asked.noted.items c.loop-asked.retainer before.reviewing more empty)
    ]
