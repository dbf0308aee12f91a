-- Settling grants what is free to the front of the queue, so nobody waits in an open pool while a place is free.
use Rattle.deadpool_desk.proofs.Names.{◌≡◌, ◌-◌, ap, length, arith, granted_tickets, waiting_tickets, held_at}
use Rattle.deadpool_desk.proofs.Names.{grants_at, length-drop}
use Rattle.deadpool_desk.proofs.state.places.Places.settle.Goals as goal

pub returns : goal.returns
returns c =
    let line = c.args.gate.now in
    let p = c.args.self.now in
    let settle = c.settle_within.ensures in
    let free : p.limit - c.held.result - length (granted_tickets line.waiters) ≡ p.limit - held_at line p =
    omega (arith, c.held.ensures) in
    let queue = rw free at settle.queue in
    record {
      granted = ap (λ q. q.granted) queue;
      waiting = ap (λ q. q.waiting) queue;
      fewer = rw (ap (λ q. q.waiting) queue)
          (omega (arith, length-drop (grants_at line p) (waiting_tickets line.waiters)));
      queue = settle.members;
      unnotified = settle.unnotified;
      closed = settle.closed;
      room = settle.capacity;
      held = omega (arith, settle.within, free);
      nobody_waits = λ is_open some. settle.nobody_waits is_open (omega (arith, c.held.ensures, some));
    }
