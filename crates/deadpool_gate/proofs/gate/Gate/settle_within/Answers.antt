-- Of an open gate that was settled within a total nobody waits while a place is free.
use Rattle.std.proofs.Common.{◌≡◌, ◌-◌, ap, length, arith, not, sym, ◌∙◌}
use Rattle.deadpool_gate.specs.Gate.{waiting_tickets}
use Rattle.deadpool_gate.specs.Served.{queue_of}
use Rattle.deadpool_gate.proofs.GateTickets.{waiting_count-length}
use Rattle.deadpool_gate.proofs.Queues.{nobody_waits-served}
use Rattle.deadpool_gate.proofs.Served.{queue-served, queue-quiet, empty}
use Rattle.deadpool_gate.proofs.gate.Gate.settle_within.Goals as goal

pub returns-then-waiting-gt0-clause-queue : goal.returns-then-waiting-gt0-clause-queue
returns-then-waiting-gt0-clause-queue c =
    let was = c.args.self.now in
    rw (← c.room_within-room.ensures)
    (queue-served was.is_closed c.room_within-room.result c.settle.result was.waiters c.settle.new.self.waiters
    c.settle.ensures.count c.settle.ensures.places c.settle.ensures.left)

pub returns-then-waiting-gt0-clause-nobody_waits : goal.returns-then-waiting-gt0-clause-nobody_waits
returns-then-waiting-gt0-clause-nobody_waits c =
    let was = c.args.self.now in
    let held = c.args.total - c.args.held in
    λ is some. nobody_waits-served (not was.is_closed) held (queue_of was.waiters) (queue_of c.settle.new.self.waiters)
    (returns-then-waiting-gt0-clause-queue c) (ap not (sym c.settle.ensures.closed) ∙ is) some

pub returns-then-waiting-gt0-clause-quiet : goal.returns-then-waiting-gt0-clause-quiet
returns-then-waiting-gt0-clause-quiet c =
    λ none. absurd (let nobody : length (waiting_tickets c.args.self.now.waiters) ≡ 0 = ap length none in
    omega (arith, nobody, waiting_count-length c.args.self.now.waiters, c.waiting.ensures.count, c.if-waiting-gt0.true))

pub returns-else-waiting-gt0-clause-queue : goal.returns-else-waiting-gt0-clause-queue
returns-else-waiting-gt0-clause-queue c =
    let was = c.args.self.now in
    let none : length (waiting_tickets was.waiters) ≡ 0 =
    omega (arith, waiting_count-length was.waiters, c.waiting.ensures.count, c.if-waiting-gt0.false) in
    queue-quiet was.is_closed _ was.waiters none

pub returns-else-waiting-gt0-clause-nobody_waits : goal.returns-else-waiting-gt0-clause-nobody_waits
returns-else-waiting-gt0-clause-nobody_waits c =
    let line = c.args.self.now.waiters in
    λ is some. empty (waiting_tickets line)
    (omega (arith, waiting_count-length line, c.waiting.ensures.count, c.if-waiting-gt0.false))
