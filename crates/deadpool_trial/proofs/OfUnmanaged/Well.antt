-- Each move leads from a pool that is well to one, so the laws hold of every run.
use Rattle.deadpool_trial.proofs.OfUnmanaged.Basics.{◌≡◌, ℕ, ◌+◌, ◌-◌, ◌<◌, ◌≤◌, List, [], ◌∷◌, Bool, true, false}
use Rattle.deadpool_trial.proofs.OfUnmanaged.Basics.{length, refl, sym, ap, ◌∙◌, subst, arith, inl, inr, Option, Some}
use Rattle.deadpool_trial.proofs.OfUnmanaged.Basics.{None, slice_get, cases_Bool, eqb_tells, has_number, all_states}
use Rattle.deadpool_trial.proofs.OfUnmanaged.Basics.{Neighbours, Later, Queue, members, served, IsOnce-append}
use Rattle.deadpool_trial.proofs.OfUnmanaged.Words.{unsettled, moved, Pool, Party, bounded, new_get, queued_get}
use Rattle.deadpool_trial.proofs.OfUnmanaged.Words.{new_add, queued_add, finished, RunInvariant, OpensWell, IsNumbered}
use Rattle.deadpool_trial.proofs.OfUnmanaged.Words.{CountsOn, HasQueued, HasRoomForAll, IsListedOnce}
use Rattle.deadpool_trial.proofs.OfUnmanaged.Words.{Succeeds, EachState, EachStep}
use Rattle.deadpool_trial.proofs.OfUnmanaged.Words.{EachLater, EachMove, EndsWell}
use Rattle.deadpool_trial.proofs.OfUnmanaged.Words.{NoneReturns, copies, asks_for_object}
use Rattle.deadpool_trial.proofs.OfUnmanaged.Words.{asks_for_room, named, OthersStayInPool, OthersStayQueued}
use Rattle.deadpool_trial.proofs.OfUnmanaged.Words.{OthersStand, Move, Reply, served_within, members-served}
use Rattle.deadpool_trial.proofs.OfUnmanaged.{Lawful.opened_lawful, Lawful.moved_lawful, Lined.moves_lined}
use Rattle.deadpool_trial.proofs.OfUnmanaged.{Lined.moves_stay, PassesMoves.unsettled_passes, Runs.runs_have}
use Rattle.deadpool_trial.proofs.OfUnmanaged.{Runs.Each-more}

module _ {V : Type 0} where
  -- who asks for an object does not ask for room
  asks_once : (o : Option (Option (Party V))) → asks_for_object o ≡ true → asks_for_room o ≡ false
  asks_once None is = cc
  asks_once (Some None) is = cc
  asks_once (Some (Some (new_get wait))) is = cc
  asks_once (Some (Some (queued_get deadline))) is = refl
  asks_once (Some (Some (new_add item))) is = cc
  asks_once (Some (Some (queued_add item))) is = cc
  asks_once (Some (Some finished)) is = cc

  -- the numbers stay once if they are drawn one by one
  numbered_after : (p q : Pool V) → IsNumbered p → CountsOn p q → IsNumbered q
  numbered_after p q numbered counts = record {
    once = λ n.
        elim (eqb_tells n p.next) [
          | inl same ↦ let fresh = numbered.drawn p.next (omega arith) in
              rw same.1 (omega (arith, fresh, counts.next, counts.step))
          | inr other ↦ omega (arith, counts.others n other.0, numbered.once n)
        ];
    drawn = λ n past.
        elim (eqb_tells n p.next) [
          | inl same ↦
              let fresh = numbered.drawn p.next (omega arith) in
              let at_next : q.next ≤ p.next = rw same.1 at past in
              rw same.1 (omega (arith, fresh, counts.next, at_next))
          | inr other ↦ let gone = numbered.drawn n (omega (arith, counts.rising, past)) in
              omega (arith, counts.others n other.0, gone)
        ];
  }

  -- a queue that is served has the same members
  lined_served : (asks : Option (Option (Party V)) → Bool) (is_open : Bool) (free : ℕ) (q : Queue)
      (parties : List (Option (Party V))) → HasQueued asks q parties → HasQueued asks (served is_open free q) parties
  lined_served asks is_open free q parties lined =
      let same = members-served is_open free q in
      record { once = rw same lined.once; marks = λ n. ap (has_number n) same ∙ lined.marks n }

  -- a new pool is well
  pub opened_well : OpensWell V
  opened_well limit runtime most = record {
    lawful = opened_lawful limit runtime most;
    numbered = record { once = λ n. omega arith; drawn = λ n past. refl };
    promises = λ is some. omega arith;
    closed = λ shut. refl;
    gets = record { once = tt; marks = λ n. refl };
    adds = record { once = tt; marks = λ n. refl };
  }

  -- and so it is with a bound on those that wait, of which no law speaks
  pub bounded_well : (max_waiting : Option ℕ) (p : Pool V) → RunInvariant p → RunInvariant (bounded max_waiting p)
  bounded_well max_waiting p well =
      let nobody = well.lawful.nobody_waits in
      record {
        lawful = record {
          nobody_waits = record { objects = nobody.objects; room = nobody.room };
          room = well.lawful.room;
        };
        numbered = record { once = well.numbered.once; drawn = well.numbered.drawn };
        promises = well.promises;
        closed = well.closed;
        gets = well.gets;
        adds = well.adds;
      }

  pub moved_well : (found : Bool) (m : Move V) (p : Pool V) → RunInvariant p
      → RunInvariant (moved found m p).1 × Succeeds p (moved found m p).1
  moved_well found m p well =
      let q = (unsettled found m p).1 in
      let pass = unsettled_passes p well found m in
      let gets = moves_lined asks_for_object (named m) p.gets q.gets p.parties q.parties well.gets pass.gets in
      let adds = moves_lined asks_for_room (named m) p.adds q.adds p.parties q.parties well.adds pass.adds in
      let k = pass.counts in (
        record {
          lawful = (moved_lawful found m p well.lawful).0;
          numbered = let after = numbered_after p q well.numbered k in
              record { once = after.once; drawn = after.drawn };
          promises = λ is some. served_within q.is_open (length q.idle) q.gets (pass.promises is some);
          closed = pass.closed;
          gets = lined_served asks_for_object q.is_open _ q.gets q.parties gets.0;
          adds = lined_served asks_for_room q.is_open _ q.adds q.parties adds.0;
        },
        record {
          counts = record { rising = k.rising; next = k.next; step = k.step; others = k.others };
          queues = record {
            gets = rw (members-served q.is_open (length q.idle - length q.gets.granted) q.gets) gets.1;
            adds =
                rw (members-served q.is_open (q.limit - (length q.idle + length q.out) - length q.adds.granted) q.adds)
                adds.1;
          };
        },
      )

  -- who leaves by a move is the party or the object that it may take, and every other party is as it was
  pub moved_queued : (found : Bool) (m : Move V) (p : Pool V) → RunInvariant p
      → OthersStayQueued m p (moved found m p).1
  moved_queued found m p well =
      let q = (unsettled found m p).1 in
      let pass = unsettled_passes p well found m in
      let gets = members-served q.is_open (length q.idle - length q.gets.granted) q.gets in
      let adds = members-served q.is_open (q.limit - (length q.idle + length q.out) - length q.adds.granted) q.adds in
      record {
        gets = λ n was gone. moves_stay asks_for_object (named m) p.gets q.gets p.parties q.parties pass.gets n was
            (ap (has_number n) (sym gets) ∙ gone);
        adds = λ n was gone. moves_stay asks_for_room (named m) p.adds q.adds p.parties q.parties pass.adds n was
            (ap (has_number n) (sym adds) ∙ gone);
      }

  pub moved_parties : (found : Bool) (m : Move V) (p : Pool V) → RunInvariant p → OthersStand m p (moved found m p).1
  moved_parties found m p well = let pass = unsettled_passes p well found m in pass.parties

  pub moved_objects : (found : Bool) (m : Move V) (p : Pool V) → RunInvariant p
      → OthersStayInPool m p (moved found m p).1
  moved_objects found m p well = let pass = unsettled_passes p well found m in pass.stays

  -- what each move keeps
  pub each_move : (P : Move V → Pool V → Pool V → Type 0)
      → ((found : Bool) (m : Move V) (p : Pool V) → RunInvariant p → P m p (moved found m p).1) → EachMove P
  each_move P keeps m p passed answer well (q, (one, (found, is))) =
      let after = ap (λ (x : Reply V × Pool V). x.1) is in
      let held : P m p q = subst (λ (r : Pool V). P m p r) after (keeps found m p well) in
      rw one (held, tt)

  -- what is true of every pool that is well is true of every state of a run
  pub each_state : (P : Pool V → Type 0) → ((p : Pool V) → RunInvariant p → P p) → EachState P
  each_state P implies moves p after passed answers well ran =
      let have = runs_have RunInvariant Succeeds moved_well moves p after passed answers well ran in
      Each-more RunInvariant P implies (all_states p passed) have.0

  Neighbours-more : (P more : Pool V → Pool V → Type 0) → ((p q : Pool V) → P p q → more p q) → (ps : List (Pool V))
      → Neighbours P ps → Neighbours more ps
  Neighbours-more P more implies [] all = tt
  Neighbours-more P more implies (p ∷ []) all = tt
  Neighbours-more P more implies (p ∷ q ∷ ps) all = (implies p q all.0, Neighbours-more P more implies (q ∷ ps) all.1)

  -- what leads from one to the next, and so on, leads to each later one
  Later-of : (P : Pool V → Pool V → Type 0) → ((p q r : Pool V) → P p q → P q r → P p r) → (ps : List (Pool V))
      → Neighbours P ps → Later P ps
  Later-of P leads [] all = tt
  Later-of P leads (p ∷ []) all = (tt, tt)
  Later-of P leads (p ∷ q ∷ ps) all =
      let rest = Later-of P leads (q ∷ ps) all.1 in
      ((all.0, Each-more (P q) (P p) (λ r k. leads p q r all.0 k) ps rest.0), rest)

  Later-more : (P more : Pool V → Pool V → Type 0) → ((p q : Pool V) → P p q → more p q) → (ps : List (Pool V))
      → Later P ps → Later more ps
  Later-more P more implies [] all = tt
  Later-more P more implies (p ∷ ps) all =
      (Each-more (P p) (more p) (implies p) ps all.0, Later-more P more implies ps all.1)

  pub each_step : (P : Pool V → Pool V → Type 0) → ((p q : Pool V) → Succeeds p q → P p q) → EachStep P
  each_step P implies moves p after passed answers well ran =
      let have = runs_have RunInvariant Succeeds moved_well moves p after passed answers well ran in
      Neighbours-more Succeeds P implies (all_states p passed) have.1

  -- more numbers are drawn, and of those that were no more objects are there
  record Leaves (p q : Pool V) : Type 0 where
    next : p.next ≤ q.next
    fewer : (n : ℕ) → n < p.next → copies n q ≤ copies n p

  leaves_on : (p q r : Pool V) → Leaves p q → Leaves q r → Leaves p r
  leaves_on p q r h k = record {
    next = let first = h.next in let second = k.next in omega (arith, first, second);
    fewer = λ n drawn.
        let first = h.fewer n drawn in
        let rises = h.next in
        let second = k.fewer n (omega (arith, drawn, rises)) in
        omega (arith, first, second);
  }

  succeeds_leaves : (p q : Pool V) → Succeeds p q → Leaves p q
  succeeds_leaves p q s =
      let counts = s.counts in
      record {
        next = counts.rising;
        fewer = λ n drawn.
            elim (eqb_tells n p.next) [
              | inl same ↦ let is = same.1 in absurd (omega (arith, drawn, is))
              | inr other ↦ counts.others n other.0
            ];
      }

  -- a number that is gone stays gone from each state to each later one
  pub none_returns : EachLater (NoneReturns {V = V})
  none_returns moves p after passed answers well ran =
      let have = runs_have RunInvariant Succeeds moved_well moves p after passed answers well ran in
      let steps = Neighbours-more Succeeds Leaves succeeds_leaves (all_states p passed) have.1 in
      Later-more Leaves NoneReturns (λ q r k n drawn none. let fewer = k.fewer n drawn in omega (arith, fewer, none))
      (all_states p passed) (Later-of Leaves leaves_on (all_states p passed) steps)

  pub ends_well : EndsWell V
  ends_well moves p after passed answers well ran = let have =
      runs_have RunInvariant Succeeds moved_well moves p after passed answers well ran in have.2

  pub listed_once : (p : Pool V) → RunInvariant p → IsListedOnce p
  listed_once p well =
      IsOnce-append (members p.gets) (members p.adds) well.gets.once well.adds.once
      (λ n h.
      elim (cases_Bool (has_number n (members p.adds))) [
        | inl both ↦ absurd (let apart = asks_once (slice_get p.parties n) (sym (well.gets.marks n) ∙ h) in
            let differ : true ≡ false = sym both ∙ well.adds.marks n ∙ apart in cc)
        | inr apart ↦ apart
      ])

  pub room_for_all : (p : Pool V) → RunInvariant p → HasRoomForAll p
  room_for_all p well = let l = well.lawful in l.room
