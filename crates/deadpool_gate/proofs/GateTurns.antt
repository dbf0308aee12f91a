-- A waiter that a pointer names, the earliest that waits or that was not told, is changed in its place.
use Rattle.std.proofs.Common.{◌≡◌, ◌≢◌, ℕ, ◌+◌, ◌-◌, ◌^◌, ◌<◌, ◌≤◌, Bool, true, false, not, ◌||◌, List, [], ◌∷◌, ◌++◌}
use Rattle.std.proofs.Common.{Option, Some, None, refl, sym, ap, ◌∙◌, inl, inr, arith}
use Rattle.std.specs.List.{find, count_by}
use Rattle.std.specs.Option.{option_map}
use Rattle.std.proofs.lemmas.Bool.{cases_Bool, not-true, not-false, and_parts, or_left, or_right}
use Rattle.std.proofs.lemmas.List.{length-append}
use Rattle.slab.specs.Slab.{get, slab_len, Updates}
use Rattle.deadpool_gate.specs.declared.gate.store.Node.{Node}
use Rattle.deadpool_gate.specs.declared.gate.store.Change.TheVariants as change
use Rattle.deadpool_gate.specs.declared.gate.Gate.TheInside.{Inside}
use Rattle.deadpool_gate.specs.Gate.{Waiter, find_waiter, with_place, with_word, grant_next, is_due, tell_next}
use Rattle.deadpool_gate.specs.Gate.{due_ticket, IsApart, NonePass, IsFront, ToldAreDone, IsLine}
use Rattle.deadpool_gate.specs.GateLinks.{node_between, first_ticket, last_ticket, first_failing}
use Rattle.deadpool_gate.specs.GateNodes.{changed}
use Rattle.deadpool_gate.specs.GateFields.{Shows}
use Rattle.deadpool_gate.proofs.Counts.{one_if}
use Rattle.deadpool_gate.proofs.GateListed.{FoundBetween, found_between, find_none-head, find_none-tail, find-behind}
use Rattle.deadpool_gate.proofs.GateListed.{change_first-between, change_first_none, find_none-stronger}
use Rattle.deadpool_gate.proofs.GateListed.{none_pass-behind}
use Rattle.deadpool_gate.proofs.GateApart.{find_waiter-between}
use Rattle.deadpool_gate.proofs.GateLine.{IsLine-grant_next, IsLine-tell_next, has_place, none_due-open}
use Rattle.deadpool_gate.proofs.GateLinks.{Stores-node, Stores-replaced}
use Rattle.deadpool_gate.proofs.GateTickets.{granted_count-length, waiting_count-length, length-both_tickets}
use Rattle.deadpool_gate.proofs.GateFields.{count_by-between, first_failing-passed, first_failing-replaced}
use Rattle.deadpool_gate.proofs.GateFields.{first_failing_none, first_ticket-replaced, last_ticket-replaced}
use Rattle.deadpool_gate.proofs.GateFields.{node-between}

-- a waiter that a pointer to the earliest that fails names

pub record FailsFirst (p : Waiter → Bool) (ws : List Waiter) (key : ℕ) : Type 0 where
  pub waiter : Waiter
  pub between : FoundBetween (λ v. not (p v)) ws waiter
  pub ticket : waiter.ticket ≡ key
  pub fails : p waiter ≡ false

fails_first : (p : Waiter → Bool) (ws : List Waiter) (key : ℕ) → first_failing p ws ≡ Some key → FailsFirst p ws key
fails_first p ws key first = by_cases (find (λ v. not (p v)) ws) refl
  where
    by_cases : (o : Option Waiter) → find (λ v. not (p v)) ws ≡ o → FailsFirst p ws key
    by_cases None is = absurd (let there : None ≡ Some key = rw is at first in cc)
    by_cases (Some w) is =
        let there : Some w.ticket ≡ Some key = rw is at first in
        let between = found_between (λ v. not (p v)) ws w is in
        record { waiter = w; between = between; ticket = cc; fails = not-true (p w) between.passes }

-- the earliest that fails has a node
fails_first-node : (g : Inside) (p : Waiter → Bool) (ws : List Waiter) (key : ℕ) → Shows g ws
    → first_failing p ws ≡ Some key → get g.store.nodes key ≢ None
fails_first-node g p ws key shows first none =
    let at : FailsFirst p ws key = fails_first p ws key first in
    let between : Shows g (at.between.front ++ at.waiter ∷ at.between.back) = rw at.between.is at shows in
    let node = Stores-node g.store.nodes at.between.front at.waiter at.between.back between.stores in
    let there : get g.store.nodes key
    ≡ Some (node_between (last_ticket at.between.front None) (first_ticket at.between.back None) at.waiter) =
    rw at.ticket at node in
    cc

pub Shows-first_waiting : (g : Inside) (ws : List Waiter) (key : ℕ) → Shows g ws → g.first_waiting ≡ Some key
    → get g.store.nodes key ≢ None
Shows-first_waiting g ws key shows first =
    fails_first-node g (λ v. v.granted) ws key shows (sym shows.first_waiting ∙ first)

pub Shows-first_unnotified : (g : Inside) (ws : List Waiter) (key : ℕ) → Shows g ws → g.first_unnotified ≡ Some key
    → get g.store.nodes key ≢ None
Shows-first_unnotified g ws key shows first = fails_first-node g (λ v. v.told) ws key shows
    (sym shows.first_unnotified ∙ first)

-- a waiter is changed in its place: its node is, and nothing else of the links

pub record Changing (g h : Inside) (change : Node → Node) (key : ℕ) : Type 0 where
  pub updates : Updates g.store.nodes h.store.nodes key (option_map change (get g.store.nodes key))
  pub same : slab_len h.store.nodes ≡ slab_len g.store.nodes
  pub is_closed : h.is_closed ≡ g.is_closed
  pub first : h.first ≡ g.first
  pub last : h.last ≡ g.last

-- the fields that a place, or a word, changes besides
pub record Granting (g h : Inside) (behind : Option ℕ) : Type 0 where
  pub first_waiting : h.first_waiting ≡ behind
  pub first_unnotified : h.first_unnotified ≡ g.first_unnotified
  pub granted : h.granted ≡ g.granted + 1
  pub waiting : h.waiting ≡ g.waiting - 1

pub record Telling (g h : Inside) (behind : Option ℕ) : Type 0 where
  pub first_waiting : h.first_waiting ≡ g.first_waiting
  pub first_unnotified : h.first_unnotified ≡ behind
  pub granted : h.granted ≡ g.granted
  pub waiting : h.waiting ≡ g.waiting

module _ (g h : Inside) (xs : List Waiter) (w : Waiter) (ys : List Waiter) where
  Shows-granted-between : Changing g h (changed change.Granted) w.ticket → Granting g h (first_ticket ys None)
      → find (λ v. not v.granted) xs ≡ None → w.granted ≡ false → IsLine h.is_closed (xs ++ with_place w ∷ ys)
      → Shows g (xs ++ w ∷ ys) → Shows h (xs ++ with_place w ∷ ys)
  Shows-granted-between changing granting before fails line shows =
      let was : one_if w.granted ≡ 0 = rw fails refl in
      let was-2 : one_if (not w.granted) ≡ 1 = rw fails refl in
      record {
        stores = Stores-replaced g.store.nodes h.store.nodes (changed change.Granted) xs w (with_place w) ys refl
            (λ _ _. refl) shows.line.apart shows.stores changing.updates changing.same;
        few = omega (arith, shows.few, length-append xs (w ∷ ys), length-append xs (with_place w ∷ ys));
        line = line;
        first = changing.first ∙ shows.first ∙ sym (first_ticket-replaced xs w (with_place w) ys refl);
        last = changing.last ∙ shows.last ∙ sym (last_ticket-replaced xs w (with_place w) ys refl);
        first_waiting =
            granting.first_waiting ∙ sym
            (first_failing-passed (λ v. v.granted) xs (with_place w) ys before refl
            (none_pass-behind (λ v. v.granted) xs w ys fails shows.line.granted_front));
        first_unnotified = granting.first_unnotified ∙ shows.first_unnotified
            ∙ sym (first_failing-replaced (λ v. v.told) xs w (with_place w) ys refl refl);
        granted = omega (
          arith,
          granting.granted,
          shows.granted,
          was,
          count_by-between (λ v. v.granted) xs w ys,
          count_by-between (λ v. v.granted) xs (with_place w) ys,
        );
        waiting = omega (
          arith,
          granting.waiting,
          shows.waiting,
          was-2,
          count_by-between (λ v. not v.granted) xs w ys,
          count_by-between (λ v. not v.granted) xs (with_place w) ys,
        );
      }

  Shows-told-between : Changing g h (changed change.Told) w.ticket → Telling g h (first_ticket ys None)
      → find (λ v. not v.told) xs ≡ None → w.told ≡ false → IsLine h.is_closed (xs ++ with_word w ∷ ys)
      → Shows g (xs ++ w ∷ ys) → Shows h (xs ++ with_word w ∷ ys)
  Shows-told-between changing telling before fails line shows =
      record {
        stores = Stores-replaced g.store.nodes h.store.nodes (changed change.Told) xs w (with_word w) ys refl
            (λ _ _. refl) shows.line.apart shows.stores changing.updates changing.same;
        few = omega (arith, shows.few, length-append xs (w ∷ ys), length-append xs (with_word w ∷ ys));
        line = line;
        first = changing.first ∙ shows.first ∙ sym (first_ticket-replaced xs w (with_word w) ys refl);
        last = changing.last ∙ shows.last ∙ sym (last_ticket-replaced xs w (with_word w) ys refl);
        first_waiting = telling.first_waiting ∙ shows.first_waiting
            ∙ sym (first_failing-replaced (λ v. v.granted) xs w (with_word w) ys refl refl);
        first_unnotified =
            telling.first_unnotified ∙ sym
            (first_failing-passed (λ v. v.told) xs (with_word w) ys before refl
            (none_pass-behind (λ v. v.told) xs w ys fails shows.line.told_front));
        granted = omega (
          arith,
          telling.granted,
          shows.granted,
          count_by-between (λ v. v.granted) xs w ys,
          count_by-between (λ v. v.granted) xs (with_word w) ys,
        );
        waiting = omega (
          arith,
          telling.waiting,
          shows.waiting,
          count_by-between (λ v. not v.granted) xs w ys,
          count_by-between (λ v. not v.granted) xs (with_word w) ys,
        );
      }

-- the earliest that waits gets a place

pub Shows-granted : (g h : Inside) (ws : List Waiter) (key : ℕ) (node : Node) → g.first_waiting ≡ Some key
    → Some node ≡ get g.store.nodes key → Changing g h (changed change.Granted) key → Granting g h node.next
    → Shows g ws
    → Shows h (grant_next ws)
Shows-granted g h ws key node first found changing granting shows =
    let at : FailsFirst (λ v. v.granted) ws key =
    fails_first (λ v. v.granted) ws key (sym shows.first_waiting ∙ first) in
    let xs = at.between.front in
    let w = at.waiter in
    let ys = at.between.back in
    let between : Shows g (xs ++ w ∷ ys) = rw at.between.is at shows in
    let node_is : node ≡ node_between (last_ticket xs None) (first_ticket ys None) w =
    node-between g xs w ys node between (rw at.ticket found) in
    let grants : Granting g h (first_ticket ys None) = rw node_is at granting in
    let after : grant_next ws ≡ xs ++ with_place w ∷ ys =
    ap grant_next at.between.is ∙ change_first-between
    (λ v. not v.granted) with_place xs w ys at.between.before at.between.passes in
    let line : IsLine h.is_closed (xs ++ with_place w ∷ ys) =
    rw (changing.is_closed, ← after) (IsLine-grant_next g.is_closed ws shows.line) in
    rw after (Shows-granted-between g h xs w ys (rw at.ticket changing) grants at.between.before at.fails line between)

pub Shows-none_waiting : (g : Inside) (ws : List Waiter) → Shows g ws → g.first_waiting ≡ None → grant_next ws ≡ ws
Shows-none_waiting g ws shows first =
    change_first_none (λ v. not v.granted) with_place ws
    (first_failing_none (λ v. v.granted) ws (sym shows.first_waiting ∙ first))

-- if one waits the count of those is not 0, and one more can be granted
pub record OneWaits (g : Inside) : Type 0 where
  pub waits : 1 ≤ g.waiting
  pub room : g.granted + 1 < 2 ^ 64

pub Shows-one_waits : (g : Inside) (ws : List Waiter) (key : ℕ) → Shows g ws → g.first_waiting ≡ Some key → OneWaits g
Shows-one_waits g ws key shows first =
    let at : FailsFirst (λ v. v.granted) ws key =
    fails_first (λ v. v.granted) ws key (sym shows.first_waiting ∙ first) in
    let one : one_if (not at.waiter.granted) ≡ 1 = rw at.fails refl in
    let waits : 1 ≤ g.waiting =
    omega (
      arith,
      one,
      shows.waiting,
      ap (count_by (λ (v : Waiter). not v.granted)) at.between.is,
      count_by-between (λ v. not v.granted) at.between.front at.waiter at.between.back,
    ) in
    record {
      waits = waits;
      room = omega (
        arith,
        waits,
        shows.granted,
        shows.waiting,
        shows.few,
        granted_count-length ws,
        waiting_count-length ws,
        length-both_tickets ws,
      );
    }

-- who is due

none_due : (is_closed : Bool) (ws : List Waiter) → find (λ v. not v.told) ws ≡ None → find (is_due is_closed) ws ≡ None
none_due c ws told =
    find_none-stronger (is_due c) (λ v. not v.told) (λ v due. (and_parts (v.granted || c) (not v.told) due).1) ws told

-- nobody is, if all were told
pub Shows-all_told : (g : Inside) (ws : List Waiter) → Shows g ws → g.first_unnotified ≡ None
    → find (is_due g.is_closed) ws ≡ None
Shows-all_told g ws shows first =
    none_due g.is_closed ws (first_failing_none (λ v. v.told) ws (sym shows.first_unnotified ∙ first))

-- nor is anybody in an open gate, if the earliest that was not told has no place
pub Shows-none_due : (g : Inside) (ws : List Waiter) (key : ℕ) → Shows g ws → g.is_closed ≡ false
    → g.first_unnotified ≡ Some key → g.first_waiting ≡ Some key → find (is_due g.is_closed) ws ≡ None
Shows-none_due g ws key shows is_open unnotified waiting =
    let at : FailsFirst (λ v. v.told) ws key = fails_first (λ v. v.told) ws key
    (sym shows.first_unnotified ∙ unnotified) in
    let other : FailsFirst (λ v. v.granted) ws key =
    fails_first (λ v. v.granted) ws key (sym shows.first_waiting ∙ waiting) in
    let xs = at.between.front in
    let w = at.waiter in
    let ys = at.between.back in
    let same : w ≡ other.waiter =
    one_each w other.waiter (found w at.ticket xs ys at.between.is)
    (found other.waiter other.ticket other.between.front other.between.back other.between.is) in
    let lacks : w.granted ≡ false = rw same other.fails in
    let front : IsFront (λ v. v.granted) (xs ++ w ∷ ys) = rw at.between.is at shows.line.granted_front in
    let none : NonePass (λ v. v.granted) (w ∷ ys) = (lacks, none_pass-behind (λ v. v.granted) xs w ys lacks front) in
    rw at.between.is (find-behind (is_due g.is_closed) xs (w ∷ ys) (none_due g.is_closed xs at.between.before)
    ∙ none_due-open g.is_closed (w ∷ ys) is_open none)
  where
    found : (v : Waiter) → v.ticket ≡ key → (xs ys : List Waiter) → ws ≡ xs ++ v ∷ ys → find_waiter key ws ≡ Some v
    found v ticket xs ys is =
        let parts : IsApart (xs ++ v ∷ ys) = rw is at shows.line.apart in
        rw (is, ← ticket) (find_waiter-between xs v ys parts)

    one_each : (v w : Waiter) → find_waiter key ws ≡ Some v → find_waiter key ws ≡ Some w → v ≡ w
    one_each v w found-v found-w = cc

-- else the earliest that was not told is due
first_due : (g : Inside) (xs : List Waiter) (w : Waiter) (ys : List Waiter) → Shows g (xs ++ w ∷ ys)
    → find (λ v. not v.told) xs ≡ None → (g.is_closed ≡ false → g.first_waiting ≢ Some w.ticket)
    → (w.granted || g.is_closed) ≡ true
first_due g xs w ys shows told differs =
    elim (cases_Bool g.is_closed) [
      | inl closed ↦ or_right w.granted g.is_closed closed
      | inr is_open ↦
          elim (cases_Bool w.granted) [
            | inl has ↦ or_left w.granted g.is_closed has
            | inr lacks ↦
                let done : ToldAreDone false (xs ++ w ∷ ys) = rw is_open at shows.line.told_done in
                let first : first_failing (λ v. v.granted) (xs ++ w ∷ ys) ≡ Some w.ticket =
                ap (option_map (λ (v : Waiter). v.ticket))
                (find-behind (λ v. not v.granted) xs (w ∷ ys) (told_granted xs done told)) ∙ rw lacks refl in
                absurd (differs is_open (shows.first_waiting ∙ first))
          ]
    ]
  where
    told_granted : (vs : List Waiter) → ToldAreDone false (vs ++ w ∷ ys) → find (λ v. not v.told) vs ≡ None
        → find (λ v. not v.granted) vs ≡ None
    told_granted [] done told = refl
    told_granted (v ∷ vs) done told =
        let here = has_place v.granted (done.0 (not-false v.told (find_none-head (λ v. not v.told) v vs told))) in
        rw here (told_granted vs done.1 (find_none-tail (λ v. not v.told) v vs told))

-- so its ticket is the one that the pointer names
pub Shows-due : (g : Inside) (ws : List Waiter) (key : ℕ) → g.first_unnotified ≡ Some key
    → (g.is_closed ≡ false → g.first_waiting ≢ Some key) → Shows g ws → due_ticket g.is_closed ws ≡ Some key
Shows-due g ws key first differs shows =
    let at : FailsFirst (λ v. v.told) ws key = fails_first (λ v. v.told) ws key (sym shows.first_unnotified ∙ first) in
    let xs = at.between.front in
    let w = at.waiter in
    let ys = at.between.back in
    let c = g.is_closed in
    let between : Shows g (xs ++ w ∷ ys) = rw at.between.is at shows in
    let elsewhere : g.is_closed ≡ false → g.first_waiting ≢ Some w.ticket = rw at.ticket differs in
    let due : is_due c w ≡ true = rw (first_due g xs w ys between at.between.before elsewhere, at.fails) refl in
    let next : find (is_due c) ws ≡ Some w =
    ap (find (is_due c)) at.between.is ∙ find-behind (is_due c) xs (w ∷ ys) (none_due c xs at.between.before)
    ∙ rw due refl in
    ap (option_map (λ (v : Waiter). v.ticket)) next ∙ ap Some at.ticket

pub record TellsNext (g h : Inside) (ws : List Waiter) (key : ℕ) : Type 0 where
  pub shows : Shows h (tell_next g.is_closed ws)
  pub ticket : due_ticket g.is_closed ws ≡ Some key

pub Shows-told : (g h : Inside) (ws : List Waiter) (key : ℕ) (node : Node) → g.first_unnotified ≡ Some key
    → (g.is_closed ≡ false → g.first_waiting ≢ Some key) → Some node ≡ get g.store.nodes key
    → Changing g h (changed change.Told) key → Telling g h node.next → Shows g ws → TellsNext g h ws key
Shows-told g h ws key node first differs found changing telling shows =
    let at : FailsFirst (λ v. v.told) ws key = fails_first (λ v. v.told) ws key (sym shows.first_unnotified ∙ first) in
    let xs = at.between.front in
    let w = at.waiter in
    let ys = at.between.back in
    let c = g.is_closed in
    let between : Shows g (xs ++ w ∷ ys) = rw at.between.is at shows in
    let node_is : node ≡ node_between (last_ticket xs None) (first_ticket ys None) w =
    node-between g xs w ys node between (rw at.ticket found) in
    let tells : Telling g h (first_ticket ys None) = rw node_is at telling in
    let elsewhere : g.is_closed ≡ false → g.first_waiting ≢ Some w.ticket = rw at.ticket differs in
    let due : is_due c w ≡ true = rw (first_due g xs w ys between at.between.before elsewhere, at.fails) refl in
    let before = none_due c xs at.between.before in
    let after : tell_next c ws ≡ xs ++ with_word w ∷ ys =
    ap (tell_next c) at.between.is ∙ change_first-between (is_due c) with_word xs w ys before due in
    let line : IsLine h.is_closed (xs ++ with_word w ∷ ys) =
    rw (changing.is_closed, ← after) (IsLine-tell_next c ws shows.line) in
    record {
      shows =
          rw after
          (Shows-told-between g h xs w ys (rw at.ticket changing) tells at.between.before at.fails line between);
      ticket = Shows-due g ws key first differs shows;
    }
