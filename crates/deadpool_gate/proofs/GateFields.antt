-- What a call makes of a gate's fields is what it makes of the line that they show.
use Rattle.std.proofs.Common.{◌≡◌, ◌≢◌, ℕ, ◌+◌, ◌^◌, ◌<◌, ◌≤◌, Bool, true, false, not, eqb, cond, List, [], ◌∷◌}
use Rattle.std.proofs.Common.{◌++◌, length, Option, Some, None, unwrap_or, refl, sym, ap, subst, ◌∙◌, inl, inr, arith}
use Rattle.std.specs.List.{find, count_by}
use Rattle.std.specs.Option.{option_map}
use Rattle.std.proofs.lemmas.Bool.{eq-eqb, ne_eqb, cases_Bool}
use Rattle.std.proofs.lemmas.List.{length-append, append-nil}
use Rattle.std.proofs.lemmas.List.Sums.{sum_by-cons, sum_by-append}
use Rattle.slab.specs.Slab.{Slab, get, slab_len, Updates}
use Rattle.deadpool_gate.specs.declared.gate.store.Node.{Node}
use Rattle.deadpool_gate.specs.declared.gate.store.Change.TheVariants as change
use Rattle.deadpool_gate.specs.declared.gate.Gate.TheInside.{Inside}
use Rattle.deadpool_gate.specs.Gate.{Waiter, Line, arrived, find_waiter, without_waiter, IsApart, NonePass, IsFront}
use Rattle.deadpool_gate.specs.Gate.{IsLine}
use Rattle.deadpool_gate.specs.GateLinks.{waiter_at, node_between, first_ticket, last_ticket, first_failing, moved_on}
use Rattle.deadpool_gate.specs.GateLinks.{ChangesAt}
use Rattle.deadpool_gate.specs.GateNodes.{changed}
use Rattle.deadpool_gate.specs.GateFields.{Shows, waiters_of, line_of, GateInvariant}
use Rattle.deadpool_gate.proofs.Counts.{one_if}
use Rattle.deadpool_gate.proofs.GateListed.{FoundBetween, found_between, find-behind, remove_first-between}
use Rattle.deadpool_gate.proofs.GateApart.{other_ticket, unlisted-tail, IsApart-back, unlisted-before}
use Rattle.deadpool_gate.proofs.GateLine.{IsLine-without_waiter, IsLine-arrived}
use Rattle.deadpool_gate.proofs.GateLinks.{last_ticket-append, last_ticket-other, follow-linked, Stores-node}
use Rattle.deadpool_gate.proofs.GateLinks.{Stores-find, Stores-unlisted, Stores-same, Stores-without, Stores-last}
use Rattle.deadpool_gate.proofs.GateTickets.{granted_count-length, waiting_count-length, length-both_tickets}

-- the counts are those of all who are listed, so the links are followed to the end
pub Shows-is : (g : Inside) (ws : List Waiter) → Shows g ws → waiters_of g ≡ ws
Shows-is g ws shows =
    let all : g.granted + g.waiting ≡ length ws =
    omega (
      arith,
      shows.granted,
      shows.waiting,
      granted_count-length ws,
      waiting_count-length ws,
      length-both_tickets ws,
    ) in
    rw (all, shows.first) (follow-linked g.store.nodes None ws shows.stores.linked)

pub GateInvariant-shows : (g : Inside) (ws : List Waiter) → Shows g ws → GateInvariant g
GateInvariant-shows g ws shows = rw (Shows-is g ws shows) shows

-- the line that a caller sees
pub Shows-seen : (g : Inside) (line : Line) → line_of g ≡ line → GateInvariant g → Shows g line.waiters
Shows-seen g line seen held = subst (λ (ws : List Waiter). Shows g ws) (ap (λ (l : Line). l.waiters) seen) held

pub count_by-between : (p : Waiter → Bool) (xs : List Waiter) (w : Waiter) (ys : List Waiter)
    → count_by p (xs ++ w ∷ ys) ≡ count_by p (xs ++ ys) + one_if (p w)
count_by-between p xs w ys =
    omega (
      arith,
      sum_by-append (λ x. cond (p x) 1 0) xs (w ∷ ys),
      sum_by-append (λ x. cond (p x) 1 0) xs ys,
      sum_by-cons (λ x. cond (p x) 1 0) w ys,
    )

-- a pointer, as a waiter leaves

moved_on-elsewhere : (pointer : Option ℕ) (key : ℕ) (behind : Option ℕ) → pointer ≢ Some key
    → moved_on pointer key behind ≡ pointer
moved_on-elsewhere None key behind differs = refl
moved_on-elsewhere (Some at) key behind differs = rw (ne_eqb at key (λ is. differs (ap Some is))) refl

moved_on-there : (key : ℕ) (behind : Option ℕ) → moved_on (Some key) key behind ≡ behind
moved_on-there key behind = rw (eq-eqb key key refl) refl

first_ticket-without : (xs : List Waiter) (w : Waiter) (ys : List Waiter) → IsApart (xs ++ w ∷ ys)
    → moved_on (first_ticket (xs ++ w ∷ ys) None) w.ticket (first_ticket ys None) ≡ first_ticket (xs ++ ys) None
first_ticket-without [] w ys apart = moved_on-there w.ticket (first_ticket ys None)
first_ticket-without (x ∷ xs) w ys apart =
    let differs = other_ticket w.ticket x xs (unlisted-before (x ∷ xs) w ys apart) in
    moved_on-elsewhere (Some x.ticket) w.ticket (first_ticket ys None)
    (λ is. let same : x.ticket ≡ w.ticket = cc in differs same)

last_ticket-without : (xs : List Waiter) (w : Waiter) (ys : List Waiter) → IsApart (xs ++ w ∷ ys)
    → moved_on (last_ticket (xs ++ w ∷ ys) None) w.ticket (last_ticket xs None) ≡ last_ticket (xs ++ ys) None
last_ticket-without xs w [] apart =
    rw (last_ticket-append xs (w ∷ []) None, last_ticket-append xs [] None)
    (moved_on-there w.ticket (last_ticket xs None))
last_ticket-without xs w (y ∷ ys) apart =
    let behind = IsApart-back xs (w ∷ y ∷ ys) apart in
    let differs = other_ticket w.ticket y ys behind.0 in
    rw (last_ticket-append xs (w ∷ y ∷ ys) None, last_ticket-append xs (y ∷ ys) None) (
    moved_on-elsewhere (last_ticket ys (Some y.ticket)) w.ticket (last_ticket xs None)
    (last_ticket-other w.ticket ys (Some y.ticket) (λ is. let same : y.ticket ≡ w.ticket = cc in differs same)
    (unlisted-tail w.ticket y ys behind.0))
    )

module _ (p : Waiter → Bool) where
  -- the earliest that fails is listed
  first_failing-other : (key : ℕ) (ws : List Waiter) → find_waiter key ws ≡ None → first_failing p ws ≢ Some key
  first_failing-other key [] none is = cc
  first_failing-other key (x ∷ xs) none is =
      elim (cases_Bool (p x)) [
        | inl passes ↦ first_failing-other key xs (unlisted-tail key x xs none) (rw passes at is)
        | inr fails ↦ let there : Some x.ticket ≡ Some key = rw fails at is in let same : x.ticket ≡ key = cc in
            other_ticket key x xs none same
      ]

  first_failing-none_pass : (ws : List Waiter) → NonePass p ws → first_failing p ws ≡ first_ticket ws None
  first_failing-none_pass [] none = refl
  first_failing-none_pass (x ∷ xs) none = rw none.0 refl

  first_failing-without : (xs : List Waiter) (w : Waiter) (ys : List Waiter) → IsApart (xs ++ w ∷ ys)
      → IsFront p (xs ++ w ∷ ys) → moved_on (first_failing p (xs ++ w ∷ ys)) w.ticket (first_ticket ys None)
      ≡ first_failing p (xs ++ ys)
  first_failing-without [] w ys apart front =
      elim (cases_Bool (p w)) [
        | inl passes ↦
            rw passes (moved_on-elsewhere (first_failing p ys) w.ticket (first_ticket ys None)
            (first_failing-other w.ticket ys apart.0))
        | inr fails ↦
            rw fails (moved_on-there w.ticket (first_ticket ys None) ∙ sym (first_failing-none_pass ys (front.0 fails)))
      ]
  first_failing-without (x ∷ xs) w ys apart front =
      let differs = other_ticket w.ticket x xs (unlisted-before (x ∷ xs) w ys apart) in
      elim (cases_Bool (p x)) [
        | inl passes ↦ rw passes (first_failing-without xs w ys apart.1 front.1)
        | inr fails ↦
            rw fails (moved_on-elsewhere (Some x.ticket) w.ticket (first_ticket ys None)
            (λ is. let same : x.ticket ≡ w.ticket = cc in differs same))
      ]

  -- a waiter is replaced by one with the same ticket that passes exactly if the old one did
  pub first_failing-replaced : (xs : List Waiter) (v w : Waiter) (ys : List Waiter) → w.ticket ≡ v.ticket → p w ≡ p v
      → first_failing p (xs ++ w ∷ ys) ≡ first_failing p (xs ++ v ∷ ys)
  first_failing-replaced [] v w ys ticket same =
      elim (cases_Bool (p v)) [
        | inl passes ↦ rw (same, passes) refl
        | inr fails ↦ rw (same, fails, ticket) refl
      ]
  first_failing-replaced (x ∷ xs) v w ys ticket same =
      elim (cases_Bool (p x)) [
        | inl passes ↦ rw passes (first_failing-replaced xs v w ys ticket same)
        | inr fails ↦ rw fails refl
      ]

  -- the earliest that failed passes from now on, and nobody behind it does
  pub first_failing-passed : (xs : List Waiter) (w : Waiter) (ys : List Waiter) → find (λ v. not (p v)) xs ≡ None
      → p w ≡ true → NonePass p ys → first_failing p (xs ++ w ∷ ys) ≡ first_ticket ys None
  first_failing-passed xs w ys before passes none =
      ap (option_map (λ (v : Waiter). v.ticket)) (find-behind (λ v. not (p v)) xs (w ∷ ys) before)
      ∙ rw passes (first_failing-none_pass ys none)

  -- one that fails comes last
  first_failing-last : (ws : List Waiter) (w : Waiter) → p w ≡ false
      → first_failing p (ws ++ w ∷ []) ≡ Some (unwrap_or (first_failing p ws) w.ticket)
  first_failing-last [] w fails = rw fails refl
  first_failing-last (x ∷ xs) w fails =
      elim (cases_Bool (p x)) [
        | inl passes ↦ rw passes (first_failing-last xs w fails)
        | inr fails-x ↦ rw fails-x refl
      ]

  pub first_failing_none : (ws : List Waiter) → first_failing p ws ≡ None → find (λ v. not (p v)) ws ≡ None
  first_failing_none ws first = by_cases (find (λ v. not (p v)) ws) refl
    where
      by_cases : (o : Option Waiter) → find (λ v. not (p v)) ws ≡ o → find (λ v. not (p v)) ws ≡ None
      by_cases None is = is
      by_cases (Some w) is = absurd (let there : Some w.ticket ≡ None = rw is at first in cc)

first_ticket-last : (ws : List Waiter) (w : Waiter)
    → first_ticket (ws ++ w ∷ []) None ≡ Some (unwrap_or (first_ticket ws None) w.ticket)
first_ticket-last [] w = refl
first_ticket-last (x ∷ xs) w = refl

pub first_ticket-replaced : (xs : List Waiter) (v w : Waiter) (ys : List Waiter) → w.ticket ≡ v.ticket
    → first_ticket (xs ++ w ∷ ys) None ≡ first_ticket (xs ++ v ∷ ys) None
first_ticket-replaced [] v w ys ticket = ap Some ticket
first_ticket-replaced (x ∷ xs) v w ys ticket = refl

pub last_ticket-replaced : (xs : List Waiter) (v w : Waiter) (ys : List Waiter) → w.ticket ≡ v.ticket
    → last_ticket (xs ++ w ∷ ys) None ≡ last_ticket (xs ++ v ∷ ys) None
last_ticket-replaced xs v w ys ticket =
    rw (last_ticket-append xs (w ∷ ys) None, last_ticket-append xs (v ∷ ys) None, ticket) refl

-- the fields keep all but the count of accesses, that of before, the capacity, and whether the gate is closed
pub record KeepsLinks (g h : Inside) : Type 0 where
  pub slots : h.store.nodes.slots ≡ g.store.nodes.slots
  pub first : h.first ≡ g.first
  pub last : h.last ≡ g.last
  pub first_waiting : h.first_waiting ≡ g.first_waiting
  pub first_unnotified : h.first_unnotified ≡ g.first_unnotified
  pub granted : h.granted ≡ g.granted
  pub waiting : h.waiting ≡ g.waiting

pub Shows-kept : (g h : Inside) (ws : List Waiter) → KeepsLinks g h → IsLine h.is_closed ws → Shows g ws → Shows h ws
Shows-kept g h ws keeps line shows =
    record {
      stores = Stores-same g.store.nodes h.store.nodes ws keeps.slots shows.stores;
      few = shows.few;
      line = line;
      first = keeps.first ∙ shows.first;
      last = keeps.last ∙ shows.last;
      first_waiting = keeps.first_waiting ∙ shows.first_waiting;
      first_unnotified = keeps.first_unnotified ∙ shows.first_unnotified;
      granted = keeps.granted ∙ shows.granted;
      waiting = keeps.waiting ∙ shows.waiting;
    }

-- a waiter comes

pub record Joining (g h : Inside) (b : Slab Node) (key : ℕ) : Type 0 where
  pub vacant : get g.store.nodes key ≡ None
  pub puts : Updates g.store.nodes b key (Some (node_between g.last None (arrived key)))
  pub more : slab_len b ≡ slab_len g.store.nodes + 1
  pub few : slab_len b < 2 ^ 63
  pub links : ChangesAt g.last (changed (change.Next (Some key))) b h.store.nodes
  pub same : slab_len h.store.nodes ≡ slab_len b
  pub is_closed : h.is_closed ≡ g.is_closed
  pub first : h.first ≡ Some (unwrap_or g.first key)
  pub last : h.last ≡ Some key
  pub first_waiting : h.first_waiting ≡ Some (unwrap_or g.first_waiting key)
  pub first_unnotified : h.first_unnotified ≡ Some (unwrap_or g.first_unnotified key)
  pub granted : h.granted ≡ g.granted
  pub waiting : h.waiting ≡ g.waiting + 1

pub Shows-joined : (g h : Inside) (b : Slab Node) (ws : List Waiter) (key : ℕ) → Joining g h b key → Shows g ws
    → Shows h (ws ++ arrived key ∷ [])
Shows-joined g h b ws key joining shows =
    let w = arrived key in
    let fresh = Stores-unlisted g.store.nodes ws key shows.stores joining.vacant in
    let puts : Updates g.store.nodes b key (Some (node_between (last_ticket ws None) None w)) =
    rw shows.last at joining.puts in
    let links : ChangesAt (last_ticket ws None) (changed (change.Next (Some key))) b h.store.nodes =
    rw shows.last at joining.links in
    let all = append-nil ws in
    record {
      stores = Stores-last g.store.nodes b h.store.nodes ws w shows.line.apart shows.stores joining.vacant puts
          joining.more links joining.same;
      few = omega (arith, joining.few, joining.more, shows.stores.counted, length-append ws (w ∷ []));
      line = rw joining.is_closed (IsLine-arrived g.is_closed key ws fresh shows.line);
      first = joining.first ∙ ap (λ at. Some (unwrap_or at key)) shows.first ∙ sym (first_ticket-last ws w);
      last = joining.last ∙ sym (last_ticket-append ws (w ∷ []) None);
      first_waiting = joining.first_waiting ∙ ap (λ at. Some (unwrap_or at key)) shows.first_waiting
          ∙ sym (first_failing-last (λ v. v.granted) ws w refl);
      first_unnotified = joining.first_unnotified ∙ ap (λ at. Some (unwrap_or at key)) shows.first_unnotified
          ∙ sym (first_failing-last (λ v. v.told) ws w refl);
      granted = omega (
        arith,
        joining.granted,
        shows.granted,
        count_by-between (λ v. v.granted) ws w [],
        ap (count_by (λ (v : Waiter). v.granted)) all,
      );
      waiting = omega (
        arith,
        joining.waiting,
        shows.waiting,
        count_by-between (λ v. not v.granted) ws w [],
        ap (count_by (λ (v : Waiter). not v.granted)) all,
      );
    }

-- a waiter that has a node, by that node

pub Shows-find : (g : Inside) (ws : List Waiter) (key : ℕ) → Shows g ws
    → find_waiter key ws ≡ option_map (waiter_at key) (get g.store.nodes key)
Shows-find g ws key shows = Stores-find g.store.nodes ws key shows.stores

pub node-between : (g : Inside) (xs : List Waiter) (w : Waiter) (ys : List Waiter) (node : Node)
    → Shows g (xs ++ w ∷ ys) → Some node ≡ get g.store.nodes w.ticket
    → node ≡ node_between (last_ticket xs None) (first_ticket ys None) w
node-between g xs w ys node shows found =
    let both : Some node ≡ Some (node_between (last_ticket xs None) (first_ticket ys None) w) =
    found ∙ Stores-node g.store.nodes xs w ys shows.stores in cc

listed-between : (g : Inside) (ws : List Waiter) (key : ℕ) (node : Node) → Shows g ws
    → Some node ≡ get g.store.nodes key → FoundBetween (λ v. eqb v.ticket key) ws (waiter_at key node)
listed-between g ws key node shows found =
    found_between (λ v. eqb v.ticket key) ws (waiter_at key node)
    (Shows-find g ws key shows ∙ ap (option_map (waiter_at key)) (sym found))

-- the gate counts the node, as granted or as waiting
pub record TrialInvariant (g : Inside) (node : Node) : Type 0 where
  pub granted : one_if node.granted ≤ g.granted
  pub waiting : one_if (not node.granted) ≤ g.waiting

pub Shows-counted : (g : Inside) (ws : List Waiter) (key : ℕ) (node : Node) → Shows g ws
    → Some node ≡ get g.store.nodes key → TrialInvariant g node
Shows-counted g ws key node shows found =
    let w = waiter_at key node in
    let at = listed-between g ws key node shows found in
    record {
      granted = omega (
        arith,
        shows.granted,
        ap (count_by (λ (v : Waiter). v.granted)) at.is,
        count_by-between (λ v. v.granted) at.front w at.back,
      );
      waiting = omega (
        arith,
        shows.waiting,
        ap (count_by (λ (v : Waiter). not v.granted)) at.is,
        count_by-between (λ v. not v.granted) at.front w at.back,
      );
    }

-- a waiter leaves

pub record Leaving (g h : Inside) (b c : Slab Node) (key : ℕ) (node : Node) : Type 0 where
  pub takes : Updates g.store.nodes b key None
  pub fewer : slab_len b + 1 ≡ slab_len g.store.nodes
  pub front : ChangesAt node.previous (changed (change.Next node.next)) b c
  pub same : slab_len c ≡ slab_len b
  pub back : ChangesAt node.next (changed (change.Previous node.previous)) c h.store.nodes
  pub same-2 : slab_len h.store.nodes ≡ slab_len c
  pub is_closed : h.is_closed ≡ g.is_closed
  pub first : h.first ≡ moved_on g.first key node.next
  pub last : h.last ≡ moved_on g.last key node.previous
  pub first_waiting : h.first_waiting ≡ moved_on g.first_waiting key node.next
  pub first_unnotified : h.first_unnotified ≡ moved_on g.first_unnotified key node.next
  pub granted : h.granted + one_if node.granted ≡ g.granted
  pub waiting : h.waiting + one_if (not node.granted) ≡ g.waiting

Shows-without : (g h : Inside) (b c : Slab Node) (xs : List Waiter) (w : Waiter) (ys : List Waiter)
    → Leaving g h b c w.ticket (node_between (last_ticket xs None) (first_ticket ys None) w)
    → IsLine h.is_closed (xs ++ ys) → Shows g (xs ++ w ∷ ys) → Shows h (xs ++ ys)
Shows-without g h b c xs w ys leaving line shows =
    let apart = shows.line.apart in
    let behind = first_ticket ys None in
    record {
      stores = Stores-without g.store.nodes b c h.store.nodes xs w ys apart line.apart shows.stores leaving.takes
          leaving.fewer leaving.front leaving.same leaving.back leaving.same-2;
      few = omega (arith, shows.few, length-append xs (w ∷ ys), length-append xs ys);
      line = line;
      first = leaving.first ∙ ap (λ at. moved_on at w.ticket behind) shows.first ∙ first_ticket-without xs w ys apart;
      last = leaving.last ∙ ap (λ at. moved_on at w.ticket (last_ticket xs None)) shows.last
          ∙ last_ticket-without xs w ys apart;
      first_waiting = leaving.first_waiting ∙ ap (λ at. moved_on at w.ticket behind) shows.first_waiting
          ∙ first_failing-without (λ v. v.granted) xs w ys apart shows.line.granted_front;
      first_unnotified = leaving.first_unnotified ∙ ap (λ at. moved_on at w.ticket behind) shows.first_unnotified
          ∙ first_failing-without (λ v. v.told) xs w ys apart shows.line.told_front;
      granted = omega (arith, leaving.granted, shows.granted, count_by-between (λ v. v.granted) xs w ys);
      waiting = omega (arith, leaving.waiting, shows.waiting, count_by-between (λ v. not v.granted) xs w ys);
    }

pub Shows-left : (g h : Inside) (b c : Slab Node) (ws : List Waiter) (key : ℕ) (node : Node)
    → Some node ≡ get g.store.nodes key → Leaving g h b c key node → Shows g ws → Shows h (without_waiter key ws)
Shows-left g h b c ws key node found leaving shows =
    let w = waiter_at key node in
    let at = listed-between g ws key node shows found in
    let between : Shows g (at.front ++ w ∷ at.back) = rw at.is at shows in
    let node_is : node ≡ node_between (last_ticket at.front None) (first_ticket at.back None) w =
    node-between g at.front w at.back node between found in
    let leaves : Leaving g h b c key (node_between (last_ticket at.front None) (first_ticket at.back None) w) =
    rw node_is at leaving in
    let after : without_waiter key ws ≡ at.front ++ at.back =
    ap (without_waiter key) at.is ∙ remove_first-between
    (λ v. eqb v.ticket key) at.front w at.back at.before at.passes in
    let line : IsLine h.is_closed (at.front ++ at.back) =
    rw (leaving.is_closed, ← after) (IsLine-without_waiter g.is_closed key ws shows.line) in
    rw after (Shows-without g h b c at.front w at.back leaves line between)
