-- Nodes that name each other by key, as a waiter comes, changes or leaves.
use Rattle.std.proofs.Common.{◌≡◌, ◌≢◌, ℕ, ◌+◌, List, [], ◌∷◌, ◌++◌, length, Option, Some, None, refl, sym, ap, ◌∙◌}
use Rattle.std.proofs.Common.{inl, inr, arith}
use Rattle.std.specs.Option.{option_map}
use Rattle.std.proofs.lemmas.Bool.{cases_eq, eq-eqb, ne_eqb}
use Rattle.std.proofs.lemmas.List.{length-append}
use Rattle.slab.specs.Slab.{Slab, get, slab_len, Updates}
use Rattle.deadpool_gate.specs.declared.gate.store.Node.{Node}
use Rattle.deadpool_gate.specs.declared.gate.store.Change.TheVariants as change
use Rattle.deadpool_gate.specs.Gate.{Waiter, find_waiter, IsApart}
use Rattle.deadpool_gate.specs.GateLinks.{waiter_at, node_between, follow, first_ticket, last_ticket, AreLinked, Stores}
use Rattle.deadpool_gate.specs.GateLinks.{ChangesAt}
use Rattle.deadpool_gate.specs.GateNodes.{changed}
use Rattle.deadpool_gate.proofs.GateApart.{other_ticket, unlisted-front, unlisted-back, unlisted-tail, unlisted-between}
use Rattle.deadpool_gate.proofs.GateApart.{unlisted-replaced, listed-head, IsApart-front, IsApart-back, unlisted-before}
use Rattle.deadpool_gate.proofs.GateApart.{unlisted-behind}

-- the first and the last ticket

pub first_ticket-append : (xs ys : List Waiter) (behind : Option ℕ)
    → first_ticket (xs ++ ys) behind ≡ first_ticket xs (first_ticket ys behind)
first_ticket-append [] ys behind = refl
first_ticket-append (x ∷ xs) ys behind = refl

pub last_ticket-append : (xs ys : List Waiter) (before : Option ℕ)
    → last_ticket (xs ++ ys) before ≡ last_ticket ys (last_ticket xs before)
last_ticket-append [] ys before = refl
last_ticket-append (x ∷ xs) ys before = last_ticket-append xs ys (Some x.ticket)

pub last_ticket-other : (key : ℕ) (ws : List Waiter) (before : Option ℕ) → before ≢ Some key → find_waiter key ws ≡ None
    → last_ticket ws before ≢ Some key
last_ticket-other key [] before differs none = differs
last_ticket-other key (w ∷ ws) before differs none =
    last_ticket-other key ws (Some w.ticket) (λ is. let same : w.ticket ≡ key = cc in other_ticket key w ws none same)
    (unlisted-tail key w ws none)

first_ticket-other : (key : ℕ) (ws : List Waiter) → find_waiter key ws ≡ None → first_ticket ws None ≢ Some key
first_ticket-other key [] none is = cc
first_ticket-other key (w ∷ ws) none is = let same : w.ticket ≡ key = cc in other_ticket key w ws none same

nowhere : (key : ℕ) → None ≢ Some key
nowhere key is = cc

-- who follows the links comes by these waiters
pub follow-linked : (nodes : Slab Node) (before : Option ℕ) (ws : List Waiter) → AreLinked nodes before ws None
    → follow (length ws) nodes (first_ticket ws None) ≡ ws
follow-linked nodes before [] linked = refl
follow-linked nodes before (w ∷ ws) linked =
    rw linked.0 (ap (λ vs. w ∷ vs) (follow-linked nodes (Some w.ticket) ws linked.1))

-- links of two lists, one after the other

linked-parts : (nodes : Slab Node) (before : Option ℕ) (xs ys : List Waiter) (behind : Option ℕ)
    → AreLinked nodes before (xs ++ ys) behind
    → AreLinked nodes before xs (first_ticket ys behind) × AreLinked nodes (last_ticket xs before) ys behind
linked-parts nodes before [] ys behind linked = (tt, linked)
linked-parts nodes before (x ∷ xs) ys behind linked =
    let rest = linked-parts nodes (Some x.ticket) xs ys behind linked.1 in
    ((rw (first_ticket-append xs ys behind) at linked.0, rest.0), rest.1)

linked-append : (nodes : Slab Node) (before : Option ℕ) (xs ys : List Waiter) (behind : Option ℕ)
    → AreLinked nodes before xs (first_ticket ys behind) → AreLinked nodes (last_ticket xs before) ys behind
    → AreLinked nodes before (xs ++ ys) behind
linked-append nodes before [] ys behind front back = back
linked-append nodes before (x ∷ xs) ys behind front back =
    (rw (first_ticket-append xs ys behind) front.0, linked-append nodes (Some x.ticket) xs ys behind front.1 back)

-- what a change at one key leaves
module _ (old new : Slab Node) where
  pub linked-kept : (before : Option ℕ) (ws : List Waiter) (behind : Option ℕ)
      → ((key : ℕ) → find_waiter key ws ≢ None → get new key ≡ get old key) → AreLinked old before ws behind
      → AreLinked new before ws behind
  linked-kept before [] behind same linked = tt
  linked-kept before (w ∷ ws) behind same linked = (
    same w.ticket (listed-head w ws) ∙ linked.0,
    linked-kept (Some w.ticket) ws behind (λ key there. same key (λ none. there (unlisted-tail key w ws none)))
        linked.1,
  )

  linked-updated : (key : ℕ) (slot : Option Node) (before : Option ℕ) (ws : List Waiter) (behind : Option ℕ)
      → Updates old new key slot → find_waiter key ws ≡ None → AreLinked old before ws behind
      → AreLinked new before ws behind
  linked-updated key slot before ws behind updates none linked =
      linked-kept before ws behind (λ k there. updates.others k (λ is. there (rw is none))) linked

  module _ (at : Option ℕ) (change : Node → Node) (changes : ChangesAt at change old new) where
    changes-other : (key : ℕ) → at ≢ Some key → get new key ≡ get old key
    changes-other key differs = by_cases at changes differs
      where
        by_cases : (o : Option ℕ) → ChangesAt o change old new → o ≢ Some key → get new key ≡ get old key
        by_cases None same differs = same key
        by_cases (Some k) updates differs = updates.others key (λ is. differs (ap Some (sym is)))

    changes-none : (key : ℕ) → get old key ≡ None → get new key ≡ None
    changes-none key none = by_cases at changes
      where
        by_cases : (o : Option ℕ) → ChangesAt o change old new → get new key ≡ None
        by_cases None same = same key ∙ none
        by_cases (Some k) updates =
            elim (cases_eq key k) [
              | inl is ↦ let there : get old k ≡ None = rw is at none in
                  rw is (updates.changed ∙ ap (option_map change) there)
              | inr differs ↦ updates.others key differs ∙ none
            ]

    linked-changed : (before : Option ℕ) (ws : List Waiter) (behind : Option ℕ)
        → ((key : ℕ) → find_waiter key ws ≢ None → at ≢ Some key) → AreLinked old before ws behind
        → AreLinked new before ws behind
    linked-changed before ws behind elsewhere linked =
        linked-kept before ws behind (λ key there. changes-other key (elsewhere key there)) linked

  -- the last node gets another one behind it
  linked-next : (before : Option ℕ) (ws : List Waiter) (behind then : Option ℕ) → IsApart ws
      → ChangesAt (last_ticket ws None) (changed (change.Next then)) old new → AreLinked old before ws behind
      → AreLinked new before ws then
  linked-next before [] behind then apart changes linked = tt
  linked-next before (x ∷ []) behind then apart changes linked =
      (changes.changed ∙ ap (option_map (changed (change.Next then))) linked.0, tt)
  linked-next before (x ∷ y ∷ zs) behind then apart changes linked = (
    changes-other (last_ticket (y ∷ zs) None) (changed (change.Next then)) changes x.ticket
        (last_ticket-other x.ticket (y ∷ zs) None (nowhere x.ticket) apart.0) ∙ linked.0,
    linked-next (Some x.ticket) (y ∷ zs) behind then apart.1 changes linked.1,
  )

  -- the first node gets another one before it
  linked-previous : (before then : Option ℕ) (ws : List Waiter) (behind : Option ℕ) → IsApart ws
      → ChangesAt (first_ticket ws None) (changed (change.Previous then)) old new → AreLinked old before ws behind
      → AreLinked new then ws behind
  linked-previous before then [] behind apart changes linked = tt
  linked-previous before then (x ∷ xs) behind apart changes linked = (
    changes.changed ∙ ap (option_map (changed (change.Previous then))) linked.0,
    linked-updated x.ticket _ (Some x.ticket) xs behind changes apart.0 linked.1,
  )

-- which node a waiter has

pub Stores-node : (nodes : Slab Node) (xs : List Waiter) (w : Waiter) (ys : List Waiter) → Stores nodes (xs ++ w ∷ ys)
    → get nodes w.ticket ≡ Some (node_between (last_ticket xs None) (first_ticket ys None) w)
Stores-node nodes xs w ys stores = (linked-parts nodes None xs (w ∷ ys) None stores.linked).1.0

pub Stores-find : (nodes : Slab Node) (ws : List Waiter) (key : ℕ) → Stores nodes ws
    → find_waiter key ws ≡ option_map (waiter_at key) (get nodes key)
Stores-find nodes ws key stores = by_cases (find_waiter key ws) refl
  where
    listed : (before : Option ℕ) (xs : List Waiter) → AreLinked nodes before xs None → find_waiter key xs ≢ None
        → find_waiter key xs ≡ option_map (waiter_at key) (get nodes key)
    listed before [] linked there = absurd (there refl)
    listed before (x ∷ xs) linked there =
        elim (cases_eq x.ticket key) [
          | inl is ↦ rw (← is) (rw (eq-eqb x.ticket x.ticket refl, linked.0) refl)
          | inr differs ↦
              let fails = ne_eqb x.ticket key differs in
              rw fails (listed (Some x.ticket) xs linked.1 (λ none. there (rw fails none)))
        ]

    by_cases : (o : Option Waiter) → find_waiter key ws ≡ o
        → find_waiter key ws ≡ option_map (waiter_at key) (get nodes key)
    by_cases None is = rw (stores.others key is) is
    by_cases (Some w) is = listed None ws stores.linked (λ none. cc)

-- a key without a node is nobody's ticket
pub Stores-unlisted : (nodes : Slab Node) (ws : List Waiter) (key : ℕ) → Stores nodes ws → get nodes key ≡ None
    → find_waiter key ws ≡ None
Stores-unlisted nodes ws key stores vacant = Stores-find nodes ws key stores ∙ ap (option_map (waiter_at key)) vacant

pub Stores-same : (old new : Slab Node) (ws : List Waiter) → new.slots ≡ old.slots → Stores old ws → Stores new ws
Stores-same old new ws same stores =
    record {
      linked = linked-kept old new None ws None (λ key _. rw same refl) stores.linked;
      others = λ key none. rw same (stores.others key none);
      counted = rw same stores.counted;
    }

-- a node is taken out, and its neighbours name each other
pub Stores-without : (a b c d : Slab Node) (xs : List Waiter) (w : Waiter) (ys : List Waiter) → IsApart (xs ++ w ∷ ys)
    → IsApart (xs ++ ys) → Stores a (xs ++ w ∷ ys) → Updates a b w.ticket None → slab_len b + 1 ≡ slab_len a
    → ChangesAt (last_ticket xs None) (changed (change.Next (first_ticket ys None))) b c → slab_len c ≡ slab_len b
    → ChangesAt (first_ticket ys None) (changed (change.Previous (last_ticket xs None))) c d → slab_len d ≡ slab_len c
    → Stores d (xs ++ ys)
Stores-without a b c d xs w ys apart still stores takes fewer front same back same-2 =
    let parts = linked-parts a None xs (w ∷ ys) None stores.linked in
    let behind = IsApart-back xs (w ∷ ys) apart in
    let xs-b = linked-updated a b w.ticket None None xs (Some w.ticket) takes (unlisted-before xs w ys apart) parts.0 in
    let ys-b = linked-updated a b w.ticket None (Some w.ticket) ys None takes behind.0 parts.1.1 in
    let xs-c = linked-next b c None xs (Some w.ticket) (first_ticket ys None) (IsApart-front xs ys still) front xs-b in
    let ys-c = linked-changed b c (last_ticket xs None) _ front (Some w.ticket) ys None
    (λ key there is.
    there (unlisted-behind key xs ys still (λ none. last_ticket-other key xs None (nowhere key) none is))) ys-b in
    let xs-d = linked-changed c d (first_ticket ys None) _ back None xs (first_ticket ys None)
    (λ key there is. first_ticket-other key ys (unlisted-behind key xs ys still there) is) xs-c in
    let ys-d = linked-previous c d (Some w.ticket) (last_ticket xs None) ys None (IsApart-back xs ys still) back ys-c in
    record {
      linked = linked-append d None xs ys None xs-d ys-d;
      others = λ key none. changes-none c d _ _ back key (changes-none b c _ _ front key (gone key none));
      counted = omega (arith, fewer, same, same-2, stores.counted, length-append xs (w ∷ ys), length-append xs ys);
    }
  where
    gone : (key : ℕ) → find_waiter key (xs ++ ys) ≡ None → get b key ≡ None
    gone key none =
        elim (cases_eq w.ticket key) [
          | inl is ↦ rw (← is) takes.changed
          | inr differs ↦
              takes.others key (λ is. differs (sym is)) ∙ stores.others key (unlisted-between key xs w ys differs none)
        ]

-- a node changes in what it says of its waiter
pub Stores-replaced : (a b : Slab Node) (change : Node → Node) (xs : List Waiter) (v w : Waiter) (ys : List Waiter)
    → w.ticket ≡ v.ticket
    → ((before behind : Option ℕ) → change (node_between before behind v) ≡ node_between before behind w)
    → IsApart (xs ++ v ∷ ys) → Stores a (xs ++ v ∷ ys) → Updates a b v.ticket (option_map change (get a v.ticket))
    → slab_len b ≡ slab_len a → Stores b (xs ++ w ∷ ys)
Stores-replaced a b change xs v w ys same replaces apart stores updates same_len =
    let parts = linked-parts a None xs (v ∷ ys) None stores.linked in
    let xs-b = linked-updated a b v.ticket _ None xs (Some v.ticket) updates (unlisted-before xs v ys apart) parts.0 in
    let ys-b = linked-updated a b v.ticket _ (Some v.ticket) ys None updates
    (IsApart-back xs (v ∷ ys) apart).0 parts.1.1 in
    let here : get b v.ticket ≡ Some (node_between (last_ticket xs None) (first_ticket ys None) w) =
    updates.changed ∙ ap (option_map change) parts.1.0 ∙ ap Some (replaces _ _) in
    record {
      linked = linked-append b None xs (w ∷ ys) None (rw same xs-b) (rw same (here, ys-b));
      others = λ key none. changes-none a b (Some v.ticket) change updates key
          (stores.others key (unlisted-replaced key xs w v ys same none));
      counted = omega (arith, same_len, stores.counted, length-append xs (v ∷ ys), length-append xs (w ∷ ys));
    }

-- a node comes last
pub Stores-last : (a b c : Slab Node) (ws : List Waiter) (w : Waiter) → IsApart ws → Stores a ws → get a w.ticket ≡ None
    → Updates a b w.ticket (Some (node_between (last_ticket ws None) None w)) → slab_len b ≡ slab_len a + 1
    → ChangesAt (last_ticket ws None) (changed (change.Next (Some w.ticket))) b c → slab_len c ≡ slab_len b
    → Stores c (ws ++ w ∷ [])
Stores-last a b c ws w apart stores vacant puts more links same =
    let fresh = Stores-unlisted a ws w.ticket stores vacant in
    let ws-b = linked-updated a b w.ticket _ None ws None puts fresh stores.linked in
    let ws-c = linked-next b c None ws None (Some w.ticket) apart links ws-b in
    let here = changes-other b c (last_ticket ws None) _ links w.ticket
    (last_ticket-other w.ticket ws None (nowhere w.ticket) fresh) ∙ puts.changed in
    record {
      linked = linked-append c None ws (w ∷ []) None ws-c (here, tt);
      others =
          λ key none. changes-none b c _ _ links key
          (puts.others key (λ is. other_ticket key w [] (unlisted-back key ws (w ∷ []) none) (sym is))
          ∙ stores.others key (unlisted-front key ws (w ∷ []) none));
      counted = omega (arith, more, same, stores.counted, length-append ws (w ∷ []));
    }
