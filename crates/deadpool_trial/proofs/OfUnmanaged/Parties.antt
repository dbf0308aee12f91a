-- Parties that start, are cancelled, or were never there.
use Rattle.deadpool_trial.proofs.OfUnmanaged.Basics.{◌≡◌, ◌≢◌, ℕ, ◌+◌, List, [], ◌∷◌, ◌++◌, Bool, true, false, eqb}
use Rattle.deadpool_trial.proofs.OfUnmanaged.Basics.{nat_lt, length, set, map, refl, sym}
use Rattle.deadpool_trial.proofs.OfUnmanaged.Basics.{ap, ◌∙◌, subst, arith, Option}
use Rattle.deadpool_trial.proofs.OfUnmanaged.Basics.{Some, None, eq-eqb, slice_get, Duration, nat_tests, map-append}
use Rattle.deadpool_trial.proofs.OfUnmanaged.Basics.{largest_usize, Runtime, NoTicket, owned-push, renamed-push}
use Rattle.deadpool_trial.proofs.OfUnmanaged.Words.{image, party_of, has_get, has_add}
use Rattle.deadpool_trial.proofs.OfUnmanaged.Words.{TrialInvariant, RunInvariant, NobodyWaits}
use Rattle.deadpool_trial.proofs.OfUnmanaged.Words.{unsettled, by_party, Pool, State, without_get, without_add}
use Rattle.deadpool_trial.proofs.OfUnmanaged.Words.{cancelled, CancelsVisitor, CoreReply, Item, Move, Reply, Visitor}
use Rattle.deadpool_trial.proofs.OfUnmanaged.Words.{AddStage, GetStage}
use Rattle.deadpool_trial.proofs.OfUnmanaged.{Follows.Follows, Follows.by_settling, Follows.by_resting}
use Rattle.deadpool_trial.proofs.OfUnmanaged.{Visitors.party-here, Visitors.counted-set, Visitors.image-set}
use Rattle.deadpool_trial.proofs.OfUnmanaged.{Visitors.left-none, Visitors.nobody-set, Visitors.counted-without_get}
use Rattle.deadpool_trial.proofs.OfUnmanaged.{Visitors.image-without_get, Visitors.counted-without_add}
use Rattle.deadpool_trial.proofs.OfUnmanaged.{Visitors.image-without_add}

-- no handle is left
pub no_handle : (b : Bool) (n : ℕ) → b ≡ nat_lt 0 n → b ≡ false → eqb n 0 ≡ true
no_handle b n e h = grind (arith, nat_tests)

-- one is left
pub some_handle : (b : Bool) (n : ℕ) → b ≡ nat_lt 0 n → b ≡ true → eqb n 0 ≡ false
some_handle b n e h = grind (arith, nat_tests)

-- two numbers are not the same
pub differs : (n m : ℕ) → n ≢ m → eqb n m ≡ false
differs n m h = grind (arith, nat_tests)

module _ {V : Type 0} (runtime : Option Runtime) (most next : ℕ) (d : State (Item V))
    (visitors : List (Option (Visitor V))) (out : List (Item V)) (k : TrialInvariant d visitors out)
    (well : RunInvariant (image runtime most next d visitors out)) where
  abbrev pool : Pool V
  pool = image runtime most next d visitors out

  -- a move that changes nothing
  pub stays : (m : Move V) (answer : Reply V) → unsettled true m pool ≡ (answer, pool)
      → Follows m pool answer d visitors out pool
  stays m answer makes =
      by_resting m pool well answer runtime most next d visitors out k true makes d refl well.lawful.nobody_waits

  -- ---- a party starts

  module _ (new : Option (Visitor V)) (no_get : NoTicket has_get new) (no_add : NoTicket has_add new) where
    counted-push : TrialInvariant d (visitors ++ new ∷ []) out
    counted-push = record {
      gets = owned-push has_get d.gets visitors k.gets new no_get;
      adds = owned-push has_add d.adds visitors k.adds new no_add;
      outside = k.outside;
    }

    image-push : (later : ℕ) → image runtime most later d (visitors ++ new ∷ []) out
        ≡ record (image runtime most later d visitors out) { parties = map party_of visitors ++ party_of new ∷ [] }
    image-push later = rw (
      map-append party_of visitors (new ∷ []),
      renamed-push has_get d.gets visitors k.gets new,
      renamed-push has_add d.adds visitors k.adds new,
    ) refl

    starts : (m : Move V) (number later : ℕ) → number ≡ length (map party_of visitors)
        → unsettled true m pool ≡ (
          Reply.Started (length (map party_of visitors)),
          record (image runtime most later d visitors out) { parties = map party_of visitors ++ party_of new ∷ [] },
        )
        → Follows m pool (Reply.Started number) d (visitors ++ new ∷ []) out
        (image runtime most later d (visitors ++ new ∷ []) out)
    starts m number later is makes =
        let after = image-push later in
        let nobody = well.lawful.nobody_waits in
        rw is
        (by_resting m pool well (Reply.Started (length (map party_of visitors))) runtime most later d
        (visitors ++ new ∷ []) out counted-push true
        (makes ∙ ap (λ (q : Pool V). (Reply.Started (length (map party_of visitors)), q)) (sym after)) d refl
        (subst NobodyWaits (sym after) (record { objects = nobody.objects; room = nobody.room })))

  module _ (some : eqb d.handles 0 ≡ false) (few : nat_lt (length (map party_of visitors)) most ≡ true) (number : ℕ)
      (is : number ≡ length (map party_of visitors)) where
    pub get_started : (wait : Option Duration)
        → Follows (Move.Get wait) pool (Reply.Started number) d
        (visitors ++ Some (Visitor.Get (GetStage.Unpolled wait)) ∷ []) out
        (image runtime most next d (visitors ++ Some (Visitor.Get (GetStage.Unpolled wait)) ∷ []) out)
    get_started wait = starts (Some (Visitor.Get (GetStage.Unpolled wait))) (λ u. refl) (λ u. refl)
        (Move.Get wait) number next is (rw (some, few) refl)

    pub add_started : (v : V) (item : Item V) (later : ℕ) → eqb next largest_usize ≡ false
        → item ≡ record { number = next; value = v } → later ≡ next + 1
        → Follows (Move.Add v) pool (Reply.Started number) d
        (visitors ++ Some (Visitor.Add (AddStage.Unpolled item)) ∷ []) out
        (image runtime most later d (visitors ++ Some (Visitor.Add (AddStage.Unpolled item)) ∷ []) out)
    add_started v item later left named more =
        rw (named, more)
        (starts (Some (Visitor.Add (AddStage.Unpolled (record { number = next; value = v })))) (λ u. refl) (λ u. refl)
        (Move.Add v) number (next + 1) is (rw (some, few, left) refl))

  -- ---- a party is cancelled

  module _ (n : ℕ) where
    abbrev Cancelled : State (Item V) → Type 0
    Cancelled d' = Follows (Move.Cancel n) pool Reply.Cancelled d' (set visitors n None) out
        (image runtime most next d' (set visitors n None) out)

    makes_cancelled : (old : Visitor V) → slice_get visitors n ≡ Some (Some old)
        → unsettled true (Move.Cancel n) pool ≡ (Reply.Cancelled, cancelled n pool)
    makes_cancelled (Visitor.Get stage) here =
        ap (λ o. by_party o (λ party q. (Reply.Cancelled, cancelled n q)) pool)
        (party-here runtime most next d visitors out k n (Some (Visitor.Get stage)) None here)
    makes_cancelled (Visitor.Add stage) here =
        ap (λ o. by_party o (λ party q. (Reply.Cancelled, cancelled n q)) pool)
        (party-here runtime most next d visitors out k n (Some (Visitor.Add stage)) None here)

    -- one that is in no queue
    unqueued : (old : Visitor V) → slice_get visitors n ≡ Some (Some old) → NoTicket has_get (Some old)
        → NoTicket has_add (Some old) → (d' : State (Item V)) → d' ≡ d → Cancelled d'
    unqueued old here no_get no_add d' same =
        let gone = left-none runtime most next d visitors out k n (Some old) None here no_get no_add in
        let after : image runtime most next d (set visitors n None) out ≡ cancelled n pool =
        image-set runtime most next d visitors out k n (Some old) None here no_get (λ u. refl) no_add (λ u. refl)
        ∙ ap (λ (q : Pool V). record q { parties = set (map party_of visitors) n None }) (sym gone) in
        let makes = makes_cancelled old here ∙ ap (λ (q : Pool V). (Reply.Cancelled, q)) (sym after) in
        by_resting (Move.Cancel n) pool well Reply.Cancelled runtime most next d (set visitors n None) out
        (counted-set runtime most next d visitors out k n (Some old) None here no_get (λ u. refl) no_add (λ u. refl))
        true makes d' same
        (nobody-set runtime most next d visitors out k n (Some old) None here no_get (λ u. refl) no_add
        (λ u. refl) well.lawful.nobody_waits)

    pub cancels : (old : Visitor V) → slice_get visitors n ≡ Some (Some old) → (d' : State (Item V))
        → CancelsVisitor old d d' → Cancelled d'
    cancels (Visitor.Get (GetStage.Unpolled wait)) here d' same =
        unqueued (Visitor.Get (GetStage.Unpolled wait)) here (λ u. refl) (λ u. refl) d' same
    cancels (Visitor.Get GetStage.Finished) here d' same =
        unqueued (Visitor.Get GetStage.Finished) here (λ u. refl) (λ u. refl) d' same
    cancels (Visitor.Add (AddStage.Unpolled item)) here d' same =
        unqueued (Visitor.Add (AddStage.Unpolled item)) here (λ u. refl) (λ u. refl) d' same
    cancels (Visitor.Add AddStage.Finished) here d' same =
        unqueued (Visitor.Add AddStage.Finished) here (λ u. refl) (λ u. refl) d' same
    cancels (Visitor.Get (GetStage.Queued t deadline)) here d' (CoreReply.Unknown, e) =
        let mine = k.gets.listed n t (Some (Visitor.Get (GetStage.Queued t deadline))) here (eq-eqb t t refl) in
        absurd (let differ : true ≡ false = sym mine.0 ∙ e.0 in cc)
    cancels (Visitor.Get (GetStage.Queued t deadline)) here d' (CoreReply.Done, e) =
        let old : Visitor V = Visitor.Get (GetStage.Queued t deadline) in
        let mine = k.gets.listed n t (Some old) here (eq-eqb t t refl) in
        let after = image-without_get runtime most next d visitors out k n (Some old) None here t mine.1 (λ u. refl)
        (λ u. refl) (λ u. refl) (λ u. refl) in
        let makes = makes_cancelled old here ∙ ap (λ (q : Pool V). (Reply.Cancelled, q)) (sym after) in
        by_settling (Move.Cancel n) pool well Reply.Cancelled runtime most next (without_get t d)
        (set visitors n None) out
        (counted-without_get runtime most next d visitors out k n (Some old) None here t mine.1 (λ u. refl) (λ u. refl)
        (λ u. refl) (λ u. refl)) true makes d' e.1
    cancels (Visitor.Get (GetStage.Queued t deadline)) here d' (_, e) = absurd e
    cancels (Visitor.Add (AddStage.Queued t item)) here d' (CoreReply.Unknown, e) =
        let mine = k.adds.listed n t (Some (Visitor.Add (AddStage.Queued t item))) here (eq-eqb t t refl) in
        absurd (let differ : true ≡ false = sym mine.0 ∙ e.0 in cc)
    cancels (Visitor.Add (AddStage.Queued t item)) here d' (CoreReply.Done, e) =
        let old : Visitor V = Visitor.Add (AddStage.Queued t item) in
        let mine = k.adds.listed n t (Some old) here (eq-eqb t t refl) in
        let after = image-without_add runtime most next d visitors out k n (Some old) None here t mine.1 (λ u. refl)
        (λ u. refl) (λ u. refl) (λ u. refl) in
        let makes = makes_cancelled old here ∙ ap (λ (q : Pool V). (Reply.Cancelled, q)) (sym after) in
        by_settling (Move.Cancel n) pool well Reply.Cancelled runtime most next (without_add t d)
        (set visitors n None) out
        (counted-without_add runtime most next d visitors out k n (Some old) None here t mine.1 (λ u. refl) (λ u. refl)
        (λ u. refl) (λ u. refl)) true makes d' e.1
    cancels (Visitor.Add (AddStage.Queued t item)) here d' (_, e) = absurd e
