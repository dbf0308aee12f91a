-- What the change of one visitor makes of the pool.
use Rattle.deadpool_trial.proofs.OfUnmanaged.Basics.{◌≡◌, ℕ, List, false, set, map, refl, sym, ap, ◌∙◌, arith, Option}
use Rattle.deadpool_trial.proofs.OfUnmanaged.Basics.{Some, slice_get, map-set, length-map}
use Rattle.deadpool_trial.proofs.OfUnmanaged.Basics.{slice_get-map, Runtime, owner}
use Rattle.deadpool_trial.proofs.OfUnmanaged.Basics.{renamed, is_listed, joined, NoTicket, OneTicket, owned-set}
use Rattle.deadpool_trial.proofs.OfUnmanaged.Basics.{renamed-set, absent, owned-leaves, renamed-leaves, owned-joins}
use Rattle.deadpool_trial.proofs.OfUnmanaged.Basics.{renamed-joins}
use Rattle.deadpool_trial.proofs.OfUnmanaged.Words.{image, party_of, has_get, has_add}
use Rattle.deadpool_trial.proofs.OfUnmanaged.Words.{TrialInvariant, NobodyWaits, Pool}
use Rattle.deadpool_trial.proofs.OfUnmanaged.Words.{free_objects, free_room, State}
use Rattle.deadpool_trial.proofs.OfUnmanaged.Words.{last_idle, without_get, without_add}
use Rattle.deadpool_trial.proofs.OfUnmanaged.Words.{with_get, with_add, handed, stored}
use Rattle.deadpool_trial.proofs.OfUnmanaged.Words.{left, hand_out, store, with_item}
use Rattle.deadpool_trial.proofs.OfUnmanaged.Words.{Item, Visitor, objects_left, room_left, Reply}
use Rattle.deadpool_trial.proofs.OfUnmanaged.Lawful.{length-with_item}

module _ {V : Type 0} (runtime : Option Runtime) (most next : ℕ) where
  abbrev img : State (Item V) → List (Option (Visitor V)) → List (Item V) → Pool V
  img d visitors out = image runtime most next d visitors out

  -- what is free at the core is free in the pool
  pub objects-image : (d : State (Item V)) (visitors : List (Option (Visitor V))) (out : List (Item V))
      → free_objects (image runtime most next d visitors out) ≡ objects_left d
  objects-image d visitors out = let gets = length-map d.gets.granted (owner has_get visitors) in omega (arith, gets)

  pub room-image : (d : State (Item V)) (visitors : List (Option (Visitor V))) (out : List (Item V))
      → TrialInvariant d visitors out → free_room (image runtime most next d visitors out) ≡ room_left d
  room-image d visitors out k = let adds = length-map d.adds.granted (owner has_add visitors) in
      omega (arith, adds, k.outside)

  -- an object goes out, or comes in
  pub hands_out : (d : State (Item V)) (visitors : List (Option (Visitor V))) (out : List (Item V)) (item : Item V)
      (q : Pool V) → image runtime most next d visitors out ≡ q → last_idle d.idle ≡ Some item
      → hand_out q ≡ (Reply.Object item.number, image runtime most next (handed d) visitors (with_item item out))
  hands_out d visitors out item q same is = ap hand_out (sym same) ∙ (rw is refl)

  pub stores : (d : State (Item V)) (visitors : List (Option (Visitor V))) (out : List (Item V)) (item : Item V)
      (q : Pool V) → image runtime most next d visitors out ≡ q
      → store item q ≡ (Reply.Added item.number, image runtime most next (stored item d) visitors out)
  stores d visitors out item q same = ap (store item) (sym same)

  pub counted-handed : (d : State (Item V)) (visitors : List (Option (Visitor V))) (out : List (Item V)) (item : Item V)
      → TrialInvariant d visitors out → TrialInvariant (handed d) visitors (with_item item out)
  counted-handed d visitors out item k =
      record { gets = k.gets; adds = k.adds; outside = omega (arith, k.outside, length-with_item item out) }

  module _ (d : State (Item V)) (visitors : List (Option (Visitor V))) (out : List (Item V))
      (k : TrialInvariant d visitors out) (n : ℕ) (old new : Option (Visitor V))
      (here : slice_get visitors n ≡ Some old) where
    parties-set : map party_of (set visitors n new) ≡ set (map party_of visitors) n (party_of new)
    parties-set = map-set party_of visitors n new

    pub party-here : slice_get (map party_of visitors) n ≡ Some (party_of old)
    party-here = slice_get-map party_of visitors n ∙ (rw here refl)

    -- a visitor without a ticket changes, and gets none
    pub counted-set : NoTicket has_get old → NoTicket has_get new → NoTicket has_add old → NoTicket has_add new
        → TrialInvariant d (set visitors n new) out
    counted-set get_old get_new add_old add_new =
        record {
          gets = owned-set has_get d.gets visitors k.gets n old new here get_old get_new;
          adds = owned-set has_add d.adds visitors k.adds n old new here add_old add_new;
          outside = k.outside;
        }

    pub image-set : NoTicket has_get old → NoTicket has_get new → NoTicket has_add old → NoTicket has_add new
        → image runtime most next d (set visitors n new) out
        ≡ record (image runtime most next d visitors out) { parties = set (map party_of visitors) n (party_of new) }
    image-set get_old get_new add_old add_new =
        rw (
          parties-set,
          renamed-set has_get d.gets visitors k.gets n old new here get_old get_new,
          renamed-set has_add d.adds visitors k.adds n old new here add_old add_new,
        ) refl

    -- who was in no queue leaves none
    pub left-none : NoTicket has_get old → NoTicket has_add old
        → left n (image runtime most next d visitors out) ≡ image runtime most next d visitors out
    left-none get_old add_old =
        rw (
          absent has_get d.gets visitors k.gets n old new here get_old,
          absent has_add d.adds visitors k.adds n old new here add_old,
        ) refl

    -- nobody waits if nobody did
    pub nobody-set : NoTicket has_get old → NoTicket has_get new → NoTicket has_add old → NoTicket has_add new
        → NobodyWaits (image runtime most next d visitors out)
        → NobodyWaits (image runtime most next d (set visitors n new) out)
    nobody-set get_old get_new add_old add_new nobody =
        rw (
          renamed-set has_get d.gets visitors k.gets n old new here get_old get_new,
          renamed-set has_add d.adds visitors k.adds n old new here add_old add_new,
        )
        record { objects = nobody.objects; room = nobody.room }

    -- a get leaves its queue
    pub counted-without_get : (t : ℕ) → owner has_get visitors t ≡ n → OneTicket has_get t old → NoTicket has_get new
        → NoTicket has_add old → NoTicket has_add new
        → TrialInvariant (without_get t d) (set visitors n new) out
    counted-without_get t mine one no_new add_old add_new =
        record {
          gets = owned-leaves has_get d.gets visitors k.gets n old new here t mine one no_new;
          adds = owned-set has_add d.adds visitors k.adds n old new here add_old add_new;
          outside = k.outside;
        }

    pub image-without_get : (t : ℕ) → owner has_get visitors t ≡ n → OneTicket has_get t old → NoTicket has_get new
        → NoTicket has_add old → NoTicket has_add new
        → image runtime most next (without_get t d) (set visitors n new) out
        ≡ record (left n (image runtime most next d visitors out))
        { parties = set (map party_of visitors) n (party_of new) }
    image-without_get t mine one no_new add_old add_new =
        rw (
          parties-set,
          renamed-leaves has_get d.gets visitors k.gets n old new here t mine one no_new,
          renamed-set has_add d.adds visitors k.adds n old new here add_old add_new,
          absent has_add d.adds visitors k.adds n old new here add_old,
        ) refl

    -- an add leaves its queue
    pub counted-without_add : (t : ℕ) → owner has_add visitors t ≡ n → OneTicket has_add t old → NoTicket has_add new
        → NoTicket has_get old → NoTicket has_get new
        → TrialInvariant (without_add t d) (set visitors n new) out
    counted-without_add t mine one no_new get_old get_new =
        record {
          gets = owned-set has_get d.gets visitors k.gets n old new here get_old get_new;
          adds = owned-leaves has_add d.adds visitors k.adds n old new here t mine one no_new;
          outside = k.outside;
        }

    pub image-without_add : (t : ℕ) → owner has_add visitors t ≡ n → OneTicket has_add t old → NoTicket has_add new
        → NoTicket has_get old → NoTicket has_get new
        → image runtime most next (without_add t d) (set visitors n new) out
        ≡ record (left n (image runtime most next d visitors out))
        { parties = set (map party_of visitors) n (party_of new) }
    image-without_add t mine one no_new get_old get_new =
        rw (
          parties-set,
          renamed-leaves has_add d.adds visitors k.adds n old new here t mine one no_new,
          renamed-set has_get d.gets visitors k.gets n old new here get_old get_new,
          absent has_get d.gets visitors k.gets n old new here get_old,
        ) refl

    -- a get joins its queue
    pub counted-joined_get : (t : ℕ) → is_listed t d.gets ≡ false → NoTicket has_get old → OneTicket has_get t new
        → NoTicket has_add old → NoTicket has_add new
        → TrialInvariant (with_get t d) (set visitors n new) out
    counted-joined_get t fresh none one add_old add_new =
        record {
          gets = owned-joins has_get d.gets visitors k.gets n old new here t fresh none one;
          adds = owned-set has_add d.adds visitors k.adds n old new here add_old add_new;
          outside = k.outside;
        }

    pub image-joined_get : (t : ℕ) → is_listed t d.gets ≡ false → NoTicket has_get old → OneTicket has_get t new
        → NoTicket has_add old → NoTicket has_add new
        → image runtime most next (with_get t d) (set visitors n new) out
        ≡ record (image runtime most next d visitors out) {
          parties = set (map party_of visitors) n (party_of new);
          gets = joined n (renamed (owner has_get visitors) d.gets);
        }
    image-joined_get t fresh none one add_old add_new =
        rw (
          parties-set,
          renamed-joins has_get d.gets visitors k.gets n old new here t fresh none one,
          renamed-set has_add d.adds visitors k.adds n old new here add_old add_new,
        ) refl

    -- an add joins its queue
    pub counted-joined_add : (t : ℕ) → is_listed t d.adds ≡ false → NoTicket has_add old → OneTicket has_add t new
        → NoTicket has_get old → NoTicket has_get new
        → TrialInvariant (with_add t d) (set visitors n new) out
    counted-joined_add t fresh none one get_old get_new =
        record {
          gets = owned-set has_get d.gets visitors k.gets n old new here get_old get_new;
          adds = owned-joins has_add d.adds visitors k.adds n old new here t fresh none one;
          outside = k.outside;
        }

    pub image-joined_add : (t : ℕ) → is_listed t d.adds ≡ false → NoTicket has_add old → OneTicket has_add t new
        → NoTicket has_get old → NoTicket has_get new
        → image runtime most next (with_add t d) (set visitors n new) out
        ≡ record (image runtime most next d visitors out) {
          parties = set (map party_of visitors) n (party_of new);
          adds = joined n (renamed (owner has_add visitors) d.adds);
        }
    image-joined_add t fresh none one get_old get_new =
        rw (
          parties-set,
          renamed-joins has_add d.adds visitors k.adds n old new here t fresh none one,
          renamed-set has_get d.gets visitors k.gets n old new here get_old get_new,
        ) refl
