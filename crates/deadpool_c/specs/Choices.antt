-- A retain by a choice that was made beforehand: a byte for each idle object, front to back.
use Rattle.std.specs.Prelude.{◌≡◌, ⊤, ℕ, Bool, true, ◌==◌, not, List, [], ◌∷◌, length, drop, Result, Ok, Err}
use Rattle.std.specs.declared.alloc.AllocError.{AllocError}
use Rattle.deadpool_desk.specs.Retained.{Retained}
use Rattle.deadpool_desk.specs.declared.retain.Retainer.{Ghosts as RetainerOf}
use Rattle.deadpool_journal.specs.Journaling.{Journaling}
use Rattle.deadpool_journal.specs.Steps.{RetainsNoted}
use Rattle.deadpool_c.specs.Keys.{Writes}
use Rattle.deadpool_c.specs.Replies.{plain}
use Rattle.deadpool_c.specs.declared.choice.Choice.{Choice}
use Rattle.deadpool_c.specs.declared.reply.Reply.{Reply}
use Rattle.deadpool_c.specs.declared.reply.TheConstants.{DONE, OUT_OF_MEMORY}

-- whether the next object is kept: not if its byte is 0
abbrev pub is_kept : List ℕ → Bool
is_kept [] = true
is_kept (byte ∷ bytes) = not (byte == 0)

-- a retainer that keeps the objects by these bytes, and leaves each value as it is
abbrev pub choice_asks : RetainerOf Choice ℕ ℕ
choice_asks = record {
  can_call = λ _. ⊤;
  may_keep = λ choice _ _ kept after. (kept ≡ is_kept choice.keep.now) × (after.keep.now ≡ drop 1 choice.keep.now);
  may_detach = λ choice value left after. (left ≡ value) × (after ≡ choice);
}

-- how many went, and how many stay
abbrev pub raw_retain : Result (Retained ℕ) AllocError → Reply
raw_retain (Ok given) = record { kind = DONE; number = length given.removed; key = 0; left = given.retained }
raw_retain (Err refused) = plain OUT_OF_MEMORY

-- the keys of those that went are written
abbrev pub GivesRemoved : Result (Retained ℕ) AllocError → List ℕ → List ℕ → Type 0
GivesRemoved (Ok given) old new = Writes given.removed old new
GivesRemoved (Err refused) old new = new ≡ old

abbrev pub RetainsRaw : Journaling ℕ → List ℕ → List ℕ → Reply → Journaling ℕ → List ℕ → Type 0
RetainsRaw j keep old raw j' new =
    (first : Choice) × (last : Choice) × (result : Result (Retained ℕ) AllocError) × (first.keep.now ≡ keep)
    × RetainsNoted choice_asks j first result j' last × GivesRemoved result old new × (raw ≡ raw_retain result)
