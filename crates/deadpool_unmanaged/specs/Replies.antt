-- Which replies a step may have, and what is in the hand then.
use Rattle.std.specs.Prelude.{◌≡◌, ⊤, Option, None, IsSome}
use Rattle.deadpool_unmanaged.specs.declared.step.Reply.{Reply}
use Rattle.deadpool_unmanaged.specs.declared.step.Reply.TheVariants.{Object, Stored, Closed, Full, Waiting, OutOfMemory}
use Rattle.deadpool_unmanaged.specs.declared.step.Reply.TheVariants.{Crowded, Expired, Done, Kept, Dropped, Taken}
use Rattle.deadpool_unmanaged.specs.declared.step.Reply.TheVariants.{Unknown}
use Rattle.deadpool_unmanaged.specs.declared.step.Step.{Step}
use Rattle.deadpool_unmanaged.specs.declared.step.Step.TheVariants.{GetEnter, GetAsk, GetCancel, AddEnter, AddAsk}
use Rattle.deadpool_unmanaged.specs.declared.step.Step.TheVariants.{AddCancel, Back, Take}

abbrev pub IsReplyTo : Step → Reply → Type 0
IsReplyTo (GetEnter wait) Object = ⊤
IsReplyTo (GetEnter wait) Closed = ⊤
IsReplyTo (GetEnter wait) Full = ⊤
IsReplyTo (GetEnter wait) Crowded = ⊤
IsReplyTo (GetEnter wait) (Waiting ticket) = ⊤
IsReplyTo (GetEnter wait) OutOfMemory = ⊤
IsReplyTo (GetAsk ticket expired) Object = ⊤
IsReplyTo (GetAsk ticket expired) Closed = ⊤
IsReplyTo (GetAsk ticket expired) Expired = ⊤
IsReplyTo (GetAsk ticket expired) (Waiting same) = same ≡ ticket
IsReplyTo (GetAsk ticket expired) Unknown = ⊤
IsReplyTo (GetCancel ticket) Done = ⊤
IsReplyTo (GetCancel ticket) Unknown = ⊤
IsReplyTo (AddEnter wait) Stored = ⊤
IsReplyTo (AddEnter wait) Closed = ⊤
IsReplyTo (AddEnter wait) Full = ⊤
IsReplyTo (AddEnter wait) Crowded = ⊤
IsReplyTo (AddEnter wait) (Waiting ticket) = ⊤
IsReplyTo (AddEnter wait) OutOfMemory = ⊤
IsReplyTo (AddAsk ticket) Stored = ⊤
IsReplyTo (AddAsk ticket) Closed = ⊤
IsReplyTo (AddAsk ticket) (Waiting same) = same ≡ ticket
IsReplyTo (AddAsk ticket) Unknown = ⊤
IsReplyTo (AddCancel ticket) Done = ⊤
IsReplyTo (AddCancel ticket) Unknown = ⊤
IsReplyTo Back Kept = ⊤
IsReplyTo Back Dropped = ⊤
IsReplyTo Back Unknown = ⊤
IsReplyTo Take Taken = ⊤
IsReplyTo Take Unknown = ⊤
IsReplyTo _ _ = ⊥

module _ {T : Type 0} where
  -- only an object that is added or comes back is in the hand at the start
  abbrev pub Brings : Step → Option T → Type 0
  Brings (AddEnter wait) hand = IsSome hand
  Brings (AddAsk ticket) hand = IsSome hand
  Brings Back hand = IsSome hand
  Brings _ hand = hand ≡ None

  -- an object that is given is in the hand then, one that is stored or kept is not, and otherwise the hand is as it was
  abbrev pub Leaves : Reply → Option T → Option T → Type 0
  Leaves Object was hand = IsSome hand
  Leaves Stored was hand = hand ≡ None
  Leaves Kept was hand = hand ≡ None
  Leaves _ was hand = hand ≡ was
