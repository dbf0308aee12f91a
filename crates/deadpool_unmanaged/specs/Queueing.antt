-- Whose next poll joins a queue.
use Rattle.std.specs.Prelude.{Bool, false, not, ◌&&◌, Option}
use Rattle.deadpool_parts.specs.Moments.{deadline_after, is_reached, cannot_wait}
use Rattle.deadpool_parts.specs.declared.moment.Moment.{Moment}
use Rattle.deadpool_parts.specs.declared.moment.Runtime.{Runtime}
use Rattle.deadpool_unmanaged.specs.State.{State, get_would_queue, add_would_queue}
use Rattle.deadpool_unmanaged.specs.declared.add.AddStage.{AddStage}
use Rattle.deadpool_unmanaged.specs.declared.add.AddStage.TheVariants as adding
use Rattle.deadpool_unmanaged.specs.declared.get.GetStage.{GetStage}
use Rattle.deadpool_unmanaged.specs.declared.get.GetStage.TheVariants as getting

module _ {T : Type 0} where
  -- a get that may wait, and finds no object
  abbrev pub get_joins : Option Runtime → Moment → GetStage → State T → Bool
  get_joins runtime now (getting.Unpolled wait) d =
      get_would_queue d && not (cannot_wait runtime wait) && not (is_reached (deadline_after now wait) now)
  get_joins runtime now _ d = false

  -- an add that finds no room
  abbrev pub add_joins : AddStage T → State T → Bool
  add_joins (adding.Unpolled value) d = add_would_queue d
  add_joins _ d = false
