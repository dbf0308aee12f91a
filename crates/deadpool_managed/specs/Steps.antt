-- What a get is lent for a step, and the notation of what its steps do.
use Rattle.std.specs.Prelude.{◌≡◌, Option}
use Rattle.deadpool_parts.specs.declared.moment.Moment.{Moment}
use Rattle.deadpool_parts.specs.declared.moment.Runtime.{Runtime}
use Rattle.deadpool_parts.specs.declared.config.Timeouts.{Timeouts}
use Rattle.deadpool_managed.specs.HookLists.{HookLists}
use Rattle.deadpool_managed.specs.Outside.{May, may}
use Rattle.deadpool_managed.specs.Get.{Made, Makes, AdvancesFrom, IfReadyObject, PollsOver, CancelsFrom}
use Rattle.deadpool_managed.specs.Holds.{held_after}
use Rattle.deadpool_managed.specs.Phases.{IsPlaced, stage_of, turn_of}
use Rattle.deadpool_managed.specs.Stages.{Stage}
use Rattle.deadpool_managed.specs.declared.get.Turn.{Turn}
use Rattle.deadpool_managed.specs.declared.hooks.AsyncHook.{Ghosts as AsyncHookOf}
use Rattle.deadpool_managed.specs.declared.hooks.SyncHook.{Ghosts as SyncHookOf}
use Rattle.deadpool_managed.specs.declared.kept.Kept.{Kept}
use Rattle.deadpool_managed.specs.declared.manager.Environment.{Environment}
use Rattle.deadpool_managed.specs.declared.manager.Manager.{Ghosts as ManagerOf}
use Rattle.deadpool_managed.specs.declared.work.Came.{Came}
use Rattle.deadpool_managed.specs.declared.work.Came.TheVariants.{Given}
use Rattle.deadpool_managed.specs.declared.work.Phase.TheVariants.{Finished}
use Rattle.deadpool_managed.specs.declared.work.Work.{Work}
use Rattle.deadpool_desk.specs.declared.desk.Desk.{Ghosts as DeskOf}
use Rattle.deadpool_desk.specs.declared.step.Held.{Held}

-- what a get is lent for a step: which answers its manager and hooks may give, what may serve its timeouts, its hooks,
-- what time it is, and its timeouts
pub record Lent (V E C R S F A : Type 0) : Type 1 where
  pub may : May V E C R S F A
  pub runtime : Option Runtime
  pub hooks : HookLists F A
  pub now : Moment
  pub timeouts : Timeouts

module _ {M F A V E C R S : Type 0} where
  -- what a pool lends to a get, by the relations of its manager and its hooks
  abbrev pub lent : ManagerOf M V E C R → SyncHookOf F M V E C R → AsyncHookOf A M S V E C R
      → Environment M F A V E C R S → Moment → Timeouts → Lent V E C R S F A
  lent m f a environment now timeouts =
      record {
        may = may m f a environment.manager;
        runtime = environment.runtime;
        hooks = environment.hooks;
        now = now;
        timeouts = timeouts;
      }

module _ {M A V E C R S : Type 0} where
  -- the stage that a get at work is at
  abbrev pub stage_at : Work M A V E C R S → Stage V C R S
  stage_at work = stage_of work.phase work.slot

  -- what a step came to, with the object that it left to be given
  abbrev pub turn_at : Came E → Work M A V E C R S → Turn V E
  turn_at came work = turn_of came work.slot

  -- what a get at work holds at its desk after a step
  abbrev pub held_now : Came E → Work M A V E C R S → Option Held
  held_now came work = held_after (stage_at work) (turn_at came work)

-- What a step leaves that came to this. The object is in its place where the phase has one, and ready where it has to
-- be; one that is given is ready, and ends the get; and the desk is held by as much as the get stands for then.
pub record Leaves {D M A V E C R S : Type 0} (d : DeskOf D (Kept V)) (P : V → Type 0) (desk : D) (came : Came E)
    (work : Work M A V E C R S) : Type 0 where
  pub placed : IsPlaced P work.phase work.slot
  pub given : came ≡ Given → work.phase ≡ Finished
  pub ready : IfReadyObject P (turn_at came work)
  pub holds : d.holds desk (held_now came work)

module _ {D V E C R S F A : Type 0} (d : DeskOf D (Kept V)) where
  -- one advance: at most one step at the desk, from a stage to the next, and what it comes to
  abbrev pub AdvancesAt : Lent V E C R S F A → D → Stage V C R S → D → Stage V C R S → Turn V E → Type 0
  AdvancesAt lent desk stage desk' stage' turn =
      (made : Made V) × (Makes d desk made desk'
      × AdvancesFrom lent.may lent.runtime lent.hooks lent.now lent.timeouts stage made stage' turn)

  -- one poll: advances up to the first that has nothing more to do at once
  abbrev pub PollsAt : Lent V E C R S F A → D → Stage V C R S → D → Stage V C R S → Turn V E → Type 0
  PollsAt lent desk stage desk' stage' turn =
      PollsOver d lent.may lent.runtime lent.hooks lent.now lent.timeouts desk stage desk' stage' turn

  -- a cancel: at most one step at the desk, by which the get gives back what it holds at its stage
  abbrev pub CancelsAt : May V E C R S F A → D → Stage V C R S → D → Type 0
  CancelsAt may desk stage desk' = (made : Made V) × (Makes d desk made desk' × CancelsFrom may stage made)
