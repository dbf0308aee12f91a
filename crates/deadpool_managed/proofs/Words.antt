-- The words of a get, its desk and its manager, and those of std, that the proofs cite, passed on from one place.
pub use Rattle.deadpool_desk.specs.CoreState.{CoreState}
pub use Rattle.deadpool_desk.specs.CoreSteps.{Makes as CoreMakes, unnotified_after, Queues}
pub use Rattle.deadpool_desk.specs.DeskState.{DeskState, places, next_idle, other_idle, settled}
pub use Rattle.deadpool_desk.specs.DeskSteps.{Serves, Does}
pub use Rattle.deadpool_desk.specs.Replies.{IsReplyTo}
pub use Rattle.deadpool_managed.specs.Metrics.{new_metrics}
pub use Rattle.deadpool_desk.specs.declared.desk.{Desk.Ghosts as DeskOf}
pub use Rattle.deadpool_desk.specs.declared.step.{Held.Held, Reply.Reply, Step.Step}
pub use Rattle.deadpool_managed.specs.declared.metrics.Metrics.{Metrics}
pub use Rattle.deadpool_managed.specs.Slots.{Slot}
pub use Rattle.deadpool_managed.specs.Bounds.{until_allowance, lacks_allowance, weight, Decreases, IsNewObject}
pub use Rattle.deadpool_managed.specs.Calls.{start, ask_hook, followed, ask_hooks}
pub use Rattle.deadpool_managed.specs.FirstPoll.{AtOnce, FirstPoll, FirstPollEnded, FirstCreation, in_order, IsGivenUp}
pub use Rattle.deadpool_managed.specs.FirstPoll.{EndsAt, TakesFirst, ChecksAs, CreatesAs, CreatesOne, MayPrepare}
pub use Rattle.deadpool_managed.specs.FirstPoll.{LeavesQueue}
pub use Rattle.deadpool_managed.specs.Get.{Made, no_step, making, Makes, IsReport, IsServing, AfterServed, AfterCreated}
pub use Rattle.deadpool_managed.specs.Get.{AfterCreation, AfterDiscard, AfterPrepared, AfterChecked, AdvancesCreation}
pub use Rattle.deadpool_managed.specs.Get.{AdvancesFrom, Advanced, Advances, PollsOver, ended_by, CancelsFrom}
pub use Rattle.deadpool_managed.specs.Holds.{WaitsUnder, held_at, ticket_at}
pub use Rattle.deadpool_managed.specs.HookLists.{HookLists}
pub use Rattle.deadpool_managed.specs.Outside.{May, Asking, PollCreation, PollHook, PollRecycling, Question, Answer}
pub use Rattle.deadpool_managed.specs.Outside.{may, may_hook, BeginCreation, BeginRecycling, CallHook, BeginHook}
pub use Rattle.deadpool_managed.specs.Outside.{Detach, Reserve}
pub use Rattle.deadpool_managed.specs.Phases.{IsPlaced, recycling_at, stage_of, turn_of, came_by, preparation_of}
pub use Rattle.deadpool_managed.specs.Phases.{PreparesIn, ChecksIn, GivesUpIn, DiscardsIn, RefusesIn, prepared_of}
pub use Rattle.deadpool_managed.specs.Prepare.{create, prepare, post_create, pre_recycled, begin_recycling, recycled}
pub use Rattle.deadpool_managed.specs.Prepare.{post_recycle, post_recycled, with_value, poll_recycling}
pub use Rattle.deadpool_managed.specs.Stages.{Prepared, Stage, Unpolled, Queued, Going, Creating, Recycling, Checking}
pub use Rattle.deadpool_managed.specs.Stages.{Finished, Preparation, PreRecycle}
pub use Rattle.deadpool_managed.specs.declared.calls.{Position.Position, Verdict.Verdict}
pub use Rattle.deadpool_managed.specs.declared.get.Turn.{Turn}
pub use Rattle.deadpool_managed.specs.declared.kept.Kept.{Kept}
pub use Rattle.deadpool_managed.specs.declared.hooks.{AsyncHook.Ghosts as AsyncHookOf, Hook.Hook}
pub use Rattle.deadpool_managed.specs.declared.hooks.{SyncHook.Ghosts as SyncHookOf}
pub use Rattle.deadpool_managed.specs.declared.manager.{Manager.Ghosts as ManagerOf}
pub use Rattle.deadpool_managed.specs.declared.prepare.{Outcome.Outcome, Preparing.Preparing}
pub use Rattle.deadpool_managed.specs.declared.work.{Came.Came, Phase.Phase}
pub use Rattle.deadpool_parts.proofs.Programs.{Gives-bind, Gives-more}
pub use Rattle.deadpool_parts.specs.Moments.{cannot_wait, deadline_after, lacks_runtime, is_reached}
pub use Rattle.deadpool_parts.specs.Program.{Program, Return, Ask, ◌>>=◌, Gives}
pub use Rattle.deadpool_parts.specs.Runs.{Each}
pub use Rattle.deadpool_parts.specs.declared.config.{QueueMode.QueueMode, Timeouts.Timeouts}
pub use Rattle.deadpool_parts.specs.declared.errors.{HookError.HookError, PoolError.PoolError}
pub use Rattle.deadpool_parts.specs.declared.errors.{RecycleError.RecycleError}
pub use Rattle.deadpool_parts.specs.declared.moment.{Moment.Moment, Runtime.Runtime}
pub use Rattle.futures.specs.Task.{Keeps}
pub use Rattle.futures.specs.declared.task.Poll.{Poll}
pub use Rattle.std.proofs.Common.{ap, ◌≡◌, ◌≢◌, ◌<◌, ℕ, Bool, List, [], ◌∷◌, map, true, false, Option, Some, None}
pub use Rattle.std.proofs.Common.{Result, Ok, Err, refl, sym, ◌∙◌, subst, inl, inr, arith, ◌+◌, drop, ◌-◌, ◌++◌, length}
pub use Rattle.std.proofs.Common.{not, ◌≤◌, ◌⊎◌, get_or, drop-cons, add-one, take, length-drop, length-take}
pub use Rattle.std.proofs.lemmas.Bool.{cases_Bool}
pub use Rattle.std.proofs.lemmas.List.{nil_from_length, reverse-append, reverse-reverse, take_more, take_all, drop_all}
pub use Rattle.std.proofs.lemmas.Option.{slice_get-get_or}
pub use Rattle.std.specs.Prelude.{⊤, unwrap_or, reverse, slice_get}
pub use Rattle.std.specs.declared.time.Duration.{Duration}
