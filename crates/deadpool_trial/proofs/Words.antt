-- The words of a pool, its desk and its gets that the proofs cite, passed on from one place, and a get at a stage.
use Rattle.deadpool_trial.proofs.Basics.{Option, Some}
pub use Rattle.deadpool_trial.specs.Image.{party_of, standing_of, TrialInvariant, has_ticket}
pub use Rattle.deadpool_trial.specs.Image.{queue_of, is_under_way, image}
pub use Rattle.deadpool_trial.specs.Laws.{PoolInvariant, queue, is_queued, waits_at, MarksQueued}
pub use Rattle.deadpool_trial.specs.Moves.{one_step, by_party, resize, staying, give_up, retain_with, retain}
pub use Rattle.deadpool_trial.specs.Moves.{by_handle, started, put_at, back_at, take_at, NobodyWaits, WaitsWithin}
pub use Rattle.deadpool_trial.specs.Moves.{Polls, is_more}
pub use Rattle.deadpool_trial.specs.Moves.{MakesMove, PoolRuns, WithinReach, stays}
pub use Rattle.deadpool_trial.specs.Party.{created, reviewed, checked, hand_out, advance_at, cancel, advance, enter}
pub use Rattle.deadpool_trial.specs.Party.{inquire, joined, go_on_creating, cancel_with}
pub use Rattle.deadpool_trial.specs.Pool.{Pool, Party, size, prepared_at, is_going, is_creating, prepared_by, settle}
pub use Rattle.deadpool_trial.specs.Pool.{least_idle, unpolled, reach, status_of, grants, places, pending, Standing}
pub use Rattle.deadpool_trial.specs.Pool.{queued, going, preparing, goes, creates, creating, recycling, checking}
pub use Rattle.deadpool_trial.specs.Pool.{finished, creating_count, bounded, opened}
pub use Rattle.deadpool_trial.specs.RunLaws.{LeavesEnough, IsOutIfGiven, IsIdleIfKept, HasFewIdle, prepared_in}
pub use Rattle.deadpool_trial.specs.RunLaws.{sets_limit, named, may_leave, numbers, places_from, is_preparing, listed}
pub use Rattle.deadpool_trial.specs.RunLaws.{IsListedOnce, EachReply, RunInvariant, Succeeds, NoneReturns, EachState}
pub use Rattle.deadpool_trial.specs.RunLaws.{EachStep, EachLater, EachMove, EndsWell, StaysWithin, IsNumbered}
pub use Rattle.deadpool_trial.specs.RunLaws.{CountsOn, OthersStayQueued, OthersStand, IsEmptyIfClosed, KeepsMinIdle}
pub use Rattle.deadpool_trial.specs.RunLaws.{OthersStayInPool, KeepsQueue}
pub use Rattle.deadpool_trial.specs.Steps.{fail, rest, go_on, with_slot, slot_number, find_slot, without_slot}
pub use Rattle.deadpool_trial.specs.Steps.{given_up, resized, with_put, closed, cloned, handle_dropped, removed}
pub use Rattle.deadpool_trial.specs.Steps.{unqueued, serve_from, to, serve}
pub use Rattle.deadpool_trial.specs.TrialFields.{given, reply_to, IsTaken, reply_to_back, reply_to_take, move_of}
pub use Rattle.deadpool_trial.specs.TrialFields.{reply_to_owner}
pub use Rattle.deadpool_trial.specs.declared.moves.Move.{Move}
pub use Rattle.deadpool_trial.specs.declared.moves.Reply.{Reply}
pub use Rattle.deadpool_trial.specs.declared.trial.Setup.{Setup}
pub use Rattle.deadpool_trial.specs.declared.trial.owner.Keeping.{Keeping}
pub use Rattle.deadpool_managed.proofs.CoreDesk.{core_desk, own_desk, makes_at_desk}
pub use Rattle.deadpool_managed.proofs.CorePolls.{polls_at_desk}
pub use Rattle.deadpool_managed.proofs.Served.{again_served}
pub use Rattle.deadpool_managed.proofs.IdleLists.{other_idle-shorter}
pub use Rattle.deadpool_managed.specs.Answers.{LeavesOrKeeps}
pub use Rattle.deadpool_managed.specs.Calls.{start, ask_hooks}
pub use Rattle.deadpool_desk.specs.CoreState.{CoreState}
pub use Rattle.deadpool_desk.specs.DeskState.{DeskState, settled, places as desk_places, grants as desk_grants}
pub use Rattle.deadpool_desk.specs.DeskState.{size as desk_size, pending as desk_pending, status_of as desk_status_of}
pub use Rattle.deadpool_desk.specs.DeskState.{next_idle, other_idle, least_idle as desk_least_idle}
pub use Rattle.deadpool_desk.specs.DeskSteps.{Does, Serves, GivesUp as DeskGivesUp, is_listed}
pub use Rattle.deadpool_desk.specs.DeskSteps.{unqueued as desk_unqueued, given_up as desk_given_up, DoesForOwner}
pub use Rattle.deadpool_desk.specs.DeskSteps.{resized as desk_resized}
pub use Rattle.deadpool_desk.specs.Replies.{IsReplyTo, Leaves as LeavesInHand}
pub use Rattle.deadpool_managed.specs.Get.{Made, no_step, making, Makes, AfterServed, AfterCreation, AfterPrepared}
pub use Rattle.deadpool_managed.specs.Get.{AfterChecked, AdvancesCreation, ended_by, CancelsFrom, GivesUp, AdvancesFrom}
pub use Rattle.deadpool_managed.specs.Get.{Advanced, Advances, PollsOver}
pub use Rattle.deadpool_managed.specs.HookLists.{HookLists}
pub use Rattle.deadpool_managed.specs.Metrics.{new_metrics}
pub use Rattle.deadpool_managed.specs.Outside.{May, Asking, may, Reserve, Detach}
pub use Rattle.deadpool_managed.specs.Prepare.{create, prepare, pre_recycled, begin_recycling, poll_recycling, recycled}
pub use Rattle.deadpool_managed.specs.Prepare.{post_recycle, post_recycled, post_create, with_value, object_of}
pub use Rattle.deadpool_desk.specs.Retained.{Retained}
pub use Rattle.deadpool_desk.specs.Retains.{Reviews, Retains}
pub use Rattle.deadpool_managed.specs.Stages.{Getting, Stage, Preparation, PreRecycle, Recycle, PostRecycle, Prepared}
pub use Rattle.deadpool_managed.specs.Stages.{Accepted, GivenUp, Pending}
pub use Rattle.deadpool_desk.specs.declared.owner_step.OwnerReply.{OwnerReply}
pub use Rattle.deadpool_desk.specs.declared.owner_step.OwnerStep.{OwnerStep}
pub use Rattle.deadpool_desk.specs.declared.step.Held.{Held}
pub use Rattle.deadpool_desk.specs.declared.step.Reply.{Reply as DeskReply}
pub use Rattle.deadpool_desk.specs.declared.step.Step.{Step}
pub use Rattle.deadpool_managed.specs.declared.get.Turn.{Turn}
pub use Rattle.deadpool_managed.specs.declared.hooks.AsyncHook.{Ghosts as AsyncHookOf}
pub use Rattle.deadpool_managed.specs.declared.hooks.SyncHook.{Ghosts as SyncHookOf}
pub use Rattle.deadpool_managed.specs.declared.manager.Manager.{Ghosts as ManagerOf}
pub use Rattle.deadpool_managed.specs.declared.calls.Position.{Position}
pub use Rattle.deadpool_managed.specs.declared.calls.Verdict.{Verdict}
pub use Rattle.deadpool_desk.specs.declared.retain.Retainer.{Ghosts as RetainerOf}
pub use Rattle.deadpool_managed.specs.Slots.{Slot}
pub use Rattle.deadpool_managed.specs.declared.kept.Kept.{Kept}
pub use Rattle.deadpool_parts.specs.Moments.{deadline_after, is_reached, lacks_runtime, is_positive}
pub use Rattle.deadpool_parts.specs.declared.config.QueueMode.{QueueMode}
pub use Rattle.deadpool_parts.specs.declared.config.QueueMode.TheVariants.{Fifo, Lifo}
pub use Rattle.deadpool_parts.specs.declared.config.Timeouts.{Timeouts}
pub use Rattle.deadpool_parts.specs.declared.errors.PoolError.{PoolError}
pub use Rattle.deadpool_parts.specs.declared.errors.PoolError.TheVariants.{Timeout, Backend, NoRuntimeSpecified}
pub use Rattle.deadpool_parts.specs.declared.errors.PoolError.TheVariants.{Crowded}
pub use Rattle.deadpool_parts.specs.declared.errors.PoolError.TheVariants.{PostCreateHook, Closed, OutOfMemory}
pub use Rattle.deadpool_parts.specs.declared.errors.PoolError.TheVariants.{NumbersExhausted}
pub use Rattle.deadpool_parts.specs.declared.errors.RecycleError.{RecycleError}
pub use Rattle.deadpool_parts.specs.declared.moment.Moment.{Moment}
pub use Rattle.deadpool_parts.specs.declared.moment.Runtime.{Runtime}
pub use Rattle.deadpool_parts.specs.declared.status.Status.{Status}
pub use Rattle.futures.specs.Task.{Keeps}
pub use Rattle.futures.specs.declared.task.Poll.{Poll}

module _ {V C R S : Type 0} where
  -- a get at a stage, with its own timeouts
  abbrev pub get_at : Timeouts → Stage V C R S → Option (Getting V C R S)
  get_at own s = Some record { timeouts = own; stage = s }

  abbrev pub party_at : Timeouts → Stage V C R S → Party V C R S
  party_at own s = record { timeouts = own; standing = standing_of s }
