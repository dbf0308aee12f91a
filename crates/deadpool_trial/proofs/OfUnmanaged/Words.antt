-- The words of the pool that the proofs cite, passed on from one place.
pub use Rattle.deadpool_gate.proofs.Queues.{nobody_waits-served, served-settled, served_within, members-without}
pub use Rattle.deadpool_gate.proofs.Queues.{members-joined, members-served}
pub use Rattle.deadpool_unmanaged.specs.Adds.{PollsAdd, held_by, stage_after as add_stage_after}
pub use Rattle.deadpool_unmanaged.specs.Adds.{turn_after as add_turn_after}
pub use Rattle.deadpool_unmanaged.specs.Gets.{PollsGet, stage_after, turn_after}
pub use Rattle.deadpool_unmanaged.specs.Replies.{Leaves as LeavesHand}
pub use Rattle.deadpool_unmanaged.specs.State.{State, last_idle, other_idle, settled, free_room as room_left}
pub use Rattle.deadpool_unmanaged.specs.State.{free_objects as objects_left, status_of as state_status}
pub use Rattle.deadpool_unmanaged.specs.StateSteps.{Does, without_add, with_add, stored, without_get, with_get, handed}
pub use Rattle.deadpool_unmanaged.specs.StateSteps.{Clones, DropsHandle, Upgrades, closed_pool, one_handle_more}
pub use Rattle.deadpool_unmanaged.specs.declared.{add.AddStage.AddStage, error.PoolError.PoolError}
pub use Rattle.deadpool_unmanaged.specs.declared.{get.GetStage.GetStage, get.GetStage.TheVariants.Unpolled}
pub use Rattle.deadpool_unmanaged.specs.declared.{get.GetStage.TheVariants.Queued, get.GetStage.TheVariants.Finished}
pub use Rattle.deadpool_unmanaged.specs.declared.{step.Reply.Reply as CoreReply}
pub use Rattle.deadpool_unmanaged.specs.declared.step.Step.TheVariants.{GetEnter, GetAsk, AddEnter, AddAsk, Back, Take}
pub use Rattle.deadpool_unmanaged.specs.declared.error.PoolError.TheVariants.{Closed, Crowded, OutOfMemory, Timeout}
pub use Rattle.deadpool_unmanaged.specs.declared.error.PoolError.TheVariants.{NoRuntimeSpecified}
pub use Rattle.deadpool_trial.specs.Unmanaged.{Laws.HasRoom, Laws.PoolInvariant}
pub use Rattle.deadpool_trial.specs.Unmanaged.Look.{look_of}
pub use Rattle.deadpool_trial.specs.declared.unmanaged.moves.{Item.Item, Move.Move, Reply.Reply}
pub use Rattle.deadpool_trial.specs.declared.unmanaged.trial.{Turn.Turn, Visitor.Visitor}
pub use Rattle.deadpool_trial.specs.Unmanaged.Image.{image, party_of, has_add, TrialInvariant, has_get}
pub use Rattle.deadpool_trial.specs.Unmanaged.Moves.{NobodyWaits, Gives, unsettled, moved, by_party, IsWithinLimit}
pub use Rattle.deadpool_trial.specs.Unmanaged.Moves.{by_newcomer, by_number, started, PoolRuns}
pub use Rattle.deadpool_trial.specs.Unmanaged.Pool.{Pool, new_add, queued_add, finished, free_room, settle, Party}
pub use Rattle.deadpool_trial.specs.Unmanaged.Pool.{new_get, queued_get, free_objects, opened, size, status_of}
pub use Rattle.deadpool_trial.specs.Unmanaged.Pool.{bounded}
pub use Rattle.deadpool_trial.specs.Unmanaged.RunLaws.{RunInvariant, so_many, HasQueued, CountsOn, KeepsPromises}
pub use Rattle.deadpool_trial.specs.Unmanaged.RunLaws.{IsEmptyIfClosed, brings, brought_by, asks_for_object}
pub use Rattle.deadpool_trial.specs.Unmanaged.RunLaws.{asks_for_room, copies, brought_in, named, may_leave, OpensWell}
pub use Rattle.deadpool_trial.specs.Unmanaged.RunLaws.{IsNumbered, HasRoomForAll, IsListedOnce, Succeeds, EachState}
pub use Rattle.deadpool_trial.specs.Unmanaged.RunLaws.{EachStep, EachLater, EachMove, EndsWell, NoneReturns}
pub use Rattle.deadpool_trial.specs.Unmanaged.RunLaws.{OthersStayInPool, OthersStayQueued, OthersStand, HasTheQueued}
pub use Rattle.deadpool_trial.specs.Unmanaged.RunLaws.{KeepsQueues}
pub use Rattle.deadpool_trial.specs.Unmanaged.Steps.{ended, store, enter_add, inquire_add, item_number, hand_out}
pub use Rattle.deadpool_trial.specs.Unmanaged.Steps.{with_item, poll, enter_get, inquire_get, find_item, without_item}
pub use Rattle.deadpool_trial.specs.Unmanaged.Steps.{cancelled, try_get, try_store, back, take_out, closed, cloned}
pub use Rattle.deadpool_trial.specs.Unmanaged.Steps.{handle_dropped, left, handed as pool_handed}
pub use Rattle.deadpool_trial.specs.Unmanaged.TrialFields.{added, given, reply_to, got, IsAtOnce, IsRefusal, IsKnown}
pub use Rattle.deadpool_trial.specs.Unmanaged.TrialFields.{refusal_of, reply_to_try_add, reply_to_back}
pub use Rattle.deadpool_trial.specs.Unmanaged.TrialFields.{reply_to_handle, CancelsVisitor, PollsVisitor, look_at_get}
pub use Rattle.deadpool_trial.specs.Unmanaged.TrialFields.{look_at_add}
