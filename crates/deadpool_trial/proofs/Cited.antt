-- What the proofs of a trial's functions cite, passed on from one place.
pub use Rattle.deadpool_trial.proofs.Basics.{◌≡◌, ◌∙◌, Some, None, length, vec_len, vec_capacity, arith, rules, map}
pub use Rattle.deadpool_trial.proofs.Basics.{refl, ap, slice_get, length-map, slice_get_read, slice_get_past}
pub use Rattle.deadpool_trial.proofs.Basics.{slice_get-map, option_map, set-same, sym, none_there, slice_get-get_or}
pub use Rattle.deadpool_trial.proofs.Basics.{[], ◌∷◌, ◌==◌, position, place_within, found_at_place, nothing_found, ⊤}
pub use Rattle.deadpool_trial.proofs.Basics.{has_number, subst, append_assoc, append-nil, into_iter_items}
pub use Rattle.deadpool_trial.proofs.Basics.{into_iter_len, none_left, one_less, ◌≤◌, List, ◌++◌, ◌+◌, nat_lt, true}
pub use Rattle.deadpool_trial.proofs.Basics.{false, lt-ltb, le-ltb, unwrap_or, length-with_numbered}
pub use Rattle.deadpool_trial.proofs.DeskImage.{starts, newcomer}
pub use Rattle.deadpool_trial.proofs.OutObjects.{back_known, put_at_place, put_counted}
pub use Rattle.deadpool_trial.proofs.OwnerSteps.{made_for_owner, without_handle, taken_known, taken}
pub use Rattle.deadpool_trial.proofs.Runs.{runs_more, runs_end}
pub use Rattle.deadpool_trial.proofs.RunsWell.{each_state, each_step}
pub use Rattle.deadpool_trial.proofs.Seen.{look_of-get}
pub use Rattle.deadpool_trial.proofs.TrialRetains.{retained_ok, retained_err}
pub use Rattle.deadpool_trial.proofs.TrialSteps.{out_fits, advanced, came_back, cancelled, leads_to_well, no_handle}
pub use Rattle.deadpool_trial.proofs.TrialSteps.{some_handle, polled}
pub use Rattle.deadpool_trial.proofs.Well.{opened_well}
pub use Rattle.deadpool_trial.proofs.Words.{Kept, move_of, party_of, find_slot, slot_number, may, image, with_put}
pub use Rattle.deadpool_trial.proofs.Words.{ManagerOf, LeavesOrKeeps, RetainerOf, Keeping, NobodyWaits, WaitsWithin}
pub use Rattle.deadpool_trial.proofs.Words.{WithinReach}
pub use Rattle.deadpool_trial.proofs.Words.{RunInvariant, MakesMove, Keeps, Pool, PoolRuns, Reply, unpolled, with_slot}
pub use Rattle.deadpool_trial.specs.declared.moves.Move.TheVariants.{Put, Retain, Start, Take}
pub use Rattle.deadpool_trial.specs.declared.moves.Reply.TheVariants.{Done, Started}
