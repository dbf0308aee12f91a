-- The law that no party stands in two lists, nor twice in one.
use Rattle.deadpool_trial.proofs.OfUnmanaged.{Words.IsListedOnce, Well.each_state, Well.listed_once}
use Rattle.deadpool_trial.proofs.unmanaged.laws.party_in_one_list.Goals as goal

pub returns : goal.returns
returns g c = each_state IsListedOnce listed_once
