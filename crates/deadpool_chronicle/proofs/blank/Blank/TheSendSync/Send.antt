-- A blank for a history may go to another thread: it has no key of memory that is shared.
use denote.Param.Send.{IsSend}
use Rattle.deadpool_chronicle.specs.contracts.blank.Blank.{the_row}
use Rattle.deadpool_chronicle.proofs.Sent.{blank_keyless}

pub send : IsSend the_row
send = record {
  owned = λ d vs. ((λ vss. (tt, ((λ uss. (tt, tt)), tt))), blank_keyless d.names);
  leaving = λ k f vs. tt;
}
