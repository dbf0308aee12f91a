-- An author may go to another thread: it has no key of memory that is shared.
use denote.RattleType.{RattleType}
use denote.Param.Send.{IsSend}
use Rattle.deadpool_chronicle.specs.declared.blank.Chronicle.{Ghosts}
use Rattle.deadpool_chronicle.specs.contracts.author.Author.{the_row}
use Rattle.deadpool_chronicle.proofs.Sent.{author_keyless}

pub send : (E H : RattleType) (g : Ghosts H.Denot) → IsSend (the_row E H g)
send E H g = record {
  owned = λ d vs. ((λ vss. (tt, ((λ uss. (tt, tt)), tt))), author_keyless E.coded g.names d.log);
  leaving = λ k f vs. tt;
}
