-- Threads may share the beginning of a history: a borrow of it has no key either.
use denote.RattleType.{RattleType}
use denote.Param.Send.{IsSync, sendable}
use denote.Struct.Owning.{shape}
use denote.Struct.Struct.{Struct}
use Rattle.deadpool_chronicle.specs.declared.blank.Chronicle.{Ghosts}
use Rattle.deadpool_chronicle.specs.contracts.beginning.Beginning.{the_row, the_type}
use Rattle.deadpool_chronicle.proofs.Sent.{beginning_keyless}

pub sync : (E H : RattleType) (g : Ghosts H.Denot) → IsSync (the_row E H g)
sync E H g =
    let fields : IsSync (Struct (shape (the_type E H g))) = search sendable depth 20 in
    record { shared = λ d b o ν. (fields.shared (tt, tt) b o ν, beginning_keyless E.coded g.names d.log) }
