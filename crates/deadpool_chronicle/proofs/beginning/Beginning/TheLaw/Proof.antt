-- A `&` to a beginning holds what it knows, which can be had twice. Assumes `Logic`.
use base.Before.{before}
use base.Logic.{snd∗}
use types.Logic.{sem}
use denote.Param.Laws.{Laws}
use denote.Param.Shared.{copy_shared}
use denote.Struct.Laws.{field_copy}
use denote.Struct.Lending.{of_Lends}
use Rattle.core.specs.contracts.marker.PhantomData as marker
use Rattle.deadpool_chronicle.proofs.Steps.{[], ◌∷◌, RattleType, Tuple, lends_twice}
use Rattle.deadpool_chronicle.specs.Owned.{beginning_owns}
use Rattle.deadpool_chronicle.specs.declared.blank.Chronicle.{Ghosts}
use Rattle.deadpool_chronicle.specs.contracts.beginning.Beginning as its
use Rattle.deadpool_chronicle.proofs.Changes.{twice}
use Rattle.deadpool_chronicle.proofs.beginning.Beginning.TheLaw.Statement.{statement}

pub shares : (E H : RattleType) (g : Ghosts H.Denot) (L : Laws E) (L' : Laws H) → statement E H g L L'
shares E H g L L' =
    let All = Tuple (E ∷ H ∷ []) in
    of_Lends (its.struct E H g) (its.the_codes E.Denot H.Denot E.coded H.coded (marker.the_row All).coded)
    (its.the_heap E H g) (its.the_lent E H g)
    (λ d p. record {
      contraction = λ M 𝓤 𝓛 κ. twice 𝓛 E.coded g.names d.log;
      mono = λ M 𝓤 𝓛 κ' κ. snd∗ 𝓤 (sem 𝓛 (before κ' κ)) (sem 𝓛 (beginning_owns E.coded g.names d.log));
    })
    (copy_shared (marker.the_field All) (field_copy (marker.the_type All) tt), tt)
    (λ M 𝓤 𝓛 d p. lends_twice 𝓛 (beginning_owns E.coded g.names d.log) (twice 𝓛 E.coded g.names d.log)
    (its.the_row E H g).lives)
