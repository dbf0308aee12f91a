-- A history is made.
use Rattle.deadpool_chronicle.proofs.Steps.{[], ◌∷◌, refl, Val, SProp, ftrue, ‵, raw, ◌⊛◌, some, later, ◌$◌, ◌∵◌, ! }
use Rattle.deadpool_chronicle.proofs.Steps.{qed, by, keep, split, fjoin, pick, use0, await, no_more, and_then, returns}
use Rattle.deadpool_chronicle.proofs.Steps.{enter, alloc_all, pass_all, free_all, look_at, get, sets, agg, tables, owns}
use Rattle.deadpool_chronicle.proofs.Steps.{types_at, unit, nothing, Stays, walk_of, proved, token, Token, token_made}
use Rattle.deadpool_chronicle.proofs.Steps.{ends}
use base.Logic.{id⊢}
use Rattle.deadpool_chronicle.specs.Names.{Names}
use Rattle.deadpool_chronicle.specs.Owned.{blank_owns}
use Rattle.deadpool_chronicle.proofs.Changes.{begins}
use Rattle.deadpool_chronicle.specs.contracts.blank.Blank.new.{ended, clauses}
use Rattle.deadpool_chronicle.specs.contracts.blank.Blank.new.Key.{name as #self}
use Rattle.deadpool_chronicle.proofs.blank.Blank.new.Statement.{statement}
use Rattle.deadpool_chronicle.proofs.blank.Blank.new.Code as code

pub new_spec : {M : Type 1} → statement M
new_spec 𝓤 𝓛 𝓜 𝓡 wired =
    let H = 𝓛.H in let 𝓣 = tables 𝓤 H 𝓜 𝓡 𝓡.env in let fn = code.function in let c = clauses 𝓛 𝓜.mem 𝓡.returns in
    let hs : Stays ended.signature.params ended.kept = tt in
    proved 𝓛 ended hs c 𝓜 𝓡 tt #self fn (code.unfolded 𝓤 H 𝓜 𝓡 wired) (λ κs. tt) (λ κs. tt) (λ κs qs bounds a gh are.
    let y : (walk_of 𝓛 ended hs c).Ghost = ((κs, qs, bounds, a, tt), gh) in let Post : Val → SProp 𝓤 =
    (walk_of 𝓛 ended hs c).post y in
    qed 𝓛 ((‵ ftrue ⊛ ‵ (owns (types_at ended.signature.params κs) a y.0.4)) ∷ raw ((c κs a).requires gh) ∷ []) ∵ keep
    ! (0 ∷ []) $ split ! $ keep ! (0 ∷ []) $
    enter ! 𝓣.C 𝓣.Λ fn [] Post $ alloc_all ! (λ l. pass_all ! refl tt $
    use0 𝓛 (later (some (λ (n : Names). ‵ (blank_owns n)))) (begins 𝓛) $ await ! tt $ pick ! (λ n.
    use0 𝓛 (‵ ((Token unit).own_val (record {}, tt) (token ∷ []))) (token_made unit 𝓛) $ fjoin ! $
    sets ! (agg ! (no_more !)) refl (tt, tt) $ sets ! (agg ! (and_then ! (get ! refl) (no_more !))) refl (tt, (tt, tt))
    $ nothing ! $
    returns ! (look_at ! 0 refl) $ free_all ! refl $ keep ! (2 ∷ 0 ∷ 1 ∷ []) $
    by ! (ends 𝓛 ended hs c y token (record { marker = record {}; names = n }) tt tt (id⊢ 𝓤 _)))))
