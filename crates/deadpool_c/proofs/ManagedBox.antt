-- The box of a managed pool's state, and the block that leads to the state.
use Rattle.deadpool_c.proofs.Steps.{refl, sym, List, [], ◌∷◌, Ura, id⊢, ◌⊑◌, ⊑_static, Running, no, arg, layout}
use Rattle.deadpool_c.proofs.Steps.{GlueMet, Laws, arg_laws, RattleType, Ptr, InBlock, at_block, block_ptr, block_of}
use Rattle.deadpool_c.proofs.Steps.{count_of, Slot, plain, run_framed, widened, raw_type as raw, Dict, Callee, impl}
use Rattle.deadpool_c.proofs.Steps.{tnil, dnil, method, no_args, Val, Model, Wired, Goal, Step, step, Item, ‵, ◌$◌}
use Rattle.deadpool_c.proofs.Steps.{use1, rewrite, Logic, box_row, heap_row, ghosts}
use Rattle.deadpool_c.proofs.{BoxCalls.lets_go, Unboxed.Boxed, Unboxed.owned}
use Rattle.deadpool_c.proofs.managed_state.ManagedState.TheLaws.{the_row_laws}
use Rattle.deadpool_c.proofs.deadpool_c++managed_state++ManagedState+Destruct.drop
use Rattle.deadpool_c.specs.contracts.managed_block.ManagedPool as Block
use Rattle.deadpool_c.specs.contracts.managed_state.ManagedState as State

-- the state, as a call is given it
abbrev pub S : RattleType
S = arg (raw (layout State.the_row)) no State.the_row

abbrev pub L : Laws S
L = arg_laws (raw (layout State.the_row)) no State.the_row the_row_laws refl

-- a box of it, as a parameter
abbrev pub AsPassed : Slot 0
AsPassed = plain (λ _. box_row State.the_row heap_row ghosts)

pub lasting : [] ⊑ S.lives
lasting = ⊑_static []

abbrev pub dropping : Dict
dropping = impl (drop.Symbol.symbol ∷ []) tnil dnil

abbrev dropping_key : Callee
dropping_key = method dropping 0 no_args

pub let_go : {M : Type 1} (𝓤 : Ura M) (𝓛 : Logic 𝓤) (𝓜 : Model 𝓤 𝓛.H) (𝓡 : Running 𝓤 𝓛.H 𝓜)
    → Wired 𝓡.env drop.Symbol.code → GlueMet 𝓛 𝓜 𝓡 𝓡.env S dropping
let_go 𝓤 𝓛 𝓜 𝓡 w =
    lets_go State.the_row 𝓛 (𝓡.run (𝓡.env dropping_key)) (run_framed 𝓤 𝓛.H 𝓜 𝓡 (𝓡.env dropping_key))
    (widened 𝓤 𝓛.H _ 𝓜 𝓡 𝓡.env (𝓡.env drop.Symbol.name) (𝓡.env dropping_key)
    (drop.Symbol.as_method 𝓡.env w dropping_key refl) (drop.Met.met 𝓤 𝓛 𝓜 𝓡 w))

abbrev pub as_box : Block.the_row.Denot → Boxed S L
as_box p = record { ptr = p.at; alloc = p.alloc; value = p.state }

-- a block that is not null owns what a box at its fields owns
module _ {M : Type 1} {𝓤 : Ura M} {𝓛 : Logic 𝓤} {K : Type 0} {Γ : List (Item 𝓤)} {G : Goal 𝓤 𝓛.H} where
  pub is_a_box : K → (p : Block.the_row.Denot) → InBlock p.at → (vs : List Val)
      → Step K 𝓛 (‵ (owned S L (as_box p) vs) ∷ Γ) G (‵ (Block.the_row.own_val p vs) ∷ Γ) G
  is_a_box t p inside vs = step (λ s.
      rewrite t 0 (λ (q : Ptr). ‵ (Block.the_row.own_val (record p { at = q }) vs)) (at_block p.at inside) refl $
      use1 𝓛 (‵ (owned S L (as_box (record p { at = block_ptr (block_of p.at) (count_of p.at) })) vs)) (id⊢ 𝓤 _) $
      rewrite t 0 (λ (q : Ptr). ‵ (owned S L (as_box (record p { at = q })) vs)) (sym (at_block p.at inside)) refl $ s)
