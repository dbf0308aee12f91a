-- A box and a pool's block are each a pointer with the handle that frees what is there, in one machine word.
-- S is what stands there.
--     Unboxed              the value with the two parts: what is had between a box and a block
--     Loose                what is owned of it: the value where the pointer leads, the right to free it, and the handle
--     unboxes, boxes       what a box owns is `Loose`, and back. A block that is not null owns the same
--     begins               a function that is passed a box begins with `Loose`
use Rattle.deadpool_c.proofs.Steps.{◌≡◌, refl, List, [], ◌∷◌, ◌++◌, ℕ, T, Ura, Fml, fsep, SProp, no, arg, layout, Laws}
use Rattle.deadpool_c.proofs.Steps.{arg_laws, RattleType, block_ptr, raw_type as raw, Fn, impl, tcons, tnil, dnil, Val}
use Rattle.deadpool_c.proofs.Steps.{has_ty, WT, Calls, Loops, WpFn, Goal, Seq, Step, step, Item, ‵, prop, ◌$◌, fsplit}
use Rattle.deadpool_c.proofs.Steps.{fjoin, regoal, Logic, Fits, box_owns, Bx, D, R, B, box_ty, box_typed, word, handle}
use Rattle.deadpool_c.proofs.Steps.{box_out, box_in, heap_laws, heap_row, ghosts, dict, no_drop_symbol}

-- the handle, as a call is given it
abbrev pub Handle : RattleType
Handle = arg (raw (layout heap_row)) no heap_row

abbrev pub handle_laws : Laws Handle
handle_laws = arg_laws (raw (layout heap_row)) no heap_row heap_laws refl

module _ (S : RattleType) (L : Laws S) where
  -- a box of an S, as the lemmas on boxes take it
  abbrev pub E : Bx
  E = record {
    row = S;
    laws = L;
    al = record {
      row = Handle;
      laws = handle_laws;
      g = ghosts;
      d = dict;
      drops = impl (no_drop_symbol ∷ []) (tcons (layout Handle) tnil) dnil;
    };
  }

  abbrev pub Boxed : Type 0
  Boxed = D E

  abbrev pub owned : Boxed → List Val → Fml
  owned = (B E).own_val

  -- what a machine value of a box's type is
  abbrev pub Boxlike : Val → Type 0
  Boxlike w = T (has_ty (box_ty E) w) × WT w

  pub record Unboxed : Type 0 where
    pub alloc : heap_row.Denot
    pub value : S.Denot
    pub block : ℕ
    pub offset : ℕ
    pub freeing : Val

  module _ (k : Unboxed) where
    -- both parts
    abbrev pub parts : Val
    parts = word E k.freeing k.block k.offset

    abbrev pub Sound : Type 0
    Sound = Fits (E).al k.freeing

    pub parts_sound : Sound → Boxlike parts
    parts_sound = box_typed E k.freeing k.block k.offset

    abbrev pub Loose : Fml
    Loose = fsep (box_owns (ghosts.dealloc_token k.alloc) (R E) (block_ptr k.block k.offset) k.value)
        (handle E k.alloc k.freeing)

    abbrev pub boxed : Boxed
    boxed = record { ptr = block_ptr k.block k.offset; alloc = k.alloc; value = k.value }

  module _ {M : Type 1} {𝓤 : Ura M} {𝓛 : Logic 𝓤} {K : Type 0} {Γ : List (Item 𝓤)} {G : Goal 𝓤 𝓛.H} where
    pub unboxes : K → (d : Boxed) (vs : List Val)
        → ((k : Unboxed) → k.value ≡ d.value → vs ≡ parts k ∷ [] → Sound k → Seq K 𝓛 (‵ (Loose k) ∷ Γ) G)
        → Seq K 𝓛 (‵ (owned d vs) ∷ Γ) G
    unboxes t d vs next =
        box_out E t d vs
        (λ b o hv at is sound. fjoin t $ fjoin t
        $ next (record { alloc = d.alloc; value = d.value; block = b; offset = o; freeing = hv }) refl is sound)

    pub boxes : K → (k : Unboxed) → Step K 𝓛 (‵ (owned (boxed k) (parts k ∷ [])) ∷ Γ) G (‵ (Loose k) ∷ Γ) G
    boxes t k = step (λ s. fsplit t $ fsplit t $ box_in E t (boxed k) k.block k.offset k.value refl refl $ s)

  module _ {M : Type 1} {𝓤 : Ura M} {𝓛 : Logic 𝓤} {K : Type 0} {Γ : List (Item 𝓤)} where
    open 𝓛 use {H}

    pub begins : K → (C : Calls 𝓤 H) (Λ : Loops 𝓤 H) (f : Fn) (Post : Val → SProp 𝓤) (d : Boxed) (vs : List Val)
        → ((k : Unboxed) → k.value ≡ d.value → Sound k
        → Seq K 𝓛 (‵ (Loose k) ∷ Γ) (prop (WpFn 𝓤 H C Λ f (parts k ∷ []) Post)))
        → Seq K 𝓛 (‵ (owned d vs) ∷ Γ) (prop (WpFn 𝓤 H C Λ f (vs ++ []) Post))
    begins t C Λ f Post d vs next =
        unboxes t d vs
        (λ k same is sound. regoal t (λ (us : List Val). prop (WpFn 𝓤 H C Λ f (us ++ []) Post)) is refl
        $ next k same sound)
