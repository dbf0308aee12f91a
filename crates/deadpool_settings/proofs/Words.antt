-- Words of std and of JSON that the proofs cite, and what a chain of readings gives.
pub use Rattle.std.proofs.Common.{◌≡◌, ℕ, List, Bool, true, false, Option, Some, None, Ok, Err, Result, refl, sym, ap}
pub use Rattle.std.proofs.Common.{◌∙◌, subst, inl, inr, ◌⊎◌, ◌↔◌, IsSome, is_some, is_ok, option_and_then, option_map}
pub use Rattle.std.proofs.Common.{ok_or, codes, cond}
pub use Rattle.std.proofs.lemmas.Bool.{cases_Bool}
pub use Rattle.serde_json.specs.Data.{Data, null, boolean, number, string, array, object, Members, no_members, member}
pub use Rattle.serde_json.specs.Find.{get, get_member, as_null, as_number, as_object, as_str, as_u64}
pub use Rattle.deadpool_parts.specs.Result.{result_map, result_and_then}
pub use Rattle.deadpool_settings.specs.Results.{result_map_err}

-- the value of one that is there
pub some_value : {A : Type 0} (o : Option A) → IsSome o → (x : A) × (o ≡ Some x)
some_value None h = cc
some_value (Some x) h = (x, refl)

pub not_some : {A : Type 0} (o : Option A) → is_some o ≡ false → o ≡ None
not_some None h = refl
not_some (Some x) h = cc

-- which of two readings in turn has failed
pub failed_one : {A B E : Type 0} (f : A → Result B E) (r : Result A E) (e : E) → result_and_then f r ≡ Err e
    → (r ≡ Err e) ⊎ ((x : A) × (r ≡ Ok x) × (f x ≡ Err e))
failed_one f (Ok x) e h = inr (x, refl, h)
failed_one f (Err e') e h = let same : e' ≡ e = cc in inl (ap Err same)

pub map_failed : {A B E : Type 0} (f : A → B) (r : Result A E) (e : E) → result_map f r ≡ Err e → r ≡ Err e
map_failed f (Ok x) e h = cc
map_failed f (Err e') e h = cc

pub ok_or_failed : {A E : Type 0} (o : Option A) (b e : E) → ok_or o b ≡ Err e → (o ≡ None) × (e ≡ b)
ok_or_failed None b e h = (refl, cc)
ok_or_failed (Some x) b e h = cc

pub map_err_ok : {A E F : Type 0} (f : E → F) (r : Result A E) (x : A) → result_map_err f r ≡ Ok x → r ≡ Ok x
map_err_ok f (Ok y) x h = cc
map_err_ok f (Err e) x h = cc

pub map_err_failed : {A E F : Type 0} (f : E → F) (r : Result A E) (l : F) → result_map_err f r ≡ Err l
    → (e : E) × (r ≡ Err e) × (l ≡ f e)
map_err_failed f (Ok y) l h = cc
map_err_failed f (Err e) l h = (e, refl, cc)
