-- Keys that are written one by one, from the front on.
use Rattle.deadpool_c.proofs.Words.{◌≡◌, ◌∙◌, sym, ap, ℕ, ◌+◌, ◌<◌, List, [], ◌∷◌, ◌++◌, length, take, drop, slice_get}
use Rattle.deadpool_c.proofs.Words.{slice_set, Some, arith, take_more_set, take_more, take-take, length-take, drop-drop}
use Rattle.deadpool_c.proofs.Words.{drop-set-lt, slice_get_within, get_or_from_slice_get, Writes, written_count}

-- one more stands at the front
pub front_more : (given keys : List ℕ) (at key : ℕ) → at < length keys → slice_get given at ≡ Some key
    → take at keys ≡ take at given → take (at + 1) (slice_set keys at key) ≡ take (at + 1) given
front_more given keys at key inside found same =
    let whole = take_more given at key (slice_get_within given at key found) in
    let last = get_or_from_slice_get given at key key found in
    take_more_set keys at key inside ∙ ap (λ front. front ++ key ∷ []) same
    ∙ ap (λ k. take at given ++ k ∷ []) (sym last) ∙ sym whole

-- what is behind them is as it was
pub rest_more : (keys old : List ℕ) (at key : ℕ) → drop at keys ≡ drop at old
    → drop (at + 1) (slice_set keys at key) ≡ drop (at + 1) old
rest_more keys old at key same =
    drop-set-lt (at + 1) keys at key (omega arith) ∙ sym (drop-drop 1 at keys) ∙ ap (λ ks. drop 1 ks) same
    ∙ drop-drop 1 at old

-- as many as there is room for are all that can be written
pub count_all : (given old : List ℕ) → written_count (take (length old) given) old ≡ written_count given old
count_all given old = omega (arith, length-take (length old) given)

pub writes_all : (given old new : List ℕ) → Writes (take (length old) given) old new → Writes given old new
writes_all given old new w =
    let count = written_count given old in
    let same = count_all given old in
    record {
      front = ap (λ n. take n new) (sym same) ∙ w.front ∙ ap (λ n. take n (take (length old) given)) same
          ∙ take-take count (length old) given (omega arith);
      rest = ap (λ n. drop n new) (sym same) ∙ w.rest ∙ ap (λ n. drop n old) same;
    }
