-- Marks that are laid one behind the other.
use Rattle.pool_shapes.proofs.Drawn.Words.{◌≡◌, ℕ, ◌+◌, ◌-◌, ◌<◌, ◌≤◌, true, false}
use Rattle.pool_shapes.proofs.Drawn.Words.{List, [], ◌∷◌, ◌++◌, length, refl, sym}
use Rattle.pool_shapes.proofs.Drawn.Words.{◌∙◌, ap, subst, append_assoc, arith}
use Rattle.pool_shapes.proofs.Drawn.Words.{replicate, nat_le, nat_lt, filter, slice_get}
use Rattle.pool_shapes.proofs.Drawn.Words.{Some, replicate_next, cases_lt, le-leb, lt-leb, get_or_append_left}
use Rattle.pool_shapes.proofs.Drawn.Words.{get_or-replicate, length-replicate, slice_get_read, zero, suc, inl, inr}
use Rattle.pool_shapes.proofs.Drawn.Words.{length-append, zero-add, suc-add, append-nil, lt-ltb, le-ltb, cells, columns}
use Rattle.pool_shapes.proofs.Drawn.Words.{first_column, column_behind, next_column, AreLaid}
use Rattle.pool_shapes.proofs.Drawn.Words.{AreBehind, AreApart, has_column}
use Rattle.pool_shapes.proofs.Drawn.Words.{IsShownAt, Mark}

get_replicated : {X : Type 0} (n : ℕ) (x : X) (ys : List X) (i : ℕ) → i < n → slice_get (replicate n x ++ ys) i ≡ Some x
get_replicated n x ys i h =
    let l : length (replicate n x) ≡ n = length-replicate n x in
    slice_get_read (replicate n x ++ ys) (length (replicate n x ++ ys)) i x refl
    (omega (arith, l, length-append (replicate n x) ys))
    (sym (get_or_append_left (replicate n x) ys x i (omega (arith, l)) ∙ get_or-replicate n i x x h))

get_behind : {X : Type 0} (n : ℕ) (x : X) (ys : List X) (i : ℕ)
    → slice_get (replicate n x ++ ys) (n + i) ≡ slice_get ys i
get_behind zero x ys i = ap (slice_get ys) (zero-add i)
get_behind (suc n) x ys i = rw suc-add (get_behind n x ys i)

module _ {T : Type 0} where
  pub behind_append : (at : ℕ) (xs ys : List (Mark T))
      → column_behind at (xs ++ ys) ≡ column_behind (column_behind at xs) ys
  behind_append at [] ys = refl
  behind_append at (x ∷ xs) ys = behind_append x.to xs ys

  pub columns_append : (xs ys : List (Mark T)) → columns (xs ++ ys) ≡ columns xs ++ columns ys
  columns_append [] ys = refl
  columns_append (x ∷ xs) ys = rw (columns_append xs ys, append_assoc)

  -- what is laid up to some marks, and what is laid behind them
  pub laid_front : (at : ℕ) (xs ys : List (Mark T)) → AreLaid at (xs ++ ys) → AreLaid at xs
  laid_front at [] ys h = tt
  laid_front at (x ∷ xs) ys h = (h.0, h.1, laid_front x.to xs ys h.2)

  pub laid_back : (at : ℕ) (xs ys : List (Mark T)) → AreLaid at (xs ++ ys) → AreLaid (column_behind at xs) ys
  laid_back at [] ys h = h
  laid_back at (x ∷ xs) ys h = laid_back x.to xs ys h.2

  pub laid_append : (at : ℕ) (xs ys : List (Mark T)) → AreLaid at xs → AreLaid (column_behind at xs) ys
      → AreLaid at (xs ++ ys)
  laid_append at [] ys h k = k
  laid_append at (x ∷ xs) ys h k = (h.0, h.1, laid_append x.to xs ys h.2 k)

  -- where marks begin that are more than these
  pub first_append : (xs : List (Mark T)) (y : Mark T) (ys : List (Mark T))
      → first_column (xs ++ y ∷ ys) ≡ first_column (xs ++ y ∷ [])
  first_append [] y ys = refl
  first_append (x ∷ xs) y ys = refl

  pub first_widened : (xs : List (Mark T)) (y z : Mark T) → y.from ≡ z.from
      → first_column (xs ++ y ∷ []) ≡ first_column (xs ++ z ∷ [])
  first_widened [] y z e = e
  first_widened (x ∷ xs) y z e = refl

  pub next_last : (xs : List (Mark T)) (y : Mark T) → next_column (xs ++ y ∷ []) ≡ y.to
  next_last xs y = behind_append 0 xs (y ∷ [])

  -- a mark with one column more
  pub cells_widened : (m : Mark T) → m.from ≤ m.to → cells (record m { to = m.to + 1 }) ≡ cells m ++ m.shows ∷ []
  cells_widened m h =
      let e : m.to + 1 - m.from ≡ (m.to - m.from) + 1 = omega arith in
      ap (λ n. replicate n m.shows) e ∙ replicate_next (m.to - m.from) m.shows

  pub columns_widened : (xs : List (Mark T)) (m : Mark T) → m.from ≤ m.to
      → columns (xs ++ record m { to = m.to + 1 } ∷ []) ≡ columns (xs ++ m ∷ []) ++ m.shows ∷ []
  columns_widened [] m h = rw (append-nil, append-nil) (cells_widened m h)
  columns_widened (x ∷ xs) m h = rw (columns_widened xs m h, append_assoc)

  pub laid_widened : (at : ℕ) (xs : List (Mark T)) (m : Mark T) → AreLaid at (xs ++ m ∷ [])
      → AreLaid at (xs ++ record m { to = m.to + 1 } ∷ [])
  laid_widened at [] m h = (h.0, omega arith, tt)
  laid_widened at (x ∷ xs) m h = (h.0, h.1, laid_widened x.to xs m h.2)

  -- the last has a column
  pub last_has_column : (at : ℕ) (xs : List (Mark T)) (m : Mark T) → AreLaid at (xs ++ m ∷ []) → m.from < m.to
  last_has_column at xs m h = (laid_back at xs (m ∷ []) h).1

  all_behind : (low at : ℕ) (ms : List (Mark T)) → AreLaid at ms → low ≤ at → AreBehind low ms
  all_behind low at [] h l = tt
  all_behind low at (m ∷ ms) h l = (omega arith, all_behind low m.to ms h.2 (omega arith))

  pub laid_apart : (at : ℕ) (ms : List (Mark T)) → AreLaid at ms → AreApart ms
  laid_apart at [] h = tt
  laid_apart at (m ∷ ms) h = (all_behind m.to m.to ms h.2 (omega arith), laid_apart m.to ms h.2)

  -- no mark has a column before the first
  none_before : (at : ℕ) (ms : List (Mark T)) (c : ℕ) → AreLaid at ms → c < at → filter (has_column c) ms ≡ []
  none_before at [] c h l = refl
  none_before at (m ∷ ms) c h l =
      let e : nat_le m.from c ≡ false = lt-leb m.from c (omega arith) in
      rw e (none_before m.to ms c h.2 (omega arith))

  -- in each column of marks that are laid exactly one mark stands, and it shows what is shown there
  pub laid_shown : (at : ℕ) (ms : List (Mark T)) (c : ℕ) → AreLaid at ms → at ≤ c → c < column_behind at ms
      → (m : Mark T) × ((filter (has_column c) ms ≡ m ∷ []) × (slice_get (columns ms) (c - at) ≡ Some m.shows))
  laid_shown at [] c h low high = absurd (omega arith)
  laid_shown at (m ∷ ms) c h low high =
      elim (cases_lt c m.to) [ inl within ↦ here within | inr past ↦ there past (laid_shown m.to ms c h.2 past high) ]
    where
      here : c < m.to → (n : Mark T)
          × ((filter (has_column c) (m ∷ ms) ≡ n ∷ []) × (slice_get (columns (m ∷ ms)) (c - at) ≡ Some n.shows))
      here within =
          let a : nat_le m.from c ≡ true = le-leb m.from c (omega arith) in
          let b : nat_lt c m.to ≡ true = lt-ltb c m.to within in (
            m,
            (
              rw (a, b) (ap (λ l. m ∷ l) (none_before m.to ms c h.2 within)),
              get_replicated (m.to - m.from) m.shows (columns ms) (c - at) (omega arith),
            ),
          )

      there : m.to ≤ c
          → ((n : Mark T) × ((filter (has_column c) ms ≡ n ∷ []) × (slice_get (columns ms) (c - m.to) ≡ Some n.shows)))
          → (n : Mark T)
          × ((filter (has_column c) (m ∷ ms) ≡ n ∷ []) × (slice_get (columns (m ∷ ms)) (c - at) ≡ Some n.shows))
      there past i =
          let a : nat_le m.from c ≡ true = le-leb m.from c (omega arith) in
          let b : nat_lt c m.to ≡ false = le-ltb c m.to past in
          let e : c - at ≡ (m.to - m.from) + (c - m.to) = omega arith in
          (i.0, (rw (a, b) i.1.0, rw e (get_behind (m.to - m.from) m.shows (columns ms) (c - m.to) ∙ i.1.1)))

  pub all_shown : (es : List (Mark T)) (m : Mark T) (now : List (Mark T)) → es ++ m ∷ [] ≡ now
      → AreLaid (first_column (es ++ m ∷ [])) (es ++ m ∷ []) → (c : ℕ) → first_column now ≤ c → c < next_column now
      → IsShownAt now c
  all_shown es m now e h =
      subst (λ l. (c : ℕ) → first_column l ≤ c → c < next_column l → IsShownAt l c) e
      (λ c low high. laid_shown (first_column (es ++ m ∷ [])) (es ++ m ∷ []) c h low
      (subst (λ n. c < n) (behind_any es) high))
    where
      behind_any : (xs : List (Mark T))
          → next_column (xs ++ m ∷ []) ≡ column_behind (first_column (xs ++ m ∷ [])) (xs ++ m ∷ [])
      behind_any [] = refl
      behind_any (x ∷ xs) = refl

  -- the column behind a lane whose last mark is known
  pub next_of : (es : List (Mark T)) (m : Mark T) (now : List (Mark T)) → es ++ m ∷ [] ≡ now → next_column now ≡ m.to
  next_of es m now e = ap next_column (sym e) ∙ next_last es m

  pub wide_laid : (es : List (Mark T)) (m : Mark T) → AreLaid (first_column (es ++ m ∷ [])) (es ++ m ∷ [])
      → AreLaid (first_column (es ++ record m { to = m.to + 1 } ∷ [])) (es ++ record m { to = m.to + 1 } ∷ [])
  wide_laid [] m h = (refl, omega arith, tt)
  wide_laid (x ∷ es) m h = laid_widened x.from (x ∷ es) m h

  pub wide_columns : (es : List (Mark T)) (m : Mark T) (now : List (Mark T)) (shows : T) → es ++ m ∷ [] ≡ now
      → AreLaid (first_column (es ++ m ∷ [])) (es ++ m ∷ []) → m.shows ≡ shows
      → columns (es ++ record m { to = m.to + 1 } ∷ []) ≡ columns now ++ shows ∷ []
  wide_columns es m now shows e h s =
      let k : m.from < m.to = last_has_column _ es m h in
      columns_widened es m (omega arith) ∙ ap (λ l. columns l ++ m.shows ∷ []) e ∙ ap (λ x. columns now ++ x ∷ []) s

  pub wide_first : (es : List (Mark T)) (m : Mark T) (now : List (Mark T)) → es ++ m ∷ [] ≡ now
      → first_column (es ++ record m { to = m.to + 1 } ∷ []) ≡ first_column now
  wide_first es m now e = first_widened es (record m { to = m.to + 1 }) m refl ∙ ap first_column e

  -- one mark more, of one column
  abbrev pub next_mark : Mark T → T → Mark T
  next_mark m shows = record { shows = shows; from = m.to; to = m.to + 1 }

  pub cells_next : (m : Mark T) (shows : T) → cells (next_mark m shows) ≡ shows ∷ []
  cells_next m shows = let e : m.to + 1 - m.to ≡ 1 = omega arith in ap (λ n. replicate n shows) e

  pub more_columns : (es : List (Mark T)) (m : Mark T) (pushed now : List (Mark T)) (shows : T) → pushed ≡ es ++ m ∷ []
      → es ++ m ∷ [] ≡ now → columns (pushed ++ next_mark m shows ∷ []) ≡ columns now ++ shows ∷ []
  more_columns es m pushed now shows p e =
      columns_append pushed (next_mark m shows ∷ []) ∙ ap (λ l. columns l ++ columns (next_mark m shows ∷ [])) (p ∙ e)
      ∙ ap (λ l. columns now ++ (l ++ [])) (cells_next m shows)

  pub more_laid : (es : List (Mark T)) (m : Mark T) (pushed : List (Mark T)) (shows : T) → pushed ≡ es ++ m ∷ []
      → AreLaid (first_column (es ++ m ∷ [])) (es ++ m ∷ [])
      → AreLaid (first_column (pushed ++ next_mark m shows ∷ [])) (pushed ++ next_mark m shows ∷ [])
  more_laid es m pushed shows p h =
      subst (λ l. AreLaid (first_column (l ++ next_mark m shows ∷ [])) (l ++ next_mark m shows ∷ [])) (sym p)
      (subst (λ at. AreLaid at ((es ++ m ∷ []) ++ next_mark m shows ∷ [])) (sym (first_same es m shows))
      (laid_append _ (es ++ m ∷ []) (next_mark m shows ∷ []) h (behind_last _ es m, omega arith, tt)))
    where
      first_same : (xs : List (Mark T)) (y : Mark T) (s : T)
          → first_column ((xs ++ y ∷ []) ++ next_mark y s ∷ []) ≡ first_column (xs ++ y ∷ [])
      first_same [] y s = refl
      first_same (x ∷ xs) y s = refl

      behind_last : (at : ℕ) (xs : List (Mark T)) (y : Mark T) → y.to ≡ column_behind at (xs ++ y ∷ [])
      behind_last at xs y = sym (behind_append at xs (y ∷ []))
