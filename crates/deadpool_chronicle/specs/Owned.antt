-- What the tokens of a history own, in the words of the kit's logic.
use Rattle.core.specs.Prelude.{◌≡◌, ℕ, suc, List, [], ◌∷◌, map, slice_index_or}
use base.Fraction.{full_share}
use base.Share.{quarter, three_quarters}
use base.Stored.{Gv, Coded, coded×, coded_ℕ, coded_list}
use base.Algebra.{Algebra}
use base.SetCodes.{coded}
use base.Algebras.{both, shares, agreed}
use base.Growing.{Order, prefixes, latest, at_least}
use base.Fml.{Share, Fml, ftrue, fsep, fex}
use types.Keyed.{entry, entries_from}
use Rattle.deadpool_chronicle.specs.History.{calls_by}
use Rattle.deadpool_chronicle.specs.Names.{Names}

-- What is kept is kept as its code, in an algebra that names no type of entries.
abbrev pub codes : Coded Gv
codes = record { code = λ g. g; inj = λ x y same. same }

abbrev pub growing : Order (List Gv)
growing = prefixes codes

abbrev pub paper : Algebra
paper = both shares (agreed (coded codes))

-- a part of the page with this number, on which stands what the code says
abbrev pub part_of : ℕ → ℕ → Share → Gv → Fml
part_of pages number share code = entry paper pages number (share, code)

abbrev pub nothing_written : Gv
nothing_written = (coded× (coded_list codes) coded_ℕ).code ([], 0)

-- every page from this number on, empty and whole
abbrev pub unused_from : ℕ → ℕ → Fml
unused_from pages number = entries_from paper pages number (λ _. (full_share, nothing_written))

-- a quarter of each page that was given to a caller, and the unused ones
abbrev pub roster : {X : Type 0} → (X → Gv) → ℕ → ℕ → List X → Fml
roster code pages number [] = unused_from pages number
roster code pages number (x ∷ xs) = fsep (part_of pages number quarter (code x)) (roster code pages (suc number) xs)

abbrev pub fact : Type 0 → Fml
fact φ = fex φ (λ _. ftrue)

abbrev pub blank_owns : Names → Fml
blank_owns names = fsep (latest growing full_share names.entries []) (unused_from names.pages 0)

module _ {E : Type 0} where
  -- On each page stand the entries of its caller, beside how many callers that has let in.
  abbrev pub Agree : List (ℕ × E) → List (List E × ℕ) → Type 0
  Agree log pages = (number : ℕ) → calls_by number log ≡ (slice_index_or pages number ([], 0)).0

module _ {E : Type 0} (of : Coded E) where
  abbrev pub entry_code : ℕ × E → Gv
  entry_code = (coded× coded_ℕ of).code

  abbrev pub page_code : List E × ℕ → Gv
  page_code = (coded× (coded_list of) coded_ℕ).code

  abbrev pub keeps : Names → List (ℕ × E) → List (List E × ℕ) → Fml
  keeps names log pages =
      fsep (fact (Agree log pages))
      (fsep (latest growing full_share names.entries (map entry_code log)) (roster page_code names.pages 0 pages))

  abbrev pub author_owns : Names → List (ℕ × E) → Fml
  author_owns names log = fex (List (List E × ℕ)) (keeps names log)

  abbrev pub beginning_owns : Names → List (ℕ × E) → Fml
  beginning_owns names log = at_least growing names.entries (map entry_code log)

  -- three quarters of the page
  abbrev pub page_owns : Names → ℕ → List E → ℕ → Fml
  page_owns names number mine admitted = part_of names.pages number three_quarters (page_code (mine, admitted))
