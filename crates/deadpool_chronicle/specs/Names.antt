-- The names of a history.
use Rattle.core.specs.Prelude.{ℕ}
use base.Stored.{Coded, coded×, coded_ℕ, coded_via}

-- that of its entries, and that of its callers' pages
pub record Names : Type 0 where
  pub entries : ℕ
  pub pages : ℕ

abbrev pub names_coded : Coded Names
names_coded = coded_via (coded× coded_ℕ coded_ℕ) (λ (n : Names). (n.entries, n.pages))
    (λ x y same i. record { entries = (same i).0; pages = (same i).1 })
