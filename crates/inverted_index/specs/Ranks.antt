-- The first of some documents whose weight is great enough.
use Rattle.std.specs.Prelude.{◌≡◌, ℕ, ◌-◌, ◌^◌, ◌<◌, ◌≤◌, ◌||◌, Bool, List, [], ◌∷◌, ◌++◌, Option, Some, None, max, nat_le}
use Rattle.std.proofs.Common.{arith}
use Rattle.std.specs.List.{AllByRecursion}
use Rattle.std.specs.Ordering.{nat_cmp, is_lt}
use Rattle.map_model.specs.Entries.{drop_key}
use Rattle.map_model.specs.Fold.{PassesEither}
use Rattle.aug_monoid.specs.Totals.{TotalsFit, totals_combine}
use Rattle.aug_monoid.specs.declared.totals.Totals.{Totals}
use Rattle.inverted_index.specs.Queries.{ranked}
use Rattle.inverted_index.specs.declared.hit.Hit.{Hit}

-- each weight is less than a weight
abbrev pub AreBelow : ℕ → List (ℕ × ℕ) → Type 0
AreBelow weight m = AllByRecursion (λ e. e.1 < weight) m

-- each weight is one of 64 bits
abbrev pub AreLow : List (ℕ × ℕ) → Type 0
AreLow m = AllByRecursion (λ e. e.1 ≤ 2 ^ 64 - 1) m

-- a document is the first whose weight is at least a weight
pub record IsFirst (m : List (ℕ × ℕ)) (least doc : ℕ) : Type 0 where
  pub front : List (ℕ × ℕ)
  pub weight : ℕ
  pub back : List (ℕ × ℕ)
  pub split : m ≡ front ++ (doc, weight) ∷ back
  pub less : AreBelow least front
  pub heavy : least ≤ weight

-- there is no document; or the first by rank, and then the others
abbrev pub Leads : List (ℕ × ℕ) → Option Hit → Type 0
Leads m None = m ≡ []
Leads m (Some hit) = ranked m ≡ (hit.doc, hit.weight) ∷ ranked (drop_key nat_cmp m hit.doc)

-- the first is of more weight
abbrev pub heavier : ℕ × ℕ → ℕ × ℕ → Bool
heavier a b = is_lt (nat_cmp b.1 a.1)

-- the greatest weight is at least a weight
abbrev pub weighs : ℕ → Totals → Bool
weighs least totals = nat_le least totals.greatest

weighs_max : (least a b : ℕ) → nat_le least (max a b) ≡ (nat_le least a || nat_le least b)
weighs_max least a b = grind arith

-- the greater of two greatest weights is at least a weight where one of the two is
pub weighs_either : (least : ℕ) → PassesEither TotalsFit totals_combine (weighs least)
weighs_either least a b f g = weighs_max least a.greatest b.greatest
