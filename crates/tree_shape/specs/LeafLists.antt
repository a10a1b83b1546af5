-- The blocks that a list of entries is kept in.
use Rattle.std.specs.Prelude.{◌≡◌, ℕ, zero, suc, ◌+◌, ◌-◌, ◌/◌, List, [], ◌∷◌, ◌++◌, length, take, drop, cond, leb}

module _ {E : Type 0} (most : ℕ) where
  -- as `leaf_lists` has them, of at most so many cuts one in another
  unfoldable pub leaf_lists_within : ℕ → List E → List (List E)
  leaf_lists_within zero es = es ∷ []
  leaf_lists_within (suc cuts) es = cond (leb (length es) most) (es ∷ []) (leaf_lists_within cuts (take ((length es - 1) / 2) es) ++ leaf_lists_within cuts (drop ((length es - 1) / 2 + 1) es))

  -- at most `most` entries stand in one block; more are cut at the one in the middle, which stands in none
  abbrev pub leaf_lists : List E → List (List E)
  leaf_lists es = leaf_lists_within (length es) es

-- the lists that begin with others
pub record BeginsWith {A : Type 0} (whole first : List A) : Type 0 where
  pub rest : List A
  pub joined : whole ≡ first ++ rest
