-- Entries, an entry and entries, with numbers and with keys.
use Rattle.std.proofs.Common.{◌≡◌, ℕ, List, ◌∷◌, ◌++◌, length, map, sym, ap, ap₂, ◌∙◌}
use Rattle.std.specs.Ordering.{nat_cmp}
use Rattle.std.specs.declared.cmp.Ordering.{Ordering}
use Rattle.std.proofs.lemmas.List.{length-map, map-append}
use Rattle.map_model.specs.Entries.{AllKeys, IsIncreasing}
use Rattle.map_model.proofs.Keys.{AllKeys-append}
use Rattle.diff_leaf.specs.Numbers.{key_entry, AreNumbers}
use Rattle.diff_leaf.proofs.Orders.{numbers_rise}

module _ {K V : Type 0} (key_of : ℕ → K) (l r : List (ℕ × V)) (n : ℕ) (v : V) (lower upper : List (K × V)) (k : K)
    (left : map (key_entry key_of) l ≡ lower) (right : map (key_entry key_of) r ≡ upper) (key : key_of n ≡ k) where
  pub joined_is : map (key_entry key_of) (l ++ (n, v) ∷ r) ≡ lower ++ (k, v) ∷ upper
  joined_is =
      map-append (key_entry key_of) l ((n, v) ∷ r)
      ∙ ap₂ (λ x y. x ++ (key_of n, v) ∷ y) left right
      ∙ ap (λ k. lower ++ (k, v) ∷ upper) key

  pub joined_length : length (l ++ (n, v) ∷ r) ≡ length (lower ++ (k, v) ∷ upper)
  joined_length = sym (length-map (l ++ (n, v) ∷ r) (key_entry key_of)) ∙ ap length joined_is

  module _ (order : K → K → Ordering) (ordered : (a b : ℕ) → order (key_of a) (key_of b) ≡ nat_cmp a b) (increasing : IsIncreasing order (lower ++ (k, v) ∷ upper)) where
    pub joined_rises : IsIncreasing nat_cmp (l ++ (n, v) ∷ r)
    joined_rises = numbers_rise order key_of ordered (l ++ (n, v) ∷ r) (lower ++ (k, v) ∷ upper) joined_is increasing

    pub joined_numbers : (Fits : ℕ → Type 0) → AllKeys Fits l → Fits n → AllKeys Fits r → AreNumbers Fits (l ++ (n, v) ∷ r)
    joined_numbers Fits a f b = (joined_rises, AllKeys-append Fits l ((n, v) ∷ r) a (f, b))
