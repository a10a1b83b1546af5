-- One turn of a merge of entries with an increasing slice, which is cut at the entry's key.
use Rattle.std.proofs.Common.{◌≡◌, List, [], ◌∷◌, ◌++◌, Option, sym, ap, ap₂, subst, ◌∙◌, append_assoc}
use Rattle.std.specs.Option.{option_map_or}
use Rattle.std.specs.declared.cmp.Ordering.{Ordering}
use Rattle.std.specs.Cmp.{IsTotalOrder}
use Rattle.map_model.specs.Order.{IsExact}
use Rattle.map_model.specs.Entries.{IsIncreasing, lookup, below, above}
use Rattle.map_model.specs.SetOperations.{union}
use Rattle.map_model.proofs.Splits.{IsIncreasing-below, IsIncreasing-above}
use Rattle.map_model.proofs.Unions.{nil-union, union-split_first}

-- what is out, and what of the entries and the slice is still to come
abbrev pub Merging : {K V : Type 0} → (K → K → Ordering) → (V → V → V) → List (K × V) → List (K × V) → List (K × V) → List (K × V) → Type 0
Merging order f out left right whole = (out ++ union order f left right ≡ whole) × IsIncreasing order left × IsIncreasing order right

module _ {K V : Type 0} {order : K → K → Ordering} (total : IsTotalOrder order) (exact : IsExact order) (f : V → V → V) (out whole left right : List (K × V)) (here : Merging order f out left right whole) where
  -- what of the slice is below the entry, and the entry, are out
  pub merged_on : (e : K × V) (rest low high out' : List (K × V)) (found : Option V) → left ≡ e ∷ rest → low ≡ below order right e.0 → found ≡ lookup order right e.0 → high ≡ above order right e.0 → out' ≡ (out ++ low) ++ (e.0, option_map_or (λ w. f e.1 w) found e.1) ∷ [] → Merging order f out' rest high whole
  merged_on e rest low high out' found is low_is found_is high_is pushed =
      let s : IsIncreasing order (e ∷ rest) = subst (IsIncreasing order) is here.1 in
      let new : K × V = (e.0, option_map_or (λ w. f e.1 w) (lookup order right e.0) e.1) in
      let before = below order right e.0 in
      let after = union order f rest (above order right e.0) in
      let split : union order f left right ≡ before ++ new ∷ after =
      ap (λ l. union order f l right) is
      ∙ union-split_first total exact f [] e.0 e.1 rest right s here.2
      ∙ ap (λ x. x ++ new ∷ after) (nil-union total exact f before (IsIncreasing-below order right e.0 here.2)) in
      let pushed' : out' ≡ (out ++ before) ++ new ∷ [] = pushed ∙ ap₂ (λ x o. (out ++ x) ++ (e.0, option_map_or (λ w. f e.1 w) o e.1) ∷ []) low_is found_is in
      (ap₂ (λ x y. x ++ union order f rest y) pushed' high_is ∙ append_assoc (out ++ before) (new ∷ []) after ∙ append_assoc out before (new ∷ after) ∙ ap (λ x. out ++ x) (sym split) ∙ here.0, s.1, subst (IsIncreasing order) (sym high_is) (IsIncreasing-above order right e.0 here.2))

  -- no entry is left: the rest of the slice follows
  pub merged_end : left ≡ [] → out ++ right ≡ whole
  merged_end is = ap (λ x. out ++ x) (sym (nil-union total exact f right here.2) ∙ ap (λ l. union order f l right) (sym is)) ∙ here.0
