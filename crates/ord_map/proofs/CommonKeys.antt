-- How many keys two maps have in common, from either map and by a walk over both.
use Rattle.std.proofs.Common.{◌≡◌, ℕ, suc, ◌+◌, List, [], ◌∷◌, ◌++◌, length, Option, Some, None, MatchOption, Bor, refl, sym, ap, subst, ◌∙◌, arith}
use Rattle.std.specs.declared.cmp.Ordering.{Ordering}
use Rattle.std.specs.declared.cmp.Ordering.TheVariants.{Less, Equal, Greater}
use Rattle.std.specs.Cmp.{IsTotalOrder}
use Rattle.std.specs.List.{cons_option}
use Rattle.std.specs.Option.{option_map}
use Rattle.map_model.specs.Order.{IsExact}
use Rattle.map_model.specs.Entries.{IsIncreasing, above, below, lookup}
use Rattle.map_model.specs.SetOperations.{intersect}
use Rattle.map_model.proofs.Intersections.{intersect-split_first, intersect-split_second}
use Rattle.map_model.proofs.Merges.{intersect-cons_equal, intersect-cons_greater, intersect-cons_less}
use Rattle.map_model.proofs.Splits.{IsIncreasing-above}
use Rattle.ord_map.specs.Ahead.{ahead}

-- what a walk had left before it gave an entry
pub ahead_next : {K V : Type 0} (old : List (K × V)) (item : Option (Bor K × Bor V)) (new : List (K × V)) → MatchOption item ((old ≡ []) × (new ≡ [])) (λ x. old ≡ (x.0.now, x.1.now) ∷ new) → ahead item new ≡ old
ahead_next old None new h = sym h.0
ahead_next old (Some x) new h = sym h

module _ {K V : Type 0} (order : K → K → Ordering) (f : V → V → V) where
  intersect_none : (a : List (K × V)) → intersect order f a [] ≡ []
  intersect_none [] = refl
  intersect_none (e ∷ a) = intersect_none a

  -- of n keys that two maps have, so many are counted, and a and b are what is left of the maps
  abbrev pub Counting : ℕ → ℕ → List (K × V) → List (K × V) → Type 0
  Counting n count a b = (count + length (intersect order f a b) ≡ n) × IsIncreasing order a × IsIncreasing order b

  pub counting_ends : (n count : ℕ) (a b : List (K × V)) → Counting n count a b → b ≡ [] → count ≡ n
  counting_ends n count a b h none =
      let len = ap length (ap (λ y. intersect order f a y) none ∙ intersect_none a) in
      omega (arith, h.0, len)

  moved : (n count : ℕ) (a b a' b' : List (K × V)) → a ≡ a' → b ≡ b' → Counting n count a b → Counting n count a' b'
  moved n count a b a' b' p q h = subst (λ y. Counting n count a' y) q (subst (λ x. Counting n count x b) p h)

module _ {K V : Type 0} {order : K → K → Ordering} (total : IsTotalOrder order) (exact : IsExact order) (f : V → V → V) where
  -- as many from either map
  pub either_way : (a b : List (K × V)) → IsIncreasing order a → IsIncreasing order b → length (intersect order f a b) ≡ length (intersect order f b a)
  either_way [] b s t = ap length (sym (intersect_none order f b))
  either_way (e ∷ a) b s t =
      let high = above order b e.0 in
      let rest = either_way a high s.1 (IsIncreasing-above order b e.0 t) in
      let first = ap length (intersect-split_first total exact f [] e.0 e.1 a b s) in
      let second =
      ap length (
      intersect-split_second total exact f b [] e.0 e.1 a t s
      ∙ ap (λ x. x ++ cons_option (option_map (λ v. (e.0, f v e.1)) (lookup order b e.0)) (intersect order f high a)) (intersect_none order f (below order b e.0))
      ) in
      first
      ∙ elim (lookup order b e.0) as (λ o. length (cons_option (option_map (λ w. (e.0, f e.1 w)) o) (intersect order f a high)) ≡ length (cons_option (option_map (λ v. (e.0, f v e.1)) o) (intersect order f high a))) [ None ↦ rest | Some w ↦ ap suc rest ]
      ∙ sym second

  -- the first keys of what is left of the maps, a key and what is behind it in each
  module _ (n count : ℕ) (a b : List (K × V)) (h : Counting order f n count a b) (e d : K × V) (left right : List (K × V)) (is_a : a ≡ e ∷ left) (is_b : b ≡ d ∷ right) where
    here : Counting order f n count (e ∷ left) (d ∷ right)
    here = moved order f n count a b (e ∷ left) (d ∷ right) is_a is_b h

    pub counted_less : (left' : List (K × V)) → left' ≡ left → order e.0 d.0 ≡ Less → Counting order f n count left' b
    counted_less left' p less =
        let len = ap length (intersect-cons_less total exact e d left right here.1 here.2 f less) in
        let was = here.0 in
        moved order f n count left (d ∷ right) left' b (sym p) (sym is_b) (omega (arith, len, was), here.1.1, here.2)

    pub counted_greater : (right' : List (K × V)) → right' ≡ right → order e.0 d.0 ≡ Greater → Counting order f n count a right'
    counted_greater right' q greater =
        let len = ap length (intersect-cons_greater total exact e d left right here.1 here.2 f greater) in
        let was = here.0 in
        moved order f n count (e ∷ left) right a right' (sym is_a) (sym q) (omega (arith, len, was), here.1, here.2.1)

    pub counted_equal : (left' right' : List (K × V)) → left' ≡ left → right' ≡ right → order e.0 d.0 ≡ Equal → Counting order f n (count + 1) left' right'
    counted_equal left' right' p q equal =
        let len = ap length (intersect-cons_equal total exact e d left right here.1 here.2 f equal) in
        let was = here.0 in
        moved order f n (count + 1) left right left' right' (sym p) (sym q) (omega (arith, len, was), here.1.1, here.2.1)
