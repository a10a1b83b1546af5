-- Union, intersection and difference are combinations.
use Rattle.std.proofs.Common.{◌≡◌, Bool, Option, true, false, cond, List, [], ◌∷◌, ◌++◌, Some, None, is_none, refl, ◌∙◌, arith}
use Rattle.std.specs.List.{cons_option}
use Rattle.std.specs.Option.{option_map, option_map_or}
use Rattle.std.specs.declared.cmp.Ordering.{Ordering}
use Rattle.std.specs.Cmp.{IsTotalOrder}
use Rattle.map_model.specs.Order.{IsExact}
use Rattle.map_model.specs.Entries.{lookup, below, above}
use Rattle.map_model.specs.SetOperations.{union, intersect, difference}
use Rattle.map_model.proofs.Filters.{filter-all_keys}
use Rattle.map_model.proofs.Keys.{AllKeys-all}
use Rattle.map_model.proofs.Lengths.{length-filter_le, length-intersect_le, length-union_le}
use Rattle.map_model.proofs.Unions.{united, IsIncreasing-union, nil-union, union-split_first, union-split_second}
use Rattle.map_model.proofs.Intersections.{of_both, IsIncreasing-intersect, intersect-split_first, intersect-split_second}
use Rattle.map_model.proofs.Differences.{IsIncreasing-difference, difference-split_first, difference-split_second}
use Rattle.bulk_ops.specs.Combination.{IsCombination, entry_at, unless}

-- nothing is in the intersection with the empty map
intersect-nil : {K V : Type 0} (order : K → K → Ordering) (f : V → V → V) (a : List (K × V)) → intersect order f a [] ≡ []
intersect-nil order f [] = refl
intersect-nil order f (e ∷ a) = intersect-nil order f a

module _ {K V : Type 0} {order : K → K → Ordering} (total : IsTotalOrder order) (exact : IsExact order) where
  pub union_laws : (f : V → V → V) → IsCombination order (union order f) (united f) true true
  union_laws f = record {
    short = length-union_le order f;
    increases = λ a b s t. IsIncreasing-union total f a b s;
    first_alone = λ a s. refl;
    second_alone = λ b t. nil-union total exact f b t;
    split_first = λ l k v r b s t.
        union-split_first total exact f l k v r b s t
        ∙ elim (lookup order b k) as (λ o. union order f l (below order b k) ++ (k, option_map_or (λ w. f v w) o v) ∷ union order f r (above order b k) ≡ union order f l (below order b k) ++ cons_option (entry_at k (united f (Some v) o)) (union order f r (above order b k))) [ None ↦ refl | Some w ↦ refl ];
    split_second = λ a l k w r s t. union-split_second total exact f a l k w r s t;
  }

  pub intersection_laws : (f : V → V → V) → IsCombination order (intersect order f) (of_both f) false false
  intersection_laws f = record {
    short = λ a b. let h = length-intersect_le order f a b in omega (arith, h);
    increases = λ a b s t. IsIncreasing-intersect order f a b s;
    first_alone = λ a s. intersect-nil order f a;
    second_alone = λ b t. refl;
    split_first = λ l k v r b s t.
        intersect-split_first total exact f l k v r b s
        ∙ elim (lookup order b k) as (λ o. intersect order f l (below order b k) ++ cons_option (option_map (λ w. (k, f v w)) o) (intersect order f r (above order b k)) ≡ intersect order f l (below order b k) ++ cons_option (entry_at k (of_both f (Some v) o)) (intersect order f r (above order b k))) [ None ↦ refl | Some w ↦ refl ];
    split_second = λ a l k w r s t.
        intersect-split_second total exact f a l k w r s t
        ∙ elim (lookup order a k) as (λ o. intersect order f (below order a k) l ++ cons_option (option_map (λ v. (k, f v w)) o) (intersect order f (above order a k) r) ≡ intersect order f (below order a k) l ++ cons_option (entry_at k (of_both f o (Some w))) (intersect order f (above order a k) r)) [ None ↦ refl | Some v ↦ refl ];
  }

  pub difference_laws : IsCombination {V = V} order (difference order) unless true false
  difference_laws = record {
    short = λ a b. let h = length-filter_le (λ (e : K × V). is_none (lookup order b e.0)) a in omega (arith, h);
    increases = λ a b s t. IsIncreasing-difference order a b s;
    first_alone = λ a s. filter-all_keys (λ k. true) a (AllKeys-all (λ k. true ≡ true) (λ k. refl) a);
    second_alone = λ b t. refl;
    split_first = λ l k v r b s t.
        difference-split_first total exact l k v r b s
        ∙ elim (lookup order b k) as (λ o. difference order l (below order b k) ++ cond (is_none o) ((k, v) ∷ difference order r (above order b k)) (difference order r (above order b k)) ≡ difference order l (below order b k) ++ cons_option (entry_at k (unless (Some v) o)) (difference order r (above order b k))) [ None ↦ refl | Some w ↦ refl ];
    split_second = λ a l k w r s t. difference-split_second total exact a l k w r s t;
  }

-- a combination of two maps in exchanged order
module _ {K V : Type 0} {order : K → K → Ordering} {combined : List (K × V) → List (K × V) → List (K × V)} {kept : Option V → Option V → Option V} {first second : Bool} (laws : IsCombination order combined kept first second) where
  pub exchanged_laws : IsCombination order (λ a b. combined b a) (λ o p. kept p o) second first
  exchanged_laws = record {
    short = λ a b. let h = laws.short b a in omega (arith, h);
    increases = λ a b s t. laws.increases b a t s;
    first_alone = λ a s. laws.second_alone a s;
    second_alone = λ b t. laws.first_alone b t;
    split_first = λ l k v r b s t. laws.split_second b l k v r t s;
    split_second = λ a l k w r s t. laws.split_first l k w r a t s;
  }
