-- The ends of edges, in order.
use Rattle.std.proofs.Common.{◌≡◌, ◌∙◌, ◌∷◌, ◌≤◌, ◌<◌, [], ℕ, zero, suc, true, false, List, Some, cond, get_or, length, nat_lt, refl, sym, ap, subst, arith}
use Rattle.std.specs.declared.cmp.Ordering.TheVariants.{Less, Equal, Greater}
use Rattle.std.specs.List.{AllByRecursion, Contains, flat_map}
use Rattle.std.specs.List.Sorted.{IsNonDecreasing, IsPartitionPoint}
use Rattle.std.specs.Map.{keys_of}
use Rattle.std.specs.Ordering.{is_eq, nat_cmp}
use Rattle.std.proofs.lemmas.Bool.Decides.{nat_tests}
use Rattle.std.proofs.lemmas.Cmp.{nat_cmp_total}
use Rattle.std.proofs.lemmas.List.{get_or_default}
use Rattle.std.proofs.lemmas.List.Elements.{All-from_recursion}
use Rattle.std.proofs.lemmas.Option.{none-some}
use Rattle.map_model.specs.Entries.{AllAbove, IsIncreasing, lookup, set}
use Rattle.map_model.specs.Operations.{after, build, puts}
use Rattle.map_model.proofs.NatKeys.{lt_from_less, nat_exact}
use Rattle.map_model.proofs.Operations.{IsIncreasing-build}
use Rattle.graph_snap.specs.Edges.{elements, pairs_of}
use Rattle.graph_snap.specs.declared.edge.Edge.{Edge}
use Rattle.graph_comp.specs.Components.{ends}
use Rattle.graph_comp.specs.Forests.{HasEnds}
use Rattle.graph_comp.proofs.Sets.{elements-keys, just_put, stays}

abbrev pair_of : ℕ × ℕ → List ℕ
pair_of e = e.0 ∷ e.1 ∷ []

given_ends : (es : List Edge) → flat_map (λ (e : Edge). (e.from, tt) ∷ (e.to, tt) ∷ []) es ≡ elements (flat_map pair_of (pairs_of es))
given_ends [] = refl
given_ends (e ∷ es) = ap (λ l. (e.from, tt) ∷ (e.to, tt) ∷ l) (given_ends es)

pub keys_are_ends : (es : List Edge) (keys : List (ℕ × Unit {0})) → keys ≡ build nat_cmp (flat_map (λ (e : Edge). (e.from, tt) ∷ (e.to, tt) ∷ []) es) → keys_of keys ≡ ends (pairs_of es)
keys_are_ends es keys is = ap keys_of is ∙ ap (λ m. keys_of (build nat_cmp m)) (given_ends es)

-- ---- order

pub ends_rise : (g : List (ℕ × ℕ)) → IsIncreasing nat_cmp (elements (ends g))
ends_rise g =
    let pairs : List (ℕ × Unit {0}) = elements (flat_map pair_of g) in
    subst (IsIncreasing nat_cmp) (sym (elements-keys (build nat_cmp pairs))) (IsIncreasing-build nat_cmp_total pairs)

pub in_order : (vs : List ℕ) → IsIncreasing nat_cmp (elements vs) → IsNonDecreasing vs
in_order [] up i j d le h = absurd (omega arith)
in_order (v ∷ vs) up zero zero d le h = omega arith
in_order (v ∷ vs) up zero (suc j) d le h = All-from_recursion (λ w. v ≤ w) vs (behind vs up.0) j d (omega arith)
  where
    behind : (ws : List ℕ) → AllAbove nat_cmp (elements ws) v → AllByRecursion (λ w. v ≤ w) ws
    behind [] above = tt
    behind (w ∷ ws) above = (let lt : v < w = lt_from_less v w above.0 in omega arith, behind ws above.1)
in_order (v ∷ vs) up (suc i) zero d le h = absurd (omega arith)
in_order (v ∷ vs) up (suc i) (suc j) d le h = in_order vs up.1 i j d (omega arith) (omega arith)

-- ---- both ends of each edge are there

contained : (m : List (ℕ × Unit {0})) (v : ℕ) → lookup nat_cmp m v ≡ Some tt → Contains (keys_of m) v
contained [] v h = absurd (none-some tt h)
contained (e ∷ m) v h =
    elim (nat_cmp e.0 v) as (λ o. nat_cmp e.0 v ≡ o → cond (is_eq o) (Some e.1) (lookup nat_cmp m v) ≡ Some tt → Contains (e.0 ∷ keys_of m) v) [
      | Less ↦ λ _ h. later (contained m v h)
      | Equal ↦ λ is _. (0, omega arith, nat_exact e.0 v is)
      | Greater ↦ λ _ h. later (contained m v h)
    ] refl h
  where
    later : Contains (keys_of m) v → Contains (e.0 ∷ keys_of m) v
    later c = (suc c.0, (let lt : c.0 < length (keys_of m) = c.1 in omega arith), c.2)

-- both ends of an edge
abbrev AreKeys : List (ℕ × Unit {0}) → Edge → Type 0
AreKeys m e = (lookup nat_cmp m e.from ≡ Some tt) × (lookup nat_cmp m e.to ≡ Some tt)

all_keys : (es : List Edge) (m : List (ℕ × Unit {0})) → AllByRecursion (AreKeys (after nat_cmp m (puts (elements (flat_map pair_of (pairs_of es)))))) es
all_keys [] m = tt
all_keys (e ∷ es) m =
    let once : List (ℕ × Unit {0}) = set nat_cmp m e.from tt in
    let twice : List (ℕ × Unit {0}) = set nat_cmp once e.to tt in
    let rest : List (ℕ × Unit {0}) = elements (flat_map pair_of (pairs_of es)) in (
      (
        stays nat_cmp_total nat_exact rest twice e.from (stays nat_cmp_total nat_exact ((e.to, tt) ∷ []) once e.from (just_put nat_cmp_total nat_exact m e.from)),
        stays nat_cmp_total nat_exact rest twice e.to (just_put nat_cmp_total nat_exact once e.to),
      ),
      all_keys es twice,
    )

abbrev made : List Edge → List (ℕ × Unit {0})
made es = build nat_cmp (elements (flat_map pair_of (pairs_of es)))

pub has_ends : (es : List Edge) (vertices : List ℕ) → vertices ≡ ends (pairs_of es) → HasEnds vertices es
has_ends es vertices is = subst (λ vs. HasEnds vs es) (sym is) (record {
  order = in_order (ends (pairs_of es)) (ends_rise (pairs_of es));
  ends = All-from_recursion (λ (e : Edge). Contains (ends (pairs_of es)) e.from × Contains (ends (pairs_of es)) e.to) es (each es (all_keys es []));
})
  where
    each : (list : List Edge) → AllByRecursion (AreKeys (made es)) list → AllByRecursion (λ (e : Edge). Contains (keys_of (made es)) e.from × Contains (keys_of (made es)) e.to) list
    each [] h = tt
    each (e ∷ list) h = ((contained (made es) e.from h.0.0, contained (made es) e.to h.0.1), each list h.1)

-- ---- look-ups

lt_is : (x y : ℕ) → nat_lt x y ≡ true → x < y
lt_is x y h = grind (arith, nat_tests)

not_lt : (x y : ℕ) → nat_lt x y ≡ false → y ≤ x
not_lt x y h = grind (arith, nat_tests)

-- a vertex that is in the list stands where those before it end
module _ (vertices : List ℕ) (v i : ℕ) (order : IsNonDecreasing vertices) (point : IsPartitionPoint (λ w. nat_lt w v ≡ true) (λ w. nat_lt w v ≡ false) vertices i) (has : Contains vertices v) where
  not_behind : i ≤ has.0
  not_behind = elim (nat_lt has.0 i) as (λ b. nat_lt has.0 i ≡ b → i ≤ has.0) [
    | true ↦ λ is.
        let less : get_or vertices has.0 v < v = lt_is (get_or vertices has.0 v) v (point.0 has.0 v (omega arith) (lt_is has.0 i is)) in
        let same : get_or vertices has.0 v ≡ v = has.2 in
        absurd (omega arith)
    | false ↦ λ is. not_lt has.0 i is
  ] refl

  pub place_within : i < length vertices
  place_within = let lt : has.0 < length vertices = has.1 in let le : i ≤ has.0 = not_behind in omega arith

  pub place_at : get_or vertices i 0 ≡ v
  place_at =
      let from : v ≤ get_or vertices i 0 = not_lt (get_or vertices i 0) v (point.1 i 0 (omega arith) place_within) in
      let up : get_or vertices i 0 ≤ get_or vertices has.0 0 = order i has.0 0 not_behind has.1 in
      let same : get_or vertices has.0 0 ≡ v = get_or_default vertices has.0 0 v has.1 ∙ has.2 in
      omega arith
