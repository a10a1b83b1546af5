-- How many vertices have out-neighbours, how many out-neighbours a vertex has, and how many edges there are.
use Rattle.std.proofs.Common.{◌≡◌, ◌∙◌, ◌+◌, ◌-◌, ◌^◌, ◌<◌, ◌++◌, ◌∷◌, ◌==◌, [], ℕ, true, false, cond, List, Option, None, Some, length, length-append, map, min, slice_get, refl, sym, ap, ap₂, arith}
use Rattle.std.specs.declared.cmp.Ordering.TheVariants.{Less, Equal, Greater}
use Rattle.std.specs.List.{filter}
use Rattle.std.specs.Map.{keys_of}
use Rattle.std.specs.Option.{option_map, option_or, unwrap_or}
use Rattle.std.specs.Ordering.{is_eq, nat_cmp}
use Rattle.std.proofs.lemmas.Cmp.{nat_cmp_total}
use Rattle.std.proofs.lemmas.List.{append-nil, length-map, map-append}
use Rattle.std.proofs.lemmas.List.Elements.{filter-append}
use Rattle.std.proofs.lemmas.Map.Entries.{length-keys_of}
use Rattle.map_model.specs.Entries.{AllAbove, IsIncreasing, lookup}
use Rattle.map_model.specs.Fold.{fold_of}
use Rattle.map_model.specs.Operations.{build, last_at}
use Rattle.map_model.proofs.Lookups.{equal_lookups, lookup-append, lookup-behind, option_or-none}
use Rattle.map_model.proofs.NatKeys.{is_eq-nat_cmp, nat_exact}
use Rattle.map_model.proofs.Operations.{IsIncreasing-build, lookup-after_puts}
use Rattle.graph_snap.specs.Edges.{AreSets, Sets, edges_of, elements, out_neighbours, set_at, sources}
use Rattle.graph_snap.proofs.Sets.{fan, first_filled, keys-elements, last-element, rest_filled}

-- ---- out-neighbours

out-append : (a b : List (ℕ × ℕ)) (v : ℕ) → out_neighbours (a ++ b) v ≡ out_neighbours a v ++ out_neighbours b v
out-append a b v = ap (map (λ (e : ℕ × ℕ). e.1)) (filter-append (λ (e : ℕ × ℕ). e.0 == v) a b) ∙ map-append (λ (e : ℕ × ℕ). e.1) (filter (λ (e : ℕ × ℕ). e.0 == v) a) (filter (λ (e : ℕ × ℕ). e.0 == v) b)

out-fan : (u v : ℕ) (ns : List (ℕ × Unit {0})) → out_neighbours (fan u ns) v ≡ cond (u == v) (keys_of ns) []
out-fan u v [] = elim (u == v) as (λ b. ◌≡◌ {A = List ℕ} [] (cond b [] [])) [ true ↦ refl | false ↦ refl ]
out-fan u v (x ∷ ns) =
    let rest = out-fan u v ns in
    elim (u == v) as (λ b. out_neighbours (fan u ns) v ≡ cond b (keys_of ns) [] → map (λ (e : ℕ × ℕ). e.1) (cond b ((u, x.0) ∷ filter (λ (e : ℕ × ℕ). e.0 == v) (fan u ns)) (filter (λ (e : ℕ × ℕ). e.0 == v) (fan u ns))) ≡ cond b (x.0 ∷ keys_of ns) []) [
      | true ↦ λ r. ap (λ m. x.0 ∷ m) r
      | false ↦ λ r. r
    ] rest

pub out-edges_of : (sets : Sets) (v : ℕ) → IsIncreasing nat_cmp sets → out_neighbours (edges_of sets) v ≡ keys_of (set_at sets v)
out-edges_of [] v rises = refl
out-edges_of (s ∷ sets) v rises =
    out-append (fan s.0 s.1) (edges_of sets) v
    ∙ ap₂ (λ a b. a ++ b) (out-fan s.0 v s.1 ∙ ap (λ b. cond b (keys_of s.1) []) (sym (is_eq-nat_cmp s.0 v))) (out-edges_of sets v rises.1)
    ∙ elim (nat_cmp s.0 v) as (λ o. nat_cmp s.0 v ≡ o → cond (is_eq o) (keys_of s.1) [] ++ keys_of (set_at sets v) ≡ keys_of (unwrap_or (cond (is_eq o) (Some s.1) (lookup nat_cmp sets v)) [])) [
      | Less ↦ λ _. refl
      | Equal ↦ λ is. ap (λ o. keys_of s.1 ++ keys_of (unwrap_or o [])) (lookup-behind nat_cmp_total s sets v rises is) ∙ append-nil (keys_of s.1)
      | Greater ↦ λ _. refl
    ] refl

pub length-out : (sets : Sets) (v : ℕ) → AreSets sets → length (out_neighbours (edges_of sets) v) ≡ length (set_at sets v)
length-out sets v are = ap length (out-edges_of sets v are.increasing) ∙ length-keys_of (set_at sets v)

-- ---- vertices with out-neighbours

found-first : (u q : ℕ) (ns : List (ℕ × Unit {0})) → lookup nat_cmp (elements (map (λ (e : ℕ × ℕ). e.0) (fan u ns))) q ≡ cond (is_eq (nat_cmp u q)) (option_map (λ (x : ℕ × Unit {0}). x.1) (slice_get ns 0)) None
found-first u q [] = elim (is_eq (nat_cmp u q)) as (λ b. ◌≡◌ {A = Option (Unit {0})} None (cond b None None)) [ true ↦ refl | false ↦ refl ]
found-first u q (x ∷ ns) =
    ap (cond (is_eq (nat_cmp u q)) (Some tt)) (found-first u q ns)
    ∙ elim (is_eq (nat_cmp u q)) as (λ b. cond b (Some tt) (cond b (option_map (λ (x : ℕ × Unit {0}). x.1) (slice_get ns 0)) None) ≡ cond b (Some tt) None) [ true ↦ refl | false ↦ refl ]

first_of_filled : (ns : List (ℕ × Unit {0})) → 0 < length ns → option_map (λ (x : ℕ × Unit {0}). x.1) (slice_get ns 0) ≡ Some tt
first_of_filled [] h = absurd (let none : ⊥ = omega (arith, h) in none)
first_of_filled (x ∷ ns) h = refl

abbrev marks : Sets → List (ℕ × Unit {0})
marks sets = elements (keys_of sets)

found-sources : (sets : Sets) (q : ℕ) → AreSets sets → lookup nat_cmp (elements (map (λ (e : ℕ × ℕ). e.0) (edges_of sets))) q ≡ lookup nat_cmp (marks sets) q
found-sources [] q are = refl
found-sources (s ∷ sets) q are =
    ap (λ m. lookup nat_cmp (elements m) q) (map-append (λ (e : ℕ × ℕ). e.0) (fan s.0 s.1) (edges_of sets))
    ∙ ap (λ m. lookup nat_cmp m q) (map-append (λ (k : ℕ). let e : ℕ × Unit {0} = (k, tt) in e) (map (λ (e : ℕ × ℕ). e.0) (fan s.0 s.1)) (map (λ (e : ℕ × ℕ). e.0) (edges_of sets)))
    ∙ lookup-append nat_cmp (elements (map (λ (e : ℕ × ℕ). e.0) (fan s.0 s.1))) (elements (map (λ (e : ℕ × ℕ). e.0) (edges_of sets))) q
    ∙ ap₂ option_or (found-first s.0 q s.1 ∙ ap (λ o. cond (is_eq (nat_cmp s.0 q)) o None) (first_of_filled s.1 (first_filled s sets are).some)) (found-sources sets q (rest_filled s sets are))
    ∙ elim (is_eq (nat_cmp s.0 q)) as (λ b. option_or (cond b (Some tt) None) (lookup nat_cmp (marks sets) q) ≡ cond b (Some tt) (lookup nat_cmp (marks sets) q)) [ true ↦ refl | false ↦ refl ]

marks_rise : (sets : Sets) → IsIncreasing nat_cmp sets → IsIncreasing nat_cmp (marks sets)
marks_rise [] h = tt
marks_rise (s ∷ sets) h = (above sets h.0, marks_rise sets h.1)
  where
    above : (sets : Sets) → AllAbove nat_cmp sets s.0 → AllAbove nat_cmp (marks sets) s.0
    above [] h = tt
    above (t ∷ sets) h = (h.0, above sets h.1)

pub sources-edges_of : (sets : Sets) → AreSets sets → sources (edges_of sets) ≡ keys_of sets
sources-edges_of sets are =
    let firsts = elements (map (λ (e : ℕ × ℕ). e.0) (edges_of sets)) in
    ap keys_of (equal_lookups nat_cmp_total nat_exact (build nat_cmp firsts) (marks sets) (IsIncreasing-build nat_cmp_total firsts) (marks_rise sets are.increasing) (λ q.
    lookup-after_puts nat_cmp_total nat_exact firsts [] q ∙ option_or-none (last_at nat_cmp firsts q) ∙ last-element nat_cmp firsts q ∙ found-sources sets q are))
    ∙ keys-elements (keys_of sets)

pub length-sources : (sets : Sets) → AreSets sets → length (sources (edges_of sets)) ≡ length sets
length-sources sets are = ap length (sources-edges_of sets are) ∙ length-keys_of sets

-- ---- edges

-- the edges of a vertex and those behind it
length-edges : (e : ℕ × List (ℕ × Unit {0})) (m : Sets) → length (edges_of (e ∷ m)) ≡ length e.1 + length (edges_of m)
length-edges e m = length-append (fan e.0 e.1) (edges_of m) ∙ ap (λ n. n + length (edges_of m)) (length-map e.1 (λ x. (e.0, x.0)))

-- the sets' sizes summed up, up to a bound
abbrev total_of : Sets → ℕ
total_of m = fold_of (λ (u : ℕ) (ns : List (ℕ × Unit {0})). min (length ns) (2 ^ 64 - 1)) 0 (λ a b. min (a + b) (2 ^ 64 - 1)) m

summed : (m : Sets) → total_of m ≡ min (length (edges_of m)) (2 ^ 64 - 1)
summed [] = refl
summed (e ∷ m) =
    let rest = summed m in
    let all = length-edges e m in
    omega (arith, rest, all)

-- a sum below the bound is the number of edges
pub total_is : (m : Sets) (total n : ℕ) → total ≡ total_of m → (n ≡ total) × (n < 2 ^ 64 - 1) → n ≡ length (edges_of m)
total_is m total n t h =
    let all = summed m in
    let same = h.0 in
    let less = h.1 in
    omega (arith, t, all, same, less)
