-- What operations on edges come to, all at once.
use Rattle.std.proofs.Common.{◌≡◌, ◌∙◌, ◌∷◌, [], ℕ, Bool, true, false, cond, List, Option, None, Some, refl, sym, ap, ap₂}
use Rattle.std.specs.Prelude.{fold, map}
use Rattle.std.specs.Cmp.{IsTotalOrder}
use Rattle.std.specs.Map.{keys_of}
use Rattle.std.specs.Option.{option_map, option_or}
use Rattle.std.specs.Ordering.{is_eq, nat_cmp}
use Rattle.std.proofs.lemmas.Cmp.{nat_cmp_total, on_total, then_total}
use Rattle.std.proofs.lemmas.Map.Lookups.{exact_pairs, exact_unsigned}
use Rattle.aug_monoid.specs.Exact.{pair64_cmp, pair64_exact}
use Rattle.aug_monoid.specs.declared.pair64.Pair64.{Pair64}
use Rattle.map_model.specs.Entries.{AllAbove, IsIncreasing, lookup}
use Rattle.map_model.specs.Operations.{Operation, after, build, changes, del, dels, dels_of, last_at, put, puts, puts_of}
use Rattle.map_model.specs.Order.{IsExact}
use Rattle.map_model.proofs.Lookups.{option_or-none}
use Rattle.map_model.proofs.Operations.{IsIncreasing-build, after-net, last_at-cons, lookup-after_puts}
use Rattle.graph_snap.specs.Edges.{IsGraph, edge_order, elements, pairs_of, with_edges, without_edges}
use Rattle.served_graph.specs.declared.fate.Fate.{Fate}
use Rattle.served_graph.specs.declared.fate.Fate.TheVariants as fate
use Rattle.served_graph.specs.declared.op.GraphOp.{GraphOp}
use Rattle.served_graph.specs.declared.op.GraphOp.TheVariants as op
use Rattle.served_graph.specs.Nets.{added_parts, cut_parts, fate_of}
use Rattle.served_graph.specs.Steps.{step}

edge_total : IsTotalOrder edge_order
edge_total = then_total (on_total (λ (e : ℕ × ℕ). e.0) nat_cmp_total) (on_total (λ (e : ℕ × ℕ). e.1) nat_cmp_total)

edge_exact : IsExact edge_order
edge_exact = exact_pairs nat_cmp nat_cmp exact_unsigned exact_unsigned

pair_total : IsTotalOrder pair64_cmp
pair_total = then_total (on_total (λ (p : Pair64). p.first) nat_cmp_total) (on_total (λ (p : Pair64). p.second) nat_cmp_total)

elements-keys : {K : Type 0} (m : List (K × Unit {0})) → elements (keys_of m) ≡ m
elements-keys [] = refl
elements-keys (e ∷ m) = ap (λ l. e ∷ l) (elements-keys m)

-- ---- operations one by one

abbrev operation : GraphOp → Operation (ℕ × ℕ) (Unit {0})
operation (op.Add from to) = put (from, to) tt
operation (op.Cut from to) = del (from, to)

elements-step : (g : List (ℕ × ℕ)) (o : GraphOp) → elements (step g o) ≡ after edge_order (elements g) (operation o ∷ [])
elements-step g (op.Add from to) = elements-keys (after edge_order (elements g) (puts (elements ((from, to) ∷ []))))
elements-step g (op.Cut from to) = elements-keys (after edge_order (elements g) (dels ((from, to) ∷ [])))

elements-fold : (ops : List GraphOp) (g : List (ℕ × ℕ)) → elements (fold step g ops) ≡ after edge_order (elements g) (map operation ops)
elements-fold [] g = refl
elements-fold (o ∷ ops) g = elements-fold ops (step g o) ∙ ap (λ m. after edge_order m (map operation ops)) (elements-step g o)

keys-elements : {K : Type 0} (ks : List K) → keys_of (elements ks) ≡ ks
keys-elements [] = refl
keys-elements (k ∷ ks) = ap (λ l. k ∷ l) (keys-elements ks)

-- ---- the last fate of each edge

abbrev left : Fate → Option (Unit {0})
left fate.Cut = None
left fate.Added = Some tt

-- a change of a graph as a map
abbrev changing : Pair64 × Fate → (ℕ × ℕ) × Option (Unit {0})
changing e = ((e.0.first, e.0.second), left e.1)

lookup-changing : (m : List (Pair64 × Fate)) (q : ℕ × ℕ) → lookup edge_order (map changing m) q ≡ option_map left (lookup pair64_cmp m (record { first = q.0; second = q.1 }))
lookup-changing [] q = refl
lookup-changing (e ∷ m) q =
    ap (λ o. cond (is_eq (edge_order (e.0.first, e.0.second) q)) (Some (left e.1)) o) (lookup-changing m q)
    ∙ elim (is_eq (edge_order (e.0.first, e.0.second) q)) as (λ b. cond b (Some (left e.1)) (option_map left (lookup pair64_cmp m (record { first = q.0; second = q.1 }))) ≡ option_map left (cond b (Some e.1) (lookup pair64_cmp m (record { first = q.0; second = q.1 })))) [ true ↦ refl | false ↦ refl ]

above-changing : (k : Pair64) (m : List (Pair64 × Fate)) → AllAbove pair64_cmp m k → AllAbove edge_order (map changing m) (k.first, k.second)
above-changing k [] h = tt
above-changing k (e ∷ m) h = (h.0, above-changing k m h.1)

rises-changing : (m : List (Pair64 × Fate)) → IsIncreasing pair64_cmp m → IsIncreasing edge_order (map changing m)
rises-changing [] h = tt
rises-changing (e ∷ m) h = (above-changing e.0 m h.0, rises-changing m h.1)

changes-fates : (ops : List GraphOp) → changes (map operation ops) ≡ map changing (map fate_of ops)
changes-fates [] = refl
changes-fates (op.Add from to ∷ ops) = ap (λ l. ((from, to), Some tt) ∷ l) (changes-fates ops)
changes-fates (op.Cut from to ∷ ops) = ap (λ l. ((from, to), None) ∷ l) (changes-fates ops)

-- the last change at an edge
last-changing : (m : List (Pair64 × Fate)) (q : ℕ × ℕ) → last_at edge_order (map changing m) q ≡ option_map left (last_at pair64_cmp m (record { first = q.0; second = q.1 }))
last-changing [] q = refl
last-changing (e ∷ m) q =
    let key : Pair64 = record { first = q.0; second = q.1 } in
    last_at-cons edge_order (changing e) (map changing m) q
    ∙ ap (λ o. option_or o (cond (is_eq (edge_order (e.0.first, e.0.second) q)) (Some (left e.1)) None)) (last-changing m q)
    ∙ either (last_at pair64_cmp m key) (is_eq (pair64_cmp e.0 key)) e.1
    ∙ sym (ap (option_map left) (last_at-cons pair64_cmp e m key))
  where
    either : (o : Option Fate) (b : Bool) (f : Fate) → option_or (option_map left o) (cond b (Some (left f)) None) ≡ option_map left (option_or o (cond b (Some f) None))
    either None true f = refl
    either None false f = refl
    either (Some x) b f = refl

puts-parts : (m : List (Pair64 × Fate)) → puts_of (map changing m) ≡ elements (pairs_of (added_parts m))
puts-parts [] = refl
puts-parts ((key, fate.Cut) ∷ m) = puts-parts m
puts-parts ((key, fate.Added) ∷ m) = ap (λ l. ((key.first, key.second), tt) ∷ l) (puts-parts m)

dels-parts : (m : List (Pair64 × Fate)) → dels_of (map changing m) ≡ pairs_of (cut_parts m)
dels-parts [] = refl
dels-parts ((key, fate.Cut) ∷ m) = ap (λ l. (key.first, key.second) ∷ l) (dels-parts m)
dels-parts ((key, fate.Added) ∷ m) = dels-parts m

module _ (ops : List GraphOp) where
  abbrev last : List (Pair64 × Fate)
  last = build pair64_cmp (map fate_of ops)

  found-last : (q : ℕ × ℕ) → lookup edge_order (map changing last) q ≡ last_at edge_order (changes (map operation ops)) q
  found-last q =
      let key : Pair64 = record { first = q.0; second = q.1 } in
      lookup-changing last q
      ∙ ap (option_map left) (lookup-after_puts pair_total pair64_exact (map fate_of ops) [] key ∙ option_or-none (last_at pair64_cmp (map fate_of ops) key))
      ∙ sym (last-changing (map fate_of ops) q)
      ∙ ap (λ l. last_at edge_order l q) (sym (changes-fates ops))

  -- to cut and add each edge by its last operation does what the operations do one by one
  pub at_once : (g : List (ℕ × ℕ)) → IsGraph g → with_edges (without_edges g (pairs_of (cut_parts last))) (pairs_of (added_parts last)) ≡ fold step g ops
  at_once g ordered =
      let less : List ((ℕ × ℕ) × Unit {0}) = after edge_order (elements g) (dels (pairs_of (cut_parts last))) in
      ap (λ m. keys_of (after edge_order m (puts (elements (pairs_of (added_parts last)))))) (elements-keys less)
      ∙ ap₂ (λ c p. keys_of (after edge_order (after edge_order (elements g) (dels c)) (puts p))) (sym (dels-parts last)) (sym (puts-parts last))
      ∙ ap keys_of (sym (after-net edge_total edge_exact (map operation ops) (map changing last) (elements g) ordered (rises-changing last (IsIncreasing-build pair_total (map fate_of ops))) found-last))
      ∙ ap keys_of (sym (elements-fold ops g))
      ∙ keys-elements (fold step g ops)
