-- Edges as numbers, in the same order.
use Rattle.std.proofs.Common.{◌≡◌, ◌∙◌, ◌+◌, ◌*◌, ◌/◌, ◌%◌, ◌<◌, ◌^◌, ◌++◌, ◌∷◌, [], ℕ, List, get_or, length, take, refl, sym, ap, ap₂, subst, arith}
use Rattle.std.specs.declared.cmp.Ordering.{Ordering}
use Rattle.std.specs.Map.{keys_of}
use Rattle.std.specs.Ordering.{MatchOrdering, nat_cmp, ordering_then}
use Rattle.std.specs.Cmp.{nat_cmp_is}
use Rattle.std.proofs.lemmas.Cmp.{by_ranked, ranked}
use Rattle.std.proofs.lemmas.List.{map-append, take_more}
use Rattle.map_model.specs.Operations.{after, build, puts}
use Rattle.graph_snap.specs.Batches.{unpacked}
use Rattle.graph_snap.specs.Edges.{edge_order, elements, pairs_of, with_edges}
use Rattle.graph_snap.specs.declared.edge.Edge.{Edge}
use Rattle.graph_snap.proofs.Runs.{after-renamed, renamed}

abbrev two : ℕ → ℕ × ℕ
two n = (n / 2 ^ 32, n % 2 ^ 32)

-- two parts compare as the whole
module _ (a b : ℕ) where
  abbrev Ranks : Ordering → Type 0
  Ranks o = MatchOrdering o (a < b) (a ≡ b) (b < a)

  by_low : a / 2 ^ 32 ≡ b / 2 ^ 32 → Ranks (nat_cmp (a % 2 ^ 32) (b % 2 ^ 32))
  by_low high = by_ranked (a % 2 ^ 32 < b % 2 ^ 32) (a % 2 ^ 32 ≡ b % 2 ^ 32) (b % 2 ^ 32 < a % 2 ^ 32) (nat_cmp (a % 2 ^ 32) (b % 2 ^ 32)) (ranked (a % 2 ^ 32) (b % 2 ^ 32) (nat_cmp (a % 2 ^ 32) (b % 2 ^ 32)) refl)
      (λ is h. subst Ranks (sym is) (let less : a < b = omega (arith, high, h) in less))
      (λ is h. subst Ranks (sym is) (let same : a ≡ b = omega (arith, high, h) in same))
      (λ is h. subst Ranks (sym is) (let more : b < a = omega (arith, high, h) in more))

  by_both : Ranks (ordering_then (nat_cmp (a / 2 ^ 32) (b / 2 ^ 32)) (nat_cmp (a % 2 ^ 32) (b % 2 ^ 32)))
  by_both = by_ranked (a / 2 ^ 32 < b / 2 ^ 32) (a / 2 ^ 32 ≡ b / 2 ^ 32) (b / 2 ^ 32 < a / 2 ^ 32) (nat_cmp (a / 2 ^ 32) (b / 2 ^ 32)) (ranked (a / 2 ^ 32) (b / 2 ^ 32) (nat_cmp (a / 2 ^ 32) (b / 2 ^ 32)) refl)
      (λ is h. subst (λ o. Ranks (ordering_then o (nat_cmp (a % 2 ^ 32) (b % 2 ^ 32)))) (sym is) (let less : a < b = omega (arith, h) in less))
      (λ is h. subst (λ o. Ranks (ordering_then o (nat_cmp (a % 2 ^ 32) (b % 2 ^ 32)))) (sym is) (by_low h))
      (λ is h. subst (λ o. Ranks (ordering_then o (nat_cmp (a % 2 ^ 32) (b % 2 ^ 32)))) (sym is) (let more : b < a = omega (arith, h) in more))

  same_order : edge_order (two a) (two b) ≡ nat_cmp a b
  same_order = nat_cmp_is a b (edge_order (two a) (two b)) by_both

abbrev paired : List (ℕ × Unit {0}) → List ((ℕ × ℕ) × Unit {0})
paired keys = renamed nat_cmp edge_order two same_order keys

paired-keys : (keys : List (ℕ × Unit {0})) → unpacked keys ≡ keys_of (paired keys)
paired-keys [] = refl
paired-keys (e ∷ keys) = ap (λ x. two e.0 ∷ x) (paired-keys keys)

paired-elements : (keys : List (ℕ × Unit {0})) → paired keys ≡ elements (unpacked keys)
paired-elements [] = refl
paired-elements (e ∷ keys) = ap (λ x. (two e.0, tt) ∷ x) (paired-elements keys)

-- at the values that the program has
pub small_order_is : (list : List Edge) (keys new lent : List (ℕ × Unit {0})) (edges : List (ℕ × ℕ)) → unpacked keys ≡ pairs_of list → new ≡ build nat_cmp keys → lent ≡ new → edges ≡ unpacked lent → edges ≡ with_edges [] (pairs_of list)
small_order_is list keys new lent edges k n l e =
    e
    ∙ ap unpacked (l ∙ n)
    ∙ paired-keys (build nat_cmp keys)
    ∙ ap keys_of (after-renamed nat_cmp edge_order two same_order keys [] ∙ ap (λ x. after edge_order [] (puts x)) (paired-elements keys ∙ ap elements k))

pub packed_more : (list : List Edge) (i : ℕ) (d : Edge) (keys new : List (ℕ × Unit {0})) → new ≡ keys ++ ((get_or list i d).from * 2 ^ 32 + (get_or list i d).to, tt) ∷ [] → i < length list → (get_or list i d).to < 2 ^ 32 → unpacked keys ≡ pairs_of (take i list) → unpacked new ≡ pairs_of (take (i + 1) list)
packed_more list i d keys new n h low so_far =
    let e = get_or list i d in
    let high : (e.from * 2 ^ 32 + e.to) / 2 ^ 32 ≡ e.from = omega (arith, low) in
    let rest : (e.from * 2 ^ 32 + e.to) % 2 ^ 32 ≡ e.to = omega (arith, low) in
    ap unpacked n
    ∙ map-append (λ (x : ℕ × Unit {0}). two x.0) keys ((e.from * 2 ^ 32 + e.to, tt) ∷ [])
    ∙ ap₂ (λ x y. x ++ y ∷ []) so_far (ap₂ (λ x y. let p : ℕ × ℕ = (x, y) in p) high rest)
    ∙ sym (ap pairs_of (take_more list i d h) ∙ map-append (λ (x : Edge). let p : ℕ × ℕ = (x.from, x.to) in p) (take i list) (e ∷ []))
