-- Components that edges make one, edge by edge.
use Rattle.std.proofs.Common.{◌≡◌, ◌∙◌, ◌∷◌, ◌≤◌, ◌<◌, ◌==◌, ◌||◌, [], ℕ, true, false, cond, List, inl, length, min, map, refl, sym, ap, ap₂, subst, arith, eq-eqb}
use Rattle.std.specs.Prelude.{All, fold}
use Rattle.std.specs.List.{Contains}
use Rattle.std.proofs.lemmas.Bool.{or_right}
use Rattle.std.proofs.lemmas.Bool.Decides.{nat_tests}
use Rattle.std.proofs.lemmas.List.{get_or-map, length-map}
use Rattle.std.proofs.lemmas.List.Elements.{All-cons, All-contains, All-contains_itself, All-head, All-nil, All-tail}
use Rattle.std.proofs.lemmas.Map.Views.{exact_unsigned_eq}
use Rattle.graph_snap.specs.Edges.{pairs_of}
use Rattle.graph_snap.specs.declared.edge.Edge.{Edge}
use Rattle.graph_comp.specs.Components.{AreComponents, AreJoined, IsLeastJoined, components, least_joined, united}
use Rattle.graph_comp.specs.Forests.{KeepsEdges}
use Rattle.graph_comp.specs.declared.labelled.Labelled.{Labelled}
use Rattle.graph_comp.proofs.Joined.{IsLabelling, joined_back, joined_itself, joined_next, joined_on, same_least, settled_least}

-- the lesser of two numbers is one of them
pub lesser_is : (P : ℕ → Type 0) (x y : ℕ) → P x → P y → P (min x y)
lesser_is P x y a b = elim (x == min x y) as (λ t. x == min x y ≡ t → P (min x y)) [
  | true ↦ λ is. subst P (exact_unsigned_eq x (min x y) is) a
  | false ↦ λ is. let other : y ≡ min x y = grind (arith, nat_tests) in subst P other b
] refl

module _ (g : List (ℕ × ℕ)) where
  -- ---- labels stay labels

  module _ (label : ℕ → ℕ) (are : IsLabelling g label) (e : ℕ × ℕ) (in_g : Contains g e) where
    ends_joined : AreJoined g (label e.0) (label e.1)
    ends_joined =
        joined_on g (label e.0) e.0 (label e.1) (joined_back g e.0 (label e.0) (are.joined e.0))
        (joined_on g e.0 e.1 (label e.1) (joined_next g e.0 e.1 (inl in_g)) (are.joined e.1))

    -- a vertex whose label is that of one end
    taken : (v : ℕ) → AreJoined g v (label e.0) → min (label e.0) (label e.1) ≤ v → AreJoined g v (min (label e.0) (label e.1)) × (min (label e.0) (label e.1) ≤ v)
    taken v a low = (lesser_is (λ x. AreJoined g v x) (label e.0) (label e.1) a (joined_on g v (label e.0) (label e.1) a ends_joined), low)

    united_at : (v : ℕ) → AreJoined g v (united label e v) × (united label e v ≤ v)
    united_at v =
        let low : label v ≤ v = are.low v in
        elim (label v == label e.0) as (λ b. label v == label e.0 ≡ b → AreJoined g v (cond (b || label v == label e.1) (min (label e.0) (label e.1)) (label v)) × (cond (b || label v == label e.1) (min (label e.0) (label e.1)) (label v) ≤ v)) [
          | true ↦ λ is.
              let same : label v ≡ label e.0 = exact_unsigned_eq (label v) (label e.0) is in
              taken v (subst (λ x. AreJoined g v x) same (are.joined v)) (omega arith)
          | false ↦ λ _. elim (label v == label e.1) as (λ b. label v == label e.1 ≡ b → AreJoined g v (cond b (min (label e.0) (label e.1)) (label v)) × (cond b (min (label e.0) (label e.1)) (label v) ≤ v)) [
            | true ↦ λ is.
                let same : label v ≡ label e.1 = exact_unsigned_eq (label v) (label e.1) is in
                taken v (joined_on g v (label e.1) (label e.0) (subst (λ x. AreJoined g v x) same (are.joined v)) (joined_back g (label e.0) (label e.1) ends_joined)) (omega arith)
            | false ↦ λ _. (are.joined v, low)
          ] refl
        ] refl

    united_labels : IsLabelling g (united label e)
    united_labels = record { joined = λ v. (united_at v).0; low = λ v. (united_at v).1 }

  all_labels : (es : List (ℕ × ℕ)) (label : ℕ → ℕ) → All (Contains g) es → IsLabelling g label → IsLabelling g (fold united label es)
  all_labels [] label within are = are
  all_labels (e ∷ es) label within are = all_labels es (united label e) (All-tail (Contains g) e es within) (united_labels label are e (All-head (Contains g) e es within))

  -- ---- both ends of an edge have one label

  still_same : (es : List (ℕ × ℕ)) (label : ℕ → ℕ) (u v : ℕ) → label u ≡ label v → fold united label es u ≡ fold united label es v
  still_same [] label u v h = h
  still_same (e ∷ es) label u v h = still_same es (united label e) u v (ap (λ x. cond (x == label e.0 || x == label e.1) (min (label e.0) (label e.1)) x) h)

  ends_same : (label : ℕ → ℕ) (e : ℕ × ℕ) → united label e e.0 ≡ united label e e.1
  ends_same label e =
      ap (λ b. cond (b || label e.0 == label e.1) (min (label e.0) (label e.1)) (label e.0)) (eq-eqb (label e.0) (label e.0) refl)
      ∙ sym (ap (λ b. cond b (min (label e.0) (label e.1)) (label e.1)) (or_right (label e.1 == label e.0) (label e.1 == label e.1) (eq-eqb (label e.1) (label e.1) refl)))

  all_same : (es : List (ℕ × ℕ)) (label last : ℕ → ℕ) → last ≡ fold united label es → All (λ (e : ℕ × ℕ). last e.0 ≡ last e.1) es
  all_same [] label last is = All-nil (λ (e : ℕ × ℕ). last e.0 ≡ last e.1)
  all_same (e ∷ es) label last is =
      All-cons (λ (e : ℕ × ℕ). last e.0 ≡ last e.1) e es
      (subst (λ (f : ℕ → ℕ). f e.0 ≡ f e.1) (sym is) (still_same es (united label e) e.0 e.1 (ends_same label e)))
      (all_same es (united label e) last is)

  pub least_is : (v : ℕ) → IsLeastJoined g v (least_joined g v)
  unfolding least_joined
  least_is =
      settled_least g (fold united (λ v. v) g)
      (all_labels g (λ v. v) (All-contains_itself g) (record { joined = joined_itself g; low = λ v. omega arith }))
      (λ u v here. All-contains (λ (e : ℕ × ℕ). fold united (λ v. v) g e.0 ≡ fold united (λ v. v) g e.1) g (u, v) (all_same g (λ v. v) (fold united (λ v. v) g) refl) here)

  -- ---- the relation determines the list

  made_again : (list : List Labelled) → All (λ (l : Labelled). IsLeastJoined g l.vertex l.label) list → list ≡ map (λ (v : ℕ). let l : Labelled = record { vertex = v; label = least_joined g v } in l) (map (λ (l : Labelled). l.vertex) list)
  made_again [] h = refl
  made_again (l ∷ list) h =
      let least = λ (l : Labelled). IsLeastJoined g l.vertex l.label in
      ap₂ (λ (x : Labelled) (xs : List Labelled). x ∷ xs)
      (ap (λ (x : ℕ). let m : Labelled = record { vertex = l.vertex; label = x } in m) (same_least g l.vertex l.label (least_joined g l.vertex) (All-head least l list h) (least_is l.vertex)))
      (made_again list (All-tail least l list h))

  pub determined : (list : List Labelled) → AreComponents g list → list ≡ components g
  unfolding components
  determined list are = made_again list are.labels ∙ ap (map (λ (v : ℕ). let l : Labelled = record { vertex = v; label = least_joined g v } in l)) are.vertices

-- both ends of each edge have one least vertex
pub keeps_least : (edges : List Edge) → KeepsEdges (least_joined (pairs_of edges)) edges
unfolding least_joined
keeps_least edges k d lt =
    let label = fold united (λ (v : ℕ). v) (pairs_of edges) in
    let as_pair : Edge → ℕ × ℕ = λ e. (e.from, e.to) in
    let long : k < length (pairs_of edges) = omega (arith, length-map edges as_pair) in
    subst (λ (e : ℕ × ℕ). label e.0 ≡ label e.1) (get_or-map as_pair edges k d (d.from, d.to) lt)
    (all_same (pairs_of edges) (pairs_of edges) (λ v. v) label refl k (d.from, d.to) long)
