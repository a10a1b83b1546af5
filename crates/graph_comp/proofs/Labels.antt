-- Labels of vertices at the roots of their trees are components.
use Rattle.std.proofs.Common.{◌≡◌, ◌∙◌, ◌∷◌, ◌≤◌, ◌<◌, ◌==◌, [], ℕ, true, false, List, cond, get_or, length, map, refl, sym, ap, subst, arith, eq-eqb}
use Rattle.std.specs.Prelude.{All}
use Rattle.std.specs.List.{AllByRecursion, Contains}
use Rattle.std.specs.Ordering.{nat_cmp}
use Rattle.std.proofs.lemmas.Bool.Decides.{nat_tests}
use Rattle.std.proofs.lemmas.List.{get_or-map, length-map}
use Rattle.std.proofs.lemmas.List.Elements.{All-contains, All-from_recursion, All-map, recursion_from_All}
use Rattle.std.proofs.lemmas.Map.Views.{exact_unsigned_eq}
use Rattle.map_model.specs.Entries.{AllAbove, IsIncreasing}
use Rattle.map_model.proofs.NatKeys.{lt_from_less}
use Rattle.graph_snap.specs.Edges.{elements, pairs_of}
use Rattle.graph_snap.specs.declared.edge.Edge.{Edge}
use Rattle.graph_comp.specs.Components.{AreComponents, AreJoined, IsLeastJoined, ends, least_joined}
use Rattle.graph_comp.specs.Forests.{KeepsEdges, Spans}
use Rattle.graph_comp.specs.declared.labelled.Labelled.{Labelled}
use Rattle.graph_comp.proofs.Ends.{ends_rise, in_order}
use Rattle.graph_comp.proofs.Joined.{IsLabelling, joined_back, joined_itself, joined_on, settled_least}
use Rattle.graph_comp.proofs.Merged.{keeps_least, least_is}

-- the label of a vertex in a list, or the vertex itself where it has none
abbrev label_in : List Labelled → ℕ → ℕ
label_in [] v = v
label_in (l ∷ list) v = cond (l.vertex == v) l.label (label_in list v)

-- each vertex of a list that increases has its own label
own_label : (list : List Labelled) → IsIncreasing nat_cmp (elements (map (λ (l : Labelled). l.vertex) list)) → AllByRecursion (λ (l : Labelled). label_in list l.vertex ≡ l.label) list
own_label [] up = tt
own_label (l ∷ list) up =
    (ap (λ b. cond b l.label (label_in list l.vertex)) (eq-eqb l.vertex l.vertex refl), others list up.0 (own_label list up.1))
  where
    other : (a b : ℕ) → a < b → (a == b) ≡ false
    other a b h = grind (arith, nat_tests)

    others : (ms : List Labelled) → AllAbove nat_cmp (elements (map (λ (m : Labelled). m.vertex) ms)) l.vertex → AllByRecursion (λ (m : Labelled). label_in list m.vertex ≡ m.label) ms → AllByRecursion (λ (m : Labelled). cond (l.vertex == m.vertex) l.label (label_in list m.vertex) ≡ m.label) ms
    others [] above h = tt
    others (m ∷ ms) above h =
        (ap (λ b. cond b l.label (label_in list m.vertex)) (other l.vertex m.vertex (lt_from_less l.vertex m.vertex above.0)) ∙ h.0, others ms above.1 h.1)

-- a vertex is joined with its label, which is not greater
abbrev IsLabel : List (ℕ × ℕ) → ℕ → ℕ → Type 0
IsLabel g v l = AreJoined g v l × (l ≤ v)

labelling_in : (g : List (ℕ × ℕ)) (list : List Labelled) → AllByRecursion (λ (l : Labelled). IsLabel g l.vertex l.label) list → IsLabelling g (label_in list)
labelling_in g list are = record { joined = λ v. (at list are v).0; low = λ v. (at list are v).1 }
  where
    at : (list : List Labelled) → AllByRecursion (λ (l : Labelled). IsLabel g l.vertex l.label) list → (v : ℕ) → IsLabel g v (label_in list v)
    at [] h v = (joined_itself g v, omega arith)
    at (l ∷ list) h v =
        elim (l.vertex == v) as (λ b. l.vertex == v ≡ b → IsLabel g v (cond b l.label (label_in list v))) [
          | true ↦ λ is. subst (λ x. IsLabel g x l.label) (exact_unsigned_eq l.vertex v is) h.0
          | false ↦ λ _. at list h.1 v
        ] refl

-- each vertex has the label at its parent's place, and each parent is a root
pub record AreLabelled (edges : List Edge) (vertices parents : List ℕ) (found : List Labelled) : Type 0 where
  pub are_ends : vertices ≡ ends (pairs_of edges)
  pub spans : Spans vertices edges parents
  pub flat : (v : ℕ) → v < length parents → get_or parents (get_or parents v 0) 0 ≡ get_or parents v 0
  pub vertices_are : map (λ (l : Labelled). l.vertex) found ≡ vertices
  pub labels_are : map (λ (l : Labelled). l.label) found ≡ map (λ p. get_or vertices p 0) parents

module _ (edges : List Edge) (vertices parents : List ℕ) (found : List Labelled) (are : AreLabelled edges vertices parents found) where
  abbrev g : List (ℕ × ℕ)
  g = pairs_of edges

  abbrev vertex : ℕ → ℕ
  vertex i = get_or vertices i 0

  abbrev parent : ℕ → ℕ
  parent i = get_or parents i 0

  as_long : length found ≡ length parents
  as_long = sym (length-map found (λ (l : Labelled). l.vertex)) ∙ ap length are.vertices_are ∙ sym are.spans.whole

  parent_low : (i : ℕ) → i < length parents → parent i ≤ i
  parent_low i lt = are.spans.forest i lt

  vertex_of : (i : ℕ) (d : Labelled) → i < length found → (get_or found i d).vertex ≡ vertex i
  vertex_of i d lt = sym (get_or-map (λ (l : Labelled). l.vertex) found i d 0 lt) ∙ ap (λ vs. get_or vs i 0) are.vertices_are

  label_of : (i : ℕ) (d : Labelled) → i < length found → (get_or found i d).label ≡ vertex (parent i)
  label_of i d lt =
      let lt' : i < length parents = omega (arith, as_long) in
      sym (get_or-map (λ (l : Labelled). l.label) found i d 0 lt) ∙ ap (λ ls. get_or ls i 0) are.labels_are ∙ get_or-map (λ p. get_or vertices p 0) parents i 0 0 lt'

  -- a vertex is joined with its parent: the least that either is joined with is one
  joined_parent : (i : ℕ) → i < length parents → AreJoined g (vertex i) (vertex (parent i))
  joined_parent i lt =
      let least : ℕ → ℕ = least_joined g in
      let same : least (vertex (parent i)) ≡ least (vertex i) = (are.spans.joined (least_joined g)).1 (keeps_least edges) i lt in
      joined_on g (vertex i) (least_joined g (vertex i)) (vertex (parent i)) (least_is g (vertex i)).joined
      (subst (λ x. AreJoined g x (vertex (parent i))) same (joined_back g (vertex (parent i)) (least_joined g (vertex (parent i))) (least_is g (vertex (parent i))).joined))

  low_parent : (i : ℕ) → i < length parents → vertex (parent i) ≤ vertex i
  low_parent i lt =
      let order = in_order vertices (subst (λ vs. IsIncreasing nat_cmp (elements vs)) (sym are.are_ends) (ends_rise g)) in
      order (parent i) i 0 (parent_low i lt) (omega (arith, are.spans.whole))

  labels_label : IsLabelling g (label_in found)
  labels_label = labelling_in g found (recursion_from_All (λ (l : Labelled). IsLabel g l.vertex l.label) found each)
    where
      each : All (λ (l : Labelled). IsLabel g l.vertex l.label) found
      each i d lt =
          let lt' : i < length parents = omega (arith, as_long) in
          subst (λ v. IsLabel g v (get_or found i d).label) (sym (vertex_of i d lt)) (subst (IsLabel g (vertex i)) (sym (label_of i d lt)) (joined_parent i lt', low_parent i lt'))

  own : All (λ (l : Labelled). label_in found l.vertex ≡ l.label) found
  own = All-from_recursion (λ (l : Labelled). label_in found l.vertex ≡ l.label) found (own_label found (subst (λ vs. IsIncreasing nat_cmp (elements vs)) (sym (are.vertices_are ∙ are.are_ends)) (ends_rise g)))

  label_at : (i : ℕ) → i < length parents → label_in found (vertex i) ≡ vertex (parent i)
  label_at i lt =
      let d : Labelled = record { vertex = 0; label = 0 } in
      let lt' : i < length found = omega (arith, as_long) in
      ap (label_in found) (sym (vertex_of i d lt')) ∙ own i d lt' ∙ label_of i d lt'

  keeps : KeepsEdges (label_in found) edges
  keeps = (are.spans.joined (label_in found)).0 (λ i lt.
      let low : parent i ≤ i = parent_low i lt in
      label_at (parent i) (omega arith) ∙ ap vertex (are.flat i lt) ∙ sym (label_at i lt))

  both : (u v : ℕ) → Contains g (u, v) → label_in found u ≡ label_in found v
  both u v here = All-contains (λ (e : ℕ × ℕ). label_in found e.0 ≡ label_in found e.1) g (u, v) (All-map (λ (e : ℕ × ℕ). label_in found e.0 ≡ label_in found e.1) (λ (e : Edge). (e.from, e.to)) edges keeps) here

  pub are_components : AreComponents g found
  are_components = record {
    vertices = are.vertices_are ∙ are.are_ends;
    labels = λ i d lt. subst (IsLeastJoined g (get_or found i d).vertex) (own i d lt) (settled_least g (label_in found) labels_label both (get_or found i d).vertex);
  }
