-- The edges from whose sources a search has gone.
use Rattle.std.proofs.Common.{◌≡◌, ◌∙◌, ◌+◌, ◌<◌, ◌≤◌, ℕ, Bool, true, false, Option, None, Some, List, [], All, Contains, length, take, get_or, inl, refl, sym, ap, subst, arith}
use Rattle.std.specs.Ordering.{nat_cmp}
use Rattle.std.proofs.lemmas.List.{get_or-map, length-map, take_all}
use Rattle.std.proofs.lemmas.List.Elements.{All-more, All-nil}
use Rattle.map_model.specs.Entries.{lookup}
use Rattle.graph_snap.specs.Edges.{pairs_of}
use Rattle.graph_snap.specs.declared.edge.Edge.{Edge}
use Rattle.graph_order.specs.Orders.{IsEnd, IsTopologicalOrder}
use Rattle.graph_order.specs.Searches.{IsSearching, IsSeen, Keeps, walk_of}
use Rattle.graph_order.specs.declared.search.Frame.{Frame}
use Rattle.graph_order.proofs.Elements.{nothing_there}
use Rattle.graph_order.proofs.Searching.{all_done}

-- each of these edges begins at a vertex with a mark
abbrev pub AreSeen : List (ℕ × Bool) → List Edge → Type 0
AreSeen marks edges = All (λ (e : Edge). IsSeen marks e.from) edges

pub none_seen : (marks : List (ℕ × Bool)) → AreSeen marks []
none_seen marks = All-nil (λ (e : Edge). IsSeen marks e.from)

pub seen_more : (old new : List (ℕ × Bool)) (edges : List Edge) (i : ℕ) (d : Edge) → i < length edges → Keeps old new → AreSeen old (take i edges) → IsSeen new (get_or edges i d).from → AreSeen new (take (i + 1) edges)
seen_more old new edges i d within keeps seen here =
    All-more (λ (e : Edge). IsSeen new e.from) edges i d within (λ k e before none. seen k e before (keeps (get_or (take i edges) k e).from none)) here

abbrev pair : Edge → ℕ × ℕ
pair e = (e.from, e.to)

module _ (g : List (ℕ × ℕ)) (edges : List Edge) (listed : pairs_of edges ≡ g) where
  same_length : length (pairs_of edges) ≡ length edges
  same_length = length-map edges pair

  -- an edge that is listed begins at an end of an edge
  pub begins : (i : ℕ) (d : Edge) → i < length edges → IsEnd g (get_or edges i d).from
  begins i d within =
      let e : Edge = get_or edges i d in
      let there : Contains (pairs_of edges) (e.from, e.to) = (i, omega (arith, same_length), get_or-map pair edges i d (e.from, e.to) within) in
      (e.to, inl (subst (λ (l : List (ℕ × ℕ)). Contains l (e.from, e.to)) listed there))

  -- when all are seen, each edge begins at a vertex with a mark
  sources_seen : (marks : List (ℕ × Bool)) → AreSeen marks edges → (u w : ℕ) → Contains g (u, w) → IsSeen marks u
  sources_seen marks seen u w there =
      let h : Contains (pairs_of edges) (u, w) = subst (λ (l : List (ℕ × ℕ)). Contains l (u, w)) (sym listed) there in
      let d : Edge = record { from = u; to = w } in
      let within : h.0 < length edges = omega (arith, h.1, same_length) in
      let is : (get_or edges h.0 d).from ≡ u = ap (λ (p : ℕ × ℕ). p.0) (sym (get_or-map pair edges h.0 d (u, w) within) ∙ h.2) in
      subst (λ (x : ℕ). IsSeen marks x) is (seen h.0 d within)

  -- with no vertex on the walk, what has a mark is done
  pub all_ordered : (marks : List (ℕ × Bool)) (done : List ℕ) (walk : List Frame) (n : ℕ) → walk ≡ [] → length edges ≤ n → AreSeen marks (take n edges) → IsSearching g marks done (walk_of walk) → IsTopologicalOrder g done
  all_ordered marks done walk n none within seen search =
      all_done g marks done at_end (λ u w there. by_mark u (lookup nat_cmp marks u) refl (sources_seen marks (subst (AreSeen marks) (take_all n edges within) seen) u w there))
    where
      at_end : IsSearching g marks done []
      at_end = subst (λ (f : List Frame). IsSearching g marks done (walk_of f)) none search

      by_mark : (u : ℕ) (o : Option Bool) → lookup nat_cmp marks u ≡ o → IsSeen marks u → Contains done u
      by_mark u None is seen = absurd (seen is)
      by_mark u (Some true) is seen = at_end.marked.marked_done u is
      by_mark u (Some false) is seen = absurd (nothing_there u (at_end.marked.marked_open u is))
