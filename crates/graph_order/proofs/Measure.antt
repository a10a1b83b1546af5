-- What a search has still to look at: two for each edge from a vertex that is not marked and for each end on the walk that has not been
-- looked at, and one for each vertex of the walk.
use Rattle.std.proofs.Common.{◌≡◌, ◌∙◌, ◌==◌, ◌+◌, ◌*◌, ℕ, Bool, true, false, cond, None, Some, List, [], ◌∷◌, length, is_none, refl, sym, ap, subst, arith}
use Rattle.std.specs.Ordering.{nat_cmp}
use Rattle.std.proofs.lemmas.Bool.{false≢true}
use Rattle.std.proofs.lemmas.List.Elements.{filter_agree}
use Rattle.std.proofs.lemmas.Map.Views.{exact_unsigned_eq}
use Rattle.map_model.specs.Entries.{lookup, set}
use Rattle.graph_snap.specs.Edges.{out_neighbours}
use Rattle.graph_order.specs.Searches.{Keeps, still_open, to_look_at, unseen}
use Rattle.graph_order.proofs.Searching.{some_none}
use Rattle.graph_order.proofs.Marks.{by_same, marked_here, marked_elsewhere, same_itself}

-- the edges from a vertex leave what is unseen when it is marked
pub seen_now : (g : List (ℕ × ℕ)) (marks : List (ℕ × Bool)) (w : ℕ) (b : Bool) → lookup nat_cmp marks w ≡ None
    → length (unseen g (set nat_cmp marks w b)) + length (out_neighbours g w) ≡ length (unseen g marks)
seen_now [] marks w b new = refl
seen_now (e ∷ g) marks w b new = go (e.0 == w) refl (seen_now g marks w b new)
  where
    go : (c : Bool) → (e.0 == w) ≡ c → length (unseen g (set nat_cmp marks w b)) + length (out_neighbours g w) ≡ length (unseen g marks)
        → length (unseen (e ∷ g) (set nat_cmp marks w b)) + length (out_neighbours (e ∷ g) w) ≡ length (unseen (e ∷ g) marks)
    go true is rest =
        let same : e.0 ≡ w = exact_unsigned_eq e.0 w is in
        rw (is, same, marked_here marks w b, new) (omega (arith, rest))
    go false is rest =
        let other : lookup nat_cmp (set nat_cmp marks w b) e.0 ≡ lookup nat_cmp marks e.0 = marked_elsewhere marks w b e.0 (λ same. false≢true (sym is ∙ subst (λ x. (x == w) ≡ true) same (same_itself w))) in
        rw (is, other) (by_seen (is_none (lookup nat_cmp marks e.0)) rest)
      where
        by_seen : (c : Bool) → length (unseen g (set nat_cmp marks w b)) + length (out_neighbours g w) ≡ length (unseen g marks)
            → length (cond c (e ∷ unseen g (set nat_cmp marks w b)) (unseen g (set nat_cmp marks w b))) + length (out_neighbours g w) ≡ length (cond c (e ∷ unseen g marks) (unseen g marks))
        by_seen true rest = omega (arith, rest)
        by_seen false rest = rest

-- nothing more is seen when a marked vertex is marked anew
pub seen_before : (g : List (ℕ × ℕ)) (marks : List (ℕ × Bool)) (v : ℕ) (a b : Bool) → lookup nat_cmp marks v ≡ Some a → unseen g (set nat_cmp marks v b) ≡ unseen g marks
seen_before g marks v a b marked = filter_agree (λ e. is_none (lookup nat_cmp (set nat_cmp marks v b) e.0)) (λ e. is_none (lookup nat_cmp marks e.0)) (λ e. by_same v e.0 (λ same. subst (λ x. is_none (lookup nat_cmp (set nat_cmp marks v b) x) ≡ is_none (lookup nat_cmp marks x)) same (ap is_none (marked_here marks v b) ∙ ap is_none (sym marked))) (λ other. ap is_none (marked_elsewhere marks v b e.0 other))) g

-- a vertex that goes on the walk brings one more, for itself
pub begun_measure : (g : List (ℕ × ℕ)) (marks : List (ℕ × Bool)) (w : ℕ) (walk : List (ℕ × List ℕ)) → lookup nat_cmp marks w ≡ None
    → to_look_at g (set nat_cmp marks w false) ((w, out_neighbours g w) ∷ walk) ≡ to_look_at g marks walk + 1
begun_measure g marks w walk new =
    let walk_more : still_open ((w, out_neighbours g w) ∷ walk) ≡ 2 * length (out_neighbours g w) + 1 + still_open walk = refl in
    omega (arith, seen_now g marks w false new, walk_more)

-- marks are kept when one is set
pub keeps_set : (marks : List (ℕ × Bool)) (k : ℕ) (b : Bool) → Keeps marks (set nat_cmp marks k b)
keeps_set marks k b v h = by_same k v
    (λ same. some_none (lookup nat_cmp (set nat_cmp marks k b) v) b (subst (λ x. lookup nat_cmp (set nat_cmp marks k b) x ≡ Some b) same (marked_here marks k b)) h)
    (λ other. sym (marked_elsewhere marks k b v other) ∙ h)
