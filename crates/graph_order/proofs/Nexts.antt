-- The neighbours of a vertex are the ends of its edges.
use Rattle.std.proofs.Common.{◌≡◌, ◌∙◌, ◌⊎◌, ◌==◌, ℕ, Bool, true, false, cond, List, [], ◌∷◌, map, Contains, inl, inr, refl, sym, ap, subst}
use Rattle.std.specs.List.{filter}
use Rattle.std.proofs.lemmas.Bool.{false≢true}
use Rattle.std.proofs.lemmas.Map.Views.{exact_unsigned_eq}
use Rattle.graph_snap.specs.Edges.{out_neighbours}
use Rattle.graph_order.proofs.Elements.{nothing_there, first_there, there_behind, there_cases}
use Rattle.graph_order.proofs.Marks.{same_itself}

pub next_led : (g : List (ℕ × ℕ)) (w u : ℕ) → Contains (out_neighbours g w) u → Contains g (w, u)
next_led [] w u h = absurd (nothing_there u h)
next_led (e ∷ g) w u h = go (e.0 == w) refl h (next_led g w u)
  where
    go : (b : Bool) → (e.0 == w) ≡ b → Contains (map (λ x. x.1) (cond b (e ∷ filter (λ x. x.0 == w) g) (filter (λ x. x.0 == w) g))) u → (Contains (out_neighbours g w) u → Contains g (w, u)) → Contains (e ∷ g) (w, u)
    go true is h rest = elim (there_cases e.1 (out_neighbours g w) u h) [
      | inl same ↦ subst (λ x. Contains (e ∷ g) (x, u)) (exact_unsigned_eq e.0 w is) (subst (λ y. Contains (e ∷ g) (e.0, y)) same (first_there e g))
      | inr later ↦ there_behind e g (w, u) (rest later)
    ]
    go false is h rest = there_behind e g (w, u) (rest h)

pub leads_next : (g : List (ℕ × ℕ)) (w u : ℕ) → Contains g (w, u) → Contains (out_neighbours g w) u
leads_next [] w u h = absurd (nothing_there (w, u) h)
leads_next (e ∷ g) w u h = go (e.0 == w) refl (there_cases e g (w, u) h) (leads_next g w u)
  where
    go : (b : Bool) → (e.0 == w) ≡ b → (e ≡ (w, u)) ⊎ Contains g (w, u) → (Contains g (w, u) → Contains (out_neighbours g w) u) → Contains (map (λ x. x.1) (cond b (e ∷ filter (λ x. x.0 == w) g) (filter (λ x. x.0 == w) g))) u
    go true is (inl same) rest = subst (λ x. Contains (e.1 ∷ out_neighbours g w) x) (ap (λ p. p.1) same) (first_there e.1 (out_neighbours g w))
    go true is (inr later) rest = there_behind e.1 (out_neighbours g w) u (rest later)
    go false is (inl same) rest = absurd (false≢true (sym is ∙ subst (λ x. (x == w) ≡ true) (sym (ap (λ p. p.0) same)) (same_itself w)))
    go false is (inr later) rest = rest later
