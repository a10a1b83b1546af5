-- Vertices that are joined, and labels that tell it.
use Rattle.std.proofs.Common.{◌≡◌, ◌∙◌, ◌++◌, ◌∷◌, ◌≤◌, [], ℕ, List, inl, inr, refl, sym, ap, subst, arith}
use Rattle.std.specs.List.{Contains}
use Rattle.graph_comp.specs.Components.{AreJoined, AreNeighbours, IsLeastJoined, Leads}

module _ (g : List (ℕ × ℕ)) where
  pub joined_itself : (v : ℕ) → AreJoined g v v
  joined_itself v = record { way = []; leads = refl }

  pub joined_next : (u v : ℕ) → AreNeighbours g u v → AreJoined g u v
  joined_next u v n = record { way = v ∷ []; leads = (n, refl) }

  leads_on : (u : ℕ) (ws : List ℕ) (v : ℕ) (xs : List ℕ) (w : ℕ) → Leads g u ws v → Leads g v xs w → Leads g u (ws ++ xs) w
  leads_on u [] v xs w a b = subst (λ x. Leads g x xs w) (sym a) b
  leads_on u (x ∷ ws) v xs w a b = (a.0, leads_on x ws v xs w a.1 b)

  pub joined_on : (u v w : ℕ) → AreJoined g u v → AreJoined g v w → AreJoined g u w
  joined_on u v w a b = record { way = a.way ++ b.way; leads = leads_on u a.way v b.way w a.leads b.leads }

  swapped : (u v : ℕ) → AreNeighbours g u v → AreNeighbours g v u
  swapped u v n = elim n [ inl c ↦ inr c | inr c ↦ inl c ]

  leads_back : (u : ℕ) (ws : List ℕ) (v : ℕ) → Leads g u ws v → AreJoined g v u
  leads_back u [] v a = record { way = []; leads = sym a }
  leads_back u (x ∷ ws) v a = joined_on v x u (leads_back x ws v a.1) (joined_next x u (swapped u x a.0))

  pub joined_back : (u v : ℕ) → AreJoined g u v → AreJoined g v u
  joined_back u v a = leads_back u a.way v a.leads

  -- each vertex is joined with its label, which is not greater
  pub record IsLabelling (label : ℕ → ℕ) : Type 0 where
    pub joined : (v : ℕ) → AreJoined g v (label v)
    pub low : (v : ℕ) → label v ≤ v

  same_along : (label : ℕ → ℕ) → ((u v : ℕ) → Contains g (u, v) → label u ≡ label v) → (u : ℕ) (ws : List ℕ) (v : ℕ) → Leads g u ws v → label u ≡ label v
  same_along label same u [] v a = ap label a
  same_along label same u (x ∷ ws) v a = elim a.0 as (λ _. label u ≡ label x) [ inl c ↦ same u x c | inr c ↦ sym (same x u c) ] ∙ same_along label same x ws v a.1

  -- where both ends of each edge have one label, it is the least vertex that either is joined with
  pub settled_least : (label : ℕ → ℕ) → IsLabelling label → ((u v : ℕ) → Contains g (u, v) → label u ≡ label v) → (v : ℕ) → IsLeastJoined g v (label v)
  settled_least label are same v = record {
    joined = are.joined v;
    none_less = λ w a. let e : label v ≡ label w = same_along label same v a.way w a.leads in let low : label w ≤ w = are.low w in omega arith;
  }

  pub same_least : (v a b : ℕ) → IsLeastJoined g v a → IsLeastJoined g v b → a ≡ b
  same_least v a b x y = let le : a ≤ b = x.none_less b y.joined in let ge : b ≤ a = y.none_less a x.joined in omega arith
