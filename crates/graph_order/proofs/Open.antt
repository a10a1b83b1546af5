-- What happens to the present walk of a search.
use Rattle.std.proofs.Common.{◌≡◌, ◌⊎◌, ℕ, List, [], ◌∷◌, Contains, inl, inr, sym, subst}
use Rattle.graph_order.specs.Searches.{IsOpen, on_walk}
use Rattle.graph_order.proofs.Elements.{nothing_there, first_there, there_behind, there_cases}

module _ (g : List (ℕ × ℕ)) where
  -- more is done
  pub more_done : (done more over : List ℕ) (walk : List (ℕ × List ℕ)) → ((w : ℕ) → Contains done w → Contains more w) → IsOpen g done over walk → IsOpen g more over walk
  more_done done more over [] kept live = tt
  more_done done more over (f ∷ fs) kept live =
      (live.0, live.1, (λ w e. elim (live.2 w e) [ inl d ↦ inl (kept w d) | inr o ↦ inr o ]), live.3, more_done done more (f.0 ∷ []) fs kept live.4)

  -- the vertex over the walk is done
  pub over_done : (done : List ℕ) (v : ℕ) (walk : List (ℕ × List ℕ)) → IsOpen g done (v ∷ []) walk → IsOpen g (v ∷ done) [] walk
  over_done done v [] live = tt
  over_done done v (f ∷ fs) live = (
    live.0,
    (λ w h. absurd (nothing_there w h)),
    (λ w e. elim (live.2 w e) [
      | inl d ↦ inl (there_behind v done w d)
      | inr (inl r) ↦ inr (inl r)
      | inr (inr o) ↦ elim (there_cases v [] w o) [ inl same ↦ inl (subst (λ x. Contains (v ∷ done) x) same (first_there v done)) | inr none ↦ absurd (nothing_there w none) ]
    ]),
    live.3,
    more_done done (v ∷ done) (f.0 ∷ []) fs (λ w d. there_behind v done w d) live.4,
  )

  module _ (done rest left : List ℕ) (v w : ℕ) (fs : List (ℕ × List ℕ)) (there : Contains rest w) (kept : (u : ℕ) → Contains left u → Contains rest u) (taken : (u : ℕ) → Contains rest u → Contains left u ⊎ (u ≡ w)) (live : IsOpen g done [] ((v, rest) ∷ fs)) where
    pub edge_taken : Contains g (v, w)
    edge_taken = live.0 w there

    -- an end that is done is taken from what has not been looked at
    pub skipped : Contains done w → IsOpen g done [] ((v, left) ∷ fs)
    skipped d = (
      (λ u h. live.0 u (kept u h)),
      (λ u h. absurd (nothing_there u h)),
      (λ u e. elim (live.2 u e) [
        | inl h ↦ inl h
        | inr (inl r) ↦ elim (taken u r) [ inl l ↦ inr (inl l) | inr same ↦ inl (subst (λ x. Contains done x) (sym same) d) ]
        | inr (inr none) ↦ absurd (nothing_there u none)
      ]),
      live.3,
      live.4,
    )

    -- it comes over the walk
    pub taken_over : IsOpen g done (w ∷ []) ((v, left) ∷ fs)
    taken_over = (
      (λ u h. live.0 u (kept u h)),
      (λ u h. elim (there_cases w [] u h) [ inl same ↦ subst (λ x. Contains g (v, x)) same edge_taken | inr none ↦ absurd (nothing_there u none) ]),
      (λ u e. elim (live.2 u e) [
        | inl h ↦ inl h
        | inr (inl r) ↦ elim (taken u r) [ inl l ↦ inr (inl l) | inr same ↦ inr (inr (subst (λ x. Contains (w ∷ []) x) (sym same) (first_there w []))) ]
        | inr (inr none) ↦ absurd (nothing_there u none)
      ]),
      live.3,
      live.4,
    )

  -- a vertex goes on a walk
  pub pushed : (done nexts : List ℕ) (w : ℕ) (walk : List (ℕ × List ℕ)) → ((u : ℕ) → Contains nexts u → Contains g (w, u)) → ((u : ℕ) → Contains g (w, u) → Contains nexts u) → ¬ (Contains (on_walk walk) w) → IsOpen g done (w ∷ []) walk → IsOpen g done [] ((w, nexts) ∷ walk)
  pushed done nexts w walk led leads new live =
      (led, (λ u h. absurd (nothing_there u h)), (λ u e. inr (inl (leads u e))), new, live)
