-- What a step of a search does to the end that it takes from the walk's last vertex.
use Rattle.std.proofs.Common.{◌≡◌, ◌∙◌, ◌⊎◌, ◌+◌, ◌*◌, ◌≤◌, ℕ, Bool, true, false, Some, List, [], ◌∷◌, ◌++◌, length, Contains, inl, inr, refl, sym, ap, subst, length-append, arith}
use Rattle.std.specs.Ordering.{nat_cmp}
use Rattle.std.proofs.lemmas.List.Elements.{Contains-append_left, Contains-push, Contains-push_cases}
use Rattle.map_model.specs.Entries.{lookup, set}
use Rattle.graph_order.specs.Orders.{IsEnd}
use Rattle.graph_order.specs.Searches.{Closes, IsOpen, IsSearching, on_walk, still_open, to_look_at, unseen}
use Rattle.graph_order.proofs.Measure.{seen_before}
use Rattle.graph_order.proofs.Open.{edge_taken, taken_over}
use Rattle.graph_order.proofs.Searching.{finished, passed_over}
use Rattle.graph_order.proofs.Elements.{first_there}

pub none_left : {X : Type 0} (xs : List X) → length xs ≤ 0 → xs ≡ []
none_left [] h = refl
none_left (x ∷ xs) h = absurd (omega (arith, h))

module _ (g : List (ℕ × ℕ)) (marks : List (ℕ × Bool)) (done : List ℕ) (old : List (ℕ × List ℕ)) (v : ℕ) (rest : List ℕ) (fs : List (ℕ × List ℕ)) (here : old ≡ (v, rest) ∷ fs) (search : IsSearching g marks done old) where
  at_last : IsSearching g marks done ((v, rest) ∷ fs)
  at_last = subst (λ w. IsSearching g marks done w) here search

  at_end : length rest ≤ 0 → IsSearching g marks done ((v, []) ∷ fs)
  at_end none = subst (λ r. IsSearching g marks done ((v, r) ∷ fs)) (none_left rest none) at_last

  pub step_finished : length rest ≤ 0 → IsSearching g (set nat_cmp marks v true) (v ∷ done) fs
  step_finished none = finished g marks done v fs (at_end none)

  pub finished_less : length rest ≤ 0 → to_look_at g (set nat_cmp marks v true) fs + 1 ≡ to_look_at g marks old
  finished_less none =
      let same : length (unseen g (set nat_cmp marks v true)) ≡ length (unseen g marks) = ap length (seen_before g marks v false true ((at_end none).marked.open_marked v (first_there v (on_walk fs)))) in
      let walk_is : still_open old ≡ 2 * length rest + 1 + still_open fs = ap still_open here in
      omega (arith, same, walk_is, none)

  module _ (left : List ℕ) (e : ℕ) (rest_is : rest ≡ left ++ e ∷ []) where
    there : Contains rest e
    there = subst (λ r. Contains r e) (sym rest_is) (Contains-push left e)

    kept : (u : ℕ) → Contains left u → Contains rest u
    kept u h = subst (λ r. Contains r u) (sym rest_is) (Contains-append_left left (e ∷ []) u h)

    taken : (u : ℕ) → Contains rest u → Contains left u ⊎ (u ≡ e)
    taken u h = elim (Contains-push_cases left e u (subst (λ r. Contains r u) rest_is h)) [ inl l ↦ inl l | inr same ↦ inr (sym same) ]

    pub taken_live : IsOpen g done (e ∷ []) ((v, left) ∷ fs)
    taken_live = taken_over g done rest left v e fs there kept taken at_last.live

    pub taken_end : IsEnd g e
    taken_end = (v, inr (edge_taken g done rest left v e fs there kept taken at_last.live))

    pub taken_passed : lookup nat_cmp marks e ≡ Some true → IsSearching g marks done ((v, left) ∷ fs)
    taken_passed is = passed_over g marks done rest left v e fs there kept taken at_last is

    pub taken_closes : lookup nat_cmp marks e ≡ Some false → Closes g done ((v, left) ∷ fs) e
    taken_closes is = (taken_live, at_last.marked.marked_open e is)

    pub taken_less : to_look_at g marks ((v, left) ∷ fs) + 2 ≡ to_look_at g marks old
    taken_less =
        let one_more : length rest ≡ length left + 1 = ap length rest_is ∙ length-append left (e ∷ []) in
        let walk_is : still_open old ≡ 2 * length rest + 1 + still_open fs = ap still_open here in
        let left_is : still_open ((v, left) ∷ fs) ≡ 2 * length left + 1 + still_open fs = refl in
        omega (arith, one_more, walk_is, left_is)
