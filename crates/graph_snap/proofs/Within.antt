-- A search that stops at a distance.
use Rattle.std.proofs.Common.{◌≡◌, ◌∙◌, ◌+◌, ◌<◌, ◌≤◌, ◌∷◌, [], ℕ, suc, true, false, cond, List, Option, None, Some, length, refl, sym, ap, subst, inl, inr, arith}
use Rattle.std.specs.Prelude.{nat_le}
use Rattle.std.specs.List.{filter}
use Rattle.std.specs.Option.{option_and_then}
use Rattle.std.specs.Ordering.{nat_cmp}
use Rattle.std.proofs.lemmas.Bool.{cases_lt, false≢true, le-leb, lt-leb}
use Rattle.std.proofs.lemmas.Cmp.{nat_cmp_total}
use Rattle.map_model.specs.Entries.{IsIncreasing, lookup}
use Rattle.map_model.proofs.Keys.{IsIncreasing-filter}
use Rattle.map_model.proofs.Lookups.{equal_lookups, lookup-filter}
use Rattle.map_model.proofs.NatKeys.{nat_exact}
use Rattle.graph_snap.specs.Walks.{as_reached, distances, least, reach, reach_within, walk}
use Rattle.graph_snap.specs.declared.edge.Reached.{Reached}
use Rattle.graph_snap.proofs.Fronts.{IsSearch, distances_rise, found-distances}
use Rattle.graph_snap.proofs.Levels.{least_is, least_none, least_some, level, none_left, settled, short_walk}

module _ (most : ℕ) where
  -- the vertices with at most so great a distance
  abbrev near : List (ℕ × ℕ) → List (ℕ × ℕ)
  near found = filter (λ e. nat_le e.1 most) found

  abbrev if_near : ℕ → Option ℕ
  if_near d = cond (nat_le d most) (Some d) None

  is_near : (d : ℕ) → d ≤ most → if_near d ≡ Some d
  is_near d low = ap (λ b. cond b (Some d) None) (le-leb d most low)

  is_far : (d : ℕ) → most < d → if_near d ≡ None
  is_far d high = ap (λ b. cond b (Some d) None) (lt-leb d most high)

  pub near_reached : (found : List (ℕ × ℕ)) → as_reached (near found) ≡ filter (λ (r : Reached). nat_le r.distance most) (as_reached found)
  near_reached [] = refl
  near_reached (e ∷ found) =
      let reached : Reached = record { vertex = e.0; distance = e.1 } in
      elim (nat_le e.1 most) as (λ b. as_reached (cond b (e ∷ near found) (near found)) ≡ cond b (reached ∷ filter (λ (r : Reached). nat_le r.distance most) (as_reached found)) (filter (λ (r : Reached). nat_le r.distance most) (as_reached found))) [
        | true ↦ ap (λ l. reached ∷ l) (near_reached found)
        | false ↦ near_reached found
      ]

  module _ (g : List (ℕ × ℕ)) (s : ℕ) where
    -- the least number of edges, if it is at most so great, is the least of those
    least_near : (v : ℕ) → least (walk g s v) (suc most) ≡ option_and_then if_near (least (walk g s v) (length g + 1))
    least_near v =
        elim (least (walk g s v) (length g + 1)) as (λ o. least (walk g s v) (length g + 1) ≡ o → least (walk g s v) (suc most) ≡ option_and_then if_near o) [
          | None ↦ λ none. elim (least (walk g s v) (suc most)) as (λ o. least (walk g s v) (suc most) ≡ o → o ≡ None) [
            | None ↦ λ _. refl
            | Some c ↦ λ some.
                let short = short_walk g s v c (least_some (walk g s v) (suc most) c some).passes in
                let within = short.2 in
                absurd (false≢true (sym (least_none (walk g s v) (length g + 1) short.0 none (omega (arith, within))) ∙ short.1))
          ] refl
          | Some c ↦ λ some. let r = least_some (walk g s v) (length g + 1) c some in elim (cases_lt most c) [
            | inl high ↦ none_near v c high r.first ∙ sym (is_far c high)
            | inr low ↦ least_is (walk g s v) (suc most) c (omega (arith, low)) r.passes r.first ∙ sym (is_near c low)
          ]
        ] refl
      where
        none_near : (v c : ℕ) → most < c → ((k : ℕ) → k < c → walk g s v k ≡ false) → least (walk g s v) (suc most) ≡ None
        none_near v c high first = elim (least (walk g s v) (suc most)) as (λ o. least (walk g s v) (suc most) ≡ o → o ≡ None) [
          | None ↦ λ _. refl
          | Some b ↦ λ some. let r = least_some (walk g s v) (suc most) b some in let below = r.below in absurd (false≢true (sym (first b (omega (arith, below, high))) ∙ r.passes))
        ] refl

    -- what is found is near where the search is not past it
    found_near : (d : ℕ) → d ≤ most → (v : ℕ) → least (walk g s v) (suc d) ≡ option_and_then if_near (least (walk g s v) (suc d))
    found_near d low v =
        elim (least (walk g s v) (suc d)) as (λ o. least (walk g s v) (suc d) ≡ o → o ≡ option_and_then if_near o) [
          | None ↦ λ _. refl
          | Some c ↦ λ some. let below = (least_some (walk g s v) (suc d) c some).below in sym (is_near c (omega (arith, low, below)))
        ] refl

    kept_near : (v : ℕ) → lookup nat_cmp (near (distances g s)) v ≡ option_and_then if_near (least (walk g s v) (length g + 1))
    kept_near v = lookup-filter nat_cmp_total nat_exact (λ _ d. nat_le d most) (distances g s) v (distances_rise g s) ∙ ap (option_and_then if_near) (found-distances g s v)

    all_near : (found : List (ℕ × ℕ)) → IsIncreasing nat_cmp found → ((v : ℕ) → lookup nat_cmp found v ≡ option_and_then if_near (least (walk g s v) (length g + 1))) → found ≡ near (distances g s)
    all_near found rises same = equal_lookups nat_cmp_total nat_exact found (near (distances g s)) rises (IsIncreasing-filter nat_cmp (λ e. nat_le e.1 most) (distances g s) (distances_rise g s)) (λ v. same v ∙ sym (kept_near v))

    -- the search has come to that distance
    pub near_at : (d : ℕ) (front found : List (ℕ × ℕ)) → IsSearch g s d front found → d ≤ most → most ≤ d → found ≡ near (distances g s)
    near_at d front found so_far low high =
        let same : d ≡ most = omega (arith, low, high) in
        all_near found so_far.found_rises (λ v. so_far.found_at v ∙ ap (λ n. least (walk g s v) (suc n)) same ∙ least_near v)

    -- or has ended before it
    pub near_before : (d : ℕ) (front found : List (ℕ × ℕ)) → IsSearch g s d front found → d ≤ most → length front ≤ 0 → found ≡ near (distances g s)
    near_before d (e ∷ front) found so_far low none = absurd (let no : ⊥ = omega (arith, none) in no)
    near_before d [] found so_far low none =
        all_near found so_far.found_rises (λ v.
        so_far.found_at v
        ∙ found_near d low v
        ∙ ap (option_and_then if_near) (settled g s d (λ v. none_left (level g s d v) d (sym (so_far.front_at v))) v))

    -- or may take as many edges as there are
    near_all : length g ≤ most → distances g s ≡ near (distances g s)
    near_all all =
        let more : suc (length g) ≡ length g + 1 = omega arith in
        all_near (distances g s) (distances_rise g s) (λ v. found-distances g s v ∙ subst (λ n. least (walk g s v) n ≡ option_and_then if_near (least (walk g s v) n)) more (found_near (length g) all v))

-- nothing is too far where walks may take as many edges as there are
within_all : (most : ℕ) (g : List (ℕ × ℕ)) (s : ℕ) → length g ≤ most → reach_within g s most ≡ reach g s
within_all most g s all = sym (near_reached most (distances g s)) ∙ ap as_reached (sym (near_all most g s all))

-- at the values that the program has
pub reach_all : (most : ℕ) (edges g : List (ℕ × ℕ)) (s : ℕ) (list : List Reached) → edges ≡ g → most ≡ length edges → list ≡ reach_within edges s most → list ≡ reach g s
reach_all most edges g s list is m l = l ∙ within_all most edges s (omega (arith, m)) ∙ ap (λ h. reach h s) is

pub within_reach : (most : ℕ) (g : List (ℕ × ℕ)) (s : ℕ) (found : List (ℕ × ℕ)) (list : List Reached) → found ≡ near most (distances g s) → list ≡ as_reached found → list ≡ reach_within g s most
within_reach most g s found list is l = l ∙ ap as_reached is ∙ near_reached most (distances g s)
