-- Walks of least length, found back through the fronts of a search.
use Rattle.std.proofs.Common.{◌≡◌, ◌∙◌, ◌+◌, ◌<◌, ◌≤◌, ◌&&◌, ◌||◌, ◌==◌, ◌++◌, ◌∷◌, [], ℕ, zero, suc, Bool, true, false, cond, List, None, Some, is_some, length, map, drop, get_or, reverse, refl, sym, ap, ap₂, subst, inl, inr, arith, eq-eqb}
use Rattle.std.specs.List.{list_any}
use Rattle.std.specs.Option.{is_none, option_or}
use Rattle.std.specs.Ordering.{is_eq, nat_cmp}
use Rattle.std.proofs.lemmas.Bool.{and_from, cases_lt, false≢true}
use Rattle.std.proofs.lemmas.Cmp.{nat_cmp_total, tied_itself}
use Rattle.std.proofs.lemmas.List.{drop_all, drop_more, map-append, reverse-append}
use Rattle.std.proofs.lemmas.Map.Views.{exact_unsigned_eq}
use Rattle.map_model.specs.Entries.{lookup}
use Rattle.map_model.proofs.Lookups.{first_found}
use Rattle.map_model.proofs.NatKeys.{is_eq-nat_cmp}
use Rattle.graph_snap.specs.Edges.{AreSets, Sets, edges_of}
use Rattle.graph_snap.specs.Merging.{leads}
use Rattle.graph_snap.specs.Walks.{AreFronts, AreFrontsTo, IsDistance, IsFront, IsLeastPath, IsOutOfReach, IsWalk, least, walk}
use Rattle.graph_snap.proofs.Fronts.{IsSearch, any_agree, found-neighbours, neighbours-edges}
use Rattle.graph_snap.proofs.Levels.{AtLevel, at_level, least_none, least_some, level, level_before, level_test, none_left, settled, short_walk}
use Rattle.graph_snap.proofs.Ordered.{edge_is}
use Rattle.graph_snap.proofs.Sets.{edge_in, found-set_at}

-- ---- a walk over a front

key_at : (m : List (ℕ × ℕ)) (i : ℕ) (d : ℕ × ℕ) → i < length m → is_some (lookup nat_cmp m (get_or m i d).0) ≡ true
key_at [] i d low = absurd (let none : ⊥ = omega (arith, low) in none)
key_at (e ∷ m) zero d low = ap is_some (first_found nat_cmp_total e m)
key_at (e ∷ m) (suc i) d low =
    let rest = key_at m i d (omega (arith, low)) in
    elim (is_eq (nat_cmp e.0 (get_or m i d).0)) as (λ b. is_some (cond b (Some e.1) (lookup nat_cmp m (get_or m i d).0)) ≡ true) [ true ↦ refl | false ↦ rest ]

pub vertex_at : (m : List (ℕ × ℕ)) (i v : ℕ) (d : ℕ × ℕ) → i < length m → (get_or m i d).0 ≡ v → is_some (lookup nat_cmp m v) ≡ true
vertex_at m i v d low same = subst (λ k. is_some (lookup nat_cmp m k) ≡ true) same (key_at m i d low)

-- another vertex is searched for in what is left
pub lookup_goes_on : (m : List (ℕ × ℕ)) (i v : ℕ) (d : ℕ × ℕ) → i < length m → ((get_or m i d).0 ≡ v → ⊥) → lookup nat_cmp (drop i m) v ≡ lookup nat_cmp (drop (i + 1) m) v
lookup_goes_on m i v d low other =
    let e : ℕ × ℕ = get_or m i d in
    ap (λ left. lookup nat_cmp left v) (drop_more m i d low)
    ∙ elim (is_eq (nat_cmp e.0 v)) as (λ b. is_eq (nat_cmp e.0 v) ≡ b → cond b (Some e.1) (lookup nat_cmp (drop (i + 1) m) v) ≡ lookup nat_cmp (drop (i + 1) m) v) [
      | true ↦ λ h. absurd (other (exact_unsigned_eq e.0 v (sym (is_eq-nat_cmp e.0 v) ∙ h)))
      | false ↦ λ _. refl
    ] refl

pub not_in : (m : List (ℕ × ℕ)) (i v : ℕ) → length m ≤ i → is_some (lookup nat_cmp (drop i m) v) ≡ is_some (lookup nat_cmp m v) → false ≡ is_some (lookup nat_cmp m v)
not_in m i v high so_far = sym (ap (λ left. is_some (lookup nat_cmp left v)) (drop_all i m high)) ∙ so_far

pub any_goes_on : {X : Type 0} (p : X → Bool) (xs : List X) (i : ℕ) (d : X) → i < length xs → p (get_or xs i d) ≡ false → list_any p (drop i xs) ≡ true → list_any p (drop (i + 1) xs) ≡ true
any_goes_on p xs i d low fails so_far = sym (ap (λ b. b || list_any p (drop (i + 1) xs)) fails) ∙ sym (ap (list_any p) (drop_more xs i d low)) ∙ so_far

pub any_left : {X : Type 0} (p : X → Bool) (xs : List X) (i : ℕ) → length xs ≤ i → list_any p (drop i xs) ≡ true → ⊥
any_left p xs i high so_far = false≢true (sym (ap (list_any p) (drop_all i xs high)) ∙ so_far)

-- ---- lists that grow at the end

length-last : {X : Type 0} (xs : List X) (x : X) → length (xs ++ x ∷ []) ≡ suc (length xs)
length-last [] x = refl
length-last (y ∷ xs) x = ap suc (length-last xs x)

pub mapped_last : {X Y : Type 0} (f : X → Y) (all left : List X) (x : X) → all ≡ left ++ x ∷ [] → map f all ≡ map f left ++ f x ∷ []
mapped_last f all left x is = ap (map f) is ∙ map-append f left (x ∷ [])

pub none_mapped : {X Y : Type 0} (f : X → Y) (xs : List X) → length xs ≤ 0 → length (map f xs) ≤ 0
none_mapped f [] none = none
none_mapped f (x ∷ xs) none = absurd (let no : ⊥ = omega (arith, none) in no)

-- ---- fronts

module _ (g : List (ℕ × ℕ)) (s : ℕ) where
  is_distance : (d v : ℕ) → AtLevel g s d v → IsDistance g s v d
  is_distance d v at = record {
    walks = at.walks;
    none_shorter = λ c w. elim (cases_lt c d) [ inl low ↦ absurd (false≢true (sym (least_none (walk g s v) d c at.no_less low) ∙ w)) | inr high ↦ high ];
  }

  has_level : (d v : ℕ) → IsDistance g s v d → AtLevel g s d v
  has_level d v is = record {
    walks = is.walks;
    no_less = elim (least (walk g s v) d) as (λ o. least (walk g s v) d ≡ o → o ≡ None) [
      | None ↦ λ _. refl
      | Some c ↦ λ some. let r = least_some (walk g s v) d c some in let below = r.below in let first = is.none_shorter c r.passes in absurd (let no : ⊥ = omega (arith, below, first) in no)
    ] refl;
  }

  found_front : (d : ℕ) (front found : List (ℕ × ℕ)) (v : ℕ) → IsSearch g s d front found → is_some (lookup nat_cmp front v) ≡ level g s d v
  found_front d front found v so_far = ap is_some (so_far.front_at v) ∙ elim (level g s d v) as (λ b. is_some (cond b (Some d) None) ≡ b) [ true ↦ refl | false ↦ refl ]

  pub is_front : (d : ℕ) (front found : List (ℕ × ℕ)) → IsSearch g s d front found → IsFront g s d front
  is_front d front found so_far v = (
    (λ h. is_distance d v (at_level g s d v (sym (found_front d front found v so_far) ∙ h))),
    (λ is. found_front d front found v so_far ∙ level_test g s d v (has_level d v is)),
  )

  fronts_more : (d : ℕ) (fronts : List (List (ℕ × ℕ))) (front : List (ℕ × ℕ)) → AreFronts g s d fronts → IsFront g s (d + length fronts) front → AreFronts g s d (fronts ++ front ∷ [])
  fronts_more d [] front are is = (let e : d + 0 ≡ d = omega arith in subst (λ n. IsFront g s n front) e is, tt)
  fronts_more d (f ∷ fronts) front are is = (are.0, fronts_more (suc d) fronts front are.1 (let e : d + suc (length fronts) ≡ suc d + length fronts = omega arith in subst (λ n. IsFront g s n front) e is))

  fronts_less : (d : ℕ) (fronts : List (List (ℕ × ℕ))) (front : List (ℕ × ℕ)) → AreFronts g s d (fronts ++ front ∷ []) → AreFronts g s d fronts × IsFront g s (d + length fronts) front
  fronts_less d [] front are = (tt, let e : d ≡ d + 0 = omega arith in subst (λ n. IsFront g s n front) e are.0)
  fronts_less d (f ∷ fronts) front are =
      let rest = fronts_less (suc d) fronts front are.1 in
      ((are.0, rest.0), let e : suc d + length fronts ≡ d + suc (length fronts) = omega arith in subst (λ n. IsFront g s n front) e rest.1)

  -- the fronts from distance 0 on, with one more
  front_kept : (fronts : List (List (ℕ × ℕ))) (front : List (ℕ × ℕ)) → AreFronts g s 0 fronts → IsFront g s (length fronts) front → AreFronts g s 0 (fronts ++ front ∷ [])
  front_kept fronts front are is = fronts_more 0 fronts front are (let e : length fronts ≡ 0 + length fronts = omega arith in subst (λ n. IsFront g s n front) e is)

  last_front : (fronts : List (List (ℕ × ℕ))) (front : List (ℕ × ℕ)) → AreFronts g s 0 (fronts ++ front ∷ []) → AreFronts g s 0 fronts × IsFront g s (length fronts) front
  last_front fronts front are =
      let parts = fronts_less 0 fronts front are in
      (parts.0, let e : 0 + length fronts ≡ length fronts = omega arith in subst (λ n. IsFront g s n front) e parts.1)

  -- ---- the way back

  -- the path so far, last vertex first, is that of a walk from the present vertex, at the distance of the fronts that are left
  pub record IsBack (t present : ℕ) (fronts : List (List (ℕ × ℕ))) (path : List ℕ) : Type 0 where
    pub fronts_are : AreFronts g s 0 fronts
    pub at : IsDistance g s present (length fronts)
    pub later : List ℕ
    pub begins : reverse path ≡ present ∷ later
    pub walks : IsWalk g present later t
    pub least : IsDistance g s t (length later + length fronts)

  pub back_starts : (t : ℕ) (fronts : List (List (ℕ × ℕ))) (path : List ℕ) → AreFrontsTo g s t fronts → path ≡ t ∷ [] → IsBack t t fronts path
  back_starts t fronts path are is = record { fronts_are = are.0; at = are.1; later = []; begins = ap reverse is; walks = refl; least = (let e : length fronts ≡ 0 + length fronts = omega arith in subst (IsDistance g s t) e are.1) }

  -- no fronts are left at the first vertex alone
  pub back_started : (t present : ℕ) (fronts : List (List (ℕ × ℕ))) (path : List ℕ) → IsBack t present fronts path → length fronts ≤ 0 → present ≡ s
  back_started t present [] path so_far none = exact_unsigned_eq present s so_far.at.walks
  back_started t present (front ∷ fronts) path so_far none = absurd (let no : ⊥ = omega (arith, none) in no)

  pub back_ends : (t present : ℕ) (fronts : List (List (ℕ × ℕ))) (path turned : List ℕ) → IsBack t present fronts path → present ≡ s → turned ≡ reverse path → IsLeastPath g s t turned
  back_ends t present fronts path turned so_far same is =
      let none = so_far.at.none_shorter 0 (eq-eqb present s same) in
      let e : length so_far.later + length fronts ≡ length so_far.later = omega (arith, none) in
      record {
        later = so_far.later;
        begins = is ∙ so_far.begins ∙ ap (λ v. v ∷ so_far.later) same;
        walks = subst (λ v. IsWalk g v so_far.later t) same so_far.walks;
        least = subst (IsDistance g s t) e so_far.least;
      }

module _ (sets : Sets) (are : AreSets sets) (s : ℕ) where
  -- of the vertices one front before there is one with an edge
  pub some_before : (t present : ℕ) (all fronts : List (List (ℕ × ℕ))) (front lent : List (ℕ × ℕ)) (path : List ℕ) → IsBack (edges_of sets) s t present all path → all ≡ fronts ++ front ∷ [] → lent ≡ front → list_any (λ e. leads sets e.0 present) lent ≡ true
  some_before t present all fronts front lent path so_far a l =
      let g = edges_of sets in
      let k = length fronts in
      let size : length all ≡ suc k = ap length a ∙ length-last fronts front in
      let here = has_level g s (suc k) present (subst (IsDistance g s present) size so_far.at) in
      let before = level_before g s k present here in
      let e : ℕ × ℕ = before.0 in
      let in_front : is_some (lookup nat_cmp front e.0) ≡ true = ((last_front g s fronts front (subst (AreFronts g s 0) a so_far.fronts_are)).1 e.0).1 (is_distance g s k e.0 before.3) in
      ap (list_any (λ (e : ℕ × ℕ). leads sets e.0 present)) l
      ∙ any_agree (λ e. leads sets e.0 present) (λ e. is_some (edge_in sets e.0 present)) (λ e. ap is_some (found-set_at sets e.0 e.0 present (tied_itself nat_cmp_total e.0))) front
      ∙ sym (found-neighbours sets front present)
      ∙ neighbours-edges sets front present are.increasing
      ∙ before.1 (λ e. e.1 == present && is_some (lookup nat_cmp front e.0)) (and_from (e.1 == present) (is_some (lookup nat_cmp front e.0)) before.2 in_front)

  pub back_goes_on : (t present u : ℕ) (all fronts : List (List (ℕ × ℕ))) (front lent : List (ℕ × ℕ)) (path more : List ℕ) → IsBack (edges_of sets) s t present all path → all ≡ fronts ++ front ∷ [] → lent ≡ front → is_some (lookup nat_cmp lent u) ≡ true → leads sets u present ≡ true → more ≡ path ++ u ∷ [] → IsBack (edges_of sets) s t u fronts more
  back_goes_on t present u all fronts front lent path more so_far a l there edge is =
      let g = edges_of sets in
      let parts = last_front g s fronts front (subst (AreFronts g s 0) a so_far.fronts_are) in
      let size : length all ≡ suc (length fronts) = ap length a ∙ length-last fronts front in
      let e : length so_far.later + length all ≡ suc (length so_far.later) + length fronts = omega (arith, size) in
      record {
        fronts_are = parts.0;
        at = (parts.1 u).0 (ap (λ x. is_some (lookup nat_cmp x u)) (sym l) ∙ there);
        later = present ∷ so_far.later;
        begins = ap reverse is ∙ reverse-append path (u ∷ []) ∙ ap (λ l. u ∷ l) so_far.begins;
        walks = ((edge_is sets g u present true refl are (sym edge)).0 refl, so_far.walks);
        least = subst (IsDistance g s t) e so_far.least;
      }

-- ---- the way there

-- the search is at distance d and has not come to t, and the fronts before are kept
pub record IsBefore (g : List (ℕ × ℕ)) (s t d : ℕ) (front found : List (ℕ × ℕ)) (fronts : List (List (ℕ × ℕ))) : Type 0 where
  pub searched : IsSearch g s d front found
  pub fronts_are : AreFronts g s 0 fronts
  pub count : length fronts ≡ d
  pub not_yet : least (walk g s t) d ≡ None

module _ (g : List (ℕ × ℕ)) (s t d : ℕ) where
  not_at : (front found : List (ℕ × ℕ)) → IsSearch g s d front found → is_some (lookup nat_cmp front t) ≡ false → least (walk g s t) d ≡ None → least (walk g s t) (suc d) ≡ None
  not_at front found so_far none before =
      let no : level g s d t ≡ false = sym (found_front g s d front found t so_far) ∙ none in
      let ends : walk g s t d ≡ false = sym (ap (λ o. is_none o && walk g s t d) before) ∙ no in
      ap₂ (λ o b. option_or o (cond b (Some d) None)) before ends

  -- the front has t
  pub comes_to : (front found : List (ℕ × ℕ)) (fronts : List (List (ℕ × ℕ))) → IsBefore g s t d front found fronts → is_some (lookup nat_cmp front t) ≡ true → AreFrontsTo g s t fronts
  comes_to front found fronts so_far there = (so_far.fronts_are, subst (IsDistance g s t) (sym so_far.count) ((is_front g s d front found so_far.searched t).0 there))

  -- it hasn't, and is kept
  pub before_goes_on : (more : ℕ) (front found next all : List (ℕ × ℕ)) (fronts fuller : List (List (ℕ × ℕ))) → IsBefore g s t d front found fronts → is_some (lookup nat_cmp front t) ≡ false → more ≡ d + 1 → IsSearch g s more next all → fuller ≡ fronts ++ front ∷ [] → IsBefore g s t more next all fuller
  before_goes_on more front found next all fronts fuller so_far none m further is =
      let e : suc d ≡ more = omega (arith, m) in
      let kept = front_kept g s fronts front so_far.fronts_are (subst (λ n. IsFront g s n front) (sym so_far.count) (is_front g s d front found so_far.searched)) in
      record {
        searched = further;
        fronts_are = subst (AreFronts g s 0) (sym is) kept;
        count = ap length is ∙ length-last fronts front ∙ ap suc so_far.count ∙ e;
        not_yet = subst (λ n. least (walk g s t) n ≡ None) e (not_at front found so_far.searched none so_far.not_yet);
      }

  pub out_of_reach : (front found : List (ℕ × ℕ)) (fronts : List (List (ℕ × ℕ))) → IsBefore g s t d front found fronts → length front ≤ 0 → IsOutOfReach g s t
  out_of_reach (e ∷ front) found fronts so_far small = absurd (let no : ⊥ = omega (arith, small) in no)
  out_of_reach [] found fronts so_far small = λ c.
      let none : least (walk g s t) (length g + 1) ≡ None = sym (settled g s d (λ v. none_left (level g s d v) d (sym (so_far.searched.front_at v))) t) ∙ not_at [] found so_far.searched refl so_far.not_yet in
      elim (walk g s t c) as (λ b. walk g s t c ≡ b → b ≡ false) [
        | true ↦ λ w. let short = short_walk g s t c w in let within = short.2 in absurd (false≢true (sym (least_none (walk g s t) (length g + 1) short.0 none (omega (arith, within))) ∙ short.1))
        | false ↦ λ _. refl
      ] refl

pub before_starts : (g : List (ℕ × ℕ)) (s t : ℕ) (front found : List (ℕ × ℕ)) (fronts : List (List (ℕ × ℕ))) → IsSearch g s 0 front found → fronts ≡ [] → IsBefore g s t 0 front found fronts
before_starts g s t front found fronts searched is = record { searched = searched; fronts_are = subst (AreFronts g s 0) (sym is) tt; count = ap length is; not_yet = refl }
