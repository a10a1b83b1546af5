-- Numbers that never fall along each caller's steps.
use Rattle.std.proofs.Common.{◌≡◌, ◌==◌, ◌∙◌, ℕ, zero, suc, ◌<◌, ◌≤◌, ◌+◌, Bool, true, false, List, [], ◌∷◌, ◌++◌, length, get_or, map, filter, take, drop, refl, sym, ap, subst, inl, inr, arith, eq-eqb}
use Rattle.std.specs.Prelude.{All, nat_lt, nat_le}
use Rattle.std.proofs.lemmas.Bool.{ltb-true, lt-ltb, leb-true, le-leb}
use Rattle.std.specs.List.{AllPairs, AllWithin}
use Rattle.std.specs.List.Sorted.{IsNonDecreasingBy, IsPartitionedBy}
use Rattle.std.proofs.Math.ListN.{set, length-set}
use Rattle.std.proofs.Math.Seq.{take-length}
use Rattle.std.proofs.lemmas.Bool.Decides.{eqb_tells}
use Rattle.std.proofs.lemmas.Grind.{take_at_read, get_or-set_at}
use Rattle.std.proofs.lemmas.List.{append-nil, map-append, get_or-set_other, take-append-drop}
use Rattle.std.proofs.lemmas.List.Elements.{All-append, All-cons, All-nil, filter-append}
use Rattle.serve_text.proofs.Keys.{pairs_nil, pairs_cons, pairs_head, pairs_tail}
use Rattle.serve_text.proofs.Orders.{filter_yes, filter_no, filter_none, none_of_key, side}
use Rattle.run_check.proofs.Keyed.{rising_from_pairs, pairs_from_rising, filter_map, rising_map, map_rising}
use Rattle.run_check.specs.declared.rising.Step.{Step}

-- the last of some numbers, or another one where there is none
abbrev pub newest : ℕ → List ℕ → ℕ
newest d [] = d
newest d (n ∷ ns) = newest n ns

pub newest_push : (d n : ℕ) (ns : List ℕ) → newest d (ns ++ n ∷ []) ≡ n
newest_push d n [] = refl
newest_push d n (m ∷ ns) = newest_push m n ns

module _ {X : Type 0} (P : X → Type 0) where
  all_first : (xs ys : List X) → All P (xs ++ ys) → All P xs
  all_first [] ys all = All-nil P
  all_first (x ∷ xs) ys all = All-cons P x xs (all 0 x (omega arith)) (all_first xs ys (λ k d h. all (suc k) d (omega (arith, h))))

  last_of : (x : X) (xs : List X) → All P (xs ++ x ∷ []) → P x
  last_of x [] all = all 0 x (omega arith)
  last_of x (y ∷ xs) all = last_of x xs (λ k d h. all (suc k) d (omega (arith, h)))

module _ {X : Type 0} (n : X → ℕ) where
  abbrev pub NeverFall : List X → Type 0
  NeverFall xs = AllPairs (λ (x y : X). n x ≤ n y) xs

  newest_most : (d : ℕ) (xs : List X) → NeverFall xs → All (λ x. d ≤ n x) xs → (d ≤ newest d (map n xs)) × All (λ x. n x ≤ newest d (map n xs)) xs
  newest_most d [] rise above = (omega arith, All-nil (λ x. n x ≤ d))
  newest_most d (x ∷ xs) rise above =
      let first : d ≤ n x = above 0 x (omega arith) in
      let rest = newest_most (n x) xs (pairs_tail (λ (a b : X). n a ≤ n b) x xs rise) (pairs_head (λ (a b : X). n a ≤ n b) x xs rise) in
      (omega (arith, first, rest.0), All-cons (λ y. n y ≤ newest (n x) (map n xs)) x xs rest.0 rest.1)

  push_pairs : (x : X) (xs : List X) → NeverFall xs → All (λ y. n y ≤ n x) xs → NeverFall (xs ++ x ∷ [])
  push_pairs x [] rise below = pairs_cons (λ (a b : X). n a ≤ n b) x [] (All-nil (λ y. n x ≤ n y)) (pairs_nil (λ (a b : X). n a ≤ n b))
  push_pairs x (y ∷ xs) rise below =
      pairs_cons (λ (a b : X). n a ≤ n b) y (xs ++ x ∷ [])
      (All-append (λ z. n y ≤ n z) xs (x ∷ []) (pairs_head (λ (a b : X). n a ≤ n b) y xs rise) (All-cons (λ z. n y ≤ n z) x [] (below 0 y (omega arith)) (All-nil (λ z. n y ≤ n z))))
      (push_pairs x xs (pairs_tail (λ (a b : X). n a ≤ n b) y xs rise) (λ k d h. below (suc k) d (omega (arith, h))))

  pub never_fall_more : (x : X) (xs : List X) → NeverFall xs → newest 0 (map n xs) ≤ n x → NeverFall (xs ++ x ∷ [])
  never_fall_more x xs rise least =
      let most = newest_most 0 xs rise (λ k d h. omega arith) in
      push_pairs x xs rise (λ k d h. let z = most.1 k d h in omega (arith, z, least))

  pub never_fall_front : (xs ys : List X) → NeverFall (xs ++ ys) → NeverFall xs
  never_fall_front [] ys rise = pairs_nil (λ (a b : X). n a ≤ n b)
  never_fall_front (x ∷ xs) ys rise =
      pairs_cons (λ (a b : X). n a ≤ n b) x xs (all_first (λ y. n x ≤ n y) xs ys (pairs_head (λ (a b : X). n a ≤ n b) x (xs ++ ys) rise)) (never_fall_front xs ys (pairs_tail (λ (a b : X). n a ≤ n b) x (xs ++ ys) rise))

  pub newest_least : (d : ℕ) (x : X) (xs : List X) → d ≤ n x → NeverFall (xs ++ x ∷ []) → newest d (map n xs) ≤ n x
  newest_least d x [] least rise = least
  newest_least d x (y ∷ xs) least rise =
      newest_least (n y) x xs (last_of (λ z. n y ≤ n z) x xs (pairs_head (λ (a b : X). n a ≤ n b) y (xs ++ x ∷ []) rise)) (pairs_tail (λ (a b : X). n a ≤ n b) y (xs ++ x ∷ []) rise)

-- the steps of one caller
abbrev pub steps_of : ℕ → List Step → List Step
steps_of c steps = filter (λ (s : Step). s.caller == c) steps

abbrev number_of : Step → ℕ
number_of s = s.number

-- along each caller's steps so far the numbers never fall, and the last of them is kept
pub record RisesTo (callers i : ℕ) (steps : List Step) (last : List ℕ) : Type 0 where
  pub count : length last ≡ callers
  pub rise : (c : ℕ) → c < callers → AllPairs (λ (s t : Step). s.number ≤ t.number) (steps_of c (take i steps))
  pub newest_is : (c d : ℕ) → c < callers → get_or last c d ≡ newest 0 (map number_of (steps_of c (take i steps)))

module _ (steps : List Step) (i : ℕ) (s : Step) (inside : i < length steps) (here : s ≡ get_or steps i s) where
  longer : take (i + 1) steps ≡ take i steps ++ s ∷ []
  longer = (take_at_read steps i s inside).1 ∙ ap (λ (t : Step). take i steps ++ t ∷ []) (sym here)

  own_more : (c : ℕ) → (s.caller == c) ≡ true → steps_of c (take (i + 1) steps) ≡ steps_of c (take i steps) ++ s ∷ []
  own_more c own = ap (steps_of c) longer ∙ filter-append (λ (t : Step). t.caller == c) (take i steps) (s ∷ []) ∙ ap (λ (l : List Step). steps_of c (take i steps) ++ l) (filter_yes (λ (t : Step). t.caller == c) s [] own)

  other_more : (c : ℕ) → (s.caller == c) ≡ false → steps_of c (take (i + 1) steps) ≡ steps_of c (take i steps)
  other_more c other =
      ap (steps_of c) longer ∙ filter-append (λ (t : Step). t.caller == c) (take i steps) (s ∷ [])
      ∙ ap (λ (l : List Step). steps_of c (take i steps) ++ l) (filter_no (λ (t : Step). t.caller == c) s [] other) ∙ append-nil (steps_of c (take i steps))

  pub rises_on : (callers : ℕ) (last : List ℕ) → RisesTo callers i steps last → s.caller < callers → get_or last s.caller 0 ≤ s.number → RisesTo callers (i + 1) steps (set last s.caller s.number)
  rises_on callers last so_far few least = record {
    count = length-set last s.caller s.number ∙ so_far.count;
    rise = λ c h. elim (eqb_tells s.caller c) [
      | inl q ↦
          let now : newest 0 (map number_of (steps_of c (take i steps))) ≤ s.number =
          subst (λ (m : ℕ). m ≤ s.number) (so_far.newest_is c 0 h) (subst (λ (k : ℕ). get_or last k 0 ≤ s.number) q.1 least) in
          subst (AllPairs (λ (a b : Step). a.number ≤ b.number)) (sym (own_more c q.0)) (never_fall_more number_of s (steps_of c (take i steps)) (so_far.rise c h) now)
      | inr q ↦ subst (AllPairs (λ (a b : Step). a.number ≤ b.number)) (sym (other_more c q.0)) (so_far.rise c h)
    ];
    newest_is = λ c d h. elim (eqb_tells s.caller c) [
      | inl q ↦
          get_or-set_at last s.caller c s.number d (sym q.1) (omega (arith, few, so_far.count))
          ∙ sym (ap (λ (l : List Step). newest 0 (map number_of l)) (own_more c q.0) ∙ ap (newest 0) (map-append number_of (steps_of c (take i steps)) (s ∷ [])) ∙ newest_push 0 s.number (map number_of (steps_of c (take i steps))))
      | inr q ↦
          get_or-set_other last s.caller c s.number d (λ z. q.1 (sym z)) ∙ so_far.newest_is c d h ∙ ap (λ (l : List Step). newest 0 (map number_of l)) (sym (other_more c q.0))
    ];
  }

  pub rises_not : (callers : ℕ) (last : List ℕ) → RisesTo callers i steps last → s.caller < callers → s.number < get_or last s.caller 0 → ¬ ((c : ℕ) → IsNonDecreasingBy number_of (steps_of c steps))
  rises_not callers last so_far few falls all =
      let whole : steps_of s.caller steps ≡ steps_of s.caller (take (i + 1) steps) ++ steps_of s.caller (drop (i + 1) steps) =
      ap (steps_of s.caller) (sym (take-append-drop (i + 1) steps)) ∙ filter-append (λ (t : Step). t.caller == s.caller) (take (i + 1) steps) (drop (i + 1) steps) in
      let rise : AllPairs (λ (a b : Step). a.number ≤ b.number) (steps_of s.caller (take (i + 1) steps) ++ steps_of s.caller (drop (i + 1) steps)) =
      subst (AllPairs (λ (a b : Step). a.number ≤ b.number)) whole (pairs_from_rising number_of (steps_of s.caller steps) (all s.caller)) in
      let front = never_fall_front number_of (steps_of s.caller (take (i + 1) steps)) (steps_of s.caller (drop (i + 1) steps)) rise in
      let least = newest_least number_of 0 s (steps_of s.caller (take i steps)) (omega arith) (subst (AllPairs (λ (a b : Step). a.number ≤ b.number)) (own_more s.caller (eq-eqb s.caller s.caller refl)) front) in
      omega (arith, least, falls, so_far.newest_is s.caller 0 few)

pub rises_all : (callers : ℕ) (steps : List Step) (i : ℕ) (last : List ℕ) → i ≡ length steps → All (λ (s : Step). s.caller < callers) steps → RisesTo callers i steps last
    → (c : ℕ) → IsNonDecreasingBy number_of (steps_of c steps)
rises_all callers steps i last whole few so_far c =
    let all : take i steps ≡ steps = ap (λ (n : ℕ). take n steps) whole ∙ take-length steps in
    elim (side c callers) [
      | inl h ↦ rising_from_pairs number_of (steps_of c steps) (subst (λ (l : List Step). AllPairs (λ (a b : Step). a.number ≤ b.number) (steps_of c l)) all (so_far.rise c h))
      | inr h ↦ subst (IsNonDecreasingBy number_of) (sym (none_of_key (λ (s : Step). s.caller) callers c steps h few)) (λ i j d h inside. absurd (omega (arith, inside)))
    ]

pub rises_none : (callers : ℕ) (steps : List Step) (last : List ℕ) → length last ≡ callers → ((c d : ℕ) → c < callers → get_or last c d ≡ 0) → RisesTo callers 0 steps last
rises_none callers steps last count zeros = record { count = count; rise = λ c h. pairs_nil (λ (s t : Step). s.number ≤ t.number); newest_is = zeros }

module _ {X : Type 0} (f : X → Step) where
  -- steps that are made of other things
  pub made_steps : (xs : List X) → ((c : ℕ) → IsNonDecreasingBy number_of (steps_of c (map f xs))) → (c : ℕ) → IsNonDecreasingBy (λ x. (f x).number) (filter (λ x. (f x).caller == c) xs)
  made_steps xs all c = rising_map f number_of (filter (λ x. (f x).caller == c) xs) (subst (IsNonDecreasingBy number_of) (filter_map f (λ (s : Step). s.caller == c) xs) (all c))

  pub steps_made : (xs : List X) → ((c : ℕ) → IsNonDecreasingBy (λ x. (f x).number) (filter (λ x. (f x).caller == c) xs)) → (c : ℕ) → IsNonDecreasingBy number_of (steps_of c (map f xs))
  steps_made xs all c = subst (IsNonDecreasingBy number_of) (sym (filter_map f (λ (s : Step). s.caller == c) xs)) (map_rising f number_of (filter (λ x. (f x).caller == c) xs) (all c))

module _ {X : Type 0} (n : X → ℕ) (xs : List X) (i : ℕ) (x : X) (inside : i < length xs) (here : x ≡ get_or xs i x) where
  one_longer : take (i + 1) xs ≡ take i xs ++ x ∷ []
  one_longer = (take_at_read xs i x inside).1 ∙ ap (λ (y : X). take i xs ++ y ∷ []) (sym here)

  pub fall_on : NeverFall n (take i xs) → newest 0 (map n (take i xs)) ≤ n x → NeverFall n (take (i + 1) xs)
  fall_on rise least = subst (λ (l : List X). AllPairs (λ (a b : X). n a ≤ n b) l) (sym one_longer) (never_fall_more n x (take i xs) rise least)

  pub last_now : n x ≡ newest 0 (map n (take (i + 1) xs))
  last_now = sym (ap (λ (l : List X). newest 0 (map n l)) one_longer ∙ ap (newest 0) (map-append n (take i xs) (x ∷ [])) ∙ newest_push 0 (n x) (map n (take i xs)))

  pub fall_not : n x < newest 0 (map n (take i xs)) → ¬ (IsNonDecreasingBy n xs)
  fall_not falls all =
      let rise : AllPairs (λ (a b : X). n a ≤ n b) (take (i + 1) xs ++ drop (i + 1) xs) = subst (λ (l : List X). AllPairs (λ (a b : X). n a ≤ n b) l) (sym (take-append-drop (i + 1) xs)) (pairs_from_rising n xs all) in
      let front = never_fall_front n (take (i + 1) xs) (drop (i + 1) xs) rise in
      let least = newest_least n 0 x (take i xs) (omega arith) (subst (λ (l : List X). AllPairs (λ (a b : X). n a ≤ n b) l) one_longer front) in
      omega (arith, least, falls)

pub fall_all : {X : Type 0} (n : X → ℕ) (xs : List X) (i : ℕ) → i ≡ length xs → NeverFall n (take i xs) → IsNonDecreasingBy n xs
fall_all {X} n xs i whole rise =
    rising_from_pairs n xs (subst (λ (l : List X). AllPairs (λ (a b : X). n a ≤ n b) l) (ap (λ (k : ℕ). take k xs) whole ∙ take-length xs) rise)

-- a point that parts those that pass from those that do not tells how many pass
pub point_count : {X : Type 0} (p : X → Bool) (xs : List X) (i : ℕ) → i ≤ length xs → AllWithin (λ x. p x ≡ true) xs 0 i → AllWithin (λ x. p x ≡ false) xs i (length xs) → i ≡ length (filter p xs)
point_count p [] i within front back = omega (arith, within)
point_count p (x ∷ xs) zero within front back = sym (ap length (filter_none p (x ∷ xs) (λ k d h. back k d (omega arith) h)))
point_count p (x ∷ xs) (suc i) within front back =
    let rest = point_count p xs i (omega (arith, within)) (λ k d low h. front (suc k) d (omega arith) (omega (arith, h))) (λ k d low h. back (suc k) d (omega (arith, low)) (omega (arith, h))) in
    let z : length (filter p (x ∷ xs)) ≡ suc (length (filter p xs)) = ap length (filter_yes p x xs (front 0 x (omega arith) (omega arith))) in
    omega (arith, rest, z)

pub below_parts : {X : Type 0} (n : X → ℕ) (k : ℕ) (xs : List X) → IsNonDecreasingBy n xs → IsPartitionedBy (λ x. nat_lt (n x) k) xs
below_parts n k xs up i j d h inside passes = let z = ltb-true (n (get_or xs j d)) k passes in let w = up i j d h inside in lt-ltb _ _ (omega (arith, z, w))

pub up_to_parts : {X : Type 0} (n : X → ℕ) (k : ℕ) (xs : List X) → IsNonDecreasingBy n xs → IsPartitionedBy (λ x. nat_le (n x) k) xs
up_to_parts n k xs up i j d h inside passes = let z = leb-true (n (get_or xs j d)) k passes in let w = up i j d h inside in le-leb _ _ (omega (arith, z, w))
