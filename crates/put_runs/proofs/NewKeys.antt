-- Marks at the places where new keys come first mark the puts that add a key.
use Rattle.std.proofs.Common.{◌≡◌, ℕ, ◌<◌, Bool, true, false, cond, ◌&&◌, ◌||◌, ◌==◌, List, [], ◌∷◌, length, take, get_or, Some, None, refl, sym, ap, ◌∙◌, subst, arith}
use Rattle.std.specs.Prelude.{is_none}
use Rattle.std.specs.List.{AllByRecursion, list_any}
use Rattle.std.specs.Ordering.{is_eq, nat_cmp}
use Rattle.std.specs.Cmp.{nat_cmp_total}
use Rattle.std.specs.declared.cmp.Ordering.TheVariants.{Equal}
use Rattle.std.proofs.lemmas.Bool.Decides.{nat_tests}
use Rattle.std.proofs.lemmas.List.{ext_get_or}
use Rattle.map_model.specs.Entries.{IsIncreasing, lookup}
use Rattle.map_model.specs.SetOperations.{difference}
use Rattle.map_model.proofs.Keys.{IsIncreasing-filter}
use Rattle.map_model.proofs.Lookups.{first_found, lookup-behind, lookup-filter_keys}
use Rattle.map_model.proofs.NatKeys.{nat_exact}
use Rattle.put_runs.specs.Places.{AreFirsts, counted, placed}
use Rattle.put_runs.specs.Sizes.{sizes_after}
use Rattle.put_runs.proofs.News.{length-news, news, news-at, sizes_after-counted}
use Rattle.put_runs.proofs.FirstPlaces.{found_at, found_at-first, key-at_place}

-- ---- the entries of a map by what is found

equal_from : (a b : ℕ) → is_eq (nat_cmp a b) ≡ true → nat_cmp a b ≡ Equal
equal_from a b h = grind (arith, nat_tests)

-- what holds of each key and the value that is found there holds of each entry
each_entry : (P : ℕ → ℕ → Type 0) (m : List (ℕ × ℕ)) → IsIncreasing nat_cmp m → ((q v : ℕ) → lookup nat_cmp m q ≡ Some v → P q v) → AllByRecursion (λ (e : ℕ × ℕ). P e.0 e.1) m
each_entry P [] s h = tt
each_entry P (e ∷ m) s h = (h e.0 e.1 (first_found nat_cmp_total e m), each_entry P m s.1 (λ q v is. h q v (found_behind q v is)))
  where
    found_behind : (q v : ℕ) → lookup nat_cmp m q ≡ Some v → lookup nat_cmp (e ∷ m) q ≡ Some v
    found_behind q v is =
        elim (is_eq (nat_cmp e.0 q)) as (λ b. is_eq (nat_cmp e.0 q) ≡ b → cond b (Some e.1) (lookup nat_cmp m q) ≡ Some v) [
          | true ↦ λ here. let none : lookup nat_cmp m q ≡ None = lookup-behind nat_cmp_total e m q s (equal_from e.0 q here) in cc
          | false ↦ λ _. is
        ] refl

-- a value that stands at one key alone is in a map where it is found at that key
any-found : (p k : ℕ) (m : List (ℕ × ℕ)) → IsIncreasing nat_cmp m → AllByRecursion (λ (e : ℕ × ℕ). e.1 ≡ p → e.0 ≡ k) m → list_any (λ e. e.1 == p) m ≡ found_at p (lookup nat_cmp m k)
any-found p k [] s at = refl
any-found p k (e ∷ m) s at =
    let rest : list_any (λ e. e.1 == p) m ≡ found_at p (lookup nat_cmp m k) = any-found p k m s.1 at.1 in
    elim (is_eq (nat_cmp e.0 k)) as (λ b. is_eq (nat_cmp e.0 k) ≡ b → (e.1 == p || list_any (λ e. e.1 == p) m) ≡ found_at p (cond b (Some e.1) (lookup nat_cmp m k))) [
      | true ↦ λ here. ap (λ b. e.1 == p || b) (rest ∙ ap (found_at p) (lookup-behind nat_cmp_total e m k s (equal_from e.0 k here))) ∙ or_false (e.1 == p)
      | false ↦ λ there. ap (λ b. b || list_any (λ e. e.1 == p) m) (elsewhere e.0 e.1 p k at.0 there) ∙ rest
    ] refl
  where
    or_false : (b : Bool) → (b || false) ≡ b
    or_false true = refl
    or_false false = refl

    same : (a : ℕ) → is_eq (nat_cmp a a) ≡ true
    same a = grind (arith, nat_tests)

    not_equal : (a b : ℕ) → (a ≡ b → ⊥) → (a == b) ≡ false
    not_equal a b h = grind (arith, nat_tests)

    elsewhere : (a v p k : ℕ) → (v ≡ p → a ≡ k) → is_eq (nat_cmp a k) ≡ false → (v == p) ≡ false
    elsewhere a v p k at there = not_equal v p (λ is. let eq : a ≡ k = at is in let yes : is_eq (nat_cmp a k) ≡ true = subst (λ b. is_eq (nat_cmp a b) ≡ true) eq (same a) in cc)

-- ---- the new keys

module _ (entries firsts m : List (ℕ × ℕ)) (are : AreFirsts entries firsts) where
  -- the keys that the map has not got, with the places where they come first
  abbrev fresh : List (ℕ × ℕ)
  fresh = difference nat_cmp firsts m

  fresh_rise : IsIncreasing nat_cmp fresh
  fresh_rise = IsIncreasing-filter nat_cmp _ firsts are.rise

  lookup-fresh : (q : ℕ) → lookup nat_cmp fresh q ≡ cond (is_none (lookup nat_cmp m q)) (lookup nat_cmp (placed 0 entries) q) None
  lookup-fresh q = lookup-filter_keys nat_exact (λ k. is_none (lookup nat_cmp m k)) firsts q ∙ ap (λ o. cond (is_none (lookup nat_cmp m q)) o None) (are.found q)

  key-fresh : (q v : ℕ) (d : ℕ × ℕ) → lookup nat_cmp fresh q ≡ Some v → (get_or entries v d).0 ≡ q
  key-fresh q v d is =
      elim (is_none (lookup nat_cmp m q)) as (λ b. cond b (lookup nat_cmp (placed 0 entries) q) None ≡ Some v → (get_or entries v d).0 ≡ q) [
        | true ↦ λ found. key-at_place entries q v d found
        | false ↦ λ none. cc
      ] (sym (lookup-fresh q) ∙ is)

  -- the place of a put is among them where the put adds a key
  any-fresh : (p : ℕ) (d : ℕ × ℕ) → p < length entries → list_any (λ e. e.1 == p) fresh ≡ get_or (news m entries) p false
  any-fresh p d h =
      let key : ℕ = (get_or entries p d).0 in
      any-found p key fresh fresh_rise (each_entry (λ q v. v ≡ p → q ≡ key) fresh fresh_rise (λ q v is at. sym (key-fresh q v d is) ∙ ap (λ n. (get_or entries n d).0) at))
      ∙ ap (found_at p) (lookup-fresh key)
      ∙ elim (is_none (lookup nat_cmp m key)) as (λ b. found_at p (cond b (lookup nat_cmp (placed 0 entries) key) None) ≡ (is_none (lookup nat_cmp (take p entries) key) && b)) [
        | true ↦ found_at-first entries p d h ∙ and_true (is_none (lookup nat_cmp (take p entries) key))
        | false ↦ and_false (is_none (lookup nat_cmp (take p entries) key))
      ]
      ∙ sym (news-at entries m p d h)
    where
      and_true : (b : Bool) → b ≡ (b && true)
      and_true true = refl
      and_true false = refl

      and_false : (b : Bool) → false ≡ (b && false)
      and_false true = refl
      and_false false = refl

  -- so counts by these marks are the sizes after the puts
  pub counted-marks : (marks : List Bool) → IsIncreasing nat_cmp m → length marks ≡ length entries → ((p : ℕ) → p < length entries → get_or marks p false ≡ list_any (λ e. e.1 == p) fresh) → counted (length m) marks ≡ sizes_after m entries
  counted-marks marks s same at =
      ap (counted (length m)) (ext_get_or false marks (news m entries) (same ∙ sym (length-news entries m)) (λ p h. let within : p < length entries = omega (arith, h, same) in at p within ∙ any-fresh p (0, 0) within))
      ∙ sym (sizes_after-counted entries m s)
