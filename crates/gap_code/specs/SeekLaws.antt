-- A walk along entries, whose keys rise in an order, to a key's place.
use Rattle.std.proofs.Common.{◌≡◌, ℕ, ◌+◌, ◌<◌, true, false, List, length, take, drop, get_or, Some, refl, sym, ◌∙◌, arith, add-one}
use Rattle.std.specs.Prelude.{IsTrue, IsSome}
use Rattle.std.specs.List.{slice_get}
use Rattle.std.specs.Cmp.{IsTotalOrder}
use Rattle.std.specs.declared.cmp.Ordering.{Ordering}
use Rattle.std.specs.declared.cmp.Ordering.TheVariants.{Less, Equal, Greater}
use Rattle.std.proofs.lemmas.Bool.{false≢true}
use Rattle.std.proofs.lemmas.List.{drop_all}
use Rattle.std.proofs.lemmas.Option.{slice_get_within, get_or_from_slice_get}
use Rattle.map_model.specs.Entries.{AllKeys, IsIncreasing, below, lookup}
use Rattle.map_model.proofs.Keys.{lesser}
use Rattle.map_model.proofs.Seeks.{take_less_too, drop_more, place_above, absent_here, place_of_hit, hit_here}

module _ {K V : Type 0} {order : K → K → Ordering} (total : IsTotalOrder order) (q : K) (es : List (K × V)) (increasing : IsIncreasing order es) (i : ℕ) (lower : AllKeys (λ k. order k q ≡ Less) (take i es)) where
  -- past all entries
  no_more : i ≡ length es → AllKeys (λ k. order q k ≡ Less) (drop i es)
  no_more is = rw (drop_all i es (omega arith)) tt

  pub end_at : i ≡ length es → i ≡ length (below order es q)
  end_at is = place_above total q es i (omega arith) lower (no_more is)

  pub end_hit : i ≡ length es → (IsTrue false → IsSome (lookup order es q)) × (IsSome (lookup order es q) → IsTrue false)
  end_hit is =
      let absent = absent_here total q es i (omega arith) lower (no_more is) in
      (λ h. absurd (false≢true h), λ h. absurd (false≢true (sym absent ∙ h)))

  module _ (key : K) (val : V) (got : slice_get es i ≡ Some (key, val)) where
    inside : i < length es
    inside = slice_get_within es i (key, val) got

    read : (key, val) ≡ get_or es i (key, val)
    read = sym (get_or_from_slice_get es i (key, val) (key, val) got)

    above : order key q ≡ Greater → AllKeys (λ k. order q k ≡ Less) (drop i es)
    above h = drop_more total q es i i (key, val) increasing inside (omega arith) read (lesser total key q h)

    pub found_at : order key q ≡ Equal → i ≡ length (below order es q)
    found_at h = place_of_hit total q es i (key, val) increasing inside read h

    pub found_hit : order key q ≡ Equal → (IsTrue true → IsSome (lookup order es q)) × (IsSome (lookup order es q) → IsTrue true)
    found_hit h = (λ _. hit_here total q es i (key, val) inside read h, λ _. refl)

    pub passed_at : order key q ≡ Greater → i ≡ length (below order es q)
    passed_at h = place_above total q es i (omega (arith, inside)) lower (above h)

    pub passed_hit : order key q ≡ Greater → (IsTrue false → IsSome (lookup order es q)) × (IsSome (lookup order es q) → IsTrue false)
    passed_hit h =
        let absent = absent_here total q es i (omega (arith, inside)) lower (above h) in
        (λ t. absurd (false≢true t), λ t. absurd (false≢true (sym absent ∙ t)))

    pub go_on : order key q ≡ Less → AllKeys (λ k. order k q ≡ Less) (take (i + 1) es)
    go_on h = rw add-one (take_less_too total q es i (key, val) inside read h lower)
