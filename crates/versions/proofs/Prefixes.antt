-- Beginnings of lists.
use Rattle.std.proofs.Common.{◌≡◌, zero, suc, ◌≤◌, ◌⊎◌, List, [], ◌∷◌, ◌++◌, length, take, refl, sym, ap, subst, inl, inr, ⊎_elim, arith}
use Rattle.std.proofs.lemmas.Bool.{lt-ltb, le-ltb}
use mathlib.Core.Logic.{dite}
use native.Mathlib.Decide.{dec_lt}
use Rattle.std.specs.Prelude.{All, if◌then◌else◌}
use Rattle.versions.specs.Prefix.{IsPrefix, longer}

module _ {A : Type 0} where
  taken_all : (xs : List A) → take (length xs) xs ≡ xs
  taken_all [] = refl
  taken_all (x ∷ xs) = ap (λ ys. x ∷ ys) (taken_all xs)

  taken_front : (xs ys : List A) → take (length xs) (xs ++ ys) ≡ xs
  taken_front [] ys = refl
  taken_front (x ∷ xs) ys = ap (λ zs. x ∷ zs) (taken_front xs ys)

  tail_is : (x y : A) (xs ys : List A) → x ∷ xs ≡ y ∷ ys → xs ≡ ys
  tail_is x y xs ys e = cc

  pub head_is : (x y : A) (xs ys : List A) → x ∷ xs ≡ y ∷ ys → x ≡ y
  head_is x y xs ys e = cc

  chained : (xs ys zs : List A) → take (length xs) ys ≡ xs → take (length ys) zs ≡ ys → take (length xs) zs ≡ xs
  chained [] ys zs p q = refl
  chained (x ∷ xs) [] zs p q = absurd (let e : [] ≡ x ∷ xs = p in cc)
  chained (x ∷ xs) (y ∷ ys) [] p q = absurd (let e : [] ≡ y ∷ ys = q in cc)
  chained (x ∷ xs) (y ∷ ys) (z ∷ zs) p q =
      let deeper = chained xs ys zs (tail_is y x _ _ p) (tail_is z y _ _ q) in let first = head_is z y _ _ q in let second = head_is y x _ _ p in cc

  nested : (xs ys zs : List A) → take (length xs) zs ≡ xs → take (length ys) zs ≡ ys → length xs ≤ length ys → take (length xs) ys ≡ xs
  nested [] ys zs p q h = refl
  nested (x ∷ xs) [] zs p q h = absurd (omega arith)
  nested (x ∷ xs) (y ∷ ys) [] p q h = absurd (let e : [] ≡ x ∷ xs = p in cc)
  nested (x ∷ xs) (y ∷ ys) (z ∷ zs) p q h =
      let deeper = nested xs ys zs (tail_is z x _ _ p) (tail_is z y _ _ q) (omega arith) in let first = head_is z x _ _ p in let second = head_is z y _ _ q in cc

  pub prefix_refl : (xs : List A) → IsPrefix xs xs
  prefix_refl xs = record { is = taken_all xs }

  pub prefix_front : (xs ys : List A) → IsPrefix xs (xs ++ ys)
  prefix_front xs ys = record { is = taken_front xs ys }

  pub prefix_trans : {xs ys zs : List A} → IsPrefix xs ys → IsPrefix ys zs → IsPrefix xs zs
  prefix_trans {xs} {ys} {zs} p q = record { is = chained xs ys zs p.is q.is }

  -- of two beginnings of one list the shorter is a beginning of the longer
  pub prefix_nested : {xs ys zs : List A} → IsPrefix xs zs → IsPrefix ys zs → length xs ≤ length ys → IsPrefix xs ys
  prefix_nested {xs} {ys} {zs} p q h = record { is = nested xs ys zs p.is q.is h }

  pub prefixes_trans : {ys zs : List A} → IsPrefix ys zs → (lists : List (List A)) → All (λ list. IsPrefix list ys) lists → All (λ list. IsPrefix list zs) lists
  prefixes_trans p lists all = λ k d h. prefix_trans (all k d h) p

  longer_cases : (xs ys : List A) → ((longer xs ys ≡ xs) × (length ys ≤ length xs)) ⊎ ((longer xs ys ≡ ys) × (length xs ≤ length ys))
  longer_cases xs ys = dite (dec_lt (length xs) (length ys))
      (λ h. inr (ap (λ b. if b then ys else xs) (lt-ltb (length xs) (length ys) h), omega arith))
      (λ n. let h : length ys ≤ length xs = omega arith in inl (ap (λ b. if b then ys else xs) (le-ltb (length xs) (length ys) h), h))

  pub longer_prefix : (xs ys zs : List A) → IsPrefix xs zs → IsPrefix ys zs → IsPrefix (longer xs ys) zs × IsPrefix xs (longer xs ys) × IsPrefix ys (longer xs ys)
  longer_prefix xs ys zs p q =
      let P : List A → Type 0 = λ l. IsPrefix l zs × IsPrefix xs l × IsPrefix ys l in
      ⊎_elim (λ t. subst P (sym t.0) (p, prefix_refl xs, prefix_nested q p t.1)) (λ t. subst P (sym t.0) (q, prefix_nested p q t.1, prefix_refl ys)) (longer_cases xs ys)

  pub both_older : (xs ys zs : List A) → IsPrefix xs zs → IsPrefix ys zs → All (λ list. IsPrefix list zs) (xs ∷ ys ∷ [])
  both_older xs ys zs p q zero d h = p
  both_older xs ys zs p q (suc zero) d h = q
  both_older xs ys zs p q (suc (suc k)) d h = absurd (omega arith)
