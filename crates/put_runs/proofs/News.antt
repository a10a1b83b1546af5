-- Which puts of a run add a key, and what that says of the map's size.
use Rattle.std.proofs.Common.{◌≡◌, ℕ, zero, suc, ◌+◌, ◌<◌, Bool, true, false, cond, ◌&&◌, List, [], ◌∷◌, length, take, get_or, Option, Some, None, is_some, refl, ap, ap₂, ◌∙◌, arith}
use Rattle.std.specs.Prelude.{is_none}
use Rattle.std.specs.Option.{option_or}
use Rattle.std.specs.Ordering.{is_eq, nat_cmp}
use Rattle.std.specs.Cmp.{nat_cmp_total}
use Rattle.map_model.specs.Entries.{IsIncreasing, lookup, set}
use Rattle.map_model.specs.Operations.{after, last_at, puts}
use Rattle.map_model.proofs.Lengths.{length-set}
use Rattle.map_model.proofs.NatKeys.{nat_exact}
use Rattle.map_model.proofs.Operations.{last_at-cons, lookup-after_puts}
use Rattle.map_model.proofs.Splits.{IsIncreasing-set}
use Rattle.put_runs.specs.Places.{counted}
use Rattle.put_runs.specs.Sizes.{sizes_after}

-- whether each put adds a key
abbrev pub news : List (ℕ × ℕ) → List (ℕ × ℕ) → List Bool
news m [] = []
news m (e ∷ entries) = is_none (lookup nat_cmp m e.0) ∷ news (set nat_cmp m e.0 e.1) entries

pub length-news : (entries m : List (ℕ × ℕ)) → length (news m entries) ≡ length entries
length-news [] m = refl
length-news (e ∷ entries) m = ap suc (length-news entries (set nat_cmp m e.0 e.1))

-- the sizes are the size before, and one more at each key that is added
pub sizes_after-counted : (entries m : List (ℕ × ℕ)) → IsIncreasing nat_cmp m → sizes_after m entries ≡ counted (length m) (news m entries)
sizes_after-counted [] m s = refl
sizes_after-counted (e ∷ entries) m s =
    let size = length-set nat_cmp_total nat_exact m e.0 e.1 s in
    let here : length (set nat_cmp m e.0 e.1) ≡ cond (is_none (lookup nat_cmp m e.0)) (length m + 1) (length m) =
    size ∙ elim (lookup nat_cmp m e.0) as (λ (o : Option ℕ). cond (is_some o) (length m) (length m + 1) ≡ cond (is_none o) (length m + 1) (length m)) [ None ↦ refl | Some v ↦ refl ] in
    ap₂ (λ n rest. n ∷ rest) here (sizes_after-counted entries (set nat_cmp m e.0 e.1) (IsIncreasing-set nat_cmp_total m e.0 e.1 s) ∙ ap (λ n. counted n (news (set nat_cmp m e.0 e.1) entries)) here)

-- the put at a place adds a key where the map has not got it after the puts before
news_at : (entries m : List (ℕ × ℕ)) (p : ℕ) (d : ℕ × ℕ) → p < length entries → get_or (news m entries) p false ≡ is_none (lookup nat_cmp (after nat_cmp m (puts (take p entries))) (get_or entries p d).0)
news_at [] m p d h = absurd (omega arith)
news_at (e ∷ entries) m zero d h = refl
news_at (e ∷ entries) m (suc p) d h = news_at entries (set nat_cmp m e.0 e.1) p d (omega arith)

-- ---- in terms of the entries before

none_either : (a b : Option ℕ) → is_none (option_or a b) ≡ (is_none a && is_none b)
none_either None b = refl
none_either (Some v) b = refl

-- whether a key is there does not depend on which of its entries is found
none_last : (m : List (ℕ × ℕ)) (q : ℕ) → is_none (last_at nat_cmp m q) ≡ is_none (lookup nat_cmp m q)
none_last [] q = refl
none_last (e ∷ m) q =
    ap is_none (last_at-cons nat_cmp e m q)
    ∙ none_either (last_at nat_cmp m q) (cond (is_eq (nat_cmp e.0 q)) (Some e.1) None)
    ∙ ap (λ b. b && is_none (cond (is_eq (nat_cmp e.0 q)) (Some e.1) None)) (none_last m q)
    ∙ elim (is_eq (nat_cmp e.0 q)) as (λ b. (is_none (lookup nat_cmp m q) && is_none (cond b (Some e.1) None)) ≡ is_none (cond b (Some e.1) (lookup nat_cmp m q))) [
      | true ↦ elim (is_none (lookup nat_cmp m q)) as (λ b. (b && false) ≡ false) [ true ↦ refl | false ↦ refl ]
      | false ↦ elim (is_none (lookup nat_cmp m q)) as (λ b. (b && true) ≡ b) [ true ↦ refl | false ↦ refl ]
    ]

-- a put adds a key that neither the entries before nor the map have
pub news-at : (entries m : List (ℕ × ℕ)) (p : ℕ) (d : ℕ × ℕ) → p < length entries → get_or (news m entries) p false ≡ (is_none (lookup nat_cmp (take p entries) (get_or entries p d).0) && is_none (lookup nat_cmp m (get_or entries p d).0))
news-at entries m p d h =
    let key : ℕ = (get_or entries p d).0 in
    news_at entries m p d h
    ∙ ap is_none (lookup-after_puts nat_cmp_total nat_exact (take p entries) m key)
    ∙ none_either (last_at nat_cmp (take p entries) key) (lookup nat_cmp m key)
    ∙ ap (λ b. b && is_none (lookup nat_cmp m key)) (none_last (take p entries) key)
