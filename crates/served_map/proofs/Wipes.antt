-- A range that is wiped.
use Rattle.std.proofs.Common.{◌≡◌, ℕ, ◌<◌, ◌≤◌, ◌||◌, Bool, true, false, cond, List, ◌++◌, Option, Some, None, nat_lt, refl, sym, ap₂, ◌∙◌, arith}
use Rattle.std.proofs.lemmas.Bool.Decides.{nat_tests}
use Rattle.std.specs.Cmp.{nat_cmp_total}
use Rattle.std.specs.Option.{option_or}
use Rattle.std.specs.Ordering.{nat_cmp}
use Rattle.std.specs.declared.cmp.Ordering.TheVariants.{Less}
use Rattle.map_model.specs.Entries.{AllAbove, IsBefore, IsIncreasing, above, below, lookup}
use Rattle.map_model.proofs.Filters.{filter-all_keys}
use Rattle.map_model.proofs.Keys.{AllKeys-all, AllKeys-map, IsBefore-from_append, IsIncreasing-append, IsIncreasing-filter}
use Rattle.map_model.proofs.Lookups.{equal_lookups, lookup-above, lookup-append, lookup-below, lookup-filter_keys}
use Rattle.map_model.proofs.NatKeys.{is_gt-nat_cmp, is_lt-nat_cmp, less-nat_cmp, lt_from_less, nat_exact}
use Rattle.map_model.proofs.Splits.{AllKeys-above, AllKeys-below, IsIncreasing-above, IsIncreasing-below}
use Rattle.op_runs.specs.Steps.{wiped}

-- no key is both at least lo and at most hi, where lo is greater
outside : (lo hi k : ℕ) → hi < lo → (nat_lt k lo || nat_lt hi k) ≡ true
outside lo hi k h = grind (arith, nat_tests)

-- where lo is greater than hi, nothing is wiped
pub wiped_none : (m : List (ℕ × ℕ)) (lo hi : ℕ) → hi < lo → wiped m lo hi ≡ m
wiped_none m lo hi h = filter-all_keys (λ k. nat_lt k lo || nat_lt hi k) m (AllKeys-all (λ k. (nat_lt k lo || nat_lt hi k) ≡ true) (λ k. outside lo hi k h) m)

-- what is below lo comes before what is above hi
pub sides_apart : (m : List (ℕ × ℕ)) (lo hi : ℕ) → lo ≤ hi → IsBefore nat_cmp (below nat_cmp m lo) (above nat_cmp m hi)
sides_apart m lo hi h = AllKeys-map (λ a. nat_cmp a lo ≡ Less) (λ a. AllAbove nat_cmp (above nat_cmp m hi) a)
    (λ a below_lo. AllKeys-map (λ b. nat_cmp hi b ≡ Less) (λ b. nat_cmp a b ≡ Less)
    (λ b above_hi. less-nat_cmp a b (let l = lt_from_less a lo below_lo in let r = lt_from_less hi b above_hi in omega arith))
    (above nat_cmp m hi) (AllKeys-above nat_cmp_total m hi))
    (below nat_cmp m lo) (AllKeys-below nat_cmp m lo)

either_side : (l r : Bool) (o : Option ℕ) → cond (l || r) o None ≡ option_or (cond l o None) (cond r o None)
either_side true true None = refl
either_side true false None = refl
either_side true r (Some v) = refl
either_side false r o = refl

-- else what is left is both sides
pub wiped_sides : (m : List (ℕ × ℕ)) (lo hi : ℕ) → lo ≤ hi → IsIncreasing nat_cmp m → wiped m lo hi ≡ below nat_cmp m lo ++ above nat_cmp m hi
wiped_sides m lo hi h rises =
    equal_lookups nat_cmp_total nat_exact (wiped m lo hi) (below nat_cmp m lo ++ above nat_cmp m hi)
    (IsIncreasing-filter nat_cmp (λ e. nat_lt e.0 lo || nat_lt hi e.0) m rises)
    (IsIncreasing-append nat_cmp (below nat_cmp m lo) (above nat_cmp m hi) (IsIncreasing-below nat_cmp m lo rises) (IsIncreasing-above nat_cmp m hi rises) (sides_apart m lo hi h))
    (λ q. lookup-filter_keys nat_exact (λ k. nat_lt k lo || nat_lt hi k) m q
    ∙ either_side (nat_lt q lo) (nat_lt hi q) (lookup nat_cmp m q)
    ∙ ap₂ (λ l r. option_or (cond l (lookup nat_cmp m q) None) (cond r (lookup nat_cmp m q) None)) (sym (is_lt-nat_cmp q lo)) (sym (is_gt-nat_cmp q hi))
    ∙ sym (lookup-append nat_cmp (below nat_cmp m lo) (above nat_cmp m hi) q ∙ ap₂ option_or (lookup-below nat_exact m lo q) (lookup-above nat_exact m hi q)))

-- so of two maps with these entries
pub parts_apart : (m l r : List (ℕ × ℕ)) (lo hi : ℕ) → lo ≤ hi → l ≡ below nat_cmp m lo → r ≡ above nat_cmp m hi → IsBefore nat_cmp l r
parts_apart m l r lo hi h is_below is_above = rw (is_below, is_above) (sides_apart m lo hi h)

-- the first of two lists whose keys rise behind one another comes before the second
pub ends_apart : (l r : List (ℕ × ℕ)) → IsIncreasing nat_cmp (l ++ r) → IsBefore nat_cmp l r
ends_apart l r rises = IsBefore-from_append nat_cmp l r rises
