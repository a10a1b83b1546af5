-- A stable sort by keys leaves what changes come to.
use Rattle.std.proofs.Common.{◌≡◌, ℕ, Bool, true, false, cond, not, ◌&&◌, ◌||◌, List, [], ◌∷◌, refl, sym, ap, ◌∙◌}
use Rattle.std.specs.Prelude.{fold}
use Rattle.std.specs.List.{filter, list_any}
use Rattle.std.specs.List.Sorted.{IsStableByKey, ties}
use Rattle.std.specs.Ordering.{nat_cmp, is_eq, is_lt, ordering_reverse}
use Rattle.std.specs.Cmp.{nat_cmp_total}
use Rattle.std.specs.declared.cmp.Ordering.TheVariants.{Less, Equal, Greater}
use Rattle.std.proofs.lemmas.List.Elements.{filter_agree}
use Rattle.op_runs.specs.declared.outcome.Outcome.{Outcome}
use Rattle.op_runs.specs.declared.outcome.Outcome.TheVariants.{Nothing}
use Rattle.op_runs.specs.Outcomes.{followed_by}
use Rattle.op_runs.specs.Steps.{changes_at, changes_key}

tie_is_equal : (q k : ℕ) → (not (is_lt (nat_cmp q k)) && not (is_lt (nat_cmp k q))) ≡ is_eq (nat_cmp k q)
tie_is_equal q k = ap (λ o. not (is_lt o) && not (is_lt (nat_cmp k q))) (nat_cmp_total.antisymm q k) ∙ elim (nat_cmp k q) as (λ o. (not (is_lt (ordering_reverse o)) && not (is_lt o)) ≡ is_eq o) [ Less ↦ refl | Equal ↦ refl | Greater ↦ refl ]

-- only the changes of a key count there
only_there : (changes : List (ℕ × Outcome)) (q : ℕ) (before : Outcome) → fold (λ first e. followed_by first (cond (is_eq (nat_cmp e.0 q)) e.1 Nothing)) before changes ≡ fold (λ first e. followed_by first e.1) before (filter (λ e. is_eq (nat_cmp e.0 q)) changes)
only_there [] q before = refl
only_there (e ∷ changes) q before =
    only_there changes q (followed_by before (cond (is_eq (nat_cmp e.0 q)) e.1 Nothing))
    ∙ elim (is_eq (nat_cmp e.0 q)) as (λ b. fold (λ first d. followed_by first d.1) (followed_by before (cond b e.1 Nothing)) (filter (λ d. is_eq (nat_cmp d.0 q)) changes) ≡ fold (λ first d. followed_by first d.1) before (cond b (e ∷ filter (λ d. is_eq (nat_cmp d.0 q)) changes) (filter (λ d. is_eq (nat_cmp d.0 q)) changes))) [ true ↦ refl | false ↦ refl ]

-- the changes of a key, which a stable sort keeps
kept_there : (changes sorted : List (ℕ × Outcome)) → IsStableByKey (λ (e : ℕ × Outcome). e.0) nat_cmp changes sorted → (q : ℕ) → filter (changes_key q) sorted ≡ filter (changes_key q) changes
kept_there changes sorted stable q =
    let tie : ℕ × Outcome → Bool = ties (λ (x y : ℕ × Outcome). is_lt (nat_cmp x.0 y.0)) (q, Nothing) in
    let agree : (m : List (ℕ × Outcome)) → filter tie m ≡ filter (changes_key q) m = λ m. filter_agree tie (changes_key q) (λ e. tie_is_equal q e.0) m in
    sym (agree sorted) ∙ stable (q, Nothing) ∙ agree changes

any_there : (p : ℕ × Outcome → Bool) (changes : List (ℕ × Outcome)) → list_any p changes ≡ list_any p (filter p changes)
any_there p [] = refl
any_there p (e ∷ changes) =
    elim (p e) as (λ b. p e ≡ b → (b || list_any p changes) ≡ list_any p (cond b (e ∷ filter p changes) (filter p changes))) [
      | true ↦ λ is. sym (ap (λ b. b || list_any p (filter p changes)) is)
      | false ↦ λ _. any_there p changes
    ] refl

-- a stable sort has the same keys
pub keys-stable : (changes sorted : List (ℕ × Outcome)) → IsStableByKey (λ (e : ℕ × Outcome). e.0) nat_cmp changes sorted → (q : ℕ) → list_any (changes_key q) sorted ≡ list_any (changes_key q) changes
keys-stable changes sorted stable q = any_there (changes_key q) sorted ∙ ap (list_any (changes_key q)) (kept_there changes sorted stable q) ∙ sym (any_there (changes_key q) changes)

pub changes_at-stable : (changes sorted : List (ℕ × Outcome)) → IsStableByKey (λ (e : ℕ × Outcome). e.0) nat_cmp changes sorted → (q : ℕ) → changes_at sorted q ≡ changes_at changes q
changes_at-stable changes sorted stable q =
    only_there sorted q Nothing
    ∙ ap (fold (λ first e. followed_by first e.1) Nothing) (kept_there changes sorted stable q)
    ∙ sym (only_there changes q Nothing)
