-- What operations leave at a key is what their outcome there leaves.
use Rattle.std.proofs.Common.{◌≡◌, ℕ, true, false, cond, ◌||◌, nat_lt, List, [], ◌∷◌, Option, Some, None, refl, sym, ap, ◌∙◌}
use Rattle.std.specs.Prelude.{fold}
use Rattle.std.specs.List.{All, filter_map, list_any}
use Rattle.std.specs.Option.{option_map_or}
use Rattle.std.specs.Ordering.{nat_cmp, is_eq}
use Rattle.std.specs.Cmp.{nat_cmp_total}
use Rattle.std.specs.declared.cmp.Ordering.{Ordering}
use Rattle.std.specs.declared.cmp.Ordering.TheVariants.{Less, Equal, Greater}
use Rattle.std.proofs.lemmas.Bool.{false≢true}
use Rattle.std.proofs.lemmas.List.Elements.{All-head, All-tail}
use Rattle.map_model.specs.Entries.{IsIncreasing, lookup}
use Rattle.map_model.specs.Operations.{del}
use Rattle.map_model.proofs.Keys.{IsIncreasing-filter}
use Rattle.map_model.proofs.Lookups.{lookup-filter_keys, lookup-set}
use Rattle.map_model.proofs.NatKeys.{nat_exact}
use Rattle.map_model.proofs.Operations.{lookup-step}
use Rattle.map_model.proofs.Splits.{IsIncreasing-drop_key, IsIncreasing-set}
use Rattle.op_runs.specs.declared.op.Op.{Op}
use Rattle.op_runs.specs.declared.op.Op.TheVariants.{Put, Del, Add, Wipe}
use Rattle.op_runs.specs.declared.outcome.Outcome.{Outcome}
use Rattle.op_runs.specs.declared.outcome.Outcome.TheVariants.{Nothing, Set, Gone, Added}
use Rattle.op_runs.specs.Outcomes.{followed_by, left_by, sat_sum}
use Rattle.op_runs.specs.Steps.{IsSingle, change_of, changes_at, changes_key, effect, is_of, outcome_at, step}
use Rattle.op_runs.proofs.OutcomeLaws.{left_by-followed_by}

pub equal_from_test : (o : Ordering) → is_eq o ≡ true → o ≡ Equal
equal_from_test Less h = absurd (false≢true h)
equal_from_test Equal h = refl
equal_from_test Greater h = absurd (false≢true h)

-- ---- keys still rise

pub IsIncreasing-one : (m : List (ℕ × ℕ)) (op : Op) → IsIncreasing nat_cmp m → IsIncreasing nat_cmp (step m op)
IsIncreasing-one m (Put key val) s = IsIncreasing-set nat_cmp_total m key val s
IsIncreasing-one m (Del key) s = IsIncreasing-drop_key nat_cmp m key s
IsIncreasing-one m (Add key val) s = IsIncreasing-set nat_cmp_total m key (option_map_or (λ old. sat_sum old val) (lookup nat_cmp m key) val) s
IsIncreasing-one m (Wipe lo hi) s = IsIncreasing-filter nat_cmp (λ e. nat_lt e.0 lo || nat_lt hi e.0) m s

pub IsIncreasing-run : (ops : List Op) (m : List (ℕ × ℕ)) → IsIncreasing nat_cmp m → IsIncreasing nat_cmp (fold step m ops)
IsIncreasing-run [] m s = s
IsIncreasing-run (op ∷ ops) m s = IsIncreasing-run ops (step m op) (IsIncreasing-one m op s)

-- ---- what is found

added_at_key : (old : Option ℕ) (val : ℕ) → ◌≡◌ {A = Option ℕ} (Some (option_map_or (λ o. sat_sum o val) old val)) (left_by (Added val) old)
added_at_key None val = refl
added_at_key (Some old) val = refl

pub lookup-one : (m : List (ℕ × ℕ)) (op : Op) (q : ℕ) → lookup nat_cmp (step m op) q ≡ left_by (effect op q) (lookup nat_cmp m q)
lookup-one m (Put key val) q =
    lookup-set nat_cmp_total nat_exact m key val q
    ∙ elim (is_eq (nat_cmp key q)) as (λ b. cond b (Some val) (lookup nat_cmp m q) ≡ left_by (cond b (Set val) Nothing) (lookup nat_cmp m q)) [ true ↦ refl | false ↦ refl ]
lookup-one m (Del key) q =
    lookup-step nat_cmp_total nat_exact m (del key) q
    ∙ elim (is_eq (nat_cmp key q)) as (λ b. cond b None (lookup nat_cmp m q) ≡ left_by (cond b Gone Nothing) (lookup nat_cmp m q)) [ true ↦ refl | false ↦ refl ]
lookup-one m (Add key val) q =
    let sum : ℕ = option_map_or (λ old. sat_sum old val) (lookup nat_cmp m key) val in
    lookup-set nat_cmp_total nat_exact m key sum q
    ∙ elim (is_eq (nat_cmp key q)) as (λ b. is_eq (nat_cmp key q) ≡ b → cond b (Some sum) (lookup nat_cmp m q) ≡ left_by (cond b (Added val) Nothing) (lookup nat_cmp m q)) [
      | true ↦ λ is. added_at_key (lookup nat_cmp m key) val ∙ ap (λ k. left_by (Added val) (lookup nat_cmp m k)) (nat_exact key q (equal_from_test (nat_cmp key q) is))
      | false ↦ λ _. refl
    ] refl
lookup-one m (Wipe lo hi) q =
    lookup-filter_keys nat_exact (λ k. nat_lt k lo || nat_lt hi k) m q
    ∙ elim (nat_lt q lo || nat_lt hi q) as (λ b. cond b (lookup nat_cmp m q) None ≡ left_by (cond b Nothing Gone) (lookup nat_cmp m q)) [ true ↦ refl | false ↦ refl ]

lookup_from : (ops : List Op) (m : List (ℕ × ℕ)) (q : ℕ) (before : Outcome) (value : Option ℕ) → lookup nat_cmp m q ≡ left_by before value → lookup nat_cmp (fold step m ops) q ≡ left_by (fold (λ first op. followed_by first (effect op q)) before ops) value
lookup_from [] m q before value h = h
lookup_from (op ∷ ops) m q before value h =
    lookup_from ops (step m op) q (followed_by before (effect op q)) value
    (lookup-one m op q ∙ ap (left_by (effect op q)) h ∙ sym (left_by-followed_by before (effect op q) value))

-- what is found at a key after operations is what their outcome there leaves of what was found before
pub lookup-run : (ops : List Op) (m : List (ℕ × ℕ)) (q : ℕ) → lookup nat_cmp (fold step m ops) q ≡ left_by (outcome_at ops q) (lookup nat_cmp m q)
lookup-run ops m q = lookup_from ops m q Nothing (lookup nat_cmp m q) refl

-- ---- operations as changes of keys

changes_from : (ops : List Op) (q : ℕ) (before : Outcome) → All IsSingle ops → fold (λ first e. followed_by first (cond (is_eq (nat_cmp e.0 q)) e.1 Nothing)) before (filter_map change_of ops) ≡ fold (λ first op. followed_by first (effect op q)) before ops
changes_from [] q before all = refl
changes_from (Put key val ∷ ops) q before all = changes_from ops q (followed_by before (effect (Put key val) q)) (All-tail IsSingle (Put key val) ops all)
changes_from (Del key ∷ ops) q before all = changes_from ops q (followed_by before (effect (Del key) q)) (All-tail IsSingle (Del key) ops all)
changes_from (Add key val ∷ ops) q before all = changes_from ops q (followed_by before (effect (Add key val) q)) (All-tail IsSingle (Add key val) ops all)
changes_from (Wipe lo hi ∷ ops) q before all = absurd (false≢true (sym (All-head IsSingle (Wipe lo hi) ops all)))

pub changes_at-ops : (ops : List Op) (q : ℕ) → All IsSingle ops → changes_at (filter_map change_of ops) q ≡ outcome_at ops q
changes_at-ops ops q all = changes_from ops q Nothing all

-- the changes are of the operations' keys
pub keys-ops : (ops : List Op) (q : ℕ) → list_any (changes_key q) (filter_map change_of ops) ≡ list_any (is_of q) ops
keys-ops [] q = refl
keys-ops (Put key val ∷ ops) q = ap (λ b. is_eq (nat_cmp key q) || b) (keys-ops ops q)
keys-ops (Del key ∷ ops) q = ap (λ b. is_eq (nat_cmp key q) || b) (keys-ops ops q)
keys-ops (Add key val ∷ ops) q = ap (λ b. is_eq (nat_cmp key q) || b) (keys-ops ops q)
keys-ops (Wipe lo hi ∷ ops) q = keys-ops ops q
