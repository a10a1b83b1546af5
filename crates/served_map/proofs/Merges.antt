-- Entries and outcomes merged.
use Rattle.std.proofs.Common.{◌≡◌, ℕ, ◌+◌, ◌<◌, List, [], ◌∷◌, ◌++◌, Option, Some, None, length, take, get_or, append_assoc, append-nil, sym, ap, subst, ◌∙◌}
use Rattle.std.proofs.lemmas.List.{take_more}
use Rattle.std.proofs.lemmas.List.Elements.{filter_map-append}
use Rattle.std.specs.Cmp.{nat_cmp_total}
use Rattle.std.specs.List.{cons_option}
use Rattle.std.specs.Option.{option_map}
use Rattle.std.specs.Ordering.{nat_cmp}
use Rattle.std.specs.declared.cmp.Ordering.TheVariants.{Less, Equal, Greater}
use Rattle.map_model.specs.Entries.{AllAbove, IsIncreasing}
use Rattle.map_model.specs.Operations.{build}
use Rattle.map_model.proofs.Keys.{below_all, lesser}
use Rattle.map_model.proofs.NatKeys.{nat_exact}
use Rattle.map_model.proofs.Operations.{build-increasing}
use Rattle.op_runs.specs.declared.outcome.Outcome.{Outcome}
use Rattle.op_runs.specs.Outcomes.{left_by}
use Rattle.op_runs.specs.Runs.{IsChangedBy}
use Rattle.served_map.specs.Halves.{new_entries}
use Rattle.served_map.proofs.Changed.{Continues, changed_by_none, halves_at, one_merged}
use Rattle.served_map.proofs.Parted.{IsParted, parted_before, parted_first}

abbrev Outcomes : Type 0
Outcomes = List (ℕ × Outcome)

abbrev Entries : Type 0
Entries = List (ℕ × ℕ)

-- where the first key is greater, all are
first_above : {V : Type 0} (key : ℕ) (e : ℕ × V) (m : List (ℕ × V)) → IsIncreasing nat_cmp (e ∷ m) → nat_cmp key e.0 ≡ Less → AllAbove nat_cmp (e ∷ m) key
first_above key e m s is = (is, below_all nat_cmp_total key e.0 m is s.0)

-- ---- keys without entries

pub new_done : (outcomes : Outcomes) → IsIncreasing nat_cmp outcomes → IsChangedBy outcomes [] (new_entries outcomes)
new_done [] s = changed_by_none [] tt
new_done (o ∷ outcomes) s =
    (halves_at (o ∷ outcomes) [] o.0 [] (Some o.1) outcomes [] None [] (parted_first o outcomes s) (parted_before [] o.0 tt)).joined [] (new_entries outcomes) (changed_by_none [] tt) (new_done outcomes s.1)

-- one more of a list
pub one_more_new : (start now more : Entries) (outcomes : Outcomes) (i : ℕ) (d : ℕ × Outcome) (value : Option ℕ) → i < length outcomes → now ≡ start ++ new_entries (take i outcomes) → value ≡ left_by (get_or outcomes i d).1 None → more ≡ now ++ cons_option (option_map (λ val. ((get_or outcomes i d).0, val)) value) [] → more ≡ start ++ new_entries (take (i + 1) outcomes)
one_more_new start now more outcomes i d value lt now_is value_is more_is =
    let last : ℕ × Outcome = get_or outcomes i d in
    let one : Option ℕ → Entries = λ v. cons_option (option_map (λ val. (last.0, val)) v) [] in
    more_is
    ∙ ap (λ v. now ++ one v) value_is
    ∙ ap (λ l. l ++ one (left_by last.1 None)) now_is
    ∙ append_assoc start (new_entries (take i outcomes)) (one (left_by last.1 None))
    ∙ ap (λ l. start ++ l) (sym (ap new_entries (take_more outcomes i d lt) ∙ filter_map-append (λ (o : ℕ × Outcome). option_map (λ (val : ℕ). (o.0, val)) (left_by o.1 None)) (take i outcomes) (last ∷ [])))

-- ---- the steps of a merge

abbrev pub Merging : Outcomes → Entries → Entries → Outcomes → Entries → Type 0
Merging outcomes m there right left = Continues outcomes m there right left × IsIncreasing nat_cmp left × IsIncreasing nat_cmp right

module _ (outcomes : Outcomes) (m there : Entries) (right : Outcomes) (left : Entries) (merging : Merging outcomes m there right left) where
  -- an entry of a lesser key stays
  pub entry_first : (o : ℕ × Outcome) (later : Outcomes) (e : ℕ × ℕ) (others now : Entries) → right ≡ o ∷ later → left ≡ e ∷ others → nat_cmp e.0 o.0 ≡ Less → now ≡ there ++ e ∷ [] → Merging outcomes m now right others
  entry_first o later e others now right_is left_is less now_is =
      let rises : IsIncreasing nat_cmp (e ∷ others) = subst (IsIncreasing nat_cmp) left_is merging.1 in
      let above : AllAbove nat_cmp right e.0 = subst (λ r. AllAbove nat_cmp r e.0) (sym right_is) (first_above e.0 o later (subst (IsIncreasing nat_cmp) right_is merging.2) less) in
      let on : Continues outcomes m there right (e ∷ others) = subst (λ l. Continues outcomes m there right l) left_is merging.0 in
      (subst (λ l. Continues outcomes m l right others) (sym now_is) (one_merged outcomes m there right (e ∷ others) e.0 None right (Some e.1) others on (parted_before right e.0 above) (parted_first e others rises)), rises.1, merging.2)

  -- an entry with an outcome
  pub both_first : (o : ℕ × Outcome) (later : Outcomes) (e : ℕ × ℕ) (others now : Entries) → right ≡ o ∷ later → left ≡ e ∷ others → nat_cmp e.0 o.0 ≡ Equal → now ≡ there ++ cons_option (option_map (λ val. (o.0, val)) (left_by o.1 (Some e.1))) [] → Merging outcomes m now later others
  both_first o later e others now right_is left_is equal now_is =
      let entries_rise : IsIncreasing nat_cmp (e ∷ others) = subst (IsIncreasing nat_cmp) left_is merging.1 in
      let outcomes_rise : IsIncreasing nat_cmp (o ∷ later) = subst (IsIncreasing nat_cmp) right_is merging.2 in
      let on : Continues outcomes m there (o ∷ later) (e ∷ others) = subst (λ r. Continues outcomes m there r (e ∷ others)) right_is (subst (λ l. Continues outcomes m there right l) left_is merging.0) in
      let cut : IsParted (e ∷ others) o.0 [] (Some e.1) others = subst (λ k. IsParted (e ∷ others) k [] (Some e.1) others) (nat_exact e.0 o.0 equal) (parted_first e others entries_rise) in
      (subst (λ l. Continues outcomes m l later others) (sym now_is) (one_merged outcomes m there (o ∷ later) (e ∷ others) o.0 (Some o.1) later (Some e.1) others on (parted_first o later outcomes_rise) cut), entries_rise.1, outcomes_rise.1)

  -- an outcome of a key that has no entry
  pub outcome_first : (o : ℕ × Outcome) (later : Outcomes) (e : ℕ × ℕ) (others now : Entries) → right ≡ o ∷ later → left ≡ e ∷ others → nat_cmp e.0 o.0 ≡ Greater → now ≡ there ++ cons_option (option_map (λ val. (o.0, val)) (left_by o.1 None)) [] → Merging outcomes m now later left
  outcome_first o later e others now right_is left_is greater now_is =
      let outcomes_rise : IsIncreasing nat_cmp (o ∷ later) = subst (IsIncreasing nat_cmp) right_is merging.2 in
      let above : AllAbove nat_cmp left o.0 = subst (λ l. AllAbove nat_cmp l o.0) (sym left_is) (first_above o.0 e others (subst (IsIncreasing nat_cmp) left_is merging.1) (lesser nat_cmp_total e.0 o.0 greater)) in
      let on : Continues outcomes m there (o ∷ later) left = subst (λ r. Continues outcomes m there r left) right_is merging.0 in
      (subst (λ l. Continues outcomes m l later left) (sym now_is) (one_merged outcomes m there (o ∷ later) left o.0 (Some o.1) later None left on (parted_first o later outcomes_rise) (parted_before left o.0 above)), merging.1, outcomes_rise.1)

  -- no outcomes are left
  pub entries_end : right ≡ [] → (out : Entries) → out ≡ (there ++ left) ++ new_entries right → IsChangedBy outcomes m out
  entries_end right_is out out_is =
      let all : IsChangedBy outcomes m (there ++ left) = merging.0 left (subst (λ r. IsChangedBy r left left) (sym right_is) (changed_by_none left merging.1)) in
      subst (IsChangedBy outcomes m) (sym (out_is ∙ ap (λ r. (there ++ left) ++ new_entries r) right_is ∙ append-nil (there ++ left))) all

  -- no entries are left
  pub outcomes_end : left ≡ [] → (out : Entries) → out ≡ (there ++ left) ++ new_entries right → IsChangedBy outcomes m out
  outcomes_end left_is out out_is =
      let all : IsChangedBy outcomes m (there ++ new_entries right) = merging.0 (new_entries right) (subst (λ l. IsChangedBy right l (new_entries right)) (sym left_is) (new_done right merging.2)) in
      subst (IsChangedBy outcomes m) (sym (out_is ∙ ap (λ l. (there ++ l) ++ new_entries right) left_is ∙ ap (λ l. l ++ new_entries right) (append-nil there))) all

-- a map made of what is merged
pub made_done : (outcomes : Outcomes) (m entries changed lent made : Entries) → entries ≡ m → IsChangedBy outcomes entries changed → lent ≡ changed → made ≡ build nat_cmp lent → IsChangedBy outcomes m made
made_done outcomes m entries changed lent made entries_is by lent_is made_is =
    subst (IsChangedBy outcomes m) (sym (made_is ∙ ap (build nat_cmp) lent_is ∙ build-increasing nat_cmp_total nat_exact changed by.rises)) (subst (λ e. IsChangedBy outcomes e changed) entries_is by)
