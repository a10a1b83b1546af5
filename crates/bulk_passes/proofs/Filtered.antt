-- A filter of a map around an entry.
use Rattle.std.proofs.Common.{◌≡◌, Bool, true, false, cond, List, ◌∷◌, ◌++◌, Option, Some, None, refl, sym, ap, subst, ◌∙◌}
use Rattle.std.specs.Borrow.{Bor}
use Rattle.std.specs.List.{filter, cons_option}
use Rattle.std.specs.declared.cmp.Ordering.{Ordering}
use Rattle.std.proofs.lemmas.List.Elements.{filter-append}
use Rattle.map_model.specs.Contents.{Contents}
use Rattle.map_model.specs.Entries.{IsIncreasing}
use Rattle.map_model.proofs.Keys.{IsIncreasing-filter}
use Rattle.bulk_passes.specs.Answers.{IsPutTogether, filtered_entries}

chosen : {X : Type 0} (b : Bool) (x : X) (xs : List X) → cond b (x ∷ xs) xs ≡ cons_option (cond b (Some x) None) xs
chosen true x xs = refl
chosen false x xs = refl

module _ {K V : Type 0} (order : K → K → Ordering) (passes : K → V → Bool) where
  pub cut_filtered : (part front back : Bor (Contents K V)) (k : K) (v : V) (middle : Option (K × V)) → part.now.entries ≡ front.now.entries ++ (k, v) ∷ back.now.entries → IsIncreasing order (front.now.entries ++ (k, v) ∷ back.now.entries) → middle ≡ cond (passes k v) (Some (k, v)) None
      → IsPutTogether order (filtered_entries passes) part front middle back
  cut_filtered part front back k v middle is s m =
      let p : K × V → Bool = λ e. passes e.0 e.1 in
      let split : filter p (front.now.entries ++ (k, v) ∷ back.now.entries) ≡ filter p front.now.entries ++ cons_option middle (filter p back.now.entries) = filter-append p front.now.entries ((k, v) ∷ back.now.entries) ∙ ap (λ x. filter p front.now.entries ++ x) (chosen (passes k v) (k, v) (filter p back.now.entries) ∙ ap (λ o. cons_option o (filter p back.now.entries)) (sym m)) in
      record {
        whole = ap (filter p) is ∙ split;
        increasing = subst (IsIncreasing order) split (IsIncreasing-filter order p (front.now.entries ++ (k, v) ∷ back.now.entries) s);
      }
