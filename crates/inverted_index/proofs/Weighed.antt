-- Terms of a text that a rule weighs.
use Rattle.std.proofs.Common.{◌≡◌, ℕ, ◌+◌, ◌-◌, ◌^◌, ◌<◌, ◌≤◌, Bool, true, false, cond, List, [], ◌∷◌, ◌++◌, Option, Some, None, length, map, take, get_or, refl, sym, ap, ap₂, ◌∙◌, subst}
use Rattle.std.specs.Option.{option_or}
use Rattle.std.specs.Ordering.{is_eq}
use Rattle.std.proofs.lemmas.List.{get_or-map, map-id, take_more}
use Rattle.std.proofs.lemmas.Option.{none-some, same_Some}
use Rattle.map_model.specs.Entries.{IsIncreasing, lookup}
use Rattle.map_model.proofs.Lookups.{lookup-append}
use Rattle.inverted_index.specs.Added.{Weighing, outcome_by, outcomes_by, with_doc_by, with_docs_by}
use Rattle.inverted_index.specs.Documents.{AreFit}
use Rattle.inverted_index.specs.Queries.{Document}
use Rattle.inverted_index.specs.Terms.{bytes_cmp, reweighed, terms_of, weighed_by, weights_of}
use Rattle.inverted_index.specs.declared.doc.Doc.{Doc}
use Rattle.inverted_index.proofs.Kept.{IsIncreasing-revalued}
use Rattle.inverted_index.proofs.Tallies.{tally_rises}

-- terms still rise
pub rising_by : (weight : ℕ → ℕ → ℕ) (text : List ℕ) → IsIncreasing bytes_cmp (weighed_by weight text)
rising_by weight text = IsIncreasing-revalued (λ times. weight times (length (terms_of text))) bytes_cmp (weights_of text) (tally_rises (terms_of text))

pub reweighed_at : (weight : ℕ → ℕ) (counts : List (List ℕ × ℕ)) (i : ℕ) (e : List ℕ × ℕ) → i < length counts → e ≡ get_or counts i e → (e.0, weight e.1) ≡ get_or (reweighed weight counts) i (e.0, weight e.1)
reweighed_at weight counts i e low is = ap (λ (x : List ℕ × ℕ). (x.0, weight x.1)) is ∙ sym (get_or-map (λ (x : List ℕ × ℕ). (x.0, weight x.1)) counts i e (e.0, weight e.1) low)

-- the terms of a text, counted and then weighed
pub told_by : (weight : ℕ → ℕ → ℕ) (text : List ℕ) (counts : List (List ℕ × ℕ)) (number : ℕ) → counts ≡ weights_of text → number ≡ length (terms_of text) → reweighed (λ times. weight times number) counts ≡ weighed_by weight text
told_by weight text counts number is n = rw (is, n) refl

-- weights that fit, and one more
pub one_fits : (W : List (List ℕ × ℕ)) (i : ℕ) (e : List ℕ × ℕ) → i < length W → e ≡ get_or W i e → AreFit (take i W) → e.1 ≤ 2 ^ 64 - 1 → AreFit (take (i + 1) W)
one_fits W i e low is fits high t w found = at (lookup bytes_cmp (take i W) t) refl (sym whole ∙ found)
  where
    whole : lookup bytes_cmp (take (i + 1) W) t ≡ option_or (lookup bytes_cmp (take i W) t) (cond (is_eq (bytes_cmp e.0 t)) (Some e.1) None)
    whole = ap (λ l. lookup bytes_cmp l t) (take_more W i e low ∙ ap (λ x. take i W ++ x ∷ []) (sym is)) ∙ lookup-append bytes_cmp (take i W) (e ∷ []) t

    here : (b : Bool) → cond b (Some e.1) None ≡ Some w → w ≤ 2 ^ 64 - 1
    here true same = let P : ℕ → Type 0 = λ x. x ≤ 2 ^ 64 - 1 in subst P (same_Some e.1 w same) high
    here false bad = absurd (none-some w bad)

    at : (o : Option ℕ) → lookup bytes_cmp (take i W) t ≡ o → option_or o (cond (is_eq (bytes_cmp e.0 t)) (Some e.1) None) ≡ Some w → w ≤ 2 ^ 64 - 1
    at None has same = here (is_eq (bytes_cmp e.0 t)) same
    at (Some v) has same = fits t w (has ∙ same)

-- ---- a rule by which terms weigh how often they are there

pub times_weighed : (text : List ℕ) → weighed_by (λ times terms. times) text ≡ weights_of text
times_weighed text = map-id (weights_of text)

module _ (f g : Weighing) (same : (text : List ℕ) → f text ≡ g text) where
  doc_same : (ds : List Document) (doc : ℕ) (text : List ℕ) → with_doc_by f ds doc text ≡ with_doc_by g ds doc text
  doc_same ds doc text = rw (same text) refl

  outcome_same : (ds : List Document) (doc : ℕ) (text : List ℕ) → outcome_by f ds doc text ≡ outcome_by g ds doc text
  outcome_same ds doc text = rw (same text) refl

  pub docs_same : (ds : List Document) (docs : List Doc) → with_docs_by f ds docs ≡ with_docs_by g ds docs
  docs_same ds [] = refl
  docs_same ds (d ∷ docs) = ap (λ x. with_docs_by f x docs) (doc_same ds d.doc d.text.now) ∙ docs_same (with_doc_by g ds d.doc d.text.now) docs

  pub outcomes_same : (ds : List Document) (docs : List Doc) → outcomes_by f ds docs ≡ outcomes_by g ds docs
  outcomes_same ds [] = refl
  outcomes_same ds (d ∷ docs) = ap₂ (λ x xs. x ∷ xs) (outcome_same ds d.doc d.text.now) (ap (λ x. outcomes_by f x docs) (doc_same ds d.doc d.text.now) ∙ outcomes_same (with_doc_by g ds d.doc d.text.now) docs)
