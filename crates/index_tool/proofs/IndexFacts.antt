-- The terms that are read are lawful, and as many as the fields.
use Rattle.std.proofs.Common.{◌≡◌, ◌≤◌, ◌==◌, ℕ, suc, List, [], ◌∷◌, Result, Ok, Err, IfOk, inl, inr, nat_le, codes, drop, length, ap, refl, arith}
use Rattle.std.specs.List.{AllByRecursion}
use Rattle.std.proofs.lemmas.Bool.{cases_Bool, eqb-true, leb-true}
use Rattle.std.proofs.lemmas.List.{length-drop}
use Rattle.script.proofs.Chosen.{either_way}
use Rattle.script.proofs.RowFacts.{all_keep, made₁, made₂, ok_then, then_any}
use Rattle.script.specs.InOrder.{commands_from}
use Rattle.script.specs.Fields.{field, number_in}
use Rattle.index_tool.specs.IndexRecords.{HasTerms, index_command}
use Rattle.script.specs.Records.{Fields}
use Rattle.script.specs.Rows.{has_verb}
use Rattle.script.specs.Shapes.{number_text}
use Rattle.index_tool.specs.Terms as shape
use Rattle.inverted_index.specs.Terms.{is_term}
use Rattle.index_tool.specs.Terms.{IsTerm, term_in, term_of, terms_of}
use Rattle.script.specs.declared.fault.Code.{Code}
use Rattle.index_tool.specs.declared.commands.IndexCommand.{IndexCommand}

lawful_term : (bytes : List ℕ) → IfOk (term_of bytes) IsTerm
lawful_term bytes = elim (cases_Bool (is_term bytes)) [
  | inl is ↦ rw is is
  | inr other ↦ rw other tt
]

-- the terms of some fields
abbrev TermsOf : ℕ → List (List ℕ) → Type 0
TermsOf n terms = (length terms ≡ n) × AllByRecursion IsTerm terms

lawful_terms : (fields : Fields) → IfOk (terms_of fields) (TermsOf (length fields))
unfolding terms_of
lawful_terms [] = (refl, tt)
lawful_terms (f ∷ fs) =
    ok_then IsTerm (TermsOf (length (f ∷ fs))) (term_of f) _ (lawful_term f)
    (λ t is. ok_then (TermsOf (length fs)) (TermsOf (length (f ∷ fs))) (terms_of fs) _ (lawful_terms fs) (λ ts all. (ap suc all.0, (is, all.1))))

abbrev SomeTerms : List (List ℕ) → Type 0
SomeTerms terms = (1 ≤ length terms) × AllByRecursion IsTerm terms

-- of a record with a verb and more
weaker : (Q P : List (List ℕ) → Type 0) (read : Result (List (List ℕ)) Code) → IfOk read Q → ((ts : List (List ℕ)) → Q ts → P ts) → IfOk read P
weaker Q P (Ok ts) q h = h ts q
weaker Q P (Err e) q h = tt

some_terms : (r : Fields) → IfOk (shape.some_terms r) SomeTerms
some_terms r = elim (cases_Bool (nat_le 2 (length r))) [
  | inl some ↦ rw some (weaker (TermsOf (length (drop 1 r))) SomeTerms _ (lawful_terms (drop 1 r))
      (λ ts all. let more : 2 ≤ length r = leb-true 2 (length r) some in (rw (all.0, length-drop 1 r) (omega arith), all.1)))
  | inr none ↦ rw none tt
]

two_terms : (r : Fields) → IfOk (shape.two_terms r) (TermsOf 2)
two_terms r = elim (cases_Bool (length r == 3)) [
  | inl two ↦ rw two (weaker (TermsOf (length (drop 1 r))) (TermsOf 2) _ (lawful_terms (drop 1 r))
      (λ ts all. let three : length r ≡ 3 = eqb-true (length r) 3 two in (rw (all.0, length-drop 1 r, three) refl, all.1)))
  | inr other ↦ rw other tt
]

abbrev TermLast : ℕ × List ℕ → Type 0
TermLast f = IsTerm f.1

number_term : (r : Fields) → IfOk (shape.number_term r) TermLast
number_term r = either_way (λ read. IfOk read TermLast) (length r == 3) _ _ (
    then_any TermLast (number_in r 1) _ (λ n. ok_then IsTerm TermLast (term_in r 2) _ (lawful_term (field r 2)) (λ t is. is))) tt

abbrev Lawful : Result IndexCommand Code → Type 0
Lawful read = IfOk read HasTerms

lawful : (place : ℕ) (r : Fields) → Lawful (index_command place r)
unfolding index_command
lawful place r =
    either_way Lawful (has_verb r (codes "doc")) _ _ (then_any HasTerms (number_text r) _ (λ f. tt))
    (either_way Lawful (has_verb r (codes "and")) _ _ (made₁ HasTerms SomeTerms _ _ (some_terms r) (λ ts h. h))
    (either_way Lawful (has_verb r (codes "or")) _ _ (made₁ HasTerms SomeTerms _ _ (some_terms r) (λ ts h. h))
    (either_way Lawful (has_verb r (codes "without")) _ _ (made₁ HasTerms (TermsOf 2) _ _ (two_terms r) (λ ts h. h))
    (either_way Lawful (has_verb r (codes "top")) _ _ (made₂ HasTerms TermLast _ _ (number_term r) (λ f h. h))
    tt))))

pub all_terms : (place : ℕ) (rs : List Fields) → IfOk (commands_from index_command place rs) (AllByRecursion HasTerms)
all_terms = all_keep HasTerms index_command lawful
