-- A text has one verdict.
use Rattle.std.proofs.Common.{◌≡◌, ◌∙◌, ◌<◌, ℕ, List, [], ◌∷◌, inl, inr, map, refl, sym, ap, subst, arith}
use mathlib.Core.Logic.{dite}
use native.Mathlib.Decide.{dec_lt}
use Rattle.serve_text.specs.declared.record.Record.{Record}
use Rattle.serve_text.specs.Records.{Answered}
use Rattle.run_text.proofs.Ordering.{one_form}
use Rattle.run_check.specs.declared.verdict.Verdict.{Verdict}
use Rattle.run_check.specs.declared.verdict.Verdict.TheVariants.{Yes, No}
use Rattle.run_check.specs.Reading.{asked_in, numbers_in}
use Rattle.run_check.specs.Verdicts.{FailsAt, Holds, IsNamed, IsRun, IsVerdict, places_of}

-- reads with the same questions and numbers
same_answered : {Q : Type 0} (xs ys : List (Answered Q)) → asked_in xs ≡ asked_in ys → numbers_in xs ≡ numbers_in ys → xs ≡ ys
same_answered [] [] p q = refl
same_answered [] (b ∷ ys) p q = absurd (let z : [] ≡ b.asked ∷ asked_in ys = p in cc)
same_answered (a ∷ xs) [] p q = absurd (let z : a.asked ∷ asked_in xs ≡ [] = p in cc)
same_answered (a ∷ xs) (b ∷ ys) p q =
    let z : a.asked ∷ asked_in xs ≡ b.asked ∷ asked_in ys = p in
    let w : a.number ∷ numbers_in xs ≡ b.number ∷ numbers_in ys = q in
    let question : a.asked ≡ b.asked = cc in
    let questions : asked_in xs ≡ asked_in ys = cc in
    let number : a.number ≡ b.number = cc in
    let numbers : numbers_in xs ≡ numbers_in ys = cc in
    let rest = same_answered xs ys questions numbers in
    λ i. record { asked = question i; number = number i } ∷ rest i

module _ {S O Q : Type 0} (step : S → O → S) (answer : S → Q → List ℕ) (last : S → List ℕ) (base : S) (records : List (Record O Q)) (text : List ℕ) where
  -- a point of one naming of the text is that point of any other
  module _ (reads others : List (Answered Q)) (first second : List ℕ) (a : IsNamed records reads first text) (b : IsNamed records others second text) where
    holds_too : (point : ℕ) → Holds step answer last base records text reads first point → Holds step answer last base records text others second point
    holds_too point holds =
        let form = one_form (places_of records) (numbers_in reads) (numbers_in others) first second text a.form b.form in
        let same : reads ≡ others = same_answered reads others (a.asked ∙ sym b.asked) form.0 in
        subst (λ (l : List ℕ). Holds step answer last base records text others l point) form.1
        (subst (λ (l : List (Answered Q)). Holds step answer last base records text l first point) same holds)

  never_both : (point : ℕ) → IsRun step answer last base records text → ¬ (FailsAt step answer last base records text point)
  never_both point run fails = fails.fails (holds_too run.reads fails.reads run.order fails.order run.named fails.named point (run.all point))

  no_lesser : (m n : ℕ) → FailsAt step answer last base records text m → FailsAt step answer last base records text n → ¬ (m < n)
  no_lesser m n a b less = a.fails (holds_too b.reads a.reads b.order a.order b.named a.named m (b.lesser m less))

  one_point : (m n : ℕ) → FailsAt step answer last base records text m → FailsAt step answer last base records text n → m ≡ n
  one_point m n a b =
      dite (dec_lt m n) (λ less. absurd (no_lesser m n a b less)) (λ least. dite (dec_lt n m) (λ less. absurd (no_lesser n m b a less)) (λ most. omega (arith, least, most)))

  pub one_verdict : (v w : Verdict) → IsVerdict step answer last base records text v → IsVerdict step answer last base records text w → v ≡ w
  one_verdict Yes Yes a b = refl
  one_verdict Yes (No n) a b = absurd (elim b [ inl none ↦ none.1 a.reads a.order a.named | inr fails ↦ never_both n a fails ])
  one_verdict (No m) Yes a b = absurd (elim a [ inl none ↦ none.1 b.reads b.order b.named | inr fails ↦ never_both m b fails ])
  one_verdict (No m) (No n) a b =
      elim a [
        | inl none ↦ elim b [ inl other ↦ ap (λ (k : ℕ). No k) (none.0 ∙ sym other.0) | inr fails ↦ absurd (none.1 fails.reads fails.order fails.named) ]
        | inr fails ↦ elim b [ inl none ↦ absurd (none.1 fails.reads fails.order fails.named) | inr other ↦ ap (λ (k : ℕ). No k) (one_point m n fails other) ]
      ]
