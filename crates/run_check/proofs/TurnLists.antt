-- Reads in the order of their numbers, and answers in record order.
use Rattle.std.proofs.Common.{◌≡◌, ◌≢◌, ◌∙◌, ℕ, suc, ◌<◌, ◌+◌, List, [], ◌∷◌, ◌++◌, length, get_or, map, take, refl, sym, ap, subst, inl, inr, arith}
use Rattle.std.specs.Prelude.{All}
use Rattle.std.specs.List.{Contains}
use Rattle.std.specs.List.Sorted.{IsPermutation, IsNonDecreasingBy}
use Rattle.std.proofs.Math.Seq.{take-length}
use Rattle.std.proofs.lemmas.Grind.{take_at_read}
use Rattle.std.proofs.lemmas.List.{length-map, get_or-map, get_or_default}
use Rattle.std.proofs.lemmas.List.Elements.{All-push, All-nil, All-contains, Contains-append_left, Contains-push}
use Rattle.std.proofs.lemmas.List.Sorted.{All-permutation, Contains-permutation}
use Rattle.serve_text.specs.Records.{Answered}
use Rattle.serve_text.proofs.Orders.{side}
use Rattle.run_check.specs.declared.turns.Turn.{Turn}
use Rattle.run_check.specs.Turns.{IsTurn, AreTurns, HaveAnswers}

module _ {Q : Type 0} (reads : List (Answered Q)) where
  -- the turns of the first reads
  pub record HaveSomeTurns (count : ℕ) (turns : List Turn) : Type 0 where
    pub each : All (IsTurn reads) turns
    pub all : (i : ℕ) (d : Answered Q) → i < count → Contains turns (record { number = (get_or reads i d).number; at = i })

  pub no_turns : HaveSomeTurns 0 []
  no_turns = record { each = All-nil (IsTurn reads); all = λ i d h. absurd (omega (arith, h)) }

  pub one_more_turn : (at number : ℕ) (turns next : List Turn) (a : Answered Q) → at < length reads → a ≡ get_or reads at a → number ≡ a.number → next ≡ turns ++ (record { number = number; at = at }) ∷ []
      → HaveSomeTurns at turns → HaveSomeTurns (at + 1) next
  one_more_turn at number turns next a inside here is longer so_far =
      let t : Turn = record { number = number; at = at } in
      let tells : (d : Answered Q) → (get_or reads at d).number ≡ number = λ d. ap (λ (b : Answered Q). b.number) (get_or_default reads at d a inside ∙ sym here) ∙ sym is in
      let turn : IsTurn reads t = record { within = inside; number_is = tells } in
      subst (HaveSomeTurns (at + 1)) (sym longer) (record {
        each = All-push (IsTurn reads) turns t so_far.each turn;
        all = λ i d h. elim (side i at) [
          | inl p ↦ Contains-append_left turns (t ∷ []) (record { number = (get_or reads i d).number; at = i }) (so_far.all i d p)
          | inr p ↦
              let same : at ≡ i = omega (arith, h, p) in
              subst (λ (k : ℕ). Contains (turns ++ t ∷ []) (record { number = (get_or reads k d).number; at = k })) same
              (subst (λ (n : ℕ). Contains (turns ++ t ∷ []) (record { number = n; at = at })) (sym (tells d)) (Contains-push turns t))
        ];
      })

  pub turns_sorted : (turns sorted : List Turn) (count : ℕ) → count ≡ length reads → HaveSomeTurns count turns → IsPermutation turns sorted → IsNonDecreasingBy (λ (t : Turn). t.number) sorted → AreTurns reads sorted
  turns_sorted turns sorted count whole have same rise = record {
    each = All-permutation (IsTurn reads) turns sorted same have.each;
    all = λ i d h. Contains-permutation turns sorted (record { number = (get_or reads i d).number; at = i }) same (have.all i d (omega (arith, h, whole)));
    rise = rise;
  }

same_lists : {X : Type 0} (xs ys : List X) → length xs ≡ length ys → ((i : ℕ) (d : X) → i < length xs → get_or xs i d ≡ get_or ys i d) → xs ≡ ys
same_lists [] [] count each = refl
same_lists [] (y ∷ ys) count each = absurd (omega (arith, count))
same_lists (x ∷ xs) [] count each = absurd (omega (arith, count))
same_lists (x ∷ xs) (y ∷ ys) count each =
    let first : x ≡ y = each 0 x (omega arith) in
    let rest = same_lists xs ys (omega (arith, count)) (λ i d h. each (suc i) d (omega (arith, h))) in
    λ i. first i ∷ rest i

some_of : {X : Type 0} (xs : List X) (k : ℕ) → k < length xs → X
some_of [] k h = absurd (omega (arith, h))
some_of (x ∷ xs) k h = x

module _ {Q : Type 0} (answer : Answered Q → List ℕ) (reads : List (Answered Q)) where
  abbrev IsRightAt : List (List ℕ) → Turn → Type 0
  IsRightAt answers t = (d : List ℕ) (a : Answered Q) → get_or answers t.at d ≡ answer (get_or reads t.at a)

  pub no_answers : (answers : List (List ℕ)) → length answers ≡ length reads → HaveAnswers answer reads [] answers
  no_answers answers count = record { count = count; right = All-nil (IsRightAt answers) }

  pub one_more_answer : (turns : List Turn) (i : ℕ) (t : Turn) (answers : List (List ℕ)) (b : Answered Q) (own : List ℕ) → i < length turns → t ≡ get_or turns i t → t.at < length reads → b ≡ get_or reads t.at b
      → get_or answers t.at own ≡ answer b → HaveAnswers answer reads (take i turns) answers → HaveAnswers answer reads (take (i + 1) turns) answers
  one_more_answer turns i t answers b own inside turn within here is so_far =
      let longer : take (i + 1) turns ≡ take i turns ++ t ∷ [] = (take_at_read turns i t inside).1 ∙ ap (λ (u : Turn). take i turns ++ u ∷ []) (sym turn) in
      let placed : t.at < length answers = omega (arith, within, so_far.count) in
      let now : IsRightAt answers t = λ d a. get_or_default answers t.at d own placed ∙ is ∙ ap answer (here ∙ get_or_default reads t.at b a within) in
      record { count = so_far.count; right = subst (All (IsRightAt answers)) (sym longer) (All-push (IsRightAt answers) (take i turns) t so_far.right now) }

  pub all_answers : (turns : List Turn) (i : ℕ) (answers : List (List ℕ)) → AreTurns reads turns → i ≡ length turns → HaveAnswers answer reads (take i turns) answers → answers ≡ map answer reads
  all_answers turns i answers are whole have =
      let all : take i turns ≡ turns = ap (λ (n : ℕ). take n turns) whole ∙ take-length turns in
      let right = subst (All (IsRightAt answers)) all have.right in
      same_lists answers (map answer reads) (have.count ∙ sym (length-map reads answer)) (λ k d h.
      let inside : k < length reads = omega (arith, h, have.count) in
      let a = some_of reads k inside in
      let turn : Turn = record { number = (get_or reads k a).number; at = k } in
      All-contains (IsRightAt answers) turns turn right (are.all k a inside) d a
      ∙ sym (get_or-map answer reads k a d inside))

  pub wrong_answer : (answers : List (List ℕ)) (at : ℕ) (b : Answered Q) (own : List ℕ) → at < length reads → b ≡ get_or reads at b → get_or answers at own ≢ answer b → answers ≢ map answer reads
  wrong_answer answers at b own within here other is =
      other (ap (λ (l : List (List ℕ)). get_or l at own) is ∙ get_or-map answer reads at b own within ∙ ap answer (sym here))
