use Rattle.std.proofs.Common.{◌≡◌, ◌==◌, ℕ, List, false, true, sym, ap, ◌∙◌, length, codes}
use Rattle.std.proofs.lemmas.List.{nil_from_length}
use Rattle.std.proofs.lemmas.Bool.Decides.{Decides-eqb}
use Rattle.std.proofs.lemmas.Slice.Eq.{strip_prefix_is}
use Rattle.run_text.proofs.Ordering.{last_answer, not_last, no_last}
use Rattle.run_text.proofs.batches.is_last.Goals as goal

pub returns-then-is_empty : goal.returns-then-is_empty
returns-then-is_empty c =
    last_answer c.args.text.now c.in-Some.line.now c.in-Some.rest.now c.strip_prefix.result c.is_some.result c.in-Some.ensures.1 c.in-Some.ensures.0
    (nil_from_length c.in-Some.rest.now ((Decides-eqb (length c.in-Some.rest.now) 0).0 (sym c.is_empty.ensures ∙ c.if-is_empty.true)))
    (strip_prefix_is Decides-eqb c.in-Some.line.now (codes "final,") c.strip_prefix.result c.strip_prefix.ensures.cases) c.is_some.ensures

pub returns-else-is_empty : goal.returns-else-is_empty
returns-else-is_empty c = (
  λ yes. absurd (let z : false ≡ true = sym c.if-is_empty.false ∙ yes in cc),
  λ last. absurd (not_last c.args.text.now c.in-Some.line.now c.in-Some.rest.now c.in-Some.ensures.1 c.in-Some.ensures.0
      (λ none. let z : false ≡ true = sym c.if-is_empty.false ∙ c.is_empty.ensures ∙ ap (λ (l : List ℕ). length l == 0) none in cc) last),
)

pub returns-in-None : goal.returns-in-None
returns-in-None c = (λ yes. absurd (let z : false ≡ true = yes in cc), λ last. absurd (no_last c.args.text.now last.0 c.in-None.ensures last.2))
