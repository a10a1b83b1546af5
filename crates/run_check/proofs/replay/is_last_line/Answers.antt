use Rattle.std.proofs.Common.{◌≡◌, ◌++◌, ℕ, List, ap, ◌∙◌}
use Rattle.std.proofs.Math.Dec.{eqb}
use Rattle.std.specs.Cmp.Lexicographic.{pointwise}
use Rattle.std.proofs.lemmas.Bool.Decides.{Decides-eqb}
use Rattle.std.proofs.lemmas.Slice.Eq.{slice_eq-Decides}
use Rattle.run_check.proofs.replay.is_last_line.Goals as goal

pub returns : goal.returns
returns g c =
    let expected = g.A.Answers.last_of c.args.state.now in
    let mine : c.as_slice.result.now ≡ expected = c.as_slice.ensures.value ∙ c.in_ok-write_last.ensures ∙ ap (λ (l : List ℕ). l ++ expected) c.new-made.ensures.items in
    let same : c.eq.result ≡ pointwise eqb c.args.last.now expected = c.eq.ensures ∙ (λ i. pointwise eqb c.args.last.now (mine i)) in
    slice_eq-Decides Decides-eqb c.args.last.now expected c.eq.result same
