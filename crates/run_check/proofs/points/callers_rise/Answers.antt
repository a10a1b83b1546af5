use Rattle.std.proofs.Common.{◌≡◌, ◌<◌, ℕ, List, length, map, take, sym, ap, subst, arith, ◌∙◌}
use Rattle.std.specs.Prelude.{All}
use Rattle.std.specs.List.Sorted.{IsNonDecreasingBy}
use Rattle.std.proofs.Math.Seq.{take-length}
use Rattle.std.proofs.lemmas.List.Elements.{All-map}
use Rattle.run_check.specs.declared.placed.Placed.{Placed}
use Rattle.run_check.specs.declared.rising.Step.{Step}
use Rattle.run_check.proofs.NeverFalling.{steps_of, made_steps, steps_made}
use Rattle.run_check.proofs.points.callers_rise.Goals as goal

pub rise_for_callers-requires : goal.rise_for_callers-requires
rise_for_callers-requires g c =
    let f : Placed g.row.O.Denot → Step = λ p. record { caller = p.entry.caller; number = p.entry.tag } in
    let xs = c.args.ordered.now in
    let i = c.loop-p.p-index in
    let all : take i xs ≡ xs = ap (λ (n : ℕ). take n xs) (let z : i ≡ length xs = omega arith in z) ∙ take-length xs in
    let whole : c.as_slice.result.now ≡ map f xs = c.as_slice.ensures.value ∙ c.loop-p.invariant ∙ ap (map f) all in
    subst (All (λ (s : Step). s.caller < c.args.callers)) (sym whole) (All-map (λ (s : Step). s.caller < c.args.callers) f xs c.requires)

pub returns : goal.returns
returns g c =
    let f : Placed g.row.O.Denot → Step = λ p. record { caller = p.entry.caller; number = p.entry.tag } in
    let xs = c.args.ordered.now in
    let i = c.loop-p.p-index in
    let all : take i xs ≡ xs = ap (λ (n : ℕ). take n xs) (let z : i ≡ length xs = omega arith in z) ∙ take-length xs in
    let whole : c.as_slice.result.now ≡ map f xs = c.as_slice.ensures.value ∙ c.loop-p.invariant ∙ ap (map f) all in
    let R : List Step → Type 0 = λ l. (k : ℕ) → IsNonDecreasingBy (λ (s : Step). s.number) (steps_of k l) in
    (λ right. made_steps f xs (subst R whole (c.in_ok-rise.ensures.0 right)), λ up. c.in_ok-rise.ensures.1 (subst R (sym whole) (steps_made f xs up)))
