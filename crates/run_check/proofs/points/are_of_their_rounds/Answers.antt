use Rattle.std.proofs.Common.{◌≡◌, ◌≤◌, ℕ, false, true, length, filter, take, sym, ap, subst, arith, ◌∙◌}
use Rattle.std.specs.Prelude.{All, nat_lt, nat_le}
use Rattle.std.proofs.Math.Seq.{take-length}
use Rattle.std.proofs.lemmas.List.Elements.{All-more}
use Rattle.serve_text.specs.Records.{Answered}
use Rattle.run_check.proofs.points.are_of_their_rounds.Goals as goal

pub returns-then-not-is_of_its_round : goal.returns-then-not-is_of_its_round
returns-then-not-is_of_its_round g c =
    let P : Answered g.row.Q.Denot → Type 0 = λ a. (length (filter (λ p. nat_lt p.round a.asked.round) c.args.placed.now) ≤ a.number) × (a.number ≤ length (filter (λ p. nat_le p.round a.asked.round) c.args.placed.now)) in (
      λ wrong. absurd (let z : false ≡ true = wrong in cc),
      λ all. absurd (let z : false ≡ true = sym c.if-not-is_of_its_round.true ∙ c.is_of_its_round.ensures.1 (subst P (sym c.read-item.is) (all c.loop-read.read-index c.read-item.result (omega arith))) in cc),
    )

pub loop-read-preserved : goal.loop-read-preserved
loop-read-preserved g c =
    let P : Answered g.row.Q.Denot → Type 0 = λ a. (length (filter (λ p. nat_lt p.round a.asked.round) c.args.placed.now) ≤ a.number) × (a.number ≤ length (filter (λ p. nat_le p.round a.asked.round) c.args.placed.now)) in
    All-more P c.args.reads.now c.loop-read.read-index c.read-item.result (omega arith) c.loop-read.invariant (subst P c.read-item.is (c.is_of_its_round.ensures.0 c.if-not-is_of_its_round.false))

pub returns : goal.returns
returns g c =
    let P : Answered g.row.Q.Denot → Type 0 = λ a. (length (filter (λ p. nat_lt p.round a.asked.round) c.args.placed.now) ≤ a.number) × (a.number ≤ length (filter (λ p. nat_le p.round a.asked.round) c.args.placed.now)) in (
      λ right. subst (All P) (ap (λ (n : ℕ). take n c.args.reads.now) (let z : c.loop-read.read-index ≡ length c.args.reads.now = omega arith in z) ∙ take-length c.args.reads.now) c.loop-read.invariant,
      λ all. let z : true ≡ true = λ i. true in z,
    )
