use Rattle.std.proofs.Common.{◌≡◌, ◌<◌, false, true, subst, arith}
use Rattle.run_check.proofs.NeverFalling.{fall_on, fall_not, fall_all, last_now}
use Rattle.run_check.proofs.points.rounds_rise.Goals as goal

pub returns-then-p-last : goal.returns-then-p-last
returns-then-p-last g c = (
  λ wrong. absurd (let z : false ≡ true = wrong in cc),
  λ all. absurd (fall_not (λ p. p.round) c.args.ordered.now c.loop-p.p-index c.p-item.result (omega arith) c.p-item.is (subst (λ m. c.p-item.result.round < m) c.loop-p.invariant.last_is c.if-p-last.true) all),
)

pub loop-p-preserved : goal.loop-p-preserved
loop-p-preserved g c = record {
  rise = fall_on (λ p. p.round) c.args.ordered.now c.loop-p.p-index c.p-item.result (omega arith) c.p-item.is c.loop-p.invariant.rise (let h = c.if-p-last.false in let e = c.loop-p.invariant.last_is in omega (arith, h, e));
  last_is = last_now (λ p. p.round) c.args.ordered.now c.loop-p.p-index c.p-item.result (omega arith) c.p-item.is;
}

pub returns : goal.returns
returns g c = (
  λ right. fall_all (λ p. p.round) c.args.ordered.now c.loop-p.p-index (omega arith) c.loop-p.invariant.rise,
  λ all. let z : true ≡ true = λ i. true in z,
)
