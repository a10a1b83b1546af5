use Rattle.std.proofs.Common.{◌≡◌, false, true, refl, sym, arith, ◌∙◌}
use Rattle.run_check.proofs.checking.broken_point.Goals as goal

pub returns-then-not-branch : goal.returns-then-not-branch
returns-then-not-branch g c = record {
  low = omega arith;
  high = omega arith;
  lesser = λ k h. record {
    callers = λ e. absurd (omega (arith, h, e));
    rounds = λ e. absurd (omega (arith, h, e));
    bounds = λ e. absurd (omega (arith, h, e));
    never_falls = λ e. absurd (omega (arith, h, e));
  };
  fails = λ p. let z : false ≡ true = sym c.if-not-branch.true ∙ c.in_ok-callers_rise.ensures.1 (p.callers refl) in cc;
}

pub returns-then-not-rounds_rise : goal.returns-then-not-rounds_rise
returns-then-not-rounds_rise g c = record {
  low = omega arith;
  high = omega arith;
  lesser = λ k h. record {
    callers = λ e. c.in_ok-callers_rise.ensures.0 c.if-not-branch.false;
    rounds = λ e. absurd (omega (arith, h, e));
    bounds = λ e. absurd (omega (arith, h, e));
    never_falls = λ e. absurd (omega (arith, h, e));
  };
  fails = λ p. let z : false ≡ true = sym c.if-not-rounds_rise.true ∙ c.rounds_rise.ensures.1 (p.rounds refl) in cc;
}

pub returns-then-not-are_of_their_rounds : goal.returns-then-not-are_of_their_rounds
returns-then-not-are_of_their_rounds g c = record {
  low = omega arith;
  high = omega arith;
  lesser = λ k h. record {
    callers = λ e. c.in_ok-callers_rise.ensures.0 c.if-not-branch.false;
    rounds = λ e. c.rounds_rise.ensures.0 c.if-not-rounds_rise.false;
    bounds = λ e. absurd (omega (arith, h, e));
    never_falls = λ e. absurd (omega (arith, h, e));
  };
  fails = λ p. let z : false ≡ true = sym c.if-not-are_of_their_rounds.true ∙ c.are_of_their_rounds.ensures.1 (p.bounds refl) in cc;
}

pub returns-then-not-branch-2 : goal.returns-then-not-branch-2
returns-then-not-branch-2 g c = record {
  low = omega arith;
  high = omega arith;
  lesser = λ k h. record {
    callers = λ e. c.in_ok-callers_rise.ensures.0 c.if-not-branch.false;
    rounds = λ e. c.rounds_rise.ensures.0 c.if-not-rounds_rise.false;
    bounds = λ e. c.are_of_their_rounds.ensures.0 c.if-not-are_of_their_rounds.false;
    never_falls = λ e. absurd (omega (arith, h, e));
  };
  fails = λ p. let z : false ≡ true = sym c.if-not-branch-2.true ∙ c.in_ok-numbers_rise.ensures.1 (p.never_falls refl) in cc;
}

pub returns : goal.returns
returns g c = λ k. record {
  callers = λ e. c.in_ok-callers_rise.ensures.0 c.if-not-branch.false;
  rounds = λ e. c.rounds_rise.ensures.0 c.if-not-rounds_rise.false;
  bounds = λ e. c.are_of_their_rounds.ensures.0 c.if-not-are_of_their_rounds.false;
  never_falls = λ e. c.in_ok-numbers_rise.ensures.0 c.if-not-branch-2.false;
}
