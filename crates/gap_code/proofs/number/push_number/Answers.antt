use Rattle.std.proofs.Common.{List, ℕ, ◌++◌, sym, ap, ◌∙◌, arith, append_assoc}
use Rattle.std.proofs.lemmas.Result.{IfOk-equal}
use Rattle.map_model.proofs.Prefixes.{front_then}
use Rattle.gap_code.specs.LebLaws.{leb_small, leb_large}
use Rattle.gap_code.proofs.number.push_number.Goals as goal

pub loop-rest-preserved : goal.loop-rest-preserved
loop-rest-preserved c = (
  rw (c.in_ok-push_byte.ensures.appended, append_assoc) (ap (λ (t : List ℕ). c.loop-rest.out.items ++ t) (sym (leb_large c.loop-rest.rest c.loop-rest-test.true)) ∙ c.loop-rest.invariant.0),
  front_then _ _ _ _ c.loop-rest.invariant.1 c.in_ok-push_byte.ensures.appended,
)

pub returns-clause-appended : goal.returns-clause-appended
returns-clause-appended c =
    IfOk-equal c.push_byte-2.result _ _ _ c.push_byte-2.ensures.appended (ap (λ (t : List ℕ). c.loop-rest.out.items ++ t) (sym (leb_small c.loop-rest.rest (omega arith))) ∙ c.loop-rest.invariant.0)
