use Rattle.std.proofs.Common.{◌∙◌, ap, arith, length, sym}
use Rattle.std.specs.Prelude.{fold}
use Rattle.std.proofs.lemmas.List.{length-append}
use Rattle.std.proofs.lemmas.List.Sums.{fold-append}
use Rattle.op_runs.specs.Steps.{step}
use Rattle.served_map.proofs.bulk.apply_part.Goals as goal

pub returns-clause-shorter : goal.returns-clause-shorter
returns-clause-shorter g c = λ some. omega (arith, ap length c.split_at_wipe.ensures.whole, length-append c.split_at_wipe.result.0.now c.split_at_wipe.result.1.now, ap length c.in-Some.ensures.cases.0)

pub returns-clause-applied : goal.returns-clause-applied
returns-clause-applied g c =
    let run = c.split_at_wipe.result.0.now in
    let tail = c.split_at_wipe.result.1.now in
    ap (λ m. fold step m c.in-Some.rest.now) c.in_ok-apply_one.ensures
    ∙ ap (fold step c.apply_run.new.map.entries) (sym c.in-Some.ensures.cases.0)
    ∙ ap (λ m. fold step m tail) c.in_ok-apply_run.ensures
    ∙ sym (fold-append step c.args.map.now.entries run tail)
    ∙ ap (fold step c.args.map.now.entries) c.split_at_wipe.ensures.whole
