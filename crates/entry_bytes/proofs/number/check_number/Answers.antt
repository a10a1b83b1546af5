use Rattle.std.proofs.Common.{get_or, refl, arith}
use Rattle.entry_bytes.proofs.Numbers.{run_of, here, begins, cut, too_long, zero_last, large_last}
use Rattle.entry_bytes.proofs.number.check_number.Goals as goal

pub returns-then-run-gt-MOST : goal.returns-then-run-gt-MOST
returns-then-run-gt-MOST c = too_long c.run_length-run.result c.args.rest.now (omega arith) (run_of c.run_length-run.result c.args.rest.now c.run_length-run.ensures.within c.run_length-run.ensures.high (λ k. omega (arith, c.type_inv.rest k)))

pub returns-then-run-rest : goal.returns-then-run-rest
returns-then-run-rest c = cut c.run_length-run.result c.args.rest.now (run_of c.run_length-run.result c.args.rest.now c.run_length-run.ensures.within c.run_length-run.ensures.high (λ k. omega (arith, c.type_inv.rest k))) (omega arith) (omega arith)

pub returns-then-run-eq0 : goal.returns-then-run-eq0
returns-then-run-eq0 c = (begins c.run_length-run.result c.args.rest.now (here c.run_length-run.result c.args.rest.now (get_or c.args.rest.now c.run_length-run.result 0) (run_of c.run_length-run.result c.args.rest.now c.run_length-run.ensures.within c.run_length-run.ensures.high (λ k. omega (arith, c.type_inv.rest k))) (omega arith) refl (omega arith) (omega arith) (λ h. omega arith) (λ h. omega arith)))

pub returns-then-last-eq0 : goal.returns-then-last-eq0
returns-then-last-eq0 c = zero_last c.run_length-run.result c.args.rest.now (run_of c.run_length-run.result c.args.rest.now c.run_length-run.ensures.within c.run_length-run.ensures.high (λ k. omega (arith, c.type_inv.rest k))) (omega arith) (omega arith) (omega arith)

pub returns-then-run-lt-MOST : goal.returns-then-run-lt-MOST
returns-then-run-lt-MOST c = (begins c.run_length-run.result c.args.rest.now (here c.run_length-run.result c.args.rest.now (get_or c.args.rest.now c.run_length-run.result 0) (run_of c.run_length-run.result c.args.rest.now c.run_length-run.ensures.within c.run_length-run.ensures.high (λ k. omega (arith, c.type_inv.rest k))) (omega arith) refl (omega arith) (omega arith) (λ h. omega arith) (λ h. omega arith)))

pub returns-then-last-gt1 : goal.returns-then-last-gt1
returns-then-last-gt1 c = large_last c.run_length-run.result c.args.rest.now (get_or c.args.rest.now c.run_length-run.result 0) (run_of c.run_length-run.result c.args.rest.now c.run_length-run.ensures.within c.run_length-run.ensures.high (λ k. omega (arith, c.type_inv.rest k))) (omega arith) refl (omega arith) (omega arith) (omega arith)

pub returns : goal.returns
returns c = (begins c.run_length-run.result c.args.rest.now (here c.run_length-run.result c.args.rest.now (get_or c.args.rest.now c.run_length-run.result 0) (run_of c.run_length-run.result c.args.rest.now c.run_length-run.ensures.within c.run_length-run.ensures.high (λ k. omega (arith, c.type_inv.rest k))) (omega arith) refl (omega arith) (omega arith) (λ h. omega arith) (λ h. omega arith)))
