use Rattle.std.proofs.Common.{List, ℕ, ◌<◌, ◌^◌, subst}
use Rattle.std.proofs.lemmas.List.{take_rest}
use Rattle.std.proofs.lemmas.Result.{err_from_is_err_and}
use Rattle.gap_code.specs.Leb.{leb, BeginsWith}
use Rattle.entry_bytes.specs.Faults.{IsNumberFault}
use Rattle.entry_bytes.proofs.Numbers.{read_is}
use Rattle.entry_bytes.proofs.number.read_number.Goals as goal

pub number_at-number-requires : goal.number_at-number-requires
number_at-number-requires c = subst (λ (t : List ℕ). BeginsWith (λ (n : ℕ). n < 2 ^ 64) leb t) (take_rest c.args.bytes.now c.args.at) c.in_ok-check_number.ensures

pub returns-in_err-check_number : goal.returns-in_err-check_number
returns-in_err-check_number c =
    let p = err_from_is_err_and c.from_residual.result c.from_residual.ensures.1 in
    rw (p.1, p.2) (subst (λ (t : List ℕ). IsNumberFault c.in_err-check_number.field-0.0 t) (take_rest c.args.bytes.now c.args.at) c.in_err-check_number.ensures)

pub returns : goal.returns
returns c = read_is c.args.bytes.now c.args.at _ _ (subst (λ (t : List ℕ). BeginsWith (λ (n : ℕ). n < 2 ^ 64) leb t) (take_rest c.args.bytes.now c.args.at) c.in_ok-check_number.ensures) c.number_at-number.ensures.value c.number_at-number.ensures.after
