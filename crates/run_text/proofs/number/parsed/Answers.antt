use Rattle.std.proofs.Common.{◌∙◌, sym, subst, decimal}
use Rattle.std.specs.Str.{IsUtf8}
use Rattle.std.proofs.lemmas.Str.{IsUtf8-from_ascii}
use Rattle.std.proofs.lemmas.Fmt.{IsAscii-decimal, parse-decimal}
use Rattle.run_text.proofs.number.parsed.Goals as goal

pub returns-in_default : goal.returns-in_default
returns-in_default c = λ n small is. c.in_default.ensures.cases.0 (subst IsUtf8 (sym is) (IsUtf8-from_ascii (decimal n) (IsAscii-decimal n small)))

pub returns-in-Ok-parse : goal.returns-in-Ok-parse
returns-in-Ok-parse c = λ n small is.
    let r = parse-decimal 64 n c.in-Ok.digits.now c.parse.result small small (c.in-Ok.ensures.cases.0 ∙ is) c.parse.ensures.value.0 in
    cc

pub returns-in-Err : goal.returns-in-Err
returns-in-Err c = λ n small is.
    let r = parse-decimal 64 n c.in-Ok.digits.now c.parse.result small small (c.in-Ok.ensures.cases.0 ∙ is) c.parse.ensures.value.0 in
    cc
