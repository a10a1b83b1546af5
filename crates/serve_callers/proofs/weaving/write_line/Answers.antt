use Rattle.std.proofs.Common.{get_or, arith}
use Rattle.std.proofs.lemmas.List.{get_or_default}
use Rattle.serve_callers.proofs.Woven.{first_moved, none_first}
use Rattle.serve_callers.proofs.weaving.write_line.Goals as goal

pub returns : goal.returns
returns c =
    let d = c.index-lines-at.result in
    let old = get_or c.args.lines.now c.args.caller d in
    first_moved c.args.caller c.args.lines.now old c.write_first.new.self c.args.text.now.items c.write_first.new.text.items (omega arith)
    (get_or_default c.args.lines.now c.args.caller d old (omega arith)) c.in_ok-write_first.ensures.moved

pub returns-then-at-lines : goal.returns-then-at-lines
returns-then-at-lines c = none_first c.args.caller c.args.lines.now c.args.text.now.items (omega arith)
