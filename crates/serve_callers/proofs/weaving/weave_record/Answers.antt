use Rattle.serve_callers.proofs.Woven.{one_skip, one_write}
use Rattle.serve_callers.proofs.weaving.weave_record.Goals as goal

pub returns-in-Submit : goal.returns-in-Submit
returns-in-Submit g c = one_skip c.args.«record».now c.args.lines.now c.args.text.now.items _ c.in-Submit.is

pub returns-in_ok-write_line-in-Read : goal.returns-in_ok-write_line-in-Read
returns-in_ok-write_line-in-Read g c =
    one_write c.args.«record».now c.args.lines.now c.write_line.new.lines c.args.text.now.items c.write_line.new.text.items _ c.in-Read.is c.in_ok-write_line-in-Read.ensures
