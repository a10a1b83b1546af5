use Rattle.std.proofs.Common.{◌≡◌, ◌∙◌, ◌++◌, append-nil, arith, ap, rules, sym}
use Rattle.serve_input.specs.Converting.{records_of}
use Rattle.serve_input.proofs.Inputs.{in_rounds, one_round, records-end, records-more, small}
use Rattle.serve_input.proofs.Numbered.{numbered}
use Rattle.serve_input.proofs.converting.records.Goals as goal

pub push_record-requires : goal.push_record-requires
push_record-requires g c = rw c.command-item.is (small c.args.commands.now c.requires.callers c.loop-command.command-index c.command-item.result (omega arith))

pub loop-command-preserved : goal.loop-command-preserved
loop-command-preserved g c =
    let more = records-more c.loop-command.round c.args.commands.now c.loop-command.command-index c.command-item.result c.loop-command.records.items _ (omega arith) c.command-item.is c.loop-command.invariant.so_far in
    record {
      few = omega (arith, c.loop-command.invariant.few, c.rounds_in-round.ensures, one_round c.command-item.result);
      so_far = rw (c.rounds_in-round.ensures, c.in_ok-push_record.ensures) more;
    }

pub returns : goal.returns
returns g c =
    let whole : c.loop-command.records.items ≡ records_of c.args.commands.now =
    sym (c.loop-command.invariant.so_far ∙ ap (λ rest. c.loop-command.records.items ++ rest) (records-end c.loop-command.round c.args.commands.now c.loop-command.command-index (omega arith)) ∙ append-nil c.loop-command.records.items) in
    record {
      value = whole;
      rounds = rw whole (in_rounds c.args.commands.now c.requires);
      numbered = rw whole (numbered c.args.commands.now c.requires (search rules));
    }
