use Rattle.std.proofs.Common.{◌∙◌, ◌+◌, ◌++◌, ap, ap₂, drop, subst, sym}
use Rattle.std.proofs.lemmas.List.{drop_all, drop_more}
use Rattle.std.specs.List.{AllByRecursion}
use Rattle.map_records.specs.MapRecords.{HasRegisters}
use Rattle.map_tool.specs.Effects.{map_after, map_reply}
use Rattle.map_tool.specs.Registers.{maps_of}
use Rattle.map_tool.specs.Runs.{after_all}
use Rattle.script.specs.Replies.{replies, replies-end, replies-next}
use Rattle.map_tool.proofs.running.run_each.Goals as goal

pub loop-command-preserved : goal.loop-command-preserved
loop-command-preserved g c =
    let commands = c.args.commands.now in
    let i = c.loop-command.command-index in
    let before = maps_of c.loop-command.run.registers in
    record {
      lawful = (subst (AllByRecursion HasRegisters) (drop_more commands i c.command-item.result c.loop-command-test.true) c.loop-command.invariant.lawful).1;
      said =
          replies-next map_reply map_after (c.args.run.now.text.items ++ replies map_reply map_after (maps_of c.args.run.now.registers) commands) c.loop-command.run.text.items before commands i c.command-item.result c.loop-command-test.true c.command-item.is c.loop-command.invariant.said
          ∙ ap₂ (λ text rs. text ++ replies map_reply map_after rs (drop (i + 1) commands)) (sym c.in_ok-map_command.ensures.reply) (sym c.in_ok-map_command.ensures.after);
      done =
          c.loop-command.invariant.done
          ∙ ap (after_all before) (drop_more commands i c.command-item.result c.loop-command-test.true)
          ∙ ap (λ command. after_all (map_after before command) (drop (i + 1) commands)) (sym c.command-item.is)
          ∙ ap (λ rs. after_all rs (drop (i + 1) commands)) (sym c.in_ok-map_command.ensures.after);
    }

pub returns-clause-replies : goal.returns-clause-replies
returns-clause-replies g c =
    let commands = c.args.commands.now in
    sym (replies-end map_reply map_after (c.args.run.now.text.items ++ replies map_reply map_after (maps_of c.args.run.now.registers) commands) c.loop-command.run.text.items (maps_of c.loop-command.run.registers) commands c.loop-command.command-index c.loop-command-test.false c.loop-command.invariant.said)

pub returns-clause-after : goal.returns-clause-after
returns-clause-after g c =
    sym (c.loop-command.invariant.done ∙ ap (after_all (maps_of c.loop-command.run.registers)) (drop_all c.loop-command.command-index c.args.commands.now c.loop-command-test.false))

pub map_command-requires-after_bounds : goal.map_command-requires-after_bounds
map_command-requires-after_bounds g c κs within =
    subst HasRegisters (sym c.command-item.is) (subst (AllByRecursion HasRegisters) (drop_more c.args.commands.now c.loop-command.command-index c.command-item.result c.loop-command-test.true) c.loop-command.invariant.lawful).0
