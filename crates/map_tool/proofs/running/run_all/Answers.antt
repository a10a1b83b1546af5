use Rattle.std.proofs.Common.{◌≡◌, ◌++◌, ap₂, length, sym, ◌∙◌, arith}
use Rattle.std.proofs.lemmas.Bool.{eqb-true}
use Rattle.std.proofs.lemmas.List.{take-append-drop}
use Rattle.map_records.specs.MapRecords.{HasRegisters}
use Rattle.map_tool.specs.Effects.{map_after, map_reply}
use Rattle.map_tool.specs.Registers.{empty_registers, maps_of}
use Rattle.map_tool.proofs.Rows.{All-back, replies-next_run}
use Rattle.script.specs.Replies.{replies, replies-end}
use Rattle.map_tool.proofs.running.run_all.Goals as goal

pub loop-rest-preserved : goal.loop-rest-preserved
loop-rest-preserved g c =
    let rest = c.loop-rest.rest.now in
    let run = c.split_at.result.0.now in
    let later = c.split_at.result.1.now in
    let parts : run ++ later ≡ rest = ap₂ (λ a b. a ++ b) c.split_at.ensures.front c.split_at.ensures.back ∙ take-append-drop c.run_len.result rest in
    record {
      lawful = All-back HasRegisters run later (rw parts c.loop-rest.invariant.lawful);
      same =
          replies-next_run (replies map_reply map_after empty_registers c.args.commands.now) c.loop-rest.run.text.items c.run_together.new.run.text.items
          (maps_of c.loop-rest.run.registers) (maps_of c.run_together.new.run.registers) rest run later parts
          c.loop-rest.invariant.same c.in_ok-run_together.ensures.replies c.in_ok-run_together.ensures.after;
    }

pub returns : goal.returns
returns g c =
    sym (replies-end map_reply map_after (replies map_reply map_after empty_registers c.args.commands.now) c.loop-rest.run.text.items (maps_of c.loop-rest.run.registers) c.loop-rest.rest.now 0 (omega (arith, eqb-true (length c.loop-rest.rest.now) 0 (sym c.loop-rest-test.ensures))) c.loop-rest.invariant.same)
