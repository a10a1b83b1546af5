use Rattle.std.proofs.Common.{◌≡◌, ◌∙◌, ◌+◌, ◌∷◌, [], decimal, drop, sym, arith}
use Rattle.script.specs.Lines.{comma}
use Rattle.seq_tool.proofs.Runs.{left_more, some_left, written_more}
use Rattle.seq_tool.proofs.asking.push_run.Goals as goal

pub unreachable-requires : goal.unreachable-requires
unreachable-requires c =
    let none : drop (c.args.from + c.loop.counter) c.args.seq.now.items ≡ [] = sym c.loop.invariant.left ∙ c.in_default.ensures.steps.0 in
    some_left c.args.seq.now.items (c.args.from + c.loop.counter) (omega arith) none

pub loop-preserved : goal.loop-preserved
loop-preserved c =
    let here : drop (c.args.from + c.loop.counter) c.args.seq.now.items ≡ c.in-Some.item.now ∷ c.next.new.self = sym c.loop.invariant.left ∙ c.in-Some.ensures.steps in
    record {
      left = left_more c.args.seq.now.items c.args.from c.loop.counter c.in-Some.item.now c.next.new.self here;
      written =
          c.in_ok-push_part.ensures.items
          ∙ written_more (λ n. comma ∷ decimal n) c.args.seq.now.items c.args.from c.loop.counter c.in-Some.item.now c.next.new.self c.loop.text.items c.args.text.now.items here c.loop.invariant.written;
    }
