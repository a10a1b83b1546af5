-- The ends of the intervals that are read are in order.
use Rattle.std.proofs.Common.{◌≤◌, ℕ, List, Result, IfOk, inl, inr, nat_le, codes}
use Rattle.std.specs.List.{AllByRecursion}
use Rattle.std.proofs.lemmas.Bool.{cases_Bool, leb-true}
use Rattle.script.proofs.Chosen.{either_way}
use Rattle.script.proofs.RowFacts.{all_keep, made₂, then_any}
use Rattle.script.specs.InOrder.{commands_from}
use Rattle.interval_tool.specs.IntervalRecords.{HasEnds, interval_command}
use Rattle.script.specs.Records.{Fields}
use Rattle.script.specs.Rows.{has_verb}
use Rattle.script.specs.Shapes as shape
use Rattle.script.specs.Shapes.{in_order}
use Rattle.script.specs.declared.fault.Code.{Code}
use Rattle.interval_tool.specs.declared.commands.IntervalCommand.{IntervalCommand}

abbrev Ordered : ℕ × ℕ → Type 0
Ordered f = f.0 ≤ f.1

in_order_ends : (f : ℕ × ℕ) → IfOk (in_order f) Ordered
in_order_ends f = elim (cases_Bool (nat_le f.0 f.1)) [
  | inl within ↦ rw within (leb-true f.0 f.1 within)
  | inr over ↦ rw over tt
]

ends : (r : Fields) → IfOk (shape.two_ends r) Ordered
ends r = then_any Ordered (shape.two_numbers r) in_order in_order_ends

abbrev Lawful : Result IntervalCommand Code → Type 0
Lawful read = IfOk read HasEnds

lawful : (place : ℕ) (r : Fields) → Lawful (interval_command place r)
unfolding interval_command
lawful place r =
    either_way Lawful (has_verb r (codes "add")) _ _ (made₂ HasEnds Ordered _ _ (ends r) (λ f h. h))
    (either_way Lawful (has_verb r (codes "del")) _ _ (made₂ HasEnds Ordered _ _ (ends r) (λ f h. h))
    (either_way Lawful (has_verb r (codes "size")) _ _ (then_any HasEnds (shape.alone r) _ (λ f. tt))
    (either_way Lawful (has_verb r (codes "any")) _ _ (then_any HasEnds (shape.one_number r) _ (λ f. tt))
    (either_way Lawful (has_verb r (codes "stab")) _ _ (then_any HasEnds (shape.one_number r) _ (λ f. tt))
    (either_way Lawful (has_verb r (codes "over")) _ _ (made₂ HasEnds Ordered _ _ (ends r) (λ f h. h))
    tt)))))

pub all_ordered : (place : ℕ) (rs : List Fields) → IfOk (commands_from interval_command place rs) (AllByRecursion HasEnds)
all_ordered = all_keep HasEnds interval_command lawful
