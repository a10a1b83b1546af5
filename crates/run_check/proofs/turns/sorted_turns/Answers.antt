use Rattle.std.proofs.Common.{rules, length, refl}
use Rattle.std.proofs.lemmas.List.Sorted.{IsNonDecreasingBy-from_sort_by_key}
use Rattle.run_check.proofs.TurnLists.{turns_sorted}
use Rattle.run_check.proofs.turns.sorted_turns.Goals as goal

pub returns : goal.returns
returns g c =
    turns_sorted c.args.reads.now c.in_ok-turns.turns.items c.sort_by_key.new.self.items (length c.args.reads.now) refl (record { each = c.in_ok-turns.ensures.0; all = c.in_ok-turns.ensures.1 }) c.in_ok-sort_by_key.ensures.permutation
    (IsNonDecreasingBy-from_sort_by_key (λ t. t.number) c.sort_by_key.new.self.items c.in_ok-sort_by_key.ensures.sorted (λ a r f' called. search rules))
