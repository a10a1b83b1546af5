use Rattle.std.proofs.Common.{◌≡◌, rules, length, sym, subst, arith, ◌∙◌}
use Rattle.std.specs.Prelude.{nat_lt}
use Rattle.std.proofs.lemmas.Bool.{ltb-true, ltb-false}
use Rattle.std.proofs.lemmas.List.{get_or_default}
use Rattle.std.proofs.lemmas.List.Sorted.{IsPartitionPoint-from_clause}
use Rattle.run_check.specs.Placing.{IsOnlyOf}
use Rattle.run_check.proofs.Keyed.{absent_from, below_first, each_only}
use Rattle.run_check.proofs.placed.find.Goals as goal

pub returns-in_default : goal.returns-in_default
returns-in_default g c =
    let placed = c.args.placed.now in
    let at = c.partition_point-at.result in
    let point = IsPartitionPoint-from_clause (λ p. nat_lt p.entry.tag c.args.number) placed at c.partition_point-at.ensures.partitioned (below_first (λ p. p.entry.tag) placed c.args.number c.requires) (λ a r f' called. search rules) in
    let past = ltb-false at (length placed) (sym c.in_default.ensures.lookup.0) in
    absent_from (λ p. p.entry.tag) placed c.args.number at c.requires point.0 point.1 (λ d h same. omega (arith, past, h))

pub returns-then-p-number : goal.returns-then-p-number
returns-then-p-number g c =
    let placed = c.args.placed.now in
    let at = c.partition_point-at.result in
    let inside = ltb-true at (length placed) (sym c.in-Some.ensures.lookup.0) in
    (c.if-p-number.true, subst (IsOnlyOf placed) (sym c.in-Some.ensures.lookup.1) (each_only (λ p. p.entry.tag) placed c.requires at c.in-Some.p.now inside))

pub returns-else-p-number : goal.returns-else-p-number
returns-else-p-number g c =
    let placed = c.args.placed.now in
    let at = c.partition_point-at.result in
    let point = IsPartitionPoint-from_clause (λ p. nat_lt p.entry.tag c.args.number) placed at c.partition_point-at.ensures.partitioned (below_first (λ p. p.entry.tag) placed c.args.number c.requires) (λ a r f' called. search rules) in
    absent_from (λ p. p.entry.tag) placed c.args.number at c.requires point.0 point.1
    (λ d h same. c.if-p-number.false (subst (λ q. q.entry.tag ≡ c.args.number) (get_or_default placed at d c.in-Some.p.now h ∙ sym c.in-Some.ensures.lookup.1) same))
