use Rattle.std.proofs.Common.{◌≡◌, ◌-◌, ◌^◌, ◌≤◌, ◌++◌, sym, ◌∙◌, ap, arith, rules}
use Rattle.std.proofs.lemmas.Grind.{fold-append}
use Rattle.std.specs.Prelude.{fold}
use Rattle.root_bench.specs.Sums.{sum_up}
use Rattle.root_bench.proofs.Sums.{sum_up-fold}
use Rattle.root_bench.proofs.total.with_all.Goals as goal

pub returns : goal.returns
returns g c =
    let front = c.split_at.result.0.now in
    let back = c.split_at.result.1.now in
    let whole : front ++ back ≡ c.args.numbers.now = search rules in
    let first : c.fork2-first.result.0 ≡ fold sum_up c.args.total front = c.fork2-first.ensures.left.1.1 in
    let second : c.fork2-first.result.1 ≡ fold sum_up 0 back = c.fork2-first.ensures.right.1.1 in
    let small : c.fork2-first.result.0 ≤ 2 ^ 64 - 1 = omega (arith, c.fork2-first.type_inv) in
    c.saturating_add.ensures ∙ ap (sum_up c.fork2-first.result.0) second ∙ sym (sum_up-fold c.fork2-first.result.0 back small)
    ∙ ap (λ t. fold sum_up t back) first ∙ sym (fold-append sum_up c.args.total front back) ∙ ap (fold sum_up c.args.total) whole
