use Rattle.std.proofs.Common.{◌≡◌, ℕ, Bool, List, nat_le, sym, ◌∙◌, rules, tests}
use Rattle.std.proofs.lemmas.Iterator.{YieldsList-from_slice, YieldsList-from_zip}
use Rattle.std.proofs.lemmas.Iterator.Search.{all_from_yields_List}
use Rattle.std.proofs.lemmas.List.Folds.{list_all-map}
use Rattle.std.specs.List.{list_all, zip}
use Rattle.aug_monoid.specs.declared.pair64.Pair64.{Pair64}
use Rattle.interval_map.specs.Intervals.{interval}
use Rattle.interval_handle.proofs.arrays.in_order.Goals as goal

pub returns : goal.returns
returns c =
    let lefts : List ℕ = c.args.lefts.now in
    let rights : List ℕ = c.args.rights.now in
    let at_most : ℕ × ℕ → Bool = λ e. nat_le e.0 e.1 in
    let by_call : c.all.result ≡ list_all at_most (zip lefts rights) = all_from_yields_List at_most c.all.new.self _ c.all.result c.all.ensures.ran (YieldsList-from_zip (YieldsList-from_slice lefts cc) (YieldsList-from_slice rights cc)) (λ x b q k. search (rules, tests)) in
    by_call ∙ sym (list_all-map (λ (i : Pair64). nat_le i.first i.second) (λ (e : ℕ × ℕ). interval e.0 e.1) (zip lefts rights))
