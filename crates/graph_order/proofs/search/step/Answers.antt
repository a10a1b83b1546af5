use Rattle.std.proofs.Common.{◌≡◌, ◌∙◌, ◌<◌, ◌≤◌, true, false, Some, [], ◌∷◌, length, reverse, subst, sym, ap, rules, arith}
use Rattle.std.specs.Ordering.{nat_cmp}
use Rattle.map_model.specs.Entries.{lookup, set}
use Rattle.graph_order.specs.Searches.{Closes, IsOpen, IsSearching, Keeps, to_look_at, walk_of}
use Rattle.graph_order.proofs.Cycles.{reverse_push, walk_push}
use Rattle.graph_order.proofs.Measure.{keeps_set}
use Rattle.graph_order.proofs.Steps.{finished_less, step_finished, taken_closes, taken_end, taken_less, taken_live, taken_passed}
use Rattle.graph_order.proofs.search.step.Goals as goal

pub returns-in_default-pop : goal.returns-in_default-pop
returns-in_default-pop c =
    let g = c.args.graph.now in
    let marks = c.args.search.now.marks in
    let done = reverse c.args.search.now.done.items in
    let old = walk_of c.args.search.now.walk.items in
    let fs = walk_of c.pop.new.self.items in
    let v = c.in-Some.last.vertex in
    let rest = c.in-Some.last.rest.items in
    let here = ap walk_of c.in-Some.ensures.items ∙ walk_push c.pop.new.self.items c.in-Some.last in
    let none : length rest ≤ 0 = omega (arith, c.in_default-pop.ensures.cases.0) in
    let end = step_finished g marks done old v rest fs here c.requires.search none in
    let more = ap reverse c.in_ok-push.ensures.items ∙ reverse_push c.args.search.now.done.items v in
    let less = finished_less g marks done old v rest fs here c.requires.search none in (
      subst (λ m. IsSearching g m (reverse c.push.new.self.items) fs) (sym c.in_ok-put.ensures.entries) (subst (λ d. IsSearching g (set nat_cmp marks v true) d fs) (sym more) end),
      subst (λ m. to_look_at g m fs < to_look_at g marks old) (sym c.in_ok-put.ensures.entries) (omega (arith, less)),
      subst (λ m. Keeps marks m) (sym c.in_ok-put.ensures.entries) (keeps_set marks v true),
    )

pub go_to-requires-clause-live : goal.go_to-requires-clause-live
go_to-requires-clause-live c =
    let g = c.args.graph.now in
    let done = reverse c.args.search.now.done.items in
    let here = ap walk_of c.in-Some.ensures.items ∙ walk_push c.pop.new.self.items c.in-Some.last in
    let frames = ap walk_of c.in_ok-push-2.ensures.items ∙ walk_push c.pop.new.self.items (record { vertex = c.in-Some.last.vertex; rest = c.pop-2.new.self }) in
    subst (λ w. IsOpen g done (c.in-Some-pop.end ∷ []) w) (sym frames) (taken_live g c.args.search.now.marks done (walk_of c.args.search.now.walk.items) c.in-Some.last.vertex c.in-Some.last.rest.items (walk_of c.pop.new.self.items) here c.requires.search c.pop-2.new.self.items c.in-Some-pop.end c.in-Some-pop.ensures.items)

pub go_to-requires-clause-end : goal.go_to-requires-clause-end
go_to-requires-clause-end c =
    let here = ap walk_of c.in-Some.ensures.items ∙ walk_push c.pop.new.self.items c.in-Some.last in
    taken_end c.args.graph.now c.args.search.now.marks (reverse c.args.search.now.done.items) (walk_of c.args.search.now.walk.items) c.in-Some.last.vertex c.in-Some.last.rest.items (walk_of c.pop.new.self.items) here c.requires.search c.pop-2.new.self.items c.in-Some-pop.end c.in-Some-pop.ensures.items

pub returns-in-Some-true : goal.returns-in-Some-true
returns-in-Some-true c =
    let g = c.args.graph.now in
    let marks = c.args.search.now.marks in
    let done = reverse c.args.search.now.done.items in
    let old = walk_of c.args.search.now.walk.items in
    let v = c.in-Some.last.vertex in
    let left = c.pop-2.new.self.items in
    let fs = walk_of c.pop.new.self.items in
    let here = ap walk_of c.in-Some.ensures.items ∙ walk_push c.pop.new.self.items c.in-Some.last in
    let frames = ap walk_of c.in_ok-push-2.ensures.items ∙ walk_push c.pop.new.self.items (record { vertex = v; rest = c.pop-2.new.self }) in
    let mark : lookup nat_cmp marks c.in-Some-pop.end ≡ Some true = search rules in
    let passed = taken_passed g marks done old v c.in-Some.last.rest.items fs here c.requires.search left c.in-Some-pop.end c.in-Some-pop.ensures.items mark in
    let less = taken_less g marks done old v c.in-Some.last.rest.items fs here c.requires.search left c.in-Some-pop.end c.in-Some-pop.ensures.items in (
      subst (λ w. IsSearching g marks done w) (sym frames) passed,
      subst (λ w. to_look_at g marks w < to_look_at g marks old) (sym frames) (omega (arith, less)),
      λ u h. h,
    )

pub returns-in-Some-false : goal.returns-in-Some-false
returns-in-Some-false c =
    let g = c.args.graph.now in
    let marks = c.args.search.now.marks in
    let done = reverse c.args.search.now.done.items in
    let here = ap walk_of c.in-Some.ensures.items ∙ walk_push c.pop.new.self.items c.in-Some.last in
    let frames = ap walk_of c.in_ok-push-2.ensures.items ∙ walk_push c.pop.new.self.items (record { vertex = c.in-Some.last.vertex; rest = c.pop-2.new.self }) in
    let mark : lookup nat_cmp marks c.in-Some-pop.end ≡ Some false = search rules in
    subst (λ w. Closes g done w c.in-Some-pop.end) (sym frames) (taken_closes g marks done (walk_of c.args.search.now.walk.items) c.in-Some.last.vertex c.in-Some.last.rest.items (walk_of c.pop.new.self.items) here c.requires.search c.pop-2.new.self.items c.in-Some-pop.end c.in-Some-pop.ensures.items mark)
