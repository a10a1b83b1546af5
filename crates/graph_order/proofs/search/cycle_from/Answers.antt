use Rattle.std.proofs.Common.{◌∙◌, ℕ, List, reverse, subst, sym, ap}
use Rattle.graph_order.specs.Orders.{IsCycle}
use Rattle.graph_order.specs.Searches.{walk_of}
use Rattle.graph_order.proofs.Cycles.{IsBack, back_begun, back_found, back_on, reverse_push, walk_push}
use Rattle.graph_order.proofs.search.cycle_from.Goals as goal

pub back-init : goal.back-init
back-init c = λ g done closes. subst (λ (cycle : List ℕ). IsBack g done (walk_of c.args.walk.items) (reverse cycle) c.args.first) (sym c.new-cycle.ensures.items) (back_begun g done c.args.first (walk_of c.args.walk.items) closes)

pub back-preserved : goal.back-preserved
back-preserved c = λ g done closes.
    let frame : ℕ × List ℕ = (c.in-Some.frame.vertex, c.in-Some.frame.rest.items) in
    let through = reverse c.back.cycle.items in
    let here = ap walk_of c.in-Some.ensures.items ∙ walk_push c.pop.new.self.items c.in-Some.frame in
    let more = ap reverse c.in_ok-push.ensures.items ∙ reverse_push c.back.cycle.items c.in-Some.frame.vertex in
    let back = subst (λ w. IsBack g done w through c.args.first) here (c.back.invariant g done closes) in
    subst (λ t. IsBack g done (walk_of c.pop.new.self.items) t c.args.first) (sym more) (back_on g done c.args.first frame (walk_of c.pop.new.self.items) through back c.if-frame-first.false)

pub returns-then-frame-first : goal.returns-then-frame-first
returns-then-frame-first c = λ g done closes.
    let frame : ℕ × List ℕ = (c.in-Some.frame.vertex, c.in-Some.frame.rest.items) in
    let through = reverse c.back.cycle.items in
    let here = ap walk_of c.in-Some.ensures.items ∙ walk_push c.pop.new.self.items c.in-Some.frame in
    let more = ap reverse c.in_ok-push.ensures.items ∙ reverse_push c.back.cycle.items c.in-Some.frame.vertex in
    let back = subst (λ w. IsBack g done w through c.args.first) here (c.back.invariant g done closes) in
    subst (λ l. IsCycle g l) (sym (c.reverse.ensures.items ∙ more)) (back_found g done c.args.first frame (walk_of c.pop.new.self.items) through back c.if-frame-first.true)
