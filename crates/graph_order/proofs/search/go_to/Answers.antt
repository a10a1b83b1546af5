use Rattle.std.proofs.Common.{◌≡◌, ◌∙◌, Some, false, ◌∷◌, reverse, subst, sym, ap}
use Rattle.std.specs.Ordering.{nat_cmp}
use Rattle.map_model.specs.Entries.{lookup, set}
use Rattle.graph_snap.specs.Edges.{out_neighbours}
use Rattle.graph_order.specs.Searches.{IsSearching, Keeps, to_look_at, walk_of}
use Rattle.graph_order.proofs.Cycles.{walk_push}
use Rattle.graph_order.proofs.Marks.{marked_here}
use Rattle.graph_order.proofs.Measure.{begun_measure, keeps_set}
use Rattle.graph_order.proofs.Nexts.{leads_next, next_led}
use Rattle.graph_order.proofs.Searching.{begun}
use Rattle.graph_order.proofs.search.go_to.Goals as goal

pub returns-clause-search : goal.returns-clause-search
returns-clause-search c =
    let g = c.args.graph.now in
    let marks = c.args.search.now.marks in
    let done = reverse c.args.search.now.done.items in
    let walk = walk_of c.args.search.now.walk.items in
    let w = c.args.vertex in
    let searching = begun g marks done w (out_neighbours g w) walk c.requires.marked c.requires.live c.requires.new c.requires.end (next_led g w) (leads_next g w) in
    let frames = ap walk_of c.in_ok-push.ensures.items ∙ walk_push c.args.search.now.walk.items (record { vertex = w; rest = c.in_ok-rest.rest }) ∙ ap (λ ns. (w, ns) ∷ walk) c.in_ok-rest.ensures in
    subst (λ m. IsSearching g m done (walk_of c.push.new.self.items)) (sym c.in_ok-put.ensures.entries) (subst (λ f. IsSearching g (set nat_cmp marks w false) done f) (sym frames) searching)

pub returns-clause-seen : goal.returns-clause-seen
returns-clause-seen c =
    let g = c.args.graph.now in
    let marks = c.args.search.now.marks in
    let walk = walk_of c.args.search.now.walk.items in
    let w = c.args.vertex in
    let frames = ap walk_of c.in_ok-push.ensures.items ∙ walk_push c.args.search.now.walk.items (record { vertex = w; rest = c.in_ok-rest.rest }) ∙ ap (λ ns. (w, ns) ∷ walk) c.in_ok-rest.ensures in
    ap (λ m. to_look_at g m (walk_of c.push.new.self.items)) c.in_ok-put.ensures.entries ∙ ap (to_look_at g (set nat_cmp marks w false)) frames ∙ begun_measure g marks w walk c.requires.new

pub returns-clause-kept : goal.returns-clause-kept
returns-clause-kept c = subst (λ m. Keeps c.args.search.now.marks m) (sym c.in_ok-put.ensures.entries) (keeps_set c.args.search.now.marks c.args.vertex false)

pub returns-clause-marked : goal.returns-clause-marked
returns-clause-marked c = subst (λ m. lookup nat_cmp m c.args.vertex ≡ Some false) (sym c.in_ok-put.ensures.entries) (marked_here c.args.search.now.marks c.args.vertex false)
