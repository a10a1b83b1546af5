use Rattle.std.proofs.Common.{◌+◌, ◌≤◌, arith, length, refl}
use Rattle.std.proofs.lemmas.Result.{IfOk-weaker}
use Rattle.graph_snap.specs.Edges.{edges_of}
use Rattle.graph_snap.proofs.Fronts.{front_rises, goes_on, starts_at}
use Rattle.graph_snap.proofs.Within.{near_at, near_before, within_reach}
use Rattle.graph_snap.proofs.search_alone.search_within.Goals as goal

pub levels-init : goal.levels-init
levels-init c = (starts_at (edges_of c.args.vertices.now.entries) c.args.from c.in_ok-front.front.items c.in_ok-found.found.entries c.in_ok-front.ensures c.in_ok-found.ensures, omega arith)

pub union_into_alone-requires : goal.union_into_alone-requires
union_into_alone-requires c = record { increasing = front_rises c.args.vertices.now.entries c.deref.result.now c.levels.found.entries c.in_ok-front-2.front.items c.deref-in-levels.result.now (c.levels.distance + 1) c.in_ok-front-2.ensures c.deref-in-levels.ensures.value }

pub levels-preserved : goal.levels-preserved
levels-preserved c = (goes_on c.args.vertices.now.entries c.requires.increasing c.args.from c.levels.distance (c.levels.distance + 1) c.levels.front.items c.deref.result.now c.levels.found.entries c.in_ok-front-2.front.items c.deref-in-levels.result.now c.in_ok-found-2.found.entries c.levels.invariant.0 refl c.deref.ensures.value c.in_ok-front-2.ensures c.deref-in-levels.ensures.value c.in_ok-found-2.ensures, omega arith)

pub returns-then-distance-most : goal.returns-then-distance-most
returns-then-distance-most c =
    let g = edges_of c.args.vertices.now.entries in
    let there : c.args.most ≤ c.levels.distance = omega arith in
    IfOk-weaker c.listed.result _ _ (λ list h. within_reach c.args.most g c.args.from c.levels.found.entries list.items (near_at c.args.most g c.args.from c.levels.distance c.levels.front.items c.levels.found.entries c.levels.invariant.0 c.levels.invariant.1 there) h) c.listed.ensures

pub returns : goal.returns
returns c =
    let g = edges_of c.args.vertices.now.entries in
    let none : length c.levels.front.items ≤ 0 = omega (arith, c.len.ensures, c.levels.front.ok.0, c.levels-test.false) in
    IfOk-weaker c.listed-2.result _ _ (λ list h. within_reach c.args.most g c.args.from c.levels.found.entries list.items (near_before c.args.most g c.args.from c.levels.distance c.levels.front.items c.levels.found.entries c.levels.invariant.0 c.levels.invariant.1 none) h) c.listed-2.ensures
