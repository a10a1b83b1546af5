use Rattle.std.proofs.Common.{◌≡◌, ◌∙◌, [], ap, map, sym, rules, arith}
use Rattle.std.specs.Ordering.{nat_cmp}
use Rattle.std.specs.Prelude.{is_some}
use Rattle.map_model.specs.Entries.{lookup}
use Rattle.graph_snap.specs.Edges.{edges_of}
use Rattle.graph_snap.proofs.Fronts.{front_rises, goes_on, less_to_go, starts_at}
use Rattle.graph_snap.proofs.Paths.{before_goes_on, before_starts, comes_to, mapped_last, out_of_reach}
use Rattle.graph_snap.proofs.least_path.fronts_before.Goals as goal

pub levels-init : goal.levels-init
levels-init c =
    let none : c.new-fronts.result.items ≡ [] = search rules in
    before_starts (edges_of c.args.vertices.now.entries) c.args.from c.args.to c.in_ok-front.front.items c.in_ok-found.found.entries (map (λ f. f.items) c.new-fronts.result.items) (starts_at (edges_of c.args.vertices.now.entries) c.args.from c.in_ok-front.front.items c.in_ok-found.found.entries c.in_ok-front.ensures c.in_ok-found.ensures) (ap (map (λ f. f.items)) none)

pub union_into_alone-requires : goal.union_into_alone-requires
union_into_alone-requires c = record { increasing = front_rises c.args.vertices.now.entries c.deref-in-levels.result.now c.levels.found.entries c.in_ok-next.next.items c.deref-in-levels-2.result.now c.in_ok-distance.distance c.in_ok-next.ensures c.deref-in-levels-2.ensures.value }

pub levels-preserved : goal.levels-preserved
levels-preserved c =
    before_goes_on (edges_of c.args.vertices.now.entries) c.args.from c.args.to c.levels.distance c.in_ok-distance.distance c.levels.front.items c.levels.found.entries c.in_ok-next.next.items c.in_ok-found-2.found.entries (map (λ f. f.items) c.levels.fronts.items) (map (λ f. f.items) c.push.new.self.items) c.levels.invariant
    (ap (λ x. is_some (lookup nat_cmp x c.args.to)) (sym c.deref.ensures.value) ∙ sym c.has_vertex.ensures ∙ c.if-has_vertex.false)
    c.in_ok-distance.ensures
    (goes_on c.args.vertices.now.entries c.requires.increasing c.args.from c.levels.distance c.in_ok-distance.distance c.levels.front.items c.deref-in-levels.result.now c.levels.found.entries c.in_ok-next.next.items c.deref-in-levels-2.result.now c.in_ok-found-2.found.entries c.levels.invariant.searched c.in_ok-distance.ensures c.deref-in-levels.ensures.value c.in_ok-next.ensures c.deref-in-levels-2.ensures.value c.in_ok-found-2.ensures)
    (mapped_last (λ f. f.items) c.push.new.self.items c.levels.fronts.items c.levels.front c.in_ok-push.ensures.items)

pub levels-smaller : goal.levels-smaller
levels-smaller c = less_to_go (edges_of c.args.vertices.now.entries) c.args.from c.levels.distance c.in_ok-distance.distance c.len.result c.levels.front.items c.levels.found.entries c.levels.invariant.searched c.in_ok-distance.ensures (c.len.ensures ∙ c.levels.front.ok.0) c.levels-test.true

pub returns-then-has_vertex : goal.returns-then-has_vertex
returns-then-has_vertex c =
    comes_to (edges_of c.args.vertices.now.entries) c.args.from c.args.to c.levels.distance c.levels.front.items c.levels.found.entries (map (λ f. f.items) c.levels.fronts.items) c.levels.invariant
    (ap (λ x. is_some (lookup nat_cmp x c.args.to)) (sym c.deref.ensures.value) ∙ sym c.has_vertex.ensures ∙ c.if-has_vertex.true)

pub returns : goal.returns
returns c = out_of_reach (edges_of c.args.vertices.now.entries) c.args.from c.args.to c.levels.distance c.levels.front.items c.levels.found.entries (map (λ f. f.items) c.levels.fronts.items) c.levels.invariant (omega (arith, c.len.ensures, c.levels.front.ok.0, c.levels-test.false))
