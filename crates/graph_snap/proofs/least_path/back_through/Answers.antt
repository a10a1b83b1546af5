use Rattle.std.proofs.Common.{◌≡◌, ◌≤◌, ◌∷◌, [], length, map, rules, arith}
use Rattle.graph_snap.specs.Edges.{edges_of}
use Rattle.graph_snap.proofs.Paths.{back_ends, back_goes_on, back_started, back_starts, mapped_last, none_mapped, some_before}
use Rattle.graph_snap.proofs.least_path.back_through.Goals as goal

pub back-init : goal.back-init
back-init c =
    let is : c.push.new.self.items ≡ c.args.to ∷ [] = search rules in
    back_starts (edges_of c.args.vertices.now.entries) c.args.from c.args.to (map (λ f. f.items) c.args.fronts.items) c.push.new.self.items c.requires.fronts is

pub unreachable-requires : goal.unreachable-requires
unreachable-requires c =
    let none : length c.back.fronts.items ≤ 0 = omega (arith, c.in_default.ensures.cases.0) in
    c.back-test.true (back_started (edges_of c.args.vertices.now.entries) c.args.from c.args.to c.back.present (map (λ f. f.items) c.back.fronts.items) c.back.path.items c.back.invariant (none_mapped (λ f. f.items) c.back.fronts.items none))

pub one_before-present-requires : goal.one_before-present-requires
one_before-present-requires c =
    some_before c.args.vertices.now.entries c.requires.sets c.args.from c.args.to c.back.present (map (λ f. f.items) c.back.fronts.items) (map (λ f. f.items) c.pop.new.self.items) c.in-Some.front.items c.deref.result.now c.back.path.items c.back.invariant (mapped_last (λ f. f.items) c.back.fronts.items c.pop.new.self.items c.in-Some.front c.in-Some.ensures.items) c.deref.ensures.value

pub back-preserved : goal.back-preserved
back-preserved c =
    back_goes_on c.args.vertices.now.entries c.requires.sets c.args.from c.args.to c.back.present c.one_before-present.result (map (λ f. f.items) c.back.fronts.items) (map (λ f. f.items) c.pop.new.self.items) c.in-Some.front.items c.deref.result.now c.back.path.items c.push-in-back.new.self.items c.back.invariant (mapped_last (λ f. f.items) c.back.fronts.items c.pop.new.self.items c.in-Some.front c.in-Some.ensures.items) c.deref.ensures.value c.one_before-present.ensures.there c.one_before-present.ensures.edge c.in_ok-push-2.ensures.items

pub returns : goal.returns
returns c = back_ends (edges_of c.args.vertices.now.entries) c.args.from c.args.to c.back.present (map (λ f. f.items) c.back.fronts.items) c.back.path.items _ c.back.invariant c.back-test.false (search rules)
