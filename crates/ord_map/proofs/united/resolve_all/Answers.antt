use Rattle.std.proofs.Common.{◌≡◌, [], ◌∷◌, length, rules, ap, arith}
use Rattle.std.specs.Vec.Iter.{into_iter_items, into_iter_len}
use Rattle.map_model.specs.SetOperations.{union}
use Rattle.ord_map.specs.InTurn.{put_in_turn}
use Rattle.ord_map.proofs.Turns.{none_above, resolved_on, resolving_start}
use Rattle.ord_map.proofs.united.resolve_all.Goals as goal

pub loop-entry-init : goal.loop-entry-init
loop-entry-init g c =
    let rest = c.into_iter-entry-iterator.result in
    let none : c.in_ok-out.out.items ≡ [] = search rules in
    let all : into_iter_items rest ≡ c.args.entries.items = search rules in
    let len : into_iter_len rest ≡ length (into_iter_items rest) = search rules in
    (resolving_start g.met.K.Ord.total g.met.K.Key.exact (g.H.Resolve.resolved c.args.how.now) c.in_ok-out.out.items (into_iter_items rest) c.args.entries.items none all c.requires, len)

pub put_last-requires-clause-highest : goal.put_last-requires-clause-highest
put_last-requires-clause-highest g c =
    let f = g.H.Resolve.resolved c.args.how.now in
    let at = c.loop-entry in
    none_above g.met.K.Ord.total g.met.K.Key.exact f at.out.items (into_iter_items at.entry-iterator) (put_in_turn g.K.Ord.cmp f [] c.args.entries.items) at.invariant.0 c.in-Some.entry (into_iter_items c.next.new.self) c.in-Some.ensures.steps.0

pub loop-entry-preserved : goal.loop-entry-preserved
loop-entry-preserved g c =
    let f = g.H.Resolve.resolved c.args.how.now in
    let at = c.loop-entry in
    let entry = c.in-Some.entry in
    let left = into_iter_items c.next.new.self in
    let steps : into_iter_items at.entry-iterator ≡ entry ∷ left = c.in-Some.ensures.steps.0 in
    let put : c.put_last.new.into.items ≡ union g.K.Ord.cmp f at.out.items (entry ∷ []) = search rules in
    let was = at.invariant.1 in
    let gone = c.in-Some.ensures.steps.1 in
    let short = ap length steps in (
      resolved_on g.met.K.Ord.total g.met.K.Key.exact f at.out.items (into_iter_items at.entry-iterator) (put_in_turn g.K.Ord.cmp f [] c.args.entries.items) at.invariant.0 entry left steps c.put_last.new.into.items put,
      omega arith,
    )
