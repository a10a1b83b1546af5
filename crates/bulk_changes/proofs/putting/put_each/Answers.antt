use Rattle.std.proofs.Common.{◌≡◌, ◌+◌, [], ◌∷◌, drop, refl, sym, ap, ◌∙◌, arith}
use Rattle.std.proofs.lemmas.List.{drop_all, drop_more}
use Rattle.map_model.specs.SetOperations.{union}
use Rattle.bulk_changes.proofs.Puts.{put_on}
use Rattle.bulk_changes.proofs.putting.put_each.Goals as goal

pub loop-entry-init : goal.loop-entry-init
loop-entry-init g c = (refl, c.requires.first, c.requires.second)

pub put_entry-requires : goal.put_entry-requires
put_entry-requires g c = c.loop-entry.invariant.1

pub loop-entry-preserved : goal.loop-entry-preserved
loop-entry-preserved g c =
    let f = g.H.Resolve.resolved c.args.how.now in
    let at = c.loop-entry.entry-index in
    let few = c.args.few.now in
    let entry = c.entry-item.result in
    let rest : drop at few ≡ entry ∷ drop (at + 1) few = drop_more few at entry (omega arith) ∙ ap (λ e. e ∷ drop (at + 1) few) (sym c.entry-item.is) in
    put_on g.met.K.Ord.total g.met.K.Key.exact f c.loop-entry.out.items (union g.K.Ord.cmp f c.args.entries.items few) (drop at few) entry (drop (at + 1) few) c.put_entry.new.entries.items c.loop-entry.invariant rest c.in_ok-put_entry.ensures

pub returns : goal.returns
returns g c =
    let f = g.H.Resolve.resolved c.args.how.now in
    let at = c.loop-entry.entry-index in
    let none : drop at c.args.few.now ≡ [] = drop_all at c.args.few.now (omega arith) in
    ap (union g.K.Ord.cmp f c.loop-entry.out.items) (sym none) ∙ c.loop-entry.invariant.0
