use Rattle.std.proofs.Common.{ap₂, subst, sym, ◌∙◌}
use Rattle.map_model.specs.Entries.{IsIncreasing}
use Rattle.map_model.specs.SetOperations.{union}
use Rattle.map_model.proofs.Unions.{nil-union}
use Rattle.ord_map.proofs.united.union_by_sort.Goals as goal

pub union_into_alone-requires : goal.union_into_alone-requires
union_into_alone-requires g c = record { increasing = subst (IsIncreasing g.A.Key.Ord.cmp) (sym c.deref.ensures.value) c.in_ok-list.ensures.increasing }

pub returns : goal.returns
returns g c =
    let order = g.A.Key.Ord.cmp in
    let f = g.H.Resolve.resolved c.args.how.now in
    c.in_ok-map.ensures
    ∙ ap₂ (union order f) c.empty.ensures.entries c.deref.ensures.value
    ∙ nil-union g.met.A.Key.Ord.total g.met.A.Key.Key.exact f c.in_ok-list.list.items c.in_ok-list.ensures.increasing
    ∙ c.in_ok-list.ensures.value
    ∙ c.in_ok-entries.ensures
