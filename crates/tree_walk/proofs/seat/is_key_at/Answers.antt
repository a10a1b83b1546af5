use Rattle.std.proofs.Common.{◌≡◌, [], ◌∷◌, ◌++◌, drop, Some, IfSome, slice_get, sym, ap, ◌∙◌, subst}
use Rattle.std.specs.Option.{option_map}
use Rattle.std.specs.Ordering.{is_eq}
use Rattle.std.proofs.lemmas.List.{append-nil}
use Rattle.map_model.proofs.Places.{entry_there}
use Rattle.aug_monoid.specs.Lending.{entry_of}
use Rattle.tree_walk.specs.Aheads.{behind}
use Rattle.tree_walk.proofs.Dropped.{drop_here}
use Rattle.tree_walk.proofs.Fronts.{first_here}
use Rattle.tree_walk.proofs.seat.is_key_at.Goals as goal

pub unreachable-requires : goal.unreachable-requires
unreachable-requires g c =
    entry_there (g.M.Leaf.Leaf.entries c.in-Inside.leaf.now) c.in-Inside.at (c.in-Inside.ensures.ahead []).0 (sym c.get_at.ensures ∙ ap (option_map entry_of) c.in-None.is)

pub returns-in-Entry-clause-value : goal.returns-in-Entry-clause-value
returns-in-Entry-clause-value g c =
    let es = c.args.tree.now.entries in
    let e : g.row.M-Key.Denot × g.row.M-Val.Denot = (c.in-Entry.entry.key.now, c.in-Entry.entry.val.now) in
    let seat = c.in-Entry.ensures.ahead [] in
    let here = first_here es c.args.at e (c.in-Entry.entry.side.now.entries ++ behind c.in-Entry.ahead seat.0) (sym (append-nil (drop c.args.at es)) ∙ seat.1) in
    subst (λ o. IfSome o (λ e. c.is_eq.result ≡ is_eq (g.M.Key.Ord.cmp e.0 c.args.key.now))) (sym here) (c.is_eq.ensures ∙ ap is_eq c.order.ensures.value)

pub returns-in-Some-clause-value : goal.returns-in-Some-clause-value
returns-in-Some-clause-value g c =
    let es = c.args.tree.now.entries in
    let block = g.M.Leaf.Leaf.entries c.in-Inside.leaf.now in
    let e = entry_of c.in-Some.entry in
    let seat = c.in-Inside.ensures.ahead [] in
    let there : slice_get block c.in-Inside.at ≡ Some e = sym c.get_at.ensures ∙ ap (option_map entry_of) c.in-Some.is in
    let rest = behind c.in-Inside.ahead seat.1.0 in
    let whole = sym (append-nil (drop c.args.at es)) ∙ seat.1.1 ∙ ap (λ l. l ++ rest) (drop_here block c.in-Inside.at e there) in
    let here = first_here es c.args.at e _ whole in
    subst (λ o. IfSome o (λ e. c.is_eq-in-Some.result ≡ is_eq (g.M.Key.Ord.cmp e.0 c.args.key.now))) (sym here) (c.is_eq-in-Some.ensures ∙ ap is_eq (c.order-in-Some.ensures.value ∙ ap (λ k. g.M.Key.Ord.cmp k c.args.key.now) c.key.ensures))
