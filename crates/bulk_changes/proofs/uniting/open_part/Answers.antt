use Rattle.std.proofs.Common.{rules, ◌≡◌, ◌∷◌, ◌++◌, sym, ap, subst, ◌∙◌}
use Rattle.std.specs.Option.{option_map_or}
use Rattle.map_model.specs.Entries.{IsIncreasing}
use Rattle.map_model.proofs.Splits.{IsIncreasing-below, IsIncreasing-above}
use Rattle.map_model.proofs.Unions.{IsIncreasing-union}
use Rattle.bulk_changes.proofs.Halves.{put_together, smaller}
use Rattle.bulk_changes.proofs.uniting.open_part.Goals as goal

pub tree_of_merged-requires : goal.tree_of_merged-requires
tree_of_merged-requires g c =
    let order = g.M.Key.Ord.cmp in
    let f = g.H.Resolve.resolved c.args.how.now in
    let entries = c.in-Entries.entries.items in
    let rises : IsIncreasing order entries = search rules in
    subst (IsIncreasing order) (sym c.in_ok-merged-in-Entries.ensures) (IsIncreasing-union g.met.M.Key.Ord.total f entries c.args.list.now rises)

pub returns-in_ok-val-in-Node : goal.returns-in_ok-val-in-Node
returns-in_ok-val-in-Node g c =
    let order = g.M.Key.Ord.cmp in
    let f = g.H.Resolve.resolved c.args.how.now in
    let tree = c.args.tree in
    let list = c.args.list in
    let left = c.in-Node.left in
    let key = c.in-Node.key in
    let val = c.in-Node.val in
    let right = c.in-Node.right in
    let parts = c.cut_slice-parts in
    let taken : left.entries ++ (key, val) ∷ right.entries ≡ tree.entries = search rules in
    let new = c.in_ok-val-in-Node.ensures ∙ ap (λ o. option_map_or (λ w. f val w) o val) parts.ensures.found in
    let less = smaller tree.entries left.entries (key, val) right.entries (sym taken) in (
      put_together g.met.M.Key.Ord.total g.met.M.Key.Key.exact f (tree, list) (left, parts.result.below) (right, parts.result.above) key val c.in_ok-val-in-Node.val (sym taken) c.size-size.ensures.increasing c.requires parts.ensures.below parts.ensures.above new,
      subst (IsIncreasing order) (sym parts.ensures.below) (IsIncreasing-below order list.now key c.requires),
      subst (IsIncreasing order) (sym parts.ensures.above) (IsIncreasing-above order list.now key c.requires),
      less.0,
      less.1,
    )
