use Rattle.std.proofs.Common.{◌∷◌, ◌++◌, map, ap₂, ap, ◌∙◌, sym, subst, length, arith}
use Rattle.std.proofs.lemmas.List.{length-map}
use Rattle.aug_monoid.specs.Exact.{pair64_cmp}
use Rattle.map_model.specs.Entries.{IsIncreasing}
use Rattle.row_leaf.specs.Code.{cell, place_entry}
use Rattle.row_leaf.proofs.Falling.{falling}
use Rattle.row_leaf.proofs.Views.{rise, joined_same}
use Rattle.row_leaf.proofs.leaf.RowLeafLeafPair64U64.concat3.Goals as goal

pub concat-requires-clause-rises : goal.concat-requires-clause-rises
concat-requires-clause-rises c =
    let seen = joined_same c.self.inside.gaps c.right.inside.gaps c.args.key c.args.val ∙ ap₂ (λ l r. l ++ (c.args.key, c.args.val) ∷ r) c.self.view_is c.right.view_is in
    falling (c.self.inside.gaps ++ (c.args.key.first, cell c.args.key.second c.args.val) ∷ c.right.inside.gaps) (subst (IsIncreasing pair64_cmp) (sym seen) c.requires.increasing)

pub concat-requires-clause-short : goal.concat-requires-clause-short
concat-requires-clause-short c =
    let seen = joined_same c.self.inside.gaps c.right.inside.gaps c.args.key c.args.val ∙ ap₂ (λ l r. l ++ (c.args.key, c.args.val) ∷ r) c.self.view_is c.right.view_is in
    omega (arith, ap length seen, c.requires.short, length-map (c.self.inside.gaps ++ (c.args.key.first, cell c.args.key.second c.args.val) ∷ c.right.inside.gaps) place_entry)

pub invariant_of-result : goal.invariant_of-result
invariant_of-result c =
    let seen = joined_same c.self.inside.gaps c.right.inside.gaps c.args.key c.args.val ∙ ap₂ (λ l r. l ++ (c.args.key, c.args.val) ∷ r) c.self.view_is c.right.view_is in
    rise _ _ _ c.in_ok-gaps.ensures seen c.requires.increasing

pub returns : goal.returns
returns c =
    let seen = joined_same c.self.inside.gaps c.right.inside.gaps c.args.key c.args.val ∙ ap₂ (λ l r. l ++ (c.args.key, c.args.val) ∷ r) c.self.view_is c.right.view_is in
    ap (map place_entry) c.in_ok-gaps.ensures ∙ seen
