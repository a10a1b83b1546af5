use Rattle.std.proofs.Common.{◌∷◌, ◌++◌, map, ap, take, drop, ◌∙◌, sym, subst, length, arith}
use Rattle.std.proofs.lemmas.List.{length-map}
use Rattle.aug_monoid.specs.Exact.{pair64_cmp}
use Rattle.map_model.specs.Entries.{IsIncreasing}
use Rattle.row_leaf.specs.Code.{cell, place_entry}
use Rattle.row_leaf.proofs.Falling.{falling}
use Rattle.row_leaf.proofs.Views.{rise, spliced_same}
use Rattle.row_leaf.proofs.leaf.RowLeafLeafPair64U64.splice.Goals as goal

pub splice-requires-clause-rises : goal.splice-requires-clause-rises
splice-requires-clause-rises c =
    let seen = spliced_same c.self.inside.gaps c.args.at c.args.upto c.args.key c.args.val ∙ ap (λ es. take c.args.at es ++ (c.args.key, c.args.val) ∷ drop c.args.upto es) c.self.view_is in
    falling (take c.args.at c.self.inside.gaps ++ (c.args.key.first, cell c.args.key.second c.args.val) ∷ drop c.args.upto c.self.inside.gaps) (subst (IsIncreasing pair64_cmp) (sym seen) c.requires.increasing)

pub splice-requires-clause-short : goal.splice-requires-clause-short
splice-requires-clause-short c =
    let seen = spliced_same c.self.inside.gaps c.args.at c.args.upto c.args.key c.args.val ∙ ap (λ es. take c.args.at es ++ (c.args.key, c.args.val) ∷ drop c.args.upto es) c.self.view_is in
    omega (arith, ap length seen, c.requires.short, length-map (take c.args.at c.self.inside.gaps ++ (c.args.key.first, cell c.args.key.second c.args.val) ∷ drop c.args.upto c.self.inside.gaps) place_entry)

pub invariant_of-result : goal.invariant_of-result
invariant_of-result c =
    let seen = spliced_same c.self.inside.gaps c.args.at c.args.upto c.args.key c.args.val ∙ ap (λ es. take c.args.at es ++ (c.args.key, c.args.val) ∷ drop c.args.upto es) c.self.view_is in
    rise _ _ _ c.in_ok-gaps.ensures seen c.requires.increasing

pub returns : goal.returns
returns c =
    let seen = spliced_same c.self.inside.gaps c.args.at c.args.upto c.args.key c.args.val ∙ ap (λ es. take c.args.at es ++ (c.args.key, c.args.val) ∷ drop c.args.upto es) c.self.view_is in
    ap (map place_entry) c.in_ok-gaps.ensures ∙ seen
