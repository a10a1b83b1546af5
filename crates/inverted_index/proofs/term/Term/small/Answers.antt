use Rattle.std.proofs.Common.{◌≡◌, arith, rules}
use Rattle.std.specs.Arc.{arc_value}
use Rattle.std.proofs.lemmas.Grind.{common_steps}
use Rattle.inverted_index.specs.Terms.{small}
use Rattle.inverted_index.proofs.Texts.{small_term}
use Rattle.inverted_index.proofs.term.Term.small.Goals as goal

pub invariant_of-result : goal.invariant_of-result
invariant_of-result c =
    let is : (arc_value c.in_ok-new.field-0).items ≡ small c.args.bytes.now = first_of (search rules, grind (arith, common_steps)) in
    small_term (arc_value c.in_ok-new.field-0).items c.args.bytes.now is c.requires
