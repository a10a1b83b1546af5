use Rattle.std.proofs.Common.{rules}
use Rattle.std.proofs.lemmas.Iterator.Consumers.{map_from_collect}
use Rattle.std.proofs.lemmas.Iterator.Splits.{YieldsList-from_slice_split}
use Rattle.std.proofs.lemmas.Result.{IfOk-weaker}
use Rattle.inverted_index.proofs.Texts.{lent_letters}
use Rattle.inverted_index.specs.Terms.{separates}
use Rattle.inverted_index.proofs.text.parts_of.Goals as goal

pub returns-clause-value : goal.returns-clause-value
returns-clause-value c = map_from_collect _ c.collect.ensures.ran (YieldsList-from_slice_split _ separates c.args.text.now c.split.ensures.rest c.split.ensures.done c.split.ensures.closure (λ x b q k. search rules))

pub returns-clause-lawful : goal.returns-clause-lawful
returns-clause-lawful c = IfOk-weaker c.collect.result _ _ (λ parts is. lent_letters parts.items c.args.text.now is) (map_from_collect _ c.collect.ensures.ran (YieldsList-from_slice_split _ separates c.args.text.now c.split.ensures.rest c.split.ensures.done c.split.ensures.closure (λ x b q k. search rules)))
