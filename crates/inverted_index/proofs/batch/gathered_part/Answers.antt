use Rattle.std.proofs.Common.{◌<◌, [], arith, false, get_or, length}
use Rattle.std.proofs.lemmas.List.{get_or_default}
use Rattle.std.specs.BTreeMap.{get}
use Rattle.inverted_index.specs.Batches.{outcome_of}
use Rattle.inverted_index.specs.Terms.{bytes_cmp, weighed_by}
use Rattle.inverted_index.specs.declared.marking.Marked.{Marked}
use Rattle.inverted_index.proofs.Batches.{fit_more, gathered_whole, table_more}
use Rattle.inverted_index.proofs.Steps.{map_more}
use Rattle.inverted_index.proofs.batch.gathered_part.Goals as goal

-- what stands for the documents past the end
abbrev empty : Marked
empty = record { doc = 0; text = record { ref_ptr = (0, 0); now = [] }; is_new = false }

pub loop-doc-preserved : goal.loop-doc-preserved
loop-doc-preserved g c =
    let by = weighed_by (g.W.Weigh.weight c.args.weigh.now) in
    let docs = c.args.docs.now in
    let at = c.loop-doc.doc-index in
    let low : at < length docs = omega arith in
    let is = c.in_ok-gather.ensures in
    let doc = get_or docs at empty in
    let same = get_or_default docs at empty doc low in
    record {
      found = λ t. table_more by docs at doc t (get bytes_cmp c.gather.new.table t) (get bytes_cmp c.loop-doc.table t) low same (c.loop-doc.invariant.found t) (is.after t);
      told = map_more (outcome_of by) docs at doc c.push.new.self.items c.loop-doc.outcomes.items c.in_ok-gather.field-0 low same c.loop-doc.invariant.told is.outcome c.in_ok-push.ensures.items;
      fit = fit_more by docs at doc low same c.loop-doc.invariant.fit is.fit;
    }

pub returns : goal.returns
returns g c = gathered_whole (weighed_by (g.W.Weigh.weight c.args.weigh.now)) c.args.docs.now c.loop-doc.doc-index c.in_ok-lists.lists.entries (get bytes_cmp c.loop-doc.table) c.loop-doc.outcomes.items (omega arith) c.in_ok-lists.ensures.rises c.in_ok-lists.ensures.lists c.loop-doc.invariant.found c.loop-doc.invariant.told c.loop-doc.invariant.fit
