use Rattle.std.proofs.Common.{◌≡◌, ◌<◌, ap, arith, length, ◌∙◌}
use Rattle.std.proofs.lemmas.Result.{IfOk-weaker}
use Rattle.map_model.specs.Entries.{set}
use Rattle.inverted_index.proofs.Removed.{emptied, refilled}
use Rattle.inverted_index.specs.Terms.{bytes_cmp}
use Rattle.inverted_index.proofs.removing.set_postings.Goals as goal

pub returns-then-count-gt0 : goal.returns-then-count-gt0
returns-then-count-gt0 g c =
    let same : length c.map.result.now.entries ≡ length c.args.postings = ap length c.map.ensures in
    let some : 0 < length c.args.postings = omega arith in
    IfOk-weaker c.put_mut.result _ _ (λ u is t. refilled c.args.term.now t c.args.lists.now.entries c.put_mut.new.self.entries c.args.postings some (is ∙ ap (λ k. set bytes_cmp c.args.lists.now.entries k c.args.postings) c.in_ok-key.ensures.value)) c.put_mut.ensures.entries

pub returns : goal.returns
returns g c =
    let same : length c.map.result.now.entries ≡ length c.args.postings = ap length c.map.ensures in
    let none : length c.args.postings ≡ 0 = omega arith in
    IfOk-weaker c.del_mut.result _ _ (λ u is t. emptied c.args.term.now t c.args.lists.now.entries c.del_mut.new.self.entries c.args.postings none is) c.del_mut.ensures.entries
