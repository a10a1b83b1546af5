use Rattle.std.proofs.Common.{◌≡◌, ◌<◌, ◌≤◌, ℕ, List, ap, arith, get_or, length, subst, sym, take, ◌∙◌}
use Rattle.std.proofs.lemmas.List.{length-map, take_all}
use Rattle.std.specs.BTreeMap.{get}
use Rattle.map_model.specs.Entries.{lookup}
use Rattle.inverted_index.proofs.Batches.{pushed_more}
use Rattle.inverted_index.proofs.Kept.{IsIncreasing-revalued}
use Rattle.inverted_index.proofs.Weighed.{one_fits, reweighed_at}
use Rattle.inverted_index.specs.Batches.{grown}
use Rattle.inverted_index.specs.Documents.{AreFit}
use Rattle.inverted_index.specs.Terms.{bytes_cmp, reweighed}
use Rattle.inverted_index.proofs.table.push_doc.Goals as goal

pub loop-term-preserved : goal.loop-term-preserved
loop-term-preserved g c =
    let weight : ℕ → ℕ = λ times. g.W.Weigh.weight c.args.weigh.now times c.args.terms in
    let W : List (List ℕ × ℕ) = reweighed weight c.args.counts.now in
    let at = c.loop-term.term-index in
    let e : List ℕ × ℕ = c.loop-term-item.result in
    let low : at < length c.args.counts.now = omega arith in
    let inside : at < length W = subst (λ (n : ℕ). at < n) (sym (length-map c.args.counts.now _)) low in
    let rises = IsIncreasing-revalued weight bytes_cmp c.args.counts.now c.requires in
    let told : weight e.1 ≡ c.in_ok-weight.weight = sym c.in_ok-weight.ensures in
    let P : ℕ → Type 0 = λ n. (e.0, n) ≡ get_or W at (e.0, n) in
    let same : (e.0, c.in_ok-weight.weight) ≡ get_or W at (e.0, c.in_ok-weight.weight) = subst P told (reweighed_at weight c.args.counts.now at e low c.loop-term-item.is) in
    record {
      after = λ t. pushed_more W at c.args.doc (e.0, c.in_ok-weight.weight) t (get bytes_cmp c.push_pair.new.table t) (get bytes_cmp c.args.table.now t) (get bytes_cmp c.loop-term.table t) rises inside same (c.loop-term.invariant.after t) (c.in_ok-push_pair.ensures t);
      fit = one_fits W at (e.0, c.in_ok-weight.weight) inside same c.loop-term.invariant.fit (omega arith);
    }

pub returns : goal.returns
returns g c =
    let weight : ℕ → ℕ = λ times. g.W.Weigh.weight c.args.weigh.now times c.args.terms in
    let W : List (List ℕ × ℕ) = reweighed weight c.args.counts.now in
    let at = c.loop-term.term-index in
    let high : length W ≤ at = subst (λ (n : ℕ). n ≤ at) (sym (length-map c.args.counts.now _)) c.loop-term-test.false in
    let whole : take at W ≡ W = take_all at W high in
    let P : List (List ℕ × ℕ) → Type 0 = λ l. AreFit l in
    record {
      after = λ t. c.loop-term.invariant.after t ∙ ap (λ l. grown c.args.doc (get bytes_cmp c.args.table.now t) (lookup bytes_cmp l t)) whole;
      fit = subst P whole c.loop-term.invariant.fit;
    }
