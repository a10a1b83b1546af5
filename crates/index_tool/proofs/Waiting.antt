-- Documents that wait to be added after others, and one more.
use Rattle.std.proofs.Common.{◌≡◌, ◌<◌, ◌≤◌, ◌+◌, ℕ, List, [], ◌∷◌, ◌++◌, drop, get_or, length, refl, sym, ap, ap₂, ◌∙◌, append_assoc, append-nil}
use Rattle.std.specs.List.{flat_map}
use Rattle.std.proofs.lemmas.Grind.{flat_map-append}
use Rattle.std.proofs.lemmas.List.Sums.{fold-append}
use Rattle.index_tool.specs.Effects.{Asks, doc_lines, index_after, index_reply, outcome_line}
use Rattle.index_tool.specs.declared.commands.IndexCommand.{IndexCommand}
use Rattle.index_tool.specs.declared.commands.IndexCommand.TheVariants as command
use Rattle.script.specs.Replies.{replies, replies-end, replies-next}
use Rattle.inverted_index.specs.Added.{outcome, outcomes_of, with_doc, with_docs}
use Rattle.inverted_index.specs.Queries.{Document}
use Rattle.inverted_index.specs.declared.doc.Doc.{Doc}

outcomes_more : (docs : List Doc) (ds : List Document) (d : Doc) → outcomes_of ds (docs ++ d ∷ []) ≡ outcomes_of ds docs ++ outcome (with_docs ds docs) d.doc d.text.now ∷ []
outcomes_more [] ds d = refl
outcomes_more (e ∷ docs) ds d = ap (λ x. outcome ds e.doc e.text.now ∷ x) (outcomes_more docs (with_doc ds e.doc e.text.now) d)

-- the documents with one more that waits
pub docs_more : (ds : List Document) (docs : List Doc) (d : Doc) → with_docs ds (docs ++ d ∷ []) ≡ with_doc (with_docs ds docs) d.doc d.text.now
docs_more ds docs d = fold-append (λ x e. with_doc x e.doc e.text.now) ds docs (d ∷ [])

-- the replies
pub lines_more : (text : List ℕ) (ds : List Document) (docs : List Doc) (d : Doc) → text ++ doc_lines ds (docs ++ d ∷ []) ≡ (text ++ doc_lines ds docs) ++ outcome_line (outcome (with_docs ds docs) d.doc d.text.now)
lines_more text ds docs d =
    ap (λ x. text ++ flat_map outcome_line x) (outcomes_more docs ds d)
    ∙ ap (λ x. text ++ x) (flat_map-append outcome_line (outcomes_of ds docs) (outcome (with_docs ds docs) d.doc d.text.now ∷ []))
    ∙ ap (λ x. text ++ (doc_lines ds docs ++ x)) (append-nil (outcome_line (outcome (with_docs ds docs) d.doc d.text.now)))
    ∙ sym (append_assoc text (doc_lines ds docs) (outcome_line (outcome (with_docs ds docs) d.doc d.text.now)))

-- a question changes nothing
pub asks_keeps : (ds : List Document) (c : IndexCommand) → Asks c → index_after ds c ≡ ds
asks_keeps ds (command.Doc place i text) asks = absurd asks
asks_keeps ds (command.And place terms) asks = refl
asks_keeps ds (command.Or place terms) asks = refl
asks_keeps ds (command.Without place terms) asks = refl
asks_keeps ds (command.Top place i term) asks = refl

-- the replies so far, after one more command
pub replies_more : (whole out more : List ℕ) (s next : List Document) (cs : List IndexCommand) (i : ℕ) (c : IndexCommand) → i < length cs → c ≡ get_or cs i c → whole ≡ out ++ replies index_reply index_after s (drop i cs) → more ≡ out ++ index_reply s c → next ≡ index_after s c → whole ≡ more ++ replies index_reply index_after next (drop (i + 1) cs)
replies_more whole out more s next cs i c low is so_far told after =
    replies-next index_reply index_after whole out s cs i c low is so_far
    ∙ sym (ap₂ (λ o d. o ++ replies index_reply index_after d (drop (i + 1) cs)) told after)

-- and after all
pub replies_whole : (whole out text : List ℕ) (s : List Document) (cs : List IndexCommand) (i : ℕ) → length cs ≤ i → whole ≡ out ++ replies index_reply index_after s (drop i cs) → text ≡ out → text ≡ whole
replies_whole whole out text s cs i high so_far told = told ∙ sym (replies-end index_reply index_after whole out s cs i high so_far)
