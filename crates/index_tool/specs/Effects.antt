-- What the commands of the tool index do to the documents, and what they reply.
use Rattle.std.specs.Prelude.{ℕ, List, [], ◌∷◌, map, codes, slice_index_or, ⊤}
use Rattle.std.specs.List.{flat_map}
use Rattle.script.specs.Lines.{counted, line_of}
use Rattle.index_tool.specs.declared.commands.IndexCommand.{IndexCommand}
use Rattle.index_tool.specs.declared.commands.IndexCommand.TheVariants as command
use Rattle.inverted_index.specs.Added.{outcome, outcomes_of, with_doc}
use Rattle.inverted_index.specs.Terms.{small}
use Rattle.inverted_index.specs.Queries.{Document, all_of, any_of, without, top, hits_of}
use Rattle.inverted_index.specs.declared.doc.Doc.{Doc}
use Rattle.inverted_index.specs.declared.doc.Outcome.{Outcome}
use Rattle.inverted_index.specs.declared.doc.Outcome.TheVariants as outcomes
use Rattle.inverted_index.specs.declared.hit.Hit.{Hit}

-- the number and the weight of a document that was found
abbrev pub hit_numbers : Hit → List ℕ
hit_numbers h = h.doc ∷ h.weight ∷ []

abbrev pub docs_line : List (ℕ × ℕ) → List ℕ
docs_line answers = line_of (codes "docs") (counted hit_numbers (hits_of answers))

-- a term as it is named, made small
abbrev pub named : List (List ℕ) → ℕ → List ℕ
named terms at = small (slice_index_or terms at [])

-- the reply to a command that adds a document
abbrev pub outcome_line : Outcome → List ℕ
outcome_line outcomes.Known = line_of (codes "known") []
outcome_line (outcomes.New terms) = line_of (codes "ok") (terms ∷ [])

-- the replies to commands that add documents in a row
abbrev pub doc_lines : List Document → List Doc → List ℕ
doc_lines ds docs = flat_map outcome_line (outcomes_of ds docs)

-- a command that changes nothing
abbrev pub Asks : IndexCommand → Type 0
Asks (command.Doc place i text) = ⊥
Asks (command.And place terms) = ⊤
Asks (command.Or place terms) = ⊤
Asks (command.Without place terms) = ⊤
Asks (command.Top place i term) = ⊤

-- the documents after a command
abbrev pub index_after : List Document → IndexCommand → List Document
index_after ds (command.Doc place i text) = with_doc ds i text
index_after ds (command.And place terms) = ds
index_after ds (command.Or place terms) = ds
index_after ds (command.Without place terms) = ds
index_after ds (command.Top place i term) = ds

abbrev pub index_reply : List Document → IndexCommand → List ℕ
index_reply ds (command.Doc place i text) = outcome_line (outcome ds i text)
index_reply ds (command.And place terms) = docs_line (all_of ds (map small terms))
index_reply ds (command.Or place terms) = docs_line (any_of ds (map small terms))
index_reply ds (command.Without place terms) = docs_line (without ds (named terms 0) (named terms 1))
index_reply ds (command.Top place i term) = docs_line (top ds i (small term))
