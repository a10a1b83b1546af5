-- What adding a document answers.
use Rattle.std.specs.Prelude.{◌≡◌, ℕ, List, [], ◌∷◌, true, false, length, if◌then◌else◌, ⊤}
use Rattle.std.specs.List.{fold}
use Rattle.std.specs.Ordering.{nat_cmp}
use Rattle.map_model.specs.Entries.{set}
use Rattle.inverted_index.specs.Queries.{Document, is_known}
use Rattle.inverted_index.specs.Terms.{weights_of}
use Rattle.inverted_index.specs.declared.adding.Added.{Added}
use Rattle.inverted_index.specs.declared.adding.Added.TheVariants as added
use Rattle.inverted_index.specs.declared.doc.Doc.{Doc}
use Rattle.inverted_index.specs.declared.doc.Outcome.{Outcome}
use Rattle.inverted_index.specs.declared.doc.Outcome.TheVariants as outcomes

-- the terms that a text has, with their weights
abbrev pub Weighing : Type 0
Weighing = List ℕ → List (List ℕ × ℕ)

-- the document was there; or it wasn't, and now it is, with the terms of the text, of which so many are different
abbrev pub IsAddedBy : Weighing → List Document → ℕ → List ℕ → Added → Type 0
IsAddedBy by ds doc text added.Known = is_known ds doc ≡ true
IsAddedBy by ds doc text (added.New index terms) = (is_known ds doc ≡ false) × (index ≡ set nat_cmp ds doc (by text)) × (terms ≡ length (by text))

abbrev pub IsAdded : List Document → ℕ → List ℕ → Added → Type 0
IsAdded = IsAddedBy weights_of

-- the document was not there
abbrev pub IsNew : Added → Type 0
IsNew added.Known = ⊥
IsNew (added.New index terms) = ⊤

-- the documents with one more and the terms of its text, and as they are where it is known
abbrev pub with_doc_by : Weighing → List Document → ℕ → List ℕ → List Document
with_doc_by by ds doc text = if is_known ds doc then ds else set nat_cmp ds doc (by text)

abbrev pub with_doc : List Document → ℕ → List ℕ → List Document
with_doc = with_doc_by weights_of

-- what becomes of it
abbrev pub outcome_by : Weighing → List Document → ℕ → List ℕ → Outcome
outcome_by by ds doc text = if is_known ds doc then outcomes.Known else outcomes.New (length (by text))

abbrev pub outcome : List Document → ℕ → List ℕ → Outcome
outcome = outcome_by weights_of

-- the documents with those of a batch, added in order
abbrev pub with_docs_by : Weighing → List Document → List Doc → List Document
with_docs_by by ds docs = fold (λ before d. with_doc_by by before d.doc d.text.now) ds docs

abbrev pub with_docs : List Document → List Doc → List Document
with_docs = with_docs_by weights_of

-- what becomes of each, after those before it
abbrev pub outcomes_by : Weighing → List Document → List Doc → List Outcome
outcomes_by by ds [] = []
outcomes_by by ds (d ∷ docs) = outcome_by by ds d.doc d.text.now ∷ outcomes_by by (with_doc_by by ds d.doc d.text.now) docs

abbrev pub outcomes_of : List Document → List Doc → List Outcome
outcomes_of = outcomes_by weights_of
