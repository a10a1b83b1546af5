-- How a batch of documents is marked and gathered.
use Rattle.std.specs.Borrow.{Bor}
use Rattle.std.specs.Prelude.{◌≡◌, ℕ, List, [], ◌∷◌, ◌++◌, Option, Some, None, cond, is_some, length, map, not, reverse, unwrap_or}
use Rattle.std.specs.List.{AllByRecursion, fold}
use Rattle.std.specs.Option.{option_map}
use Rattle.std.specs.Ordering.{nat_cmp}
use Rattle.map_model.specs.Entries.{IsIncreasing, lookup, set}
use Rattle.map_model.specs.Operations.{build}
use Rattle.inverted_index.specs.Added.{Weighing}
use Rattle.inverted_index.specs.Documents.{AreFit}
use Rattle.inverted_index.specs.Merging.{Lists}
use Rattle.inverted_index.specs.Queries.{Document, inverted}
use Rattle.inverted_index.specs.Terms.{bytes_cmp}
use Rattle.inverted_index.specs.declared.batch.Gathered.{Gathered}
use Rattle.inverted_index.specs.declared.doc.Doc.{Doc}
use Rattle.inverted_index.specs.declared.doc.Outcome.{Outcome}
use Rattle.inverted_index.specs.declared.doc.Outcome.TheVariants as outcome
use Rattle.inverted_index.specs.declared.marking.Marked.{Marked}

-- known documents with one more of weight 0, and as they are where it is among them
abbrev pub knowing : List (ℕ × ℕ) → ℕ → List (ℕ × ℕ)
knowing known doc = cond (is_some (lookup nat_cmp known doc)) known (set nat_cmp known doc 0)

abbrev pub all_knowing : List (ℕ × ℕ) → List Doc → List (ℕ × ℕ)
all_knowing known docs = fold (λ k d. knowing k d.doc) known docs

-- a document is new where it is not known, neither to the index nor from earlier in the batch
abbrev pub mark_of : List (ℕ × ℕ) → Doc → Marked
mark_of known d = record { doc = d.doc; text = d.text; is_new = not (is_some (lookup nat_cmp known d.doc)) }

abbrev pub marked : List (ℕ × ℕ) → List Doc → List Marked
marked known [] = []
marked known (d ∷ docs) = mark_of known d ∷ marked (knowing known d.doc) docs

-- a marked document with the terms that it adds: none where it is not new
abbrev pub weighed : Weighing → Marked → Document
weighed by m = (m.doc, cond m.is_new (by m.text.now) [])

-- what becomes of it
abbrev pub outcome_of : Weighing → Marked → Outcome
outcome_of by m = cond m.is_new (outcome.New (length (by m.text.now))) outcome.Known

-- documents with weights of a term, and one more, if it has the term
abbrev pub grown : ℕ → Option (List (ℕ × ℕ)) → Option ℕ → Option (List (ℕ × ℕ))
grown doc pairs None = pairs
grown doc pairs (Some w) = Some (unwrap_or pairs [] ++ (doc, w) ∷ [])

-- the map of documents with weights, in which the first weight of a document counts
abbrev pub first_weights : List (ℕ × ℕ) → List (ℕ × ℕ)
first_weights pairs = build nat_cmp (reverse pairs)

-- the postings of marked documents, and what becomes of each
pub record IsGathered (by : Weighing) (docs : List Marked) (lists : Lists) (outcomes : List Outcome) : Type 0 where
  pub rises : IsIncreasing bytes_cmp lists
  pub found : (t : List ℕ) → lookup bytes_cmp lists t ≡ option_map first_weights (inverted (map (weighed by) docs) t)
  pub told : outcomes ≡ map (outcome_of by) docs
  pub fit : AllByRecursion (λ m. AreFit (weighed by m).1) docs

-- ---- a part of the marked documents, as the program has it

abbrev pub Part : Type 0
Part = Bor (List Marked)

abbrev pub IsGatheredOf : Weighing → Part → Gathered → Type 0
IsGatheredOf by part out = IsGathered by part.now out.lists.entries out.outcomes.items

abbrev pub AreParts : Part → Part → Unit {0} → Part → Type 0
AreParts whole front middle back = whole.now ≡ front.now ++ back.now
