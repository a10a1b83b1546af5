-- What the first documents of a term take, by the number of postings: pairs of a document and a term that it has.
use Rattle.std.specs.Prelude.{ℕ, ◌+◌, ◌*◌, List, [], ◌∷◌, length}
use Rattle.inverted_index.specs.Queries.{Document}

-- how many postings there are
abbrev pub posting_count : List Document → ℕ
posting_count [] = 0
posting_count (d ∷ ds) = length d.1 + posting_count ds

-- the most steps of a search for the heaviest document and of its removal: 3 * h + 129 and 64 * (h + 1) * 66 + 9
abbrev pub removal_cost : ℕ → ℕ
removal_cost height = 4227 * height + 4362

-- the most steps of the first k documents of a term: the search for the term, and for each document a search and a removal
abbrev pub top_cost : ℕ → ℕ → ℕ
top_cost k height = k * removal_cost height + (height + 9)
