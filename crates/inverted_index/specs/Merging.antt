-- Postings that are made, found and brought together.
use Rattle.std.specs.Prelude.{ℕ, ◌+◌, ◌-◌, ◌^◌, List, [], ◌∷◌, filter, min, unwrap_or}
use Rattle.std.specs.List.{fold}
use Rattle.std.specs.Map.{keys_of}
use Rattle.std.specs.Ordering.{nat_cmp}
use Rattle.map_model.specs.Entries.{lookup}
use Rattle.map_model.specs.SetOperations.{intersect, union}
use Rattle.inverted_index.specs.Queries.{begins}
use Rattle.inverted_index.specs.Terms.{bytes_cmp}

-- each term with its postings
abbrev pub Lists : Type 0
Lists = List (List ℕ × List (ℕ × ℕ))

-- the postings of a term, none where there is no such term
abbrev pub postings_at : Lists → List ℕ → List (ℕ × ℕ)
postings_at lists term = unwrap_or (lookup bytes_cmp lists term) []

-- the documents of either postings; those of both keep the first weight
abbrev pub merged : List (ℕ × ℕ) → List (ℕ × ℕ) → List (ℕ × ℕ)
merged a b = union nat_cmp (λ x y. x) a b

-- the saturating sum of two weights
abbrev pub sat : ℕ → ℕ → ℕ
sat a b = min (a + b) (2 ^ 64 - 1)

-- the documents that all lists have, with the sums of their weights there and in a
abbrev pub common : List (ℕ × ℕ) → List (List (ℕ × ℕ)) → List (ℕ × ℕ)
common a lists = fold (λ x p. intersect nat_cmp sat x p) a lists

-- the documents that all lists have, with the sums of their weights; all known ones where there are no lists
abbrev pub common_of : List (ℕ × ℕ) → List (List (ℕ × ℕ)) → List (ℕ × ℕ)
common_of known [] = known
common_of known (p ∷ lists) = common p lists

-- the documents that one of the lists has, or a, with the sums of their weights
abbrev pub union_all : List (ℕ × ℕ) → List (List (ℕ × ℕ)) → List (ℕ × ℕ)
union_all a lists = fold (λ x p. union nat_cmp sat x p) a lists

-- the terms of lists that begin with some bytes
abbrev pub terms_with : List ℕ → Lists → List (List ℕ)
terms_with front lists = keys_of (filter (λ e. begins front e.0) lists)
