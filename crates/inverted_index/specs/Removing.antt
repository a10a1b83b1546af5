-- How a document is taken out of postings.
use Rattle.std.specs.Prelude.{ℕ, List, Option, Some, None, cond, is_some}
use Rattle.std.specs.Ordering.{nat_cmp}
use Rattle.map_model.specs.Entries.{drop_key, lookup}
use Rattle.inverted_index.specs.Queries.{if_filled}

-- what stands at a term once a document is taken out of the postings that are found there: what stood before where they haven't it,
-- and nothing where they have no other
abbrev pub taken : ℕ → Option (List (ℕ × ℕ)) → Option (List (ℕ × ℕ)) → Option (List (ℕ × ℕ))
taken doc None before = before
taken doc (Some m) before = cond (is_some (lookup nat_cmp m doc)) (if_filled (drop_key nat_cmp m doc)) before
