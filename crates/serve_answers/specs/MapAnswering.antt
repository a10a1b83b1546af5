-- What a map from numbers to numbers answers.
use Rattle.std.specs.Prelude.{◌∷◌, [], ℕ, List, Option, Some, None, codes, length}
use Rattle.std.specs.Ordering.{nat_cmp}
use Rattle.map_model.specs.Entries.{lookup}
use Rattle.map_model.specs.Fold.{fold_of, range_fold}
use Rattle.map_model.specs.Parts.{rank}
use Rattle.aug_monoid.specs.Totals.{totals_base, totals_combine, totals_unit}
use Rattle.aug_monoid.specs.declared.totals.Totals.{Totals}
use Rattle.script.specs.Lines.{line_of, reply_of}
use Rattle.serve_script.specs.declared.map_words.ServeQuery.{ServeQuery}
use Rattle.serve_script.specs.declared.map_words.ServeQuery.TheVariants as query

-- the saturating sum and the greatest of all values
unfoldable pub totals_of : List (ℕ × ℕ) → Totals
totals_of m = fold_of (λ (key val : ℕ). totals_base val) totals_unit totals_combine m

-- those of the values at keys from lo to hi
unfoldable pub range_totals : List (ℕ × ℕ) → ℕ → ℕ → Totals
range_totals m lo hi = range_fold nat_cmp (λ (key val : ℕ). totals_base val) totals_unit totals_combine m lo hi

-- a value that may be absent
abbrev pub found_reply : Option ℕ → List ℕ
found_reply None = reply_of (codes "none") []
found_reply (Some v) = reply_of (codes "some") (v ∷ [])

abbrev pub totals_reply : Totals → List ℕ
totals_reply t = reply_of (codes "aug") (t.sum ∷ t.greatest ∷ [])

-- the answer to a query
abbrev pub answer_of : List (ℕ × ℕ) → ServeQuery → List ℕ
answer_of m (query.Get k) = found_reply (lookup nat_cmp m k)
answer_of m (query.Sum lo hi) = totals_reply (range_totals m lo hi)
answer_of m (query.Rank k) = reply_of (codes "rank") (rank nat_cmp m k ∷ [])
answer_of m query.Size = reply_of (codes "size") (length m ∷ [])

-- the last line: how many entries there are, and the totals of all values
abbrev pub last_of : List (ℕ × ℕ) → List ℕ
last_of m = line_of (codes "final") (length m ∷ (totals_of m).sum ∷ (totals_of m).greatest ∷ [])
