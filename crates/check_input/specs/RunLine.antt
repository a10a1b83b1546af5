-- The line that parts a served input and a text.
use Rattle.std.specs.Prelude.{◌-◌, ◌==◌, ◌||◌, ◌&&◌, ◌++◌, ◌∷◌, [], ℕ, Bool, List, Option, codes, drop, length, slice_index_or, take}
use Rattle.std.specs.List.{find, range_with_len}
use Rattle.std.specs.Str.{bytes_eq}
use Rattle.script.specs.Lines.{line_feed}

abbrev pub run_word : List ℕ
run_word = codes "run" ++ line_feed ∷ []

-- whether a line begins at a place: it is the first one, or follows a line feed
abbrev pub begins_line : List ℕ → ℕ → Bool
begins_line bytes at = (at == 0) || (slice_index_or bytes (at - 1) 0 == line_feed)

-- whether the line `run` stands at a place
unfoldable pub is_run_line : List ℕ → ℕ → Bool
is_run_line bytes at = begins_line bytes at && bytes_eq (take 4 (drop at bytes)) run_word

-- the first place at which the line `run` stands
unfoldable pub run_line : List ℕ → Option ℕ
run_line bytes = find (is_run_line bytes) (range_with_len 0 (length bytes))
