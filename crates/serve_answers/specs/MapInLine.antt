-- What a served map answers is within one line, and its last line is one.
use Rattle.std.proofs.Common.{◌≡◌, ◌∷◌, ℕ, List, [], codes, length, refl}
use Rattle.std.specs.Prelude.{Option, Some, None}
use Rattle.std.specs.Ordering.{nat_cmp}
use Rattle.map_model.specs.Entries.{lookup}
use Rattle.map_model.specs.Parts.{rank}
use Rattle.aug_monoid.specs.declared.totals.Totals.{Totals}
use Rattle.serve_script.specs.declared.map_words.ServeQuery.{ServeQuery}
use Rattle.serve_script.specs.declared.map_words.ServeQuery.TheVariants as query
use Rattle.serve_answers.specs.MapAnswering.{answer_of, found_reply, last_of, range_totals, totals_of, totals_reply}
use Rattle.serve_text.specs.Determined.{HasNoLineFeed, IsLastLine}
use Rattle.serve_input.proofs.InLine.{final_line, reply_in_line}

found_in_line : (found : Option ℕ) → HasNoLineFeed (found_reply found)
found_in_line None = reply_in_line (codes "none") [] refl
found_in_line (Some v) = reply_in_line (codes "some") (v ∷ []) refl

totals_in_line : (t : Totals) → HasNoLineFeed (totals_reply t)
totals_in_line t = reply_in_line (codes "aug") (t.sum ∷ t.greatest ∷ []) refl

pub answer_in_line : (m : List (ℕ × ℕ)) (q : ServeQuery) → HasNoLineFeed (answer_of m q)
answer_in_line m (query.Get k) = found_in_line (lookup nat_cmp m k)
answer_in_line m (query.Sum lo hi) = totals_in_line (range_totals m lo hi)
answer_in_line m (query.Rank k) = reply_in_line (codes "rank") (rank nat_cmp m k ∷ []) refl
answer_in_line m query.Size = reply_in_line (codes "size") (length m ∷ []) refl

pub last_line : (m : List (ℕ × ℕ)) → IsLastLine (last_of m)
last_line m = final_line (length m) ((totals_of m).sum ∷ (totals_of m).greatest ∷ [])
