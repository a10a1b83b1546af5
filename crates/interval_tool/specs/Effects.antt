-- What each command of the tool interval does to the intervals, and replies.
use Rattle.std.specs.Prelude.{ℕ, List, [], ◌∷◌, codes, length}
use Rattle.aug_monoid.specs.declared.pair64.Pair64.{Pair64}
use Rattle.interval_map.specs.Intervals.{interval, overlap, stab, with_interval, without_interval}
use Rattle.script.specs.Lines.{counted, line_of}
use Rattle.interval_tool.specs.declared.commands.IntervalCommand.{IntervalCommand}
use Rattle.interval_tool.specs.declared.commands.IntervalCommand.TheVariants as command

-- the intervals after a command
abbrev pub interval_after : List Pair64 → IntervalCommand → List Pair64
interval_after is (command.Add place l r) = with_interval is (interval l r)
interval_after is (command.Del place l r) = without_interval is (interval l r)
interval_after is (command.Size place) = is
interval_after is (command.Any place p) = is
interval_after is (command.Stab place p) = is
interval_after is (command.Over place lo hi) = is

-- the ends of an interval
abbrev pub ends_of : Pair64 → List ℕ
ends_of i = i.first ∷ i.second ∷ []

-- a word and a count
abbrev pub count_line : List ℕ → List Pair64 → List ℕ
count_line word is = line_of word (length is ∷ [])

-- whether there are intervals
abbrev pub any_line : List Pair64 → List ℕ
any_line [] = line_of (codes "no") []
any_line (i ∷ is) = line_of (codes "yes") []

-- how many intervals there are, and which
abbrev pub hits_line : List Pair64 → List ℕ
hits_line is = line_of (codes "hits") (counted ends_of is)

-- the reply to a command, from the intervals before it
abbrev pub interval_reply : List Pair64 → IntervalCommand → List ℕ
interval_reply is (command.Add place l r) = count_line (codes "ok") (with_interval is (interval l r))
interval_reply is (command.Del place l r) = count_line (codes "ok") (without_interval is (interval l r))
interval_reply is (command.Size place) = count_line (codes "size") is
interval_reply is (command.Any place p) = any_line (stab is p)
interval_reply is (command.Stab place p) = hits_line (stab is p)
interval_reply is (command.Over place lo hi) = hits_line (overlap is lo hi)
