use Rattle.std.proofs.Common.{◌≡◌, [], map}
use Rattle.std.specs.Map.{keys_of}
use Rattle.std.specs.Slice.Iter.{chunks_rest, chunks_size}
use Rattle.interval_map.specs.Intervals.{with_intervals}
use Rattle.interval_map.specs.Numbers.{interval_of}
use Rattle.interval_map.proofs.sorting.map_of.Given as goal

abbrev pub invariant-loop-chunk : goal.invariant-loop-chunk
invariant-loop-chunk l =
    goal.iterator-loop-chunk.can_next l.chunk-iterator
    × goal.iterator-loop-chunk.is_finite l.chunk-iterator
    × (chunks_size l.chunk-iterator ≡ 1024)
    × (with_intervals (keys_of l.made.entries) (map interval_of (chunks_rest l.chunk-iterator)) ≡ with_intervals [] (map interval_of l.fn.numbers))
