use Rattle.std.proofs.Common.{arith, sym}
use Rattle.std.proofs.lemmas.List.{length-map}
use Rattle.gap_code.specs.SeekLaws.{found_at, found_hit, passed_at, passed_hit, go_on, end_at, end_hit}
use Rattle.row_leaf.specs.Code.{place_entry}
use Rattle.row_leaf.proofs.Seeks.{pair_total, placed}
use Rattle.row_leaf.proofs.seek.seek_key.Goals as goal

pub loop-place-preserved : goal.loop-place-preserved
loop-place-preserved g c =
    let got = placed c.args.gaps.now c.loop-place.place.index c.pass-passed.result.key c.pass-passed.ensures.entry.0 c.pass-passed.ensures.entry.1 in
    record {
      place = c.pass-passed.ensures.place;
      lower = rw c.pass-passed.ensures.index (go_on pair_total c.args.key.now _ c.requires _ c.loop-place.invariant.lower _ c.pass-passed.ensures.entry.0 got (sym c.in-Less.ensures.value));
      counted = omega (arith, c.in-Less.ensures.one_step, c.loop-place.invariant.counted, c.pass-passed.ensures.index);
    }

pub returns-in-Equal-clause-at : goal.returns-in-Equal-clause-at
returns-in-Equal-clause-at g c =
    found_at pair_total c.args.key.now _ c.requires _ c.loop-place.invariant.lower _ c.pass-passed.ensures.entry.0 (placed c.args.gaps.now c.loop-place.place.index c.pass-passed.result.key c.pass-passed.ensures.entry.0 c.pass-passed.ensures.entry.1) (sym c.in-Equal.ensures.value)

pub returns-in-Equal-clause-hit : goal.returns-in-Equal-clause-hit
returns-in-Equal-clause-hit g c =
    found_hit pair_total c.args.key.now _ c.requires _ c.loop-place.invariant.lower _ c.pass-passed.ensures.entry.0 (placed c.args.gaps.now c.loop-place.place.index c.pass-passed.result.key c.pass-passed.ensures.entry.0 c.pass-passed.ensures.entry.1) (sym c.in-Equal.ensures.value)

pub returns-in-Greater-clause-at : goal.returns-in-Greater-clause-at
returns-in-Greater-clause-at g c =
    passed_at pair_total c.args.key.now _ c.requires _ c.loop-place.invariant.lower _ c.pass-passed.ensures.entry.0 (placed c.args.gaps.now c.loop-place.place.index c.pass-passed.result.key c.pass-passed.ensures.entry.0 c.pass-passed.ensures.entry.1) (sym c.in-Greater.ensures.value)

pub returns-in-Greater-clause-hit : goal.returns-in-Greater-clause-hit
returns-in-Greater-clause-hit g c =
    passed_hit pair_total c.args.key.now _ c.requires _ c.loop-place.invariant.lower _ c.pass-passed.ensures.entry.0 (placed c.args.gaps.now c.loop-place.place.index c.pass-passed.result.key c.pass-passed.ensures.entry.0 c.pass-passed.ensures.entry.1) (sym c.in-Greater.ensures.value)

pub returns-clause-at : goal.returns-clause-at
returns-clause-at g c =
    let w = c.loop-place.invariant.place.within in
    end_at pair_total c.args.key.now _ c.requires _ c.loop-place.invariant.lower (omega (arith, length-map c.args.gaps.now place_entry))

pub returns-clause-hit : goal.returns-clause-hit
returns-clause-hit g c =
    let w = c.loop-place.invariant.place.within in
    end_hit pair_total c.args.key.now _ c.requires _ c.loop-place.invariant.lower (omega (arith, length-map c.args.gaps.now place_entry))
