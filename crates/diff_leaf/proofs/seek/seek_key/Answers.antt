use Rattle.std.proofs.Common.{arith, sym}
use Rattle.std.proofs.lemmas.Cmp.{nat_cmp_total}
use Rattle.gap_code.specs.SeekLaws.{found_at, found_hit, passed_at, passed_hit, go_on, end_at, end_hit}
use Rattle.diff_leaf.proofs.seek.seek_key.Goals as goal

pub loop-place-preserved : goal.loop-place-preserved
loop-place-preserved g c =
    record {
      place = c.pass-next.ensures.place;
      lower = rw c.pass-next.ensures.index (go_on nat_cmp_total c.args.key _ c.requires _ c.loop-place.invariant.lower _ c.pass-next.ensures.entry.0 c.pass-next.ensures.entry.1 (sym c.in-Less.ensures.value));
      counted = omega (arith, c.in-Less.ensures.one_step, c.loop-place.invariant.counted, c.pass-next.ensures.index);
    }

pub returns-in-Equal-clause-at : goal.returns-in-Equal-clause-at
returns-in-Equal-clause-at g c =
    found_at nat_cmp_total c.args.key _ c.requires _ c.loop-place.invariant.lower _ c.pass-next.ensures.entry.0 c.pass-next.ensures.entry.1 (sym c.in-Equal.ensures.value)

pub returns-in-Equal-clause-hit : goal.returns-in-Equal-clause-hit
returns-in-Equal-clause-hit g c =
    found_hit nat_cmp_total c.args.key _ c.requires _ c.loop-place.invariant.lower _ c.pass-next.ensures.entry.0 c.pass-next.ensures.entry.1 (sym c.in-Equal.ensures.value)

pub returns-in-Greater-clause-at : goal.returns-in-Greater-clause-at
returns-in-Greater-clause-at g c =
    passed_at nat_cmp_total c.args.key _ c.requires _ c.loop-place.invariant.lower _ c.pass-next.ensures.entry.0 c.pass-next.ensures.entry.1 (sym c.in-Greater.ensures.value)

pub returns-in-Greater-clause-hit : goal.returns-in-Greater-clause-hit
returns-in-Greater-clause-hit g c =
    passed_hit nat_cmp_total c.args.key _ c.requires _ c.loop-place.invariant.lower _ c.pass-next.ensures.entry.0 c.pass-next.ensures.entry.1 (sym c.in-Greater.ensures.value)

pub returns-clause-at : goal.returns-clause-at
returns-clause-at g c =
    let w = c.loop-place.invariant.place.within in
    end_at nat_cmp_total c.args.key _ c.requires _ c.loop-place.invariant.lower (omega arith)

pub returns-clause-hit : goal.returns-clause-hit
returns-clause-hit g c =
    let w = c.loop-place.invariant.place.within in
    end_hit nat_cmp_total c.args.key _ c.requires _ c.loop-place.invariant.lower (omega arith)
