use Rattle.std.proofs.Common.{refl}
use Rattle.versions.proofs.Prefixes.{prefix_refl, prefix_trans}
use Rattle.serve_callers.proofs.Turns.{same_stores, published_front}
use Rattle.serve_callers.proofs.combining.combine.Goals as goal

pub loop-turn-init : goal.loop-turn-init
loop-turn-init g c = record { same = record { root = refl; base = refl; lanes = refl }; begins = prefix_refl _ }

pub loop-turn-preserved : goal.loop-turn-preserved
loop-turn-preserved g c = record {
  same = same_stores _ _ _ c.loop-turn.invariant.same c.turn.ensures.same;
  begins = prefix_trans c.loop-turn.invariant.begins (published_front _ _ c.in_ok-turn.ensures.ok);
}
