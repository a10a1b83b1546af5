use Rattle.std.proofs.Common.{subst, arith}
use Rattle.gap_code.specs.Code.{IsCodeOf}
use Rattle.gap_code.proofs.Builds.{read, again, pushed}
use Rattle.gap_code.proofs.gaps.Gaps.push.Goals as goal

pub invariant_of-self-2 : goal.invariant_of-self-2
invariant_of-self-2 g c =
    let held = subst (IsCodeOf g.V.ValueCode.fits_bytes g.V.ValueCode.bytes_of c.self.inside.code.items c.self.inside.len c.self.inside.last) c.self.view_is c.self.invariant in
    again g.V.ValueCode.value_of g.met.V.ValueCode.read_back (pushed held c.args.number c.args.val.now _ c.requires.rises (omega (arith, c.ranges.number.fits)) c.in_default.ensures.fits c.in_default.ensures.appended)

pub returns-clause-pushed : goal.returns-clause-pushed
returns-clause-pushed g c =
    let held = subst (IsCodeOf g.V.ValueCode.fits_bytes g.V.ValueCode.bytes_of c.self.inside.code.items c.self.inside.len c.self.inside.last) c.self.view_is c.self.invariant in
    read g.V.ValueCode.value_of g.met.V.ValueCode.read_back (pushed held c.args.number c.args.val.now _ c.requires.rises (omega (arith, c.ranges.number.fits)) c.in_default.ensures.fits c.in_default.ensures.appended)
