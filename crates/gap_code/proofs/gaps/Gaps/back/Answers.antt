use Rattle.std.proofs.Common.{subst}
use Rattle.gap_code.specs.Code.{IsCodeOf}
use Rattle.gap_code.proofs.Builds.{codable_falls, falling_anew}
use Rattle.gap_code.proofs.gaps.Gaps.back.Goals as goal

pub append-requires-clause-rises : goal.append-requires-clause-rises
append-requires-clause-rises g c =
    let held = subst (IsCodeOf g.V.ValueCode.fits_bytes g.V.ValueCode.bytes_of c.self.inside.code.items c.self.inside.len c.self.inside.last) c.self.view_is c.self.invariant in
    rw c.in_ok-part.ensures (falling_anew c.args.self.now c.place_at-place.result.index (codable_falls g.V.ValueCode.fits_bytes c.args.self.now 0 held.codable))
