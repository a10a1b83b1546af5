use Rattle.std.proofs.Common.{◌+◌, take, drop, subst, arith, length-append, length-drop}
use Rattle.std.proofs.lemmas.List.{length-take-le}
use Rattle.gap_code.specs.Code.{IsCodeOf}
use Rattle.gap_code.proofs.Builds.{codable_falls, falling_past}
use Rattle.gap_code.proofs.gaps.Gaps.without.Goals as goal

pub overflow_add-at : goal.overflow_add-at
overflow_add-at g c =
    let held = subst (IsCodeOf g.V.ValueCode.fits_bytes g.V.ValueCode.bytes_of c.self.inside.code.items c.self.inside.len c.self.inside.last) c.self.view_is c.self.invariant in
    omega (arith, held.counted, c.requires)

pub append-requires-clause-rises : goal.append-requires-clause-rises
append-requires-clause-rises g c =
    let held = subst (IsCodeOf g.V.ValueCode.fits_bytes g.V.ValueCode.bytes_of c.self.inside.code.items c.self.inside.len c.self.inside.last) c.self.view_is c.self.invariant in
    rw (c.in_ok-rest.ensures, c.place_from-after.ensures.index, c.place_at-before.ensures.index) (falling_past c.args.self.now c.args.at c.requires (codable_falls g.V.ValueCode.fits_bytes c.args.self.now 0 held.codable))

pub append-requires-clause-short : goal.append-requires-clause-short
append-requires-clause-short g c =
    let held = subst (IsCodeOf g.V.ValueCode.fits_bytes g.V.ValueCode.bytes_of c.self.inside.code.items c.self.inside.len c.self.inside.last) c.self.view_is c.self.invariant in
    let es = c.args.self.now in
    let at = c.args.at in
    rw (c.in_ok-rest.ensures, c.place_from-after.ensures.index, c.place_at-before.ensures.index)
    (omega (arith, length-append (take at es) (drop (at + 1) es), length-take-le at es (omega (arith, c.requires)), length-drop (at + 1) es, held.counted, c.requires))
