use Rattle.std.proofs.Common.{◌<◌, length, subst, refl, arith}
use Rattle.std.proofs.lemmas.List.{take_rest}
use Rattle.gap_code.specs.Code.{IsCodeOf}
use Rattle.gap_code.proofs.Builds.{read, again, appended, first_rises}
use Rattle.gap_code.proofs.gaps.Gaps.append.Goals as goal

pub overflow_sub-number : goal.overflow_sub-number
overflow_sub-number g c =
    let held = subst (IsCodeOf g.V.ValueCode.fits_bytes g.V.ValueCode.bytes_of c.self.inside.code.items c.self.inside.len c.self.inside.last) c.self.view_is c.self.invariant in
    let low = first_rises c.args.from.now c.args.place.now.index c.entry_start-number.result.0 _ _ c.requires.rises c.entry_start-number.ensures.entry in
    omega (arith, held.last_is, low)

pub invariant_of-self-2 : goal.invariant_of-self-2
invariant_of-self-2 g c =
    let held = subst (IsCodeOf g.V.ValueCode.fits_bytes g.V.ValueCode.bytes_of c.self.inside.code.items c.self.inside.len c.self.inside.last) c.self.view_is c.self.invariant in
    let other = subst (IsCodeOf g.V.ValueCode.fits_bytes g.V.ValueCode.bytes_of c.from.inside.code.items c.from.inside.len c.from.inside.last) c.from.view_is c.from.invariant in
    let inside : c.args.place.now.index < length c.args.from.now = omega (arith, other.counted, c.if-place-from.false) in
    again g.V.ValueCode.value_of g.met.V.ValueCode.read_back
    (appended held other c.requires.place inside c.requires.rises c.entry_start-number.result.0 c.entry_start-number.result.1 c.entry_start-number.ensures.rest _ (rw (c.in_default.ensures.appended, c.deref.ensures.value, take_rest) refl))

pub returns : goal.returns
returns g c =
    let held = subst (IsCodeOf g.V.ValueCode.fits_bytes g.V.ValueCode.bytes_of c.self.inside.code.items c.self.inside.len c.self.inside.last) c.self.view_is c.self.invariant in
    let other = subst (IsCodeOf g.V.ValueCode.fits_bytes g.V.ValueCode.bytes_of c.from.inside.code.items c.from.inside.len c.from.inside.last) c.from.view_is c.from.invariant in
    let inside : c.args.place.now.index < length c.args.from.now = omega (arith, other.counted, c.if-place-from.false) in
    read g.V.ValueCode.value_of g.met.V.ValueCode.read_back
    (appended held other c.requires.place inside c.requires.rises c.entry_start-number.result.0 c.entry_start-number.result.1 c.entry_start-number.ensures.rest _ (rw (c.in_default.ensures.appended, c.deref.ensures.value, take_rest) refl))
