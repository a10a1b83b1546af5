use Rattle.std.proofs.Common.{subst, sym, arith}
use Rattle.std.proofs.lemmas.List.{length-take-le}
use Rattle.gap_code.specs.Code.{IsCodeOf}
use Rattle.gap_code.proofs.Builds.{read, again, byte_within, started}
use Rattle.gap_code.proofs.gaps.Gaps.start.Goals as goal

pub slice_bounds-extend_from_slice-end : goal.slice_bounds-extend_from_slice-end
slice_bounds-extend_from_slice-end g c =
    let held = subst (IsCodeOf g.V.ValueCode.fits_bytes g.V.ValueCode.bytes_of c.self.inside.code.items c.self.inside.len c.self.inside.last) c.self.view_is c.self.invariant in
    rw c.deref.ensures.value (sym (length-take-le _ _ (byte_within held c.requires)))

pub invariant_of-result : goal.invariant_of-result
invariant_of-result g c =
    let held = subst (IsCodeOf g.V.ValueCode.fits_bytes g.V.ValueCode.bytes_of c.self.inside.code.items c.self.inside.len c.self.inside.last) c.self.view_is c.self.invariant in
    again g.V.ValueCode.value_of g.met.V.ValueCode.read_back (started held c.requires _ (rw (c.in_ok-extend_from_slice.ensures.items, c.in_ok-code.ensures.items, c.deref.ensures.value) (grind arith)))

pub returns : goal.returns
returns g c =
    let held = subst (IsCodeOf g.V.ValueCode.fits_bytes g.V.ValueCode.bytes_of c.self.inside.code.items c.self.inside.len c.self.inside.last) c.self.view_is c.self.invariant in
    read g.V.ValueCode.value_of g.met.V.ValueCode.read_back (started held c.requires _ (rw (c.in_ok-extend_from_slice.ensures.items, c.in_ok-code.ensures.items, c.deref.ensures.value) (grind arith)))
