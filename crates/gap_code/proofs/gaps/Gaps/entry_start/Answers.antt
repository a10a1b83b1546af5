use Rattle.std.proofs.Common.{subst, ◌∙◌, arith}
use Rattle.gap_code.specs.Code.{IsCodeOf}
use Rattle.gap_code.proofs.Places.{begins, number_fits, within, reads, entry, next, rest}
use Rattle.gap_code.proofs.gaps.Gaps.entry_start.Goals as goal

pub number_at-gap-requires : goal.number_at-gap-requires
number_at-gap-requires g c =
    let held = subst (IsCodeOf g.V.ValueCode.fits_bytes g.V.ValueCode.bytes_of c.self.inside.code.items c.self.inside.len c.self.inside.last) c.self.view_is c.self.invariant in
    rw (c.deref.ensures.value ∙ held.is) (begins held c.requires.place c.requires.inside)

pub overflow_add-result : goal.overflow_add-result
overflow_add-result g c =
    let held = subst (IsCodeOf g.V.ValueCode.fits_bytes g.V.ValueCode.bytes_of c.self.inside.code.items c.self.inside.len c.self.inside.last) c.self.view_is c.self.invariant in
    let stored = c.deref.ensures.value ∙ held.is in
    omega (arith, number_fits held c.requires.place c.requires.inside _ _ (rw stored at c.number_at-gap.ensures.value) (rw stored at c.number_at-gap.ensures.after))

pub returns-clause-counted : goal.returns-clause-counted
returns-clause-counted g c =
    let held = subst (IsCodeOf g.V.ValueCode.fits_bytes g.V.ValueCode.bytes_of c.self.inside.code.items c.self.inside.len c.self.inside.last) c.self.view_is c.self.invariant in
    omega (arith, held.counted)

pub returns-clause-within : goal.returns-clause-within
returns-clause-within g c =
    let held = subst (IsCodeOf g.V.ValueCode.fits_bytes g.V.ValueCode.bytes_of c.self.inside.code.items c.self.inside.len c.self.inside.last) c.self.view_is c.self.invariant in
    let stored = c.deref.ensures.value ∙ held.is in
    within held c.requires.place c.requires.inside _ _ (rw stored at c.number_at-gap.ensures.value) (rw stored at c.number_at-gap.ensures.after)

pub returns-clause-reads : goal.returns-clause-reads
returns-clause-reads g c =
    let held = subst (IsCodeOf g.V.ValueCode.fits_bytes g.V.ValueCode.bytes_of c.self.inside.code.items c.self.inside.len c.self.inside.last) c.self.view_is c.self.invariant in
    let stored = c.deref.ensures.value ∙ held.is in
    reads held c.requires.place c.requires.inside _ _ (rw stored at c.number_at-gap.ensures.value) (rw stored at c.number_at-gap.ensures.after)

pub returns-clause-entry : goal.returns-clause-entry
returns-clause-entry g c =
    let held = subst (IsCodeOf g.V.ValueCode.fits_bytes g.V.ValueCode.bytes_of c.self.inside.code.items c.self.inside.len c.self.inside.last) c.self.view_is c.self.invariant in
    let stored = c.deref.ensures.value ∙ held.is in
    entry held c.requires.place c.requires.inside _ _ (rw stored at c.number_at-gap.ensures.value) (rw stored at c.number_at-gap.ensures.after) g.V.ValueCode.value_of g.met.V.ValueCode.read_back

pub returns-clause-next : goal.returns-clause-next
returns-clause-next g c =
    let held = subst (IsCodeOf g.V.ValueCode.fits_bytes g.V.ValueCode.bytes_of c.self.inside.code.items c.self.inside.len c.self.inside.last) c.self.view_is c.self.invariant in
    let stored = c.deref.ensures.value ∙ held.is in
    next held c.requires.place c.requires.inside _ _ (rw stored at c.number_at-gap.ensures.value) (rw stored at c.number_at-gap.ensures.after) g.V.ValueCode.value_of g.met.V.ValueCode.read_back

pub returns-clause-rest : goal.returns-clause-rest
returns-clause-rest g c =
    let held = subst (IsCodeOf g.V.ValueCode.fits_bytes g.V.ValueCode.bytes_of c.self.inside.code.items c.self.inside.len c.self.inside.last) c.self.view_is c.self.invariant in
    let stored = c.deref.ensures.value ∙ held.is in
    rest held c.requires.place c.requires.inside _ _ (rw stored at c.number_at-gap.ensures.value) (rw stored at c.number_at-gap.ensures.after)
