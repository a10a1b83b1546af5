use Rattle.std.proofs.Common.{◌≡◌, slice_get, ◌+◌, ◌*◌, ◌/◌, ◌%◌, sym, ◌∙◌, ap, arith, length-append}
use Rattle.shared_log.specs.Pages.{paged}
use Rattle.shared_log.proofs.At.{at_left, paged_length, full_at, at_page}
use Rattle.shared_log.proofs.SharedLog.get.Goals as goal

-- the place is in a full page
pub get-requires-2 : goal.get-requires-2
get-requires-2 g c =
    let full = paged_length c.self.inside.full c.self.invariant.1 in
    let sum = length-append (paged c.self.inside.full) c.self.inside.last in
    let whole = c.self.invariant.0 in
    let before = c.if-at-below.false in
    let last = c.len.ensures in
    grind (arith, full, sum, whole, before, last)

pub get-requires-3 : goal.get-requires-3
get-requires-3 g c =
    let long = full_at c.self.inside.full (c.args.at / 32) c.get-2.result.now c.self.invariant.1 c.get-2.ensures in
    grind (arith, long)

pub returns : goal.returns
returns g c =
    let full = c.self.inside.full in
    let sum = length-append (paged full) c.self.inside.last in
    let whole = c.self.invariant.0 in
    let before = c.if-at-below.false in
    let last = c.len.ensures in
    let place : c.args.at / 32 * 32 + c.args.at % 32 ≡ c.args.at = omega arith in
    record {
      value = rw (← c.self.view_is)
          (sym (at_left (paged full) c.self.inside.last c.args.at (grind (arith, sum, whole, before, last))
          ∙ ap (slice_get (paged full)) (sym place)
          ∙ at_page full (c.args.at / 32) (c.args.at % 32) c.get-2.result.now c.self.invariant.1 (omega arith) c.get-2.ensures
          ∙ c.get-3.ensures));
    }
