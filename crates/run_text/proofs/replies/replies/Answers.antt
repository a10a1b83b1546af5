use Rattle.std.proofs.Common.{List, ℕ, ◌<◌, take, get_or, length, map, sym, subst, arith}
use Rattle.std.proofs.lemmas.Grind.{take_at_read}
use Rattle.run_text.specs.Forms.{Told}
use Rattle.run_text.specs.Parts.{TellsThese}
use Rattle.run_text.proofs.Telling.{these_more, these_reads, tells_no_more}
use Rattle.run_text.proofs.replies.replies.Goals as goal

pub loop-place-preserved : goal.loop-place-preserved
loop-place-preserved c =
    let i = c.loop-place.place-index in
    let place = get_or c.args.places.now i 0 in
    let inside : i < length c.args.places.now = omega arith in
    let longer = these_more (take i c.args.places.now) c.loop-place.told.items c.push.new.self.items c.args.text.now c.loop-place.rest.now c.in-Some.behind.now place c.in-Some.reply c.in-Some.ensures.0 c.in_ok-push.ensures.items
    c.loop-place.invariant c.in-Some.ensures.1 in
    subst (λ (l : List ℕ). TellsThese l c.push.new.self.items c.args.text.now c.in-Some.behind.now) (sym (take_at_read c.args.places.now i 0 inside).1) longer

pub returns-in_default : goal.returns-in_default
returns-in_default c = λ numbers tail tells.
    let i = c.loop-place.place-index in
    let inside : i < length c.args.places.now = omega arith in
    let so_far = these_reads (take i c.args.places.now) c.loop-place.told.items c.args.text.now c.loop-place.rest.now c.loop-place.invariant in
    tells_no_more i c.args.places.now (map (λ (t : Told). t.number) c.loop-place.told.items) numbers c.args.text.now c.loop-place.rest.now tail inside so_far c.in_default.ensures tells
