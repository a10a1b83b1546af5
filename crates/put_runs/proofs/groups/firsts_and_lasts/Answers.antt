use Rattle.std.proofs.Common.{◌≡◌, ◌∙◌, ap}
use Rattle.put_runs.specs.Places.{last_of_each, valued}
use Rattle.put_runs.proofs.FirstPlaces.{firsts_are}
use Rattle.put_runs.proofs.LastPlaces.{lasts_are}
use Rattle.put_runs.proofs.groups.firsts_and_lasts.Goals as goal

pub returns-clause-firsts : goal.returns-clause-firsts
returns-clause-firsts g c =
    let entries = c.args.entries.now in
    rw c.keep_first_of_each.ensures (firsts_are entries c.in_ok-places.places.items c.in_ok-places.ensures.sorted c.in_ok-places.ensures.stable)

pub returns-clause-lasts : goal.returns-clause-lasts
returns-clause-lasts g c =
    let entries = c.args.entries.now in
    let is : c.in_ok-lasts.lasts.items ≡ valued entries (last_of_each c.in_ok-places.places.items) = c.in_ok-lasts.ensures ∙ ap (λ places. valued entries (last_of_each places)) c.deref.ensures.value in
    rw is (lasts_are entries c.in_ok-places.places.items c.in_ok-places.ensures.sorted c.in_ok-places.ensures.stable)
