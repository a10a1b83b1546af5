use Rattle.std.proofs.Common.{◌≡◌, ◌≤◌, ◌∷◌, ◌++◌, Some, None, is_some, length, take, drop, vec_len, sym, ap, subst, ◌∙◌, arith}
use Rattle.std.specs.Option.{option_map}
use Rattle.std.proofs.lemmas.Result.{on_ok_weaker}
use Rattle.map_model.specs.Entries.{below, lookup}
use Rattle.map_model.proofs.Cuts.{place_any, place_found}
use Rattle.bulk_changes.proofs.Puts.{changed_at, put_at}
use Rattle.bulk_changes.proofs.putting.put_entry.Goals as goal

pub insert_entry-requires : goal.insert_entry-requires
insert_entry-requires g c =
    let items = c.args.entries.now.items in
    let place = ap length (c.cut_slice-parts.ensures.below ∙ ap (λ es. below g.K.Ord.cmp es c.args.entry.now.0) c.deref.ensures.value) in
    subst (λ n. n ≤ length items) (sym place) (place_any g.K.Ord.cmp items c.args.entry.now.0)

pub returns-in_default : goal.returns-in_default
returns-in_default g c =
    let items = c.args.entries.now.items in
    let place = ap length (c.cut_slice-parts.ensures.below ∙ ap (λ es. below g.K.Ord.cmp es c.args.entry.now.0) c.deref.ensures.value) in
    let absent : lookup g.K.Ord.cmp items c.args.entry.now.0 ≡ None = sym (c.cut_slice-parts.ensures.found ∙ ap (λ es. lookup g.K.Ord.cmp es c.args.entry.now.0) c.deref.ensures.value) ∙ ap (option_map (λ v. v.now)) c.in_default.is in
    let put = put_at g.met.K.Ord.total g.met.K.Key.exact (g.H.Resolve.resolved c.args.how.now) items c.args.entry.now c.requires _ place absent in
    let at = length c.cut_slice-parts.result.below.now in
    on_ok_weaker c.insert_entry.result (λ h. h ∙ ap (λ e. take at items ++ e ∷ drop at items) c.in_ok-shared.ensures.value ∙ put) c.insert_entry.ensures

pub index_mut-requires : goal.index_mut-requires
index_mut-requires g c =
    let items = c.args.entries.now.items in
    let place = ap length (c.cut_slice-parts.ensures.below ∙ ap (λ es. below g.K.Ord.cmp es c.args.entry.now.0) c.deref.ensures.value) in
    let found : lookup g.K.Ord.cmp items c.args.entry.now.0 ≡ Some c.in-Some.old.now = sym (c.cut_slice-parts.ensures.found ∙ ap (λ es. lookup g.K.Ord.cmp es c.args.entry.now.0) c.deref.ensures.value) ∙ ap (option_map (λ v. v.now)) c.in-Some.is in
    let here = place_found g.met.K.Ord.total g.met.K.Key.exact items c.args.entry.now.0 c.requires (ap is_some found) in
    let len : vec_len c.args.entries.now ≡ length items = grind arith in
    omega (arith, len, here, place)

pub returns : goal.returns
returns g c =
    let items = c.args.entries.now.items in
    let place = ap length (c.cut_slice-parts.ensures.below ∙ ap (λ es. below g.K.Ord.cmp es c.args.entry.now.0) c.deref.ensures.value) in
    let found : lookup g.K.Ord.cmp items c.args.entry.now.0 ≡ Some c.in-Some.old.now = sym (c.cut_slice-parts.ensures.found ∙ ap (λ es. lookup g.K.Ord.cmp es c.args.entry.now.0) c.deref.ensures.value) ∙ ap (option_map (λ v. v.now)) c.in-Some.is in
    changed_at g.met.K.Ord.total g.met.K.Key.exact (g.H.Resolve.resolved c.args.how.now) items c.args.entry.now c.requires c.index_mut.result.now _ c.in-Some.old.now _ place found c.index_mut.ensures.value c.in_ok-val.ensures
