use Rattle.std.proofs.Common.{ℕ, List, ◌≡◌, map, ap, ◌∙◌}
use Rattle.std.specs.Ordering.{nat_cmp}
use Rattle.map_model.specs.Entries.{lookup}
use Rattle.map_handle.specs.Arrays.{one_if_some, value_or_zero}
use Rattle.map_handle.proofs.Found.{vals_found, presences_found}
use Rattle.map_handle.proofs.arrays.write_found.Goals as goal

pub returns-in-Ok-clause-vals : goal.returns-in-Ok-clause-vals
returns-in-Ok-clause-vals c =
    let found : c.deref.result.now ≡ map (λ k. lookup nat_cmp c.args.kept.now k) c.args.keys.now =
    c.deref.ensures.value ∙ c.in-Ok.ensures ∙ ap (λ (m : List (ℕ × ℕ)). map (λ k. lookup nat_cmp m k) c.args.keys.now) c.kept.view_is in
    c.write_all_found.ensures.vals ∙ ap (map value_or_zero) found ∙ vals_found c.args.kept.now c.args.keys.now

pub returns-in-Ok-clause-present : goal.returns-in-Ok-clause-present
returns-in-Ok-clause-present c =
    let found : c.deref.result.now ≡ map (λ k. lookup nat_cmp c.args.kept.now k) c.args.keys.now =
    c.deref.ensures.value ∙ c.in-Ok.ensures ∙ ap (λ (m : List (ℕ × ℕ)). map (λ k. lookup nat_cmp m k) c.args.keys.now) c.kept.view_is in
    c.write_all_found.ensures.present ∙ ap (map one_if_some) found ∙ presences_found c.args.kept.now c.args.keys.now
