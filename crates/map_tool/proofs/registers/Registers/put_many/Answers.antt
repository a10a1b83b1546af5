use Rattle.std.proofs.Common.{ℕ, ◌<◌, ◌++◌, length, ap, sym, ◌∙◌, arith}
use Rattle.std.specs.Ordering.{nat_cmp}
use Rattle.std.specs.Prelude.{slice_set}
use Rattle.std.proofs.lemmas.List.{length-map}
use Rattle.map_model.specs.Contents.{Contents}
use Rattle.map_model.specs.Operations.{after, puts}
use Rattle.map_tool.specs.Registers.{maps_of, with_register}
use Rattle.map_tool.specs.Runs.{ok_lines}
use Rattle.map_tool.proofs.Kept.{stored_is, taken_is}
use Rattle.map_tool.proofs.Rows.{after_all-puts, replies-puts, set-set}
use Rattle.put_runs.specs.Sizes.{sizes_after}
use Rattle.map_tool.proofs.registers.Registers.put_many.Goals as goal

pub returns-clause-replies : goal.returns-clause-replies
returns-clause-replies g c =
    let kept = c.self.inside.maps.items in
    let d = c.args.number in
    let entries = c.args.entries.now in
    let within : d < length (maps_of kept) = omega (arith, c.self.invariant, c.requires, length-map kept (λ (m : Contents ℕ ℕ). m.entries)) in
    let taken = taken_is kept d c.index_mut.result.now c.replace-map.result (omega (arith, c.self.invariant, c.requires)) c.index_mut.ensures.value c.replace-map.ensures.value in
    rw (← c.self.view_is) (c.in_ok-push_oks.ensures
    ∙ ap (λ sizes. c.args.text.now.items ++ ok_lines sizes) (c.deref.ensures.value ∙ c.in_ok-map.ensures.sizes ∙ ap (λ m. sizes_after m entries) taken)
    ∙ ap (λ text. c.args.text.now.items ++ text) (sym (replies-puts entries (maps_of kept) d within)))

pub returns-clause-after : goal.returns-clause-after
returns-clause-after g c =
    let kept = c.self.inside.maps.items in
    let d = c.args.number in
    let entries = c.args.entries.now in
    let empty = c.replace-map.new.dest in
    let made = c.in_ok-map.map.entries in
    let within : d < length (maps_of kept) = omega (arith, c.self.invariant, c.requires, length-map kept (λ (m : Contents ℕ ℕ). m.entries)) in
    let taken = taken_is kept d c.index_mut.result.now c.replace-map.result (omega (arith, c.self.invariant, c.requires)) c.index_mut.ensures.value c.replace-map.ensures.value in
    rw (← c.self.view_is) (stored_is (slice_set kept d empty) d c.in_ok-map.map
    ∙ ap (λ rs. with_register rs d made) (stored_is kept d empty)
    ∙ set-set (maps_of kept) d empty.entries made
    ∙ ap (λ m. with_register (maps_of kept) d m) (c.in_ok-map.ensures.entries ∙ ap (λ m. after nat_cmp m (puts entries)) taken)
    ∙ sym (after_all-puts entries (maps_of kept) d within))
