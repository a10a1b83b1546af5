use Rattle.std.proofs.Common.{◌∙◌, ℕ, ap, sym, arith}
use Rattle.std.specs.Ordering.{nat_cmp}
use Rattle.std.proofs.lemmas.Result.{IfOk-weaker}
use Rattle.map_model.specs.Contents.{Contents}
use Rattle.map_model.specs.Entries.{set}
use Rattle.map_tool.specs.Registers.{maps_of, with_register}
use Rattle.map_tool.proofs.Kept.{register_is, stored_is}
use Rattle.map_tool.proofs.registers.Registers.put.Goals as goal

pub returns-clause-after : goal.returns-clause-after
returns-clause-after g c =
    let kept = c.self.inside.maps.items in
    let here = ap (λ (m : Contents ℕ ℕ). m.entries) c.index_mut.ensures.value ∙ sym (register_is kept c.args.number c.index_mut.result.now (omega (arith, c.self.invariant, c.requires))) in
    rw (← c.self.view_is) (IfOk-weaker c.put_and_reply.result _ _ (λ _ changed.
    stored_is kept c.args.number c.put_and_reply.new.map
    ∙ ap (λ m. with_register (maps_of kept) c.args.number m) (changed ∙ ap (λ m. set nat_cmp m c.args.k c.args.v) here)) c.put_and_reply.ensures.entries)
