use Rattle.std.proofs.Common.{◌≡◌, ◌/◌, List, [], Some, sym, ◌∙◌, ap, subst}
use Rattle.std.specs.Arc.{arc_value}
use Rattle.versions.specs.declared.batch.Entry.{Entry}
use Rattle.versions.specs.History.{history}
use Rattle.version_root.specs.Seats.{IsWriterSeat, Writing, laid}
use Rattle.version_root.proofs.writer.Writer.publish.Goals as goal

pub invariant_of-self : goal.invariant_of-self
invariant_of-self g c =
    let root = arc_value c.self.inside.root in
    let journal = c.args.version.journal in
    let base_is : c.args.version.base ≡ root.shared.key.base.value = c.requires.base ∙ sym (ap (λ (w : Writing g.row.S.Denot g.row.S-Op.Denot). w.base) c.self.view_is) in
    let version_is : c.args.version ≡ history root.shared.key.base.value journal = ap (λ base. history base journal) base_is in
    let count : c.deref-2.result.now.shared.table_id.slots ≡ c.slot_count-count.result = ap (λ t. t.shared.table_id.slots) (c.deref-2.ensures ∙ sym c.deref.ensures) ∙ sym c.slot_count-count.ensures in
    let carried : c.claim_all.new.seat.me.1 ≡ laid (c.slot_count-count.result / 8) (Some (history root.shared.key.base.value journal)) =
    c.claim_all.ensures.copies (Some c.args.version) c.in_ok-copies.ensures.1 ∙ ap (λ n. laid (n / 8) (Some c.args.version)) count ∙ ap (λ v. laid (c.slot_count-count.result / 8) (Some v)) version_is in
    let after = subst (λ t. (xs : List (Entry g.row.S-Op.Denot)) → c.claim_all.new.seat.me.1 ≡ laid (c.slot_count-count.result / 8) (Some (history t.shared.key.base.value xs))
    → IsWriterSeat t.shared.table_id t.shared.key.base.value 0 [] c.hand_all.new.seat × (c.hand_all.new.seat.me.0.seen ≡ xs)) c.deref-3.ensures c.hand_all.ensures journal carried in
    record {
      seat_is = after.0;
      current_is = version_is ∙ ap (λ xs. history root.shared.key.base.value xs) (sym after.1);
    }

pub returns-clause-ok : goal.returns-clause-ok
returns-clause-ok g c =
    let root = arc_value c.self.inside.root in
    let journal = c.args.version.journal in
    let base_is : c.args.version.base ≡ root.shared.key.base.value = c.requires.base ∙ sym (ap (λ (w : Writing g.row.S.Denot g.row.S-Op.Denot). w.base) c.self.view_is) in
    let version_is : c.args.version ≡ history root.shared.key.base.value journal = ap (λ base. history base journal) base_is in
    let count : c.deref-2.result.now.shared.table_id.slots ≡ c.slot_count-count.result = ap (λ t. t.shared.table_id.slots) (c.deref-2.ensures ∙ sym c.deref.ensures) ∙ sym c.slot_count-count.ensures in
    let carried : c.claim_all.new.seat.me.1 ≡ laid (c.slot_count-count.result / 8) (Some (history root.shared.key.base.value journal)) =
    c.claim_all.ensures.copies (Some c.args.version) c.in_ok-copies.ensures.1 ∙ ap (λ n. laid (n / 8) (Some c.args.version)) count ∙ ap (λ v. laid (c.slot_count-count.result / 8) (Some v)) version_is in
    let after = subst (λ t. (xs : List (Entry g.row.S-Op.Denot)) → c.claim_all.new.seat.me.1 ≡ laid (c.slot_count-count.result / 8) (Some (history t.shared.key.base.value xs))
    → IsWriterSeat t.shared.table_id t.shared.key.base.value 0 [] c.hand_all.new.seat × (c.hand_all.new.seat.me.0.seen ≡ xs)) c.deref-3.ensures c.hand_all.ensures journal carried in
    λ k. record { root = (c.self.view_is k).root; base = (c.self.view_is k).base; journal = after.1 k }
