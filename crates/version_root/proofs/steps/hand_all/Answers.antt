use Rattle.std.proofs.Common.{◌≡◌, ◌+◌, ◌-◌, ◌/◌, ◌<◌, ◌≤◌, Some, arith, sym, ◌∙◌, subst, inl, inr, ⊎_elim}
use Rattle.versions.specs.History.{history}
use Rattle.versions.specs.Prefix.{IsPrefix}
use Rattle.version_root.specs.Root.{IsStripe}
use Rattle.version_root.specs.Seats.{laid}
use Rattle.versions.proofs.Prefixes.{prefix_refl}
use Rattle.version_root.proofs.Claims.{hands}
use Rattle.version_root.proofs.Publishing.{laid_front, handed_seat}
use Rattle.version_root.proofs.steps.hand_all.Goals as goal

pub store-requires : goal.store-requires
store-requires g c =
    let q = c.loop-held.invariant.2 in
    let base = c.args.stripes.now.key.base.value in
    let next = c.requires.grows in
    let journal = next.0 in
    let so_far = c.loop-held.invariant.3 journal next.2 in
    let whole = c.loop-held.invariant.1 in
    let last : c.loop-held.held - 8 + 8 ≡ c.loop-held.held = omega arith in
    let stripe : IsStripe (c.loop-held.held - 8) = omega arith in
    let square = q.striped.square in
    let lead = q.lead.2 in
    let inside : c.loop-held.held - 8 < c.args.stripes.now.table_id.words = omega arith in (
      q.table_is,
      inside,
      hands base c.args.stripes.now.table_id.slots c.loop-held.seat.id c.loop-held.seat.me q.lead.0 q.lead.1 base (c.loop-held.held - 8) journal (laid ((c.loop-held.held - 8) / 8) (Some (history base journal)))
          (last ∙ sym q.lead.2) stripe q.base_is (so_far.0 ∙ laid_front c.loop-held.held (c.loop-held.held - 8) (Some (history base journal)) last stripe)
          (⊎_elim (λ t. subst (λ seen. IsPrefix seen journal) (sym t.1) next.1) (λ t. subst (λ seen. IsPrefix seen journal) (sym t) (prefix_refl journal)) so_far.1)
          (⊎_elim (λ t. inr (q.lead.2 ∙ t.0 ∙ c.requires.count)) (λ t. inl (sym t)) so_far.1),
    )

pub loop-held-preserved : goal.loop-held-preserved
loop-held-preserved g c =
    let q = c.loop-held.invariant.2 in
    let base = c.args.stripes.now.key.base.value in
    let whole = c.loop-held.invariant.1 in
    let last : c.loop-held.held - 8 + 8 ≡ c.loop-held.held = omega arith in
    let stripe : IsStripe (c.loop-held.held - 8) = omega arith in
    let less : c.loop-held.held - 8 ≤ c.args.count = omega arith in
    let table = c.args.stripes.now.table_id in (
      less,
      stripe,
      (handed_seat table base c.loop-held.seat c.store.new.seat c.loop-held.held (c.loop-held.held - 8) c.requires.grows.0 last stripe q (c.loop-held.invariant.3 c.requires.grows.0 c.requires.grows.2).0 c.store.ensures.0 c.store.ensures.2).0,
      λ journal at.
          let after = handed_seat table base c.loop-held.seat c.store.new.seat c.loop-held.held (c.loop-held.held - 8) journal last stripe q (c.loop-held.invariant.3 journal at).0 c.store.ensures.0 c.store.ensures.2 in
          (after.1, inr after.2),
    )
