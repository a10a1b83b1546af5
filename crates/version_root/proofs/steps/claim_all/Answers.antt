use Rattle.std.proofs.Common.{◌≡◌, ◌+◌, ◌*◌, ◌/◌, ◌∷◌, Some, refl, arith, sym, ◌∙◌, ap, subst, vec_len}
use Rattle.std.specs.Prelude.{All}
use Rattle.atomic_table.specs.Table.{rest}
use Rattle.versions.specs.History.{history}
use Rattle.version_root.specs.Root.{IsStripe}
use Rattle.version_root.specs.Seats.{laid}
use Rattle.version_root.proofs.Publishing.{laid_front, all_split, front_of, written_seat}
use Rattle.version_root.proofs.steps.claim_all.Goals as goal

pub exchange-requires : goal.exchange-requires
exchange-requires g c = let q = c.claim.ensures.held in (q.table_is, (Some (history c.args.stripes.now.key.base.value c.loop-copy.seat.me.0.seen), front_of c.claim.new.seat.me.1 c.loop-copy.seat.me.1 _ q.carried_is))

pub overflow_add-stripe : goal.overflow_add-stripe
overflow_add-stripe g c =
    let few = c.requires.writer.striped.few_stripes in
    let count = c.loop-copy.invariant.0 in
    let popped = c.in-Some.ensures.len in
    omega (arith, few, count, popped)

pub loop-copy-preserved : goal.loop-copy-preserved
loop-copy-preserved g c =
    let q = c.claim.ensures.held in
    let e = c.exchange.ensures in
    let i = c.loop-copy.invariant in
    let count : 8 * vec_len c.pop.new.self + (c.loop-copy.stripe + 8) ≡ c.args.stripes.now.table_id.slots = omega (arith, c.in-Some.ensures.len) in
    let stripe : IsStripe (c.loop-copy.stripe + 8) = let here = i.1 in omega arith in (
      count,
      stripe,
      ap (λ m. m.0.seen) e.3 ∙ c.claim.ensures.seen ∙ i.2,
      written_seat c.args.stripes.now.table_id c.args.stripes.now.key.base.value c.claim.new.seat c.exchange.new.seat (c.loop-copy.stripe + 8) _ _ q e.0 e.3,
      λ copy all.
          let so_far = i.4 copy all in
          let split = all_split (λ x. x ≡ copy) c.pop.new.self.items c.in-Some.copy (subst (All (λ x. x ≡ copy)) c.in-Some.ensures.items so_far.0) in (
            split.0,
            ap (λ m. m.1) e.3 ∙ ap (λ xs. (c.loop-copy.stripe, c.in-Some.copy) ∷ xs) (ap rest q.carried_is ∙ so_far.1) ∙ ap (λ v. (c.loop-copy.stripe, v) ∷ laid (c.loop-copy.stripe / 8) copy) split.1 ∙ sym (laid_front (c.loop-copy.stripe + 8) c.loop-copy.stripe copy refl i.1),
          ),
    )

pub returns-clause-copies : goal.returns-clause-copies
returns-clause-copies g c copy all =
    let i = c.loop-copy.invariant in
    let full : c.loop-copy.stripe ≡ c.args.stripes.now.table_id.slots = let none = c.in_default.ensures.cases.0 in let all_of_them = i.0 in omega arith in
    (i.4 copy all).1 ∙ ap (λ n. laid (n / 8) copy) full
