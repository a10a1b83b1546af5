use Rattle.std.proofs.Common.{◌≡◌, [], cond, sym, ap, ◌∙◌}
use Rattle.std.proofs.lemmas.List.{nil_from_length}
use Rattle.bulk_ops.proofs.combining.open_sides.Goals as goal

pub returns-then-first-eq0-clause-opened : goal.returns-then-first-eq0-clause-opened
returns-then-first-eq0-clause-opened g c =
    let how = c.args.how.now in
    let none : c.args.a.entries ≡ [] = nil_from_length c.args.a.entries (sym c.size-first.ensures.value ∙ c.if-first-eq0.true) in
    c.kept_or_none.ensures ∙ ap (λ k. cond k c.args.b.entries []) c.keeps_second.ensures
    ∙ sym ((g.met.W.Combination.laws how).second_alone c.args.b.entries c.size-second.ensures.increasing)
    ∙ ap (λ a. g.W.Combination.combined how a c.args.b.entries) (sym none)

pub returns-then-second-eq0-clause-opened : goal.returns-then-second-eq0-clause-opened
returns-then-second-eq0-clause-opened g c =
    let how = c.args.how.now in
    let none : c.args.b.entries ≡ [] = nil_from_length c.args.b.entries (sym c.size-second.ensures.value ∙ c.if-second-eq0.true) in
    c.kept_or_none-then-second-eq0.ensures ∙ ap (λ k. cond k c.args.a.entries []) c.keeps_first.ensures
    ∙ sym ((g.met.W.Combination.laws how).first_alone c.args.a.entries c.size-first.ensures.increasing)
    ∙ ap (λ b. g.W.Combination.combined how c.args.a.entries b) (sym none)
