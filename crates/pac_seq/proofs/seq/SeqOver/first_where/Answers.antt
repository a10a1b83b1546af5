use Rattle.std.proofs.Common.{ap}
use Rattle.pac_seq.proofs.Passes.{from_unit}
use Rattle.pac_seq.proofs.seq.SeqOver.first_where.Goals as goal

pub returns-then-not-passes-clause-value : goal.returns-then-not-passes-clause-value
returns-then-not-passes-clause-value g c =
    let law = g.met.F.Fold in
    from_unit law.monoid law.image_fits (g.met.T.SumTest.stays c.args.test.now) c.args.self.now.items c.first_in.result (rw (c.unit-none.ensures, ap (λ s. s.items) c.self.view_is) at c.first_in.ensures.value)
