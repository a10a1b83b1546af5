use Rattle.std.proofs.Common.{rules, ◌≡◌, true, refl}
use Rattle.std.specs.Result.{is_ok}
use Rattle.pam_top.specs.Sample.{number_at}
use Rattle.pam_top.proofs.SampleFacts.{number-more, pairs-more}
use Rattle.pam_top.proofs.sample.Generator.pairs.Goals as goal

pub loop-init : goal.loop-init
unfolding number_at
loop-init c = record { pairs = c.in_ok-pairs.ensures.items; number = refl }

pub loop-preserved : goal.loop-preserved
loop-preserved c =
    let good : is_ok c.push.result ≡ true = search rules in
    let items = rw good at c.push.ensures.items in
    record {
      pairs = rw (items, c.pair.ensures.pair, c.loop.invariant.pairs, c.loop.invariant.number) (pairs-more c.args.size c.args.self.now.number c.loop.counter);
      number = rw (c.pair.ensures.number, c.loop.invariant.number) (number-more c.args.self.now.number c.loop.counter);
    }
