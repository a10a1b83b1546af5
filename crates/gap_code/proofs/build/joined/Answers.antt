use Rattle.std.proofs.Common.{◌∷◌, take, drop}
use Rattle.gap_code.proofs.Codes.{last_key-append}
use Rattle.gap_code.proofs.Builds.{falling_parts}
use Rattle.gap_code.proofs.build.joined.Goals as goal

pub push-requires-clause-rises : goal.push-requires-clause-rises
push-requires-clause-rises g c = rw c.in_ok-whole.ensures (falling_parts (take c.args.before.now.index c.args.left.now) ((c.args.number, c.args.val.now) ∷ drop c.args.after.now.index c.args.right.now) 0 c.requires.rises).0

pub append-requires-clause-rises : goal.append-requires-clause-rises
append-requires-clause-rises g c =
    rw (c.in_ok-push.ensures.pushed, c.in_ok-whole.ensures, last_key-append) (falling_parts (take c.args.before.now.index c.args.left.now) ((c.args.number, c.args.val.now) ∷ drop c.args.after.now.index c.args.right.now) 0 c.requires.rises).1
