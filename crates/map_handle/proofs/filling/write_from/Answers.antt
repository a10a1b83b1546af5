use Rattle.std.proofs.Common.{ℕ, ◌≡◌, ◌-◌, length, drop, min, arith, length-drop, sym, ◌∙◌, ap}
use Rattle.std.specs.Prelude.{Some, slice_get}
use Rattle.map_handle.proofs.Laying.{more_first, more_rest, filled_is, slice_get-drop}
use Rattle.map_handle.proofs.filling.write_from.Goals as goal

pub loop-i-preserved : goal.loop-i-preserved
loop-i-preserved c =
    let found = drop c.args.start c.args.kept.now in
    let is : slice_get found c.loop-i.i ≡ Some (c.in-Some.key, c.in-Some.val) = slice_get-drop c.args.start c.args.kept.now c.loop-i.i ∙ sym c.entry_at.ensures ∙ c.in-Some.is in
    record {
      keys = more_first (λ (e : ℕ × ℕ). e.0) c.loop-i.keys found c.loop-i.i (c.in-Some.key, c.in-Some.val) (omega arith) is c.loop-i.invariant.keys;
      vals = more_first (λ (e : ℕ × ℕ). e.1) c.loop-i.vals found c.loop-i.i (c.in-Some.key, c.in-Some.val) (omega arith) is c.loop-i.invariant.vals;
      keys_rest = more_rest c.loop-i.keys c.args.keys.now c.loop-i.i c.in-Some.key (omega arith) c.loop-i.auto.keys c.loop-i.invariant.keys_rest;
      vals_rest = more_rest c.loop-i.vals c.args.vals.now c.loop-i.i c.in-Some.val (omega arith) c.loop-i.auto.vals c.loop-i.invariant.vals_rest;
    }

pub returns : goal.returns
returns c =
    let e : c.loop-i.i ≡ c.min-count.result = omega arith in
    let found = drop c.args.start c.args.kept.now in
    let l : c.len.result ≡ length c.args.kept.now = cc in
    let n : c.loop-i.i ≡ min (length c.args.keys.now) (length found) = omega (arith, length-drop c.args.start c.args.kept.now) in
    ap (λ (k : ℕ). (k, c.loop-i.keys, c.loop-i.vals)) (sym e) ∙ filled_is found c.loop-i.keys c.loop-i.vals c.args.keys.now c.args.vals.now c.loop-i.i n c.loop-i.invariant.keys c.loop-i.invariant.keys_rest c.loop-i.invariant.vals c.loop-i.invariant.vals_rest
