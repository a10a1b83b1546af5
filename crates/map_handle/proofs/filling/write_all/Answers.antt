use Rattle.std.proofs.Common.{ℕ, ◌∷◌, ◌≡◌, length, drop, min, arith, length-drop, sym, subst, ◌∙◌, ap}
use Rattle.std.specs.Prelude.{IfOk}
use Rattle.map_handle.proofs.Laying.{behind, more_first, more_rest, filled_is}
use Rattle.map_handle.proofs.filling.write_all.Goals as goal

-- as many are left as are written
pub unreachable-requires-in-None : goal.unreachable-requires-in-None
unreachable-requires-in-None c =
    let found = c.args.rest.now in
    let (none, _) = c.in-None.ensures.steps in
    let n : length (drop c.loop-i.i found) ≡ 0 = ap length (sym c.loop-i.invariant.left ∙ none) in
    let l : c.len.result ≡ length found = cc in
    omega (arith, length-drop c.loop-i.i found)

pub loop-i-preserved : goal.loop-i-preserved
loop-i-preserved c =
    let found = c.args.rest.now in
    let entry : ℕ × ℕ = (c.in-Some-Ok.key, c.in-Some-Ok.val) in
    let (given, goes, share, _) = c.in-Some-Ok.ensures.steps in
    let same : entry ≡ given = subst (λ r. IfOk r (λ (e : ℕ × ℕ). e ≡ given)) c.in-Some-Ok.field-0-is share in
    let left : drop c.loop-i.i found ≡ entry ∷ c.next.new.self = sym c.loop-i.invariant.left ∙ goes ∙ ap (λ (e : ℕ × ℕ). e ∷ c.next.new.self) (sym same) in
    let (is, rest) = behind found c.next.new.self c.loop-i.i entry left in
    record {
      keys = more_first (λ (e : ℕ × ℕ). e.0) c.loop-i.keys found c.loop-i.i entry (omega arith) is c.loop-i.invariant.keys;
      vals = more_first (λ (e : ℕ × ℕ). e.1) c.loop-i.vals found c.loop-i.i entry (omega arith) is c.loop-i.invariant.vals;
      keys_rest = more_rest c.loop-i.keys c.args.keys.now c.loop-i.i c.in-Some-Ok.key (omega arith) c.loop-i.auto.keys c.loop-i.invariant.keys_rest;
      vals_rest = more_rest c.loop-i.vals c.args.vals.now c.loop-i.i c.in-Some-Ok.val (omega arith) c.loop-i.auto.vals c.loop-i.invariant.vals_rest;
      left = rest;
    }

pub returns : goal.returns
returns c =
    let e : c.loop-i.i ≡ c.min-count.result = omega arith in
    let found = c.args.rest.now in
    let l : c.len.result ≡ length found = cc in
    let n : c.loop-i.i ≡ min (length c.args.keys.now) (length found) = omega arith in
    ap (λ (k : ℕ). (k, c.loop-i.keys, c.loop-i.vals)) (sym e) ∙ filled_is found c.loop-i.keys c.loop-i.vals c.args.keys.now c.args.vals.now c.loop-i.i n c.loop-i.invariant.keys c.loop-i.invariant.keys_rest c.loop-i.invariant.vals c.loop-i.invariant.vals_rest
