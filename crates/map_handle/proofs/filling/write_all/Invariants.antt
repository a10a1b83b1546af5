use Rattle.std.proofs.Common.{ℕ, ◌≡◌, map, take, drop}
use Rattle.map_handle.proofs.filling.write_all.Given as goal

abbrev pub invariant-loop-i : goal.invariant-loop-i
invariant-loop-i l = record {
  keys : take l.i l.keys ≡ map (λ (e : ℕ × ℕ). e.0) (take l.i l.rest);
  vals : take l.i l.vals ≡ map (λ (e : ℕ × ℕ). e.1) (take l.i l.rest);
  keys_rest : drop l.i l.keys ≡ drop l.i l.initial.keys;
  vals_rest : drop l.i l.vals ≡ drop l.i l.initial.vals;
  left : l.entries ≡ drop l.i l.rest;
}
