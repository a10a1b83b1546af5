use Rattle.std.proofs.Common.{rules, ◌≡◌, ℕ, List, false, true}
use Rattle.entry_bytes.specs.Format.{IsMap, encoding}
use Rattle.map_handle.proofs.as_bytes.from_bytes.Goals as goal

pub returns-in-Err-2 : goal.returns-in-Err-2
returns-in-Err-2 c =
    let refusal : (m : List (ℕ × ℕ)) → IsMap m → c.args.bytes.now ≡ encoding m → ⊥ =
    λ m law is. let wrong : false ≡ true = c.if-is_memory.ensures.others (c.in-Err.ensures.accepts m law is) in cc in
    search rules
