-- A clamped block size is lawful.
use Rattle.std.proofs.Common.{ℕ, arith}
use Rattle.map_model.specs.Balance.{IsBlockSize}
use Rattle.tree_shape.specs.Clamped.{clamped}

pub clamped_lawful : (n : ℕ) → IsBlockSize (clamped n)
clamped_lawful n = (omega arith, omega arith)
