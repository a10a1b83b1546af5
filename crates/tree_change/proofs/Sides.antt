-- How many entries the sides of a node may have after one of them has gained or lost an entry, or has as many.
use Rattle.std.proofs.Common.{ℕ, ◌+◌, ◌≤◌, arith}
use Rattle.map_model.specs.Balance.{FillsNode, IsBalanced}
use Rattle.tree_change.specs.Room.{HasRoom, CanSpare}

pub balance_turned : (near far : ℕ) → IsBalanced near far → IsBalanced far near
balance_turned near far balanced = (balanced.1, balanced.0)

pub fill_turned : (block near far : ℕ) → FillsNode block near far → FillsNode block far near
fill_turned block near far filled room =
    let blocks = filled (omega (arith, room)) in
    (blocks.1, blocks.0)

module _ (block near new far : ℕ) where
  pub grown_balance : near ≤ new → new ≤ near + 1 → IsBalanced (near + 1) (far + 1) → HasRoom block near far → IsBalanced (new + 1) (far + 1)
  grown_balance more few old room = (omega (arith, few, room.balanced.0), omega (arith, more, old.1))

  pub grown_fill : near ≤ new → new ≤ near + 1 → FillsNode block near far → HasRoom block near far → FillsNode block new far
  grown_fill more few old room small =
      let blocks = old (omega (arith, more, small)) in
      let filled = room.filled in
      ((omega (arith, more, blocks.0.0), grind (arith, few, more, small, filled, blocks.0.1)), blocks.1)

  pub spared_balance : new ≤ near → near ≤ new + 1 → IsBalanced (near + 1) (far + 1) → CanSpare block near far → IsBalanced (new + 1) (far + 1)
  spared_balance less few old spare = (omega (arith, less, old.0), omega (arith, few, spare.balanced.1))

  pub spared_fill : new ≤ near → near ≤ new + 1 → FillsNode block near far → CanSpare block near far → FillsNode block new far
  spared_fill less few old spare small =
      let kept = spare.filled (omega (arith, few, small)) in
      let blocks = old (omega (arith, kept.0)) in
      ((omega (arith, few, kept.1), omega (arith, less, blocks.0.1)), blocks.1)
