-- What follows a leaf.
use Rattle.std.specs.Prelude.{◌≡◌, List, ◌∷◌, ◌++◌, Option, None, Some}
use Rattle.std.proofs.Common.{Bor}
use Rattle.tree_walk.specs.declared.ahead.Following.{Following}
use Rattle.tree_walk.specs.declared.ahead.Ahead.{Ahead}

-- entries behind one that may come first
abbrev pub headed_by : {K V : Type 0} → Option (Bor K × Bor V) → List (K × V) → List (K × V)
headed_by None rest = rest
headed_by (Some entry) rest = (entry.0.now, entry.1.now) ∷ rest

module _ {M K V X A L : Type 0} where
  -- entries behind a node's entry and the side behind it, which may come first
  abbrev pub led_by : Option (Following M K V X A L) → List (K × V) → List (K × V)
  led_by None rest = rest
  led_by (Some f) rest = (f.key.now, f.val.now) ∷ (f.side.now.entries ++ rest)

  -- entries behind those that are known to follow
  abbrev pub behind : Ahead M K V X A L → List (K × V) → List (K × V)
  behind ahead rest = led_by ahead.first (led_by ahead.second (led_by ahead.third (led_by ahead.fourth rest)))

  -- some entries, and then what is known to follow
  abbrev pub GoesOn : List (K × V) → List (K × V) → Ahead M K V X A L → Type 0
  GoesOn left entries ahead = (rest : List (K × V)) × (left ≡ entries ++ behind ahead rest)

  -- with a nearer one, without the farthest
  abbrev pub nearer : Following M K V X A L → Ahead M K V X A L → Ahead M K V X A L
  nearer f ahead = record { first = Some f; second = ahead.first; third = ahead.second; fourth = ahead.third }

  -- without the nearest
  abbrev pub farther : Ahead M K V X A L → Ahead M K V X A L
  farther ahead = record { first = ahead.second; second = ahead.third; third = ahead.fourth; fourth = None }
