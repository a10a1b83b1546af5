-- What stands at a place of a sequence.
use Rattle.std.specs.Prelude.{◌≡◌, ◌<◌, List, [], ◌∷◌, ◌++◌, length, drop}
use Rattle.pac_seq.specs.declared.places.Seat.{Seat}
use Rattle.pac_seq.specs.declared.places.Seat.TheVariants.{Inside, Between}

-- a list begins with some items, at least one
pub record IsFront {E : Type 0} (front whole : List E) : Type 0 where
  pub some : 0 < length front
  pub begins : whole ≡ front ++ drop (length front) whole

-- a list ends with some items, or with none
pub record IsBack {E : Type 0} (back whole : List E) : Type 0 where
  pub before : List E
  pub ends : whole ≡ before ++ back

-- the items that a seat lends from its place on
abbrev pub items_at : {F E X : Type 0} → Seat F E X → List E
items_at (Inside before items) = items.now
items_at (Between item) = item.now ∷ []

-- the items that it lends before its place
abbrev pub before_in : {F E X : Type 0} → Seat F E X → List E
before_in (Inside before items) = before.now
before_in (Between item) = []
