-- Beginnings of lists.
use Rattle.std.specs.Prelude.{◌≡◌, List, length, take, nat_lt, if◌then◌else◌}

-- the first list is the beginning of the second
pub record IsPrefix {A : Type 0} (front whole : List A) : Type 0 where
  pub is : take (length front) whole ≡ front

-- the longer of two lists, and the first where they are as long
abbrev pub longer : {A : Type 0} → List A → List A → List A
longer first second = (if nat_lt (length first) (length second) then second else first)
