-- What the answers of divided work on maps are, and how they are put together.
use Rattle.std.specs.Prelude.{◌≡◌, Bool, Option, List, ◌++◌}
use Rattle.std.specs.Borrow.{Bor}
use Rattle.std.specs.List.{cons_option, filter}
use Rattle.std.specs.declared.cmp.Ordering.{Ordering}
use Rattle.map_model.specs.Contents.{Contents}
use Rattle.map_model.specs.Entries.{IsIncreasing}

module _ {K V P : Type 0} (order : K → K → Ordering) (answer : P → List (K × V)) where
  -- a part's answer is that of its front, an entry if there is one, and that of its back, and increases
  pub record IsPutTogether (part front : P) (middle : Option (K × V)) (back : P) : Type 0 where
    pub whole : answer part ≡ answer front ++ cons_option middle (answer back)
    pub increasing : IsIncreasing order (answer front ++ cons_option middle (answer back))

-- a tree with the answer's entries
abbrev pub IsAnswer : {K V P : Type 0} → (P → List (K × V)) → P → Contents K V → Type 0
IsAnswer answer part out = out.entries ≡ answer part

-- the entries of a tree that pass a test
abbrev pub filtered_entries : {K V : Type 0} → (K → V → Bool) → Bor (Contents K V) → List (K × V)
filtered_entries passes tree = filter (λ e. passes e.0 e.1) tree.now.entries

-- the entries of a slice
abbrev pub slice_entries : {K V : Type 0} → Bor (List (K × V)) → List (K × V)
slice_entries slice = slice.now
