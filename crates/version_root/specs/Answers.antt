-- What a reader answers, and what it has seen then.
use Rattle.std.specs.Prelude.{◌≡◌, ◌≢◌, ◌+◌, ◌*◌, ◌<◌, ℕ, List, [], length, slice_get, Some, min}
use Rattle.atomic_table.specs.Seated.{TableId}
use Rattle.version_root.specs.declared.reader.Missed.{Missed}
use Rattle.version_root.specs.declared.reader.Missed.TheVariants.{Busy, NoMemory}
use Rattle.versions.specs.Prefix.{IsPrefix}
use Rattle.version_root.specs.Seats.{Reading, Writing}

module _ {S O : Type 0} where
  -- the reader is the same one
  pub record Stays (old new : Reading S O) : Type 0 where
    pub root : new.root ≡ old.root
    pub base : new.base ≡ old.base
    pub number : new.number ≡ old.number

  -- no turn was lost, and what is seen begins with what was seen
  pub record Advances (old new : Reading S O) : Type 0 where
    pub seen : IsPrefix old.seen new.seen
    pub lost : new.lost ≡ old.lost
    pub found : new.found ≡ old.found

  -- one turn was lost, to the seat with the number `word`
  pub record Loses (old new : Reading S O) (word : ℕ) : Type 0 where
    pub seen : new.seen ≡ old.seen
    pub lost : new.lost ≡ old.lost + 1
    pub found : new.found ≡ word
    pub taken : word ≢ 0
    pub other : word ≢ old.number

  abbrev pub Misses : Reading S O → Reading S O → Missed → Type 0
  Misses old new (Busy word) = Loses old new word
  Misses old new NoMemory = Advances old new

abbrev pub fresh_reader : {S O : Type 0} → TableId → S → ℕ → Reading S O
fresh_reader root base k = record { root = root; base = base; number = k + 2; seen = []; lost = 0; found = 0 }

-- so many readers who have seen nothing yet, with the numbers from 2 on
pub record AreFresh {S O : Type 0} (root : TableId) (base : S) (count : ℕ) (readers : List (Reading S O)) : Type 0 where
  pub count_is : length readers ≡ count
  pub each_reader : (k : ℕ) → k < count → slice_get readers k ≡ Some (fresh_reader root base k)

-- The root has `min count 8` stripes, each with eight words of which one is used. What both ends have seen is empty. The readers have the numbers from 2 on
pub record IsStart {S O : Type 0} (base : S) (count : ℕ) (writer : Writing S O) (readers : List (Reading S O)) : Type 0 where
  pub base_is : writer.base ≡ base
  pub stripes_are : writer.root.words ≡ 8 * min count 8
  pub journal_is : writer.journal ≡ []
  pub count_is : length readers ≡ count
  pub each_reader : (k : ℕ) → k < count → slice_get readers k ≡ Some (fresh_reader writer.root base k)
