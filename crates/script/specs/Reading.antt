-- What is left to read of a text's records.
use Rattle.std.specs.Prelude.{◌≡◌, ◌+◌, [], ℕ, Bool, true, false, List, length, Some, None, Option, if◌then◌else◌}
use Rattle.std.proofs.Common.{Bor}
use Rattle.csv.specs.Machine.{ends_at_end}
use Rattle.csv.specs.Reading.{Ready, default_config, is_flexible, records_from, source_of}
use Rattle.csv.specs.Records.{Row}
use Rattle.csv.specs.declared.parser.State.{State}
use Rattle.csv.specs.declared.reader.Reader.{Reader}
use Rattle.csv.specs.declared.reader.Trim.TheVariants as trim
use Rattle.script.specs.Records.{Fields}

-- a reader over bytes in memory
abbrev pub TextReader : Type 0
TextReader = Reader (Bor (List ℕ))

abbrev pub unread : TextReader → Option (List ℕ)
unread r = source_of (λ (s : Bor (List ℕ)). Some s.now) r

-- the records of a text from a state of the reader
unfoldable pub records_after : State → List ℕ → List Fields
records_after s text = records_from default_config (length text + 1) s text

abbrev pub records_in : State → Option (List ℕ) → List Fields
records_in s None = []
records_in s (Some text) = records_after s text

-- the records that a reader has left
abbrev pub left_of : Bool → TextReader → List Fields
left_of done r = if done then [] else records_in r.state (unread r)

-- a reader that stands between two records, with no header row and no trimming, and which takes records of any length
pub record IsBetween (r : TextReader) : Type 0 where
  pub plain : r.trim ≡ trim.None
  pub flexible : is_flexible r ≡ true
  pub ready : Ready r
  pub config : r.config ≡ default_config
  pub text : List ℕ
  pub known : unread r ≡ Some text
  pub rests : ends_at_end r.state ≡ false

-- the record at hand, and those after it
pub record Feed : Type 0 where
  pub current : Row
  pub left : List Fields
