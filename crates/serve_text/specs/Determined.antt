-- When a text determines the history that it is of.
use Rattle.std.specs.Prelude.{◌≡◌, ◌≢◌, ◌<◌, ◌^◌, ℕ, List, All}
use Rattle.std.specs.List.{AllPairs}
use Rattle.serve_text.specs.declared.record.Record.{Record}
use Rattle.serve_text.specs.Texts.{last_text, line_feed}

-- the numbers of the records rise, and have 64 bits
pub record AreNumbered {O Q : Type 0} (records : List (Record O Q)) : Type 0 where
  pub rise : AllPairs (λ (r s : Record O Q). r.place < s.place) records
  pub fit : All (λ (r : Record O Q). r.place < 2 ^ 64) records

-- the text is one line, or a part of one
abbrev pub HasNoLineFeed : List ℕ → Type 0
HasNoLineFeed text = All (λ b. b ≢ line_feed) text

-- the text is one last line, with its line feed
pub record IsLastLine (text : List ℕ) : Type 0 where
  pub totals : List ℕ
  pub in_line : HasNoLineFeed totals
  pub is : text ≡ last_text totals
