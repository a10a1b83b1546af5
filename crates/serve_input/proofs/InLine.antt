-- A word and numbers are within one line.
use Rattle.std.proofs.Common.{◌≡◌, ◌≢◌, ◌∷◌, ◌++◌, ℕ, suc, List, [], codes, decimal, refl, arith}
use Rattle.std.specs.Prelude.{true, nat_lt}
use Rattle.std.specs.List.{flat_map, list_all}
use Rattle.std.proofs.lemmas.Bool.{and_parts, ltb-true}
use Rattle.std.proofs.lemmas.List.Elements.{All-append, All-cons, All-nil}
use Rattle.script.specs.Lines.{comma, line_of, reply_of}
use Rattle.serve_text.specs.Determined.{HasNoLineFeed, IsLastLine}
use Rattle.serve_text.specs.Texts.{line_feed}
use Rattle.serve_text.proofs.Decimals.{decimal_in_line}

abbrev IsInLine : ℕ → Type 0
IsInLine b = b ≢ line_feed

-- a text whose bytes are all greater than a line feed
word_in_line : (word : List ℕ) → list_all (λ b. nat_lt line_feed b) word ≡ true → HasNoLineFeed word
word_in_line [] all = All-nil IsInLine
word_in_line (b ∷ bs) all =
    let parts = and_parts (nat_lt line_feed b) (list_all (λ c. nat_lt line_feed c) bs) all in
    All-cons IsInLine b bs (λ same. omega (arith, same, ltb-true line_feed b parts.0)) (word_in_line bs parts.1)

numbers_in_line : (numbers : List ℕ) → HasNoLineFeed (flat_map (λ n. comma ∷ decimal n) numbers)
numbers_in_line [] = All-nil IsInLine
numbers_in_line (n ∷ ns) =
    All-append IsInLine (comma ∷ decimal n) (flat_map (λ n. comma ∷ decimal n) ns)
    (All-cons IsInLine comma (decimal n) (λ same. omega (arith, same)) (decimal_in_line n)) (numbers_in_line ns)

pub reply_in_line : (word numbers : List ℕ) → list_all (λ b. nat_lt line_feed b) word ≡ true → HasNoLineFeed (reply_of word numbers)
reply_in_line word numbers all = All-append IsInLine word (flat_map (λ n. comma ∷ decimal n) numbers) (word_in_line word all) (numbers_in_line numbers)

-- the word final and numbers are a last line
pub final_line : (first : ℕ) (others : List ℕ) → IsLastLine (line_of (codes "final") (first ∷ others))
final_line first others = record {
  totals = decimal first ++ flat_map (λ n. comma ∷ decimal n) others;
  in_line = λ k d inside. reply_in_line [] (first ∷ others) refl (suc k) d (omega (arith, inside));
  is = refl;
}
