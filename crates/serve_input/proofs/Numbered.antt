-- The records of an input are numbered, so that a text of it determines its history.
use Rattle.std.proofs.Common.{◌≡◌, ◌+◌, ◌^◌, ◌<◌, ◌≤◌, ℕ, List, [], ◌∷◌, arith, length, map}
use Rattle.std.specs.List.{All, AllPairs, range_with_len}
use Rattle.std.proofs.lemmas.List.Elements.{All-cons, All-nil}
use Rattle.serve_script.specs.Served.{IsServeInput, place_of}
use Rattle.serve_script.specs.declared.commands.ServedCommand.{ServedCommand}
use Rattle.serve_script.specs.declared.commands.ServedCommand.TheVariants as command
use Rattle.serve_input.specs.Converting.{records_from, records_of}
use Rattle.serve_text.specs.Determined.{AreNumbered, HasNoLineFeed}
use Rattle.serve_text.specs.Texts.{IsServeText}
use Rattle.serve_text.specs.declared.record.Record.{Record}
use Rattle.serve_text.proofs.Determined.{determined}
use Rattle.serve_text.proofs.Keys.{pairs_nil, pairs_cons}

module _ {P Q : Type 0} where
  abbrev Precedes : Record P Q → Record P Q → Type 0
  Precedes r s = r.place < s.place

  abbrev IsFrom : ℕ → Record P Q → Type 0
  IsFrom place r = place ≤ r.place

  abbrev IsBelow : ℕ → Record P Q → Type 0
  IsBelow place r = r.place < place

  -- records whose numbers rise, from a number on and below another
  record Rises (low high : ℕ) (rs : List (Record P Q)) : Type 0 where
    rise : AllPairs Precedes rs
    from : All (IsFrom low) rs
    below : All (IsBelow high) rs

  rises-nil : (low high : ℕ) → Rises low high []
  rises-nil low high = record { rise = pairs_nil Precedes; from = All-nil (IsFrom low); below = All-nil (IsBelow high) }

  rises-cons : (low high : ℕ) (r : Record P Q) (rs : List (Record P Q)) → r.place ≡ low → low < high → Rises (low + 1) high rs → Rises low high (r ∷ rs)
  rises-cons low high r rs e h rest = record {
    rise = pairs_cons Precedes r rs (λ k d inside. omega (arith, e, rest.from k d inside)) rest.rise;
    from = All-cons (IsFrom low) r rs (omega (arith, e)) (λ k d inside. omega (arith, rest.from k d inside));
    below = All-cons (IsBelow high) r rs (omega (arith, e, h)) rest.below;
  }

  rises-earlier : (low high : ℕ) (rs : List (Record P Q)) → Rises (low + 1) high rs → Rises low high rs
  rises-earlier low high rs rest = record { rise = rest.rise; from = λ k d inside. omega (arith, rest.from k d inside); below = rest.below }

heads : (x y : ℕ) (xs ys : List ℕ) → x ∷ xs ≡ y ∷ ys → (x ≡ y) × (xs ≡ ys)
heads x y xs ys e = (cc, cc)

module _ {O Q : Type 0} where
  rises : (round low high : ℕ) (cs : List (ServedCommand O Q)) → low + length cs ≤ high → map place_of cs ≡ range_with_len low (length cs) → Rises low high (records_from round cs)
  unfolding records_from
  rises round low high [] h places = rises-nil low high
  rises round low high (command.Serve place n ∷ cs) h places =
      let p = heads place low (map place_of cs) (range_with_len (low + 1) (length cs)) places in
      rises-earlier low high (records_from (round + 0) cs) (rises (round + 0) (low + 1) high cs (omega (arith, h)) p.1)
  rises round low high (command.Batch place c ops ∷ cs) h places =
      let p = heads place low (map place_of cs) (range_with_len (low + 1) (length cs)) places in
      rises-cons low high _ (records_from (round + 0) cs) p.0 (omega (arith, h)) (rises (round + 0) (low + 1) high cs (omega (arith, h)) p.1)
  rises round low high (command.Read place c query ∷ cs) h places =
      let p = heads place low (map place_of cs) (range_with_len (low + 1) (length cs)) places in
      rises-cons low high _ (records_from (round + 0) cs) p.0 (omega (arith, h)) (rises (round + 0) (low + 1) high cs (omega (arith, h)) p.1)
  rises round low high (command.Round place ∷ cs) h places =
      let p = heads place low (map place_of cs) (range_with_len (low + 1) (length cs)) places in
      rises-earlier low high (records_from (round + 1) cs) (rises (round + 1) (low + 1) high cs (omega (arith, h)) p.1)

  pub numbered : (cs : List (ServedCommand O Q)) → IsServeInput cs → length cs < 2 ^ 64 → AreNumbered (records_of cs)
  numbered cs input few =
      let all = rises 0 1 (1 + length cs) cs (omega arith) input.places in
      record { rise = all.rise; fit = λ k d inside. omega (arith, few, all.below k d inside) }

  -- two histories of an input with one text are the same
  pub input_determined : {S : Type 0} (step : S → O → S) (answer : S → Q → List ℕ) (last : S → List ℕ) (base : S) → ((state : S) (query : Q) → HasNoLineFeed (answer state query))
      → (cs : List (ServedCommand O Q)) → IsServeInput cs → length cs < 2 ^ 64 → (text : List ℕ) (a b : IsServeText step answer last base (records_of cs) text) → (a.reads ≡ b.reads) × (a.journal ≡ b.journal)
  input_determined step answer last base lines cs input few = determined step answer last base lines (records_of cs) (numbered cs input few)
