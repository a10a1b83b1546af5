-- The records of an input are in rounds, and by its callers.
use Rattle.std.proofs.Common.{◌≡◌, ◌∙◌, ◌+◌, ◌<◌, ◌≤◌, ◌++◌, ℕ, zero, suc, List, [], ◌∷◌, arith, append_assoc, drop, get_or, length, refl, sym, ap}
use Rattle.std.specs.List.{All, AllByRecursion}
use Rattle.std.specs.List.Sorted.{IsNonDecreasingBy}
use Rattle.std.proofs.lemmas.List.{drop_all, drop_more}
use Rattle.std.proofs.lemmas.List.Elements.{All-cons, All-nil}
use Rattle.serve_script.specs.Served.{HasCallers, IsOfCaller, IsServeInput}
use Rattle.serve_script.specs.declared.commands.ServedCommand.{ServedCommand}
use Rattle.serve_script.specs.declared.commands.ServedCommand.TheVariants as command
use Rattle.serve_input.specs.Converting.{HasSmallCaller, callers_of, records_by, records_from, records_of, rounds_in}
use Rattle.serve_text.specs.Histories.{AreInRounds}
use Rattle.serve_text.specs.declared.record.Record.{Record}

module _ {O Q : Type 0} where
  -- callers are below 64
  small_one : (n : ℕ) (c : ServedCommand O Q) → n ≤ 64 → IsOfCaller n c → HasSmallCaller c
  small_one n (command.Serve place m) few h = tt
  small_one n (command.Batch place c ops) few h = omega (arith, h.0)
  small_one n (command.Read place c query) few h = omega (arith, h)
  small_one n (command.Round place) few h = tt

  small_later : (n : ℕ) (cs : List (ServedCommand O Q)) → n ≤ 64 → AllByRecursion (IsOfCaller n) cs → All HasSmallCaller cs
  small_later n [] few h = All-nil HasSmallCaller
  small_later n (c ∷ cs) few h = All-cons HasSmallCaller c cs (small_one n c few h.0) (small_later n cs few h.1)

  pub small : (cs : List (ServedCommand O Q)) → HasCallers cs → All HasSmallCaller cs
  small [] h = All-nil HasSmallCaller
  small (command.Serve place n ∷ cs) h = All-cons HasSmallCaller (command.Serve place n) cs tt (small_later n cs h.1 h.2)
  small (command.Batch place c ops ∷ cs) h = absurd h
  small (command.Read place c query ∷ cs) h = absurd h
  small (command.Round place ∷ cs) h = absurd h

  -- a command ends one round at most
  pub one_round : (c : ServedCommand O Q) → rounds_in c ≤ 1
  one_round (command.Serve place m) = omega arith
  one_round (command.Batch place c ops) = omega arith
  one_round (command.Read place c query) = omega arith
  one_round (command.Round place) = omega arith

module _ {P Q : Type 0} where
  abbrev round_of : Record P Q → ℕ
  round_of r = r.round

  abbrev IsBy : ℕ → Record P Q → Type 0
  IsBy n r = r.caller < n

  abbrev IsFrom : ℕ → Record P Q → Type 0
  IsFrom round r = round ≤ r.round

  -- records from a round on, in rounds
  record InOrder (n round : ℕ) (rs : List (Record P Q)) : Type 0 where
    by : All (IsBy n) rs
    from : All (IsFrom round) rs
    rise : IsNonDecreasingBy round_of rs

  rise-cons : (r : Record P Q) (rs : List (Record P Q)) → All (IsFrom r.round) rs → IsNonDecreasingBy round_of rs → IsNonDecreasingBy round_of (r ∷ rs)
  rise-cons r rs from rise zero zero d le lt = omega arith
  rise-cons r rs from rise zero (suc j) d le lt = from j d (omega (arith, lt))
  rise-cons r rs from rise (suc i) zero d le lt = absurd (omega (arith, le))
  rise-cons r rs from rise (suc i) (suc j) d le lt = rise i j d (omega (arith, le)) (omega (arith, lt))

  in_order-cons : (n : ℕ) (r : Record P Q) (rs : List (Record P Q)) → r.caller < n → InOrder n r.round rs → InOrder n r.round (r ∷ rs)
  in_order-cons n r rs below rest =
      record { by = All-cons (IsBy n) r rs below rest.by; from = All-cons (IsFrom r.round) r rs (omega arith) rest.from; rise = rise-cons r rs rest.from rest.rise }

  none_in_order : (n round : ℕ) → InOrder n round []
  none_in_order n round = record { by = All-nil (IsBy n); from = All-nil (IsFrom round); rise = λ i j d le lt. absurd (omega (arith, lt)) }

  earlier : (n round : ℕ) (rs : List (Record P Q)) → InOrder n (round + 1) rs → InOrder n round rs
  earlier n round rs o = record { by = o.by; from = λ k d h. omega (arith, o.from k d h); rise = o.rise }

  same_round : (n round same : ℕ) (rs : List (Record P Q)) → same ≡ round → InOrder n same rs → InOrder n round rs
  same_round n round same rs e o = rw (← e) o

module _ {O Q : Type 0} where
  -- the records so far, and those of the commands that are left
  pub records-more : (round : ℕ) (cs : List (ServedCommand O Q)) (i : ℕ) (c : ServedCommand O Q) (front whole : List (Record O Q)) → i < length cs → c ≡ get_or cs i c
      → whole ≡ front ++ records_from round (drop i cs) → whole ≡ (front ++ records_by round c) ++ records_from (round + rounds_in c) (drop (i + 1) cs)
  unfolding records_from
  records-more round cs i c front whole h is so_far =
      let next : records_from round (drop i cs) ≡ records_by round c ++ records_from (round + rounds_in c) (drop (i + 1) cs) = rw (drop_more cs i c h, ← is) refl in
      so_far ∙ ap (λ rest. front ++ rest) next ∙ sym (append_assoc front (records_by round c) _)

  pub records-end : (round : ℕ) (cs : List (ServedCommand O Q)) (i : ℕ) → length cs ≤ i → records_from round (drop i cs) ≡ []
  unfolding records_from
  records-end round cs i h = rw (drop_all i cs h) refl

  later : (n round : ℕ) (cs : List (ServedCommand O Q)) → AllByRecursion (IsOfCaller n) cs → InOrder n round (records_from round cs)
  unfolding records_from
  later n round [] h = none_in_order n round
  later n round (command.Serve place m ∷ cs) h = absurd h.0
  later n round (command.Batch place c ops ∷ cs) h =
      let e : round + 0 ≡ round = omega arith in
      in_order-cons n _ (records_from (round + 0) cs) h.0.0 (same_round n round (round + 0) (records_from (round + 0) cs) e (later n (round + 0) cs h.1))
  later n round (command.Read place c query ∷ cs) h =
      let e : round + 0 ≡ round = omega arith in
      in_order-cons n _ (records_from (round + 0) cs) h.0 (same_round n round (round + 0) (records_from (round + 0) cs) e (later n (round + 0) cs h.1))
  later n round (command.Round place ∷ cs) h = earlier n round (records_from (round + 1) cs) (later n (round + 1) cs h.1)

  -- so the rounds can run them
  pub in_rounds : (cs : List (ServedCommand O Q)) → IsServeInput cs → AreInRounds (callers_of cs) (records_of cs)
  unfolding records_from
  in_rounds [] input = let o = none_in_order 1 0 in record { callers_are = o.by; rounds_rise = o.rise }
  in_rounds (command.Serve place n ∷ cs) input = let o = later n 0 cs input.callers.2 in record { callers_are = o.by; rounds_rise = o.rise }
  in_rounds (command.Batch place c ops ∷ cs) input = absurd input.callers
  in_rounds (command.Read place c query ∷ cs) input = absurd input.callers
  in_rounds (command.Round place ∷ cs) input = absurd input.callers
