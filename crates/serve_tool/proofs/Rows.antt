-- Worked inputs, and texts that the definition calls theirs.
use Rattle.std.proofs.Common.{◌≡◌, ◌≤◌, ◌<◌, ◌==◌, ◌++◌, ◌∷◌, [], ℕ, zero, suc, List, All, codes, false, true, length, lit≤, nat_lt, refl, sym, take, arith}
use Rattle.std.specs.List.Sorted.{IsNonDecreasingBy, IsPermutation}
use Rattle.std.proofs.lemmas.Bool.Decides.{nat_tests}
use Rattle.std.proofs.lemmas.List.Sorted.{IsNonDecreasingBy-short}
use Rattle.script.specs.Lines.{line_of, reply_of}
use Rattle.serve_script.specs.declared.commands.ServedCommand.{ServedCommand}
use Rattle.serve_script.specs.declared.commands.ServedCommand.TheVariants as command
use Rattle.op_runs.specs.declared.op.Op.{Op}
use Rattle.op_runs.specs.declared.op.Op.TheVariants as op
use Rattle.serve_script.specs.declared.map_words.ServeQuery.{ServeQuery}
use Rattle.serve_script.specs.declared.map_words.ServeQuery.TheVariants as query
use Rattle.serve_answers.specs.MapAnswering.{range_totals, totals_of}
use Rattle.serve_input.specs.Converting.{records_from, records_of}
use Rattle.serve_text.specs.Histories.{IsLawfulHistory, IsOfItsRound}
use Rattle.serve_text.specs.Records.{Answered, answered_of, batches_of, before, entries_of, reads_of}
use Rattle.serve_text.specs.Texts.{order_line, reply_head, reply_line}
use Rattle.serve_text.proofs.Orders.{same_of_each}
use Rattle.versions.specs.declared.batch.Entry.{Entry}
use Rattle.serve_tool.specs.Output.{IsServeOutput}

-- the lines of a read and of the end
abbrev reply : ℕ → ℕ → List ℕ → List ℕ → List ℕ
reply place number word numbers = reply_head place number ++ (reply_of word numbers ++ 10 ∷ [])

abbrev final : ℕ → ℕ → ℕ → List ℕ
final size sum greatest = line_of (codes "final") (size ∷ sum ∷ greatest ∷ [])

abbrev number_of : Answered ServeQuery → ℕ
number_of a = a.number

another : (a b : ℕ) → a < b → (a == b) ≡ false
another a b h = grind (arith, nat_tests)

earlier : (a b : ℕ) → a < b → nat_lt a b ≡ true
earlier a b h = grind (arith, nat_tests)

-- two callers with a batch each in one round, and a read each in the next
abbrev two_callers : List (ServedCommand Op ServeQuery)
two_callers =
    command.Serve 1 2 ∷
    command.Batch 2 0 (op.Put 1 10 ∷ []) ∷
    command.Batch 3 1 (op.Put 2 20 ∷ []) ∷
    command.Round 4 ∷
    command.Read 5 0 (query.Sum 0 9) ∷
    command.Read 6 1 (query.Get 2) ∷
    []

abbrev first : Entry Op
first = record { caller = 0; tag = 2; batch = op.Put 1 10 ∷ [] }

abbrev second : Entry Op
second = record { caller = 1; tag = 3; batch = op.Put 2 20 ∷ [] }

-- both reads see both batches
abbrev both_seen : List (Answered ServeQuery)
both_seen =
    record { asked = record { place = 5; caller = 0; round = 1; query = query.Sum 0 9 }; number = 2 } ∷
    record { asked = record { place = 6; caller = 1; round = 1; query = query.Get 2 }; number = 2 } ∷
    []

each_caller : (c : ℕ) → entries_of c (second ∷ first ∷ []) ≡ entries_of c (first ∷ second ∷ [])
each_caller zero = refl
each_caller (suc zero) = refl
each_caller (suc (suc c)) = rw (another 0 (suc (suc c)) (omega arith), another 1 (suc (suc c)) (omega arith)) refl

both : IsPermutation (first ∷ second ∷ []) (second ∷ first ∷ [])
both = same_of_each (λ (e : Entry Op). e.caller) _ _ (λ c. sym (each_caller c))

each_round : (k : ℕ) → IsPermutation (batches_of (before k (records_of two_callers))) (take (length (batches_of (before k (records_of two_callers)))) (second ∷ first ∷ []))
unfolding records_from batches_of
each_round zero = same_of_each (λ (e : Entry Op). e.caller) _ _ (λ c. refl)
each_round (suc zero) = both
each_round (suc (suc k)) = rw (earlier 0 (suc (suc k)) (omega arith), earlier 1 (suc (suc k)) (omega arith)) both

each_rises : (c : ℕ) → IsNonDecreasingBy number_of (answered_of c both_seen)
each_rises zero = IsNonDecreasingBy-short number_of (answered_of 0 both_seen) (lit≤ (tt {0}))
each_rises (suc zero) = IsNonDecreasingBy-short number_of (answered_of 1 both_seen) (lit≤ (tt {0}))
each_rises (suc (suc c)) = rw (another 0 (suc (suc c)) (omega arith), another 1 (suc (suc c)) (omega arith)) (IsNonDecreasingBy-short number_of [] (lit≤ (tt {0})))

all_seen : All (IsOfItsRound (records_of two_callers)) both_seen
unfolding records_from batches_of
all_seen zero d lt = record { least = lit≤ (tt {0}); most = lit≤ (tt {0}) }
all_seen (suc zero) d lt = record { least = lit≤ (tt {0}); most = lit≤ (tt {0}) }
all_seen (suc (suc k)) d lt = omega (arith, lt)

-- the batches of a round may stand in the other order than their records
exchanged : IsServeOutput two_callers (
    (reply 5 2 (codes "aug") (30 ∷ 20 ∷ []) ++ (reply 6 2 (codes "some") (20 ∷ []) ++ []))
    ++ ((order_line 1 3 ++ (order_line 2 2 ++ [])) ++ final 2 30 20))
unfolding records_from reads_of batches_of reply_line range_totals totals_of
exchanged = record {
  reads = both_seen;
  journal = second ∷ first ∷ [];
  lawful = record { asked = refl; once = both; callers = each_caller; rounds = each_round; bounds = all_seen; never_falls = each_rises };
  is = refl;
}

-- one caller that reads behind its batch, in the same round
abbrev one_caller : List (ServedCommand Op ServeQuery)
one_caller =
    command.Serve 1 1 ∷
    command.Batch 2 0 (op.Put 1 10 ∷ op.Add 1 5 ∷ op.Add 2 7 ∷ op.Wipe 2 9 ∷ op.Del 3 ∷ []) ∷
    command.Read 3 0 (query.Get 1) ∷
    []

abbrev only : Entry Op
only = record { caller = 0; tag = 2; batch = op.Put 1 10 ∷ op.Add 1 5 ∷ op.Add 2 7 ∷ op.Wipe 2 9 ∷ op.Del 3 ∷ [] }

abbrev one_read : ℕ → List (Answered ServeQuery)
one_read n = record { asked = record { place = 3; caller = 0; round = 0; query = query.Get 1 }; number = n } ∷ []

only_round : (k : ℕ) → IsPermutation (batches_of (before k (records_of one_caller))) (take (length (batches_of (before k (records_of one_caller)))) (only ∷ []))
unfolding records_from batches_of
only_round zero = same_of_each (λ (e : Entry Op). e.caller) _ _ (λ c. refl)
only_round (suc k) = rw (earlier 0 (suc k) (omega arith)) (same_of_each (λ (e : Entry Op). e.caller) (only ∷ []) (only ∷ []) (λ c. refl))

only_rises : (n c : ℕ) → IsNonDecreasingBy number_of (answered_of c (one_read n))
only_rises n zero = IsNonDecreasingBy-short number_of (one_read n) (lit≤ (tt {0}))
only_rises n (suc c) = rw (another 0 (suc c) (omega arith)) (IsNonDecreasingBy-short number_of [] (lit≤ (tt {0})))

own_round : (n : ℕ) → n ≤ 1 → All (IsOfItsRound (records_of one_caller)) (one_read n)
unfolding records_from batches_of
own_round n few zero d lt = record { least = omega arith; most = few }
own_round n few (suc k) d lt = omega (arith, lt)

seen_or_not : (n : ℕ) → n ≤ 1 → IsLawfulHistory (records_of one_caller) (one_read n) (only ∷ [])
unfolding records_from reads_of batches_of
seen_or_not n few = record {
  asked = refl;
  once = same_of_each (λ (e : Entry Op). e.caller) (only ∷ []) (only ∷ []) (λ c. refl);
  callers = λ c. refl;
  rounds = only_round;
  bounds = own_round n few;
  never_falls = only_rises n;
}

-- the read sees the batch of its round, or does not
seen : IsServeOutput one_caller ((reply 3 1 (codes "some") (15 ∷ []) ++ []) ++ ((order_line 1 2 ++ []) ++ final 1 15 15))
unfolding records_from reads_of batches_of reply_line range_totals totals_of
seen = record { reads = one_read 1; journal = only ∷ []; lawful = seen_or_not 1 (lit≤ (tt {0})); is = refl }

not_seen : IsServeOutput one_caller ((reply 3 0 (codes "none") [] ++ []) ++ ((order_line 1 2 ++ []) ++ final 1 15 15))
unfolding records_from reads_of batches_of reply_line range_totals totals_of
not_seen = record { reads = one_read 0; journal = only ∷ []; lawful = seen_or_not 0 (lit≤ (tt {0})); is = refl }
