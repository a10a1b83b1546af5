use Rattle.std.proofs.Common.{◌≡◌, ◌<◌, ◌≤◌, ℕ, List, false, true, inr, length, refl, sym, ap, subst, ◌∙◌}
use Rattle.std.specs.Prelude.{All}
use Rattle.std.specs.List.Sorted.{IsPermutation, IsNonDecreasingBy}
use Rattle.std.proofs.lemmas.List.{length-map}
use Rattle.versions.specs.declared.batch.Entry.{Entry}
use Rattle.versions.specs.History.{batches_in}
use Rattle.serve_text.specs.Records.{Answered}
use Rattle.run_text.specs.Forms.{Told, told_text}
use Rattle.run_check.specs.declared.placed.Placed.{Placed}
use Rattle.run_check.specs.Placing.{TagsRise, tags_of, placed_of, entries_in}
use Rattle.run_check.specs.Passing.{Passes, IsLeastFailing}
use Rattle.run_check.specs.Reading.{AreRight}
use Rattle.run_check.proofs.Deciding.{fails_once, fails_at, runs, fails_text}
use Rattle.run_check.proofs.Judging.{map_twice, tags_rise, rounds_rise, few_ordered, many_entries}
use Rattle.run_check.proofs.ReadLists.{answered_callers}
use Rattle.run_check.proofs.Telling.{as_many, is_named, places_same, right_text, text_right, told_in_line}
use Rattle.run_check.proofs.checking.judged.Goals as goal

pub in_order-requires : goal.in_order-requires
in_order-requires g c =
    let records = c.args.records.now in
    let first : c.as_slice.result.now ≡ placed_of records = c.as_slice.ensures.value ∙ c.in_ok-placed.ensures in
    subst TagsRise (sym first) (tags_rise c.args.callers records c.requires.numbered c.requires.rounds)

pub returns-in_default : goal.returns-in_default
returns-in_default g c =
    let records = c.args.records.now in
    let told = c.args.told.now.replies.items in
    let order = c.args.told.now.order.items in
    let end = c.args.told.now.last.now in
    let text = told_text told order end in
    let named = is_named records c.args.reads.now told order end text c.requires.asked c.requires.numbers c.requires.told in
    let first : c.as_slice.result.now ≡ placed_of records = c.as_slice.ensures.value ∙ c.in_ok-placed.ensures in
    let order_is : c.as_slice-2.result.now ≡ order = c.as_slice-2.ensures.value in
    let none = rw c.in_default.is at c.in_ok-ordered.ensures in
    inr (fails_once g.S.State.step g.A.Answers.answer_of g.A.Answers.last_of c.args.base c.args.callers records c.requires.numbered c.requires.rounds text c.args.reads.now order named
    (λ perm. none (subst (λ (l : List (Placed g.row.S-Op.Denot)). IsPermutation (tags_of l) c.as_slice-2.result.now) (sym first) (subst (IsPermutation (tags_of (placed_of records))) (sym order_is) perm))))

pub broken_point-requires-clause-rise : goal.broken_point-requires-clause-rise
broken_point-requires-clause-rise g c =
    let records = c.args.records.now in
    let second : c.as_slice-3.result.now ≡ placed_of records = c.as_slice-3.ensures.value ∙ c.in_ok-placed.ensures in
    subst (IsNonDecreasingBy (λ (p : Placed g.row.S-Op.Denot). p.round)) (sym second) (rounds_rise c.args.callers records c.requires.numbered c.requires.rounds)

pub broken_point-requires-clause-batches : goal.broken_point-requires-clause-batches
broken_point-requires-clause-batches g c =
    let records = c.args.records.now in
    let told = c.args.told.now.replies.items in
    let order = c.args.told.now.order.items in
    let end = c.args.told.now.last.now in
    let text = told_text told order end in
    let named = is_named records c.args.reads.now told order end text c.requires.asked c.requires.numbers c.requires.told in
    let first : c.as_slice.result.now ≡ placed_of records = c.as_slice.ensures.value ∙ c.in_ok-placed.ensures in
    let order_is : c.as_slice-2.result.now ≡ order = c.as_slice-2.ensures.value in
    let found = rw c.in-Some.is at c.in_ok-ordered.ensures in
    let ordered = c.in-Some.ordered.items in
    let tags : tags_of ordered ≡ order = found.0 ∙ order_is in
    let same : IsPermutation (placed_of records) ordered = subst (λ (l : List (Placed g.row.S-Op.Denot)). IsPermutation l ordered) first found.1 in
    let second : c.as_slice-3.result.now ≡ placed_of records = c.as_slice-3.ensures.value ∙ c.in_ok-placed.ensures in
    let others : c.as_slice-4.result.now ≡ ordered = c.as_slice-4.ensures.value in
    subst (All (λ (p : Placed g.row.S-Op.Denot). p.entry.caller < c.args.callers)) (sym others) (few_ordered c.args.callers records c.requires.numbered c.requires.rounds ordered same)

pub broken_point-requires-clause-reads : goal.broken_point-requires-clause-reads
broken_point-requires-clause-reads g c = answered_callers c.args.callers c.args.records.now c.args.reads.now c.requires.rounds.callers_are c.requires.asked

pub returns-in-Some-2 : goal.returns-in-Some-2
returns-in-Some-2 g c =
    let records = c.args.records.now in
    let told = c.args.told.now.replies.items in
    let order = c.args.told.now.order.items in
    let end = c.args.told.now.last.now in
    let text = told_text told order end in
    let named = is_named records c.args.reads.now told order end text c.requires.asked c.requires.numbers c.requires.told in
    let first : c.as_slice.result.now ≡ placed_of records = c.as_slice.ensures.value ∙ c.in_ok-placed.ensures in
    let order_is : c.as_slice-2.result.now ≡ order = c.as_slice-2.ensures.value in
    let found = rw c.in-Some.is at c.in_ok-ordered.ensures in
    let ordered = c.in-Some.ordered.items in
    let tags : tags_of ordered ≡ order = found.0 ∙ order_is in
    let same : IsPermutation (placed_of records) ordered = subst (λ (l : List (Placed g.row.S-Op.Denot)). IsPermutation l ordered) first found.1 in
    let second : c.as_slice-3.result.now ≡ placed_of records = c.as_slice-3.ensures.value ∙ c.in_ok-placed.ensures in
    let others : c.as_slice-4.result.now ≡ ordered = c.as_slice-4.ensures.value in
    let tested = rw c.in-Some-2.is at c.in_ok-point.ensures in
    let least : IsLeastFailing (Passes (placed_of records) ordered c.args.reads.now) c.in-Some-2.point =
    subst (λ (l : List (Placed g.row.S-Op.Denot)). IsLeastFailing (Passes l ordered c.args.reads.now) c.in-Some-2.point) second
    (subst (λ (l : List (Placed g.row.S-Op.Denot)). IsLeastFailing (Passes c.as_slice-3.result.now l c.args.reads.now) c.in-Some-2.point) others tested) in
    inr (fails_at g.S.State.step g.A.Answers.answer_of g.A.Answers.last_of c.args.base c.args.callers records c.requires.numbered c.requires.rounds text c.args.reads.now order named ordered same tags c.in-Some-2.point least)

pub are_right-requires-clause-told : goal.are_right-requires-clause-told
are_right-requires-clause-told g c = λ lives bounds.
    let records = c.args.records.now in
    let told = c.args.told.now.replies.items in
    let order = c.args.told.now.order.items in
    let end = c.args.told.now.last.now in
    ap length c.as_slice-6.ensures.value ∙ as_many records c.args.reads.now told order end (told_text told order end) c.requires.asked c.requires.numbers c.requires.told

pub are_right-requires-clause-most : goal.are_right-requires-clause-most
are_right-requires-clause-most g c = λ lives bounds.
    let records = c.args.records.now in
    let told = c.args.told.now.replies.items in
    let order = c.args.told.now.order.items in
    let end = c.args.told.now.last.now in
    let text = told_text told order end in
    let named = is_named records c.args.reads.now told order end text c.requires.asked c.requires.numbers c.requires.told in
    let first : c.as_slice.result.now ≡ placed_of records = c.as_slice.ensures.value ∙ c.in_ok-placed.ensures in
    let order_is : c.as_slice-2.result.now ≡ order = c.as_slice-2.ensures.value in
    let found = rw c.in-Some.is at c.in_ok-ordered.ensures in
    let ordered = c.in-Some.ordered.items in
    let tags : tags_of ordered ≡ order = found.0 ∙ order_is in
    let same : IsPermutation (placed_of records) ordered = subst (λ (l : List (Placed g.row.S-Op.Denot)). IsPermutation l ordered) first found.1 in
    let second : c.as_slice-3.result.now ≡ placed_of records = c.as_slice-3.ensures.value ∙ c.in_ok-placed.ensures in
    let others : c.as_slice-4.result.now ≡ ordered = c.as_slice-4.ensures.value in
    let tested = rw c.in_default-2.is at c.in_ok-point.ensures in
    let passes : (k : ℕ) → Passes (placed_of records) ordered c.args.reads.now k = λ k.
    subst (λ (l : List (Placed g.row.S-Op.Denot)). Passes l ordered c.args.reads.now k) second
    (subst (λ (l : List (Placed g.row.S-Op.Denot)). Passes c.as_slice-3.result.now l c.args.reads.now k) others (tested k)) in
    let batches : c.as_slice-5.result.now ≡ batches_in (entries_in ordered) = c.as_slice-5.ensures.value ∙ c.in_ok-batches.ensures in
    let replies : c.as_slice-6.result.now ≡ told = c.as_slice-6.ensures.value in
    let many = many_entries c.args.callers records c.requires.numbered c.requires.rounds ordered same c.args.reads.now ((passes 4).bounds refl) in
    let count : length (entries_in ordered) ≡ length c.as_slice-5.result.now = sym (ap length batches ∙ length-map (entries_in ordered) (λ (e : Entry g.row.S-Op.Denot). e.batch)) in
    subst (λ (n : ℕ). All (λ (a : Answered g.row.A-Query.Denot). a.number ≤ n) c.args.reads.now) count many

pub returns-then-branch : goal.returns-then-branch
returns-then-branch g c =
    let records = c.args.records.now in
    let told = c.args.told.now.replies.items in
    let order = c.args.told.now.order.items in
    let end = c.args.told.now.last.now in
    let text = told_text told order end in
    let named = is_named records c.args.reads.now told order end text c.requires.asked c.requires.numbers c.requires.told in
    let first : c.as_slice.result.now ≡ placed_of records = c.as_slice.ensures.value ∙ c.in_ok-placed.ensures in
    let order_is : c.as_slice-2.result.now ≡ order = c.as_slice-2.ensures.value in
    let found = rw c.in-Some.is at c.in_ok-ordered.ensures in
    let ordered = c.in-Some.ordered.items in
    let tags : tags_of ordered ≡ order = found.0 ∙ order_is in
    let same : IsPermutation (placed_of records) ordered = subst (λ (l : List (Placed g.row.S-Op.Denot)). IsPermutation l ordered) first found.1 in
    let second : c.as_slice-3.result.now ≡ placed_of records = c.as_slice-3.ensures.value ∙ c.in_ok-placed.ensures in
    let others : c.as_slice-4.result.now ≡ ordered = c.as_slice-4.ensures.value in
    let tested = rw c.in_default-2.is at c.in_ok-point.ensures in
    let passes : (k : ℕ) → Passes (placed_of records) ordered c.args.reads.now k = λ k.
    subst (λ (l : List (Placed g.row.S-Op.Denot)). Passes l ordered c.args.reads.now k) second
    (subst (λ (l : List (Placed g.row.S-Op.Denot)). Passes c.as_slice-3.result.now l c.args.reads.now k) others (tested k)) in
    let batches : c.as_slice-5.result.now ≡ batches_in (entries_in ordered) = c.as_slice-5.ensures.value ∙ c.in_ok-batches.ensures in
    let replies : c.as_slice-6.result.now ≡ told = c.as_slice-6.ensures.value in
    let places = places_same records c.args.reads.now told order end text c.requires.asked c.requires.numbers c.requires.told in
    let tagged = map_twice (λ (p : Placed g.row.S-Op.Denot). p.entry) (λ (e : Entry g.row.S-Op.Denot). e.tag) ordered ∙ tags in
    let right : AreRight g.S.State.step g.A.Answers.answer_of g.A.Answers.last_of c.args.base (batches_in (entries_in ordered)) c.args.reads.now told end =
    subst (λ (l : List Told). AreRight g.S.State.step g.A.Answers.answer_of g.A.Answers.last_of c.args.base (batches_in (entries_in ordered)) c.args.reads.now l end) replies
    (subst (λ (l : List (List g.row.S-Op.Denot)). AreRight g.S.State.step g.A.Answers.answer_of g.A.Answers.last_of c.args.base l c.args.reads.now c.as_slice-6.result.now end) batches (c.in_ok-are_right.ensures.0 c.if-branch.true)) in
    runs g.S.State.step g.A.Answers.answer_of g.A.Answers.last_of c.args.base c.args.callers records c.requires.numbered c.requires.rounds text c.args.reads.now order named ordered same tags passes
    (right_text g.S.State.step g.A.Answers.answer_of g.A.Answers.last_of c.args.base (entries_in ordered) c.args.reads.now told order end places (sym c.requires.numbers) tagged right)

pub returns : goal.returns
returns g c =
    let records = c.args.records.now in
    let told = c.args.told.now.replies.items in
    let order = c.args.told.now.order.items in
    let end = c.args.told.now.last.now in
    let text = told_text told order end in
    let named = is_named records c.args.reads.now told order end text c.requires.asked c.requires.numbers c.requires.told in
    let first : c.as_slice.result.now ≡ placed_of records = c.as_slice.ensures.value ∙ c.in_ok-placed.ensures in
    let order_is : c.as_slice-2.result.now ≡ order = c.as_slice-2.ensures.value in
    let found = rw c.in-Some.is at c.in_ok-ordered.ensures in
    let ordered = c.in-Some.ordered.items in
    let tags : tags_of ordered ≡ order = found.0 ∙ order_is in
    let same : IsPermutation (placed_of records) ordered = subst (λ (l : List (Placed g.row.S-Op.Denot)). IsPermutation l ordered) first found.1 in
    let second : c.as_slice-3.result.now ≡ placed_of records = c.as_slice-3.ensures.value ∙ c.in_ok-placed.ensures in
    let others : c.as_slice-4.result.now ≡ ordered = c.as_slice-4.ensures.value in
    let tested = rw c.in_default-2.is at c.in_ok-point.ensures in
    let passes : (k : ℕ) → Passes (placed_of records) ordered c.args.reads.now k = λ k.
    subst (λ (l : List (Placed g.row.S-Op.Denot)). Passes l ordered c.args.reads.now k) second
    (subst (λ (l : List (Placed g.row.S-Op.Denot)). Passes c.as_slice-3.result.now l c.args.reads.now k) others (tested k)) in
    let batches : c.as_slice-5.result.now ≡ batches_in (entries_in ordered) = c.as_slice-5.ensures.value ∙ c.in_ok-batches.ensures in
    let replies : c.as_slice-6.result.now ≡ told = c.as_slice-6.ensures.value in
    let places = places_same records c.args.reads.now told order end text c.requires.asked c.requires.numbers c.requires.told in
    let tagged = map_twice (λ (p : Placed g.row.S-Op.Denot). p.entry) (λ (e : Entry g.row.S-Op.Denot). e.tag) ordered ∙ tags in
    let answers = g.met.A.Answers g.world.𝓛 g.world.𝓜 g.world.𝓡 ((λ s x. x), (λ x. x), (λ x. x), λ x. x) in
    let in_line = told_in_line records c.args.reads.now told order end text c.requires.asked c.requires.numbers c.requires.told in
    inr (fails_text g.S.State.step g.A.Answers.answer_of g.A.Answers.last_of c.args.base c.args.callers records c.requires.numbered c.requires.rounds text c.args.reads.now order named ordered same tags passes
    (λ e.
    let right = text_right g.S.State.step g.A.Answers.answer_of g.A.Answers.last_of c.args.base (entries_in ordered) c.args.reads.now told order end places (sym c.requires.numbers) tagged answers.in_line in_line e in
    let z : false ≡ true = sym c.if-branch.false
    ∙ c.in_ok-are_right.ensures.1 (subst (λ (l : List Told). AreRight g.S.State.step g.A.Answers.answer_of g.A.Answers.last_of c.args.base c.as_slice-5.result.now c.args.reads.now l end) (sym replies)
    (subst (λ (l : List (List g.row.S-Op.Denot)). AreRight g.S.State.step g.A.Answers.answer_of g.A.Answers.last_of c.args.base l c.args.reads.now told end) (sym batches) right)) in
    cc))
