use Rattle.std.proofs.Common.{rules, ◌≡◌, ◌≤◌, [], ◌∷◌, drop, subst, sym, ◌∙◌, length, true, false}
use Rattle.std.proofs.lemmas.List.{nil_from_length}
use Rattle.std.specs.Ordering.{is_eq}
use Rattle.map_model.proofs.Cuts.{place_any}
use Rattle.entry_lists.proofs.Slices.{below_place, found_at, missed_at, missed_at_end}
use Rattle.entry_lists.proofs.slicing.cut_at.Goals as goal

pub split_at-requires : goal.split_at-requires
split_at-requires g c = subst (λ n. n ≤ length c.args.entries.now) (sym c.requires.place) (place_any g.K.Ord.cmp c.args.entries.now c.args.key.now)

pub returns-then-is_eq-clause-below : goal.returns-then-is_eq-clause-below
returns-then-is_eq-clause-below g c = c.split_at.ensures.front ∙ below_place g.met.K.Ord.total c.args.key.now c.args.entries.now c.requires.increasing c.args.place c.requires.place

pub returns-else-is_eq-clause-below : goal.returns-else-is_eq-clause-below
returns-else-is_eq-clause-below g c = c.split_at.ensures.front ∙ below_place g.met.K.Ord.total c.args.key.now c.args.entries.now c.requires.increasing c.args.place c.requires.place

pub returns-in-None-clause-below : goal.returns-in-None-clause-below
returns-in-None-clause-below g c = c.split_at.ensures.front ∙ below_place g.met.K.Ord.total c.args.key.now c.args.entries.now c.requires.increasing c.args.place c.requires.place

pub returns-then-is_eq-clause-found : goal.returns-then-is_eq-clause-found
returns-then-is_eq-clause-found g c =
    let is : drop c.args.place c.args.entries.now ≡ c.in-Some.field-0-0.now ∷ c.in-Some.above.now = search rules in
    let same : is_eq (g.K.Ord.cmp c.in-Some.field-0-0.now.0 c.args.key.now) ≡ true = search rules in
    (found_at g.met.K.Ord.total c.args.key.now c.args.entries.now c.requires.increasing c.args.place c.requires.place c.in-Some.field-0-0.now c.in-Some.above.now is same).0

pub returns-then-is_eq-clause-above : goal.returns-then-is_eq-clause-above
returns-then-is_eq-clause-above g c =
    let is : drop c.args.place c.args.entries.now ≡ c.in-Some.field-0-0.now ∷ c.in-Some.above.now = search rules in
    let same : is_eq (g.K.Ord.cmp c.in-Some.field-0-0.now.0 c.args.key.now) ≡ true = search rules in
    (found_at g.met.K.Ord.total c.args.key.now c.args.entries.now c.requires.increasing c.args.place c.requires.place c.in-Some.field-0-0.now c.in-Some.above.now is same).1

pub returns-else-is_eq-clause-found : goal.returns-else-is_eq-clause-found
returns-else-is_eq-clause-found g c =
    let is : drop c.args.place c.args.entries.now ≡ c.in-Some.field-0-0.now ∷ c.in-Some.above.now = search rules in
    let other : is_eq (g.K.Ord.cmp c.in-Some.field-0-0.now.0 c.args.key.now) ≡ false = search rules in
    (missed_at g.met.K.Ord.total c.args.key.now c.args.entries.now c.requires.increasing c.args.place c.requires.place c.in-Some.field-0-0.now c.in-Some.above.now is other).0

pub returns-else-is_eq-clause-above : goal.returns-else-is_eq-clause-above
returns-else-is_eq-clause-above g c =
    let is : drop c.args.place c.args.entries.now ≡ c.in-Some.field-0-0.now ∷ c.in-Some.above.now = search rules in
    let other : is_eq (g.K.Ord.cmp c.in-Some.field-0-0.now.0 c.args.key.now) ≡ false = search rules in
    c.split_at.ensures.back ∙ (missed_at g.met.K.Ord.total c.args.key.now c.args.entries.now c.requires.increasing c.args.place c.requires.place c.in-Some.field-0-0.now c.in-Some.above.now is other).1

pub returns-in-None-clause-found : goal.returns-in-None-clause-found
returns-in-None-clause-found g c =
    let short : length c.split_at.result.1.now ≡ 0 = search rules in
    let is : drop c.args.place c.args.entries.now ≡ [] = sym c.split_at.ensures.back ∙ nil_from_length c.split_at.result.1.now short in
    (missed_at_end g.met.K.Ord.total c.args.key.now c.args.entries.now c.requires.increasing c.args.place c.requires.place is).0

pub returns-in-None-clause-above : goal.returns-in-None-clause-above
returns-in-None-clause-above g c =
    let short : length c.split_at.result.1.now ≡ 0 = search rules in
    let is : drop c.args.place c.args.entries.now ≡ [] = sym c.split_at.ensures.back ∙ nil_from_length c.split_at.result.1.now short in
    c.split_at.ensures.back ∙ (missed_at_end g.met.K.Ord.total c.args.key.now c.args.entries.now c.requires.increasing c.args.place c.requires.place is).1
