use Rattle.std.proofs.Common.{◌≡◌, ℕ, ◌<◌, [], ◌∷◌, ◌++◌, length, map, take, get_or, arith, sym, subst, ap, ◌∙◌}
use Rattle.std.proofs.lemmas.List.{get_or_default, get_or-map, length-map, length-take-le, take_more}
use Rattle.aug_monoid.specs.declared.pair64.Pair64.{Pair64}
use Rattle.aug_monoid.specs.Exact.{pair64_cmp}
use Rattle.map_model.specs.Entries.{IsIncreasing}
use Rattle.gap_code.specs.CodeLaws.{rises_at}
use Rattle.row_leaf.specs.Code.{row_entry}
use Rattle.row_leaf.specs.CodeLaws.{places_again}
use Rattle.row_leaf.proofs.Falling.{falling}
use Rattle.row_leaf.proofs.leaf.encode.Goals as goal

pub push-requires-clause-rises : goal.push-requires-clause-rises
push-requires-clause-rises c =
    let from = c.args.from.now in
    let i = c.loop-entry.entry-index in
    let none : Pair64 × ℕ = (record { first = 0; second = 0 }, 0) in
    let e : Pair64 × ℕ = get_or from i none in
    let rows = map row_entry from in
    let inside : i < length from = omega arith in
    let within : i < length rows = omega (arith, inside, length-map from row_entry) in
    let same = get_or_default from i none e inside in
    let read : row_entry e ≡ get_or rows i (row_entry e) = ap row_entry same ∙ sym (get_or-map row_entry from i e (row_entry e) inside) in
    rw c.loop-entry.invariant (rises_at rows 0 i (row_entry e) (falling rows (subst (IsIncreasing pair64_cmp) (sym (places_again from)) c.requires.increasing)) within read)

pub push-requires-clause-short : goal.push-requires-clause-short
push-requires-clause-short c =
    let from = c.args.from.now in
    let rows = map row_entry from in
    rw c.loop-entry.invariant (omega (arith, length-take-le c.loop-entry.entry-index rows (omega (arith, length-map from row_entry)), length-map from row_entry, c.requires.short))

pub loop-entry-preserved : goal.loop-entry-preserved
loop-entry-preserved c =
    let from = c.args.from.now in
    let i = c.loop-entry.entry-index in
    let none : Pair64 × ℕ = (record { first = 0; second = 0 }, 0) in
    let e : Pair64 × ℕ = get_or from i none in
    let rows = map row_entry from in
    let inside : i < length from = omega arith in
    let within : i < length rows = omega (arith, inside, length-map from row_entry) in
    let same = get_or_default from i none e inside in
    let read : row_entry e ≡ get_or rows i (row_entry e) = ap row_entry same ∙ sym (get_or-map row_entry from i e (row_entry e) inside) in
    c.in_ok-push.ensures.pushed ∙ ap (λ t. t ++ row_entry e ∷ []) c.loop-entry.invariant ∙ sym (take_more rows i (row_entry e) within ∙ ap (λ x. take i rows ++ x ∷ []) (sym read))
