use Rattle.std.proofs.Common.{◌≡◌, ◌<◌, length, take, ap, arith, ◌∙◌}
use Rattle.std.proofs.Math.Seq.{take-length}
use Rattle.std.proofs.lemmas.Bool.Decides.{Decides-eqb}
use Rattle.std.proofs.lemmas.Slice.Eq.{slice_eq-Decides}
use Rattle.std.specs.Cmp.Lexicographic.{pointwise}
use Rattle.std.proofs.Math.Dec.{eqb}
use Rattle.run_check.specs.Placing.{tags_of}
use Rattle.run_check.proofs.Keyed.{tells_permutation, pairs_map}
use Rattle.run_check.proofs.placed.is_permutation.Goals as goal

pub returns : goal.returns
returns g c =
    let placed = c.args.placed.now in
    let sorted = c.in_ok-sorted.sorted.items in
    let whole : take c.loop-p.p-index placed ≡ placed = ap (λ n. take n placed) (let z : c.loop-p.p-index ≡ length placed = omega arith in z) ∙ take-length placed in
    let tags : c.as_slice.result.now ≡ tags_of placed = c.as_slice.ensures.value ∙ c.loop-p.invariant ∙ ap tags_of whole in
    let others : c.as_slice-2.result.now ≡ sorted = c.as_slice-2.ensures.value in
    let same : c.eq.result ≡ pointwise eqb (tags_of placed) sorted = c.eq.ensures ∙ (λ i. pointwise eqb (tags i) (others i)) in
    tells_permutation (tags_of placed) c.args.order.now sorted c.eq.result (pairs_map (λ p. p.entry.tag) (λ m n. m < n) placed c.requires) c.in_ok-sorted.ensures.permutation c.in_ok-sorted.ensures.rise
    (slice_eq-Decides Decides-eqb (tags_of placed) sorted c.eq.result same)
