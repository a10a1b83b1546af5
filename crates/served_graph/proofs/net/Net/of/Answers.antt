use Rattle.std.proofs.Common.{◌≡◌, ◌∙◌, ◌+◌, ◌<◌, ◌++◌, ◌∷◌, [], ℕ, List, ap, get_or, length, sym, take}
use Rattle.std.specs.List.{flat_map}
use Rattle.std.proofs.lemmas.Grind.{flat_map-append}
use Rattle.std.proofs.lemmas.List.{take_more}
use Rattle.aug_monoid.specs.declared.pair64.Pair64.{Pair64}
use Rattle.served_graph.specs.declared.fate.Fate.{Fate}
use Rattle.served_graph.specs.declared.fate.Fate.TheVariants as fate
use Rattle.served_graph.specs.Nets.{added_parts, cut_parts, if_added, if_cut}
use Rattle.served_graph.proofs.net.Net.of.Goals as goal

one_more : {X Y : Type 0} (h : X → List Y) (xs : List X) (i : ℕ) (d : X) → i < length xs → flat_map h (take (i + 1) xs) ≡ flat_map h (take i xs) ++ flat_map h (get_or xs i d ∷ [])
one_more h xs i d lt = ap (flat_map h) (take_more xs i d lt) ∙ flat_map-append h (take i xs) (get_or xs i d ∷ [])

pub loop-key-preserved : goal.loop-key-preserved
loop-key-preserved c =
    let entries = c.args.entries.now in
    let i = c.loop-key.key-index in
    let none : Pair64 × Fate = (record { first = 0; second = 0 }, fate.Cut) in
    let last : Pair64 × Fate = get_or entries i none in (
      c.in_ok-push.ensures.cut ∙ ap (λ xs. xs ++ cut_parts (last ∷ [])) c.loop-key.invariant.0 ∙ sym (one_more (λ (e : Pair64 × Fate). if_cut e.0 e.1) entries i none c.loop-key-test.true),
      c.in_ok-push.ensures.added ∙ ap (λ xs. xs ++ added_parts (last ∷ [])) c.loop-key.invariant.1 ∙ sym (one_more (λ (e : Pair64 × Fate). if_added e.0 e.1) entries i none c.loop-key-test.true),
    )
