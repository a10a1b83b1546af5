-- Walks over vertices, one more, and edges in two halves.
use Rattle.std.proofs.Common.{◌≡◌, ◌∙◌, ◌+◌, ◌<◌, ◌++◌, ◌∷◌, [], ℕ, List, ap, ap₂, arith, drop, get_or, length, map, subst, sym, take}
use Rattle.std.specs.List.{Contains}
use Rattle.std.proofs.lemmas.List.{length-drop, length-take-le, map-append, take-append-drop, take_more}
use Rattle.std.proofs.lemmas.List.Elements.{All-drop, All-take}
use Rattle.graph_snap.specs.declared.edge.Edge.{Edge}
use Rattle.graph_comp.specs.Forests.{HasEnds}
use Rattle.graph_comp.specs.declared.labelled.Labelled.{Labelled}

pub labelled_more : (vertices parents : List ℕ) (i : ℕ) (new old : List Labelled) → i < length vertices → length parents ≡ length vertices → map (λ (e : Labelled). e.vertex) old ≡ take i vertices → map (λ (e : Labelled). e.label) old ≡ map (λ p. get_or vertices p 0) (take i parents) → new ≡ old ++ record { vertex = get_or vertices i 0; label = get_or vertices (get_or parents i 0) 0 } ∷ [] → (map (λ (e : Labelled). e.vertex) new ≡ take (i + 1) vertices) × (map (λ (e : Labelled). e.label) new ≡ map (λ p. get_or vertices p 0) (take (i + 1) parents))
labelled_more vertices parents i new old low long known labels pushed =
    let vertex : Labelled → ℕ = λ e. e.vertex in
    let label : Labelled → ℕ = λ e. e.label in
    let at : ℕ → ℕ = λ p. get_or vertices p 0 in
    let p = get_or parents i 0 in
    let e : Labelled = record { vertex = at i; label = at p } in
    let in_parents : i < length parents = omega (arith, low, long) in (
      ap (map vertex) pushed ∙ map-append vertex old (e ∷ []) ∙ ap (λ l. l ++ at i ∷ []) known ∙ sym (take_more vertices i 0 low),
      ap (map label) pushed ∙ map-append label old (e ∷ []) ∙ ap (λ l. l ++ at p ∷ []) labels ∙ sym (ap (map at) (take_more parents i 0 in_parents) ∙ map-append at (take i parents) (p ∷ [])),
    )

pub halves : (vertices : List ℕ) (part front back : List Edge) (n : ℕ) → HasEnds vertices part → 0 < n → n < length part → front ≡ take n part → back ≡ drop n part → (part ≡ front ++ back) × HasEnds vertices front × HasEnds vertices back × (length front < length part) × (length back < length part)
halves vertices part front back n has some less f b =
    let Ends : Edge → Type 0 = λ e. Contains vertices e.from × Contains vertices e.to in
    let in_front : length front ≡ n = ap length f ∙ length-take-le n part (omega (arith, less)) in
    let behind = ap length b ∙ length-drop n part in (
      sym (ap₂ (λ x y. x ++ y) f b ∙ take-append-drop n part),
      subst (HasEnds vertices) (sym f) (record { order = has.order; ends = All-take Ends n part has.ends }),
      subst (HasEnds vertices) (sym b) (record { order = has.order; ends = All-drop Ends n part has.ends }),
      omega (arith, in_front, less),
      omega (arith, behind, some, less),
    )
