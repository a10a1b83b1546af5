-- An array that is written from its front on.
use Rattle.std.proofs.Common.{◌≡◌, ℕ, ◌+◌, ◌<◌, List, [], ◌∷◌, ◌++◌, length, map, get_or, take, drop, set, ap, sym, ◌∙◌, append_assoc, arith}
use Rattle.std.proofs.lemmas.List.{drop_more, length-map, length-take-le, map-append, set_at, take_more}

-- one more image is written
pub one_more : {X Y : Type 0} (f : X → Y) (items : List X) (room old : List Y) (i : ℕ) (d : X) → i < length items → i < length old
    → room ≡ map f (take i items) ++ drop i old → set room i (f (get_or items i d)) ≡ map f (take (i + 1) items) ++ drop (i + 1) old
one_more {X} {Y} f items room old i d h fits e =
    let x : X = get_or items i d in
    let front : List Y = map f (take i items) in
    let behind : List Y = drop (i + 1) old in
    let size : length front ≡ i = length-map (take i items) f ∙ length-take-le i items (omega arith) in
    let split : room ≡ front ++ get_or old i (f x) ∷ behind = e ∙ ap (λ (l : List Y). front ++ l) (drop_more old i (f x) fits) in
    let longer : map f (take (i + 1) items) ≡ front ++ f x ∷ [] = ap (λ (l : List X). map f l) (take_more items i d h) ∙ map-append f (take i items) (x ∷ []) in
    ap (λ (l : List Y). set l i (f x)) split
    ∙ set_at front (get_or old i (f x)) behind (f x) i size
    ∙ sym (ap (λ (l : List Y). l ++ behind) longer ∙ append_assoc front (f x ∷ []) behind)
