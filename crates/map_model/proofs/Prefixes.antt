-- A list that goes on from another.
use Rattle.std.proofs.Common.{◌≡◌, List, [], ◌∷◌, ◌++◌, length, take, drop, refl, sym, ap, ◌∙◌, append_assoc, take-append-drop}
use Rattle.map_model.proofs.Cuts.{take_front}

-- nothing was appended
pub front_same : {E : Type 0} (xs ys : List E) → ys ≡ xs → take (length xs) ys ≡ xs
front_same xs ys is = ap (take (length xs)) is ∙ front_whole xs
  where
    front_whole : {E : Type 0} (xs : List E) → take (length xs) xs ≡ xs
    front_whole [] = refl
    front_whole (x ∷ xs) = ap (λ ys. x ∷ ys) (front_whole xs)

-- some entries were appended
pub front_more : {E : Type 0} (xs ys more : List E) → ys ≡ xs ++ more → take (length xs) ys ≡ xs
front_more xs ys more is = ap (take (length xs)) is ∙ take_front xs more

-- entries were appended, and then a list went on from there
pub front_further : {E : Type 0} (xs ys zs more : List E) → ys ≡ xs ++ more → take (length ys) zs ≡ ys → take (length xs) zs ≡ xs
front_further xs ys zs more is on =
    let whole : zs ≡ xs ++ (more ++ drop (length ys) zs) =
    sym (take-append-drop (length ys) zs) ∙ ap (λ x. x ++ drop (length ys) zs) (on ∙ is) ∙ append_assoc xs more (drop (length ys) zs) in
    front_more xs zs (more ++ drop (length ys) zs) whole

-- a list that goes on, and then entries were appended
pub front_then : {E : Type 0} (xs ys zs more : List E) → take (length xs) ys ≡ xs → zs ≡ ys ++ more → take (length xs) zs ≡ xs
front_then xs ys zs more on is =
    front_more xs zs (drop (length xs) ys ++ more)
    (is ∙ ap (λ x. x ++ more) (sym (take-append-drop (length xs) ys) ∙ ap (λ x. x ++ drop (length xs) ys) on) ∙ append_assoc xs (drop (length xs) ys) more)
