-- Runs of items, item by item.
use Rattle.std.proofs.Common.{◌≡◌, ◌∙◌, ◌+◌, ◌<◌, ◌++◌, ℕ, zero, suc, List, [], ◌∷◌, length, take, drop, sym, ap, arith, add-one}
use Rattle.std.specs.List.{flat_map}
use Rattle.std.proofs.lemmas.List.{drop-drop, flat_map_more, length-drop}
use Rattle.seq_tool.specs.Effects.{run_of}

taken_more : (xs : List ℕ) (k x : ℕ) (rest : List ℕ) → drop k xs ≡ x ∷ rest → take (suc k) xs ≡ take k xs ++ x ∷ []
taken_more [] zero x rest is = cc is
taken_more [] (suc k) x rest is = cc is
taken_more (y ∷ xs) zero x rest is = cc is
taken_more (y ∷ xs) (suc k) x rest is = ap (λ more. y ∷ more) (taken_more xs k x rest is)

run_more : (items : List ℕ) (from k x : ℕ) (rest : List ℕ) → drop (from + k) items ≡ x ∷ rest → run_of items from (k + 1) ≡ run_of items from k ++ x ∷ []
run_more items from k x rest is =
    let here : drop k (drop from items) ≡ x ∷ rest = drop-drop k from items ∙ is in
    rw add-one (taken_more (drop from items) k x rest here)

-- one more item, written behind those so far
pub written_more : (f : ℕ → List ℕ) (items : List ℕ) (from k x : ℕ) (rest out start : List ℕ) → drop (from + k) items ≡ x ∷ rest → out ≡ start ++ flat_map f (run_of items from k)
    → out ++ f x ≡ start ++ flat_map f (run_of items from (k + 1))
written_more f items from k x rest out start is so_far =
    ap (λ o. o ++ f x) so_far
    ∙ flat_map_more f start (run_of items from k) x
    ∙ ap (λ run. start ++ flat_map f run) (sym (run_more items from k x rest is))

-- what is left after an item
pub left_more : (items : List ℕ) (from k x : ℕ) (rest : List ℕ) → drop (from + k) items ≡ x ∷ rest → rest ≡ drop (from + (k + 1)) items
left_more items from k x rest is =
    let next : from + k + 1 ≡ from + (k + 1) = omega arith in
    sym (ap (drop 1) is) ∙ drop-drop 1 (from + k) items ∙ ap (λ n. drop n items) next

-- something is left before the end
pub some_left : (items : List ℕ) (n : ℕ) → n < length items → drop n items ≡ [] → ⊥
some_left items n h none = let same = ap length none in omega (arith, length-drop n items, same)
