-- Walks over lists: one element more, and the end.
use Rattle.std.proofs.Common.{◌≡◌, ℕ, suc, ◌+◌, ◌<◌, ◌≤◌, Bool, not, List, [], ◌∷◌, ◌++◌, append_assoc, append-nil, arith, drop, drop-cons, length, map, get_or, take, sym, ap, ap₂, ◌∙◌}
use Rattle.std.proofs.lemmas.List.{drop_all, map-append, take_all, take_more}
use Rattle.std.proofs.lemmas.List.Sums.{fold-append}
use Rattle.std.specs.Option.{is_some}
use Rattle.std.specs.Ordering.{nat_cmp}
use Rattle.map_model.specs.Entries.{lookup}
use Rattle.map_model.specs.SetOperations.{intersect, union}
use Rattle.inverted_index.specs.Batches.{all_knowing, knowing, mark_of, marked}
use Rattle.inverted_index.specs.Merging.{common, union_all, sat}
use Rattle.inverted_index.specs.declared.doc.Doc.{Doc}
use Rattle.inverted_index.specs.declared.marking.Marked.{Marked}

one_more_list : (ls : List (List (ℕ × ℕ))) (i : ℕ) (l : List (ℕ × ℕ)) → i < length ls → l ≡ get_or ls i l → take (i + 1) ls ≡ take i ls ++ l ∷ []
one_more_list ls i l low is = take_more ls i l low ∙ ap (λ x. take i ls ++ x ∷ []) (sym is)

pub common_more : (e : List (ℕ × ℕ)) (a : List (ℕ × ℕ)) (ls : List (List (ℕ × ℕ))) (i : ℕ) (l m n : List (ℕ × ℕ)) → e ≡ intersect nat_cmp sat n m → m ≡ l → n ≡ common a (take i ls) → i < length ls → l ≡ get_or ls i l → e ≡ common a (take (i + 1) ls)
common_more e a ls i l m n has lent so_far low is = has ∙ ap (intersect nat_cmp sat n) lent ∙ ap (λ x. intersect nat_cmp sat x l) so_far ∙ sym (ap (common a) (one_more_list ls i l low is) ∙ fold-append (λ x p. intersect nat_cmp sat x p) a (take i ls) (l ∷ []))

pub union_all_more : (e : List (ℕ × ℕ)) (a : List (ℕ × ℕ)) (ls : List (List (ℕ × ℕ))) (i : ℕ) (l m n : List (ℕ × ℕ)) → e ≡ union nat_cmp sat n m → m ≡ l → n ≡ union_all a (take i ls) → i < length ls → l ≡ get_or ls i l → e ≡ union_all a (take (i + 1) ls)
union_all_more e a ls i l m n has lent so_far low is = has ∙ ap (union nat_cmp sat n) lent ∙ ap (λ x. union nat_cmp sat x l) so_far ∙ sym (ap (union_all a) (one_more_list ls i l low is) ∙ fold-append (λ x p. union nat_cmp sat x p) a (take i ls) (l ∷ []))

pub common_end : (e a : List (ℕ × ℕ)) (ls : List (List (ℕ × ℕ))) (n : ℕ) → length ls ≤ n → e ≡ common a (take n ls) → e ≡ common a ls
common_end e a ls n high so_far = so_far ∙ ap (common a) (take_all n ls high)

pub union_all_end : (e a : List (ℕ × ℕ)) (ls : List (List (ℕ × ℕ))) (n : ℕ) → length ls ≤ n → e ≡ union_all a (take n ls) → e ≡ union_all a ls
union_all_end e a ls n high so_far = so_far ∙ ap (union_all a) (take_all n ls high)

pub map_more : {X Y : Type 0} (f : X → Y) (xs : List X) (i : ℕ) (x : X) (new old : List Y) (y : Y) → i < length xs → x ≡ get_or xs i x → old ≡ map f (take i xs) → y ≡ f x → new ≡ old ++ y ∷ [] → new ≡ map f (take (i + 1) xs)
map_more f xs i x new old y low is so_far made pushed =
    pushed
    ∙ ap₂ (λ l z. l ++ z ∷ []) so_far made
    ∙ sym (ap (map f) (take_more xs i x low ∙ ap (λ z. take i xs ++ z ∷ []) (sym is)) ∙ map-append f (take i xs) (x ∷ []))

pub map_end : {X Y : Type 0} (f : X → Y) (xs : List X) (n : ℕ) (made : List Y) → length xs ≤ n → made ≡ map f (take n xs) → made ≡ map f xs
map_end f xs n made high so_far = so_far ∙ ap (map f) (take_all n xs high)

pub marks_end : (all list : List Marked) (known : List (ℕ × ℕ)) (docs : List Doc) (n : ℕ) → length docs ≤ n → all ≡ list ++ marked known (drop n docs) → list ≡ all
marks_end all list known docs n high so_far = sym (so_far ∙ ap (λ l. list ++ marked known l) (drop_all n docs high) ∙ append-nil list)

pub known_end : (all known : List (ℕ × ℕ)) (docs : List Doc) (n : ℕ) → length docs ≤ n → all ≡ all_knowing known (drop n docs) → known ≡ all
known_end all known docs n high so_far = sym (so_far ∙ ap (all_knowing known) (drop_all n docs high))

pub rest_from : {X : Type 0} (xs : List X) (i : ℕ) (d : X) → i < length xs → drop i xs ≡ get_or xs i d ∷ drop (i + 1) xs
rest_from xs i d low = let next : suc i ≡ i + 1 = omega arith in drop-cons xs i d low ∙ ap (λ n. get_or xs i d ∷ drop n xs) next

pub known_more : (all before after : List (ℕ × ℕ)) (docs : List Doc) (i : ℕ) (d : Doc) → i < length docs → all ≡ all_knowing before (drop i docs) → after ≡ knowing before (get_or docs i d).doc → all ≡ all_knowing after (drop (i + 1) docs)
known_more all before after docs i d low so_far is = so_far ∙ ap (all_knowing before) (rest_from docs i d low) ∙ ap (λ k. all_knowing k (drop (i + 1) docs)) (sym is)

pub marks_more : (all old new : List Marked) (before after : List (ℕ × ℕ)) (docs : List Doc) (i : ℕ) (d : Doc) (is_new : Bool) → i < length docs → all ≡ old ++ marked before (drop i docs) → after ≡ knowing before (get_or docs i d).doc → is_new ≡ not (is_some (lookup nat_cmp before (get_or docs i d).doc)) → new ≡ old ++ record { doc = (get_or docs i d).doc; text = (get_or docs i d).text; is_new = is_new } ∷ [] → all ≡ new ++ marked after (drop (i + 1) docs)
marks_more all old new before after docs i d is_new low so_far is answer pushed =
    let x = get_or docs i d in
    let mark : Bool → Marked = λ b. record { doc = x.doc; text = x.text; is_new = b } in
    let marks : new ≡ old ++ mark_of before x ∷ [] = pushed ∙ ap (λ b. old ++ mark b ∷ []) answer in
    so_far
    ∙ ap (λ l. old ++ marked before l) (rest_from docs i d low)
    ∙ sym (append_assoc old (mark_of before x ∷ []) (marked (knowing before x.doc) (drop (i + 1) docs)))
    ∙ ap₂ (λ l k. l ++ marked k (drop (i + 1) docs)) (sym marks) (sym is)

-- an element that an iterator gave
pub given_more : {X Y : Type 0} (f : X → Y) (all old new : List Y) (before after : List X) (x : X) (y : Y) → all ≡ old ++ map f before → before ≡ x ∷ after → y ≡ f x → new ≡ old ++ y ∷ [] → all ≡ new ++ map f after
given_more f all old new before after x y so_far steps made pushed =
    so_far
    ∙ ap (λ l. old ++ map f l) steps
    ∙ sym (append_assoc old (f x ∷ []) (map f after))
    ∙ ap (λ l. l ++ map f after) (ap (λ z. old ++ z ∷ []) (sym made) ∙ sym pushed)
