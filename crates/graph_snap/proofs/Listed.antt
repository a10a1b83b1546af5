-- The edges of a map of sets, listed, and walks that list them: one element more, and the end.
use Rattle.std.proofs.Common.{◌≡◌, ◌∙◌, ◌+◌, ◌<◌, ◌≤◌, ◌++◌, ◌∷◌, [], ℕ, List, append_assoc, append-nil, get_or, length, refl, sym, take, ap, ap₂}
use Rattle.std.specs.Prelude.{map}
use Rattle.std.specs.List.{flat_map}
use Rattle.std.proofs.lemmas.Grind.{flat_map-append}
use Rattle.std.proofs.lemmas.List.{map-append, take_all, take_more}
use Rattle.graph_snap.specs.Listing.{edge_list, edges_from}
use Rattle.graph_snap.specs.Edges.{Sets, edges_of, pairs_of}
use Rattle.graph_snap.specs.declared.edge.Edge.{Edge}

pairs-from : (u : ℕ) (ns : List (ℕ × Unit {0})) → pairs_of (edges_from u ns) ≡ map (λ x. (u, x.0)) ns
pairs-from u [] = refl
pairs-from u (x ∷ ns) = ap (λ l. (u, x.0) ∷ l) (pairs-from u ns)

pub pairs-listed : (sets : Sets) → pairs_of (edge_list sets) ≡ edges_of sets
pairs-listed [] = refl
pairs-listed (s ∷ sets) =
    map-append (λ (e : Edge). (e.from, e.to)) (edges_from s.0 s.1) (edge_list sets)
    ∙ ap₂ (λ a b. a ++ b) (pairs-from s.0 s.1) (pairs-listed sets)

pub flat_more : {X Y : Type 0} (f : X → List Y) (xs : List X) (i : ℕ) (d : X) (new old : List Y) → i < length xs → old ≡ flat_map f (take i xs) → new ≡ old ++ f (get_or xs i d) → new ≡ flat_map f (take (i + 1) xs)
flat_more f xs i d new old low so_far pushed =
    let x = get_or xs i d in
    pushed
    ∙ ap (λ l. l ++ f x) so_far
    ∙ sym (ap (flat_map f) (take_more xs i d low) ∙ flat_map-append f (take i xs) (x ∷ []) ∙ ap (λ l. flat_map f (take i xs) ++ l) (append-nil (f x)))

pub flat_end : {X Y : Type 0} (f : X → List Y) (xs all : List X) (n : ℕ) (list : List Y) → length xs ≤ n → list ≡ flat_map f (take n xs) → xs ≡ all → list ≡ flat_map f all
flat_end f xs all n list high so_far is = so_far ∙ ap (flat_map f) (take_all n xs high ∙ is)

pub edges_more : (before : List Edge) (from : ℕ) (ends : List (ℕ × Unit {0})) (i : ℕ) (d : ℕ × Unit {0}) (new old : List Edge) → i < length ends → old ≡ before ++ edges_from from (take i ends) → new ≡ old ++ record { from = from; to = (get_or ends i d).0 } ∷ [] → new ≡ before ++ edges_from from (take (i + 1) ends)
edges_more before from ends i d new old low so_far pushed =
    let edge : ℕ × Unit {0} → Edge = λ x. record { from = from; to = x.0 } in
    let x = get_or ends i d in
    pushed
    ∙ ap (λ l. l ++ edge x ∷ []) so_far
    ∙ append_assoc before (edges_from from (take i ends)) (edge x ∷ [])
    ∙ ap (λ l. before ++ l) (sym (ap (edges_from from) (take_more ends i d low) ∙ map-append edge (take i ends) (x ∷ [])))

pub edges_end : (before : List Edge) (from : ℕ) (ends set : List (ℕ × Unit {0})) (n : ℕ) (list : List Edge) → length ends ≤ n → list ≡ before ++ edges_from from (take n ends) → ends ≡ set → list ≡ before ++ edges_from from set
edges_end before from ends set n list high so_far is = so_far ∙ ap (λ l. before ++ edges_from from l) (take_all n ends high ∙ is)
