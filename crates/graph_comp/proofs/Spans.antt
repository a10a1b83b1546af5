-- Forests of edges.
use Rattle.std.proofs.Common.{◌≡◌, ◌∙◌, ◌++◌, ◌∷◌, ◌+◌, ◌≤◌, ◌<◌, [], ℕ, List, drop, get_or, length, take, sym, ap, subst, arith}
use Rattle.std.specs.Prelude.{◌↔◌, All}
use Rattle.std.specs.List.{AllByRecursion, Contains}
use Rattle.std.proofs.lemmas.List.{get_or_default, take-append-le, take_all, take_more}
use Rattle.std.proofs.lemmas.List.Elements.{All-append, All-cons, All-from_recursion, All-head, All-nil, recursion_from_All}
use Rattle.graph_snap.specs.declared.edge.Edge.{Edge}
use Rattle.graph_comp.specs.Forests.{HasEnds, IsForest, KeepsTrees, Spans}
use Rattle.graph_comp.proofs.Trees.{KeepSame}

-- what holds of each element of two lists in a row holds of each one's
pub all_of_parts : {X : Type 0} (P : X → Type 0) (xs ys : List X) → All P (xs ++ ys) → All P xs × All P ys
all_of_parts {X = X} P xs ys all =
    let both = parts xs (recursion_from_All P (xs ++ ys) all) in
    (All-from_recursion P xs both.0, All-from_recursion P ys both.1)
  where
    parts : (xs : List X) → AllByRecursion P (xs ++ ys) → AllByRecursion P xs × AllByRecursion P ys
    parts [] h = (tt, h)
    parts (x ∷ xs) h = let rest = parts xs h.1 in ((h.0, rest.0), rest.1)

module _ (vertices : List ℕ) where
  abbrev over : (ℕ → ℕ) → ℕ → ℕ
  over label v = label (get_or vertices v 0)

  pub spans_none : (parents : List ℕ) → length parents ≡ length vertices → ((v : ℕ) → v < length parents → get_or parents v 0 ≡ v) → Spans vertices [] parents
  spans_none parents len alone = record {
    forest = λ v lt. let is : get_or parents v 0 ≡ v = alone v lt in omega arith;
    whole = len;
    joined = λ label. ((λ _. All-nil (λ (e : Edge). label e.from ≡ label e.to)), (λ _ v lt. ap (over label) (alone v lt)));
  }

  -- an edge more
  pub spans_more : (edges : List Edge) (before new : List ℕ) (e : Edge) (from to : ℕ) → Spans vertices edges before
      → IsForest new → length new ≡ length before → get_or vertices from 0 ≡ e.from → get_or vertices to 0 ≡ e.to
      → ((label : ℕ → ℕ) → KeepsTrees label new ↔ (KeepsTrees label before × (label from ≡ label to)))
      → Spans vertices (edges ++ e ∷ []) new
  spans_more edges before new e from to spans forest len is_from is_to united = record {
    forest = forest;
    whole = len ∙ spans.whole;
    joined = λ label.
        let P = λ (e : Edge). label e.from ≡ label e.to in (
          (λ keeps.
              let both = (united (over label)).0 keeps in
              All-append P edges (e ∷ []) ((spans.joined label).0 both.0)
              (All-cons P e [] (ap label (sym is_from) ∙ both.1 ∙ ap label is_to) (All-nil P))),
          (λ keeps.
              let both = all_of_parts P edges (e ∷ []) keeps in
              let last : label e.from ≡ label e.to = All-head P e [] both.1 in
              (united (over label)).1 ((spans.joined label).1 both.0, ap label is_from ∙ last ∙ ap label (sym is_to))),
        );
  }

  -- the forests of two parts united
  pub spans_both : (front back : List Edge) (left right new : List ℕ) → Spans vertices front left → Spans vertices back right
      → IsForest new → length new ≡ length left
      → ((label : ℕ → ℕ) → KeepsTrees label new ↔ (KeepsTrees label left × KeepsTrees label right))
      → Spans vertices (front ++ back) new
  spans_both front back left right new a b forest len united = record {
    forest = forest;
    whole = len ∙ a.whole;
    joined = λ label.
        let P = λ (e : Edge). label e.from ≡ label e.to in (
          (λ keeps.
              let both = (united (over label)).0 keeps in
              All-append P front back ((a.joined label).0 both.0) ((b.joined label).0 both.1)),
          (λ keeps.
              let both = all_of_parts P front back keeps in
              (united (over label)).1 ((a.joined label).1 both.0, (b.joined label).1 both.1)),
        );
  }

pub ends_of_parts : (vertices : List ℕ) (front back : List Edge) → HasEnds vertices (front ++ back) → HasEnds vertices front × HasEnds vertices back
ends_of_parts vertices front back has =
    let both = all_of_parts (λ (e : Edge). Contains vertices e.from × Contains vertices e.to) front back has.ends in
    (record { order = has.order; ends = both.0 }, record { order = has.order; ends = both.1 })

-- ---- a loop over edges

pub spans_next : (vertices : List ℕ) (edges : List Edge) (i : ℕ) (d : Edge) (before new : List ℕ) (from to : ℕ) → i < length edges
    → Spans vertices (take i edges) before → IsForest new → length new ≡ length before
    → get_or vertices from 0 ≡ (get_or edges i d).from → get_or vertices to 0 ≡ (get_or edges i d).to
    → ((label : ℕ → ℕ) → KeepsTrees label new ↔ (KeepsTrees label before × (label from ≡ label to)))
    → Spans vertices (take (i + 1) edges) new
spans_next vertices edges i d before new from to lt spans forest len is_from is_to united =
    subst (λ es. Spans vertices es new) (sym (take_more edges i d lt)) (spans_more vertices (take i edges) before new (get_or edges i d) from to spans forest len is_from is_to united)

pub spans_all : (vertices : List ℕ) (edges : List Edge) (n : ℕ) (parents : List ℕ) → length edges ≤ n → Spans vertices (take n edges) parents → Spans vertices edges parents
spans_all vertices edges n parents le spans = subst (λ es. Spans vertices es parents) (take_all n edges le) spans

-- a slice written back into its vector is the whole vector
pub written_back : (n : ℕ) (new old : List ℕ) → length new ≡ length old → length old ≡ n → take n (new ++ drop (length new) old) ≡ new
written_back n new old same is = take-append-le n new (drop (length new) old) (omega arith) ∙ take_all n new (omega arith)

pub spans_flat : (vertices : List ℕ) (edges : List Edge) (before new : List ℕ) → Spans vertices edges before → IsForest new → length new ≡ length before → KeepSame new before → Spans vertices edges new
spans_flat vertices edges before new spans forest len same = record {
  forest = forest;
  whole = len ∙ spans.whole;
  joined = λ label. ((λ keeps. (spans.joined label).0 ((same (over vertices label)).0 keeps)), (λ keeps. (same (over vertices label)).1 ((spans.joined label).1 keeps)));
}

pub parents_within : (parents : List ℕ) (n : ℕ) → IsForest parents → length parents ≡ n → All (λ p. p < n) parents
parents_within parents n forest len k d lt =
    let low : get_or parents k 0 ≤ k = forest k lt in
    let less : get_or parents k 0 < n = omega arith in
    subst (λ p. p < n) (get_or_default parents k 0 d lt) less
