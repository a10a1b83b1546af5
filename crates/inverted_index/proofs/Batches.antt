-- Batches of documents: their marks, tables that grow, and postings that are gathered in parts.
use Rattle.std.proofs.Common.{◌≡◌, ℕ, suc, true, false, cond, ◌+◌, ◌<◌, ◌≤◌, List, [], ◌∷◌, ◌++◌, Option, Some, None, length, map, reverse, take, drop, get_or, drop-cons, refl, sym, ap, ap₂, ◌∙◌, append-nil, subst}
use Rattle.std.specs.declared.cmp.Ordering.{Ordering}
use Rattle.std.specs.declared.cmp.Ordering.TheVariants.{Less, Equal, Greater}
use Rattle.std.specs.List.{AllByRecursion, filter}
use Rattle.std.specs.Map as btree
use Rattle.std.specs.List.Sorted.{IsStrictlySortedBy}
use Rattle.std.specs.Option.{is_some, option_map, option_or, unwrap_or}
use Rattle.std.specs.Ordering.{is_eq, nat_cmp}
use Rattle.std.proofs.lemmas.Cmp.{nat_cmp_total, nat_list_cmp_total}
use Rattle.std.proofs.lemmas.List.{map-append, reverse-reverse, take-append-drop, take_all, take_more}
use Rattle.std.proofs.lemmas.List.Elements.{filter-append}
use Rattle.std.proofs.lemmas.Map.Lookups.{exact_bytes}
use Rattle.map_model.specs.Entries.{AllBelow, IsIncreasing, lookup}
use Rattle.map_model.specs.Operations.{build}
use Rattle.map_model.specs.SetOperations.{union}
use Rattle.map_model.proofs.Keys.{around}
use Rattle.map_model.proofs.Lookups.{equal_lookups, lookup-all_less, lookup-append, option_or-none}
use Rattle.map_model.proofs.NatKeys.{nat_exact}
use Rattle.map_model.proofs.Operations.{IsIncreasing-build, build-increasing, lookup-after_puts}
use Rattle.map_model.proofs.Sorted.{IsIncreasing-from_ordered, lookup-get}
use Rattle.map_model.proofs.Unions.{IsIncreasing-union, lookup-union, united}
use Rattle.inverted_index.specs.Added.{Weighing}
use Rattle.inverted_index.specs.Batches.{IsGathered, first_weights, grown, outcome_of, weighed}
use Rattle.inverted_index.specs.Documents.{AreFit}
use Rattle.inverted_index.specs.Merging.{Lists, merged}
use Rattle.inverted_index.specs.Queries.{Document, has, having, if_filled, inverted, weight_in}
use Rattle.inverted_index.specs.Terms.{bytes_cmp}
use Rattle.inverted_index.specs.declared.doc.Outcome.{Outcome}
use Rattle.inverted_index.specs.declared.marking.Marked.{Marked}
use Rattle.inverted_index.proofs.Kept.{IsIncreasing-revalued, lookup-revalued}

-- ---- documents one after another

pub having-append : (a b : List Document) (t : List ℕ) → having (a ++ b) t ≡ having a t ++ having b t
having-append a b t = ap (map (λ d. (d.0, weight_in d t))) (filter-append (has t) a b) ∙ map-append (λ (d : Document). (d.0, weight_in d t)) (filter (has t) a) (filter (has t) b)

filled_more : (l : List (ℕ × ℕ)) (e : ℕ × ℕ) → if_filled (l ++ e ∷ []) ≡ Some (unwrap_or (if_filled l) [] ++ e ∷ [])
filled_more [] e = refl
filled_more (x ∷ l) e = refl

-- a document with a weight, if there is one
abbrev pub one_if : ℕ → Option ℕ → List (ℕ × ℕ)
one_if doc None = []
one_if doc (Some w) = (doc, w) ∷ []

pub having_one : (d : Document) (t : List ℕ) → having (d ∷ []) t ≡ one_if d.0 (lookup bytes_cmp d.1 t)
having_one d t =
    elim (lookup bytes_cmp d.1 t) as (λ o. lookup bytes_cmp d.1 t ≡ o → map (λ (x : Document). (x.0, weight_in x t)) (cond (is_some o) (d ∷ []) []) ≡ one_if d.0 o) [
      | None ↦ λ _. refl
      | Some w ↦ λ is. ap (λ o. (d.0, unwrap_or o 0) ∷ []) is
    ] refl

pub inverted_more : (ds : List Document) (d : Document) (t : List ℕ) → inverted (ds ++ d ∷ []) t ≡ grown d.0 (inverted ds t) (lookup bytes_cmp d.1 t)
inverted_more ds d t =
    ap if_filled (having-append ds (d ∷ []) t ∙ ap (λ x. having ds t ++ x) (having_one d t))
    ∙ elim (lookup bytes_cmp d.1 t) as (λ o. if_filled (having ds t ++ one_if d.0 o) ≡ grown d.0 (inverted ds t) o) [
      | None ↦ ap if_filled (append-nil (having ds t))
      | Some w ↦ filled_more (having ds t) (d.0, w)
    ]

-- a term that has pairs, or has none, with one more
pub pair_more : (old : List ℕ → Option (List (ℕ × ℕ))) (term t : List ℕ) (doc w : ℕ) (pairs : Option (List (ℕ × ℕ))) (new : Option (List (ℕ × ℕ))) → old term ≡ pairs → new ≡ cond (is_eq (bytes_cmp term t)) (Some (unwrap_or pairs [] ++ (doc, w) ∷ [])) (old t) → new ≡ cond (is_eq (bytes_cmp term t)) (grown doc (old t) (Some w)) (old t)
pair_more old term t doc w pairs new has is =
    is
    ∙ elim (is_eq (bytes_cmp term t)) as (λ b. is_eq (bytes_cmp term t) ≡ b → cond b (Some (unwrap_or pairs [] ++ (doc, w) ∷ [])) (old t) ≡ cond b (grown doc (old t) (Some w)) (old t)) [
      | true ↦ λ yes. ap (λ o. Some (unwrap_or o [] ++ (doc, w) ∷ [])) (sym has ∙ ap old (exact_bytes term t (equal (bytes_cmp term t) yes)))
      | false ↦ λ _. refl
    ] refl
  where
    equal : (o : Ordering) → is_eq o ≡ true → o ≡ Equal
    equal Less h = cc
    equal Equal h = refl
    equal Greater h = cc

-- a document's terms so far, and one more
pub pushed_more : (weights : List (List ℕ × ℕ)) (i doc : ℕ) (e : List ℕ × ℕ) (t : List ℕ) (new old mid : Option (List (ℕ × ℕ))) → IsIncreasing bytes_cmp weights → i < length weights → e ≡ get_or weights i e → mid ≡ grown doc old (lookup bytes_cmp (take i weights) t) → new ≡ cond (is_eq (bytes_cmp e.0 t)) (grown doc mid (Some e.1)) mid → new ≡ grown doc old (lookup bytes_cmp (take (i + 1) weights) t)
pushed_more weights i doc e t new old mid rises low is so_far pushes =
    let front : List (List ℕ × ℕ) = take i weights in
    let back : List (List ℕ × ℕ) = drop (suc i) weights in
    let whole : weights ≡ front ++ e ∷ back = sym (take-append-drop i weights) ∙ ap (λ x. front ++ x) (drop-cons weights i e low ∙ ap (λ x. x ∷ back) (sym is)) in
    let P : List (List ℕ × ℕ) → Type 0 = λ x. IsIncreasing bytes_cmp x in
    let lower : AllBelow bytes_cmp front e.0 = (around bytes_cmp front e.0 e.1 back (subst P whole rises)).lower in
    let next : lookup bytes_cmp (take (i + 1) weights) t ≡ option_or (lookup bytes_cmp front t) (cond (is_eq (bytes_cmp e.0 t)) (Some e.1) None) =
    ap (λ l. lookup bytes_cmp l t) (take_more weights i e low ∙ ap (λ x. front ++ x ∷ []) (sym is)) ∙ lookup-append bytes_cmp front (e ∷ []) t in
    pushes
    ∙ elim (is_eq (bytes_cmp e.0 t)) as (λ b. is_eq (bytes_cmp e.0 t) ≡ b → cond b (grown doc mid (Some e.1)) mid ≡ grown doc old (option_or (lookup bytes_cmp front t) (cond b (Some e.1) None))) [
      | true ↦ λ yes.
          let none : lookup bytes_cmp front t ≡ None = ap (lookup bytes_cmp front) (sym (exact_bytes e.0 t (equal (bytes_cmp e.0 t) yes))) ∙ lookup-all_less nat_list_cmp_total front e.0 lower in
          ap (λ o. grown doc o (Some e.1)) (so_far ∙ ap (grown doc old) none) ∙ sym (ap (λ o. grown doc old (option_or o (Some e.1))) none)
      | false ↦ λ _. so_far ∙ ap (grown doc old) (sym (option_or-none (lookup bytes_cmp front t)))
    ] refl
    ∙ sym (ap (grown doc old) next)
  where
    equal : (o : Ordering) → is_eq o ≡ true → o ≡ Equal
    equal Less h = cc
    equal Equal h = refl
    equal Greater h = cc

-- a table of the documents so far, and one more
pub table_more : (by : Weighing) (docs : List Marked) (i : ℕ) (m : Marked) (t : List ℕ) (new old : Option (List (ℕ × ℕ))) → i < length docs → m ≡ get_or docs i m → old ≡ inverted (map (weighed by) (take i docs)) t → new ≡ grown m.doc old (lookup bytes_cmp (weighed by m).1 t) → new ≡ inverted (map (weighed by) (take (i + 1) docs)) t
table_more by docs i m t new old low is so_far grows =
    grows
    ∙ ap (λ o. grown m.doc o (lookup bytes_cmp (weighed by m).1 t)) so_far
    ∙ sym (ap (λ l. inverted (map (weighed by) l) t) (take_more docs i m low ∙ ap (λ x. take i docs ++ x ∷ []) (sym is)) ∙ ap (λ l. inverted l t) (map-append (weighed by) (take i docs) (m ∷ [])) ∙ inverted_more (map (weighed by) (take i docs)) (weighed by m) t)

-- weights that fit, and those of one more
abbrev pub IsFit : Weighing → Marked → Type 0
IsFit by m = AreFit (weighed by m).1

all-join : {X : Type 0} (F : X → Type 0) (whole l r : List X) → whole ≡ l ++ r → AllByRecursion F l → AllByRecursion F r → AllByRecursion F whole
all-join {X} F whole l r is a b = let P : List X → Type 0 = λ x. AllByRecursion F x in subst P (sym is) (joined l a)
  where
    joined : (front : List X) → AllByRecursion F front → AllByRecursion F (front ++ r)
    joined [] a = b
    joined (x ∷ front) a = (a.0, joined front a.1)

pub fit_more : (by : Weighing) (docs : List Marked) (i : ℕ) (m : Marked) → i < length docs → m ≡ get_or docs i m → AllByRecursion (IsFit by) (take i docs) → IsFit by m → AllByRecursion (IsFit by) (take (i + 1) docs)
fit_more by docs i m low is so_far here = all-join (IsFit by) (take (i + 1) docs) (take i docs) (m ∷ []) (take_more docs i m low ∙ ap (λ x. take i docs ++ x ∷ []) (sym is)) so_far (here, tt)

-- at the end
pub gathered_whole : (by : Weighing) (docs : List Marked) (n : ℕ) (lists : Lists) (table : List ℕ → Option (List (ℕ × ℕ))) (outcomes : List Outcome) → length docs ≤ n → IsIncreasing bytes_cmp lists → ((t : List ℕ) → lookup bytes_cmp lists t ≡ option_map first_weights (table t)) → ((t : List ℕ) → table t ≡ inverted (map (weighed by) (take n docs)) t) → outcomes ≡ map (outcome_of by) (take n docs) → AllByRecursion (IsFit by) (take n docs) → IsGathered by docs lists outcomes
gathered_whole by docs n lists table outcomes high rises found same told fit =
    let whole : take n docs ≡ docs = take_all n docs high in
    let P : List Marked → Type 0 = λ x. AllByRecursion (IsFit by) x in
    record {
      rises = rises;
      found = λ t. found t ∙ ap (option_map first_weights) (same t ∙ ap (λ l. inverted (map (weighed by) l) t) whole);
      told = told ∙ ap (map (outcome_of by)) whole;
      fit = subst P whole fit;
    }

-- ---- first weights

pub lookup-first_weights : (pairs : List (ℕ × ℕ)) (q : ℕ) → lookup nat_cmp (first_weights pairs) q ≡ lookup nat_cmp pairs q
lookup-first_weights pairs q =
    lookup-after_puts nat_cmp_total nat_exact (reverse pairs) [] q
    ∙ option_or-none (lookup nat_cmp (reverse (reverse pairs)) q)
    ∙ ap (λ l. lookup nat_cmp l q) (reverse-reverse pairs)

pub IsIncreasing-first_weights : (pairs : List (ℕ × ℕ)) → IsIncreasing nat_cmp (first_weights pairs)
IsIncreasing-first_weights pairs = IsIncreasing-build nat_cmp_total (reverse pairs)

-- what the first of two maps has counts
pub united_first : (o p : Option ℕ) → united (λ x y. x) o p ≡ option_or o p
united_first None None = refl
united_first None (Some w) = refl
united_first (Some v) None = refl
united_first (Some v) (Some w) = refl

pub first_weights-append : (a b : List (ℕ × ℕ)) → merged (first_weights a) (first_weights b) ≡ first_weights (a ++ b)
first_weights-append a b =
    equal_lookups nat_cmp_total nat_exact (merged (first_weights a) (first_weights b)) (first_weights (a ++ b)) (IsIncreasing-union nat_cmp_total (λ x y. x) (first_weights a) (first_weights b) (IsIncreasing-first_weights a)) (IsIncreasing-first_weights (a ++ b)) (λ q.
    lookup-union nat_cmp_total nat_exact (λ x y. x) (first_weights a) (first_weights b) q (IsIncreasing-first_weights b)
    ∙ united_first (lookup nat_cmp (first_weights a) q) (lookup nat_cmp (first_weights b) q)
    ∙ ap₂ option_or (lookup-first_weights a q) (lookup-first_weights b q)
    ∙ sym (lookup-first_weights (a ++ b) q ∙ lookup-append nat_cmp a b q))

filled_both : (a b : List (ℕ × ℕ)) → united merged (option_map first_weights (if_filled a)) (option_map first_weights (if_filled b)) ≡ option_map first_weights (if_filled (a ++ b))
filled_both [] [] = refl
filled_both [] (y ∷ b) = refl
filled_both (x ∷ a) [] = ap (λ l. Some (first_weights (x ∷ l))) (sym (append-nil a))
filled_both (x ∷ a) (y ∷ b) = ap Some (first_weights-append (x ∷ a) (y ∷ b))

-- ---- two parts

pub gathered_both : (by : Weighing) (docs front back : List Marked) (left right lists : Lists) (near far outcomes : List Outcome) → docs ≡ front ++ back → IsGathered by front left near → IsGathered by back right far → lists ≡ union bytes_cmp merged left right → outcomes ≡ near ++ far → IsGathered by docs lists outcomes
gathered_both by docs front back left right lists near far outcomes is l r both told = record {
  rises = let P : Lists → Type 0 = λ m. IsIncreasing bytes_cmp m in subst P (sym both) (IsIncreasing-union nat_list_cmp_total merged left right l.rises);
  found = λ t.
      ap (λ m. lookup bytes_cmp m t) both
      ∙ lookup-union nat_list_cmp_total exact_bytes merged left right t r.rises
      ∙ ap₂ (united merged) (l.found t) (r.found t)
      ∙ filled_both (having (map (weighed by) front) t) (having (map (weighed by) back) t)
      ∙ ap (λ x. option_map first_weights (if_filled x)) (sym (having-append (map (weighed by) front) (map (weighed by) back) t))
      ∙ ap (λ x. option_map first_weights (inverted x t)) (sym (map-append (weighed by) front back) ∙ ap (map (weighed by)) (sym is));
  fit = all-join (IsFit by) docs front back is l.fit r.fit;
  told = told ∙ ap₂ (λ x y. x ++ y) l.told r.told ∙ sym (map-append (outcome_of by) front back) ∙ ap (map (outcome_of by)) (sym is);
}

-- ---- the rows of a table

module _ (entries : List (List ℕ × List (ℕ × ℕ))) (ordered : IsStrictlySortedBy bytes_cmp (btree.keys_of entries)) where
  abbrev pub rows : Lists
  rows = map (λ e. (e.0, first_weights e.1)) entries

  pub rows_rise : IsIncreasing bytes_cmp rows
  rows_rise = IsIncreasing-revalued first_weights bytes_cmp entries (IsIncreasing-from_ordered bytes_cmp entries ordered)

  pub rows_built : build bytes_cmp rows ≡ rows
  rows_built = build-increasing nat_list_cmp_total exact_bytes rows rows_rise

  pub rows_found : (t : List ℕ) → lookup bytes_cmp rows t ≡ option_map first_weights (btree.lookup (λ q. is_eq (bytes_cmp t q)) entries)
  rows_found t = lookup-revalued first_weights bytes_cmp entries t ∙ ap (option_map first_weights) (lookup-get nat_list_cmp_total entries t)
