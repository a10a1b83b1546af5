-- A batch of documents, whose postings are united with an index at once, is added as its documents one after another.
use Rattle.std.proofs.Common.{◌≡◌, ℕ, Bool, true, false, cond, not, List, [], ◌∷◌, Option, Some, None, length, map, refl, sym, ap, ap₂, ◌∙◌, subst}
use Rattle.std.specs.Prelude.{if◌then◌else◌}
use Rattle.std.specs.List.{AllByRecursion}
use Rattle.std.specs.Option.{is_some, option_map, option_or, unwrap_or}
use Rattle.std.specs.Ordering.{nat_cmp}
use Rattle.std.proofs.lemmas.Cmp.{nat_cmp_total, nat_list_cmp_total}
use Rattle.std.proofs.lemmas.Map.Lookups.{exact_bytes}
use Rattle.std.proofs.lemmas.Option.{none-some, same_Some}
use Rattle.map_model.specs.Entries.{IsIncreasing, lookup, set}
use Rattle.map_model.specs.SetOperations.{union}
use Rattle.map_model.proofs.Lookups.{equal_lookups, first_found, lookup-append, option_or-none}
use Rattle.map_model.proofs.NatKeys.{nat_exact}
use Rattle.map_model.proofs.Unions.{IsIncreasing-union, lookup-union, united}
use Rattle.inverted_index.specs.Added.{Weighing, outcome_by, outcomes_by, with_doc_by, with_docs_by}
use Rattle.inverted_index.specs.Batches.{IsGathered, all_knowing, first_weights, knowing, mark_of, marked, outcome_of, weighed}
use Rattle.inverted_index.specs.Documents.{AreFit, IsIndex, documents_of}
use Rattle.inverted_index.specs.Merging.{Lists, merged, postings_at}
use Rattle.inverted_index.specs.Queries.{Document, having, if_filled, is_known}
use Rattle.inverted_index.specs.Terms.{bytes_cmp}
use Rattle.inverted_index.specs.declared.doc.Doc.{Doc}
use Rattle.inverted_index.specs.declared.doc.Outcome.{Outcome}
use Rattle.inverted_index.specs.declared.doc.Outcome.TheVariants as outcomes
use Rattle.inverted_index.specs.declared.marking.Marked.{Marked}
use Rattle.inverted_index.proofs.Batches.{IsIncreasing-first_weights, having-append, having_one, one_if, lookup-first_weights, united_first}
use Rattle.inverted_index.proofs.Kept.{IsIncreasing-revalued, lookup-revalued}
use Rattle.inverted_index.proofs.OneMore.{batch, known-documents, one_more, single}

-- ---- lists that have the same weights

-- the weight of a document in the postings of a term
abbrev found_at : Lists → List ℕ → ℕ → Option ℕ
found_at P t q = lookup nat_cmp (postings_at P t) q

abbrev IsFilled : List (ℕ × ℕ) → Type 0
IsFilled m = IsIncreasing nat_cmp m × (m ≡ [] → ⊥)

abbrev IsFilledSome : Option (List (ℕ × ℕ)) → Type 0
IsFilledSome o = (m : List (ℕ × ℕ)) → o ≡ Some m → IsFilled m

same_postings : (o p : Option (List (ℕ × ℕ))) → IsFilledSome o → IsFilledSome p → ((q : ℕ) → lookup nat_cmp (unwrap_or o []) q ≡ lookup nat_cmp (unwrap_or p []) q) → o ≡ p
same_postings None None f g h = refl
same_postings None (Some []) f g h = absurd ((g [] refl).1 refl)
same_postings None (Some (e ∷ m)) f g h = absurd (none-some e.1 (h e.0 ∙ first_found nat_cmp_total e m))
same_postings (Some []) None f g h = absurd ((f [] refl).1 refl)
same_postings (Some (e ∷ m)) None f g h = absurd (none-some e.1 (sym (h e.0) ∙ first_found nat_cmp_total e m))
same_postings (Some m) (Some n) f g h = ap Some (equal_lookups nat_cmp_total nat_exact m n (f m refl).0 (g n refl).0 h)

same_lists : (P Q : Lists) → IsIncreasing bytes_cmp P → IsIncreasing bytes_cmp Q → ((t : List ℕ) → IsFilledSome (lookup bytes_cmp P t)) → ((t : List ℕ) → IsFilledSome (lookup bytes_cmp Q t)) → ((t : List ℕ) (q : ℕ) → found_at P t q ≡ found_at Q t q) → P ≡ Q
same_lists P Q s r f g h = equal_lookups nat_list_cmp_total exact_bytes P Q s r (λ t. same_postings (lookup bytes_cmp P t) (lookup bytes_cmp Q t) (f t) (g t) (h t))

-- a first entry is found
is_filled : (m : List (ℕ × ℕ)) (q w : ℕ) → lookup nat_cmp m q ≡ Some w → m ≡ [] → ⊥
is_filled m q w found empty = none-some w (sym (ap (λ x. lookup nat_cmp x q) empty) ∙ found)

-- ---- lists united

at_united : (o p : Option (List (ℕ × ℕ))) (q : ℕ) → ((m : List (ℕ × ℕ)) → p ≡ Some m → IsIncreasing nat_cmp m) → lookup nat_cmp (unwrap_or (united merged o p) []) q ≡ option_or (lookup nat_cmp (unwrap_or o []) q) (lookup nat_cmp (unwrap_or p []) q)
at_united None None q rises = refl
at_united None (Some n) q rises = refl
at_united (Some m) None q rises = sym (option_or-none (lookup nat_cmp m q))
at_united (Some m) (Some n) q rises = lookup-union nat_cmp_total nat_exact (λ x y. x) m n q (rises n refl) ∙ united_first (lookup nat_cmp m q) (lookup nat_cmp n q)

found_at-union : (P B : Lists) (t : List ℕ) (q : ℕ) → IsIncreasing bytes_cmp B → ((m : List (ℕ × ℕ)) → lookup bytes_cmp B t ≡ Some m → IsIncreasing nat_cmp m) → found_at (union bytes_cmp merged P B) t q ≡ option_or (found_at P t q) (found_at B t q)
found_at-union P B t q s rises =
    ap (λ o. lookup nat_cmp (unwrap_or o []) q) (lookup-union nat_list_cmp_total exact_bytes merged P B t s)
    ∙ at_united (lookup bytes_cmp P t) (lookup bytes_cmp B t) q rises

filled_united : (o p : Option (List (ℕ × ℕ))) → IsFilledSome o → IsFilledSome p → IsFilledSome (united merged o p)
filled_united None None f g m is = absurd (none-some m is)
filled_united None (Some n) f g m is = g m is
filled_united (Some l) None f g m is = f m is
filled_united (Some []) (Some n) f g m is = absurd ((f [] refl).1 refl)
filled_united (Some (e ∷ l)) (Some n) f g m is =
    let same : merged (e ∷ l) n ≡ m = same_Some (merged (e ∷ l) n) m is in
    let found : lookup nat_cmp (merged (e ∷ l) n) e.0 ≡ Some e.1 = lookup-union nat_cmp_total nat_exact (λ x y. x) (e ∷ l) n e.0 (g n refl).0 ∙ united_first (lookup nat_cmp (e ∷ l) e.0) (lookup nat_cmp n e.0) ∙ ap (λ o. option_or o (lookup nat_cmp n e.0)) (first_found nat_cmp_total e l) in
    subst IsFilled same (IsIncreasing-union nat_cmp_total (λ x y. x) (e ∷ l) n (f (e ∷ l) refl).0, is_filled (merged (e ∷ l) n) e.0 e.1 found)

-- ---- documents one after another

abbrev lists_with : Lists → List Document → Lists
lists_with P [] = P
lists_with P (d ∷ ds) = lists_with (union bytes_cmp merged P (batch d.0 d.1)) ds

found_at-batch : (d : Document) (t : List ℕ) (q : ℕ) → found_at (batch d.0 d.1) t q ≡ lookup nat_cmp (having (d ∷ []) t) q
found_at-batch d t q =
    ap (λ o. lookup nat_cmp (unwrap_or o []) q) (lookup-revalued (single d.0) bytes_cmp d.1 t)
    ∙ elim (lookup bytes_cmp d.1 t) as (λ o. lookup nat_cmp (unwrap_or (option_map (single d.0) o) []) q ≡ lookup nat_cmp (one_if d.0 o) q) [ None ↦ refl | Some w ↦ refl ]
    ∙ ap (λ l. lookup nat_cmp l q) (sym (having_one d t))

rising_batch : (d : Document) (t : List ℕ) (m : List (ℕ × ℕ)) → lookup bytes_cmp (batch d.0 d.1) t ≡ Some m → IsIncreasing nat_cmp m
rising_batch d t m is = one (lookup bytes_cmp d.1 t) (sym (lookup-revalued (single d.0) bytes_cmp d.1 t) ∙ is)
  where
    one : (o : Option ℕ) → option_map (single d.0) o ≡ Some m → IsIncreasing nat_cmp m
    one None bad = absurd (none-some m bad)
    one (Some w) same = let P : List (ℕ × ℕ) → Type 0 = λ x. IsIncreasing nat_cmp x in subst P (same_Some (single d.0 w) m same) (tt, tt)

or_assoc : (a b c : Option ℕ) → option_or (option_or a b) c ≡ option_or a (option_or b c)
or_assoc None b c = refl
or_assoc (Some v) b c = refl

found_at-lists_with : (ds : List Document) (P : Lists) (t : List ℕ) (q : ℕ) → AllByRecursion (λ d. IsIncreasing bytes_cmp d.1) ds → found_at (lists_with P ds) t q ≡ option_or (found_at P t q) (lookup nat_cmp (having ds t) q)
found_at-lists_with [] P t q all = sym (option_or-none (found_at P t q))
found_at-lists_with (d ∷ ds) P t q all =
    found_at-lists_with ds (union bytes_cmp merged P (batch d.0 d.1)) t q all.1
    ∙ ap (λ o. option_or o (lookup nat_cmp (having ds t) q)) (found_at-union P (batch d.0 d.1) t q (IsIncreasing-revalued (single d.0) bytes_cmp d.1 all.0) (rising_batch d t) ∙ ap (option_or (found_at P t q)) (found_at-batch d t q))
    ∙ or_assoc (found_at P t q) (lookup nat_cmp (having (d ∷ []) t) q) (lookup nat_cmp (having ds t) q)
    ∙ ap (option_or (found_at P t q)) (sym (ap (λ l. lookup nat_cmp l q) (having-append (d ∷ []) ds t) ∙ lookup-append nat_cmp (having (d ∷ []) t) (having ds t) q))

-- one document, new or known
module _ (by : Weighing) (rising : (text : List ℕ) → IsIncreasing bytes_cmp (by text)) (d : Doc) (D : List (ℕ × ℕ)) (P : Lists) (index : IsIndex D P) where
  abbrev W : List (List ℕ × ℕ)
  W = by d.text.now

  -- where it is known or isn't
  abbrev IsStep : Bool → Type 0
  IsStep b = IsIndex (cond b D (set nat_cmp D d.doc 0)) (union bytes_cmp merged P (batch d.doc (cond (not b) W [])))
      × (documents_of (cond b D (set nat_cmp D d.doc 0)) (union bytes_cmp merged P (batch d.doc (cond (not b) W []))) ≡ (if b then documents_of D P else set nat_cmp (documents_of D P) d.doc W))
      × (cond (not b) (outcomes.New (length W)) outcomes.Known ≡ (if b then outcomes.Known else outcomes.New (length W)))

  step_at : (o : Option ℕ) → lookup nat_cmp D d.doc ≡ o → AreFit (cond (not (is_some o)) W []) → IsStep (is_some o)
  step_at (Some w) is fit = (index, refl, refl)
  step_at None is fit =
      let all = one_more d.doc D P W (set nat_cmp D d.doc 0) (union bytes_cmp merged P (batch d.doc W)) index is (rising d.text.now) fit refl refl in
      (all.0, all.1, refl)

  abbrev after_one : Lists
  after_one = union bytes_cmp merged P (batch d.doc (weighed by (mark_of D d)).1)

  step : AreFit (weighed by (mark_of D d)).1 → IsIndex (knowing D d.doc) after_one × (documents_of (knowing D d.doc) after_one ≡ with_doc_by by (documents_of D P) d.doc d.text.now) × (outcome_of by (mark_of D d) ≡ outcome_by by (documents_of D P) d.doc d.text.now)
  step fit =
      let all = step_at (lookup nat_cmp D d.doc) refl fit in
      let known : is_known (documents_of D P) d.doc ≡ is_some (lookup nat_cmp D d.doc) = known-documents D P d.doc in (
        all.0,
        all.1 ∙ ap (λ b. if b then documents_of D P else set nat_cmp (documents_of D P) d.doc W) (sym known),
        all.2 ∙ ap (λ b. if b then outcomes.Known else outcomes.New (length W)) (sym known),
      )

-- documents one after another
steps : (by : Weighing) → ((text : List ℕ) → IsIncreasing bytes_cmp (by text)) → (docs : List Doc) (D : List (ℕ × ℕ)) (P : Lists) → IsIndex D P → AllByRecursion (λ m. AreFit (weighed by m).1) (marked D docs)
    → IsIndex (all_knowing D docs) (lists_with P (map (weighed by) (marked D docs)))
    × (documents_of (all_knowing D docs) (lists_with P (map (weighed by) (marked D docs))) ≡ with_docs_by by (documents_of D P) docs)
    × (map (outcome_of by) (marked D docs) ≡ outcomes_by by (documents_of D P) docs)
steps by rising [] D P index fit = (index, refl, refl)
steps by rising (d ∷ docs) D P index fit =
    let here = step by rising d D P index fit.0 in
    let rest = steps by rising docs (knowing D d.doc) (after_one by rising d D P index) here.0 fit.1 in (
      rest.0,
      rest.1 ∙ ap (λ ds. with_docs_by by ds docs) here.1,
      ap₂ (λ x xs. x ∷ xs) here.2 (rest.2 ∙ ap (λ ds. outcomes_by by ds docs) here.1),
    )

-- ---- all at once

rising_weights : (by : Weighing) → ((text : List ℕ) → IsIncreasing bytes_cmp (by text)) → (b : Bool) (text : List ℕ) → IsIncreasing bytes_cmp (cond b (by text) [])
rising_weights by rising true text = rising text
rising_weights by rising false text = tt

all_rising : (by : Weighing) → ((text : List ℕ) → IsIncreasing bytes_cmp (by text)) → (ms : List Marked) → AllByRecursion (λ d. IsIncreasing bytes_cmp d.1) (map (weighed by) ms)
all_rising by rising [] = tt
all_rising by rising (m ∷ ms) = (rising_weights by rising m.is_new m.text.now, all_rising by rising ms)

filled_first : (l : List (ℕ × ℕ)) → IsFilledSome (option_map first_weights (if_filled l))
filled_first [] m is = absurd (none-some m is)
filled_first (e ∷ l) m is = subst IsFilled (same_Some (first_weights (e ∷ l)) m is) (IsIncreasing-first_weights (e ∷ l), is_filled (first_weights (e ∷ l)) e.0 e.1 (lookup-first_weights (e ∷ l) e.0 ∙ first_found nat_cmp_total e l))

at_first : (l : List (ℕ × ℕ)) (q : ℕ) → lookup nat_cmp (unwrap_or (option_map first_weights (if_filled l)) []) q ≡ lookup nat_cmp l q
at_first [] q = refl
at_first (e ∷ l) q = lookup-first_weights (e ∷ l) q

module _ (by : Weighing) (rising : (text : List ℕ) → IsIncreasing bytes_cmp (by text)) (ms : List Marked) (D known : List (ℕ × ℕ)) (P B : Lists) (outs : List Outcome) (index : IsIndex D P) (gathered : IsGathered by ms B outs) (after : IsIndex known (lists_with P (map (weighed by) ms))) where
  filled_batch : (t : List ℕ) → IsFilledSome (lookup bytes_cmp B t)
  filled_batch t = subst IsFilledSome (sym (gathered.found t)) (filled_first (having (map (weighed by) ms) t))

  filled_index : (E : List (ℕ × ℕ)) (Q : Lists) → IsIndex E Q → (t : List ℕ) → IsFilledSome (lookup bytes_cmp Q t)
  filled_index E Q i t m is = ((i.are_postings t m is).rises, (i.are_postings t m is).filled)

  found_at-gathered : (t : List ℕ) (q : ℕ) → found_at B t q ≡ lookup nat_cmp (having (map (weighed by) ms) t) q
  found_at-gathered t q = ap (λ o. lookup nat_cmp (unwrap_or o []) q) (gathered.found t) ∙ at_first (having (map (weighed by) ms) t) q

  at_once : union bytes_cmp merged P B ≡ lists_with P (map (weighed by) ms)
  at_once = same_lists (union bytes_cmp merged P B) (lists_with P (map (weighed by) ms))
      (IsIncreasing-union nat_list_cmp_total merged P B index.terms_rise)
      after.terms_rise
      (λ t. subst IsFilledSome (sym (lookup-union nat_list_cmp_total exact_bytes merged P B t gathered.rises)) (filled_united (lookup bytes_cmp P t) (lookup bytes_cmp B t) (filled_index D P index t) (filled_batch t)))
      (filled_index known (lists_with P (map (weighed by) ms)) after)
      (λ t q.
      found_at-union P B t q gathered.rises (λ m is. (filled_batch t m is).0)
      ∙ ap (option_or (found_at P t q)) (found_at-gathered t q)
      ∙ sym (found_at-lists_with (map (weighed by) ms) P t q (all_rising by rising ms)))

-- what adding a batch answers
pub batched : (by : Weighing) → ((text : List ℕ) → IsIncreasing bytes_cmp (by text)) → (docs : List Doc) (ms : List Marked) (D known : List (ℕ × ℕ)) (P B lists : Lists) (ds : List Document) (outs : List Outcome) → IsIndex D P → documents_of D P ≡ ds → known ≡ all_knowing D docs → ms ≡ marked D docs → IsGathered by ms B outs → lists ≡ union bytes_cmp merged P B
    → IsIndex known lists × (documents_of known lists ≡ with_docs_by by ds docs) × (outs ≡ outcomes_by by ds docs)
batched by rising docs ms D known P B lists ds outs index view knows marks gathered united =
    let G : List Marked → Type 0 = λ m. IsGathered by m B outs in
    let whole : IsGathered by (marked D docs) B outs = subst G marks gathered in
    let one_by_one = steps by rising docs D P index whole.fit in
    let same : lists ≡ lists_with P (map (weighed by) (marked D docs)) = united ∙ at_once by rising (marked D docs) D (all_knowing D docs) P B outs index whole one_by_one.0 in (
      rw (knows, same) one_by_one.0,
      ap₂ documents_of knows same ∙ one_by_one.1 ∙ ap (λ x. with_docs_by by x docs) view,
      whole.told ∙ one_by_one.2 ∙ ap (λ x. outcomes_by by x docs) view,
    )
