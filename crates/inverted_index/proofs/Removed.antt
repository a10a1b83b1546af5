-- A document that is removed.
use Rattle.std.proofs.Common.{◌≡◌, ℕ, ◌+◌, ◌-◌, ◌^◌, ◌<◌, ◌≤◌, ◌==◌, Bool, true, false, not, cond, List, [], ◌∷◌, Option, Some, None, arith, drop, get_or, length, refl, sym, take, take-append-drop, ap, ap₂, ◌∙◌, subst}
use Rattle.std.specs.declared.cmp.Ordering.{Ordering}
use Rattle.std.specs.declared.cmp.Ordering.TheVariants.{Less, Equal, Greater}
use Rattle.std.specs.Option.{unwrap_or, is_some}
use Rattle.std.specs.Ordering.{nat_cmp, is_eq, is_ne}
use Rattle.std.proofs.lemmas.Cmp.{nat_cmp_total, nat_list_cmp_total, tied_back}
use Rattle.std.proofs.lemmas.List.{drop_all}
use Rattle.std.proofs.lemmas.Option.{none-some, same_Some}
use Rattle.std.proofs.lemmas.Map.Lookups.{exact_bytes}
use Rattle.map_model.specs.Entries.{IsIncreasing, lookup, set, drop_key}
use Rattle.map_model.proofs.Keys.{by_order, greater, lesser, IsIncreasing-back, IsIncreasing-filter}
use Rattle.map_model.proofs.Lookups.{equal_lookups, lookup-behind, lookup-drop_key, lookup-set}
use Rattle.map_model.proofs.NatKeys.{is_eq-nat_cmp, nat_exact}
use Rattle.inverted_index.specs.Added.{IsAddedBy, IsNew, Weighing}
use Rattle.inverted_index.specs.declared.adding.Added.{Added}
use Rattle.inverted_index.specs.declared.adding.Added.TheVariants as added
use Rattle.inverted_index.specs.Terms.{bytes_cmp}
use Rattle.inverted_index.specs.Documents.{IsIndex, IsPostings, documents_of, terms_in, without_doc}
use Rattle.inverted_index.specs.Queries.{Document, if_filled, is_known}
use Rattle.inverted_index.specs.Merging.{Lists, postings_at}
use Rattle.inverted_index.specs.Removing.{taken}
use Rattle.inverted_index.proofs.Documents.{lookup-terms_in, IsIncreasing-terms_in}
use Rattle.inverted_index.proofs.Gathering.{known_at, rises_at}
use Rattle.inverted_index.proofs.Steps.{rest_from}

-- ---- one term

-- the postings of a term that is removed, since they are empty
pub emptied : (term t : List ℕ) (old new : Lists) (postings : List (ℕ × ℕ)) → length postings ≡ 0 → new ≡ drop_key bytes_cmp old term → lookup bytes_cmp new t ≡ cond (is_eq (bytes_cmp term t)) (if_filled postings) (lookup bytes_cmp old t)
emptied term t old new [] none is =
    ap (λ m. lookup bytes_cmp m t) is
    ∙ lookup-drop_key exact_bytes old term t
    ∙ by_order bytes_cmp t term
    (λ less. rw (less, greater nat_list_cmp_total t term less) refl)
    (λ same. rw (same, tied_back nat_list_cmp_total t term same) refl)
    (λ more. rw (more, lesser nat_list_cmp_total t term more) refl)
emptied term t old new (p ∷ postings) none is = cc

-- and of one that is set
pub refilled : (term t : List ℕ) (old new : Lists) (postings : List (ℕ × ℕ)) → 0 < length postings → new ≡ set bytes_cmp old term postings → lookup bytes_cmp new t ≡ cond (is_eq (bytes_cmp term t)) (if_filled postings) (lookup bytes_cmp old t)
refilled term t old new [] some is = absurd (omega arith)
refilled term t old new (p ∷ postings) some is = ap (λ m. lookup bytes_cmp m t) is ∙ lookup-set nat_list_cmp_total exact_bytes old term (p ∷ postings) t

-- postings that haven't the document
pub kept_term : (doc : ℕ) (term t : List ℕ) (m : List (ℕ × ℕ)) (old : Option (List (ℕ × ℕ))) → is_some (lookup nat_cmp m doc) ≡ false → old ≡ cond (is_eq (bytes_cmp term t)) (taken doc (Some m) old) old
kept_term doc term t m old lacks =
    elim (is_eq (bytes_cmp term t)) as (λ b. old ≡ cond b old old) [ true ↦ refl | false ↦ refl ]
    ∙ ap (λ b. cond (is_eq (bytes_cmp term t)) (cond b (if_filled (drop_key nat_cmp m doc)) old) old) (sym lacks)

-- and such that have it
pub cut_term : (doc : ℕ) (term t : List ℕ) (m rest : List (ℕ × ℕ)) (old new : Option (List (ℕ × ℕ))) → is_some (lookup nat_cmp m doc) ≡ true → rest ≡ drop_key nat_cmp m doc → new ≡ cond (is_eq (bytes_cmp term t)) (if_filled rest) old → new ≡ cond (is_eq (bytes_cmp term t)) (taken doc (Some m) old) old
cut_term doc term t m rest old new here cut has =
    has
    ∙ ap (λ r. cond (is_eq (bytes_cmp term t)) (if_filled r) old) cut
    ∙ ap (λ b. cond (is_eq (bytes_cmp term t)) (cond b (if_filled (drop_key nat_cmp m doc)) old) old) (sym here)

-- ---- all terms

-- one term is gone over: what comes of the others leads to the same
pub one_less : (doc : ℕ) (entries : Lists) (i : ℕ) (e : List ℕ × List (ℕ × ℕ)) (t : List ℕ) (old new all : Option (List (ℕ × ℕ))) → IsIncreasing bytes_cmp entries → i < length entries → e ≡ get_or entries i e → all ≡ taken doc (lookup bytes_cmp (drop i entries) t) old → new ≡ cond (is_eq (bytes_cmp e.0 t)) (taken doc (Some e.1) old) old → all ≡ taken doc (lookup bytes_cmp (drop (i + 1) entries) t) new
one_less doc entries i e t old new all rises low is so_far has =
    let P : Lists → Type 0 = λ x. IsIncreasing bytes_cmp x in
    let rest : Lists = drop (i + 1) entries in
    let splits : drop i entries ≡ e ∷ rest = rest_from entries i e low ∙ ap (λ x. x ∷ rest) (sym is) in
    let up : IsIncreasing bytes_cmp (e ∷ rest) = subst P splits (IsIncreasing-back bytes_cmp (take i entries) (drop i entries) (subst P (sym (take-append-drop i entries)) rises)) in
    so_far
    ∙ ap (λ l. taken doc (lookup bytes_cmp l t) old) splits
    ∙ elim (is_eq (bytes_cmp e.0 t)) as (λ b. is_eq (bytes_cmp e.0 t) ≡ b → taken doc (cond b (Some e.1) (lookup bytes_cmp rest t)) old ≡ taken doc (lookup bytes_cmp rest t) (cond b (taken doc (Some e.1) old) old)) [
      | true ↦ λ yes. sym (ap (λ o. taken doc o (taken doc (Some e.1) old)) (lookup-behind nat_list_cmp_total e rest t up (equal (bytes_cmp e.0 t) yes)))
      | false ↦ λ _. refl
    ] refl
    ∙ sym (ap (taken doc (lookup bytes_cmp rest t)) has)
  where
    equal : (o : Ordering) → is_eq o ≡ true → o ≡ Equal
    equal Less h = cc
    equal Equal h = refl
    equal Greater h = cc

-- at the end
pub all_gone_over : (doc : ℕ) (entries : Lists) (n : ℕ) (t : List ℕ) (now all : Option (List (ℕ × ℕ))) → length entries ≤ n → all ≡ taken doc (lookup bytes_cmp (drop n entries) t) now → now ≡ all
all_gone_over doc entries n t now all high so_far = sym (so_far ∙ ap (λ l. taken doc (lookup bytes_cmp l t) now) (drop_all n entries high))

-- ---- documents

-- one that is not there
pub without_absent : (ds : List Document) (doc : ℕ) → is_known ds doc ≡ false → without_doc ds doc ≡ ds
without_absent [] doc unknown = refl
without_absent (d ∷ ds) doc unknown =
    elim (is_eq (nat_cmp d.0 doc)) as (λ b. is_eq (nat_cmp d.0 doc) ≡ b → is_some (cond b (Some d.1) (lookup nat_cmp ds doc)) ≡ false → without_doc (d ∷ ds) doc ≡ d ∷ ds) [
      | true ↦ λ _ bad. absurd (let no : true ≡ false = bad in cc)
      | false ↦ λ other rest.
          ap (λ b. cond (not b) (d ∷ without_doc ds doc) (without_doc ds doc)) (sym (is_eq-nat_cmp d.0 doc) ∙ other)
          ∙ ap (λ x. d ∷ x) (without_absent ds doc rest)
    ] refl unknown

-- once it is removed, it is not there
pub absent_without : (ds : List Document) (doc : ℕ) → is_known (without_doc ds doc) doc ≡ false
absent_without [] doc = refl
absent_without (d ∷ ds) doc =
    let rest = absent_without ds doc in
    elim (d.0 == doc) as (λ b. (d.0 == doc) ≡ b → is_known (cond (not b) (d ∷ without_doc ds doc) (without_doc ds doc)) doc ≡ false) [
      | true ↦ λ _. rest
      | false ↦ λ other. ap (λ b. is_some (cond b (Some d.1) (lookup nat_cmp (without_doc ds doc) doc))) (is_eq-nat_cmp d.0 doc ∙ other) ∙ rest
    ] refl

-- so it is new where it is added then
pub added_new : (by : Weighing) (ds : List Document) (doc : ℕ) (text : List ℕ) (a : Added) → IsAddedBy by (without_doc ds doc) doc text a → IsNew a
added_new by ds doc text added.Known known = let bad : false ≡ true = sym (absent_without ds doc) ∙ known in cc
added_new by ds doc text (added.New index terms) known = tt

-- ---- the maps

module _ (doc : ℕ) where
  is_there : (q : ℕ) → is_ne (nat_cmp q doc) ≡ false → q ≡ doc
  is_there q h = nat_exact q doc (equal (nat_cmp q doc) h)
    where
      equal : (o : Ordering) → is_ne o ≡ false → o ≡ Equal
      equal Less h = cc
      equal Equal h = refl
      equal Greater h = cc

  other_number : (q : ℕ) → is_ne (nat_cmp q doc) ≡ not (q == doc)
  other_number q = differs (nat_cmp q doc) ∙ ap not (is_eq-nat_cmp q doc)
    where
      differs : (o : Ordering) → is_ne o ≡ not (is_eq o)
      differs Less = refl
      differs Equal = refl
      differs Greater = refl

  found_filled : (m : List (ℕ × ℕ)) (q : ℕ) → lookup nat_cmp (unwrap_or (if_filled m) []) q ≡ lookup nat_cmp m q
  found_filled [] q = refl
  found_filled (x ∷ m) q = refl

  -- what is found in postings once the document is taken out
  found_taken : (o : Option (List (ℕ × ℕ))) (q : ℕ) → lookup nat_cmp (unwrap_or (taken doc o o) []) q ≡ cond (is_ne (nat_cmp q doc)) (lookup nat_cmp (unwrap_or o []) q) None
  found_taken None q = elim (is_ne (nat_cmp q doc)) as (λ b. ◌≡◌ {A = Option ℕ} None (cond b None None)) [ true ↦ refl | false ↦ refl ]
  found_taken (Some m) q =
      elim (lookup nat_cmp m doc) as (λ o. lookup nat_cmp m doc ≡ o → lookup nat_cmp (unwrap_or (cond (is_some o) (if_filled (drop_key nat_cmp m doc)) (Some m)) []) q ≡ cond (is_ne (nat_cmp q doc)) (lookup nat_cmp m q) None) [
        | None ↦ λ none. elim (is_ne (nat_cmp q doc)) as (λ b. is_ne (nat_cmp q doc) ≡ b → lookup nat_cmp m q ≡ cond b (lookup nat_cmp m q) None) [
          | true ↦ λ _. refl
          | false ↦ λ same. ap (lookup nat_cmp m) (is_there q same) ∙ none
        ] refl
        | Some w ↦ λ _. found_filled (drop_key nat_cmp m doc) q ∙ lookup-drop_key nat_exact m doc q
      ] refl

  -- the postings that are left rise and are filled
  left_filled : (r m : List (ℕ × ℕ)) → IsIncreasing nat_cmp r → if_filled r ≡ Some m → IsIncreasing nat_cmp m × (m ≡ [] → ⊥)
  left_filled [] m rises is = absurd (none-some m is)
  left_filled (x ∷ r) m rises is = let same : x ∷ r ≡ m = same_Some (x ∷ r) m is in
      subst (λ (l : List (ℕ × ℕ)). IsIncreasing nat_cmp l × (l ≡ [] → ⊥)) same (rises, λ empty. cc)

module _ (doc : ℕ) (D : List (ℕ × ℕ)) (P Q : Lists) (index : IsIndex D P) (rises : IsIncreasing bytes_cmp Q) (has : (t : List ℕ) → lookup bytes_cmp Q t ≡ taken doc (lookup bytes_cmp P t) (lookup bytes_cmp P t)) where
  abbrev pub known_left : List (ℕ × ℕ)
  known_left = drop_key nat_cmp D doc

  found : (t : List ℕ) (q : ℕ) → lookup nat_cmp (postings_at Q t) q ≡ cond (is_ne (nat_cmp q doc)) (lookup nat_cmp (postings_at P t) q) None
  found t q = ap (λ o. lookup nat_cmp (unwrap_or o []) q) (has t) ∙ found_taken doc (lookup bytes_cmp P t) q

  -- the terms of another document
  terms_same : (q : ℕ) → is_ne (nat_cmp q doc) ≡ true → terms_in Q q ≡ terms_in P q
  terms_same q other = equal_lookups nat_list_cmp_total exact_bytes (terms_in Q q) (terms_in P q) (IsIncreasing-terms_in Q q rises) (IsIncreasing-terms_in P q index.terms_rise)
      (λ t. lookup-terms_in Q q t rises ∙ found t q ∙ ap (λ b. cond b (lookup nat_cmp (postings_at P t) q) None) other ∙ sym (lookup-terms_in P q t index.terms_rise))

  pub documents_left : (known : List (ℕ × ℕ)) → documents_of (drop_key nat_cmp known doc) Q ≡ without_doc (documents_of known P) doc
  documents_left [] = refl
  documents_left (e ∷ known) =
      let rest = documents_left known in
      let after : List Document = without_doc (documents_of known P) doc in
      elim (is_ne (nat_cmp e.0 doc)) as (λ b. is_ne (nat_cmp e.0 doc) ≡ b → documents_of (cond b (e ∷ drop_key nat_cmp known doc) (drop_key nat_cmp known doc)) Q ≡ cond b ((e.0, terms_in P e.0) ∷ after) after) [
        | true ↦ λ other. ap₂ (λ w x. (e.0, w) ∷ x) (terms_same e.0 other) rest
        | false ↦ λ _. rest
      ] refl
      ∙ ap (λ b. cond b ((e.0, terms_in P e.0) ∷ after) after) (other_number doc e.0)

  -- what is found in postings that are left
  found_known : (t : List ℕ) (q w : ℕ) → cond (is_ne (nat_cmp q doc)) (lookup nat_cmp (postings_at P t) q) None ≡ Some w → (is_some (cond (is_ne (nat_cmp q doc)) (lookup nat_cmp D q) None) ≡ true) × (w ≤ 2 ^ 64 - 1)
  found_known t q w =
      elim (is_ne (nat_cmp q doc)) as (λ b. cond b (lookup nat_cmp (postings_at P t) q) None ≡ Some w → (is_some (cond b (lookup nat_cmp D q) None) ≡ true) × (w ≤ 2 ^ 64 - 1)) [
        | true ↦ λ is. (known_at D P index t q w is, (rises_at D P index t).1 q w is)
        | false ↦ λ is. absurd (none-some w is)
      ]

  rises_filled : (o : Option (List (ℕ × ℕ))) (m : List (ℕ × ℕ)) → ((l : List (ℕ × ℕ)) → o ≡ Some l → IsPostings D l) → taken doc o o ≡ Some m → IsIncreasing nat_cmp m × (m ≡ [] → ⊥)
  rises_filled None m old = λ is. absurd (none-some m is)
  rises_filled (Some l) m old =
      elim (is_some (lookup nat_cmp l doc)) as (λ b. cond b (if_filled (drop_key nat_cmp l doc)) (Some l) ≡ Some m → IsIncreasing nat_cmp m × (m ≡ [] → ⊥)) [
        | true ↦ left_filled doc (drop_key nat_cmp l doc) m (IsIncreasing-filter nat_cmp (λ e. is_ne (nat_cmp e.0 doc)) l (old l refl).rises)
        | false ↦ λ is. let same : l ≡ m = same_Some l m is in
            subst (λ (x : List (ℕ × ℕ)). IsIncreasing nat_cmp x × (x ≡ [] → ⊥)) same ((old l refl).rises, (old l refl).filled)
      ]

  zero_left : (q w : ℕ) → cond (is_ne (nat_cmp q doc)) (lookup nat_cmp D q) None ≡ Some w → w ≡ 0
  zero_left q w = elim (is_ne (nat_cmp q doc)) as (λ b. cond b (lookup nat_cmp D q) None ≡ Some w → w ≡ 0) [ true ↦ index.zero_weights q w | false ↦ λ is. absurd (none-some w is) ]

  pub index_left : IsIndex known_left Q
  index_left = record {
    known_rise = IsIncreasing-filter nat_cmp (λ e. is_ne (nat_cmp e.0 doc)) D index.known_rise;
    zero_weights = λ q w is. zero_left q w (sym (lookup-drop_key nat_exact D doc q) ∙ is);
    terms_rise = rises;
    are_postings = λ t m is.
        let shape : IsIncreasing nat_cmp m × (m ≡ [] → ⊥) = rises_filled (lookup bytes_cmp P t) m (λ l at. index.are_postings t l at) (sym (has t) ∙ is) in
        let inside : (q w : ℕ) → lookup nat_cmp m q ≡ Some w → (is_some (cond (is_ne (nat_cmp q doc)) (lookup nat_cmp D q) None) ≡ true) × (w ≤ 2 ^ 64 - 1) = λ q w at. found_known t q w (sym (found t q) ∙ ap (λ o. lookup nat_cmp (unwrap_or o []) q) is ∙ at) in
        record {
          rises = shape.0;
          filled = shape.1;
          are_known = λ q w at. ap is_some (lookup-drop_key nat_exact D doc q) ∙ (inside q w at).0;
          fit = λ q w at. (inside q w at).1;
        };
  }

-- the maps once a document is removed
pub removed : (doc : ℕ) (D : List (ℕ × ℕ)) (P Q : Lists) (known : List (ℕ × ℕ)) (ds : List Document) → IsIndex D P → documents_of D P ≡ ds → known ≡ drop_key nat_cmp D doc → IsIncreasing bytes_cmp Q → ((t : List ℕ) → lookup bytes_cmp Q t ≡ taken doc (lookup bytes_cmp P t) (lookup bytes_cmp P t)) → IsIndex known Q × (documents_of known Q ≡ without_doc ds doc)
removed doc D P Q known ds index view knows rises has = rw knows (index_left doc D P Q index rises has, documents_left doc D P Q index rises has D ∙ ap (λ d. without_doc d doc) view)
