-- A document that is added.
use Rattle.std.proofs.Common.{◌≡◌, ℕ, ◌-◌, ◌^◌, ◌≤◌, Bool, true, false, cond, List, [], ◌∷◌, ◌++◌, Option, Some, None, length, map, refl, sym, ap, ap₂, ◌∙◌, subst}
use Rattle.std.specs.declared.cmp.Ordering.{Ordering}
use Rattle.std.specs.declared.cmp.Ordering.TheVariants.{Less, Equal, Greater}
use Rattle.std.specs.List.{filter}
use Rattle.std.specs.Option.{option_map, option_map_or, unwrap_or, is_some}
use Rattle.std.specs.Ordering.{nat_cmp, is_eq, is_lt, is_gt}
use Rattle.std.proofs.lemmas.Cmp.{nat_cmp_total, nat_list_cmp_total, tied_itself}
use Rattle.std.proofs.lemmas.List.{map-append}
use Rattle.std.proofs.lemmas.Option.{none-some, same_Some}
use Rattle.std.proofs.lemmas.Map.Lookups.{exact_bytes}
use Rattle.map_model.specs.Entries.{IsIncreasing, lookup, set, below, above}
use Rattle.map_model.specs.SetOperations.{union}
use Rattle.map_model.proofs.Keys.{greater, lesser}
use Rattle.map_model.proofs.Lookups.{equal_lookups, lookup-set}
use Rattle.map_model.proofs.Splits.{IsIncreasing-set}
use Rattle.map_model.proofs.Unions.{united, lookup-union, IsIncreasing-union}
use Rattle.map_model.proofs.NatKeys.{nat_exact}
use Rattle.inverted_index.specs.Added.{Weighing, outcome_by, with_doc_by}
use Rattle.inverted_index.specs.declared.doc.Outcome.TheVariants as outcomes
use Rattle.std.specs.Prelude.{if◌then◌else◌}
use Rattle.inverted_index.specs.Terms.{bytes_cmp}
use Rattle.inverted_index.specs.Documents.{AreFit, IsIndex, IsPostings, documents_of, terms_in}
use Rattle.inverted_index.specs.Queries.{Document, is_known}
use Rattle.inverted_index.specs.Merging.{Lists, merged, postings_at}
use Rattle.inverted_index.proofs.Kept.{IsIncreasing-revalued, lookup-revalued}
use Rattle.inverted_index.proofs.Documents.{lookup-terms_in, IsIncreasing-terms_in}

-- postings of one document, and those of its terms
abbrev pub single : ℕ → ℕ → List (ℕ × ℕ)
single doc weight = (doc, weight) ∷ []

abbrev pub batch : ℕ → List (List ℕ × ℕ) → Lists
batch doc weights = map (λ e. (e.0, single doc e.1)) weights

-- the postings of a term after the document, of those before and the document's weight, if there are any
abbrev pub after_doc : ℕ → Option (List (ℕ × ℕ)) → Option ℕ → Option (List (ℕ × ℕ))
after_doc doc o p = united merged o (option_map (single doc) p)

module _ (doc : ℕ) where
  is_there : (q : ℕ) → is_eq (nat_cmp doc q) ≡ true → doc ≡ q
  is_there q h = nat_exact doc q (equal (nat_cmp doc q) h)
    where
      equal : (o : Ordering) → is_eq o ≡ true → o ≡ Equal
      equal Less h = cc
      equal Equal h = refl
      equal Greater h = cc

  -- what is found in them
  pub found_after : (o : Option (List (ℕ × ℕ))) (p : Option ℕ) (q : ℕ) → lookup nat_cmp (unwrap_or o []) doc ≡ None
      → lookup nat_cmp (unwrap_or (after_doc doc o p) []) q ≡ cond (is_eq (nat_cmp doc q)) p (lookup nat_cmp (unwrap_or o []) q)
  found_after None None q h = elim (is_eq (nat_cmp doc q)) as (λ b. ◌≡◌ {A = Option ℕ} None (cond b None None)) [ true ↦ refl | false ↦ refl ]
  found_after None (Some w) q h = refl
  found_after (Some m) None q h =
      elim (is_eq (nat_cmp doc q)) as (λ b. is_eq (nat_cmp doc q) ≡ b → lookup nat_cmp m q ≡ cond b None (lookup nat_cmp m q)) [
        | true ↦ λ yes. ap (lookup nat_cmp m) (sym (is_there q yes)) ∙ h
        | false ↦ λ _. refl
      ] refl
  found_after (Some m) (Some w) q h =
      lookup-set nat_cmp_total nat_exact m doc _ q ∙ rw h refl

module _ (doc : ℕ) (D : List (ℕ × ℕ)) (P : Lists) (W : List (List ℕ × ℕ)) (index : IsIndex D P) (new : lookup nat_cmp D doc ≡ None) (rises : IsIncreasing bytes_cmp W) (fit : (t : List ℕ) (w : ℕ) → lookup bytes_cmp W t ≡ Some w → w ≤ 2 ^ 64 - 1) where
  abbrev pub lists_after : Lists
  lists_after = union bytes_cmp merged P (batch doc W)

  abbrev pub known_after : List (ℕ × ℕ)
  known_after = set nat_cmp D doc 0

  lookup-lists_after : (t : List ℕ) → lookup bytes_cmp lists_after t ≡ after_doc doc (lookup bytes_cmp P t) (lookup bytes_cmp W t)
  lookup-lists_after t =
      lookup-union nat_list_cmp_total exact_bytes merged P (batch doc W) t (IsIncreasing-revalued (single doc) bytes_cmp W rises)
      ∙ ap (united merged (lookup bytes_cmp P t)) (lookup-revalued (single doc) bytes_cmp W t)

  rises_after : IsIncreasing bytes_cmp lists_after
  rises_after = IsIncreasing-union nat_list_cmp_total merged P (batch doc W) index.terms_rise

  -- no postings have the document before
  absent : (t : List ℕ) → lookup nat_cmp (postings_at P t) doc ≡ None
  absent t =
      elim (lookup bytes_cmp P t) as (λ o. lookup bytes_cmp P t ≡ o → lookup nat_cmp (unwrap_or o []) doc ≡ None) [
        | None ↦ λ _. refl
        | Some m ↦ λ is. elim (lookup nat_cmp m doc) as (λ r. lookup nat_cmp m doc ≡ r → r ≡ None) [
          | None ↦ λ _. refl
          | Some w ↦ λ has. let known : is_some (lookup nat_cmp D doc) ≡ true = (index.are_postings t m is).are_known doc w has in absurd (let no : false ≡ true = sym (ap is_some new) ∙ known in cc)
        ] refl
      ] refl

  found : (t : List ℕ) (q : ℕ) → lookup nat_cmp (postings_at lists_after t) q ≡ cond (is_eq (nat_cmp doc q)) (lookup bytes_cmp W t) (lookup nat_cmp (postings_at P t) q)
  found t q =
      ap (λ o. lookup nat_cmp (unwrap_or o []) q) (lookup-lists_after t)
      ∙ found_after doc (lookup bytes_cmp P t) (lookup bytes_cmp W t) q (absent t)

  -- the document's terms
  terms_here : terms_in lists_after doc ≡ W
  terms_here = equal_lookups nat_list_cmp_total exact_bytes (terms_in lists_after doc) W (IsIncreasing-terms_in lists_after doc rises_after) rises
      (λ t. lookup-terms_in lists_after doc t rises_after ∙ found t doc ∙ ap (λ o. cond (is_eq o) (lookup bytes_cmp W t) (lookup nat_cmp (postings_at P t) doc)) (tied_itself nat_cmp_total doc))

  -- those of another document
  terms_there : (q : ℕ) → is_eq (nat_cmp doc q) ≡ false → terms_in lists_after q ≡ terms_in P q
  terms_there q other = equal_lookups nat_list_cmp_total exact_bytes (terms_in lists_after q) (terms_in P q) (IsIncreasing-terms_in lists_after q rises_after) (IsIncreasing-terms_in P q index.terms_rise)
      (λ t. lookup-terms_in lists_after q t rises_after ∙ found t q ∙ ap (λ b. cond b (lookup bytes_cmp W t) (lookup nat_cmp (postings_at P t) q)) other ∙ sym (lookup-terms_in P q t index.terms_rise))

  -- a part on one side of the document
  part_same : (side : Ordering → Bool) → side Equal ≡ false → (known : List (ℕ × ℕ)) → documents_of (filter (λ e. side (nat_cmp e.0 doc)) known) lists_after ≡ filter (λ d. side (nat_cmp d.0 doc)) (documents_of known P)
  part_same side ties [] = refl
  part_same side ties (e ∷ known) =
      let rest = part_same side ties known in
      let Part : Ordering → Type 0 = λ o. documents_of (cond (side o) (e ∷ filter (λ x. side (nat_cmp x.0 doc)) known) (filter (λ x. side (nat_cmp x.0 doc)) known)) lists_after ≡ cond (side o) ((e.0, terms_in P e.0) ∷ filter (λ d. side (nat_cmp d.0 doc)) (documents_of known P)) (filter (λ d. side (nat_cmp d.0 doc)) (documents_of known P)) in
      let here : (o : Ordering) → is_eq (nat_cmp doc e.0) ≡ false → Part o = λ o other. elim (side o) as (λ b. documents_of (cond b (e ∷ filter (λ x. side (nat_cmp x.0 doc)) known) (filter (λ x. side (nat_cmp x.0 doc)) known)) lists_after ≡ cond b ((e.0, terms_in P e.0) ∷ filter (λ d. side (nat_cmp d.0 doc)) (documents_of known P)) (filter (λ d. side (nat_cmp d.0 doc)) (documents_of known P))) [
        | true ↦ ap₂ (λ w x. (e.0, w) ∷ x) (terms_there e.0 other) rest
        | false ↦ rest
      ] in
      elim (nat_cmp e.0 doc) as (λ o. nat_cmp e.0 doc ≡ o → Part o) [
        | Less ↦ λ is. here Less (ap is_eq (greater nat_cmp_total e.0 doc is))
        | Equal ↦ λ is. rw ties rest
        | Greater ↦ λ is. here Greater (ap is_eq (lesser nat_cmp_total e.0 doc is))
      ] refl

  pub documents_after : documents_of known_after lists_after ≡ set nat_cmp (documents_of D P) doc W
  documents_after =
      map-append (λ (e : ℕ × ℕ). (e.0, terms_in lists_after e.0)) (below nat_cmp D doc) ((doc, 0) ∷ above nat_cmp D doc)
      ∙ ap₂ (λ x y. x ++ y) (part_same is_lt refl D) (ap₂ (λ w x. (doc, w) ∷ x) terms_here (part_same is_gt refl D))

  -- what holds of what is found in postings after the document
  found_known : (t : List ℕ) (q w : ℕ) → cond (is_eq (nat_cmp doc q)) (lookup bytes_cmp W t) (lookup nat_cmp (postings_at P t) q) ≡ Some w
      → (is_some (cond (is_eq (nat_cmp doc q)) (Some 0) (lookup nat_cmp D q)) ≡ true) × (w ≤ 2 ^ 64 - 1)
  found_known t q w =
      elim (is_eq (nat_cmp doc q)) as (λ b. cond b (lookup bytes_cmp W t) (lookup nat_cmp (postings_at P t) q) ≡ Some w → (is_some (cond b (Some 0) (lookup nat_cmp D q)) ≡ true) × (w ≤ 2 ^ 64 - 1)) [
        | true ↦ λ is. (refl, fit t w is)
        | false ↦ elim (lookup bytes_cmp P t) as (λ o. lookup bytes_cmp P t ≡ o → lookup nat_cmp (unwrap_or o []) q ≡ Some w → (is_some (lookup nat_cmp D q) ≡ true) × (w ≤ 2 ^ 64 - 1)) [
          | None ↦ λ _ is. absurd (none-some w is)
          | Some m ↦ λ has is. ((index.are_postings t m has).are_known q w is, (index.are_postings t m has).fit q w is)
        ] refl
      ]

  -- the postings of a term rise and are filled
  rises_filled : (o : Option (List (ℕ × ℕ))) (p : Option ℕ) (m : List (ℕ × ℕ)) → ((l : List (ℕ × ℕ)) → o ≡ Some l → IsPostings D l) → after_doc doc o p ≡ Some m → IsIncreasing nat_cmp m × (m ≡ [] → ⊥)
  rises_filled None None m old is = absurd (none-some m is)
  rises_filled None (Some w) m old is = let same : single doc w ≡ m = same_Some (single doc w) m is in
      subst (λ (x : List (ℕ × ℕ)). IsIncreasing nat_cmp x × (x ≡ [] → ⊥)) same ((tt, tt), λ empty. cc)
  rises_filled (Some l) None m old is = let same : l ≡ m = same_Some l m is in
      subst (λ (x : List (ℕ × ℕ)). IsIncreasing nat_cmp x × (x ≡ [] → ⊥)) same ((old l refl).rises, (old l refl).filled)
  rises_filled (Some l) (Some w) m old is = let same : merged l (single doc w) ≡ m = same_Some (merged l (single doc w)) m is in
      subst (λ (x : List (ℕ × ℕ)). IsIncreasing nat_cmp x × (x ≡ [] → ⊥)) same (
        IsIncreasing-union nat_cmp_total (λ x y. x) l (single doc w) (old l refl).rises,
        λ empty.
            let v : ℕ = option_map_or (λ x. x) (lookup nat_cmp l doc) w in
            none-some v (sym (ap (λ x. lookup nat_cmp x doc) empty) ∙ lookup-set nat_cmp_total nat_exact l doc v doc ∙ ap (λ o. cond (is_eq o) (Some v) (lookup nat_cmp l doc)) (tied_itself nat_cmp_total doc)),
      )

  pub index_after : IsIndex known_after lists_after
  index_after = record {
    known_rise = IsIncreasing-set nat_cmp_total D doc 0 index.known_rise;
    zero_weights = λ q w is. zero q w (sym (lookup-set nat_cmp_total nat_exact D doc 0 q) ∙ is);
    terms_rise = rises_after;
    are_postings = λ t m is.
        let shape : IsIncreasing nat_cmp m × (m ≡ [] → ⊥) = rises_filled (lookup bytes_cmp P t) (lookup bytes_cmp W t) m (λ l has. index.are_postings t l has) (sym (lookup-lists_after t) ∙ is) in
        let inside : (q w : ℕ) → lookup nat_cmp m q ≡ Some w → (is_some (cond (is_eq (nat_cmp doc q)) (Some 0) (lookup nat_cmp D q)) ≡ true) × (w ≤ 2 ^ 64 - 1) = λ q w has. found_known t q w (sym (found t q) ∙ ap (λ o. lookup nat_cmp (unwrap_or o []) q) is ∙ has) in
        record {
          rises = shape.0;
          filled = shape.1;
          are_known = λ q w has. ap is_some (lookup-set nat_cmp_total nat_exact D doc 0 q) ∙ (inside q w has).0;
          fit = λ q w has. (inside q w has).1;
        };
  }
    where
      zero : (q w : ℕ) → cond (is_eq (nat_cmp doc q)) (Some 0) (lookup nat_cmp D q) ≡ Some w → w ≡ 0
      zero q w = elim (is_eq (nat_cmp doc q)) as (λ b. cond b (Some 0) (lookup nat_cmp D q) ≡ Some w → w ≡ 0) [ true ↦ λ is. sym (same_Some 0 w is) | false ↦ index.zero_weights q w ]

-- a document is known where it is among the known ones
pub known-documents : (D : List (ℕ × ℕ)) (P : Lists) (doc : ℕ) → is_known (documents_of D P) doc ≡ is_some (lookup nat_cmp D doc)
known-documents [] P doc = refl
known-documents (e ∷ D) P doc =
    elim (is_eq (nat_cmp e.0 doc)) as (λ b. is_some (cond b (Some (terms_in P e.0)) (lookup nat_cmp (documents_of D P) doc)) ≡ is_some (cond b (Some e.1) (lookup nat_cmp D doc))) [ true ↦ refl | false ↦ known-documents D P doc ]

-- the maps after a document is added
pub one_more : (doc : ℕ) (D : List (ℕ × ℕ)) (P : Lists) (W : List (List ℕ × ℕ)) (known : List (ℕ × ℕ)) (lists : Lists) → IsIndex D P → lookup nat_cmp D doc ≡ None → IsIncreasing bytes_cmp W → AreFit W → known ≡ set nat_cmp D doc 0 → lists ≡ union bytes_cmp merged P (batch doc W) → IsIndex known lists × (documents_of known lists ≡ set nat_cmp (documents_of D P) doc W)
one_more doc D P W known lists index new rises fit knows has = rw (knows, has) (index_after doc D P W index new rises fit, documents_after doc D P W index new rises fit)

-- what is told of one document
pub known_told : (by : Weighing) (ds : List Document) (doc : ℕ) (text : List ℕ) → outcomes.Known ≡ outcome_by by ds doc text → is_known ds doc ≡ true
known_told by ds doc text = elim (is_known ds doc) as (λ b. outcomes.Known ≡ (if b then outcomes.Known else outcomes.New (length (by text))) → b ≡ true) [
  | true ↦ λ _. refl
  | false ↦ λ bad. absurd (let no : outcomes.Known ≡ outcomes.New (length (by text)) = bad in cc)
]

pub new_told : (by : Weighing) (ds : List Document) (doc : ℕ) (text : List ℕ) (terms : ℕ) → outcomes.New terms ≡ outcome_by by ds doc text → (is_known ds doc ≡ false) × (with_doc_by by ds doc text ≡ set nat_cmp ds doc (by text)) × (terms ≡ length (by text))
new_told by ds doc text terms = elim (is_known ds doc) as (λ b. outcomes.New terms ≡ (if b then outcomes.Known else outcomes.New (length (by text))) → (b ≡ false) × ((if b then ds else set nat_cmp ds doc (by text)) ≡ set nat_cmp ds doc (by text)) × (terms ≡ length (by text))) [
  | true ↦ λ bad. absurd (let no : outcomes.New terms ≡ outcomes.Known = bad in cc)
  | false ↦ λ is. let same : outcomes.New terms ≡ outcomes.New (length (by text)) = is in (refl, refl, cc)
]
