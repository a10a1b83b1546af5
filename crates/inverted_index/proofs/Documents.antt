-- What the postings of terms say of documents.
use Rattle.std.proofs.Common.{◌≡◌, ℕ, Bool, true, false, cond, List, [], ◌∷◌, Option, Some, None, refl, sym, ap, ◌∙◌, map}
use Rattle.std.specs.List.{filter, cons_option}
use Rattle.std.specs.Option.{option_map, option_and_then, unwrap_or, is_some}
use Rattle.std.specs.Ordering.{nat_cmp}
use Rattle.std.proofs.lemmas.Cmp.{nat_cmp_total, nat_list_cmp_total}
use Rattle.std.proofs.lemmas.Map.Lookups.{exact_bytes}
use Rattle.map_model.specs.Entries.{IsIncreasing, lookup}
use Rattle.map_model.proofs.Lookups.{equal_lookups}
use Rattle.map_model.proofs.NatKeys.{nat_exact}
use Rattle.inverted_index.specs.Terms.{bytes_cmp}
use Rattle.inverted_index.specs.Documents.{documents_of, terms_in}
use Rattle.inverted_index.specs.Merging.{Lists, postings_at}
use Rattle.inverted_index.specs.Queries.{Document, picked}
use Rattle.inverted_index.proofs.Kept.{kept, lookup-kept, IsIncreasing-kept}

pub IsIncreasing-terms_in : (P : Lists) (q : ℕ) → IsIncreasing bytes_cmp P → IsIncreasing bytes_cmp (terms_in P q)
IsIncreasing-terms_in P q s = IsIncreasing-kept (λ e. lookup nat_cmp e.1 q) bytes_cmp P s

-- a document's weight of a term is the term's weight of the document
pub lookup-terms_in : (P : Lists) (q : ℕ) (t : List ℕ) → IsIncreasing bytes_cmp P → lookup bytes_cmp (terms_in P q) t ≡ lookup nat_cmp (postings_at P t) q
lookup-terms_in P q t s =
    lookup-kept nat_list_cmp_total exact_bytes (λ e. lookup nat_cmp e.1 q) P t s
    ∙ elim (lookup bytes_cmp P t) as (λ o. option_and_then (λ m. lookup nat_cmp m q) o ≡ lookup nat_cmp (unwrap_or o []) q) [ None ↦ refl | Some m ↦ refl ]

-- the known documents at which f gives a weight
abbrev pub answers : (ℕ → Option ℕ) → List (ℕ × ℕ) → List (ℕ × ℕ)
answers f D = kept (λ e. f e.0) D

pub lookup-answers : (f : ℕ → Option ℕ) (D : List (ℕ × ℕ)) (q : ℕ) → IsIncreasing nat_cmp D → lookup nat_cmp (answers f D) q ≡ cond (is_some (lookup nat_cmp D q)) (f q) None
lookup-answers f D q s =
    lookup-kept nat_cmp_total nat_exact (λ e. f e.0) D q s
    ∙ elim (lookup nat_cmp D q) as (λ o. option_and_then (λ v. f q) o ≡ cond (is_some o) (f q) None) [ None ↦ refl | Some w ↦ refl ]

module _ (passes : Document → Bool) (weight : Document → ℕ) (P : Lists) where
  -- what a document answers
  abbrev pub answer_of : ℕ → Option ℕ
  answer_of q = cond (passes (q, terms_in P q)) (Some (weight (q, terms_in P q))) None

  pub picked-answers : (D : List (ℕ × ℕ)) → picked passes weight (documents_of D P) ≡ answers answer_of D
  picked-answers [] = refl
  picked-answers (e ∷ D) =
      let d : Document = (e.0, terms_in P e.0) in
      let rest = picked-answers D in
      elim (passes d) as (λ b. map (λ x. (x.0, weight x)) (cond b (d ∷ filter passes (documents_of D P)) (filter passes (documents_of D P))) ≡ cons_option (option_map (λ w. (e.0, w)) (cond b (Some (weight d)) None)) (answers answer_of D)) [ true ↦ ap (λ x. (e.0, weight d) ∷ x) rest | false ↦ rest ]

  -- a map is what a query answers
  pub answered : (D M : List (ℕ × ℕ)) → IsIncreasing nat_cmp D → IsIncreasing nat_cmp M → ((q : ℕ) → lookup nat_cmp M q ≡ cond (is_some (lookup nat_cmp D q)) (answer_of q) None) → M ≡ picked passes weight (documents_of D P)
  answered D M s t h =
      equal_lookups nat_cmp_total nat_exact M (answers answer_of D) t (IsIncreasing-kept (λ e. answer_of e.0) nat_cmp D s) (λ q. h q ∙ sym (lookup-answers answer_of D q s))
      ∙ sym (picked-answers D)
