-- What documents answer. A document is its number and its terms with their weights; an answer is a list of documents' numbers and weights.
use Rattle.std.specs.Prelude.{◌≡◌, ℕ, ◌-◌, ◌^◌, ◌==◌, ◌&&◌, ◌||◌, ◌↔◌, List, [], ◌∷◌, Option, Some, None, Bool, IsTrue, cond, map, filter, min, nat_eq, nat_lt, nat_le, is_some, unwrap_or, sum_by, take, not}
use Rattle.std.specs.List.{Contains, list_all, list_any, starts_with}
use Rattle.std.specs.List.Sorted.{IsPermutation, IsStrictlySortedBy}
use Rattle.std.specs.Ordering.{nat_cmp, ordering_then}
use Rattle.std.specs.declared.cmp.Ordering.{Ordering}
use Rattle.map_model.specs.Entries.{lookup}
use Rattle.inverted_index.specs.Terms.{IsTerm, bytes_cmp}
use Rattle.inverted_index.specs.declared.hit.Hit.{Hit}

abbrev pub Document : Type 0
Document = ℕ × List (List ℕ × ℕ)

-- whether a document of a number is there
abbrev pub is_known : List Document → ℕ → Bool
is_known ds doc = is_some (lookup nat_cmp ds doc)

abbrev pub has : List ℕ → Document → Bool
has term d = is_some (lookup bytes_cmp d.1 term)

-- the weight of a term, 0 where the document hasn't it
abbrev pub weight_in : Document → List ℕ → ℕ
weight_in d term = unwrap_or (lookup bytes_cmp d.1 term) 0

-- the saturating sum of the weights of terms, as often as they are named
abbrev pub total_in : Document → List (List ℕ) → ℕ
total_in d terms = min (sum_by (weight_in d) terms) (2 ^ 64 - 1)

-- the documents that pass a test, with their weights
abbrev pub picked : (Document → Bool) → (Document → ℕ) → List Document → List (ℕ × ℕ)
picked passes weight ds = map (λ d. (d.0, weight d)) (filter passes ds)

-- those that have all terms
abbrev pub all_of : List Document → List (List ℕ) → List (ℕ × ℕ)
all_of ds terms = picked (λ d. list_all (λ t. has t d) terms) (λ d. total_in d terms) ds

-- those that have one of the terms
abbrev pub any_of : List Document → List (List ℕ) → List (ℕ × ℕ)
any_of ds terms = picked (λ d. list_any (λ t. has t d) terms) (λ d. total_in d terms) ds

-- those that have one term and not another, with the weight of the first
abbrev pub without : List Document → List ℕ → List ℕ → List (ℕ × ℕ)
without ds first second = picked (λ d. has first d && not (has second d)) (λ d. weight_in d first) ds

-- those that have a term
abbrev pub having : List Document → List ℕ → List (ℕ × ℕ)
having ds term = picked (has term) (λ d. weight_in d term) ds

-- the first is of more weight, or of the same weight and no greater number
abbrev pub ranks_before : ℕ × ℕ → ℕ × ℕ → Bool
ranks_before a b = nat_lt b.1 a.1 || (a.1 == b.1 && nat_le a.0 b.0)

abbrev pub ranked_in : ℕ × ℕ → List (ℕ × ℕ) → List (ℕ × ℕ)
ranked_in a [] = a ∷ []
ranked_in a (b ∷ bs) = cond (ranks_before a b) (a ∷ b ∷ bs) (b ∷ ranked_in a bs)

-- by falling weight, then by rising number
abbrev pub ranked : List (ℕ × ℕ) → List (ℕ × ℕ)
ranked [] = []
ranked (a ∷ as_) = ranked_in a (ranked as_)

-- the first k of the documents that have a term, by rank
abbrev pub top : List Document → ℕ → List ℕ → List (ℕ × ℕ)
top ds k term = take k (ranked (having ds term))

-- a list that has some elements
abbrev pub if_filled : {E : Type 0} → List E → Option (List E)
if_filled [] = None
if_filled (e ∷ es) = Some (e ∷ es)

-- the documents that have a term with its weights, if there are any
abbrev pub inverted : List Document → List ℕ → Option (List (ℕ × ℕ))
inverted ds term = if_filled (having ds term)

abbrev pub hit_of : ℕ × ℕ → Hit
hit_of a = record { doc = a.0; weight = a.1 }

abbrev pub hits_of : List (ℕ × ℕ) → List Hit
hits_of = map hit_of

-- more weight comes first, and of the same weight the smaller number
abbrev pub rank_cmp : ℕ × ℕ → ℕ × ℕ → Ordering
rank_cmp a b = ordering_then (nat_cmp b.1 a.1) (nat_cmp a.0 b.0)

-- documents with weights, each once, by rank
pub record IsRanking (m ranking : List (ℕ × ℕ)) : Type 0 where
  pub same : IsPermutation m ranking
  pub order : IsStrictlySortedBy rank_cmp ranking

-- hits are the first k of documents with weights, once these stand by rank
pub record AreTop (m : List (ℕ × ℕ)) (k : ℕ) (hits : List Hit) : Type 0 where
  pub ranking : List (ℕ × ℕ)
  pub by_rank : IsRanking m ranking
  pub first : hits ≡ hits_of (take k ranking)

-- whether some document has a term
abbrev pub is_had : List Document → List ℕ → Bool
is_had ds term = list_any (has term) ds

-- the terms that some document has, each once, in the order of bytes
pub record AreTerms (ds : List Document) (terms : List (List ℕ)) : Type 0 where
  pub order : IsStrictlySortedBy bytes_cmp terms
  pub those : (term : List ℕ) → Contains terms term ↔ IsTrue (is_had ds term)

-- whether bytes begin with others
abbrev pub begins : List ℕ → List ℕ → Bool
begins front bytes = starts_with nat_eq bytes front

-- those of them that begin with some bytes
pub record AreTermsFrom (ds : List Document) (front : List ℕ) (terms : List (List ℕ)) : Type 0 where
  pub order : IsStrictlySortedBy bytes_cmp terms
  pub those : (term : List ℕ) → IsTerm term → Contains terms term ↔ IsTrue (begins front term && is_had ds term)
