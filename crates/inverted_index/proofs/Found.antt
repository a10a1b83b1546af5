-- What queries answer, from what is found step by step.
use Rattle.std.proofs.Common.{◌≡◌, ℕ, List, [], map, sym, take, ap, ◌∙◌, subst}
use Rattle.std.specs.List.Sorted.{IsPermutation}
use Rattle.std.specs.Option.{is_some}
use Rattle.std.specs.Ordering.{nat_cmp}
use Rattle.map_model.specs.Entries.{IsIncreasing, lookup}
use Rattle.map_model.specs.SetOperations.{difference}
use Rattle.inverted_index.specs.Documents.{IsIndex, documents_of}
use Rattle.inverted_index.specs.Merging.{Lists, common, common_of, union_all, postings_at}
use Rattle.inverted_index.specs.Queries.{AreTop, Document, all_of, any_of, having, hits_of, is_known, ranked, without}
use Rattle.inverted_index.specs.Ranks.{AreLow}
use Rattle.inverted_index.proofs.Gathering.{Rises, all_of-common, any_of-union_all, common_from_first, having-postings, rises_at, without-difference}
use Rattle.inverted_index.specs.declared.hit.Hit.{Hit}
use Rattle.inverted_index.proofs.Ranked.{top_ranked}
use Rattle.inverted_index.proofs.Ranks.{low_fits}
use Rattle.inverted_index.proofs.OneMore.{known-documents}

module _ (D : List (ℕ × ℕ)) (P : Lists) (ds : List Document) (index : IsIndex D P) (view : documents_of D P ≡ ds) where
  pub all_found : (terms : List (List ℕ)) (lists sorted slice : List (List (ℕ × ℕ))) (found : List (ℕ × ℕ)) → lists ≡ map (postings_at P) terms → IsPermutation lists sorted → slice ≡ sorted → found ≡ common_of D slice → IsIncreasing nat_cmp found → found ≡ all_of ds terms
  all_found terms lists sorted slice found of moved lent has rises =
      let Moved : List (List (ℕ × ℕ)) → Type 0 = λ l. IsPermutation l sorted in
      let is : found ≡ common D sorted = has ∙ ap (common_of D) lent ∙ common_from_first D P index terms sorted (subst Moved of moved) in
      let Up : List (ℕ × ℕ) → Type 0 = λ m. IsIncreasing nat_cmp m in
      is ∙ all_of-common D P index terms sorted (subst Moved of moved) (subst Up is rises) ∙ ap (λ d. all_of d terms) view

  pub any_found : (terms : List (List ℕ)) (lists slice : List (List (ℕ × ℕ))) (found : List (ℕ × ℕ)) → lists ≡ map (postings_at P) terms → slice ≡ lists → found ≡ union_all [] slice → IsIncreasing nat_cmp found → found ≡ any_of ds terms
  any_found terms lists slice found of lent has rises =
      let is : found ≡ union_all [] (map (postings_at P) terms) = has ∙ ap (union_all []) (lent ∙ of) in
      let Up : List (ℕ × ℕ) → Type 0 = λ m. IsIncreasing nat_cmp m in
      is ∙ any_of-union_all D P index terms (subst Up is rises) ∙ ap (λ d. any_of d terms) view

  pub rest_found : (s t : List ℕ) (a b found : List (ℕ × ℕ)) → a ≡ postings_at P s → b ≡ postings_at P t → found ≡ difference nat_cmp a b → found ≡ without ds s t
  rest_found s t a b found first second has =
      has ∙ ap (λ x. difference nat_cmp x b) first ∙ ap (difference nat_cmp (postings_at P s)) second ∙ without-difference D P index s t ∙ ap (λ d. without d s t) view

  pub one_found : (t : List ℕ) (a : List (ℕ × ℕ)) → a ≡ postings_at P t → a ≡ having ds t
  one_found t a is = is ∙ having-postings D P index t ∙ ap (λ d. having d t) view

  pub low_found : (t : List ℕ) (a : List (ℕ × ℕ)) → a ≡ postings_at P t → AreLow a
  low_found t a is =
      let up : Rises (postings_at P t) = rises_at D P index t in
      let Low : List (ℕ × ℕ) → Type 0 = λ m. AreLow m in
      subst Low (sym is) (low_fits (postings_at P t) up.0 up.1)

  pub top_found : (t : List ℕ) (a : List (ℕ × ℕ)) (k : ℕ) (hits : List Hit) → a ≡ postings_at P t → hits ≡ hits_of (take k (ranked a)) → AreTop (having ds t) k hits
  top_found t a k hits is has =
      let up : Rises (postings_at P t) = rises_at D P index t in
      let Up : List (ℕ × ℕ) → Type 0 = λ m. IsIncreasing nat_cmp m in
      let found = one_found t a is in
      top_ranked (having ds t) k hits (subst Up (sym is ∙ found) up.0) (has ∙ ap (λ x. hits_of (take k (ranked x))) found)

-- whether a document is there
pub doc_found : (D : List (ℕ × ℕ)) (P : Lists) (ds : List Document) (doc : ℕ) → documents_of D P ≡ ds → is_some (lookup nat_cmp D doc) ≡ is_known ds doc
doc_found D P ds doc view = sym (known-documents D P doc) ∙ ap (λ d. is_known d doc) view
