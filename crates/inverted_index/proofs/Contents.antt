-- What holds of the documents of an index.
use Rattle.std.proofs.Common.{◌≡◌, ℕ, List, [], ◌∷◌, length, refl, sym, ap, ◌∙◌, suc, subst}
use Rattle.std.specs.List.{AllByRecursion}
use Rattle.std.specs.Ordering.{nat_cmp}
use Rattle.map_model.specs.Entries.{AllAbove, IsIncreasing}
use Rattle.inverted_index.specs.Documents.{IsIndex, IsLawful, documents_of, terms_in}
use Rattle.inverted_index.specs.Merging.{Lists}
use Rattle.inverted_index.specs.Queries.{Document}
use Rattle.inverted_index.proofs.Documents.{IsIncreasing-terms_in, lookup-terms_in}
use Rattle.inverted_index.proofs.Gathering.{rises_at}

above_all : (D : List (ℕ × ℕ)) (P : Lists) (q : ℕ) → AllAbove nat_cmp D q → AllAbove nat_cmp (documents_of D P) q
above_all [] P q a = tt
above_all (e ∷ D) P q a = (a.0, above_all D P q a.1)

rising : (D : List (ℕ × ℕ)) (P : Lists) → IsIncreasing nat_cmp D → IsIncreasing nat_cmp (documents_of D P)
rising [] P s = tt
rising (e ∷ D) P s = (above_all D P e.0 s.0, rising D P s.1)

lawful : (D : List (ℕ × ℕ)) (P : Lists) → ((q : ℕ) → IsLawful (q, terms_in P q)) → AllByRecursion IsLawful (documents_of D P)
lawful [] P h = tt
lawful (e ∷ D) P h = (h e.0, lawful D P h)

counted : (D : List (ℕ × ℕ)) (P : Lists) → length (documents_of D P) ≡ length D
counted [] P = refl
counted (e ∷ D) P = ap suc (counted D P)

module _ (D : List (ℕ × ℕ)) (P : Lists) (ds : List Document) (index : IsIndex D P) (view : documents_of D P ≡ ds) where
  pub documents_rise : IsIncreasing nat_cmp ds
  documents_rise = let Up : List Document → Type 0 = λ d. IsIncreasing nat_cmp d in subst Up view (rising D P index.known_rise)

  pub documents_are_lawful : AllByRecursion IsLawful ds
  documents_are_lawful =
      let All : List Document → Type 0 = λ d. AllByRecursion IsLawful d in
      subst All view (lawful D P (λ q. record {
        rises = IsIncreasing-terms_in P q index.terms_rise;
        fit = λ t w is. (rises_at D P index t).1 q w (sym (lookup-terms_in P q t index.terms_rise) ∙ is);
      }))

  pub documents_counted : length D ≡ length ds
  documents_counted = sym (counted D P) ∙ ap length view
