-- The documents that two maps keep: one of the known documents, and one from terms to their postings, which are documents with weights.
use Rattle.std.specs.Prelude.{◌≡◌, ℕ, ◌-◌, ◌^◌, ◌≤◌, ◌==◌, List, [], Some, true, filter, map, is_some, not}
use Rattle.std.specs.List.{filter_map}
use Rattle.std.specs.Option.{option_map}
use Rattle.std.specs.Ordering.{nat_cmp}
use Rattle.map_model.specs.Entries.{IsIncreasing, lookup}
use Rattle.inverted_index.specs.Terms.{bytes_cmp}

-- the terms whose postings have a document, each with its weight there
abbrev pub terms_in : List (List ℕ × List (ℕ × ℕ)) → ℕ → List (List ℕ × ℕ)
terms_in postings doc = filter_map (λ e. option_map (λ w. (e.0, w)) (lookup nat_cmp e.1 doc)) postings

-- the known documents by rising number, each with its terms
abbrev pub documents_of : List (ℕ × ℕ) → List (List ℕ × List (ℕ × ℕ)) → List (ℕ × List (List ℕ × ℕ))
documents_of known postings = map (λ e. (e.0, terms_in postings e.0)) known

-- documents without one, which need not be among them
abbrev pub without_doc : List (ℕ × List (List ℕ × ℕ)) → ℕ → List (ℕ × List (List ℕ × ℕ))
without_doc ds doc = filter (λ d. not (d.0 == doc)) ds

-- weights of 64 bits
abbrev pub AreFit : List (List ℕ × ℕ) → Type 0
AreFit weights = (t : List ℕ) (w : ℕ) → lookup bytes_cmp weights t ≡ Some w → w ≤ 2 ^ 64 - 1

-- a document's terms rise, with weights of 64 bits
pub record IsLawful (d : ℕ × List (List ℕ × ℕ)) : Type 0 where
  pub rises : IsIncreasing bytes_cmp d.1
  pub fit : AreFit d.1

-- at least one document, all of them known, with weights of 64 bits
pub record IsPostings (known m : List (ℕ × ℕ)) : Type 0 where
  pub rises : IsIncreasing nat_cmp m
  pub filled : m ≡ [] → ⊥
  pub are_known : (q w : ℕ) → lookup nat_cmp m q ≡ Some w → is_some (lookup nat_cmp known q) ≡ true
  pub fit : (q w : ℕ) → lookup nat_cmp m q ≡ Some w → w ≤ 2 ^ 64 - 1

-- known documents stand with weight 0
pub record IsIndex (known : List (ℕ × ℕ)) (postings : List (List ℕ × List (ℕ × ℕ))) : Type 0 where
  pub known_rise : IsIncreasing nat_cmp known
  pub zero_weights : (q w : ℕ) → lookup nat_cmp known q ≡ Some w → w ≡ 0
  pub terms_rise : IsIncreasing bytes_cmp postings
  pub are_postings : (t : List ℕ) (m : List (ℕ × ℕ)) → lookup bytes_cmp postings t ≡ Some m → IsPostings known m
