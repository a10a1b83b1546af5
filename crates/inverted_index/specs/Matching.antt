-- Questions, each as what it tells of a document: a weight where the document matches.
use Rattle.std.specs.Prelude.{ℕ, List, Option, None, Some}
use Rattle.std.specs.List.{filter_map}
use Rattle.std.specs.Option.{option_map}
use Rattle.map_model.specs.Entries.{lookup}
use Rattle.inverted_index.specs.Merging.{sat}
use Rattle.inverted_index.specs.Terms.{bytes_cmp}

-- the documents that match, with their weights
abbrev pub matching : {T : Type 0} → (ℕ × T → Option ℕ) → List (ℕ × T) → List (ℕ × ℕ)
matching weight ds = filter_map (λ d. option_map (λ w. (d.0, w)) (weight d)) ds

-- the weight of a term, where the document has it
abbrev pub of_term : List ℕ → ℕ × List (List ℕ × ℕ) → Option ℕ
of_term term d = lookup bytes_cmp d.1 term

-- the saturating sum of both weights, where there are both
abbrev pub both : Option ℕ → Option ℕ → Option ℕ
both None b = None
both (Some v) None = None
both (Some v) (Some w) = Some (sat v w)

-- the weight that there is, or the saturating sum of both
abbrev pub either : Option ℕ → Option ℕ → Option ℕ
either None b = b
either (Some v) None = Some v
either (Some v) (Some w) = Some (sat v w)

-- the first weight, where there is no second
abbrev pub unless : Option ℕ → Option ℕ → Option ℕ
unless a None = a
unless a (Some w) = None
