-- The records of the first of some rounds.
use Rattle.std.proofs.Common.{◌≡◌, ◌≢◌, ◌==◌, ℕ, ◌<◌, ◌≤◌, ◌+◌, true, false, List, length, take, drop, get_or, ap, ◌∙◌, arith, eq-eqb}
use Rattle.std.specs.Prelude.{All}
use Rattle.std.specs.List.Sorted.{IsNonDecreasingBy, IsPartitionedBy, IsPartitionPoint}
use Rattle.std.proofs.lemmas.Bool.{eqb-true, eqb-false}
use Rattle.std.proofs.lemmas.List.{get_or-take, get_or-drop, length-take, length-drop}
use Rattle.serve_text.specs.declared.record.Record.{Record}

module _ {O Q : Type 0} (first : ℕ) (records : List (Record O Q)) (least : All (λ (r : Record O Q). first ≤ r.round) records) where
  pub first_is_front : IsNonDecreasingBy (λ (r : Record O Q). r.round) records → IsPartitionedBy (λ (r : Record O Q). r.round == first) records
  first_is_front rise i j d h inside here =
      let same : (get_or records j d).round ≡ first = eqb-true (get_or records j d).round first here in
      eq-eqb (get_or records i d).round first (let q : (get_or records i d).round ≡ first = omega (arith, rise i j d h inside, least i d (omega (arith, h, inside)), same) in q)

  module _ (n : ℕ) (within : n ≤ length records)
      (point : IsPartitionPoint (λ (r : Record O Q). (r.round == first) ≡ true) (λ (r : Record O Q). (r.round == first) ≡ false) records n) where
    pub all_here : All (λ (r : Record O Q). r.round ≡ first) (take n records)
    all_here k d h =
        let inside : k < n = omega (arith, h, length-take n records) in
        ap (λ (r : Record O Q). r.round) (get_or-take n records k d inside) ∙ eqb-true (get_or records k d).round first (point.0 k d (omega arith) inside)

    pub rest_later : All (λ (r : Record O Q). first < r.round) (drop n records)
    rest_later k d h =
        let inside : n + k < length records = omega (arith, h, length-drop n records) in
        let at : (get_or (drop n records) k d).round ≡ (get_or records (n + k) d).round = ap (λ (r : Record O Q). r.round) (get_or-drop n records k d) in
        let other : (get_or records (n + k) d).round ≢ first = eqb-false (get_or records (n + k) d).round first (point.1 (n + k) d (omega arith) inside) in
        omega (arith, least (n + k) d inside, other, at)
