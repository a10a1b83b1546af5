-- Backs of what stands before a place.
use Rattle.std.proofs.Common.{◌≡◌, ℕ, suc, ◌+◌, ◌≤◌, List, [], ◌∷◌, ◌++◌, length, take, sym, ap, ◌∙◌, append_assoc}
use Rattle.std.proofs.lemmas.List.{append-nil, take-append-le}
use Rattle.std.proofs.Math.Seq.{take-append-add}
use Rattle.pac_seq.specs.Seats.{IsBack}

module _ {E : Type 0} where
  pub none_back : (whole : List E) → IsBack [] whole
  none_back whole = record { before = whole; ends = sym (append-nil whole) }

  -- what ends at a place of a part ends at a place of the whole
  abbrev pub EndsAt : List E → ℕ → List E → ℕ → Type 0
  EndsAt part i whole j = (back : List E) → IsBack back (take i part) → IsBack back (take j whole)

  pub ends_left : (part left : List E) (e : E) (right : List E) (i : ℕ) (whole : List E) (j : ℕ) → part ≡ left ++ e ∷ right → i ≤ length left → EndsAt part i whole j → EndsAt left i whole j
  ends_left part left e right i whole j is within ends =
      λ back is_back. ends back (record { before = is_back.before; ends = ap (take i) is ∙ take-append-le i left (e ∷ right) within ∙ is_back.ends })

  pub ends_right : (part left : List E) (e : E) (right : List E) (i n : ℕ) (whole : List E) (j : ℕ) → part ≡ left ++ e ∷ right → i ≡ length left + suc n → EndsAt part i whole j → EndsAt right n whole j
  ends_right part left e right i n whole j is past ends =
      λ back is_back. ends back (record {
        before = left ++ e ∷ is_back.before;
        ends = ap (take i) is ∙ ap (λ k. take k (left ++ e ∷ right)) past ∙ take-append-add left (e ∷ right) (suc n) ∙ ap (λ l. left ++ e ∷ l) is_back.ends ∙ sym (append_assoc left (e ∷ is_back.before) back);
      })
