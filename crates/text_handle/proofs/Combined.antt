-- What a call that combines two open handles makes.
use Rattle.std.proofs.Common.{◌≡◌, ℕ, List, Bool, true, false, Option, None, Some, MatchOption, sym, ◌∙◌, ap}
use Rattle.std.proofs.lemmas.Bool.{false≢true}
use Rattle.loose.specs.Statuses.{Becomes, into}
use Rattle.map_model.specs.SetOperations.{union, intersect}
use Rattle.map_handle.specs.declared.how.How.{How}
use Rattle.map_handle.specs.Hows.{resolved_by}
use Rattle.text_handle.specs.Hows.{shared, united}
use Rattle.text_handle.specs.Keys.{bytes_cmp}

pub united_is : (how : Option How) (a b : Option (List (List ℕ × ℕ))) (resolve : How) (x y made : List (List ℕ × ℕ)) → Some resolve ≡ how → a ≡ Some x → b ≡ Some y → made ≡ union bytes_cmp (resolved_by resolve) x y → united how a b ≡ Some made
united_is how a b resolve x y made h p q m = rw (sym h) (rw p (rw q (ap Some (sym m))))

pub shared_is : (how : Option How) (a b : Option (List (List ℕ × ℕ))) (resolve : How) (x y made : List (List ℕ × ℕ)) → Some resolve ≡ how → a ≡ Some x → b ≡ Some y → made ≡ intersect bytes_cmp (resolved_by resolve) x y → shared how a b ≡ Some made
shared_is how a b resolve x y made h p q m = rw (sym h) (rw p (rw q (ap Some (sym m))))

-- a handle that is not open becomes what is made
pub becomes_made : (out : Option (List (List ℕ × ℕ))) (is_open : Bool) (made : Option (List (List ℕ × ℕ))) (next : List (List ℕ × ℕ)) (status : ℕ) (after : Option (List (List ℕ × ℕ)))
    → MatchOption out (is_open ≡ false) (λ _. is_open ≡ true) → is_open ≡ false → made ≡ Some next → Becomes (Some next) status out after → Becomes (into out made) status out after
becomes_made None is_open made next status after t f e h = rw e h
becomes_made (Some _) is_open made next status after t f e h = absurd (false≢true (sym f ∙ t))
