-- One turn of a merge of two increasing slices into a list.
use Rattle.std.proofs.Common.{◌≡◌, List, [], ◌∷◌, ◌++◌, refl, sym, ap, ap₂, subst, ◌∙◌, append_assoc, append-nil}
use Rattle.std.specs.declared.cmp.Ordering.{Ordering}
use Rattle.std.specs.declared.cmp.Ordering.TheVariants.{Less, Equal, Greater}
use Rattle.std.specs.Cmp.{IsTotalOrder}
use Rattle.map_model.specs.Order.{IsExact}
use Rattle.map_model.specs.Entries.{IsIncreasing}
use Rattle.map_model.specs.SetOperations.{union, intersect, difference}
use Rattle.map_model.proofs.Unions.{nil-union}
use Rattle.map_model.proofs.Merges.{union-cons_less, union-cons_equal, union-cons_greater, intersect-cons_less, intersect-cons_equal, intersect-cons_greater, difference-cons_less, difference-cons_equal, difference-cons_greater}

-- what is out, and what of the two slices is still to come
abbrev pub Merging : {K V : Type 0} → (K → K → Ordering) → (List (K × V) → List (K × V) → List (K × V)) → List (K × V) → List (K × V) → List (K × V) → List (K × V) → Type 0
Merging order answer out left right whole = (out ++ answer left right ≡ whole) × IsIncreasing order left × IsIncreasing order right

-- one entry more is out
appended : {X : Type 0} (out out' : List X) (e : X) (m n whole : List X) → out' ≡ out ++ e ∷ [] → m ≡ e ∷ n → out ++ m ≡ whole → out' ++ n ≡ whole
appended out out' e m n whole is step h = ap (λ x. x ++ n) is ∙ append_assoc out (e ∷ []) n ∙ ap (λ x. out ++ x) (sym step) ∙ h

module _ {K V : Type 0} {order : K → K → Ordering} (total : IsTotalOrder order) (exact : IsExact order) (e d : K × V) (a b left right out out' whole : List (K × V)) (left_is : left ≡ e ∷ a) (right_is : right ≡ d ∷ b) where
  module _ (f : V → V → V) (here : Merging order (union order f) out left right whole) where
    pub union_less : order e.0 d.0 ≡ Less → out' ≡ out ++ e ∷ [] → Merging order (union order f) out' a right whole
    union_less h is =
        let s : IsIncreasing order (e ∷ a) = subst (IsIncreasing order) left_is here.1 in
        let t : IsIncreasing order (d ∷ b) = subst (IsIncreasing order) right_is here.2 in
        let step : union order f left right ≡ e ∷ union order f a right = rw (left_is, right_is) (union-cons_less total exact e d a b s t f h) in
        (appended out out' e (union order f left right) (union order f a right) whole is step here.0, s.1, here.2)

    pub union_equal : order e.0 d.0 ≡ Equal → out' ≡ out ++ (e.0, f e.1 d.1) ∷ [] → Merging order (union order f) out' a b whole
    union_equal h is =
        let s : IsIncreasing order (e ∷ a) = subst (IsIncreasing order) left_is here.1 in
        let t : IsIncreasing order (d ∷ b) = subst (IsIncreasing order) right_is here.2 in
        let step : union order f left right ≡ (e.0, f e.1 d.1) ∷ union order f a b = rw (left_is, right_is) (union-cons_equal total exact e d a b s t f h) in
        (appended out out' (e.0, f e.1 d.1) (union order f left right) (union order f a b) whole is step here.0, s.1, t.1)

    pub union_greater : order e.0 d.0 ≡ Greater → out' ≡ out ++ d ∷ [] → Merging order (union order f) out' left b whole
    union_greater h is =
        let s : IsIncreasing order (e ∷ a) = subst (IsIncreasing order) left_is here.1 in
        let t : IsIncreasing order (d ∷ b) = subst (IsIncreasing order) right_is here.2 in
        let step : union order f left right ≡ d ∷ union order f left b = rw (left_is, right_is) (union-cons_greater total exact e d a b s t f h) in
        (appended out out' d (union order f left right) (union order f left b) whole is step here.0, here.1, t.1)

  module _ (f : V → V → V) (here : Merging order (intersect order f) out left right whole) where
    pub intersect_less : order e.0 d.0 ≡ Less → Merging order (intersect order f) out a right whole
    intersect_less h =
        let s : IsIncreasing order (e ∷ a) = subst (IsIncreasing order) left_is here.1 in
        let t : IsIncreasing order (d ∷ b) = subst (IsIncreasing order) right_is here.2 in
        let step : intersect order f left right ≡ intersect order f a right = ap₂ (λ l r. intersect order f l r) left_is right_is ∙ intersect-cons_less total exact e d a b s t f h ∙ ap (λ r. intersect order f a r) (sym right_is) in
        (ap (λ x. out ++ x) (sym step) ∙ here.0, s.1, here.2)

    pub intersect_equal : order e.0 d.0 ≡ Equal → out' ≡ out ++ (e.0, f e.1 d.1) ∷ [] → Merging order (intersect order f) out' a b whole
    intersect_equal h is =
        let s : IsIncreasing order (e ∷ a) = subst (IsIncreasing order) left_is here.1 in
        let t : IsIncreasing order (d ∷ b) = subst (IsIncreasing order) right_is here.2 in
        let step : intersect order f left right ≡ (e.0, f e.1 d.1) ∷ intersect order f a b = ap₂ (λ l r. intersect order f l r) left_is right_is ∙ intersect-cons_equal total exact e d a b s t f h in
        (appended out out' (e.0, f e.1 d.1) (intersect order f left right) (intersect order f a b) whole is step here.0, s.1, t.1)

    pub intersect_greater : order e.0 d.0 ≡ Greater → Merging order (intersect order f) out left b whole
    intersect_greater h =
        let s : IsIncreasing order (e ∷ a) = subst (IsIncreasing order) left_is here.1 in
        let t : IsIncreasing order (d ∷ b) = subst (IsIncreasing order) right_is here.2 in
        let step : intersect order f left right ≡ intersect order f left b = ap₂ (λ l r. intersect order f l r) left_is right_is ∙ intersect-cons_greater total exact e d a b s t f h ∙ ap (λ l. intersect order f l b) (sym left_is) in
        (ap (λ x. out ++ x) (sym step) ∙ here.0, here.1, t.1)

  module _ (here : Merging order (difference order) out left right whole) where
    pub difference_less : order e.0 d.0 ≡ Less → out' ≡ out ++ e ∷ [] → Merging order (difference order) out' a right whole
    difference_less h is =
        let s : IsIncreasing order (e ∷ a) = subst (IsIncreasing order) left_is here.1 in
        let t : IsIncreasing order (d ∷ b) = subst (IsIncreasing order) right_is here.2 in
        let step : difference order left right ≡ e ∷ difference order a right = ap₂ (λ l r. difference order l r) left_is right_is ∙ difference-cons_less total exact e d a b s t h ∙ ap (λ r. e ∷ difference order a r) (sym right_is) in
        (appended out out' e (difference order left right) (difference order a right) whole is step here.0, s.1, here.2)

    pub difference_equal : order e.0 d.0 ≡ Equal → Merging order (difference order) out a b whole
    difference_equal h =
        let s : IsIncreasing order (e ∷ a) = subst (IsIncreasing order) left_is here.1 in
        let t : IsIncreasing order (d ∷ b) = subst (IsIncreasing order) right_is here.2 in
        let step : difference order left right ≡ difference order a b = ap₂ (λ l r. difference order l r) left_is right_is ∙ difference-cons_equal total exact e d a b s t h in
        (ap (λ x. out ++ x) (sym step) ∙ here.0, s.1, t.1)

    pub difference_greater : order e.0 d.0 ≡ Greater → Merging order (difference order) out left b whole
    difference_greater h =
        let s : IsIncreasing order (e ∷ a) = subst (IsIncreasing order) left_is here.1 in
        let t : IsIncreasing order (d ∷ b) = subst (IsIncreasing order) right_is here.2 in
        let step : difference order left right ≡ difference order left b = ap₂ (λ l r. difference order l r) left_is right_is ∙ difference-cons_greater total exact e d a b s t h ∙ ap (λ l. difference order l b) (sym left_is) in
        (ap (λ x. out ++ x) (sym step) ∙ here.0, here.1, t.1)

module _ {K V : Type 0} (order : K → K → Ordering) where
  intersect-none : (f : V → V → V) (a : List (K × V)) → intersect order f a [] ≡ []
  intersect-none f [] = refl
  intersect-none f (e ∷ a) = intersect-none f a

  difference-none : (a : List (K × V)) → difference order a [] ≡ a
  difference-none [] = refl
  difference-none (e ∷ a) = ap (λ x. e ∷ x) (difference-none a)

module _ {K V : Type 0} {order : K → K → Ordering} (total : IsTotalOrder order) (exact : IsExact order) (out whole : List (K × V)) where
  -- one slice has come to its end: the rest of the other follows
  pub union_left : (f : V → V → V) (left right : List (K × V)) → right ≡ [] → out ++ union order f left right ≡ whole → (out ++ left) ++ right ≡ whole
  union_left f left right is h =
      let h' : out ++ left ≡ whole = subst (λ r. out ++ union order f left r ≡ whole) is h in
      rw is (append-nil (out ++ left) ∙ h')

  pub union_right : (f : V → V → V) (left right : List (K × V)) → left ≡ [] → IsIncreasing order right → out ++ union order f left right ≡ whole → (out ++ left) ++ right ≡ whole
  union_right f left right is t h =
      let h' : out ++ union order f [] right ≡ whole = subst (λ l. out ++ union order f l right ≡ whole) is h in
      rw is (ap (λ x. x ++ right) (append-nil out) ∙ ap (λ x. out ++ x) (sym (nil-union total exact f right t)) ∙ h')

  pub intersect_end : (f : V → V → V) (left right : List (K × V)) → right ≡ [] → out ++ intersect order f left right ≡ whole → out ≡ whole
  intersect_end f left right is h =
      let h' : out ++ intersect order f left [] ≡ whole = subst (λ r. out ++ intersect order f left r ≡ whole) is h in
      sym (append-nil out) ∙ ap (λ x. out ++ x) (sym (intersect-none order f left)) ∙ h'

  pub intersect_done : (f : V → V → V) (left right : List (K × V)) → left ≡ [] → out ++ intersect order f left right ≡ whole → out ≡ whole
  intersect_done f left right is h =
      let h' : out ++ [] ≡ whole = subst (λ l. out ++ intersect order f l right ≡ whole) is h in
      sym (append-nil out) ∙ h'

  pub difference_left : (left right : List (K × V)) → right ≡ [] → out ++ difference order left right ≡ whole → out ++ left ≡ whole
  difference_left left right is h =
      let h' : out ++ difference order left [] ≡ whole = subst (λ r. out ++ difference order left r ≡ whole) is h in
      ap (λ x. out ++ x) (sym (difference-none order left)) ∙ h'

  pub difference_done : (left right : List (K × V)) → left ≡ [] → out ++ difference order left right ≡ whole → out ++ left ≡ whole
  difference_done left right is h =
      let h' : out ++ [] ≡ whole = subst (λ l. out ++ difference order l right ≡ whole) is h in
      rw is h'
