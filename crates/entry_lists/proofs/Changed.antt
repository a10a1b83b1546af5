-- One turn of a walk over two increasing slices that tells what has changed.
use Rattle.std.proofs.Common.{◌≡◌, Bool, cond, List, [], ◌∷◌, ◌++◌, Option, None, Some, map, refl, sym, ap, ap₂, subst, ◌∙◌, append_assoc, append-nil}
use Rattle.std.specs.declared.cmp.Ordering.{Ordering}
use Rattle.std.specs.declared.cmp.Ordering.TheVariants.{Less, Equal, Greater}
use Rattle.std.specs.Ordering.{is_eq}
use Rattle.std.specs.Cmp.{IsTotalOrder}
use Rattle.std.specs.List.{cons_option, filter_map}
use Rattle.map_model.specs.Order.{IsExact}
use Rattle.map_model.specs.Entries.{AllAbove, AllKeys, IsIncreasing, lookup}
use Rattle.map_model.specs.SetOperations.{union}
use Rattle.map_model.proofs.Keys.{AllKeys-map, below_all, lesser}
use Rattle.map_model.proofs.Lookups.{before_first, first_found, lookup_middle, lookup-all_greater}
use Rattle.map_model.proofs.Merges.{union-cons_less, union-cons_equal, union-cons_greater}
use Rattle.map_model.proofs.Unions.{AllKeys-union, nil-union}
use Rattle.entry_lists.specs.Changes.{change_at, changes}
use Rattle.entry_lists.specs.declared.changing.Change.{Change}
use Rattle.entry_lists.specs.declared.changing.Change.TheVariants as change

-- what is out, and what of the two slices is still to come
abbrev pub Telling : {K V : Type 0} → (K → K → Ordering) → (V → V → Bool) → List (Change K V) → List (K × V) → List (K × V) → List (Change K V) → Type 0
Telling order eq out left right whole = (out ++ changes order eq left right ≡ whole) × IsIncreasing order left × IsIncreasing order right

put_first : {X : Type 0} (o : Option X) (l : List X) → cons_option o l ≡ cons_option o [] ++ l
put_first None l = refl
put_first (Some x) l = refl

module _ {K V : Type 0} where
  -- answers by the key alone, alike at each key
  answers_alike : (f g : K → Option (Change K V)) (m : List (K × V)) → AllKeys (λ k. f k ≡ g k) m → filter_map (λ e. f e.0) m ≡ filter_map (λ e. g e.0) m
  answers_alike f g [] h = refl
  answers_alike f g (e ∷ m) h = ap₂ cons_option h.0 (answers_alike f g m h.1)

  -- some changes more are out
  told : (out out' : List (Change K V)) (c m n whole : List (Change K V)) → out' ≡ out ++ c → m ≡ c ++ n → out ++ m ≡ whole → out' ++ n ≡ whole
  told out out' c m n whole is step h = ap (λ x. x ++ n) is ∙ append_assoc out c n ∙ ap (λ x. out ++ x) (sym step) ∙ h

  module _ {order : K → K → Ordering} (total : IsTotalOrder order) (exact : IsExact order) (eq : V → V → Bool) where
    -- behind the first entry of a list, nothing is looked up that is there
    skipped : (e : K × V) (a m : List (K × V)) → AllAbove order m e.0 → AllKeys (λ k. lookup order (e ∷ a) k ≡ lookup order a k) m
    skipped e a m h = AllKeys-map (λ k. order e.0 k ≡ Less) (λ k. lookup order (e ∷ a) k ≡ lookup order a k) (λ k is. ap (λ o. cond (is_eq o) (Some e.1) (lookup order a k)) is) m h

    changes_removed : (e : K × V) (a n : List (K × V)) → IsIncreasing order (e ∷ a) → AllAbove order n e.0 → union order (λ v _. v) (e ∷ a) n ≡ e ∷ union order (λ v _. v) a n
        → changes order eq (e ∷ a) n ≡ change.Removed e.0 e.1 ∷ changes order eq a n
    changes_removed e a n s above parts =
        let both = union order (λ v _. v) a n in
        let rest = skipped e a both (AllKeys-union total (λ v _. v) (λ k. order e.0 k ≡ Less) a n s.0 above) in
        ap (filter_map (λ x. change_at eq x.0 (lookup order (e ∷ a) x.0) (lookup order n x.0))) parts
        ∙ ap₂ (λ o p. cons_option (change_at eq e.0 o p) (filter_map (λ x. change_at eq x.0 (lookup order (e ∷ a) x.0) (lookup order n x.0)) both)) (first_found total e a) (lookup-all_greater total n e.0 above)
        ∙ ap (λ l. change.Removed e.0 e.1 ∷ l) (answers_alike (λ k. change_at eq k (lookup order (e ∷ a) k) (lookup order n k)) (λ k. change_at eq k (lookup order a k) (lookup order n k)) both
        (AllKeys-map (λ k. lookup order (e ∷ a) k ≡ lookup order a k) (λ k. change_at eq k (lookup order (e ∷ a) k) (lookup order n k) ≡ change_at eq k (lookup order a k) (lookup order n k)) (λ k is. ap (λ o. change_at eq k o (lookup order n k)) is) both rest))

    changes_added : (o : List (K × V)) (d : K × V) (b : List (K × V)) → IsIncreasing order (d ∷ b) → AllAbove order o d.0 → union order (λ v _. v) o (d ∷ b) ≡ d ∷ union order (λ v _. v) o b
        → changes order eq o (d ∷ b) ≡ change.Added d.0 d.1 ∷ changes order eq o b
    changes_added o d b t above parts =
        let both = union order (λ v _. v) o b in
        let rest = skipped d b both (AllKeys-union total (λ v _. v) (λ k. order d.0 k ≡ Less) o b above t.0) in
        ap (filter_map (λ x. change_at eq x.0 (lookup order o x.0) (lookup order (d ∷ b) x.0))) parts
        ∙ ap₂ (λ p q. cons_option (change_at eq d.0 p q) (filter_map (λ x. change_at eq x.0 (lookup order o x.0) (lookup order (d ∷ b) x.0)) both)) (lookup-all_greater total o d.0 above) (first_found total d b)
        ∙ ap (λ l. change.Added d.0 d.1 ∷ l) (answers_alike (λ k. change_at eq k (lookup order o k) (lookup order (d ∷ b) k)) (λ k. change_at eq k (lookup order o k) (lookup order b k)) both
        (AllKeys-map (λ k. lookup order (d ∷ b) k ≡ lookup order b k) (λ k. change_at eq k (lookup order o k) (lookup order (d ∷ b) k) ≡ change_at eq k (lookup order o k) (lookup order b k)) (λ k is. ap (λ p. change_at eq k (lookup order o k) p) is) both rest))

    changes_updated : (e d : K × V) (a b : List (K × V)) → IsIncreasing order (e ∷ a) → IsIncreasing order (d ∷ b) → order e.0 d.0 ≡ Equal
        → changes order eq (e ∷ a) (d ∷ b) ≡ cons_option (change_at eq e.0 (Some e.1) (Some d.1)) (changes order eq a b)
    changes_updated e d a b s t tie =
        let both = union order (λ v _. v) a b in
        let same : e.0 ≡ d.0 = exact e.0 d.0 tie in
        let high : AllAbove order b e.0 = subst (AllAbove order b) (sym same) t.0 in
        let above = AllKeys-union total (λ v _. v) (λ k. order e.0 k ≡ Less) a b s.0 high in
        let old = skipped e a both above in
        let new = skipped d b both (subst (AllAbove order both) same above) in
        ap (filter_map (λ x. change_at eq x.0 (lookup order (e ∷ a) x.0) (lookup order (d ∷ b) x.0))) (union-cons_equal total exact e d a b s t (λ v _. v) tie)
        ∙ ap₂ (λ o p. cons_option (change_at eq e.0 o p) (filter_map (λ x. change_at eq x.0 (lookup order (e ∷ a) x.0) (lookup order (d ∷ b) x.0)) both)) (first_found total e a) (lookup_middle total [] d.0 d.1 b e.0 t tie)
        ∙ ap (cons_option (change_at eq e.0 (Some e.1) (Some d.1)))
        (answers_alike (λ k. change_at eq k (lookup order (e ∷ a) k) (lookup order (d ∷ b) k)) (λ k. change_at eq k (lookup order a k) (lookup order (d ∷ b) k)) both
        (AllKeys-map (λ k. lookup order (e ∷ a) k ≡ lookup order a k) (λ k. change_at eq k (lookup order (e ∷ a) k) (lookup order (d ∷ b) k) ≡ change_at eq k (lookup order a k) (lookup order (d ∷ b) k)) (λ k is. ap (λ o. change_at eq k o (lookup order (d ∷ b) k)) is) both old)
        ∙ answers_alike (λ k. change_at eq k (lookup order a k) (lookup order (d ∷ b) k)) (λ k. change_at eq k (lookup order a k) (lookup order b k)) both
        (AllKeys-map (λ k. lookup order (d ∷ b) k ≡ lookup order b k) (λ k. change_at eq k (lookup order a k) (lookup order (d ∷ b) k) ≡ change_at eq k (lookup order a k) (lookup order b k)) (λ k is. ap (λ o. change_at eq k (lookup order a k) o) is) both new))

    -- one slice has come to its end: all others went, or came
    pub all_removed : (a : List (K × V)) → IsIncreasing order a → changes order eq a [] ≡ map (λ e. change.Removed e.0 e.1) a
    all_removed [] s = refl
    all_removed (e ∷ a) s = changes_removed e a [] s tt refl ∙ ap (λ l. change.Removed e.0 e.1 ∷ l) (all_removed a s.1)

    pub all_added : (b : List (K × V)) → IsIncreasing order b → changes order eq [] b ≡ map (λ e. change.Added e.0 e.1) b
    all_added [] t = refl
    all_added (d ∷ b) t =
        let parts = nil-union total exact (λ v _. v) (d ∷ b) t ∙ ap (λ l. d ∷ l) (sym (nil-union total exact (λ v _. v) b t.1)) in
        changes_added [] d b t tt parts ∙ ap (λ l. change.Added d.0 d.1 ∷ l) (all_added b t.1)

    module _ (e d : K × V) (a b left right : List (K × V)) (out out' whole : List (Change K V)) (left_is : left ≡ e ∷ a) (right_is : right ≡ d ∷ b) (here : Telling order eq out left right whole) where
      first : IsIncreasing order (e ∷ a)
      first = subst (IsIncreasing order) left_is here.1

      second : IsIncreasing order (d ∷ b)
      second = subst (IsIncreasing order) right_is here.2

      pub removed : order e.0 d.0 ≡ Less → out' ≡ out ++ change.Removed e.0 e.1 ∷ [] → Telling order eq out' a right whole
      removed less is =
          let above : AllAbove order (d ∷ b) e.0 = (less, below_all total e.0 d.0 b less second.0) in
          let step : changes order eq left right ≡ change.Removed e.0 e.1 ∷ changes order eq a right = rw (left_is, right_is) (changes_removed e a (d ∷ b) first above (union-cons_less total exact e d a b first second (λ v _. v) less)) in
          (told out out' (change.Removed e.0 e.1 ∷ []) (changes order eq left right) (changes order eq a right) whole is step here.0, first.1, here.2)

      pub added : order e.0 d.0 ≡ Greater → out' ≡ out ++ change.Added d.0 d.1 ∷ [] → Telling order eq out' left b whole
      added greater is =
          let less : order d.0 e.0 ≡ Less = lesser total e.0 d.0 greater in
          let above : AllAbove order (e ∷ a) d.0 = (less, below_all total d.0 e.0 a less first.0) in
          let step : changes order eq left right ≡ change.Added d.0 d.1 ∷ changes order eq left b = rw (left_is, right_is) (changes_added (e ∷ a) d b second above (union-cons_greater total exact e d a b first second (λ v _. v) greater)) in
          (told out out' (change.Added d.0 d.1 ∷ []) (changes order eq left right) (changes order eq left b) whole is step here.0, here.1, second.1)

      pub updated : order e.0 d.0 ≡ Equal → out' ≡ out ++ cons_option (change_at eq e.0 (Some e.1) (Some d.1)) [] → Telling order eq out' a b whole
      updated tie is =
          let change = change_at eq e.0 (Some e.1) (Some d.1) in
          let step : changes order eq left right ≡ cons_option change [] ++ changes order eq a b = rw (left_is, right_is) (changes_updated e d a b first second tie ∙ put_first change (changes order eq a b)) in
          (told out out' (cons_option change []) (changes order eq left right) (changes order eq a b) whole is step here.0, first.1, second.1)

    pub end_removed : (out whole : List (Change K V)) (left right : List (K × V)) → right ≡ [] → Telling order eq out left right whole → (out ++ map (λ e. change.Removed e.0 e.1) left) ++ map (λ e. change.Added e.0 e.1) right ≡ whole
    end_removed out whole left right is here =
        let h : out ++ changes order eq left [] ≡ whole = subst (λ r. out ++ changes order eq left r ≡ whole) is here.0 in
        rw is (append-nil (out ++ map (λ e. change.Removed e.0 e.1) left) ∙ ap (λ l. out ++ l) (sym (all_removed left here.1)) ∙ h)

    pub end_added : (out whole : List (Change K V)) (left right : List (K × V)) → left ≡ [] → Telling order eq out left right whole → (out ++ map (λ e. change.Removed e.0 e.1) left) ++ map (λ e. change.Added e.0 e.1) right ≡ whole
    end_added out whole left right is here =
        let h : out ++ changes order eq [] right ≡ whole = subst (λ l. out ++ changes order eq l right ≡ whole) is here.0 in
        rw is (ap (λ l. l ++ map (λ e. change.Added e.0 e.1) right) (append-nil out) ∙ ap (λ l. out ++ l) (sym (all_added right here.2)) ∙ h)
