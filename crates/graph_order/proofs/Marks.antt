-- Marks of vertices.
use Rattle.std.proofs.Common.{◌≡◌, ◌∙◌, ◌==◌, ℕ, Bool, true, false, cond, List, Some, refl, sym, ap, subst}
use Rattle.std.specs.Ordering.{is_eq, nat_cmp}
use Rattle.std.proofs.lemmas.Bool.{false≢true}
use Rattle.std.proofs.lemmas.Cmp.{nat_cmp_total, tied_itself}
use Rattle.std.proofs.lemmas.Map.Views.{exact_unsigned_eq}
use Rattle.map_model.specs.Entries.{lookup, set}
use Rattle.map_model.proofs.Lookups.{lookup-set}
use Rattle.map_model.proofs.NatKeys.{is_eq-nat_cmp, nat_exact}

pub same_itself : (k : ℕ) → (k == k) ≡ true
same_itself k = sym (is_eq-nat_cmp k k) ∙ ap is_eq (tied_itself nat_cmp_total k)

-- two vertices are the same or not
pub by_same : {P : Type 0} (k q : ℕ) → (k ≡ q → P) → (¬ (k ≡ q) → P) → P
by_same {P} k q same other = go (k == q) refl
  where
    go : (b : Bool) → (k == q) ≡ b → P
    go true e = same (exact_unsigned_eq k q e)
    go false e = other (λ is. false≢true (sym e ∙ subst (λ x. (k == x) ≡ true) is (same_itself k)))

module _ {V : Type 0} (marks : List (ℕ × V)) (k : ℕ) (v : V) where
  pub marked_here : lookup nat_cmp (set nat_cmp marks k v) k ≡ Some v
  marked_here = lookup-set nat_cmp_total nat_exact marks k v k ∙ ap (λ o. cond (is_eq o) (Some v) (lookup nat_cmp marks k)) (tied_itself nat_cmp_total k)

  pub marked_elsewhere : (q : ℕ) → ¬ (k ≡ q) → lookup nat_cmp (set nat_cmp marks k v) q ≡ lookup nat_cmp marks q
  marked_elsewhere q other = lookup-set nat_cmp_total nat_exact marks k v q ∙ go (is_eq (nat_cmp k q)) refl
    where
      go : (b : Bool) → is_eq (nat_cmp k q) ≡ b → cond b (Some v) (lookup nat_cmp marks q) ≡ lookup nat_cmp marks q
      go true e = absurd (other (exact_unsigned_eq k q (sym (is_eq-nat_cmp k q) ∙ e)))
      go false e = refl
