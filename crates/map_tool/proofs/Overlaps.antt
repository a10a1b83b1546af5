-- Two maps that don't overlap: each key of the first is less than each key of the second.
use Rattle.std.proofs.Common.{◌≡◌, ℕ, ◌-◌, false, not, List, [], ◌∷◌, length, Some, refl, sym, ap, subst, ◌∙◌, nat_lt, arith}
use Rattle.std.specs.Prelude.{slice_get}
use Rattle.std.specs.Cmp.{nat_cmp_total}
use Rattle.std.specs.Ordering.{nat_cmp}
use Rattle.std.specs.declared.cmp.Ordering.TheVariants.{Less}
use Rattle.std.proofs.lemmas.Bool.{not-false, ltb-true}
use Rattle.map_model.specs.Entries.{AllAbove, IsBefore, IsIncreasing}
use Rattle.map_model.proofs.Keys.{AllKeys-all, below_all}
use Rattle.map_model.proofs.NatKeys.{less-nat_cmp}
use Rattle.map_tool.specs.Values.{ends_overlap, overlaps}

-- the last of some entries
some_last : (e : ℕ × ℕ) (a : List (ℕ × ℕ)) → (x : ℕ × ℕ) × (slice_get (e ∷ a) (length a) ≡ Some x)
some_last e [] = (e, refl)
some_last e (f ∷ a) = some_last f a

some_is : (x y : ℕ × ℕ) → Some x ≡ Some y → x ≡ y
some_is x y is = cc

-- keys above the last one are above all
before_ends : (e : ℕ × ℕ) (a b : List (ℕ × ℕ)) → IsIncreasing nat_cmp (e ∷ a) → (x : ℕ × ℕ) → slice_get (e ∷ a) (length a) ≡ Some x → AllAbove nat_cmp b x.0 → IsBefore nat_cmp (e ∷ a) b
before_ends e [] b s x is upper = (subst (λ (y : ℕ × ℕ). AllAbove nat_cmp b y.0) (sym (some_is e x is)) upper, tt)
before_ends e (f ∷ a) b s x is upper =
    let rest : IsBefore nat_cmp (f ∷ a) b = before_ends f a b s.1 x is upper in
    (below_all nat_cmp_total e.0 f.0 b s.0.0 rest.0, rest)

pub joins_before : (a b : List (ℕ × ℕ)) → IsIncreasing nat_cmp a → IsIncreasing nat_cmp b → overlaps a b ≡ false → IsBefore nat_cmp a b
joins_before [] b s t apart = tt
joins_before (e ∷ a) [] s t apart = AllKeys-all (λ k. AllAbove {V = ℕ} nat_cmp [] k) (λ k. tt) (e ∷ a)
joins_before (e ∷ a) (y ∷ b) s t apart =
    let last = some_last e a in
    let overlap : not (nat_lt last.0.0 y.0) ≡ false = subst (λ o. ends_overlap o (Some y) ≡ false) (ap (slice_get (e ∷ a)) {x = length (e ∷ a) - 1} {y = length a} (omega arith) ∙ last.1) apart in
    let less : nat_cmp last.0.0 y.0 ≡ Less = less-nat_cmp last.0.0 y.0 (ltb-true last.0.0 y.0 (not-false (nat_lt last.0.0 y.0) overlap)) in
    before_ends e a (y ∷ b) s last.0 last.1 (less, below_all nat_cmp_total last.0.0 y.0 b less t.0)
