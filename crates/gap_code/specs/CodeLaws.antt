-- Numbers that do not fall, one by one, and codes that part.
use Rattle.std.proofs.Common.{◌≡◌, ℕ, zero, suc, ◌<◌, ◌≤◌, List, [], ◌∷◌, ◌++◌, length, take, get_or, sym, ap, ◌∙◌, subst, arith}
use Rattle.gap_code.specs.Code.{last_key, NotFalling}

-- the number of an entry is not below that of the one before it
pub rises_at : {V : Type 0} (es : List (ℕ × V)) (before i : ℕ) (e : ℕ × V) → NotFalling before es → i < length es → e ≡ get_or es i e → last_key before (take i es) ≤ e.0
rises_at [] before i e n h is = absurd (omega arith)
rises_at {V} (x ∷ es) before zero e n h is = subst (λ (y : ℕ × V). before ≤ y.0) (sym is) n.0
rises_at (x ∷ es) before (suc i) e n h is = rises_at es x.0 i e n.1 (omega arith) is

-- of two different values that fit, the bytes of neither begin those of the other
pub prefix_free : {V : Type 0} (Fits : V → Type 0) (bytes : V → List ℕ) (value_at : List ℕ → V) → ((v : V) (others : List ℕ) → Fits v → value_at (bytes v ++ others) ≡ v)
    → (v w : V) (x y : List ℕ) → Fits v → Fits w → bytes v ++ x ≡ bytes w ++ y → v ≡ w
prefix_free Fits bytes value_at read_back v w x y f h is = sym (read_back v x f) ∙ ap value_at is ∙ read_back w y h
