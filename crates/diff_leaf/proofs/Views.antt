-- Entries with numbers, and the same with keys.
use Rattle.std.proofs.Common.{◌≡◌, ℕ, ◌+◌, zero, suc, List, [], ◌∷◌, ◌++◌, map, take, drop, take-append-drop, Some, sym, ap, ap₂, subst, ◌∙◌}
use Rattle.std.specs.List.{slice_get}
use Rattle.std.specs.Option.{option_map}
use Rattle.std.specs.Ordering.{nat_cmp}
use Rattle.std.proofs.lemmas.List.{take-map, drop-map, map-append}
use Rattle.std.proofs.lemmas.Option.{slice_get-map, none-some, same_Some}
use Rattle.map_model.specs.Entries.{AllKeys, IsIncreasing}
use Rattle.map_model.proofs.Keys.{AllKeys-append, AllKeys-front, AllKeys-back, IsIncreasing-front, IsIncreasing-back}
use Rattle.map_model.proofs.Cuts.{IsIncreasing-without}
use Rattle.diff_leaf.specs.Numbers.{key_entry, AreNumbers}

-- parts of entries
module _ {K V : Type 0} (key_of : ℕ → K) (es : List (ℕ × V)) where
  pub front_same : (at : ℕ) → map (key_entry key_of) (take at es) ≡ take at (map (key_entry key_of) es)
  front_same at = sym (take-map (key_entry key_of) at es)

  pub back_same : (at : ℕ) → map (key_entry key_of) (drop at es) ≡ drop at (map (key_entry key_of) es)
  back_same at = sym (drop-map (key_entry key_of) at es)

  pub without_same : (at : ℕ) → map (key_entry key_of) (take at es ++ drop (at + 1) es) ≡ take at (map (key_entry key_of) es) ++ drop (at + 1) (map (key_entry key_of) es)
  without_same at = map-append (key_entry key_of) (take at es) (drop (at + 1) es) ∙ ap₂ (λ l r. l ++ r) (front_same at) (back_same (at + 1))

  -- a number at a place is a key there
  pub placed : (i n : ℕ) (v : V) → slice_get es i ≡ Some (n, v) → slice_get (map (key_entry key_of) es) i ≡ Some (key_of n, v)
  placed i n v got = slice_get-map (key_entry key_of) es i ∙ ap (option_map (key_entry key_of)) got

-- numbers of keys in parts of entries
module _ {V : Type 0} (Fits : ℕ → Type 0) where
  pub fits_front : (at : ℕ) (es : List (ℕ × V)) → AllKeys Fits es → AllKeys Fits (take at es)
  fits_front at es a = AllKeys-front Fits (take at es) (drop at es) (subst (AllKeys Fits) (sym (take-append-drop at es)) a)

  pub fits_back : (at : ℕ) (es : List (ℕ × V)) → AllKeys Fits es → AllKeys Fits (drop at es)
  fits_back at es a = AllKeys-back Fits (take at es) (drop at es) (subst (AllKeys Fits) (sym (take-append-drop at es)) a)

  pub numbers_front : (at : ℕ) (es : List (ℕ × V)) → AreNumbers Fits es → AreNumbers Fits (take at es)
  numbers_front at es a = (IsIncreasing-front nat_cmp (take at es) (drop at es) (subst (IsIncreasing nat_cmp) (sym (take-append-drop at es)) a.0), fits_front at es a.1)

  pub numbers_back : (at : ℕ) (es : List (ℕ × V)) → AreNumbers Fits es → AreNumbers Fits (drop at es)
  numbers_back at es a = (IsIncreasing-back nat_cmp (take at es) (drop at es) (subst (IsIncreasing nat_cmp) (sym (take-append-drop at es)) a.0), fits_back at es a.1)

  pub numbers_without : (at : ℕ) (es : List (ℕ × V)) → AreNumbers Fits es → AreNumbers Fits (take at es ++ drop (at + 1) es)
  numbers_without at es a = (IsIncreasing-without nat_cmp at es a.0, AllKeys-append Fits (take at es) (drop (at + 1) es) (fits_front at es a.1) (fits_back (at + 1) es a.1))

  pub fits_at : (es : List (ℕ × V)) (i n : ℕ) (v : V) → AllKeys Fits es → slice_get es i ≡ Some (n, v) → Fits n
  fits_at [] i n v a got = absurd (none-some (n, v) got)
  fits_at (e ∷ es) zero n v a got = subst (λ (e : ℕ × V). Fits e.0) (same_Some e (n, v) got) a.0
  fits_at (e ∷ es) (suc i) n v a got = fits_at es i n v a.1 got
