-- What holds of each key still holds after puts and removals.
use Rattle.std.proofs.Common.{◌≡◌, ℕ, ◌+◌, ◌<◌, List, [], ◌∷◌, ◌++◌, length, map, get_or, take, sym, ap, ◌∙◌}
use Rattle.std.specs.declared.cmp.Ordering.{Ordering}
use Rattle.std.specs.Ordering.{is_ne}
use Rattle.std.proofs.lemmas.List.{map-append, take_more}
use Rattle.aug_monoid.specs.declared.pair64.Pair64.{Pair64}
use Rattle.map_model.specs.Entries.{AllKeys, set, drop_key}
use Rattle.map_model.specs.Operations.{after, dels, puts}
use Rattle.map_model.proofs.Keys.{AllKeys-append, AllKeys-filter}
use Rattle.map_model.proofs.Splits.{AllKeys-set}
use Rattle.range_tree.specs.declared.points.Point.{Point}
use Rattle.range_tree.specs.Places.{IsPlace}
use Rattle.range_tree.specs.Points.{entry_of}

module _ {K V : Type 0} (order : K → K → Ordering) (P : K → Type 0) where
  pub all_after_puts : (pairs m : List (K × V)) → AllKeys P m → AllKeys P pairs → AllKeys P (after order m (puts pairs))
  all_after_puts [] m a p = a
  all_after_puts (e ∷ pairs) m a p = all_after_puts pairs (set order m e.0 e.1) (AllKeys-set order P m e.0 e.1 a p.0) p.1

  pub all_after_dels : (keys : List K) (m : List (K × V)) → AllKeys P m → AllKeys P (after order m (dels keys))
  all_after_dels [] m a = a
  all_after_dels (k ∷ keys) m a = all_after_dels keys (drop_key order m k) (AllKeys-filter P (λ e. is_ne (order e.0 k)) m a)

-- ---- one point more

pub entries_more : (points : List Point) (i : ℕ) (p : Point) → i < length points → p ≡ get_or points i p → map entry_of (take (i + 1) points) ≡ map entry_of (take i points) ++ entry_of p ∷ []
entries_more points i p h is = ap (map entry_of) (take_more points i p h ∙ ap (λ x. take i points ++ x ∷ []) (sym is)) ∙ map-append entry_of (take i points) (p ∷ [])

pub places_more : (m : List (Pair64 × ℕ)) (e : Pair64 × ℕ) → AllKeys IsPlace m → IsPlace e.0 → AllKeys IsPlace (m ++ e ∷ [])
places_more m e a p = AllKeys-append IsPlace m (e ∷ []) a (p, tt)
