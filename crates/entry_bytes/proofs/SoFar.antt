-- What has been read so far, and what is at fault next.
use Rattle.std.proofs.Common.{◌≡◌, ℕ, ◌+◌, ◌-◌, ◌*◌, ◌^◌, ◌<◌, ◌≤◌, ◌⊎◌, List, [], ◌∷◌, ◌++◌, length, drop, refl, sym, subst, ap, ◌∙◌, arith, inl, inr, length-append, length-drop}
use Rattle.gap_code.specs.Code.{last_key}
use Rattle.gap_code.specs.Leb.{leb}
use Rattle.entry_bytes.specs.declared.fault.DecodeFault.{DecodeFault}
use Rattle.entry_bytes.specs.declared.fault.DecodeFault.TheVariants.{Short, Order}
use Rattle.entry_bytes.specs.Faults.{IsNumberFault, IsCountFault, IsCrowded, IsBegun, least_gap, IsBehindGap, IsEntryFault, IsEntriesFault}
use Rattle.entry_bytes.specs.Format.{header}
use Rattle.entry_bytes.specs.Reads.{IsRead, IsEntry, AreRead}
use Rattle.entry_bytes.proofs.Begun.{begun_first, begun_next}
use Rattle.entry_bytes.proofs.Codes.{last_key-push}

-- the number of entries
pub count_read : (bytes : List ℕ) (at count after : ℕ) → bytes ≡ header ++ drop at bytes → IsRead bytes at count after → 2 * count + 4 ≤ length bytes - after → IsBegun bytes count [] (drop after bytes)
count_read bytes at count after h r room =
    begun_first bytes count (drop after bytes) (h ∙ ap (λ t. header ++ t) r.is) r.fits (omega (arith, length-drop after bytes))

pub count_fault : (bytes : List ℕ) (at : ℕ) (fault : DecodeFault) → bytes ≡ header ++ drop at bytes → IsNumberFault fault (drop at bytes) → IsCountFault fault bytes
count_fault bytes at fault h f = record { rest = drop at bytes; is = h; next = inl f }

pub count_crowded : (bytes : List ℕ) (at count after : ℕ) → bytes ≡ header ++ drop at bytes → IsRead bytes at count after → length bytes - after < 2 * count + 4 → IsCountFault Short bytes
count_crowded bytes at count after h r few =
    let crowd : IsCrowded Short (drop at bytes) = record { count = count; others = drop after bytes; fits = r.fits; is = r.is; few = omega (arith, length-drop after bytes); short = refl } in
    record { rest = drop at bytes; is = h; next = inr crowd }

-- an entry
pub order_fault : (bytes : List ℕ) (at last least gap after : ℕ) → IsRead bytes at gap after → (gap < least) ⊎ (2 ^ 64 ≤ last + gap) → IsEntryFault last least Order (drop at bytes)
order_fault bytes at last least gap after r bad =
    let behind : IsBehindGap last least Order (drop at bytes) = record { gap = gap; others = drop after bytes; fits = r.fits; is = r.is; next = inl (bad, refl) } in
    inr behind

pub val_fault : (bytes : List ℕ) (at last least gap after : ℕ) (fault : DecodeFault) → IsRead bytes at gap after → least ≤ gap → last + gap < 2 ^ 64 → IsNumberFault fault (drop after bytes) → IsEntryFault last least fault (drop at bytes)
val_fault bytes at last least gap after fault r enough fits f =
    let behind : IsBehindGap last least fault (drop at bytes) = record { gap = gap; others = drop after bytes; fits = r.fits; is = r.is; next = inr (enough, fits, f) } in
    inr behind

pub entry_read : (bytes : List ℕ) (at last least gap between val after : ℕ) → IsRead bytes at gap between → IsRead bytes between val after → least ≤ gap → last + gap < 2 ^ 64 → IsEntry bytes at last least (last + gap) val after
entry_read bytes at last least gap between val after g v enough fits =
    record { gap = gap; enough = enough; key_is = refl; key_fits = fits; val_fits = v.fits; is = g.is ∙ ap (λ t. leb gap ++ t) v.is; within = v.within }

-- entries: so many have been read
pub record AreReadSoFar (bytes : List ℕ) (count after last least index : ℕ) (entries : List (ℕ × ℕ)) : Type 0 where
  pub begun : IsBegun bytes count entries (drop after bytes)
  pub within : after ≤ length bytes
  pub last_is : last ≡ last_key 0 entries
  pub least_is : least ≡ least_gap entries
  pub index_is : length entries ≡ index

pub so_far_first : (bytes : List ℕ) (count at : ℕ) (entries : List (ℕ × ℕ)) → IsBegun bytes count [] (drop at bytes) → at ≤ length bytes → entries ≡ [] → AreReadSoFar bytes count at 0 0 0 entries
so_far_first bytes count at entries b within none =
    record {
      begun = subst (λ (t : List (ℕ × ℕ)). IsBegun bytes count t (drop at bytes)) (sym none) b;
      within = within;
      last_is = sym (ap (last_key 0) none);
      least_is = sym (ap least_gap none);
      index_is = ap length none;
    }

least-push : (entries : List (ℕ × ℕ)) (e : ℕ × ℕ) → 1 ≡ least_gap (entries ++ e ∷ [])
least-push [] e = refl
least-push (d ∷ entries) e = refl

pub so_far_next : (bytes : List ℕ) (count at last least index : ℕ) (entries more : List (ℕ × ℕ)) (key val after : ℕ) → AreReadSoFar bytes count at last least index entries → index < count
    → IsEntry bytes at last least key val after → more ≡ entries ++ (key, val) ∷ [] → AreReadSoFar bytes count after key 1 (index + 1) more
so_far_next bytes count at last least index entries more key val after s left e is =
    let enough : least_gap entries ≤ e.gap = omega (arith, e.enough, s.least_is) in
    let key_is : key ≡ last_key 0 entries + e.gap = omega (arith, e.key_is, s.last_is) in
    let next = begun_next bytes count entries (drop at bytes) e.gap key val (drop after bytes) s.begun (omega (arith, s.index_is)) enough key_is e.key_fits e.val_fits e.is in
    record {
      begun = subst (λ (t : List (ℕ × ℕ)). IsBegun bytes count t (drop after bytes)) (sym is) next;
      within = e.within;
      last_is = sym (ap (last_key 0) is ∙ last_key-push entries 0 key val);
      least_is = least-push entries (key, val) ∙ sym (ap least_gap is);
      index_is = ap length is ∙ length-append entries ((key, val) ∷ []) ∙ omega (arith, s.index_is);
    }

pub so_far_all : (bytes : List ℕ) (count after last least index : ℕ) (entries : List (ℕ × ℕ)) → AreReadSoFar bytes count after last least index entries → count ≤ index → AreRead bytes count after entries
so_far_all bytes count after last least index entries s past =
    let b = s.begun in
    record { begun = s.begun; within = s.within; all = omega (arith, s.index_is, b.within) }

pub so_far_fault : (bytes : List ℕ) (count after last least index : ℕ) (entries : List (ℕ × ℕ)) (fault : DecodeFault) → AreReadSoFar bytes count after last least index entries → index < count → IsEntryFault last least fault (drop after bytes) → IsEntriesFault fault bytes
so_far_fault bytes count after last least index entries fault s left f =
    record {
      count = count;
      entries = entries;
      rest = drop after bytes;
      begun = s.begun;
      left = omega (arith, s.index_is);
      next = subst (λ (n : ℕ). IsEntryFault n (least_gap entries) fault (drop after bytes)) s.last_is (subst (λ (n : ℕ). IsEntryFault last n fault (drop after bytes)) s.least_is f);
    }
