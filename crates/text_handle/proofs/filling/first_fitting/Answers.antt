use Rattle.std.proofs.Common.{◌≡◌, ℕ, List, ◌∷◌, length, subst, sym, ap, ◌∙◌, arith}
use Rattle.std.specs.Prelude.{Result, Ok, IfOk}
use Rattle.text_handle.proofs.Fitting.{found_full, found_more, found_short}
use Rattle.text_handle.proofs.filling.first_fitting.Goals as goal
use Rattle.text_handle.proofs.filling.first_fitting.Goals.{then-len-places-via-then-len-places, then-len-places-via-else-len-places+then-len-left}

-- the entry that the iterator gave was the first of those that were left
first_left : {E R : Type 0} (left rest : List E) (given entry : E) (item : Result E R) → left ≡ given ∷ rest → IfOk item (λ share. share ≡ given) → item ≡ Ok entry → left ≡ entry ∷ rest
first_left left rest given entry item goes share was = goes ∙ ap (λ e. e ∷ rest) (sym (subst (λ r. IfOk r (λ e. e ≡ given)) was share))

pub returns-then-len-places : goal.returns-then-len-places
returns-then-len-places c =
    let (given, goes, share, _) = c.in-Some.ensures.steps in
    let left = first_left c.loop-entry.entry-iterator c.next.new.self given (c.in_ok-key.key, c.in_ok-key.val) c.in-Some.entry goes share c.in_ok-key.was in
    let long : length c.as_slice-len.result.now ≡ length c.in_ok-key.key = ap length c.as_slice-len.ensures in
    elim c.then-len-places.branch [
      | then-len-places-via-then-len-places w ↦ found_full _ _ _ _ _ c.loop-entry.invariant.fits (omega arith)
      | then-len-places-via-else-len-places+then-len-left w ↦ found_short _ _ _ _ _ _ _ c.loop-entry.invariant.fits left (omega arith)
    ]

pub loop-entry-preserved : goal.loop-entry-preserved
loop-entry-preserved c =
    let (given, goes, share, _) = c.in-Some.ensures.steps in
    let left = first_left c.loop-entry.entry-iterator c.next.new.self given (c.in_ok-key.key, c.in_ok-key.val) c.in-Some.entry goes share c.in_ok-key.was in
    let long : length c.as_slice-len.result.now ≡ length c.in_ok-key.key = ap length c.as_slice-len.ensures in
    record {
      fits = rw (c.as_slice-len.ensures, c.in_ok-push.ensures.items) (found_more _ _ _ _ _ _ _ c.loop-entry.invariant.fits left (omega arith) (omega arith));
      placed = omega arith;
    }
