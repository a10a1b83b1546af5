use Rattle.std.proofs.Common.{◌+◌, arith, sym, ap, subst, ◌∙◌, ◌∷◌, [], ◌++◌, length, map, take, drop, refl, take-append-drop}
use Rattle.std.proofs.lemmas.List.{take_all, take_more, length-map, length-take-le}
use Rattle.map_model.specs.Entries.{AllKeys, IsIncreasing}
use Rattle.map_model.proofs.Keys.{AllKeys-append, IsIncreasing-front}
use Rattle.diff_leaf.specs.Numbers.{key_entry, AreNumbers}
use Rattle.diff_leaf.proofs.Falling.{falling, last_rises}
use Rattle.diff_leaf.proofs.Joined.{joined_is, joined_rises}
use Rattle.diff_leaf.proofs.Orders.{numbers_rise}
use Rattle.diff_leaf.proofs.leaf.encode.Goals as goal

pub push-requires-clause-rises : goal.push-requires-clause-rises
push-requires-clause-rises g c =
    let from = c.args.from.now in
    let i = c.loop-entry.entry-index in
    let e = c.entry-item.result in
    let more = take_more from i e (omega arith) ∙ ap (λ x. take i from ++ x ∷ []) (sym c.entry-item.is) in
    let front = IsIncreasing-front g.K.Ord.cmp (take (i + 1) from) (drop (i + 1) from) (subst (IsIncreasing g.K.Ord.cmp) (sym (take-append-drop (i + 1) from)) c.requires.increasing) in
    let rises = joined_rises g.K.NumberKey.key_of c.loop-entry.gaps [] c.number.result e.1 (take i from) [] e.0 c.loop-entry.invariant.same refl c.number.ensures.key g.K.Ord.cmp g.met.K.NumberKey.ordered (subst (IsIncreasing g.K.Ord.cmp) more front) in
    last_rises c.loop-entry.gaps 0 (c.number.result, e.1) (falling _ rises)

pub push-requires-clause-short : goal.push-requires-clause-short
push-requires-clause-short g c =
    omega (arith, length-map c.loop-entry.gaps (key_entry g.K.NumberKey.key_of), ap length c.loop-entry.invariant.same, length-take-le c.loop-entry.entry-index c.args.from.now (omega arith), c.requires.short)

pub loop-entry-preserved : goal.loop-entry-preserved
loop-entry-preserved g c =
    let from = c.args.from.now in
    let i = c.loop-entry.entry-index in
    let e = c.entry-item.result in
    let Fits = g.K.NumberKey.fits_number in
    let key_of = g.K.NumberKey.key_of in
    let more = take_more from i e (omega arith) ∙ ap (λ x. take i from ++ x ∷ []) (sym c.entry-item.is) in
    record {
      same = ap (map (key_entry key_of)) c.in_ok-push.ensures.pushed ∙ joined_is key_of c.loop-entry.gaps [] c.number.result e.1 (take i from) [] e.0 c.loop-entry.invariant.same refl c.number.ensures.key ∙ sym more;
      fits = subst (AllKeys Fits) (sym c.in_ok-push.ensures.pushed) (AllKeys-append Fits c.loop-entry.gaps ((c.number.result, e.1) ∷ []) c.loop-entry.invariant.fits (c.number.ensures.fits, tt));
    }

pub returns-clause-numbers : goal.returns-clause-numbers
returns-clause-numbers g c =
    let Fits = g.K.NumberKey.fits_number in
    let whole = c.loop-entry.invariant.same ∙ take_all c.loop-entry.entry-index c.args.from.now (omega arith) in
    subst (AreNumbers Fits) (sym c.shrink_to_fit.ensures) (numbers_rise g.K.Ord.cmp g.K.NumberKey.key_of g.met.K.NumberKey.ordered c.loop-entry.gaps c.args.from.now whole c.requires.increasing, c.loop-entry.invariant.fits)
