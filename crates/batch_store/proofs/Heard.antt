-- Lemmas on lanes beside their callers.
use Rattle.std.proofs.Common.{◌≡◌, ◌≢◌, ℕ, ◌<◌, ◌+◌, List, [], ◌++◌, length, map, take, drop, get_or, inl, inr, refl, sym, ap, ◌∙◌, subst, arith, length-append}
use Rattle.std.proofs.lemmas.List.{append-nil, set-get_or, get_or_default, get_or-set_other, length-set, length-map, get_or-map}
use Rattle.std.proofs.lemmas.Bool.Decides.{eqb_tells}
use Rattle.std.proofs.lemmas.Grind.{get_or-set_at}
use Rattle.std.proofs.Math.ListN.{set}
use Rattle.std.proofs.Math.Seq.{take-append_seam}
use Rattle.lanes.specs.Lane.{LaneId, Receiving}
use Rattle.batch_store.specs.declared.submitted.Submitted.{Submitted}
use Rattle.version_root.specs.Public.{Entry}
use Rattle.batch_store.specs.Journal.{entry_of, items_of, lanes_of, Below, IsTakenFrom, AreReceived}
use Rattle.batch_store.proofs.Taking.{taken-turn, received-turn}
use Rattle.batch_store.specs.Calling.{Calling}
use Rattle.batch_store.specs.Hearing.{AreAt, AreHeard, HeardAll, HaveSeen}

seam : {A : Type 0} → (n : ℕ) (xs ys : List A) → n ≡ length xs → take n (xs ++ ys) ≡ xs
seam n xs ys e = rw e (take-append_seam xs ys)

pub put_back : {A : Type 0} → (xs : List A) (i : ℕ) (x r : A) → x ≡ get_or xs i r → set xs i x ≡ xs
put_back {A} xs i x r e = ap (λ (v : A). set xs i v) e ∙ set-get_or xs i r

module _ {S O : Type 0} where
  pub count_is : (intakes : List (Receiving (Submitted O))) (callers : List (Calling S O)) → AreAt (lanes_of intakes) callers → length callers ≡ length intakes
  count_is intakes callers at =
      sym (length-map callers (λ (caller : Calling S O). caller.lane)) ∙ ap length at.ends ∙ length-map intakes (λ (intake : Receiving (Submitted O)). intake.lane)

  -- the ends at one place are those of one lane
  pub lane_at : (intakes : List (Receiving (Submitted O))) (callers : List (Calling S O)) → AreAt (lanes_of intakes) callers
      → (i : ℕ) (d : Receiving (Submitted O)) (e : Calling S O) → i < length intakes → (get_or intakes i d).lane ≡ (get_or callers i e).lane
  lane_at intakes callers at i d e inside =
      let long : length callers ≡ length intakes = count_is intakes callers at in
      sym (get_or-map (λ (intake : Receiving (Submitted O)). intake.lane) intakes i d d.lane inside)
      ∙ ap (λ (l : List LaneId). get_or l i d.lane) (sym at.ends)
      ∙ get_or-map (λ (caller : Calling S O). caller.lane) callers i e d.lane (omega arith)

  heard_more : (intakes : List (Receiving (Submitted O))) (callers : List (Calling S O)) (i : ℕ) (r : Receiving (Submitted O)) (s : Calling S O)
      → length callers ≡ length intakes → i < length intakes → AreHeard i intakes callers
      → ((left : List (Submitted O)) × ((get_or intakes i r).received ++ left ≡ (get_or callers i s).sent))
      → AreHeard (i + 1) intakes callers
  heard_more intakes callers i r s long inside heard here =
      record {
        each = λ j d e below within.
            elim (eqb_tells i j) [
              | inl q ↦
                  let p : get_or intakes i r ≡ get_or intakes i d = get_or_default intakes i r d inside in
                  let t : get_or callers i s ≡ get_or callers i e = get_or_default callers i s e (omega arith) in
                  let f : (get_or intakes i d).received ++ here.0 ≡ (get_or callers i e).sent =
                  ap (λ (v : Receiving (Submitted O)). v.received ++ here.0) (sym p) ∙ here.1 ∙ ap (λ (v : Calling S O). v.sent) t in
                  (here.0, subst (λ n. (get_or intakes n d).received ++ here.0 ≡ (get_or callers n e).sent) q.1 f)
              | inr q ↦ let n : i ≢ j = q.1 in heard.each j d e (omega arith) within
            ];
      }

  -- one lane was looked at
  pub hear_step : (intakes0 intakes : List (Receiving (Submitted O))) (callers0 callers : List (Calling S O)) (i : ℕ) (y r : Receiving (Submitted O)) (z s : Calling S O)
      → AreAt (lanes_of intakes0) callers0
      → (intakes ≡ intakes0) × (callers ≡ callers0) × AreHeard i intakes callers
      → i < length intakes → y ≡ get_or intakes i r → z ≡ get_or callers i s
      → ((left : List (Submitted O)) × (y.received ++ left ≡ z.sent))
      → (set intakes i y ≡ intakes0) × (set callers i z ≡ callers0) × AreHeard (i + 1) (set intakes i y) (set callers i z)
  hear_step intakes0 intakes callers0 callers i y r z s at k inside yis zis gave =
      let a : set intakes i y ≡ intakes = put_back intakes i y r yis in
      let b : set callers i z ≡ callers = put_back callers i z s zis in
      let long : length callers ≡ length intakes = ap length k.1 ∙ count_is intakes0 callers0 at ∙ ap length (sym k.0) in
      let here : (get_or intakes i r).received ++ gave.0 ≡ (get_or callers i s).sent = ap (λ (v : Receiving (Submitted O)). v.received ++ gave.0) (sym yis) ∙ gave.1 ∙ ap (λ (v : Calling S O). v.sent) zis in (
        a ∙ k.0,
        b ∙ k.1,
        subst (λ (l : List (Receiving (Submitted O))). AreHeard (i + 1) l (set callers i z)) (sym a)
            (subst (λ (l : List (Calling S O)). AreHeard (i + 1) intakes l) (sym b) (heard_more intakes callers i r s long inside k.2 (gave.0, here))),
      )

  -- one lane gave all
  pub heard_set : (intakes : List (Receiving (Submitted O))) (callers : List (Calling S O)) (n i : ℕ) (y : Receiving (Submitted O)) (s : Calling S O)
      → length callers ≡ length intakes → i < length intakes → AreHeard n intakes callers → y.received ≡ (get_or callers i s).sent
      → AreHeard n (set intakes i y) callers
  heard_set intakes callers n i y s long inside heard all =
      record {
        each = λ j d e below within.
            let within' : j < length intakes = omega (arith, length-set intakes i y) in
            elim (eqb_tells i j) [
              | inl q ↦
                  let u : get_or (set intakes i y) j d ≡ y = get_or-set_at intakes i j y d (sym q.1) inside in
                  let t : get_or callers i s ≡ get_or callers i e = get_or_default callers i s e (omega arith) in
                  let v : get_or callers i e ≡ get_or callers j e = ap (λ (n : ℕ). get_or callers n e) q.1 in
                  ([], append-nil _ ∙ ap (λ (v : Receiving (Submitted O)). v.received) u ∙ all ∙ ap (λ (v : Calling S O). v.sent) (t ∙ v))
              | inr q ↦
                  let u : get_or (set intakes i y) j d ≡ get_or intakes j d = get_or-set_other intakes i j y d (λ z. q.1 (sym z)) in
                  let f = heard.each j d e below within' in
                  (f.0, ap (λ (v : Receiving (Submitted O)). v.received ++ f.0) u ∙ f.1)
            ];
      }

  pub all_set : (intakes : List (Receiving (Submitted O))) (callers : List (Calling S O)) (i : ℕ) (y : Receiving (Submitted O)) (s : Calling S O)
      → length callers ≡ length intakes → i < length intakes → HeardAll i intakes callers → y.received ≡ (get_or callers i s).sent
      → HeardAll (i + 1) (set intakes i y) callers
  all_set intakes callers i y s long inside heard all =
      record {
        each = λ j d e below within.
            let within' : j < length intakes = omega (arith, length-set intakes i y) in
            elim (eqb_tells i j) [
              | inl q ↦
                  let u : get_or (set intakes i y) j d ≡ y = get_or-set_at intakes i j y d (sym q.1) inside in
                  let t : get_or callers i s ≡ get_or callers i e = get_or_default callers i s e (omega arith) in
                  let v : get_or callers i e ≡ get_or callers j e = ap (λ (n : ℕ). get_or callers n e) q.1 in
                  ap (λ (v : Receiving (Submitted O)). v.received) u ∙ all ∙ ap (λ (v : Calling S O). v.sent) (t ∙ v)
              | inr q ↦
                  let u : get_or (set intakes i y) j d ≡ get_or intakes j d = get_or-set_other intakes i j y d (λ z. q.1 (sym z)) in
                  let n : i ≢ j = q.1 in
                  ap (λ (v : Receiving (Submitted O)). v.received) u ∙ heard.each j d e (omega arith) within'
            ];
      }

pub counted : {X : Type 0} → (r0 left s0 r1 items s1 : List X) → r0 ++ left ≡ s0 → s1 ≡ s0 → r1 ≡ s1 → r1 ≡ r0 ++ items → length items ≡ length left
counted r0 left s0 r1 items s1 p q r t =
    let e : r0 ++ items ≡ r0 ++ left = sym t ∙ r ∙ q ∙ sym p in
    omega (arith, ap length e, length-append r0 items, length-append r0 left)

module _ {S O : Type 0} where
  -- whose lanes they are stays so while the lanes are taken from
  pub at_now : (intakes0 intakes : List (Receiving (Submitted O))) (callers0 callers : List (Calling S O))
      → lanes_of intakes ≡ lanes_of intakes0 → callers ≡ callers0 → AreAt (lanes_of intakes0) callers0 → AreAt (lanes_of intakes) callers
  at_now intakes0 intakes callers0 callers lanes same at =
      subst (λ (l : List LaneId). AreAt l callers) (sym lanes) (subst (λ (l : List (Calling S O)). AreAt (lanes_of intakes0) l) (sym same) at)

  -- one lane gave something
  pub collect_turn : (intakes0 intakes : List (Receiving (Submitted O))) (callers : List (Calling S O)) (i : ℕ) (y r : Receiving (Submitted O)) (s : Calling S O) (p0 p1 p2 : List (Entry O))
      → AreAt (lanes_of intakes) callers
      → ((taken : List (Entry O)) × (p1 ≡ p0 ++ taken) × IsTakenFrom taken intakes0 intakes)
      → i < length intakes → y.lane ≡ (get_or intakes i r).lane
      → ((items : List (Submitted O)) × (y.received ≡ (get_or intakes i r).received ++ items) × (p2 ≡ p1 ++ map (entry_of (get_or callers i s).number) items))
      → (taken : List (Entry O)) × (p2 ≡ p0 ++ taken) × IsTakenFrom taken intakes0 (set intakes i y)
  collect_turn intakes0 intakes callers i y r s p0 p1 p2 at took inside lane gave =
      let long : length callers ≡ length intakes = count_is intakes callers at in
      let number : (get_or callers i s).number ≡ i = at.number i s (omega arith) in
      taken-turn intakes0 intakes i y r p0 p1 p2 took inside lane
      (gave.0, gave.1, subst (λ n. p2 ≡ p1 ++ map (entry_of n) gave.0) number gave.2)

  -- one lane gave nothing
  pub heard_still : (intakes : List (Receiving (Submitted O))) (callers : List (Calling S O)) (i : ℕ) (y r : Receiving (Submitted O)) (z s : Calling S O)
      → y ≡ get_or intakes i r → z ≡ get_or callers i s → AreHeard (length intakes) intakes callers → AreHeard (length (set intakes i y)) (set intakes i y) (set callers i z)
  heard_still intakes callers i y r z s same still heard =
      subst (λ (l : List (Receiving (Submitted O))). AreHeard (length l) l (set callers i z)) (sym (put_back intakes i y r same))
      (subst (λ (l : List (Calling S O)). AreHeard (length intakes) intakes l) (sym (put_back callers i z s still)) heard)

  -- one lane gave all that its caller sent
  pub collect_step : (intakes0 intakes : List (Receiving (Submitted O))) (callers0 callers : List (Calling S O)) (i : ℕ) (y r : Receiving (Submitted O)) (z s : Calling S O) (p0 p1 p2 : List (Entry O))
      → AreAt (lanes_of intakes0) callers0
      → (callers ≡ callers0) × ((taken : List (Entry O)) × (p1 ≡ p0 ++ taken) × IsTakenFrom taken intakes0 intakes) × AreHeard (length intakes) intakes callers × HeardAll i intakes callers
      → i < length intakes → y.lane ≡ (get_or intakes i r).lane → z ≡ get_or callers i s
      → ((items : List (Submitted O)) × (y.received ≡ (get_or intakes i r).received ++ items) × (p2 ≡ p1 ++ map (entry_of (get_or callers i s).number) items))
      → y.received ≡ (get_or callers i s).sent
      → (set callers i z ≡ callers0) × ((taken : List (Entry O)) × (p2 ≡ p0 ++ taken) × IsTakenFrom taken intakes0 (set intakes i y)) × AreHeard (length (set intakes i y)) (set intakes i y) (set callers i z) × HeardAll (i + 1) (set intakes i y) (set callers i z)
  collect_step intakes0 intakes callers0 callers i y r z s p0 p1 p2 at k inside lane zis gave all =
      let now : AreAt (lanes_of intakes) callers = at_now intakes0 intakes callers0 callers k.1.2.lanes k.0 at in
      let long : length callers ≡ length intakes = count_is intakes callers now in
      let b : set callers i z ≡ callers = put_back callers i z s zis in (
        b ∙ k.0,
        collect_turn intakes0 intakes callers i y r s p0 p1 p2 now k.1 inside lane gave,
        subst (λ n. AreHeard n (set intakes i y) (set callers i z)) (sym (length-set intakes i y))
            (subst (λ (l : List (Calling S O)). AreHeard (length intakes) (set intakes i y) l) (sym b) (heard_set intakes callers (length intakes) i y s long inside k.2 all)),
        subst (λ (l : List (Calling S O)). HeardAll (i + 1) (set intakes i y) l) (sym b) (all_set intakes callers i y s long inside k.3 all),
      )

-- a slice that was lent by a `Vec` is what the `Vec` has afterwards
pub lent_back : {A : Type 0} → (n : ℕ) (items lent new : List A) → lent ≡ items → n ≡ length items → length new ≡ length lent → take n (new ++ drop (length new) items) ≡ new
lent_back n items lent new same long count = seam n new (drop (length new) items) (omega (arith, ap length same))
