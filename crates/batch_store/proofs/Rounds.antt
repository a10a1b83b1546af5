-- Lemmas on what the end of a round leaves.
use Rattle.std.proofs.Common.{◌≡◌, ℕ, zero, suc, ◌<◌, ◌≤◌, List, [], ◌∷◌, ◌++◌, length, map, take, get_or, inl, inr, refl, sym, ap, ◌∙◌, subst, arith, append_assoc}
use Rattle.std.specs.Prelude.{All, ◌⊎◌}
use Rattle.std.proofs.lemmas.List.{append-nil}
use Rattle.std.proofs.Math.Seq.{take-append_seam}
use Rattle.lanes.specs.Lane.{LaneId, Receiving}
use Rattle.version_root.specs.Public.{Entry, History, history, IsPrefix, Writing}
use Rattle.batch_store.specs.declared.submitted.Submitted.{Submitted}
use Rattle.batch_store.specs.Journal.{items_of, lanes_of, Below, IsTakenFrom, AreReceived}
use Rattle.batch_store.specs.Keeping.{Keeping, keeping, SameStore, Publishes, Postpones}
use Rattle.batch_store.specs.Calling.{Calling}
use Rattle.batch_store.specs.Hearing.{AreAt, AreHeard, HeardAll, HaveSeen}
use Rattle.batch_store.specs.Round.{AreCallersOf, AreSame, Kept, HasAllOf, AreTold, KeepsBatches, EndsRound, IsLast, sent_by}
use Rattle.batch_store.proofs.Taking.{items_of-append, received-turn}
use Rattle.batch_store.proofs.Heard.{count_is, at_now}
use Rattle.batch_store.proofs.Sums.{counts_all}

begins_along : {A : Type 0} → (front rest whole : List A) → whole ≡ front ++ rest → IsPrefix front whole
begins_along front rest whole e = record { is = ap (take (length front)) e ∙ take-append_seam front rest }

map_same : {A B : Type 0} → (f : A → B) (xs ys : List A) → length ys ≡ length xs → ((i : ℕ) (d : A) → i < length xs → f (get_or ys i d) ≡ f (get_or xs i d)) → map f ys ≡ map f xs
map_same f [] [] long same = refl
map_same f [] (y ∷ ys) long same = absurd (omega (arith, long))
map_same f (x ∷ xs) [] long same = absurd (omega (arith, long))
map_same {A} {B} f (x ∷ xs) (y ∷ ys) long same =
    ap (λ (z : B). z ∷ map f ys) (same 0 x (omega arith)) ∙ ap (λ (l : List B). f x ∷ l) (map_same f xs ys (omega (arith, long)) (λ i d h. same (suc i) d (omega (arith, h))))

pub whole_of : {A : Type 0} {j0 j2 p1 p2 : List A} → ((j2 ≡ j0) × (p2 ≡ p1)) ⊎ ((j2 ≡ j0 ++ p1) × (p2 ≡ [])) → j2 ++ p2 ≡ j0 ++ p1
whole_of {A} {j0} {j2} {p1} {p2} whole =
    elim whole [
      | inl q ↦ ap (λ (l : List A). l ++ p2) q.0 ∙ ap (λ (l : List A). j0 ++ l) q.1
      | inr q ↦ ap (λ (l : List A). j2 ++ l) q.1 ∙ append-nil j2 ∙ q.0
    ]

module _ {S O : Type 0} where
  pub told_none : (journal : List (Entry O)) (callers : List (Calling S O)) → AreTold journal callers callers
  told_none journal callers =
      record { count = refl; each = λ i e inside. record { same = record { number = refl; lane = refl; reader = record { root = refl; base = refl; number = refl } }; sent = refl; seen = inl refl } }

  pub told_same : (journal : List (Entry O)) (before after : List (Calling S O)) → after ≡ before → AreTold journal before after
  told_same journal before after e = subst (λ (l : List (Calling S O)). AreTold journal before l) (sym e) (told_none journal before)

  -- of each caller, the journal's entries, the pending ones and what its lane holds
  kept_of : (journal pending : List (Entry O)) (intakes : List (Receiving (Submitted O))) (callers : List (Calling S O))
      → length callers ≡ length intakes → AreReceived (journal ++ pending) intakes → AreHeard (length intakes) intakes callers
      → (i : ℕ) (d : Receiving (Submitted O)) (e : Calling S O) → i < length callers
      → (left : List (Submitted O))
      × ((get_or intakes i d).received ++ left ≡ (get_or callers i e).sent)
      × (items_of i journal ++ (items_of i pending ++ left) ≡ (get_or callers i e).sent)
  kept_of journal pending intakes callers long received heard i d e inside =
      let within : i < length intakes = omega (arith, long, inside) in
      let w = heard.each i d e within within in
      let r : items_of i journal ++ items_of i pending ≡ (get_or intakes i d).received = sym (items_of-append i journal pending) ∙ received.each i d within in (
        w.0,
        w.1,
        sym (append_assoc (items_of i journal) (items_of i pending) w.0) ∙ ap (λ (l : List (Submitted O)). l ++ w.0) r ∙ w.1,
      )

  -- the same callers stay those of the same store
  pub callers_stay : {store later : Keeping S O} {before after : List (Calling S O)} → SameStore store later → AreSame before after → AreCallersOf store before → AreCallersOf later after
  callers_stay {later = later} {before = before} {after = after} same still whose =
      record {
        at = subst (λ (l : List LaneId). AreAt l after) (sym same.lanes) (record {
          ends = map_same (λ (caller : Calling S O). caller.lane) before after still.count (λ i e h. (still.each i e h).lane) ∙ whose.at.ends;
          number = λ i e h. (still.each i e (omega (arith, h, still.count))).number ∙ whose.at.number i e (omega (arith, h, still.count));
        });
        root = λ k d h. (still.each k d (omega (arith, h, still.count))).reader.root ∙ whose.root k d (omega (arith, h, still.count)) ∙ sym same.root;
        base = λ k d h. (still.each k d (omega (arith, h, still.count))).reader.base ∙ whose.base k d (omega (arith, h, still.count)) ∙ sym same.base;
      }

  told_stay : (journal : List (Entry O)) (before after : List (Calling S O)) → AreTold journal before after → AreSame before after
  told_stay journal before after told = record { count = told.count; each = λ i e h. (told.each i e h).same }

  -- the end of a round, ended or refused
  module _ (w0 w2 : Writing S O) (i0 i1 : List (Receiving (Submitted O))) (p0 p1 p2 : List (Entry O)) (c0 c1 c2 : List (Calling S O))
      (self : Keeping S O) (view : keeping w0 i0 p0 ≡ self) (received : AreReceived (w0.journal ++ p0) i0) (callers_are : AreCallersOf self c0)
      (took : (taken : List (Entry O)) × (p1 ≡ p0 ++ taken) × IsTakenFrom taken i0 i1) (still : c1 ≡ c0) where
    whose : AreCallersOf (keeping w0 i0 p0) c0
    whose = subst (λ (v : Keeping S O). AreCallersOf v c0) (sym view) callers_are

    now_received : w2.journal ++ p2 ≡ w0.journal ++ p1 → AreReceived (w2.journal ++ p2) i1
    now_received whole = subst (λ (l : List (Entry O)). AreReceived l i1) (sym whole) (received-turn w0.journal p0 p1 i0 i1 received took)

    told_first : AreTold w2.journal c1 c2 → AreTold w2.journal c0 c2
    told_first told = subst (λ (l : List (Calling S O)). AreTold w2.journal l c2) still told

    at_first : AreAt (lanes_of i1) c0
    at_first = at_now i0 i1 c0 c0 took.2.lanes refl whose.at

    keeps_seen : AreHeard (length i0) i0 c0 → AreHeard (length i1) i1 c1 → (w2.root ≡ w0.root) × (w2.base ≡ w0.base) → w2.journal ++ p2 ≡ w0.journal ++ p1
        → AreTold w2.journal c1 c2 → KeepsBatches (keeping w0 i0 p0) (keeping w2 i1 p2) c0 c2
    keeps_seen before heard root whole told1 =
        let told : AreTold w2.journal c0 c2 = told_first told1 in
        let heard0 : AreHeard (length i1) i1 c0 = subst (λ (l : List (Calling S O)). AreHeard (length i1) i1 l) still heard in
        let now : AreReceived (w2.journal ++ p2) i1 = now_received whole in
        let long : length c0 ≡ length i1 = count_is i1 c0 at_first in
        record {
          same = record { root = root.0; base = root.1; lanes = took.2.lanes };
          callers_are = callers_stay (record { root = root.0; base = root.1; lanes = took.2.lanes }) (told_stay w2.journal c0 c2 told) whose;
          told_are = told;
          kept_before = record { each = kept_of w0.journal p0 i0 c0 (count_is i0 c0 whose.at) received before };
          kept = record {
            each = λ i d e inside.
                let within : i < length c0 = omega (arith, inside, told.count) in
                let w = kept_of w2.journal p2 i1 c0 long now heard0 i d e within in
                let sent : (get_or c2 i e).sent ≡ (get_or c0 i e).sent = (told.each i e within).sent in
                (w.0, w.1 ∙ sym sent, w.2 ∙ sym sent);
          };
          received = now;
        }

    pub keeps : AreHeard (length i0) i0 c0 → AreHeard (length i1) i1 c1 → (w2.root ≡ w0.root) × (w2.base ≡ w0.base) → w2.journal ++ p2 ≡ w0.journal ++ p1
        → AreTold w2.journal c1 c2 → KeepsBatches self (keeping w2 i1 p2) c0 c2
    keeps before heard root whole told1 =
        subst (λ (v : Keeping S O). KeepsBatches v (keeping w2 i1 p2) c0 c2) view (keeps_seen before heard root whole told1)

    ends_seen : HeardAll (length i1) i1 c1 → (w2.journal ≡ w0.journal ++ p1) × (p2 ≡ []) → AreTold w2.journal c1 c2
        → HaveSeen (length c1) w2.journal c1 × All (λ (caller : Calling S O). caller.reader.seen ≡ w2.journal) c2
        → EndsRound (keeping w0 i0 p0) (keeping w2 i1 p2) c0 c2
    ends_seen heard published told1 seen =
        let told : AreTold w2.journal c0 c2 = told_first told1 in
        let heard0 : HeardAll (length i1) i1 c0 = subst (λ (l : List (Calling S O)). HeardAll (length i1) i1 l) still heard in
        let seen0 : HaveSeen (length c0) w2.journal c0 = subst (λ (l : List (Calling S O)). HaveSeen (length l) w2.journal l) still seen.0 in
        let long : length c0 ≡ length i1 = count_is i1 c0 at_first in
        let now : AreReceived w2.journal i1 = subst (λ (l : List (Entry O)). AreReceived l i1) (sym published.0) (received-turn w0.journal p0 p1 i0 i1 received took) in
        let all : HasAllOf w2.journal c2 = record {
          each = λ i e inside.
              let within : i < length c0 = omega (arith, inside, told.count) in
              let d : Receiving (Submitted O) = record { lane = e.lane; received = e.sent } in
              let here : i < length i1 = omega (arith, within, long) in
              now.each i d here ∙ heard0.each i d e here here ∙ sym (told.each i e within).sent;
          below = subst (λ n. Below n w2.journal) (sym long ∙ sym told.count) now.below;
        } in
        record {
          publishes = record { taken = took.0; from = took.2; journal = published.0 ∙ ap (λ (l : List (Entry O)). w0.journal ++ l) took.1; pending = published.1 };
          begins = begins_along w0.journal p1 w2.journal published.0;
          all = all;
          count = counts_all w2.journal c2 all;
          had_seen = λ k d h. seen0.each k d h h;
          seen = seen.1;
        }

    pub ends : HeardAll (length i1) i1 c1 → (w2.journal ≡ w0.journal ++ p1) × (p2 ≡ []) → AreTold w2.journal c1 c2
        → HaveSeen (length c1) w2.journal c1 × All (λ (caller : Calling S O). caller.reader.seen ≡ w2.journal) c2
        → EndsRound self (keeping w2 i1 p2) c0 c2
    ends heard published told1 seen = subst (λ (v : Keeping S O). EndsRound v (keeping w2 i1 p2) c0 c2) view (ends_seen heard published told1 seen)

  -- the version of a round that has ended
  pub last_of : (before after : Keeping S O) (callers told : List (Calling S O)) (version : History S O)
      → KeepsBatches before after callers told → EndsRound before after callers told → version ≡ history after.base after.journal → IsLast before callers version
  last_of before after callers told version keeps ends is =
      let journal : version.journal ≡ after.journal = ap (λ (v : History S O). v.journal) is in
      let told_are : AreTold after.journal callers told = keeps.told_are in
      let all : HasAllOf after.journal callers = record {
        each = λ i e inside. ends.all.each i e (omega (arith, inside, told_are.count)) ∙ (told_are.each i e inside).sent;
        below = subst (λ n. Below n after.journal) told_are.count ends.all.below;
      } in
      record {
        base = ap (λ (v : History S O). v.base) is ∙ keeps.same.base;
        taken = ends.publishes.taken;
        journal = journal ∙ ends.publishes.journal;
        begins = subst (λ (l : List (Entry O)). IsPrefix before.journal l) (sym journal) ends.begins;
        all = subst (λ (l : List (Entry O)). HasAllOf l callers) (sym journal) all;
        count = ap length journal ∙ counts_all after.journal callers all;
        had_seen = subst (λ (l : List (Entry O)). All (λ (caller : Calling S O). IsPrefix caller.reader.seen l) callers) (sym journal) ends.had_seen;
      }
