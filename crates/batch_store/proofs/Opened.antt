-- Lemmas on lanes and callers as they are made.
use Rattle.std.proofs.Common.{◌≡◌, ◌≢◌, ℕ, zero, suc, ◌<◌, ◌≤◌, List, [], ◌∷◌, ◌++◌, length, map, get_or, inl, inr, refl, sym, ap, ◌∙◌, subst, arith, Some, slice_get, length-append}
use Rattle.std.specs.Prelude.{All}
use Rattle.std.proofs.lemmas.List.{append-nil, map-append, get_or_push, get_or_append_left, length-map, get_or-map}
use Rattle.std.proofs.lemmas.List.Elements.{All-nil, All-append}
use Rattle.std.proofs.lemmas.Option.{get_or_from_slice_get}
use Rattle.std.proofs.lemmas.Bool.Decides.{eqb_tells}
use Rattle.version_root.specs.Public.{Entry, Reading, Writing, IsStart, fresh_reader}
use Rattle.lanes.specs.Lane.{LaneId, Receiving}
use Rattle.batch_store.specs.declared.submitted.Submitted.{Submitted}
use Rattle.batch_store.specs.Journal.{items_of, lanes_of, Below, AreReceived}
use Rattle.batch_store.specs.Keeping.{Keeping, keeping}
use Rattle.batch_store.specs.Calling.{Calling}
use Rattle.batch_store.specs.Hearing.{AreAt, AreConnected}
use Rattle.batch_store.specs.Round.{AreCallersOf, IsNewStore}
use Rattle.batch_store.proofs.Taking.{items_of-nil}
use Rattle.batch_store.proofs.Heard.{count_is}

one : {A : Type 0} → (P : A → Type 0) (x : A) → P x → All P (x ∷ [])
one P x h zero d inside = h
one P x h (suc k) d inside = absurd (omega (arith, inside))

module _ {O : Type 0} where
  -- no entry, and nothing received
  pub none_received : (intakes : List (Receiving (Submitted O))) → length intakes ≤ 64 → All (λ (i : Receiving (Submitted O)). i.received ≡ []) intakes → AreReceived [] intakes
  none_received intakes few none =
      record { few = few; below = All-nil _; each = λ i d h. items_of-nil i ∙ sym (none i d h) }

module _ {S O : Type 0} where
  pub connected_none : AreConnected {S = S} {O = O} [] [] []
  connected_none =
      record { at = record { ends = refl; number = λ i e h. absurd (omega arith) }; readers_are = refl; none_received = All-nil _; none_sent = All-nil _ }

  -- one more caller
  pub connected_more : (readers : List (Reading S O)) (intakes : List (Receiving (Submitted O))) (callers : List (Calling S O)) (n : ℕ) (lane : LaneId) (reader : Reading S O)
      → n ≡ length callers → AreConnected readers intakes callers
      → AreConnected (readers ++ reader ∷ []) (intakes ++ (record { lane = lane; received = [] }) ∷ []) (callers ++ (record { number = n; lane = lane; sent = []; reader = reader }) ∷ [])
  connected_more readers intakes callers n lane reader count k =
      let caller : Calling S O = record { number = n; lane = lane; sent = []; reader = reader } in
      let intake : Receiving (Submitted O) = record { lane = lane; received = [] } in
      record {
        at = record {
          ends = map-append (λ (c : Calling S O). c.lane) callers (caller ∷ [])
              ∙ ap (λ (l : List LaneId). l ++ lane ∷ []) k.at.ends
              ∙ sym (map-append (λ (i : Receiving (Submitted O)). i.lane) intakes (intake ∷ []));
          number = λ i e h.
              elim (eqb_tells (length callers) i) [
                | inl q ↦ ap (λ (c : Calling S O). c.number) (get_or_push callers caller e i q.1) ∙ count ∙ q.1
                | inr q ↦
                    let other : length callers ≢ i = q.1 in
                    let inside : i < length callers = omega (arith, h, other, length-append callers (caller ∷ [])) in
                    ap (λ (c : Calling S O). c.number) (get_or_append_left callers (caller ∷ []) e i inside) ∙ k.at.number i e inside
              ];
        };
        readers_are = map-append (λ (c : Calling S O). c.reader) callers (caller ∷ []) ∙ ap (λ (l : List (Reading S O)). l ++ reader ∷ []) k.readers_are;
        none_received = All-append (λ (i : Receiving (Submitted O)). i.received ≡ []) intakes (intake ∷ []) k.none_received (one (λ (i : Receiving (Submitted O)). i.received ≡ []) intake refl);
        none_sent = All-append (λ (c : Calling S O). c.sent ≡ []) callers (caller ∷ []) k.none_sent (one (λ (c : Calling S O). c.sent ≡ []) caller refl);
      }

  pub connected_step : (readers : List (Reading S O)) (intakes intakes2 : List (Receiving (Submitted O))) (callers callers2 : List (Calling S O)) (n : ℕ) (reader : Reading S O)
      → n ≡ length callers → AreConnected readers intakes callers
      → ((lane : LaneId) × (intakes2 ≡ intakes ++ (record { lane = lane; received = [] }) ∷ []) × (callers2 ≡ callers ++ (record { number = n; lane = lane; sent = []; reader = reader }) ∷ []))
      → AreConnected (readers ++ reader ∷ []) intakes2 callers2
  connected_step readers intakes intakes2 callers callers2 n reader count k made =
      subst (λ (l : List (Receiving (Submitted O))). AreConnected (readers ++ reader ∷ []) l callers2) (sym made.1)
      (subst (λ (l : List (Calling S O)). AreConnected (readers ++ reader ∷ []) (intakes ++ (record { lane = made.0; received = [] }) ∷ []) l) (sym made.2)
      (connected_more readers intakes callers n made.0 reader count k))

  -- there are as many callers as readers
  pub few_left : (readers : List (Reading S O)) (callers : List (Calling S O)) → map (λ (c : Calling S O). c.reader) callers ≡ readers → length callers ≡ length readers
  few_left readers callers e = sym (length-map callers (λ (c : Calling S O). c.reader)) ∙ ap length e

  -- a new store
  pub new_store : (base : S) (count : ℕ) (writer : Writing S O) (readers : List (Reading S O)) (intakes : List (Receiving (Submitted O))) (callers : List (Calling S O))
      → IsStart base count writer readers → AreConnected readers intakes callers → IsNewStore base count (keeping writer intakes []) callers
  new_store base count writer readers intakes callers start k =
      let long : length callers ≡ length readers = few_left readers callers k.readers_are in
      let reader_at : (i : ℕ) (e : Calling S O) → i < length callers → (get_or callers i e).reader ≡ fresh_reader writer.root base i = λ i e h.
      let here : slice_get readers i ≡ Some (fresh_reader writer.root base i) = start.each_reader i (omega (arith, h, long, start.count_is)) in
      let there : get_or readers i e.reader ≡ fresh_reader writer.root base i = get_or_from_slice_get readers i (fresh_reader writer.root base i) e.reader here in
      sym (get_or-map (λ (c : Calling S O). c.reader) callers i e e.reader h) ∙ ap (λ (l : List (Reading S O)). get_or l i e.reader) k.readers_are ∙ there in
      record {
        base_is = start.base_is;
        journal = start.journal_is;
        pending = refl;
        count_is = long ∙ start.count_is;
        callers_are = record {
          at = k.at;
          root = λ i e h. ap (λ (r : Reading S O). r.root) (reader_at i e h);
          base = λ i e h. ap (λ (r : Reading S O). r.base) (reader_at i e h) ∙ sym start.base_is;
        };
        fresh = λ i e h. (k.none_sent i e h, reader_at i e h);
      }

  -- the same, with what the store holds
  pub new_store_with : (base : S) (count : ℕ) (writer : Writing S O) (readers : List (Reading S O)) (intakes held : List (Receiving (Submitted O))) (pending : List (Entry O)) (callers : List (Calling S O))
      → IsStart base count writer readers → AreConnected readers intakes callers → held ≡ intakes → pending ≡ [] → IsNewStore base count (keeping writer held pending) callers
  new_store_with base count writer readers intakes held pending callers start k same none =
      subst (λ (l : List (Entry O)). IsNewStore base count (keeping writer held l) callers) (sym none)
      (subst (λ (l : List (Receiving (Submitted O))). IsNewStore base count (keeping writer l []) callers) (sym same) (new_store base count writer readers intakes callers start k))

  pub new_received : (base : S) (count : ℕ) (writer : Writing S O) (readers : List (Reading S O)) (intakes held : List (Receiving (Submitted O))) (pending : List (Entry O)) (callers : List (Calling S O))
      → count ≤ 64 → IsStart base count writer readers → AreConnected readers intakes callers → held ≡ intakes → pending ≡ [] → AreReceived (writer.journal ++ pending) held
  new_received base count writer readers intakes held pending callers few start k same none =
      let long : length callers ≡ length intakes = count_is intakes callers k.at in
      let entries : writer.journal ++ pending ≡ [] = ap (λ (l : List (Entry O)). l ++ pending) start.journal_is ∙ none in
      subst (λ (l : List (Receiving (Submitted O))). AreReceived (writer.journal ++ pending) l) (sym same)
      (subst (λ (l : List (Entry O)). AreReceived l intakes) (sym entries)
      (none_received intakes (omega (arith, few, long, few_left readers callers k.readers_are, start.count_is)) k.none_received))
