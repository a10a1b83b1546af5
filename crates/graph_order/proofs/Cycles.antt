-- The way back along a walk to one of its vertices.
use Rattle.std.proofs.Common.{◌≡◌, ◌∙◌, ℕ, List, [], ◌∷◌, ◌++◌, map, reverse, Contains, inl, inr, refl, sym, ap, subst}
use Rattle.std.proofs.lemmas.List.{map-append, reverse-append}
use Rattle.graph_snap.specs.Walks.{IsWalk}
use Rattle.graph_order.specs.Orders.{AreDistinct, IsCycle}
use Rattle.graph_order.specs.Searches.{Closes, IsOpen, on_walk, walk_of}
use Rattle.graph_order.specs.declared.search.Frame.{Frame}
use Rattle.graph_order.proofs.Elements.{nothing_there, first_there, there_behind, there_cases}

pub reverse_push : {X : Type 0} (xs : List X) (x : X) → reverse (xs ++ x ∷ []) ≡ x ∷ reverse xs
reverse_push xs x = reverse-append xs (x ∷ [])

-- a frame more is the first of a walk
pub walk_push : (fs : List Frame) (f : Frame) → walk_of (fs ++ f ∷ []) ≡ (f.vertex, f.rest.items) ∷ walk_of fs
walk_push fs f = ap reverse (map-append (λ (f : Frame). (f.vertex, f.rest.items)) fs (f ∷ [])) ∙ reverse_push (map (λ (f : Frame). (f.vertex, f.rest.items)) fs) (f.vertex, f.rest.items)

-- from what was gone through, an edge closes the way to w, which is further on; what was gone through is no longer on the walk
pub record IsBack (g : List (ℕ × ℕ)) (done : List ℕ) (walk : List (ℕ × List ℕ)) (through : List ℕ) (w : ℕ) : Type 0 where
  pub head : ℕ
  pub tail : List ℕ
  pub whole : through ++ w ∷ [] ≡ head ∷ tail
  pub walks : IsWalk g head tail w
  pub live : IsOpen g done (head ∷ []) walk
  pub there : Contains (on_walk walk) w
  pub distinct : AreDistinct through
  pub apart : (x : ℕ) → Contains through x → ¬ (Contains (on_walk walk) x)

module _ (g : List (ℕ × ℕ)) (done : List ℕ) (w : ℕ) where
  pub back_begun : (walk : List (ℕ × List ℕ)) → Closes g done walk w → IsBack g done walk [] w
  back_begun walk closes = record { head = w; tail = []; whole = refl; walks = refl; live = closes.0; there = closes.1; distinct = tt; apart = λ x h. absurd (nothing_there x h) }

  pub back_none : {P : Type 0} (through : List ℕ) → IsBack g done [] through w → P
  back_none through back = absurd (nothing_there w back.there)

  module _ (f : ℕ × List ℕ) (fs : List (ℕ × List ℕ)) (through : List ℕ) (back : IsBack g done (f ∷ fs) through w) where
    edge : Contains g (f.0, back.head)
    edge = back.live.1 back.head (first_there back.head [])

    gone : AreDistinct (f.0 ∷ through)
    gone = ((λ h. back.apart f.0 h (first_there f.0 (on_walk fs))), back.distinct)

    pub back_on : ¬ (f.0 ≡ w) → IsBack g done fs (f.0 ∷ through) w
    back_on other = record {
      head = f.0;
      tail = back.head ∷ back.tail;
      whole = ap (λ l. f.0 ∷ l) back.whole;
      walks = (edge, back.walks);
      live = back.live.4;
      there = elim (there_cases f.0 (on_walk fs) w back.there) [ inl same ↦ absurd (other same) | inr later ↦ later ];
      distinct = gone;
      apart = λ x h o. elim (there_cases f.0 through x h) [
        | inl same ↦ back.live.3 (subst (λ y. Contains (on_walk fs) y) (sym same) o)
        | inr later ↦ back.apart x later (there_behind f.0 (on_walk fs) x o)
      ];
    }

    pub back_found : f.0 ≡ w → IsCycle g (f.0 ∷ through)
    back_found same = record {
      first = f.0;
      later = through;
      begins = refl;
      walks = subst (λ x. IsWalk g f.0 (through ++ x ∷ []) x) (sym same) (subst (λ l. IsWalk g f.0 l w) (sym back.whole) (edge, back.walks));
      distinct = gone;
    }
