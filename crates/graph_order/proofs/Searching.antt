-- A search for a topological order: what is done, latest first, the present walk, its last vertex first, and the marks of both.
use Rattle.std.proofs.Common.{◌≡◌, ◌⊎◌, ◌∙◌, ℕ, Bool, true, false, Option, Some, None, List, [], ◌∷◌, Contains, inl, inr, refl, sym, ap, subst}
use Rattle.std.proofs.lemmas.Bool.{false≢true}
use Rattle.std.specs.Ordering.{nat_cmp}
use Rattle.map_model.specs.Entries.{lookup, set}
use Rattle.graph_order.specs.Orders.{GoesForwards, IsEnd, IsTopologicalOrder}
use Rattle.graph_order.proofs.Elements.{nothing_there, first_there, there_behind, there_cases}
use Rattle.graph_order.proofs.Marks.{by_same, marked_here, marked_elsewhere}
use Rattle.graph_order.specs.Searches.{IsMarked, IsOpen, IsSearching, on_walk}
use Rattle.graph_order.proofs.Open.{edge_taken, over_done, pushed, skipped, taken_over}

-- no mark is two
pub some_other : {P : Type 0} (o : Option Bool) → o ≡ Some true → o ≡ Some false → P
some_other o a b = absurd (false≢true (ap value (sym b ∙ a)))
  where
    value : Option Bool → Bool
    value None = false
    value (Some b) = b

pub some_none : {P : Type 0} (o : Option Bool) (b : Bool) → o ≡ Some b → o ≡ None → P
some_none o b a n = absurd (false≢true (ap there (sym n ∙ a)))
  where
    there : Option Bool → Bool
    there None = false
    there (Some _) = true

pub nothing_searched : (g : List (ℕ × ℕ)) → IsSearching g [] [] []
nothing_searched g = record {
  marked = record {
    forwards = tt;
    marked_done = λ v h. some_none None true h refl;
    done_marked = λ v h. absurd (nothing_there v h);
    marked_open = λ v h. some_none None false h refl;
    open_marked = λ v h. absurd (nothing_there v h);
    ends = λ v h. elim h [ inl n ↦ absurd (nothing_there v n) | inr n ↦ absurd (nothing_there v n) ];
  };
  live = tt;
}

module _ (g : List (ℕ × ℕ)) (marks : List (ℕ × Bool)) (done : List ℕ) where
  -- the last vertex of the walk is done
  pub finished : (v : ℕ) (fs : List (ℕ × List ℕ)) → IsSearching g marks done ((v, []) ∷ fs) → IsSearching g (set nat_cmp marks v true) (v ∷ done) fs
  finished v fs s =
      let m = s.marked in
      record {
        marked = record {
          forwards = (
            (λ w e. elim (s.live.2 w e) [ inl d ↦ d | inr (inl n) ↦ absurd (nothing_there w n) | inr (inr n) ↦ absurd (nothing_there w n) ]),
            (λ d. some_other (lookup nat_cmp marks v) (m.done_marked v d) (m.open_marked v (first_there v (on_walk fs)))),
            m.forwards,
          );
          marked_done = λ u h. by_same v u
              (λ same. subst (λ x. Contains (v ∷ done) x) same (first_there v done))
              (λ other. there_behind v done u (m.marked_done u (sym (marked_elsewhere marks v true u other) ∙ h)));
          done_marked = λ u h. by_same v u
              (λ same. subst (λ x. lookup nat_cmp (set nat_cmp marks v true) x ≡ Some true) same (marked_here marks v true))
              (λ other. marked_elsewhere marks v true u other ∙ m.done_marked u (elim (there_cases v done u h) [ inl same ↦ absurd (other same) | inr d ↦ d ]));
          marked_open = λ u h. by_same v u
              (λ same. some_other (lookup nat_cmp (set nat_cmp marks v true) u) (subst (λ x. lookup nat_cmp (set nat_cmp marks v true) x ≡ Some true) same (marked_here marks v true)) h)
              (λ other. elim (there_cases v (on_walk fs) u (m.marked_open u (sym (marked_elsewhere marks v true u other) ∙ h))) [ inl same ↦ absurd (other same) | inr o ↦ o ]);
          open_marked = λ u h. by_same v u
              (λ same. absurd (s.live.3 (subst (λ x. Contains (on_walk fs) x) (sym same) h)))
              (λ other. marked_elsewhere marks v true u other ∙ m.open_marked u (there_behind v (on_walk fs) u h));
          ends = λ u h. elim h [
            | inl d ↦ elim (there_cases v done u d) [ inl same ↦ m.ends u (inr (subst (λ x. Contains (v ∷ on_walk fs) x) same (first_there v (on_walk fs)))) | inr e ↦ m.ends u (inl e) ]
            | inr o ↦ m.ends u (inr (there_behind v (on_walk fs) u o))
          ];
        };
        live = over_done g done v fs s.live.4;
      }

  -- a vertex that is not marked goes on the walk
  pub begun : (w : ℕ) (nexts : List ℕ) (walk : List (ℕ × List ℕ)) → IsMarked g marks done (on_walk walk) → IsOpen g done (w ∷ []) walk → lookup nat_cmp marks w ≡ None → IsEnd g w
      → ((u : ℕ) → Contains nexts u → Contains g (w, u)) → ((u : ℕ) → Contains g (w, u) → Contains nexts u) → IsSearching g (set nat_cmp marks w false) done ((w, nexts) ∷ walk)
  begun w nexts walk m live new end led leads = record {
    marked = record {
      forwards = m.forwards;
      marked_done = λ u h. by_same w u
          (λ same. some_other (lookup nat_cmp (set nat_cmp marks w false) u) h (subst (λ x. lookup nat_cmp (set nat_cmp marks w false) x ≡ Some false) same (marked_here marks w false)))
          (λ other. m.marked_done u (sym (marked_elsewhere marks w false u other) ∙ h));
      done_marked = λ u h. by_same w u
          (λ same. some_none (lookup nat_cmp marks w) true (m.done_marked w (subst (λ x. Contains done x) (sym same) h)) new)
          (λ other. marked_elsewhere marks w false u other ∙ m.done_marked u h);
      marked_open = λ u h. by_same w u
          (λ same. subst (λ x. Contains (w ∷ on_walk walk) x) same (first_there w (on_walk walk)))
          (λ other. there_behind w (on_walk walk) u (m.marked_open u (sym (marked_elsewhere marks w false u other) ∙ h)));
      open_marked = λ u h. by_same w u
          (λ same. subst (λ x. lookup nat_cmp (set nat_cmp marks w false) x ≡ Some false) same (marked_here marks w false))
          (λ other. marked_elsewhere marks w false u other ∙ m.open_marked u (elim (there_cases w (on_walk walk) u h) [ inl same ↦ absurd (other same) | inr o ↦ o ]));
      ends = λ u h. elim h [
        | inl d ↦ m.ends u (inl d)
        | inr o ↦ elim (there_cases w (on_walk walk) u o) [ inl same ↦ subst (λ x. IsEnd g x) same end | inr p ↦ m.ends u (inr p) ]
      ];
    };
    live = pushed g done nexts w walk led leads (λ o. some_none (lookup nat_cmp marks w) false (m.open_marked w o) new) live;
  }

  module _ (rest left : List ℕ) (v w : ℕ) (fs : List (ℕ × List ℕ)) (there : Contains rest w) (kept : (u : ℕ) → Contains left u → Contains rest u) (taken : (u : ℕ) → Contains rest u → Contains left u ⊎ (u ≡ w)) (s : IsSearching g marks done ((v, rest) ∷ fs)) where
    -- an end that is done is passed over
    pub passed_over : lookup nat_cmp marks w ≡ Some true → IsSearching g marks done ((v, left) ∷ fs)
    passed_over h = record { marked = s.marked; live = skipped g done rest left v w fs there kept taken s.live (s.marked.marked_done w h) }

    -- an end that is new goes on the walk
    pub went_on : (nexts : List ℕ) → lookup nat_cmp marks w ≡ None → ((u : ℕ) → Contains nexts u → Contains g (w, u)) → ((u : ℕ) → Contains g (w, u) → Contains nexts u) → IsSearching g (set nat_cmp marks w false) done ((w, nexts) ∷ (v, left) ∷ fs)
    went_on nexts new led leads =
        begun w nexts ((v, left) ∷ fs) s.marked (taken_over g done rest left v w fs there kept taken s.live) new (v, inr (edge_taken g done rest left v w fs there kept taken s.live)) led leads

-- when all edges begin at marked vertices and no walk is live, all is done
pub all_done : (g : List (ℕ × ℕ)) (marks : List (ℕ × Bool)) (done : List ℕ) → IsSearching g marks done [] → ((u w : ℕ) → Contains g (u, w) → Contains done u) → IsTopologicalOrder g done
all_done g marks done s sources = record {
  ends = λ v. ((λ h. s.marked.ends v (inl h)), (λ e. elim e.1 [ inl from ↦ sources v e.0 from | inr to ↦ behind done s.marked.forwards e.0 v (sources e.0 v to) to ]));
  forwards = s.marked.forwards;
}
  where
    behind : (vs : List ℕ) → GoesForwards g vs → (u v : ℕ) → Contains vs u → Contains g (u, v) → Contains vs v
    behind [] f u v h e = absurd (nothing_there u h)
    behind (x ∷ vs) f u v h e = elim (there_cases x vs u h) [
      | inl same ↦ there_behind x vs v (f.0 v (subst (λ y. Contains g (y, v)) (sym same) e))
      | inr later ↦ there_behind x vs v (behind vs f.2 u v later e)
    ]
