-- A handle's slot: the three functions that reach its pointer, proved once for the handles of all kinds. Assumes `Logic`.
--     Kind            a kind of handle: its struct of a pointer and a `Global`, and how one reads and makes a value of it
--     Row             the struct's row, which owns what `slot_owns` says
--     makes, moves    the code of `vacant`; and that of `cleared` and `opaque`, from one struct's layout to another's
--     vacant_meets, cleared_meets, opaque_meets
--                     what has this code meets the contract that each handle states; so a handle's own proof gives its kind alone
-- C can be given no generic type. So each kind has a struct and three functions of its own, which are the same but for the names.
use Rattle.std.proofs.Common.{◌≡◌, ℕ, List, [], ◌∷◌, ◌++◌, refl, sym, subst}
use Rattle.std.specs.Prelude.{Option, None, Some, IsSome}
use mathlib.Core.Bool.{Bool, true, false}
use seplogic.Ra.Ura.{Ura}
use mir.Syntax.{Ty, Fn, Callee, local, value_local, ty_ptr, assign, place, field, rv_opd, copy, aggregate, seq, return, impl, tnil, dnil}
use mir.Raw.{raw as bare}
use mir.Val.{Val, vptr, vstruct, of_list, has_ty}
use base.Logic.{SProp, ent, emp, never, id⊢, fst∗}
use base.Fml.{Fml, ftrue, fsep, fex}
use prog.Wp.{WpFn, Closed}
use prog.Model.{Model}
use types.Logic.{Logic, sem}
use types.Kit.{Item, Goal, Seq, Step, step, ‵, raw, ◌⊛◌, ◌$◌, ◌∵◌, !, qed, by, move, keep, drop, split, fsplit, fsplit3, fjoin, fjoin3, fpick, fpack, rewrite, suffices, use0, feq_i, feq_l}
use types.Run.{stop, fld, of_opd, no_more, and_then, returns, enter}
use types.ByLocal.{alloc_all, pass_all, free_all, look_at, get, get_in, sets}
use types.Part.{agg, sub, whole}
use contract.Monad.{fact, fact_i}
use contract.Running.{Running, tables}
use denote.Exit.{yes, under, hidden}
use denote.RattleType.{RattleType, Valss, owns}
use denote.Builtin.{RawPtr}
use denote.Signature.{types_at, plain}
use denote.Memory.{lone}
use denote.Param.{layout}
use denote.RawPtr.{Ptr, block_ptr, null_ptr, ptr_val, in_a_block, rawptr_Lawful}
use denote.Steps.{nothing, heard}
use denote.Struct.Field.{RawPtr-field, rows}
use denote.Struct.Struct.{within, exits_of}
use denote.Struct.Owning.{Owning, shape, row}
use denote.Triple.Clauses.{Ended, Clauses, closing}
use denote.Triple.Spec.{Meets}
use denote.Triple.Walked.{Stays, stay_dropped, walk_of}
use Rattle.core.proofs.alloc.Calls.{Al, handle_tells, Goes-blank}
use Rattle.core.proofs.cell.Inside.{Good, one}
use Rattle.std.proofs.raw_atomic.Walks.{proved_at, leaves}
use Rattle.std_alloc.specs.Box.Ownership.{box_owns}
use Rattle.std_heap.specs.contracts.Global as heap
use Rattle.std_heap.specs.contracts.GlobalAllocator.TheImpl.{ghosts}
use Rattle.std_heap.proofs.Global.TheLaws as heap_laws
use Rattle.loose.specs.Slots.{slot_owns}
use Rattle.loose.proofs.Values.{both, both_tt, Loose, loose_good, loose_out, loose_in}

abbrev pub Z : RattleType
Z = heap.the_row

abbrev al : Al
al = record { row = Z; laws = heap_laws.the_row_laws; g = ghosts; d = impl [] tnil dnil; drops = impl [] tnil dnil }

abbrev unkept : Bool → Type 0
unkept true = ⊥
unkept false = Unit {0}

-- `found`: what is made of a pointer, a `Global` and what is kept has these three
pub record Kind (R : RattleType) : Type 2 where
  pub type : Owning
  pub at : type.D → Ptr
  pub alloc : type.D → Z.Denot
  pub kept : type.D → Option R.Denot
  pub make : Ptr → Z.Denot → Option R.Denot → type.D
  pub found : (p : Ptr) (a : Z.Denot) (k : Option R.Denot) → ◌≡◌ {A = Ptr × Z.Denot × Option R.Denot} (at (make p a k), alloc (make p a k), kept (make p a k)) (p, a, k)

module _ (R : RattleType) (N : Kind R) where
  abbrev slot : Owning
  slot = record {
    name = N.type.name;
    args = [];
    types = [];
    parts = RawPtr-field ∷ heap.the_field ∷ [];
    D = N.type.D;
    as_values = λ d. (N.at d, (N.alloc d, tt));
    coded = N.type.coded;
    heap = λ d. slot_owns (ghosts.dealloc_token (N.alloc d)) R (N.at d) (N.kept d);
    exit = λ k. hidden (under (λ d. (N.at d, ((heap.the_field).into (N.alloc d), tt))) (exits_of k (rows (RawPtr-field ∷ heap.the_field ∷ []))));
    shr_at = N.type.shr_at;
  }

  abbrev pub Row : RattleType
  Row = row slot

  abbrev Three : Type 0
  Three = Ptr × Z.Denot × Option R.Denot

  -- what a handle with these three owns
  abbrev owned : Three → List Val → Fml
  owned x vs = fsep (fex (Valss (RawPtr ∷ Z ∷ [])) (within (shape slot) (x.0, ((heap.the_field).into x.1, tt)) vs)) (slot_owns (ghosts.dealloc_token x.1) R x.0 x.2)

  module _ {M : Type 1} {𝓤 : Ura M} {𝓛 : Logic 𝓤} {K : Type 0} {Γ : List (Item 𝓤)} {G : Goal 𝓤 𝓛.H} where
    slot_open : (a : Z.Denot) (p : Ptr) (k : Option R.Denot) → IsSome k
        → ((x : R.Denot) → k ≡ Some x → Seq K 𝓛 (‵ (box_owns (ghosts.dealloc_token a) R p x) ∷ Γ) G) → Seq K 𝓛 (‵ (slot_owns (ghosts.dealloc_token a) R p k) ∷ Γ) G
    slot_open a p None is next = absurd (subst (λ (b : Bool). unkept b) is tt)
    slot_open a p (Some x) is next = next x refl

  module _ {M : Type 1} {𝓤 : Ura M} {𝓛 : Logic 𝓤} {K : Type 0} {Γ : List (Item 𝓤)} {G : Goal 𝓤 𝓛.H} where
    slot_out : K → (d : N.type.D) (vs : List Val) → IsSome (N.kept d)
        → ((x : R.Denot) → N.kept d ≡ Some x → (b o : ℕ) (h : Val) → vs ≡ both (vptr b o) h ∷ [] → Good (layout Z) h → Seq K 𝓛 (‵ (box_owns (ghosts.dealloc_token (N.alloc d)) R (block_ptr b o) x) ∷ ‵ (Z.own_val (N.alloc d) (h ∷ [])) ∷ Γ) G)
        → Seq K 𝓛 (‵ (Row.own_val d vs) ∷ Γ) G
    slot_out t d vs is k =
        fsplit t $ fpick t (λ vss. fsplit t $ feq_l t (λ ev. fsplit t $ feq_l t (λ ep. fsplit t $ handle_tells al t (N.alloc d) vss.1.0 (λ h ea fits. move t (1 ∷ []) $ drop t $ move t (1 ∷ []) $
        slot_open (N.alloc d) (N.at d) (N.kept d) is (λ x ex.
        in_a_block t (N.at d) (λ p. box_owns (ghosts.dealloc_token (N.alloc d)) R p x) (fst∗ 𝓤 (never 𝓤) (sem 𝓛 (ghosts.dealloc_token (N.alloc d) (bare (lone R.mir)) null_ptr))) (λ b o e. k x ex b o h
        (subst (λ (p : Ptr). vs ≡ vstruct (of_list (ptr_val p ∷ h ∷ [])) ∷ []) e
        (subst (λ (ws : List Val). vs ≡ vstruct (of_list (ptr_val (N.at d) ∷ (ws ++ []))) ∷ []) ea (subst (λ (ps : List Val). vs ≡ vstruct (of_list (ps ++ (vss.1.0 ++ []))) ∷ []) ep ev))) fits))))))

    -- what is made of three owns what a handle with these three owns
    made : K → (p : Ptr) (a : Z.Denot) (k : Option R.Denot) (vs : List Val)
        → Step K 𝓛 (‵ (Row.own_val (N.make p a k) vs) ∷ Γ) G (‵ (owned (p, a, k) vs) ∷ Γ) G
    made t p a k vs = rewrite t 0 (λ (x : Three). ‵ (owned x vs)) (sym (N.found p a k)) refl

    opened_in : K → (b o : ℕ) (h : Val) (a : Z.Denot) (x : R.Denot)
        → Step K 𝓛 (‵ (Row.own_val (N.make (block_ptr b o) a (Some x)) (both (vptr b o) h ∷ [])) ∷ Γ) G (‵ (box_owns (ghosts.dealloc_token a) R (block_ptr b o) x) ∷ ‵ (Z.own_val a (h ∷ [])) ∷ Γ) G
    opened_in t b o h a x = step (λ s. let v : Val = both (vptr b o) h in
        nothing t $ move t (2 ∷ 0 ∷ []) $ fjoin t $ feq_i t (List Val) (vptr b o ∷ []) (vptr b o ∷ []) refl $ fjoin t $ feq_i t (List Val) (v ∷ []) (v ∷ []) refl $ fjoin t $
        fpack t (Valss (RawPtr ∷ Z ∷ [])) (within (shape slot) (block_ptr b o, ((heap.the_field).into a, tt)) (v ∷ [])) (vptr b o ∷ [], (h ∷ [], tt)) $ fjoin t $ made t (block_ptr b o) a (Some x) (v ∷ []) $ s)

    vacant_in : K → (p : Ptr) (v h : Val) (a : Z.Denot)
        → Step K 𝓛 (‵ (Row.own_val (N.make p a None) (both v h ∷ [])) ∷ Γ) G (‵ (RawPtr.own_val p (v ∷ [])) ∷ ‵ (Z.own_val a (h ∷ [])) ∷ Γ) G
    vacant_in t p v h a = step (λ s. let w : Val = both v h in
        nothing t $ nothing t $ move t (2 ∷ 3 ∷ 0 ∷ []) $ fjoin3 t $ feq_i t (List Val) (w ∷ []) (w ∷ []) refl $ fjoin t $
        fpack t (Valss (RawPtr ∷ Z ∷ [])) (within (shape slot) (p, ((heap.the_field).into a, tt)) (w ∷ [])) (v ∷ [], (h ∷ [], tt)) $ fjoin t $ made t p a None (w ∷ []) $ s)

  kept_made : (p : Ptr) (a : Z.Denot) (k : Option R.Denot) → N.kept (N.make p a k) ≡ k
  kept_made p a k i = (N.found p a k i).2

  -- ---- the code: a pair is made of its two parts; a pair is taken apart, and one of another layout made of its parts
  abbrev pub makes : Fn
  makes = record {
    lifetimes = 0;
    outlives = [];
    ty_params = [];
    givens = 0;
    params = 2;
    locals = local (layout Row) value_local ∷ local ty_ptr value_local ∷ local (layout Z) value_local ∷ [];
    body = seq (assign (place 0 []) (aggregate (copy (place 1 []) ∷ copy (place 2 []) ∷ []))) return;
  }

  abbrev pub moves : Ty → Ty → Fn
  moves from to = record {
    lifetimes = 0;
    outlives = [];
    ty_params = [];
    givens = 0;
    params = 1;
    locals = local to value_local ∷ local from value_local ∷ local ty_ptr value_local ∷ local (layout Z) value_local ∷ local ty_ptr value_local ∷ [];
    body = seq (assign (place 2 []) (rv_opd (copy (place 1 (field 0 ∷ []))))) (
        seq (assign (place 3 []) (rv_opd (copy (place 1 (field 1 ∷ []))))) (
        seq (assign (place 4 []) (rv_opd (copy (place 2 [])))) (
        seq (assign (place 0 []) (aggregate (copy (place 4 []) ∷ copy (place 3 []) ∷ []))) return)));
  }

  -- ---- the contracts
  abbrev pub vacant_ended : Ended
  vacant_ended = record { signature = record { lifetimes = 0; outlives = []; params = plain (λ _. RawPtr) ∷ plain (λ _. Z) ∷ []; result = plain (λ _. Row) }; kept = (yes, (yes, tt)) }

  abbrev pub cleared_ended : Ended
  cleared_ended = record { signature = record { lifetimes = 0; outlives = []; params = plain (λ _. Row) ∷ []; result = plain (λ _. Loose R Z heap_laws.the_row_laws ghosts) }; kept = (yes, tt) }

  abbrev pub opaque_ended : Ended
  opaque_ended = record { signature = record { lifetimes = 0; outlives = []; params = plain (λ _. Loose R Z heap_laws.the_row_laws ghosts) ∷ []; result = plain (λ _. Row) }; kept = (yes, tt) }

  module _ {M : Type 1} (𝓤 : Ura M) (𝓛 : Logic 𝓤) where
    abbrev pub vacant_clauses : Clauses 𝓤 vacant_ended
    vacant_clauses = λ _ _. record { ghost = Unit {0}; requires = λ _. emp 𝓤; ensures = λ _ result _. fact 𝓤 (N.kept result ≡ None) }

    abbrev pub cleared_clauses : Clauses 𝓤 cleared_ended
    cleared_clauses = λ _ given. record { ghost = Unit {0}; requires = λ _. fact 𝓤 (IsSome (N.kept given.0)); ensures = λ _ result _. fact 𝓤 (N.kept given.0 ≡ Some result.value) }

    abbrev pub opaque_clauses : Clauses 𝓤 opaque_ended
    opaque_clauses = λ _ given. record { ghost = Unit {0}; requires = λ _. emp 𝓤; ensures = λ _ result _. fact 𝓤 (N.kept result ≡ Some given.0.value) }

  -- ---- the proofs
  abbrev Meets_as : (M : Type 1) (T : Ended) → ((𝓤 : Ura M) (𝓛 : Logic 𝓤) → Clauses 𝓤 T) → Fn → Callee → Type 2
  Meets_as M T c code k = (𝓤 : Ura M) (𝓛 : Logic 𝓤) (𝓜 : Model 𝓤 𝓛.H) (𝓡 : Running 𝓤 𝓛.H 𝓜)
      → Closed 𝓤 𝓛.H (tables 𝓤 𝓛.H 𝓜 𝓡 𝓡.env).C (tables 𝓤 𝓛.H 𝓜 𝓡 𝓡.env).Λ k code → Meets 𝓛 T.signature ((tables 𝓤 𝓛.H 𝓜 𝓡 𝓡.env).C k) (closing 𝓛 T (c 𝓤 𝓛))

  pub vacant_meets : {M : Type 1} (k : Callee) → Meets_as M vacant_ended vacant_clauses makes k
  vacant_meets k 𝓤 𝓛 𝓜 𝓡 unfolds =
      let 𝓣 = tables 𝓤 𝓛.H 𝓜 𝓡 𝓡.env in let LZ = heap_laws.the_row_laws in let T = vacant_ended in let c = vacant_clauses 𝓤 𝓛 in
      let hs : Stays T.signature.params T.kept = (stay_dropped (plain (λ _. RawPtr)) yes, (stay_dropped (plain (λ _. Z)) yes, tt)) in
      proved_at 𝓛 T hs c 𝓜 𝓡 (Goes-blank 𝓛 0 (plain (λ _. RawPtr)) yes (λ κs x f. tt), (Goes-blank 𝓛 0 (plain (λ _. Z)) yes (λ κs x f. tt), tt)) k makes unfolds (λ z are.
      let p = z.0.3.0 in let a = z.0.3.1.0 in let Post : Val → SProp 𝓤 = (walk_of 𝓛 T hs c).post z in let Run : List Val → SProp 𝓤 = λ ws. WpFn 𝓤 𝓛.H 𝓣.C 𝓣.Λ makes ws Post in
      let v = one (layout RawPtr) z.0.4.0 ((rawptr_Lawful 𝓛).typed p z.0.4.0 are.0) in let h = one (layout Z) z.0.4.1.0 ((LZ.lawful 𝓛).typed a z.0.4.1.0 are.1.0) in let w : Val = both v.0 h.0 in
      let good : Good (layout Row) w = (both_tt (has_ty (layout RawPtr) v.0) (has_ty (layout Z) h.0) v.2.0 h.2.0, (v.2.1, (h.2.1, tt))) in
      let asked = raw ((c tt z.0.3).requires z.1) in let keeps = N.kept (N.make p a None) ≡ None in
      qed 𝓛 ((‵ ftrue ⊛ ‵ (owns (types_at T.signature.params tt) z.0.3 z.0.4)) ∷ asked ∷ []) ∵ split ! $ move ! (1 ∷ []) $ fsplit3 ! $
      rewrite ! 0 (λ (us : List Val). ‵ (RawPtr.own_val p us)) v.1 refl $ rewrite ! 1 (λ (us : List Val). ‵ (Z.own_val a us)) h.1 refl $
      vacant_in ! p v.0 h.0 a $
      suffices ! (Run (v.0 ∷ h.0 ∷ [])) (subst (λ (us : List Val). ent 𝓤 (Run (v.0 ∷ h.0 ∷ [])) (Run us)) (sym (λ i. v.1 i ++ (h.1 i ++ []))) (id⊢ 𝓤 (Run (v.0 ∷ h.0 ∷ [])))) $
      enter ! 𝓣.C 𝓣.Λ makes (v.0 ∷ h.0 ∷ []) Post $ alloc_all ! (λ l. pass_all ! refl (v.2, (h.2, tt)) $
      sets ! (agg ! (and_then ! (get ! refl) (and_then ! (get ! refl) (no_more !)))) refl good $
      use0 𝓛 (raw (fact 𝓤 keeps)) (fact_i 𝓤 keeps (emp 𝓤) (kept_made p a None)) $ nothing ! $ nothing ! $ fjoin ! $ nothing ! $ fjoin ! $
      returns ! (look_at ! 0 refl) $ free_all ! refl $ nothing ! $ keep ! (0 ∷ 1 ∷ 3 ∷ 2 ∷ []) $ by ! (leaves 𝓛 T hs c z w (N.make p a None) (tt, (tt, tt)) (tt, (tt, tt)))))

  pub cleared_meets : {M : Type 1} (k : Callee) → Meets_as M cleared_ended cleared_clauses (moves (layout Row) (layout (Loose R Z heap_laws.the_row_laws ghosts))) k
  cleared_meets k 𝓤 𝓛 𝓜 𝓡 unfolds =
      let 𝓣 = tables 𝓤 𝓛.H 𝓜 𝓡 𝓡.env in let LZ = heap_laws.the_row_laws in let fn = moves (layout Row) (layout (Loose R Z heap_laws.the_row_laws ghosts)) in let T = cleared_ended in let c = cleared_clauses 𝓤 𝓛 in
      let hs : Stays T.signature.params T.kept = (stay_dropped (plain (λ _. Row)) yes, tt) in
      proved_at 𝓛 T hs c 𝓜 𝓡 (Goes-blank 𝓛 0 (plain (λ _. Row)) yes (λ κs x f. tt), tt) k fn unfolds (λ z are.
      let v = z.0.3.0 in let a = N.alloc v in let Post : Val → SProp 𝓤 = (walk_of 𝓛 T hs c).post z in let Run : List Val → SProp 𝓤 = λ ws. WpFn 𝓤 𝓛.H 𝓣.C 𝓣.Λ fn ws Post in
      let asked = raw ((c tt z.0.3).requires z.1) in
      qed 𝓛 ((‵ ftrue ⊛ ‵ (owns (types_at T.signature.params tt) z.0.3 z.0.4)) ∷ asked ∷ []) ∵ move ! (1 ∷ []) $ heard ! (IsSome (N.kept v)) (λ is. split ! $ move ! (1 ∷ []) $ fsplit ! $ slot_out ! v z.0.4.0 is (λ x ex b o h ws fits.
      let w : Val = both (vptr b o) h in let typed = loose_good R Z LZ ghosts b o h fits in let keeps = N.kept v ≡ Some x in
      suffices ! (Run (w ∷ [])) (subst (λ (us : List Val). ent 𝓤 (Run (w ∷ [])) (Run us)) (sym (λ i. ws i ++ [])) (id⊢ 𝓤 (Run (w ∷ [])))) $
      enter ! 𝓣.C 𝓣.Λ fn (w ∷ []) Post $ alloc_all ! (λ l. pass_all ! refl (typed, tt) $
      sets ! (of_opd ! (get_in ! (fld ! refl (stop !)) (sub ! 0 refl (whole !)))) refl (tt, tt) $
      sets ! (of_opd ! (get_in ! (fld ! refl (stop !)) (sub ! 1 refl (whole !)))) refl fits $
      sets ! (of_opd ! (get ! refl)) refl (tt, tt) $
      sets ! (agg ! (and_then ! (get ! refl) (and_then ! (get ! refl) (no_more !)))) refl typed $
      loose_in R Z LZ ghosts ! b o h a x $ use0 𝓛 (raw (fact 𝓤 keeps)) (fact_i 𝓤 keeps (emp 𝓤) ex) $ nothing ! $ nothing ! $ fjoin ! $
      returns ! (look_at ! 0 refl) $ free_all ! refl $ nothing ! $ keep ! (0 ∷ 1 ∷ 3 ∷ 2 ∷ []) $ by ! (leaves 𝓛 T hs c z w (record { at = block_ptr b o; alloc = a; value = x }) (tt, tt) (tt, tt))))))

  pub opaque_meets : {M : Type 1} (k : Callee) → Meets_as M opaque_ended opaque_clauses (moves (layout (Loose R Z heap_laws.the_row_laws ghosts)) (layout Row)) k
  opaque_meets k 𝓤 𝓛 𝓜 𝓡 unfolds =
      let 𝓣 = tables 𝓤 𝓛.H 𝓜 𝓡 𝓡.env in let LZ = heap_laws.the_row_laws in let fn = moves (layout (Loose R Z heap_laws.the_row_laws ghosts)) (layout Row) in let T = opaque_ended in let c = opaque_clauses 𝓤 𝓛 in
      let hs : Stays T.signature.params T.kept = (stay_dropped (plain (λ _. Loose R Z LZ ghosts)) yes, tt) in
      proved_at 𝓛 T hs c 𝓜 𝓡 (Goes-blank 𝓛 0 (plain (λ _. Loose R Z LZ ghosts)) yes (λ κs x f. tt), tt) k fn unfolds (λ z are.
      let v = z.0.3.0 in let a = v.alloc in let Post : Val → SProp 𝓤 = (walk_of 𝓛 T hs c).post z in let Run : List Val → SProp 𝓤 = λ ws. WpFn 𝓤 𝓛.H 𝓣.C 𝓣.Λ fn ws Post in
      let asked = raw ((c tt z.0.3).requires z.1) in
      qed 𝓛 ((‵ ftrue ⊛ ‵ (owns (types_at T.signature.params tt) z.0.3 z.0.4)) ∷ asked ∷ []) ∵ split ! $ move ! (1 ∷ []) $ fsplit ! $ loose_out R Z LZ ghosts ! v z.0.4.0 (λ b o h e ws fits.
      let w : Val = both (vptr b o) h in let typed = loose_good R Z LZ ghosts b o h fits in let made = N.make (block_ptr b o) a (Some v.value) in let keeps = N.kept made ≡ Some v.value in
      suffices ! (Run (w ∷ [])) (subst (λ (us : List Val). ent 𝓤 (Run (w ∷ [])) (Run us)) (sym (λ i. ws i ++ [])) (id⊢ 𝓤 (Run (w ∷ [])))) $
      enter ! 𝓣.C 𝓣.Λ fn (w ∷ []) Post $ alloc_all ! (λ l. pass_all ! refl (typed, tt) $
      sets ! (of_opd ! (get_in ! (fld ! refl (stop !)) (sub ! 0 refl (whole !)))) refl (tt, tt) $
      sets ! (of_opd ! (get_in ! (fld ! refl (stop !)) (sub ! 1 refl (whole !)))) refl fits $
      sets ! (of_opd ! (get ! refl)) refl (tt, tt) $
      sets ! (agg ! (and_then ! (get ! refl) (and_then ! (get ! refl) (no_more !)))) refl typed $
      opened_in ! b o h a v.value $ use0 𝓛 (raw (fact 𝓤 keeps)) (fact_i 𝓤 keeps (emp 𝓤) (kept_made (block_ptr b o) a (Some v.value))) $ nothing ! $ nothing ! $ fjoin ! $
      returns ! (look_at ! 0 refl) $ free_all ! refl $ nothing ! $ keep ! (0 ∷ 1 ∷ 3 ∷ 2 ∷ []) $ by ! (leaves 𝓛 T hs c z w made (tt, tt) (tt, tt)))))
