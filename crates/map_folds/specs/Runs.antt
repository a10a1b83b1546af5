-- Runs of true values in a list.
use Rattle.std.specs.Prelude.{◌≡◌, ℕ, ◌+◌, ◌-◌, ◌^◌, ◌≤◌, max, Bool, true, false, cond, ◌&&◌, refl}
use Rattle.std.proofs.Common.{arith, ap, sym, subst, ◌∙◌, true≢false}
use Rattle.map_model.specs.Fold.{IsMonoidOver}
use Rattle.map_folds.specs.Sums.{capped}
use Rattle.map_folds.specs.declared.longest_run.Runs.{Runs}

abbrev pub runs : Bool → ℕ → ℕ → ℕ → Runs
runs whole front back longest = record { whole = whole; front = front; back = back; longest = longest }

-- of no values, of which each is true
abbrev pub no_values : Runs
no_values = runs true 0 0 0

abbrev pub one_value : Bool → Runs
one_value val = runs val (cond val 1 0) (cond val 1 0) (cond val 1 0)

-- of one list behind another: a run may go across their border
abbrev pub joined : Runs → Runs → Runs
joined a b = runs (a.whole && b.whole) (cond a.whole (capped (a.back + b.front)) a.front) (cond b.whole (capped (a.back + b.back)) b.back) (max a.longest (max (capped (a.back + b.front)) b.longest))

-- no run is longer than the longest, which has 64 bits, and where all is true there is one run
abbrev pub RunsFit : Runs → Type 0
RunsFit r = (r.front ≤ r.longest) × (r.back ≤ r.longest) × (r.longest ≤ 2 ^ 64 - 1) × (r.whole ≡ true → (r.front ≡ r.longest) × (r.back ≡ r.longest))

pub one_value_fits : (val : Bool) → RunsFit (one_value val)
one_value_fits true = (omega arith, omega arith, omega arith, λ _. (refl, refl))
one_value_fits false = (omega arith, omega arith, omega arith, λ _. (refl, refl))

untrue : {P : Type 0} → false ≡ true → P
untrue e = absurd (true≢false (sym e))

same : {w v : Bool} {f g b c l m : ℕ} → w ≡ v → f ≡ g → b ≡ c → l ≡ m → runs w f b l ≡ runs v g c m
same w f b l = λ i. runs (w i) (f i) (b i) (l i)

joined_fits : (wa : Bool) (fa ba la : ℕ) (wb : Bool) (fb bb lb : ℕ) → RunsFit (runs wa fa ba la) → RunsFit (runs wb fb bb lb) → RunsFit (joined (runs wa fa ba la) (runs wb fb bb lb))
joined_fits true fa ba la true fb bb lb (p, q, r, s) (t, u, v, w) =
    let (sf, sb) = s refl in
    let (wf, wb) = w refl in
    (omega arith, omega arith, omega arith, λ _. (omega arith, omega arith))
joined_fits true fa ba la false fb bb lb (p, q, r, s) (t, u, v, w) = let (sf, sb) = s refl in (omega arith, omega arith, omega arith, λ e. untrue e)
joined_fits false fa ba la true fb bb lb (p, q, r, s) (t, u, v, w) = let (wf, wb) = w refl in (omega arith, omega arith, omega arith, λ e. untrue e)
joined_fits false fa ba la false fb bb lb (p, q, r, s) (t, u, v, w) = (omega arith, omega arith, omega arith, λ e. untrue e)

joined_right : (w : Bool) (f b l : ℕ) → RunsFit (runs w f b l) → joined (runs w f b l) no_values ≡ runs w f b l
joined_right true f b l (p, q, r, s) = let (sf, sb) = s refl in same refl (omega arith) (omega arith) (omega arith)
joined_right false f b l (p, q, r, s) = same refl refl (omega arith) (omega arith)

joined_left : (w : Bool) (f b l : ℕ) → RunsFit (runs w f b l) → joined no_values (runs w f b l) ≡ runs w f b l
joined_left true f b l (p, q, r, s) = same refl (omega arith) (omega arith) (omega arith)
joined_left false f b l (p, q, r, s) = same refl (omega arith) refl (omega arith)

max_assoc : (p q r : ℕ) → max (max p q) r ≡ max p (max q r)
max_assoc p q r = omega arith

-- runs beside a list that is no run itself
apart : (p x q y r : ℕ) → max (max p (max x q)) (max y r) ≡ max p (max x (max q (max y r)))
apart p x q y r = max_assoc p (max x q) (max y r) ∙ ap (λ m. max p m) (max_assoc x q (max y r))

-- a run z across a list has in it the runs x and y that go over its two borders
over : (x q z y r : ℕ) → x ≤ z → y ≤ z → max (max x q) (max z r) ≡ max z (max q (max y r))
over x q z y r h k = omega arith

across : (p x q z y r : ℕ) → x ≤ z → y ≤ z → max (max p (max x q)) (max z r) ≡ max p (max z (max q (max y r)))
across p x q z y r h k = max_assoc p (max x q) (max z r) ∙ ap (λ m. max p m) (over x q z y r h k)

-- the longest of three lists, the middle one of which is a run of n
through : (la ba n fc lc : ℕ) → max (max la (max (capped (ba + n)) n)) (max (capped (capped (ba + n) + fc)) lc) ≡ max la (max (capped (ba + capped (n + fc))) (max n (max (capped (n + fc)) lc)))
through la ba n fc lc =
    let whole : capped (capped (ba + n) + fc) ≡ capped (ba + capped (n + fc)) = omega arith in
    across la (capped (ba + n)) n (capped (capped (ba + n) + fc)) (capped (n + fc)) lc (omega arith) (omega arith)
    ∙ ap (λ z. max la (max z (max n (max (capped (n + fc)) lc)))) whole

-- a sum that stops, in either order
sum_stops : (x y z : ℕ) → capped (capped (x + y) + z) ≡ capped (x + capped (y + z))
sum_stops x y z = omega arith

-- three lists, of which the middle one is a run of n
run_assoc : (wa : Bool) (fa ba la n : ℕ) (wc : Bool) (fc bc lc : ℕ) → joined (joined (runs wa fa ba la) (runs true n n n)) (runs wc fc bc lc) ≡ joined (runs wa fa ba la) (joined (runs true n n n) (runs wc fc bc lc))
run_assoc true fa ba la n true fc bc lc = same refl (sum_stops ba n fc) (sum_stops ba n bc) (through la ba n fc lc)
run_assoc true fa ba la n false fc bc lc = same refl (sum_stops ba n fc) refl (through la ba n fc lc)
run_assoc false fa ba la n true fc bc lc = same refl refl (sum_stops ba n bc) (through la ba n fc lc)
run_assoc false fa ba la n false fc bc lc = same refl refl refl (through la ba n fc lc)

-- and of which it is none
apart_assoc : (wa : Bool) (fa ba la fb bb lb : ℕ) (wc : Bool) (fc bc lc : ℕ) → joined (joined (runs wa fa ba la) (runs false fb bb lb)) (runs wc fc bc lc) ≡ joined (runs wa fa ba la) (joined (runs false fb bb lb) (runs wc fc bc lc))
apart_assoc true fa ba la fb bb lb true fc bc lc = same refl refl refl (apart la (capped (ba + fb)) lb (capped (bb + fc)) lc)
apart_assoc true fa ba la fb bb lb false fc bc lc = same refl refl refl (apart la (capped (ba + fb)) lb (capped (bb + fc)) lc)
apart_assoc false fa ba la fb bb lb true fc bc lc = same refl refl refl (apart la (capped (ba + fb)) lb (capped (bb + fc)) lc)
apart_assoc false fa ba la fb bb lb false fc bc lc = same refl refl refl (apart la (capped (ba + fb)) lb (capped (bb + fc)) lc)

-- by whether the middle one is a run, as its fit says
joined_assoc : (a : Runs) (wb : Bool) (fb bb lb : ℕ) (c : Runs) → (wb ≡ true → (fb ≡ lb) × (bb ≡ lb)) → joined (joined a (runs wb fb bb lb)) c ≡ joined a (joined (runs wb fb bb lb) c)
joined_assoc a true fb bb lb c one =
    let run : runs true lb lb lb ≡ runs true fb bb lb = same refl (sym (one refl).0) (sym (one refl).1) refl in
    subst (λ b. joined (joined a b) c ≡ joined a (joined b c)) run (run_assoc a.whole a.front a.back a.longest lb c.whole c.front c.back c.longest)
joined_assoc a false fb bb lb c one = apart_assoc a.whole a.front a.back a.longest fb bb lb c.whole c.front c.back c.longest

pub runs_monoid : IsMonoidOver RunsFit no_values joined
runs_monoid = record {
  unit_fits = (omega arith, omega arith, omega arith, λ _. (refl, refl));
  combine_fits = λ a b f g. joined_fits a.whole a.front a.back a.longest b.whole b.front b.back b.longest f g;
  left_unit = λ a f. joined_left a.whole a.front a.back a.longest f;
  right_unit = λ a f. joined_right a.whole a.front a.back a.longest f;
  assoc = λ a b c f g h. joined_assoc a b.whole b.front b.back b.longest c g.3;
}
