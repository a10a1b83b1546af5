-- The way from the root of a tree down to a seat.
use Rattle.std.proofs.Common.{◌≡◌, ℕ, ◌+◌, ◌-◌, ◌<◌, List, [], ◌∷◌, ◌++◌, length, drop, take, sym, ap, ◌∙◌, subst, append_assoc, arith}
use Rattle.std.proofs.lemmas.List.{drop_at, drop-append-le, take-append-le}
use Rattle.tree_walk.specs.Aheads.{led_by, behind, nearer}
use Rattle.tree_walk.specs.Seats.{IsSeat}
use Rattle.tree_walk.specs.declared.ahead.Following.{Following}
use Rattle.tree_walk.specs.declared.ahead.Ahead.{Ahead}
use Rattle.tree_walk.specs.declared.seat.Seat.{Seat}
use Rattle.tree_walk.specs.declared.seat.Seat.TheVariants.{Entry}
use Rattle.tree_walk.proofs.Dropped.{drop_behind}
use Rattle.tree_walk.proofs.Fronts.{take_behind}

-- what stands before a place of a part ends as what stands before one of the whole
abbrev pub LeadsBehind : {E : Type 0} → List E → ℕ → List E → ℕ → Type 0
LeadsBehind {E} part i whole j = (last : List E) → ((first : List E) × (take i part ≡ first ++ last)) → (first : List E) × (take j whole ≡ first ++ last)

module _ {M K V X A L : Type 0} (leaf_entries : L → List (K × V)) where
  -- a seat at a place of a part, which some entries follow, is one at a place of the whole
  abbrev pub LeadsAhead : List (K × V) → ℕ → Ahead M K V X A L → List (K × V) → ℕ → Type 0
  LeadsAhead part i ahead whole j = (seat : Seat M K V X A L) → ((more : List (K × V)) → IsSeat leaf_entries (drop i part ++ behind ahead more) seat) → (more : List (K × V)) → IsSeat leaf_entries (drop j whole ++ more) seat

  module _ (part left : List (K × V)) (entry : Following M K V X A L) (is : part ≡ left ++ (entry.key.now, entry.val.now) ∷ entry.side.now.entries) (i : ℕ) (ahead : Ahead M K V X A L) (whole : List (K × V)) (j : ℕ) where
    pub ahead_left : i < length left → LeadsAhead part i ahead whole j → LeadsAhead left i (nearer entry ahead) whole j
    ahead_left lt leads seat sits =
        let here = ap (drop i) is ∙ drop-append-le i left ((entry.key.now, entry.val.now) ∷ entry.side.now.entries) (omega (arith, lt)) in
        leads seat (λ more. subst (λ l. IsSeat leaf_entries l seat) (sym (ap (λ l. l ++ behind ahead more) here ∙ append_assoc (drop i left) ((entry.key.now, entry.val.now) ∷ entry.side.now.entries) (behind ahead more))) (sits (led_by ahead.fourth more)))

    pub ahead_here : i ≡ length left → LeadsAhead part i ahead whole j → (more : List (K × V)) → IsSeat leaf_entries (drop j whole ++ more) (Entry entry ahead)
    ahead_here at leads =
        let here = ap (drop i) is ∙ drop_at left ((entry.key.now, entry.val.now) ∷ entry.side.now.entries) i (sym at) in
        leads (Entry entry ahead) (λ more. (more, ap (λ l. l ++ behind ahead more) here))

    pub ahead_right : length left < i → LeadsAhead part i ahead whole j → LeadsAhead entry.side.now.entries (i - (length left + 1)) ahead whole j
    ahead_right lt leads seat sits =
        let same : i - length left - 1 ≡ i - (length left + 1) = omega (arith, lt) in
        let here = ap (drop i) is ∙ drop_behind left (entry.key.now, entry.val.now) entry.side.now.entries i lt ∙ ap (λ n. drop n entry.side.now.entries) same in
        leads seat (λ more. subst (λ l. IsSeat leaf_entries l seat) (sym (ap (λ l. l ++ behind ahead more) here)) (sits more))

    pub behind_left : i < length left → LeadsBehind part i whole j → LeadsBehind left i whole j
    behind_left lt leads last ends =
        let here = ap (take i) is ∙ take-append-le i left ((entry.key.now, entry.val.now) ∷ entry.side.now.entries) (omega (arith, lt)) in
        leads last (ends.0, here ∙ ends.1)

    pub behind_right : length left < i → LeadsBehind part i whole j → LeadsBehind entry.side.now.entries (i - (length left + 1)) whole j
    behind_right lt leads last ends =
        let same : i - length left - 1 ≡ i - (length left + 1) = omega (arith, lt) in
        let front = left ++ (entry.key.now, entry.val.now) ∷ [] in
        let here = ap (take i) is ∙ take_behind left (entry.key.now, entry.val.now) entry.side.now.entries i lt ∙ ap (λ n. front ++ take n entry.side.now.entries) same in
        leads last (front ++ ends.0, here ∙ ap (λ l. front ++ l) ends.1 ∙ sym (append_assoc front ends.0 last))

module _ {M K V X A L : Type 0} where
  -- a part and what follows it is the whole and what follows that
  abbrev pub LeadsTo : List (K × V) → Ahead M K V X A L → List (K × V) → Ahead M K V X A L → Type 0
  LeadsTo part ahead whole follows = (rest : List (K × V)) → (more : List (K × V)) × (whole ++ behind follows rest ≡ part ++ behind ahead more)

  pub leads_left : (part left : List (K × V)) (entry : Following M K V X A L) → part ≡ left ++ (entry.key.now, entry.val.now) ∷ entry.side.now.entries → (ahead : Ahead M K V X A L) (whole : List (K × V)) (follows : Ahead M K V X A L) → LeadsTo part ahead whole follows → LeadsTo left (nearer entry ahead) whole follows
  leads_left part left entry is ahead whole follows leads rest =
      let on = leads rest in
      (led_by ahead.fourth on.0, on.1 ∙ ap (λ l. l ++ behind ahead on.0) is ∙ append_assoc left ((entry.key.now, entry.val.now) ∷ entry.side.now.entries) (behind ahead on.0))
