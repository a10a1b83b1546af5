-- A search that goes from a vertex: with what it begins, and what it comes to.
use Rattle.std.proofs.Common.{◌≡◌, ℕ, Bool, true, false, true≢false, Option, None, Some, is_some, Result, Ok, Err, IfOk, MatchOption, List, [], reverse, refl, sym, subst}
use Rattle.std.proofs.lemmas.Bool.{false≢true}
use Rattle.std.specs.Ordering.{nat_cmp}
use Rattle.map_model.specs.Entries.{lookup}
use Rattle.graph_order.specs.Searches.{HasEnded, IsSearching, IsSeen, Keeps, walk_of}
use Rattle.graph_order.specs.declared.search.Frame.{Frame}
use Rattle.graph_order.specs.declared.search.Search.{Search}
use Rattle.graph_order.proofs.Searching.{nothing_searched, some_none}

pub none_begun : (g : List (ℕ × ℕ)) (marks : List (ℕ × Bool)) (done : List ℕ) (walk : List Frame) → marks ≡ [] → done ≡ [] → walk ≡ [] → IsSearching g marks (reverse done) (walk_of walk)
none_begun g marks done walk no_marks none_done no_walk =
    subst (λ (m : List (ℕ × Bool)). IsSearching g m (reverse done) (walk_of walk)) (sym no_marks)
    (subst (λ (d : List ℕ). IsSearching g [] (reverse d) (walk_of walk)) (sym none_done) (subst (λ (w : List Frame). IsSearching g [] [] (walk_of w)) (sym no_walk) (nothing_searched g)))

-- whether a vertex has a mark
pub is_there : (o : Option Bool) → is_some o ≡ true → ¬ (o ≡ None)
is_there None there none = false≢true there
is_there (Some b) there none = some_none (Some b) b refl none

pub not_there : (o : Option Bool) → is_some o ≡ false → o ≡ None
not_there None there = refl
not_there (Some b) there = absurd (true≢false there)

-- a search that goes on from one that has marked a vertex
pub gone_on : {E : Type 0} (g : List (ℕ × ℕ)) (old mid new : Search) (v : ℕ) (C : ℕ → Type 0) (r : Result (Option ℕ) E) → Keeps old.marks mid.marks → lookup nat_cmp mid.marks v ≡ Some false
    → IfOk r (λ found. MatchOption found (HasEnded g mid new) C) → IfOk r (λ found. MatchOption found (HasEnded g old new × IsSeen new.marks v) C)
gone_on g old mid new v C (Ok None) kept marked h = ((h.0, h.1, λ u none. kept u (h.2 u none)), λ none. some_none (lookup nat_cmp mid.marks v) false marked (h.2 v none))
gone_on g old mid new v C (Ok (Some w)) kept marked h = h
gone_on g old mid new v C (Err e) kept marked h = h
