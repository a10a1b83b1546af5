-- A search for a topological order: what is done, latest first, and the present walk, its last vertex first.
use Rattle.std.specs.Prelude.{◌≡◌, ◌⊎◌, ◌+◌, ◌*◌, ◌<◌, [], ◌∷◌, ℕ, Bool, true, false, List, None, Some, is_none, length, map, reverse}
use Rattle.std.specs.List.{Contains, filter}
use Rattle.std.specs.Ordering.{nat_cmp}
use Rattle.map_model.specs.Entries.{lookup}
use Rattle.graph_order.specs.Orders.{GoesForwards, IsEnd}
use Rattle.graph_order.specs.declared.search.Frame.{Frame}
use Rattle.graph_order.specs.declared.search.Search.{Search}

-- the vertices of a walk, each of which comes with the ends of its edges that have not been looked at
abbrev pub on_walk : List (ℕ × List ℕ) → List ℕ
on_walk walk = map (λ f. f.0) walk

-- what is over a vertex are ends of its edges, and so is what has not been looked at; each other end is done; no vertex comes twice
abbrev pub IsOpen : List (ℕ × ℕ) → List ℕ → List ℕ → List (ℕ × List ℕ) → Type 0
IsOpen g done over [] = Unit {0}
IsOpen g done over (f ∷ fs) = ((w : ℕ) → Contains f.1 w → Contains g (f.0, w))
    × ((w : ℕ) → Contains over w → Contains g (f.0, w))
    × ((w : ℕ) → Contains g (f.0, w) → Contains done w ⊎ (Contains f.1 w ⊎ Contains over w))
    × (¬ (Contains (on_walk fs) f.0))
    × IsOpen g done (f.0 ∷ []) fs

-- marks say what is done and what is on the walk, all of which are ends of edges; what is done goes forwards
pub record IsMarked (g : List (ℕ × ℕ)) (marks : List (ℕ × Bool)) (done walk : List ℕ) : Type 0 where
  pub forwards : GoesForwards g done
  pub marked_done : (v : ℕ) → lookup nat_cmp marks v ≡ Some true → Contains done v
  pub done_marked : (v : ℕ) → Contains done v → lookup nat_cmp marks v ≡ Some true
  pub marked_open : (v : ℕ) → lookup nat_cmp marks v ≡ Some false → Contains walk v
  pub open_marked : (v : ℕ) → Contains walk v → lookup nat_cmp marks v ≡ Some false
  pub ends : (v : ℕ) → Contains done v ⊎ Contains walk v → IsEnd g v

pub record IsSearching (g : List (ℕ × ℕ)) (marks : List (ℕ × Bool)) (done : List ℕ) (walk : List (ℕ × List ℕ)) : Type 0 where
  pub marked : IsMarked g marks done (on_walk walk)
  pub live : IsOpen g done [] walk

-- edges from vertices that are not marked
abbrev pub unseen : List (ℕ × ℕ) → List (ℕ × Bool) → List (ℕ × ℕ)
unseen g marks = filter (λ e. is_none (lookup nat_cmp marks e.0)) g

abbrev pub still_open : List (ℕ × List ℕ) → ℕ
still_open [] = 0
still_open (f ∷ fs) = 2 * length f.1 + 1 + still_open fs

abbrev pub to_look_at : List (ℕ × ℕ) → List (ℕ × Bool) → List (ℕ × List ℕ) → ℕ
to_look_at g marks walk = 2 * length (unseen g marks) + still_open walk

-- the walk of some frames
abbrev pub walk_of : List Frame → List (ℕ × List ℕ)
walk_of frames = reverse (map (λ f. (f.vertex, f.rest.items)) frames)

abbrev pub IsSearch : List (ℕ × ℕ) → Search → Type 0
IsSearch g s = IsSearching g s.marks (reverse s.done.items) (walk_of s.walk.items)

-- what is marked stays so: what is not was not before
abbrev pub Keeps : List (ℕ × Bool) → List (ℕ × Bool) → Type 0
Keeps old new = (v : ℕ) → lookup nat_cmp new v ≡ None → lookup nat_cmp old v ≡ None

-- a vertex has a mark
abbrev pub IsSeen : List (ℕ × Bool) → ℕ → Type 0
IsSeen marks v = ¬ (lookup nat_cmp marks v ≡ None)

-- a step has less to look at behind it, and keeps what is marked
abbrev pub IsNext : List (ℕ × ℕ) → Search → Search → Type 0
IsNext g old new = IsSearch g new × (to_look_at g new.marks (walk_of new.walk.items) < to_look_at g old.marks (walk_of old.walk.items)) × Keeps old.marks new.marks

-- a search that has come to an end has no vertex on its walk, and keeps what was marked
abbrev pub HasEnded : List (ℕ × ℕ) → Search → Search → Type 0
HasEnded g old new = IsSearch g new × (new.walk.items ≡ []) × Keeps old.marks new.marks

-- an edge leads from the last vertex of a walk back to one of it
abbrev pub Closes : List (ℕ × ℕ) → List ℕ → List (ℕ × List ℕ) → ℕ → Type 0
Closes g done walk w = IsOpen g done (w ∷ []) walk × Contains (on_walk walk) w
