-- Orders of the vertices of a graph in which each edge goes forwards, and cycles, for which there is none.
use Rattle.std.specs.Prelude.{◌≡◌, ◌↔◌, ◌⊎◌, ◌++◌, [], ◌∷◌, ℕ, List}
use Rattle.std.specs.List.{Contains}
use Rattle.graph_snap.specs.Walks.{IsWalk}

-- a vertex is an end of an edge
abbrev pub IsEnd : List (ℕ × ℕ) → ℕ → Type 0
IsEnd g v = (w : ℕ) × (Contains g (v, w) ⊎ Contains g (w, v))

-- behind each vertex stand all that an edge leads to from it, and it doesn't stand there again
abbrev pub GoesForwards : List (ℕ × ℕ) → List ℕ → Type 0
GoesForwards g [] = Unit {0}
GoesForwards g (v ∷ vs) = ((w : ℕ) → Contains g (v, w) → Contains vs w) × (¬ (Contains vs v)) × GoesForwards g vs

-- the ends of all edges, in such an order
pub record IsTopologicalOrder (g : List (ℕ × ℕ)) (order : List ℕ) : Type 0 where
  pub ends : (v : ℕ) → Contains order v ↔ IsEnd g v
  pub forwards : GoesForwards g order

-- no vertex comes twice
abbrev pub AreDistinct : List ℕ → Type 0
AreDistinct [] = Unit {0}
AreDistinct (v ∷ vs) = (¬ (Contains vs v)) × AreDistinct vs

-- vertices of which each has an edge to the next, and the last to the first; none comes twice
pub record IsCycle (g : List (ℕ × ℕ)) (cycle : List ℕ) : Type 0 where
  pub first : ℕ
  pub later : List ℕ
  pub begins : cycle ≡ first ∷ later
  pub walks : IsWalk g first (later ++ first ∷ []) first
  pub distinct : AreDistinct cycle
