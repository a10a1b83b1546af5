-- The replies of commands, one after another.
use Rattle.std.proofs.Common.{◌≡◌, ◌∙◌, ◌+◌, ◌<◌, ◌≤◌, ◌++◌, [], ◌∷◌, ℕ, List, length, get_or, drop, refl, sym, ap, add-one, drop-cons, append_assoc, append-nil}
use Rattle.std.proofs.lemmas.List.{drop_all}

-- from a state, with what a command replies in a state and the state after it
module _ {State Command : Type 0} (reply : State → Command → List ℕ) (after : State → Command → State) where
  abbrev pub replies : State → List Command → List ℕ
  replies s [] = []
  replies s (c ∷ cs) = reply s c ++ replies (after s c) cs

  -- replies so far, and those to the commands that are left
  pub replies-next : (whole out : List ℕ) (s : State) (cs : List Command) (i : ℕ) (c : Command) → i < length cs → c ≡ get_or cs i c
      → whole ≡ out ++ replies s (drop i cs) → whole ≡ (out ++ reply s c) ++ replies (after s c) (drop (i + 1) cs)
  replies-next whole out s cs i c h is so_far =
      let next : replies s (drop i cs) ≡ reply s c ++ replies (after s c) (drop (i + 1) cs) = rw (add-one, drop-cons cs i c, ← is) refl in
      so_far ∙ ap (λ rest. out ++ rest) next ∙ sym (append_assoc out (reply s c) _)

  pub replies-end : (whole out : List ℕ) (s : State) (cs : List Command) (i : ℕ) → length cs ≤ i → whole ≡ out ++ replies s (drop i cs) → whole ≡ out
  replies-end whole out s cs i h so_far = so_far ∙ rw (drop_all i cs h) (append-nil out)
