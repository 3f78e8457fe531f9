-- How many nodes are left to a walk. Assumes nothing.
use Rattle.std.specs.Prelude.{ℕ, zero, suc, ◌+◌, Bool, true, false, cond, List, [], ◌∷◌, Some, None, Option, ◌==◌}

-- the nodes of a full tree with q levels of branching
unfoldable pub size : ℕ → ℕ
size zero = 1
size (suc q) = size q + size q + 1

-- the nodes from x on, in order of a depth-first walk
unfoldable pub room : ℕ → List ℕ → ℕ
room q [] = size q
room zero (a ∷ x) = 0
room (suc q) (a ∷ x) = cond (a == 1) (room q x + size q) (room q x)

-- what is left to a walk that goes on at a node, if it does
abbrev pub room_after : ℕ → Option (List ℕ) → ℕ
room_after q None = 0
room_after q (Some x) = room q x

-- what is left to a walk that may have finished
abbrev pub left : Bool → ℕ → ℕ
left true n = 0
left false n = n
