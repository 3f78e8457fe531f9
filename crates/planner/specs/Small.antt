-- The tables of arms that a planner holds. Assumes nothing.
use Rattle.std.specs.Prelude.{ℕ, Bool, List, nat_le}
use Rattle.std.specs.List.{list_all}

-- no arm is past 2
abbrev pub small : List ℕ → Bool
small s = list_all (λ a. nat_le a 2) s
