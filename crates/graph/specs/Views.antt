-- What the code's values stand for. Assumes nothing.
use Rattle.std.specs.Prelude.{◌≡◌, ℕ, ◌-◌, ◌^◌, cond, List, [], ◌∷◌, ℤ, pos, negsuc, ◌≤ℤ◌, Some, None, Option, ◌==◌}
use Rattle.std.specs.List.{slice_get}
use Rattle.graph.specs.Graph.{Arc, Pair}
use Rattle.graph.specs.declared.arc.Arc.{Arc as ArcRecord}
use Rattle.graph.specs.declared.arc.Pair.{Pair as PairRecord}

-- the arc that a record is
abbrev pub arc_of : ArcRecord → Arc
arc_of a = record { from = a.from; to = a.to; weight = a.weight; mark = a.mark }

-- the pair that a record is
abbrev pub pair_of : PairRecord → Pair
pair_of p = record { first = arc_of p.first; second = arc_of p.second }

-- an arc that was asked for, or that there is none
abbrev pub arc_found : Option ArcRecord → Option Arc
arc_found None = None
arc_found (Some a) = Some (arc_of a)

-- arm 1 of a pair is its first arc, arm 2 its second; there is no other
abbrev pub arm_of : ℕ → Pair → Option Arc
arm_of a p = cond (a == 1) (Some p.first) (cond (a == 2) (Some p.second) None)

-- arm a of a pair that was looked for
abbrev pub arm_found : ℕ → Option Pair → Option Arc
arm_found a None = None
arm_found a (Some p) = arm_of a p

-- arm a of pair i, or that there is none
abbrev pub arm_at : List Pair → ℕ → ℕ → Option Arc
arm_at ps i a = arm_found a (slice_get ps i)

-- a rank that sums may be made of
pub record Summable (z : ℤ) : Type 0 where
  pub not_below : negsuc (2 ^ 60 - 1) ≤ℤ z
  pub not_above : z ≤ℤ pos (2 ^ 60)

-- the first values have the ranks ts
abbrev pub Shows : {V : Type 0} → (V → ℤ) → List V → List ℕ → Type 0
Shows rank vs [] = Unit {0}
Shows rank [] (t ∷ ts) = ⊥
Shows rank (v ∷ vs) (t ∷ ts) = (rank v ≡ pos t) × Shows rank vs ts
