-- What a bound that is asked answers and leaves. Assumes nothing.
use Rattle.std.specs.Prelude.{◌≡◌, ℕ, ◌+◌, ◌<◌, ◌≤◌, List, length, drop, ℤ, pos, Some, None, Option}
use Rattle.graph.specs.Graph.{Case, Ranking, selection_of}
use Rattle.bounds.specs.Bounds.{Meaning}

-- a value of that rank, or none for none
abbrev pub RankIs : {V : Type 0} → (V → ℤ) → Option V → Option ℤ → Type 0
RankIs rank None None = Unit {0}
RankIs rank None (Some z) = ⊥
RankIs rank (Some v) None = ⊥
RankIs rank (Some v) (Some z) = rank v ≡ z

-- with a place for each event, the answer is the meaning's; the arms are as they were, and so are the times behind those places; with fewer places, the answer is rank 0 and no time is written
pub record BoundTold {V : Type 0} (rank : V → ℤ) (r : Ranking) (c : Case) (m : Meaning) (arms arms' : List ℕ) (before after : List V) (found : Option V) : Type 0 where
  pub answer : c.end < length before → RankIs rank found (m c (selection_of c.pairs arms) r)
  pub same : arms' ≡ arms
  pub behind : drop (c.end + 1) after ≡ drop (c.end + 1) before
  pub short : length before ≤ c.end → RankIs rank found (Some (pos 0)) × (after ≡ before)
