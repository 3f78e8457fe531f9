-- The steps by which least times are worked out, for the contracts of functions inside the crate. Assumes nothing.
use Rattle.std.specs.Prelude.{◌≡◌, ℕ, ◌+◌, ◌^◌, ◌<◌, ◌≤◌, Bool, false, List, [], ◌∷◌, ◌++◌, map, length, drop, replicate, ℤ, is_some, Some, None, Option}
use Rattle.std.specs.List.{AllByRecursion}
use Rattle.graph.specs.Graph.{Arc, Pair, Case, ArcWithin, Ranking, selection_of, arcs}
use Rattle.graph.specs.Times.{raised_by, rounds, least_times}
use Rattle.graph.specs.Times as Times
use Rattle.graph.specs.Views.{arm_of, Shows}

-- for each pair the arm that a table of arms selects, if any
abbrev pub arms_of : List Pair → List ℕ → List (Option Arc)
arms_of [] s = []
arms_of (p ∷ ps) [] = None ∷ arms_of ps []
arms_of (p ∷ ps) (a ∷ s) = arm_of a p ∷ arms_of ps s

-- the fixed arcs, then an entry for each pair
abbrev pub places : Case → List ℕ → List (Option Arc)
places c s = map Some c.fixed ++ arms_of c.pairs s

-- the fixed arcs, then the arms that a table of arms selects
abbrev pub arcs_of : Case → List ℕ → List Arc
arcs_of c s = arcs c (selection_of c.pairs s)

-- what stands after the last round
abbrev pub last_times : Ranking → Case → List ℕ → List ℕ
last_times r c s = rounds r (arcs_of c s) c.end (replicate (c.end + 1) 0)

-- times that an arc within the limits can raise with no sum out of range
pub record Raisable (end : ℕ) (a : Arc) (ts : List ℕ) : Type 0 where
  pub within : ArcWithin end a
  pub from_shown : a.from < length ts
  pub to_shown : a.to < length ts
  pub low : AllByRecursion (λ t. t ≤ 2 ^ 59) ts

-- times that a round can raise with no sum out of range
pub record Ready (end : ℕ) (ts : List ℕ) : Type 0 where
  pub len : length ts ≡ end + 1
  pub low : AllByRecursion (λ t. t ≤ 2 ^ 58) ts

-- a raise by one arc: of shown times, while sums stay in range; where nothing changed, nothing was written; nothing behind the arc's end is written
pub record ArcRaised {V : Type 0} (rank : V → ℤ) (r : Ranking) (a : Arc) (before after : List V) (changed : Bool) : Type 0 where
  pub raised : (n : ℕ) (ts : List ℕ) → Raisable n a ts → Shows rank before ts → Shows rank after (raised_by r ts a)
  pub same : changed ≡ false → after ≡ before
  pub behind : (n : ℕ) → a.to < n → drop n after ≡ drop n before

-- a raise by every arc once
pub record RoundRaised {V : Type 0} (rank : V → ℤ) (r : Ranking) (c : Case) (arms : List ℕ) (before after : List V) (changed : Bool) : Type 0 where
  pub raised : (ts : List ℕ) → Ready c.end ts → Shows rank before ts → Shows rank after (Times.raised r ts (arcs_of c arms))
  pub same : changed ≡ false → after ≡ before
  pub behind : drop (c.end + 1) after ≡ drop (c.end + 1) before

-- all the rounds
pub record RoundsMade {V : Type 0} (rank : V → ℤ) (r : Ranking) (c : Case) (arms : List ℕ) (before after : List V) : Type 0 where
  pub raised : Shows rank after (last_times r c arms)
  pub behind : drop (c.end + 1) after ≡ drop (c.end + 1) before

-- a look at what the rounds have left
abbrev pub LookedAt : {V : Type 0} → (V → ℤ) → Ranking → Case → List ℕ → List V → Bool → Type 0
LookedAt rank r c arms vs found = Shows rank vs (last_times r c arms) → found ≡ is_some (least_times r c (selection_of c.pairs arms))
