-- What the tables of a railway stand for. Assumes nothing.
use Rattle.std.specs.Prelude.{◌≡◌, ℕ, ◌+◌, ◌<◌, List, ◌++◌, map, length, take, Result, MatchResult}
use Rattle.graph.specs.Graph.{Arc, Pair}
use Rattle.graph.specs.Views.{arc_of, pair_of}
use Rattle.graph.specs.declared.arc.Arc.{Arc as ArcRecord}
use Rattle.graph.specs.declared.arc.Pair.{Pair as PairRecord}
use Rattle.railway.specs.declared.table.Table.{Table}
use Rattle.railway.specs.declared.table.Full.{Full}

-- the entries of a table
abbrev pub listed : {T : Type 0} {N : ℕ} → Table T N → List T
listed t = take t.len t.entries

-- the arcs of a table
abbrev pub arcs_in : {N : ℕ} → Table ArcRecord N → List Arc
arcs_in t = map arc_of (listed t)

-- the pairs of a table
abbrev pub pairs_in : {N : ℕ} → Table PairRecord N → List Pair
pairs_in t = map pair_of (listed t)

-- pairs that were added to a table of sixty entries, or that there would be more than sixty
abbrev pub Added : List Pair → Table PairRecord 60 → Table PairRecord 60 → Result (Unit {0}) Full → Type 0
Added new before after r =
    MatchResult r (λ _. pairs_in after ≡ pairs_in before ++ new) (λ _. 60 < length (listed before) + length new)
