-- The case that is listed. Assumes nothing.
use Rattle.std.specs.Prelude.{ℕ, List, map}
use Rattle.graph.specs.Graph.{Case}
use Rattle.messages.specs.Message.{listed_fault, unless_faulty}
use Rattle.graph.specs.Views.{arc_of, pair_of}
use Rattle.graph.specs.declared.arc.Arc.{Arc as ArcRecord}
use Rattle.graph.specs.declared.arc.Pair.{Pair as PairRecord}

-- the case that records list, not yet checked
abbrev pub listed : ℕ → List ArcRecord → List PairRecord → Case
listed n fs ps = record { end = n; fixed = map arc_of fs; pairs = map pair_of ps }

-- the case that records mean: the empty case where the check refuses them
abbrev pub listed_case : ℕ → List ArcRecord → List PairRecord → Case
listed_case n fs ps = unless_faulty (listed n fs ps) (listed_fault (listed n fs ps))
