-- What the records of a case stand for. Assumes nothing.
use Rattle.std.specs.Prelude.{ℕ, List, [], map, slice_index, slice_index_or}
use Rattle.std.specs.Int.{w32}
use Rattle.std.proofs.Common.{to_z}
use Rattle.graph.specs.Graph.{Case}
use Rattle.graph.specs.Views.{arc_of, pair_of}
use Rattle.graph.specs.declared.arc.Arc.{Arc}
use Rattle.graph.specs.declared.arc.Pair.{Pair}
use Rattle.messages.specs.Message.{u16_at, u32_at}
use Rattle.sources.specs.declared.records.Records.{Records}

-- the arc in nine bytes
abbrev pub arc_in : List ℕ → Arc
arc_in bs = record { from = u16_at bs 0; to = u16_at bs 2; weight = to_z w32 (u32_at bs 4); mark = slice_index bs 8 }

-- the pair in two arcs of nine bytes
abbrev pub pair_in : List (List ℕ) → Pair
pair_in arms = record { first = arc_in (slice_index_or arms 0 []); second = arc_in (slice_index_or arms 1 []) }

-- the case that records list, by what an arc and a pair are read as
abbrev pub listed_by : {A P : Type 0} → (A → Arc) → (P → Pair) → Records A P → Case
listed_by arc pair r = record { end = r.end; fixed = map (λ a. arc_of (arc a)) r.fixed.now; pairs = map (λ p. pair_of (pair p)) r.pairs.now }
