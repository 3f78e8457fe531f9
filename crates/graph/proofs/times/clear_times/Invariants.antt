use Rattle.std.proofs.Common.{replicate}
use Rattle.graph.specs.Views.{Shows}
use Rattle.graph.proofs.times.clear_times.Given as goal

-- the times so far are zero
abbrev pub invariant-loop-time : goal.invariant-loop-time
invariant-loop-time g l = Shows g.V.TimeMeasure.rank l.time-items (replicate l.time-index 0)
