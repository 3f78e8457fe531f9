use Rattle.std.proofs.Common.{◌≡◌, ◌++◌, length}
use Rattle.trains.specs.Railway.{all_pairs}
use Rattle.railway.specs.Tables.{pairs_in}
use Rattle.railway.specs.Trips.{trips_left}
use Rattle.railway.proofs.pairs.list_pairs.Given as goal

abbrev pub invariant-loop-one : goal.invariant-loop-one
invariant-loop-one l = pairs_in l.pairs ++ all_pairs (trips_left l.later) ≡ all_pairs (trips_left l.fn.trips)

abbrev pub decreases-loop-one : goal.decreases-loop-one
decreases-loop-one l = length (trips_left l.later)
