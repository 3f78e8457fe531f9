use Rattle.std.proofs.Common.{◌≡◌, ◌+◌, ◌++◌, drop}
use Rattle.trains.specs.Railway.{step_pairs}
use Rattle.railway.specs.Tables.{pairs_in}
use Rattle.railway.specs.Trips.{trip_of}
use Rattle.railway.proofs.trip.Trip.list_step.Given as goal

abbrev pub invariant-loop-at : goal.invariant-loop-at
invariant-loop-at l =
    pairs_in l.pairs ++ step_pairs (trip_of l.self) (trip_of l.other) l.begins l.step (l.other.first + l.at) (drop l.at l.other.steps.now)
    ≡ pairs_in l.initial.pairs ++ step_pairs (trip_of l.self) (trip_of l.other) l.begins l.step l.other.first l.other.steps.now
