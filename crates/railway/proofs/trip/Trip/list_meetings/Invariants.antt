use Rattle.std.proofs.Common.{◌≡◌, ◌+◌, ◌++◌, drop}
use Rattle.trains.specs.Railway.{trip_pairs}
use Rattle.railway.specs.Tables.{pairs_in}
use Rattle.railway.specs.Trips.{trip_of}
use Rattle.railway.proofs.trip.Trip.list_meetings.Given as goal

abbrev pub invariant-loop-at : goal.invariant-loop-at
invariant-loop-at l =
    pairs_in l.pairs ++ trip_pairs (trip_of l.self) (trip_of l.other) (l.self.first + l.at) (drop l.at l.self.steps.now)
    ≡ pairs_in l.initial.pairs ++ trip_pairs (trip_of l.self) (trip_of l.other) l.self.first l.self.steps.now
