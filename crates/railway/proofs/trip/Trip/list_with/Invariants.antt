use Rattle.std.proofs.Common.{◌≡◌, ◌++◌}
use Rattle.trains.specs.Railway.{pairs_with}
use Rattle.railway.specs.Tables.{pairs_in}
use Rattle.railway.specs.Trips.{trip_of, trips_left}
use Rattle.railway.proofs.trip.Trip.list_with.Given as goal

abbrev pub invariant-loop-other : goal.invariant-loop-other
invariant-loop-other l =
    pairs_in l.pairs ++ pairs_with (trip_of l.self) (trips_left l.other-iterator)
    ≡ pairs_in l.initial.pairs ++ pairs_with (trip_of l.self) (trips_left l.fn.others)
