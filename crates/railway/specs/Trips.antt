-- What the code's trips stand for. Assumes nothing.
use Rattle.std.specs.Prelude.{List}
use Rattle.trains.specs.Railway.{Trip, trips}
use Rattle.railway.specs.declared.trip.Trip.{Trip as TripRecord}
use Rattle.railway.specs.declared.trip.Trips.{Trips}

-- the trip that a record is
abbrev pub trip_of : TripRecord → Trip
trip_of t = record { kind = t.kind; entry = t.entry; due = t.due; steps = t.steps.now; first = t.first }

-- the trips that are left
abbrev pub trips_left : Trips → List Trip
trips_left s = trips s.first s.trains.now s.steps.now
