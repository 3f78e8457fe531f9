-- What each fault of a railway is in numbers. Assumes nothing.
use Rattle.std.specs.Prelude.{Option, Result}
use Rattle.graph.specs.Faults.{Fault, told_by}
use Rattle.trains.specs.declared.faults.RailwayFault.{RailwayFault}
use Rattle.trains.specs.declared.faults.RailwayFault.TheVariants as railway

-- layer, cause and place
abbrev pub of_railway : RailwayFault → Fault
of_railway railway.TooManyTrains = record { layer = 3; cause = 17; place = 12 }
of_railway (railway.Train k) = record { layer = 3; cause = 18; place = k }
of_railway (railway.Steps n) = record { layer = 3; cause = 19; place = n }
of_railway (railway.Step k) = record { layer = 3; cause = 20; place = k }
of_railway railway.TooManyPairs = record { layer = 3; cause = 21; place = 60 }

-- the fault that a call is refused with, if it is
abbrev pub railway_told : {T : Type 0} → Result T RailwayFault → Option Fault
railway_told = told_by of_railway
