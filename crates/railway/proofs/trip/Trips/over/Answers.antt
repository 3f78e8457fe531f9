use Rattle.railway.proofs.trip.Trips.over.Goals as goal
use Rattle.railway.proofs.Checking.{none_breaks}

pub invariant_of-result-clause-sound : goal.invariant_of-result-clause-sound
invariant_of-result-clause-sound c = none_breaks 0 c.args.trains.now c.requires.trains
