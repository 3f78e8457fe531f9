use Rattle.std.proofs.Common.{arith}
use Rattle.std.proofs.lemmas.Grind.{common_steps}
use Rattle.railway.proofs.trip.Trip.running.Goals as goal
use Rattle.railway.proofs.Sums.{running_sum_is}

pub returns-clause-is : goal.returns-clause-is
returns-clause-is c = rw running_sum_is (grind (arith, common_steps))
