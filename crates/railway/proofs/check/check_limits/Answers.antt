use Rattle.std.proofs.Common.{arith}
use Rattle.railway.proofs.check.check_limits.Goals as goal
use Rattle.railway.proofs.Checking.{first_train_fault}

pub returns-clause-sound : goal.returns-clause-sound
returns-clause-sound c = let h = c.in_default.ensures in record { few = c.if-trains-gt12.false; trains = grind (arith, first_train_fault); long = cc }
