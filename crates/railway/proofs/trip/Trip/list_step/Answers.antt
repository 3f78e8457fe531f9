use Rattle.std.proofs.Common.{arith}
use Rattle.std.proofs.lemmas.Grind.{common_steps}
use Rattle.std.proofs.lemmas.Result.{err_from_is_err_and}
use Rattle.railway.proofs.trip.Trip.list_step.Goals as goal
use Rattle.railway.proofs.Tables.{too_many}

pub returns-in_err-try_push : goal.returns-in_err-try_push
returns-in_err-try_push c =
    let p = err_from_is_err_and c.from_residual.result c.from_residual.ensures.1 in
    let h = c.in_err-try_push.ensures in
    rw p.1 (grind (arith, common_steps, too_many))
