use Rattle.std.proofs.Common.{length, ap, append_assoc, arith}
use Rattle.trains.specs.Railway.{all_arcs}
use Rattle.railway.proofs.fixed.list_fixed.Goals as goal

pub loop-trip-preserved : goal.loop-trip-preserved
loop-trip-preserved c =
    let left = ap length c.in-Some.ensures.steps in
    let more = ap (all_arcs c.args.end) c.in-Some.ensures.steps in
    record { room = omega (arith, left, c.list_arcs.ensures.count); moved = rw c.list_arcs.ensures.arcs (rw append_assoc (rw more at c.loop-trip.invariant.moved)) }
