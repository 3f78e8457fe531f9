use Rattle.std.proofs.Common.{arith}
use Rattle.search.proofs.Nodes.{size_is, room_none}
use Rattle.planner.proofs.place.Place.start.Goals as goal

pub invariant_of-result : goal.invariant_of-result
invariant_of-result c = record { few = rw c.root.ensures (omega (arith, room_none 60, size_is 60)) }
