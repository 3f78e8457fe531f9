use Rattle.planner.specs.Nodes.{node_of}
use Rattle.planner.proofs.Joining.{Joining}
use Rattle.planner.proofs.node.Node.joined.Given as goal

abbrev pub invariant-loop-place : goal.invariant-loop-place
invariant-loop-place l = Joining l.holds.places (node_of l.self) l.place-items l.place-index l.rest
