use Rattle.std.proofs.Common.{arith}
use Rattle.planner.proofs.Joining.{take_turned}
use Rattle.planner.proofs.node.Node.turned_at.Goals as goal

pub returns : goal.returns
returns c =
    let s = c.args.self in
    rw c.with.ensures (take_turned s.depth c.args.at 2 s.arms.places c.requires (omega (arith, s.shallow, s.arms.sixty)))
