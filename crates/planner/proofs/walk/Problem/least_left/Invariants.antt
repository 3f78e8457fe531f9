use Rattle.std.proofs.Common.{length, take}
use Rattle.search.specs.Search.{plan_delay}
use Rattle.planner.specs.Nodes.{node_of}
use Rattle.planner.specs.View.{plan_of}
use Rattle.planner.proofs.Lowest.{Lowering}
use Rattle.planner.proofs.walk.Problem.least_left.Given as goal

abbrev pub invariant-loop-at : goal.invariant-loop-at
invariant-loop-at g l =
    let c = (g.S.CaseSource.means l.self.source.now) in
    Lowering g.V.TimeMeasure.rank c g.V.TimeMeasure.ranking (g.B.Bound.meaning l.self.bound.now) (take (length c.pairs) l.table.holds.places) (node_of l.fn.node) (plan_delay (plan_of g.V.TimeMeasure.rank (length c.pairs) l.table.plan)) l.initial.times l.times l.least l.at
