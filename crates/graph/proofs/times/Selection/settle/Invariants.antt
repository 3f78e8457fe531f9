use Rattle.graph.proofs.Settling.{Settling}
use Rattle.graph.proofs.times.Selection.settle.Given as goal

abbrev pub invariant-loop-round : goal.invariant-loop-round
invariant-loop-round g l = Settling g.V.TimeMeasure.rank g.V.TimeMeasure.ranking (g.S.CaseSource.means l.self.source.now) l.self.arms.now l.initial.times l.times l._round
