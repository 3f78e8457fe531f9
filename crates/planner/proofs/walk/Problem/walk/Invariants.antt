use Rattle.planner.proofs.Walked.{Walking}
use Rattle.planner.proofs.walk.Problem.walk.Given as goal

abbrev pub invariant-loop-done : goal.invariant-loop-done
invariant-loop-done g l = Walking g.V.TimeMeasure.rank (g.S.CaseSource.means l.self.source.now) g.V.TimeMeasure.ranking (g.B.Bound.meaning l.self.bound.now) l.initial.table l.table l.initial.times l.times l.done
