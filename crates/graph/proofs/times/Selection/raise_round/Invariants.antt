use Rattle.graph.proofs.Rounding.{Rounding}
use Rattle.graph.proofs.times.Selection.raise_round.Given as goal

abbrev pub invariant-loop-at : goal.invariant-loop-at
invariant-loop-at g l = Rounding g.V.TimeMeasure.rank g.V.TimeMeasure.ranking (g.S.CaseSource.means l.self.source.now) l.self.arms.now l.initial.times l.times l.changed l.at

abbrev pub invariant-loop-at-2 : goal.invariant-loop-at-2
invariant-loop-at-2 g l = Rounding g.V.TimeMeasure.rank g.V.TimeMeasure.ranking (g.S.CaseSource.means l.self.source.now) l.self.arms.now l.fn.times l.times l.changed l.at
