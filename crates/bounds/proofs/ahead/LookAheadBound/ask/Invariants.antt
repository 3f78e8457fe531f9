use Rattle.bounds.proofs.Tried.{Trying}
use Rattle.bounds.proofs.ahead.LookAheadBound.ask.Given as goal

abbrev pub invariant-loop-pair : goal.invariant-loop-pair
invariant-loop-pair g l = Trying g.V.TimeMeasure.rank g.V.TimeMeasure.ranking (g.S.CaseSource.means l.source) l.initial.arms l.arms l.initial.times l.times l.best l.pair
