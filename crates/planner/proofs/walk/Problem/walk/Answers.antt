use Rattle.std.proofs.Common.{arith}
use Rattle.planner.proofs.Walked.{walking_more, walking_stop}
use Rattle.planner.proofs.walk.Problem.walk.Goals as goal

pub loop-done-preserved : goal.loop-done-preserved
loop-done-preserved g c =
    let p = c.args.self.now in
    let l = c.loop-done in
    walking_more g.V.TimeMeasure.rank (g.S.CaseSource.means p.source.now) g.V.TimeMeasure.ranking (g.B.Bound.meaning p.bound.now) c.args.table.now c.args.times.now
    l.table c.examine.new.table c.in-Some.node l.times c.examine.new.times l.done c.in-Some.is c.examine.ensures l.invariant

pub returns-in_default-clause-stepped : goal.returns-in_default-clause-stepped
returns-in_default-clause-stepped g c =
    let p = c.args.self.now in
    let l = c.loop-done in
    walking_stop g.V.TimeMeasure.rank (g.S.CaseSource.means p.source.now) g.V.TimeMeasure.ranking (g.B.Bound.meaning p.bound.now) c.args.table.now c.args.times.now
    l.table l.times l.done c.args.budget (omega arith) c.in_default.is l.invariant
