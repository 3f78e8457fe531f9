use Rattle.planner.proofs.Looks.{plan_shown}
use Rattle.planner.proofs.walk.Problem.show.Goals as goal

pub returns-in-Some-clause-times : goal.returns-in-Some-clause-times
returns-in-Some-clause-times g c =
    let m = g.S.CaseSource.means c.args.self.now.source.now in
    plan_shown g.V.TimeMeasure.rank g.V.TimeMeasure.ranking m (g.met.S.CaseSource.within c.args.self.now.source.now) c.least_times.new.times c.args.table.now.plan c.in-Some.plan c.in-Some.is (c.least_times.ensures.told.times c.requires)
