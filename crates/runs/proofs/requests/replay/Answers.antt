use Rattle.std.proofs.Common.{length, arith}
use Rattle.runs.specs.Requests.{calls_of}
use Rattle.runs.specs.declared.requests.Request.TheVariants.{Hold}
use Rattle.search.specs.Named.{planner_told}
use Rattle.runs.proofs.Leaving.{left_step}
use Rattle.runs.proofs.Replaying.{replayed_step, replayed_all, replayed_lawful}
use Rattle.runs.proofs.requests.replay.Goals as goal

pub loop-request-preserved : goal.loop-request-preserved
loop-request-preserved g c = record {
  ran = replayed_step g.S.CaseSource.means g.V.TimeMeasure.rank g.V.TimeMeasure.ranking g.B.Bound.meaning c.open-planner.result.source c.open-planner.result.bound
      c.args.requests.now c.loop-request.request-index (length c.args.times.now) (length c.loop-request.times) (Hold 0 0) (planner_told c.make.result) c.loop-request.planner c.make.new.planner
      c.loop-request-test.true c.loop-request.auto.times c.make.ensures.made c.loop-request.invariant.ran;
  left = left_step g.S.CaseSource.means g.V.TimeMeasure.rank g.V.TimeMeasure.ranking g.B.Bound.meaning c.open-planner.result.source c.open-planner.result.bound
      c.args.requests.now c.loop-request.request-index (length c.args.times.now) (length c.loop-request.times) (Hold 0 0) c.loop-request.planner c.args.times.now c.loop-request.times c.make.new.times
      c.loop-request-test.true c.loop-request.auto.times c.loop-request.invariant.ran c.make.ensures.left c.loop-request.invariant.left;
}

pub returns-clause-lawful : goal.returns-clause-lawful
returns-clause-lawful g c =
    replayed_lawful g.S.CaseSource.means g.V.TimeMeasure.rank g.V.TimeMeasure.ranking g.B.Bound.meaning c.args.source c.args.bound (calls_of (length c.args.times.now) c.args.requests.now) c.loop-request.planner
    (g.met.S.CaseSource.within c.args.source) g.met.V.TimeMeasure.bounded (g.met.B.Bound.lower c.args.bound)
    (replayed_all g.S.CaseSource.means g.V.TimeMeasure.rank g.V.TimeMeasure.ranking g.B.Bound.meaning c.args.source c.args.bound
    c.args.requests.now c.loop-request.request-index (length c.args.times.now) c.open-planner.result.source c.open-planner.result.bound c.loop-request.planner
    (omega arith) c.open-planner.ensures.source c.open-planner.ensures.bound c.loop-request.invariant.ran)
