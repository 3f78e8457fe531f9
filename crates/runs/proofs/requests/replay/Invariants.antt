use Rattle.std.proofs.Common.{length, take, None}
use Rattle.search.specs.Search.{opened}
use Rattle.runs.specs.Left.{last_shown, TimesLeft}
use Rattle.runs.specs.Requests.{calls_of}
use Rattle.runs.proofs.Replaying.{Replayed}
use Rattle.runs.proofs.requests.replay.Given as goal

abbrev pub invariant-loop-request : goal.invariant-loop-request
invariant-loop-request g l =
    let means = λ (s : g.row.S.Denot). (g.S.CaseSource.means s) in
    let c = means l.initial.planner.source in
    let calls = calls_of (length l.initial.times) (take l.request-index l.requests) in
    record {
      ran : Replayed means g.V.TimeMeasure.rank g.V.TimeMeasure.ranking g.B.Bound.meaning l.initial.planner.source l.initial.planner.bound calls l.planner;
      left : TimesLeft g.V.TimeMeasure.rank c (last_shown c g.V.TimeMeasure.ranking (g.B.Bound.meaning l.initial.planner.bound) None (opened c) calls) l.initial.times l.times;
    }
