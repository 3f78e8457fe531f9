use Rattle.std.proofs.Common.{◌<◌, length, sym, ◌∙◌, arith}
use Rattle.graph.specs.Graph.{selection_of}
use Rattle.graph.specs.Times.{least_times}
use Rattle.graph.proofs.Raise.{times_laws}
use Rattle.session.proofs.Refilled.{times_found}
use Rattle.session.proofs.cases.times_of.Goals as goal

pub returns-in_err-times-clause-law : goal.returns-in_err-times-clause-law
returns-in_err-times-clause-law g c =
    let m = g.S.CaseSource.means c.args.source.now in times_laws g.V.TimeMeasure.ranking m (selection_of m.pairs c.args.arms.now) (g.met.S.CaseSource.within c.args.source.now)

pub returns-clause-found : goal.returns-clause-found
returns-clause-found g c =
    let m = g.S.CaseSource.means c.args.source.now in
    let rank = g.V.TimeMeasure.rank in
    let r = g.V.TimeMeasure.ranking in
    let s = selection_of m.pairs c.args.arms.now in
    let told = c.least_times.ensures.told in
    let room : m.end < length c.as_mut_slice.result.now = omega (arith, c.as_mut_slice.ensures.len, c.in_ok-times.ensures.len, c.end.ensures) in
    rw c.then_some.ensures
    (times_found rank r m s c.unwrap-found.result (least_times r m s) (times_laws r m s (g.met.S.CaseSource.within c.args.source.now)) c.in_ok-times.times c.least_times.new.times (sym c.unwrap-found.ensures ∙ told.answer room)
    (omega (arith, c.in_ok-times.ensures.len, c.end.ensures)) (omega (arith, c.least_times.auto.times, c.as_mut_slice.ensures.len)) (told.times room))
