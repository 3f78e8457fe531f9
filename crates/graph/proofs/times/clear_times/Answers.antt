use Rattle.std.proofs.Common.{◌≡◌, ℕ, ◌+◌, replicate, subst, arith}
use Rattle.std.proofs.lemmas.List.{length-take-le}
use Rattle.std.proofs.lemmas.Slice.{drop-append-drop}
use Rattle.graph.specs.Views.{Shows}
use Rattle.graph.proofs.Shown.{shows_more, shows_zeros_more}
use Rattle.graph.proofs.times.clear_times.Goals as goal

pub loop-time-preserved : goal.loop-time-preserved
loop-time-preserved g c = shows_zeros_more g.V.TimeMeasure.rank c.loop-time.time-items c.loop-time.time-index c.zero.result (omega arith) c.zero.ensures c.loop-time.invariant

pub returns : goal.returns
returns g c =
    let n = (g.S.CaseSource.means c.args.source.now).end in
    let front = length-take-le _ c.args.times.now c.if-times-needed.false in
    let all : c.loop-time.time-index ≡ n + 1 = omega (arith, front) in
    let zeros = subst (λ (k : ℕ). Shows g.V.TimeMeasure.rank c.loop-time.time-items (replicate k 0)) all c.loop-time.invariant in
    record {
      room = omega arith;
      zeros = shows_more g.V.TimeMeasure.rank c.loop-time.time-items (replicate (n + 1) 0) _ zeros;
      behind = drop-append-drop _ c.args.times.now c.loop-time.time-items (n + 1) (omega arith) (omega (arith, front));
    }
