use Rattle.std.proofs.Common.{ℕ, List, subst}
use Rattle.bounds.specs.Told.{RankIs}
use Rattle.planner.proofs.Looks.{selected}
use Rattle.planner.proofs.walk.Problem.bound_of.Goals as goal

pub returns : goal.returns
returns g c =
    let p = c.args.self.now in
    let m = g.S.CaseSource.means p.source.now in
    record {
      answer = subst (λ (s : List ℕ). RankIs g.V.TimeMeasure.rank c.ask.result (g.B.Bound.meaning p.bound.now m s g.V.TimeMeasure.ranking)) (selected m (g.met.S.CaseSource.within p.source.now) c.args.arms) (c.ask.ensures.answer c.requires);
      behind = c.ask.ensures.behind;
    }
