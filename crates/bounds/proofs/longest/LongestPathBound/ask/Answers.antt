use Rattle.std.proofs.Common.{◌≡◌, ℕ, true, is_some, refl, arith}
use Rattle.graph.specs.Graph.{selection_of}
use Rattle.graph.specs.Times.{least_times}
use Rattle.bounds.proofs.Asked.{longest_read}
use Rattle.bounds.proofs.longest.LongestPathBound.ask.Goals as goal

pub returns-in-Ok-true : goal.returns-in-Ok-true
returns-in-Ok-true g c =
    let m = g.S.CaseSource.means c.args.source.now in
    let r = g.V.TimeMeasure.ranking in
    let s = selection_of m.pairs c.args.arms.now in
    let told = c.in-Ok-true.ensures.told in
    record {
      answer = λ h.
          let e = told.answer h in
          let b : true ≡ is_some (least_times r m s) = cc in
          longest_read g.V.TimeMeasure.rank c.least_times.new.times r m s c.end.result c.index-times-end.result (g.met.S.CaseSource.within c.args.source.now) b (told.times h) c.end.ensures c.index-times-end.is;
      same = refl;
      behind = told.behind;
      short = λ h. let e = (told.short h).0 in let z : ◌≡◌ {A = ℕ} 0 1 = cc in absurd (omega arith);
    }
