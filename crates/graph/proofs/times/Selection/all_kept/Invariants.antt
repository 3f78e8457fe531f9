use Rattle.std.proofs.Common.{◌≡◌, ℕ, true, List, take}
use Rattle.graph.specs.Times.{kept_all}
use Rattle.graph.specs.Views.{Shows}
use Rattle.graph.specs.Steps.{Ready, places}
use Rattle.graph.proofs.Placed.{present}
use Rattle.graph.proofs.times.Selection.all_kept.Given as goal

abbrev pub invariant-loop-at : goal.invariant-loop-at
invariant-loop-at g l =
    (ts : List ℕ) → Ready (g.S.CaseSource.means l.self.source.now).end ts → Shows g.V.TimeMeasure.rank l.times ts
    → kept_all g.V.TimeMeasure.ranking ts (present (take l.at (places (g.S.CaseSource.means l.self.source.now) l.self.arms.now))) ≡ true

abbrev pub invariant-loop-at-2 : goal.invariant-loop-at-2
invariant-loop-at-2 g l =
    (ts : List ℕ) → Ready (g.S.CaseSource.means l.self.source.now).end ts → Shows g.V.TimeMeasure.rank l.times ts
    → kept_all g.V.TimeMeasure.ranking ts (present (take l.at (places (g.S.CaseSource.means l.self.source.now) l.self.arms.now))) ≡ true
