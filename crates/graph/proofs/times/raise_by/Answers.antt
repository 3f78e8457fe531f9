use Rattle.std.proofs.Common.{sym, refl}
use Rattle.std.proofs.lemmas.List.{drop-set-lt}
use Rattle.std.proofs.lemmas.Bool.{true≢false}
use Rattle.graph.specs.Views.{arc_of}
use Rattle.graph.proofs.Shown.{reaches, raised_up, raised_not}
use Rattle.graph.proofs.times.raise_by.Goals as goal

pub returns-then-is_below : goal.returns-then-is_below
returns-then-is_below g c = record {
  raised = λ n ts k s.
      let a = arc_of c.args.arc in
      let z = reaches g.V.TimeMeasure.rank g.V.TimeMeasure.ranking g.met.V.TimeMeasure.bounded n a c.args.times.now ts k s c.index-times-from.result c.of_arc.result c.plus-reached.result c.index-times-from.is c.of_arc.ensures c.plus-reached.ensures in
      raised_up g.V.TimeMeasure.rank g.V.TimeMeasure.ranking g.met.V.TimeMeasure.bounded n a c.args.times.now ts k s c.index-times-to.result c.plus-reached.result c.index-times-to.is z (sym c.if-is_below.ensures);
  same = λ e. absurd (true≢false e);
  behind = λ n h. drop-set-lt n c.args.times.now c.args.arc.to c.plus-reached.result h;
}

pub returns-else-is_below : goal.returns-else-is_below
returns-else-is_below g c = record {
  raised = λ n ts k s.
      let a = arc_of c.args.arc in
      let z = reaches g.V.TimeMeasure.rank g.V.TimeMeasure.ranking g.met.V.TimeMeasure.bounded n a c.args.times.now ts k s c.index-times-from.result c.of_arc.result c.plus-reached.result c.index-times-from.is c.of_arc.ensures c.plus-reached.ensures in
      raised_not g.V.TimeMeasure.rank g.V.TimeMeasure.ranking g.met.V.TimeMeasure.bounded n a c.args.times.now ts k s c.index-times-to.result c.plus-reached.result c.index-times-to.is z (sym c.if-is_below.ensures);
  same = λ e. refl;
  behind = λ n h. refl;
}
