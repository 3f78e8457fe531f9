use Rattle.std.proofs.Common.{not, ap, ◌∙◌}
use Rattle.graph.specs.Views.{arc_of}
use Rattle.graph.proofs.Shown.{reaches, kept_is}
use Rattle.graph.proofs.times.is_kept.Goals as goal

pub returns : goal.returns
returns g c n ts k s =
    let a = arc_of c.args.arc in
    let z = reaches g.V.TimeMeasure.rank g.V.TimeMeasure.ranking g.met.V.TimeMeasure.bounded n a c.args.times.now ts k s c.index-times-arc.result c.of_arc.result c.plus-reached.result c.index-times-arc.is c.of_arc.ensures c.plus-reached.ensures in
    ap not c.is_below.ensures ∙ kept_is g.V.TimeMeasure.rank g.V.TimeMeasure.ranking g.met.V.TimeMeasure.bounded n a c.args.times.now ts k s c.index-times-arc-2.result c.plus-reached.result c.index-times-arc-2.is z
