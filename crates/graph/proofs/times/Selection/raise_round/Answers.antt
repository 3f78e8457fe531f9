use Rattle.std.proofs.Common.{◌≡◌, ℕ, ◌+◌, ◌<◌, length, sym, subst, ◌∙◌, arith}
use Rattle.std.proofs.lemmas.Bool.{true≢false}
use Rattle.graph.specs.Views.{arc_of}
use Rattle.graph.proofs.Placed.{place_within}
use Rattle.graph.proofs.Rounding.{Rounding, round_skip, round_raise, round_all}
use Rattle.graph.proofs.times.Selection.raise_round.Goals as goal
use Rattle.graph.proofs.times.Selection.raise_round.Goals.{in-Some+then-raise_by, in-Some+else-raise_by, in_default, in-Some-arm_at+then-raise_by-2, in-Some-arm_at+else-raise_by-2, in_default-arm_at}

pub raise_by-requires : goal.raise_by-requires
raise_by-requires g c =
    let m = (g.S.CaseSource.means c.args.self.now.source.now) in
    let h : c.loop-at.at < length m.fixed + length m.pairs = omega arith in
    let b = place_within m c.args.self.now.arms.now c.loop-at.at (arc_of c.in-Some.arc) (g.met.S.CaseSource.within c.args.self.now.source.now) h c.in-Some.ensures in
    record { from = omega (arith, b.from_known); to = omega (arith, b.to_known) }

pub loop-at-preserved : goal.loop-at-preserved
loop-at-preserved g c =
    let m = (g.S.CaseSource.means c.args.self.now.source.now) in
    let h : c.loop-at.at < length m.fixed + length m.pairs = omega arith in
    elim c.match-fixed_at.branch [
      | in-Some+then-raise_by w ↦
          round_raise g.V.TimeMeasure.ranking g.met.V.TimeMeasure.bounded m (g.met.S.CaseSource.within c.args.self.now.source.now) c.args.self.now.arms.now g.V.TimeMeasure.rank c.args.times.now
          c.loop-at.times w.raise_by.new.times c.match-fixed_at.times c.loop-at.changed c.match-fixed_at.changed w.raise_by.result c.loop-at.at (arc_of w.in-Some.arc) h w.in-Some.ensures
          w.raise_by.ensures.raised w.raise_by.ensures.same w.raise_by.ensures.behind w.times-is (λ z. absurd (true≢false (sym w.changed-is ∙ z))) c.loop-at.invariant
      | in-Some+else-raise_by w ↦
          round_raise g.V.TimeMeasure.ranking g.met.V.TimeMeasure.bounded m (g.met.S.CaseSource.within c.args.self.now.source.now) c.args.self.now.arms.now g.V.TimeMeasure.rank c.args.times.now
          c.loop-at.times w.raise_by.new.times c.match-fixed_at.times c.loop-at.changed c.match-fixed_at.changed w.raise_by.result c.loop-at.at (arc_of w.in-Some.arc) h w.in-Some.ensures
          w.raise_by.ensures.raised w.raise_by.ensures.same w.raise_by.ensures.behind w.times-is (λ z. (sym w.changed-is ∙ z, w.if-raise_by.false)) c.loop-at.invariant
      | in_default w ↦
          round_skip g.V.TimeMeasure.ranking g.met.V.TimeMeasure.bounded m (g.met.S.CaseSource.within c.args.self.now.source.now) c.args.self.now.arms.now g.V.TimeMeasure.rank c.args.times.now
          c.loop-at.times c.match-fixed_at.times c.loop-at.changed c.match-fixed_at.changed c.loop-at.at h w.in_default.ensures w.times-is w.changed-is c.loop-at.invariant
    ]

pub raise_by-requires-in-Some-arm_at : goal.raise_by-requires-in-Some-arm_at
raise_by-requires-in-Some-arm_at g c =
    let m = (g.S.CaseSource.means c.args.self.now.source.now) in
    let h : c.loop-at-2.at < length m.fixed + length m.pairs = omega arith in
    let b = place_within m c.args.self.now.arms.now c.loop-at-2.at (arc_of c.in-Some-arm_at.arc) (g.met.S.CaseSource.within c.args.self.now.source.now) h c.in-Some-arm_at.ensures in
    record { from = omega (arith, b.from_known); to = omega (arith, b.to_known) }

pub loop-at-2-init : goal.loop-at-2-init
loop-at-2-init g c =
    let e : c.loop-at.at ≡ c.fixed_count-fixed.result = omega arith in
    subst (λ (i : ℕ). Rounding g.V.TimeMeasure.rank g.V.TimeMeasure.ranking (g.S.CaseSource.means c.args.self.now.source.now) c.args.self.now.arms.now c.args.times.now c.loop-at.times c.loop-at.changed i) e c.loop-at.invariant

pub loop-at-2-preserved : goal.loop-at-2-preserved
loop-at-2-preserved g c =
    let m = (g.S.CaseSource.means c.args.self.now.source.now) in
    let h : c.loop-at-2.at < length m.fixed + length m.pairs = omega arith in
    elim c.match-arm_at.branch [
      | in-Some-arm_at+then-raise_by-2 w ↦
          round_raise g.V.TimeMeasure.ranking g.met.V.TimeMeasure.bounded m (g.met.S.CaseSource.within c.args.self.now.source.now) c.args.self.now.arms.now g.V.TimeMeasure.rank c.args.times.now
          c.loop-at-2.times w.raise_by-in-Some-arm_at.new.times c.match-arm_at.times c.loop-at-2.changed c.match-arm_at.changed w.raise_by-in-Some-arm_at.result c.loop-at-2.at (arc_of w.in-Some-arm_at.arc) h w.in-Some-arm_at.ensures
          w.raise_by-in-Some-arm_at.ensures.raised w.raise_by-in-Some-arm_at.ensures.same w.raise_by-in-Some-arm_at.ensures.behind w.times-is (λ z. absurd (true≢false (sym w.changed-is ∙ z))) c.loop-at-2.invariant
      | in-Some-arm_at+else-raise_by-2 w ↦
          round_raise g.V.TimeMeasure.ranking g.met.V.TimeMeasure.bounded m (g.met.S.CaseSource.within c.args.self.now.source.now) c.args.self.now.arms.now g.V.TimeMeasure.rank c.args.times.now
          c.loop-at-2.times w.raise_by-in-Some-arm_at.new.times c.match-arm_at.times c.loop-at-2.changed c.match-arm_at.changed w.raise_by-in-Some-arm_at.result c.loop-at-2.at (arc_of w.in-Some-arm_at.arc) h w.in-Some-arm_at.ensures
          w.raise_by-in-Some-arm_at.ensures.raised w.raise_by-in-Some-arm_at.ensures.same w.raise_by-in-Some-arm_at.ensures.behind w.times-is (λ z. (sym w.changed-is ∙ z, w.if-raise_by-2.false)) c.loop-at-2.invariant
      | in_default-arm_at w ↦
          round_skip g.V.TimeMeasure.ranking g.met.V.TimeMeasure.bounded m (g.met.S.CaseSource.within c.args.self.now.source.now) c.args.self.now.arms.now g.V.TimeMeasure.rank c.args.times.now
          c.loop-at-2.times c.match-arm_at.times c.loop-at-2.changed c.match-arm_at.changed c.loop-at-2.at h w.in_default-arm_at.ensures w.times-is w.changed-is c.loop-at-2.invariant
    ]

pub returns : goal.returns
returns g c = record {
  raised = round_all g.V.TimeMeasure.ranking g.met.V.TimeMeasure.bounded (g.S.CaseSource.means c.args.self.now.source.now) (g.met.S.CaseSource.within c.args.self.now.source.now) c.args.self.now.arms.now g.V.TimeMeasure.rank c.args.times.now c.loop-at-2.times c.loop-at-2.changed c.loop-at-2.at (omega arith) c.loop-at-2.invariant;
  same = c.loop-at-2.invariant.still;
  behind = c.loop-at-2.invariant.behind;
}
