use Rattle.std.proofs.Common.{◌≡◌, ℕ, ◌+◌, ◌<◌, true, length, take, sym, subst, ◌∙◌, arith}
use Rattle.graph.specs.Times.{kept_all}
use Rattle.graph.specs.Steps.{places}
use Rattle.graph.specs.Views.{arc_of}
use Rattle.graph.proofs.Placed.{place_within, present}
use Rattle.graph.proofs.Rounding.{raisable_now, kept_skip, kept_more, kept_all_lem, kept_fails}
use Rattle.graph.proofs.times.Selection.all_kept.Goals as goal
use Rattle.graph.proofs.times.Selection.all_kept.Goals.{in-Some+else-not-is_kept, in_default, in-Some-arm_at+else-not-is_kept-2, in_default-arm_at}

pub is_kept-requires : goal.is_kept-requires
is_kept-requires g c =
    let m = (g.S.CaseSource.means c.args.self.now.source.now) in
    let h : c.loop-at.at < length m.fixed + length m.pairs = omega arith in
    let b = place_within m c.args.self.now.arms.now c.loop-at.at (arc_of c.in-Some.arc) (g.met.S.CaseSource.within c.args.self.now.source.now) h c.in-Some.ensures in
    record { from = omega (arith, b.from_known); to = omega (arith, b.to_known) }

pub returns-then-not-is_kept : goal.returns-then-not-is_kept
returns-then-not-is_kept g c ts d s =
    let m = (g.S.CaseSource.means c.args.self.now.source.now) in
    let a = arc_of c.in-Some.arc in
    let h : c.loop-at.at < length m.fixed + length m.pairs = omega arith in
    let k = raisable_now g.V.TimeMeasure.ranking g.met.V.TimeMeasure.bounded m (g.met.S.CaseSource.within c.args.self.now.source.now) c.args.self.now.arms.now ts c.loop-at.at a d h c.in-Some.ensures in
    sym (kept_fails g.V.TimeMeasure.ranking g.met.V.TimeMeasure.bounded m (g.met.S.CaseSource.within c.args.self.now.source.now) c.args.self.now.arms.now ts c.loop-at.at a h c.in-Some.ensures (sym (c.is_kept.ensures m.end ts k s) ∙ c.if-not-is_kept.true))

pub loop-at-preserved : goal.loop-at-preserved
loop-at-preserved g c ts d s =
    let m = (g.S.CaseSource.means c.args.self.now.source.now) in
    let h : c.loop-at.at < length m.fixed + length m.pairs = omega arith in
    elim c.match-fixed_at.branch [
      | in-Some+else-not-is_kept w ↦
          let a = arc_of w.in-Some.arc in
          let k = raisable_now g.V.TimeMeasure.ranking g.met.V.TimeMeasure.bounded m (g.met.S.CaseSource.within c.args.self.now.source.now) c.args.self.now.arms.now ts c.loop-at.at a d h w.in-Some.ensures in
          kept_more g.V.TimeMeasure.ranking g.met.V.TimeMeasure.bounded m (g.met.S.CaseSource.within c.args.self.now.source.now) c.args.self.now.arms.now ts c.loop-at.at a h w.in-Some.ensures
          (sym (w.is_kept.ensures m.end ts k s) ∙ w.if-not-is_kept.false) (c.loop-at.invariant ts d s)
      | in_default w ↦
          kept_skip g.V.TimeMeasure.ranking g.met.V.TimeMeasure.bounded m (g.met.S.CaseSource.within c.args.self.now.source.now) c.args.self.now.arms.now ts c.loop-at.at h w.in_default.ensures (c.loop-at.invariant ts d s)
    ]

pub is_kept-requires-in-Some-arm_at : goal.is_kept-requires-in-Some-arm_at
is_kept-requires-in-Some-arm_at g c =
    let m = (g.S.CaseSource.means c.args.self.now.source.now) in
    let h : c.loop-at-2.at < length m.fixed + length m.pairs = omega arith in
    let b = place_within m c.args.self.now.arms.now c.loop-at-2.at (arc_of c.in-Some-arm_at.arc) (g.met.S.CaseSource.within c.args.self.now.source.now) h c.in-Some-arm_at.ensures in
    record { from = omega (arith, b.from_known); to = omega (arith, b.to_known) }

pub returns-then-not-is_kept-2 : goal.returns-then-not-is_kept-2
returns-then-not-is_kept-2 g c ts d s =
    let m = (g.S.CaseSource.means c.args.self.now.source.now) in
    let a = arc_of c.in-Some-arm_at.arc in
    let h : c.loop-at-2.at < length m.fixed + length m.pairs = omega arith in
    let k = raisable_now g.V.TimeMeasure.ranking g.met.V.TimeMeasure.bounded m (g.met.S.CaseSource.within c.args.self.now.source.now) c.args.self.now.arms.now ts c.loop-at-2.at a d h c.in-Some-arm_at.ensures in
    sym (kept_fails g.V.TimeMeasure.ranking g.met.V.TimeMeasure.bounded m (g.met.S.CaseSource.within c.args.self.now.source.now) c.args.self.now.arms.now ts c.loop-at-2.at a h c.in-Some-arm_at.ensures (sym (c.is_kept-in-Some-arm_at.ensures m.end ts k s) ∙ c.if-not-is_kept-2.true))

pub loop-at-2-init : goal.loop-at-2-init
loop-at-2-init g c ts d s =
    let m = (g.S.CaseSource.means c.args.self.now.source.now) in
    let e : c.loop-at.at ≡ c.fixed_count-fixed.result = omega arith in
    subst (λ (i : ℕ). kept_all g.V.TimeMeasure.ranking ts (present (take i (places m c.args.self.now.arms.now))) ≡ true) e (c.loop-at.invariant ts d s)

pub loop-at-2-preserved : goal.loop-at-2-preserved
loop-at-2-preserved g c ts d s =
    let m = (g.S.CaseSource.means c.args.self.now.source.now) in
    let h : c.loop-at-2.at < length m.fixed + length m.pairs = omega arith in
    elim c.match-arm_at.branch [
      | in-Some-arm_at+else-not-is_kept-2 w ↦
          let a = arc_of w.in-Some-arm_at.arc in
          let k = raisable_now g.V.TimeMeasure.ranking g.met.V.TimeMeasure.bounded m (g.met.S.CaseSource.within c.args.self.now.source.now) c.args.self.now.arms.now ts c.loop-at-2.at a d h w.in-Some-arm_at.ensures in
          kept_more g.V.TimeMeasure.ranking g.met.V.TimeMeasure.bounded m (g.met.S.CaseSource.within c.args.self.now.source.now) c.args.self.now.arms.now ts c.loop-at-2.at a h w.in-Some-arm_at.ensures
          (sym (w.is_kept-in-Some-arm_at.ensures m.end ts k s) ∙ w.if-not-is_kept-2.false) (c.loop-at-2.invariant ts d s)
      | in_default-arm_at w ↦
          kept_skip g.V.TimeMeasure.ranking g.met.V.TimeMeasure.bounded m (g.met.S.CaseSource.within c.args.self.now.source.now) c.args.self.now.arms.now ts c.loop-at-2.at h w.in_default-arm_at.ensures (c.loop-at-2.invariant ts d s)
    ]

pub returns : goal.returns
returns g c ts d s =
    let m = (g.S.CaseSource.means c.args.self.now.source.now) in
    sym (kept_all_lem g.V.TimeMeasure.ranking g.met.V.TimeMeasure.bounded m (g.met.S.CaseSource.within c.args.self.now.source.now) c.args.self.now.arms.now ts c.loop-at-2.at (omega arith) (c.loop-at-2.invariant ts d s))
