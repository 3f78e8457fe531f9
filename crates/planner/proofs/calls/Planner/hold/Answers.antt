use Rattle.std.proofs.Common.{length, refl, inl, inr, arith}
use Rattle.planner.specs.View.{table_of}
use Rattle.planner.proofs.Making.{refused, accepted, hold_no_pair, hold_no_arm, hold_held, hold_taken}
use Rattle.planner.proofs.calls.Planner.hold.Goals as goal

pub returns-then-pair-pair_count : goal.returns-then-pair-pair_count
returns-then-pair-pair_count g c =
    let p = c.args.self.now in
    let m = (g.S.CaseSource.means p.source) in
    refused _ g.met.S.CaseSource.within _ _ g.met.V.TimeMeasure.bounded _ g.met.B.Bound.lower p _ _
    (hold_no_pair m (table_of g.V.TimeMeasure.rank (length m.pairs) p.table) p.table.holds.places c.args.pair refl c.args.arm (omega arith))

pub returns-then-arm-ne2 : goal.returns-then-arm-ne2
returns-then-arm-ne2 g c =
    let p = c.args.self.now in
    let m = (g.S.CaseSource.means p.source) in
    refused _ g.met.S.CaseSource.within _ _ g.met.V.TimeMeasure.bounded _ g.met.B.Bound.lower p _ _
    (hold_no_arm m (table_of g.V.TimeMeasure.rank (length m.pairs) p.table) p.table.holds.places c.args.pair refl c.args.arm (omega arith) (λ e. omega arith) (λ e. omega arith))

pub returns-then-self-pair-ne0 : goal.returns-then-self-pair-ne0
returns-then-self-pair-ne0 g c =
    let p = c.args.self.now in
    let m = (g.S.CaseSource.means p.source) in
    refused _ g.met.S.CaseSource.within _ _ g.met.V.TimeMeasure.bounded _ g.met.B.Bound.lower p _ _
    (hold_held m (table_of g.V.TimeMeasure.rank (length m.pairs) p.table) p.table.holds.places c.args.pair refl c.args.arm (omega arith) (elim c.else-arm-ne1.either [ inl h ↦ inr h.1 | inr h ↦ inl h ]) (λ e. omega arith))

pub returns : goal.returns
returns g c =
    let p = c.args.self.now in
    let m = (g.S.CaseSource.means p.source) in
    accepted _ g.met.S.CaseSource.within _ _ g.met.V.TimeMeasure.bounded _ g.met.B.Bound.lower p c.put.new.self _
    (hold_taken m (table_of g.V.TimeMeasure.rank (length m.pairs) p.table) p.table.holds.places c.args.pair refl c.args.arm (omega arith) (elim c.else-arm-ne1.either [ inl h ↦ inr h.1 | inr h ↦ inl h ]) (omega arith))
    c.put.ensures.state c.put.ensures.source c.put.ensures.bound
