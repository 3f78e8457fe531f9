use Rattle.std.proofs.Common.{length, refl, arith}
use Rattle.planner.specs.View.{table_of}
use Rattle.planner.proofs.Making.{refused, accepted, release_no_pair, release_not_held, release_taken}
use Rattle.planner.proofs.calls.Planner.release.Goals as goal

pub returns-then-pair-pair_count : goal.returns-then-pair-pair_count
returns-then-pair-pair_count g c =
    let p = c.args.self.now in
    let m = (g.S.CaseSource.means p.source) in
    refused _ g.met.S.CaseSource.within _ _ g.met.V.TimeMeasure.bounded _ g.met.B.Bound.lower p _ _
    (release_no_pair m (table_of g.V.TimeMeasure.rank (length m.pairs) p.table) p.table.holds.places c.args.pair refl (omega arith))

pub returns-then-self-pair-eq0 : goal.returns-then-self-pair-eq0
returns-then-self-pair-eq0 g c =
    let p = c.args.self.now in
    let m = (g.S.CaseSource.means p.source) in
    refused _ g.met.S.CaseSource.within _ _ g.met.V.TimeMeasure.bounded _ g.met.B.Bound.lower p _ _
    (release_not_held m (table_of g.V.TimeMeasure.rank (length m.pairs) p.table) p.table.holds.places c.args.pair refl (omega arith) (omega arith))

pub returns : goal.returns
returns g c =
    let p = c.args.self.now in
    let m = (g.S.CaseSource.means p.source) in
    accepted _ g.met.S.CaseSource.within _ _ g.met.V.TimeMeasure.bounded _ g.met.B.Bound.lower p c.put.new.self _
    (release_taken m (table_of g.V.TimeMeasure.rank (length m.pairs) p.table) p.table.holds.places c.args.pair refl (omega arith) (λ e. omega arith))
    c.put.ensures.state c.put.ensures.source c.put.ensures.bound
