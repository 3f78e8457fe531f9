use Rattle.std.proofs.Common.{length, refl, inl, inr, arith, rules}
use Rattle.planner.specs.View.{view, table_of}
use Rattle.planner.proofs.Making.{refused, accepted, advanced, search_finished, search_budget, search_places, search_taken}
use Rattle.search.specs.Search.{walked}
use Rattle.planner.proofs.Walked.{shown_is}
use Rattle.planner.proofs.calls.Planner.search.Goals as goal

pub returns-then-is_none-clause-made : goal.returns-then-is_none-clause-made
returns-then-is_none-clause-made g c =
    let p = c.args.self.now in
    let m = (g.S.CaseSource.means p.source) in
    refused _ g.met.S.CaseSource.within _ _ g.met.V.TimeMeasure.bounded _ g.met.B.Bound.lower p _ _
    (search_finished m (table_of g.V.TimeMeasure.rank (length m.pairs) p.table) c.args.budget (length c.args.times.now) (search rules))

pub returns-then-budget-eq0-clause-made : goal.returns-then-budget-eq0-clause-made
returns-then-budget-eq0-clause-made g c =
    let p = c.args.self.now in
    let m = (g.S.CaseSource.means p.source) in
    refused _ g.met.S.CaseSource.within _ _ g.met.V.TimeMeasure.bounded _ g.met.B.Bound.lower p _ _
    (search_budget m (table_of g.V.TimeMeasure.rank (length m.pairs) p.table) c.args.budget (length c.args.times.now) (search rules) (elim c.then-budget-eq0.either [ inl h ↦ inl h | inr h ↦ inr h.1 ]))

pub returns-then-times-end-clause-made : goal.returns-then-times-end-clause-made
returns-then-times-end-clause-made g c =
    let p = c.args.self.now in
    let m = (g.S.CaseSource.means p.source) in
    refused _ g.met.S.CaseSource.within _ _ g.met.V.TimeMeasure.bounded _ g.met.B.Bound.lower p _ _
    (search_places m (table_of g.V.TimeMeasure.rank (length m.pairs) p.table) c.args.budget (length c.args.times.now) (search rules) (λ e. omega arith) (omega arith) (omega arith))

pub returns-clause-made : goal.returns-clause-made
returns-clause-made g c =
    let rank = g.V.TimeMeasure.rank in
    let r = g.V.TimeMeasure.ranking in
    let p = c.args.self.now in
    let m = (g.S.CaseSource.means p.source) in
    let b = g.B.Bound.meaning p.bound in
    accepted _ g.met.S.CaseSource.within _ _ g.met.V.TimeMeasure.bounded _ g.met.B.Bound.lower p _ _
    (search_taken m (table_of g.V.TimeMeasure.rank (length m.pairs) p.table) c.args.budget (length c.args.times.now) (search rules) (λ e. omega arith) (omega arith) (omega arith))
    (shown_is rank m r b c.walk-nodes.new.table c.lower_after-self.result (walked m r b c.args.budget (view g.S.CaseSource.means rank p)) c.walk-nodes.ensures.stepped.state c.lower_after-self.ensures.answer) refl refl

pub returns-clause-progress : goal.returns-clause-progress
returns-clause-progress g c =
    let rank = g.V.TimeMeasure.rank in
    let r = g.V.TimeMeasure.ranking in
    let p = c.args.self.now in
    let m = g.S.CaseSource.means p.source in
    let b = g.B.Bound.meaning p.bound in
    advanced m r b (g.met.S.CaseSource.within p.source) g.met.V.TimeMeasure.bounded (g.met.B.Bound.lower p.bound) c.args.budget (view g.S.CaseSource.means rank p) _
    (shown_is rank m r b c.walk-nodes.new.table c.lower_after-self.result (walked m r b c.args.budget (view g.S.CaseSource.means rank p)) c.walk-nodes.ensures.stepped.state c.lower_after-self.ensures.answer)
