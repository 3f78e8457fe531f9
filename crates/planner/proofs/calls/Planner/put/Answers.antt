use Rattle.std.proofs.Common.{length, take, refl, ap, ◌∙◌}
use Rattle.search.specs.Search.{fresh}
use Rattle.planner.proofs.Joining.{take_set}
use Rattle.planner.proofs.calls.Planner.put.Goals as goal

pub returns : goal.returns
returns g c =
    let p = c.args.self.now in
    let n = length (g.S.CaseSource.means p.source).pairs in
    record { state = c.fresh-self.ensures n ∙ ap (λ s. fresh (take n s)) c.with.ensures ∙ ap fresh (take_set n p.table.holds.places c.args.pair c.args.arm); source = refl; bound = refl }
