use Rattle.std.proofs.Common.{length, take, refl, ap, ◌∙◌}
use Rattle.std.proofs.lemmas.List.{take-replicate}
use Rattle.search.specs.Search.{fresh}
use Rattle.planner.proofs.calls.Planner.open.Goals as goal

pub returns : goal.returns
returns g c =
    let m = g.S.CaseSource.means c.args.source in
    let n = length m.pairs in
    record { state = c.fresh.ensures n ∙ ap (λ s. fresh (take n s)) c.all.ensures ∙ ap fresh (take-replicate n 60 0 (g.met.S.CaseSource.within c.args.source).few_pairs); source = refl; bound = refl }
