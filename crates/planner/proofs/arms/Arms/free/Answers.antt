use Rattle.std.proofs.Common.{◌≡◌, rules, eqb, take, sym, ◌∙◌}
use Rattle.std.specs.List.{count_by}
use Rattle.planner.proofs.Joining.{free_counted}
use Rattle.planner.proofs.arms.Arms.free.Goals as goal

pub returns : goal.returns
returns c =
    let e : c.count.result ≡ count_by (λ h. eqb h 0) (take c.args.pairs c.args.self.now.places) = search rules in
    e ∙ sym (free_counted (take c.args.pairs c.args.self.now.places))
