use Rattle.std.proofs.Common.{◌≡◌, sum_by, rules, sym, ◌∙◌}
use Rattle.railway.proofs.check.step_count.Goals as goal
use Rattle.railway.proofs.Sums.{steps_of_is}

pub returns : goal.returns
returns c = let e : c.sum.result ≡ sum_by (λ t. t.steps) c.args.trains.now = search rules in e ∙ sym (steps_of_is c.args.trains.now)
