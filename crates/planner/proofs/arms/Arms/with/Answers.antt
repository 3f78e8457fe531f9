use Rattle.std.proofs.Common.{◌∙◌}
use Rattle.std.proofs.lemmas.List.{length-set}
use Rattle.planner.proofs.Joining.{small_set}
use Rattle.planner.proofs.arms.Arms.with.Goals as goal

pub invariant_of-self : goal.invariant_of-self
invariant_of-self c =
    let s = c.args.self in
    record { none_past_two = small_set s.places c.args.pair c.args.arm c.requires.arm s.none_past_two; sixty = length-set s.places c.args.pair c.args.arm ∙ s.sixty }
