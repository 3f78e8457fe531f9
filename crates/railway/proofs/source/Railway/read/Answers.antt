use Rattle.std.proofs.Common.{◌≡◌, ◌+◌, length, ap, ◌∙◌, arith}
use Rattle.trains.specs.Railway.{last_event, all_arcs, all_pairs}
use Rattle.trains.proofs.Railways.{length_trips}
use Rattle.trains.proofs.Runnings.{runs_law}
use Rattle.railway.proofs.source.Railway.read.Goals as goal
use Rattle.railway.proofs.Cases.{few_steps, read_case}
use Rattle.railway.proofs.Checking.{none_breaks}
use Rattle.railway.proofs.Sums.{last_event_is}

pub overflow_cast-end : goal.overflow_cast-end
overflow_cast-end c =
    let s = c.in_ok-check_limits.ensures.sound in
    let h = few_steps c.args.trains.now (none_breaks 0 c.args.trains.now s.trains) in
    omega arith

pub list_fixed-requires : goal.list_fixed-requires
list_fixed-requires c =
    let s = c.in_ok-check_limits.ensures.sound in
    omega (arith, ap length c.over-trips.ensures, length_trips 1 c.args.trains.now c.args.steps.now)

pub invariant_of-result : goal.invariant_of-result
invariant_of-result c =
    let ts = c.args.trains.now in
    let s = c.in_ok-check_limits.ensures.sound in
    let trips_are = c.over-trips.ensures in
    let pairs_are = c.in_ok-pairs.ensures ∙ ap all_pairs trips_are in
    let case_is = read_case ts c.args.steps.now c.in_ok-pairs.pairs c.in_ok-check_limits.ensures.told pairs_are in
    let end_is : 1 + length ts + length c.args.steps.now ≡ last_event 1 ts = omega (arith, last_event_is 1 ts, s.long) in
    rw case_is (record { last = end_is; fixed_listed = c.list_fixed.ensures ∙ (λ j. all_arcs (end_is j) (trips_are j)); pairs_listed = pairs_are })

pub returns-clause-law : goal.returns-clause-law
returns-clause-law c = runs_law c.args.trains.now c.args.steps.now
