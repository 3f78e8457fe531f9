use Rattle.std.proofs.Common.{sym, refl}
use Rattle.runs.proofs.Planning.{planned}
use Rattle.runs.proofs.planned.plan_message.Goals as goal

pub returns : goal.returns
returns c =
    let told = c.in_ok-search.ensures in
    planned _ _ _ _ c.in_ok-read.field-0 c.open-planner.result.bound c.args.bytes.now c.in_ok-read.ensures.means refl c.open-planner.result (record { state = c.open-planner.ensures.state; source = c.open-planner.ensures.source; bound = refl })
    c.args.budget c.args.times.now c.search.new.self told.made c.search.new.times c.in_ok-search.field-0 (sym c.in_ok-read.ensures.told) told.answer
