use Rattle.trains.proofs.Runnings.{runs_law}
use Rattle.railway.proofs.source.check_railway.Goals as goal

pub returns-clause-law : goal.returns-clause-law
returns-clause-law c = runs_law c.args.trains.now c.args.steps.now
