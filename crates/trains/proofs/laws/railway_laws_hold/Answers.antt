use Rattle.trains.proofs.laws.railway_laws_hold.Goals as goal
use Rattle.trains.proofs.Railways.{railway_laws}

pub returns-clause-law : goal.returns-clause-law
returns-clause-law c = railway_laws
