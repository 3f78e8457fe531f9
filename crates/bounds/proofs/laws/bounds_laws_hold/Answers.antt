use Rattle.bounds.specs.Lower.{bounds_laws}
use Rattle.bounds.proofs.laws.bounds_laws_hold.Goals as goal

pub returns-clause-law : goal.returns-clause-law
returns-clause-law c = bounds_laws
