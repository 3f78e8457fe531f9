use Rattle.search.proofs.Walks as laws
use Rattle.search.proofs.walk_laws.walk_laws_hold.Goals as goal

pub returns-clause-law : goal.returns-clause-law
returns-clause-law c = laws.walk_laws
