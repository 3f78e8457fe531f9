use Rattle.search.proofs.Pieces as laws
use Rattle.search.proofs.more_walk_laws.more_walk_laws_hold.Goals as goal

pub returns-clause-law : goal.returns-clause-law
returns-clause-law c = laws.more_walk_laws
