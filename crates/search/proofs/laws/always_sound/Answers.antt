use Rattle.search.proofs.Lawful as laws
use Rattle.search.proofs.laws.always_sound.Goals as goal

pub returns-clause-law : goal.returns-clause-law
returns-clause-law c = laws.always_sound
