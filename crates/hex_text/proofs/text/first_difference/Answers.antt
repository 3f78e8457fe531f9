use Rattle.std.proofs.Common.{None}
use Rattle.hex_text.proofs.Comparing.{found, found_at}
use Rattle.hex_text.proofs.text.first_difference.Goals as goal

pub returns-in-Some : goal.returns-in-Some
returns-in-Some c = found_at c.args.one.now c.args.other.now c.in-Some.at c.in-Some.ensures

pub returns-then-one-other : goal.returns-then-one-other
returns-then-one-other c = (found c.args.one.now c.args.other.now None c.in_default.ensures).0 c.if-one-other.true

pub returns-else-one-other : goal.returns-else-one-other
returns-else-one-other c = (found c.args.one.now c.args.other.now None c.in_default.ensures).1 c.min.result c.min.ensures c.if-one-other.false
