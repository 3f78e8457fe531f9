use Rattle.std.proofs.Common.{◌-◌, length, arith}
use Rattle.session.proofs.Tables.{table_filled}
use Rattle.session.proofs.open.table_of.Goals as goal

pub returns : goal.returns
returns c = table_filled c.args.arms.now c.copy_from_slice.new.self (length c.args.arms.now - 0) (omega arith) c.copy_from_slice.ensures.after
