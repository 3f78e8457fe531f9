use Rattle.std.proofs.Common.{◌≡◌, length, vec_items, arith, rules}
use Rattle.messages.specs.Message.{message_case}
use Rattle.messages.proofs.Messages.{accepted_within}
use Rattle.session.proofs.open.OpenCase.size.Goals as goal

pub returns-clause-few_pairs : goal.returns-clause-few_pairs
returns-clause-few_pairs c =
    let bs = vec_items c.args.self.now.message in
    let e : c.pair_count.result ≡ length (message_case bs).pairs = search rules in
    omega (arith, e, (accepted_within bs).few_pairs)
