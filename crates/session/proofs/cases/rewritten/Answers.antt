use Rattle.std.proofs.Common.{◌≡◌, ◌<◌, ◌∙◌, IfOk, rules, arith}
use Rattle.std.proofs.ByRecursion.{All-from_get_or}
use Rattle.std.proofs.lemmas.Result.{IfOk-weaker}
use Rattle.messages.specs.Message.{message, message_case}
use Rattle.messages.proofs.Messages.{writes_back}
use Rattle.session.proofs.cases.rewritten.Goals as goal

pub returns-clause-same : goal.returns-clause-same
returns-clause-same c =
    let bs = c.args.bytes.now in
    let written : IfOk c.message_of.result (λ v. v.items ≡ message (message_case bs)) = search rules in
    λ n. IfOk-weaker c.message_of.result _ _ (λ v h. h ∙ writes_back bs (All-from_get_or (λ b. b < 256) bs 0 (λ i k. omega (arith, c.type_inv.bytes i))) n) written
