use Rattle.std.proofs.Common.{◌≡◌, vec_items, sym, refl, rules}
use Rattle.messages.specs.Message.{message}
use Rattle.trains.specs.Railway.{railway_case}
use Rattle.session.proofs.Railed.{railed_taken, railed_case}
use Rattle.session.proofs.open.OpenCase.of_railway.Goals as goal

pub invariant_of-result : goal.invariant_of-result
invariant_of-result c =
    let ts = c.args.trains.now in
    let ss = c.args.steps.now in
    let ms = vec_items c.in_ok-message.message in
    let written : ms ≡ message (railway_case ts ss) = search rules in
    record { taken = railed_taken ts ss ms written }

pub returns : goal.returns
returns c =
    let ts = c.args.trains.now in
    let ss = c.args.steps.now in
    let ms = vec_items c.in_ok-message.message in
    let written : ms ≡ message (railway_case ts ss) = search rules in
    (sym c.in_ok-railway.ensures.told, railed_case ts ss ms written, refl)
