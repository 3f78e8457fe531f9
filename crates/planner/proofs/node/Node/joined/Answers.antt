use Rattle.std.proofs.Common.{◌≡◌, ◌+◌, ◌∷◌, ◌∙◌, arith}
use Rattle.std.proofs.lemmas.List.{nil_from_length, set-get_or}
use Rattle.planner.specs.Nodes.{node_of}
use Rattle.planner.proofs.Joining.{joining_put, joining_held, joining_stop, joining_end, joining_as, small_take}
use Rattle.planner.proofs.node.Node.joined.Goals as goal
use Rattle.planner.proofs.node.Node.joined.Goals.{then-place-eq0+in-Some, else-place-eq0, else-loop-place-test, then-loop-place-test+then-place-eq0+in_default}

pub loop-place-preserved : goal.loop-place-preserved
loop-place-preserved c =
    let hs = c.args.holds.now.places in
    let x = node_of c.args.self.now in
    let l = c.loop-place in
    elim c.if-place-eq0.branch [
      | then-place-eq0+in-Some w ↦
          let e : c.if-place-eq0.rest.now ≡ w.in-Some.others.now = cc in
          let f : l.rest.now ≡ w.in-Some.arm.now ∷ w.in-Some.others.now = w.in-Some.ensures.cases.0 in
          joining_as hs x _ _ (l.place-index + 1) _ _ w.place-items-is e
          (joining_put hs x l.place-items l.place-index _ _ _ (omega arith) w.if-place-eq0.true f l.invariant)
      | else-place-eq0 w ↦
          let e : c.if-place-eq0.rest.now ≡ l.rest.now = cc in
          joining_as hs x _ _ (l.place-index + 1) _ _ (w.place-items-is ∙ set-get_or l.place-items l.place-index 0) e
          (joining_held hs x l.place-items l.place-index l.rest.now (omega arith) w.if-place-eq0.false l.invariant)
    ]

pub invariant_of-result : goal.invariant_of-result
invariant_of-result c =
    let l = c.loop-place in
    let i = l.invariant in
    let small_items = (i.arms c.args.holds.now.none_past_two (small_take c.args.self.now.depth c.args.self.now.arms.places c.args.self.now.arms.none_past_two)).0 in
    let same : c.loop-place-test.places ≡ l.place-items =
    elim c.loop-place-test.branch [
      | else-loop-place-test w ↦ w.places-is
      | then-loop-place-test+then-place-eq0+in_default w ↦ w.places-is ∙ set-get_or l.place-items l.place-index 0
    ] in
    rw same (record { none_past_two = small_items; sixty = omega (arith, i.len, c.args.holds.now.sixty) })

pub returns : goal.returns
returns c =
    let hs = c.args.holds.now.places in
    let x = node_of c.args.self.now in
    let l = c.loop-place in
    elim c.loop-place-test.branch [
      | else-loop-place-test w ↦ w.places-is ∙ joining_end hs x l.place-items l.place-index l.rest.now (omega (arith, l.invariant.len, c.args.holds.now.sixty)) l.invariant
      | then-loop-place-test+then-place-eq0+in_default w ↦
          w.places-is ∙ (set-get_or l.place-items l.place-index 0 ∙ joining_stop hs x l.place-items l.place-index l.rest.now (nil_from_length l.rest.now w.in_default.ensures.cases) l.invariant)
    ]
