use Rattle.std.proofs.Common.{◌≡◌, ℕ, ◌||◌, eqb, get_or, sym, ◌∙◌, arith}
use Rattle.std.proofs.lemmas.Bool.{le-ltb}
use Rattle.std.proofs.lemmas.Bool.Decides.{nat_tests}
use Rattle.strangers.specs.Strangely.{decided_at, decided_past}
use Rattle.strangers.proofs.until.is_decided.Goals as goal

first_arm : (a : ℕ) → a ≡ 1 → eqb a 1 ≡ (eqb a 1 || eqb a 2)
first_arm a e = grind (arith, nat_tests)

other_arm : (a : ℕ) → (a ≡ 1 → ⊥) → eqb a 2 ≡ (eqb a 1 || eqb a 2)
other_arm a e = grind (arith, nat_tests)

pub returns-then-arms-pair-eq1 : goal.returns-then-arms-pair-eq1
returns-then-arms-pair-eq1 g c =
    let d = decided_at (g.S.CaseSource.means c.args.source.now).pairs c.args.arms.now c.args.pair (omega arith) in
    first_arm (get_or c.args.arms.now c.args.pair 0) c.if-arms-pair-eq1.true ∙ sym d

pub returns-else-arms-pair-eq1 : goal.returns-else-arms-pair-eq1
returns-else-arms-pair-eq1 g c =
    let d = decided_at (g.S.CaseSource.means c.args.source.now).pairs c.args.arms.now c.args.pair (omega arith) in
    other_arm (get_or c.args.arms.now c.args.pair 0) c.if-arms-pair-eq1.false ∙ sym d

pub returns-else-pair-pair_count : goal.returns-else-pair-pair_count
returns-else-pair-pair_count g c =
    let d = decided_past (g.S.CaseSource.means c.args.source.now).pairs c.args.arms.now c.args.pair (omega arith) in
    le-ltb c.args.pair c.pair_count.result c.if-pair-pair_count.false ∙ sym d
