use Rattle.std.proofs.Common.{◌≡◌, ℕ, ◌+◌, ◌*◌, ◌≤◌, List, [], ◌∷◌, ◌++◌, length, Some, take, vec_items, ap, ◌∙◌, subst, arith}
use Rattle.std.proofs.lemmas.List.{take_all}
use Rattle.std.proofs.lemmas.Result.{err_from_is_err_and}
use Rattle.hex_text.specs.Hex.{hex_bytes}
use Rattle.hex_text.proofs.Digits.{hex_more, read_bad, all_digits, one_digit_more, after_digits}
use Rattle.hex_text.proofs.text.read_hex.Goals as goal

pub returns-in_err-high-clause-read : goal.returns-in_err-high-clause-read
returns-in_err-high-clause-read c =
    let p = err_from_is_err_and c.from_residual.result c.from_residual.ensures.1 in
    let b = c.in_err-high.ensures in
    rw (p.1, p.2) (read_bad c.args.text.now c.as_bytes-digits.result.now (2 * c.loop-at.at) c.in_err-high.field-0.0 c.as_bytes-digits.ensures.value b.0 (omega arith) b.1)

pub returns-in_err-high-clause-first : goal.returns-in_err-high-clause-first
returns-in_err-high-clause-first c =
    let p = err_from_is_err_and c.from_residual.result c.from_residual.ensures.1 in
    let b = c.in_err-high.ensures in
    let ds = c.as_bytes-digits.result.now in
    rw (p.1, p.2) (after_digits c.args.text.now ds (2 * c.loop-at.at) c.in_err-high.field-0.0 c.as_bytes-digits.ensures.value b.0 (all_digits (take (2 * c.loop-at.at) ds) (vec_items c.loop-at.bytes) c.loop-at.invariant))

pub returns-in_err-low-clause-read : goal.returns-in_err-low-clause-read
returns-in_err-low-clause-read c =
    let p = err_from_is_err_and c.from_residual-in_err-low.result c.from_residual-in_err-low.ensures.1 in
    let b = c.in_err-low.ensures in
    rw (p.1, p.2) (read_bad c.args.text.now c.as_bytes-digits.result.now (2 * c.loop-at.at + 1) c.in_err-low.field-0.0 c.as_bytes-digits.ensures.value b.0 (omega arith) b.1)

pub returns-in_err-low-clause-first : goal.returns-in_err-low-clause-first
returns-in_err-low-clause-first c =
    let p = err_from_is_err_and c.from_residual-in_err-low.result c.from_residual-in_err-low.ensures.1 in
    let b = c.in_err-low.ensures in
    let ds = c.as_bytes-digits.result.now in
    let front = all_digits (take (2 * c.loop-at.at) ds) (vec_items c.loop-at.bytes) c.loop-at.invariant in
    rw (p.1, p.2) (after_digits c.args.text.now ds (2 * c.loop-at.at + 1) c.in_err-low.field-0.0 c.as_bytes-digits.ensures.value b.0 (one_digit_more ds (2 * c.loop-at.at) c.in_ok-high.high (omega arith) front c.in_ok-high.ensures.0))

pushed : (bs cs : List ℕ) (z u v : ℕ) → cs ≡ bs ++ (z ∷ []) → z ≡ 16 * u + v → bs ++ ((16 * u + v) ∷ []) ≡ cs
pushed bs cs z u v e q = cc

pub loop-at-preserved : goal.loop-at-preserved
loop-at-preserved c =
    hex_more c.as_bytes-digits.result.now (vec_items c.loop-at.bytes) c.loop-at.at c.in_ok-high.high c.in_ok-low.low (omega arith) c.loop-at.invariant
    c.in_ok-high.ensures.0 c.in_ok-low.ensures.0
    ∙ ap Some (pushed (vec_items c.loop-at.bytes) _ _ c.in_ok-high.high c.in_ok-low.low c.in_ok-push.ensures.items (omega arith))

pub returns-clause-read : goal.returns-clause-read
returns-clause-read c =
    let n : length c.as_bytes-digits.result.now ≤ 2 * c.loop-at.at = omega arith in
    subst (λ (t : List ℕ). hex_bytes t ≡ Some (vec_items c.loop-at.bytes)) (take_all (2 * c.loop-at.at) c.as_bytes-digits.result.now n ∙ c.as_bytes-digits.ensures.value) c.loop-at.invariant
