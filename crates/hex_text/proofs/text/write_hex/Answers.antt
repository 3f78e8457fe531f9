use Rattle.std.proofs.Common.{◌≡◌, ℕ, ◌/◌, ◌%◌, List, get_or, Some, string_bytes, ap, ◌∙◌, arith, w8, Fits}
use Rattle.std.proofs.lemmas.List.{take_all}
use Rattle.hex_text.specs.Hex.{hex_digit, hex_bytes, hex_text}
use Rattle.hex_text.proofs.Digits.{digit_ascii, hex_law, written_more}
use Rattle.hex_text.proofs.text.write_hex.Goals as goal

written_as : (d v w : ℕ) → d ≡ hex_digit v → v ≡ w → d ≡ hex_digit w
written_as d v w e q = e ∙ ap hex_digit q

pub loop-byte-preserved : goal.loop-byte-preserved
loop-byte-preserved c =
    let xs = c.args.bytes.now in
    let k = c.loop-byte.byte-index in
    let x = get_or xs k 0 in
    let d = c.digit_of.result in
    let e = c.digit_of-in-loop-byte.result in
    let b = c.type_inv.bytes k in
    let high : d ≡ hex_digit (x / 16) = written_as d _ (x / 16) c.digit_of.ensures (omega arith) in
    let low : e ≡ hex_digit (x % 16) = written_as e _ (x % 16) c.digit_of-in-loop-byte.ensures (omega arith) in
    written_more xs k d e (string_bytes c.loop-byte.text) (string_bytes c.push.new.self) (string_bytes c.push-in-loop-byte.new.self) _ _ (omega arith) c.loop-byte.invariant
    c.in_ok-push.ensures.bytes (c.push.ensures.ascii (digit_ascii d (x / 16) (omega arith) high))
    c.in_ok-push-2.ensures.bytes (c.push-in-loop-byte.ensures.ascii (digit_ascii e (x % 16) (omega arith) low))
    high low

reads_back : (bs : List ℕ) → ((i : ℕ) → Fits w8 (get_or bs i 0)) → hex_bytes (hex_text bs) ≡ Some bs
reads_back bs f = hex_law bs (λ i. omega (arith, f i))

pub returns-clause-written : goal.returns-clause-written
returns-clause-written c = c.loop-byte.invariant ∙ ap hex_text (take_all c.loop-byte.byte-index c.args.bytes.now c.loop-byte-test.false)

pub returns-clause-law : goal.returns-clause-law
returns-clause-law c = reads_back c.args.bytes.now c.type_inv.bytes

pub returns-in_err-push-clause-law : goal.returns-in_err-push-clause-law
returns-in_err-push-clause-law c = reads_back c.args.bytes.now c.type_inv.bytes

pub returns-in_err-push-2-clause-law : goal.returns-in_err-push-2-clause-law
returns-in_err-push-2-clause-law c = reads_back c.args.bytes.now c.type_inv.bytes

pub returns-in_err-text-clause-law : goal.returns-in_err-text-clause-law
returns-in_err-text-clause-law c = reads_back c.args.bytes.now c.type_inv.bytes
