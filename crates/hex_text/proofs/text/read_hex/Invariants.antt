use Rattle.std.proofs.Common.{◌≡◌, ◌*◌, take, Some, vec_items}
use Rattle.hex_text.specs.Hex.{hex_bytes}
use Rattle.hex_text.proofs.text.read_hex.Given as goal

abbrev pub invariant-loop-at : goal.invariant-loop-at
invariant-loop-at l = hex_bytes (take (2 * l.at) l.digits) ≡ Some (vec_items l.bytes)
