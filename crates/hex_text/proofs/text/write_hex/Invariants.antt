use Rattle.std.proofs.Common.{◌≡◌, take, string_bytes}
use Rattle.hex_text.specs.Hex.{hex_text}
use Rattle.hex_text.proofs.text.write_hex.Given as goal

abbrev pub invariant-loop-byte : goal.invariant-loop-byte
invariant-loop-byte l = string_bytes l.text ≡ hex_text (take l.byte-index l.bytes)
