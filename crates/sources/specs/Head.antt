-- What stands in front of a message's arcs. Assumes nothing.
use Rattle.std.specs.Prelude.{ℕ, List, slice_index}
use Rattle.messages.specs.Message.{u16_at, u32_at}
use Rattle.sources.specs.declared.message.Head.{Head}

-- the numbers in the head of a message
abbrev pub head_of : List ℕ → Head
head_of bs = record { behind = u32_at bs 0; version = slice_index bs 4; end = u16_at bs 5; fixed = u16_at bs 7; pairs = slice_index bs 9 }
