-- What a call that writes a message leaves. Assumes nothing.
use Rattle.std.specs.Prelude.{◌≡◌, ℕ, ◌+◌, ◌*◌, ◌<◌, ◌≤◌, List, [], ◌∷◌, ◌++◌, length, take, drop, Some, None, Ok, Err, Option, Result}
use Rattle.graph.specs.Graph.{Arc, Case}
use Rattle.messages.specs.Message.{u16_bytes, u32_bytes, arc_bytes, message}
use Rattle.messages.specs.declared.faults.MessageFault.{MessageFault}
use Rattle.messages.specs.Named.{of_message}

-- the list with ys written over it from index a on
abbrev pub put_at : List ℕ → ℕ → List ℕ → List ℕ
put_at xs a ys = take a xs ++ (ys ++ drop (a + length ys) xs)

-- the ten bytes in front of the arcs
abbrev pub head_bytes : ℕ → ℕ → ℕ → List ℕ
head_bytes n f p = u32_bytes (6 + 9 * f + 18 * p) ++ ((1 ∷ []) ++ (u16_bytes n ++ (u16_bytes f ++ (p ∷ []))))

-- the bytes of an arc, if there is one
abbrev pub found_bytes : Option Arc → List ℕ
found_bytes None = []
found_bytes (Some a) = arc_bytes a

-- taken: the front is the message, the rest is as it was, and the answer is the message's length
pub record Taken (c : Case) (before after : List ℕ) (n : ℕ) : Type 0 where
  pub size : n ≡ length (message c)
  pub fits : length (message c) ≤ length before
  pub front : after ≡ message c ++ drop n before

-- too short: the fault names the bytes that are needed, and nothing is written
pub record Refused (c : Case) (before after : List ℕ) (f : MessageFault) : Type 0 where
  pub short : length before < length (message c)
  pub named : of_message f ≡ record { layer = 1; cause = 16; place = length (message c) }
  pub same : after ≡ before

-- what a call that writes a case as a message answers and leaves
abbrev pub Written : Case → List ℕ → List ℕ → Result ℕ MessageFault → Type 0
Written c before after (Ok n) = Taken c before after n
Written c before after (Err f) = Refused c before after f
