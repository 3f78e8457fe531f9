-- A message planned by one search. Assumes nothing.
use Rattle.std.specs.Prelude.{◌≡◌, ℕ, List, [], ◌∷◌, length, ℤ, Some, None, Ok, Err, Result}
use Rattle.graph.specs.Graph.{Case, Ranking}
use Rattle.bounds.specs.Bounds.{longest_path}
use Rattle.messages.specs.Message.{message_case, message_fault}
use Rattle.messages.specs.Named.{of_message}
use Rattle.search.specs.Search.{Planner, opened, searched}
use Rattle.search.specs.Sound.{to_search, refusal, Lawful}
use Rattle.search.specs.Named.{of_planner}
use Rattle.search.specs.declared.faults.PlanMessageFault.{PlanMessageFault}
use Rattle.search.specs.declared.faults.PlanMessageFault.TheVariants as carried
use Rattle.planner.specs.View.{Answer, Shown}

-- the planner after one search by the longest path over a case
abbrev pub searched_once : Case → Ranking → ℕ → Planner
searched_once c r k = searched c r longest_path k (opened c)

-- the message is accepted and the search taken: its answer and times are those of one search, and the laws over runs hold
pub record Planned {V : Type 0} (rank : V → ℤ) (r : Ranking) (bs : List ℕ) (k : ℕ) (times times' : List V) (a : Answer) : Type 0 where
  pub accepted : message_fault bs ≡ None
  pub taken : refusal (message_case bs) (opened (message_case bs)) (to_search k (length times)) ≡ None
  pub shown : Shown rank (message_case bs) r (opened (message_case bs)) (searched_once (message_case bs) r k) times times' a
  pub lawful : Lawful (message_case bs) r longest_path (to_search k (length times) ∷ []) (searched_once (message_case bs) r k)

-- what planning a message answers and leaves in the times: the message's fault comes before the search's, and refused, no time is written
abbrev pub MessagePlanned : {V : Type 0} → (V → ℤ) → Ranking → List ℕ → ℕ → List V → List V → Result Answer PlanMessageFault → Type 0
MessagePlanned rank r bs k times times' (Ok a) = Planned rank r bs k times times' a
MessagePlanned rank r bs k times times' (Err (carried.Message f)) = (message_fault bs ≡ Some (of_message f)) × (times' ≡ times)
MessagePlanned rank r bs k times times' (Err (carried.Planner f)) = (message_fault bs ≡ None) × (refusal (message_case bs) (opened (message_case bs)) (to_search k (length times)) ≡ Some (of_planner f)) × (times' ≡ times)
