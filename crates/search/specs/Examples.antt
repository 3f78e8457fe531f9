-- Worked examples, as one statement on the definitions' values. Assumes nothing.
use Rattle.std.specs.Prelude.{◌≡◌, ℕ, ◌+◌, ◌*◌, Bool, true, false, List, [], ◌∷◌, ℤ, pos, negsuc, ◌+ℤ◌, ◌*ℤ◌, Some, None, Option}
use Rattle.graph.specs.Graph.{Arc, Case, Ranking, Selection, empty_case}
use Rattle.bounds.specs.Bounds.{longest_path}
use Rattle.messages.specs.Message.{message_case, message}
use Rattle.search.specs.Search.{Planner, Plan, opened, fresh, searched, plan_times}
use Rattle.search.specs.Sound.{to_hold, called}

-- times in whole seconds
abbrev pub in_seconds : Ranking
in_seconds w m = w

-- times in seconds and places within the second
abbrev pub in_ordered : Ranking
in_ordered w m = (pos 1024 *ℤ w) +ℤ pos m

-- an arc with its ends, weight and mark
abbrev pub arc : ℕ → ℕ → ℤ → ℕ → Arc
arc a b w m = record { from = a; to = b; weight = w; mark = m }

-- a plan with these arms and this delay
abbrev pub planned : Selection → ℕ → Option Plan
planned s d = Some (record { arms = s; delay = pos d })

-- the empty case as a message
abbrev pub empty_message : List ℕ
empty_message = 0 ∷ 0 ∷ 0 ∷ 6 ∷ 1 ∷ 0 ∷ 1 ∷ 0 ∷ 0 ∷ 0 ∷ []

-- two trains of two events each, and one section that both want
abbrev pub two_trains : Case
two_trains = record {
  end = 5;
  fixed = arc 0 1 (pos 0) 0 ∷ arc 1 2 (pos 100) 0 ∷ arc 2 5 (negsuc 99) 0 ∷ arc 0 3 (pos 30) 0 ∷ arc 3 4 (pos 60) 0 ∷ arc 4 5 (negsuc 89) 0 ∷ [];
  pairs = record { first = arc 2 3 (pos 20) 0; second = arc 4 1 (pos 20) 0 } ∷ [];
}

-- two light engines that run through sections 1 and 2 in opposite directions, 60 seconds each, due at 120, with no separation:
-- the first enters its sections at events 1 and 2 and leaves at 3, the second at 4 and 5 and leaves at 6, and 7 is the end
abbrev pub two_light_engines : Case
two_light_engines = record {
  end = 7;
  fixed = arc 0 1 (pos 0) 0 ∷ arc 1 2 (pos 60) 0 ∷ arc 2 3 (pos 60) 0 ∷ arc 3 7 (negsuc 119) 0 ∷ arc 0 4 (pos 0) 0 ∷ arc 4 5 (pos 60) 0 ∷ arc 5 6 (pos 60) 0 ∷ arc 6 7 (negsuc 119) 0 ∷ [];
  pairs = record { first = arc 2 5 (pos 0) 1; second = arc 6 1 (pos 0) 1 } ∷ record { first = arc 3 4 (pos 0) 1; second = arc 5 2 (pos 0) 1 } ∷ [];
}

-- two events that an arc of 10 holds apart, and an arc back of weight w
abbrev pub there_and_back : ℤ → Case
there_and_back w = record { end = 2; fixed = arc 1 2 (pos 10) 0 ∷ arc 2 1 w 0 ∷ []; pairs = [] }

-- an ore train and a staff train through one section: the ore train enters at event 1, runs 300 seconds, leaves at 2 and is due at 300;
-- the staff train enters at event 3, from second 60 on, runs 100 seconds, leaves at 4 and is due at 200;
-- the section is free for the staff train 150 seconds after the ore train, and for the ore train 90 seconds after the staff train; 5 is the end
abbrev pub ore_and_staff : Case
ore_and_staff = record {
  end = 5;
  fixed = arc 0 1 (pos 0) 0 ∷ arc 1 2 (pos 300) 0 ∷ arc 2 5 (negsuc 299) 0 ∷ arc 0 3 (pos 60) 0 ∷ arc 3 4 (pos 100) 0 ∷ arc 4 5 (negsuc 199) 0 ∷ [];
  pairs = record { first = arc 2 3 (pos 150) 1; second = arc 4 1 (pos 90) 1 } ∷ [];
}

-- what is on show: plan, lower bound, count and state
abbrev pub shows : Planner → Option Plan → ℤ → ℕ → Bool → Type 0
shows w p z k f = (w.plan ≡ p) × (w.lower ≡ z) × (w.count ≡ k) × (w.finished ≡ f)

-- one more search by the longest path
abbrev pub more : Ranking → ℕ → Case → Planner → Planner
more r k c w = searched c r longest_path k w

-- a first search by the longest path
abbrev pub run : Ranking → ℕ → Case → Planner
run r k c = more r k c (opened c)

-- what searches of the examples show
pub record Examples : Type 0 where
  -- the empty case, from its message
  pub empty_case_read : message_case empty_message ≡ empty_case
  pub empty_written : message empty_case ≡ empty_message
  pub empty : shows (run in_seconds 1 (message_case empty_message)) (planned [] 0) (pos 0) 1 true
  pub empty_times : plan_times (message_case empty_message) in_seconds (planned [] 0) ≡ 0 ∷ 0 ∷ []
  -- two trains, in three searches of one node each; then with the second arm held
  pub trains_root : shows (run in_seconds 1 two_trains) None (pos 90) 1 false
  pub trains_first : shows (more in_seconds 1 two_trains (run in_seconds 1 two_trains)) (planned (1 ∷ []) 90) (pos 90) 2 false
  pub trains_second : shows (more in_seconds 1 two_trains (more in_seconds 1 two_trains (run in_seconds 1 two_trains))) (planned (1 ∷ []) 90) (pos 90) 3 true
  pub trains_held : called two_trains in_seconds longest_path (run in_seconds 3 two_trains) (to_hold 0 2) ≡ fresh (2 ∷ [])
  pub trains_with_second : shows (more in_seconds 1 two_trains (fresh (2 ∷ []))) (planned (2 ∷ []) 110) (pos 110) 1 true
  pub trains_times : plan_times two_trains in_seconds (planned (2 ∷ []) 110) ≡ 0 ∷ 110 ∷ 210 ∷ 30 ∷ 90 ∷ 110 ∷ []
  -- two light engines pass each other in seconds, and cannot where strictly later is told: there the delay is 120 at place 1
  pub engines_in_seconds : shows (run in_seconds 100 two_light_engines) (planned (1 ∷ 2 ∷ []) 0) (pos 0) 5 true
  pub engines_in_order : shows (run in_ordered 100 two_light_engines) (planned (1 ∷ 1 ∷ []) (1024 * 120 + 1)) (pos (1024 * 120 + 1)) 5 true
  -- a cycle of sum 5 leaves no plan, a cycle of sum 0 leaves one
  pub cycle_above : shows (run in_seconds 1 (there_and_back (negsuc 4))) None (pos 0) 1 true
  pub cycle_at_zero : shows (run in_seconds 1 (there_and_back (negsuc 9))) (planned [] 10) (pos 10) 1 true
  -- an ore train and a staff train
  pub staff_root : shows (run in_seconds 1 ore_and_staff) None (pos 250) 1 false
  pub staff_first : shows (run in_seconds 3 ore_and_staff) (planned (2 ∷ []) 250) (pos 250) 3 true
  -- cases are read back from the messages that they are written as
  pub trains_read : message_case (message two_trains) ≡ two_trains
  pub engines_read : message_case (message two_light_engines) ≡ two_light_engines
  pub staff_read : message_case (message ore_and_staff) ≡ ore_and_staff
