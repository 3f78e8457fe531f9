-- Bounds on the delay of what a partial selection can still become. Assumes nothing.
use Rattle.std.specs.Prelude.{ℕ, ◌+◌, cond, List, [], ◌∷◌, ℤ, pos, ◌≤ℤ◌, Some, None, Option, ◌==◌, slice_index, slice_set}
use Rattle.std.specs.Int.{int_max, int_min}
use Rattle.graph.specs.Graph.{Case, Pair, Ranking, IsRanking, Within, Timetable, Selection, IsSelection, KeepsCase, KeepsArms, delay}
use Rattle.graph.specs.Times.{least_times}

-- what a bound answers for each case, selection and ranking: a rank, or `None` where the selection is infeasible
abbrev pub Meaning : Type 0
Meaning = Case → Selection → Ranking → Option ℤ

-- a rank is at most the delay; `None` is at most no delay
abbrev pub AtMost : Option ℤ → ℕ → Type 0
AtMost None d = ⊥
AtMost (Some z) d = z ≤ℤ pos d

-- the answer is at most the delay of every timetable that keeps the case and the selected arms; so `None` says that there is no such timetable
abbrev pub LowerBound : Meaning → Type 0
LowerBound m = (c : Case) (s : Selection) (r : Ranking) → Within c → IsSelection c s → IsRanking r → (t : Timetable) → KeepsCase r c t → KeepsArms r c s t → AtMost (m c s r) (delay c t)

-- the time of event n, where there are times
abbrev pub end_of : ℕ → Option (List ℕ) → Option ℤ
end_of n None = None
end_of n (Some ts) = Some (pos (slice_index ts n))

-- the least time of the last event: the length of the longest path to it
abbrev pub longest_path : Meaning
longest_path c s r = end_of c.end (least_times r c s)

-- `None` if either is, else the larger
abbrev pub larger : Option ℤ → Option ℤ → Option ℤ
larger None y = None
larger (Some x) None = None
larger (Some x) (Some y) = Some (int_max x y)

-- the smaller, `None` left out
abbrev pub smaller : Option ℤ → Option ℤ → Option ℤ
smaller None y = y
smaller (Some x) None = Some x
smaller (Some x) (Some y) = Some (int_min x y)

-- the longest path with arm a of pair i
abbrev pub with_arm : ℕ → ℕ → Meaning
with_arm i a c s r = longest_path c (slice_set s i a) r

-- the longest path with the better arm of pair i
abbrev pub with_either : ℕ → Meaning
with_either i c s r = smaller (with_arm i 1 c s r) (with_arm i 2 c s r)

-- the answer b so far, and from pair i on each undecided pair tried with either arm
abbrev pub tried_from : Case → Selection → Ranking → ℕ → List Pair → Option ℤ → Option ℤ
tried_from c s r i [] b = b
tried_from c s r i (p ∷ ps) b = tried_from c s r (i + 1) ps (cond (slice_index s i == 0) (larger b (with_either i c s r)) b)

-- the largest of the longest path and of the longest path with the better arm of each undecided pair; `None` if one of them is
abbrev pub look_ahead : Meaning
look_ahead c s r = tried_from c s r 0 c.pairs (longest_path c s r)

-- the larger of two bounds
abbrev pub larger_of : Meaning → Meaning → Meaning
larger_of m k c s r = larger (m c s r) (k c s r)

-- an answer is at least another, where `None` is above every rank
abbrev pub AtLeast : Option ℤ → Option ℤ → Type 0
AtLeast None y = Unit {0}
AtLeast (Some x) None = ⊥
AtLeast (Some x) (Some y) = y ≤ℤ x

-- the bounds are lower bounds, the larger of two lower bounds is one, and looking ahead is never below the longest path
pub record BoundsLaws : Type 0 where
  pub longest_path_law : LowerBound longest_path
  pub look_ahead_law : LowerBound look_ahead
  pub larger_of_law : (m k : Meaning) → LowerBound m → LowerBound k → LowerBound (larger_of m k)
  pub look_ahead_above : (c : Case) (s : Selection) (r : Ranking) → AtLeast (look_ahead c s r) (longest_path c s r)
