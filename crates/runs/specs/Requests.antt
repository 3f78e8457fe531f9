-- Requests, and the calls that they make of a planner. Assumes nothing.
use Rattle.std.specs.Prelude.{ℕ, List, map}
use Rattle.search.specs.Sound.{Call, to_hold, to_release, to_search}
use Rattle.runs.specs.declared.requests.Request.{Request}
use Rattle.runs.specs.declared.requests.Request.TheVariants.{Hold, Release, Search}

-- the call that a request makes, with n places for times
abbrev pub call_of : ℕ → Request → Call
call_of n (Hold i a) = to_hold i a
call_of n (Release i) = to_release i
call_of n (Search k) = to_search k n

-- the calls that requests make, with n places for times
abbrev pub calls_of : ℕ → List Request → List Call
calls_of n qs = map (call_of n) qs
