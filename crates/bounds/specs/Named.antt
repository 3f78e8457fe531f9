-- The bounds that are chosen by name. Assumes nothing.
use Rattle.std.specs.Prelude.{◌≡◌, ℕ, List, Result, MatchResult, codes}
use Rattle.bounds.specs.Bounds.{Meaning, LowerBound, longest_path, look_ahead, larger_of}
use Rattle.bounds.specs.Lower.{longest_lower, ahead_lower, larger_lower}
use Rattle.bounds.specs.declared.named.NamedBound.{NamedBound}
use Rattle.bounds.specs.declared.named.NamedBound.TheVariants as named
use Rattle.bounds.specs.declared.named.UnknownBound.{UnknownBound}

-- what the bound of a name answers
abbrev pub named_meaning : NamedBound → Meaning
named_meaning named.LongestPath = longest_path
named_meaning named.LookAhead = look_ahead
named_meaning named.Larger = larger_of longest_path look_ahead

-- each of them is a lower bound
pub named_lower : (b : NamedBound) → LowerBound (named_meaning b)
named_lower named.LongestPath = longest_lower
named_lower named.LookAhead = ahead_lower
named_lower named.Larger = larger_lower longest_path look_ahead longest_lower ahead_lower

-- the name of a bound
abbrev pub bound_name : NamedBound → List ℕ
bound_name named.LongestPath = codes "longest-path"
bound_name named.LookAhead = codes "look-ahead"
bound_name named.Larger = codes "larger"

-- the bound whose name a word is, or that it is the name of none
abbrev pub Spelled : List ℕ → Result NamedBound UnknownBound → Type 0
Spelled w r = MatchResult r (λ b. w ≡ bound_name b) (λ _. (b : NamedBound) → ¬ w ≡ bound_name b)
