-- The kinds of trains, and the separation between two. Assumes nothing.
use Rattle.std.specs.Prelude.{◌≡◌, ℕ, ◌+◌, ◌*◌, ◌<◌, ◌≤◌, List, [], ◌∷◌, Result, MatchResult, slice_index, codes}
use Rattle.trains.specs.declared.kind.Kind.{Kind}
use Rattle.trains.specs.declared.kind.UnknownKind.{UnknownKind}
use Rattle.trains.specs.declared.kind.Kind.TheVariants.{LoadedOre, EmptyOre, HotMetal, Staff, LightEngine}

-- the number of a kind
abbrev pub kind_number : Kind → ℕ
kind_number LoadedOre = 0
kind_number EmptyOre = 1
kind_number HotMetal = 2
kind_number Staff = 3
kind_number LightEngine = 4

-- n is the number of the kind k
abbrev pub NumberOf : Kind → ℕ → Type 0
NumberOf k n = (n ≡ kind_number k) × (n ≤ 4)

-- the kind that has the number n, or that none has
abbrev pub Numbered : ℕ → Result Kind UnknownKind → Type 0
Numbered n r = MatchResult r (λ k. kind_number k ≡ n) (λ _. 4 < n)

-- the name of a kind
abbrev pub kind_name : Kind → List ℕ
kind_name LoadedOre = codes "loaded ore"
kind_name EmptyOre = codes "empty ore"
kind_name HotMetal = codes "hot metal"
kind_name Staff = codes "staff"
kind_name LightEngine = codes "light engine"

-- the word for a kind: its name with a hyphen
abbrev pub kind_word : Kind → List ℕ
kind_word LoadedOre = codes "loaded-ore"
kind_word EmptyOre = codes "empty-ore"
kind_word HotMetal = codes "hot-metal"
kind_word Staff = codes "staff"
kind_word LightEngine = codes "light-engine"

-- the kind that a word spells, or that it spells none
abbrev pub Spelled : List ℕ → Result Kind UnknownKind → Type 0
Spelled w r = MatchResult r (λ k. w ≡ kind_word k) (λ _. (k : Kind) → ¬ w ≡ kind_word k)

-- the separations in seconds, in rows of five for the kind that goes first
abbrev pub separations : List ℕ
separations =
    120 ∷ 100 ∷ 180 ∷ 150 ∷ 90 ∷ 110 ∷ 90 ∷ 170 ∷ 130 ∷ 80 ∷ 180 ∷ 170 ∷ 240 ∷ 200 ∷ 160 ∷ 90 ∷ 80 ∷ 150 ∷ 70 ∷ 60 ∷ 60 ∷ 50 ∷ 120 ∷ 60 ∷ 0 ∷ []

-- the separation of a train of the second kind behind one of the first
abbrev pub separation : Kind → Kind → ℕ
separation g f = slice_index separations (5 * kind_number g + kind_number f)
