-- The laws of railways. Assumes nothing.
use Rattle.std.specs.Prelude.{◌≡◌, ◌≤◌, List, [], ◌∷◌, length, pos, negsuc}
use Rattle.std.specs.List.{ContainsAt, AllByRecursion}
use Rattle.graph.specs.Faults.{fault}
use Rattle.graph.specs.Graph.{Pair, Case, Within, empty_case}
use Rattle.trains.specs.declared.kind.Kind.{Kind}
use Rattle.trains.specs.declared.kind.Kind.TheVariants.{LoadedOre, Staff, LightEngine}
use Rattle.trains.specs.declared.train.Train.{Train}
use Rattle.trains.specs.declared.train.Step.{Step}
use Rattle.trains.specs.Kinds.{kind_number, separations, separation}
use Rattle.trains.specs.Running.{Meets, RunsLaw}
use Rattle.trains.specs.Railway.{Trip, arc, all_pairs, railway_fault, railway_case}

-- two light engines that run through sections 1 and 2, one each way
abbrev pub engines : Case
engines =
    railway_case (record { kind = LightEngine; entry = 0; due = 120; steps = 2 } ∷ record { kind = LightEngine; entry = 0; due = 120; steps = 2 } ∷ [])
    (record { section = 1; running = 60 } ∷ record { section = 2; running = 60 } ∷ record { section = 2; running = 60 } ∷ record { section = 1; running = 60 } ∷ [])

-- a loaded ore train and a staff train that run through section 5
abbrev pub ore_and_staff : Case
ore_and_staff =
    railway_case (record { kind = LoadedOre; entry = 0; due = 300; steps = 1 } ∷ record { kind = Staff; entry = 60; due = 200; steps = 1 } ∷ [])
    (record { section = 5; running = 300 } ∷ record { section = 5; running = 100 } ∷ [])

-- what holds of every railway, and the two examples
pub record RailwayLaws : Type 0 where
  pub within : (ts : List Train) (ss : List Step) → Within (railway_case ts ss)
  pub pairs_meet : (ts : List Trip) → AllByRecursion (Meets ts) (all_pairs ts)
  pub meetings_paired : (ts : List Trip) (p : Pair) → Meets ts p → ContainsAt (all_pairs ts) p
  pub runs : (ts : List Train) (ss : List Step) → RunsLaw ts ss
  pub few_kinds : (k : Kind) → kind_number k ≤ 4
  pub one_kind_each : (g h : Kind) → kind_number g ≡ kind_number h → g ≡ h
  pub small_entries : AllByRecursion (λ s. s ≤ 240) separations
  pub small : (g h : Kind) → separation g h ≤ 240
  pub no_trains : railway_case [] [] ≡ empty_case
  pub no_trains_with_steps : (s : Step) (ss : List Step) → railway_fault [] (s ∷ ss) ≡ fault 3 19 (length (s ∷ ss))
  pub engines_meet : engines ≡ record {
    end = 7;
    fixed = arc 0 1 (pos 0) 0 ∷ arc 1 2 (pos 60) 0 ∷ arc 2 3 (pos 60) 0 ∷ arc 3 7 (negsuc 119) 0 ∷ arc 0 4 (pos 0) 0 ∷ arc 4 5 (pos 60) 0 ∷ arc 5 6 (pos 60) 0 ∷ arc 6 7 (negsuc 119) 0 ∷ [];
    pairs = record { first = arc 2 5 (pos 0) 1; second = arc 6 1 (pos 0) 1 } ∷ record { first = arc 3 4 (pos 0) 1; second = arc 5 2 (pos 0) 1 } ∷ [];
  }
  pub ore_meets_staff : ore_and_staff ≡ record {
    end = 5;
    fixed = arc 0 1 (pos 0) 0 ∷ arc 1 2 (pos 300) 0 ∷ arc 2 5 (negsuc 299) 0 ∷ arc 0 3 (pos 60) 0 ∷ arc 3 4 (pos 100) 0 ∷ arc 4 5 (negsuc 199) 0 ∷ [];
    pairs = record { first = arc 2 3 (pos 150) 1; second = arc 4 1 (pos 90) 1 } ∷ [];
  }
