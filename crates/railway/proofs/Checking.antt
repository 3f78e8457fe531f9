-- The first train or step that breaks a limit, as the library looks for it.
use Rattle.std.proofs.Common.{◌≡◌, ℕ, ◌+◌, Bool, false, cond, List, [], ◌∷◌, None, Option, refl, arith}
use Rattle.std.proofs.lemmas.Bool.Decides.{nat_tests}
use Rattle.std.specs.List.{position_from, list_any}
use Rattle.std.specs.Option.{option_map}
use Rattle.graph.specs.Faults.{Fault, fault}
use Rattle.trains.specs.declared.train.Train.{Train}
use Rattle.trains.specs.declared.train.Step.{Step}
use Rattle.trains.specs.Railway.{train_breaks, step_breaks, trains_fault, steps_fault}

abbrev at_place : ℕ → ℕ → Fault
at_place n k = record { layer = 3; cause = n; place = k }

module _ {X : Type 0} (breaks : X → Bool) (n : ℕ) (faults : ℕ → List X → Option Fault) (none : (k : ℕ) → faults k [] ≡ None) (more : (k : ℕ) (x : X) (xs : List X) → faults k (x ∷ xs) ≡ cond (breaks x) (fault 3 n k) (faults (k + 1) xs)) where
  first_fault : (k : ℕ) (xs : List X) → faults k xs ≡ option_map (at_place n) (position_from breaks k xs)
  first_fault k [] = none k
  first_fault k (x ∷ xs) = let h = first_fault (k + 1) xs in let m = more k x xs in grind (arith, nat_tests)

pub first_train_fault : (k : ℕ) (ts : List Train) → trains_fault k ts ≡ option_map (at_place 18) (position_from train_breaks k ts)
first_train_fault = first_fault train_breaks 18 trains_fault (λ k. refl) (λ k t ts. refl)

pub first_step_fault : (k : ℕ) (ss : List Step) → steps_fault k ss ≡ option_map (at_place 20) (position_from step_breaks k ss)
first_step_fault = first_fault step_breaks 20 steps_fault (λ k. refl) (λ k s ss. refl)

pub none_breaks : (k : ℕ) (ts : List Train) → trains_fault k ts ≡ None → list_any train_breaks ts ≡ false
none_breaks k [] e = refl
none_breaks k (t ∷ ts) e = let h = none_breaks (k + 1) ts in grind (arith, nat_tests)
