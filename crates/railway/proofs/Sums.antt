-- The sums over trains and steps, as the library adds up.
use Rattle.std.proofs.Common.{◌≡◌, ℕ, ◌+◌, List, [], ◌∷◌, length, sum_by, refl, arith}
use Rattle.std.proofs.lemmas.List.Sums.{sum_by-cons}
use Rattle.trains.specs.declared.train.Train.{Train}
use Rattle.trains.specs.declared.train.Step.{Step}
use Rattle.trains.specs.Railway.{running_sum, steps_of, last_event}

pub running_sum_is : (ss : List Step) → running_sum ss ≡ sum_by (λ s. s.running) ss
running_sum_is [] = refl
running_sum_is (s ∷ ss) = omega (arith, running_sum_is ss, sum_by-cons {X = Step} (λ s. s.running) s ss)

pub steps_of_is : (ts : List Train) → steps_of ts ≡ sum_by (λ t. t.steps) ts
steps_of_is [] = refl
steps_of_is (t ∷ ts) = omega (arith, steps_of_is ts, sum_by-cons {X = Train} (λ t. t.steps) t ts)

-- one event for each step and one for each exit
pub last_event_is : (e : ℕ) (ts : List Train) → last_event e ts ≡ e + length ts + steps_of ts
last_event_is e [] = omega arith
last_event_is e (t ∷ ts) = omega (arith, last_event_is (e + t.steps + 1) ts)
