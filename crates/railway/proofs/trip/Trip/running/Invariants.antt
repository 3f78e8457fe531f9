use Rattle.std.proofs.Common.{◌≡◌, ◌*◌, ◌≤◌, take, sum_by}
use Rattle.railway.proofs.trip.Trip.running.Given as goal

abbrev pub invariant-loop-step : goal.invariant-loop-step
invariant-loop-step l = (l.sum ≡ sum_by (λ s. s.running) (take l.step-index l.self.steps.now)) × (l.sum ≤ 65535 * l.step-index)
