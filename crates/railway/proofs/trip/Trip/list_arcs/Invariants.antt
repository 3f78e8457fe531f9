use Rattle.std.proofs.Common.{◌≡◌, ◌+◌, ◌++◌, length, drop}
use Rattle.trains.specs.Railway.{runs}
use Rattle.railway.specs.Tables.{listed, arcs_in}
use Rattle.railway.proofs.trip.Trip.list_arcs.Given as goal

abbrev pub invariant-loop-at : goal.invariant-loop-at
invariant-loop-at l = record {
  long : length (listed l.arcs) ≡ length (listed l.initial.arcs) + l.at;
  moved : arcs_in l.arcs ++ runs (l.self.first + l.at) (drop l.at l.self.steps.now) ≡ arcs_in l.initial.arcs ++ runs l.self.first l.self.steps.now;
}
