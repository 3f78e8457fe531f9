use Rattle.std.proofs.Common.{◌≡◌, ◌+◌, ◌*◌, ◌≤◌, ◌++◌, length}
use Rattle.trains.specs.Railway.{all_arcs}
use Rattle.railway.specs.Tables.{listed, arcs_in}
use Rattle.railway.specs.Trips.{trips_left}
use Rattle.railway.proofs.fixed.list_fixed.Given as goal

abbrev pub invariant-loop-trip : goal.invariant-loop-trip
invariant-loop-trip l = record {
  room : length (listed l.arcs) + 18 * length (trips_left l.trip-iterator) ≤ 216;
  moved : arcs_in l.arcs ++ all_arcs l.end (trips_left l.trip-iterator) ≡ all_arcs l.end (trips_left l.fn.trips);
}
