use Rattle.std.proofs.Common.{◌≡◌, ◌-◌, ◌%◌, ◌<◌, ◌≤◌, length, drop}
use Rattle.conditions.specs.Conditions.{both}
use Rattle.record_ranges.specs.Ranges.{stations_in_range}
use Rattle.in_place.proofs.ranges.are_stations_in_range.Given as goal

abbrev pub invariant-loop-i : goal.invariant-loop-i
invariant-loop-i l = record {
  upto : l.i ≤ 32;
  even : l.i % 2 ≡ 0;
  whole : 0 < l.i → length l.panel.stations ≡ 32;
  tested : both l.fit (stations_in_range (drop l.i l.panel.stations)) ≡ stations_in_range l.panel.stations;
}

abbrev pub decreases-loop-i : goal.decreases-loop-i
decreases-loop-i l = 32 - l.i
