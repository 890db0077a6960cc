use Rattle.std.proofs.Common.{◌≡◌, ◌-◌, ◌%◌, ◌<◌, ◌≤◌, length, drop}
use Rattle.conditions.specs.Conditions.{both}
use Rattle.record_ranges.specs.Ranges.{readers_in_range}
use Rattle.in_place.proofs.ranges.are_readers_in_range.Given as goal

abbrev pub invariant-loop-i : goal.invariant-loop-i
invariant-loop-i l = record {
  upto : l.i ≤ 16;
  even : l.i % 2 ≡ 0;
  whole : 0 < l.i → length l.panel.readers ≡ 16;
  tested : both l.fit (readers_in_range l.panel.m l.panel.k (drop l.i l.panel.readers)) ≡ readers_in_range l.panel.m l.panel.k l.panel.readers;
}

abbrev pub decreases-loop-i : goal.decreases-loop-i
decreases-loop-i l = 16 - l.i
