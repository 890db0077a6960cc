-- A round that reads nothing is the last; each other fills a part of what is left.
use Rattle.std.proofs.Common.{◌-◌, length}
use Rattle.step_speed.proofs.read_full.Given as goal

abbrev pub decreases-loop-filled : goal.decreases-loop-filled
decreases-loop-filled g l = length l.bytes - l.filled
