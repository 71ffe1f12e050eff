-- `plain::stuff`. The loop's invariant: the octets still to be stored lead to what all of them make of the area.
use mathlib.Core.Path.{◌≡◌}
use Prim.Native.Nat.{◌+◌}
use lib.ListN.{length, drop}
use lib.Seq.{sets}
use Rattle.plain.specs.Stuffing.{stuffed}
use Rattle.plain.proofs.stuff.Given as goal

abbrev pub invariant-loop-octet : goal.invariant-loop-octet
invariant-loop-octet l = record {
  length_kept : length l.area ≡ length l.initial.area;
  end_then : l.end + length (stuffed l.marks (drop l.octet-index l.octets)) ≡ l.at + length (stuffed l.marks l.octets);
  area_then : sets l.initial.area l.at (stuffed l.marks l.octets) ≡ sets l.area l.end (stuffed l.marks (drop l.octet-index l.octets));
}
