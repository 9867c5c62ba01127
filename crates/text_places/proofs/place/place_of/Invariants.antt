use Rattle.std.proofs.Common.{◌≡◌, ◌≤◌, ◌<◌, ◌+◌, drop}
use Rattle.text_places.specs.Places.{behind_all, place_at}
use Rattle.text_places.proofs.place.place_of.Given as goal

-- what is left leads to the place, and no line and no column has a greater number than there are bytes behind it
abbrev pub invariant-loop-byte : goal.invariant-loop-byte
invariant-loop-byte l = record {
  is : behind_all l.place (drop l.byte-index l.before) ≡ behind_all (place_at 1 1) l.before;
  line : l.place.line ≤ l.byte-index + 1;
  column : l.place.column ≤ l.byte-index + 1;
  counted : 0 < l.place.column;
}
