use Rattle.std.proofs.Common.{◌≡◌, take}
use Rattle.combining.specs.Asked.{worded}
use Rattle.combining.proofs.states.AskStates.put_words.Given as goal

abbrev pub invariant-loop-i : goal.invariant-loop-i
invariant-loop-i l = record {
  items : l.self.items ≡ worded (take l.i l.words) l.fn.self.items;
  room : l.self.room ≡ l.fn.self.room;
}
