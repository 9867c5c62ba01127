use Rattle.std.proofs.Common.{◌≡◌, ◌++◌, drop, map}
use Rattle.sized_texts.proofs.expanded.add_bytes.Given as goal

-- what is there and what is left are what was there and all
abbrev pub invariant-loop-byte : goal.invariant-loop-byte
invariant-loop-byte l = record {
  text : l.to.text.items ++ drop l.byte-index l.bytes ≡ l.fn.to.text.items ++ l.bytes;
  places : l.to.places.items ++ map (λ _. l.place) (drop l.byte-index l.bytes)
      ≡ l.fn.to.places.items ++ map (λ _. l.place) l.bytes;
}
