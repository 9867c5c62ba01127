use Rattle.std.proofs.Common.{◌≡◌, ◌<◌, drop}
use Rattle.sized_texts.specs.SizeTables.{chain_of, chain_from, chain_count}
use Rattle.sized_texts.proofs.size_table.chain_of.Given as goal

-- the rest of the name leads on to the name's chain
abbrev pub invariant-loop-byte : goal.invariant-loop-byte
invariant-loop-byte l = record {
  inside : l.hash < chain_count;
  goes_on : chain_of l.name ≡ chain_from l.hash (drop l.byte-index l.name);
}
