use Rattle.std.proofs.Common.{◌≡◌, [], length}
use Rattle.std.specs.List.{All}
use Rattle.sized_texts.proofs.size_table.empty_chains.Given as goal

-- as many chains as turns, all empty
abbrev pub invariant-loop : goal.invariant-loop
invariant-loop l = record {
  count : length l.chains.items ≡ l.counter;
  empty : All (λ chain. chain.items ≡ []) l.chains.items;
}
