use Rattle.std.proofs.Common.{◌≡◌, ◌+◌, ◌++◌, drop, take}
use Rattle.memory_texts.proofs.reading.put_values.Given as goal

-- the first values have been put, and the cells behind them are as they were
abbrev pub invariant-loop-i : goal.invariant-loop-i
invariant-loop-i l = l.memory.items ≡ take l.first l.fn.memory.items
    ++ (take l.i l.values ++ drop (l.first + l.i) l.fn.memory.items)
