use Rattle.std.proofs.Common.{◌≡◌, ◌++◌, ◌-◌, drop, replicate, take}
use Rattle.scopes.proofs.apart.top.Given as goal

-- up to the place they are the greatest
abbrev pub invariant-loop-place : goal.invariant-loop-place
invariant-loop-place l =
    l.input ≡ take l.fn.from l.fn.input ++ (replicate (l.place - l.fn.from) l.fn.high ++ drop l.place l.fn.input)
