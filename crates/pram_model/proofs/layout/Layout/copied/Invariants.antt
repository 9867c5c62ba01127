use Rattle.std.proofs.Common.{◌≡◌, take}
use Rattle.pram_model.proofs.layout.Layout.copied.Given as goal

-- the declarations so far
abbrev pub invariant-loop-entry : goal.invariant-loop-entry
invariant-loop-entry l = l.entries.items ≡ take l.entry-index l.entry-items
