use Rattle.std.proofs.Common.{◌≡◌, drop, length}
use Rattle.memory_texts.specs.Chosen.{parts}
use Rattle.step_text.specs.Focus.{undeclared_part}
use Rattle.step_text.proofs.names.undeclared_part.Given as goal

abbrev pub invariant-loop-part : goal.invariant-loop-part
invariant-loop-part l = undeclared_part l.tree (drop (length l.yielded) (parts l.word)) ≡ undeclared_part l.tree (parts l.word)
