use Rattle.std.proofs.Common.{◌≡◌, map, replicate, vec_capacity}
use Rattle.bsp_machine.specs.declared.letter.Letter.{Letter}
use Rattle.bsp_machine.proofs.sheet.Sheet.with_room.Given as goal

abbrev pub invariant-workers : goal.invariant-workers
invariant-workers l = map (λ (x : Letter). vec_capacity x.words) l.letters.items ≡ replicate l._j l.most
