use Rattle.std.proofs.Common.{subst, sym}
use Rattle.worker_bank.specs.Masks.{IsLevel}
use Rattle.worker_bank.proofs.LevelLemmas.{all_get}
use Rattle.worker_bank.proofs.MaskLemmas.{flip_keeps, flip_is}
use Rattle.worker_bank.proofs.masks.Masks.flip.Goals as goal

pub returns-clause-masks : goal.returns-clause-masks
returns-clause-masks c =
    let m = c.args.self.now in
    let old = c.index_mut.result.now in
    let level : IsLevel m.most old =
    subst (IsLevel m.most) (sym c.index_mut.ensures.value)
    (all_get (IsLevel m.most) m.levels.items m.depth old c.requires.masks.depth c.requires.masks.levels) in
    flip_keeps m old c.turn.new.self c.requires.masks c.index_mut.ensures.value c.turn.ensures.active c.turn.ensures.left
    c.requires.masked (c.turn.ensures.room m.most level)

pub returns-clause-each : goal.returns-clause-each
returns-clause-each c =
    flip_is c.args.self.now c.index_mut.result.now c.turn.new.self c.requires.masks c.index_mut.ensures.value c.turn.ensures.active
    c.turn.ensures.left c.requires.masked
