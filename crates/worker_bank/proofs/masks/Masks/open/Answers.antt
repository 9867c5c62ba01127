use Rattle.worker_bank.proofs.MaskLemmas.{open_keeps}
use Rattle.worker_bank.proofs.masks.Masks.open.Goals as goal

pub returns-clause-masks : goal.returns-clause-masks
returns-clause-masks c =
    open_keeps c.args.self.now c.args.many c.index_mut.result.now c.keep.new.self c.requires.masks c.requires.room
    c.index_mut.ensures.value c.keep.ensures
