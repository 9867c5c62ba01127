use Rattle.std.proofs.Common.{◌∙◌}
use Rattle.worker_bank.specs.Masks.{active_of, set_at, rest_at}
use Rattle.worker_bank.proofs.LevelLemmas.{read_is}
use Rattle.worker_bank.proofs.NestedLemmas.{active_are}
use Rattle.worker_bank.proofs.masks.Masks.active.Goals as goal

pub returns : goal.returns
returns c =
    let m = c.args.self.now in
    c.active.ensures ∙ read_is active_of m.levels.items m.depth c.index.result.now c.requires.depth c.index.ensures
    ∙ active_are m.many (set_at m.levels.items) (rest_at m.levels.items) m.depth c.requires.nested
