use Rattle.std.proofs.Common.{sym, ◌∙◌}
use Rattle.worker_exchange.proofs.StandLemmas.{held_is, runs_on, shown_behind, going_behind, left_behind}
use Rattle.worker_exchange.proofs.receiving.exchange.Goals as goal

pub returns-clause-shown : goal.returns-clause-shown
returns-clause-shown g c =
    let x = c.args.local.now in
    let stood = c.stand_behind.ensures in
    shown_behind c.args.code.now (g.M.AddressMap.shape c.args.map.now) c.args.bound (g.C.Column.came c.args.column.now) x c.take.new.local
    c.stand_behind.new.local c.args.heard.key c.is_some-held.result c.requires.at c.take.ensures.still stood.same stood.place stood.way
    (held_is x.steps.uniform.put ∙ sym c.is_some-held.ensures) c.requires.key c.requires.clear c.take.ensures.shows

pub returns-clause-going : goal.returns-clause-going
returns-clause-going g c =
    let x = c.args.local.now in
    let stood = c.stand_behind.ensures in
    going_behind c.args.code.now (g.M.AddressMap.shape c.args.map.now) c.args.bound (g.C.Column.came c.args.column.now) x c.take.new.local
    c.stand_behind.new.local c.args.heard.key c.is_some-held.result c.requires.at c.take.ensures.still stood.same stood.place stood.way
    (held_is x.steps.uniform.put ∙ sym c.is_some-held.ensures) c.requires.key c.requires.clear c.requires.runnable c.take.ensures.shows
    c.take.ensures.equipped c.take.ensures.verified

pub returns-clause-runs : goal.returns-clause-runs
returns-clause-runs g c =
    let x = c.args.local.now in
    let stood = c.stand_behind.ensures in
    runs_on c.args.code.now (g.M.AddressMap.shape c.args.map.now) c.args.bound (g.C.Column.came c.args.column.now) x c.take.new.local
    c.stand_behind.new.local c.args.heard.key c.is_some-held.result c.requires.at c.take.ensures.still stood.same stood.place stood.way
    (held_is x.steps.uniform.put ∙ sym c.is_some-held.ensures) c.requires.key c.requires.clear

pub returns-clause-left : goal.returns-clause-left
returns-clause-left g c =
    let x = c.args.local.now in
    let stood = c.stand_behind.ensures in
    left_behind c.args.code.now (g.M.AddressMap.shape c.args.map.now) c.args.bound (g.C.Column.came c.args.column.now) x c.take.new.local
    c.stand_behind.new.local c.args.heard.key c.is_some-held.result c.requires.at c.take.ensures.still stood.same stood.place stood.way
    (held_is x.steps.uniform.put ∙ sym c.is_some-held.ensures) c.requires.key c.requires.clear c.requires.runnable.formed
