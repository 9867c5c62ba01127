use Rattle.std.proofs.Common.{◌≡◌, ◌∙◌, ap, sym, subst, get_or, ◌<◌, ℕ, ◌+◌, arith, Bool}
use Rattle.std.proofs.lemmas.Bool.{eqb-true}
use Rattle.std.specs.Prelude.{not}
use Rattle.std.specs.List.{filter}
use Rattle.pram_values.specs.Truth.{is_nonzero}
use Rattle.worker_bank.specs.Columns.{value_of}
use Rattle.worker_bank.specs.Masks.{active_of, left_of, IsLevel}
use Rattle.worker_bank.proofs.LevelLemmas.{read_is, all_get}
use Rattle.worker_bank.proofs.MaskLemmas.{mask_keeps, mask_is, listed_below, listed_few, row_is}
use Rattle.worker_bank.proofs.masks.Masks.mask.Goals as goal

pub split-requires-clause-below : goal.split-requires-clause-below
split-requires-clause-below c k l =
    let m = c.args.self.now in
    let list = c.active.ensures ∙ read_is active_of m.levels.items m.depth c.index.result.now c.requires.masks.depth c.index.ensures in
    let h : get_or c.active.result.now k 0 < m.many = listed_below m c.active.result.now list c.requires.masks k l in
    let room = c.requires.column in omega arith

pub split-requires-clause-row : goal.split-requires-clause-row
split-requires-clause-row c none k l =
    let m = c.args.self.now in
    let list = c.active.ensures ∙ read_is active_of m.levels.items m.depth c.index.result.now c.requires.masks.depth c.index.ensures in
    row_is m c.active.result.now list c.requires.masks (eqb-true m.depth 0 none) k l

pub split-requires-clause-active : goal.split-requires-clause-active
split-requires-clause-active c =
    let few = listed_few c.args.self.now c.active.result.now c.index.result.now c.active.ensures c.index.ensures c.requires.masks in
    let room = c.requires.masks.spare.active_room in
    omega (arith, few, room)

pub split-requires-clause-left : goal.split-requires-clause-left
split-requires-clause-left c =
    let few = listed_few c.args.self.now c.active.result.now c.index.result.now c.active.ensures c.index.ensures c.requires.masks in
    let room = c.requires.masks.spare.left_room in
    omega (arith, few, room)

pub returns-clause-masks : goal.returns-clause-masks
returns-clause-masks c =
    let m = c.args.self.now in
    let list = c.active.ensures ∙ read_is active_of m.levels.items m.depth c.index.result.now c.requires.masks.depth c.index.ensures in
    let test : ℕ → Bool = λ i. is_nonzero (value_of c.args.column.now i) in
    let new = c.swap.new.y in
    let old = c.index_mut.result.now in
    let active : active_of new ≡ filter test c.active.result.now = ap active_of c.swap.ensures.y_after ∙ c.split.ensures.active in
    let left : left_of new ≡ filter (λ i. not (test i)) c.active.result.now = ap left_of c.swap.ensures.y_after ∙ c.split.ensures.left in
    let level : IsLevel m.most new =
    subst (IsLevel m.most) (sym c.swap.ensures.y_after) (c.split.ensures.room m.most c.requires.masks.spare) in
    let spare : IsLevel m.most c.swap.new.x =
    subst (IsLevel m.most) (sym (c.swap.ensures.x_after ∙ c.index_mut.ensures.value))
    (all_get (IsLevel m.most) m.levels.items (m.depth + 1) old c.requires.room c.requires.masks.levels) in
    mask_keeps m test c.active.result.now list new c.requires.masks c.requires.room active left c.swap.new.x level spare

pub returns-clause-each : goal.returns-clause-each
returns-clause-each c =
    let m = c.args.self.now in
    let list = c.active.ensures ∙ read_is active_of m.levels.items m.depth c.index.result.now c.requires.masks.depth c.index.ensures in
    let test : ℕ → Bool = λ i. is_nonzero (value_of c.args.column.now i) in
    let new = c.swap.new.y in
    let active : active_of new ≡ filter test c.active.result.now = ap active_of c.swap.ensures.y_after ∙ c.split.ensures.active in
    let left : left_of new ≡ filter (λ i. not (test i)) c.active.result.now = ap left_of c.swap.ensures.y_after ∙ c.split.ensures.left in
    mask_is m test c.active.result.now list new c.requires.masks c.requires.room active left c.swap.new.x
