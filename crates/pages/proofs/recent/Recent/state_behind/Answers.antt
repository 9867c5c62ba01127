use Rattle.std.proofs.Common.{◌≡◌, ◌+◌, ◌-◌, ◌∙◌, ap, arith, length, map, take}
use Rattle.std.specs.List.{fold}
use Rattle.journal.specs.Entries.{entry_is}
use Rattle.journal.specs.Replay.{with_cells, with_printed, with_variables}
use Rattle.pages.proofs.States.{recent_behind}
use Rattle.pages.proofs.recent.Recent.state_behind.Goals as goal

pub returns : goal.returns
returns c input es h =
    let r = c.args.self in
    let s = c.go_on_to.new.self in
    let t = c.go_on_to-2.new.self in
    let more = c.in-Some.more in
    let rest = c.saturating_sub.result in
    let at : c.args.behind ≡ more + r.left = (let e = c.in-Some.ensures in omega (arith, e)) in
    let over : rest ≡ more - length r.older.items =
    (let e = c.saturating_sub.ensures in let l = c.len.ensures in let o = r.older.ok.0 in omega (arith, e, l, o)) in
    let one = c.in_ok-go_on_to.ensures in
    let two = c.in_ok-go_on_to-2.ensures in
    let older = c.deref.ensures.value in
    let newer = c.deref-2.ensures.value in
    recent_behind input es c.args.behind more rest r s t h at over
    (one.cells ∙ ap (λ l. fold with_cells r.state.cells.items (take more (map entry_is l))) older)
    (one.variables ∙ ap (λ l. fold with_variables r.state.variables.items (take more (map entry_is l))) older)
    (one.printed ∙ ap (λ l. fold with_printed r.state.printed (take more (map entry_is l))) older)
    (two.cells ∙ ap (λ l. fold with_cells s.cells.items (take rest (map entry_is l))) newer)
    (two.variables ∙ ap (λ l. fold with_variables s.variables.items (take rest (map entry_is l))) newer)
    (two.printed ∙ ap (λ l. fold with_printed s.printed (take rest (map entry_is l))) newer)
