use Rattle.std.proofs.Common.{◌≡◌, ◌+◌, ◌∙◌, ap, arith, length, map}
use Rattle.std.specs.List.{fold}
use Rattle.journal.specs.Entries.{entry_is}
use Rattle.journal.specs.Replay.{with_cells, with_printed, with_variables}
use Rattle.pages.proofs.States.{recent_shifted}
use Rattle.pages.proofs.recent.Recent.shift.Goals as goal

pub returns : goal.returns
returns c input es h =
    let r = c.args.self.now in
    let s = r.state in
    let made = c.in_ok-go_on_all.ensures in
    let same = c.deref.ensures.value in
    let left : c.in-Some.left ≡ r.left + length r.older.items =
    (let e = c.in-Some.ensures in let l = c.len.ensures in let o = r.older.ok.0 in omega (arith, e, l, o)) in
    recent_shifted input es r _ h left (made.cells ∙ ap (λ l. fold with_cells s.cells.items (map entry_is l)) same)
    (made.variables ∙ ap (λ l. fold with_variables s.variables.items (map entry_is l)) same)
    (made.printed ∙ ap (λ l. fold with_printed s.printed (map entry_is l)) same) (ap (λ v. v.items) c.replace-newer.ensures.value)
    (ap (λ v. v.items) c.replace-newer.ensures.after ∙ c.new.ensures.items)
