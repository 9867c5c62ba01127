use Rattle.std.proofs.Common.{◌∙◌, List, ap, refl, subst, sym}
use Rattle.std.specs.List.{All}
use Rattle.all_inputs.specs.declared.line_faults.LineFaults.{LineFaults}
use Rattle.all_inputs.specs.Lines.{AreAscending, HasLineAt, HaveFaults, IsGapFor, IsHeld}
use Rattle.all_inputs.proofs.LineLists.{fault_kept, first_kept, insert_ascending, insert_faulty, insert_held, insert_kept}
use Rattle.all_inputs.proofs.LineLists.{second_kept, set_ascending, set_faulty, set_held, set_kept}
use Rattle.all_inputs.proofs.line_faults.note_at.Goals as goal

-- the line is there, and its faults are written over
pub returns-then-stands_at-clause-ascending : goal.returns-then-stands_at-clause-ascending
returns-then-stands_at-clause-ascending c =
    let entry = c.args.entry in
    let new : LineFaults = record { line = entry.line; faults = c.with-faults.result } in
    let here = subst (λ (es : List LineFaults). HasLineAt es entry.line c.args.at) c.as_slice.ensures.value
    (c.stands_at.ensures.found c.if-stands_at.true) in
    set_ascending c.args.entries.now.items c.args.at new here.within here.is c.requires.ascending

pub returns-then-stands_at-clause-faulty : goal.returns-then-stands_at-clause-faulty
returns-then-stands_at-clause-faulty c =
    let entry = c.args.entry in
    let new : LineFaults = record { line = entry.line; faults = c.with-faults.result } in
    let here = subst (λ (es : List LineFaults). HasLineAt es entry.line c.args.at) c.as_slice.ensures.value
    (c.stands_at.ensures.found c.if-stands_at.true) in
    let kept = second_kept c.index.result.now.faults entry.faults c.with-faults.result c.with-faults.ensures in
    set_faulty c.args.entries.now.items c.args.at new here.within c.requires.faulty
    (fault_kept entry.faults c.with-faults.result kept c.requires.fault)

pub returns-then-stands_at-clause-noted : goal.returns-then-stands_at-clause-noted
returns-then-stands_at-clause-noted c =
    let entry = c.args.entry in
    let new : LineFaults = record { line = entry.line; faults = c.with-faults.result } in
    let here = subst (λ (es : List LineFaults). HasLineAt es entry.line c.args.at) c.as_slice.ensures.value
    (c.stands_at.ensures.found c.if-stands_at.true) in
    let kept = second_kept c.index.result.now.faults entry.faults c.with-faults.result c.with-faults.ensures in
    set_held c.args.entries.now.items c.args.at new here.within entry refl kept

pub returns-then-stands_at-clause-kept : goal.returns-then-stands_at-clause-kept
returns-then-stands_at-clause-kept c =
    let entry = c.args.entry in
    let new : LineFaults = record { line = entry.line; faults = c.with-faults.result } in
    let here = subst (λ (es : List LineFaults). HasLineAt es entry.line c.args.at) c.as_slice.ensures.value
    (c.stands_at.ensures.found c.if-stands_at.true) in
    let old = c.index.result.now in
    set_kept c.args.entries.now.items c.args.at new here.within old c.index.ensures
    (sym (here.is old) ∙ ap (λ (e : LineFaults). e.line) (sym c.index.ensures))
    (first_kept old.faults entry.faults c.with-faults.result c.with-faults.ensures)

-- it is not, and is put in its place
pub returns-clause-ascending : goal.returns-clause-ascending
returns-clause-ascending c =
    let gap = subst (λ (es : List LineFaults). IsGapFor es c.args.entry.line c.args.at) c.as_slice.ensures.value
    (c.stands_at.ensures.absent c.if-stands_at.false) in
    subst AreAscending (sym c.in_ok-insert.ensures.items)
    (insert_ascending c.args.entries.now.items c.args.at c.args.entry gap c.requires.ascending)

pub returns-clause-faulty : goal.returns-clause-faulty
returns-clause-faulty c =
    let gap = subst (λ (es : List LineFaults). IsGapFor es c.args.entry.line c.args.at) c.as_slice.ensures.value
    (c.stands_at.ensures.absent c.if-stands_at.false) in
    subst HaveFaults (sym c.in_ok-insert.ensures.items)
    (insert_faulty c.args.entries.now.items c.args.at c.args.entry gap c.requires.faulty c.requires.fault)

pub returns-clause-noted : goal.returns-clause-noted
returns-clause-noted c =
    let gap = subst (λ (es : List LineFaults). IsGapFor es c.args.entry.line c.args.at) c.as_slice.ensures.value
    (c.stands_at.ensures.absent c.if-stands_at.false) in
    subst (λ (es : List LineFaults). IsHeld es c.args.entry) (sym c.in_ok-insert.ensures.items)
    (insert_held c.args.entries.now.items c.args.at c.args.entry gap)

pub returns-clause-kept : goal.returns-clause-kept
returns-clause-kept c =
    let gap = subst (λ (es : List LineFaults). IsGapFor es c.args.entry.line c.args.at) c.as_slice.ensures.value
    (c.stands_at.ensures.absent c.if-stands_at.false) in
    subst (λ (es : List LineFaults). All (IsHeld es) c.args.entries.now.items) (sym c.in_ok-insert.ensures.items)
    (insert_kept c.args.entries.now.items c.args.at c.args.entry gap)
