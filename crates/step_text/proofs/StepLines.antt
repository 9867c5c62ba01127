-- The text of entries, one by one.
use Rattle.std.proofs.Common.{◌≡◌, ◌∙◌, ◌<◌, ◌+◌, ◌++◌, ◌∷◌, [], List, ℕ, ℤ, Option, Some, ap, arith, codes, drop, get_or}
use Rattle.std.proofs.Common.{length, refl, sym}
use Rattle.std.proofs.lemmas.List.{drop_more}
use Rattle.pram_model.specs.Layout.{SharedEntry}
use Rattle.journal.specs.declared.change.Change.{Change}
use Rattle.journal.specs.declared.local_change.LocalChange.{LocalChange}
use Rattle.pram_trees.specs.Program.{ProgramTree}
use Rattle.step_text.specs.BesideCells.{each_local_text, local_text, printed_text, variable_text, variables_text}
use Rattle.program_texts.specs.Shown.{spaced}
use Rattle.step_text.specs.ChangeTexts.{change_text, changes_text, meeting_text}

-- the change at i, and those behind it
pub changes_at : (layout : List SharedEntry) (ds : List Change) (i : ℕ) (d : Change) → i < length ds → d ≡ get_or ds i d →
    changes_text layout (drop i ds) ≡ change_text layout d ++ changes_text layout (drop (i + 1) ds)
changes_at layout ds i d below is =
    ap (changes_text layout) (drop_more ds i d below)
    ∙ ap (λ d. change_text layout d ++ changes_text layout (drop (i + 1) ds)) (sym is)

-- the variable at i, and those behind it
pub variables_at : (tree : ProgramTree) (ds : List Change) (i : ℕ) (d : Change) → i < length ds → d ≡ get_or ds i d →
    variables_text tree (drop i ds) ≡ variable_text tree d ++ variables_text tree (drop (i + 1) ds)
variables_at tree ds i d below is =
    ap (variables_text tree) (drop_more ds i d below)
    ∙ ap (λ d. variable_text tree d ++ variables_text tree (drop (i + 1) ds)) (sym is)

-- the local at i, and those behind it
pub locals_from : (tree : ProgramTree) (at : ℕ) (before : Option ℕ) (ds : List LocalChange) (i : ℕ) (d : LocalChange) →
    i < length ds → d ≡ get_or ds i d → each_local_text tree at before (drop i ds) ≡
    local_text tree at before d ++ each_local_text tree at (Some d.change.cell) (drop (i + 1) ds)
locals_from tree at before ds i d below is =
    ap (each_local_text tree at before) (drop_more ds i d below)
    ∙ ap (λ d. local_text tree at before d ++ each_local_text tree at (Some d.change.cell) (drop (i + 1) ds)) (sym is)

-- where something was printed
pub some_printed : (vs : List ℤ) → 0 < length vs → printed_text vs ≡ codes " prints" ++ spaced vs
some_printed [] h = absurd (omega (arith, h))
some_printed (v ∷ vs) h = refl

-- where some met
pub some_met : (who : List ℤ) → 0 < length who → meeting_text who ≡ codes " processors" ++ spaced who
some_met [] h = absurd (omega (arith, h))
some_met (i ∷ is) h = refl
