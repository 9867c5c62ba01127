-- A statement with two expressions: what is noted in both, and in a test behind them.
use Rattle.std.proofs.Common.{◌≡◌, ◌+◌, List, [], ◌∷◌, ◌++◌, sym, ap, ◌∙◌, append_assoc, arith}
use Rattle.pram_values.specs.declared.place.Place.TheVariants.{All}
use Rattle.superstep_machine.specs.Keys.{least}
use Rattle.pram_meaning.specs.Store.{View}
use Rattle.statement_evaluation.specs.Noted.{Heading, note_key, notes_behind}
use Rattle.statement_evaluation.specs.Whole.{Step}
use Rattle.plain_form.specs.Formulas.{Formula, Pair, positions}
use Rattle.compiled_formulas.specs.Terms.{steps_in}
use Rattle.compiled_formulas.proofs.StepNotes.{length_steps, with_last}

pub pair_then_test : (h : Heading) (s : View) (d e : Formula) (first second : List Step) (x : Step) → steps_in s d ≡ first →
    steps_in s e ≡ second →
    least (notes_behind h 0 All (steps_in s (Pair d e))) (note_key h (positions d + positions e + 1) All x.note)
    ≡ notes_behind h 0 All (first ++ (second ++ x ∷ []))
pair_then_test h s d e first second x one two =
    ap (λ q. least (notes_behind h 0 All (steps_in s (Pair d e))) (note_key h q All x.note))
    (let k : positions d + positions e + 1 ≡ 0 + (positions d + positions e) + 1 = omega arith in k)
    ∙ sym (with_last h All (steps_in s (Pair d e)) x 0 (positions d + positions e) (length_steps s (Pair d e)))
    ∙ ap (notes_behind h 0 All) (append_assoc (steps_in s d) (steps_in s e) (x ∷ []))
    ∙ (λ i. notes_behind h 0 All (one i ++ (two i ++ x ∷ [])))
