-- The rows of programs that are graded, and that what holds of them holds as long as names stand for the same files.
use Rattle.std.proofs.Common.{◌≡◌, ◌<◌, ◌+◌, ◌∷◌, ◌++◌, [], ℕ, List, get_or, inl, inr, length, refl, subst, sym, take}
use Rattle.std.proofs.lemmas.List.{take_more}
use Rattle.std.specs.List.{AllZip}
use Rattle.std.specs.Prelude.{Option, Result, Ok, Err, IfOk, IfErr}
use Rattle.system_files.specs.Files.{IsSame}
use Rattle.command_requests.specs.declared.pair_words.PairWords.{PairWords}
use Rattle.diagnoses.specs.declared.halted.Halted.{Halted}
use Rattle.command_facts.specs.declared.found.FoundPair.{FoundPair}
use Rattle.command_facts.specs.declared.found.GradeRow.{GradeRow}
use Rattle.command_facts.proofs.Rows.{zip_more}
use Rattle.command_facts.proofs.Same.{named_held, named_stops, program_held, program_stops, text_held}
use Rattle.command_pairs.specs.Grades.{IsGradeBy, IsRow}
use Rattle.command_pairs.specs.Pairs.{IsPaired, StopsAtPair, StopsBehindAll, drawn_beside}
use Rattle.command_pairs.proofs.PairInputs.{pair_refused, words_held}

-- what is found, or why nothing is
pub graded_by : (holds : List ℕ → Option (List ℕ) → Type 0) (words : PairWords) (r : Result FoundPair Halted) →
    IfOk r (IsPaired holds words) → IfErr r (StopsAtPair holds words) → IsGradeBy holds words r
graded_by holds words (Ok f) found refused = found
graded_by holds words (Err h) found refused = refused

-- ---- the same files

module _ (now before : List ℕ → Option (List ℕ) → Type 0) (same : IsSame now before) where
  paired_held : (words : PairWords) (f : FoundPair) → IsPaired now words f → IsPaired before words f
  paired_held words f h = record {
    first = program_held now before same words.first f.first h.first;
    text = h.text;
    written = h.written;
    second = text_held now before same words.second h.text h.written h.second;
    ran = h.ran;
    declared = h.declared;
    procs = h.procs;
    precondition = named_held now before same words.precondition f.precondition h.precondition;
    drawn = h.drawn;
    compared = h.compared;
    is_compared = h.is_compared;
    found = (
      h.found.0,
      words_held now before same words.inputs f.first (drawn_beside words.is_graded f.first f.second) h.found.0 h.found.1,
      h.found.2,
    );
  }

  behind_held : (words : PairWords) (h : Halted) → StopsBehindAll now words h → StopsBehindAll before words h
  behind_held words h s = record {
    first = s.first;
    written = s.written;
    second = s.second;
    is_first = program_held now before same words.first s.first s.is_first;
    is_second = program_held now before same words.second s.written s.is_second;
    ran = s.ran;
    precondition = s.precondition;
    is_precondition = named_held now before same words.precondition s.precondition s.is_precondition;
    refused = elim s.refused [
      | inl u ↦ inl u
      | inr (inl l) ↦ inr (inl (l.0, (same words.second.name.now _).0 l.1, l.2))
      | inr (inr r) ↦ inr (inr (pair_refused now before same words.inputs s.precondition s.first s.second
          (drawn_beside words.is_graded s.first s.second) h r))
    ];
  }

  stops_held : (words : PairWords) (h : Halted) → StopsAtPair now words h → StopsAtPair before words h
  stops_held words h (inl s) = inl (program_stops now before same words.first h s)
  stops_held words h (inr (inl s)) = inr (inl (program_stops now before same words.second h s))
  stops_held words h (inr (inr (inl s))) = inr (inr (inl (named_stops now before same words.precondition h s)))
  stops_held words h (inr (inr (inr s))) = inr (inr (inr (behind_held words h s)))

  grade_held : (words : PairWords) (r : Result FoundPair Halted) → IsGradeBy now words r → IsGradeBy before words r
  grade_held words (Ok f) h = paired_held words f h
  grade_held words (Err why) h = stops_held words why h

  pub row_held : (words : PairWords) (row : GradeRow) → IsRow now words row → IsRow before words row
  row_held words row h = (h.0, grade_held words row.graded h.1)

  pub rows_held : (words : List PairWords) (rows : List GradeRow) → AllZip (IsRow now) words rows → AllZip (IsRow before) words rows
  rows_held [] [] h = tt
  rows_held (w ∷ words) (row ∷ rows) h = (row_held w row h.0, rows_held words rows h.1)
  rows_held [] (row ∷ rows) h = absurd h
  rows_held (w ∷ words) [] h = absurd h

-- ---- one more

pub next_row : (R : PairWords → GradeRow → Type 0) (words : List PairWords) (i : ℕ) (d : PairWords) (before after : List GradeRow)
    (row : GradeRow) → i < length words → AllZip R (take i words) before → R (get_or words i d) row → after ≡ before ++ row ∷ [] →
    AllZip R (take (i + 1) words) after
next_row R words i d before after row inside all one is =
    subst (λ (xs : List PairWords). AllZip R xs after) (sym (take_more words i d inside))
    (subst (AllZip R _) (sym is) (zip_more R (take i words) before (get_or words i d) row all one))
