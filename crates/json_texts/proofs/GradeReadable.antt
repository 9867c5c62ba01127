-- What is told of programs that are graded can be read.
use Rattle.std.proofs.Common.{ℕ, List, ◌++◌, lit≤}
use Rattle.std.specs.Prelude.{false, Option, Some, None}
use Rattle.json_texts.specs.Small.{IsReadable}
use Rattle.json_texts.proofs.Small.{HasSmall, has_all, small_count, small_flag, small_large, small_letters, small_object, small_word}
use Rattle.json_texts.proofs.Small.{smaller}
use Rattle.text_places.specs.Escaped.{escaped}
use Rattle.pram_model.specs.Layout.{SharedEntry}
use Rattle.program_texts.specs.declared.stop.Stop.{Stop}
use Rattle.comparing.specs.Found.{Found}
use Rattle.comparing.specs.declared.score.Score.{Score}
use Rattle.json_texts.specs.declared.grade.Marks.{Marks}
use Rattle.json_texts.specs.GradeFacts.{graded_facts, graded_fields, marks_fields, most_fields, passing_facts, passing_fields}
use Rattle.json_texts.specs.GradeFacts.{score_fields, ungraded_facts, ungraded_fields}
use Rattle.json_texts.specs.PairFacts.{first_fields}
use Rattle.json_texts.specs.RefusalFacts.{stop_fields}
use Rattle.json_texts.proofs.PairReadable.{small_first}
use Rattle.json_texts.proofs.Readable.{readable, small_stop}

small_most : (most : Option ℕ) → HasSmall 3 (most_fields most)
small_most None = tt
small_most (Some most) = (small_large 3 most, tt)

small_marks : (m : Marks) → HasSmall 3 (marks_fields m)
small_marks m = (small_flag 3 _, (small_large 3 _, (small_word 3 _, (small_count 3 _, small_most m.most_procs))))

small_score : (s : Score) → HasSmall 3 (score_fields s)
small_score s = (small_large 3 _, (small_large 3 _, (small_large 3 _, (small_large 3 _, (small_large 3 _, tt)))))

pub readable_graded : (file : List ℕ) (m : Marks) (first second : List SharedEntry) (f : Found) →
    IsReadable (graded_facts file m first second f)
readable_graded file m first second f =
    readable (graded_fields file m first second f) (
      small_letters 3 (escaped file),
      (
        small_large 3 f.counting,
        has_all 3 (marks_fields m) (score_fields f.score ++ first_fields first second f.told) (small_marks m)
            (has_all 3 (score_fields f.score) (first_fields first second f.told) (small_score f.score) (small_first first second f.told)),
      ),
    )

pub readable_ungraded : (file source : List ℕ) (why : Stop) → IsReadable (ungraded_facts file source why)
readable_ungraded file source why =
    smaller 5 127 (ungraded_facts file source why) (lit≤ tt) (
    small_object 4 (ungraded_fields file source why)
    (small_letters 4 (escaped file), (small_flag 4 false, (small_object 3 (stop_fields source why) (small_stop source why), tt)))
    )

pub readable_passing : (passing programs : ℕ) → IsReadable (passing_facts passing programs)
readable_passing passing programs = readable (passing_fields passing programs) (small_count 3 passing, (small_count 3 programs, tt))
