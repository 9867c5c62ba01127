-- What JSON says of programs that are graded by a first one.
use Rattle.std.specs.Prelude.{ℕ, false, List, [], ◌∷◌, ◌++◌, Option, Some, None, codes}
use Rattle.serde_json.specs.Data.{Data}
use Rattle.json_texts.specs.Facts.{Field, count, flag, large, object_of, told, word}
use Rattle.pram_model.specs.Layout.{SharedEntry}
use Rattle.pram_model.specs.Rules.{rule_word}
use Rattle.program_texts.specs.declared.stop.Stop.{Stop}
use Rattle.comparing.specs.Found.{Found}
use Rattle.comparing.specs.declared.score.Score.{Score}
use Rattle.json_texts.specs.declared.grade.Marks.{Marks}
use Rattle.json_texts.specs.PairFacts.{first_fields}
use Rattle.json_texts.specs.RefusalFacts.{stop_facts}

-- ---- a program that is run

-- the most processors that it may declare, where that is limited
abbrev pub most_fields : Option ℕ → List Field
most_fields None = []
most_fields (Some most) = (codes "procs_at_most", large most) ∷ []

-- whether it passes, on how many inputs it is right, the rule of its text, and how many processors it declares
abbrev pub marks_fields : Marks → List Field
marks_fields m =
    (codes "passes", flag m.passes) ∷ (codes "correct", large m.correct) ∷ (codes "rule", word (rule_word m.rule))
    ∷ (codes "procs", count m.procs) ∷ most_fields m.most_procs

-- on how many it faults, goes on, or comes to the same above a limit; and the most that its runs take
abbrev pub score_fields : Score → List Field
score_fields s =
    (codes "faulted", large s.faulted) ∷ (codes "go_on", large s.going_on) ∷ (codes "above", large s.above)
    ∷ (codes "time", large s.most_time) ∷ (codes "work", large s.most_work) ∷ []

-- the name of its file and how many inputs count, its marks, how it does, and the first input on which it differs
abbrev pub graded_fields : (file : List ℕ) → Marks → (first second : List SharedEntry) → Found → List Field
graded_fields file m first second f =
    (codes "file", told file) ∷ (codes "counting", large f.counting)
    ∷ (marks_fields m ++ (score_fields f.score ++ first_fields first second f.told))

abbrev pub graded_facts : (file : List ℕ) → Marks → (first second : List SharedEntry) → Found → Data
graded_facts file m first second f = object_of (graded_fields file m first second f)

-- ---- a program that is refused

-- the name of its file, that it doesn't pass, and why, where this text was refused
abbrev pub ungraded_fields : (file source : List ℕ) → Stop → List Field
ungraded_fields file source why =
    (codes "file", told file) ∷ (codes "passes", flag false) ∷ (codes "refusal", stop_facts source why) ∷ []

abbrev pub ungraded_facts : (file source : List ℕ) → Stop → Data
ungraded_facts file source why = object_of (ungraded_fields file source why)

-- ---- all programs

-- how many of them pass
abbrev pub passing_fields : (passing programs : ℕ) → List Field
passing_fields passing programs = (codes "passing", count passing) ∷ (codes "programs", count programs) ∷ []

abbrev pub passing_facts : (passing programs : ℕ) → Data
passing_facts passing programs = object_of (passing_fields passing programs)
