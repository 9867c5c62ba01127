-- What a module's merge and its search for shared reads are in the machine's definition.
use Rattle.std.specs.Prelude.{◌≡◌, ℕ, ℤ, ◌<◌, List, length, map, Option, Some, None, if◌then◌else◌}
use Rattle.pram_values.specs.declared.kind.Kind.{Kind}
use Rattle.pram_values.specs.declared.kind.Kind.TheVariants.{ReadConflict}
use Rattle.pram_values.specs.Total.{total}
use Rattle.pram_model.specs.declared.rule.Rule.{Rule}
use Rattle.address_map.specs.Lawful.{IsLawful}
use Rattle.superstep_machine.specs.declared.header.MessageHeader.{MessageHeader}
use Rattle.superstep_machine.specs.declared.key.Key.{Key}
use Rattle.superstep_machine.specs.Keys.{least}
use Rattle.superstep_machine.specs.Setting.{Setting, workers, module_cells}
use Rattle.superstep_machine.specs.Parts.{Moment, Read}
use Rattle.superstep_machine.specs.Worker.{Worker}
use Rattle.superstep_machine.specs.Sending.{entry_came, verdict_on, conflict_at, put_conflict, is_private, read_conflict, after_send}
use Rattle.superstep_machine.specs.WordReading.{put_part, ask_part}
use Rattle.superstep_machine.specs.WordLaws.{messages_read}
use Rattle.combining.specs.Merged.{IsMerged, IsLeastShared}

-- the words of the puts, and of the asks, of all messages that came
abbrev pub put_parts : Rule → List (MessageHeader × List ℕ) → List (List ℕ)
put_parts rule = map (λ (r : MessageHeader × List ℕ). put_part rule r.0 r.1)

abbrev pub ask_parts : Rule → List (MessageHeader × List ℕ) → List (List ℕ)
ask_parts rule = map (λ (r : MessageHeader × List ℕ). ask_part rule r.0 r.1)

-- the key of the conflict that was told
abbrev pub key_of_conflict : Moment → Option (ℕ × Kind) → Option Key
key_of_conflict at None = None
key_of_conflict at (Some q) = Some (conflict_at at q.0 q.1)

abbrev pub key_of_shared : Moment → Option ℕ → Option Key
key_of_shared at None = None
key_of_shared at (Some c) = Some (conflict_at at c ReadConflict)

-- Of any headers and words: the values after a merge are the cells of the machine's worker after its send, ..
abbrev pub MergedCells : Type 0
MergedCells = (t : Setting) (w : ℕ) (s : Worker) (received : List (MessageHeader × List ℕ)) (new : List ℤ) (result : Option (ℕ × Kind)) →
    IsLawful t.map → w < workers t → length s.cells ≡ t.map.width w →
    IsMerged t.map t.code.rule w (put_parts t.code.rule received) s.cells new result →
    (after_send t w s (messages_read t.code.rule t.map w received)).cells ≡ new

-- .. the conflict that is told is the least key that its module notes of the puts, ..
abbrev pub MergedConflict : Type 0
MergedConflict = (t : Setting) (w : ℕ) (received : List (MessageHeader × List ℕ)) (old new : List ℤ) (result : Option (ℕ × Kind))
    (at : Moment) →
    IsLawful t.map → w < workers t → IsMerged t.map t.code.rule w (put_parts t.code.rule received) old new result →
    total None least (λ c. put_conflict (Some at) c
    (verdict_on t.code.rule (entry_came t.code.rule (messages_read t.code.rule t.map w received) c)))
    (module_cells t w) ≡ key_of_conflict at result

-- .. and the cell that is told of a private read is the least key that it notes of that read; of a uniform read it notes none.
abbrev pub SharedConflict : Type 0
SharedConflict = (t : Setting) (w : ℕ) (received : List (MessageHeader × List ℕ)) (k : ℕ) (read : Read) (result : Option ℕ) →
    IsLawful t.map → w < workers t → IsLeastShared t.map w (ask_parts t.code.rule received) k result →
    read_conflict (messages_read t.code.rule t.map w received) (module_cells t w) k read
    ≡ (if is_private read.side then key_of_shared read.moment result else None)
