-- The facts of an entry whose numbers are words of 64 bits are read back.
use Rattle.std.proofs.Common.{◌≤◌, ◌+◌, ◌∷◌, ◌++◌, [], Bool, true, false, List, Option, None, Some, ℕ, ℤ, arith, length, map, subst, sym, take}
use Rattle.std.specs.Prelude.{All, codes, if◌then◌else◌, slice_get}
use Rattle.std.proofs.lemmas.List.{length-map}
use Rattle.std.proofs.lemmas.List.Elements.{recursion_from_All}
use Rattle.std.specs.List.{AllByRecursion, flat_map}
use Rattle.serde_json.specs.Data.{Data, depth}
use Rattle.pram_model.specs.Layout.{SharedEntry}
use Rattle.pram_trees.specs.Program.{ProgramTree}
use Rattle.write_rules.specs.declared.write.Write.{Write}
use Rattle.text_places.specs.Places.{behind, behind_all, ends_line, place_at, place_of}
use Rattle.text_places.specs.declared.place.Place.{Place}
use Rattle.journal.specs.Causes.{known_cause}
use Rattle.journal.specs.Entries.{OwnLocals, act_is, entry_is, own_is}
use Rattle.journal.specs.declared.act as act
use Rattle.journal.specs.declared.cause as cause
use Rattle.journal.specs.declared.cause.Cause.TheVariants as why
use Rattle.journal.specs.declared.change.Change.{Change}
use Rattle.journal.specs.declared.entry as entry
use Rattle.journal.specs.declared.entry.Entry.TheVariants as variant
use Rattle.journal.specs.declared.local_change.LocalChange.{LocalChange}
use Rattle.journal.specs.declared.reading.Reading.{Reading}
use Rattle.json_texts.specs.ActFacts.{act_facts, cell_fact, position_fact, processor_fact, value_fact, write_fact, written_fact}
use Rattle.json_texts.specs.CauseFacts.{beyond_fields, known_fields, write_facts}
use Rattle.json_texts.specs.Facts.{Field, count}
use Rattle.json_texts.specs.Lines.{ReadsBack}
use Rattle.json_texts.specs.StepFacts.{change_facts, held_from, local_facts, own_facts, step_facts, told_fields, variable_facts}
use Rattle.json_texts.proofs.Readable.{readable_step}
use Rattle.pages.specs.Counted.{HasWords, IsCounted, IsCountedCause, IsWord}
use Rattle.pages.proofs.CutOfKept.{length_take_within}
use Rattle.pages.proofs.Sound.{AreSound, HasSound, IsSound, sound_count, sound_list, sound_map, sound_null, sound_object, sound_read, sound_text}
use Rattle.pages.proofs.Sound.{sound_values}

-- ---- the column

one_column : (p : Place) (b : ℕ) → (behind p b).column ≤ p.column + 1
one_column p b = by (ends_line b) where
  by : (t : Bool) → (if t then place_at (p.line + 1) 1 else place_at p.line (p.column + 1)).column ≤ p.column + 1
  by true = omega arith
  by false = omega arith

column_most : (p : Place) (bs : List ℕ) → (behind_all p bs).column ≤ p.column + length bs
column_most p [] = omega arith
column_most p (b ∷ rest) =
    let one : (behind p b).column ≤ p.column + 1 = one_column p b in
    let more : (behind_all (behind p b) rest).column ≤ (behind p b).column + length rest = column_most (behind p b) rest in
    omega (arith, one, more)

column_word : (source : List ℕ) (at : ℕ) → IsWord (length source + 1) → IsWord (place_of source at).column
column_word source at long =
    let most : (place_of source at).column ≤ 1 + length (take at source) = column_most (place_at 1 1) (take at source) in
    let within = length_take_within at source in
    omega (arith, most, within, long)

-- ---- what processors did

sound_each : {A : Type 0} (P : A → Type 0) (f : A → Data) → ((a : A) → P a → IsSound (f a)) → (xs : List A) → AllByRecursion P xs →
    AreSound (map f xs)
sound_each P f each [] h = tt
sound_each P f each (x ∷ xs) h = (each x h.0, sound_each P f each xs h.1)

sound_processor : (i : Option ℤ) → IsSound (processor_fact i)
sound_processor None = sound_null
sound_processor (Some i) = sound_text _

sound_write : (layout : List SharedEntry) (c : Option ℕ) → IsSound (write_fact layout c)
sound_write layout None = sound_null
sound_write layout (Some c) = sound_text _

sound_written : (v : Option ℤ) → IsSound (written_fact v)
sound_written None = sound_null
sound_written (Some v) = sound_text _

positions : (rs : List Reading) → All (λ r. IsWord r.position) rs → AreSound (map position_fact rs)
positions rs h =
    sound_each (λ r. IsWord r.position) position_fact (λ r w. sound_count r.position w) rs (recursion_from_All (λ r. IsWord r.position) rs h)

sound_act : (layout : List SharedEntry) (a : act.Act.Act) → HasWords a → IsSound (act_facts layout (act_is a))
sound_act layout a h = sound_object
    ((codes "processor", _) ∷ (codes "reads", _) ∷ (codes "positions", _) ∷ (codes "values", _) ∷ (codes "write", _)
    ∷ (codes "written", _) ∷ []) (
      sound_processor a.processor,
      (
        sound_list (map (cell_fact layout) a.reads.items) (sound_map (cell_fact layout) (λ c. sound_text _) a.reads.items),
        (
          sound_list (map position_fact a.readings.items) (positions a.readings.items h),
          (
            sound_list (map value_fact a.readings.items) (sound_map value_fact (λ r. sound_text _) a.readings.items),
            (sound_write layout a.write, (sound_written a.written, tt)),
          ),
        ),
      ),
    )

acts_by : (layout : List SharedEntry) (acts : List act.Act.Act) → AllByRecursion HasWords acts →
    AreSound (map (act_facts layout) (map act_is acts))
acts_by layout [] h = tt
acts_by layout (a ∷ acts) h = (sound_act layout a h.0, acts_by layout acts h.1)

sound_acts : (layout : List SharedEntry) (acts : List act.Act.Act) → All HasWords acts →
    AreSound (map (act_facts layout) (map act_is acts))
sound_acts layout acts h = acts_by layout acts (recursion_from_All HasWords acts h)

-- ---- what changed, and what is held

sound_change : (layout : List SharedEntry) (d : Change) → IsSound (change_facts layout d)
sound_change layout d = sound_object ((codes "cell", _) ∷ (codes "before", _) ∷ (codes "after", _) ∷ [])
    (sound_text _, (sound_text _, (sound_text _, tt)))

sound_variable : (tree : ProgramTree) (d : Change) → IsWord d.cell → IsSound (variable_facts tree d)
sound_variable tree d w = sound_object
    ((codes "variable", _) ∷ (codes "name", _) ∷ (codes "before", _) ∷ (codes "after", _) ∷ [])
    (sound_count d.cell w, (sound_text _, (sound_text _, (sound_text _, tt))))

sound_variables : (tree : ProgramTree) (ds : List Change) → All (λ d. IsWord d.cell) ds → AreSound (map (variable_facts tree) ds)
sound_variables tree ds h =
    sound_each (λ d. IsWord d.cell) (variable_facts tree) (sound_variable tree) ds (recursion_from_All (λ d. IsWord d.cell) ds h)

sound_local : (tree : ProgramTree) (at : ℕ) (d : LocalChange) → IsSound (local_facts tree at d)
sound_local tree at d = sound_object
    ((codes "processor", _) ∷ (codes "local", _) ∷ (codes "before", _) ∷ (codes "after", _) ∷ [])
    (sound_text _, (sound_text _, (sound_text _, (sound_text _, tt))))

sound_held : (tree : ProgramTree) (at : ℕ) (i : ℤ) (number : ℕ) (vs : List ℤ) → AreSound (held_from tree at i number vs)
sound_held tree at i number [] = tt
sound_held tree at i number (v ∷ vs) = (
  sound_object ((codes "processor", _) ∷ (codes "local", _) ∷ (codes "value", _) ∷ []) (sound_text _, (sound_text _, (sound_text _, tt))),
  sound_held tree at i (number + 1) vs,
)

sound-append : (a b : List Data) → AreSound a → AreSound b → AreSound (a ++ b)
sound-append [] b h g = g
sound-append (d ∷ a) b h g = (h.0, sound-append a b h.1 g)

sound_owns : (tree : ProgramTree) (at : ℕ) (ls : List OwnLocals) → AreSound (flat_map (own_facts tree at) ls)
sound_owns tree at [] = tt
sound_owns tree at (l ∷ ls) =
    sound-append (own_facts tree at l) (flat_map (own_facts tree at) ls) (sound_held tree at l.processor 0 l.values) (sound_owns tree at ls)

-- ---- why a statement faulted

sound_beyond : (z : ℤ) (e : Option SharedEntry) → HasSound (beyond_fields z e)
sound_beyond z None = tt
sound_beyond z (Some e) = (sound_text _, (sound_text _, (sound_text _, (sound_text _, tt))))

sound_writer : (w : Write) → IsSound (write_facts w)
sound_writer w = sound_object ((codes "processor", _) ∷ (codes "value", _) ∷ []) (sound_text _, (sound_text _, tt))

sound_cause : (layout : List SharedEntry) (c : Option cause.Cause.Cause) → IsCountedCause c → HasSound (known_fields layout (known_cause c))
sound_cause layout None h = tt
sound_cause layout (Some (why.Between x o y)) h = (sound_text _, (sound_values (x ∷ y ∷ []), tt))
sound_cause layout (Some (why.Before o x)) h = (sound_text _, (sound_values (x ∷ []), tt))
sound_cause layout (Some (why.Beyond a z)) h = sound_beyond z (slice_get layout a)
sound_cause layout (Some (why.Wide a b procs)) h = (sound_text _, (sound_text _, (sound_count procs h, tt)))
sound_cause layout (Some why.Meeting) h = tt
sound_cause layout (Some (why.Writing ws)) h = (sound_list (map write_facts ws.items) (sound_map write_facts sound_writer ws.items), tt)

-- ---- all of it

module _ (layout : List SharedEntry) (tree : ProgramTree) (source : List ℕ) (long : IsWord (length source + 1)) (number : ℕ)
    (n : IsWord number) where
  abbrev fields : entry.Entry.Entry → List Field
  fields e = (codes "step", count number) ∷ told_fields layout tree source (entry_is e)

  sound_fields : (e : entry.Entry.Entry) → IsCounted e → HasSound (fields e)
  sound_fields (variant.Ran here acts cells variables locals printed) h = (
    sound_count number n,
    (
      sound_count here.line h.0,
      (
        sound_count _ (column_word source here.offset long),
        (
          sound_count _ (subst IsWord (sym (length-map acts.items act_is)) h.1),
          (
            sound_list _ (sound_acts layout acts.items h.2),
            (
              sound_list _ (sound_map (change_facts layout) (sound_change layout) cells.items),
              (
                sound_list _ (sound_variables tree variables.items h.3),
                (
                  sound_list _ (sound_map (local_facts tree here.offset) (sound_local tree here.offset) locals.items),
                  (sound_values printed.items, tt),
                ),
              ),
            ),
          ),
        ),
      ),
    ),
  )
  sound_fields (variant.Faulted here fault why acts met locals) h = (
    sound_count number n,
    (
      sound_count _ (column_word source here.offset long),
      (
        sound_list _ (sound_owns tree here.offset (map own_is locals.items)),
        (
          sound_values met.items,
          (
            sound_list _ (sound_acts layout acts.items h.2),
            (sound_text _, (sound_text _, (sound_count fault.line h.0, sound_cause layout why h.1))),
          ),
        ),
      ),
    ),
  )

  -- the line of such an entry says its facts, also where it isn't made
  pub step_read : (e : entry.Entry.Entry) → IsCounted e → ReadsBack (step_facts layout tree source number (entry_is e))
  step_read e h =
      let small : depth (step_facts layout tree source number (entry_is e)) ≤ 127 =
      (readable_step layout tree source number (entry_is e)).nests in
      sound_read (step_facts layout tree source number (entry_is e)) small (sound_object (fields e) (sound_fields e h))
