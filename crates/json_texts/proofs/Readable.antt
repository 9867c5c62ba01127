-- What is told can be read: it has no float, and nests five levels at most.
use Rattle.std.proofs.Common.{ℕ, ◌+◌, List, [], ◌∷◌, ◌++◌, length, lit≤, map, arith, refl}
use Rattle.std.specs.Prelude.{Bool, true, false, ℤ, Option, Some, None, codes, slice_get}
use Rattle.json_texts.specs.Facts.{Field, count, list, object_of, value}
use Rattle.serde_json.specs.Data.{Data}
use Rattle.std.specs.List.{flat_map}
use Rattle.json_texts.specs.Small.{IsReadable, IsSmall}
use Rattle.json_texts.proofs.Small.{AreSmall, HasSmall, has_all, small_count, small_flag, small_large, small_letters}
use Rattle.json_texts.proofs.Small.{small_list, small_map, small_object, small_value, small_values, small_word, smaller}
use Rattle.pram_model.specs.Layout.{SharedEntry, subscripts}
use Rattle.pram_model.specs.declared.rule.Rule.{Rule}
use Rattle.pram_check.specs.Checked.{Checked}
use Rattle.write_rules.specs.declared.fault.Fault.{Fault}
use Rattle.write_rules.specs.Verdict.{Verdict, Ended, Faulted, GoesOn}
use Rattle.costs.specs.declared.cost.Cost.{Cost}
use Rattle.costs.specs.declared.line_cost.LineCost.{LineCost}
use Rattle.program_texts.specs.declared.from_text.Refusal.{Refusal}
use Rattle.program_texts.specs.declared.stop.Stop.{Stop}
use Rattle.program_texts.specs.declared.stop.Stop.TheVariants as stop
use Rattle.comparing.specs.Compared.{declares, finding_of, rules}
use Rattle.comparing.specs.declared.rules.UnderRules.{UnderRules}
use Rattle.comparing.specs.declared.finding.Finding.{Finding}
use Rattle.comparing.specs.declared.finding.Finding.TheVariants as finding
use Rattle.write_rules.specs.declared.write.Write.{Write}
use Rattle.journal.specs.declared.change.Change.{Change}
use Rattle.journal.specs.declared.local_change.LocalChange.{LocalChange}
use Rattle.pram_trees.specs.Program.{ProgramTree}
use Rattle.journal.specs.Causes as told
use Rattle.journal.specs.Entries.{Act, Entry, Faulting, OwnLocals, Ran}
use Rattle.json_texts.specs.AcceptedFacts.{accepted_facts, accepted_fields}
use Rattle.json_texts.specs.CostFacts.{bound_fields, cost_facts, cost_fields, line_facts, line_fields, most_fields, round_fields}
use Rattle.memory_texts.specs.Chosen.{chosen}
use Rattle.memory_texts.specs.declared.choice.Choice.{Choice}
use Rattle.memory_texts.specs.declared.choice.Choice.TheVariants.{All}
use Rattle.json_texts.specs.OutcomeFacts.{bounds_fields, chosen_facts, chosen_fields, entry_facts, fault_fields, memory_facts}
use Rattle.json_texts.specs.OutcomeFacts.{opening_facts, outcome_facts, outcome_fields}
use Rattle.json_texts.specs.RefusalFacts.{limit_fields, place_fields, reason_fields, stop_fields, told_place}
use Rattle.program_texts.specs.Stopped.{limit_of}
use Rattle.pram_names.specs.declared.fault.Limit.{Limit}
use Rattle.json_texts.specs.RuleFacts.{comparison_facts, declared_fields, finding_fields, rule_facts}
use Rattle.json_texts.specs.ActFacts.{act_facts, cell_fact, position_fact, processor_fact, value_fact, write_fact, written_fact}
use Rattle.json_texts.specs.CauseFacts.{beyond_fields, known_fields, why_fields, write_facts}
use Rattle.text_places.specs.Places.{place_of}
use Rattle.json_texts.specs.StepFacts.{change_facts, held_from, local_facts, own_facts, step_facts, told_fields, variable_facts}

-- ---- outcomes

pub small_bounds : (n : ℕ) (bounds : Option (ℤ × ℤ)) → HasSmall n (bounds_fields bounds)
small_bounds n None = tt
small_bounds n (Some (low, high)) = (small_value n low, (small_value n high, tt))

small_entry : (e : SharedEntry) (vs : List ℤ) → IsSmall 2 (entry_facts e vs)
small_entry e vs =
    small_object 1 ((codes "name", _) ∷ (codes "values", _) ∷ bounds_fields e.bounds)
    (small_letters 1 e.name, (small_values 0 vs, small_bounds 1 e.bounds))

small_memory : (ds : List (SharedEntry × List ℤ)) → AreSmall 2 (memory_facts ds)
small_memory [] = tt
small_memory (d ∷ ds) = (small_entry d.0 d.1, small_memory ds)

pub small_fault : (n : ℕ) (layout : List SharedEntry) (fault : Fault) → HasSmall n (fault_fields layout fault)
small_fault n layout fault = (small_word n _, (small_letters n _, (small_count n fault.line, tt)))

small_chosen : (choice : Choice) (layout : List SharedEntry) (v : Verdict) → HasSmall 3 (chosen_fields choice layout v)
small_chosen choice layout (Ended output memory) =
    let ds = chosen choice layout memory in
    (small_word 3 _, (small_values 2 output, (small_list 2 (memory_facts ds) (small_memory ds), tt)))
small_chosen choice layout (Faulted fault output) = (small_word 3 _, (small_values 2 output, small_fault 3 layout fault))
small_chosen choice layout (GoesOn output) = (small_word 3 _, (small_values 2 output, tt))

pub readable_opening : (layout : List SharedEntry) (memory : List ℤ) → IsReadable (opening_facts layout memory)
readable_opening layout memory =
    let ds = chosen All layout memory in
    smaller 4 127 (opening_facts layout memory) (lit≤ tt)
    (small_object 3 ((codes "opening", list (memory_facts ds)) ∷ []) (small_list 2 (memory_facts ds) (small_memory ds), tt))

pub small_outcome : (layout : List SharedEntry) (v : Verdict) → HasSmall 3 (outcome_fields layout v)
small_outcome layout v = small_chosen All layout v

pub readable : (fields : List Field) → HasSmall 3 fields → IsReadable (object_of fields)
readable fields h = smaller 4 127 (object_of fields) (lit≤ tt) (small_object 3 fields h)

-- nests a level less than the reader takes, so that it may stand in a list
shallow : (fields : List Field) → HasSmall 3 fields → IsSmall 126 (object_of fields)
shallow fields h = smaller 4 126 (object_of fields) (lit≤ tt) (small_object 3 fields h)

pub readable_chosen : (choice : Choice) (layout : List SharedEntry) (v : Verdict) → IsReadable (chosen_facts choice layout v)
readable_chosen choice layout v = readable (chosen_fields choice layout v) (small_chosen choice layout v)

pub readable_outcome : (layout : List SharedEntry) (v : Verdict) → IsReadable (outcome_facts layout v)
readable_outcome layout v = readable (outcome_fields layout v) (small_outcome layout v)

pub shallow_outcome : (layout : List SharedEntry) (v : Verdict) → IsSmall 126 (outcome_facts layout v)
shallow_outcome layout v = shallow (outcome_fields layout v) (small_outcome layout v)

-- ---- accepted programs

pub readable_accepted : (program : Checked) → IsReadable (accepted_facts program)
readable_accepted program =
    readable (accepted_fields program) (small_flag 3 true, (small_count 3 _, (small_count 3 _, (small_word 3 _, tt))))

-- ---- refusals

small_place : (source : List ℕ) (place : Option ℕ) → HasSmall 3 (place_fields source place)
small_place source None = tt
small_place source (Some at) = (small_count 3 at, (small_count 3 _, (small_count 3 _, tt)))

small_limit : (limit : Option Limit) → HasSmall 3 (limit_fields limit)
small_limit None = tt
small_limit (Some l) = (small_word 3 _, tt)

small_reason : (r : Refusal) → HasSmall 3 (reason_fields r)
small_reason r = (small_word 3 _, (small_word 3 _, small_limit (limit_of r)))

pub small_stop : (source : List ℕ) (why : Stop) → HasSmall 3 (stop_fields source why)
small_stop source (stop.Words message) = (small_word 3 _, (small_word 3 _, tt))
small_stop source (stop.Number w) = (small_word 3 _, (small_letters 3 _, tt))
small_stop source (stop.Unreadable file) = (small_word 3 _, (small_letters 3 _, tt))
small_stop source (stop.Refused r) =
    has_all 3 (reason_fields r) (place_fields source (told_place source r)) (small_reason r) (small_place source (told_place source r))
small_stop source (stop.NotVerified at reason) = (small_word 3 _, (small_word 3 _, (small_count 3 at, (small_word 3 _, tt))))
small_stop source (stop.BadListing at) = (small_word 3 _, (small_word 3 _, small_place source (Some at)))
small_stop source stop.WriteFailed = (small_word 3 _, (small_word 3 _, tt))
small_stop source (stop.BadSize at r) = (small_word 3 _, (small_word 3 _, (small_word 3 _, small_place source (Some at))))

-- ---- costs

pub small_most : (n exchanges : ℕ) (words : Option ℕ) → HasSmall n (most_fields exchanges words)
small_most n exchanges None = (small_large n exchanges, tt)
small_most n exchanges (Some words) = (small_large n exchanges, (small_large n words, tt))

small_bound : (v : Verdict) (c : Cost) → HasSmall 3 (bound_fields v c)
small_bound (Ended output memory) c = small_most 3 c.most_exchanges c.most_words
small_bound (Faulted fault output) c = tt
small_bound (GoesOn output) c = small_most 3 c.most_exchanges c.most_words

small_rounds : (c : Cost) (schedule : Option ℕ) → HasSmall 3 (round_fields c schedule)
small_rounds c None = tt
small_rounds c (Some q) = (small_count 3 q, (small_large 3 c.rounds, (small_large 3 c.most_rounds, tt)))

small_line : (c : LineCost) → IsSmall 1 (line_facts c)
small_line c =
    small_object 0 ((codes "line", _) ∷ (codes "times", _) ∷ (codes "work", _) ∷ (codes "reads", _) ∷ (codes "writes", _) ∷ [])
    (small_count 0 c.line, (small_count 0 c.times, (small_large 0 c.work, (small_large 0 c.reads, (small_large 0 c.writes, tt)))))

small_lines : (c : Cost) (lines : Bool) → HasSmall 3 (line_fields c lines)
small_lines c true =
    (smaller 2 3 _ (lit≤ tt) (small_list 1 (map line_facts c.lines.items) (small_map 1 line_facts small_line c.lines.items)), tt)
small_lines c false = tt

pub readable_cost : (layout : List SharedEntry) (v : Verdict) (c : Cost) (schedule : Option ℕ) (lines : Bool) →
    IsReadable (cost_facts layout v c schedule lines)
readable_cost layout v c schedule lines = readable (cost_fields layout v c schedule lines) (
  small_count 3 c.time,
  (
    small_large 3 c.work,
    (
      small_count 3 c.width,
      (
        small_large 3 c.reads,
        (
          small_large 3 c.writes,
          has_all 3 (bound_fields v c) _ (small_bound v c) (has_all 3 (round_fields c schedule) _ (small_rounds c schedule)
              (has_all 3 (line_fields c lines) (outcome_fields layout v) (small_lines c lines) (small_outcome layout v))),
        ),
      ),
    ),
  ),
)

-- ---- rules

small_finding : (layout : List SharedEntry) (f : Finding) → HasSmall 1 (finding_fields layout f)
small_finding layout finding.Same = (small_word 1 _, (small_word 1 _, tt))
small_finding layout finding.Other = (small_word 1 _, (small_word 1 _, tt))
small_finding layout (finding.Faulted fault) = (small_word 1 _, small_fault 1 layout fault)
small_finding layout finding.GoesOn = (small_word 1 _, tt)

small_declared : (d : Bool) (f : Finding) → HasSmall 1 (declared_fields d f)
small_declared true finding.Same = (small_flag 1 true, tt)
small_declared true finding.Other = tt
small_declared true (finding.Faulted fault) = tt
small_declared true finding.GoesOn = tt
small_declared false f = tt

small_rule : (c : UnderRules) (r : Rule) → IsSmall 2 (rule_facts c r)
small_rule c r =
    let found = finding_fields c.layout (finding_of c r) in
    let declared = declared_fields (declares c r) (finding_of c r) in
    small_object 1 ((codes "rule", _) ∷ (found ++ declared))
    (small_word 1 _, has_all 1 found declared (small_finding c.layout (finding_of c r)) (small_declared (declares c r) (finding_of c r)))

pub readable_comparison : (c : UnderRules) → IsReadable (comparison_facts c)
readable_comparison c = readable ((codes "rules", _) ∷ [])
    (small_list 2 (map (rule_facts c) rules) (small_map 2 (rule_facts c) (small_rule c) rules), tt)

-- ---- steps

small_change : (layout : List SharedEntry) (d : Change) → IsSmall 1 (change_facts layout d)
small_change layout d =
    small_object 0 ((codes "cell", _) ∷ (codes "before", _) ∷ (codes "after", _) ∷ [])
    (small_letters 0 _, (small_value 0 d.before, (small_value 0 d.after, tt)))

small_variable : (tree : ProgramTree) (d : Change) → IsSmall 1 (variable_facts tree d)
small_variable tree d =
    small_object 0 ((codes "variable", _) ∷ (codes "name", _) ∷ (codes "before", _) ∷ (codes "after", _) ∷ [])
    (small_count 0 d.cell, (small_letters 0 _, (small_value 0 d.before, (small_value 0 d.after, tt))))

small_local : (tree : ProgramTree) (at : ℕ) (d : LocalChange) → IsSmall 1 (local_facts tree at d)
small_local tree at d =
    small_object 0 ((codes "processor", _) ∷ (codes "local", _) ∷ (codes "before", _) ∷ (codes "after", _) ∷ [])
    (small_value 0 d.processor, (small_letters 0 _, (small_value 0 d.change.before, (small_value 0 d.change.after, tt))))

small_held : (tree : ProgramTree) (at : ℕ) (i : ℤ) (number : ℕ) (vs : List ℤ) → AreSmall 1 (held_from tree at i number vs)
small_held tree at i number [] = tt
small_held tree at i number (v ∷ vs) = (
  small_object 0 ((codes "processor", _) ∷ (codes "local", _) ∷ (codes "value", _) ∷ [])
      (small_value 0 i, (small_letters 0 _, (small_value 0 v, tt))),
  small_held tree at i (number + 1) vs,
)

pub small_both : (n : ℕ) (ds es : List Data) → AreSmall n ds → AreSmall n es → AreSmall n (ds ++ es)
small_both n [] es h g = g
small_both n (d ∷ ds) es h g = (h.0, small_both n ds es h.1 g)

small_own : (tree : ProgramTree) (at : ℕ) (ls : List OwnLocals) → AreSmall 1 (flat_map (own_facts tree at) ls)
small_own tree at [] = tt
small_own tree at (l ∷ ls) = small_both 1 (own_facts tree at l) (flat_map (own_facts tree at) ls)
    (small_held tree at l.processor 0 l.values) (small_own tree at ls)

small_processor : (i : Option ℤ) → IsSmall 1 (processor_fact i)
small_processor None = record { nests = omega arith; no_float = refl }
small_processor (Some i) = small_value 1 i

small_write : (layout : List SharedEntry) (c : Option ℕ) → IsSmall 1 (write_fact layout c)
small_write layout None = record { nests = omega arith; no_float = refl }
small_write layout (Some c) = small_letters 1 _

small_written : (v : Option ℤ) → IsSmall 1 (written_fact v)
small_written None = record { nests = omega arith; no_float = refl }
small_written (Some v) = small_value 1 v

small_act : (layout : List SharedEntry) (a : Act) → IsSmall 2 (act_facts layout a)
small_act layout a =
    small_object 1 ((codes "processor", _) ∷ (codes "reads", _) ∷ (codes "positions", _) ∷ (codes "values", _) ∷ (codes "write", _)
    ∷ (codes "written", _) ∷ []) (
      small_processor a.processor,
      (
        small_list 0 (map (cell_fact layout) a.reads) (small_map 0 (cell_fact layout) (λ c. small_letters 0 _) a.reads),
        (
          small_list 0 (map position_fact a.readings) (small_map 0 position_fact (λ r. small_count 0 r.position) a.readings),
          (
            small_list 0 (map value_fact a.readings) (small_map 0 value_fact (λ r. small_value 0 r.value) a.readings),
            (small_write layout a.write, (small_written a.written, tt)),
          ),
        ),
      ),
    )

small_acts : (layout : List SharedEntry) (acts : List Act) → IsSmall 3 (list (map (act_facts layout) acts))
small_acts layout acts = small_list 2 (map (act_facts layout) acts) (small_map 2 (act_facts layout) (small_act layout) acts)

small_write_facts : (w : Write) → IsSmall 1 (write_facts w)
small_write_facts w =
    small_object 0 ((codes "processor", value w.processor) ∷ (codes "value", value w.value) ∷ [])
    (small_value 0 w.processor, (small_value 0 w.value, tt))

small_beyond : (z : ℤ) (e : Option SharedEntry) → HasSmall 3 (beyond_fields z e)
small_beyond z None = tt
small_beyond z (Some e) =
    (small_letters 3 e.name, (small_value 3 z, (small_value 3 (subscripts e.bounds).0, (small_value 3 (subscripts e.bounds).1, tt))))

small_cause_of : (layout : List SharedEntry) (c : told.Cause) → HasSmall 3 (why_fields layout c)
small_cause_of layout (told.Between x o y) = (small_letters 3 _, (small_values 2 (x ∷ y ∷ []), tt))
small_cause_of layout (told.Before o x) = (small_letters 3 _, (small_values 2 (x ∷ []), tt))
small_cause_of layout (told.Beyond a z) = small_beyond z (slice_get layout a)
small_cause_of layout (told.Wide a b procs) = (small_value 3 a, (small_value 3 b, (small_count 3 procs, tt)))
small_cause_of layout told.Meeting = tt
small_cause_of layout (told.Writing ws) =
    (smaller 2 3 _ (lit≤ tt) (small_list 1 (map write_facts ws) (small_map 1 write_facts small_write_facts ws)), tt)

small_known : (layout : List SharedEntry) (c : Option told.Cause) → HasSmall 3 (known_fields layout c)
small_known layout None = tt
small_known layout (Some c) = small_cause_of layout c

small_told : (layout : List SharedEntry) (tree : ProgramTree) (source : List ℕ) (e : Entry) → HasSmall 3 (told_fields layout tree source e)
small_told layout tree source (Ran here acts cells variables locals items) = (
  small_count 3 here.line,
  (
    small_count 3 (place_of source here.offset).column,
    (
      small_count 3 (length acts),
      (
        small_acts layout acts,
        (
          smaller 2 3 _ (lit≤ tt)
              (small_list 1 (map (change_facts layout) cells) (small_map 1 (change_facts layout) (small_change layout) cells)),
          (
            smaller 2 3 _ (lit≤ tt)
                (small_list 1 (map (variable_facts tree) variables) (small_map 1 (variable_facts tree) (small_variable tree) variables)),
            (
              smaller 2 3 _ (lit≤ tt) (small_list 1 (map (local_facts tree here.offset) locals)
                  (small_map 1 (local_facts tree here.offset) (small_local tree here.offset) locals)),
              (small_values 2 items, tt),
            ),
          ),
        ),
      ),
    ),
  ),
)
small_told layout tree source (Faulting here fault cause acts met locals) = (
  small_count 3 (place_of source here.offset).column,
  (
    smaller 2 3 _ (lit≤ tt) (small_list 1 (flat_map (own_facts tree here.offset) locals) (small_own tree here.offset locals)),
    (
      small_values 2 met,
      (
        small_acts layout acts,
        has_all 3 (fault_fields layout fault) (known_fields layout cause) (small_fault 3 layout fault)
            (small_known layout cause),
      ),
    ),
  ),
)

small_step : (layout : List SharedEntry) (tree : ProgramTree) (source : List ℕ) (number : ℕ) (e : Entry) →
    HasSmall 3 ((codes "step", count number) ∷ told_fields layout tree source e)
small_step layout tree source number e = (small_count 3 number, small_told layout tree source e)

pub readable_step : (layout : List SharedEntry) (tree : ProgramTree) (source : List ℕ) (number : ℕ) (e : Entry) →
    IsReadable (step_facts layout tree source number e)
readable_step layout tree source number e =
    readable ((codes "step", count number) ∷ told_fields layout tree source e) (small_step layout tree source number e)

pub shallow_step : (layout : List SharedEntry) (tree : ProgramTree) (source : List ℕ) (number : ℕ) (e : Entry) →
    IsSmall 126 (step_facts layout tree source number e)
shallow_step layout tree source number e =
    shallow ((codes "step", count number) ∷ told_fields layout tree source e) (small_step layout tree source number e)
