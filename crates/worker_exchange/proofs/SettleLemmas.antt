-- The conflicts that a module notes.
use Rattle.std.proofs.Common.{◌≡◌, ℕ, suc, ◌+◌, ◌<◌, ◌≤◌, List, [], ◌∷◌, map, length, get_or, drop, take, true, false, Option, Some, None}
use Rattle.std.proofs.Common.{refl, sym, ap, ◌∙◌, arith}
use Rattle.std.proofs.lemmas.List.{drop_more}
use Rattle.std.specs.Prelude.{if◌then◌else◌, ◌&&◌}
use Rattle.pram_values.specs.Total.{total}
use Rattle.pram_values.specs.declared.kind.Kind.TheVariants.{ReadConflict}
use Rattle.superstep_instructions.specs.declared.instr.Side.TheVariants.{Uniform}
use Rattle.superstep_machine.specs.declared.key.Key.{Key}
use Rattle.superstep_machine.specs.Keys.{least}
use Rattle.superstep_machine.specs.Parts.{Read}
use Rattle.superstep_machine.specs.Words.{Message}
use Rattle.superstep_machine.specs.Sending.{is_private, is_several, askers_came, conflict_at, read_conflict, read_conflicts}
use Rattle.std.proofs.Common.{Bor, subst, ℤ}
use Rattle.address_map.specs.Lawful.{IsLawful}
use Rattle.pram_values.specs.declared.kind.Kind.{Kind}
use Rattle.pram_values.specs.Value.{Value}
use Rattle.write_rules.specs.Rule.{shares_reads}
use Rattle.superstep_machine.specs.declared.header.MessageHeader.{MessageHeader}
use Rattle.superstep_machine.specs.HeaderWords.{read_header}
use Rattle.superstep_machine.specs.Setting.{Setting, workers, module_cells}
use Rattle.superstep_machine.specs.Parts.{Moment, UniformPart}
use Rattle.superstep_machine.specs.Worker.{Worker}
use Rattle.superstep_machine.specs.WordLaws.{messages_read}
use Rattle.superstep_machine.specs.Sending.{entry_came, verdict_on, put_conflict, after_send}
use Rattle.superstep_machine.proofs.KeyOrder.{none_least}
use Rattle.combining.specs.Merged.{IsMerged}
use Rattle.combining.specs.ModuleLaws.{put_parts}
use Rattle.combining.proofs.ModuleSends.{merged_cells, merged_conflict}
use Rattle.worker_exchange.specs.Rows.{WrittenMessage, message_at}
use Rattle.worker_exchange.specs.Received.{received}
use Rattle.worker_exchange.specs.Parts.{part_at}
use Rattle.worker_exchange.specs.Settled.{key_of_put, IsSettled}
use Rattle.instruction_steps.specs.declared.read.Read.{Read as HeldRead}
use Rattle.instruction_steps.specs.Views.{read_is}

-- the program's own reads are in no conflict
pub uniform_silent : (column : List Message) (cells : List ℕ) (k : ℕ) (read : Read) → read.side ≡ Uniform →
    read_conflict column cells k read ≡ None
uniform_silent column [] k read e = refl
uniform_silent column (c ∷ cells) k read e = λ i.
    least (if is_private (e i) && is_several (askers_came column k c) then Some (conflict_at read.moment c ReadConflict) else None)
    (uniform_silent column cells k read e i)

-- one read more
pub more_reads : (column : List Message) (cells : List ℕ) (reads : List HeldRead) (k : ℕ) (d : HeldRead) → k < length reads →
    read_conflicts column cells k (map read_is (drop k reads))
    ≡ least (read_conflict column cells k (read_is (get_or reads k d)))
    (read_conflicts column cells (k + 1) (map read_is (drop (k + 1) reads)))
more_reads column cells reads k d l = ap (λ rs. read_conflicts column cells k (map read_is rs)) (drop_more reads k d l)

-- the parts of all messages
pub parts_are : (came : List WrittenMessage) (parts : List (Bor (List ℕ))) (part : MessageHeader → List ℕ → List ℕ) →
    length came ≤ length parts →
    ((i : ℕ) → i < length came → part_at parts i ≡ part (read_header (message_at came i).header) (message_at came i).words) →
    map (λ (x : Bor (List ℕ)). x.now) (take (length came) parts) ≡ map (λ (r : MessageHeader × List ℕ). part r.0 r.1) (received came)
parts_are [] parts part l h = refl
parts_are (x ∷ came) [] part l h = absurd (omega (arith, l))
parts_are (x ∷ came) (p ∷ parts) part l h =
    let here = h 0 (omega arith) in
    let rest = parts_are came parts part (omega (arith, l)) (λ i b. h (suc i) (omega (arith, b))) in
    λ i. here i ∷ rest i

none_put : (verdict : ℕ → Option Value) (cells : List ℕ) → total None least (λ c. put_conflict None c (verdict c)) cells ≡ None
none_put verdict [] = refl
none_put verdict (c ∷ cells) = none_put verdict cells

module _ (t : Setting) (w : ℕ) (lawful : IsLawful t.map) (below : w < workers t) (column : List (MessageHeader × List ℕ)) (u : UniformPart)
    (old new : List ℤ) (found : Option (ℕ × Kind)) (long : length old ≡ t.map.width w)
    (merged : IsMerged t.map t.code.rule w (put_parts t.code.rule column) old new found) where
  abbrev messages : List Message
  messages = messages_read t.code.rule t.map w column

  put_noted : (put : Option Moment) →
      total None least (λ c. put_conflict put c (verdict_on t.code.rule (entry_came t.code.rule messages c))) (module_cells t w)
      ≡ key_of_put put found
  put_noted None = none_put (λ c. verdict_on t.code.rule (entry_came t.code.rule messages c)) (module_cells t w)
  put_noted (Some at) = merged_conflict t w column old new found at lawful below merged

  cells_after : (y : Worker) → y.cells ≡ old → (after_send t w y messages).cells ≡ new
  cells_after y e =
      merged_cells t w y column new found lawful below (ap length e ∙ long)
      (subst (λ xs. IsMerged t.map t.code.rule w (put_parts t.code.rule column) xs new found) (sym e) merged)

  pub settled_shared : shares_reads t.code.rule ≡ true → IsSettled t w u messages old new (key_of_put u.put found)
  settled_shared shared = record {
    cells = cells_after;
    key = (λ i. least (put_noted u.put i) (if shared i then None else read_conflicts messages (module_cells t w) 0 u.asks))
        ∙ none_least (key_of_put u.put found);
  }

  pub settled_apart : shares_reads t.code.rule ≡ false → (noted : Option Key) →
      noted ≡ read_conflicts messages (module_cells t w) 0 u.asks →
      IsSettled t w u messages old new (least (key_of_put u.put found) noted)
  settled_apart apart noted e = record {
    cells = cells_after;
    key = (λ i. least (put_noted u.put i) (if apart i then None else read_conflicts messages (module_cells t w) 0 u.asks))
        ∙ ap (least (key_of_put u.put found)) (sym e);
  }

-- where no read is in conflict, none is noted
pub none_noted : (column : List Message) (cells : List ℕ) (k : ℕ) (reads : List Read) →
    ((j : ℕ) (read : Read) → read_conflict column cells j read ≡ None) → None ≡ read_conflicts column cells k reads
none_noted column cells k [] none = refl
none_noted column cells k (read ∷ rest) none =
    none_noted column cells (k + 1) rest none ∙ sym (ap (λ q. least q (read_conflicts column cells (k + 1) rest)) (none k read))

-- one read more is noted
pub more_noted : (column : List Message) (cells : List ℕ) (reads : List HeldRead) (k above : ℕ) (d : HeldRead)
    (key noted result : Option Key) →
    above ≡ k + 1 → k < length reads → result ≡ least key noted → key ≡ read_conflict column cells k (read_is (get_or reads k d)) →
    noted ≡ read_conflicts column cells above (map read_is (drop above reads)) →
    result ≡ read_conflicts column cells k (map read_is (drop k reads))
more_noted column cells reads k above d key noted result next l is here rest =
    is
    ∙ (λ i. least (here i) ((rest ∙ ap (λ q. read_conflicts column cells q (map read_is (drop q reads))) next) i))
    ∙ sym (more_reads column cells reads k d l)
