-- The laws of runs that are told: the changes give the memory, the items the output, and the fault is the last entry.
use Rattle.std.proofs.Common.{◌≡◌, ℕ, ℤ, List, ◌++◌, ap, sym, ◌∙◌, subst}
use Rattle.std.specs.List.{fold}
use Rattle.pram_check.specs.Checked.{Checked}
use Rattle.pram_meaning.specs.Bounded.{Done, Goes, Reaches, Stops}
use Rattle.pram_meaning.specs.Computed.{body_done, verdict_at}
use Rattle.pram_meaning.specs.Outcome.{opening}
use Rattle.pram_meaning.specs.Store.{State}
use Rattle.pram_meaning.proofs.OneOutcome.{outcome_is_computed}
use Rattle.journal.specs.Entries.{Entry}
use Rattle.journal.specs.Replay.{with_cells}
use Rattle.journal.specs.RunEntries.{ChangesGiveTheMemory, HasItsFault, HasMemory, ItemsGiveTheOutput, TheFaultIsLast, items_of}
use Rattle.journal.specs.RunEntries.{output_of, run_entries}
use Rattle.journal.proofs.Parts.{list_told}
use Rattle.journal.proofs.Sound.{IsTold}

memory_of : (p : Checked) (m : State) (es : List Entry) (b : Done) → IsTold p m es b → HasMemory (verdict_at b) (fold with_cells m.cells es)
memory_of p m es (Goes u new) s = s.memory
memory_of p m es (Stops k out) s = tt
memory_of p m es (Reaches out) s = tt

output_by : (p : Checked) (m : State) (es : List Entry) (b : Done) → IsTold p m es b → m.output ++ items_of es ≡ output_of (verdict_at b)
output_by p m es (Goes u new) s = s.output
output_by p m es (Stops k out) s = s.output
output_by p m es (Reaches out) s = s.output

last_of : (p : Checked) (m : State) (es : List Entry) (b : Done) → IsTold p m es b → HasItsFault p (verdict_at b) es
last_of p m es (Goes u new) s = s.all
last_of p m es (Stops k out) s = s.ends
last_of p m es (Reaches out) s = s.all

whole : (p : Checked) (input : List ℤ) (n : ℕ) → IsTold p (opening p input) (run_entries p input n) (body_done p input n)
whole p input n = list_told p n p.body (opening p input)

pub changes_give_the_memory : ChangesGiveTheMemory
changes_give_the_memory p input n v is =
    subst (λ v. HasMemory v (fold with_cells (opening p input).cells (run_entries p input n)))
    (sym ((outcome_is_computed p input n v).0 is))
    (memory_of p (opening p input) (run_entries p input n) (body_done p input n) (whole p input n))

pub items_give_the_output : ItemsGiveTheOutput
items_give_the_output p input n v is =
    output_by p (opening p input) (run_entries p input n) (body_done p input n) (whole p input n)
    ∙ ap output_of (sym ((outcome_is_computed p input n v).0 is))

pub the_fault_is_last : TheFaultIsLast
the_fault_is_last p input n v is =
    subst (λ v. HasItsFault p v (run_entries p input n)) (sym ((outcome_is_computed p input n v).0 is))
    (last_of p (opening p input) (run_entries p input n) (body_done p input n) (whole p input n))
