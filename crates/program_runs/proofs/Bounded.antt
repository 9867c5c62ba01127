-- The words of the workers are at most those of the events, and these at most those of the reads and writes.
use Rattle.std.proofs.Common.{◌≡◌, ◌≤◌, ℕ, ◌*◌, List, Some, ℤ, ap, refl, arith}
use Rattle.pram_model.specs.declared.rule.Rule.{Rule}
use Rattle.pram_model.specs.declared.rule.Rule.TheVariants.{Erew, Crew, Common, Priority, Sum}
use Rattle.write_rules.specs.Verdict.{Verdict, Ended, Faulted, GoesOn}
use Rattle.write_rules.specs.declared.fault.Fault.{Fault}
use Rattle.fusing.specs.Fusing.{IsFaultless}
use Rattle.exchange_words.specs.Accesses.{of_write}
use Rattle.pram_check.specs.Checked.{Checked}
use Rattle.pram_meaning.specs.Outcome.{IsOutcome}
use Rattle.compiled_meaning.specs.PlainForm.{word_bound}
use Rattle.costs.proofs.Communication.{accesses_are_counted}
use Rattle.costs.specs.Communication.{inside, outside, words_at_most, write_words}
use Rattle.costs.specs.Cost.{writes}
use Rattle.program_runs.specs.Law.{communication, CostsTellCommunication, WorkBoundsCommunication}

no_fault : (v : Verdict) → IsFaultless v → (fault : Fault) (output : List ℤ) → v ≡ Faulted fault output → ⊥
no_fault (Ended output memory) u fault out e = cc
no_fault (Faulted f output) u fault out e = absurd u
no_fault (GoesOn output) u fault out e = cc

pub accesses_within : (p : Checked) (input : List ℤ) (n : ℕ) (v : Verdict) → IsOutcome p input n v → IsFaultless v → (workers : ℕ) →
    word_bound p workers input n ≤ communication p workers input n
accesses_within p input n v o u workers =
    let few = accesses_are_counted p input n v o (no_fault v u) workers (of_write p.rule) in
    omega (arith, few)

pub work_bounds_communication : WorkBoundsCommunication
work_bounds_communication p code form map fits input is bound v o u made a =
    let b = form.communication map fits input is bound v o u made a in
    let c = accesses_within p input bound v o u map.parts in
    omega (arith, b, c)

-- the words of a write are the same, whether of the machine or of the costs
pub write_takes : (r : Rule) → write_words r ≡ of_write r
write_takes Erew = refl
write_takes Crew = refl
write_takes Common = refl
write_takes Priority = refl
write_takes Sum = refl

told_alike : (p : Checked) (workers : ℕ) (input : List ℤ) (n k : ℕ) → k ≡ of_write p.rule →
    words_at_most p workers k input n ≡ communication p workers input n
told_alike p workers input n k e =
    let a : k * writes (inside p input n) ≡ of_write p.rule * writes (inside p input n) = ap (λ k. k * writes (inside p input n)) e in
    let b : k * writes (outside p input n) ≡ of_write p.rule * writes (outside p input n) = ap (λ k. k * writes (outside p input n)) e in
    omega (arith, a, b)

pub costs_tell_communication : CostsTellCommunication
costs_tell_communication p workers input n = ap Some (told_alike p workers input n (write_words p.rule) (write_takes p.rule))
