-- What is told of a statement that faults, and who keeps that alone.
use Rattle.std.proofs.Common.{◌≡◌, ◌∙◌, ℕ, ◌-◌, ℤ, pos, List, [], ◌∷◌, ◌++◌, Option, Some, None, map, length, replicate, ap}
use Rattle.std.specs.List.{flat_map}
use Rattle.std.specs.Option.{option_map}
use Rattle.pram_model.specs.Layout.{total_size}
use Rattle.pram_check.specs.Checked.{Checked}
use Rattle.pram_tokens.specs.declared.token.Location.{Location}
use Rattle.pram_values.specs.declared.kind.Kind.{Kind}
use Rattle.pram_meaning.specs.declared.key.Key.{Key}
use Rattle.pram_meaning.specs.declared.run.Run.{Run}
use Rattle.pram_meaning.specs.Attempt.{Effect, Fails, Gives, Trail}
use Rattle.pram_meaning.specs.Conflict.{Part}
use Rattle.pram_meaning.specs.Moments.{Action, Alone, StepAction, Together, list_moments}
use Rattle.pram_meaning.specs.Runs.{state_of}
use Rattle.pram_meaning.specs.Store.{State}
use Rattle.pram_meaning.proofs.References.{opens}
use Rattle.journal.specs.declared.entry as rust
use Rattle.journal.specs.Causes.{Cause}
use Rattle.journal.specs.Entries.{Act, Entry, Faulting, OwnLocals, entry_is}
use Rattle.journal.specs.FoundCauses.{cause_on}
use Rattle.journal.specs.Acts.{act_before, alone_acts, front}
use Rattle.journal.specs.RunEntries.{by_one, by_set, entries_of, fault_alone, fault_on, why_alone}
use Rattle.journal.specs.LastFault.{fault_behind, run_fault}
use Rattle.journal.specs.HeardFaults.{FaultHeard}
use Rattle.journal.specs.FaultLocals.{locals_at}
use Rattle.journal.specs.Meeting.{meeting}

-- ---- the entry

pub told_alone : (p : Checked) (here : Location) (act : Action) (m : State) (t : Trail) (k : Kind) (why : Option Cause) (acts : List Act)
    (met : List ℤ) (locals : List OwnLocals) → why ≡ why_alone p m act → acts ≡ alone_acts m.cells (front (length t) t) None None → met ≡ []
    → locals ≡ [] →
    Faulting here (fault_alone here.line k) why acts met locals ≡ by_one p here act m (Fails t k) m
told_alone p here act m t k why acts met locals c a w l = λ i. Faulting here (fault_alone here.line k) (c i) (a i) (w i) (l i)

pub told_together : (p : Checked) (here : Location) (act : StepAction) (m : State) (xs : List Part) (k : Key) (why : Option Cause)
    (acts : List Act) (met : List ℤ) (locals : List OwnLocals) → why ≡ cause_on p m act k xs → acts ≡ map (act_before m.cells k.at) xs →
    met ≡ meeting k xs → locals ≡ locals_at k xs m.team →
    Faulting here (fault_on here.line k) why acts met locals ≡ by_set p here act m xs (Some k) m
told_together p here act m xs k why acts met locals c a w l =
    λ i. Faulting here (fault_on here.line k) (c i) (a i) (w i) (l i)

-- ---- who keeps the last fault has heard of it

pub last_alone : (p q : Checked) (here : Location) (act : Action) (m : State) (t : Trail) (k : Kind) (x : Entry) (old new : Option Entry) →
    q ≡ p → x ≡ by_one p here act m (Fails t k) m → new ≡ Some x → FaultHeard p q old new (Alone here act m (Fails t k) m ∷ [])
last_alone p q here act m t k x old new s is e = (s, e ∙ ap Some is)

pub last_together : (p q : Checked) (here : Location) (act : StepAction) (m : State) (xs : List Part) (k : Key) (x : Entry)
    (old new : Option Entry) → q ≡ p → x ≡ by_set p here act m xs (Some k) m → new ≡ Some x →
    FaultHeard p q old new (Together here act m xs (Some k) m ∷ [])
last_together p q here act m xs k x old new s is e = (s, e ∙ ap Some is)

pub ran_alone : (p q : Checked) (here : Location) (act : Action) (m behind : State) (t : Trail) (g : Effect) (old new : Option Entry) →
    q ≡ p → new ≡ None → FaultHeard p q old new (Alone here act m (Gives t g.cell) behind ∷ [])
ran_alone p q here act m behind t g old new s e = (s, e)

pub ran_together : (p q : Checked) (here : Location) (act : StepAction) (m behind : State) (xs : List Part) (old new : Option Entry) →
    q ≡ p → new ≡ None → FaultHeard p q old new (Together here act m xs None behind ∷ [])
ran_together p q here act m behind xs old new s e = (s, e)

-- ---- a whole run

pub last_heard : (p q : Checked) (input : List ℤ) (n : ℕ) (run : Run) (old new : Option rust.Entry.Entry) → run.count ≡ 0 →
    run.output.items ≡ [] → run.uniforms.items ≡ replicate p.uniforms (pos 0) →
    run.cells.items ≡ input ++ replicate (total_size p.layout - length input) (pos 0) → q ≡ p → old ≡ None →
    option_map entry_is new ≡ fault_behind (option_map entry_is old) (flat_map (entries_of q) (list_moments p n p.body (state_of run))) →
    option_map entry_is new ≡ run_fault p input n
last_heard p q input n run old new a b c d s o h =
    h ∙ ap (λ o. fault_behind (option_map entry_is o) (flat_map (entries_of q) (list_moments p n p.body (state_of run)))) o
    ∙ ap (λ q. fault_behind None (flat_map (entries_of q) (list_moments p n p.body (state_of run)))) s
    ∙ ap (λ m. fault_behind None (flat_map (entries_of p) (list_moments p n p.body m))) (opens p input run a b c d)
