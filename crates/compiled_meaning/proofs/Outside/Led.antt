-- A part of a program led by its code: the run goes along it, and along one part behind another.
use Rattle.std.proofs.Common.{◌≡◌, ℕ, ◌+◌, List, [], ◌++◌, length, Bool, refl, subst, arith}
use Rattle.std.proofs.Common.{length-append}
use Rattle.superstep_instructions.specs.declared.instr.Instr.{Instr}
use Rattle.pram_check.specs.Checked.{Checked}
use Rattle.pram_meaning.specs.Store.{State}
use Rattle.pram_meaning.specs.Bounded.{Done, Goes, then_do}
use Rattle.flat_machine.specs.Flat.{Flat}
use Rattle.flat_stretches.specs.Along.{Run}
use Rattle.flat_stretches.specs.Folds.{Stand}
use Rattle.flat_stretches.specs.Tells.{IsCalm}
use Rattle.flat_stretches.proofs.Joins.{stands_split}
use Rattle.plain_form.specs.Outside.{left}
use Rattle.verified_form.specs.Calm.{BeginsCalm}
use Rattle.exchange_bound.specs.Events.{Event, behind}
use Rattle.compiled_meaning.specs.Without.{IsWithout}
use Rattle.compiled_meaning.proofs.Outside.Leads.{Leads, leads_then, leads_as}
use Rattle.compiled_meaning.proofs.Outside.Passed.{Passes, passed_both, passed_there, passed_here}

-- what stands at a place, with the place behind it calm: the run goes along it as the program does, by these events
abbrev pub IsLed : Checked → Run → (free : ℕ) → (held left : Bool) → (place : ℕ) → List Instr → (State → Done) → (State → List Event) →
    Type 0
IsLed p t free held left place is performed happens =
    (m : State) (spent : ℕ) (f : Flat) → IsWithout p t held m place spent f → Stand t place is → IsCalm t.code (place + length is) →
    Leads t spent held left (happens m) (Passes p t free left (place + length is) m f) (performed m)

module _ (p : Checked) (t : Run) where
  -- one part behind another
  pub both_lead : (free : ℕ) (held mid last : Bool) (place : ℕ) (first second : List Instr) (d : State → Done) (k : State → Done)
      (es fs : State → List Event) → IsLed p t free held mid place first d es →
      IsLed p t free mid last (place + length first) second k fs → BeginsCalm t (place + length first) second →
      IsLed p t free held last place (first ++ second) (λ m. then_do (d m) (λ u. k)) (λ m. es m ++ behind (d m) (λ u. fs))
  both_lead free held mid last place first second d k es fs one two begins m spent f w stand calm =
      let n = length-append first second in
      let split = stands_split t place first second stand in
      let to = place + length (first ++ second) in
      let at = place + length first in
      let end_calm = subst (IsCalm t.code) (let q : to ≡ at + length second = omega (arith, n) in q) calm in
      leads_then t spent held mid last (es m) (Passes p t free mid at m f) (Passes p t free last to m f) (d m) (λ u. k) (λ u. fs)
      (one m spent f w split.0 (begins split.1 end_calm))
      (λ i u m1 x.
      let passed = x.1 in
      leads_as t i mid last (fs m1) (Passes p t free last (at + length second) m1 x.0) (Passes p t free last to m f) (k m1)
      (two m1 i x.0 passed.without split.1 end_calm)
      (λ j v m2 y. (
        y.0,
        passed_there p t free last (at + length second) to m f j j m2 y.0 (omega (arith, n)) (omega arith)
            (passed_both p t free mid last at (at + length second) m m1 f x.0 i j free m2 y.0 (omega arith) passed y.1),
      )))

  -- where nothing stands nothing happens
  pub none_leads : (free : ℕ) (held : Bool) (place : ℕ) → IsLed p t free held held place [] (λ m. Goes tt m) (λ m. [])
  none_leads free held place m spent f w stand calm = (
    refl,
    (
      f,
      passed_there p t free held place (place + 0) m f spent (spent + 0) m f (omega arith) (omega arith)
          (passed_here p t free held place spent m f w),
    ),
  )
