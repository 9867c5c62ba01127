-- One statement of a program, as the meaning begins it: it counts, and it comes to a value or to its fault.
use Rattle.std.proofs.Common.{◌≡◌, ℕ, ◌+◌, ◌<◌, List, [], ◌∷◌, length, Bool, true, false, Option, Some, None, refl, sym, ap, ◌∙◌, subst}
use Rattle.std.proofs.Common.{arith}
use Rattle.std.specs.Prelude.{nat_lt, if◌then◌else◌, Result}
use Rattle.std.proofs.lemmas.Bool.{ltb-true}
use Rattle.write_rules.specs.declared.fault.Fault.{Fault}
use Rattle.write_rules.specs.Verdict.{GoesOn}
use Rattle.superstep_instructions.specs.declared.instr.Instr.{Instr}
use Rattle.superstep_instructions.specs.declared.instr.Instr.TheVariants.{Mark}
use Rattle.superstep_machine.specs.declared.key.Key.{Key}
use Rattle.pram_values.specs.declared.place.Place.TheVariants.{All}
use Rattle.pram_meaning.specs.Attempt.{Attempt}
use Rattle.pram_meaning.specs.Store.{State}
use Rattle.pram_meaning.specs.Bounded.{Behaviour, Done, Goes, Reaches, then_do, counted, valued, evaluated}
use Rattle.pram_meaning.specs.Together.{alone}
use Rattle.bsp_verify.specs.WellFormed.{IsWellFormed}
use Rattle.flat_machine.specs.Flat.{Flat}
use Rattle.flat_stretches.specs.Applied.{applied, AsksNone}
use Rattle.flat_stretches.specs.Along.{Run}
use Rattle.flat_stretches.specs.Closes.{ComesOut}
use Rattle.flat_stretches.specs.Folds.{Stand, IsFine}
use Rattle.flat_stretches.specs.Notes.{notes}
use Rattle.flat_stretches.specs.Tells.{IsCalm}
use Rattle.statement_evaluation.specs.Noted.{notes_behind}
use Rattle.statement_evaluation.specs.LeastFaults.{unless_told}
use Rattle.statement_evaluation.specs.Whole.{Whole, cut}
use Rattle.statement_evaluation.proofs.Cuts.{alone_is_noted}
use Rattle.exchange_bound.specs.Events as events
use Rattle.exchange_bound.specs.Events.{Event}
use Rattle.exchange_bound.specs.Bound.{one_if}
use Rattle.exchange_bound.specs.Spent.{held_behind}
use Rattle.compiled_meaning.specs.Paid.{spent}
use Rattle.compiled_meaning.specs.Between.{IsBetween}
use Rattle.compiled_meaning.specs.Begins.{begun, done, HasPassed, PassesOrFaults, BeginsOrEnds}
use Rattle.compiled_meaning.proofs.EachStatement.Begins.{statements_go_on}
use Rattle.compiled_meaning.proofs.Inside.Attempted.{one_more}
use Rattle.compiled_meaning.proofs.Outside.Leads.{Leads}
use Rattle.compiled_formulas.specs.Headings.{heading_of}

-- as `counted` has it, by whether the bound allows it
abbrev if_counted : Bool → State → Done
if_counted b m = if b then Goes tt (one_more m) else Reaches m.output

-- what a statement with this stretch is begun from
pub record MayBegin (t : Run) (line : ℕ) (is : List Instr) (before behind : Bool) (m : State) (place spent : ℕ) (f : Flat) : Type 0 where
  pub formed : IsWellFormed t.code
  pub between : IsBetween t before m place spent f
  pub rests : AsksNone (applied t.code f)
  pub stand : Stand t place (Mark line ∷ is)
  pub fine : IsFine before is behind
  pub asks : (done t.code line is f).uniform.asks ≡ []
  pub calm : IsCalm t.code (place + 1 + length is)

-- What it comes to where it passes. Its events are counted from `start` on, with a write held or not as said, so that a send before the
-- mark
-- may be among them.
abbrev pub GoesPast : Run → {A : Type 0} → (line : ℕ) → List Instr → (behind : Bool) → State → (place spent : ℕ) → Flat → A → (start : ℕ) →
    (held left : Bool) → List Event → (ℕ → A → State → Type 0) → Type 0
GoesPast t line is behind m place came f value start held left es goes =
    m.count < t.bound → (g : Flat) → HasPassed t line is behind place came f g →
    (held_behind es held ≡ left) × goes (start + spent t es held) value (one_more m)

module _ (t : Run) (line : ℕ) (is : List Instr) (before behind : Bool) (m : State) (place came : ℕ) (f : Flat)
    (may : MayBegin t line is before behind m place came f) (start : ℕ) (held left : Bool)
    (same : came + one_if before ≡ start + one_if held) (es : List Event) where
  -- any behaviour that is what the stretch notes, or else a value
  pub begins_by : {A : Type 0} (value : A) (goes : ℕ → A → State → Type 0) (k : State → Behaviour A) →
      k (one_more m) ≡ valued (unless_told (notes t.code is (begun t.code line f)) value) (one_more m) →
      GoesPast t line is behind m place came f value start held left es goes →
      Leads t start held left (events.begun t.bound m es) goes (then_do (counted t.bound m) (λ u m. k m))
  begins_by {A} value goes k judged past =
      by_bound (nat_lt m.count t.bound) refl
      (statements_go_on t may.formed line is before behind m place came f may.between may.rests may.stand may.fine may.asks may.calm)
    where
      by_key : (key : Option Key) → m.count < t.bound → PassesOrFaults t line is behind place came m f key →
          Leads t start held left es goes (valued (unless_told key value) (one_more m))
      by_key None l h = past l h.0 h.1
      by_key (Some key) l h = h

      by_bound : (b : Bool) → nat_lt m.count t.bound ≡ b → BeginsOrEnds t line is before behind place came m f b →
          Leads t start held left (if b then es else []) goes
          (then_do (if_counted b m) (λ u m. k m))
      by_bound true e h =
          subst (Leads t start held left es goes) (sym judged)
          (by_key (notes t.code is (begun t.code line f)) (ltb-true m.count t.bound e) h)
      by_bound false e h =
          subst (λ n. ComesOut t (GoesOn m.output) n)
          (let x : came + one_if before + 1 ≡ start + (spent t [] held + one_if (held_behind [] held)) + 1 = omega (arith, same) in x) h

  -- an attempt, by what evaluation says of it
  pub evaluates_by : {A : Type 0} (a : State → Attempt A) (w : Whole A) (goes : ℕ → A → State → Type 0) → a (one_more m) ≡ cut w →
      notes t.code is (begun t.code line f) ≡ notes_behind (heading_of (begun t.code line f)) 0 All w.steps →
      GoesPast t line is behind m place came f w.value start held left es goes →
      Leads t start held left (events.begun t.bound m es) goes (evaluated t.bound line a m)
  evaluates_by {A} a w goes whole tells past =
      begins_by w.value goes (λ m. valued (alone line (a m)) m)
      (ap (λ (r : Result A Fault). valued r (one_more m))
      (ap (alone line) whole ∙ alone_is_noted A (heading_of (begun t.code line f)) w ∙ ap (λ k. unless_told k w.value) (sym tells))) past
