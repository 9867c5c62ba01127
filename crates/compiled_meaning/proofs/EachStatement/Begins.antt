-- One statement of well-formed code: it begins and comes to the end of its stretch, or the run is over at its mark.
use Rattle.std.proofs.Common.{◌≡◌, ℕ, ◌+◌, ◌<◌, ◌≤◌, List, [], ◌∷◌, length, Bool, true, false, Option, Some, None, refl, ap, ◌∙◌}
use Rattle.std.proofs.Common.{subst, arith}
use Rattle.std.specs.Prelude.{nat_lt, if◌then◌else◌}
use Rattle.std.proofs.lemmas.Bool.Decides.{nat_tests}
use Rattle.write_rules.specs.Verdict.{Faulted, GoesOn}
use Rattle.superstep_instructions.specs.declared.instr.Instr.{Instr}
use Rattle.superstep_instructions.specs.declared.instr.Instr.TheVariants.{Mark}
use Rattle.superstep_machine.specs.declared.key.Key.{Key}
use Rattle.superstep_machine.specs.Keys.{least}
use Rattle.superstep_machine.specs.Run.{is_held, fault_of}
use Rattle.pram_meaning.specs.Store.{State}
use Rattle.bsp_verify.specs.WellFormed.{IsWellFormed}
use Rattle.flat_machine.specs.Flat.{Flat, after_instr}
use Rattle.flat_machine.specs.ByInstructions.{IsFlatOutcome}
use Rattle.flat_machine.specs.Verdicts.{told}
use Rattle.superstep_machine.proofs.KeyOrder.{none_least}
use Rattle.flat_machine.proofs.AnyTime.{none_noted}
use Rattle.flat_stretches.specs.Applied.{applied}
use Rattle.flat_stretches.specs.Along.{Run}
use Rattle.flat_stretches.specs.Closes.{close_cost, ComesOut}
use Rattle.flat_stretches.specs.Folds.{Stand, acts, acts_at_once, IsFine, MayHold}
use Rattle.flat_stretches.specs.Notes.{notes}
use Rattle.flat_stretches.specs.Statements.{HasBegun, finished}
use Rattle.flat_stretches.specs.Tells.{IsCalm}
use Rattle.flat_stretches.proofs.Applied.{instructions_apply}
use Rattle.flat_stretches.proofs.Closes.{bounds_end}
use Rattle.flat_stretches.proofs.Notes.{folds_tell_notes}
use Rattle.flat_stretches.proofs.Statements.{marks_begin, marks_hold, statements_finish, statements_fault}
use Rattle.flat_stretches.proofs.Tells.{calm_places_tell}
use Rattle.exchange_bound.specs.Bound.{one_if}
use Rattle.compiled_meaning.specs.Between.{IsBetween}
use Rattle.compiled_meaning.proofs.EachStatement.Joined.{comes_out_sooner}
use Rattle.compiled_meaning.specs.Begins.{begun, done, PassesOrFaults, BeginsOrEnds, StatementsGoOn}

-- a write that is held is sent before the close
pub close_costs : (held : Bool) (f : Flat) → MayHold held f → close_cost f ≤ one_if held + 1
close_costs true f h = go (is_held f.uniform.put)
  where
    go : (b : Bool) → (if b then 2 else 1) ≤ 2
    go true = omega arith
    go false = omega arith
close_costs false f h =
    let e : close_cost f ≡ 1 = ap (λ p. if is_held p then 2 else 1) (h refl).put in omega (arith, e)

module _ (t : Run) (formed : IsWellFormed t.code) (line : ℕ) (is : List Instr) (before behind : Bool) (m : State) (place spent : ℕ)
    (f : Flat)
    (b : IsBetween t before m place spent f) (st : Stand t place (Mark line ∷ is)) where
  abbrev marked : Flat
  marked = after_instr t.code (Mark line) f

  -- ---- where the bound is reached

  is_over : t.bound ≤ m.count → ComesOut t (GoesOn m.output) (spent + one_if before + 1)
  is_over l =
      let n = b.count in
      let w = b.within in
      let few = close_costs before f b.holds in
      comes_out_sooner t (GoesOn m.output) (spent + close_cost f) (spent + one_if before + 1) (omega (arith, few))
      (subst (λ xs. ComesOut t (GoesOn xs) (spent + close_cost f)) b.output
      (bounds_end t formed place f spent b.comes line st.0 (omega (arith, n, w, l)) b.told))

  -- ---- where it isn't

  module _ (l : m.count < t.bound) (fine : IsFine before is behind) (none : (done t.code line is f).uniform.asks ≡ [])
      (calm : IsCalm t.code (place + 1 + length is)) where
    begins : HasBegun t (place + 1) spent marked
    begins = marks_begin t formed place f spent b.comes line st.0 (let n = b.count in omega (arith, n, l)) b.told

    holds : MayHold before marked
    holds = marks_hold t.code line before f b.holds

    same : finished t is marked ≡ done t.code line is f
    same = ap (acts_at_once t.code is) (instructions_apply t.code (Mark line) f refl)

    no_key : (begun t.code line f).key ≡ None
    no_key = ap (least (told t.code f)) (none_noted t.code line (applied t.code f)) ∙ none_least (told t.code f) ∙ b.told

    key : (finished t is marked).key ≡ notes t.code is (begun t.code line f)
    key = ap (λ (x : Flat). x.key) same ∙ folds_tell_notes t.code is (begun t.code line f)
        ∙ ap (λ k. least k (notes t.code is (begun t.code line f))) no_key

    judged : (k : Option Key) → (finished t is marked).key ≡ k → PassesOrFaults t line is behind place spent m f k
    judged None e =
        let g = statements_finish t is before behind (place + 1) spent marked begins st.1 fine holds e in
        (acts t.code is marked, record { comes = g.comes; seen = g.seen ∙ same; told = g.told; holds = g.holds })
    judged (Some k) e =
        subst (λ xs. IsFlatOutcome t.code t.input t.bound (Faulted (fault_of k) xs)) b.output
        (statements_fault t is before behind (place + 1) spent marked begins st.1 fine holds k e
        (ap (λ (x : Flat). x.uniform.asks) same ∙ none) (calm_places_tell t formed (place + 1 + length is) calm))

  pub goes_on : IsFine before is behind → (done t.code line is f).uniform.asks ≡ [] → IsCalm t.code (place + 1 + length is) →
      BeginsOrEnds t line is before behind place spent m f (nat_lt m.count t.bound)
  goes_on fine none calm = go (nat_lt m.count t.bound) refl
    where
      less : (i n : ℕ) → nat_lt i n ≡ true → i < n
      less i n e = grind (arith, nat_tests)

      more : (i n : ℕ) → nat_lt i n ≡ false → n ≤ i
      more i n e = grind (arith, nat_tests)

      go : (x : Bool) → nat_lt m.count t.bound ≡ x → BeginsOrEnds t line is before behind place spent m f x
      go true e = let l = less m.count t.bound e in
          judged l fine none calm (notes t.code is (begun t.code line f)) (key l fine none calm)
      go false e = is_over (more m.count t.bound e)

pub statements_go_on : StatementsGoOn
statements_go_on t formed line is before behind m place spent f b rests st fine none calm =
    goes_on t formed line is before behind m place spent f b st fine none calm
