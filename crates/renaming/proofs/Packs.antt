-- Packed code is the code, but for the numbers, and runs as that does.
use Rattle.std.proofs.Common.{◌≡◌, ℕ, zero, suc, ◌<◌, inl, inr, ⊎_elim, Result, Ok, Err, refl, sym, ap, ◌∙◌, subst, arith}
use Rattle.std.specs.Prelude.{IfOk}
use Rattle.superstep_instructions.specs.declared.instr.Side.{Side}
use Rattle.superstep_instructions.specs.declared.instr.Side.TheVariants.{Uniform, Private}
use Rattle.superstep_instructions.specs.Code.{SuperstepCode}
use Rattle.superstep_machine.specs.Run.{State, Ready, is_over, ready, setting}
use Rattle.bsp_verify.specs.Judging.{registers_of}
use Rattle.bsp_verify.specs.Runs.{worker_after}
use Rattle.bsp_verify.specs.WellFormed.{IsWellFormed}
use Rattle.renaming.specs.Renamed.{IsOneToOne, with_names}
use Rattle.renaming.specs.Named.{IsNamedIn}
use Rattle.renaming.specs.declared.numbers.Numbers.{Numbers}
use Rattle.renaming.specs.Numbers.{number_of, register_of, HaveNumbers}
use Rattle.renaming.specs.Packed.{IsPacked, NoneIsThereUnnamed, RunsAlike}
use Rattle.renaming.proofs.Runs.{outcome_is, worker_is, ready_is}
use Rattle.renaming.proofs.Formed.{formed_again}

-- ---- what was numbered

module _ (code packed : SuperstepCode) (x y z : Numbers) (none : x.given ≡ 0)
    (first : HaveNumbers (IsNamedIn Private code.instructions) x y)
    (second : HaveNumbers (IsNamedIn Uniform code.instructions) y z)
    (is : packed ≡ with_names (number_of z) z.given y.given code) where
  one : IsOneToOne (number_of z) (register_of z)
  one = second.numbers.one

  -- who was first is where it was
  stays : (n : ℕ) → n < y.given → register_of z n ≡ register_of y n
  stays n l =
      let r = register_of y n in
      let is_n = first.numbers.one.forth n in
      let same = second.kept r (omega (arith, is_n, l)) ∙ is_n in
      ap (register_of z) (sym same) ∙ one.back r

  private_named : (n : ℕ) → n < y.given → IsNamedIn Private code.instructions (register_of z n)
  private_named n l = ⊎_elim
      (λ (o : (n < x.given) × (register_of y n ≡ register_of x n)). absurd (let low = o.0 in omega (arith, low, none)))
      (λ t. subst (IsNamedIn Private code.instructions) (sym (stays n l)) t) (first.others n l)

  pub are_packed : IsPacked code packed
  are_packed = subst (IsPacked code) (sym is) (record {
    p = number_of z;
    l = register_of z;
    one = one;
    is = refl;
    private = λ r named. (let l = first.placed r named in let same = second.kept r l in omega (arith, l, same));
    uniform = λ r named. second.placed r named;
    private_alone = private_named;
    uniform_alone = λ n l. ⊎_elim
        (λ (o : (n < y.given) × (register_of z n ≡ register_of y n)). inl (private_named n o.0)) (λ t. inr t) (second.others n l);
  })

pub all_packed : {E : Type 0} (code : SuperstepCode) (x y z : Numbers) → x.given ≡ 0 →
    HaveNumbers (IsNamedIn Private code.instructions) x y → HaveNumbers (IsNamedIn Uniform code.instructions) y z →
    (found : Result SuperstepCode E) → IfOk found (λ packed. packed ≡ with_names (number_of z) z.given y.given code) →
    IfOk found (IsPacked code)
all_packed code x y z none first second (Ok packed) is = are_packed code packed x y z none first second is
all_packed code x y z none first second (Err e) is = tt

-- ---- what is packed

module _ (code packed : SuperstepCode) (is : IsPacked code packed) where
  abbrev again : SuperstepCode
  again = with_names is.p packed.uniform_registers packed.private_registers code

  names : (side : Side) (r : ℕ) → IsNamedIn side code.instructions r → is.p r < registers_of again side
  names Uniform r named = is.uniform r named
  names Private r named = is.private r named

  pub well_formed : IsWellFormed code → IsWellFormed packed
  well_formed w =
      subst IsWellFormed (sym is.is) (formed_again is.p packed.uniform_registers packed.private_registers code names w)

  runs : RunsAlike code again
  runs = record {
    outcomes = λ m bound n input exchanges.
        outcome_is is.p is.l is.one packed.uniform_registers packed.private_registers (setting code m bound n) input exchanges;
    over = λ m bound n input exchanges w.
        ap (λ (s : State). is_over s.way)
        (worker_is is.p is.l is.one packed.uniform_registers packed.private_registers (setting code m bound n) input exchanges w);
    output = λ m bound n input exchanges w.
        ap (λ (s : State). (ready (setting again m bound n) w s).state.worker.uniform.output)
        (worker_is is.p is.l is.one packed.uniform_registers packed.private_registers (setting code m bound n) input exchanges w)
        ∙ ap (λ (r : Ready). r.state.worker.uniform.output)
        (ready_is is.p is.l is.one packed.uniform_registers packed.private_registers (setting code m bound n) w
        (worker_after (setting code m bound n) input exchanges w));
  }

  pub runs_alike : RunsAlike code packed
  runs_alike = subst (RunsAlike code) (sym is.is) runs

pub none_unnamed : NoneIsThereUnnamed
none_unnamed code packed is none = nothing packed.private_registers (λ n l. none (is.l n) (is.private_alone n l))
  where
    nothing : (n : ℕ) → ((k : ℕ) → k < n → ⊥) → n ≡ 0
    nothing zero h = refl
    nothing (suc n) h = absurd (h n (omega arith))
