-- Where an instruction leads, and a state given to two places.
use Rattle.std.proofs.Common.{◌≡◌, ℕ, ◌+◌, ◌<◌, List, length, Option, true, refl, sym, ◌∙◌, subst, arith, ⊎_elim, ◌⊎◌, inl, inr}
use Rattle.std.proofs.lemmas.Bool.Decides.{nat_tests}
use Rattle.superstep_instructions.specs.declared.instr.Instr.{Instr}
use Rattle.superstep_instructions.specs.declared.instr.Instr.TheVariants.{Jump, JumpIfZero, Halt}
use Rattle.superstep_instructions.specs.Code.{SuperstepCode}
use Rattle.bsp_verify.specs.declared.state.State.{State}
use Rattle.bsp_verify.specs.Control.{Leads}
use Rattle.bsp_verify.specs.Judging.{is_target, has_target, stays_within}
use Rattle.bsp_verify.specs.Table.{Adds}

-- what doesn't jump and doesn't halt leads to the next place
pub leads_next : (i : Instr) (place : ℕ) → ((t : ℕ) → i ≡ Jump t → ⊥) → ((r t : ℕ) → i ≡ JumpIfZero r t → ⊥) → (i ≡ Halt → ⊥) →
    Leads i place (place + 1)
leads_next Halt place a b c = absurd (c refl)
leads_next (Jump t) place a b c = absurd (a t refl)
leads_next (JumpIfZero r t) place a b c = absurd (b r t refl)
leads_next i place a b c = refl

pub adds_both : (t0 t1 t2 : List (Option State)) (p q : ℕ → Type 0) (x : State) → Adds t0 t1 p x → Adds t1 t2 q x →
    Adds t0 t2 (λ t. p t ⊎ q t) x
adds_both t0 t1 t2 p q x a b = record {
  long = b.long ∙ a.long;
  gives = λ t w. ⊎_elim (λ h. b.grows t x (a.gives t h)) (λ h. b.gives t h) w;
  grows = λ t s h. b.grows t s (a.grows t s h);
  only = λ t s h. ⊎_elim (λ k. ⊎_elim (λ m. inl m) (λ m. inr (inl m.0, m.1)) (a.only t s k)) (λ k. inr (inr k.0, k.1)) (b.only t s h);
}

in_code : (code : SuperstepCode) (place t : ℕ) → is_target code place t ≡ true → t < length code.instructions
in_code code place t h = grind (arith, nat_tests)

-- what may stand there has its successors in the code
pub leads_within : (code : SuperstepCode) (place : ℕ) (i : Instr) → has_target code place i ≡ true → stays_within code place i ≡ true →
    (t : ℕ) → Leads i place t → t < length code.instructions
leads_within code place Halt a b t l = absurd l
leads_within code place (Jump target) a b t l = subst (λ n. n < length code.instructions) (sym l) (in_code code place target a)
leads_within code place (JumpIfZero r target) a b t l =
    ⊎_elim (λ e. subst (λ n. n < length code.instructions) (sym e) (in_code code place target a)) (λ e. grind (arith, nat_tests)) l
leads_within code place i a b t l = grind (arith, nat_tests)
