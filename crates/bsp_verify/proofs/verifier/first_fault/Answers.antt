use Rattle.std.proofs.Common.{◌≡◌, ℕ, ◌<◌, length, List, Option, None, Some, set, replicate, sym, ◌∙◌, subst, arith, ⊎_elim}
use Rattle.std.proofs.lemmas.Bool.{cases_lt}
use Rattle.superstep_instructions.specs.Code.{SuperstepCode}
use Rattle.bsp_verify.specs.declared.state.State.{State}
use Rattle.bsp_verify.specs.States.{opening}
use Rattle.bsp_verify.specs.WellFormed.{IsWellFormed}
use Rattle.bsp_verify.specs.Table.{IsTable}
use Rattle.bsp_verify.proofs.Pass.{bad_empty, can_meet, kept_opening}
use Rattle.bsp_verify.proofs.verifier.first_fault.Goals as goal

more : (n : ℕ) → (n ≡ 0 → ⊥) → 0 < n
more n h = ⊎_elim (λ l. l) (λ le. absurd (h (omega (arith, le)))) (cases_lt 0 n)

begins : (code : SuperstepCode) (n : ℕ) (table : List (Option State)) (s : State) → n ≡ length code.instructions → 0 < n →
    table ≡ replicate n None → s ≡ opening → IsTable code 0 (set table 0 (Some s))
begins code n table s e l h o =
    subst (λ x. IsTable code 0 (set x 0 (Some s))) (sym h) (subst (λ (x : State). IsTable code 0 (set (replicate n None) 0 (Some x)))
    (sym o) (kept_opening code n e l))

whole : (code : SuperstepCode) (n : ℕ) (table : List (Option State)) → n ≡ length code.instructions → 0 < n → IsTable code n table →
    IsWellFormed code
whole code n table e l k = (subst (λ m. 0 < m) e l, can_meet code (length code.instructions) table (subst (λ m. IsTable code m table) e k))

pub returns-then-count-eq0-clause-some : goal.returns-then-count-eq0-clause-some
returns-then-count-eq0-clause-some c = bad_empty c.args.code.now (sym c.count-count.ensures ∙ c.if-count-eq0.true)

pub loop-at-init : goal.loop-at-init
loop-at-init c = begins c.args.code.now c.count-count.result c.in-Ok.table.items c.opening.result c.count-count.ensures
    (more c.count-count.result c.if-count-eq0.false) c.in-Ok.ensures c.opening.ensures

pub returns-clause-none : goal.returns-clause-none
returns-clause-none c h = whole c.args.code.now c.count-count.result c.loop-at.table.items c.count-count.ensures
    (more c.count-count.result c.if-count-eq0.false)
    (subst (λ m. IsTable c.args.code.now m c.loop-at.table.items) (let a = c.loop-at-test.false in let b = c.loop-at.auto.at-end in
    omega (arith, a, b)) c.loop-at.invariant)
