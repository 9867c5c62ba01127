use Rattle.std.proofs.Common.{◌≡◌, ℕ, ◌<◌, length, List, Option, Some, None, get_or, refl, sym, ap, ◌∙◌, subst}
use Rattle.std.specs.Prelude.{slice_get}
use Rattle.std.proofs.lemmas.Option.{slice_get-get_or}
use Rattle.superstep_instructions.specs.declared.instr.Instr.{Instr}
use Rattle.superstep_instructions.specs.declared.instr.Instr.TheVariants.{Mark}
use Rattle.bsp_verify.specs.declared.state.State.{State}
use Rattle.bsp_verify.specs.Control.{Leads}
use Rattle.bsp_verify.specs.Table.{state_at, or_none, Adds, Clashes}
use Rattle.bsp_verify.proofs.Pass.{bad_no_state, bad_instr, bad_next, kept_next, none_allowed}
use Rattle.bsp_verify.proofs.Ways.{leads_within}
use Rattle.bsp_verify.proofs.verifier.judge.Goals as goal

state_read : (table : List (Option State)) (at n : ℕ) (o : Option State) → at < n → length table ≡ n → get_or table at None ≡ o →
    state_at table at ≡ o
state_read table at n o l e h = ap or_none (slice_get-get_or table at None (subst (λ m. at < m) (sym e) l)) ∙ h

instr_read : (xs ys : List Instr) (at : ℕ) → xs ≡ ys → at < length ys → slice_get ys at ≡ Some (get_or xs at (Mark 0))
instr_read xs ys at e l = slice_get-get_or ys at (Mark 0) l ∙ ap (λ zs. Some (get_or zs at (Mark 0))) (sym e)

pub returns-in_default-clause-some : goal.returns-in_default-clause-some
returns-in_default-clause-some c =
    bad_no_state c.args.code.now c.args.at c.args.table.now c.requires.kept c.requires.place
    (state_read _ _ _ _ c.requires.place c.requires.kept.long c.in_default.is)

pub pass_on-requires-clause-next : goal.pass_on-requires-clause-next
pass_on-requires-clause-next c t l =
    let i = get_or c.instructions.result.now c.args.at (Mark 0) in
    let a = none_allowed c.args.code.now c.args.at i c.in-Some.state (sym c.first_reason.ensures ∙ c.in-None.is) in
    subst (λ n. t < n) (sym c.requires.kept.long) (leads_within c.args.code.now c.args.at i a.target a.within t l)

pub returns-in-Some-first_reason-clause-some : goal.returns-in-Some-first_reason-clause-some
returns-in-Some-first_reason-clause-some c = bad_instr c.args.code.now c.args.at c.args.table.now c.requires.kept
    (get_or c.instructions.result.now c.args.at (Mark 0)) c.in-Some.state
    (instr_read _ _ _ c.instructions.ensures.value c.requires.place) (state_read _ _ _ _ c.requires.place c.requires.kept.long c.in-Some.is)
    c.in-Some-first_reason.reason (sym c.first_reason.ensures ∙ c.in-Some-first_reason.is)

pub returns-then-pass_on-clause-none : goal.returns-then-pass_on-clause-none
returns-then-pass_on-clause-none c h = kept_next c.args.code.now c.args.at c.args.table.now c.requires.kept
    (get_or c.instructions.result.now c.args.at (Mark 0)) c.in-Some.state
    (instr_read _ _ _ c.instructions.ensures.value c.requires.place) (state_read _ _ _ _ c.requires.place c.requires.kept.long c.in-Some.is)
    c.pass_on.new.table (sym c.first_reason.ensures ∙ c.in-None.is)
    (subst (λ (s : State). Adds c.args.table.now c.pass_on.new.table (λ t. Leads (get_or c.instructions.result.now c.args.at (Mark 0))
    c.args.at t) s) c.state_after.ensures (c.if-pass_on.ensures.given refl))

pub returns-else-pass_on-clause-some : goal.returns-else-pass_on-clause-some
returns-else-pass_on-clause-some c = bad_next c.args.code.now c.args.at c.args.table.now c.requires.kept
    (get_or c.instructions.result.now c.args.at (Mark 0)) c.in-Some.state
    (instr_read _ _ _ c.instructions.ensures.value c.requires.place) (state_read _ _ _ _ c.requires.place c.requires.kept.long c.in-Some.is)
    (sym c.first_reason.ensures ∙ c.in-None.is)
    (subst (λ (s : State). Clashes c.args.table.now (λ t. Leads (get_or c.instructions.result.now c.args.at (Mark 0)) c.args.at t) s)
    c.state_after.ensures (c.if-pass_on.ensures.clash refl))
