use Rattle.std.proofs.Common.{◌≡◌, ◌∙◌, ap, subst, sym}
use Rattle.std.specs.Prelude.{IfOk, Ok, Err, Result, Vec}
use Rattle.std.specs.Global.{Global}
use Rattle.bsp_verify.specs.WellFormed.{IsWellFormed}
use Rattle.flat_machine.specs.ByExchanges.{opening}
use Rattle.exchange_lines.specs.Lines.{AreLinesOf, lines_within}
use Rattle.exchange_lines.proofs.Listed.{lines_are_flat}
use Rattle.flat_run.specs.RunViews.{state_of}
use Rattle.flat_run.proofs.LineLemmas.{same_lines}
use Rattle.flat_run.proofs.lined.flat_lines.Goals as goal

if_ok : {A E : Type 0} (P Q : A → Type 0) → ((a : A) → P a → Q a) → (r : Result A E) → IfOk r P → IfOk r Q
if_ok P Q h (Ok a) p = h a p
if_ok P Q h (Err e) p = tt

pub returns-clause-lines : goal.returns-clause-lines
returns-clause-lines c =
    let code = c.args.code.now in
    let input = c.args.input.now in
    let bound = c.args.bound in
    let s = state_of c.in_ok-run.run' in
    let all_told = same_lines code bound c.enough.result s (opening input) c.in_ok-run.ensures.state
    ∙ ap (λ n. lines_within code bound n (opening input)) c.enough.ensures in
    if_ok (λ (all : Vec _ Global). all.items ≡ lines_within code bound c.enough.result s)
    (λ (all : Vec _ Global). IsWellFormed code → AreLinesOf code input bound all.items)
    (λ all e formed. subst (AreLinesOf code input bound) (sym (e ∙ all_told)) (lines_are_flat code formed input bound))
    c.follow_to_end.result c.follow_to_end.ensures
