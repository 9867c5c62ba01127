use Rattle.std.proofs.Common.{◌∙◌, List, ℕ, inr, refl, subst, sym}
use Rattle.std.specs.Prelude.{◌≡◌, Ok}
use Rattle.std.specs.Str.{IsUtf8}
use Rattle.program_texts.specs.declared.stop.Stop.{Stop}
use Rattle.sized_texts.specs.Filling.{filled}
use Rattle.command_requests.specs.declared.opening.Opening.{Opening}
use Rattle.command_requests.specs.declared.opening.Opening.TheVariants.{Input}
use Rattle.command_requests.specs.declared.request.SizeWord.{SizeWord}
use Rattle.command_requests.specs.Given.{AreSizesOf}
use Rattle.command_sweeps.specs.Sweeps.{IsOpeningAt, IsUnfilled}
use Rattle.command_sweeps.proofs.SweptRows.{comes_by, has_no_input, no_input}
use Rattle.command_sweeps.proofs.sweeping.with_input.Goals as goal

pub returns-in-Ok-from_utf8-clause-out : goal.returns-in-Ok-from_utf8-clause-out
returns-in-Ok-from_utf8-clause-out g c =
    let ws = c.args.at.now.sizes.items in
    let f = c.in-Ok.ensures.filled in
    let are = subst (λ (words : List SizeWord). AreSizesOf words f.0) c.deref.ensures.value f.1 in
    let name = sym (c.in-Ok-from_utf8.ensures.cases.0 ∙ c.deref-2.ensures.value) in
    let filled_by = subst (λ (text : List ℕ). filled f.0 c.args.name.now ≡ Ok text) name f.2 in
    comes_by (g.S.Sources.holds c.args.sources.now) c.args.at.now c.args.words (Input c.in-Ok-from_utf8.name) c.run_by.result
    (subst (λ (o : Opening). IsOpeningAt ws o (Input c.in-Ok-from_utf8.name)) (sym c.requires) (f.0, are, filled_by)) c.run_by.ensures.out

-- what comes out is no text
pub returns-clause-out : goal.returns-clause-out
returns-clause-out g c =
    let ws = c.args.at.now.sizes.items in
    let h = c.from-in-Err-from_utf8.result in
    let f = c.in-Ok.ensures.filled in
    let are = subst (λ (words : List SizeWord). AreSizesOf words f.0) c.deref.ensures.value f.1 in
    let no = subst (λ (text : List ℕ). ¬ (IsUtf8 text)) c.deref-2.ensures.value c.in-Err-from_utf8.ensures.cases.0 in
    let why = subst (λ (s : Stop). IsUnfilled ws c.args.name.now s) (sym c.from-in-Err-from_utf8.ensures.0)
    (inr (refl, (f.0, are, inr (c.in-Ok.filled.items, f.2, no)))) in
    has_no_input (g.S.Sources.holds c.args.sources.now) c.args.at.now c.args.words h c.refused-in-Err-from_utf8.result
    (no_input ws c.args.words.opening (Input c.args.name) h c.requires (why, c.from-in-Err-from_utf8.ensures.1))
    c.refused-in-Err-from_utf8.ensures
