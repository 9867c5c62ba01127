use Rattle.std.proofs.Common.{◌≡◌, ◌∙◌, ◌++◌, None, sym, ap, append-nil, slice_get}
use Rattle.std.proofs.lemmas.Option.{slice_get_past}
use Rattle.flat_run.specs.RunViews.{state_of}
use Rattle.flat_run.proofs.LineLemmas.{here_none}
use Rattle.flat_run.proofs.lined.add_here.Goals as goal

-- the code leads nowhere
pub returns-in-None : goal.returns-in-None
returns-in-None c =
    let code = c.args.code.now in
    let run = c.args.run.now in
    let before = c.args.all.now.items in
    let nowhere : slice_get code.instructions run.place ≡ None =
    ap (λ is. slice_get is run.place) (sym c.instructions.ensures.value)
    ∙ slice_get_past c.instructions.result.now run.place c.in-None.ensures.lookup.3 in
    sym (append-nil before) ∙ ap (λ xs. before ++ xs) (sym (here_none code c.args.bound (state_of run) c.requires.on nowhere))
