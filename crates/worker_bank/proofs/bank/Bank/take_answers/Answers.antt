use Rattle.std.proofs.Common.{◌≡◌, ◌∙◌, ap, refl, ℕ, ℤ, Vec, Global, Option, None, Some, true}
use Rattle.std.specs.Option.{is_some}
use Rattle.std.proofs.lemmas.Bool.{false≢true}
use Rattle.superstep_machine.specs.Parts.{set_register}
use Rattle.worker_bank.specs.Columns.{value_of}
use Rattle.worker_bank.specs.Bank.{registers_at}
use Rattle.worker_bank.specs.Cells.{cell_in, taken}
use Rattle.worker_bank.proofs.BankLemmas.{column_set}
use Rattle.worker_bank.proofs.NamingLemmas.{taken_is}
use Rattle.worker_bank.proofs.bank.Bank.take_answers.Goals as goal

taken_there : (cell : Option ℕ) (v x : ℤ) → is_some cell ≡ true → v ≡ taken cell v x
taken_there None v x e = absurd (false≢true e)
taken_there (Some cell) v x e = refl

pub returns-then-all_named-clause-answered : goal.returns-then-all_named-clause-answered
returns-then-all_named-clause-answered c value j l came =
    let b = c.args.self.now in
    let d = c.args.destination in
    let cell = cell_in c.args.cells.now j in
    let v = value_of c.args.values.now.items j in
    let there = c.all_named.ensures c.if-all_named.true j l in
    column_set b d c.swap.new.y b.spare c.requires.bank c.requires.target j
    ∙ ap (λ (u : Vec ℤ Global). set_register d (value_of u.items j) (registers_at b j)) c.swap.ensures.y_after
    ∙ ap (λ u. set_register d u (registers_at b j)) (taken_there cell v (registers_at b j d) there)
    ∙ taken_is cell d v value (registers_at b j) came
