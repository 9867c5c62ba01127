use Rattle.std.proofs.Common.{length, sym, ap, ◌∙◌, arith, ◌∷◌, []}
use Rattle.std.proofs.Common.{rules, w64, to_z, of_z, FitsSigned}
use Rattle.std.proofs.lemmas.Int.{to_z-of_z}
use Rattle.pram_model.specs.Layout.{cell_of}
use Rattle.superstep_instructions.specs.declared.instr.Side.TheVariants.{Uniform}
use Rattle.superstep_instructions.specs.declared.instr.Instr.TheVariants.{Ask}
use Rattle.superstep_machine.specs.Keys.{least}
use Rattle.instruction_steps.specs.Views.{registers_of}
use Rattle.combining.specs.Adding.{by_read, asked_after}
use Rattle.worker_steps.proofs.KindLemmas.{uniform_places}
use Rattle.worker_steps.proofs.AskDone.{room_left, few_reads, cell_small, done_ask_uniform}
use Rattle.worker_steps.proofs.worker.WorkerState.ask_uniform.Goals as goal

pub hold_ask-requires-clause-below : goal.hold_ask-requires-clause-below
hold_ask-requires-clause-below c = λ cell e.
    cell_small c.layout-layout.result.now c.args.entry (to_z w64 (of_z w64 c.register.result)) cell c.cells-cells.result
    (sym c.cell-cell.ensures ∙ e)
    c.cells-cells.ensures.total c.cells-cells.ensures.most

pub hold_ask-requires-clause-room : goal.hold_ask-requires-clause-room
hold_ask-requires-clause-room c =
    let a = c.args.self.now in
    let f = c.requires.fitted in
    let l = room_left (length a.uniform.asks.items) a.bank.masks.most (length a.asks.held) a.asks.room 1
    (few_reads c.args.code.now a Uniform c.args.destination c.args.entry c.args.subscript c.args.position c.requires.met)
    f.held f.asks (omega arith) in
    omega (arith, l)

pub returns-clause-done : goal.returns-clause-done
returns-clause-done c =
    let a = c.args.self.now in
    let e = c.len-ordinal.ensures.value in
    let fits : FitsSigned w64 c.register.result = search rules in
    let cell = c.cell-cell.ensures
    ∙ ap (λ z. cell_of c.layout-layout.result.now c.args.entry z) (to_z-of_z w64 c.register.result fits)
    ∙ (λ i. cell_of (c.layout-layout.ensures.value i) c.args.entry (c.register.ensures i))
    ∙ ap (λ xs. cell_of c.args.code.now.layout c.args.entry (registers_of xs c.args.subscript)) c.deref.ensures.value in
    done_ask_uniform c.args.code.now a c.step_uniform.new.u c.hold_ask.new.asks c.least-key.result c.args.destination c.args.entry
    c.args.subscript c.args.position c.requires.fitted c.in_ok-step_uniform.ensures.after c.requires.met
    (c.least-key.ensures ∙ ap (least a.key) c.uniform_key-noted.ensures)
    (c.hold_ask.ensures.held ∙ ap (λ n. asked_after (by_read n (c.cell-cell.result ∷ [])) a.asks.held) e
    ∙ ap (λ x. asked_after (by_read (length a.uniform.asks.items) (x ∷ [])) a.asks.held) cell)
    c.hold_ask.ensures.few c.hold_ask.ensures.room c.in_ok-step_uniform.ensures.reserve

pub step_uniform-requires-clause-places : goal.step_uniform-requires-clause-places
step_uniform-requires-clause-places c =
    uniform_places c.args.code.now (length c.args.self.now.uniform.registers.items)
    (Ask Uniform c.args.destination c.args.entry c.args.subscript c.args.position)
    c.requires.fitted.places c.requires.met.allowed.registers
