use Rattle.std.proofs.Common.{◌≡◌, ◌<◌, length, sym, ap, ◌∙◌, arith, ◌∷◌, [], ℕ, List, Option, Vec, Global, subst, refl, ◌++◌}
use Rattle.std.specs.Vec.{with_items, with_item}
use Rattle.std.proofs.lemmas.List.{with_items_is}
use Rattle.pram_values.specs.declared.kind.Kind.{Kind}
use Rattle.superstep_instructions.specs.declared.instr.Side.TheVariants.{Private}
use Rattle.superstep_instructions.specs.declared.instr.Instr.TheVariants.{Ask}
use Rattle.superstep_machine.specs.Keys.{least}
use Rattle.instruction_steps.specs.Views.{uniform_of}
use Rattle.worker_bank.specs.Bank.{part_at, number_of, IsFirstFault}
use Rattle.superstep_machine.specs.Steps.{on_own}
use Rattle.worker_bank.specs.Cells.{cell_in}
use Rattle.worker_bank.proofs.LevelLemmas.{all_get}
use Rattle.combining.specs.Adding.{by_read, asked_after}
use Rattle.worker_steps.specs.Held.{cells_of}
use Rattle.worker_steps.specs.Done.{IsDone}
use Rattle.worker_steps.proofs.KindLemmas.{uniform_places}
use Rattle.worker_steps.proofs.AskDone.{few_reads, own_cell_small, done_ask_private}
use Rattle.worker_steps.proofs.worker.WorkerState.ask_private.Goals as goal
use Rattle.worker_steps.proofs.worker.WorkerState.ask_private.Goals.{After-as_slice}

-- the column that was named is as long as before
column_is : (c : After-as_slice) → c.as_slice.result.now ≡ c.ask-fault.new.cells
column_is c =
    c.as_slice.ensures.value
    ∙ with_items_is c.index_mut-column.result.now c.ask-fault.new.cells (c.ask-fault.ensures.room ∙ c.as_mut_slice.ensures.len)

pub hold_asks-requires-clause-below : goal.hold_asks-requires-clause-below
hold_asks-requires-clause-below c = λ j cell l e.
    let a = c.args.self.now in
    let same = ap (λ m. m.many) c.ask-fault.ensures.masks in
    own_cell_small c.args.code.now a c.args.destination c.args.entry c.args.subscript j cell c.cells-cells.result
    (cell_in c.ask-fault.new.cells j) c.ask-fault.new.self
    (c.ask-fault.ensures.after c.args.code.now (uniform_of a.uniform) 0 [] [] j (sym c.layout-layout.ensures.value)
    (omega (arith, l, same)))
    (ap (λ xs. cell_in xs j) (sym (column_is c)) ∙ e)
    (c.cells-cells.ensures.total ∙ ap Rattle.pram_model.specs.Layout.total_size c.layout-layout.ensures.value) c.cells-cells.ensures.most

pub own_key-noted-requires-clause-there : goal.own_key-noted-requires-clause-there
own_key-noted-requires-clause-there c = λ j kind e.
    let a = c.args.self.now in
    let first = (subst (λ (f : Option (ℕ × Kind)). IsFirstFault c.args.code.now
    (Ask Private c.args.destination c.args.entry c.args.subscript 0) a.bank f) e
    (c.ask-fault.ensures.fault c.args.code.now 0 (sym c.layout-layout.ensures.value))) [] [] in
    let l : j < a.bank.masks.many = first.0 in
    subst (λ m. j < m.many) (sym c.ask-fault.ensures.masks) l

pub returns-clause-done : goal.returns-clause-done
returns-clause-done c =
    let a = c.args.self.now in
    let code = c.args.code.now in
    let i = Ask Private c.args.destination c.args.entry c.args.subscript c.args.position in
    let old = c.index_mut-column.result.now in
    let cells = c.ask-fault.new.cells in
    let v = with_items old cells in
    let e : c.len-k.result ≡ length a.uniform.asks.items = c.len-k.ensures.value in
    let is : v.items ≡ cells = with_items_is old cells (c.ask-fault.ensures.room ∙ c.as_mut_slice.ensures.len) in
    let eight = c.requires.fitted.asked.count in
    let few = few_reads code a Private c.args.destination c.args.entry c.args.subscript c.args.position c.requires.met in
    let room : length old.items ≡ a.bank.masks.most =
    subst (λ (x : Vec (Option ℕ) Global). length x.items ≡ a.bank.masks.most) (sym c.index_mut-column.ensures.value)
    (all_get (λ (x : Vec (Option ℕ) Global). length x.items ≡ a.bank.masks.most) a.asked.items c.len-k.result old
    (omega (arith, eight, few, e)) c.requires.fitted.asked.long) in
    let column : c.as_slice.result.now ≡ v.items = c.as_slice.ensures.value in
    let k = c.own_key-noted.ensures i refl in
    subst (λ n. IsDone code i a (record a {
      uniform = c.step_uniform.new.u;
      bank = c.ask-fault.new.self;
      asked = with_item a.asked n v;
      asks = c.hold_asks.new.asks;
      key = c.least-key.result;
    })) (sym e)
    (done_ask_private code a c.step_uniform.new.u c.ask-fault.new.self v c.hold_asks.new.asks c.least-key.result c.ask-fault.result
    c.args.destination c.args.entry c.args.subscript c.args.position c.requires.fitted c.in_ok-step_uniform.ensures.after c.requires.met
    (λ xs ys j l. subst (λ (zs : List (Option ℕ)). part_at c.ask-fault.new.self (xs ++ cell_in zs j ∷ []) ys j
    ≡ on_own code i (uniform_of a.uniform) (number_of a.bank j) (part_at a.bank xs ys j)) (sym is)
    (c.ask-fault.ensures.after code (uniform_of a.uniform) c.args.position xs ys j (sym c.layout-layout.ensures.value) l))
    (c.ask-fault.ensures.fault code c.args.position (sym c.layout-layout.ensures.value)) c.ask-fault.ensures.bank c.ask-fault.ensures.masks
    c.ask-fault.ensures.same (ap length is ∙ c.ask-fault.ensures.room ∙ ap length c.as_mut_slice.ensures.value ∙ room)
    (c.least-key.ensures ∙ ap (least a.key) k)
    (c.hold_asks.ensures.held ∙ ap (λ n. asked_after (by_read n (cells_of c.as_slice.result.now c.ask-fault.new.self.masks.many))
    a.asks.held) e
    ∙ ap (λ xs. asked_after (by_read (length a.uniform.asks.items) (cells_of xs c.ask-fault.new.self.masks.many)) a.asks.held) column)
    c.hold_asks.ensures.few c.hold_asks.ensures.room c.in_ok-step_uniform.ensures.reserve)

pub step_uniform-requires-clause-places : goal.step_uniform-requires-clause-places
step_uniform-requires-clause-places c =
    uniform_places c.args.code.now (length c.args.self.now.uniform.registers.items)
    (Ask Private c.args.destination c.args.entry c.args.subscript c.args.position)
    c.requires.fitted.places c.requires.met.allowed.registers
