use Rattle.std.proofs.Common.{◌≡◌, ◌<◌, length, sym, ap, ◌∙◌, arith, [], ℕ, Option, subst, refl}
use Rattle.std.specs.Vec.{with_items}
use Rattle.std.proofs.lemmas.List.{with_items_is}
use Rattle.pram_values.specs.declared.kind.Kind.{Kind}
use Rattle.superstep_instructions.specs.declared.instr.Side.TheVariants.{Private}
use Rattle.superstep_instructions.specs.declared.instr.Instr.TheVariants.{Put}
use Rattle.superstep_machine.specs.Keys.{least}
use Rattle.superstep_machine.specs.Parts.{Registers, PrivatePart}
use Rattle.instruction_steps.specs.Views.{uniform_of}
use Rattle.combining.specs.Held.{held_after}
use Rattle.worker_bank.specs.Bank.{part_at, number_of, registers_at, IsFirstFault}
use Rattle.worker_bank.specs.Columns.{value_of}
use Rattle.worker_steps.specs.Held.{writes_of}
use Rattle.worker_steps.proofs.DoneLemmas.{key_same, same_on}
use Rattle.worker_steps.proofs.PutDone.{put_keeps, own_made_are, after_freshen, done_put}
use Rattle.worker_steps.proofs.worker.WorkerState.put_private.Goals as goal

pub own_key-noted-requires-clause-there : goal.own_key-noted-requires-clause-there
own_key-noted-requires-clause-there g c = λ j kind e.
    let a = c.args.self.now in
    let first = (subst (λ (f : Option (ℕ × Kind)). IsFirstFault c.args.code.now
    (Put Private c.args.entry c.args.subscript c.args.value 0) a.bank f) e
    (c.put-fault.ensures.fault c.args.code.now c.args.value 0 (sym c.layout.ensures.value))) [] [] in
    let l : j < a.bank.masks.many = first.0 in
    subst (λ m. j < m.many) (sym c.put-fault.ensures.masks) l

pub returns-clause-done : goal.returns-clause-done
returns-clause-done g c =
    let a = c.args.self.now in
    let code = c.args.code.now in
    let entry = c.args.entry in
    let s = c.args.subscript in
    let v = c.args.value in
    let q = c.args.position in
    let u = uniform_of a.uniform in
    let put = c.put-fault.ensures in
    let layout = sym c.layout.ensures.value in
    let same = same_on a.bank c.put-fault.new.self c.freshen.new.self put.same c.freshen.ensures.same in
    let many : c.put-fault.new.self.masks.many ≡ a.bank.masks.many = ap (λ m. m.many) put.masks in
    let masks = c.freshen.ensures.masks ∙ put.masks in
    let is : (with_items a.written c.put-fault.new.cells).items ≡ c.put-fault.new.cells =
    with_items_is a.written c.put-fault.new.cells (put.room ∙ c.as_mut_slice.ensures.len) in
    let slice : c.as_slice.result.now ≡ c.put-fault.new.cells = c.as_slice.ensures.value ∙ is in
    let value : (j : ℕ) → j < a.bank.masks.many → value_of c.values_of.result.now j ≡ registers_at a.bank j v =
    λ j l. c.values_of.ensures.each j ∙ ap (λ (r : Registers). r v) (c.freshen.ensures.registers j (omega (arith, l, many)))
    ∙ ap (λ (x : PrivatePart). x.registers v) (put.after code u v q [] [] j l
    ∙ put_keeps code Private entry s v q u (number_of a.bank j) (part_at a.bank [] [] j)) in
    done_put code a c.step_uniform.new.u c.freshen.new.self (with_items a.written c.put-fault.new.cells) c.hold_writes.new.puts
    c.least-key.result c.put-fault.result Private entry s v q
    (writes_of u c.freshen.new.self c.put-fault.new.cells c.values_of.result.now c.freshen.new.self.masks.many)
    c.requires.fitted c.in_ok-step_uniform.ensures.after c.in_ok-step_uniform.ensures.reserve
    (after_freshen code (Put Private entry s v q) u a.bank c.put-fault.new.self c.freshen.new.self (put.after code u v q) many
    c.freshen.ensures.registers c.freshen.ensures.masks)
    (put.fault code v q layout) c.freshen.ensures.bank masks same (ap length is ∙ put.room ∙ ap length c.as_mut_slice.ensures.value)
    (c.least-key.ensures ∙ ap (least a.key) (c.own_key-noted.ensures (Put Private entry s v q) refl
    ∙ key_same (Put Private entry s v q) u a.bank c.put-fault.new.self put.same c.put-fault.result))
    (own_made_are code a c.freshen.new.self c.put-fault.new.cells c.values_of.result.now entry s v q same
    (ap (λ m. m.many) masks) (λ xs ys j l. put.written code v q xs ys j layout l) value)
    (c.hold_writes.ensures.held
    ∙ ap (λ xs. held_after (g.R.WriteRule.rule c.args.rule.now) (writes_of u c.freshen.new.self c.as_slice.result.now c.values_of.result.now
    c.freshen.new.self.masks.many) xs) c.clear.ensures.none
    ∙ ap (λ cells. held_after (g.R.WriteRule.rule c.args.rule.now) (writes_of u c.freshen.new.self cells c.values_of.result.now
    c.freshen.new.self.masks.many) []) slice
    ∙ ap (λ r. held_after r (writes_of u c.freshen.new.self c.put-fault.new.cells c.values_of.result.now
    c.freshen.new.self.masks.many) []) c.requires.rule)
    (c.hold_writes.ensures.room ∙ c.clear.ensures.room)
