use Rattle.std.proofs.Common.{◌≡◌, ◌<◌, ◌∙◌, ap, subst, sym, arith, length, List, ℤ, Vec, Global}
use Rattle.std.proofs.lemmas.List.{with_items_is}
use Rattle.superstep_machine.specs.Parts.{set_register}
use Rattle.superstep_machine.specs.Answering.{answer}
use Rattle.worker_bank.specs.declared.masks.Masks.{Masks}
use Rattle.worker_bank.specs.Columns.{value_of}
use Rattle.worker_bank.specs.Bank.{registers_at}
use Rattle.worker_bank.specs.Cells.{cell_in, taken}
use Rattle.worker_bank.proofs.LevelLemmas.{read_is}
use Rattle.worker_bank.proofs.BankLemmas.{fresh_column_set, fresh_value}
use Rattle.worker_bank.proofs.NamingLemmas.{taken_is}
use Rattle.worker_bank.proofs.bank.Bank.answer.Goals as goal

pub returns-clause-answered : goal.returns-clause-answered
returns-clause-answered c value j l came =
    let b = c.freshen.new.self in
    let d = c.args.destination in
    let h = c.freshen.ensures.bank in
    let fresh = c.freshen.ensures.fresh in
    let many = h.masks.many in
    let below : j < b.masks.many = subst (λ (x : Masks). j < x.many) (sym c.freshen.ensures.masks) l in
    let here : d < length b.columns.items = (let n = c.freshen.ensures.same.columns in let s = c.requires.target in omega arith) in
    let room : j < length c.as_mut_slice.result.now =
    (let s = ap length c.as_mut_slice.ensures.value in let p = h.spare in omega arith) in
    let new = c.take_values.new.target in
    let cell = cell_in c.args.cells.now j in
    let is : c.swap.new.y.items ≡ new =
    ap (λ (v : Vec ℤ Global). v.items) c.swap.ensures.y_after
    ∙ with_items_is b.spare new (c.take_values.ensures.count ∙ c.as_mut_slice.ensures.len) in
    let source : value_of c.as_slice.result.now j ≡ registers_at b j d =
    ap (λ (zs : List ℤ). value_of zs j) (c.as_slice.ensures.value
    ∙ read_is (λ (x : Vec ℤ Global). x.items) b.columns.items d c.index.result.now here c.index.ensures)
    ∙ fresh_value b d j fresh in
    fresh_column_set b d c.swap.new.y c.swap.new.x fresh here j
    ∙ ap (λ x. set_register d x (registers_at b j)) (ap (λ (zs : List ℤ). value_of zs j) is ∙ c.take_values.ensures.each j room
    ∙ ap (taken cell (value_of c.args.values.now j)) source)
    ∙ taken_is cell d (value_of c.args.values.now j) value (registers_at b j) came
    ∙ ap (answer value d cell) (c.freshen.ensures.registers j l)
