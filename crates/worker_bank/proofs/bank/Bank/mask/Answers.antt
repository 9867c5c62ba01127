use Rattle.std.proofs.Common.{◌≡◌, ◌<◌, ◌∙◌, ap, sym, subst, ℤ, List, ◌∷◌, ◌&&◌, Vec, Global, arith}
use Rattle.pram_values.specs.Truth.{is_nonzero}
use Rattle.superstep_machine.specs.Steps.{under}
use Rattle.worker_bank.specs.declared.masks.Masks.{Masks}
use Rattle.worker_bank.specs.Columns.{value_of}
use Rattle.worker_bank.specs.Masks.{masks_of}
use Rattle.worker_bank.specs.Bank.{registers_at}
use Rattle.worker_bank.proofs.LevelLemmas.{read_is}
use Rattle.worker_bank.proofs.BankLemmas.{fresh_value}
use Rattle.worker_bank.proofs.bank.Bank.mask.Goals as goal

pub returns-clause-after : goal.returns-clause-after
returns-clause-after c code u asks awaited j l =
    let a = c.args.self.now in
    let b = c.freshen.new.self in
    let m = c.freshen.ensures.masks in
    let same = c.freshen.ensures.registers j l in
    let column : value_of c.as_slice.result.now j ≡ registers_at a j c.args.source =
    ap (λ (xs : List ℤ). value_of xs j) (c.as_slice.ensures.value
    ∙ read_is (λ (x : Vec ℤ Global). x.items) b.columns.items c.args.source c.index.result.now
    (let n = c.freshen.ensures.same.columns in let s = c.requires.source in omega arith) c.index.ensures)
    ∙ fresh_value b c.args.source j c.freshen.ensures.fresh
    ∙ ap (λ registers. registers c.args.source) same in
    let masks = c.mask.ensures.each j (subst (λ (x : Masks). j < x.many) (sym m) l)
    ∙ (λ i. (under (masks_of (m i) j) && is_nonzero (column i)) ∷ masks_of (m i) j) in
    λ i. record { registers = same i; masks = masks i; asks = asks; awaited = awaited }
