use Rattle.std.proofs.Common.{◌<◌, ◌≡◌, ◌+◌, ◌^◌, length, get_or, ℕ, Option, Vec, sym, ap, subst, ◌∙◌, arith}
use Rattle.std.specs.Global.{Global}
use Rattle.superstep_machine.specs.Answering.{answer}
use Rattle.superstep_machine.specs.Fitting.{IsCellBelow}
use Rattle.worker_bank.specs.declared.masks.Masks.{Masks}
use Rattle.worker_bank.specs.Bank.{registers_at}
use Rattle.worker_bank.specs.Cells.{cell_in}
use Rattle.worker_exchange.proofs.AnswerLemmas.{no_read, own_left, own_goes, own_ends, own_small, cell_small}
use Rattle.worker_exchange.proofs.answering.answer_own.Goals as goal

pub answer_read-likely-requires-clause-below : goal.answer_read-likely-requires-clause-below
answer_read-likely-requires-clause-below c = λ j cell l e.
    let reads = c.args.awaited.now in
    let columns = c.args.columns.now in
    let k = c.reads.k in
    let v = c.index-columns-k.result in
    let here : j < c.reads.bank.masks.many = l in
    let within : j < c.args.bank.now.masks.many = subst (λ (m : Masks). j < m.many) c.reads.invariant.masks here in
    let few = c.requires.few in
    let eight = c.requires.columns.count in
    let is = c.as_slice.ensures.value ∙ ap (λ (q : Vec (Option ℕ) Global). q.items) c.index-columns-k.is in
    cell_small (2 ^ 20) (cell_in c.as_slice.result.now j) cell
    (subst (λ cells. IsCellBelow (2 ^ 20) (cell_in cells j)) (sym is)
    (own_small (2 ^ 20) (length reads) columns j k v c.reads-test.true (omega (arith, few, eight)) (c.requires.below j within))) e

pub reads-preserved : goal.reads-preserved
reads-preserved c =
    let before = c.reads.invariant in
    let done = c.answer_read-likely.ensures in
    let reads = c.args.awaited.now in
    let columns = c.args.columns.now in
    let k = c.reads.k in
    let v = c.index-columns-k.result in
    let few = c.requires.few in
    let eight = c.requires.columns.count in
    let is = c.as_slice.ensures.value ∙ ap (λ (q : Vec (Option ℕ) Global). q.items) c.index-columns-k.is in
    record {
      answered = λ value j gives l.
          let here : j < c.reads.bank.masks.many = subst (λ (m : Masks). j < m.many) (sym before.masks) l in
          let destination = (get_or reads k no_read).destination in
          let answered : registers_at c.answer_read-likely.new.bank j
          ≡ answer (value k) destination (cell_in c.as_slice.result.now j) (registers_at c.reads.bank j) =
          done.answered value j gives here in
          ap (own_left value reads columns j (k + 1))
          (answered ∙ ap (λ cells. answer (value k) destination (cell_in cells j) (registers_at c.reads.bank j)) is)
          ∙ sym (own_goes value reads columns j k no_read v (registers_at c.reads.bank j) c.reads-test.true (omega (arith, few, eight)))
          ∙ before.answered value j gives l;
      bank = done.bank;
      masks = done.masks ∙ before.masks;
      same = record {
        columns = done.same.columns ∙ before.same.columns;
        worker = done.same.worker ∙ before.same.worker;
        workers = done.same.workers ∙ before.same.workers;
        most = done.same.most ∙ before.same.most;
        levels = done.same.levels ∙ before.same.levels;
      };
      count = done.count ∙ before.count;
    }

pub returns-clause-answered : goal.returns-clause-answered
returns-clause-answered c = λ value j gives l.
    let off = c.reads-test.false in
    sym (own_ends value c.args.awaited.now c.args.columns.now j c.reads.k (registers_at c.reads.bank j) (omega (arith, off)))
    ∙ c.reads.invariant.answered value j gives l
