use Rattle.std.proofs.Common.{sym, ap, ◌∙◌, ◌+◌, ◌^◌, arith, rules, get_or, length, FitsSigned}
use Rattle.std.specs.Int.{w64}
use Rattle.std.proofs.lemmas.Int.{to_z-of_z}
use Rattle.superstep_machine.specs.Parts.{set_register}
use Rattle.superstep_machine.specs.Fitting.{IsCellBelow}
use Rattle.instruction_steps.specs.Views.{registers_of}
use Rattle.instruction_steps.specs.declared.read.Read.{Read}
use Rattle.worker_exchange.specs.Equipped.{HasPlace}
use Rattle.worker_exchange.proofs.AnswerLemmas.{no_read, uniform_left, uniform_goes, uniform_ends, came_there, none_there}
use Rattle.worker_exchange.proofs.AnswerLemmas.{each_of, cell_small}
use Rattle.worker_exchange.proofs.answering.answer_uniform.Goals.{in-Some, in_default}
use Rattle.worker_exchange.proofs.answering.answer_uniform.Goals as goal

pub reads-preserved : goal.reads-preserved
reads-preserved c =
    let reads = c.args.awaited.now in
    let k = c.reads.k in
    let before = c.reads.invariant in
    let read = get_or reads k no_read in
    elim c.match-read.branch [
      | in-Some w ↦ (let fits : FitsSigned w64 w.value.result = search rules in record {
        answered = λ value gives.
            ap (λ rs. uniform_left value reads (k + 1) (registers_of rs)) w.registers-is
            ∙ ap (uniform_left value reads (k + 1))
            (w.put_number.ensures.value
            ∙ ap (λ z. set_register read.destination z (registers_of c.reads.registers))
            (to_z-of_z w64 w.value.result fits)
            ∙ came_there value c.args.sent.now.held gives k read.destination w.in-Some.cell read.cell w.value.result
            (registers_of c.reads.registers) w.in-Some.is
            (cell_small (2 ^ 20) read.cell w.in-Some.cell
            (each_of (λ (r : Read). IsCellBelow (2 ^ 20) r.cell) reads c.requires.cells k no_read c.reads-test.true)
            w.in-Some.is) w.value.ensures.value)
            ∙ sym (uniform_goes value reads k no_read (registers_of c.reads.registers) c.reads-test.true)
            ∙ before.answered value gives;
        count = c.match-read.auto.registers ∙ before.count;
      })
      | in_default w ↦ (record {
        answered = λ value gives.
            ap (λ rs. uniform_left value reads (k + 1) (registers_of rs)) w.registers-is
            ∙ ap (uniform_left value reads (k + 1)) (none_there value k _ _ (registers_of c.reads.registers) w.in_default.not-Some)
            ∙ sym (uniform_goes value reads k no_read (registers_of c.reads.registers) c.reads-test.true)
            ∙ before.answered value gives;
        count = c.match-read.auto.registers ∙ before.count;
      })
    ]

pub returns-clause-answered : goal.returns-clause-answered
returns-clause-answered c = λ value gives.
    let off = c.reads-test.false in
    sym (uniform_ends value c.args.awaited.now c.reads.k (registers_of c.reads.registers) (omega (arith, off)))
    ∙ c.reads.invariant.answered value gives

pub put_number-requires : goal.put_number-requires
put_number-requires c =
    let reads = c.args.awaited.now in
    let place = each_of (HasPlace (length c.args.registers.now)) reads c.requires.places c.reads.k no_read c.reads-test.true
    c.in-Some.cell c.in-Some.is in
    let count = c.reads.invariant.count in
    omega (arith, place, count)
