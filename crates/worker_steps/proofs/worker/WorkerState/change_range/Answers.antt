use Rattle.std.proofs.Common.{◌≡◌, ◌+◌, ◌*◌, map, sym, ap, subst, ◌∙◌, arith, Option, Some, None}
use Rattle.std.specs.List.{range_with_len}
use Rattle.pram_values.specs.declared.kind.Kind.{Kind}
use Rattle.pram_values.specs.declared.place.Place.TheVariants.{All}
use Rattle.superstep_machine.specs.declared.key.Key.{Key}
use Rattle.superstep_machine.specs.Keys.{least}
use Rattle.superstep_machine.specs.Parts.{UniformPart}
use Rattle.superstep_machine.specs.Results.{position_of}
use Rattle.superstep_machine.specs.Steps.{fault_at, on_uniform, uniform_key, wrong_uniform}
use Rattle.instruction_steps.specs.Views.{uniform_of}
use Rattle.worker_steps.specs.Done.{IsDone}
use Rattle.superstep_machine.proofs.KeyOrder.{none_least}
use Rattle.worker_steps.proofs.KindLemmas.{fault_kept, renewal_works}
use Rattle.worker_steps.proofs.RangeLemmas.{range_is, room_for, none_held, done_range}
use Rattle.worker_steps.proofs.worker.WorkerState.change_range.Goals as goal
use Rattle.worker_steps.proofs.worker.WorkerState.change_range.Goals.{After-enter}

pub enter-requires-clause-room : goal.enter-requires-clause-room
enter-requires-clause-room c =
    let code = c.args.code.now in
    let u = uniform_of c.args.self.now.uniform in
    let narrow = (range_is code c.args.instr c.requires.renews).narrow u in
    let width : c.change_range-wrong.new.u.width ≡ (on_uniform code c.args.instr u).width =
    ap (λ (x : UniformPart). x.width) c.change_range-wrong.ensures.after in
    room_for code c.args.self.now c.change_range-wrong.new.u.width c.how_many-many.result c.requires.fitted (omega (arith, narrow, width))
    c.how_many-many.ensures

-- the range is changed, with any key that is the least
done : (c : After-enter) (key : Option Key) →
    key ≡ least c.args.self.now.key (uniform_key c.args.code.now c.args.instr (uniform_of c.args.self.now.uniform)) →
    IsDone c.args.code.now c.args.instr c.args.self.now
    (record c.args.self.now { uniform = c.change_range-wrong.new.u; bank = c.enter.new.self; key = key })
done c key noted =
    let a = c.args.self.now in
    let held = none_held c.args.code.now c.args.instr a c.requires.renews c.requires.met in
    done_range c.args.code.now c.args.instr a c.change_range-wrong.new.u c.enter.new.self key c.requires.renews c.requires.fitted
    (record {
      uniform = c.change_range-wrong.ensures.after;
      key_is = noted;
      parts = c.enter.ensures.parts;
      range = λ t e. c.how_many-many.ensures t e
          ∙ ap (λ n. map (λ j. a.bank.worker + a.bank.workers * j) (range_with_len 0 n)) (sym c.enter.ensures.many);
      is = c.enter.ensures.bank;
      same = c.enter.ensures.same;
      depth = c.enter.ensures.depth;
      none = held.0;
      silent = held.1;
      reserve = c.change_range-wrong.ensures.reserve;
    })

pub returns-in-Some : goal.returns-in-Some
returns-in-Some c =
    let code = c.args.code.now in
    let i = c.args.instr in
    let a = c.args.self.now in
    let u = uniform_of a.uniform in
    let wrong : Some c.in-Some.kind ≡ wrong_uniform code i u = sym c.in-Some.is ∙ c.change_range-wrong.ensures.wrong in
    subst (λ x. IsDone code i a x) (sym c.note_shared.ensures)
    (done (goal.at.returns-in-Some c).After-enter _
    (ap (λ (x : UniformPart). least a.key (fault_at x (position_of i) All (Some c.in-Some.kind))) c.change_range-wrong.ensures.after
    ∙ ap (least a.key) (fault_kept code i (renewal_works i c.requires.renews) u (position_of i) All c.in-Some.kind)
    ∙ ap (λ (w : Option Kind). least a.key (fault_at u (position_of i) All w)) wrong))

pub returns-in_default : goal.returns-in_default
returns-in_default c =
    let code = c.args.code.now in
    let i = c.args.instr in
    let a = c.args.self.now in
    let u = uniform_of a.uniform in
    let wrong : None ≡ wrong_uniform code i u = sym c.in_default.is ∙ c.change_range-wrong.ensures.wrong in
    done (goal.at.returns-in_default c).After-enter a.key
    (sym (none_least a.key) ∙ ap (λ (w : Option Kind). least a.key (fault_at u (position_of i) All w)) wrong)
