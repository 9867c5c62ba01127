use Rattle.std.proofs.Common.{◌≡◌, ℕ, ◌≤◌, ◌+◌, ◌-◌, ◌*◌, ◌/◌, pos, length, map, sym, ap, subst, ◌∙◌, arith, refl}
use Rattle.std.specs.Prelude.{slice_index_or}
use Rattle.std.specs.List.{AllByRecursion, range_with_len}
use Rattle.superstep_machine.specs.Run.{setting, opening}
use Rattle.superstep_machine.specs.Setting.{workers, processors}
use Rattle.machine_limits.specs.Within.{words_for_each}
use Rattle.machine_limits.proofs.Shares.{few_processors}
use Rattle.combining.specs.Asked.{IsAskBelow}
use Rattle.worker_exchange.specs.declared.local.Local.{Local}
use Rattle.worker_exchange.specs.declared.way.Way.TheVariants as ways
use Rattle.superstep_machine.specs.declared.purpose.Purpose.TheVariants as purposes
use Rattle.worker_exchange.specs.Shown.{IsShown}
use Rattle.worker_exchange.specs.Equipped.{IsEquipped, HaveRoom, AreBuffers, most_words}
use Rattle.worker_exchange.proofs.OpeningLemmas.{opens, may_open}
use Rattle.worker_exchange.proofs.opening.open.Goals as goal

pub returns-clause-shown : goal.returns-clause-shown
returns-clause-shown g c = λ bound n.
    let code = c.args.code.now in
    let m = g.M.AddressMap.shape c.args.map.now in
    let x : Local = record {
      steps = c.in_ok-steps.steps;
      cells = c.in_ok-cells.cells;
      sent = c.in_ok-sent.sent;
      asked = c.in_ok-room.room.asked;
      buffers = c.in_ok-room.room.buffers;
      values = c.in_ok-room.room.values;
      way = ways.On;
      purpose = purposes.Close;
    } in
    let here : x.steps.bank.worker ≡ c.args.worker = c.in_ok-steps.ensures.worker.0 in
    subst (λ w. IsShown (setting code m bound n) w x (opening (setting code m bound n) c.args.input.now w)) here
    (opens code m c.args.input.now x c.in_ok-cells.ensures.fit refl c.in_ok-steps.ensures.place (c.in_ok-steps.ensures.shows code.rule)
    (c.in_ok-cells.ensures.values
    ∙ ap (λ w. map (λ k. slice_index_or c.args.input.now k (pos 0)) (map (m.cell w) (range_with_len 0 (m.width w)))) (sym here))
    c.in_ok-sent.ensures.ok.0 c.in_ok-room.ensures.empty bound n)

pub returns-clause-going : goal.returns-clause-going
returns-clause-going g c = λ bound runnable.
    let code = c.args.code.now in
    let m = g.M.AddressMap.shape c.args.map.now in
    let x : Local = record {
      steps = c.in_ok-steps.steps;
      cells = c.in_ok-cells.cells;
      sent = c.in_ok-sent.sent;
      asked = c.in_ok-room.room.asked;
      buffers = c.in_ok-room.room.buffers;
      values = c.in_ok-room.room.values;
      way = ways.On;
      purpose = purposes.Close;
    } in
    let here : x.steps.bank.worker ≡ c.args.worker = c.in_ok-steps.ensures.worker.0 in
    let many : x.steps.bank.workers ≡ m.parts = c.in_ok-steps.ensures.worker.1 ∙ c.modules-workers.ensures in
    let same : c.words_for_each.result * ((c.procs.result + (c.modules-workers.result - 1)) / c.modules-workers.result) ≡
    most_words code m =
    λ i. (c.words_for_each.ensures ∙ ap words_for_each c.rule.ensures.value) i
    * ((c.procs.ensures.value i + (c.modules-workers.ensures i - 1)) / c.modules-workers.ensures i) in
    let low = c.requires.worker in
    let equipped : IsEquipped code m x = record {
      fitted = c.in_ok-steps.ensures.fitted code (sym c.uniform_registers.ensures.value) (sym c.private_registers.ensures.value) (λ t q.
          let n : workers t ≡ m.parts = q ∙ c.modules-workers.ensures in
          let h = few_processors (record t { code = code }) c.args.worker code.procs (omega (arith, low, n)) (omega arith) in
          subst (λ (s : ℕ × ℕ). length (processors t c.args.worker code.procs) ≤ (s.0 + (s.1 - 1)) / s.1)
          (λ i. (sym c.procs.ensures.value i, q i)) h);
      workers = many;
      sent = (let room = c.in_ok-sent.ensures.ok.1 in let most = c.in_ok-steps.ensures.most in omega (arith, room, most));
      cells = c.in_ok-cells.ensures.long ∙ ap m.width (sym here);
      asked = subst (λ (s : ℕ × ℕ). HaveRoom s.0 s.1 x.asked.items) (λ i. (c.modules-workers.ensures i, same i)) c.in_ok-room.ensures.asked;
      few = λ j. let none = ap length (c.in_ok-room.ensures.empty j) in omega (arith, none);
      buffers = subst (λ (s : ℕ × ℕ). AreBuffers s.0 s.1 x.buffers) (λ i. (c.modules-workers.ensures i, same i))
          c.in_ok-room.ensures.buffers;
      values = (let n = c.in_ok-room.ensures.values in let most = c.in_ok-steps.ensures.most in omega (arith, n, most));
      below = subst (AllByRecursion (IsAskBelow m.count)) (sym c.in_ok-sent.ensures.ok.0) tt;
    } in
    may_open code m c.args.input.now x c.in_ok-cells.ensures.fit refl c.in_ok-steps.ensures.place (c.in_ok-steps.ensures.shows code.rule)
    (c.in_ok-cells.ensures.values
    ∙ ap (λ w. map (λ k. slice_index_or c.args.input.now k (pos 0)) (map (m.cell w) (range_with_len 0 (m.width w)))) (sym here))
    c.in_ok-sent.ensures.ok.0 c.in_ok-room.ensures.empty bound runnable equipped (c.in_ok-steps.ensures.verified code)
