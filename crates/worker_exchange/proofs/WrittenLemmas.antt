-- What a worker holds can be written, and are the puts and the asks of the machine's message.
use Rattle.std.proofs.Common.{◌≡◌, ℕ, ◌*◌, ◌^◌, ◌+◌, ◌-◌, ◌<◌, List, [], ◌∷◌, ◌++◌, map, length, refl, sym, ap, subst, ◌∙◌, arith}
use Rattle.std.proofs.Common.{append-nil, eqb}
use Rattle.std.specs.List.{AllByRecursion, filter, flat_map}
use Rattle.std.proofs.Math.Nat.{div-le_self}
use Rattle.pram_model.specs.declared.rule.Rule.{Rule}
use Rattle.pram_model.specs.declared.rule.Rule.TheVariants.{Sum}
use Rattle.superstep_instructions.specs.Limits.{IsCode}
use Rattle.superstep_machine.specs.Setting.{Setting, workers}
use Rattle.superstep_machine.specs.Words.{CellAsk, put_words, ask_words, words}
use Rattle.superstep_machine.specs.Worker.{Worker}
use Rattle.superstep_machine.specs.Fitting.{FitsPut, FitsWorker}
use Rattle.superstep_machine.specs.Sending.{puts_held, asks_held, sent}
use Rattle.bsp_verify.proofs.WorkerLemmas.{one_side}
use Rattle.flat_machine.specs.Flatness.{IsMapFor}
use Rattle.machine_limits.specs.Within.{words_for_each, share}
use Rattle.machine_limits.proofs.Messages.{fits_worker, sent_message}
use Rattle.combining.specs.Held.{puts_for, IsPutBelow}
use Rattle.combining.specs.Asked.{HeldAsk, asks_for, IsAskBelow}
use Rattle.combining.specs.Adding.{asked_by, unanswered}
use Rattle.combining.proofs.MachinePuts.{held_is_machines}
use Rattle.combining.proofs.MachineAsks.{added_fit, fitting_are_machines, stay_below}
use Rattle.combining.proofs.HeldFits.{held_fits}
use Rattle.combining.proofs.ByTheRule.{held_below}
use Rattle.combining.specs.AllModules.{room_at}
use Rattle.worker_steps.specs.declared.worker.WorkerState.{WorkerState}
use Rattle.worker_steps.specs.Shown.{Shows}
use Rattle.worker_exchange.specs.Sends.{send_words, CanBeWritten}
use Rattle.worker_exchange.proofs.ReachedLemmas.{IsPathed}

-- an ask alone
asks_alone : (xs : List CellAsk) → map (λ (x : HeldAsk). x.ask) (map unanswered xs) ≡ xs
asks_alone [] = refl
asks_alone (x ∷ xs) = ap (λ ys. x ∷ ys) (asks_alone xs)

-- no more than 12 words for each of the most processors
pub words_small : (rule : Rule) (n : ℕ) → n < 2 ^ 20 → words_for_each rule * n < 2 ^ 32
words_small Sum n h = omega (arith, h)
words_small rule n h = omega (arith, h)

pub share_small : (t : Setting) → IsCode t.code → IsMapFor t.code t.map → share t < 2 ^ 20
share_small t code room =
    let b = div-le_self (t.code.procs + (workers t - 1)) (workers t) in
    let few = room.lawful.few in
    let procs = code.few_procs in
    omega (arith, b, few, procs)

module _ (t : Setting) (code : IsCode t.code) (room : IsMapFor t.code t.map) (w : ℕ) (l : w < workers t) (x : WorkerState) (y : Worker)
    (p : IsPathed t w y) (shows : Shows t.code.rule x y) where
  pub fits : FitsWorker t y
  fits = fits_worker t code room w l y p.kept (let a = p.describes.asks in let b = p.within.asks in omega (arith, a, b))

  pub puts_are : x.puts.held ≡ puts_held t.code.rule y
  puts_are = sym shows.puts ∙ held_is_machines t.code.rule y.held

  pub asks_are : x.asks.held ≡ map unanswered (asks_held y)
  asks_are = sym shows.asks ∙ fitting_are_machines t y fits (one_side t w p.state y p.describes)

  pub asks_to : (j : ℕ) → asks_for t.map.part j x.asks.held ≡ (sent t y j).asks
  asks_to j =
      ap (λ held. asks_for t.map.part j held) asks_are
      ∙ ap (λ (xs : List CellAsk). filter (λ (a : CellAsk). eqb (t.map.part a.cell) j) xs) (asks_alone (asks_held y))

  pub puts_to : (j : ℕ) → puts_for t.map.part j x.puts.held ≡ (sent t y j).puts
  puts_to j = ap (puts_for t.map.part j) puts_are

  pub words_are : (j : ℕ) → send_words t.code.rule t.map x.puts.held x.asks.held j ≡ words t.code.rule (sent t y j)
  words_are j =
      (λ i. flat_map (put_words t.code.rule) (puts_to j i) ++ ask_words (asks_to j i))
      ∙ ap (λ ws. flat_map (put_words t.code.rule) (sent t y j).puts ++ ws) (sym (append-nil (ask_words (sent t y j).asks)))

  pub can_be_written : (rooms : List ℕ) → length rooms ≡ t.map.parts →
      ((j : ℕ) → j < t.map.parts → room_at rooms j ≡ words_for_each t.code.rule * share t) →
      CanBeWritten t.code.rule t.map rooms x.puts.held x.asks.held
  can_be_written rooms count each = record {
    count = count;
    puts_below = subst (AllByRecursion (IsPutBelow t.map.count)) shows.puts (held_below t.code.rule t.map.count y.held [] fits.written tt);
    puts_fit = subst (AllByRecursion (FitsPut t.code.rule)) shows.puts (held_fits t.code.rule y.held [] fits.writes tt);
    asks_below = subst (AllByRecursion (IsAskBelow t.map.count)) shows.asks
        (stay_below t.map.count (asked_by y) [] (seconds (asked_by y) (added_fit t y fits)) tt);
    short = λ j b.
        let a = ap length (words_are j) in
        let c = (sent_message t code room w l y p.kept p.state p.describes p.within j).short in
        let d = each j b in omega (arith, a, c, d);
    few = λ j b.
        let d = each j b in
        let e = words_small t.code.rule (share t) (share_small t code room) in omega (arith, d, e);
  }
    where
      seconds : (asks : List (ℕ × ℕ)) → AllByRecursion (λ (a : ℕ × ℕ). (a.0 < 2 ^ 3) × (a.1 < t.map.count)) asks →
          AllByRecursion (λ (a : ℕ × ℕ). a.1 < t.map.count) asks
      seconds [] h = tt
      seconds (a ∷ asks) h = (h.0.1, seconds asks h.1)
