-- A worker before the first instruction.
use Rattle.std.proofs.Common.{◌≡◌, ℕ, suc, ◌+◌, ◌-◌, ◌*◌, ◌/◌, ◌^◌, ◌<◌, ◌≤◌, List, [], ◌∷◌, map, length, get_or, refl, sym, ap, subst, ◌∙◌}
use Rattle.std.proofs.Common.{arith, ℤ, pos, FitsSigned}
use Rattle.std.specs.Prelude.{slice_index_or}
use Rattle.std.specs.List.{range_with_len}
use Rattle.std.specs.Int.{w64}
use Rattle.std.proofs.lemmas.List.{ext_get_or}
use Rattle.std.proofs.lemmas.List.FromFn.{get_or-map-range_with_len, length-map-range_with_len}
use Rattle.std.proofs.Math.Nat.{div-le_self}
use Rattle.std.proofs.lemmas.Simd.{map-map}
use Rattle.pram_model.specs.declared.rule.Rule.{Rule}
use Rattle.pram_model.specs.declared.rule.Rule.TheVariants as rules_are
use Rattle.address_map.specs.Lawful.{Shape}
use Rattle.superstep_instructions.specs.Code.{SuperstepCode}
use Rattle.superstep_instructions.specs.Limits.{IsCode}
use Rattle.superstep_machine.specs.Parts.{UniformPart}
use Rattle.superstep_machine.specs.Run as machine
use Rattle.superstep_machine.specs.Run.{setting, opening}
use Rattle.machine_limits.specs.Within.{AreValues, words_for_each}
use Rattle.combining.specs.AllModules.{column}
use Rattle.worker_exchange.specs.Sends.{words_of}
use Rattle.worker_steps.specs.Met.{IsVerifiedAt}
use Rattle.worker_steps.specs.Shown.{Shows}
use Rattle.worker_exchange.specs.declared.way.Way.TheVariants as ways
use Rattle.worker_exchange.specs.declared.local.Local.{Local}
use Rattle.worker_exchange.specs.Reached.{most_instructions}
use Rattle.worker_exchange.specs.Shown.{way_is, cells_asked, IsShown}
use Rattle.worker_exchange.specs.Equipped.{IsEquipped, IsRunnable, MayGoOn, most_words}

-- a list by its items
pub cells_are : (f : ℕ → ℤ) (g : ℕ → ℕ) (n : ℕ) (xs : List ℤ) → length xs ≡ n → ((o : ℕ) → o < n → get_or xs o (pos 0) ≡ f (g o)) →
    xs ≡ map f (map g (range_with_len 0 n))
cells_are f g n xs long each =
    ext_get_or (pos 0) xs (map (λ o. f (g o)) (range_with_len 0 n)) (long ∙ sym (length-map-range_with_len (λ o. f (g o)) 0 n))
    (λ i l. each i (omega (arith, l, long))
    ∙ sym (get_or-map-range_with_len (λ o. f (g o)) 0 n i i (pos 0) (omega (arith, l, long)) (omega arith)))
    ∙ sym (map-map f g (range_with_len 0 n))

-- what is so of each item by its place
pub by_place : (xs : List ℤ) → ((k : ℕ) → k < length xs → FitsSigned w64 (get_or xs k (pos 0))) → AreValues xs
by_place [] h = tt
by_place (x ∷ xs) h = (h 0 (omega arith), by_place xs (λ k l. h (suc k) (omega (arith, l))))

none_asked : (m : Shape) (w : ℕ) (words : List ℕ) → words ≡ [] → [] ≡ cells_asked m w words
none_asked m w words e = ap (cells_asked m w) (sym e)

module _ (code : SuperstepCode) (m : Shape) (input : List ℤ) (x : Local) (values : AreValues x.cells) (on : x.way ≡ ways.On)
    (place : x.steps.place ≡ 0) (shows : (cells : List ℤ) → Shows code.rule x.steps (record machine.no_worker { cells = cells }))
    (cells : x.cells ≡ map (λ c. slice_index_or input c (pos 0)) (map (m.cell x.steps.bank.worker) (range_with_len 0 (m.width
    x.steps.bank.worker)))) (sent : x.sent.held ≡ []) (asked : (j : ℕ) → column (words_of x.asked.items) j ≡ []) where
  pub opens : (bound n : ℕ) → IsShown (setting code m bound n) x.steps.bank.worker x
      (opening (setting code m bound n) input x.steps.bank.worker)
  opens bound n = record {
    exchanges = 0;
    reached = (input, subst AreValues cells values, refl);
    way = ap way_is (sym on);
    place = sym place;
    clear = refl;
    worker = record {
      shows = shows (map (λ c. slice_index_or input c (pos 0))
          (map (m.cell x.steps.bank.worker) (range_with_len 0 (m.width x.steps.bank.worker))));
      cells = sym cells;
      sent = sent;
      taken = λ j. none_asked m x.steps.bank.worker (column (words_of x.asked.items) j) (asked j);
    };
  }

  pub may_open : (bound : ℕ) → IsRunnable code m → IsEquipped code m x → IsVerifiedAt code x.steps → MayGoOn code m bound x
  may_open bound runnable equipped verified = record {
    runnable = runnable;
    equipped = equipped;
    going = ap (λ v. machine.is_over (way_is v)) on;
    count = (let c = ap (λ (u : UniformPart). u.count) (shows []).uniform in omega (arith, c));
    verified = λ h. verified;
    enough = most_instructions code bound + 1;
    is_enough = omega arith;
    state = opening (setting code m bound (most_instructions code bound + 1)) input x.steps.bank.worker;
    shown = opens bound (most_instructions code bound + 1);
  }

-- no message is longer than the pieces of a barrier
pub few_words : (code : SuperstepCode) (m : Shape) → IsCode code → m.parts ≤ 32 → most_words code m ≤ 1048576
few_words code m limits few =
    let procs = limits.few_procs in
    let share : (code.procs + (m.parts - 1)) / m.parts ≤ 2 ^ 14 + 31 =
    (let d = div-le_self (code.procs + (m.parts - 1)) m.parts in omega (arith, d, procs, few)) in
    by_rule code.rule share
  where
    by_rule : (rule : Rule) {n : ℕ} → n ≤ 2 ^ 14 + 31 → words_for_each rule * n ≤ 1048576
    by_rule rules_are.Erew h = omega (arith, h)
    by_rule rules_are.Crew h = omega (arith, h)
    by_rule rules_are.Common h = omega (arith, h)
    by_rule rules_are.Priority h = omega (arith, h)
    by_rule rules_are.Sum h = omega (arith, h)
