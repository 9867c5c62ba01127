-- What workers come to whose run is over, and what they counted.
use Rattle.std.proofs.Common.{◌≡◌, ℕ, zero, suc, ◌+◌, ◌<◌, List, [], ◌∷◌, length, map, true, false}
use Rattle.std.proofs.Common.{Option, Some, None, ℤ, pos, refl, sym, ap, ◌∙◌}
use Rattle.std.proofs.Common.{arith, get_or}
use Rattle.std.specs.Prelude.{slice_get, slice_index_or, IfSome}
use Rattle.std.specs.List.{range_with_len}
use Rattle.std.proofs.lemmas.List.{length-map}
use Rattle.std.proofs.lemmas.List.FromFn.{get_or-map-range_with_len, length-range_with_len}
use Rattle.pram_model.specs.Layout.{total_size}
use Rattle.address_map.specs.Lawful.{Shape}
use Rattle.write_rules.specs.declared.outcome.Outcome.{Outcome}
use Rattle.write_rules.specs.Verdict.{Verdict}
use Rattle.superstep_instructions.specs.Code.{SuperstepCode}
use Rattle.superstep_machine.specs.Setting.{Setting, module_cells}
use Rattle.superstep_machine.specs.Run.{State, bsp, setting, opening, is_over, no_state, state_of}
use Rattle.superstep_machine.specs.Run.{cell_in, verdict_by, outcome_of, outcome_by}
use Rattle.superstep_machine.specs.Trace.{Exchange, exchange_of, exchanges_by}
use Rattle.superstep_machine.proofs.Refused.{map_within}
use Rattle.bsp_verify.specs.Runs.{worker_after}
use Rattle.flat_machine.specs.Flatness.{IsMapFor}
use Rattle.flat_machine.specs.ByExchanges as flat
use Rattle.flat_machine.proofs.Runs.{phases_agree, opening_agrees}
use Rattle.flat_machine.proofs.Lists.{map_twice}
use Rattle.worker_exchange.specs.declared.way.Way.{Way}
use Rattle.worker_exchange.specs.declared.way.Way.TheVariants as ways
use Rattle.worker_exchange.specs.Reached.{most_instructions}
use Rattle.superstep_machine.specs.Purposes.{purpose_is}
use Rattle.worker_exchange.specs.Shown.{way_is, is_stopped, IsShown}
use Rattle.exchange_counts.specs.declared.count.Count.{Count}
use Rattle.exchange_counts.specs.Tallies.{rows_of}
use Rattle.exchange_counts.specs.Columns.{column_of, entry_of, nothing, AreColumns}
use Rattle.exchange_counts.specs.CountedExchanges.{exchange_told, exchanges_told}
use Rattle.bsp_machine.specs.declared.counted.CountedWorker.{CountedWorker}
use Rattle.worker_histories.specs.Shares.{Share, share_of}
use Rattle.bsp_machine.specs.Workers.{share_told, shares, AreKept}
use Rattle.bsp_machine.specs.Ended.{AreExchanges, AreRunning, AreWide, cells_of, value_of, memory_of, verdict_in, counts_of}
use Rattle.bsp_machine.proofs.ListLemmas.{map_by}
use Rattle.worker_histories.proofs.Marking.{there}
use Rattle.std.proofs.lemmas.Option.{slice_get_within}
use Rattle.worker_histories.proofs.Joining.{run_ends}
use Rattle.worker_histories.proofs.Parts.{exchanges_are}

-- who has an outcome hasn't stopped
pub told_alive : (way : Way) (output : List (ℕ × ℤ)) (memory : List ℤ) (v : Verdict) → Some v ≡ verdict_by (way_is way) output memory →
    is_stopped way ≡ false
told_alive ways.On output memory v e = refl
told_alive (ways.Ending ended) output memory v e = refl
told_alive (ways.Past key ended) output memory v e = refl
told_alive (ways.Stopped mark) output memory v e = absurd (cc e)

-- what is over and has no outcome has stopped
pub none_told : (way : Way) (output : List (ℕ × ℤ)) (memory : List ℤ) (o : Option Outcome) → is_over (way_is way) ≡ true →
    verdict_in o ≡ verdict_by (way_is way) output memory → ((found : Outcome) → o ≡ Some found → ⊥) → is_stopped way ≡ true
none_told ways.On output memory o over e none = absurd (cc over)
none_told (ways.Ending ended) output memory o over e none = absurd (cc over)
none_told (ways.Stopped mark) output memory o over e none = refl
none_told (ways.Past key ended) output memory (Some found) over e none = absurd (none found refl)
none_told (ways.Past (Some key) ended) output memory None over e none = absurd (cc e)
none_told (ways.Past None true) output memory None over e none = absurd (cc e)
none_told (ways.Past None false) output memory None over e none = absurd (cc e)

column_is : (all : List CountedWorker) (w : ℕ) (x : CountedWorker) → slice_get all w ≡ Some x →
    column_of (counts_of all) w ≡ rows_of x.counts
column_is [] w x e = cc
column_is (y ∷ all) zero x e = ap (λ (z : CountedWorker). rows_of z.counts) (unsome y x e)
  where
    unsome : (a b : CountedWorker) → Some a ≡ Some b → a ≡ b
    unsome a b e = cc
column_is (y ∷ all) (suc w) x e = column_is all w x e

first_entry : (i : ℕ) (all : List CountedWorker) (x : CountedWorker) → slice_get all 0 ≡ Some x →
    slice_index_or (map (entry_of i) (counts_of all)) 0 nothing ≡ entry_of i (rows_of x.counts)
first_entry i [] x e = cc
first_entry i (y ∷ all) x e = ap (λ (z : CountedWorker). entry_of i (rows_of z.counts)) (unsome y x e)
  where
    unsome : (a b : CountedWorker) → Some a ≡ Some b → a ≡ b
    unsome a b e = cc

-- one of what is made
made_at : {A B : Type 0} (f : A → B) (xs : List A) (i : ℕ) (d : A) → f (get_or xs i d) ≡ get_or (map f xs) i (f d)
made_at f [] i d = refl
made_at f (x ∷ xs) zero d = refl
made_at f (x ∷ xs) (suc i) d = made_at f xs i d

module _ (code : SuperstepCode) (m : Shape) (map_for : IsMapFor code m) (bound : ℕ) (input : List ℤ) (all : List CountedWorker)
    (many : length all ≡ m.parts) (run : AreRunning code m bound input all) (first : CountedWorker) (here : slice_get all 0 ≡ Some first)
    (alive : is_stopped first.local.way ≡ false) where
  none : (w : ℕ) (x : CountedWorker) → slice_get all w ≡ Some x → is_stopped x.local.way ≡ false
  none w x at = run.together w 0 x first at here ∙ alive

  abbrev n : ℕ
  n = suc (most_instructions code bound)

  low : most_instructions code bound < n
  low = omega arith

  abbrev t : Setting
  t = setting code m bound n

  abbrev k : ℕ
  k = run.exchanges

  abbrev ws : ℕ → State
  ws = worker_after t input k

  shown : (w : ℕ) (x : CountedWorker) → slice_get all w ≡ Some x → IsShown t w x.local (ws w)
  shown w x at = (run.behind w x at).shown (none w x at) n low

  -- ---- the cells of the modules

  pub wide : AreWide m all
  wide w x at =
      let flat = phases_agree t map_for k (flat.opening input) (opening t input) (opening_agrees t map_for input) in
      let l = slice_get_within all w x at in
      ap length (sym (shown w x at).worker.cells ∙ flat.1.splits.cells w (omega (arith, l, many)))
      ∙ length-map (module_cells t w) flat.0.flat.memory ∙ length-map (range_with_len 0 (m.width w)) (m.cell w)
      ∙ length-range_with_len 0 (m.width w)

  below : (w : ℕ) (x : CountedWorker) → slice_get all w ≡ Some x → w < m.parts
  below w x at = let l = slice_get_within all w x at in omega (arith, l, many)

  -- ---- what was counted, where that was kept

  module _ (kept : AreKept true all) where
    rows_at : (w : ℕ) (x : CountedWorker) → slice_get all w ≡ Some x → map share_told (rows_of x.counts) ≡ shares t input w k
    rows_at w x at = ((run.behind w x at).counted (none w x at) n low).rows (kept w x at)

    counts_long : (w : ℕ) (x : CountedWorker) → slice_get all w ≡ Some x → length (rows_of x.counts) ≡ k
    counts_long w x at =
        sym (length-map (rows_of x.counts) share_told) ∙ ap length (rows_at w x at)
        ∙ length-map (range_with_len 0 k) (λ i. share_of w (exchange_of t (worker_after t input i))) ∙ length-range_with_len 0 k

    first_long : length (column_of (counts_of all) 0) ≡ k
    first_long = ap length (column_is all 0 first here) ∙ counts_long 0 first here

    pub columns_long : AreColumns (counts_of all)
    columns_long =
        let e = length-map all (λ (x : CountedWorker). rows_of x.counts) in
        record {
          some = (let l = slice_get_within all 0 first here in omega (arith, l, e));
          long = λ w l.
              let x = there all w (omega (arith, l, e)) in
              ap length (column_is all w x.0 x.1) ∙ counts_long w x.0 x.1 ∙ sym first_long;
        }

    share_at : (w : ℕ) (x : CountedWorker) → slice_get all w ≡ Some x → (i : ℕ) → i < k →
        share_told (entry_of i (rows_of x.counts)) ≡ share_of w (exchange_of t (worker_after t input i))
    share_at w x at i l =
        made_at share_told (rows_of x.counts) i nothing
        ∙ ap (λ (ss : List Share). get_or ss i (share_told nothing)) (rows_at w x at)
        ∙ get_or-map-range_with_len (λ j. share_of w (exchange_of t (worker_after t input j))) 0 k i i (share_told nothing) l (omega arith)

    -- a list of what all workers counted
    listed : (i : ℕ) → i < k → (of_count : Count → ℕ) (of_worker : ℕ → ℕ) →
        ((w : ℕ) (x : CountedWorker) → slice_get all w ≡ Some x → of_count (entry_of i (rows_of x.counts)) ≡ of_worker w) →
        map of_count (map (entry_of i) (counts_of all)) ≡ map of_worker (range_with_len 0 m.parts)
    listed i l of_count of_worker each =
        map_twice of_count (entry_of i) (counts_of all)
        ∙ map_twice (λ (column : List Count). of_count (entry_of i column)) (λ (x : CountedWorker). rows_of x.counts) all
        ∙ map_by (λ (x : CountedWorker). of_count (entry_of i (rows_of x.counts))) of_worker all 0
        (λ w x at. each w x at ∙ ap of_worker (let same : w ≡ 0 + w = omega arith in same))
        ∙ ap (λ p. map of_worker (range_with_len 0 p)) many

    by_worker : (f : ℕ → ℕ) (w : ℕ) → w < m.parts → slice_index_or (map f (range_with_len 0 m.parts)) w 0 ≡ f w
    by_worker f w l = get_or-map-range_with_len f 0 m.parts w w 0 l (omega arith)

    one_told : (i : ℕ) → i < k → exchange_told (counts_of all) i ≡ exchange_of t (worker_after t input i)
    one_told i l = λ j. record {
      purpose = (ap (λ (c : Count). purpose_is c.purpose) (first_entry i all first here)
          ∙ ap (λ (s : Share). s.purpose) (share_at 0 first here i l)) j;
      sent = listed i l (λ (c : Count). c.sent) _ (λ w x at. ap (λ (s : Share). s.sent) (share_at w x at i l)
          ∙ by_worker _ w (below w x at)) j;
      received = listed i l (λ (c : Count). c.received) _ (λ w x at. ap (λ (s : Share). s.received) (share_at w x at i l)
          ∙ by_worker _ w (below w x at)) j;
    }

  -- ---- the outcome

  module _ (over : is_over (way_is first.local.way) ≡ true) (v : Verdict)
      (told : Some v ≡ verdict_by (way_is first.local.way) first.local.steps.uniform.output.items (memory_of code m all))
      (places : total_size code.layout < suc m.count) where
    over_is : is_over (ws 0).way ≡ true
    over_is = ap is_over (shown 0 first here).way ∙ over

    abbrev states : List State
    states = map ws (range_with_len 0 m.parts)

    state_at : (w : ℕ) → w < m.parts → state_of states w ≡ ws w
    state_at w l = get_or-map-range_with_len ws 0 m.parts w w no_state l (omega arith)

    value_is : (c : ℕ) → c < total_size code.layout → cell_in t states c ≡ value_of m all c
    value_is c l =
        let within = map_for.lawful.part_below c (omega (arith, l, places)) in
        let x = there all (m.part c) (omega (arith, within, many)) in
        ap (λ (s : State). slice_index_or s.worker.cells (m.offset c) (pos 0)) (state_at (m.part c) within)
        ∙ ap (λ (cells : List ℤ). slice_index_or cells (m.offset c) (pos 0)) ((shown (m.part c) x.0 x.1).worker.cells
        ∙ ap cells_of (sym x.1))

    memory_is : map (cell_in t states) (range_with_len 0 (total_size code.layout)) ≡ memory_of code m all
    memory_is = map_within (cell_in t states) (value_of m all) (total_size code.layout) 0 (λ c l. value_is c (omega (arith, l)))

    outcome_is : outcome_of t states ≡ Some v
    outcome_is =
        let some = below 0 first here in
        (λ i. verdict_by ((ap (λ (s : State). s.way) (state_at 0 some) ∙ (shown 0 first here).way) i)
        ((ap (λ (s : State). s.worker.uniform.output) (state_at 0 some)
        ∙ ap (λ (u : _). u.output) (shown 0 first here).worker.shows.uniform) i) (memory_is i))
        ∙ sym told

    pub outcome_ends : outcome_by t (suc k) input ≡ Some (Some v)
    outcome_ends = run_ends (bsp t) m.parts k (opening t input) (run.before n low) over_is ∙ ap (λ o. Some o) outcome_is

    exchanges_end : AreKept true all → exchanges_by t (suc k) input ≡ exchanges_told (counts_of all)
    exchanges_end kept =
        exchanges_are t k (opening t input) (run.before n low) over_is
        ∙ sym (ap (λ p. map (exchange_told (counts_of all)) (range_with_len 0 p)) (first_long kept)
        ∙ map_within (exchange_told (counts_of all)) (λ i. exchange_of t (worker_after t input i)) k 0 (λ i l. one_told kept i (omega
        (arith, l))))

    -- whether they were kept or not, and whoever hands them on
    pub exchanges_found : (others : List CountedWorker) → (AreKept true others → AreKept true all) → counts_of others ≡ counts_of all →
        (found : Option (List Exchange)) →
        IfSome found (λ exchanges. AreKept true others × (exchanges ≡ exchanges_told (counts_of others))) →
        AreExchanges code m input bound v found
    exchanges_found others back same None h =
        (exchanges_by t (suc k) input, record { enough = n; most = suc k; ends = outcome_ends; told = refl })
    exchanges_found others back same (Some exchanges) h = record {
      enough = n;
      most = suc k;
      ends = outcome_ends;
      told = exchanges_end (back h.0) ∙ ap exchanges_told (sym same) ∙ sym h.1;
    }
