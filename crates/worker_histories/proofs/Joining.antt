-- Histories that exchanged are one run: by induction on the exchanges.
use Rattle.std.proofs.Common.{◌≡◌, ℕ, zero, suc, ◌+◌, ◌<◌, List, [], ◌∷◌, length, map, true, false, Some, refl, sym, ap, ◌∙◌}
use Rattle.std.proofs.Common.{subst, arith}
use Rattle.std.specs.Prelude.{if◌then◌else◌}
use Rattle.std.specs.List.{AllByRecursion, range_with_len}
use Rattle.superstep_machine.specs.Machine.{Machine, row, column, phase, phases, run}
use Rattle.superstep_machine.proofs.Refused.{map_within}
use Rattle.worker_histories.specs.Histories.{rows_by, end_by, HoldsBefore, GoesOn, entry, HaveExchanged, HistoriesAreARun}
use Rattle.worker_histories.proofs.Lists.{same_entries, range_entry, range_long, first, rest, first_and_rest, entry_first, entry_rest}

module _ {S M O : Type 0} (b : Machine S M O) (p : ℕ) where
  -- ---- phases

  pub phase_more : (n : ℕ) (ws : ℕ → S) → phases b p (suc n) ws ≡ phase b p (phases b p n ws)
  phase_more zero ws = refl
  phase_more (suc n) ws = phase_more n (phase b p ws)

  -- states that agree below p do so behind a phase, and behind any number
  pub phase_within : (ws vs : ℕ → S) → ((w : ℕ) → w < p → ws w ≡ vs w) → (w : ℕ) → w < p → phase b p ws w ≡ phase b p vs w
  phase_within ws vs e w h =
      ap (λ (s : S). b.next w s (column b p ws w)) (e w h)
      ∙ ap (λ c. b.next w (vs w) c)
      (map_within (λ i. b.message i (ws i) w) (λ i. b.message i (vs i) w) p 0
      (λ i l. ap (λ (s : S). b.message i s w) (e i (omega (arith, l)))))

  pub phases_within : (n : ℕ) (ws vs : ℕ → S) → ((w : ℕ) → w < p → ws w ≡ vs w) → (w : ℕ) → w < p →
      phases b p n ws w ≡ phases b p n vs w
  phases_within zero ws vs e w h = e w h
  phases_within (suc n) ws vs e w h = phases_within n (phase b p ws) (phase b p vs) (phase_within ws vs e) w h

  -- a run ends at the first phase behind which worker 0's is over
  pub run_ends : (n : ℕ) (ws : ℕ → S) → GoesOn b p n ws → b.over (phases b p n ws 0) ≡ true →
      run b p (suc n) ws ≡ Some (b.outcome (map (phases b p n ws) (range_with_len 0 p)))
  run_ends zero ws going over =
      ap (λ o. if o then Some (b.outcome (map ws (range_with_len 0 p))) else run b p zero (phase b p ws)) over
  run_ends (suc n) ws going over =
      ap (λ o. if o then Some (b.outcome (map ws (range_with_len 0 p))) else run b p (suc n) (phase b p ws)) (going 0 (omega arith))
      ∙ run_ends n (phase b p ws) (λ i l. going (suc i) (omega (arith, l))) over

  -- ---- histories

  -- what is known of the histories, from any states on
  pub record AreJoined (n : ℕ) (start : ℕ → S) (rows columns : ℕ → List (List M)) : Type 0 where
    pub exchanged : HaveExchanged p n rows columns
    pub sent : (w : ℕ) → w < p → rows w ≡ rows_by b p w (start w) (columns w)

  -- by one exchange less
  module _ (n : ℕ) (start : ℕ → S) (rows columns : ℕ → List (List M)) (a : AreJoined (suc n) start rows columns) where
    pub parts : (w : ℕ) → w < p → columns w ≡ first (columns w) ∷ rest (columns w)
    parts w h = first_and_rest (columns w) n (a.exchanged.many w h)

    first_row : (w : ℕ) → w < p → rows w ≡ row b p w (start w)
        ∷ rows_by b p w (b.next w (start w) (first (columns w))) (rest (columns w))
    first_row w h = a.sent w h ∙ ap (rows_by b p w (start w)) (parts w h)

    wide : (w : ℕ) → w < p → AllByRecursion (λ (c : List M). length c ≡ p) (first (columns w) ∷ rest (columns w))
    wide w h = subst (λ cs. AllByRecursion (λ (c : List M). length c ≡ p) cs) (parts w h) (a.exchanged.wide w h)

    -- what came first is what all sent first
    pub first_column : (w : ℕ) → w < p → first (columns w) ≡ column b p start w
    first_column w h =
        let c = first (columns w) in
        let long = (wide w h).0 in
        same_entries c (column b p start w) (long ∙ sym (range_long (λ i. b.message i (start i) w) p 0))
        (λ i l.
        let below : i < p = omega (arith, l, long) in
        sym (entry_first (columns w) i) ∙ a.exchanged.same i w 0 below h
        ∙ ap (λ rs. entry rs 0 w) (first_row i below)
        ∙ range_entry (b.message i (start i)) p 0 w h
        ∙ ap (λ k. Some (b.message i (start i) k)) (let same : 0 + w ≡ w = omega arith in same)
        ∙ ap (λ k. Some (b.message k (start k) w)) (let same : i ≡ 0 + i = omega arith in same)
        ∙ sym (range_entry (λ k. b.message k (start k) w) p 0 i below))

    pub next_is : (w : ℕ) → w < p → b.next w (start w) (first (columns w)) ≡ phase b p start w
    next_is w h = ap (b.next w (start w)) (first_column w h)

    pub less : AreJoined n (phase b p start) (λ w. rest (rows w)) (λ w. rest (columns w))
    less = record {
      exchanged = record {
        many = λ w h. let e = ap length (parts w h) in let m = a.exchanged.many w h in omega (arith, e, m);
        wide = λ w h. (wide w h).1;
        same = λ i j k hi hj. sym (entry_rest (columns j) k i) ∙ a.exchanged.same i j (suc k) hi hj ∙ entry_rest (rows i) k j;
      };
      sent = λ w h. ap rest (first_row w h) ∙ ap (λ (s : S). rows_by b p w s (rest (columns w))) (next_is w h);
    }

    pub end_less : (w : ℕ) → w < p → end_by b w (start w) (columns w) ≡ end_by b w (phase b p start w) (rest (columns w))
    end_less w h = ap (end_by b w (start w)) (parts w h) ∙ ap (λ (s : S). end_by b w s (rest (columns w))) (next_is w h)

    pub before_less : (P : S → Type 0) (w : ℕ) → w < p → HoldsBefore b P w (start w) (columns w) →
        P (start w) × HoldsBefore b P w (phase b p start w) (rest (columns w))
    before_less P w h q =
        let r = subst (λ cs. HoldsBefore b P w (start w) cs) (parts w h) q in
        (r.0, subst (λ (s : S). HoldsBefore b P w s (rest (columns w))) (next_is w h) r.1)

  none_left : (cs : List (List M)) (w : ℕ) (s : S) → length cs ≡ 0 → end_by b w s cs ≡ s
  none_left [] w s h = refl
  none_left (c ∷ cs) w s h = cc

  -- each comes to the state of the run
  pub ends_are : (n : ℕ) (start : ℕ → S) (rows columns : ℕ → List (List M)) → AreJoined n start rows columns → (w : ℕ) → w < p →
      end_by b w (start w) (columns w) ≡ phases b p n start w
  ends_are zero start rows columns a w h = none_left (columns w) w (start w) (a.exchanged.many w h)
  ends_are (suc n) start rows columns a w h =
      end_less n start rows columns a w h
      ∙ ends_are n (phase b p start) (λ v. rest (rows v)) (λ v. rest (columns v)) (less n start rows columns a) w h

  -- what holds before each exchange of a history holds of the states of the run
  pub holds_at : (P : S → Type 0) (w : ℕ) → w < p → (n : ℕ) (start : ℕ → S) (rows columns : ℕ → List (List M)) →
      AreJoined n start rows columns → HoldsBefore b P w (start w) (columns w) → (k : ℕ) → k < n → P (phases b p k start w)
  holds_at P w h zero start rows columns a q k l = absurd (omega (arith, l))
  holds_at P w h (suc n) start rows columns a q zero l = (before_less n start rows columns a P w h q).0
  holds_at P w h (suc n) start rows columns a q (suc k) l =
      holds_at P w h n (phase b p start) (λ v. rest (rows v)) (λ v. rest (columns v)) (less n start rows columns a)
      (before_less n start rows columns a P w h q).1 k (omega (arith, l))

-- the law, for every machine
pub histories_are_a_run : {S M O : Type 0} (b : Machine S M O) → HistoriesAreARun b
histories_are_a_run {S} b p n start ends rows columns some exchanged played =
    let a : AreJoined b p n start rows columns = record { exchanged = exchanged; sent = λ w h. (played w h).sent } in
    let states : (w : ℕ) → w < p → ends w ≡ phases b p n start w =
    λ w h. (played w h).end ∙ ends_are b p n start rows columns a w h in
    let going : GoesOn b p n start =
    holds_at b p (λ (s : S). b.over s ≡ false) 0 some n start rows columns a (played 0 some).going in
    record {
      states = states;
      going = going;
      outcome = run_ends b p n start going (ap b.over (sym (states 0 some)) ∙ (played 0 some).over)
          ∙ ap (λ l. Some (b.outcome l)) (map_within (phases b p n start) ends p 0 (λ i l. sym (states i (omega (arith, l)))));
    }
