-- A history grows at its end.
use Rattle.std.proofs.Common.{◌≡◌, ℕ, List, [], ◌∷◌, ◌++◌, false, refl, ap}
use Rattle.superstep_machine.specs.Machine.{Machine, row}
use Rattle.superstep_machine.specs.Run.{Purpose}
use Rattle.worker_histories.specs.Histories.{rows_by, end_by, HoldsBefore}
use Rattle.worker_histories.specs.Growing.{HistoriesGrow, SharesGrow}

module _ {S M O : Type 0} (b : Machine S M O) where
  rows_grow : (p w : ℕ) (s : S) (cs : List (List M)) (c : List M) →
      rows_by b p w s (cs ++ c ∷ []) ≡ rows_by b p w s cs ++ row b p w (end_by b w s cs) ∷ []
  rows_grow p w s [] c = refl
  rows_grow p w s (d ∷ cs) c = ap (λ rs. row b p w s ∷ rs) (rows_grow p w (b.next w s d) cs c)

  end_grows : (w : ℕ) (s : S) (cs : List (List M)) (c : List M) → end_by b w s (cs ++ c ∷ []) ≡ b.next w (end_by b w s cs) c
  end_grows w s [] c = refl
  end_grows w s (d ∷ cs) c = end_grows w (b.next w s d) cs c

  -- what held before each exchange, and holds in the last state
  pub before_grows : (P : S → Type 0) (w : ℕ) (s : S) (cs : List (List M)) (c : List M) → HoldsBefore b P w s cs →
      P (end_by b w s cs) → HoldsBefore b P w s (cs ++ c ∷ [])
  before_grows P w s [] c h q = (q, tt)
  before_grows P w s (d ∷ cs) c h q = (h.0, before_grows P w (b.next w s d) cs c h.1 q)

  pub histories_grow : HistoriesGrow b
  histories_grow p w s cs c = record {
    rows = rows_grow p w s cs c;
    end = end_grows w s cs c;
    going = before_grows (λ (q : S). b.over q ≡ false) w s cs c;
  }

  pub shares_grow : (purpose : ℕ → S → Purpose) (size : List M → ℕ) → SharesGrow b purpose size
  shares_grow purpose size p w s [] c = refl
  shares_grow purpose size p w s (d ∷ cs) c =
      ap (λ ss. record { purpose = purpose w s; sent = size (row b p w s); received = size d } ∷ ss)
      (shares_grow purpose size p w (b.next w s d) cs c)
