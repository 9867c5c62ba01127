-- The workers at the beginning are the flat state at the beginning, and workers that are equal to others are the same flat state.
use Rattle.std.proofs.Common.{◌≡◌, ℕ, ◌<◌, List, [], map, Some, None, ℤ, eqb, refl, sym, ap, ◌∙◌, arith}
use Rattle.std.specs.Prelude.{slice_index_or}
use Rattle.std.specs.List.{filter, range_with_len}
use Rattle.pram_values.proofs.Totals.{total_within, total_none}
use Rattle.superstep_machine.specs.Setting.{Setting, workers}
use Rattle.superstep_machine.specs.Words.{CellAsk}
use Rattle.superstep_machine.specs.Worker.{Worker}
use Rattle.superstep_machine.specs.Sending.{join, cell_at, entry_held}
use Rattle.superstep_machine.specs.Keys.{least}
use Rattle.superstep_machine.specs.Run.{opening_worker}
use Rattle.superstep_machine.proofs.KeyOrder.{keys_are_monoid}
use Rattle.superstep_machine.proofs.Collected.{entries_are_monoid}
use Rattle.flat_machine.specs.Flat.{Flat}
use Rattle.flat_machine.specs.Flat as flat
use Rattle.flat_machine.specs.Flatness.{IsMapFor}
use Rattle.flat_machine.proofs.Relation.{wants, Splits}

-- without a read no cell is asked for
pub no_cell : {A : Type 0} (k c : ℕ) → cell_at k [] ≡ Some c → A
no_cell k c h = absurd (cc)

module _ (t : Setting) (fits : IsMapFor t.code t.map) where
  pub splits_same : (f : Flat) (ws vs : ℕ → Worker) → ((w : ℕ) → w < workers t → ws w ≡ vs w) → Splits t f ws → Splits t f vs
  splits_same f ws vs same s = record {
    uniform = λ w h. sym (ap (λ (x : Worker). x.uniform) (same w h)) ∙ s.uniform w h;
    own = λ w h. sym (ap (λ (x : Worker). x.own) (same w h)) ∙ s.own w h;
    cells = λ w h. sym (ap (λ (x : Worker). x.cells) (same w h)) ∙ s.cells w h;
    held = λ c.
        total_within None (join t.code.rule) (λ w. entry_held t.code.rule (vs w) c) (λ w. entry_held t.code.rule (ws w) c) (workers t) 0
        (λ w h. ap (λ (x : Worker). entry_held t.code.rule x c) (sym (same w (omega (arith, h)))))
        ∙ s.held c;
    key =
        total_within None least (λ w. (vs w).key) (λ w. (ws w).key) (workers t) 0
        (λ w h. ap (λ (x : Worker). x.key) (sym (same w (omega (arith, h)))))
        ∙ s.key;
    taken = λ j w j_below w_below.
        sym (ap (λ (x : Worker). slice_index_or x.taken w []) (same j j_below))
        ∙ s.taken j w j_below w_below
        ∙ ap (λ (x : Worker). map (λ (x : CellAsk). x.cell) (filter (λ (x : CellAsk). eqb (t.map.part x.cell) j) x.wanted))
        (same w w_below);
    wants_uniform = λ w h k c is. sym (ap (λ (x : Worker). wants k c x.wanted) (same w h)) ∙ s.wants_uniform w h k c is;
    wants_own = λ w v h below here k c few is. sym (ap (λ (x : Worker). wants k c x.wanted) (same w h))
        ∙ s.wants_own w v h below here k c few is;
    ranged = s.ranged;
  }

  pub splits_opening : (input : List ℤ) → Splits t (flat.opening input) (λ w. opening_worker t input w)
  splits_opening input = record {
    uniform = λ w h. refl;
    own = λ w h. refl;
    cells = λ w h. refl;
    held = λ c. total_none None (join t.code.rule) (entries_are_monoid t.code.rule) (λ w. None) (λ w. refl) (range_with_len 0 (workers t));
    key = total_none None least keys_are_monoid (λ w. None) (λ w. refl) (range_with_len 0 (workers t));
    taken = λ j w j_below w_below. refl;
    wants_uniform = λ w h k c is. no_cell k c is;
    wants_own = λ w v h below here k c few is. no_cell k c is;
    ranged = record {
      own = λ v k c is. no_cell k c is;
      own_awaited = λ v k c is. no_cell k c is;
      uniform = λ k c is. no_cell k c is;
      uniform_awaited = λ k c is. no_cell k c is;
      sides = tt;
      held = λ c above. refl;
      level = λ u v. refl;
    };
  }
