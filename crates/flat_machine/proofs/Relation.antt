-- The workers' states together are one flat state.
use Rattle.std.proofs.Common.{◌≡◌, ℕ, ◌<◌, ◌≤◌, ◌%◌, List, [], map, length, Bool, true, Some, None, eqb, ◌&&◌}
use Rattle.std.specs.Prelude.{slice_index_or}
use Rattle.std.specs.List.{filter, list_any, range_with_len}
use Rattle.pram_model.specs.Layout.{total_size}
use Rattle.pram_values.specs.Total.{total}
use Rattle.superstep_instructions.specs.Code.{SuperstepCode}
use Rattle.superstep_machine.specs.Keys.{least}
use Rattle.superstep_machine.specs.Setting.{Setting, workers, processors, module_cells}
use Rattle.superstep_machine.specs.Parts.{Read}
use Rattle.superstep_machine.specs.Words.{CellAsk}
use Rattle.superstep_machine.specs.Worker.{Worker}
use Rattle.superstep_machine.specs.Sides.{AreBySide}
use Rattle.superstep_machine.specs.Sending.{join, cell_at, entry_held}
use Rattle.flat_machine.specs.Flat.{Flat}

-- What is asked for is a cell, and a private read has none but those of its processors; nothing is held but for cells; and all processors
-- are under as many masks.
pub record IsRanged (code : SuperstepCode) (f : Flat) : Type 0 where
  pub own : (v k c : ℕ) → cell_at k (f.own v).asks ≡ Some c → c < total_size code.layout
  pub own_awaited : (v k c : ℕ) → cell_at k (f.own v).awaited ≡ Some c → c < total_size code.layout
  pub uniform : (k c : ℕ) → cell_at k (map (λ (r : Read). r.cell) f.uniform.asks) ≡ Some c → c < total_size code.layout
  pub uniform_awaited : (k c : ℕ) → cell_at k (map (λ (r : Read). r.cell) f.uniform.awaited) ≡ Some c → c < total_size code.layout
  pub sides : AreBySide f.uniform.asks
  pub held : (c : ℕ) → total_size code.layout ≤ c → f.held c ≡ None
  pub level : (u v : ℕ) → length (f.own u).masks ≡ length (f.own v).masks

-- cell c is among what was asked for by read k
abbrev pub wants : ℕ → ℕ → List CellAsk → Bool
wants k c asks = list_any (λ (x : CellAsk). eqb x.read k && eqb x.cell c) asks

pub record Splits (t : Setting) (f : Flat) (ws : ℕ → Worker) : Type 0 where
  pub uniform : (w : ℕ) → w < workers t → (ws w).uniform ≡ f.uniform
  pub own : (w : ℕ) → w < workers t → (ws w).own ≡ map f.own (processors t w f.uniform.width)
  pub cells : (w : ℕ) → w < workers t → (ws w).cells ≡ map f.memory (module_cells t w)
  pub held : (c : ℕ) → total None (join t.code.rule) (λ w. entry_held t.code.rule (ws w) c) (range_with_len 0 (workers t)) ≡ f.held c
  pub key : total None least (λ w. (ws w).key) (range_with_len 0 (workers t)) ≡ f.key
  -- a module has taken what it was asked for
  pub taken : (j w : ℕ) → j < workers t → w < workers t → slice_index_or (ws j).taken w [] ≡ map (λ (x : CellAsk). x.cell)
      (filter (λ (x : CellAsk). eqb (t.map.part x.cell) j) (ws w).wanted)
  -- and a worker has asked for what is awaited
  pub wants_uniform : (w : ℕ) → w < workers t → (k c : ℕ) → cell_at k (map (λ (r : Read). r.cell) f.uniform.awaited) ≡ Some c →
      wants k c (ws w).wanted ≡ true
  pub wants_own : (w v : ℕ) → w < workers t → v < f.uniform.width → v % workers t ≡ w → (k c : ℕ) → k < length f.uniform.awaited →
      cell_at k (f.own v).awaited ≡ Some c → wants k c (ws w).wanted ≡ true
  pub ranged : IsRanged t.code f
