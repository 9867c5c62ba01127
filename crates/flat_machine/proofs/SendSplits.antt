-- A send of the workers is that of the flat machine.
use Rattle.std.proofs.Common.{◌≡◌, ℕ, zero, suc, ◌+◌, List, [], ◌∷◌, map, Bool, true, false, Some, None, refl, ap, ◌∙◌, subst, arith}
use Rattle.std.specs.Prelude.{if◌then◌else◌, ◌&&◌, slice_get, slice_index_or}
use Rattle.std.specs.List.{range_with_len}
use Rattle.pram_values.specs.Total.{total}
use Rattle.pram_values.proofs.Totals.{total_within, total_none, total_both}
use Rattle.write_rules.specs.Rule.{shares_reads}
use Rattle.superstep_machine.specs.Keys.{least}
use Rattle.superstep_machine.specs.Setting.{Setting, workers, processors, module_cells}
use Rattle.superstep_machine.specs.Parts.{Read, UniformPart}
use Rattle.superstep_machine.specs.Words.{CellAsk, Message}
use Rattle.superstep_machine.specs.Worker.{Worker}
use Rattle.superstep_machine.specs.Sending.{join, is_several, sent, entry_came, verdict_on, put_conflict, askers_came, is_private}
use Rattle.superstep_machine.specs.Sending.{read_conflicts, conflicts, uniform_sent, own_sent}
use Rattle.superstep_machine.specs.Sending as sending
use Rattle.superstep_machine.proofs.KeyOrder.{keys_are_monoid}
use Rattle.superstep_machine.proofs.Collected.{entries_are_monoid}
use Rattle.flat_machine.specs.Flat.{Flat}
use Rattle.flat_machine.specs.Flat as flat
use Rattle.flat_machine.specs.Flatness.{IsMapFor}
use Rattle.superstep_machine.specs.Sides.{IsBySide, AreBySide}
use Rattle.flat_machine.proofs.Relation.{Splits}
use Rattle.flat_machine.proofs.Lists.{map_twice, item_at}
use Rattle.flat_machine.proofs.Opening.{no_cell}
use Rattle.flat_machine.proofs.Sends.{Finds, column, cells_sent, owed_by_modules, askers_are, reads_by_modules, wants_uniform_sent}
use Rattle.flat_machine.proofs.Sends.{wants_own_sent}

by_side_at : (reads : List Read) (i : ℕ) (read : Read) → AreBySide reads → slice_get reads i ≡ Some read → IsBySide read
by_side_at [] i read h is = absurd (cc)
by_side_at (first ∷ rest) zero read h is = let same : first ≡ read = cc in subst IsBySide same h.0
by_side_at (first ∷ rest) (suc i) read h is = by_side_at rest i read h.1 is

module _ (t : Setting) (fits : IsMapFor t.code t.map) where
  abbrev all : List ℕ
  all = range_with_len 0 (workers t)

  -- modules find the askers of a private read, and a uniform one has no conflict
  finds : (f : Flat) (ws : ℕ → Worker) → Splits t f ws → Finds t fits f ws 0 f.uniform.asks
  finds f ws s i read is w c w_below here = go (is_private read.side) refl
    where
      go : (b : Bool) → is_private read.side ≡ b →
          (b && is_several (askers_came (column t fits ws w) (0 + i) c)) ≡ (b && is_several (flat.askers f (0 + i) c))
      go false e = refl
      go true e =
          let start : i ≡ 0 + i = omega arith in
          subst (λ k. is_several (askers_came (column t fits ws w) k c) ≡ is_several (flat.askers f k c)) start
          (ap is_several (askers_are t fits f ws s w i c read here is (by_side_at f.uniform.asks i read s.ranged.sides is e)))

  reads_found : (f : Flat) (ws : ℕ → Worker) → Splits t f ws → (b : Bool) →
      total None least (λ w. if b then None else read_conflicts (column t fits ws w) (module_cells t w) 0 f.uniform.asks) all
      ≡ (if b then None else flat.read_conflicts t.code f 0 f.uniform.asks)
  reads_found f ws s true = total_none None least keys_are_monoid (λ w. None) (λ w. refl) all
  reads_found f ws s false = reads_by_modules t fits f ws s f.uniform.asks 0 (finds f ws s)

  key_sent : (f : Flat) (ws : ℕ → Worker) → Splits t f ws →
      total None least (λ w. least (ws w).key (conflicts t w (ws w).uniform (column t fits ws w))) all ≡ least f.key
      (flat.conflicts t.code f)
  key_sent f ws s =
      let puts = λ (w : ℕ). total None least
      (λ c. put_conflict f.uniform.put c (verdict_on t.code.rule (entry_came t.code.rule (column t fits ws w) c)))
      (module_cells t w) in
      let reads = λ (w : ℕ). if shares_reads t.code.rule then None else read_conflicts (column t fits ws w) (module_cells t w) 0
      f.uniform.asks in
      total_within None least (λ w. least (ws w).key (conflicts t w (ws w).uniform (column t fits ws w)))
      (λ w. least (ws w).key (least (puts w) (reads w)))
      (workers t) 0
      (λ w h. ap (λ (u : UniformPart). least (ws w).key (conflicts t w u (column t fits ws w))) (s.uniform w (omega (arith, h))))
      ∙ total_both None least keys_are_monoid (λ w. (ws w).key) (λ w. least (puts w) (reads w)) all
      ∙ ap (λ k. least k (total None least (λ w. least (puts w) (reads w)) all)) s.key
      ∙ ap (least f.key) (total_both None least keys_are_monoid puts reads all)
      ∙ ap (λ k. least f.key (least k (total None least reads all))) (owed_by_modules t fits f ws s)
      ∙ ap (λ k. least f.key (least (flat.owed t.code f) k)) (reads_found f ws s (shares_reads t.code.rule))

  pub splits_send : (f : Flat) (ws : ℕ → Worker) → Splits t f ws →
      Splits t (flat.after_send t.code f) (λ w. sending.after_send t w (ws w) (map (λ i. sent t (ws i) w) (range_with_len 0 (workers t))))
  splits_send f ws s = record {
    uniform = λ w h. ap uniform_sent (s.uniform w h);
    own = λ w h. ap (map own_sent) (s.own w h) ∙ map_twice own_sent f.own (processors t w f.uniform.width);
    cells = λ w h. cells_sent t fits f ws s w h;
    held = λ c. total_none None (join t.code.rule) (entries_are_monoid t.code.rule) (λ w. None) (λ w. refl) all;
    key = key_sent f ws s;
    taken = λ j w j_below w_below.
        let cells_of = λ (m : Message). map (λ (x : CellAsk). x.cell) m.asks in
        ap (λ (lists : List (List ℕ)). slice_index_or lists w []) (map_twice cells_of (λ i. sent t (ws i) j) all)
        ∙ item_at (λ i. cells_of (sent t (ws i) j)) (workers t) w [] w_below;
    wants_uniform = λ w h k c is. wants_uniform_sent t fits f ws s w h k c is;
    wants_own = λ w v w_below v_below here k c few is. wants_own_sent t fits f ws s w v w_below v_below here k c few is;
    ranged = let r = s.ranged in record {
      own = λ v k c is. no_cell k c is;
      own_awaited = r.own;
      uniform = λ k c is. no_cell k c is;
      uniform_awaited = r.uniform;
      sides = tt;
      held = λ c above. refl;
      level = r.level;
    };
  }
