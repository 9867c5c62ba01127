-- What a send of the workers does is what that of the flat machine does.
use Rattle.std.proofs.Common.{◌≡◌, ℕ, zero, suc, ◌+◌, ◌<◌, ◌≤◌, ◌%◌, List, [], ◌∷◌, map, length, Bool, true, false, cond, Option, Some}
use Rattle.std.proofs.Common.{None, ℤ, eqb, refl, sym, ap, ◌∙◌, subst, arith}
use Rattle.std.specs.Prelude.{if◌then◌else◌, ◌&&◌, ◌||◌, slice_get}
use Rattle.std.specs.List.{filter, cons_option, range_with_len, zip}
use Rattle.std.proofs.lemmas.Bool.Decides.{nat_tests}
use Rattle.pram_model.specs.Layout.{total_size}
use Rattle.pram_values.specs.declared.kind.Kind.TheVariants.{ReadConflict}
use Rattle.pram_values.specs.Total.{total, in_class}
use Rattle.pram_values.proofs.Totals.{total_same, total_map, total_within, total_none, total_both}
use Rattle.write_rules.specs.declared.entry.Entry.{Entry}
use Rattle.superstep_machine.specs.Keys.{least}
use Rattle.superstep_machine.specs.Setting.{Setting, workers, processors, module_cells}
use Rattle.superstep_machine.specs.Parts.{Moment, Read, UniformPart, PrivatePart}
use Rattle.superstep_machine.specs.Words.{CellAsk, Message}
use Rattle.superstep_machine.specs.Worker.{Worker}
use Rattle.superstep_machine.specs.Sending.{join, cell_at, present, several, asks_for, is_several, asks_from, asks_held, sent, entry_in}
use Rattle.superstep_machine.specs.Sending.{entry_came, entry_held, verdict_on, settled, conflict_at, put_conflict, asked_in, askers_came}
use Rattle.superstep_machine.specs.Sending.{is_private, read_conflict, read_conflicts}
use Rattle.superstep_machine.specs.Sending as sending
use Rattle.superstep_machine.proofs.KeyOrder.{keys_are_monoid}
use Rattle.superstep_machine.proofs.Collected.{askers_are_monoid}
use Rattle.superstep_machine.proofs.CellPuts.{has, puts_message}
use Rattle.flat_machine.specs.Flat.{Flat, range}
use Rattle.flat_machine.specs.Flat as flat
use Rattle.flat_machine.specs.Flatness.{IsMapFor}
use Rattle.flat_machine.proofs.Relation.{wants, Splits}
use Rattle.superstep_machine.proofs.Numbers.{same_number, with_itself}
use Rattle.flat_machine.proofs.Lists.{all_below, map_twice, map_each, zip_map}
use Rattle.flat_machine.proofs.Opening.{no_cell}
use Rattle.flat_machine.proofs.Instructions.{by_workers}
use Rattle.flat_machine.proofs.Modules.{of_modules_each}
use Rattle.flat_machine.proofs.Messages.{askers_of, asks_message, wants_asked}

-- ---- what is listed

has_behind : (c : ℕ) (o : Option ℕ) (xs : List ℕ) → has c xs ≡ true → has c (cons_option o xs) ≡ true
has_behind c None xs h = h
has_behind c (Some d) xs h = go (eqb d c)
  where
    go : (b : Bool) → (b || has c xs) ≡ true
    go true = refl
    go false = h

has_first : (c : ℕ) (o : Option ℕ) (xs : List ℕ) → o ≡ Some c → has c (cons_option o xs) ≡ true
has_first c o xs is = ap (λ (x : Option ℕ). has c (cons_option x xs)) is ∙ ap (λ b. b || has c xs) (with_itself c)

-- the cell of one of a class of processors
has_own : (cell : ℕ → Option ℕ) (class : ℕ → ℕ) (c w v : ℕ) → class v ≡ w → cell v ≡ Some c → (n k : ℕ) → k ≤ v → v < k + n →
    has c (present (map cell (in_class class w (range_with_len k n)))) ≡ true
has_own cell class c w v here is zero k low high = absurd (omega (arith, low, high))
has_own cell class c w v here is (suc n) k low high =
    go (λ above. has_own cell class c w v here is n (k + 1) above (omega (arith, high))) (eqb k v) refl
  where
    others : List ℕ
    others = in_class class w (range_with_len (k + 1) n)

    first : (b : Bool) → eqb k v ≡ true → eqb (class k) w ≡ b → has c (present (map cell (cond b (k ∷ others) others))) ≡ true
    first true at e = has_first c (cell k) (present (map cell others)) (ap cell (same_number k v at) ∙ is)
    first false at e = let no : true ≡ false = sym (with_itself w) ∙ ap (λ j. eqb j w) (sym here ∙ ap class (sym (same_number k v at)))
        ∙ e in absurd (cc)

    later : (b : Bool) → has c (present (map cell others)) ≡ true → has c (present (map cell (cond b (k ∷ others) others))) ≡ true
    later true h = has_behind c (cell k) (present (map cell others)) h
    later false h = h

    go : (k + 1 ≤ v → has c (present (map cell others)) ≡ true) → (b : Bool) → eqb k v ≡ b →
        has c (present (map cell (cond (eqb (class k) w) (k ∷ others) others))) ≡ true
    go rest true at = first (eqb (class k) w) at refl
    go rest false at = later (eqb (class k) w) (rest (grind (arith, nat_tests, low, at)))

-- a uniform read that asks for a cell
uniform_at : (reads : List Read) (i c : ℕ) → cell_at i (map (λ (r : Read). r.cell) reads) ≡ Some c →
    (i < length reads) × ((read : Read) → slice_get reads i ≡ Some read → read.cell ≡ Some c)
uniform_at [] i c h = no_cell i c h
uniform_at (first ∷ rest) zero c h = (omega arith, λ read is. let same : first ≡ read = cc in ap (λ (r : Read). r.cell) (sym same) ∙ h)
uniform_at (first ∷ rest) (suc i) c h = let there = uniform_at rest i c h in (let l = there.0 in omega (arith, l), there.1)

-- ---- nothing is in conflict

no_put : (put : Option Moment) (c : ℕ) → put_conflict put c None ≡ None
no_put None c = refl
no_put (Some at) c = refl

not_both : (b : Bool) → (b && false) ≡ false
not_both true = refl
not_both false = refl

not_asked : (n c : ℕ) (o : Option ℕ) → ((d : ℕ) → o ≡ Some d → d < n) → n ≤ c → asks_for c o ≡ None
not_asked n c None h above = refl
not_asked n c (Some d) h above = let below = h d refl in let apart : eqb d c ≡ false = grind (arith, nat_tests, below, above) in
    rw apart refl

module _ (t : Setting) (fits : IsMapFor t.code t.map) where
  abbrev all : List ℕ
  all = range_with_len 0 (workers t)

  -- the messages to module w
  abbrev pub column : (ℕ → Worker) → ℕ → List Message
  column ws w = map (λ i. sent t (ws i) w) all

  in_it : (c w : ℕ) → t.map.part c ≡ w → eqb (t.map.part c) w ≡ true
  in_it c w here = ap (λ j. eqb j w) here ∙ with_itself w

  -- ---- the puts

  pub entries_came : (f : Flat) (ws : ℕ → Worker) → Splits t f ws → (w c : ℕ) → t.map.part c ≡ w →
      entry_came t.code.rule (column ws w) c ≡ f.held c
  entries_came f ws s w c here =
      let rule = t.code.rule in
      total_map None (join rule) (λ (m : Message). total None (join rule) (entry_in c) m.puts) (λ i. sent t (ws i) w) all
      ∙ total_same None (join rule) (λ i. total None (join rule) (entry_in c) (sent t (ws i) w).puts) (λ i. entry_held rule (ws i) c)
      (λ i. puts_message rule (ws i) c (λ d. eqb (t.map.part d) w) (in_it c w here)) all
      ∙ s.held c

  pub cells_sent : (f : Flat) (ws : ℕ → Worker) → Splits t f ws → (w : ℕ) → w < workers t →
      (sending.after_send t w (ws w) (column ws w)).cells ≡ map (flat.after_send t.code f).memory (module_cells t w)
  cells_sent f ws s w w_below =
      let rule = t.code.rule in
      let offsets = range_with_len 0 (t.map.width w) in
      let old = λ (o : ℕ). f.memory (t.map.cell w o) in
      let step = λ (x : ℕ × ℤ). settled (verdict_on rule (entry_came rule (column ws w) (t.map.cell w x.0))) x.1 in
      let next = λ (c : ℕ). settled (verdict_on rule (f.held c)) (f.memory c) in
      ap (λ (values : List ℤ). map step (zip offsets values)) (s.cells w w_below ∙ map_twice f.memory (t.map.cell w) offsets)
      ∙ ap (map step) (zip_map old offsets)
      ∙ map_twice step (λ o. (o, old o)) offsets
      ∙ map_each (λ o. step (o, old o)) (λ o. next (t.map.cell w o)) offsets
      (all_below (λ o. step (o, old o) ≡ next (t.map.cell w o)) (t.map.width w) 0
      (λ o l. ap (λ e. settled (verdict_on rule e) (old o))
      (entries_came f ws s w (t.map.cell w o) (fits.lawful.forth w o w_below (omega (arith, l))).here)))
      ∙ sym (map_twice next (t.map.cell w) offsets)

  -- the conflicts of what was held
  pub owed_by_modules : (f : Flat) (ws : ℕ → Worker) → Splits t f ws →
      total None least (λ w. total None least
      (λ c. put_conflict f.uniform.put c (verdict_on t.code.rule (entry_came t.code.rule (column ws w) c)))
      (module_cells t w)) all ≡ flat.owed t.code f
  owed_by_modules f ws s =
      let conflict = λ (c : ℕ) (e : Option Entry). put_conflict f.uniform.put c (verdict_on t.code.rule e) in
      of_modules_each t fits None least keys_are_monoid (λ c. conflict c (f.held c))
      (λ w c. conflict c (entry_came t.code.rule (column ws w) c))
      (λ w c below here. ap (conflict c) (entries_came f ws s w c here))
      (λ c above. ap (conflict c) (s.ranged.held c above) ∙ no_put f.uniform.put c)

  -- ---- the asks

  -- by a read without a cell of its own
  pub askers_are : (f : Flat) (ws : ℕ → Worker) → Splits t f ws → (w k c : ℕ) (read : Read) → t.map.part c ≡ w →
      slice_get f.uniform.asks k ≡ Some read →
      read.cell ≡ None →
      askers_came (column ws w) k c ≡ flat.askers f k c
  askers_are f ws s w k c read here is own =
      let asked = λ (v : ℕ). asks_for c (cell_at k (f.own v).asks) in
      let test = λ (d : ℕ). eqb (t.map.part d) w in
      let start : 0 + k ≡ k = omega arith in
      total_map None several (λ (m : Message). total None several (asked_in k c) m.asks) (λ i. sent t (ws i) w) all
      ∙ total_within None several (λ i. total None several (asked_in k c) (sent t (ws i) w).asks)
      (λ i. total None several asked (processors t i f.uniform.width)) (workers t) 0
      (λ i l. let below : i < workers t = omega (arith, l) in
      ap (λ (u : UniformPart). total None several (asked_in k c) (filter (λ (x : CellAsk). test x.cell) (asks_from (ws i) 0 u.asks)))
      (s.uniform i below)
      ∙ subst (λ n. total None several (asked_in n c)
      (filter (λ (x : CellAsk). test x.cell) (asks_from (ws i) 0 f.uniform.asks)) ≡ askers_of
      (ws i) n c) start
      (asks_message (ws i) f.uniform.asks 0 k c read test (in_it c w here) is own)
      ∙ ap (total None several (λ (x : PrivatePart). asks_for c (cell_at k x.asks))) (s.own i below)
      ∙ total_map None several (λ (x : PrivatePart). asks_for c (cell_at k x.asks)) f.own (processors t i f.uniform.width))
      ∙ by_workers t fits None several askers_are_monoid asked f.uniform.width

  none_ask : (f : Flat) (ws : ℕ → Worker) → Splits t f ws → (k c : ℕ) → total_size t.code.layout ≤ c → flat.askers f k c ≡ None
  none_ask f ws s k c above =
      total_none None several askers_are_monoid (λ v. asks_for c (cell_at k (f.own v).asks))
      (λ v. not_asked (total_size t.code.layout) c (cell_at k (f.own v).asks) (λ d is. s.ranged.own v k d is) above) (range f)

  -- whether module w finds as many askers by such reads as there are
  abbrev pub Finds : Flat → (ℕ → Worker) → ℕ → List Read → Type 0
  Finds f ws n reads = (i : ℕ) (read : Read) → slice_get reads i ≡ Some read → (w c : ℕ) → w < workers t → t.map.part c ≡ w →
      (is_private read.side && is_several (askers_came (column ws w) (n + i) c)) ≡ (is_private read.side
      && is_several (flat.askers f (n + i) c))

  pub reads_by_modules : (f : Flat) (ws : ℕ → Worker) → Splits t f ws → (reads : List Read) (n : ℕ) → Finds f ws n reads →
      total None least (λ w. read_conflicts (column ws w) (module_cells t w) n reads) all ≡ flat.read_conflicts t.code f n reads
  reads_by_modules f ws s [] n finds = total_none None least keys_are_monoid (λ w. None) (λ w. refl) all
  reads_by_modules f ws s (read ∷ rest) n finds =
      let key = λ (c : ℕ) (b : Bool). if b then Some (conflict_at read.moment c ReadConflict) else None in
      let came = λ (w c : ℕ). is_private read.side && is_several (askers_came (column ws w) n c) in
      let found = λ (c : ℕ). is_private read.side && is_several (flat.askers f n c) in
      let first = λ (w : ℕ). total None least (λ c. key c (came w c)) (module_cells t w) in
      let others = λ (w : ℕ). read_conflicts (column ws w) (module_cells t w) (n + 1) rest in
      let here : n + 0 ≡ n = omega arith in
      total_both None least keys_are_monoid first others all
      ∙ ap (λ k. least k (total None least others all))
      (of_modules_each t fits None least keys_are_monoid (λ c. key c (found c)) (λ w c. key c (came w c))
      (λ w c below at. ap (key c)
      (subst (λ k. (is_private read.side && is_several (askers_came (column ws w) k c)) ≡ (is_private read.side
      && is_several (flat.askers f k c))) here
      (finds 0 read refl w c below at)))
      (λ c above. ap (key c) (ap (λ o. is_private read.side && is_several o) (none_ask f ws s n c above)
      ∙ not_both (is_private read.side))))
      ∙ ap (least (flat.read_conflict t.code f n read))
      (reads_by_modules f ws s rest (n + 1) (λ i r is w c below at. let on : n + suc i ≡ n + 1 + i = omega arith in
      subst (λ k. (is_private r.side && is_several (askers_came (column ws w) k c)) ≡ (is_private r.side && is_several (flat.askers f k c)))
      on
      (finds (suc i) r is w c below at)))

  -- ---- what a worker awaits it has asked for

  pub wants_uniform_sent : (f : Flat) (ws : ℕ → Worker) → Splits t f ws → (w : ℕ) → w < workers t → (k c : ℕ) →
      cell_at k (map (λ (r : Read). r.cell) f.uniform.asks) ≡ Some c →
      wants k c (asks_held (ws w)) ≡ true
  wants_uniform_sent f ws s w w_below k c is =
      let there = uniform_at f.uniform.asks k c is in
      let start : 0 + k ≡ k = omega arith in
      let own = λ (n : ℕ). present (map (λ (x : PrivatePart). cell_at n x.asks) (ws w).own) in
      ap (λ (u : UniformPart). wants k c (asks_from (ws w) 0 u.asks)) (s.uniform w w_below)
      ∙ subst (λ n. wants n c (asks_from (ws w) 0 f.uniform.asks) ≡ true) start
      (wants_asked (ws w) f.uniform.asks 0 k c there.0 (λ read at. has_first c read.cell (own (0 + k)) (there.1 read at)))

  pub wants_own_sent : (f : Flat) (ws : ℕ → Worker) → Splits t f ws → (w v : ℕ) → w < workers t → v < f.uniform.width → v % workers t ≡ w →
      (k c : ℕ) →
      k < length f.uniform.asks →
      cell_at k (f.own v).asks ≡ Some c → wants k c (asks_held (ws w)) ≡ true
  wants_own_sent f ws s w v w_below v_below here k c few is =
      let start : 0 + k ≡ k = omega arith in
      let own = λ (n : ℕ). present (map (λ (x : PrivatePart). cell_at n x.asks) (ws w).own) in
      let listed : has c (own k) ≡ true =
      ap (λ (xs : List PrivatePart). has c (present (map (λ (x : PrivatePart). cell_at k x.asks) xs))) (s.own w w_below)
      ∙ ap (λ (cells : List (Option ℕ)). has c (present cells))
      (map_twice (λ (x : PrivatePart). cell_at k x.asks) f.own (processors t w f.uniform.width))
      ∙ has_own (λ u. cell_at k (f.own u).asks) (λ u. u % workers t) c w v here is f.uniform.width 0 (omega arith)
      (omega (arith, v_below)) in
      ap (λ (u : UniformPart). wants k c (asks_from (ws w) 0 u.asks)) (s.uniform w w_below)
      ∙ subst (λ n. wants n c (asks_from (ws w) 0 f.uniform.asks) ≡ true) start
      (wants_asked (ws w) f.uniform.asks 0 k c few
      (λ read at. has_behind c read.cell (own (0 + k)) (subst (λ n. has c (own n) ≡ true) (sym start) listed)))
