-- A vote and a reply of the workers are those of the flat machine.
use Rattle.std.proofs.Common.{◌≡◌, ℕ, zero, suc, ◌+◌, ◌<◌, ◌%◌, List, [], ◌∷◌, map, length, Bool, true, false, cond, Option, Some, None, ℤ}
use Rattle.std.proofs.Common.{pos, eqb, refl, sym, ap, ◌∙◌, subst, arith}
use Rattle.std.specs.Prelude.{if◌then◌else◌, ◌&&◌, ◌||◌, slice_index_or}
use Rattle.std.specs.List.{filter, list_any, range_with_len, zip}
use Rattle.pram_model.specs.Layout.{total_size}
use Rattle.pram_values.specs.Total.{IsMonoid, total}
use Rattle.pram_values.specs.Truth.{truth}
use Rattle.pram_values.proofs.Totals.{total_map, total_within}
use Rattle.superstep_machine.specs.Setting.{Setting, workers, processors}
use Rattle.superstep_machine.specs.Parts.{Registers, set_register, Read, UniformPart}
use Rattle.superstep_machine.specs.Steps.{is_active}
use Rattle.superstep_machine.specs.Words.{CellAsk, Message, blank}
use Rattle.superstep_machine.specs.Worker.{Worker}
use Rattle.superstep_machine.specs.Sending.{cell_at}
use Rattle.superstep_machine.specs.Answering.{replied, look_up, value_came, answer, answers, destinations, uniform_answered, own_answered}
use Rattle.superstep_machine.specs.Answering.{voted}
use Rattle.superstep_machine.specs.Answering as answering
use Rattle.flat_machine.specs.Flat.{Flat, range, any_active}
use Rattle.flat_machine.specs.Flat as flat
use Rattle.flat_machine.specs.Flatness.{IsMapFor}
use Rattle.flat_machine.proofs.Relation.{wants, Splits}
use Rattle.superstep_machine.proofs.Numbers.{same_number, with_itself}
use Rattle.flat_machine.proofs.Lists.{all_below, map_twice, map_class, zip_map, item_at}
use Rattle.flat_machine.proofs.Opening.{no_cell}
use Rattle.flat_machine.proofs.Instructions.{by_workers}
use Rattle.pram_model.proofs.Truths.{both}

-- ---- whether any is active, as a sum

or_again : (a b c : Bool) → ((a || b) || c) ≡ (a || (b || c))
or_again true b c = refl
or_again false b c = refl

or_turned : (a b : Bool) → (a || b) ≡ (b || a)
or_turned true true = refl
or_turned true false = refl
or_turned false true = refl
or_turned false false = refl

tests_are_monoid : IsMonoid Bool false ◌||◌
tests_are_monoid = record { neutral = λ b. refl; associative = or_again; commutative = or_turned }

any_is_sum : {A : Type 0} (test : A → Bool) (xs : List A) → list_any test xs ≡ total false ◌||◌ test xs
any_is_sum test [] = refl
any_is_sum test (x ∷ xs) = ap (λ b. test x || b) (any_is_sum test xs)

-- ---- which values are looked at

-- values that agree for the cells that are asked for, from read k on
answers_same : (v w : ℕ → ℕ → ℤ) (k : ℕ) (asked : List (ℕ × Option ℕ)) →
    ((i c : ℕ) → cell_at i (map (λ (x : ℕ × Option ℕ). x.1) asked) ≡ Some c → v (k + i) c ≡ w (k + i) c) →
    (r : Registers) → answers v k asked r ≡ answers w k asked r
answers_same v w k [] same r = refl
answers_same v w k ((d, cell) ∷ rest) same r =
    ap (answers v (k + 1) rest) (go cell (λ c is. let here : k + 0 ≡ k = omega arith in subst (λ n. v n c ≡ w n c) here (same 0 c is)))
    ∙ answers_same v w (k + 1) rest (λ i c is. let on : k + suc i ≡ k + 1 + i = omega arith in
    subst (λ n. v n c ≡ w n c) on (same (suc i) c is))
    (answer (w k) d cell r)
  where
    go : (o : Option ℕ) → ((c : ℕ) → o ≡ Some c → v k c ≡ w k c) → answer (v k) d o r ≡ answer (w k) d o r
    go None h = refl
    go (Some c) h = ap (λ value. set_register d value r) (h c refl)

-- of two lists side by side, what stands in the second stands in it alone, and the first is as long
second_at : (i c : ℕ) (ds : List ℕ) (cells : List (Option ℕ)) → cell_at i (map (λ (x : ℕ × Option ℕ). x.1) (zip ds cells)) ≡ Some c →
    (i < length ds) × (cell_at i cells ≡ Some c)
second_at i c [] cells h = no_cell i c h
second_at i c (d ∷ ds) [] h = no_cell i c h
second_at zero c (d ∷ ds) (cell ∷ cells) h = (omega arith, h)
second_at (suc i) c (d ∷ ds) (cell ∷ cells) h = let rest = second_at i c ds cells h in (let l = rest.0 in omega (arith, l), rest.1)

as_many : (reads : List Read) → length (destinations reads) ≡ length reads
as_many [] = refl
as_many (read ∷ reads) = ap suc (as_many reads)

-- ---- what comes for an ask

-- a test of the cell, which c passes, keeps what asks for it
pub wants_filtered : (k c : ℕ) (test : ℕ → Bool) → test c ≡ true → (asks : List CellAsk) →
    wants k c (filter (λ (x : CellAsk). test x.cell) asks) ≡ wants k c asks
wants_filtered k c test h [] = refl
wants_filtered k c test h (x ∷ asks) = go (wants_filtered k c test h asks) (test x.cell) refl (eqb x.read k && eqb x.cell c) refl
  where
    go : wants k c (filter (λ (y : CellAsk). test y.cell) asks) ≡ wants k c asks → (b : Bool) → test x.cell ≡ b → (a : Bool) →
        (eqb x.read k && eqb x.cell c) ≡ a →
        wants k c (cond b (x ∷ filter (λ (y : CellAsk). test y.cell) asks) (filter (λ (y : CellAsk). test y.cell) asks))
        ≡ ((eqb x.read k && eqb x.cell c) || wants k c asks)
    go rest true e a is = ap (λ z. (eqb x.read k && eqb x.cell c) || z) rest
    go rest false e true is =
        absurd (let same = same_number x.cell c ((both (eqb x.read k) (eqb x.cell c) is).1) in let no : true ≡ false = sym h ∙ ap test
        (sym same) ∙ e in cc)
    go rest false e false is = rest ∙ ap (λ z. z || wants k c asks) (sym is)

-- a value of each ask by its cell
found : (k c : ℕ) (value : ℕ → ℤ) (asks : List CellAsk) → wants k c asks ≡ true →
    look_up k c (map (λ (x : CellAsk). (x, value x.cell)) asks) ≡ value c
found k c value [] h = absurd (cc)
found k c value (x ∷ asks) h = go (eqb x.read k && eqb x.cell c) refl h (found k c value asks)
  where
    go : (a : Bool) → (eqb x.read k && eqb x.cell c) ≡ a → (a || wants k c asks) ≡ true →
        (wants k c asks ≡ true → look_up k c (map (λ (y : CellAsk). (y, value y.cell)) asks) ≡ value c) →
        (if a then value x.cell else look_up k c (map (λ (y : CellAsk). (y, value y.cell)) asks)) ≡ value c
    go true is w rest = ap value (same_number x.cell c ((both (eqb x.read k) (eqb x.cell c) is).1))
    go false is w rest = rest w

module _ (t : Setting) (fits : IsMapFor t.code t.map) where
  abbrev all : List ℕ
  all = range_with_len 0 (workers t)

  -- ---- a vote

  any_voted : (f : Flat) (ws : ℕ → Worker) → Splits t f ws → list_any (λ (m : Message). m.active)
      (map (λ i. voted (ws i)) all) ≡ any_active f
  any_voted f ws s =
      let active = λ (v : ℕ). is_active (f.own v) in
      let own = λ (w : ℕ). total false ◌||◌ active (processors t w f.uniform.width) in
      any_is_sum (λ (m : Message). m.active) (map (λ i. voted (ws i)) all)
      ∙ total_map false ◌||◌ (λ (m : Message). m.active) (λ i. voted (ws i)) all
      ∙ total_within false ◌||◌ (λ w. list_any is_active (ws w).own) own (workers t) 0
      (λ w h. let below : w < workers t = omega (arith, h) in
      ap (list_any is_active) (s.own w below)
      ∙ any_is_sum is_active (map f.own (processors t w f.uniform.width))
      ∙ total_map false ◌||◌ is_active f.own (processors t w f.uniform.width))
      ∙ by_workers t fits false ◌||◌ tests_are_monoid active f.uniform.width
      ∙ sym (any_is_sum active (range f))

  pub splits_vote : (d : ℕ) (f : Flat) (ws : ℕ → Worker) → Splits t f ws →
      Splits t (flat.after_vote d f) (λ w. answering.after_vote d (ws w) (map (λ i. voted (ws i)) (range_with_len 0 (workers t))))
  splits_vote d f ws s = record {
    uniform = λ w h.
        ap (λ b. let u = (ws w).uniform in record u { registers = set_register d (truth b) u.registers }) (any_voted f ws s)
        ∙ ap (λ (u : UniformPart). record u { registers = set_register d (truth (any_active f)) u.registers }) (s.uniform w h);
    own = s.own;
    cells = s.cells;
    held = s.held;
    key = s.key;
    taken = s.taken;
    wants_uniform = s.wants_uniform;
    wants_own = s.wants_own;
    ranged = let r = s.ranged in record {
      own = r.own;
      own_awaited = r.own_awaited;
      uniform = r.uniform;
      uniform_awaited =
          r.uniform_awaited;
      sides = r.sides;
      held = r.held;
      level = r.level;
    };
  }

  -- ---- a reply

  abbrev came : (ℕ → Worker) → ℕ → ℕ → ℕ → ℤ
  came ws w = value_came t (ws w) (map (λ i. replied t (ws i) w) all)

  -- the value of a cell is in its module
  in_module : (f : Flat) (ws : ℕ → Worker) → Splits t f ws → (c : ℕ) → c < t.map.count →
      slice_index_or (ws (t.map.part c)).cells (t.map.offset c) (pos 0) ≡ f.memory c
  in_module f ws s c below =
      let j = t.map.part c in
      let o = t.map.offset c in
      ap (λ (xs : List ℤ). slice_index_or xs o (pos 0))
      (s.cells j (fits.lawful.part_below c below) ∙ map_twice f.memory (t.map.cell j) (range_with_len 0 (t.map.width j)))
      ∙ item_at (λ i. f.memory (t.map.cell j i)) (t.map.width j) o (pos 0) (fits.lawful.offset_below c below)
      ∙ ap f.memory (fits.lawful.back c below)

  -- what worker w gets for a cell that it wanted
  value_is : (f : Flat) (ws : ℕ → Worker) → Splits t f ws → (w k c : ℕ) → w < workers t → c < total_size t.code.layout →
      wants k c (ws w).wanted ≡ true →
      came ws w k c ≡ f.memory c
  value_is f ws s w k c w_below c_below wanted =
      let below : c < t.map.count = let room = fits.room in omega (arith, c_below, room) in
      let j = t.map.part c in
      let j_below = fits.lawful.part_below c below in
      let value = λ (d : ℕ). slice_index_or (ws j).cells (t.map.offset d) (pos 0) in
      let asked = filter (λ (x : CellAsk). eqb (t.map.part x.cell) j) (ws w).wanted in
      ap (λ (m : Message). look_up k c (zip asked m.values)) (item_at (λ i. replied t (ws i) w) (workers t) j blank j_below)
      ∙ ap (λ (cells : List ℕ). look_up k c (zip asked (map value cells))) (s.taken j w j_below w_below)
      ∙ ap (λ (values : List ℤ). look_up k c (zip asked values)) (map_twice value (λ (x : CellAsk). x.cell) asked)
      ∙ ap (look_up k c) (zip_map (λ (x : CellAsk). value x.cell) asked)
      ∙ found k c value asked (wants_filtered k c (λ d. eqb (t.map.part d) j) (with_itself j) (ws w).wanted ∙ wanted)
      ∙ in_module f ws s c below

  abbrev now : Flat → ℕ → ℕ → ℤ
  now f k c = f.memory c

  from_start : (v w : ℕ → ℕ → ℤ) (i c : ℕ) → v i c ≡ w i c → v (0 + i) c ≡ w (0 + i) c
  from_start v w i c h = let start : i ≡ 0 + i = omega arith in subst (λ n. v n c ≡ w n c) start h

  uniform_same : (f : Flat) (ws : ℕ → Worker) → Splits t f ws → (w : ℕ) → w < workers t →
      uniform_answered (came ws w) f.uniform ≡ uniform_answered (now f) f.uniform
  uniform_same f ws s w h =
      let u = f.uniform in
      let asked = map (λ (x : Read). (x.destination, x.cell)) u.awaited in
      ap (λ (r : Registers). record u { registers = r; awaited = [] })
      (answers_same (came ws w) (now f) 0 asked (λ i c is.
      let here = ap (cell_at i) (sym (map_twice (λ (x : ℕ × Option ℕ). x.1) (λ (x : Read). (x.destination, x.cell)) u.awaited)) ∙ is in
      from_start (came ws w) (now f) i c (value_is f ws s w i c h (s.ranged.uniform_awaited i c here) (s.wants_uniform w h i c here)))
      u.registers)

  own_same : (f : Flat) (ws : ℕ → Worker) → Splits t f ws → (w v : ℕ) → w < workers t → v < f.uniform.width → v % workers t ≡ w →
      own_answered (came ws w) f.uniform.awaited (f.own v) ≡ own_answered (now f) f.uniform.awaited (f.own v)
  own_same f ws s w v w_below v_below here =
      let x = f.own v in
      let asked = zip (destinations f.uniform.awaited) x.awaited in
      ap (λ (r : Registers). record x { registers = r; awaited = [] })
      (answers_same (came ws w) (now f) 0 asked (λ i c is.
      let at = second_at i c (destinations f.uniform.awaited) x.awaited is in
      let few : i < length f.uniform.awaited = subst (λ n. i < n) (as_many f.uniform.awaited) at.0 in
      from_start (came ws w) (now f) i c
      (value_is f ws s w i c w_below (s.ranged.own_awaited v i c at.1) (s.wants_own w v w_below v_below here i c few at.1)))
      x.registers)

  own_replied : (f : Flat) (ws : ℕ → Worker) → Splits t f ws → (w : ℕ) → w < workers t →
      map (own_answered (came ws w) (ws w).uniform.awaited) (ws w).own ≡ map (flat.after_reply f).own (processors t w f.uniform.width)
  own_replied f ws s w h =
      let vs = processors t w f.uniform.width in
      let answered = own_answered (came ws w) f.uniform.awaited in
      ap (λ (u : UniformPart). map (own_answered (came ws w) u.awaited) (ws w).own) (s.uniform w h)
      ∙ ap (map answered) (s.own w h)
      ∙ map_twice answered f.own vs
      ∙ map_class (λ v. answered (f.own v)) (λ v. own_answered (now f) f.uniform.awaited (f.own v)) (λ v. v % workers t) w
      (range_with_len 0 f.uniform.width)
      (all_below (λ v. v % workers t ≡ w → answered (f.own v) ≡ own_answered (now f) f.uniform.awaited (f.own v)) f.uniform.width 0
      (λ v l here. own_same f ws s w v h (omega (arith, l)) here))

  pub splits_reply : (f : Flat) (ws : ℕ → Worker) → Splits t f ws →
      Splits t (flat.after_reply f) (λ w. answering.after_reply t (ws w) (map (λ i. replied t (ws i) w) (range_with_len 0 (workers t))))
  splits_reply f ws s = record {
    uniform = λ w h. ap (uniform_answered (came ws w)) (s.uniform w h) ∙ uniform_same f ws s w h;
    own = λ w h. own_replied f ws s w h;
    cells = s.cells;
    held = s.held;
    key = s.key;
    taken = λ j w j_below w_below. refl;
    wants_uniform = λ w h k c is. no_cell k c is;
    wants_own = λ w v w_below v_below here k c few is. no_cell k c is;
    ranged = let r = s.ranged in record {
      own = r.own;
      own_awaited = λ v k c is. no_cell k c is;
      uniform = r.uniform;
      uniform_awaited = λ k c is. no_cell k c is;
      sides = r.sides;
      held = r.held;
      level = r.level;
    };
  }
