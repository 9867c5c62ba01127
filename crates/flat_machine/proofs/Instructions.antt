-- An instruction of the workers is that instruction of the flat machine.
use Rattle.std.proofs.Common.{◌≡◌, ℕ, zero, suc, ◌<◌, ◌≤◌, ◌%◌, List, [], ◌∷◌, ◌++◌, map, length, Bool, true, false, Option, Some, None, ℤ}
use Rattle.std.proofs.Common.{pos, cond, eqb, refl, sym, ap, ◌∙◌, subst, arith}
use Rattle.std.specs.Prelude.{if◌then◌else◌}
use Rattle.std.specs.List.{filter_map, cons_option, range_with_len, zip}
use Rattle.pram_model.specs.Layout.{total_size}
use Rattle.pram_model.specs.declared.rule.Rule.{Rule}
use Rattle.pram_values.specs.Total.{IsMonoid, total}
use Rattle.pram_values.proofs.Totals.{total_same, total_map, total_within, neutral_right, total_both, total_joined, total_at, total_parts}
use Rattle.pram_values.proofs.Totals.{total_again}
use Rattle.write_rules.specs.declared.entry.Entry.{Entry}
use Rattle.superstep_instructions.specs.declared.instr.Side.TheVariants.{Uniform, Private}
use Rattle.superstep_instructions.specs.declared.instr.Instr.{Instr}
use Rattle.superstep_instructions.specs.declared.instr.Instr.TheVariants.{Enter, Leave, Ask}
use Rattle.superstep_machine.specs.declared.key.Key.{Key}
use Rattle.superstep_instructions.specs.Code.{SuperstepCode}
use Rattle.superstep_machine.specs.Keys.{least}
use Rattle.superstep_machine.specs.Setting.{Setting, workers, processors}
use Rattle.superstep_machine.specs.Parts.{Read, UniformPart, PrivatePart, fresh}
use Rattle.superstep_machine.specs.Steps.{on_uniform, uniform_key, uniform_write, index_of, on_own, own_key, own_write, is_put, renews}
use Rattle.superstep_machine.specs.Worker.{Worker, numbered, by_processor, uniform_writes, own_writes}
use Rattle.superstep_machine.specs.Worker as worker
use Rattle.superstep_machine.specs.Sending.{join, cell_at, entry_to, entry_held}
use Rattle.superstep_machine.proofs.KeyOrder.{keys_are_monoid, least_again}
use Rattle.superstep_machine.proofs.Collected.{entries_are_monoid}
use Rattle.flat_machine.specs.Flat.{Flat, single_to, written}
use Rattle.flat_machine.specs.Flat as flat
use Rattle.flat_machine.specs.Flatness.{IsMapFor}
use Rattle.flat_machine.proofs.Relation.{IsRanged, wants, Splits}
use Rattle.superstep_machine.proofs.Numbers.{turned}
use Rattle.flat_machine.proofs.Lists.{remainder_below, all_by, map_twice, zip_map}
use Rattle.flat_machine.proofs.Opening.{no_cell}
use Rattle.flat_machine.proofs.Depths.{level_after}
use Rattle.flat_machine.proofs.Ranges.{uniform_below, own_below, uniform_awaited_stays, own_awaited_stays, none_written, by_side_stays}

-- the width changes only where all processors are new
pub same_width : (code : SuperstepCode) (i : Instr) (u : UniformPart) → renews i ≡ false → (on_uniform code i u).width ≡ u.width
same_width code (Enter a b q) u h = absurd (cc)
same_width code Leave u h = absurd (cc)
same_width code (Ask Uniform d c s q) u h = refl
same_width code (Ask Private d c s q) u h = refl
same_width code i u h = refl

-- the writers of a cell in a list of held writes
collected : {A : Type 0} (rule : Rule) (c : ℕ) (index : A → ℤ) (write : A → Option (ℕ × ℤ)) (xs : List A) →
    total None (join rule) (entry_to rule c) (filter_map (λ x. by_processor (index x) (write x)) xs)
    ≡ total None (join rule) (λ x. single_to rule c (index x) (write x)) xs
collected rule c index write [] = refl
collected rule c index write (x ∷ xs) = go (collected rule c index write xs) (write x)
  where
    go : total None (join rule) (entry_to rule c) (filter_map (λ y. by_processor (index y) (write y)) xs)
        ≡ total None (join rule) (λ y. single_to rule c (index y) (write y)) xs → (o : Option (ℕ × ℤ)) →
        total None (join rule) (entry_to rule c)
        (cons_option (by_processor (index x) o) (filter_map (λ y. by_processor (index y) (write y)) xs))
        ≡ join rule (single_to rule c (index x) o) (total None (join rule) (λ y. single_to rule c (index y) (write y)) xs)
    go same None = same
    go same (Some (cell, value)) = ap (join rule (single_to rule c (index x) (Some (cell, value)))) same

module _ (t : Setting) (fits : IsMapFor t.code t.map) where
  abbrev all : List ℕ
  all = range_with_len 0 (workers t)

  -- a sum over the processors of each worker is one over all
  pub by_workers : {M : Type 0} (e : M) (op : M → M → M) → IsMonoid M e op → (g : ℕ → M) (width : ℕ) →
      total e op (λ w. total e op g (processors t w width)) all ≡ total e op g (range_with_len 0 width)
  by_workers e op m g width =
      total_parts e op m g (λ v. v % workers t) (workers t) (range_with_len 0 width)
      (all_by (λ v. v % workers t < workers t) (λ v. remainder_below v (workers t) fits.lawful.one) (range_with_len 0 width))

  -- a key that each worker notes
  noted_by_all : (key : Option Key) → total None least (λ w. key) all ≡ key
  noted_by_all key = go (workers t) fits.lawful.one
    where
      go : (n : ℕ) → 1 ≤ n → total None least (λ w. key) (range_with_len 0 n) ≡ key
      go zero h = absurd (omega (arith, h))
      go (suc n) h = total_again None least keys_are_monoid key (least_again key) n 0

  -- the processors of a worker, numbered
  numbers : (f : Flat) (s : Worker) (w : ℕ) → s.uniform ≡ f.uniform → s.own ≡ map f.own (processors t w f.uniform.width) →
      numbered t w s ≡ map (λ v. (v, f.own v)) (processors t w f.uniform.width)
  numbers f s w same own =
      ap (λ (u : UniformPart). zip (processors t w u.width) s.own) same
      ∙ ap (zip (processors t w f.uniform.width)) own
      ∙ zip_map f.own (processors t w f.uniform.width)

  after_own : (i : Instr) (f : Flat) (s : Worker) (w : ℕ) → s.uniform ≡ f.uniform → s.own ≡ map f.own (processors t w f.uniform.width) →
      worker.own_after t w i s ≡ map (flat.after_instr t.code i f).own (processors t w (on_uniform t.code i f.uniform).width)
  after_own i f s w same own = go (renews i) refl
    where
      go : (b : Bool) → renews i ≡ b →
          (if b then map (λ v. fresh) (processors t w (on_uniform t.code i s.uniform).width)
          else map (λ x. on_own t.code i s.uniform x.0 x.1) (numbered t w s))
          ≡ map (λ v. if b then fresh else on_own t.code i f.uniform v (f.own v)) (processors t w (on_uniform t.code i f.uniform).width)
      go true e = ap (λ (u : UniformPart). map (λ v. fresh) (processors t w (on_uniform t.code i u).width)) same
      go false e =
          let step = λ (u : UniformPart) (x : ℕ × PrivatePart). on_own t.code i u x.0 x.1 in
          ap (λ (u : UniformPart). map (step u) (numbered t w s)) same
          ∙ ap (map (step f.uniform)) (numbers f s w same own)
          ∙ map_twice (step f.uniform) (λ v. (v, f.own v)) (processors t w f.uniform.width)
          ∙ ap (λ n. map (λ v. on_own t.code i f.uniform v (f.own v)) (processors t w n)) (sym (same_width t.code i f.uniform e))

  -- the keys of a worker's processors
  keys_of : (i : Instr) (f : Flat) (s : Worker) (w : ℕ) → s.uniform ≡ f.uniform → s.own ≡ map f.own (processors t w f.uniform.width) →
      worker.noted t w i s ≡ least (uniform_key t.code i f.uniform)
      (total None least (λ v. own_key t.code i f.uniform v (f.own v)) (processors t w f.uniform.width))
  keys_of i f s w same own =
      let key = λ (u : UniformPart) (x : ℕ × PrivatePart). own_key t.code i u x.0 x.1 in
      ap (λ (u : UniformPart). least (uniform_key t.code i u) (total None least (key u) (numbered t w s))) same
      ∙ ap (λ (xs : List (ℕ × PrivatePart)). least (uniform_key t.code i f.uniform) (total None least (key f.uniform) xs))
      (numbers f s w same own)
      ∙ ap (least (uniform_key t.code i f.uniform))
      (total_map None least (key f.uniform) (λ v. (v, f.own v)) (processors t w f.uniform.width))

  after_key : (i : Instr) (f : Flat) (ws : ℕ → Worker) → Splits t f ws →
      total None least (λ w. least (ws w).key (worker.noted t w i (ws w))) all ≡ least f.key (flat.noted t.code i f)
  after_key i f ws s =
      let own = λ (w : ℕ). total None least (λ v. own_key t.code i f.uniform v (f.own v)) (processors t w f.uniform.width) in
      let every = uniform_key t.code i f.uniform in
      total_within None least (λ w. least (ws w).key (worker.noted t w i (ws w))) (λ w. least (ws w).key (least every (own w))) (workers t)
      0
      (λ w h. let below : w < workers t = omega (arith, h) in
      ap (least (ws w).key) (keys_of i f (ws w) w (s.uniform w below) (s.own w below)))
      ∙ total_both None least keys_are_monoid (λ w. (ws w).key) (λ w. least every (own w)) all
      ∙ ap (λ k. least k (total None least (λ w. least every (own w)) all)) s.key
      ∙ ap (least f.key) (total_both None least keys_are_monoid (λ w. every) own all)
      ∙ ap (λ k. least f.key (least k (total None least own all))) (noted_by_all every)
      ∙ ap (λ k. least f.key (least every k)) (by_workers None least keys_are_monoid (λ v. own_key t.code i f.uniform v (f.own v))
      f.uniform.width)

  -- ---- what is held

  -- the uniform write, as far as it is this worker's
  abbrev mine : Instr → UniformPart → ℕ → Option (ℕ × ℤ)
  mine i u w = if eqb w 0 then uniform_write t.code i u else None

  abbrev own_to : Instr → Flat → ℕ → ℕ → Option Entry
  own_to i f c v = single_to t.code.rule c (index_of f.uniform v) (own_write t.code i (f.own v))

  held_of : (i : Instr) (f : Flat) (s : Worker) (w c : ℕ) → s.uniform ≡ f.uniform → s.own ≡ map f.own (processors t w f.uniform.width) →
      total None (join t.code.rule) (entry_to t.code.rule c) (uniform_writes t w i s.uniform ++ own_writes t i s.uniform (numbered t w s))
      ≡ join t.code.rule (single_to t.code.rule c (pos 0) (mine i f.uniform w))
      (total None (join t.code.rule) (own_to i f c) (processors t w f.uniform.width))
  held_of i f s w c same own =
      let rule = t.code.rule in
      let to = entry_to rule c in
      let sum = total None (join rule) to in
      let pairs = map (λ v. (v, f.own v)) (processors t w f.uniform.width) in
      let one = mine i f.uniform w ∷ [] in
      let at = λ (x : ℕ × PrivatePart). single_to rule c (index_of f.uniform x.0) (own_write t.code i x.1) in
      ap (λ (u : UniformPart). sum (uniform_writes t w i u ++ own_writes t i u (numbered t w s))) same
      ∙ ap (λ (xs : List (ℕ × PrivatePart)). sum (uniform_writes t w i f.uniform ++ own_writes t i f.uniform xs)) (numbers f s w same own)
      ∙ total_joined None (join rule) (entries_are_monoid rule) to (uniform_writes t w i f.uniform) (own_writes t i f.uniform pairs)
      ∙ ap (λ e. join rule e (sum (own_writes t i f.uniform pairs)))
      (collected rule c (λ (x : Option (ℕ × ℤ)). pos 0) (λ (x : Option (ℕ × ℤ)). x) one
      ∙ neutral_right None (join rule) (entries_are_monoid rule)
      (single_to rule c (pos 0) (mine i f.uniform w)))
      ∙ ap (join rule (single_to rule c (pos 0) (mine i f.uniform w)))
      (collected rule c (λ (x : ℕ × PrivatePart). index_of f.uniform x.0) (λ (x : ℕ × PrivatePart). own_write t.code i x.1) pairs
      ∙ total_map None (join rule) at (λ v. (v, f.own v)) (processors t w f.uniform.width))

  -- the uniform write is held once
  written_once : (i : Instr) (u : UniformPart) (c : ℕ) →
      total None (join t.code.rule) (λ w. single_to t.code.rule c (pos 0) (mine i u w)) all ≡ single_to t.code.rule c (pos 0)
      (uniform_write t.code i u)
  written_once i u c =
      let rule = t.code.rule in
      let entry = single_to rule c (pos 0) (uniform_write t.code i u) in
      total_same None (join rule) (λ w. single_to rule c (pos 0) (mine i u w)) (λ w. cond (eqb 0 w) entry None)
      (λ w. go (eqb w 0) ∙ ap (λ b. cond b entry None) (turned w 0)) all
      ∙ total_at None (join rule) (entries_are_monoid rule) entry 0 (workers t) 0 (omega arith) (let one = fits.lawful.one in
      omega (arith, one))
    where
      go : (b : Bool) → single_to t.code.rule c (pos 0) (if b then uniform_write t.code i u else None)
          ≡ cond b (single_to t.code.rule c (pos 0) (uniform_write t.code i u)) None
      go true = refl
      go false = refl

  after_held : (i : Instr) (f : Flat) (ws : ℕ → Worker) → Splits t f ws → (c : ℕ) →
      total None (join t.code.rule) (λ w. entry_held t.code.rule (worker.after_instr t w i (ws w)) c)
      all ≡ (flat.after_instr t.code i f).held c
  after_held i f ws s c = go (is_put i)
    where
      go : (b : Bool) →
          total None (join t.code.rule) (λ w. total None (join t.code.rule) (entry_to t.code.rule c)
          (if b then uniform_writes t w i (ws w).uniform ++ own_writes t i (ws w).uniform (numbered t w (ws w)) else (ws w).held)) all
          ≡ (if b then written t.code i f c else f.held c)
      go true =
          let join = join t.code.rule in
          let first = λ (w : ℕ). single_to t.code.rule c (pos 0) (mine i f.uniform w) in
          let own = λ (w : ℕ). total None join (own_to i f c) (processors t w f.uniform.width) in
          total_within None join (λ w. total None join (entry_to t.code.rule c)
          (uniform_writes t w i (ws w).uniform ++ own_writes t i (ws w).uniform (numbered t w (ws w)))) (λ w. join (first w) (own w))
          (workers t) 0
          (λ w h. let below : w < workers t = omega (arith, h) in held_of i f (ws w) w c (s.uniform w below) (s.own w below))
          ∙ total_both None join (entries_are_monoid t.code.rule) first own all
          ∙ ap (λ e. join e (total None join own all)) (written_once i f.uniform c)
          ∙ ap (join (single_to t.code.rule c (pos 0) (uniform_write t.code i f.uniform)))
          (by_workers None join (entries_are_monoid t.code.rule) (own_to i f c) f.uniform.width)
      go false = s.held c

  -- ---- what is asked for

  after_wants : (i : Instr) (f : Flat) (ws : ℕ → Worker) → Splits t f ws → (w v : ℕ) → w < workers t →
      v < (on_uniform t.code i f.uniform).width →
      v % workers t ≡ w → (k c : ℕ) →
      k < length (on_uniform t.code i f.uniform).awaited → cell_at k ((flat.after_instr t.code i f).own v).awaited ≡ Some c →
      wants k c (ws w).wanted ≡ true
  after_wants i f ws s w v w_below v_below here k c few is = go (renews i) refl is
    where
      go : (b : Bool) → renews i ≡ b → cell_at k (if b then fresh else on_own t.code i f.uniform v (f.own v)).awaited ≡ Some c →
          wants k c (ws w).wanted ≡ true
      go true e is = no_cell k c is
      go false e is =
          s.wants_own w v w_below (subst (λ n. v < n) (same_width t.code i f.uniform e) v_below) here k c
          (subst (λ (reads : List Read). k < length reads) (uniform_awaited_stays t.code i f.uniform) few)
          (ap (cell_at k) (sym (own_awaited_stays t.code i f.uniform v (f.own v))) ∙ is)

  after_ranged : (i : Instr) (f : Flat) → IsRanged t.code f → IsRanged t.code (flat.after_instr t.code i f)
  after_ranged i f r = record {
    own = λ v k c. own v k c (renews i);
    own_awaited = λ v k c. own_awaited v k c (renews i);
    uniform = uniform_below t.code i f.uniform r.uniform;
    uniform_awaited =
        λ k c is. r.uniform_awaited k c
        (ap (λ (reads : List Read). cell_at k (map (λ (x : Read). x.cell) reads)) (sym (uniform_awaited_stays t.code i f.uniform)) ∙ is);
    sides = by_side_stays t.code i f.uniform r.sides;
    held = λ c above. held c above (is_put i);
    level = level_after t.code i f r.level;
  }
    where
      own : (v k c : ℕ) (b : Bool) → cell_at k (if b then fresh else on_own t.code i f.uniform v (f.own v)).asks ≡ Some c →
          c < total_size t.code.layout
      own v k c true is = no_cell k c is
      own v k c false is = own_below t.code i f.uniform v (f.own v) (r.own v) k c is

      own_awaited : (v k c : ℕ) (b : Bool) → cell_at k (if b then fresh else on_own t.code i f.uniform v (f.own v)).awaited ≡ Some c →
          c < total_size t.code.layout
      own_awaited v k c true is = no_cell k c is
      own_awaited v k c false is = r.own_awaited v k c (ap (cell_at k) (sym (own_awaited_stays t.code i f.uniform v (f.own v))) ∙ is)

      held : (c : ℕ) → total_size t.code.layout ≤ c → (b : Bool) → (if b then written t.code i f c else f.held c) ≡ None
      held c above true = none_written t.code i f c above
      held c above false = r.held c above

  pub splits_instr : (i : Instr) (f : Flat) (ws : ℕ → Worker) → Splits t f ws → Splits t (flat.after_instr t.code i f)
      (λ w. worker.after_instr t w i (ws w))
  splits_instr i f ws s = record {
    uniform = λ w h. ap (on_uniform t.code i) (s.uniform w h);
    own = λ w h. after_own i f (ws w) w (s.uniform w h) (s.own w h);
    cells = s.cells;
    held = after_held i f ws s;
    key = after_key i f ws s;
    taken = s.taken;
    wants_uniform = λ w h k c is.
        s.wants_uniform w h k c (ap (λ (reads : List Read). cell_at k (map (λ (x : Read). x.cell) reads))
        (sym (uniform_awaited_stays t.code i f.uniform)) ∙ is);
    wants_own = after_wants i f ws s;
    ranged = after_ranged i f s.ranged;
  }
