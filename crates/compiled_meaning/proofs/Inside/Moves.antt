-- From place to place inside pardo: instructions on masks, sends of what is held, and the opening of a loop.
use Rattle.std.proofs.Common.{◌≡◌, ℕ, ◌+◌, ◌<◌, ◌≤◌, [], ◌∷◌, length, Bool, true, false, pos, refl, sym, ap, ◌∙◌, subst, arith}
use Rattle.std.proofs.Common.{length-append}
use Rattle.superstep_instructions.specs.declared.instr.Side.TheVariants.{Private}
use Rattle.superstep_instructions.specs.declared.instr.Instr.{Instr}
use Rattle.superstep_instructions.specs.declared.instr.Instr.TheVariants.{Set, Mask, Flip, Unmask}
use Rattle.superstep_machine.specs.Parts.{Registers}
use Rattle.superstep_machine.specs.Steps.{is_active, is_put}
use Rattle.pram_check.specs.Checked.{Checked}
use Rattle.pram_meaning.specs.Store.{State}
use Rattle.flat_machine.specs.Flat.{Flat, after_instr}
use Rattle.flat_stretches.specs.Applied.{applied}
use Rattle.flat_stretches.specs.Along.{Run, IsAt, works}
use Rattle.flat_stretches.specs.Folds.{Stand}
use Rattle.flat_stretches.specs.Frames.{Frame, StandsIn, present, held_in, Keeps, looping, opened}
use Rattle.flat_stretches.specs.Tells.{is_quiet}
use Rattle.flat_stretches.proofs.Applied.{instructions_apply}
use Rattle.flat_stretches.proofs.Joins.{stands_split}
use Rattle.flat_stretches.proofs.Loops.{loops_open}
use Rattle.plain_form.specs.Registers.{behind_locals}
use Rattle.plain_form.specs.Shapes.{flush, flagged}
use Rattle.compiled_formulas.specs.Inside.{ShowsInside}
use Rattle.exchange_bound.specs.Bound.{one_if}
use Rattle.compiled_meaning.proofs.EachStatement.Places.{between_at, work_between, flushed}
use Rattle.compiled_meaning.specs.Within.{IsWithin}
use Rattle.compiled_meaning.proofs.Inside.Parts.{within_seen}
use Rattle.compiled_meaning.proofs.Inside.Locals.{either_same, either_other}
use Rattle.compiled_meaning.proofs.Inside.Shown.{still_inside, mask_shows, flip_shows, unmask_shows}

module _ (p : Checked) (t : Run) (locals base : ℕ) (fr : Frame) (held : Bool) (m : State) where
  -- the same place written in another way
  pub within_at : (place other spent more : ℕ) (f : Flat) → place ≡ other → spent ≤ more →
      IsWithin p t locals base fr held m place spent f → IsWithin p t locals base fr held m other more f
  within_at place other spent more f e l w = record {
    between = between_at t held m f place other spent more e l w.between;
    shows = w.shows;
    stands = w.stands;
    sizes = w.sizes;
    locals_of = w.locals_of;
    values = w.values;
  }

  module _ (place spent : ℕ) (f : Flat) (w : IsWithin p t locals base fr held m place spent f) where
    abbrev seen : Flat
    seen = applied t.code f

    moved_within : (other : ℕ) (frame : Frame) (i : Instr) → IsAt t place i → works i ≡ true → is_put i ≡ false → is_quiet i ≡ true →
        (after_instr t.code i f).uniform.count ≡ f.uniform.count → (after_instr t.code i f).uniform.output ≡ f.uniform.output →
        ShowsInside p locals m (after_instr t.code i seen) → StandsIn (behind_locals locals) other frame (after_instr t.code i seen) →
        IsWithin p t locals other frame held m (place + 1) spent (after_instr t.code i f)
    moved_within other frame i at k put quiet c o shows stands = record {
      between = work_between t held m place spent f w.between i at k put quiet c o;
      shows = subst (ShowsInside p locals m) (sym (instructions_apply t.code i f put)) shows;
      stands = subst (StandsIn (behind_locals locals) other frame) (sym (instructions_apply t.code i f put)) stands;
      sizes = w.sizes;
      locals_of = w.locals_of;
      values = w.values;
    }

    pub flip_within : (frame : Frame) → IsAt t place Flip → StandsIn (behind_locals locals) base frame (after_instr t.code Flip seen) →
        IsWithin p t locals base frame held m (place + 1) spent (after_instr t.code Flip f)
    flip_within frame at stands =
        moved_within base frame Flip at refl refl refl refl refl (flip_shows p locals m t.code seen w.shows) stands

    pub unmask_within : (other : ℕ) (frame : Frame) → IsAt t place Unmask →
        StandsIn (behind_locals locals) other frame (after_instr t.code Unmask seen) →
        IsWithin p t locals other frame held m (place + 1) spent (after_instr t.code Unmask f)
    unmask_within other frame at stands =
        moved_within other frame Unmask at refl refl refl refl refl (unmask_shows p locals m t.code seen w.shows) stands

    -- the flag of a loop is set
    set_within : behind_locals locals ≤ base → IsAt t place (Set Private base (pos 1)) →
        IsWithin p t locals base fr held m (place + 1) spent (after_instr t.code (Set Private base (pos 1)) f)
    set_within free at =
        let s = w.shows in
        let b = s.bare in
        let n = s.rests in
        let d = w.stands in
        let same = λ (v : ℕ). either_same (is_active (f.own v)) base (pos 1) (f.own v) in
        let others = λ (v r : ℕ) (l : r < base). either_other (is_active (f.own v)) base (pos 1) (f.own v) r (λ i. omega (arith, l, i)) in
        moved_within base fr (Set Private base (pos 1)) at refl refl refl refl refl
        (still_inside p locals m base seen (after_instr t.code (Set Private base (pos 1)) seen) free
        (record {
          width = refl;
          low = refl;
          uniforms = λ r l. refl;
          own = others;
          memory = λ c. refl;
          bare = record { put = b.put; held = b.held };
          rests = record {
            asks = n.asks;
            awaited = n.awaited;
            own_asks = λ v. (same v).asks ∙ n.own_asks v;
            own_awaited = λ v. (same v).awaited ∙ n.own_awaited v;
          };
        }) s)
        (record { width = d.width; masks = λ v. (same v).masks ∙ d.masks v; flags = λ v r a l. others v r l ∙ d.flags v r a l })

    -- ---- a send of what is held

    pub record HasFlushed : Type 0 where
      pub behind : Flat
      pub within : IsWithin p t locals base fr false m (place + length (flush held)) (spent + one_if held) behind
      pub registers : (r : ℕ) → behind.uniform.registers r ≡ f.uniform.registers r

    pub flushed_within : Stand t place (flush held) → HasFlushed
    flushed_within stand =
        let s = w.shows in
        let g = flushed t held m place spent f w.between s.rests stand in
        record {
          behind = g.behind;
          within = within_seen p t locals base fr held false m place (place + length (flush held)) spent (spent + one_if held) f g.behind w
              g.between g.seen;
          registers = λ r. ap (λ (y : Flat). y.uniform.registers r) g.seen;
        }

    -- ---- a loop is opened

    pub record IsOpen : Type 0 where
      pub behind : Flat
      pub flags : ℕ → Registers
      pub within : IsWithin p t locals (base + 1) (looping base flags fr) false m (place + length (flagged held base)) (spent + one_if held)
          behind
      pub keeps : Keeps (behind_locals locals) base fr flags
      pub all : present (looping base flags fr) ≡ present fr
      pub registers : (r : ℕ) → behind.uniform.registers r ≡ f.uniform.registers r

module _ (p : Checked) (t : Run) (locals base : ℕ) (free : behind_locals locals ≤ base) (fr : Frame) (held : Bool) (m : State)
    (place spent : ℕ) (f : Flat) (w : IsWithin p t locals base fr held m place spent f) where
  pub opens : Stand t place (flagged held base) → IsOpen p t locals base fr held m place spent f w
  opens stand =
      let front = flush held in
      let halves = stands_split t place front (Set Private base (pos 1) ∷ Mask base ∷ []) stand in
      let count = length-append front (Set Private base (pos 1) ∷ Mask base ∷ []) in
      let first = flushed_within p t locals base fr held m place spent f w halves.0 in
      let at = place + length front in
      let by = spent + one_if held in
      let g = first.behind in
      let now = first.within in
      let set = after_instr t.code (Set Private base (pos 1)) g in
      let was_set = set_within p t locals base fr false m at by g now free halves.1.0 in
      let seen = applied t.code g in
      let h = loops_open t.code (behind_locals locals) base fr seen now.stands in
      let l = h.loops in
      let same : applied t.code set ≡ after_instr t.code (Set Private base (pos 1)) seen =
      instructions_apply t.code (Set Private base (pos 1)) g refl in
      let flags = held_in (opened t.code base seen) in
      let last = moved_within p t locals base fr false m (at + 1) by set was_set (base + 1) (looping base flags fr) (Mask base) halves.1.1.0
      refl refl refl refl refl (mask_shows p locals m t.code (applied t.code set) was_set.shows base)
      (subst (λ (y : Flat). StandsIn (behind_locals locals) (base + 1) (looping base flags fr) (after_instr t.code (Mask base) y))
      (sym same)
      l.stands) in
      record {
        behind = after_instr t.code (Mask base) set;
        flags = flags;
        within = within_at p t locals (base + 1) (looping base flags fr) false m (at + 1 + 1) (place + length (flagged held base)) by by
            (after_instr t.code (Mask base) set) (omega (arith, count)) (omega arith) last;
        keeps = l.keeps;
        all = h.all;
        registers = first.registers;
      }
