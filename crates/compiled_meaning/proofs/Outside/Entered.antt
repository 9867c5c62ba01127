-- The beginning of a pardo: its processors are new ones, each with its index, and all of them are active.
use Rattle.std.proofs.Common.{◌≡◌, ℕ, zero, suc, ◌+◌, ◌<◌, [], ◌∷◌, length, replicate, Bool, true, false, Ok, Err, ℤ, pos, ◌+ℤ◌}
use Rattle.std.proofs.Common.{refl, sym, ap, ◌∙◌, subst, arith, get_or}
use Rattle.std.specs.Prelude.{nat_le, if◌then◌else◌}
use Rattle.std.specs.List.{AllByRecursion}
use Rattle.std.proofs.lemmas.Int.{ints}
use Rattle.std.proofs.lemmas.List.{length-replicate, get_or-replicate}
use Rattle.pram_model.specs.Layout.{width}
use Rattle.pram_values.specs.declared.kind.Kind.TheVariants.{TooWide}
use Rattle.pram_values.specs.declared.place.Place.TheVariants.{All}
use Rattle.superstep_instructions.specs.declared.instr.Instr.TheVariants as instr
use Rattle.superstep_instructions.specs.declared.instr.Instr.TheVariants.{Enter}
use Rattle.superstep_instructions.specs.Code.{SuperstepCode}
use Rattle.superstep_machine.specs.Keys.{least}
use Rattle.superstep_machine.specs.Parts.{zeros}
use Rattle.superstep_machine.specs.Results.{range_width, or_empty, kind_of}
use Rattle.superstep_machine.specs.Steps.{index_of, is_active}
use Rattle.pram_check.specs.Checked.{Checked}
use Rattle.pram_meaning.specs.Store.{Member, State, member_of, members, with_team}
use Rattle.pram_meaning.specs.Values.{IsMember, IsValue, HasValues}
use Rattle.pram_meaning.proofs.SoundValues.{AreNumbers, numbers_first, numbers_rest, width_values, zeros_are}
use Rattle.flat_machine.specs.Flat.{Flat, after_instr}
use Rattle.superstep_machine.proofs.KeyOrder.{none_least}
use Rattle.flat_stretches.specs.Frames.{everybody, StandsIn}
use Rattle.flat_stretches.specs.Notes.{note, notes}
use Rattle.statement_evaluation.specs.Noted.{note_key}
use Rattle.plain_form.specs.Registers.{index, behind_locals}
use Rattle.compiled_formulas.specs.Headings.{heading_of}
use Rattle.compiled_formulas.specs.Inside.{ShowsInside}
use Rattle.compiled_formulas.proofs.Operations.{set_there}
use Rattle.compiled_formulas.proofs.UniformSteps.{fault_is}
use Rattle.compiled_meaning.proofs.Outside.Evaluated.{Leaves}
use Rattle.compiled_meaning.proofs.Outside.UniformWork.{nothing_either, noted_alone}

-- ---- new processors

pub members_count : (a : ℤ) (k n : ℕ) → length (members a k n) ≡ k
members_count a zero n = refl
members_count a (suc k) n = let h = members_count (a +ℤ pos 1) k n in omega (arith, h)

-- each has the next index, and all its locals are 0
pub record IsNew (a : ℤ) (n v : ℕ) (g : Member) : Type 0 where
  pub index : g.index ≡ a +ℤ pos v
  pub locals : g.locals ≡ replicate n (pos 0)

pub member_is_new : (a : ℤ) (k n v : ℕ) → v < k → IsNew a n v (member_of (members a k n) v)
member_is_new a zero n v l = absurd (omega (arith, l))
member_is_new a (suc k) n zero l = record { index = omega (arith, ints); locals = refl }
member_is_new a (suc k) n (suc v) l =
    let h = member_is_new (a +ℤ pos 1) k n v (omega (arith, l)) in
    record { index = h.index ∙ (let e : (a +ℤ pos 1) +ℤ pos v ≡ a +ℤ pos (suc v) = omega (arith, ints) in e); locals = h.locals }

pub members_have_locals : (a : ℤ) (k n : ℕ) → AllByRecursion (λ (g : Member). length g.locals ≡ n) (members a k n)
members_have_locals a zero n = tt
members_have_locals a (suc k) n = (length-replicate n (pos 0), members_have_locals (a +ℤ pos 1) k n)

members_have_values : (a : ℤ) (k n : ℕ) → AreNumbers a k → AllByRecursion IsMember (members a k n)
members_have_values a zero n all = tt
members_have_values a (suc k) n all =
    (record { index = numbers_first a k all; locals = zeros_are n }, members_have_values (a +ℤ pos 1) k n (numbers_rest a k all))

-- a range of 64-bit bounds has 64-bit indices
range_numbers : (procs : ℕ) (a b : ℤ) → IsValue a → IsValue b → AreNumbers a (or_empty (range_width procs a b))
range_numbers procs a b low high = by (nat_le (width a b) procs)
  where
    by : (t : Bool) → AreNumbers a (or_empty (if t then Ok (width a b) else Err TooWide))
    by true = width_values a b low high
    by false = λ j l. absurd (omega (arith, l))

pub team_has_values : (procs : ℕ) (a b : ℤ) (n : ℕ) (m : State) → IsValue a → IsValue b → HasValues m →
    HasValues (with_team a (or_empty (range_width procs a b)) n m)
team_has_values procs a b n m low high h = record {
  output = h.output;
  uniforms = h.uniforms;
  cells = h.cells;
  team = members_have_values a (or_empty (range_width procs a b)) n (range_numbers procs a b low high);
}

-- ---- the state behind

module _ (code : SuperstepCode) (p : Checked) (free : ℕ) (m : State) (f h : Flat) (l : Leaves p free m f h) (procs : code.procs ≡ p.procs)
    (first second q : ℕ) (a b : ℤ) (low : h.uniform.registers first ≡ a) (up : h.uniform.registers second ≡ b) (locals : ℕ) where
  abbrev ranged : Flat
  ranged = after_instr code (Enter first second q) h

  abbrev pub entered : Flat
  entered = after_instr code (instr.Index index) ranged

  abbrev count : ℕ
  count = or_empty (range_width p.procs a b)

  width_is : entered.uniform.width ≡ count
  width_is = λ i. or_empty (range_width (procs i) (low i) (up i))

  index_is : (v : ℕ) → index_of entered.uniform v ≡ a +ℤ pos v
  index_is v = ap (λ z. z +ℤ pos v) low

  pub entered_stands : StandsIn (behind_locals locals) (behind_locals locals) (everybody count) entered
  entered_stands = record { width = width_is; masks = λ v. refl; flags = λ v r k j. absurd (omega (arith, k, j)) }

  pub entered_shows : ShowsInside p locals (with_team a count locals m) entered
  entered_shows =
      let s = l.shows in
      let w = s.shows in
      let n = s.bare in
      let r = s.rests in
      record {
        width = width_is ∙ sym (members_count a count locals);
        members = λ v k.
            let g = member_is_new a count locals v (subst (λ n. v < n) width_is k) in index_is v ∙ sym g.index;
        outside = record {
          nothing = w.nothing;
          variables = w.variables;
          indices = λ i. absurd i;
          locals = λ x i. absurd i;
          cells = w.cells;
        };
        shows = λ v k.
            let g = member_is_new a count locals v (subst (λ n. v < n) width_is k) in
            record {
              nothing = refl;
              variables = w.variables;
              indices = λ i. index_is v ∙ sym g.index;
              locals = λ x i.
                  set_there index (index_of entered.uniform v) zeros (2 + x) (λ e. omega (arith, e))
                  ∙ sym (ap (λ xs. get_or xs x (pos 0)) g.locals ∙ get_or-replicate locals x (pos 0) (pos 0) i);
              cells = w.cells;
            };
        bare = record { put = n.put; held = n.held };
        rests = record { asks = r.asks; awaited = r.awaited; own_asks = λ v. refl; own_awaited = λ v. refl };
      }

  -- the width is noted, if it is too great
  pub entered_notes : notes code (Enter first second q ∷ instr.Index index ∷ []) h
      ≡ note_key (heading_of h) q All (kind_of (range_width p.procs a b))
  entered_notes =
      ap (least (note code (Enter first second q) h))
      (none_least (note code (instr.Index index) ranged) ∙ noted_alone code (instr.Index index) ranged (λ v. refl))
      ∙ none_least (note code (Enter first second q) h)
      ∙ noted_alone code (Enter first second q) h (λ v. nothing_either (is_active (h.own v)))
      ∙ fault_is h.uniform q All _
      ∙ (λ i. note_key (heading_of h) q All (kind_of (range_width (procs i) (low i) (up i))))
