-- The registers of a `for`: what its bounds leave in them, and each setting of its variable; none of that notes anything.
use Rattle.std.proofs.Common.{◌≡◌, ◌≢◌, ℕ, ◌<◌, ◌≤◌, List, [], ◌∷◌, ◌++◌, Bool, None, Ok, ℤ, ◌+ℤ◌, int_lt, int_le, ap}
use Rattle.std.proofs.Common.{◌∙◌}
use Rattle.std.proofs.Common.{subst, arith}
use Rattle.pram_values.specs.Truth.{truth}
use Rattle.pram_values.specs.Value.{checked}
use Rattle.superstep_instructions.specs.declared.instr.Side.TheVariants.{Uniform}
use Rattle.superstep_instructions.specs.declared.instr.Arithmetic.TheVariants as arithmetic
use Rattle.superstep_instructions.specs.declared.instr.Truth.TheVariants as comparison
use Rattle.superstep_instructions.specs.declared.instr.Instr.{Instr}
use Rattle.superstep_instructions.specs.declared.instr.Instr.TheVariants.{Copy, Decide, Calculate}
use Rattle.superstep_instructions.specs.Code.{SuperstepCode}
use Rattle.superstep_machine.specs.Keys.{least}
use Rattle.superstep_machine.specs.Results.{or_zero, kind_of}
use Rattle.pram_check.specs.Bounded.{names_of}
use Rattle.pram_check.specs.Checked.{Checked}
use Rattle.pram_meaning.specs.Store.{State, with_uniform}
use Rattle.flat_machine.specs.Flat.{Flat, after_instr}
use Rattle.superstep_machine.proofs.KeyOrder.{none_least}
use Rattle.flat_stretches.specs.Folds.{acts_at_once}
use Rattle.flat_stretches.specs.Notes.{note, notes}
use Rattle.plain_form.specs.Registers.{variable, behind_variables, turn, high, more}
use Rattle.plain_form.specs.Formulas.{Formula, Zero, Number, Variable, Index, Local, Read, Before, Between, Pair}
use Rattle.plain_form.specs.Regions.{place}
use Rattle.plain_form.specs.Shapes.{flush}
use Rattle.compiled_formulas.specs.Environments.{IsNamed}
use Rattle.compiled_meaning.specs.Between.{HasSizes}
use Rattle.compiled_meaning.proofs.Outside.Evaluated.{Leaves}
use Rattle.compiled_meaning.proofs.Outside.Effects.{got_leaves}
use Rattle.compiled_meaning.proofs.Outside.Also.{sent_acts, sent_notes, copy_sets, decide_sets, calculate_sets, copy_notes, decide_notes}
use Rattle.compiled_meaning.proofs.Outside.Also.{calculate_notes, set_one, set_others, free_set_leaves}

-- the registers of a `for`: the number whose turn comes next, the last number, and whether there is a turn
pub record HasTurns (free : ℕ) (a b : ℤ) (any : Bool) (g : Flat) : Type 0 where
  pub turn : g.uniform.registers (turn free) ≡ a
  pub high : g.uniform.registers (high free) ≡ b
  pub more : g.uniform.registers (more free) ≡ truth any

-- the register with the value of a formula isn't the free one before those of the statement
pub place_is_apart : (p : Checked) (free : ℕ) → behind_variables p.uniforms ≤ free → (e : Formula) (t b : ℕ) → IsNamed (names_of p) e →
    free < t → free < b → free ≢ place Uniform e t b
place_is_apart p free l Zero t b n h k = λ e. omega (arith, e, l)
place_is_apart p free l (Number z) t b n h k = λ e. omega (arith, e, k)
place_is_apart p free l (Variable x) t b n h k = λ e. omega (arith, e, l, n)
place_is_apart p free l Index t b n h k = absurd n
place_is_apart p free l (Local x) t b n h k = absurd n
place_is_apart p free l (Read a f) t b n h k = λ e. omega (arith, e, h)
place_is_apart p free l (Before o f) t b n h k = λ e. omega (arith, e, k)
place_is_apart p free l (Between o f g) t b n h k = λ e. omega (arith, e, k)
place_is_apart p free l (Pair f g) t b n h k = place_is_apart p free l f t b n.0 h k

module _ (code : SuperstepCode) (p : Checked) (free : ℕ) (m : State) (f : Flat) (free_ones : behind_variables p.uniforms ≤ free) where
  -- ---- the bounds

  module _ (h : Flat) (l : Leaves p free m f h) (first second : ℕ) (apart : free ≢ second) (a b : ℤ)
      (low : h.uniform.registers first ≡ a) (up : h.uniform.registers second ≡ b) where
    abbrev one : Flat
    one = after_instr code (Copy Uniform (turn free) first) h

    abbrev two : Flat
    two = after_instr code (Copy Uniform (high free) second) one

    abbrev pub bounds_set : Flat
    bounds_set = after_instr code (Decide Uniform comparison.AtMost (more free) (turn free) (high free)) two

    abbrev last : Instr
    last = Decide Uniform comparison.AtMost (more free) (turn free) (high free)

    abbrev pub bounds_tail : Bool → List Instr
    bounds_tail some = Copy Uniform (turn free) first ∷ Copy Uniform (high free) second ∷ (flush some ++ last ∷ [])

    one_leaves : Leaves p free m f one
    one_leaves = free_set_leaves p free m f h l free_ones (turn free) (h.uniform.registers first) one (omega arith)
        (copy_sets code h (turn free) first)

    two_leaves : Leaves p free m f two
    two_leaves = free_set_leaves p free m f one one_leaves free_ones (high free) (one.uniform.registers second) two (omega arith)
        (copy_sets code one (high free) second)

    pub bounds_leave : Leaves p free m f bounds_set
    bounds_leave = free_set_leaves p free m f two two_leaves free_ones (more free) _ bounds_set (omega arith)
        (decide_sets code two comparison.AtMost (more free) (turn free) (high free))

    turn_is : two.uniform.registers (turn free) ≡ a
    turn_is =
        set_others (high free) (one.uniform.registers second) one two (copy_sets code one (high free) second) (turn free)
        (λ e. omega (arith, e))
        ∙ set_one (turn free) (h.uniform.registers first) h one (copy_sets code h (turn free) first) ∙ low

    high_is : two.uniform.registers (high free) ≡ b
    high_is =
        set_one (high free) (one.uniform.registers second) one two (copy_sets code one (high free) second)
        ∙ set_others (turn free) (h.uniform.registers first) h one (copy_sets code h (turn free) first) second apart ∙ up

    pub bounds_are : HasTurns free a b (int_le a b) bounds_set
    bounds_are =
        let decided = decide_sets code two comparison.AtMost (more free) (turn free) (high free) in record {
          turn = set_others (more free) _ two bounds_set decided (turn free) (λ e. omega (arith, e)) ∙ turn_is;
          high = set_others (more free) _ two bounds_set decided (high free) (λ e. omega (arith, e)) ∙ high_is;
          more = set_one (more free) _ two bounds_set decided ∙ (λ i. truth (int_le (turn_is i) (high_is i)));
        }

    pub bounds_acts : (some : Bool) → acts_at_once code (bounds_tail some) h ≡ bounds_set
    bounds_acts some = let k = two_leaves in sent_acts code p m two k.shows some (last ∷ [])

    pub bounds_notes : (some : Bool) → notes code (bounds_tail some) h ≡ None
    bounds_notes some =
        let k = two_leaves in
        let end : notes code (flush some ++ last ∷ []) two ≡ None =
        sent_notes code p m two k.shows some (last ∷ []) ∙ none_least (note code last two)
        ∙ decide_notes code two comparison.AtMost (more free) (turn free) (high free) in
        λ i. least (copy_notes code h (turn free) first i) (least (copy_notes code one (high free) second i) (end i))

  -- ---- a setting

  module _ (g : Flat) (l : Leaves p free m f g) (x : ℕ) (named : x < p.uniforms) (sizes : HasSizes p m) (a b c : ℤ)
      (low : g.uniform.registers (turn free) ≡ a) (up : g.uniform.registers (high free) ≡ b)
      (fits : checked (a +ℤ truth (int_lt a b)) ≡ Ok c) where
    abbrev got : Flat
    got = after_instr code (Copy Uniform (variable x) (turn free)) g

    abbrev told : Flat
    told = after_instr code (Decide Uniform comparison.Less (more free) (turn free) (high free)) got

    abbrev pub stepped : Flat
    stepped = after_instr code (Calculate Uniform arithmetic.Add (turn free) (turn free) (more free) 0) told

    abbrev pub step_tail : List Instr
    step_tail = Copy Uniform (variable x) (turn free) ∷ Decide Uniform comparison.Less (more free) (turn free) (high free)
        ∷ Calculate Uniform arithmetic.Add (turn free) (turn free) (more free) 0 ∷ []

    got_here : Leaves p free (with_uniform x a m) f got
    got_here = subst (λ z. Leaves p free (with_uniform x z m) f got) low
        (got_leaves code p free m f g l free_ones x (turn free) named sizes)

    told_here : Leaves p free (with_uniform x a m) f told
    told_here = free_set_leaves p free (with_uniform x a m) f got got_here free_ones (more free) _ told (omega arith)
        (decide_sets code got comparison.Less (more free) (turn free) (high free))

    pub stepped_leaves : Leaves p free (with_uniform x a m) f stepped
    stepped_leaves = free_set_leaves p free (with_uniform x a m) f told told_here free_ones (turn free) _ stepped (omega arith)
        (calculate_sets code told arithmetic.Add (turn free) (turn free) (more free) 0)

    got_stays : (r : ℕ) → free ≤ r → got.uniform.registers r ≡ g.uniform.registers r
    got_stays r l = set_others (variable x) (g.uniform.registers (turn free)) g got (copy_sets code g (variable x) (turn free)) r
        (λ e. omega (arith, e, l, named, free_ones))

    told_turn : told.uniform.registers (turn free) ≡ a
    told_turn = set_others (more free) _ got told (decide_sets code got comparison.Less (more free) (turn free) (high free)) (turn free)
        (λ e. omega (arith, e))
        ∙ got_stays (turn free) (omega arith) ∙ low

    told_high : told.uniform.registers (high free) ≡ b
    told_high = set_others (more free) _ got told (decide_sets code got comparison.Less (more free) (turn free) (high free)) (high free)
        (λ e. omega (arith, e))
        ∙ got_stays (high free) (omega arith) ∙ up

    told_more : told.uniform.registers (more free) ≡ truth (int_lt a b)
    told_more = set_one (more free) _ got told (decide_sets code got comparison.Less (more free) (turn free) (high free))
        ∙ (λ i. truth (int_lt ((got_stays (turn free) (omega arith) ∙ low) i) ((got_stays (high free) (omega arith) ∙ up) i)))

    sum_is : checked (told.uniform.registers (turn free) +ℤ told.uniform.registers (more free)) ≡ Ok c
    sum_is = (λ i. checked (told_turn i +ℤ told_more i)) ∙ fits

    pub stepped_turns : HasTurns free c b (int_lt a b) stepped
    stepped_turns =
        let added = calculate_sets code told arithmetic.Add (turn free) (turn free) (more free) 0 in record {
          turn = set_one (turn free) _ told stepped added ∙ ap or_zero sum_is;
          high = set_others (turn free) _ told stepped added (high free) (λ e. omega (arith, e)) ∙ told_high;
          more = set_others (turn free) _ told stepped added (more free) (λ e. omega (arith, e)) ∙ told_more;
        }

    pub stepped_acts : (some : Bool) → acts_at_once code (flush some ++ step_tail) g ≡ stepped
    stepped_acts some = sent_acts code p m g l.shows some step_tail

    pub stepped_notes : (some : Bool) → notes code (flush some ++ step_tail) g ≡ None
    stepped_notes some =
        sent_notes code p m g l.shows some step_tail
        ∙ (λ i. least (copy_notes code g (variable x) (turn free) i)
        (least (decide_notes code got comparison.Less (more free) (turn free) (high free) i)
        ((none_least (note code (Calculate Uniform arithmetic.Add (turn free) (turn free) (more free) 0) told)
        ∙ calculate_notes code told arithmetic.Add (turn free) (turn free) (more free) 0 (ap kind_of sum_is)) i)))
