-- The frames of a loop of processors: all of the set go in, those stay whose test is true, and behind it the set is present again.
use Rattle.std.proofs.Common.{◌≡◌, ℕ, ◌<◌, ◌≤◌, ◌∷◌, Bool, true, false, cond, ℤ, pos, refl, sym, ap, ◌∙◌, arith}
use Rattle.std.specs.Prelude.{◌&&◌, if◌then◌else◌}
use Rattle.std.specs.List.{range_with_len}
use Rattle.pram_values.specs.Truth.{is_nonzero}
use Rattle.superstep_instructions.specs.Code.{SuperstepCode}
use Rattle.superstep_machine.specs.Parts.{Registers, PrivatePart, set_register}
use Rattle.superstep_machine.specs.Steps.{under, is_active, unmasked}
use Rattle.superstep_machine.proofs.Numbers.{with_itself}
use Rattle.flat_machine.specs.Flat.{Flat}
use Rattle.flat_stretches.specs.Frames.{Frame, present, is_true, held_in, looping, IsLooping, LoopsOpen, turned, HasTurned}
use Rattle.flat_stretches.specs.Frames.{LoopsTurn, LoopsClose}
use Rattle.flat_stretches.proofs.Below.{set_below}
use Rattle.flat_stretches.proofs.Sets.{filter_same, filter_twice}

-- ---- a processor that sets a register where it is active

abbrev set_by : ℕ → ℤ → PrivatePart → PrivatePart
set_by d z x = if is_active x then record x { registers = set_register d z x.registers } else x

set_masks : (d : ℕ) (z : ℤ) (x : PrivatePart) → (set_by d z x).masks ≡ x.masks
set_masks d z x = go (is_active x)
  where
    go : (b : Bool) → (let y : PrivatePart = if b then record x { registers = set_register d z x.registers } else x in y.masks) ≡ x.masks
    go true = refl
    go false = refl

set_other : (d : ℕ) (z : ℤ) (x : PrivatePart) (r : ℕ) → r < d → (set_by d z x).registers r ≡ x.registers r
set_other d z x r l = go (is_active x)
  where
    go : (b : Bool) →
        (let y : PrivatePart = if b then record x { registers = set_register d z x.registers } else x in y.registers r) ≡ x.registers r
    go true = set_below d d z x.registers r (omega arith) l
    go false = refl

set_itself : (d : ℕ) (z : ℤ) (x : PrivatePart) → (set_by d z x).registers d ≡ (if is_active x then z else x.registers d)
set_itself d z x = go (is_active x)
  where
    go : (b : Bool) →
        (let y : PrivatePart = if b then record x { registers = set_register d z x.registers } else x in y.registers d)
        ≡ (if b then z else x.registers d)
    go true = ap (λ c. cond c z (x.registers d)) (with_itself d)
    go false = refl

-- ---- all of the set go in

pub loops_open : LoopsOpen
loops_open code first base fr f s = record {
  loops = record {
    stands = record {
      width = s.width;
      masks = λ v. ap (λ ms. (under ms && is_nonzero ((set_by base (pos 1) (f.own v)).registers base)) ∷ ms)
          (set_masks base (pos 1) (f.own v) ∙ s.masks v);
      flags = λ v r a b. refl;
    };
    keeps = λ v r a b. set_other base (pos 1) (f.own v) r b ∙ s.flags v r a b;
  };
  all = filter_same _ _ all (range_with_len 0 fr.width);
}
  where
    one : (b : Bool) (y : ℤ) → (b && is_nonzero (if b then pos 1 else y)) ≡ b
    one true y = refl
    one false y = refl

    all : (v : ℕ) → (under (fr.masks v) && is_nonzero ((set_by base (pos 1) (f.own v)).registers base)) ≡ under (fr.masks v)
    all v =
        ap (λ z. under (fr.masks v) && is_nonzero z)
        (set_itself base (pos 1) (f.own v) ∙ ap (λ ms. if under ms then pos 1 else (f.own v).registers base) (s.masks v))
        ∙ one (under (fr.masks v)) ((f.own v).registers base)

-- ---- those stay whose test is true

-- m: in the set below; c: in the loop's set; z: the new value of the flag, y the old one
flag_turns : (m : Bool) (y z : ℤ) (c : Bool) → is_nonzero y ≡ c → ((m && c) && is_nonzero z) ≡ (m && is_nonzero (if m && c then z else y))
flag_turns true y z true e = refl
flag_turns true y z false e = sym e
flag_turns false y z c e = refl

module _ (code : SuperstepCode) (first base r : ℕ) (up : first ≤ base) (fr : Frame) (registers : ℕ → Registers) (f : Flat)
    (l : IsLooping first base fr registers f) where
  abbrev new : ℕ → ℤ
  new v = (f.own v).registers r

  now : (v : ℕ) → (set_by base (new v) (f.own v)).registers base
      ≡ (if under (fr.masks v) && is_nonzero (registers v base) then new v else registers v base)
  now v =
      let s = l.stands in
      set_itself base (new v) (f.own v)
      ∙ ap (λ ms. if under ms then new v else (f.own v).registers base) (s.masks v)
      ∙ ap (λ y. if under (fr.masks v) && is_nonzero (registers v base) then new v else y) (s.flags v base up (omega arith))

  stays : (v : ℕ) → ((under (fr.masks v) && is_nonzero (registers v base)) && is_true r f v)
      ≡ (under (fr.masks v) && is_nonzero (held_in (turned code base r f) v base))
  stays v =
      flag_turns (under (fr.masks v)) (registers v base) (new v) (is_nonzero (registers v base)) refl
      ∙ ap (λ z. under (fr.masks v) && is_nonzero z) (sym (now v))

  turns : HasTurned first base fr (present (looping base registers fr)) (is_true r f) (turned code base r f)
  turns =
      let s = l.stands in
      let k = l.keeps in record {
        loops = record {
          stands = record {
            width = s.width;
            masks = λ v. ap (λ ms. (under ms && is_nonzero ((set_by base (new v) (f.own v)).registers base)) ∷ ms)
                (ap unmasked (set_masks base (new v) (f.own v) ∙ s.masks v));
            flags = λ v q a b. refl;
          };
          keeps = λ v q a b. set_other base (new v) (f.own v) q b ∙ s.flags v q a (omega (arith, b)) ∙ k v q a b;
        };
        those = sym (filter_twice (λ v. under (fr.masks v) && is_nonzero (registers v base)) (is_true r f) (range_with_len 0 fr.width)
            ∙ filter_same _ _ stays (range_with_len 0 fr.width));
      }

pub loops_turn : LoopsTurn
loops_turn code first base r up fr registers f l = turns code first base r up fr registers f l

-- ---- the set below is present again

pub loops_close : LoopsClose
loops_close code first base fr registers f l =
    let s = l.stands in
    let k = l.keeps in record {
      width = s.width;
      masks = λ v. ap unmasked (s.masks v);
      flags = λ v r a b. s.flags v r a (omega (arith, b)) ∙ k v r a b;
    }
