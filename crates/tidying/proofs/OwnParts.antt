-- What an instruction does to a processor, where its change does the same to one with other registers.
use Rattle.std.proofs.Common.{◌≡◌, ℕ, [], ◌∷◌, ◌++◌, Bool, true, false, Option, Some, None, ℤ, refl, sym, ap, ◌∙◌, subst}
use Rattle.std.specs.Prelude.{if◌then◌else◌, ◌&&◌}
use Rattle.pram_model.specs.Layout.{cell_of}
use Rattle.pram_model.proofs.Truths.{both}
use Rattle.pram_values.specs.declared.place.Place.TheVariants.{Processor}
use Rattle.pram_values.specs.Truth.{is_nonzero}
use Rattle.superstep_machine.specs.declared.key.Key.{Key}
use Rattle.superstep_instructions.specs.declared.instr.Side.TheVariants.{Uniform, Private}
use Rattle.superstep_instructions.specs.declared.instr.Instr.{Instr}
use Rattle.superstep_instructions.specs.declared.instr.Instr.TheVariants.{Mark, Set, Copy, Negate, Calculate, Decide, Not, CopyUniform}
use Rattle.superstep_instructions.specs.declared.instr.Instr.TheVariants.{Index}
use Rattle.superstep_instructions.specs.declared.instr.Instr.TheVariants.{Enter, Leave, Mask, Flip, Unmask, Ask, Put, Send, Reply, Vote}
use Rattle.superstep_instructions.specs.declared.instr.Instr.TheVariants.{Print}
use Rattle.superstep_instructions.specs.declared.instr.Instr.TheVariants.{Jump, JumpIfZero, Halt}
use Rattle.superstep_instructions.specs.Code.{SuperstepCode}
use Rattle.superstep_machine.specs.Parts.{Registers, set_register, UniformPart, PrivatePart}
use Rattle.superstep_machine.specs.Results.{computed, is_of, position_of, missing}
use Rattle.superstep_machine.specs.Steps.{wrong_in, zero_without, fault_at, write_to}
use Rattle.superstep_machine.specs.Steps.{index_of, under, is_active, on_active, on_own, wrong_own, own_key, own_write}
use Rattle.superstep_machine.specs.Steps.{renews}
use Rattle.tidying.specs.Rows.{Row, Holds, is_none, asked_into, in_both}
use Rattle.tidying.proofs.Behind.{active_after, idle_after}
use Rattle.tidying.specs.Certificates.{Certificate, changed, is_known, is_at, place_of, knows, gives, result_of, resulted}
use Rattle.tidying.specs.Certificates.{all_after}
use Rattle.tidying.proofs.Registers.{put_holds, asked_holds, first_holds, second_holds}
use Rattle.tidying.proofs.Results.{reads, result, result_same, private_result, plain}
use Rattle.tidying.proofs.Parts.{at_place, same_fault, wrong_if, wrong_redirected, with_registers, own_with, alike, fork, is_step}

pub not_both : {A : Type 0} (b : Bool) → b ≡ true → b ≡ false → A
not_both true e f = cc
not_both false e f = cc

-- the registers of one processor hold the same as others, by whether it's active
pub record OwnHolds (number : ℕ → Option ℤ) (on off : Row) (every : Bool) (x : PrivatePart) (r : Registers) : Type 0 where
  pub active : is_active x ≡ true → Holds number on x.registers r
  pub idle : is_active x ≡ false → Holds number off x.registers r
  pub all : every ≡ true → x.masks ≡ []

-- where the idle ones may be any, there are none
pub idle_row : (number : ℕ → Option ℤ) (any idle : Row) (all : Bool) (x : PrivatePart) (r : Registers) → (all ≡ true → x.masks ≡ []) →
    is_active x ≡ false → Holds number idle x.registers r → Holds number (if all then any else idle) x.registers r
idle_row number any idle true x r all e h = not_both (under x.masks) (ap under (all refl)) e
idle_row number any idle false x r all e h = h

module _ (code : SuperstepCode) (c : Certificate) (k : ℕ) where
  abbrev u : Row
  u = (c.at k).uniform

  abbrev a : Row
  a = (c.at k).active

  abbrev b : Row
  b = (c.at k).idle

  abbrev all : Bool
  all = (c.at k).all

  abbrev number : ℕ → Option ℤ
  number = c.number Private

  abbrev ch : Instr → Instr
  ch = changed u a (c.into k) c.moved

  abbrev Knows : Instr → Type 0
  Knows i = knows c.number u a i ≡ true

  abbrev idle_then : Instr → Row
  idle_then i = if all then active_after c k i else idle_after c k i

  module _ (U : UniformPart) (other_u : Registers) (hu : Holds (c.number Uniform) u U.registers other_u) (v : ℕ) (x : PrivatePart)
      (other : Registers) (h : OwnHolds number a b all x other) where
    abbrev U' : UniformPart
    U' = with_registers other_u U

    abbrev x' : PrivatePart
    x' = own_with other x

    abbrev at : is_active x ≡ true → (s : ℕ) → is_known Private u a s ≡ true → other (place_of Private u a s) ≡ x.registers s
    at e s w = reads number a x.registers other (h.active e) s w

    abbrev cells : is_active x ≡ true → (d s : ℕ) → is_known Private u a s ≡ true →
        cell_of code.layout d (other (place_of Private u a s)) ≡ cell_of code.layout d (x.registers s)
    cells e d s w = ap (cell_of code.layout d) (at e s w)

    -- what stays the same where nothing is done to registers and masks, and what changes where a result comes
    went : (row : Row) (y : PrivatePart) (z z' : PrivatePart) (q : Bool) → is_active x ≡ q → y.masks ≡ x.masks →
        (r : PrivatePart) → (is_active x ≡ true → Holds number row y.registers r.registers) →
        z.masks ≡ x.masks → z.registers ≡ x.registers → z'.registers ≡ other →
        OwnHolds number row (if all then row else b) all (if q then y else z) (if q then r else z').registers
    went row y z z' true e same r holds ms rs os = record {
      active = λ w. holds e;
      idle = λ w. not_both (under y.masks) (ap under same ∙ e) w;
      all = λ w. same ∙ h.all w;
    }
    went row y z z' false e same r holds ms rs os = record {
      active = λ w. not_both (under z.masks) w (ap under ms ∙ e);
      idle = λ w. subst (λ r. Holds number (if all then row else b) r z'.registers) (sym rs)
          (subst (λ r. Holds number (if all then row else b) x.registers r) (sym os) (idle_row number row b all x other h.all e (h.idle
          e)));
      all = λ w. ms ∙ h.all w;
    }

    either_holds : (q : Bool) → is_active x ≡ q → Holds number (in_both a b) x.registers other
    either_holds true e = first_holds number a b x.registers other (h.active e)
    either_holds false e = second_holds number a b x.registers other (h.idle e)

    both_rows : (q : Bool) → Holds number (in_both a b) x.registers other →
        Holds number (if q then in_both a b else in_both a b) x.registers other
    both_rows true z = z
    both_rows false z = z

    result_in : (i : Instr) → Knows i → (d : ℕ) (value : ℤ) → result_of Private i ≡ Some d →
        ((n : ℤ) → gives (Some n) i ≡ false) → is_active x ≡ true →
        Holds number (resulted number (c.into k) i (result_of Private i) a) (set_register d value x.registers)
        (set_register (c.into k) value other)
    result_in i w d value o f e =
        subst (λ z. Holds number (resulted number (c.into k) i z a) (set_register d value x.registers) (set_register (c.into k) value
        other))
        (sym o)
        (put_holds number a x.registers other (h.active e) (gives (number d) i) d (c.into k) value (plain i f (number d) value))

    pub own_same : (i : Instr) → Knows i → on_own code (ch i) U' v x'
        ≡ own_with (on_own code (ch i) U' v x').registers (on_own code i U v x)
    own_same (Mark line) w =
        fork (is_active x) (on_active code (Mark line) U v x) (on_active code (ch (Mark line)) U' v x') x x' refl refl
    own_same (Set Uniform d n) w =
        fork (is_active x) (on_active code (Set Uniform d n) U v x) (on_active code (ch (Set Uniform d n)) U' v x') x x' refl refl
    own_same (Set Private d n) w =
        fork (is_active x) (on_active code (Set Private d n) U v x) (on_active code (ch (Set Private d n)) U' v x') x x' refl refl
    own_same (Copy Uniform d s) w =
        fork (is_active x) (on_active code (Copy Uniform d s) U v x) (on_active code (ch (Copy Uniform d s)) U' v x') x x' refl refl
    own_same (Copy Private d s) w =
        fork (is_active x) (on_active code (Copy Private d s) U v x) (on_active code (ch (Copy Private d s)) U' v x') x x' refl refl
    own_same (Negate Uniform d s q) w =
        fork (is_active x) (on_active code (Negate Uniform d s q) U v x) (on_active code (ch (Negate Uniform d s q)) U' v x') x x' refl refl
    own_same (Negate Private d s q) w =
        fork (is_active x) (on_active code (Negate Private d s q) U v x) (on_active code (ch (Negate Private d s q)) U' v x') x x' refl refl
    own_same (Calculate Uniform op d y z q) w =
        fork (is_active x) (on_active code (Calculate Uniform op d y z q) U v x) (on_active code (ch (Calculate Uniform op d y z q)) U' v
        x') x x' refl refl
    own_same (Calculate Private op d y z q) w =
        fork (is_active x) (on_active code (Calculate Private op d y z q) U v x) (on_active code (ch (Calculate Private op d y z q)) U' v
        x') x x' refl refl
    own_same (Decide Uniform op d y z) w =
        fork (is_active x) (on_active code (Decide Uniform op d y z) U v x) (on_active code (ch (Decide Uniform op d y z)) U' v x') x x'
        refl refl
    own_same (Decide Private op d y z) w =
        fork (is_active x) (on_active code (Decide Private op d y z) U v x) (on_active code (ch (Decide Private op d y z)) U' v x') x x'
        refl refl
    own_same (Not Uniform d s) w =
        fork (is_active x) (on_active code (Not Uniform d s) U v x) (on_active code (ch (Not Uniform d s)) U' v x') x x' refl refl
    own_same (Not Private d s) w =
        fork (is_active x) (on_active code (Not Private d s) U v x) (on_active code (ch (Not Private d s)) U' v x') x x' refl refl
    own_same (CopyUniform d s) w =
        fork (is_active x) (on_active code (CopyUniform d s) U v x) (on_active code (ch (CopyUniform d s)) U' v x') x x' refl refl
    own_same (Index d) w =
        fork (is_active x) (on_active code (Index d) U v x) (on_active code (ch (Index d)) U' v x') x x' refl refl
    own_same (Enter y z q) w =
        fork (is_active x) (on_active code (Enter y z q) U v x) (on_active code (ch (Enter y z q)) U' v x') x x' refl refl
    own_same Leave w =
        fork (is_active x) (on_active code Leave U v x) (on_active code (ch Leave) U' v x') x x' refl refl
    own_same (Mask s) w = λ j. record x' { masks = masked (is_active x) refl j ∷ x.masks }
      where
        masked : (q : Bool) → is_active x ≡ q → (q && is_nonzero (other (place_of Private u a s))) ≡ (q && is_nonzero (x.registers s))
        masked true e = ap is_nonzero (at e s w)
        masked false e = refl
    own_same Flip w = refl
    own_same Unmask w = refl
    own_same (Ask Uniform d z s q) w = refl
    own_same (Ask Private d z s q) w = go (is_active x) refl
      where
        f : is_known Private u a s ≡ true
        f = (both (is_known Private u a s) (is_at d (a d) && (is_none (c.number Uniform d) && is_none (c.number Private d))) w).0

        there : PrivatePart
        there = on_active code (ch (Ask Private d z s q)) U' v x'

        here : PrivatePart
        here = on_active code (Ask Private d z s q) U v x

        go : (p : Bool) → is_active x ≡ p →
            (if p then there else record x' { asks = x.asks ++ None ∷ [] })
            ≡ own_with (if p then there else record x' { asks = x.asks ++ None ∷ [] }).registers
            (if p then here else record x { asks = x.asks ++ None ∷ [] })
        go true e = λ j. record there { asks = x.asks ++ cells e z s f j ∷ [] }
        go false e = refl
    own_same (Put Uniform z s v q) w =
        fork (is_active x) (on_active code (Put Uniform z s v q) U v x) (on_active code (ch (Put Uniform z s v q)) U' v x') x x' refl refl
    own_same (Put Private z s v q) w =
        fork (is_active x) (on_active code (Put Private z s v q) U v x) (on_active code (ch (Put Private z s v q)) U' v x') x x' refl refl
    own_same Send w =
        fork (is_active x) (on_active code Send U v x) (on_active code (ch Send) U' v x') x x' refl refl
    own_same Reply w =
        fork (is_active x) (on_active code Reply U v x) (on_active code (ch Reply) U' v x') x x' refl refl
    own_same (Vote d) w =
        fork (is_active x) (on_active code (Vote d) U v x) (on_active code (ch (Vote d)) U' v x') x x' refl refl
    own_same (Print s) w =
        fork (is_active x) (on_active code (Print s) U v x) (on_active code (ch (Print s)) U' v x') x x' refl refl
    own_same (Jump t) w =
        fork (is_active x) (on_active code (Jump t) U v x) (on_active code (ch (Jump t)) U' v x') x x' refl refl
    own_same (JumpIfZero s t) w =
        fork (is_active x) (on_active code (JumpIfZero s t) U v x) (on_active code (ch (JumpIfZero s t)) U' v x') x x' refl refl
    own_same Halt w =
        fork (is_active x) (on_active code Halt U v x) (on_active code (ch Halt) U' v x') x x' refl refl

    pub own_holds : (i : Instr) → Knows i → is_step i ≡ true → (renewing : renews i ≡ false) →
        OwnHolds number (active_after c k i) (idle_then i) (all_after all i) (on_own code i U v x) (on_own code (ch i) U' v x').registers
    own_holds (Mark line) w o nr =
        went (active_after c k (Mark line)) (on_active code (Mark line) U v x) x x' (is_active x) refl refl
        (on_active code (ch (Mark line)) U' v x')
        (λ e. private_result c.number u a (c.into k) c.moved number x.registers other (h.active e) (Mark line) w refl) refl refl refl
    own_holds (Set Uniform d n) w o nr =
        went (active_after c k (Set Uniform d n)) (on_active code (Set Uniform d n) U v x) x x' (is_active x) refl refl
        (on_active code (ch (Set Uniform d n)) U' v x')
        (λ e. private_result c.number u a (c.into k) c.moved number x.registers other (h.active e) (Set Uniform d n) w refl) refl refl refl
    own_holds (Set Private d n) w o nr =
        went (active_after c k (Set Private d n)) (on_active code (Set Private d n) U v x) x x' (is_active x) refl refl
        (on_active code (ch (Set Private d n)) U' v x')
        (λ e. private_result c.number u a (c.into k) c.moved number x.registers other (h.active e) (Set Private d n) w refl) refl refl refl
    own_holds (Copy Uniform d s) w o nr =
        went (active_after c k (Copy Uniform d s)) (on_active code (Copy Uniform d s) U v x) x x' (is_active x) refl refl
        (on_active code (ch (Copy Uniform d s)) U' v x')
        (λ e. private_result c.number u a (c.into k) c.moved number x.registers other (h.active e) (Copy Uniform d s) w refl) refl refl refl
    own_holds (Copy Private d s) w o nr =
        went (active_after c k (Copy Private d s)) (on_active code (Copy Private d s) U v x) x x' (is_active x) refl refl
        (on_active code (ch (Copy Private d s)) U' v x')
        (λ e. private_result c.number u a (c.into k) c.moved number x.registers other (h.active e) (Copy Private d s) w refl) refl refl refl
    own_holds (Negate Uniform d s q) w o nr =
        went (active_after c k (Negate Uniform d s q)) (on_active code (Negate Uniform d s q) U v x) x x' (is_active x) refl refl
        (on_active code (ch (Negate Uniform d s q)) U' v x')
        (λ e. private_result c.number u a (c.into k) c.moved number x.registers other (h.active e) (Negate Uniform d s q) w refl) refl
        refl refl
    own_holds (Negate Private d s q) w o nr =
        went (active_after c k (Negate Private d s q)) (on_active code (Negate Private d s q) U v x) x x' (is_active x) refl refl
        (on_active code (ch (Negate Private d s q)) U' v x')
        (λ e. private_result c.number u a (c.into k) c.moved number x.registers other (h.active e) (Negate Private d s q) w refl) refl
        refl refl
    own_holds (Calculate Uniform op d y z q) w o nr =
        went (active_after c k (Calculate Uniform op d y z q)) (on_active code (Calculate Uniform op d y z q) U v x) x x' (is_active x)
        refl refl
        (on_active code (ch (Calculate Uniform op d y z q)) U' v x')
        (λ e. private_result c.number u a (c.into k) c.moved number x.registers other (h.active e) (Calculate Uniform op d y z q) w refl)
        refl refl refl
    own_holds (Calculate Private op d y z q) w o nr =
        went (active_after c k (Calculate Private op d y z q)) (on_active code (Calculate Private op d y z q) U v x) x x' (is_active x)
        refl refl
        (on_active code (ch (Calculate Private op d y z q)) U' v x')
        (λ e. private_result c.number u a (c.into k) c.moved number x.registers other (h.active e) (Calculate Private op d y z q) w refl)
        refl refl refl
    own_holds (Decide Uniform op d y z) w o nr =
        went (active_after c k (Decide Uniform op d y z)) (on_active code (Decide Uniform op d y z) U v x) x x' (is_active x) refl refl
        (on_active code (ch (Decide Uniform op d y z)) U' v x')
        (λ e. private_result c.number u a (c.into k) c.moved number x.registers other (h.active e) (Decide Uniform op d y z) w refl) refl
        refl refl
    own_holds (Decide Private op d y z) w o nr =
        went (active_after c k (Decide Private op d y z)) (on_active code (Decide Private op d y z) U v x) x x' (is_active x) refl refl
        (on_active code (ch (Decide Private op d y z)) U' v x')
        (λ e. private_result c.number u a (c.into k) c.moved number x.registers other (h.active e) (Decide Private op d y z) w refl) refl
        refl refl
    own_holds (Not Uniform d s) w o nr =
        went (active_after c k (Not Uniform d s)) (on_active code (Not Uniform d s) U v x) x x' (is_active x) refl refl
        (on_active code (ch (Not Uniform d s)) U' v x')
        (λ e. private_result c.number u a (c.into k) c.moved number x.registers other (h.active e) (Not Uniform d s) w refl) refl refl refl
    own_holds (Not Private d s) w o nr =
        went (active_after c k (Not Private d s)) (on_active code (Not Private d s) U v x) x x' (is_active x) refl refl
        (on_active code (ch (Not Private d s)) U' v x')
        (λ e. private_result c.number u a (c.into k) c.moved number x.registers other (h.active e) (Not Private d s) w refl) refl refl refl
    own_holds (CopyUniform d s) w o nr =
        went (active_after c k (CopyUniform d s)) (on_active code (CopyUniform d s) U v x) x x' (is_active x) refl refl
        (on_active code (ch (CopyUniform d s)) U' v x')
        (λ e. subst (λ y. Holds number (active_after c k (CopyUniform d s)) (set_register d (U.registers s) x.registers)
        (set_register (c.into k) y other))
        (sym (reads (c.number Uniform) u U.registers other_u hu s w))
        (result_in (CopyUniform d s) w d (U.registers s) refl (λ n. refl) e)) refl refl refl
    own_holds (Index d) w o nr =
        went (active_after c k (Index d)) (on_active code (Index d) U v x) x x' (is_active x) refl refl
        (on_active code (ch (Index d)) U' v x')
        (λ e. result_in (Index d) w d (index_of U v) refl (λ n. refl) e) refl refl refl
    own_holds (Enter y z q) w o nr = cc
    own_holds Leave w o nr = cc
    own_holds (Mask s) w o nr = record {
      active = λ e. h.active (both (is_active x) (is_nonzero (x.registers s)) e).0;
      idle = λ e. idle_row_mask (is_active x) refl;
      all = λ e. cc;
    }
      where
        by_all : (q : Bool) → (q ≡ true → Holds number a x.registers other) → (q ≡ false → Holds number (in_both a b) x.registers other) →
            Holds number (if q then a else in_both a b) x.registers other
        by_all true f g = f refl
        by_all false f g = g refl

        idle_row_mask : (q : Bool) → is_active x ≡ q → Holds number (if all then a else in_both a b) x.registers other
        idle_row_mask true e = by_all all (λ z. h.active e) (λ z. first_holds number a b x.registers other (h.active e))
        idle_row_mask false e = by_all all (λ z. not_both (under x.masks) (ap under (h.all z)) e) (λ z. second_holds number a b
            x.registers other (h.idle e))
    own_holds Flip w o nr = record {
      active = λ e. either_holds (is_active x) refl;
      idle = λ e. both_rows all (either_holds (is_active x) refl);
      all = λ e. cc;
    }
    own_holds Unmask w o nr = record {
      active = λ e. either_holds (is_active x) refl;
      idle = λ e. both_rows all (either_holds (is_active x) refl);
      all = λ e. cc;
    }
    own_holds (Ask Uniform d z s q) w o nr = record {
      active = h.active;
      idle = λ e. idle_row number a b all x other h.all e (h.idle e);
      all = h.all;
    }
    own_holds (Ask Private d z s q) w o nr =
        went (asked_into d a) (on_active code (Ask Private d z s q) U v x) (record x { asks = x.asks ++ None ∷ [] })
        (record x' { asks = x.asks ++ None ∷ [] }) (is_active x) refl refl (on_active code (ch (Ask Private d z s q)) U' v x')
        (λ e. subst (λ cell. Holds number (asked_into d a) (on_active code (Ask Private d z s q) U v x).registers (zero_without cell d
        other))
        (sym (cells e z s f.0))
        (asked_holds number a x.registers other (h.active e) d (cell_of code.layout z (x.registers s)) (at_place d (a d) g.0) n2.1))
        refl refl refl
      where
        f : (is_known Private u a s ≡ true)
            × ((is_at d (a d) && (is_none (c.number Uniform d) && is_none (c.number Private d))) ≡ true)
        f = both (is_known Private u a s) (is_at d (a d) && (is_none (c.number Uniform d) && is_none (c.number Private d))) w

        g : (is_at d (a d) ≡ true) × ((is_none (c.number Uniform d) && is_none (c.number Private d)) ≡ true)
        g = both (is_at d (a d)) (is_none (c.number Uniform d) && is_none (c.number Private d)) f.1

        n2 : (is_none (c.number Uniform d) ≡ true) × (is_none (c.number Private d) ≡ true)
        n2 = both (is_none (c.number Uniform d)) (is_none (c.number Private d)) g.1
    own_holds (Put Uniform z s v q) w o nr =
        went (active_after c k (Put Uniform z s v q)) (on_active code (Put Uniform z s v q) U v x) x x' (is_active x) refl refl
        (on_active code (ch (Put Uniform z s v q)) U' v x')
        (λ e. private_result c.number u a (c.into k) c.moved number x.registers other (h.active e) (Put Uniform z s v q) w refl) refl
        refl refl
    own_holds (Put Private z s v q) w o nr =
        went (active_after c k (Put Private z s v q)) (on_active code (Put Private z s v q) U v x) x x' (is_active x) refl refl
        (on_active code (ch (Put Private z s v q)) U' v x')
        (λ e. private_result c.number u a (c.into k) c.moved number x.registers other (h.active e) (Put Private z s v q) w refl) refl
        refl refl
    own_holds Send w o nr = cc
    own_holds Reply w o nr = cc
    own_holds (Vote d) w o nr = cc
    own_holds (Print s) w o nr =
        went (active_after c k (Print s)) (on_active code (Print s) U v x) x x' (is_active x) refl refl
        (on_active code (ch (Print s)) U' v x')
        (λ e. private_result c.number u a (c.into k) c.moved number x.registers other (h.active e) (Print s) w refl) refl refl refl
    own_holds (Jump t) w o nr = cc
    own_holds (JumpIfZero s t) w o nr = cc
    own_holds Halt w o nr = cc

    wrong_computed : is_active x ≡ true → (i : Instr) → Knows i →
        (if is_of Private (ch i) then wrong_in (computed (ch i) other) else None)
        ≡ (if is_of Private i then wrong_in (computed i x.registers) else None)
    wrong_computed e i w =
        wrong_if (is_of Private (ch i)) (computed (ch i) other)
        ∙ ap wrong_in (result_same c.number u a (c.into k) c.moved Private number x.registers other (h.active e) i w)
        ∙ wrong_redirected (c.into k) (result Private i x.registers) ∙ sym (wrong_if (is_of Private i) (computed i x.registers))

    wrong_own_same : is_active x ≡ true → (i : Instr) → Knows i → wrong_own code (ch i) x' ≡ wrong_own code i x
    wrong_own_same e (Mark line) w = refl
    wrong_own_same e (Set side d n) w = wrong_computed e (Set side d n) w
    wrong_own_same e (Copy side d s) w = wrong_computed e (Copy side d s) w
    wrong_own_same e (Negate side d s q) w = wrong_computed e (Negate side d s q) w
    wrong_own_same e (Calculate side o d y z q) w = wrong_computed e (Calculate side o d y z q) w
    wrong_own_same e (Decide side o d y z) w = wrong_computed e (Decide side o d y z) w
    wrong_own_same e (Not side d s) w = wrong_computed e (Not side d s) w
    wrong_own_same e (CopyUniform d s) w = refl
    wrong_own_same e (Index d) w = refl
    wrong_own_same e (Enter y z q) w = refl
    wrong_own_same e Leave w = refl
    wrong_own_same e (Mask s) w = refl
    wrong_own_same e Flip w = refl
    wrong_own_same e Unmask w = refl
    wrong_own_same e (Ask Uniform d z s q) w = refl
    wrong_own_same e (Ask Private d z s q) w =
        ap missing (cells e z s (both (is_known Private u a s) (is_at d (a d) && (is_none (c.number Uniform d) && is_none (c.number
        Private d))) w).0)
    wrong_own_same e (Put Uniform z s v q) w = refl
    wrong_own_same e (Put Private z s v q) w = ap missing (cells e z s (both (is_known Private u a s) (is_known Private u a v) w).0)
    wrong_own_same e Send w = refl
    wrong_own_same e Reply w = refl
    wrong_own_same e (Vote d) w = refl
    wrong_own_same e (Print s) w = refl
    wrong_own_same e (Jump t) w = refl
    wrong_own_same e (JumpIfZero s t) w = refl
    wrong_own_same e Halt w = refl

    pub own_key_same : (i : Instr) → Knows i → own_key code (ch i) U' v x' ≡ own_key code i U v x
    own_key_same i w = go (is_active x) refl
      where
        here : Option Key
        here = fault_at U (position_of i) (Processor (index_of U v)) (wrong_own code i x)

        there : Option Key
        there = fault_at U' (position_of (ch i)) (Processor (index_of U v)) (wrong_own code (ch i) x')

        none : Option Key
        none = None

        go : (q : Bool) → is_active x ≡ q → (if q then there else none) ≡ (if q then here else none)
        go true e =
            same_fault U U' (position_of (ch i)) (Processor (index_of U v)) (wrong_own code (ch i) x') refl refl
            ∙ (λ j. fault_at U ((alike u a (c.into k) c.moved i).position j) (Processor (index_of U v)) (wrong_own_same e i w j))
        go false e = refl

    pub own_write_same : (i : Instr) → Knows i → own_write code (ch i) x' ≡ own_write code i x
    own_write_same (Mark line) w = refl
    own_write_same (Set side d n) w = refl
    own_write_same (Copy side d s) w = refl
    own_write_same (Negate side d s q) w = refl
    own_write_same (Calculate side o d y z q) w = refl
    own_write_same (Decide side o d y z) w = refl
    own_write_same (Not side d s) w = refl
    own_write_same (CopyUniform d s) w = refl
    own_write_same (Index d) w = refl
    own_write_same (Enter y z q) w = refl
    own_write_same Leave w = refl
    own_write_same (Mask s) w = refl
    own_write_same Flip w = refl
    own_write_same Unmask w = refl
    own_write_same (Ask Uniform d z s q) w = refl
    own_write_same (Ask Private d z s q) w = refl
    own_write_same (Put Uniform z s v q) w = refl
    own_write_same (Put Private z s y q) w = go (is_active x) refl
      where
        f : (is_known Private u a s ≡ true) × (is_known Private u a y ≡ true)
        f = both (is_known Private u a s) (is_known Private u a y) w

        go : (q : Bool) → is_active x ≡ q →
            (if q then write_to (cell_of code.layout z (other (place_of Private u a s))) (other (place_of Private u a y)) else None)
            ≡ (if q then write_to (cell_of code.layout z (x.registers s)) (x.registers y) else None)
        go true e = λ j. write_to (cells e z s f.0 j) (at e y f.1 j)
        go false e = refl
    own_write_same Send w = refl
    own_write_same Reply w = refl
    own_write_same (Vote d) w = refl
    own_write_same (Print s) w = refl
    own_write_same (Jump t) w = refl
    own_write_same (JumpIfZero s t) w = refl
    own_write_same Halt w = refl
