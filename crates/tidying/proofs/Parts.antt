-- What an instruction does to parts, where its change does the same to parts with other registers.
use Rattle.std.proofs.Common.{◌≡◌, ℕ, [], ◌∷◌, ◌++◌, Bool, true, false, Option, Some, None, refl, sym, ap, ◌∙◌, subst}
use Rattle.std.specs.Prelude.{if◌then◌else◌, ◌&&◌}
use Rattle.std.proofs.lemmas.Bool.{eqb-true}
use Rattle.pram_model.specs.Layout.{cell_of}
use Rattle.pram_model.proofs.Truths.{both}
use Rattle.pram_values.specs.declared.kind.Kind.{Kind}
use Rattle.pram_values.specs.declared.place.Place.{Place}
use Rattle.pram_values.specs.declared.place.Place.TheVariants.{All}
use Rattle.pram_values.specs.Value.{Value}
use Rattle.superstep_instructions.specs.declared.instr.Side.TheVariants.{Uniform, Private}
use Rattle.superstep_instructions.specs.declared.instr.Instr.{Instr}
use Rattle.superstep_instructions.specs.declared.instr.Instr.TheVariants.{Mark, Set, Copy, Negate, Calculate, Decide, Not, CopyUniform}
use Rattle.superstep_instructions.specs.declared.instr.Instr.TheVariants.{Index}
use Rattle.superstep_instructions.specs.declared.instr.Instr.TheVariants.{Enter, Leave, Mask, Flip, Unmask, Ask, Put, Send, Reply, Vote}
use Rattle.superstep_instructions.specs.declared.instr.Instr.TheVariants.{Print}
use Rattle.superstep_instructions.specs.declared.instr.Instr.TheVariants.{Jump, JumpIfZero, Halt}
use Rattle.superstep_instructions.specs.Code.{SuperstepCode}
use Rattle.superstep_machine.specs.Parts.{Registers, UniformPart, PrivatePart}
use Rattle.superstep_machine.specs.Results.{computed, is_of, position_of, kind_of, missing, range_width, or_empty}
use Rattle.superstep_machine.specs.Steps.{wrong_in, zero_without, moment_of, fault_at, write_to, on_uniform, wrong_uniform}
use Rattle.superstep_machine.specs.Steps.{uniform_key, uniform_write}
use Rattle.superstep_machine.specs.Steps.{is_put, renews}
use Rattle.tidying.specs.Rows.{Row, Holds, is_none, asked_into}
use Rattle.tidying.proofs.Behind.{uniform_after}
use Rattle.tidying.specs.Certificates.{Certificate, changed, is_known, is_at, place_of, knows}
use Rattle.tidying.proofs.Registers.{asked_holds}
use Rattle.tidying.proofs.Results.{reads, result, redirected, result_same, uniform_result}

-- ---- what the registers have no part in

-- it is none that an exchange or a jump carries out
abbrev pub is_step : Instr → Bool
is_step Send = false
is_step Reply = false
is_step (Vote d) = false
is_step (Jump t) = false
is_step (JumpIfZero s t) = false
is_step Halt = false
is_step i = true

pub record Alike (i j : Instr) : Type 0 where
  pub position : position_of j ≡ position_of i
  pub put : is_put j ≡ is_put i
  pub renewing : renews j ≡ renews i

pub alike : (u a : Row) (e : ℕ) (m : ℕ → ℕ) (i : Instr) → Alike i (changed u a e m i)
alike u a e m (Mark line) = record { position = refl; put = refl; renewing = refl }
alike u a e m (Set side d n) = record { position = refl; put = refl; renewing = refl }
alike u a e m (Copy side d s) = record { position = refl; put = refl; renewing = refl }
alike u a e m (Negate side d s q) = record { position = refl; put = refl; renewing = refl }
alike u a e m (Calculate side o d x y q) = record { position = refl; put = refl; renewing = refl }
alike u a e m (Decide side o d x y) = record { position = refl; put = refl; renewing = refl }
alike u a e m (Not side d s) = record { position = refl; put = refl; renewing = refl }
alike u a e m (CopyUniform d s) = record { position = refl; put = refl; renewing = refl }
alike u a e m (Index d) = record { position = refl; put = refl; renewing = refl }
alike u a e m (Enter x y q) = record { position = refl; put = refl; renewing = refl }
alike u a e m Leave = record { position = refl; put = refl; renewing = refl }
alike u a e m (Mask s) = record { position = refl; put = refl; renewing = refl }
alike u a e m Flip = record { position = refl; put = refl; renewing = refl }
alike u a e m Unmask = record { position = refl; put = refl; renewing = refl }
alike u a e m (Ask Uniform d z s q) = record { position = refl; put = refl; renewing = refl }
alike u a e m (Ask Private d z s q) = record { position = refl; put = refl; renewing = refl }
alike u a e m (Put Uniform z s v q) = record { position = refl; put = refl; renewing = refl }
alike u a e m (Put Private z s v q) = record { position = refl; put = refl; renewing = refl }
alike u a e m Send = record { position = refl; put = refl; renewing = refl }
alike u a e m Reply = record { position = refl; put = refl; renewing = refl }
alike u a e m (Vote d) = record { position = refl; put = refl; renewing = refl }
alike u a e m (Print s) = record { position = refl; put = refl; renewing = refl }
alike u a e m (Jump t) = record { position = refl; put = refl; renewing = refl }
alike u a e m (JumpIfZero s t) = record { position = refl; put = refl; renewing = refl }
alike u a e m Halt = record { position = refl; put = refl; renewing = refl }

pub at_place : (d : ℕ) (o : Option ℕ) → is_at d o ≡ true → o ≡ Some d
at_place d None h = cc
at_place d (Some t) h = ap (λ z. Some z) (sym (eqb-true d t h))

pub same_fault : (u v : UniformPart) (q : ℕ) (place : Place) (o : Option Kind) → v.count ≡ u.count → v.line ≡ u.line →
    fault_at v q place o ≡ fault_at u q place o
same_fault u v q place None e f = refl
same_fault u v q place (Some kind) e f = λ j. Some (record {
  count = e j;
  position = q;
  conflict = false;
  place = place;
  kind =
      kind;
  line = f j;
})

pub wrong_if : (b : Bool) (o : Option (ℕ × Value)) → (if b then wrong_in o else None) ≡ wrong_in (if b then o else None)
wrong_if true o = refl
wrong_if false o = refl

pub wrong_redirected : (e : ℕ) (o : Option (ℕ × Value)) → wrong_in (redirected e o) ≡ wrong_in o
wrong_redirected e None = refl
wrong_redirected e (Some (d, value)) = refl

abbrev pub with_registers : Registers → UniformPart → UniformPart
with_registers r u = record u { registers = r }

abbrev pub own_with : Registers → PrivatePart → PrivatePart
own_with r x = record x { registers = r }

pub fork : (b : Bool) (a a' x x' : PrivatePart) → a' ≡ own_with a'.registers a → x' ≡ own_with x'.registers x →
    (if b then a' else x') ≡ own_with (if b then a' else x').registers (if b then a else x)
fork true a a' x x' e f = e
fork false a a' x x' e f = f

module _ (code : SuperstepCode) (c : Certificate) (k : ℕ) where
  abbrev u : Row
  u = (c.at k).uniform

  abbrev a : Row
  a = (c.at k).active

  abbrev ch : Instr → Instr
  ch = changed u a (c.into k) c.moved

  abbrev Knows : Instr → Type 0
  Knows i = knows c.number u a i ≡ true

  module _ (U : UniformPart) (other : Registers) (h : Holds (c.number Uniform) u U.registers other) where
    abbrev U' : UniformPart
    U' = with_registers other U

    abbrev at : (s : ℕ) → is_known Uniform u a s ≡ true → other (place_of Uniform u a s) ≡ U.registers s
    at s w = reads (c.number Uniform) u U.registers other h s w

    abbrev cells : (d s : ℕ) → is_known Uniform u a s ≡ true →
        cell_of code.layout d (other (place_of Uniform u a s)) ≡ cell_of code.layout d (U.registers s)
    cells d s w = ap (cell_of code.layout d) (at s w)

    pub uniform_same : (i : Instr) → Knows i → on_uniform code (ch i) U'
        ≡ with_registers (on_uniform code (ch i) U').registers (on_uniform code i U)
    uniform_same (Mark line) w = refl
    uniform_same (Set side d n) w = refl
    uniform_same (Copy side d s) w = refl
    uniform_same (Negate side d s q) w = refl
    uniform_same (Calculate side o d x y q) w = refl
    uniform_same (Decide side o d x y) w = refl
    uniform_same (Not side d s) w = refl
    uniform_same (CopyUniform d s) w = refl
    uniform_same (Index d) w = refl
    uniform_same (Enter x y q) w =
        let b = both (is_known Uniform u a x) (is_known Uniform u a y) w in
        λ j. record U' { low = at x b.0 j; width = or_empty (range_width code.procs (at x b.0 j) (at y b.1 j)) }
    uniform_same Leave w = refl
    uniform_same (Mask s) w = refl
    uniform_same Flip w = refl
    uniform_same Unmask w = refl
    uniform_same (Ask Uniform d z s q) w =
        let b = both (is_known Uniform u a s) (is_at d (u d) && (is_none (c.number Uniform d) && is_none (c.number Private d))) w in
        λ j. record U' {
          registers = zero_without (cell_of code.layout z (other (place_of Uniform u a s))) d other;
          asks = U.asks ++ record { side = Uniform; destination = d; moment = moment_of U q; cell = cells z s b.0 j } ∷ [];
        }
    uniform_same (Ask Private d z s q) w = refl
    uniform_same (Put Uniform z s v q) w = refl
    uniform_same (Put Private z s v q) w = refl
    uniform_same Send w = refl
    uniform_same Reply w = refl
    uniform_same (Vote d) w = refl
    uniform_same (Print s) w = λ j. record U' { output = U.output ++ (U.count, at s w j) ∷ [] }
    uniform_same (Jump t) w = refl
    uniform_same (JumpIfZero s t) w = refl
    uniform_same Halt w = refl

    pub uniform_holds : (i : Instr) → Knows i → is_step i ≡ true →
        Holds (c.number Uniform) (uniform_after c k i) (on_uniform code i U).registers (on_uniform code (ch i) U').registers
    uniform_holds (Mark line) w o = h
    uniform_holds (Set side d n) w o = uniform_result c.number u a (c.into k) c.moved (c.number Uniform) U.registers other h (Set side d
        n) w
    uniform_holds (Copy side d s) w o = uniform_result c.number u a (c.into k) c.moved (c.number Uniform) U.registers other h (Copy side
        d s) w
    uniform_holds (Negate side d s q) w o = uniform_result c.number u a (c.into k) c.moved (c.number Uniform) U.registers other h (Negate
        side d s q) w
    uniform_holds (Calculate side op d x y q) w o = uniform_result c.number u a (c.into k) c.moved (c.number Uniform) U.registers other h
        (Calculate side op d x y q) w
    uniform_holds (Decide side op d x y) w o = uniform_result c.number u a (c.into k) c.moved (c.number Uniform) U.registers other h
        (Decide side op d x y) w
    uniform_holds (Not side d s) w o = uniform_result c.number u a (c.into k) c.moved (c.number Uniform) U.registers other h (Not side d
        s) w
    uniform_holds (CopyUniform d s) w o = uniform_result c.number u a (c.into k) c.moved (c.number Uniform) U.registers other h
        (CopyUniform d s) w
    uniform_holds (Index d) w o = uniform_result c.number u a (c.into k) c.moved (c.number Uniform) U.registers other h (Index d) w
    uniform_holds (Enter x y q) w o = h
    uniform_holds Leave w o = h
    uniform_holds (Mask s) w o = uniform_result c.number u a (c.into k) c.moved (c.number Uniform) U.registers other h (Mask s) w
    uniform_holds Flip w o = uniform_result c.number u a (c.into k) c.moved (c.number Uniform) U.registers other h Flip w
    uniform_holds Unmask w o = uniform_result c.number u a (c.into k) c.moved (c.number Uniform) U.registers other h Unmask w
    uniform_holds (Ask Uniform d z s q) w o =
        let b = both (is_known Uniform u a s) (is_at d (u d) && (is_none (c.number Uniform d) && is_none (c.number Private d))) w in
        let f = both (is_at d (u d)) (is_none (c.number Uniform d) && is_none (c.number Private d)) b.1 in
        let g = both (is_none (c.number Uniform d)) (is_none (c.number Private d)) f.1 in
        subst (λ cell. Holds (c.number Uniform) (asked_into d u) (on_uniform code (Ask Uniform d z s q) U).registers (zero_without cell d
        other))
        (sym (cells z s b.0))
        (asked_holds (c.number Uniform) u U.registers other h d (cell_of code.layout z (U.registers s)) (at_place d (u d) f.0) g.0)
    uniform_holds (Ask Private d z s q) w o = h
    uniform_holds (Put Uniform z s v q) w o = h
    uniform_holds (Put Private z s v q) w o = h
    uniform_holds Send w o = cc
    uniform_holds Reply w o = cc
    uniform_holds (Vote d) w o = cc
    uniform_holds (Print s) w o = h
    uniform_holds (Jump t) w o = cc
    uniform_holds (JumpIfZero s t) w o = cc
    uniform_holds Halt w o = cc

    wrong_computed : (i : Instr) → Knows i →
        (if is_of Uniform (ch i) then wrong_in (computed (ch i) other) else None)
        ≡ (if is_of Uniform i then wrong_in (computed i U.registers) else None)
    wrong_computed i w =
        wrong_if (is_of Uniform (ch i)) (computed (ch i) other)
        ∙ ap wrong_in (result_same c.number u a (c.into k) c.moved Uniform (c.number Uniform) U.registers other h i w)
        ∙ wrong_redirected (c.into k) (result Uniform i U.registers) ∙ sym (wrong_if (is_of Uniform i) (computed i U.registers))

    wrong_uniform_same : (i : Instr) → Knows i → wrong_uniform code (ch i) U' ≡ wrong_uniform code i U
    wrong_uniform_same (Mark line) w = refl
    wrong_uniform_same (Set side d n) w = wrong_computed (Set side d n) w
    wrong_uniform_same (Copy side d s) w = wrong_computed (Copy side d s) w
    wrong_uniform_same (Negate side d s q) w = wrong_computed (Negate side d s q) w
    wrong_uniform_same (Calculate side o d x y q) w = wrong_computed (Calculate side o d x y q) w
    wrong_uniform_same (Decide side o d x y) w = wrong_computed (Decide side o d x y) w
    wrong_uniform_same (Not side d s) w = wrong_computed (Not side d s) w
    wrong_uniform_same (CopyUniform d s) w = refl
    wrong_uniform_same (Index d) w = refl
    wrong_uniform_same (Enter x y q) w =
        let b = both (is_known Uniform u a x) (is_known Uniform u a y) w in
        λ j. kind_of (range_width code.procs (at x b.0 j) (at y b.1 j))
    wrong_uniform_same Leave w = refl
    wrong_uniform_same (Mask s) w = refl
    wrong_uniform_same Flip w = refl
    wrong_uniform_same Unmask w = refl
    wrong_uniform_same (Ask Uniform d z s q) w =
        ap missing (cells z s (both (is_known Uniform u a s) (is_at d (u d) && (is_none (c.number Uniform d) && is_none (c.number Private
        d))) w).0)
    wrong_uniform_same (Ask Private d z s q) w = refl
    wrong_uniform_same (Put Uniform z s v q) w = ap missing (cells z s (both (is_known Uniform u a s) (is_known Uniform u a v) w).0)
    wrong_uniform_same (Put Private z s v q) w = refl
    wrong_uniform_same Send w = refl
    wrong_uniform_same Reply w = refl
    wrong_uniform_same (Vote d) w = refl
    wrong_uniform_same (Print s) w = refl
    wrong_uniform_same (Jump t) w = refl
    wrong_uniform_same (JumpIfZero s t) w = refl
    wrong_uniform_same Halt w = refl

    pub uniform_key_same : (i : Instr) → Knows i → uniform_key code (ch i) U' ≡ uniform_key code i U
    uniform_key_same i w =
        same_fault U U' (position_of (ch i)) All (wrong_uniform code (ch i) U') refl refl
        ∙ (λ j. fault_at U ((alike u a (c.into k) c.moved i).position j) All (wrong_uniform_same i w j))

    pub uniform_write_same : (i : Instr) → Knows i → uniform_write code (ch i) U' ≡ uniform_write code i U
    uniform_write_same (Mark line) w = refl
    uniform_write_same (Set side d n) w = refl
    uniform_write_same (Copy side d s) w = refl
    uniform_write_same (Negate side d s q) w = refl
    uniform_write_same (Calculate side o d x y q) w = refl
    uniform_write_same (Decide side o d x y) w = refl
    uniform_write_same (Not side d s) w = refl
    uniform_write_same (CopyUniform d s) w = refl
    uniform_write_same (Index d) w = refl
    uniform_write_same (Enter x y q) w = refl
    uniform_write_same Leave w = refl
    uniform_write_same (Mask s) w = refl
    uniform_write_same Flip w = refl
    uniform_write_same Unmask w = refl
    uniform_write_same (Ask Uniform d z s q) w = refl
    uniform_write_same (Ask Private d z s q) w = refl
    uniform_write_same (Put Uniform z s v q) w =
        let b = both (is_known Uniform u a s) (is_known Uniform u a v) w in
        λ j. write_to (cells z s b.0 j) (at v b.1 j)
    uniform_write_same (Put Private z s v q) w = refl
    uniform_write_same Send w = refl
    uniform_write_same Reply w = refl
    uniform_write_same (Vote d) w = refl
    uniform_write_same (Print s) w = refl
    uniform_write_same (Jump t) w = refl
    uniform_write_same (JumpIfZero s t) w = refl
    uniform_write_same Halt w = refl
