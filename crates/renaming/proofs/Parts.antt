-- What a renamed instruction does to parts whose registers are renamed.
use Rattle.std.proofs.Common.{◌≡◌, ℕ, [], ◌∷◌, ◌++◌, map, Bool, true, false, Option, Some, None, ℤ, pos, refl, sym, ap, ◌∙◌, eqb}
use Rattle.std.specs.Prelude.{◌&&◌, Ok, Err, if◌then◌else◌}
use Rattle.std.proofs.lemmas.Bool.{eq-eqb, eqb-true, eqb-false}
use Rattle.flat_machine.proofs.Lists.{map_joined}
use Rattle.pram_model.specs.Layout.{cell_of}
use Rattle.pram_values.specs.declared.kind.Kind.{Kind}
use Rattle.pram_values.specs.declared.place.Place.{Place}
use Rattle.pram_values.specs.declared.place.Place.TheVariants.{All, Processor}
use Rattle.pram_values.specs.Value.{Value}
use Rattle.pram_values.specs.Truth.{truth, is_nonzero}
use Rattle.superstep_instructions.specs.declared.instr.Side.{Side}
use Rattle.superstep_instructions.specs.declared.instr.Side.TheVariants.{Uniform, Private}
use Rattle.superstep_instructions.specs.declared.instr.Instr.{Instr}
use Rattle.superstep_instructions.specs.declared.instr.Instr.TheVariants.{Mark, Set, Copy, Negate, Calculate, Decide, Not, CopyUniform}
use Rattle.superstep_instructions.specs.declared.instr.Instr.TheVariants.{Index}
use Rattle.superstep_instructions.specs.declared.instr.Instr.TheVariants.{Enter, Leave, Mask, Flip, Unmask, Ask, Put, Send, Reply, Vote}
use Rattle.superstep_instructions.specs.declared.instr.Instr.TheVariants.{Print}
use Rattle.superstep_instructions.specs.declared.instr.Instr.TheVariants.{Jump, JumpIfZero, Halt}
use Rattle.superstep_instructions.specs.Code.{SuperstepCode}
use Rattle.superstep_machine.specs.Parts.{Registers, set_register, Read, UniformPart, PrivatePart}
use Rattle.superstep_machine.specs.Results.{computed, calculated, tested, is_same, is_of, position_of, kind_of, missing, range_width}
use Rattle.superstep_machine.specs.Results.{or_empty}
use Rattle.superstep_machine.specs.Steps.{with_result, wrong_in, zero_without, fault_at, write_to, on_uniform, wrong_uniform, uniform_key}
use Rattle.superstep_machine.specs.Steps.{uniform_write, index_of, is_active, on_active, on_own, wrong_own, own_key, own_write, is_put}
use Rattle.superstep_machine.specs.Steps.{renews}
use Rattle.superstep_machine.specs.Steps.{moment_of}
use Rattle.renaming.specs.Renamed.{IsOneToOne, renamed, with_names}

-- ---- what the numbers of registers have no part in

pub same_side : (p : ℕ → ℕ) (side : Side) (i : Instr) → is_of side (renamed p i) ≡ is_of side i
same_side p side (Mark line) = refl
same_side p side (Set s d n) = refl
same_side p side (Copy s d x) = refl
same_side p side (Negate s d x q) = refl
same_side p side (Calculate s o d a b q) = refl
same_side p side (Decide s o d a b) = refl
same_side p side (Not s d x) = refl
same_side p side (CopyUniform d s) = refl
same_side p side (Index d) = refl
same_side p side (Enter a b q) = refl
same_side p side Leave = refl
same_side p side (Mask s) = refl
same_side p side Flip = refl
same_side p side Unmask = refl
same_side p side (Ask s d c x q) = refl
same_side p side (Put s c x v q) = refl
same_side p side Send = refl
same_side p side Reply = refl
same_side p side (Vote d) = refl
same_side p side (Print s) = refl
same_side p side (Jump t) = refl
same_side p side (JumpIfZero s t) = refl
same_side p side Halt = refl

-- where an operation that may fault stands, and whether writes are held, or parts made anew
pub record Alike (i j : Instr) : Type 0 where
  pub position : position_of j ≡ position_of i
  pub put : is_put j ≡ is_put i
  pub renewing : renews j ≡ renews i

pub alike : (p : ℕ → ℕ) (i : Instr) → Alike i (renamed p i)
alike p (Mark line) = record { position = refl; put = refl; renewing = refl }
alike p (Set s d n) = record { position = refl; put = refl; renewing = refl }
alike p (Copy s d x) = record { position = refl; put = refl; renewing = refl }
alike p (Negate s d x q) = record { position = refl; put = refl; renewing = refl }
alike p (Calculate s o d a b q) = record { position = refl; put = refl; renewing = refl }
alike p (Decide s o d a b) = record { position = refl; put = refl; renewing = refl }
alike p (Not s d x) = record { position = refl; put = refl; renewing = refl }
alike p (CopyUniform d s) = record { position = refl; put = refl; renewing = refl }
alike p (Index d) = record { position = refl; put = refl; renewing = refl }
alike p (Enter a b q) = record { position = refl; put = refl; renewing = refl }
alike p Leave = record { position = refl; put = refl; renewing = refl }
alike p (Mask s) = record { position = refl; put = refl; renewing = refl }
alike p Flip = record { position = refl; put = refl; renewing = refl }
alike p Unmask = record { position = refl; put = refl; renewing = refl }
alike p (Ask s d c x q) = record { position = refl; put = refl; renewing = refl }
alike p (Put s c x v q) = record { position = refl; put = refl; renewing = refl }
alike p Send = record { position = refl; put = refl; renewing = refl }
alike p Reply = record { position = refl; put = refl; renewing = refl }
alike p (Vote d) = record { position = refl; put = refl; renewing = refl }
alike p (Print s) = record { position = refl; put = refl; renewing = refl }
alike p (Jump t) = record { position = refl; put = refl; renewing = refl }
alike p (JumpIfZero s t) = record { position = refl; put = refl; renewing = refl }
alike p Halt = record { position = refl; put = refl; renewing = refl }

module _ (p l : ℕ → ℕ) (one : IsOneToOne p l) where
  -- ---- registers

  abbrev pub moved : Registers → Registers
  moved r q = r (l q)

  pub at : (r : Registers) (s : ℕ) → moved r (p s) ≡ r s
  at r s = ap r (one.back s)

  same_number : (d q : ℕ) → eqb (p d) q ≡ eqb d (l q)
  same_number d q = go (eqb d (l q)) refl
    where
      none : (b : Bool) → eqb (p d) q ≡ b → eqb d (l q) ≡ false → b ≡ false
      none false f e = refl
      none true f e = absurd (eqb-false d (l q) e (sym (one.back d) ∙ ap l (eqb-true (p d) q f)))

      go : (b : Bool) → eqb d (l q) ≡ b → eqb (p d) q ≡ eqb d (l q)
      go true e = eq-eqb (p d) q (ap p (eqb-true d (l q) e) ∙ one.forth q) ∙ sym e
      go false e = none (eqb (p d) q) refl e ∙ sym e

  pub set_moved : (d : ℕ) (x : ℤ) (r : Registers) → set_register (p d) x (moved r) ≡ moved (set_register d x r)
  set_moved d x r = λ i q. if same_number d q i then x else r (l q)

  abbrev pub result_moved : Option (ℕ × Value) → Option (ℕ × Value)
  result_moved None = None
  result_moved (Some (d, value)) = Some (p d, value)

  computed_moved : (i : Instr) (r : Registers) → computed (renamed p i) (moved r) ≡ result_moved (computed i r)
  computed_moved (Mark line) r = refl
  computed_moved (Set s d n) r = refl
  computed_moved (Copy s d x) r = λ j. Some (p d, Ok (at r x j))
  computed_moved (Negate s d x q) r = ap (λ y. computed (Negate s (p d) 0 q) (λ k. y)) (at r x)
  computed_moved (Calculate s o d a b q) r = λ j. Some (p d, calculated o (at r a j) (at r b j))
  computed_moved (Decide s o d a b) r = λ j. Some (p d, Ok (truth (tested o (at r a j) (at r b j))))
  computed_moved (Not s d x) r = ap (λ y. computed (Not s (p d) 0) (λ k. y)) (at r x)
  computed_moved (CopyUniform d s) r = refl
  computed_moved (Index d) r = refl
  computed_moved (Enter a b q) r = refl
  computed_moved Leave r = refl
  computed_moved (Mask s) r = refl
  computed_moved Flip r = refl
  computed_moved Unmask r = refl
  computed_moved (Ask s d c x q) r = refl
  computed_moved (Put s c x v q) r = refl
  computed_moved Send r = refl
  computed_moved Reply r = refl
  computed_moved (Vote d) r = refl
  computed_moved (Print s) r = refl
  computed_moved (Jump t) r = refl
  computed_moved (JumpIfZero s t) r = refl
  computed_moved Halt r = refl

  with_moved : (o : Option (ℕ × Value)) (r : Registers) → with_result (result_moved o) (moved r) ≡ moved (with_result o r)
  with_moved None r = refl
  with_moved (Some (d, Ok x)) r = set_moved d x r
  with_moved (Some (d, Err kind)) r = set_moved d (pos 0) r

  wrong_moved : (o : Option (ℕ × Value)) → wrong_in (result_moved o) ≡ wrong_in o
  wrong_moved None = refl
  wrong_moved (Some (d, value)) = refl

  -- what an instruction computes, if it is of a side
  pub result_if : (b : Bool) (i : Instr) (r : Registers) →
      with_result (if b then computed (renamed p i) (moved r) else None) (moved r) ≡ moved
      (with_result (if b then computed i r else None) r)
  result_if true i r = ap (λ o. with_result o (moved r)) (computed_moved i r) ∙ with_moved (computed i r) r
  result_if false i r = refl

  pub wrong_if : (b : Bool) (i : Instr) (r : Registers) →
      (if b then wrong_in (computed (renamed p i) (moved r)) else None) ≡ (if b then wrong_in (computed i r) else None)
  wrong_if true i r = ap wrong_in (computed_moved i r) ∙ wrong_moved (computed i r)
  wrong_if false i r = refl

  zero_moved : (cell : Option ℕ) (d : ℕ) (r : Registers) → zero_without cell (p d) (moved r) ≡ moved (zero_without cell d r)
  zero_moved None d r = set_moved d (pos 0) r
  zero_moved (Some cell) d r = refl

  -- ---- the parts

  abbrev pub read_moved : Read → Read
  read_moved read = record read { destination = p read.destination }

  abbrev pub uniform_moved : UniformPart → UniformPart
  uniform_moved u = record u { registers = moved u.registers; asks = map read_moved u.asks; awaited = map read_moved u.awaited }

  abbrev pub own_moved : PrivatePart → PrivatePart
  own_moved x = record x { registers = moved x.registers }

  module _ (code : SuperstepCode) (uniform private : ℕ) where
    abbrev pub code' : SuperstepCode
    code' = with_names p uniform private code

    cells : (c s : ℕ) (r : Registers) → cell_of code.layout c (moved r (p s)) ≡ cell_of code.layout c (r s)
    cells c s r = ap (cell_of code.layout c) (at r s)

    -- ---- the uniform part

    asks_more : (u : UniformPart) (read : Read) →
        map read_moved u.asks ++ read_moved read ∷ [] ≡ map read_moved (u.asks ++ read ∷ [])
    asks_more u read = sym (map_joined read_moved u.asks (read ∷ []))

    plain : (u : UniformPart) (b : Bool) (i : Instr) →
        record (uniform_moved u) {
          registers = with_result (if b then computed (renamed p i) (moved u.registers) else None)
              (moved u.registers);
        }
        ≡ uniform_moved (record u { registers = with_result (if b then computed i u.registers else None) u.registers })
    plain u b i = λ j. record (uniform_moved u) { registers = result_if b i u.registers j }

    pub on_uniform_moved : (i : Instr) (u : UniformPart) → on_uniform code' (renamed p i) (uniform_moved u) ≡ uniform_moved
        (on_uniform code i u)
    on_uniform_moved (Mark line) u = refl
    on_uniform_moved (Set s d n) u = plain u (is_same Uniform s) (Set s d n)
    on_uniform_moved (Copy s d x) u = plain u (is_same Uniform s) (Copy s d x)
    on_uniform_moved (Negate s d x q) u = plain u (is_same Uniform s) (Negate s d x q)
    on_uniform_moved (Calculate s o d a b q) u = plain u (is_same Uniform s) (Calculate s o d a b q)
    on_uniform_moved (Decide s o d a b) u = plain u (is_same Uniform s) (Decide s o d a b)
    on_uniform_moved (Not s d x) u = plain u (is_same Uniform s) (Not s d x)
    on_uniform_moved (CopyUniform d s) u = refl
    on_uniform_moved (Index d) u = refl
    on_uniform_moved (Enter a b q) u = λ j. record (uniform_moved u) {
      low = at u.registers a j;
      width = or_empty (range_width code.procs (at u.registers a j) (at u.registers b j));
    }
    on_uniform_moved Leave u = refl
    on_uniform_moved (Mask s) u = refl
    on_uniform_moved Flip u = refl
    on_uniform_moved Unmask u = refl
    on_uniform_moved (Ask Uniform d c s q) u = λ j. record (uniform_moved u) {
      registers = (ap (λ o. zero_without o (p d) (moved u.registers)) (cells c s u.registers)
          ∙ zero_moved (cell_of code.layout c (u.registers s)) d u.registers) j;
      asks = (ap (λ o. map read_moved u.asks
          ++ record { side = Uniform; destination = p d; moment = moment_of u q; cell = o } ∷ []) (cells c s u.registers)
          ∙ asks_more u (record {
            side = Uniform;
            destination = d;
            moment = moment_of u q;
            cell = cell_of code.layout c
                (u.registers s);
          })) j;
    }
    on_uniform_moved (Ask Private d c s q) u = λ j. record (uniform_moved u) {
      asks = asks_more u (record { side = Private; destination = d; moment = moment_of u q; cell = None }) j;
    }
    on_uniform_moved (Put s c x v q) u = refl
    on_uniform_moved Send u = refl
    on_uniform_moved Reply u = refl
    on_uniform_moved (Vote d) u = refl
    on_uniform_moved (Print s) u = λ j. record (uniform_moved u) { output = u.output ++ (u.count, at u.registers s j) ∷ [] }
    on_uniform_moved (Jump t) u = refl
    on_uniform_moved (JumpIfZero s t) u = refl
    on_uniform_moved Halt u = refl

    wrong_uniform_moved : (i : Instr) (u : UniformPart) → wrong_uniform code' (renamed p i) (uniform_moved u) ≡ wrong_uniform code i u
    wrong_uniform_moved (Mark line) u = refl
    wrong_uniform_moved (Set s d n) u = wrong_if (is_same Uniform s) (Set s d n) u.registers
    wrong_uniform_moved (Copy s d x) u = wrong_if (is_same Uniform s) (Copy s d x) u.registers
    wrong_uniform_moved (Negate s d x q) u = wrong_if (is_same Uniform s) (Negate s d x q) u.registers
    wrong_uniform_moved (Calculate s o d a b q) u = wrong_if (is_same Uniform s) (Calculate s o d a b q) u.registers
    wrong_uniform_moved (Decide s o d a b) u = wrong_if (is_same Uniform s) (Decide s o d a b) u.registers
    wrong_uniform_moved (Not s d x) u = wrong_if (is_same Uniform s) (Not s d x) u.registers
    wrong_uniform_moved (CopyUniform d s) u = refl
    wrong_uniform_moved (Index d) u = refl
    wrong_uniform_moved (Enter a b q) u = λ j. kind_of (range_width code.procs (at u.registers a j) (at u.registers b j))
    wrong_uniform_moved Leave u = refl
    wrong_uniform_moved (Mask s) u = refl
    wrong_uniform_moved Flip u = refl
    wrong_uniform_moved Unmask u = refl
    wrong_uniform_moved (Ask Uniform d c s q) u = ap missing (cells c s u.registers)
    wrong_uniform_moved (Ask Private d c s q) u = refl
    wrong_uniform_moved (Put Uniform c s v q) u = ap missing (cells c s u.registers)
    wrong_uniform_moved (Put Private c s v q) u = refl
    wrong_uniform_moved Send u = refl
    wrong_uniform_moved Reply u = refl
    wrong_uniform_moved (Vote d) u = refl
    wrong_uniform_moved (Print s) u = refl
    wrong_uniform_moved (Jump t) u = refl
    wrong_uniform_moved (JumpIfZero s t) u = refl
    wrong_uniform_moved Halt u = refl

    same_fault : (u : UniformPart) (q : ℕ) (place : Place) (wrong : Option Kind) →
        fault_at (uniform_moved u) q place wrong ≡ fault_at u q place wrong
    same_fault u q place None = refl
    same_fault u q place (Some kind) = refl

    pub uniform_key_moved : (i : Instr) (u : UniformPart) → uniform_key code' (renamed p i) (uniform_moved u) ≡ uniform_key code i u
    uniform_key_moved i u =
        same_fault u (position_of (renamed p i)) All (wrong_uniform code' (renamed p i) (uniform_moved u))
        ∙ (λ j. fault_at u ((alike p i).position j) All (wrong_uniform_moved i u j))

    pub uniform_write_moved : (i : Instr) (u : UniformPart) →
        uniform_write code' (renamed p i) (uniform_moved u) ≡ uniform_write code i u
    uniform_write_moved (Mark line) u = refl
    uniform_write_moved (Set s d n) u = refl
    uniform_write_moved (Copy s d x) u = refl
    uniform_write_moved (Negate s d x q) u = refl
    uniform_write_moved (Calculate s o d a b q) u = refl
    uniform_write_moved (Decide s o d a b) u = refl
    uniform_write_moved (Not s d x) u = refl
    uniform_write_moved (CopyUniform d s) u = refl
    uniform_write_moved (Index d) u = refl
    uniform_write_moved (Enter a b q) u = refl
    uniform_write_moved Leave u = refl
    uniform_write_moved (Mask s) u = refl
    uniform_write_moved Flip u = refl
    uniform_write_moved Unmask u = refl
    uniform_write_moved (Ask s d c x q) u = refl
    uniform_write_moved (Put Uniform c s v q) u = λ j. write_to (cells c s u.registers j) (at u.registers v j)
    uniform_write_moved (Put Private c s v q) u = refl
    uniform_write_moved Send u = refl
    uniform_write_moved Reply u = refl
    uniform_write_moved (Vote d) u = refl
    uniform_write_moved (Print s) u = refl
    uniform_write_moved (Jump t) u = refl
    uniform_write_moved (JumpIfZero s t) u = refl
    uniform_write_moved Halt u = refl

    -- ---- one processor

    own_plain : (x : PrivatePart) (b : Bool) (i : Instr) →
        record (own_moved x) {
          registers = with_result (if b then computed (renamed p i) (moved x.registers) else None)
              (moved x.registers);
        }
        ≡ own_moved (record x { registers = with_result (if b then computed i x.registers else None) x.registers })
    own_plain x b i = λ j. record (own_moved x) { registers = result_if b i x.registers j }

    on_active_moved : (i : Instr) (u : UniformPart) (v : ℕ) (x : PrivatePart) →
        on_active code' (renamed p i) (uniform_moved u) v (own_moved x) ≡ own_moved (on_active code i u v x)
    on_active_moved (Mark line) u v x = refl
    on_active_moved (Set s d n) u v x = own_plain x (is_same Private s) (Set s d n)
    on_active_moved (Copy s d y) u v x = own_plain x (is_same Private s) (Copy s d y)
    on_active_moved (Negate s d y q) u v x = own_plain x (is_same Private s) (Negate s d y q)
    on_active_moved (Calculate s o d a b q) u v x = own_plain x (is_same Private s) (Calculate s o d a b q)
    on_active_moved (Decide s o d a b) u v x = own_plain x (is_same Private s) (Decide s o d a b)
    on_active_moved (Not s d y) u v x = own_plain x (is_same Private s) (Not s d y)
    on_active_moved (CopyUniform d s) u v x = λ j. record (own_moved x) {
      registers = (ap (λ y. set_register (p d) y (moved x.registers)) (at u.registers s) ∙ set_moved d (u.registers s) x.registers) j;
    }
    on_active_moved (Index d) u v x = λ j. record (own_moved x) { registers = set_moved d (index_of u v) x.registers j }
    on_active_moved (Enter a b q) u v x = refl
    on_active_moved Leave u v x = refl
    on_active_moved (Mask s) u v x = refl
    on_active_moved Flip u v x = refl
    on_active_moved Unmask u v x = refl
    on_active_moved (Ask Uniform d c s q) u v x = refl
    on_active_moved (Ask Private d c s q) u v x = λ j. record (own_moved x) {
      registers = (ap (λ o. zero_without o (p d) (moved x.registers)) (cells c s x.registers)
          ∙ zero_moved (cell_of code.layout c (x.registers s)) d x.registers) j;
      asks = x.asks ++ cells c s x.registers j ∷ [];
    }
    on_active_moved (Put Uniform c s w q) u v x = refl
    on_active_moved (Put Private c s w q) u v x = refl
    on_active_moved Send u v x = refl
    on_active_moved Reply u v x = refl
    on_active_moved (Vote d) u v x = refl
    on_active_moved (Print s) u v x = refl
    on_active_moved (Jump t) u v x = refl
    on_active_moved (JumpIfZero s t) u v x = refl
    on_active_moved Halt u v x = refl

    branch : (b : Bool) (a c a' c' : PrivatePart) → a' ≡ own_moved a → c' ≡ own_moved c →
        (if b then a' else c') ≡ own_moved (if b then a else c)
    branch true a c a' c' e f = e
    branch false a c a' c' e f = f

    active : (i : Instr) (u : UniformPart) (v : ℕ) (x : PrivatePart) →
        (if is_active x then on_active code' (renamed p i) (uniform_moved u) v (own_moved x) else own_moved x)
        ≡ own_moved (if is_active x then on_active code i u v x else x)
    active i u v x =
        branch (is_active x) (on_active code i u v x) x (on_active code' (renamed p i) (uniform_moved u) v (own_moved x)) (own_moved x)
        (on_active_moved i u v x) refl

    pub on_own_moved : (i : Instr) (u : UniformPart) (v : ℕ) (x : PrivatePart) →
        on_own code' (renamed p i) (uniform_moved u) v (own_moved x) ≡ own_moved (on_own code i u v x)
    on_own_moved (Mark line) u v x = active (Mark line) u v x
    on_own_moved (Set s d n) u v x = active (Set s d n) u v x
    on_own_moved (Copy s d y) u v x = active (Copy s d y) u v x
    on_own_moved (Negate s d y q) u v x = active (Negate s d y q) u v x
    on_own_moved (Calculate s o d a b q) u v x = active (Calculate s o d a b q) u v x
    on_own_moved (Decide s o d a b) u v x = active (Decide s o d a b) u v x
    on_own_moved (Not s d y) u v x = active (Not s d y) u v x
    on_own_moved (CopyUniform d s) u v x = active (CopyUniform d s) u v x
    on_own_moved (Index d) u v x = active (Index d) u v x
    on_own_moved (Enter a b q) u v x = active (Enter a b q) u v x
    on_own_moved Leave u v x = active Leave u v x
    on_own_moved (Mask s) u v x = λ j. record (own_moved x) { masks = (is_active x && is_nonzero (at x.registers s j)) ∷ x.masks }
    on_own_moved Flip u v x = refl
    on_own_moved Unmask u v x = refl
    on_own_moved (Ask Uniform d c s q) u v x = refl
    on_own_moved (Ask Private d c s q) u v x =
        branch (is_active x) (on_active code (Ask Private d c s q) u v x) (record x { asks = x.asks ++ None ∷ [] })
        (on_active code' (renamed p (Ask Private d c s q)) (uniform_moved u) v (own_moved x))
        (record (own_moved x) { asks = x.asks ++ None ∷ [] }) (on_active_moved (Ask Private d c s q) u v x) refl
    on_own_moved (Put s c y w q) u v x = active (Put s c y w q) u v x
    on_own_moved Send u v x = active Send u v x
    on_own_moved Reply u v x = active Reply u v x
    on_own_moved (Vote d) u v x = active (Vote d) u v x
    on_own_moved (Print s) u v x = active (Print s) u v x
    on_own_moved (Jump t) u v x = active (Jump t) u v x
    on_own_moved (JumpIfZero s t) u v x = active (JumpIfZero s t) u v x
    on_own_moved Halt u v x = active Halt u v x

    wrong_own_moved : (i : Instr) (x : PrivatePart) → wrong_own code' (renamed p i) (own_moved x) ≡ wrong_own code i x
    wrong_own_moved (Mark line) x = refl
    wrong_own_moved (Set s d n) x = wrong_if (is_same Private s) (Set s d n) x.registers
    wrong_own_moved (Copy s d y) x = wrong_if (is_same Private s) (Copy s d y) x.registers
    wrong_own_moved (Negate s d y q) x = wrong_if (is_same Private s) (Negate s d y q) x.registers
    wrong_own_moved (Calculate s o d a b q) x = wrong_if (is_same Private s) (Calculate s o d a b q) x.registers
    wrong_own_moved (Decide s o d a b) x = wrong_if (is_same Private s) (Decide s o d a b) x.registers
    wrong_own_moved (Not s d y) x = wrong_if (is_same Private s) (Not s d y) x.registers
    wrong_own_moved (CopyUniform d s) x = refl
    wrong_own_moved (Index d) x = refl
    wrong_own_moved (Enter a b q) x = refl
    wrong_own_moved Leave x = refl
    wrong_own_moved (Mask s) x = refl
    wrong_own_moved Flip x = refl
    wrong_own_moved Unmask x = refl
    wrong_own_moved (Ask Uniform d c s q) x = refl
    wrong_own_moved (Ask Private d c s q) x = ap missing (cells c s x.registers)
    wrong_own_moved (Put Uniform c s w q) x = refl
    wrong_own_moved (Put Private c s w q) x = ap missing (cells c s x.registers)
    wrong_own_moved Send x = refl
    wrong_own_moved Reply x = refl
    wrong_own_moved (Vote d) x = refl
    wrong_own_moved (Print s) x = refl
    wrong_own_moved (Jump t) x = refl
    wrong_own_moved (JumpIfZero s t) x = refl
    wrong_own_moved Halt x = refl

    pub own_key_moved : (i : Instr) (u : UniformPart) (v : ℕ) (x : PrivatePart) →
        own_key code' (renamed p i) (uniform_moved u) v (own_moved x) ≡ own_key code i u v x
    own_key_moved i u v x =
        (λ j. if is_active x then same_fault u (position_of (renamed p i)) (Processor (index_of u v))
        (wrong_own code' (renamed p i) (own_moved x)) j else None)
        ∙ (λ j. if is_active x then fault_at u ((alike p i).position j) (Processor (index_of u v)) (wrong_own_moved i x j) else None)

    pub own_write_moved : (i : Instr) (x : PrivatePart) → own_write code' (renamed p i) (own_moved x) ≡ own_write code i x
    own_write_moved (Mark line) x = refl
    own_write_moved (Set s d n) x = refl
    own_write_moved (Copy s d y) x = refl
    own_write_moved (Negate s d y q) x = refl
    own_write_moved (Calculate s o d a b q) x = refl
    own_write_moved (Decide s o d a b) x = refl
    own_write_moved (Not s d y) x = refl
    own_write_moved (CopyUniform d s) x = refl
    own_write_moved (Index d) x = refl
    own_write_moved (Enter a b q) x = refl
    own_write_moved Leave x = refl
    own_write_moved (Mask s) x = refl
    own_write_moved Flip x = refl
    own_write_moved Unmask x = refl
    own_write_moved (Ask s d c y q) x = refl
    own_write_moved (Put Uniform c s w q) x = refl
    own_write_moved (Put Private c s w q) x =
        λ j. if is_active x then write_to (cells c s x.registers j) (at x.registers w j) else None
    own_write_moved Send x = refl
    own_write_moved Reply x = refl
    own_write_moved (Vote d) x = refl
    own_write_moved (Print s) x = refl
    own_write_moved (Jump t) x = refl
    own_write_moved (JumpIfZero s t) x = refl
    own_write_moved Halt x = refl
