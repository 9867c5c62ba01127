-- A stretch of a formula's code on the uniform registers: the machine does what one processor does by itself.
use Rattle.std.proofs.Common.{◌≡◌, ℕ, ◌+◌, List, [], ◌∷◌, ◌++◌, map, Option, Some, None, refl, sym, ap, ◌∙◌}
use Rattle.std.proofs.Common.{append-nil, append_assoc}
use Rattle.pram_model.specs.Layout.{cell_of}
use Rattle.pram_values.specs.declared.kind.Kind.{Kind}
use Rattle.pram_values.specs.declared.place.Place.{Place}
use Rattle.pram_values.specs.declared.place.Place.TheVariants.{All}
use Rattle.pram_values.specs.Total.{total}
use Rattle.pram_values.proofs.Totals.{total_none}
use Rattle.superstep_instructions.specs.declared.instr.Side.TheVariants.{Uniform}
use Rattle.superstep_instructions.specs.declared.instr.Instr.{Instr}
use Rattle.superstep_instructions.specs.declared.instr.Instr.TheVariants.{Ask}
use Rattle.superstep_instructions.specs.Code.{SuperstepCode}
use Rattle.superstep_machine.specs.Keys.{least}
use Rattle.superstep_machine.specs.Parts.{Registers, Read, UniformPart, PrivatePart}
use Rattle.superstep_machine.specs.Results.{position_of}
use Rattle.superstep_machine.specs.Steps.{fault_at, own_key, uniform_key, is_active}
use Rattle.superstep_machine.proofs.KeyOrder.{keys_are_monoid, none_least}
use Rattle.flat_machine.specs.Flat.{Flat, range, cells, read_conflicts}
use Rattle.flat_stretches.specs.Folds.{act_at_once, acts_at_once}
use Rattle.flat_stretches.specs.Notes.{note, notes}
use Rattle.statement_evaluation.specs.Noted.{Heading, moment, note_key}
use Rattle.compiled_formulas.specs.Headings.{heading_of}
use Rattle.compiled_formulas.proofs.Lone.{moved, moves, asked, asks_in, wrong, wrongs}
use Rattle.compiled_formulas.proofs.Parts.{IsPart, sets, negates, calculates, decides, inverts, asks_for, AreParts}
use Rattle.compiled_formulas.proofs.Sums.{if_none}

pub fault_is : (u : UniformPart) (q : ℕ) (at : Place) (k : Option Kind) →
    fault_at u q at k ≡ note_key (record { count = u.count; line = u.line }) q at k
fault_is u q at None = refl
fault_is u q at (Some kind) = refl

module _ (code : SuperstepCode) (base : ℕ) (uniforms : Registers) where
  -- ---- one instruction

  registers_by : (i : Instr) (f : Flat) → IsPart base Uniform i →
      (act_at_once code i f).uniform.registers ≡ moved code.layout uniforms i f.uniform.registers
  registers_by i f (sets d h) = refl
  registers_by i f (negates d h) = refl
  registers_by i f (calculates d h) = refl
  registers_by i f (decides d h) = refl
  registers_by i f (inverts d h) = refl
  registers_by i f (asks_for d h) = refl

  heading_by : (i : Instr) (f : Flat) → IsPart base Uniform i → heading_of (act_at_once code i f) ≡ heading_of f
  heading_by i f (sets d h) = refl
  heading_by i f (negates d h) = refl
  heading_by i f (calculates d h) = refl
  heading_by i f (decides d h) = refl
  heading_by i f (inverts d h) = refl
  heading_by i f (asks_for d h) = refl

  -- the read that it holds
  abbrev held : Heading → Instr → Registers → List Read
  held h (Ask side d a x q) r =
      record { side = Uniform; destination = d; moment = moment h q; cell = cell_of code.layout a (r x) } ∷ []
  held h i r = []

  abbrev pub held_in : Heading → List Instr → Registers → List Read
  held_in h [] r = []
  held_in h (i ∷ is) r = held h i r ++ held_in h is (moved code.layout uniforms i r)

  asks_by : (i : Instr) (f : Flat) → IsPart base Uniform i →
      (act_at_once code i f).uniform.asks ≡ f.uniform.asks ++ held (heading_of f) i f.uniform.registers
  asks_by i f (sets d h) = sym (append-nil f.uniform.asks)
  asks_by i f (negates d h) = sym (append-nil f.uniform.asks)
  asks_by i f (calculates d h) = sym (append-nil f.uniform.asks)
  asks_by i f (decides d h) = sym (append-nil f.uniform.asks)
  asks_by i f (inverts d h) = sym (append-nil f.uniform.asks)
  asks_by i f (asks_for d h) = refl

  no_own_key : (i : Instr) (u : UniformPart) (v : ℕ) (x : PrivatePart) → IsPart base Uniform i → own_key code i u v x ≡ None
  no_own_key i u v x (sets d h) = if_none (is_active x)
  no_own_key i u v x (negates d h) = if_none (is_active x)
  no_own_key i u v x (calculates d h) = if_none (is_active x)
  no_own_key i u v x (decides d h) = if_none (is_active x)
  no_own_key i u v x (inverts d h) = if_none (is_active x)
  no_own_key i u v x (asks_for d h) = if_none (is_active x)

  key_by : (i : Instr) (f : Flat) → IsPart base Uniform i →
      uniform_key code i f.uniform ≡ note_key (heading_of f) (position_of i) All (wrong code.layout uniforms i f.uniform.registers)
  key_by i f (sets d h) = refl
  key_by i f (negates d {x = x} {q = q} h) = fault_is f.uniform q All _
  key_by i f (calculates d {q = q} h) = fault_is f.uniform q All _
  key_by i f (decides d h) = refl
  key_by i f (inverts d h) = refl
  key_by i f (asks_for d {q = q} h) = fault_is f.uniform q All _

  noted_by : (i : Instr) (f : Flat) → IsPart base Uniform i →
      note code i f ≡ least (uniform_key code i f.uniform) (total None least (λ v. own_key code i f.uniform v (f.own v)) (range f))
  noted_by i f (sets d h) = refl
  noted_by i f (negates d h) = refl
  noted_by i f (calculates d h) = refl
  noted_by i f (decides d h) = refl
  noted_by i f (inverts d h) = refl
  noted_by i f (asks_for d h) = refl

  notes_by : (i : Instr) (f : Flat) → IsPart base Uniform i →
      note code i f ≡ note_key (heading_of f) (position_of i) All (wrong code.layout uniforms i f.uniform.registers)
  notes_by i f p =
      noted_by i f p
      ∙ ap (least (uniform_key code i f.uniform))
      (total_none None least keys_are_monoid (λ v. own_key code i f.uniform v (f.own v)) (λ v. no_own_key i f.uniform v (f.own v) p)
      (range f))
      ∙ none_least (uniform_key code i f.uniform) ∙ key_by i f p

  -- ---- a stretch

  pub uniform_registers : (is : List Instr) (f : Flat) → AreParts base Uniform is →
      (acts_at_once code is f).uniform.registers ≡ moves code.layout uniforms is f.uniform.registers
  uniform_registers [] f p = refl
  uniform_registers (i ∷ is) f p =
      uniform_registers is (act_at_once code i f) p.1 ∙ ap (moves code.layout uniforms is) (registers_by i f p.0)

  pub uniform_asks : (is : List Instr) (f : Flat) → AreParts base Uniform is →
      (acts_at_once code is f).uniform.asks ≡ f.uniform.asks ++ held_in (heading_of f) is f.uniform.registers
  uniform_asks [] f p = sym (append-nil f.uniform.asks)
  uniform_asks (i ∷ is) f p =
      uniform_asks is (act_at_once code i f) p.1
      ∙ (λ z. asks_by i f p.0 z ++ held_in (heading_by i f p.0 z) is (registers_by i f p.0 z))
      ∙ append_assoc f.uniform.asks (held (heading_of f) i f.uniform.registers)
      (held_in (heading_of f) is (moved code.layout uniforms i f.uniform.registers))

  pub uniform_notes : (is : List Instr) (f : Flat) → AreParts base Uniform is →
      notes code is f ≡ wrongs code.layout uniforms (λ q k. note_key (heading_of f) q All k) is f.uniform.registers
  uniform_notes [] f p = refl
  uniform_notes (i ∷ is) f p =
      ap (least (note code i f)) (uniform_notes is (act_at_once code i f) p.1)
      ∙ (λ z. least (notes_by i f p.0 z)
      (wrongs code.layout uniforms (λ q k. note_key (heading_by i f p.0 z) q All k) is (registers_by i f p.0 z)))

  -- ---- the reads that it holds

  held_reads_by : (h : Heading) (i : Instr) (r : Registers) → IsPart base Uniform i → (xs : List Read) →
      map (λ (x : Read). (x.destination, x.cell)) (held h i r ++ xs)
      ≡ asked code.layout uniforms i r ++ map (λ (x : Read). (x.destination, x.cell)) xs
  held_reads_by h i r (sets d l) xs = refl
  held_reads_by h i r (negates d l) xs = refl
  held_reads_by h i r (calculates d l) xs = refl
  held_reads_by h i r (decides d l) xs = refl
  held_reads_by h i r (inverts d l) xs = refl
  held_reads_by h i r (asks_for d l) xs = refl

  pub held_reads : (h : Heading) (is : List Instr) (r : Registers) → AreParts base Uniform is →
      map (λ (x : Read). (x.destination, x.cell)) (held_in h is r) ≡ asks_in code.layout uniforms is r
  held_reads h [] r p = refl
  held_reads h (i ∷ is) r p =
      held_reads_by h i r p.0 (held_in h is (moved code.layout uniforms i r))
      ∙ ap (λ zs. asked code.layout uniforms i r ++ zs) (held_reads h is (moved code.layout uniforms i r) p.1)

  -- uniform reads have no conflicts
  no_conflicts_by : (f : Flat) (h : Heading) (i : Instr) (r : Registers) → IsPart base Uniform i → (xs : List Read) →
      ((k : ℕ) → read_conflicts code f k xs ≡ None) → (k : ℕ) → read_conflicts code f k (held h i r ++ xs) ≡ None
  no_conflicts_by f h i r (sets d l) xs n k = n k
  no_conflicts_by f h i r (negates d l) xs n k = n k
  no_conflicts_by f h i r (calculates d l) xs n k = n k
  no_conflicts_by f h i r (decides d l) xs n k = n k
  no_conflicts_by f h i r (inverts d l) xs n k = n k
  no_conflicts_by f h i r (asks_for d l) xs n k =
      ap (λ y. least y (read_conflicts code f (k + 1) xs))
      (total_none None least keys_are_monoid (λ c. None) (λ c. refl) (cells code))
      ∙ n (k + 1)

  pub no_conflicts : (f : Flat) (h : Heading) (is : List Instr) (r : Registers) → AreParts base Uniform is → (k : ℕ) →
      read_conflicts code f k (held_in h is r) ≡ None
  no_conflicts f h [] r p k = refl
  no_conflicts f h (i ∷ is) r p k =
      no_conflicts_by f h i r p.0 (held_in h is (moved code.layout uniforms i r))
      (λ k. no_conflicts f h is (moved code.layout uniforms i r) p.1 k) k
