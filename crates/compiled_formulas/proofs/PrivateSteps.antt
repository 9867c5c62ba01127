-- A stretch of a formula's code on private registers: the machine does for each active processor what that one does by itself.
use Rattle.std.proofs.Common.{◌≡◌, ℕ, ◌+◌, List, [], ◌∷◌, ◌++◌, map, Bool, true, false, Option, None, ℤ, refl, sym, ap, ◌∙◌}
use Rattle.std.proofs.Common.{append-nil, append_assoc}
use Rattle.std.specs.Prelude.{if◌then◌else◌}
use Rattle.std.specs.List.{range_with_len, zip}
use Rattle.pram_values.specs.declared.place.Place.TheVariants.{Processor}
use Rattle.pram_values.specs.Total.{total}
use Rattle.pram_values.proofs.Totals.{total_same, total_none, total_both}
use Rattle.superstep_instructions.specs.declared.instr.Side.TheVariants.{Private}
use Rattle.superstep_instructions.specs.declared.instr.Instr.{Instr}
use Rattle.superstep_instructions.specs.declared.instr.Instr.TheVariants.{Ask}
use Rattle.superstep_instructions.specs.Code.{SuperstepCode}
use Rattle.superstep_machine.specs.declared.key.Key.{Key}
use Rattle.superstep_machine.specs.Keys.{least}
use Rattle.superstep_machine.specs.Parts.{Registers, Read, UniformPart, PrivatePart}
use Rattle.superstep_machine.specs.Results.{position_of}
use Rattle.superstep_machine.specs.Steps.{own_key, on_active, index_of, is_active, under}
use Rattle.superstep_machine.specs.Answering.{answers, destinations}
use Rattle.pram_model.specs.Layout.{cell_of}
use Rattle.superstep_machine.proofs.KeyOrder.{keys_are_monoid}
use Rattle.flat_machine.specs.Flat.{Flat, range}
use Rattle.flat_stretches.specs.Folds.{act_at_once, acts_at_once}
use Rattle.flat_stretches.specs.Notes.{note, notes}
use Rattle.statement_evaluation.specs.Noted.{Heading, moment, note_key}
use Rattle.compiled_formulas.specs.Headings.{heading_of}
use Rattle.compiled_formulas.proofs.Lone.{moved, moves, asked, asks_in, wrong, wrongs}
use Rattle.compiled_formulas.proofs.Parts.{IsPart, sets, negates, calculates, decides, inverts, copies, asks_for, AreParts}
use Rattle.compiled_formulas.proofs.UniformSteps.{fault_is}

-- the cells of reads
abbrev pub cells_of : List (ℕ × Option ℕ) → List (Option ℕ)
cells_of = map (λ (x : ℕ × Option ℕ). x.1)

pub cells_join : (xs ys : List (ℕ × Option ℕ)) → cells_of (xs ++ ys) ≡ cells_of xs ++ cells_of ys
cells_join [] ys = refl
cells_join (x ∷ xs) ys = ap (λ zs. x.1 ∷ zs) (cells_join xs ys)

-- the read that each processor has a place for
abbrev pub slots : Heading → Instr → List Read
slots h (Ask side d a x q) = record { side = Private; destination = d; moment = moment h q; cell = None } ∷ []
slots h i = []

abbrev pub slots_in : Heading → List Instr → List Read
slots_in h [] = []
slots_in h (i ∷ is) = slots h i ++ slots_in h is

-- the uniform part with more reads
abbrev pub with_reads : List Read → UniformPart → UniformPart
with_reads xs u = record u { asks = u.asks ++ xs }

module _ (code : SuperstepCode) (base : ℕ) where
  -- ---- one instruction

  uniform_by : (i : Instr) (f : Flat) → IsPart base Private i →
      (act_at_once code i f).uniform ≡ with_reads (slots (heading_of f) i) f.uniform
  uniform_by i f (sets d h) = λ z. record f.uniform { asks = sym (append-nil f.uniform.asks) z }
  uniform_by i f (negates d h) = λ z. record f.uniform { asks = sym (append-nil f.uniform.asks) z }
  uniform_by i f (calculates d h) = λ z. record f.uniform { asks = sym (append-nil f.uniform.asks) z }
  uniform_by i f (decides d h) = λ z. record f.uniform { asks = sym (append-nil f.uniform.asks) z }
  uniform_by i f (inverts d h) = λ z. record f.uniform { asks = sym (append-nil f.uniform.asks) z }
  uniform_by i f (copies d h) = λ z. record f.uniform { asks = sym (append-nil f.uniform.asks) z }
  uniform_by i f (asks_for d h) = refl

  -- what one processor by itself does
  abbrev does : Registers → Instr → PrivatePart → PrivatePart
  does u i x = record x {
    registers = moved code.layout u i x.registers;
    asks = x.asks ++ cells_of (asked code.layout u i x.registers);
  }

  abbrev pub does_all : Registers → List Instr → PrivatePart → PrivatePart
  does_all u is x = record x {
    registers = moves code.layout u is x.registers;
    asks = x.asks ++ cells_of (asks_in code.layout u is x.registers);
  }

  taken : (b : Bool) (x y : PrivatePart) → b ≡ true → (if b then y else x) ≡ y
  taken b x y e = ap (λ b. if b then y else x) e

  own_by : (i : Instr) (f : Flat) (v : ℕ) → IsPart base Private i → is_active (f.own v) ≡ true →
      (act_at_once code i f).own v ≡ does f.uniform.registers i (f.own v)
  own_by i f v (sets d h) e =
      taken (is_active (f.own v)) (f.own v) (on_active code i f.uniform v (f.own v)) e
      ∙ (λ z. record (on_active code i f.uniform v (f.own v)) { asks = sym (append-nil (f.own v).asks) z })
  own_by i f v (negates d h) e =
      taken (is_active (f.own v)) (f.own v) (on_active code i f.uniform v (f.own v)) e
      ∙ (λ z. record (on_active code i f.uniform v (f.own v)) { asks = sym (append-nil (f.own v).asks) z })
  own_by i f v (calculates d h) e =
      taken (is_active (f.own v)) (f.own v) (on_active code i f.uniform v (f.own v)) e
      ∙ (λ z. record (on_active code i f.uniform v (f.own v)) { asks = sym (append-nil (f.own v).asks) z })
  own_by i f v (decides d h) e =
      taken (is_active (f.own v)) (f.own v) (on_active code i f.uniform v (f.own v)) e
      ∙ (λ z. record (on_active code i f.uniform v (f.own v)) { asks = sym (append-nil (f.own v).asks) z })
  own_by i f v (inverts d h) e =
      taken (is_active (f.own v)) (f.own v) (on_active code i f.uniform v (f.own v)) e
      ∙ (λ z. record (on_active code i f.uniform v (f.own v)) { asks = sym (append-nil (f.own v).asks) z })
  own_by i f v (copies d h) e =
      taken (is_active (f.own v)) (f.own v) (on_active code i f.uniform v (f.own v)) e
      ∙ (λ z. record (on_active code i f.uniform v (f.own v)) { asks = sym (append-nil (f.own v).asks) z })
  own_by i f v (asks_for d h) e =
      taken (is_active (f.own v)) (record (f.own v) { asks = (f.own v).asks ++ None ∷ [] }) (on_active code i f.uniform v (f.own v)) e

  either_masks : (b : Bool) (x y : PrivatePart) → y.masks ≡ x.masks → (if b then y else x).masks ≡ x.masks
  either_masks true x y h = h
  either_masks false x y h = refl

  masks_by : (i : Instr) (f : Flat) (v : ℕ) → IsPart base Private i → ((act_at_once code i f).own v).masks ≡ (f.own v).masks
  masks_by i f v (sets d h) = either_masks (is_active (f.own v)) (f.own v) (on_active code i f.uniform v (f.own v)) refl
  masks_by i f v (negates d h) = either_masks (is_active (f.own v)) (f.own v) (on_active code i f.uniform v (f.own v)) refl
  masks_by i f v (calculates d h) = either_masks (is_active (f.own v)) (f.own v) (on_active code i f.uniform v (f.own v)) refl
  masks_by i f v (decides d h) = either_masks (is_active (f.own v)) (f.own v) (on_active code i f.uniform v (f.own v)) refl
  masks_by i f v (inverts d h) = either_masks (is_active (f.own v)) (f.own v) (on_active code i f.uniform v (f.own v)) refl
  masks_by i f v (copies d h) = either_masks (is_active (f.own v)) (f.own v) (on_active code i f.uniform v (f.own v)) refl
  masks_by i f v (asks_for d h) =
      either_masks (is_active (f.own v)) (record (f.own v) { asks = (f.own v).asks ++ None ∷ [] }) (on_active code i f.uniform v (f.own v))
      refl

  -- a processor's own key
  abbrev key_by : Instr → Flat → ℕ → Option Key
  key_by i f v =
      note_key (heading_of f) (position_of i) (Processor (index_of f.uniform v))
      (wrong code.layout f.uniform.registers i (f.own v).registers)

  own_key_by : (i : Instr) (f : Flat) (v : ℕ) → IsPart base Private i →
      own_key code i f.uniform v (f.own v) ≡ (if is_active (f.own v) then key_by i f v else None)
  own_key_by i f v (sets d h) = refl
  own_key_by i f v (negates d {q = q} h) =
      ap (λ k. if is_active (f.own v) then k else None) (fault_is f.uniform q (Processor (index_of f.uniform v)) _)
  own_key_by i f v (calculates d {q = q} h) =
      ap (λ k. if is_active (f.own v) then k else None) (fault_is f.uniform q (Processor (index_of f.uniform v)) _)
  own_key_by i f v (decides d h) = refl
  own_key_by i f v (inverts d h) = refl
  own_key_by i f v (copies d h) = refl
  own_key_by i f v (asks_for d {q = q} h) =
      ap (λ k. if is_active (f.own v) then k else None) (fault_is f.uniform q (Processor (index_of f.uniform v)) _)

  noted_by : (i : Instr) (f : Flat) → IsPart base Private i →
      note code i f ≡ total None least (λ v. own_key code i f.uniform v (f.own v)) (range f)
  noted_by i f (sets d h) = refl
  noted_by i f (negates d h) = refl
  noted_by i f (calculates d h) = refl
  noted_by i f (decides d h) = refl
  noted_by i f (inverts d h) = refl
  noted_by i f (copies d h) = refl
  noted_by i f (asks_for d h) = refl

  notes_by : (i : Instr) (f : Flat) → IsPart base Private i →
      note code i f ≡ total None least (λ v. if is_active (f.own v) then key_by i f v else None) (range f)
  notes_by i f p =
      noted_by i f p
      ∙ total_same None least (λ v. own_key code i f.uniform v (f.own v)) (λ v. if is_active (f.own v) then key_by i f v else None)
      (λ v. own_key_by i f v p) (range f)

  -- ---- a stretch

  pub private_uniform : (is : List Instr) (f : Flat) → AreParts base Private is →
      (acts_at_once code is f).uniform ≡ with_reads (slots_in (heading_of f) is) f.uniform
  private_uniform [] f p = λ z. record f.uniform { asks = sym (append-nil f.uniform.asks) z }
  private_uniform (i ∷ is) f p =
      private_uniform is (act_at_once code i f) p.1
      ∙ ap (λ (u : UniformPart). with_reads (slots_in (record { count = u.count; line = u.line }) is) u) (uniform_by i f p.0)
      ∙ (λ z. record f.uniform { asks = append_assoc f.uniform.asks (slots (heading_of f) i) (slots_in (heading_of f) is) z })

  pub private_masks : (is : List Instr) (f : Flat) (v : ℕ) → AreParts base Private is →
      ((acts_at_once code is f).own v).masks ≡ (f.own v).masks
  private_masks [] f v p = refl
  private_masks (i ∷ is) f v p = private_masks is (act_at_once code i f) v p.1 ∙ masks_by i f v p.0

  pub private_own : (is : List Instr) (f : Flat) (v : ℕ) → AreParts base Private is → is_active (f.own v) ≡ true →
      (acts_at_once code is f).own v ≡ does_all f.uniform.registers is (f.own v)
  private_own [] f v p e = λ z. record (f.own v) { asks = sym (append-nil (f.own v).asks) z }
  private_own (i ∷ is) f v p e =
      let u = f.uniform.registers in
      let x = f.own v in
      let one = own_by i f v p.0 e in
      let same : (act_at_once code i f).uniform.registers ≡ u = ap (λ (w : UniformPart). w.registers) (uniform_by i f p.0) in
      let xs = asked code.layout u i x.registers in
      let ys = asks_in code.layout u is (moved code.layout u i x.registers) in
      private_own is (act_at_once code i f) v p.1 (ap is_active one ∙ e)
      ∙ (λ z. does_all (same z) is (one z))
      ∙ (λ z. record x {
        registers = moves code.layout u (i ∷ is) x.registers;
        asks = (append_assoc x.asks (cells_of xs) (cells_of ys) ∙ ap (λ zs. x.asks ++ zs) (sym (cells_join xs ys))) z;
      })

  -- the keys of a processor
  abbrev pub keys_by : List Instr → Flat → ℕ → Option Key
  keys_by is f v =
      wrongs code.layout f.uniform.registers (λ q k. note_key (heading_of f) q (Processor (index_of f.uniform v)) k) is (f.own v).registers

  both_if : (b : Bool) (x y z : Option Key) → (b ≡ true → y ≡ z) →
      least (if b then x else None) (if b then y else None) ≡ (if b then least x z else None)
  both_if true x y z h = ap (least x) (h refl)
  both_if false x y z h = refl

  pub private_notes : (is : List Instr) (f : Flat) → AreParts base Private is →
      notes code is f ≡ total None least (λ v. if is_active (f.own v) then keys_by is f v else None) (range f)
  private_notes [] f p =
      sym (total_none None least keys_are_monoid (λ v. if is_active (f.own v) then keys_by [] f v else None)
      (λ v. go (is_active (f.own v))) (range f))
    where
      go : (b : Bool) → (if b then (let x : Option Key = None in x) else None) ≡ None
      go true = refl
      go false = refl
  private_notes (i ∷ is) f p =
      let g = act_at_once code i f in
      let uniform = uniform_by i f p.0 in
      let first = λ (v : ℕ). if is_active (f.own v) then key_by i f v else None in
      let rest = λ (v : ℕ). if is_active (f.own v) then keys_by is g v else None in
      (λ z. least (notes_by i f p.0 z) ((private_notes is g p.1
      ∙ (λ z. total None least (λ v. if is_active_by v z then keys_by is g v else None) (range_with_len 0 (uniform z).width))) z))
      ∙ sym (total_both None least keys_are_monoid first rest (range f))
      ∙ total_same None least (λ v. least (first v) (rest v)) (λ v. if is_active (f.own v) then keys_by (i ∷ is) f v else None)
      (λ v. both_if (is_active (f.own v)) (key_by i f v) (keys_by is g v) _ (λ e. later v e)) (range f)
    where
      is_active_by : (v : ℕ) → is_active ((act_at_once code i f).own v) ≡ is_active (f.own v)
      is_active_by v = ap under (masks_by i f v p.0)

      later : (v : ℕ) → is_active (f.own v) ≡ true →
          keys_by is (act_at_once code i f) v
          ≡ wrongs code.layout f.uniform.registers (λ q k. note_key (heading_of f) q (Processor (index_of f.uniform v)) k) is
          (moved code.layout f.uniform.registers i (f.own v).registers)
      later v e = λ z.
          let u : UniformPart = uniform_by i f p.0 z in
          let x : PrivatePart = own_by i f v p.0 e z in
          wrongs code.layout u.registers
          (λ q k. note_key (record { count = u.count; line = u.line }) q (Processor (index_of u v)) k) is x.registers

  -- ---- the places of reads

  no_cells_by : (i : Instr) (h : Heading) → IsPart base Private i → (xs : List Read) (value : ℕ → ℕ → ℤ) (r : Registers) →
      ((k : ℕ) → answers value k (map (λ (x : Read). (x.destination, x.cell)) xs) r ≡ r) → (k : ℕ) →
      answers value k (map (λ (x : Read). (x.destination, x.cell)) (slots h i ++ xs)) r ≡ r
  no_cells_by i h (sets d l) xs value r n k = n k
  no_cells_by i h (negates d l) xs value r n k = n k
  no_cells_by i h (calculates d l) xs value r n k = n k
  no_cells_by i h (decides d l) xs value r n k = n k
  no_cells_by i h (inverts d l) xs value r n k = n k
  no_cells_by i h (copies d l) xs value r n k = n k
  no_cells_by i h (asks_for d l) xs value r n k = n (k + 1)

  -- no answer of theirs comes into a uniform register
  pub no_cells : (is : List Instr) (h : Heading) → AreParts base Private is → (value : ℕ → ℕ → ℤ) (r : Registers) (k : ℕ) →
      answers value k (map (λ (x : Read). (x.destination, x.cell)) (slots_in h is)) r ≡ r
  no_cells [] h p value r k = refl
  no_cells (i ∷ is) h p value r k = no_cells_by i h p.0 (slots_in h is) value r (λ k. no_cells is h p.1 value r k) k

  zipped_by : (i : Instr) (h : Heading) (u r : Registers) → IsPart base Private i → (xs : List Read) (ys : List (ℕ × Option ℕ)) →
      zip (destinations xs) (cells_of ys) ≡ ys →
      zip (destinations (slots h i ++ xs)) (cells_of (asked code.layout u i r ++ ys)) ≡ asked code.layout u i r ++ ys
  zipped_by i h u r (sets d l) xs ys e = e
  zipped_by i h u r (negates d l) xs ys e = e
  zipped_by i h u r (calculates d l) xs ys e = e
  zipped_by i h u r (decides d l) xs ys e = e
  zipped_by i h u r (inverts d l) xs ys e = e
  zipped_by i h u r (copies d l) xs ys e = e
  zipped_by i h u r (asks_for d {a = a} {x = x} l) xs ys e = ap (λ zs. (d, cell_of code.layout a (r x)) ∷ zs) e

  -- each place with its processor's cell is that one's read
  pub zipped : (is : List Instr) (h : Heading) (u r : Registers) → AreParts base Private is →
      zip (destinations (slots_in h is)) (cells_of (asks_in code.layout u is r)) ≡ asks_in code.layout u is r
  zipped [] h u r p = refl
  zipped (i ∷ is) h u r p =
      zipped_by i h u r p.0 (slots_in h is) (asks_in code.layout u is (moved code.layout u i r))
      (zipped is h u (moved code.layout u i r) p.1)
