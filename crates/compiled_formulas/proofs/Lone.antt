-- One processor by itself, on either side: what instructions make of its registers, which cells they ask for, and what is wrong in them.
use Rattle.std.proofs.Common.{◌≡◌, ℕ, List, [], ◌∷◌, ◌++◌, Option, None, refl, sym, ap, ◌∙◌, append_assoc}
use Rattle.pram_model.specs.Layout.{SharedEntry, cell_of}
use Rattle.pram_values.specs.declared.kind.Kind.{Kind}
use Rattle.superstep_instructions.specs.declared.instr.Instr.{Instr}
use Rattle.superstep_instructions.specs.declared.instr.Instr.TheVariants.{CopyUniform, Ask}
use Rattle.superstep_machine.specs.declared.key.Key.{Key}
use Rattle.superstep_machine.specs.Keys.{least}
use Rattle.superstep_machine.specs.Parts.{Registers, set_register}
use Rattle.superstep_machine.specs.Results.{computed, position_of, missing}
use Rattle.superstep_machine.specs.Steps.{with_result, wrong_in, zero_without}
use Rattle.superstep_machine.proofs.KeyOrder.{keys_are_monoid}

module _ (layout : List SharedEntry) (uniforms : Registers) where
  -- its registers behind an instruction
  abbrev pub moved : Instr → Registers → Registers
  moved (CopyUniform d x) r = set_register d (uniforms x) r
  moved (Ask side d a x q) r = zero_without (cell_of layout a (r x)) d r
  moved i r = with_result (computed i r) r

  abbrev pub moves : List Instr → Registers → Registers
  moves [] r = r
  moves (i ∷ is) r = moves is (moved i r)

  -- the registers and cells of its reads
  abbrev pub asked : Instr → Registers → List (ℕ × Option ℕ)
  asked (Ask side d a x q) r = (d, cell_of layout a (r x)) ∷ []
  asked i r = []

  abbrev pub asks_in : List Instr → Registers → List (ℕ × Option ℕ)
  asks_in [] r = []
  asks_in (i ∷ is) r = asked i r ++ asks_in is (moved i r)

  -- what is wrong, as keys
  abbrev pub wrong : Instr → Registers → Option Kind
  wrong (Ask side d a x q) r = missing (cell_of layout a (r x))
  wrong i r = wrong_in (computed i r)

  abbrev pub wrongs : (ℕ → Option Kind → Option Key) → List Instr → Registers → Option Key
  wrongs note [] r = None
  wrongs note (i ∷ is) r = least (note (position_of i) (wrong i r)) (wrongs note is (moved i r))

  -- ---- one stretch behind another

  pub moves_join : (xs ys : List Instr) (r : Registers) → moves (xs ++ ys) r ≡ moves ys (moves xs r)
  moves_join [] ys r = refl
  moves_join (i ∷ xs) ys r = moves_join xs ys (moved i r)

  pub asks_join : (xs ys : List Instr) (r : Registers) → asks_in (xs ++ ys) r ≡ asks_in xs r ++ asks_in ys (moves xs r)
  asks_join [] ys r = refl
  asks_join (i ∷ xs) ys r =
      ap (λ zs. asked i r ++ zs) (asks_join xs ys (moved i r))
      ∙ sym (append_assoc (asked i r) (asks_in xs (moved i r)) (asks_in ys (moves xs (moved i r))))

  pub wrongs_join : (note : ℕ → Option Kind → Option Key) (xs ys : List Instr) (r : Registers) →
      wrongs note (xs ++ ys) r ≡ least (wrongs note xs r) (wrongs note ys (moves xs r))
  wrongs_join note [] ys r = refl
  wrongs_join note (i ∷ xs) ys r =
      ap (least (note (position_of i) (wrong i r))) (wrongs_join note xs ys (moved i r))
      ∙ sym (keys_are_monoid.associative (note (position_of i) (wrong i r)) (wrongs note xs (moved i r))
      (wrongs note ys (moves xs (moved i r))))
