-- The text of a plan is that of one code, and its names are plain.
use Rattle.std.proofs.Common.{◌≡◌, ℕ, List, [], ◌∷◌, ◌++◌, sym, ap, ◌∙◌, append_assoc, arith, true, false}
use Rattle.std.proofs.lemmas.List.{append_cancel_left}
use Rattle.std.specs.List.{AllByRecursion, flat_map}
use Rattle.std.specs.Prelude.{codes}
use Rattle.pram_model.specs.Layout.{SharedEntry}
use Rattle.pram_model.specs.Names.{are_words, is_word}
use Rattle.pram_model.proofs.Truths.{both}
use Rattle.superstep_instructions.specs.Code.{SuperstepCode}
use Rattle.superstep_instructions.specs.Limits.{IsCode, IsEntry}
use Rattle.mpi_export.specs.Program.{declarations, definition, entry_row, instr_row, instructions, rule_definition}
use Rattle.mpi_export.specs.Standing.{IsPlain}
use Rattle.mpi_export.proofs.Told.{definition_told, entries_end, entries_told, instrs_end, instrs_told, rule_told}

plain_byte : (b : ℕ) → is_word b ≡ true → IsPlain b
plain_byte b is = (
  λ e. absurd (let h : true ≡ false = sym is ∙ ap is_word e in cc),
  λ e. absurd (let h : true ≡ false = sym is ∙ ap is_word e in cc),
  λ e. absurd (let h : true ≡ false = sym is ∙ ap is_word e in cc),
)

plain_name : (text : List ℕ) → are_words text ≡ true → AllByRecursion IsPlain text
plain_name [] all = tt
plain_name (b ∷ rest) all =
    let parts = both (is_word b) (are_words rest) all in
    (plain_byte b parts.0, plain_name rest parts.1)

pub plain_names : (layout : List SharedEntry) → AllByRecursion IsEntry layout →
    AllByRecursion (λ (e : SharedEntry). AllByRecursion IsPlain e.name) layout
plain_names [] all = tt
plain_names (e ∷ es) all = (plain_name e.name all.0.is_name.words, plain_names es all.1)

-- ---- the tables

abbrev entries_front : List ℕ
entries_front = codes "\nstatic const struct entry entries[] = {\n"

abbrev instrs_front : List ℕ
instrs_front = codes "\nstatic const int64_t plan[][5] = {\n"

declarations-are : (code : SuperstepCode) (rest : List ℕ) → declarations code ++ rest
    ≡ rule_definition code.rule
    ++ (definition (codes "PROCS") code.procs ++ (entries_front ++ (flat_map entry_row code.layout ++ (entries_end ++ rest))))
declarations-are code rest = simp append_assoc

instructions-are : (code : SuperstepCode) (rest : List ℕ) → instructions code ++ rest
    ≡ definition (codes "UNIFORM") code.uniform_registers
    ++ (definition (codes "PRIVATE") code.private_registers
    ++ (instrs_front ++ (flat_map instr_row code.instructions ++ (instrs_end ++ rest))))
instructions-are code rest = simp append_assoc

module _ (one two : SuperstepCode) (isone : IsCode one) (istwo : IsCode two) where
  -- the same declarations stand before the same rest
  record Declared (r s : List ℕ) : Type 0 where
    rule : one.rule ≡ two.rule
    procs : one.procs ≡ two.procs
    layout : one.layout ≡ two.layout
    rest : r ≡ s

  declared_told : (r s : List ℕ) → declarations one ++ r ≡ declarations two ++ s → Declared r s
  declared_told r s e =
      let rules = rule_told one.rule two.rule _ _ (sym (declarations-are one r) ∙ e ∙ declarations-are two s) in
      let a = isone.few_procs in
      let b = istwo.few_procs in
      let procs = definition_told (codes "PROCS") one.procs two.procs _ _ (omega (arith, a)) (omega (arith, b)) rules.1 in
      let entries = entries_told one.layout two.layout r s isone.layout.entries istwo.layout.entries
      (append_cancel_left entries_front _ _ procs.1) in
      record { rule = rules.0; procs = procs.0; layout = entries.0; rest = entries.1 }

  pub plan_told : (head back : List ℕ) → head ++ (declarations one ++ (instructions one ++ back))
      ≡ head ++ (declarations two ++ (instructions two ++ back)) → one ≡ two
  plan_told head back e =
      let d = declared_told (instructions one ++ back) (instructions two ++ back) (append_cancel_left head _ _ e) in
      let whole = sym (instructions-are one back) ∙ d.rest ∙ instructions-are two back in
      let a = isone.few_uniform in
      let b = istwo.few_uniform in
      let p = isone.few_private in
      let q = istwo.few_private in
      let uniform = definition_told (codes "UNIFORM") one.uniform_registers two.uniform_registers _ _ (omega (arith, a)) (omega (arith, b))
      whole in
      let private = definition_told (codes "PRIVATE") one.private_registers two.private_registers _ _ (omega (arith, p))
      (omega (arith, q)) uniform.1 in
      let instrs = instrs_told one.instructions two.instructions back back isone.instructions istwo.instructions
      (append_cancel_left instrs_front _ _ private.1) in
      λ j. record {
        rule = d.rule j;
        procs = d.procs j;
        layout = d.layout j;
        uniform_registers = uniform.0 j;
        private_registers = private.0 j;
        instructions = instrs j;
      }
