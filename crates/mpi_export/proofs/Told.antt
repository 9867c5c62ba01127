-- Rows, definitions and tables are told apart, whatever stands behind them.
use Rattle.std.proofs.Common.{◌≡◌, ℕ, List, [], ◌∷◌, ◌++◌, refl, sym, ap, ◌∙◌, ◌<◌, ◌^◌, map, append_assoc, inl, inr, lit<, true}
use Rattle.std.proofs.lemmas.Fmt.{decimal_injective}
use Rattle.std.proofs.lemmas.List.{append_cancel_left}
use Rattle.std.specs.List.{AllByRecursion, flat_map}
use Rattle.std.specs.Fmt.{decimal, signed_decimal}
use Rattle.std.specs.Prelude.{ℤ, Option, Some, None, codes}
use Rattle.pram_model.specs.declared.rule.Rule.{Rule}
use Rattle.pram_model.specs.declared.rule.Rule.TheVariants as rule
use Rattle.pram_model.specs.Layout.{SharedEntry}
use Rattle.pram_model.specs.Names.{IsName, are_words}
use Rattle.pram_model.specs.Rules.{rule_word}
use Rattle.superstep_instructions.specs.declared.instr.Instr.{Instr}
use Rattle.superstep_instructions.specs.Limits.{AreBounds, IsEntry, IsInstr}
use Rattle.superstep_listing.specs.Listing.{instr_words, line, numbers_of, side_of, stem_of}
use Rattle.superstep_listing.proofs.Cuts.{one_cut}
use Rattle.superstep_listing.proofs.Declared.{high_fits, low_fits}
use Rattle.superstep_listing.proofs.Decoded.{numbers_fit}
use Rattle.superstep_listing.proofs.Numerals.{apart}
use Rattle.superstep_listing.proofs.Once.{instr_once, rule_once}
use Rattle.superstep_listing.proofs.Spaces.{AllFit, lacks_decimal}
use Rattle.mpi_export.specs.Program.{c_number, declared, definition, entry_row, instr_row, operand, rule_definition}
use Rattle.mpi_export.proofs.Lacking.{BeginsWith, cut_before, letters_of, number_lacks_brace, number_lacks_comma, number_once, words_lack}

-- ---- instructions

-- what ends a row of an instruction, and their table
abbrev pub row_end : List ℕ
row_end = codes "},\n"

abbrev pub instrs_end : List ℕ
instrs_end = codes "};\n"

operands_begin : (zs : List ℤ) (rest : List ℕ) → BeginsWith 44 125 (flat_map operand zs ++ (row_end ++ rest))
operands_begin [] rest = inr refl
operands_begin (z ∷ zs) rest = inl refl

operand-is : (z : ℤ) (zs : List ℤ) (rest : List ℕ) → flat_map operand (z ∷ zs) ++ rest
    ≡ codes ", " ++ (c_number z ++ (flat_map operand zs ++ rest))
operand-is z zs rest = ap (λ l. codes ", " ++ l) (append_assoc (c_number z) (flat_map operand zs) rest)

operands_told : (xs zs : List ℤ) (r s : List ℕ) → AllFit xs → AllFit zs →
    flat_map operand xs ++ (row_end ++ r) ≡ flat_map operand zs ++ (row_end ++ s) → (xs ≡ zs) × (r ≡ s)
operands_told [] [] r s fx fz e = (refl, append_cancel_left row_end r s e)
operands_told [] (z ∷ zs) r s fx fz e = absurd (apart (row_end ++ r) (flat_map operand (z ∷ zs) ++ (row_end ++ s)) refl e)
operands_told (x ∷ xs) [] r s fx fz e = absurd (apart (flat_map operand (x ∷ xs) ++ (row_end ++ r)) (row_end ++ s) refl e)
operands_told (x ∷ xs) (z ∷ zs) r s fx fz e =
    let more = flat_map operand xs ++ (row_end ++ r) in
    let others = flat_map operand zs ++ (row_end ++ s) in
    let tails = append_cancel_left (codes ", ") _ _ (sym (operand-is x xs (row_end ++ r)) ∙ e ∙ operand-is z zs (row_end ++ s)) in
    let cut = cut_before 44 125 (c_number x) (c_number z) more others (number_lacks_comma x fx.0) (number_lacks_brace x fx.0)
    (number_lacks_comma z fz.0) (number_lacks_brace z fz.0) (operands_begin xs r) (operands_begin zs s)
    tails in
    let rest = operands_told xs zs r s fx.1 fz.1 cut.1 in
    let first = number_once x z fx.0 fz.0 cut.0 in
    (ap (λ y. y ∷ xs) first ∙ ap (λ l. z ∷ l) rest.0, rest.1)

row-is : (i : Instr) (rest : List ℕ) → instr_row i ++ rest
    ≡ codes "    {op_" ++ ((side_of i ++ stem_of i) ++ (flat_map operand (numbers_of i) ++ (row_end ++ rest)))
row-is i rest = simp append_assoc

instr_told : (i j : Instr) (r s : List ℕ) → IsInstr i → IsInstr j → instr_row i ++ r ≡ instr_row j ++ s → (i ≡ j) × (r ≡ s)
instr_told i j r s isi isj e =
    let word = side_of i ++ stem_of i in
    let other = side_of j ++ stem_of j in
    let tails = append_cancel_left (codes "    {op_") _ _ (sym (row-is i r) ∙ e ∙ row-is j s) in
    let cut = cut_before 44 125 word other _ _ (words_lack 44 refl word (letters_of i)) (words_lack 125 refl word (letters_of i))
    (words_lack 44 refl other (letters_of j)) (words_lack 125 refl other (letters_of j)) (operands_begin (numbers_of i) r)
    (operands_begin (numbers_of j) s) tails in
    let ns = operands_told (numbers_of i) (numbers_of j) r s (numbers_fit i isi) (numbers_fit j isj) cut.1 in
    let same : line (instr_words 0 i) ≡ line (instr_words 0 j) =
    ap (λ w. line (decimal 0 ∷ w ∷ map signed_decimal (numbers_of i))) cut.0
    ∙ ap (λ zs. line (decimal 0 ∷ other ∷ map signed_decimal zs)) ns.0 in
    (instr_once 0 i j (lit< tt) isi isj same, ns.1)

pub instrs_told : (xs ys : List Instr) (r s : List ℕ) → AllByRecursion IsInstr xs → AllByRecursion IsInstr ys →
    flat_map instr_row xs ++ (instrs_end ++ r) ≡ flat_map instr_row ys ++ (instrs_end ++ s) → xs ≡ ys
instrs_told [] [] r s fx fy e = refl
instrs_told [] (y ∷ ys) r s fx fy e = absurd (apart (instrs_end ++ r) (flat_map instr_row (y ∷ ys) ++ (instrs_end ++ s)) refl e)
instrs_told (x ∷ xs) [] r s fx fy e = absurd (apart (flat_map instr_row (x ∷ xs) ++ (instrs_end ++ r)) (instrs_end ++ s) refl e)
instrs_told (x ∷ xs) (y ∷ ys) r s fx fy e =
    let first = instr_told x y (flat_map instr_row xs ++ (instrs_end ++ r)) (flat_map instr_row ys ++ (instrs_end ++ s)) fx.0 fy.0
    (sym (append_assoc (instr_row x) (flat_map instr_row xs) (instrs_end ++ r)) ∙ e
    ∙ append_assoc (instr_row y) (flat_map instr_row ys) (instrs_end ++ s)) in
    let rest = instrs_told xs ys r s fx.1 fy.1 first.1 in
    ap (λ z. z ∷ xs) first.0 ∙ ap (λ l. y ∷ l) rest

-- ---- declarations

abbrev pub entries_end : List ℕ
entries_end = codes "    {entry_end, \"\", 0, 0}\n};\n\n"

cell-is : (name rest : List ℕ) → declared name None ++ rest ≡ codes "    {entry_cell, \"" ++ (name ++ (codes "\", 0, 0},\n" ++ rest))
cell-is name rest = simp append_assoc

array-is : (name : List ℕ) (low high : ℤ) (rest : List ℕ) → declared name (Some (low, high)) ++ rest
    ≡ codes "    {entry_array, \"" ++ (name ++ (codes "\", " ++ (c_number low ++ (codes ", " ++ (c_number high ++ (row_end ++ rest))))))
array-is name low high rest = simp append_assoc

-- a row of these is the same
record Told (n m : List ℕ) (b d : Option (ℤ × ℤ)) (r s : List ℕ) : Type 0 where
  name : n ≡ m
  bounds : b ≡ d
  rest : r ≡ s

bounds_told : (n m : List ℕ) (a b x y : ℤ) (r s : List ℕ) → IsName n → IsName m → AreBounds (Some (a, b)) → AreBounds (Some (x, y)) →
    declared n (Some (a, b)) ++ r ≡ declared m (Some (x, y)) ++ s → Told n m (Some (a, b)) (Some (x, y)) r s
bounds_told n m a b x y r s isn ism hb hd e =
    let tails = append_cancel_left (codes "    {entry_array, \"") _ _ (sym (array-is n a b r) ∙ e ∙ array-is m x y s) in
    let names = one_cut 34 n m _ _ (words_lack 34 refl n isn.words) (words_lack 34 refl m ism.words) refl refl tails in
    let lows = append_cancel_left (codes "\", ") _ _ names.1 in
    let fa = low_fits a b hb in
    let fx = low_fits x y hd in
    let fb = high_fits a b hb in
    let fy = high_fits x y hd in
    let low = cut_before 44 125 (c_number a) (c_number x) _ _ (number_lacks_comma a fa) (number_lacks_brace a fa) (number_lacks_comma x fx)
    (number_lacks_brace x fx) (inl refl) (inl refl) lows in
    let highs = append_cancel_left (codes ", ") _ _ low.1 in
    let high = cut_before 44 125 (c_number b) (c_number y) _ _ (number_lacks_comma b fb) (number_lacks_brace b fb) (number_lacks_comma y fy)
    (number_lacks_brace y fy) (inr refl) (inr refl) highs in
    let one = number_once a x fa fx low.0 in
    let two = number_once b y fb fy high.0 in
    record { name = names.0; bounds = λ j. Some (one j, two j); rest = append_cancel_left row_end r s high.1 }

declared_told : (n m : List ℕ) (b d : Option (ℤ × ℤ)) (r s : List ℕ) → IsName n → IsName m → AreBounds b → AreBounds d →
    declared n b ++ r ≡ declared m d ++ s → Told n m b d r s
declared_told n m None None r s isn ism hb hd e =
    let tails = append_cancel_left (codes "    {entry_cell, \"") _ _ (sym (cell-is n r) ∙ e ∙ cell-is m s) in
    let names = one_cut 34 n m _ _ (words_lack 34 refl n isn.words) (words_lack 34 refl m ism.words) refl refl tails in
    record { name = names.0; bounds = refl; rest = append_cancel_left (codes "\", 0, 0},\n") r s names.1 }
declared_told n m None (Some d) r s isn ism hb hd e = absurd (apart (declared n None ++ r) (declared m (Some d) ++ s) refl e)
declared_told n m (Some b) None r s isn ism hb hd e = absurd (apart (declared n (Some b) ++ r) (declared m None ++ s) refl e)
declared_told n m (Some (a, b)) (Some (x, y)) r s isn ism hb hd e = bounds_told n m a b x y r s isn ism hb hd e

-- no row is the end of the table
not_end : (n : List ℕ) (b : Option (ℤ × ℤ)) (r s : List ℕ) → declared n b ++ r ≡ entries_end ++ s → ⊥
not_end n None r s e = apart (declared n None ++ r) (entries_end ++ s) refl e
not_end n (Some b) r s e = apart (declared n (Some b) ++ r) (entries_end ++ s) refl e

pub entries_told : (ds es : List SharedEntry) (r s : List ℕ) → AllByRecursion IsEntry ds → AllByRecursion IsEntry es →
    flat_map entry_row ds ++ (entries_end ++ r) ≡ flat_map entry_row es ++ (entries_end ++ s) → (ds ≡ es) × (r ≡ s)
entries_told [] [] r s fd fe e = (refl, append_cancel_left entries_end r s e)
entries_told [] (y ∷ ys) r s fd fe e = absurd (not_end y.name y.bounds (flat_map entry_row ys ++ (entries_end ++ s)) r
    (sym (e ∙ append_assoc (entry_row y) (flat_map entry_row ys) (entries_end ++ s))))
entries_told (x ∷ xs) [] r s fd fe e = absurd (not_end x.name x.bounds (flat_map entry_row xs ++ (entries_end ++ r)) s
    (sym (append_assoc (entry_row x) (flat_map entry_row xs) (entries_end ++ r)) ∙ e))
entries_told (x ∷ xs) (y ∷ ys) r s fd fe e =
    let first = declared_told x.name y.name x.bounds y.bounds _ _ fd.0.is_name fe.0.is_name fd.0.are_bounds fe.0.are_bounds
    (sym (append_assoc (entry_row x) (flat_map entry_row xs) (entries_end ++ r)) ∙ e
    ∙ append_assoc (entry_row y) (flat_map entry_row ys) (entries_end ++ s)) in
    let same : x ≡ y = λ j. record { name = first.name j; bounds = first.bounds j } in
    let rest = entries_told xs ys r s fd.1 fe.1 first.rest in
    (ap (λ z. z ∷ xs) same ∙ ap (λ l. y ∷ l) rest.0, rest.1)

-- ---- definitions

definition-is : (name : List ℕ) (n : ℕ) (rest : List ℕ) → definition name n ++ rest
    ≡ codes "#define " ++ (name ++ (32 ∷ [] ++ (decimal n ++ (10 ∷ [] ++ rest))))
definition-is name n rest = simp append_assoc

pub definition_told : (name : List ℕ) (n m : ℕ) (r s : List ℕ) → n < 2 ^ 64 → m < 2 ^ 64 →
    definition name n ++ r ≡ definition name m ++ s → (n ≡ m) × (r ≡ s)
definition_told name n m r s fn fm e =
    let named = append_cancel_left (codes "#define ") _ _ (sym (definition-is name n r) ∙ e ∙ definition-is name m s) in
    let tails = append_cancel_left (32 ∷ []) _ _ (append_cancel_left name _ _ named) in
    let cut = one_cut 10 (decimal n) (decimal m) _ _ (lacks_decimal 10 n (lit< tt) fn) (lacks_decimal 10 m (lit< tt) fm) refl refl tails in
    (decimal_injective n m fn fm cut.0, append_cancel_left (10 ∷ []) r s cut.1)

rule_letters : (r : Rule) → are_words (rule_word r) ≡ true
rule_letters rule.Erew = refl
rule_letters rule.Crew = refl
rule_letters rule.Common = refl
rule_letters rule.Priority = refl
rule_letters rule.Sum = refl

rule-is : (a : Rule) (rest : List ℕ) → rule_definition a ++ rest ≡ codes "\n#define RULE rule_" ++ (rule_word a ++ (10 ∷ [] ++ rest))
rule-is a rest = simp append_assoc

pub rule_told : (a b : Rule) (r s : List ℕ) → rule_definition a ++ r ≡ rule_definition b ++ s → (a ≡ b) × (r ≡ s)
rule_told a b r s e =
    let tails = append_cancel_left (codes "\n#define RULE rule_") _ _ (sym (rule-is a r) ∙ e ∙ rule-is b s) in
    let cut = one_cut 10 (rule_word a) (rule_word b) _ _ (words_lack 10 refl (rule_word a) (rule_letters a))
    (words_lack 10 refl (rule_word b) (rule_letters b)) refl refl tails in
    (rule_once a b (ap (λ w. line (codes "rule" ∷ w ∷ [])) cut.0), append_cancel_left (10 ∷ []) r s cut.1)
