-- Lines printed one behind the other.
use Rattle.std.proofs.Common.{◌≡◌, ℕ, List, [], ◌∷◌, ◌++◌, refl, sym, ap, ◌∙◌, subst, append_assoc, suc, ◌+◌, ◌<◌, ◌≤◌, length, drop}
use Rattle.std.proofs.Common.{drop-cons, get_or, add-one, map, inl, inr, arith}
use Rattle.std.proofs.lemmas.List.{append-nil, drop_all}
use Rattle.std.proofs.lemmas.List.Concat.{flat_map-append}
use Rattle.std.proofs.lemmas.Option.{slice_get_cases}
use Rattle.std.specs.Prelude.{ℤ, pos, slice_get, IfSome, Some, codes}
use Rattle.pram_model.specs.declared.rule.Rule.{Rule}
use Rattle.pram_model.specs.Rules.{rule_word}
use Rattle.std.specs.Fmt.{decimal, signed_decimal}
use Rattle.text_out.specs.Printing.{Printing, Prints}
use Rattle.text_out.proofs.Printed.{PrintedTo, printed_as, printed_more, prints_nothing, prints_then}
use Rattle.superstep_instructions.specs.declared.instr.Instr.{Instr}
use Rattle.superstep_instructions.specs.Code.{SuperstepCode}
use Rattle.superstep_listing.specs.Listing.{line, field_words, instr_words, numbers_of, side_of, stem_of, ended, entry_line, entry_words}
use Rattle.superstep_listing.specs.Listing.{head_lines, instr_lines, size_lines, spelling}
use Rattle.superstep_listing.specs.Cutting.{spaced}

-- a line of a word and numbers
pub line-spaced : (word : List ℕ) (ns : List ℤ) → line (word ∷ map signed_decimal ns) ≡ word ++ spaced ns
line-spaced word [] = sym (append-nil word)
line-spaced word (z ∷ zs) = ap (λ l. word ++ 32 ∷ l) (line-spaced (signed_decimal z) zs)

pub line-instr : (k : ℕ) (instr : Instr) → line (instr_words k instr) ≡ decimal k
    ++ (32 ∷ (side_of instr ++ (stem_of instr ++ spaced (numbers_of instr))))
line-instr k instr =
    ap (λ l. decimal k ++ 32 ∷ l) (line-spaced (side_of instr ++ stem_of instr) (numbers_of instr)
    ∙ append_assoc (side_of instr) (stem_of instr) (spaced (numbers_of instr)))

-- the same with the end of the line, as they are printed
pub printed-field : (name : List ℕ) (n : ℕ) → line (field_words name n) ++ 10 ∷ [] ≡ name
    ++ (32 ∷ [] ++ (signed_decimal (pos n) ++ 10 ∷ []))
printed-field name n = append_assoc name (32 ∷ decimal n) (10 ∷ [])

pub printed-instr : (k : ℕ) (instr : Instr) → line (instr_words k instr) ++ 10 ∷ []
    ≡ signed_decimal (pos k) ++ (32 ∷ [] ++ (side_of instr ++ (stem_of instr ++ (spaced (numbers_of instr) ++ 10 ∷ []))))
printed-instr k instr = ap (λ l. l ++ 10 ∷ []) (line-instr k instr) ∙ simp append_assoc

-- the declarations before that place are printed, and one more
pub printed_entry : {A : Type 0} (all : List A → List ℕ) (text : A → List ℕ) → ((y : A) (ys : List A) → all (y ∷ ys) ≡ text y ++ all ys) →
    (start now next : Printing) (xs : List A) (i : ℕ)
    → PrintedTo all start now xs i → i < length xs → IfSome (slice_get xs i) (λ e. Prints now next (text e)) →
    PrintedTo all start next xs (i + 1)
printed_entry all text more start now next xs i before within prints =
    elim (slice_get_cases xs i).1 [
      | inl h ↦ printed_more all text more start now next xs i h.0 before within (sym h.3)
          (subst (λ o. IfSome o (λ e. Prints now next (text e))) h.2 prints)
      | inr h ↦ absurd (let past : length xs ≤ i = h.0 in omega arith)
    ]

-- the instructions before that place are printed
pub record InstrsTo (start now : Printing) (xs : List Instr) (i : ℕ) : Type 0 where
  pub front : List ℕ
  pub prints : Prints start now front
  pub whole : front ++ ended (instr_lines i (drop i xs)) ≡ ended (instr_lines 0 xs)

pub instrs_none : (s : Printing) (xs : List Instr) → InstrsTo s s xs 0
instrs_none s xs = record { front = []; prints = prints_nothing s; whole = refl }

pub instrs_more : (start now next : Printing) (xs : List Instr) (i : ℕ) (x : Instr) → InstrsTo start now xs i → i < length xs →
    x ≡ get_or xs i x
    → Prints now next (line (instr_words i x) ++ 10 ∷ []) → InstrsTo start next xs (i + 1)
instrs_more start now next xs i x before within is prints =
    let rest = drop (suc i) xs in
    let same : drop (i + 1) xs ≡ rest = ap (λ n. drop n xs) (add-one i) in
    let cons : drop i xs ≡ x ∷ rest = drop-cons xs i x within ∙ ap (λ z. z ∷ rest) (sym is) in
    let text = line (instr_words i x) ++ 10 ∷ [] in
    record {
      front = before.front ++ text;
      prints = prints_then before.prints prints;
      whole = append_assoc before.front text (ended (instr_lines (i + 1) (drop (i + 1) xs)))
          ∙ ap (λ l. before.front ++ (text ++ ended (instr_lines (i + 1) l))) same
          ∙ ap (λ l. before.front ++ ended (instr_lines i l)) (sym cons)
          ∙ before.whole;
    }

pub instrs_all : (start now : Printing) (xs : List Instr) (i : ℕ) → length xs ≤ i → InstrsTo start now xs i →
    Prints start now (ended (instr_lines 0 xs))
instrs_all start now xs i past before =
    printed_as (sym before.whole ∙ ap (λ l. before.front ++ ended (instr_lines i l)) (drop_all i xs past)
    ∙ append-nil before.front) before.prints

-- all the lines, part by part
pub printed-code : (code : SuperstepCode) → spelling code
    ≡ ended (head_lines code.rule code.procs) ++ (ended (map entry_line code.layout)
    ++ (ended (size_lines code.uniform_registers code.private_registers (length code.instructions))
    ++ ended (instr_lines 0 code.instructions)))
printed-code code =
    let head = head_lines code.rule code.procs in
    let entries = map entry_line code.layout in
    let sizes = size_lines code.uniform_registers code.private_registers (length code.instructions) in
    let instrs = instr_lines 0 code.instructions in
    flat_map-append (λ l. l ++ 10 ∷ []) head (entries ++ (sizes ++ instrs))
    ∙ ap (λ l. ended head ++ l) (flat_map-append (λ l. l ++ 10 ∷ []) entries (sizes ++ instrs)
    ∙ ap (λ l. ended entries ++ l) (flat_map-append (λ l. l ++ 10 ∷ []) sizes instrs))

pub printed-array : (name : List ℕ) (low high : ℤ) → line (entry_words name (Some (low, high))) ++ 10 ∷ []
    ≡ codes "array " ++ (name ++ (32 ∷ [] ++ (signed_decimal low ++ (32 ∷ [] ++ (signed_decimal high ++ 10 ∷ [])))))
printed-array name low high = simp append_assoc

pub printed-head : (rule : Rule) (procs : ℕ) → ended (head_lines rule procs)
    ≡ codes "bsp 1\nrule " ++ (rule_word rule ++ (10 ∷ [] ++ (line (field_words (codes "procs") procs) ++ 10 ∷ [])))
printed-head rule procs =
    let last = line (field_words (codes "procs") procs) ++ 10 ∷ [] in
    ap (λ l. codes "bsp 1\nrule " ++ l) (ap (λ l. (rule_word rule ++ 10 ∷ []) ++ l) (append-nil last)
    ∙ append_assoc (rule_word rule) (10 ∷ []) last)

pub printed-sizes : (uniform private count : ℕ) → ended (size_lines uniform private count)
    ≡ (line (field_words (codes "uniform") uniform) ++ 10 ∷ []) ++ ((line (field_words (codes "private") private) ++ 10 ∷ [])
    ++ (line (field_words (codes "code") count) ++ 10 ∷ []))
printed-sizes uniform private count = simp (append_assoc, append-nil)
