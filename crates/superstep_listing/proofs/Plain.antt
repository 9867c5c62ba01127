-- No line of a listing has an LF in it.
use Rattle.std.proofs.Common.{◌≡◌, ℕ, List, [], ◌∷◌, ◌++◌, refl, sym, ap, ◌∙◌, ◌<◌, ◌^◌, arith, subst, lit≤, lit<, append_assoc}
use Rattle.std.proofs.Common.{Bool, true, false}
use Rattle.std.proofs.lemmas.Bool.Decides.{nat_tests}
use Rattle.std.specs.Prelude.{nat_lt, ◌&&◌}
use Rattle.std.specs.Fmt.{decimal, signed_decimal}
use Rattle.std.specs.Prelude.{ℤ, codes, Some, None, Option}
use Rattle.pram_model.specs.declared.rule.Rule.{Rule}
use Rattle.pram_model.specs.declared.rule.Rule.TheVariants as rule
use Rattle.pram_model.specs.Layout.{SharedEntry}
use Rattle.pram_model.specs.Names.{IsName}
use Rattle.superstep_instructions.specs.declared.instr.Instr.{Instr}
use Rattle.superstep_listing.specs.Cutting.{Lacks, spaced}
use Rattle.superstep_instructions.specs.Limits.{AreBounds, IsEntry, IsInstr}
use Rattle.superstep_listing.specs.Listing.{entry_line, entry_words, field_words, instr_words, line, numbers_of, rule_line, side_of}
use Rattle.superstep_listing.specs.Listing.{stem_of}
use Rattle.superstep_listing.proofs.Cuts.{lacks-append}
use Rattle.superstep_listing.proofs.Declared.{high_fits, lacks_name, low_fits}
use Rattle.superstep_listing.proofs.Decoded.{lacks_visible, lacks_word, numbers_fit}
use Rattle.superstep_listing.proofs.Printed.{line-instr}
use Rattle.superstep_listing.proofs.Spaces.{AllFit, lacks_decimal, lacks_number}
use Rattle.pram_model.proofs.Truths.{both}

-- a space before a text without LF
behind_space : (text : List ℕ) → Lacks 10 text → Lacks 10 (32 ∷ text)
behind_space text l = (λ e. absurd (omega arith), l)

-- spaces, and bytes behind the space
abbrev are_printable : List ℕ → Bool
are_printable [] = true
are_printable (b ∷ rest) = nat_lt 31 b && are_printable rest

no_end : (b : ℕ) → nat_lt 31 b ≡ true → b ≡ 10 → ⊥
no_end b h e = grind (arith, nat_tests)

printable : (text : List ℕ) → are_printable text ≡ true → Lacks 10 text
printable [] h = tt
printable (b ∷ rest) h = let parts = both (nat_lt 31 b) (are_printable rest) h in (no_end b parts.0, printable rest parts.1)

pub plain_version : Lacks 10 (codes "bsp 1")
plain_version = printable (codes "bsp 1") refl

pub plain_rule : (r : Rule) → Lacks 10 (rule_line r)
plain_rule rule.Erew = printable (rule_line rule.Erew) refl
plain_rule rule.Crew = printable (rule_line rule.Crew) refl
plain_rule rule.Common = printable (rule_line rule.Common) refl
plain_rule rule.Priority = printable (rule_line rule.Priority) refl
plain_rule rule.Sum = printable (rule_line rule.Sum) refl

pub plain_field : (name : List ℕ) (n : ℕ) → Lacks 10 name → n < 2 ^ 64 → Lacks 10 (line (field_words name n))
plain_field name n l fits = lacks-append 10 name (32 ∷ decimal n) l (behind_space (decimal n) (lacks_decimal 10 n (lit< tt) fits))

plain_bounds : (name : List ℕ) (bounds : Option (ℤ × ℤ)) → IsName name → AreBounds bounds → Lacks 10 (line (entry_words name bounds))
plain_bounds name None n h = lacks-append 10 (codes "cell") (32 ∷ name) (lacks_visible 10 (codes "cell") (lit≤ tt) refl)
    (behind_space name (lacks_name 10 name (lit≤ tt) n))
plain_bounds name (Some (low, high)) n h =
    let highs = 32 ∷ signed_decimal high in
    let lows = 32 ∷ (signed_decimal low ++ highs) in
    lacks-append 10 (codes "array") (32 ∷ (name ++ lows)) (lacks_visible 10 (codes "array") (lit≤ tt) refl) (behind_space (name ++ lows)
    (lacks-append 10 name lows (lacks_name 10 name (lit≤ tt) n) (behind_space (signed_decimal low ++ highs)
    (lacks-append 10 (signed_decimal low) highs (lacks_number 10 low (lit< tt) (low_fits low high h))
    (behind_space (signed_decimal high) (lacks_number 10 high (lit< tt) (high_fits low high h)))))))

pub plain_entry : (e : SharedEntry) → IsEntry e → Lacks 10 (entry_line e)
plain_entry e is = plain_bounds e.name e.bounds is.is_name is.are_bounds

plain_spaced : (zs : List ℤ) → AllFit zs → Lacks 10 (spaced zs)
plain_spaced [] h = tt
plain_spaced (z ∷ zs) h = behind_space (signed_decimal z
    ++ spaced zs) (lacks-append 10 (signed_decimal z) (spaced zs) (lacks_number 10 z (lit< tt) h.0) (plain_spaced zs h.1))

pub plain_instr : (k : ℕ) (i : Instr) → k < 2 ^ 64 → IsInstr i → Lacks 10 (line (instr_words k i))
plain_instr k i fits is =
    let words = side_of i ++ stem_of i in
    let ns = spaced (numbers_of i) in
    subst (Lacks 10) (sym (line-instr k i ∙ ap (λ l. decimal k ++ 32 ∷ l) (sym (append_assoc (side_of i) (stem_of i) ns))))
    (lacks-append 10 (decimal k) (32 ∷ (words ++ ns)) (lacks_decimal 10 k (lit< tt) fits)
    (behind_space (words ++ ns) (lacks-append 10 words ns (lacks_word 10 i (lit≤ tt)) (plain_spaced (numbers_of i) (numbers_fit i is)))))
