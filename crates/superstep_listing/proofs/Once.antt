-- Each line is that of one thing.
use Rattle.std.proofs.Common.{◌≡◌, ℕ, List, ◌∷◌, ◌++◌, refl, sym, ap, ◌∙◌, ◌<◌, ◌^◌, lit≤, lit<, append_assoc}
use Rattle.std.proofs.lemmas.Fmt.{decimal_injective}
use Rattle.std.specs.Fmt.{decimal, signed_decimal}
use Rattle.std.specs.Prelude.{ℤ, Some, None, Option}
use Rattle.pram_model.specs.declared.rule.Rule.{Rule}
use Rattle.pram_model.specs.declared.rule.Rule.TheVariants as rule
use Rattle.pram_model.specs.Layout.{SharedEntry}
use Rattle.pram_model.specs.Names.{IsName}
use Rattle.superstep_instructions.specs.declared.instr.Instr.{Instr}
use Rattle.superstep_listing.specs.Cutting.{Lacks, spaced}
use Rattle.superstep_listing.specs.Decoding.{candidate_of, template_of}
use Rattle.superstep_instructions.specs.Limits.{AreBounds, IsEntry, IsInstr}
use Rattle.superstep_listing.specs.Listing.{entry_line, entry_words, field_words, instr_words, line, numbers_of, rule_line, side_of}
use Rattle.superstep_listing.specs.Listing.{stem_of}
use Rattle.superstep_listing.proofs.Cuts.{one_cut}
use Rattle.superstep_listing.proofs.Declared.{high_fits, lacks_name, low_fits}
use Rattle.superstep_listing.proofs.Decoded.{blank, candidate_same, lacks_word, numbers_fit, split_body, template_word}
use Rattle.superstep_listing.proofs.Numerals.{apart, one_number}
use Rattle.superstep_listing.proofs.Printed.{line-instr}
use Rattle.superstep_listing.proofs.Spaces.{follows_spaced, lacks_decimal, lacks_number, spaced_once}

pub rule_once : (r s : Rule) → rule_line r ≡ rule_line s → r ≡ s
rule_once rule.Erew rule.Erew e = refl
rule_once rule.Erew rule.Crew e = absurd (apart (rule_line rule.Erew) (rule_line rule.Crew) refl e)
rule_once rule.Erew rule.Common e = absurd (apart (rule_line rule.Erew) (rule_line rule.Common) refl e)
rule_once rule.Erew rule.Priority e = absurd (apart (rule_line rule.Erew) (rule_line rule.Priority) refl e)
rule_once rule.Erew rule.Sum e = absurd (apart (rule_line rule.Erew) (rule_line rule.Sum) refl e)
rule_once rule.Crew rule.Erew e = absurd (apart (rule_line rule.Crew) (rule_line rule.Erew) refl e)
rule_once rule.Crew rule.Crew e = refl
rule_once rule.Crew rule.Common e = absurd (apart (rule_line rule.Crew) (rule_line rule.Common) refl e)
rule_once rule.Crew rule.Priority e = absurd (apart (rule_line rule.Crew) (rule_line rule.Priority) refl e)
rule_once rule.Crew rule.Sum e = absurd (apart (rule_line rule.Crew) (rule_line rule.Sum) refl e)
rule_once rule.Common rule.Erew e = absurd (apart (rule_line rule.Common) (rule_line rule.Erew) refl e)
rule_once rule.Common rule.Crew e = absurd (apart (rule_line rule.Common) (rule_line rule.Crew) refl e)
rule_once rule.Common rule.Common e = refl
rule_once rule.Common rule.Priority e = absurd (apart (rule_line rule.Common) (rule_line rule.Priority) refl e)
rule_once rule.Common rule.Sum e = absurd (apart (rule_line rule.Common) (rule_line rule.Sum) refl e)
rule_once rule.Priority rule.Erew e = absurd (apart (rule_line rule.Priority) (rule_line rule.Erew) refl e)
rule_once rule.Priority rule.Crew e = absurd (apart (rule_line rule.Priority) (rule_line rule.Crew) refl e)
rule_once rule.Priority rule.Common e = absurd (apart (rule_line rule.Priority) (rule_line rule.Common) refl e)
rule_once rule.Priority rule.Priority e = refl
rule_once rule.Priority rule.Sum e = absurd (apart (rule_line rule.Priority) (rule_line rule.Sum) refl e)
rule_once rule.Sum rule.Erew e = absurd (apart (rule_line rule.Sum) (rule_line rule.Erew) refl e)
rule_once rule.Sum rule.Crew e = absurd (apart (rule_line rule.Sum) (rule_line rule.Crew) refl e)
rule_once rule.Sum rule.Common e = absurd (apart (rule_line rule.Sum) (rule_line rule.Common) refl e)
rule_once rule.Sum rule.Priority e = absurd (apart (rule_line rule.Sum) (rule_line rule.Priority) refl e)
rule_once rule.Sum rule.Sum e = refl

pub field_once : (name : List ℕ) (n m : ℕ) → Lacks 32 name → n < 2 ^ 64 → m < 2 ^ 64 →
    line (field_words name n) ≡ line (field_words name m) → n ≡ m
field_once name n m l fn fm e =
    let both = one_cut 32 name name (32 ∷ decimal n) (32 ∷ decimal m) l l refl refl e in
    decimal_injective n m fn fm (let tails : 32 ∷ decimal n ≡ 32 ∷ decimal m = both.1 in cc)

bounds_once : (n m : List ℕ) (b d : Option (ℤ × ℤ)) → IsName n → IsName m → AreBounds b → AreBounds d →
    line (entry_words n b) ≡ line (entry_words m d) → (n ≡ m) × (b ≡ d)
bounds_once n m None None isn ism hb hd e = (let tails : n ≡ m = cc in tails, refl)
bounds_once n m None (Some b) isn ism hb hd e = absurd (apart (line (entry_words n None)) (line (entry_words m (Some b))) refl e)
bounds_once n m (Some b) None isn ism hb hd e = absurd (apart (line (entry_words n (Some b))) (line (entry_words m None)) refl e)
bounds_once n m (Some (a, b)) (Some (x, y)) isn ism hb hd e =
    let lows = signed_decimal a ++ 32 ∷ signed_decimal b in
    let others = signed_decimal x ++ 32 ∷ signed_decimal y in
    let tails : n ++ 32 ∷ lows ≡ m ++ 32 ∷ others = cc in
    let names = one_cut 32 n m (32 ∷ lows) (32 ∷ others) (lacks_name 32 n (lit≤ tt) isn) (lacks_name 32 m (lit≤ tt) ism) refl refl tails in
    let bounds : lows ≡ others = (let h : 32 ∷ lows ≡ 32 ∷ others = names.1 in cc) in
    let parts = one_cut 32 (signed_decimal a) (signed_decimal x) (32 ∷ signed_decimal b) (32
    ∷ signed_decimal y) (lacks_number 32 a (lit< tt) (low_fits a b hb)) (lacks_number 32 x (lit< tt) (low_fits x y hd)) refl refl
    bounds in
    let high : signed_decimal b ≡ signed_decimal y = (let h : 32 ∷ signed_decimal b ≡ 32 ∷ signed_decimal y = parts.1 in cc) in
    let one = one_number a x (low_fits a b hb) (low_fits x y hd) parts.0 in
    let two = one_number b y (high_fits a b hb) (high_fits x y hd) high in
    (names.0, λ j. Some (one j, two j))

pub entry_once : (d e : SharedEntry) → IsEntry d → IsEntry e → entry_line d ≡ entry_line e → d ≡ e
entry_once d e isd ise same =
    let both = bounds_once d.name e.name d.bounds e.bounds isd.is_name ise.is_name isd.are_bounds ise.are_bounds same in
    λ j. record { name = both.0 j; bounds = both.1 j }

pub instr_once : (k : ℕ) (i j : Instr) → k < 2 ^ 64 → IsInstr i → IsInstr j → line (instr_words k i) ≡ line (instr_words k j) → i ≡ j
instr_once k i j fits isi isj same =
    let bodies = one_cut 32 (decimal k) (decimal k) _ _ (lacks_decimal 32 k (lit< tt) fits) (lacks_decimal 32 k (lit< tt) fits) refl refl
    (sym (line-instr k i) ∙ same ∙ line-instr k j) in
    let text = side_of i ++ (stem_of i ++ spaced (numbers_of i)) in
    let other = side_of j ++ (stem_of j ++ spaced (numbers_of j)) in
    let e : text ≡ other = (let h : 32 ∷ text ≡ 32 ∷ other = bodies.1 in cc) in
    let parts = split_body text (side_of i ++ stem_of i) (spaced (numbers_of i)) j
    (sym (append_assoc (side_of i) (stem_of i) (spaced (numbers_of i)))) (lacks_word 32 i (lit≤ tt)) (follows_spaced (numbers_of i))
    e in
    let found = sym (template_word i) ∙ ap template_of parts.0 ∙ template_word j in
    let start : blank i ≡ blank j = cc in
    let ns = spaced_once (numbers_of i) (numbers_of j) (numbers_fit i isi) (numbers_fit j isj) parts.1 in
    sym (candidate_same i isi) ∙ ap (λ t. candidate_of t (numbers_of i)) start ∙ ap (candidate_of (blank j)) ns ∙ candidate_same j isj
