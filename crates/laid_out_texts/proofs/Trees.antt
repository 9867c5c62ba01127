-- Trees of texts with one spelling are read back from it.
use Rattle.std.proofs.Common.{◌≡◌, ◌≤◌, ◌<◌, ℕ, Bool, false, nat_lt, List, [], length, Ok, Some, sym, ap, ◌∙◌, subst, arith}
use Rattle.std.proofs.lemmas.Bool.Decides.{nat_tests}
use Rattle.std.specs.Prelude.{if◌then◌else◌, None}
use Rattle.pram_tokens.specs.Scanning.{cut_of, longest}
use Rattle.pram_trees.specs.Program.{ProgramTree, program_tokens}
use Rattle.pram_trees.specs.Text.{HasOneTreeAtMost, IsTextOf}
use Rattle.pram_printer.specs.Places.{IsReadBack, PrintingReadsBack, without_locations}
use Rattle.pram_printer.specs.Spelling.{spelling}
use Rattle.laid_out_texts.specs.Spelled.{spelled, spelled_cut, spelled_expansion}
use Rattle.laid_out_texts.specs.Trees.{IsTreeOf, SpellingsTellTrees}

not_longer : (n : ℕ) → n ≤ longest → nat_lt longest n ≡ false
not_longer n h = grind (arith, nat_tests)

told_by : (text : List ℕ) (tree : ProgramTree) → IsTreeOf text tree → spelled text ≡ Some (spelling (program_tokens tree))
told_by text tree is =
    ap spelled_expansion is.1
    ∙ ap (λ (b : Bool). if b then None else spelled_cut (cut_of is.0.text)) (not_longer (length is.0.text) is.2.plain.fits)
    ∙ ap spelled_cut is.2.tokens

some-is : (a b : List ℕ) → Some a ≡ Some b → a ≡ b
some-is a b h = cc

pub tell_trees : PrintingReadsBack → HasOneTreeAtMost → SpellingsTellTrees
tell_trees reads_back one old new p q alike is_p is_q few =
    let same : spelling (program_tokens q) ≡ spelling (program_tokens p) =
    some-is _ _ (sym (told_by new q is_q) ∙ alike ∙ told_by old p is_p) in
    let of_p : IsReadBack p = reads_back p is_p.2.stands few in
    let of_q : IsReadBack q = reads_back q is_q.2.stands (subst (λ (t : List ℕ). length t ≤ longest) (sym same) few) in
    let text : IsTextOf (spelling (program_tokens p)) of_q.again = subst (λ (t : List ℕ). IsTextOf t of_q.again) same of_q.text in
    sym of_q.same ∙ ap without_locations (one (spelling (program_tokens p)) of_q.again of_p.again text of_p.text) ∙ of_p.same
