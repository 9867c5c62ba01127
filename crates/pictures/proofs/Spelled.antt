-- Cells and faults as letters of a picture.
use Rattle.std.proofs.Common.{◌≡◌, ◌∙◌, ◌<◌, ◌++◌, List, ℕ, ap, append_assoc, codes, drop, length, refl, slice_get, subst, sym}
use Rattle.std.specs.Prelude.{ℤ, Option, Some, None, IfSome, decimal}
use Rattle.std.specs.Fmt.{signed_decimal}
use Rattle.pram_model.specs.Layout.{SharedEntry, size}
use Rattle.pram_values.specs.declared.kind.Kind.{Kind}
use Rattle.pram_values.specs.declared.kind.Kind.TheVariants as kind
use Rattle.program_texts.specs.Shown.{cell_text, kind_text, subscript_text}
use Rattle.program_texts.proofs.ShownLemmas.{cell_here, entry_at, known_at}
use Rattle.svg_texts.specs.Letters.{letters}
use Rattle.svg_texts.proofs.LettersJoined.{letters_append, letters_decimal, letters_signed}

subscript_spelled : (bounds : Option (ℤ × ℤ)) (k : ℕ) → letters (subscript_text bounds k) ≡ subscript_text bounds k
subscript_spelled None k = refl
subscript_spelled (Some (low, high)) k =
    ap (λ t. codes "[" ++ t) (letters_append (signed_decimal _) (codes "]") ∙ ap (λ t. t ++ codes "]") (letters_signed _))

element_spelled : (name : List ℕ) (bounds : Option (ℤ × ℤ)) (k : ℕ) →
    letters (name ++ subscript_text bounds k) ≡ letters name ++ subscript_text bounds k
element_spelled name bounds k =
    letters_append name (subscript_text bounds k) ∙ ap (λ t. letters name ++ t) (subscript_spelled bounds k)

-- a cell among those of the declaration at i
pub cell_spelled : (layout : List SharedEntry) (i k count : ℕ) (P : List ℕ → Type 0) → i < length layout
    → IfSome (slice_get layout i) (λ e. count ≡ size e.bounds) → k < count
    → IfSome (slice_get layout i) (λ e. P (letters e.name ++ subscript_text e.bounds k)) → P (letters (cell_text (drop i layout) k))
cell_spelled layout i k count P below counted inside written =
    let (e, found, split) = entry_at layout i below in
    let it = known_at layout i e (λ e. P (letters e.name ++ subscript_text e.bounds k)) found written in
    cell_here layout i k count (λ t. P (letters t)) below counted inside
    (subst (λ o. IfSome o (λ e. P (letters (e.name ++ subscript_text e.bounds k)))) (sym found)
    (subst P (sym (element_spelled e.name e.bounds k)) it))

pub processor_spelled : (i : ℤ) → letters (codes "processor " ++ signed_decimal i) ≡ codes "processor " ++ signed_decimal i
processor_spelled i = ap (λ t. codes "processor " ++ t) (letters_signed i)

kind_spelled : (k : Kind) → letters (codes "fault " ++ (kind_text k ++ codes " ")) ≡ codes "fault " ++ (kind_text k ++ codes " ")
kind_spelled kind.Overflow = refl
kind_spelled kind.DivideByZero = refl
kind_spelled kind.OutOfRange = refl
kind_spelled kind.TooWide = refl
kind_spelled kind.ReadConflict = refl
kind_spelled kind.WriteConflict = refl

-- what it was, where, and in which line
pub fault_spelled : (k : Kind) (place : List ℕ) (line : ℕ) →
    letters (codes "fault " ++ (kind_text k ++ (codes " " ++ (place ++ (codes " line " ++ decimal line))))) ≡
    (codes "fault " ++ (kind_text k ++ codes " ")) ++ (letters place ++ (codes " line " ++ decimal line))
fault_spelled k place line =
    let behind = place ++ (codes " line " ++ decimal line) in
    let front = codes "fault " ++ (kind_text k ++ codes " ") in
    ap letters (ap (λ t. codes "fault " ++ t) (sym (append_assoc (kind_text k) (codes " ") behind)))
    ∙ letters_append front behind
    ∙ ap (λ t. t ++ letters behind) (kind_spelled k)
    ∙ ap (λ t. front ++ t) (letters_append place (codes " line " ++ decimal line)
    ∙ ap (λ t. letters place ++ (codes " line " ++ t)) (letters_decimal line))
