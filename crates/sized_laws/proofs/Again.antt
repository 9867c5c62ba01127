-- An expansion expands to itself.
use Rattle.std.proofs.Common.{◌≡◌, ℕ, ◌+◌, ◌-◌, Bool, true, false, List, [], ◌∷◌, ◌++◌, length}
use Rattle.std.proofs.Common.{Option, Some, None, Ok, Err, refl, sym, ap, ◌∙◌, arith, decimal, nat_lt, subst}
use Rattle.std.specs.Prelude.{if◌then◌else◌}
use Rattle.std.proofs.lemmas.Bool.Decides.{nat_tests}
use Rattle.pram_tokens.specs.Scanning.{longest}
use Rattle.sized_texts.specs.declared.fault.SizeFault.TheVariants.{TooLong}
use Rattle.sized_texts.specs.declared.size.Size.{Size}
use Rattle.sized_texts.specs.Expansion.{expanded_by, itself, offsets_from, short, undeclared}
use Rattle.sized_texts.specs.Expressions.{braced}
use Rattle.sized_texts.specs.Faults.{in_text}
use Rattle.sized_texts.specs.Pieces.{Expansion, from_there, in_comment, opens, pieces, pieces_of}
use Rattle.sized_texts.specs.Reading.{◌>>=◌}
use Rattle.sized_texts.specs.SizeLines.{sizes_of}
use Rattle.sized_texts.proofs.Exits.{found_in}
use Rattle.sized_laws.specs.Again.{ExpansionsAreFinal}
use Rattle.sized_laws.proofs.Braces.{opened_outside}
use Rattle.sized_laws.proofs.Digits.{AreDigits, decimal_digits}
use Rattle.sized_laws.proofs.Heads.{head_again}
use Rattle.sized_laws.proofs.Names.{head_other, names, undeclared_same}
use Rattle.sized_texts.proofs.Bound.{bind_ok}
use Rattle.sized_laws.proofs.Pieces.{IsExpandedBy, IsPieces, byte, expanded_ok, none, number, pieces_ok, plain, short_ok}
use Rattle.sized_laws.proofs.Pieces.{sized, skipped}

-- a text from an offset on, as it stands
abbrev whole_from : ℕ → List ℕ → Expansion
whole_from at text = record { text = text; places = offsets_from at text }

abbrev IsCopied : List Size → Bool → List ℕ → Type 0
IsCopied sizes comment text = (at : ℕ) → pieces sizes 0 comment at text ≡ Ok (whole_from at text)

byte_copied : (sizes : List Size) (comment : Bool) (b : ℕ) (rest : List ℕ) → false ≡ opens comment b →
    IsCopied sizes (in_comment comment b) rest → IsCopied sizes comment (b ∷ rest)
byte_copied sizes comment b rest opened on at =
    ap (λ o. if o
    then (braced sizes rest >>= λ e. from_there (decimal e.0) at (pieces sizes (length rest - length e.1) false (at + 1) rest))
    else from_there (b ∷ []) at (pieces sizes 0 (in_comment comment b) (at + 1) rest)) (sym opened)
    ∙ ap (from_there (b ∷ []) at) (on (at + 1))

digits_copied : (sizes : List Size) (ds to : List ℕ) → AreDigits ds → IsCopied sizes false to → IsCopied sizes false (ds ++ to)
digits_copied sizes [] to are on at = on at
digits_copied sizes (d ∷ ds) to are on at =
    let low = are.0.low in
    let high = are.0.high in
    let closed : false ≡ opens false d = grind (arith, nat_tests) in
    let plain_byte : false ≡ in_comment false d = grind (arith, nat_tests) in
    byte_copied sizes false d (ds ++ to) closed
    (subst (λ c. IsCopied sizes c (ds ++ to)) plain_byte (digits_copied sizes ds to are.1 on)) at

pieces_again : (all sizes : List Size) (skip : ℕ) (comment : Bool) (at : ℕ) (text to places : List ℕ) →
    IsPieces all skip comment at text to places → IsCopied sizes comment to
pieces_again all sizes skip comment at text to places (none s a c) n = refl
pieces_again all sizes skip comment at text to places (skipped m a b c rest t p on) n = pieces_again all sizes m c (a + 1) rest t p on n
pieces_again all sizes skip comment at text to places (number a b v c rest behind t p opened read on) n =
    subst (λ x. IsCopied sizes x (decimal v ++ t)) (opened_outside c b opened)
    (digits_copied sizes (decimal v) t (decimal_digits v)
    (pieces_again all sizes (length rest - length behind) false (a + 1) rest t p on)) n
pieces_again all sizes skip comment at text to places (byte a b c rest t p opened on) n =
    byte_copied sizes c b t opened (pieces_again all sizes 0 (in_comment c b) (a + 1) rest t p on) n

short_again : (d e : Expansion) → short d ≡ Ok e → short (itself e.text) ≡ Ok (itself e.text)
short_again d e is = by (nat_lt longest (length d.text)) refl (short_ok d e is) is
  where
    by : (t : Bool) → t ≡ nat_lt longest (length d.text) → d ≡ e → (if t then Err TooLong else Ok d) ≡ Ok e →
        short (itself e.text) ≡ Ok (itself e.text)
    by true long same h = absurd (cc)
    by false long same h =
        ap (λ t. if t then Err TooLong else Ok (itself e.text)) (sym (long ∙ ap (λ (x : Expansion). nat_lt longest (length x.text)) same))

-- what sizes of the same names make of the expansion
expanded_again : (sizes more : List Size) (text : List ℕ) (u : Option ℕ) (e : Expansion) → names sizes ≡ names more →
    expanded_by sizes text u ≡ Ok e → expanded_by more e.text None ≡ Ok (itself e.text)
expanded_again sizes more text (Some n) e alike is = absurd (cc)
expanded_again sizes [] text None e alike is = refl
expanded_again [] (m ∷ more) text None e alike is = absurd (cc)
expanded_again (s ∷ sizes) (m ∷ more) text None e alike is =
    let d = bind_ok (in_text (length text) (pieces_of (s ∷ sizes) text)) short e is in
    let p = pieces_ok (s ∷ sizes) 0 false 0 text d.0 (found_in (length text) (pieces_of (s ∷ sizes) text) d.0 d.1) in
    let again = subst (λ (x : Expansion). IsCopied (m ∷ more) false x.text) (short_ok d.0 e d.2)
    (pieces_again (s ∷ sizes) (m ∷ more) 0 false 0 text d.0.text d.0.places p) in
    ap (λ r. in_text (length e.text) r >>= short) (again 0) ∙ short_again d.0 e d.2

sizes_again : (given : List Size) (text : List ℕ) (e : Expansion) (sizes more : List Size) → names sizes ≡ names more →
    sizes_of given text ≡ Ok more → IsExpandedBy text e sizes → sizes_of given e.text ≡ Ok more
sizes_again given text e sizes more alike is (plain same) = subst (λ (x : Expansion). sizes_of given x.text ≡ Ok more) same is
sizes_again given text e sizes more alike is (sized s others p) =
    head_again (s ∷ others) given more 0 false 0 text e.text e.places p refl [] is

pub final : ExpansionsAreFinal
final given other text sizes e has is known =
    let x = bind_ok (in_text (length text) (sizes_of given text)) (λ sizes. expanded_by sizes text (undeclared sizes given)) e is in
    let found = found_in (length text) (sizes_of given text) x.0 x.1 in
    let same : x.0 ≡ sizes = cc in
    let o = head_other given other [] [] 0 text x.0 refl found in
    let again = sizes_again other text e x.0 o.0 o.2 o.1 (expanded_ok x.0 text (undeclared x.0 given) e x.2) in
    let known_there = sym (undeclared_same x.0 o.0 other o.2) ∙ ap (λ s. undeclared s other) same ∙ known in
    ap (λ r. in_text (length e.text) r >>= λ sizes. expanded_by sizes e.text (undeclared sizes other)) again
    ∙ ap (expanded_by o.0 e.text) known_there
    ∙ expanded_again x.0 o.0 text (undeclared x.0 given) e o.2 x.2
