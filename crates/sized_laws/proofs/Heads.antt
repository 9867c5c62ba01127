-- An expansion has the size lines of its text.
use Rattle.std.proofs.Common.{◌≡◌, ℕ, suc, ◌+◌, ◌==◌, Bool, true, false, not, List, [], ◌∷◌, ◌++◌, length, take}
use Rattle.std.proofs.Common.{Option, Some, None, Result, Ok, Err, refl, sym, ap, ◌∙◌, arith, cond, decimal, subst}
use Rattle.std.specs.Prelude.{if◌then◌else◌}
use Rattle.std.proofs.lemmas.Bool.Decides.{nat_tests}
use Rattle.pram_tokens.specs.Lexemes.{is_blank}
use Rattle.sized_texts.specs.declared.reason.Reason.{Reason}
use Rattle.sized_texts.specs.declared.size.Size.{Size}
use Rattle.sized_texts.specs.declared.stop.Wrong.{Wrong}
use Rattle.sized_texts.specs.Pieces.{in_comment, opens}
use Rattle.sized_texts.specs.Reading.{◌>>=◌, placed}
use Rattle.sized_texts.specs.SizeLines.{comment_length, declaration, declare, head, line_of, size_of}
use Rattle.sized_laws.proofs.Braces.{opened_outside}
use Rattle.sized_laws.proofs.Digits.{AreDigits, decimal_digits, decimal_some}
use Rattle.sized_texts.proofs.Bound.{bind_ok}
use Rattle.sized_laws.proofs.Pieces.{IsPieces, byte, none, number, skipped}

still_open : (b : ℕ) → false ≡ (b == 10) → true ≡ in_comment true b
still_open b is = ap (λ t. if t then false else true) is

-- the rest of a comment stands as it is
comment_same : (sizes : List Size) (skip : ℕ) (comment : Bool) (at : ℕ) (text to places : List ℕ) →
    IsPieces sizes skip comment at text to places → skip ≡ 0 → true ≡ comment →
    take (comment_length to) to ≡ take (comment_length text) text
comment_same sizes skip comment at text to places (none s a c) whole inside = refl
comment_same sizes skip comment at text to places (skipped n a b c rest t p on) whole inside = absurd (omega (arith, whole))
comment_same sizes skip comment at text to places (number a b v c rest behind t p opened read on) whole inside =
    let k = opened_outside c b opened in absurd (cc)
comment_same sizes skip comment at text to places (byte a b c rest t p opened on) whole inside =
    by (b == 10) refl (comment_same sizes 0 (in_comment c b) (a + 1) rest t p on refl)
  where
    by : (lf : Bool) → lf ≡ (b == 10) →
        (true ≡ in_comment c b → take (comment_length t) t ≡ take (comment_length rest) rest) →
        take (cond (not lf) (1 + comment_length t) 0) (b ∷ t) ≡ take (cond (not lf) (1 + comment_length rest) 0) (b ∷ rest)
    by true is same = refl
    by false is same =
        let there : 1 + comment_length t ≡ suc (comment_length t) = omega arith in
        let here : suc (comment_length rest) ≡ 1 + comment_length rest = omega arith in
        ap (λ n. take n (b ∷ t)) there
        ∙ ap (λ x. b ∷ x) (same (still_open b is ∙ ap (λ x. in_comment x b) inside))
        ∙ ap (λ n. take n (b ∷ rest)) here

placed_left : (left other : ℕ) (r : Result ℕ Reason) (v : ℕ) → placed left r ≡ Ok v → placed other r ≡ Ok v
placed_left left other (Ok u) v is = let same : u ≡ v = cc in ap Ok same
placed_left left other (Err w) v is = absurd (cc)

-- what a line declares is by the line alone
declare_left : (given found : List Size) (left other : ℕ) (line : Option (List ℕ × List ℕ)) (more : List Size) →
    declare given found left line ≡ Ok more → declare given found other line ≡ Ok more
declare_left given found left other None more is = is
declare_left given found left other (Some line) more is =
    let r = declaration found line.0 line.1 in
    let f : ℕ → Result (List Size) Wrong = λ n. Ok (found ++ size_of given line.0 n ∷ []) in
    let x = bind_ok (placed left r) f more is in ap (λ y. y >>= f) (placed_left left other r x.0 x.1) ∙ x.2

-- the head from a byte on, by whether it is white space or begins a comment
abbrev pub turn : (given found : List Size) (b : ℕ) (rest : List ℕ) → (blank hash : Bool) → Result (List Size) Wrong
turn given found b rest blank hash =
    if blank then head given found 0 rest
    else (if hash
    then (declare given found (length (b ∷ rest)) (line_of (take (comment_length rest) rest)) >>= λ more.
    head given more (comment_length rest) rest)
    else Ok found)

-- digits end the head
digits_end : (given found : List Size) (ds to : List ℕ) → (ds ≡ [] → ⊥) → AreDigits ds → head given found 0 (ds ++ to) ≡ Ok found
digits_end given found [] to some are = absurd (some refl)
digits_end given found (d ∷ ds) to some are =
    let low = are.0.low in
    let dark : is_blank d ≡ false = grind (arith, nat_tests) in
    let plain : (d == 35) ≡ false = grind (arith, nat_tests) in
    ap (λ x. turn given found d (ds ++ to) x (d == 35)) dark ∙ ap (turn given found d (ds ++ to) false) plain

-- how much of a comment is passed over
abbrev passed : Bool → List ℕ → ℕ
passed comment text = cond comment (comment_length text) 0

abbrev IsHeadOf : (given sizes : List Size) → Bool → (text to : List ℕ) → Type 0
IsHeadOf given sizes comment text to =
    (found : List Size) → head given found (passed comment text) text ≡ Ok sizes → head given found (passed comment to) to ≡ Ok sizes

-- a byte that is copied in a comment
commented : (given sizes : List Size) (b : ℕ) (rest to : List ℕ) → IsHeadOf given sizes (in_comment true b) rest to →
    IsHeadOf given sizes true (b ∷ rest) (b ∷ to)
commented given sizes b rest to on found is = by (b == 10) refl is
  where
    by : (lf : Bool) → lf ≡ (b == 10) → head given found (cond (not lf) (1 + comment_length rest) 0) (b ∷ rest) ≡ Ok sizes →
        head given found (cond (not lf) (1 + comment_length to) 0) (b ∷ to) ≡ Ok sizes
    by true same h =
        let e : b ≡ 10 = grind (arith, nat_tests) in
        let here : head given found 0 rest ≡ Ok sizes = subst (λ x. head given found 0 (x ∷ rest) ≡ Ok sizes) e h in
        let go = subst (λ x. IsHeadOf given sizes (in_comment true x) rest to) e on in
        subst (λ x. head given found 0 (x ∷ to) ≡ Ok sizes) (sym e) (go found here)
    by false same h =
        let there : 1 + comment_length to ≡ suc (comment_length to) = omega arith in
        let here : suc (comment_length rest) ≡ 1 + comment_length rest = omega arith in
        let go = subst (λ x. IsHeadOf given sizes x rest to) (sym (still_open b same)) on in
        ap (λ n. head given found n (b ∷ to)) there ∙ go found (ap (λ n. head given found n (b ∷ rest)) here ∙ h)

-- a byte that is copied outside of comments
outside : (given sizes : List Size) (b : ℕ) (rest to : List ℕ) →
    (true ≡ in_comment false b → take (comment_length to) to ≡ take (comment_length rest) rest) →
    IsHeadOf given sizes (in_comment false b) rest to → IsHeadOf given sizes false (b ∷ rest) (b ∷ to)
outside given sizes b rest to same on found is = by (is_blank b) (b == 35) refl refl is
  where
    by : (blank hash : Bool) → blank ≡ is_blank b → hash ≡ (b == 35) → turn given found b rest blank hash ≡ Ok sizes →
        turn given found b to blank hash ≡ Ok sizes
    by true hash blank is_hash h =
        let closed : in_comment false b ≡ false = grind (arith, nat_tests) in
        subst (λ x. IsHeadOf given sizes x rest to) closed on found h
    by false true blank is_hash h =
        let e : b ≡ 35 = grind (arith, nat_tests) in
        let opened : in_comment false b ≡ true = ap (in_comment false) e in
        let line = line_of (take (comment_length rest) rest) in
        let x = bind_ok (declare given found (length (b ∷ rest)) line) (λ more. head given more (comment_length rest) rest) sizes h in
        ap (λ l. declare given found (length (b ∷ to)) (line_of l) >>= λ more. head given more (comment_length to) to) (same (sym opened))
        ∙ ap (λ r. r >>= λ more. head given more (comment_length to) to)
        (declare_left given found (length (b ∷ rest)) (length (b ∷ to)) line x.0 x.1)
        ∙ subst (λ y. IsHeadOf given sizes y rest to) opened on x.0 x.2
    by false false blank is_hash h = h

-- what heads of texts from an offset on declare
pub head_again : (all : List Size) (given sizes : List Size) (skip : ℕ) (comment : Bool) (at : ℕ) (text to places : List ℕ) →
    IsPieces all skip comment at text to places → skip ≡ 0 → IsHeadOf given sizes comment text to
head_again all given sizes skip comment at text to places (none s a c) whole found is = is
head_again all given sizes skip comment at text to places (skipped n a b c rest t p on) whole found is = absurd (omega (arith, whole))
head_again all given sizes skip comment at text to places (number a b v c rest behind t p opened read on) whole found is =
    by c opened is
  where
    by : (x : Bool) → true ≡ opens x b → head given found (passed x (b ∷ rest)) (b ∷ rest) ≡ Ok sizes →
        head given found (passed x (decimal v ++ t)) (decimal v ++ t) ≡ Ok sizes
    by true o h = absurd (cc)
    by false o h =
        let e : b ≡ 123 = grind (arith, nat_tests) in
        let ended : Ok found ≡ Ok sizes = subst (λ x. head given found 0 (x ∷ rest) ≡ Ok sizes) e h in
        digits_end given found (decimal v) t (decimal_some v) (decimal_digits v) ∙ ended
head_again all given sizes skip comment at text to places (byte a b c rest t p opened on) whole found is =
    by c (head_again all given sizes 0 (in_comment c b) (a + 1) rest t p on refl)
    (λ open_there. comment_same all 0 (in_comment c b) (a + 1) rest t p on refl open_there) found is
  where
    by : (x : Bool) → IsHeadOf given sizes (in_comment x b) rest t →
        (true ≡ in_comment x b → take (comment_length t) t ≡ take (comment_length rest) rest) →
        IsHeadOf given sizes x (b ∷ rest) (b ∷ t)
    by true go same = commented given sizes b rest t go
    by false go same = outside given sizes b rest t same go
