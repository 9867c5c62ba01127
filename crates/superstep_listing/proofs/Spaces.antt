-- Numbers behind spaces are read in one way.
use Rattle.std.proofs.Common.{◌≡◌, ℕ, suc, List, [], ◌∷◌, ◌++◌, refl, sym, ap, ◌∙◌, ◌+◌, ◌<◌, ◌^◌, ◌%◌, length, arith, length-append, lit<}
use Rattle.std.proofs.Common.{append_assoc}
use Rattle.std.proofs.lemmas.Fmt.{decimal_by_steps}
use Rattle.std.proofs.lemmas.List.{append-nil}
use Rattle.std.specs.Fmt.{decimal, signed_decimal}
use Rattle.std.specs.List.{AllByRecursion}
use Rattle.std.specs.Prelude.{ℤ, pos, negsuc, Option, Some, None}
use Rattle.std.specs.Borrow.{Bor}
use Rattle.superstep_instructions.specs.Code.{Wide}
use Rattle.superstep_listing.specs.Cutting.{Lacks, behind_word, spaced}
use Rattle.superstep_instructions.specs.Limits.{Fits}
use Rattle.superstep_listing.proofs.Cuts.{Follows, lacks-append, one_cut}
use Rattle.superstep_listing.proofs.Numerals.{one_number, small}

-- decimals have no byte below `-`
pub lacks_decimal : (byte n : ℕ) → byte < 45 → n < 2 ^ 64 → Lacks byte (decimal n)
lacks_decimal byte n low fits =
    decimal_by_steps (λ m ds. Lacks byte ds) (λ m digit. (λ e. absurd (omega arith), tt))
    (λ m ds more front. lacks-append byte ds ((48 + m % 10) ∷ []) front (λ e. absurd (omega arith), tt)) n fits

pub lacks_number : (byte : ℕ) (z : ℤ) → byte < 45 → Fits (Wide z) → Lacks byte (signed_decimal z)
lacks_number byte (pos n) low fits = lacks_decimal byte n low (let s = small (pos n) fits in omega arith)
lacks_number byte (negsuc n) low fits =
    (λ e. absurd (omega arith), lacks_decimal byte (suc n) low (let s = small (negsuc n) fits in omega arith))

abbrev pub AllFit : List ℤ → Type 0
AllFit = AllByRecursion (λ z. Fits (Wide z))

pub follows_spaced : (zs : List ℤ) → Follows 32 (spaced zs)
follows_spaced [] = tt
follows_spaced (z ∷ zs) = refl

follows_joined : (xs : List ℤ) (rest : List ℕ) → Follows 32 rest → Follows 32 (spaced xs ++ rest)
follows_joined [] rest f = f
follows_joined (x ∷ xs) rest f = refl

-- numbers that begin with those
pub record GoesOn (xs zs : List ℤ) (rest : List ℕ) : Type 0 where
  pub more : List ℤ
  pub whole : zs ≡ xs ++ more
  pub fit : AllFit more
  pub left : rest ≡ spaced more

pub goes_on : (xs zs : List ℤ) (rest : List ℕ) → AllFit xs → AllFit zs → Follows 32 rest → spaced xs ++ rest ≡ spaced zs → GoesOn xs zs rest
goes_on [] zs rest fx fz f e = record { more = zs; whole = refl; fit = fz; left = e }
goes_on (x ∷ xs) [] rest fx fz f e = absurd (cc)
goes_on (x ∷ xs) (z ∷ zs) rest fx fz f e =
    let tails : signed_decimal x ++ spaced xs ++ rest ≡ signed_decimal z ++ spaced zs = cc in
    let both = one_cut 32 (signed_decimal x) (signed_decimal z) (spaced xs ++ rest) (spaced zs) (lacks_number 32 x (lit< tt) fx.0)
    (lacks_number 32 z (lit< tt) fz.0)
    (follows_joined xs rest f) (follows_spaced zs) (sym (append_assoc (signed_decimal x) (spaced xs) rest) ∙ tails) in
    let same : x ≡ z = one_number x z fx.0 fz.0 both.0 in
    let next = goes_on xs zs rest fx.1 fz.1 f both.1 in
    record { more = next.more; whole = ap (λ y. y ∷ zs) (sym same) ∙ ap (λ l. x ∷ l) next.whole; fit = next.fit; left = next.left }

first_of_them : (text word next : List ℕ) (more : List ℤ) → AllFit more → 32 ∷ text ≡ spaced more → text ≡ word ++ next → Lacks 32 word →
    Follows 32 next
    → (z : ℤ) × Fits (Wide z) × (word ≡ signed_decimal z)
first_of_them text word next [] fit left whole lacks follows = absurd (cc)
first_of_them text word next (z ∷ zs) fit left whole lacks follows =
    let e : text ≡ signed_decimal z ++ spaced zs = cc in (
      z,
      fit.0,
      (one_cut 32 word (signed_decimal z) next (spaced zs) lacks (lacks_number 32 z (lit< tt) fit.0) follows (follows_spaced zs)
          (sym whole ∙ e)).0,
    )

-- the next word is the next number
pub next_number : (behind text word next : List ℕ) (xs zs : List ℤ) → behind ≡ spaced xs ++ 32 ∷ text → AllFit xs → text ≡ word ++ next →
    Lacks 32 word → Follows 32 next
    → AllFit zs → behind ≡ spaced zs → (z : ℤ) × Fits (Wide z) × (word ≡ signed_decimal z)
next_number behind text word next xs zs read fx whole lacks follows fz e =
    let g = goes_on xs zs (32 ∷ text) fx fz refl (sym read ∙ e) in
    first_of_them text word next g.more g.fit g.left whole lacks follows

some_more : (text : List ℕ) (more : List ℤ) → 32 ∷ text ≡ spaced more → 0 < length more
some_more text [] e = absurd (cc)
some_more text (z ∷ zs) e = omega arith

-- a fifth number is one too many
pub too_many : (behind text : List ℕ) (xs zs : List ℤ) → behind ≡ spaced xs ++ 32 ∷ text → AllFit xs → AllFit zs → behind ≡ spaced zs →
    length xs < length zs
too_many behind text xs zs read fx fz e =
    let g = goes_on xs zs (32 ∷ text) fx fz refl (sym read ∙ e) in
    let some = some_more text g.more g.left in
    let size : length zs ≡ length xs + length g.more = ap length g.whole ∙ length-append xs g.more in
    omega arith

pub follows_behind : (o : Option (Bor (List ℕ))) → Follows 32 (behind_word o)
follows_behind None = tt
follows_behind (Some rest) = refl

none_left : (more : List ℤ) → [] ≡ spaced more → more ≡ []
none_left [] e = refl
none_left (z ∷ zs) e = absurd (cc)

-- numbers of one spelling are the same
pub spaced_once : (xs zs : List ℤ) → AllFit xs → AllFit zs → spaced xs ≡ spaced zs → xs ≡ zs
spaced_once xs zs fx fz e =
    let g = goes_on xs zs [] fx fz tt (append-nil (spaced xs) ∙ e) in
    sym (g.whole ∙ ap (λ l. xs ++ l) (none_left g.more g.left) ∙ append-nil xs)
