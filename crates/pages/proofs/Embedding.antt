-- Facts that are written byte by byte, and what stands in them.
use Rattle.std.proofs.Common.{◌≡◌, ◌<◌, ◌≤◌, ◌+◌, ◌++◌, ◌∷◌, ◌∙◌, [], Bool, true, false, List, ℕ, ap, append_assoc, arith, codes, drop}
use Rattle.std.proofs.Common.{get_or}
use Rattle.std.proofs.Common.{if◌then◌else◌, ◌==◌, length, length-append, refl, sym}
use Rattle.std.proofs.lemmas.Bool.{eqb-false}
use Rattle.std.proofs.lemmas.List.{drop_more}
use Rattle.pages.specs.Facts.{HasNoTag, embedded, embedded_byte, line_count, line_end}

-- the byte at i, and those behind it
pub embedded_at : (bs : List ℕ) (i d : ℕ) → i < length bs →
    embedded (drop i bs) ≡ embedded_byte (get_or bs i d) ++ embedded (drop (i + 1) bs)
embedded_at bs i d below = ap embedded (drop_more bs i d below)

-- the lines that end at i, and behind it
pub counted_at : (bs : List ℕ) (i d : ℕ) → i < length bs → line_count (drop i bs) ≡ line_end (get_or bs i d) + line_count (drop (i + 1) bs)
counted_at bs i d below = ap line_count (drop_more bs i d below)

-- one text behind the other
pub embedded-append : (a b : List ℕ) → embedded (a ++ b) ≡ embedded a ++ embedded b
embedded-append [] b = refl
embedded-append (x ∷ a) b =
    ap (λ l. embedded_byte x ++ l) (embedded-append a b) ∙ sym (append_assoc (embedded_byte x) (embedded a) (embedded b))

no_tag-append : (a b : List ℕ) → HasNoTag a → HasNoTag b → HasNoTag (a ++ b)
no_tag-append [] b h g = g
no_tag-append (x ∷ a) b h g = (h.0, no_tag-append a b h.1 g)

no_tag_byte : (b : ℕ) → HasNoTag (embedded_byte b)
no_tag_byte b = by (b == 60) refl
  where
    other : (c : Bool) → (b ≡ 60 → ⊥) → HasNoTag (if c then codes "," else b ∷ [])
    other true none = ((λ h. omega (arith, h)), tt)
    other false none = (none, tt)

    by : (c : Bool) → (b == 60) ≡ c → HasNoTag (if c then codes "\\u003c" else (if b == 10 then codes "," else b ∷ []))
    by true is = (
      (λ h. omega (arith, h)),
      (
        (λ h. omega (arith, h)),
        (
          (λ h. omega (arith, h)),
          ((λ h. omega (arith, h)), ((λ h. omega (arith, h)), ((λ h. omega (arith, h)), tt))),
        ),
      ),
    )
    by false is = other (b == 10) (eqb-false b 60 is)

pub no_tag : (facts : List ℕ) → HasNoTag (embedded facts)
no_tag [] = tt
no_tag (b ∷ bs) = no_tag-append (embedded_byte b) (embedded bs) (no_tag_byte b) (no_tag bs)

count_more : (b : ℕ) (c : Bool) → (if c then 1 else 0) ≡ line_end b → line_end b < 2
count_more b true is = omega (arith, is)
count_more b false is = omega (arith, is)

pub line_count-le : (bs : List ℕ) → line_count bs < length bs + 1
line_count-le [] = omega arith
line_count-le (b ∷ bs) =
    let one : line_end b < 2 = count_more b (b == 10) refl in
    let others : line_count bs < length bs + 1 = line_count-le bs in
    omega (arith, one, others)

-- no byte is without width
wide_byte : (b : ℕ) → 1 ≤ length (embedded_byte b)
wide_byte b = by (b == 60)
  where
    comma : 1 ≤ length (codes ",")
    comma = let e : length (codes ",") ≡ 1 = refl in omega (arith, e)

    other : (c : Bool) → 1 ≤ length (if c then codes "," else b ∷ [])
    other true = comma
    other false = omega arith

    by : (c : Bool) → 1 ≤ length (if c then codes "\\u003c" else (if b == 10 then codes "," else b ∷ []))
    by true = let e : length (codes "\\u003c") ≡ 6 = refl in omega (arith, e)
    by false = other (b == 10)

pub embedded-wide : (bs : List ℕ) → length bs ≤ length (embedded bs)
embedded-wide [] = omega arith
embedded-wide (b ∷ bs) =
    let one = wide_byte b in
    let others = embedded-wide bs in
    let both = length-append (embedded_byte b) (embedded bs) in
    omega (arith, one, others, both)
