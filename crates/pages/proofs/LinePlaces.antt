-- Where the first lines of a text end.
use Rattle.std.proofs.Common.{◌≡◌, ◌<◌, ◌≤◌, ◌+◌, ◌-◌, ◌++◌, ◌∷◌, ◌∙◌, [], List, ℕ, zero, suc, ap, arith, get_or, inl, inr, length, refl, subst, sym}
use Rattle.std.proofs.Common.{drop, length-append, take}
use Rattle.std.proofs.lemmas.Bool.{cases_lt, ne_eqb}
use Rattle.std.proofs.lemmas.List.{get_or-take, get_or_append_left, take-append-drop, take-take, take_all, take_more}
use Rattle.std.specs.Prelude.{◌⊎◌, if◌then◌else◌, slice_index}
use Rattle.pages.specs.Cut.{room}
use Rattle.pages.specs.Facts.{BeginsLine, line_count, line_end}
use Rattle.pages.specs.Kept.{AreLinesTo}
use Rattle.pages.proofs.CutOfKept.{length_take_most, length_take_within}
use Rattle.pages.proofs.LineEnds.{line_count-append}

-- ---- a search for it

-- up to `at` so many lines end that so many are left
pub record Counting (bytes : List ℕ) (lines left at : ℕ) : Type 0 where
  pub inside : at ≤ length bytes
  pub counted : left + line_count (take at bytes) ≡ lines
  pub begins : left ≡ 0 → BeginsLine bytes at

pub counting_none : (bytes : List ℕ) (lines : ℕ) → Counting bytes lines lines 0
counting_none bytes lines = record { inside = omega arith; counted = omega arith; begins = λ e. tt }

one_more : (bytes : List ℕ) (at d : ℕ) → at < length bytes →
    line_count (take (at + 1) bytes) ≡ line_count (take at bytes) + line_end (get_or bytes at d)
one_more bytes at d below =
    ap line_count (take_more bytes at d below)
    ∙ line_count-append (take at bytes) (get_or bytes at d ∷ [])
    ∙ (let e : line_count (get_or bytes at d ∷ []) ≡ line_end (get_or bytes at d) = omega arith in
    ap (λ n. line_count (take at bytes) + n) e)

begins_behind : (bytes : List ℕ) (at : ℕ) → slice_index bytes at ≡ 10 → BeginsLine bytes (at + 1)
begins_behind bytes at is = subst (BeginsLine bytes) (let e : suc at ≡ at + 1 = omega arith in e) is

pub counting_line : (bytes : List ℕ) (lines left at : ℕ) → Counting bytes lines left at → at < length bytes → 0 < left →
    slice_index bytes at ≡ 10 → Counting bytes lines (left - 1) (at + 1)
counting_line bytes lines left at c below some is =
    let more = one_more bytes at 0 below in
    let one : line_end (get_or bytes at 0) ≡ 1 = ap line_end is in
    let counted : left + line_count (take at bytes) ≡ lines = c.counted in
    record {
      inside = omega (arith, below);
      counted = omega (arith, more, one, counted, some);
      begins = λ e. begins_behind bytes at is;
    }

no_end : (b : ℕ) → (b ≡ 10 → ⊥) → line_end b ≡ 0
no_end b none = ap (λ t. if t then 1 else 0) (ne_eqb b 10 none)

pub counting_on : (bytes : List ℕ) (lines left at : ℕ) → Counting bytes lines left at → at < length bytes → 0 < left →
    (slice_index bytes at ≡ 10 → ⊥) → Counting bytes lines left (at + 1)
counting_on bytes lines left at c below some none =
    let more = one_more bytes at 0 below in
    let zero : line_end (get_or bytes at 0) ≡ 0 = no_end _ none in
    let counted : left + line_count (take at bytes) ≡ lines = c.counted in
    record {
      inside = omega (arith, below);
      counted = omega (arith, more, zero, counted);
      begins = λ e. absurd (omega (arith, e, some));
    }

pub counting_over : (bytes : List ℕ) (lines left at : ℕ) → Counting bytes lines left at → length bytes ≤ at → 0 < left →
    AreLinesTo bytes lines (room + 1)
counting_over bytes lines left at c over some =
    let counted : left + line_count (take at bytes) ≡ lines = c.counted in
    let all : line_count (take at bytes) ≡ line_count bytes = ap line_count (take_all at bytes over) in
    inl (omega (arith, counted, all, some), refl)

pub counting_found : (bytes : List ℕ) (lines left at : ℕ) → Counting bytes lines left at → left ≤ 0 → AreLinesTo bytes lines at
counting_found bytes lines left at c none =
    let counted : left + line_count (take at bytes) ≡ lines = c.counted in
    inr (c.inside, c.begins (omega (arith, none)), omega (arith, counted, none))

-- ---- it is the only one

has_line : (text : List ℕ) (n : ℕ) → n < length text → slice_index text n ≡ 10 → 1 ≤ line_count (take (suc n) text)
has_line [] n below is = absurd (omega (arith, below))
has_line (x ∷ text) zero below is = let e : line_end x ≡ 1 = ap line_end is in omega (arith, e)
has_line (x ∷ text) (suc n) below is = let e = has_line text n (omega (arith, below)) is in omega (arith, e)

-- behind a place fewer lines end than up to the begin of one behind it
more_lines : (text : List ℕ) (p q : ℕ) → p < q → q ≤ length text → BeginsLine text q →
    line_count (take p text) < line_count (take q text)
more_lines text p zero lt inside b = absurd (omega (arith, lt))
more_lines [] p (suc q) lt inside b = absurd (omega (arith, inside))
more_lines (x ∷ text) zero (suc q) lt inside b = let e = has_line (x ∷ text) q (omega (arith, inside)) b in omega (arith, e)
more_lines (x ∷ text) (suc p) (suc zero) lt inside b = absurd (omega (arith, lt))
more_lines (x ∷ text) (suc p) (suc (suc q)) lt inside b =
    let e = more_lines text p (suc q) (omega (arith, lt)) (omega (arith, inside)) b in omega (arith, e)

same_place : (text : List ℕ) (p q : ℕ) → p ≤ length text → q ≤ length text → BeginsLine text p → BeginsLine text q →
    line_count (take p text) ≡ line_count (take q text) → p ≡ q
same_place text p q inside within b c same = by (cases_lt p q) (cases_lt q p) where
  by : (p < q) ⊎ (q ≤ p) → (q < p) ⊎ (p ≤ q) → p ≡ q
  by (inl lt) other = let e = more_lines text p q lt within c in absurd (omega (arith, e, same))
  by (inr le) (inl lt) = let e = more_lines text q p lt inside b in absurd (omega (arith, e, same))
  by (inr le) (inr ge) = omega (arith, le, ge)

begins_before : (head rest : List ℕ) (n : ℕ) → n ≤ length head → BeginsLine head n → BeginsLine (head ++ rest) n
begins_before head rest zero le b = tt
begins_before head rest (suc n) le b = get_or_append_left head rest 0 n (omega (arith, le)) ∙ b

begins_of_first : (text : List ℕ) (k n : ℕ) → n ≤ k → BeginsLine (take k text) n → BeginsLine text n
begins_of_first text k zero l b = tt
begins_of_first text k (suc n) l b = sym (get_or-take k text n 0 (omega (arith, l))) ∙ b

take_front : (head rest : List ℕ) → take (length head) (head ++ rest) ≡ head
take_front [] rest = refl
take_front (x ∷ head) rest = ap (λ l. x ∷ l) (take_front head rest)

-- what a front has of lines, more bytes have
front_lines : (text : List ℕ) (p q : ℕ) → p ≤ q → line_count (take p text) ≤ line_count (take q text)
front_lines text p q le =
    let whole = ap line_count (sym (take-append-drop p (take q text))) ∙ line_count-append (take p (take q text)) (drop p (take q text)) in
    let same : line_count (take p (take q text)) ≡ line_count (take p text) = ap line_count (take-take p q text le) in
    omega (arith, whole, same)

-- the lines before some others end there, or behind all that a page has room for
pub lines_to : (head rest bytes : List ℕ) (lines at : ℕ) → bytes ≡ take room (head ++ rest) → lines ≡ line_count head →
    BeginsLine head (length head) → AreLinesTo bytes lines at → (at ≡ length head) ⊎ ((room < at) × (at ≤ length head))
lines_to head rest bytes lines at is counted begins (inl few) = by (cases_lt room (length head)) where
  by : (room < length head) ⊎ (length head ≤ room) → (at ≡ length head) ⊎ ((room < at) × (at ≤ length head))
  by (inl far) = let e = few.1 in inr (omega (arith, e), omega (arith, e, far))
  by (inr near) =
      let more = front_lines (head ++ rest) (length head) room near in
      let front : line_count (take (length head) (head ++ rest)) ≡ line_count head = ap line_count (take_front head rest) in
      let these : line_count bytes ≡ line_count (take room (head ++ rest)) = ap line_count is in
      let less = few.0 in absurd (omega (arith, more, front, these, less, counted))
lines_to head rest bytes lines at is counted begins (inr found) =
    let long : length (head ++ rest) ≡ length head + length rest = length-append head rest in
    let inside : at ≤ length (take room (head ++ rest)) = subst (λ b. at ≤ length b) is found.0 in
    let little = length_take_most room (head ++ rest) in
    let within = length_take_within room (head ++ rest) in
    let near : at ≤ room = omega (arith, inside, little) in
    let same : take at bytes ≡ take at (head ++ rest) = ap (take at) is ∙ take-take at room (head ++ rest) near in
    let front : take (length head) (head ++ rest) ≡ head = take_front head rest in
    inl (same_place (head ++ rest) at (length head) (omega (arith, inside, within)) (omega (arith, long))
    (begins_of_first (head ++ rest) room at near (subst (λ b. BeginsLine b at) is found.1))
    (begins_before head rest (length head) (omega arith) begins)
    (sym (ap line_count same) ∙ found.2 ∙ counted ∙ sym (ap line_count front)))
