-- Names that are escaped character by character, and that no control is left in them.
use Rattle.std.proofs.Common.{◌≡◌, ◌∙◌, ◌<◌, ◌≤◌, ◌+◌, ◌-◌, ◌/◌, ◌%◌, ◌++◌, ◌∷◌, ◌||◌, [], Bool, true, false, List, ℕ, ap, arith, codes}
use Rattle.std.proofs.Common.{drop, get_or, length}
use Rattle.std.proofs.Common.{if◌then◌else◌, ◌==◌, nat_lt, refl, sym}
use Rattle.std.proofs.lemmas.Bool.{eqb-true, le-ltb, ltb-true, ne_eqb}
use Rattle.std.proofs.lemmas.Bool.Decides.{nat_tests}
use Rattle.std.proofs.lemmas.Nat.{div_below, mod_below}
use Rattle.text_places.specs.Escaped.{HasNoControl, begins_control, begins_pair, begins_triple, byte_text, escaped, escaped_from, hex}
use Rattle.text_places.specs.Escaped.{hex_digit, is_control, is_pair, is_triple, numbered, pending, steering}

-- a byte of ASCII that is printed
record IsPlain (b : ℕ) : Type 0 where
  least : 32 ≤ b
  most : b < 127

-- what begins with such a byte steers nothing
plain_starts : (b : ℕ) (rest : List ℕ) → IsPlain b → steering (b ∷ rest) ≡ 0
plain_starts b [] h = let least = h.least in let most = h.most in grind (arith, nat_tests, least, most)
plain_starts b (c ∷ []) h = let least = h.least in let most = h.most in grind (arith, nat_tests, least, most)
plain_starts b (c ∷ d ∷ rest) h = let least = h.least in let most = h.most in grind (arith, nat_tests, least, most)

plain_digit : (d : ℕ) → d < 16 → IsPlain (hex_digit d)
plain_digit d below = by (nat_lt d 10) refl
  where
    by : (c : Bool) → nat_lt d 10 ≡ c → IsPlain (if c then 48 + d else 87 + d)
    by true is = record { least = omega arith; most = omega (arith, below) }
    by false is = record { least = omega arith; most = omega (arith, below) }

-- how many bytes there are, by what begins
abbrev Count : (a b c : Bool) → ℕ
Count a b c = if a then 1 else if b then 2 else if c then 3 else 0

-- three facts of a text that begins with nothing that steers
record Starts (text : List ℕ) : Type 0 where
  control : begins_control text ≡ false
  pair : begins_pair text ≡ false
  triple : begins_triple text ≡ false

starts : (text : List ℕ) → steering text ≡ 0 → Starts text
starts text is = by (begins_control text) (begins_pair text) (begins_triple text) refl refl refl is
  where
    by : (a b c : Bool) → begins_control text ≡ a → begins_pair text ≡ b → begins_triple text ≡ c →
        Count a b c ≡ 0 → Starts text
    by false false false h g k is = record { control = h; pair = g; triple = k }
    by true b c h g k is = absurd (omega (arith, is))
    by false true c h g k is = absurd (omega (arith, is))
    by false false true h g k is = absurd (omega (arith, is))

-- ---- a byte by its number

plain_then : (b : ℕ) (rest : List ℕ) → IsPlain b → HasNoControl rest → HasNoControl (b ∷ rest)
plain_then b rest h g = (plain_starts b rest h, g)

plain : (b : ℕ) → 32 ≤ b → b < 127 → IsPlain b
plain b h g = record { least = h; most = g }

slash_then : (more : List ℕ) → HasNoControl more → HasNoControl (92 ∷ more)
slash_then more g = plain_then 92 more (plain 92 (omega arith) (omega arith)) g

hex_then : (b : ℕ) (rest : List ℕ) → HasNoControl rest → HasNoControl (hex b ++ rest)
hex_then b rest h =
    plain_then (hex_digit (b / 16 % 16)) (hex_digit (b % 16) ∷ rest) (plain_digit (b / 16 % 16) (mod_below (b / 16) 16 (omega arith)))
    (plain_then (hex_digit (b % 16)) rest (plain_digit (b % 16) (mod_below b 16 (omega arith))) h)

numbered_then : (b : ℕ) (rest : List ℕ) → HasNoControl rest → HasNoControl (numbered b ++ rest)
numbered_then b rest h = by (b == 10)
  where
    by : (c : Bool) → HasNoControl ((if c then codes "\\n" else codes "\\x" ++ hex b) ++ rest)
    by true = slash_then (110 ∷ rest) (plain_then 110 rest (plain 110 (omega arith) (omega arith)) h)
    by false =
        slash_then (120 ∷ (hex b ++ rest)) (plain_then 120 (hex b ++ rest) (plain 120 (omega arith) (omega arith)) (hex_then b rest h))

-- ---- a byte as it is

pair_by : (b c n : ℕ) (rest : List ℕ) → is_pair b c ≡ false → begins_pair (b ∷ (byte_text n c ++ rest)) ≡ false
pair_by b c n rest h = by (n == 0) (c == 10)
  where
    by : (q r : Bool) →
        begins_pair (b ∷ ((if q then c ∷ [] else (if r then codes "\\n" else codes "\\x" ++ hex c)) ++ rest)) ≡ false
    by true r = h
    by false true = refl
    by false false = refl

pair_stays : (b : ℕ) (bs : List ℕ) → begins_pair (b ∷ bs) ≡ false → begins_pair (b ∷ escaped_from 0 bs) ≡ false
pair_stays b [] h = refl
pair_stays b (c ∷ cs) h = pair_by b c (steering (c ∷ cs)) (escaped_from (steering (c ∷ cs) - 1) cs) h

third_by : (b c d n : ℕ) (rest : List ℕ) → is_triple b c d ≡ false → begins_triple (b ∷ c ∷ (byte_text n d ++ rest)) ≡ false
third_by b c d n rest h = by (n == 0) (d == 10)
  where
    slash : is_triple b c 92 ≡ false
    slash = grind (arith, nat_tests)

    by : (q r : Bool) →
        begins_triple (b ∷ c ∷ ((if q then d ∷ [] else (if r then codes "\\n" else codes "\\x" ++ hex d)) ++ rest)) ≡ false
    by true r = h
    by false true = slash
    by false false = slash

third_stays : (b c : ℕ) (cs : List ℕ) → begins_triple (b ∷ c ∷ cs) ≡ false → begins_triple (b ∷ c ∷ escaped_from 0 cs) ≡ false
third_stays b c [] h = refl
third_stays b c (d ∷ ds) h = third_by b c d (steering (d ∷ ds)) (escaped_from (steering (d ∷ ds) - 1) ds) h

second_by : (b c n : ℕ) (cs : List ℕ) → begins_triple (b ∷ c ∷ cs) ≡ false →
    begins_triple (b ∷ (byte_text n c ++ escaped_from (n - 1) cs)) ≡ false
second_by b c n cs h = by (n == 0) (c == 10) refl
  where
    slash : (x : ℕ) → is_triple b 92 x ≡ false
    slash x = grind (arith, nat_tests)

    by : (q r : Bool) → (n == 0) ≡ q →
        begins_triple (b ∷ ((if q then c ∷ [] else (if r then codes "\\n" else codes "\\x" ++ hex c)) ++ escaped_from (n - 1) cs)) ≡ false
    by true r is = ap (λ m. begins_triple (b ∷ c ∷ escaped_from (m - 1) cs)) (eqb-true n 0 is) ∙ third_stays b c cs h
    by false true is = slash 110
    by false false is = slash 120

triple_stays : (b : ℕ) (bs : List ℕ) → begins_triple (b ∷ bs) ≡ false → begins_triple (b ∷ escaped_from 0 bs) ≡ false
triple_stays b [] h = refl
triple_stays b (c ∷ cs) h = second_by b c (steering (c ∷ cs)) cs h

none : (a p t : Bool) → a ≡ false → p ≡ false → t ≡ false → Count a p t ≡ 0
none a p t h g k = ap (λ c. Count c p t) h ∙ ap (λ c. Count false c t) g ∙ ap (Count false false) k

raw_starts : (b : ℕ) (bs : List ℕ) → steering (b ∷ bs) ≡ 0 → steering (b ∷ escaped_from 0 bs) ≡ 0
raw_starts b bs is =
    let s = starts (b ∷ bs) is in
    none (is_control b) (begins_pair (b ∷ escaped_from 0 bs)) (begins_triple (b ∷ escaped_from 0 bs)) s.control (pair_stays b bs s.pair)
    (triple_stays b bs s.triple)

-- ---- whole names

settled : (left s : ℕ) → (if left == 0 then s else left) ≡ 0 → s ≡ 0
settled left s h = by (left == 0) refl h
  where
    by : (q : Bool) → (left == 0) ≡ q → (if q then s else left) ≡ 0 → s ≡ 0
    by true at h = h
    by false at h = absurd (grind (arith, nat_tests, at, h))

one_step : (n b : ℕ) (bs : List ℕ) → (n ≡ 0 → steering (b ∷ bs) ≡ 0) → HasNoControl (escaped_from (n - 1) bs) →
    HasNoControl (byte_text n b ++ escaped_from (n - 1) bs)
one_step n b bs raw rest = by (n == 0) refl
  where
    by : (q : Bool) → (n == 0) ≡ q → HasNoControl ((if q then b ∷ [] else numbered b) ++ escaped_from (n - 1) bs)
    by true is =
        let at : n ≡ 0 = eqb-true n 0 is in
        (ap (λ m. steering (b ∷ escaped_from (m - 1) bs)) at ∙ raw_starts b bs (raw at), rest)
    by false is = numbered_then b (escaped_from (n - 1) bs) rest

no_control_from : (left : ℕ) (name : List ℕ) → HasNoControl (escaped_from left name)
no_control_from left [] = tt
no_control_from left (b ∷ bs) =
    one_step (pending left (b ∷ bs)) b bs (settled left (steering (b ∷ bs))) (no_control_from (pending left (b ∷ bs) - 1) bs)

pub no_control : (name : List ℕ) → HasNoControl (escaped name)
no_control name = no_control_from 0 name

pub plain_stays : (name : List ℕ) → HasNoControl name → escaped name ≡ name
plain_stays [] h = refl
plain_stays (b ∷ bs) h = ap (λ n. byte_text n b ++ escaped_from (n - 1) bs) h.0 ∙ ap (λ l. b ∷ l) (plain_stays bs h.1)

-- a text without such characters has no control byte
pub control_free : (b : ℕ) (bs : List ℕ) → steering (b ∷ bs) ≡ 0 → is_control b ≡ false
control_free b bs is = let s = starts (b ∷ bs) is in s.control

-- ---- how far a name is written

-- the first byte, and those behind it
pub escaped_first : (left b : ℕ) (text rest : List ℕ) → 0 < length text → b ≡ get_or text 0 0 → rest ≡ drop 1 text →
    escaped_from left text ≡ byte_text (pending left text) b ++ escaped_from (pending left text - 1) rest
escaped_first left b [] rest some is behind = absurd (omega (arith, some))
escaped_first left b (x ∷ xs) rest some is behind =
    let n = pending left (x ∷ xs) in
    ap (λ y. byte_text n y ++ escaped_from (n - 1) xs) (sym is) ∙ ap (λ l. byte_text n b ++ escaped_from (n - 1) l) (sym behind)

-- the same of equal numbers
pub one_more : (left count b next : ℕ) (text rest : List ℕ) → 0 < length text → count ≡ pending left text → b ≡ get_or text 0 0 →
    next ≡ count - 1 → rest ≡ drop 1 text → escaped_from left text ≡ byte_text count b ++ escaped_from next rest
one_more left count b next text rest some counted is one behind =
    escaped_first left b text rest some is behind ∙ ap (λ n. byte_text n b ++ escaped_from (n - 1) rest) (sym counted)
    ∙ ap (λ n. byte_text count b ++ escaped_from n rest) (sym one)
