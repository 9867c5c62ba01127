-- The text of facts has the ends of its lines, and no others: so a front of whole lines is the text of the first facts.
use Rattle.std.proofs.Common.{◌≡◌, ◌∙◌, ◌+◌, ◌-◌, ◌<◌, ◌≤◌, ◌^◌, ◌%◌, ◌++◌, ◌∷◌, [], true, false, Bool, List, ℕ, zero, suc, ap, append-nil}
use Rattle.std.proofs.Common.{arith, decimal, drop}
use Rattle.std.proofs.Common.{append_assoc, get_or, inl, inr, length, refl, subst, sym, take}
use Rattle.std.specs.Prelude.{◌⊎◌, negsuc, pos}
use Rattle.std.proofs.lemmas.Bool.{cases_eq, cases_lt, ne_eqb}
use Rattle.std.proofs.lemmas.Fmt.{decimal_by_steps}
use Rattle.std.proofs.lemmas.List.{drop_all, drop_at, get_or_append_left, length-append, length-take-le, take-append-drop, take-take}
use Rattle.std.proofs.lemmas.List.{take_all, take_at}
use Rattle.json.specs.Print.{escape, escape_byte, quoted}
use Rattle.json.proofs.Printed.Strings.{escape_byte_plain}
use Rattle.json.specs.Text.{code_unit, short_escape}
use Rattle.serde_json.specs.Data.{unsigned, negative, float, Data, null, boolean, number, string, array, object, Items, no_items, item}
use Rattle.serde_json.specs.Data.{Members}
use Rattle.serde_json.specs.Data.{no_members, member}
use Rattle.serde_json.specs.Written.{comma_if, compact_text, items_text, members_text}
use Rattle.json_texts.proofs.Json.{json_lines-append}
use Rattle.json_texts.specs.Lines.{json_line, json_lines}
use Rattle.pages.specs.Cut.{IsLastLine}
use Rattle.pages.specs.Facts.{BeginsLine, line_count, line_end}
use Rattle.pages.proofs.Integers.{AreRead, EachOfItems, EachOfMembers, HasIntegers, IsInteger}
use Rattle.pages.proofs.Strings.{Each, each_sound}

pub line_count-append : (a b : List ℕ) → line_count (a ++ b) ≡ line_count a + line_count b
line_count-append [] b = omega arith
line_count-append (x ∷ a) b = let e = line_count-append a b in omega (arith, e)

-- ---- no line ends within the text of a fact

controls : Each (λ x. line_count (escape_byte x) ≡ 0) 32
unfolding escape_byte code_unit short_escape
controls = (
  refl,
  (
    refl,
    (
      refl,
      (
        refl,
        (
          refl,
          (
            refl,
            (
              refl,
              (
                refl,
                (
                  refl,
                  (
                    refl,
                    (
                      refl,
                      (
                        refl,
                        (
                          refl,
                          (
                            refl,
                            (
                              refl,
                              (
                                refl,
                                (
                                  refl,
                                  (
                                    refl,
                                    (
                                      refl,
                                      (
                                        refl,
                                        (
                                          refl,
                                          (
                                            refl,
                                            (
                                              refl,
                                              (
                                                refl,
                                                (
                                                  refl,
                                                  (
                                                    refl,
                                                    (
                                                      refl,
                                                      (
                                                        refl,
                                                        (
                                                          refl,
                                                          (
                                                            refl,
                                                            (
                                                              refl,
                                                              (
                                                                refl,
                                                                tt,
                                                              ),
                                                            ),
                                                          ),
                                                        ),
                                                      ),
                                                    ),
                                                  ),
                                                ),
                                              ),
                                            ),
                                          ),
                                        ),
                                      ),
                                    ),
                                  ),
                                ),
                              ),
                            ),
                          ),
                        ),
                      ),
                    ),
                  ),
                ),
              ),
            ),
          ),
        ),
      ),
    ),
  ),
)

quote_stays : line_count (escape_byte 34) ≡ 0
unfolding escape_byte
quote_stays = refl

backslash_stays : line_count (escape_byte 92) ≡ 0
unfolding escape_byte
backslash_stays = refl

plain_byte : (x : ℕ) → (x ≡ 10 → ⊥) → line_count (x ∷ []) ≡ 0
plain_byte x n = rw (ne_eqb x 10 n) refl

byte_stays : (x : ℕ) → line_count (escape_byte x) ≡ 0
byte_stays x = by (cases_eq x 34) (cases_eq x 92) (cases_lt x 32) where
  by : (x ≡ 34) ⊎ (x ≡ 34 → ⊥) → (x ≡ 92) ⊎ (x ≡ 92 → ⊥) → (x < 32) ⊎ (32 ≤ x) → line_count (escape_byte x) ≡ 0
  by (inl e) b c = ap (λ x. line_count (escape_byte x)) e ∙ quote_stays
  by (inr q) (inl e) c = ap (λ x. line_count (escape_byte x)) e ∙ backslash_stays
  by (inr q) (inr b) (inl c) = each_sound (λ x. line_count (escape_byte x) ≡ 0) 32 controls x c
  by (inr q) (inr b) (inr l) = ap line_count (escape_byte_plain x q b l) ∙ plain_byte x (λ e. omega (arith, e, l))

escape_stays : (s : List ℕ) → line_count (escape s) ≡ 0
escape_stays [] = refl
escape_stays (x ∷ s) =
    let a = line_count-append (escape_byte x) (escape s) in let b = byte_stays x in let c = escape_stays s in omega (arith, a, b, c)

quoted_stays : (s : List ℕ) → line_count (quoted s) ≡ 0
quoted_stays s = let a = line_count-append (escape s) (34 ∷ []) in let b = escape_stays s in omega (arith, a, b)

digit_stays : (n : ℕ) → n < 10 → line_count ((48 + n) ∷ []) ≡ 0
digit_stays n below = plain_byte (48 + n) (λ e. omega (arith, e))

decimal_stays : (n : ℕ) → n < 2 ^ 64 → line_count (decimal n) ≡ 0
decimal_stays = decimal_by_steps (λ n ds. line_count ds ≡ 0) digit_stays
    (λ n ds low h. let a = line_count-append ds ((48 + n % 10) ∷ []) in let b = digit_stays (n % 10) (omega arith) in omega
    (arith, a, b, h))

comma_stays : (later : Bool) → line_count (comma_if later) ≡ 0
comma_stays true = refl
comma_stays false = refl

mutual
  stays : (d : Data) → HasIntegers d → line_count (compact_text d) ≡ 0
  stays null h = refl
  stays (boolean true) h = refl
  stays (boolean false) h = refl
  stays (number (unsigned n)) h = decimal_stays n h
  stays (number (negative (pos n))) h = absurd h
  stays (number (negative (negsuc n))) h = let a = decimal_stays (suc n) (omega (arith, h)) in omega (arith, a)
  stays (number (float x)) h = absurd h
  stays (string s) h = quoted_stays s
  stays (array ds) h = let a = items_stay false ds h in omega (arith, a)
  stays (object ms) h = let a = members_stay false ms h in omega (arith, a)

  items_stay : (later : Bool) (ds : Items) → EachOfItems IsInteger ds → line_count (items_text later ds) ≡ 0
  items_stay later no_items h = refl
  items_stay later (item d ds) h =
      let a = line_count-append (comma_if later) (compact_text d ++ items_text true ds) in
      let b = line_count-append (compact_text d) (items_text true ds) in
      let c = comma_stays later in let e = stays d h.0 in let f = items_stay true ds h.1 in omega (arith, a, b, c, e, f)

  members_stay : (later : Bool) (ms : Members) → EachOfMembers IsInteger ms → line_count (members_text later ms) ≡ 0
  members_stay later no_members h = refl
  members_stay later (member k d ms) h =
      let a = line_count-append (comma_if later) (quoted k ++ 58 ∷ (compact_text d ++ members_text true ms)) in
      let b = line_count-append (quoted k) (58 ∷ (compact_text d ++ members_text true ms)) in
      let g = line_count-append (compact_text d) (members_text true ms) in
      let c = comma_stays later in let q = quoted_stays k in let e = stays d h.0 in let f = members_stay true ms h.1 in
      omega (arith, a, b, g, c, q, e, f)

line_ends : (d : Data) → HasIntegers d → line_count (json_line d) ≡ 1
line_ends d h = let a = line_count-append (compact_text d) (10 ∷ []) in let b = stays d h in omega (arith, a, b)

pub lines_end : (ds : List Data) → AreRead ds → line_count (json_lines ds) ≡ length ds
lines_end [] h = refl
lines_end (d ∷ ds) h =
    let a = line_count-append (json_line d) (json_lines ds) in let b = line_ends d h.0.0 in let c = lines_end ds h.1 in
    omega (arith, a, b, c)

pub first_told : (k : ℕ) (ds : List Data) → AreRead ds → AreRead (take k ds)
first_told zero ds h = tt
first_told (suc k) [] h = tt
first_told (suc k) (d ∷ ds) h = (h.0, first_told k ds h.1)

-- ---- places behind a front

take_past : {X : Type 0} (c r : List X) (n j : ℕ) → n ≡ length c + j → take n (c ++ r) ≡ c ++ take j r
take_past [] r n j e = ap (λ n. take n r) (let i : n ≡ j = omega (arith, e) in i)
take_past (x ∷ c) r zero j e = absurd (omega (arith, e))
take_past (x ∷ c) r (suc n) j e = ap (λ l. x ∷ l) (take_past c r n j (omega (arith, e)))

pub drop_past : {X : Type 0} (c r : List X) (n j : ℕ) → n ≡ length c + j → drop n (c ++ r) ≡ drop j r
drop_past [] r n j e = ap (λ n. drop n r) (let i : n ≡ j = omega (arith, e) in i)
drop_past (x ∷ c) r zero j e = absurd (omega (arith, e))
drop_past (x ∷ c) r (suc n) j e = drop_past c r n j (omega (arith, e))

get_past : (c r : List ℕ) (n j : ℕ) → n ≡ length c + j → get_or (c ++ r) n 0 ≡ get_or r j 0
get_past [] r n j e = ap (λ n. get_or r n 0) (let i : n ≡ j = omega (arith, e) in i)
get_past (x ∷ c) r zero j e = absurd (omega (arith, e))
get_past (x ∷ c) r (suc n) j e = get_past c r n j (omega (arith, e))

ten : line_end 10 ≡ 1
ten = refl

-- no line ends inside what has no line's end
inside : (c r : List ℕ) (at : ℕ) → at < length c → line_count c ≡ 0 → get_or (c ++ r) at 0 ≡ 10 → ⊥
inside [] r at l h e = omega (arith, l)
inside (x ∷ c) r zero l h e = let t = ap line_end e ∙ ten in omega (arith, t, h)
inside (x ∷ c) r (suc at) l h e = inside c r at (omega (arith, l)) (omega (arith, h)) e

-- ---- a front of whole lines

-- the first k facts, and those behind them
pub record IsCutAt (facts : List Data) (kept k : ℕ) : Type 0 where
  pub within : k ≤ length facts
  pub front : take kept (json_lines facts) ≡ json_lines (take k facts)
  pub back : drop kept (json_lines facts) ≡ json_lines (drop k facts)

begins_behind : (line r : List ℕ) (kept j : ℕ) → kept ≡ length line + j → BeginsLine (line ++ r) kept → BeginsLine r j
begins_behind line r kept zero e b = tt
begins_behind line r zero (suc i) e b = absurd (omega (arith, e))
begins_behind line r (suc at) (suc i) e b = sym (get_past line r at i (omega (arith, e))) ∙ b

one_more : (d : Data) (ds : List Data) (kept j k : ℕ) → kept ≡ length (json_line d) + j → IsCutAt ds j k → IsCutAt (d ∷ ds) kept (suc k)
one_more d ds kept j k e c = record {
  within = let l = c.within in omega (arith, l);
  front = take_past (json_line d) (json_lines ds) kept j e ∙ ap (λ l. json_line d ++ l) c.front;
  back = drop_past (json_line d) (json_lines ds) kept j e ∙ c.back;
}

-- inside a line no line begins
not_inside : (d : Data) (ds : List Data) (at : ℕ) → HasIntegers d → BeginsLine (json_lines (d ∷ ds)) (suc at) → suc at < length
    (json_line d) → ⊥
not_inside d ds at h b l =
    let e = length-append (compact_text d) (10 ∷ []) in
    inside (compact_text d) (10 ∷ json_lines ds) at (omega (arith, e, l)) (stays d h)
    (ap (λ t. get_or t at 0) (sym (append_assoc (compact_text d) (10 ∷ []) (json_lines ds))) ∙ b)

pub cut_at : (facts : List Data) (kept : ℕ) → AreRead facts → BeginsLine (json_lines facts) kept → kept ≤ length (json_lines facts) →
    (k : ℕ) × IsCutAt facts kept k
cut_at facts zero h b l = (0, record { within = omega arith; front = refl; back = refl })
cut_at [] (suc at) h b l = absurd (omega (arith, l))
cut_at (d ∷ ds) (suc at) h b l = by (cut_at ds j h.1) (cases_lt (suc at) (length (json_line d))) where
  j : ℕ
  j = suc at - length (json_line d)

  by : (BeginsLine (json_lines ds) j → j ≤ length (json_lines ds) → (k : ℕ) × IsCutAt ds j k) →
      (suc at < length (json_line d)) ⊎ (length (json_line d) ≤ suc at) → (k : ℕ) × IsCutAt (d ∷ ds) (suc at) k
  by rest (inl i) = absurd (not_inside d ds at h.0.0 b i)
  by rest (inr i) =
      let e : suc at ≡ length (json_line d) + j = omega (arith, i) in
      let s = length-append (json_line d) (json_lines ds) in
      let r = rest (begins_behind (json_line d) (json_lines ds) (suc at) j e b) (omega (arith, s, l, i)) in
      (suc r.0, one_more d ds (suc at) j r.0 e r.1)

-- ---- where lines begin

-- a line that begins behind another, or right at its end
begins_past : (line r : List ℕ) (n j : ℕ) → n ≡ length line + j → (j ≡ 0 → BeginsLine (line ++ r) n) → BeginsLine r j → BeginsLine
    (line ++ r) n
begins_past line r zero j e z b = tt
begins_past line r (suc at) zero e z b = z refl
begins_past line r (suc at) (suc i) e z b = get_past line r at i (omega (arith, e)) ∙ b

line_begins : (c r : List ℕ) (n : ℕ) → n ≡ length (c ++ 10 ∷ []) → BeginsLine ((c ++ 10 ∷ []) ++ r) n
line_begins c r zero e = tt
line_begins c r (suc at) e =
    let l = length-append c (10 ∷ []) in
    ap (λ t. get_or t at 0) (append_assoc c (10 ∷ []) r) ∙ get_past c (10 ∷ r) at 0 (omega (arith, e, l))

-- behind all lines one may begin
pub whole_begins : (ds : List Data) → BeginsLine (json_lines ds) (length (json_lines ds))
whole_begins [] = tt
whole_begins (d ∷ ds) =
    let l = length-append (json_line d) (json_lines ds) in
    begins_past (json_line d) (json_lines ds) (length (json_lines (d ∷ ds))) (length (json_lines ds)) l
    (λ z. line_begins (compact_text d) (json_lines ds) (length (json_lines (d ∷ ds))) (omega (arith, l, z))) (whole_begins ds)

begins_still : (a r : List ℕ) (n : ℕ) → n ≤ length a → BeginsLine a n → BeginsLine (a ++ r) n
begins_still a r zero l b = tt
begins_still a r (suc at) l b = get_or_append_left a r 0 at (omega (arith, l)) ∙ b

-- ---- all, and the last of all

pub all_at : (facts : List Data) (kept : ℕ) → length (json_lines facts) ≤ kept → IsCutAt facts kept (length facts)
all_at facts kept over = record {
  within = omega arith;
  front = take_all kept (json_lines facts) over ∙ ap json_lines (sym (take_all (length facts) facts (omega arith)));
  back = drop_all kept (json_lines facts) over ∙ ap json_lines (sym (drop_all (length facts) facts (omega arith)));
}

module _ (before : List Data) (last : Data) where
  pub last_at : IsCutAt (before ++ last ∷ []) (length (json_lines before)) (length before)
  last_at =
      let whole = json_lines-append before (last ∷ []) in
      let l = length-append before (last ∷ []) in
      record {
        within = omega (arith, l);
        front =
            ap (take (length (json_lines before))) whole
            ∙ take_at (json_lines before) (json_lines (last ∷ [])) (length (json_lines before)) refl
            ∙ ap json_lines (sym (take_at before (last ∷ []) (length before) refl));
        back =
            ap (drop (length (json_lines before))) whole
            ∙ drop_at (json_lines before) (json_lines (last ∷ [])) (length (json_lines before)) refl
            ∙ ap json_lines (sym (drop_at before (last ∷ []) (length before) refl));
      }

  pub last_begins : BeginsLine (json_lines (before ++ last ∷ [])) (length (json_lines before))
  last_begins =
      subst (λ t. BeginsLine t (length (json_lines before))) (sym (json_lines-append before (last ∷ [])))
      (begins_still (json_lines before) (json_lines (last ∷ [])) (length (json_lines before)) (omega arith) (whole_begins before))

  pub last_length : length (json_lines (before ++ last ∷ [])) ≡ length (json_lines before) + length (json_line last)
  last_length =
      let l = length-append (json_lines before) (json_lines (last ∷ [])) in
      let m = length-append (json_line last) [] in
      let whole = ap length (json_lines-append before (last ∷ [])) in
      omega (arith, whole, l, m)

  -- behind it no line begins
  pub last_alone : HasIntegers last → IsLastLine (json_lines (before ++ last ∷ [])) (length (json_lines before))
  last_alone h n past below b =
      by (n - length (json_lines before)) (omega (arith, past)) (subst (λ t. BeginsLine t n) (json_lines-append before (last ∷ [])) b)
    where
      by : (j : ℕ) → n ≡ length (json_lines before) + j → BeginsLine (json_lines before ++ json_lines (last ∷ [])) n → ⊥
      by zero e b = omega (arith, e, past)
      by (suc i) e b =
          let whole = last_length in
          not_inside last [] i h (begins_behind (json_lines before) (json_lines (last ∷ [])) n (suc i) e b) (omega (arith, whole, e, below))

  pub last_line : drop (length (json_lines before)) (json_lines (before ++ last ∷ [])) ≡ json_line last
  last_line =
      ap (drop (length (json_lines before))) (json_lines-append before (last ∷ []))
      ∙ drop_at (json_lines before) (json_lines (last ∷ [])) (length (json_lines before)) refl ∙ append-nil (json_line last)

-- a place before another has no more facts before it
pub ordered : (facts : List Data) (from to a k : ℕ) → AreRead facts → IsCutAt facts from a → IsCutAt facts to k → from ≤ to → a ≤ k
ordered facts from to a k told first last order =
    let t = take to (json_lines facts) in
    let within : a ≤ length facts = first.within in
    let inside : k ≤ length facts = last.within in
    let firsts : line_count (take from (json_lines facts)) ≡ a =
    ap line_count first.front ∙ lines_end (take a facts) (first_told a facts told) ∙ length-take-le a facts within in
    let lasts : line_count t ≡ k =
    ap line_count last.front ∙ lines_end (take k facts) (first_told k facts told) ∙ length-take-le k facts inside in
    let split : line_count t ≡ line_count (take from t) + line_count (drop from t) =
    ap line_count (sym (take-append-drop from t)) ∙ line_count-append (take from t) (drop from t) in
    let same = ap line_count (take-take from to (json_lines facts) order) in
    omega (arith, firsts, lasts, split, same)
