-- How far the facts were looked at, from their end, for the last lines that have room.
use Rattle.std.proofs.Common.{◌≡◌, ◌<◌, ◌≤◌, ◌+◌, ◌-◌, ◌++◌, ◌∙◌, List, ℕ, true, false, Bool, ap, arith, drop, get_or, length}
use Rattle.std.proofs.Common.{length-append, refl, sym}
use Rattle.std.proofs.Common.{subst, take, inl, inr}
use Rattle.std.proofs.lemmas.List.{drop_all, drop-drop, take-append-drop}
use Rattle.std.specs.Prelude.{◌⊎◌}
use Rattle.pages.specs.Cut.{AreLast, IsBack, IsLastLine, half, limit, room}
use Rattle.pages.specs.Facts.{BeginsLine, embedded, embedded_byte, width}
use Rattle.pages.proofs.Embedding.{embedded-append, embedded_at}

-- the size of the last bytes, and of one more
pub sized_before : (facts : List ℕ) (at d : ℕ) → at < length facts →
    length (embedded (drop at facts)) ≡ width (get_or facts at d) + length (embedded (drop (at + 1) facts))
sized_before facts at d below =
    ap length (embedded_at facts at d below) ∙ length-append (embedded_byte (get_or facts at d)) (embedded (drop (at + 1) facts))

-- fewer bytes have no larger size
pub shrinks : (facts : List ℕ) (a n : ℕ) → a ≤ n → length (embedded (drop n facts)) ≤ length (embedded (drop a facts))
shrinks facts a n le =
    let behind = drop a facts in
    let k = n - a in
    let whole : take k behind ++ drop k behind ≡ behind = take-append-drop k behind in
    let is : drop k behind ≡ drop n facts = drop-drop k a facts ∙ ap (λ m. drop m facts) (let e : a + k ≡ n = omega (arith, le) in e) in
    let sizes : length (embedded behind) ≡ length (embedded (take k behind)) + length (embedded (drop k behind)) =
    ap (λ l. length (embedded l)) (sym whole) ∙ ap length (embedded-append (take k behind) (drop k behind))
    ∙ length-append (embedded (take k behind)) (embedded (drop k behind)) in
    let same : length (embedded (drop k behind)) ≡ length (embedded (drop n facts)) = ap (λ l. length (embedded l)) is in
    omega (arith, sizes, same)

-- of the last bytes from `at` on, the whole lines
pub record Tailing (facts : List ℕ) (at size whole taken : ℕ) : Type 0 where
  pub below : at ≤ whole
  pub inside : whole ≤ length facts
  pub sized : size ≡ length (embedded (drop at facts))
  pub little : size ≤ room
  pub counted : taken ≡ length (embedded (drop whole facts))
  pub few : (length (embedded (drop whole facts)) ≤ half) ⊎ IsLastLine facts whole
  pub begins : whole < length facts → BeginsLine facts whole
  pub passed : (n : ℕ) → at ≤ n → n < length facts → BeginsLine facts n → whole ≤ n

pub tailing_none : (facts : List ℕ) → Tailing facts (length facts) 0 (length facts) 0
tailing_none facts =
    let none : 0 ≡ length (embedded (drop (length facts) facts)) =
    sym (ap (λ l. length (embedded l)) (drop_all (length facts) facts (omega arith))) in
    record {
      below = omega arith;
      inside = omega arith;
      sized = none;
      little = omega arith;
      counted = none;
      few = inl (omega (arith, none));
      begins = λ h. absurd (omega (arith, h));
      passed = λ n le lt b. absurd (omega (arith, le, lt));
    }

fits_still : (facts : List ℕ) (at size whole taken : ℕ) → Tailing facts at size whole taken → length (embedded (drop whole facts)) ≤ room
fits_still facts at size whole taken c =
    let far = shrinks facts at whole c.below in
    let sized : size ≡ length (embedded (drop at facts)) = c.sized in
    let little : size ≤ room = c.little in
    omega (arith, far, sized, little)

-- all was looked at
pub tailing_over : (facts : List ℕ) (size whole taken : ℕ) → Tailing facts 0 size whole taken → IsBack facts whole
tailing_over facts size whole taken c = record {
  within = c.inside;
  begins = c.begins;
  fits = fits_still facts 0 size whole taken c;
  few = c.few;
  most = λ n h. c.passed n (omega arith) h.within h.begins;
  last = λ n h alone. c.passed n (omega arith) h.within h.begins;
}

limit_most : (has_line : Bool) → half ≤ limit has_line
limit_most true = omega arith
limit_most false = omega arith

-- the byte before `at` has no room any more
pub tailing_full : (facts : List ℕ) (before size whole taken d : ℕ) (has_line : Bool) → Tailing facts (before + 1) size whole taken →
    limit has_line < size + width (get_or facts before d) → (has_line ≡ false → whole ≡ length facts) →
    (has_line ≡ true → whole < length facts) →
    IsBack facts whole
tailing_full facts before size whole taken d has_line c full none some = record {
  within = c.inside;
  begins = c.begins;
  fits = fits_still facts (before + 1) size whole taken c;
  few = c.few;
  most = λ n h. by_most n h (split n);
  last = λ n h alone. by_last has_line refl n h alone (split n);
}
  where
    split : (n : ℕ) → (n ≤ before) ⊎ (before + 1 ≤ n)
    split n = search arith

    too_many : (n : ℕ) → n ≤ before → limit has_line < length (embedded (drop n facts))
    too_many n le =
        let below : before + 1 ≤ whole = c.below in
        let inside : whole ≤ length facts = c.inside in
        let more = sized_before facts before d (omega (arith, below, inside)) in
        let far = shrinks facts n before le in
        let sized : size ≡ length (embedded (drop (before + 1) facts)) = c.sized in
        omega (arith, more, far, sized, full)

    by_most : (n : ℕ) → AreLast facts half n → (n ≤ before) ⊎ (before + 1 ≤ n) → whole ≤ n
    by_most n h (inr ge) = c.passed n ge h.within h.begins
    by_most n h (inl le) =
        let fits : length (embedded (drop n facts)) ≤ half = h.fits in
        let most = limit_most has_line in let many = too_many n le in absurd (omega (arith, fits, most, many))

    by_last : (b : Bool) → has_line ≡ b → (n : ℕ) → AreLast facts room n → IsLastLine facts n → (n ≤ before) ⊎ (before + 1 ≤ n) → whole ≤ n
    by_last b is n h alone (inr ge) = c.passed n ge h.within h.begins
    by_last true is n h alone (inl le) =
        let below : before + 1 ≤ whole = c.below in
        absurd (alone whole (omega (arith, below, le)) (some is) (c.begins (some is)))
    by_last false is n h alone (inl le) =
        let fits : length (embedded (drop n facts)) ≤ room = h.fits in
        let most : limit has_line ≡ room = ap limit is in let many = too_many n le in absurd (omega (arith, fits, most, many))

room_most : (has_line : Bool) → limit has_line ≤ room
room_most true = omega arith
room_most false = omega arith

-- a line begins in that byte
pub tailing_line : (facts : List ℕ) (before size whole taken d : ℕ) (has_line : Bool) → Tailing facts (before + 1) size whole taken →
    size + width (get_or facts before d) ≤ limit has_line → (has_line ≡ false → whole ≡ length facts) → BeginsLine facts before →
    Tailing facts before (size + width (get_or facts before d)) before (size + width (get_or facts before d))
tailing_line facts before size whole taken d has_line c little over b =
    let below : before + 1 ≤ whole = c.below in
    let inside : whole ≤ length facts = c.inside in
    let more = sized_before facts before d (omega (arith, below, inside)) in
    let sized : size ≡ length (embedded (drop (before + 1) facts)) = c.sized in
    let most = room_most has_line in
    record {
      below = omega arith;
      inside = omega (arith, below, inside);
      sized = omega (arith, more, sized);
      little = omega (arith, little, most);
      counted = omega (arith, more, sized);
      few = few has_line refl;
      begins = λ h. b;
      passed = λ n le lt h. le;
    }
  where
    few : (b : Bool) → has_line ≡ b → (length (embedded (drop before facts)) ≤ half) ⊎ IsLastLine facts before
    few true is =
        let below : before + 1 ≤ whole = c.below in
        let inside : whole ≤ length facts = c.inside in
        let more = sized_before facts before d (omega (arith, below, inside)) in
        let sized : size ≡ length (embedded (drop (before + 1) facts)) = c.sized in
        let most : limit has_line ≡ half = ap limit is in inl (omega (arith, more, sized, most, little))
    few false is = inr (λ n past lt h. let far = c.passed n (omega (arith, past)) lt h in let end = over is in omega (arith, far, end, lt))

-- and none begins there
pub tailing_on : (facts : List ℕ) (before size whole taken d : ℕ) (has_line : Bool) → Tailing facts (before + 1) size whole taken →
    size + width (get_or facts before d) ≤ limit has_line → (BeginsLine facts before → ⊥) →
    Tailing facts before (size + width (get_or facts before d)) whole taken
tailing_on facts before size whole taken d has_line c little none =
    let below : before + 1 ≤ whole = c.below in
    let inside : whole ≤ length facts = c.inside in
    let more = sized_before facts before d (omega (arith, below, inside)) in
    let sized : size ≡ length (embedded (drop (before + 1) facts)) = c.sized in
    let most = room_most has_line in
    record {
      below = omega (arith, below);
      inside = inside;
      sized = omega (arith, more, sized);
      little = omega (arith, little, most);
      counted = c.counted;
      few = c.few;
      begins = c.begins;
      passed = λ n le lt h. by n lt h (split n le);
    }
  where
    split : (n : ℕ) → before ≤ n → (before + 1 ≤ n) ⊎ (before ≡ n)
    split n le = search (arith, le)

    by : (n : ℕ) → n < length facts → BeginsLine facts n → (before + 1 ≤ n) ⊎ (before ≡ n) → whole ≤ n
    by n lt h (inl ge) = c.passed n ge lt h
    by n lt h (inr is) = absurd (none (subst (BeginsLine facts) (sym is) h))
