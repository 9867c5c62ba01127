-- How far the facts were looked at for the first lines that have room beside the last ones.
use Rattle.std.proofs.Common.{◌≡◌, ◌<◌, ◌≤◌, ◌+◌, ◌++◌, ◌∷◌, ◌∙◌, [], List, ℕ, suc, add-one, ap, arith, drop, get_or, length}
use Rattle.std.proofs.Common.{length-append, refl, subst, sym, take, inl, inr}
use Rattle.std.proofs.lemmas.List.{append-nil, take-append-drop, take_more, take-take}
use Rattle.std.specs.Prelude.{◌⊎◌, slice_index}
use Rattle.pages.specs.Cut.{room}
use Rattle.pages.specs.Facts.{BeginsLine, embedded, embedded_byte, width}
use Rattle.pages.specs.Kept.{FitsBeside, IsLongest}
use Rattle.pages.proofs.Embedding.{embedded-append}

-- the size of the first bytes, and of one more
pub sized_more : (facts : List ℕ) (at d : ℕ) → at < length facts →
    length (embedded (take (at + 1) facts)) ≡ length (embedded (take at facts)) + width (get_or facts at d)
sized_more facts at d below =
    let b = get_or facts at d in
    ap (λ l. length (embedded l)) (take_more facts at d below)
    ∙ ap length (embedded-append (take at facts) (b ∷ [])) ∙ length-append (embedded (take at facts)) (embedded (b ∷ []))
    ∙ ap (λ l. length (embedded (take at facts)) + length l) (append-nil (embedded_byte b))

-- more bytes have no smaller size
pub grows : (facts : List ℕ) (a n : ℕ) → a ≤ n → length (embedded (take a facts)) ≤ length (embedded (take n facts))
grows facts a n le =
    let front = take a (take n facts) in
    let whole : front ++ drop a (take n facts) ≡ take n facts = take-append-drop a (take n facts) in
    let is : front ≡ take a facts = take-take a n facts le in
    let sizes : length (embedded (take n facts)) ≡ length (embedded front) + length (embedded (drop a (take n facts))) =
    ap (λ l. length (embedded l)) (sym whole) ∙ ap length (embedded-append front (drop a (take n facts)))
    ∙ length-append (embedded front) (embedded (drop a (take n facts))) in
    let same : length (embedded front) ≡ length (embedded (take a facts)) = ap (λ l. length (embedded l)) is in
    omega (arith, sizes, same)

-- of the first bytes up to `at`, the most whole lines that have room beside so many
pub record Fronting (text : List ℕ) (most beside whole size at : ℕ) : Type 0 where
  pub inside : most ≤ length text
  pub below : at ≤ most
  pub sized : size ≡ length (embedded (take at text)) + beside
  pub little : size ≤ room
  pub are : FitsBeside text most beside whole
  pub longest : (n : ℕ) → n ≤ at → FitsBeside text most beside n → n ≤ whole

pub fronting_none : (text : List ℕ) (most beside : ℕ) → most ≤ length text → beside ≤ room → Fronting text most beside 0 beside 0
fronting_none text most beside inside little = record {
  inside = inside;
  below = omega arith;
  sized = let none : length (embedded (take 0 text)) ≡ 0 = refl in omega (arith, none);
  little = little;
  are = record { within = omega arith; begins = tt; fits = omega (arith, little) };
  longest = λ n le h. le;
}

-- the byte at `at` has no room any more
pub fronting_full : (text : List ℕ) (most beside whole size at d : ℕ) → Fronting text most beside whole size at → at < most →
    room < size + width (get_or text at d) → IsLongest text most beside whole
fronting_full text most beside whole size at d c below full = record {
  are = c.are;
  longest = λ n h. by n h (split n);
}
  where
    split : (n : ℕ) → (n ≤ at) ⊎ (at + 1 ≤ n)
    split n = search arith

    by : (n : ℕ) → FitsBeside text most beside n → (n ≤ at) ⊎ (at + 1 ≤ n) → n ≤ whole
    by n h (inl le) = c.longest n le h
    by n h (inr gt) =
        let inside : most ≤ length text = c.inside in
        let more = sized_more text at d (omega (arith, inside, below)) in
        let far = grows text (at + 1) n gt in
        let sized : size ≡ length (embedded (take at text)) + beside = c.sized in
        let fits : length (embedded (take n text)) + beside ≤ room = h.fits in
        absurd (omega (arith, more, far, sized, fits, full))

pub fronting_over : (text : List ℕ) (most beside whole size at : ℕ) → Fronting text most beside whole size at → most ≤ at →
    IsLongest text most beside whole
fronting_over text most beside whole size at c over = record {
  are = c.are;
  longest = λ n h. let w : n ≤ most = h.within in c.longest n (omega (arith, w, over)) h;
}

ends_here : (text : List ℕ) (at : ℕ) → slice_index text at ≡ 10 → BeginsLine text (at + 1)
ends_here text at is = subst (BeginsLine text) (sym (add-one at)) is

-- a line ends in the byte at `at`
pub fronting_line : (text : List ℕ) (most beside whole size at d : ℕ) → Fronting text most beside whole size at → at < most →
    size + width (get_or text at d) ≤ room → slice_index text at ≡ 10 →
    Fronting text most beside (at + 1) (size + width (get_or text at d)) (at + 1)
fronting_line text most beside whole size at d c below little is =
    let inside : most ≤ length text = c.inside in
    let more = sized_more text at d (omega (arith, inside, below)) in
    let sized : size ≡ length (embedded (take at text)) + beside = c.sized in
    record {
      inside = inside;
      below = omega (arith, below);
      sized = omega (arith, more, sized);
      little = little;
      are = record { within = omega (arith, below); begins = ends_here text at is; fits = omega (arith, more, sized, little) };
      longest = λ n le h. le;
    }

-- and none ends there
pub fronting_on : (text : List ℕ) (most beside whole size at d : ℕ) → Fronting text most beside whole size at → at < most →
    size + width (get_or text at d) ≤ room → (slice_index text at ≡ 10 → ⊥) →
    Fronting text most beside whole (size + width (get_or text at d)) (at + 1)
fronting_on text most beside whole size at d c below little ends =
    let inside : most ≤ length text = c.inside in
    let more = sized_more text at d (omega (arith, inside, below)) in
    let sized : size ≡ length (embedded (take at text)) + beside = c.sized in
    record {
      inside = inside;
      below = omega (arith, below);
      sized = omega (arith, more, sized);
      little = little;
      are = c.are;
      longest = λ n le h. by n h (split n le);
    }
  where
    split : (n : ℕ) → n ≤ at + 1 → (n ≤ at) ⊎ (n ≡ suc at)
    split n le = search (arith, le)

    by : (n : ℕ) → FitsBeside text most beside n → (n ≤ at) ⊎ (n ≡ suc at) → n ≤ whole
    by n h (inl le) = c.longest n le h
    by n h (inr is) = absurd (ends (subst (BeginsLine text) is h.begins))
