-- The cut of a text is found in what is kept of it.
use Rattle.std.proofs.Common.{◌≡◌, ◌<◌, ◌≤◌, ◌+◌, ◌-◌, ◌∙◌, List, ℕ, zero, suc, ap, arith, drop, get_or, inl, inr, length, refl, subst, sym}
use Rattle.std.proofs.Common.{take}
use Rattle.std.proofs.lemmas.Bool.{cases_lt, le-leb, le-ltb, lt-leb, lt-ltb, true≢false}
use Rattle.std.proofs.lemmas.List.{drop-drop, get_or-drop, get_or-take, length-append, length-drop, length-take-le, take-append-drop}
use Rattle.std.proofs.lemmas.List.{take-take, take_all}
use Rattle.std.specs.Prelude.{◌⊎◌, Bool, None, Option, Some, false, if◌then◌else◌, nat_lt, true}
use Rattle.pages.specs.Cut.{AreFirst, AreLast, IsBack, IsCut, IsFront, IsLastLine, gap_end, half, room}
use Rattle.pages.specs.Facts.{BeginsLine, embedded, line_count}
use Rattle.pages.specs.Kept.{FitsBeside, Holds, IsLongest}
use Rattle.pages.specs.declared.lines.KeptLines.{KeptLines}
use Rattle.pages.proofs.Embedding.{embedded-wide}
use Rattle.pages.proofs.Tailing.{shrinks}

-- ---- how long a part is

pub length_take_within : (n : ℕ) (l : List ℕ) → length (take n l) ≤ length l
length_take_within n l =
    let e : length (take n l) + length (drop n l) ≡ length l =
    sym (length-append (take n l) (drop n l)) ∙ ap length (take-append-drop n l) in
    omega (arith, e)

pub length_take_most : {X : Type 0} (n : ℕ) (l : List X) → length (take n l) ≤ n
length_take_most n l = by (cases_lt (length l) n) where
  by : (length l < n) ⊎ (n ≤ length l) → length (take n l) ≤ n
  by (inl lt) = let e : length (take n l) ≡ length l = ap length (take_all n l (omega (arith, lt))) in omega (arith, e, lt)
  by (inr le) = let e : length (take n l) ≡ n = length-take-le n l le in omega (arith, e)

-- ---- where lines begin in a part

begins_in_rest : (text : List ℕ) (k m n : ℕ) → n ≡ k + m → 0 < m → BeginsLine text n → BeginsLine (drop k text) m
begins_in_rest text k zero n e past b = tt
begins_in_rest text k (suc m) zero e past b = absurd (omega (arith, e))
begins_in_rest text k (suc m) (suc n) e past b =
    get_or-drop k text m 0 ∙ ap (λ i. get_or text i 0) (let i : k + m ≡ n = omega (arith, e) in i) ∙ b

begins_in_all : (text : List ℕ) (k m n : ℕ) → n ≡ k + m → 0 < m → BeginsLine (drop k text) m → BeginsLine text n
begins_in_all text k zero n e past b = absurd (omega (arith, past))
begins_in_all text k (suc m) zero e past b = absurd (omega (arith, e))
begins_in_all text k (suc m) (suc n) e past b =
    ap (λ i. get_or text i 0) (let i : n ≡ k + m = omega (arith, e) in i) ∙ sym (get_or-drop k text m 0) ∙ b

begins_in_first : (text : List ℕ) (k n : ℕ) → n ≤ k → BeginsLine text n → BeginsLine (take k text) n
begins_in_first text k zero l b = tt
begins_in_first text k (suc n) l b = get_or-take k text n 0 (omega (arith, l)) ∙ b

begins_of_first : (text : List ℕ) (k n : ℕ) → n ≤ k → BeginsLine (take k text) n → BeginsLine text n
begins_of_first text k zero l b = tt
begins_of_first text k (suc n) l b = sym (get_or-take k text n 0 (omega (arith, l))) ∙ b

-- ---- the last lines, of a text whose last bytes are more than a page has room for

module _ (text : List ℕ) (k : ℕ) (inside : k ≤ length text) (far : room < length (drop k text)) where
  sized : length (drop k text) ≡ length text - k
  sized = length-drop k text

  -- what begins there or before has no room
  too_wide : (n : ℕ) → n ≤ k → length (embedded (drop n text)) ≤ room → ⊥
  too_wide n le fits =
      let more = shrinks text n k le in let wide = embedded-wide (drop k text) in let f = far in omega (arith, more, wide, fits, f)

  same_end : (m : ℕ) → drop m (drop k text) ≡ drop (k + m) text
  same_end m = drop-drop m k text

  same_size : (m : ℕ) → length (embedded (drop m (drop k text))) ≡ length (embedded (drop (k + m) text))
  same_size m = ap (λ l. length (embedded l)) (same_end m)

  last_line : (m : ℕ) → IsLastLine (drop k text) m → IsLastLine text (k + m)
  last_line m alone n past lt b =
      let s = sized in let i = inside in
      alone (n - k) (omega (arith, past)) (omega (arith, past, lt, s))
      (begins_in_rest text k (n - k) n (omega (arith, past)) (omega (arith, past)) b)

  line_last : (n : ℕ) → k < n → IsLastLine text n → IsLastLine (drop k text) (n - k)
  line_last n past alone m gt lt b =
      let s = sized in
      alone (k + m) (omega (arith, gt, past)) (omega (arith, lt, s)) (begins_in_all text k m (k + m) refl (omega (arith, gt)) b)

  -- lines that fit begin in the last bytes
  there : (most n : ℕ) → most ≤ room → AreLast text most n → k < n
  there most n small h = by (split n) where
    split : (n : ℕ) → (n ≤ k) ⊎ (k < n)
    split n = search arith

    by : (n ≤ k) ⊎ (k < n) → k < n
    by (inr past) = past
    by (inl le) =
        let fits : length (embedded (drop n text)) ≤ most = h.fits in absurd (too_wide n le (omega (arith, fits, small)))

  within_last : (most n : ℕ) → k < n → AreLast text most n → AreLast (drop k text) most (n - k)
  within_last most n past h =
      let s = sized in
      let w : n < length text = h.within in
      let same = same_size (n - k) in
      let at : length (embedded (drop (k + (n - k)) text)) ≡ length (embedded (drop n text)) =
      ap (λ i. length (embedded (drop i text))) (let e : k + (n - k) ≡ n = omega (arith, past) in e) in
      let fits : length (embedded (drop n text)) ≤ most = h.fits in
      record {
        within = omega (arith, w, s, past);
        begins = begins_in_rest text k (n - k) n (omega (arith, past)) (omega (arith, past)) h.begins;
        fits = omega (arith, same, at, fits);
      }

  pub back_of_rest : (at : ℕ) → IsBack (drop k text) at → IsBack text (k + at)
  back_of_rest at h =
      let s = sized in
      let i = inside in
      let w : at ≤ length (drop k text) = h.within in
      let same = same_size at in
      let fits : length (embedded (drop at (drop k text))) ≤ room = h.fits in
      record {
        within = omega (arith, w, s, i);
        begins = λ lt. begins_in_all text k at (k + at) refl (past at fits) (h.begins (omega (arith, lt, s)));
        fits = omega (arith, same, fits);
        few = few h.few;
        most = λ n l. let gt = there half n (omega arith) l in
            let le : at ≤ n - k = h.most (n - k) (within_last half n gt l) in omega (arith, le, gt);
        last = λ n l alone. let gt = there room n (omega arith) l in
            let le : at ≤ n - k = h.last (n - k) (within_last room n gt l) (line_last n gt alone) in omega (arith, le, gt);
      }
    where
      past : (at : ℕ) → length (embedded (drop at (drop k text))) ≤ room → 0 < at
      past zero fits = absurd (too_wide k (omega arith) fits)
      past (suc at) fits = omega arith

      few : (length (embedded (drop at (drop k text))) ≤ half) ⊎ IsLastLine (drop k text) at →
          (length (embedded (drop (k + at) text)) ≤ half) ⊎ IsLastLine text (k + at)
      few (inl l) = let same = same_size at in inl (omega (arith, same, l))
      few (inr alone) = inr (last_line at alone)

-- of all bytes, or the last ones
pub back_held : (k : KeptLines) (text : List ℕ) (at : ℕ) → (h : Holds k text) → IsBack k.last.items at → IsBack text (h.offset + at)
back_held k text at h is = by h.enough where
  last : IsBack (drop h.offset text) at
  last = subst (λ l. IsBack l at) h.last is

  by : (h.offset ≡ 0) ⊎ (room < length k.last.items) → IsBack text (h.offset + at)
  by (inl none) =
      let there : at ≡ h.offset + at = omega (arith, none) in
      subst (IsBack text) there (subst (λ n. IsBack (drop n text) at) none last)
  by (inr far) = back_of_rest text h.offset h.within (subst (λ l. room < length l) h.last far) at last

-- ---- the first lines

pub front_held : (text first : List ℕ) (back most beside front : ℕ) → first ≡ take room text → back ≤ length text →
    beside ≡ length (embedded (drop back text)) → most ≤ back → most ≤ length first →
    ((n : ℕ) → n ≤ back → n ≤ length first → n ≤ most) → IsLongest first most beside front → IsFront text back front
front_held text first back most beside front is inside sized below within all h = record {
  are = first_of front h.are;
  most = λ n f. h.longest n (beside_of n f);
}
  where
    same : length first ≡ length (take room text)
    same = ap length is

    little : length first ≤ room
    little = let e = same in let s = length_take_most room text in omega (arith, e, s)

    taken : (n : ℕ) → n ≤ room → take n first ≡ take n text
    taken n le = ap (take n) is ∙ take-take n room text le

    first_of : (n : ℕ) → FitsBeside first most beside n → AreFirst text back n
    first_of n f =
        let w : n ≤ most = f.within in
        let l = little in
        let le : n ≤ room = omega (arith, w, within, l) in
        let e : length (embedded (take n first)) ≡ length (embedded (take n text)) = ap (λ l. length (embedded l)) (taken n le) in
        let fits : length (embedded (take n first)) + beside ≤ room = f.fits in
        record {
          within = omega (arith, w, below);
          begins = begins_of_first text room n le (subst (λ l. BeginsLine l n) is f.begins);
          fits = omega (arith, e, fits, sized);
        }

    beside_of : (n : ℕ) → AreFirst text back n → FitsBeside first most beside n
    beside_of n f =
        let w : n ≤ back = f.within in
        let fits : length (embedded (take n text)) + length (embedded (drop back text)) ≤ room = f.fits in
        let wide = embedded-wide (take n text) in
        let long : length (take n text) ≡ n = length-take-le n text (omega (arith, w, inside)) in
        let le : n ≤ room = omega (arith, fits, wide, long) in
        let e : length (embedded (take n first)) ≡ length (embedded (take n text)) = ap (λ l. length (embedded l)) (taken n le) in
        let whole : take n first ≡ take n text = taken n le in
        let lengths : length (take n first) ≡ n = ap length whole ∙ long in
        let inside_first = length_take_within n first in
        record {
          within = all n w (omega (arith, lengths, inside_first));
          begins = subst (λ l. BeginsLine l n) (sym is) (begins_in_first text room n le f.begins);
          fits = omega (arith, e, fits, sized);
        }

-- ---- both

-- the last lines are those of the text
pub last_is : (k : KeptLines) (text : List ℕ) (at : ℕ) → (h : Holds k text) → drop at k.last.items ≡ drop (h.offset + at) text
last_is k text at h = ap (drop at) h.last ∙ drop-drop at h.offset text

-- no more of the first ones are kept than have room
pub first_long : (k : KeptLines) (text : List ℕ) → Holds k text → length k.first.items ≤ room
first_long k text h =
    let e : length k.first.items ≡ length (take room text) = ap length h.first in
    let s = length_take_most room text in
    omega (arith, e, s)

-- where some are left out there are, also where their number isn't known
pub gap_is : (k : KeptLines) (text : List ℕ) (front at : ℕ) → (h : Holds k text) → front ≤ length k.first.items →
    nat_lt front (k.before + at) ≡ nat_lt front (h.offset + at)
gap_is k text front at h le = by h.known where
  by : (k.before ≡ h.offset) ⊎ ((room < k.before) × (k.before ≤ h.offset)) → nat_lt front (k.before + at) ≡ nat_lt front (h.offset + at)
  by (inl same) = ap (λ n. nat_lt front (n + at)) same
  by (inr far) =
      let f = far.0 in let u = far.1 in let l = first_long k text h in
      lt-ltb front (k.before + at) (omega (arith, f, l, le)) ∙ sym (lt-ltb front (h.offset + at) (omega (arith, f, u, l, le)))

-- as many of the first ones as there are before a place of the last
most_before : (k : KeptLines) (text : List ℕ) (at most : ℕ) → (h : Holds k text) →
    ((n : ℕ) → n ≤ k.before + at → n ≤ length k.first.items → n ≤ most) → (n : ℕ) → n ≤ h.offset + at → n ≤ length k.first.items →
    n ≤ most
most_before k text at most h all n below inside = by h.known where
  by : (k.before ≡ h.offset) ⊎ ((room < k.before) × (k.before ≤ h.offset)) → n ≤ most
  by (inl same) = all n (omega (arith, same, below)) inside
  by (inr far) = let f = far.0 in let l = first_long k text h in all n (omega (arith, f, l, inside)) inside

before_known : (k : KeptLines) (text : List ℕ) → (h : Holds k text) → k.before ≤ h.offset
before_known k text h = by h.known where
  by : (k.before ≡ h.offset) ⊎ ((room < k.before) × (k.before ≤ h.offset)) → k.before ≤ h.offset
  by (inl same) = omega (arith, same)
  by (inr far) = far.1

pub cut_held : (k : KeptLines) (text first last : List ℕ) (at size most front : ℕ) → first ≡ k.first.items → last ≡ k.last.items →
    IsBack last at → size ≡ length (embedded (drop at last)) → most ≤ k.before + at → most ≤ length k.first.items →
    ((n : ℕ) → n ≤ k.before + at → n ≤ length k.first.items → n ≤ most) → IsLongest first most size front → (h : Holds k text) →
    IsCut text front (h.offset + at)
cut_held k text first last at size most front first_is same back sized below within all longest h =
    let known = before_known k text h in
    let is = back_held k text at h (subst (λ l. IsBack l at) same back) in
    record {
      last = is;
      first = front_held text k.first.items (h.offset + at) most size front h.first is.within
          (sized ∙ ap (λ l. length (embedded (drop at l))) same ∙ ap (λ l. length (embedded l)) (last_is k text at h)) (omega (arith, below, known)) within
          (most_before k text at most h all)
          (subst (λ l. IsLongest l most size front) first_is longest);
    }

-- ---- what is left out

abbrev end_by : (text : List ℕ) → (back last : ℕ) → Bool → Option ℕ
end_by text back last none = if none then None else Some (last - (line_count (drop back text) - 1))

pub gap_none : (k : KeptLines) (text : List ℕ) (front at last : ℕ) → (h : Holds k text) → front ≤ length k.first.items →
    nat_lt front (k.before + at) ≡ false → None ≡ gap_end text front (h.offset + at) last
gap_none k text front at last h le is = by (cases_lt front (h.offset + at)) where
  by : (front < h.offset + at) ⊎ (h.offset + at ≤ front) → None ≡ gap_end text front (h.offset + at) last
  by (inl lt) = absurd (true≢false (sym (lt-ltb front (h.offset + at) lt) ∙ sym (gap_is k text front at h le) ∙ is))
  by (inr over) = sym (ap (end_by text (h.offset + at) last) (le-leb (h.offset + at) front over))

pub gap_some : (k : KeptLines) (text lines : List ℕ) (front at last n : ℕ) → (h : Holds k text) → front ≤ length k.first.items →
    nat_lt front (k.before + at) ≡ true → lines ≡ drop at k.last.items → n ≡ last - (line_count lines - 1) →
    Some n ≡ gap_end text front (h.offset + at) last
gap_some k text lines front at last n h le is same number = by (cases_lt front (h.offset + at)) where
  by : (front < h.offset + at) ⊎ (h.offset + at ≤ front) → Some n ≡ gap_end text front (h.offset + at) last
  by (inl lt) =
      ap Some (number ∙ ap (λ l. last - (line_count l - 1)) (same ∙ last_is k text at h))
      ∙ sym (ap (end_by text (h.offset + at) last) (lt-leb (h.offset + at) front lt))
  by (inr over) = absurd (true≢false (sym is ∙ gap_is k text front at h le ∙ le-ltb front (h.offset + at) over))
