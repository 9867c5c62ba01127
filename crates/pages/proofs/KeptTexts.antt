-- What is kept of lines as they come, and of lines that are put before them.
use Rattle.std.proofs.Common.{◌≡◌, ◌<◌, ◌≤◌, ◌+◌, ◌-◌, ◌++◌, ◌∷◌, ◌∙◌, [], List, ℕ, zero, suc, ap, arith, drop, inl, inr, length}
use Rattle.std.proofs.Common.{length-append, min, refl, subst, sym, take}
use Rattle.std.proofs.lemmas.Bool.{cases_lt}
use Rattle.std.proofs.lemmas.List.{drop-append-le, drop-drop, length-drop, length-take-le, take-take, take_all, take_min}
use Rattle.std.specs.Prelude.{◌⊎◌}
use Rattle.pages.specs.Cut.{room}
use Rattle.pages.specs.Facts.{line_count}
use Rattle.pages.specs.Kept.{Holds}
use Rattle.pages.specs.declared.lines.KeptLines.{KeptLines}
use Rattle.pages.proofs.LineEnds.{drop_past, line_count-append}

-- ---- the first bytes

take_both : (n : ℕ) (xs ys : List ℕ) → take n (xs ++ ys) ≡ take n xs ++ take (n - length xs) ys
take_both n [] ys =
    ap (λ m. take m ys) (let e : n ≡ n - 0 = omega arith in e)
    ∙ ap (λ l. l ++ take (n - 0) ys) (sym (take_all n [] (omega arith)))
take_both zero (x ∷ xs) ys = ap (λ m. take m ys) (let e : 0 ≡ 0 - length (x ∷ xs) = omega arith in e)
take_both (suc n) (x ∷ xs) ys =
    ap (λ l. x ∷ l) (take_both n xs ys)
    ∙ ap (λ m. x ∷ (take n xs ++ take m ys)) (let e : n - length xs ≡ suc n - length (x ∷ xs) = omega arith in e)

-- so many bytes of what comes are among the first ones
room_left : (first text : List ℕ) → first ≡ take room text → room - length first ≡ room - length text
room_left first text is = by (cases_lt (length text) room) where
  same : length first ≡ length (take room text)
  same = ap length is

  by : (length text < room) ⊎ (room ≤ length text) → room - length first ≡ room - length text
  by (inl l) =
      let all : length (take room text) ≡ length text = ap length (take_all room text (omega (arith, l))) in
      let e = same in omega (arith, all, e)
  by (inr g) =
      let full : length (take room text) ≡ room = length-take-le room text g in
      let e = same in omega (arith, full, e, g)

pub pushed_first : (first new bytes text : List ℕ) (wanted : ℕ) → wanted ≡ min (room - length first) (length bytes) →
    new ≡ first ++ take wanted bytes → first ≡ take room text → new ≡ take room (text ++ bytes)
pushed_first first new bytes text wanted so is held =
    is ∙ ap (λ n. first ++ take n bytes) so ∙ ap (λ l. first ++ l) (take_min (room - length first) bytes)
    ∙ ap (λ n. first ++ take n bytes) (room_left first text held) ∙ ap (λ l. l ++ take (room - length text) bytes) held
    ∙ sym (take_both room text bytes)

-- the first ones of what is kept of a text are those of all of it
take_within : (xs ys : List ℕ) → take room (xs ++ take room ys) ≡ take room (xs ++ ys)
take_within xs ys =
    take_both room xs (take room ys)
    ∙ ap (λ l. take room xs ++ l) (take-take (room - length xs) room ys (omega arith))
    ∙ sym (take_both room xs ys)

-- ---- all that is kept

pub none_held : (k : KeptLines) → k.first.items ≡ [] → k.last.items ≡ [] → k.before ≡ 0 → k.count ≡ 0 → Holds k []
none_held k first last before count = record {
  first = first ∙ sym (take_all room [] (omega arith));
  offset = 0;
  last = last;
  within = omega arith;
  enough = inl refl;
  known = inl before;
  count = count;
}

-- bytes were put behind
pub put_held : (k n : KeptLines) (text bytes : List ℕ) → n.first.items ≡ take room (text ++ bytes) → n.last.items ≡ k.last.items ++ bytes →
    n.before ≡ k.before → n.count ≡ k.count + line_count bytes → Holds k text → Holds n (text ++ bytes)
put_held k n text bytes first last before count h = record {
  first = first;
  offset = h.offset;
  last = last ∙ ap (λ l. l ++ bytes) h.last ∙ sym (drop-append-le h.offset text bytes h.within);
  within = let w : h.offset ≤ length text = h.within in let l = length-append text bytes in omega (arith, w, l);
  enough = more h.enough;
  known = place h.known;
  count = let c : k.count ≡ line_count text = h.count in let l = line_count-append text bytes in omega (arith, c, l, count);
}
  where
    place : (k.before ≡ h.offset) ⊎ ((room < k.before) × (k.before ≤ h.offset)) →
        (n.before ≡ h.offset) ⊎ ((room < n.before) × (n.before ≤ h.offset))
    place (inl same) = inl (before ∙ same)
    place (inr far) = let f = far.0 in let u = far.1 in inr (omega (arith, f, before), omega (arith, u, before))

    more : (h.offset ≡ 0) ⊎ (room < length k.last.items) → (h.offset ≡ 0) ⊎ (room < length n.last.items)
    more (inl none) = inl none
    more (inr far) =
        let l : length n.last.items ≡ length k.last.items + length bytes = ap length last ∙ length-append k.last.items bytes in
        inr (omega (arith, far, l))

-- what is before the last bytes was given back
pub trimmed_held : (k n : KeptLines) (text : List ℕ) (over : ℕ) → over + (room + 1) ≡ length k.last.items → n.first.items ≡ k.first.items →
    n.last.items ≡ drop over k.last.items → n.before ≡ k.before + over → n.count ≡ k.count → Holds k text → Holds n text
trimmed_held k n text over fits first last before count h =
    let sized : length k.last.items ≡ length text - h.offset = ap length h.last ∙ length-drop h.offset text in
    let w : h.offset ≤ length text = h.within in
    record {
      first = first ∙ h.first;
      offset = h.offset + over;
      last = last ∙ ap (drop over) h.last ∙ drop-drop over h.offset text;
      within = omega (arith, w, sized, fits);
      enough = let l : length n.last.items ≡ length k.last.items - over = ap length last ∙ length-drop over k.last.items in
          inr (omega (arith, l, fits));
      known = place h.known;
      count = count ∙ h.count;
    }
  where
    place : (k.before ≡ h.offset) ⊎ ((room < k.before) × (k.before ≤ h.offset)) →
        (n.before ≡ h.offset + over) ⊎ ((room < n.before) × (n.before ≤ h.offset + over))
    place (inl same) = inl (omega (arith, before, same))
    place (inr far) = let f = far.0 in let u = far.1 in inr (omega (arith, f, before), omega (arith, u, before))

-- all bytes are kept
all_kept : (k : KeptLines) (text : List ℕ) → k.before ≡ 0 → Holds k text → k.last.items ≡ text
all_kept k text none h = h.last ∙ ap (λ m. drop m text) (place h.known) where
  place : (k.before ≡ h.offset) ⊎ ((room < k.before) × (k.before ≤ h.offset)) → h.offset ≡ 0
  place (inl same) = omega (arith, same, none)
  place (inr far) = let f = far.0 in absurd (omega (arith, f, none))

pub all_behind_held : (k n : KeptLines) (head text : List ℕ) → k.before ≡ 0 → Holds n (head ++ k.last.items) → Holds k text → Holds n
    (head ++ text)
all_behind_held k n head text none is h = subst (λ l. Holds n (head ++ l)) (all_kept k text none h) is

-- or some
pub some_behind_held : (k n : KeptLines) (head text : List ℕ) → n.first.items ≡ take room (head ++ k.first.items) →
    n.last.items ≡ k.last.items → n.before ≡ k.before + length head → n.count ≡ k.count + line_count head → 1 ≤ k.before → Holds k text →
    Holds n (head ++ text)
some_behind_held k n head text first last before count some h = record {
  first = first ∙ ap (λ l. take room (head ++ l)) h.first ∙ take_within head text;
  offset = h.offset + length head;
  last = last ∙ h.last ∙ sym (drop_past head text (h.offset + length head) h.offset (omega arith));
  within = let w : h.offset ≤ length text = h.within in let l = length-append head text in omega (arith, w, l);
  enough = far h.known h.enough;
  known = place h.known;
  count = let c : k.count ≡ line_count text = h.count in let l = line_count-append head text in omega (arith, c, l, count);
}
  where
    place : (k.before ≡ h.offset) ⊎ ((room < k.before) × (k.before ≤ h.offset)) →
        (n.before ≡ h.offset + length head) ⊎ ((room < n.before) × (n.before ≤ h.offset + length head))
    place (inl same) = inl (omega (arith, before, same))
    place (inr far) = let f = far.0 in let u = far.1 in inr (omega (arith, f, before), omega (arith, u, before))

    far : (k.before ≡ h.offset) ⊎ ((room < k.before) × (k.before ≤ h.offset)) → (h.offset ≡ 0) ⊎ (room < length k.last.items) →
        (h.offset + length head ≡ 0) ⊎ (room < length n.last.items)
    far (inl same) (inl none) = absurd (omega (arith, same, none, some))
    far (inr past) (inl none) = let f = past.0 in let u = past.1 in absurd (omega (arith, f, u, none))
    far at (inr more) = let l : length n.last.items ≡ length k.last.items = ap length last in inr (omega (arith, more, l))

-- lines that aren't kept stand before, which have so many bytes, or more than a page has room for
pub others_held : (k n : KeptLines) (head text : List ℕ) (size : ℕ) → room < length k.last.items →
    n.first.items ≡ take room (head ++ text) → n.last.items ≡ k.last.items → n.before ≡ k.before + size →
    n.count ≡ line_count (head ++ text) → (size ≡ length head) ⊎ ((room < size) × (size ≤ length head)) → Holds k text →
    Holds n (head ++ text)
others_held k n head text size far first last before count sized h = record {
  first = first;
  offset = h.offset + length head;
  last = last ∙ h.last ∙ sym (drop_past head text (h.offset + length head) h.offset (omega arith));
  within = let w : h.offset ≤ length text = h.within in let l = length-append head text in omega (arith, w, l);
  enough = let l : length n.last.items ≡ length k.last.items = ap length last in inr (omega (arith, far, l));
  known = place h.known sized;
  count = count;
}
  where
    place : (k.before ≡ h.offset) ⊎ ((room < k.before) × (k.before ≤ h.offset)) →
        (size ≡ length head) ⊎ ((room < size) × (size ≤ length head)) →
        (n.before ≡ h.offset + length head) ⊎ ((room < n.before) × (n.before ≤ h.offset + length head))
    place (inl same) (inl whole) = inl (omega (arith, before, same, whole))
    place (inl same) (inr most) =
        let f = most.0 in let u = most.1 in inr (omega (arith, f, before), omega (arith, u, before, same))
    place (inr past) (inl whole) =
        let f = past.0 in let u = past.1 in inr (omega (arith, f, before), omega (arith, u, before, whole))
    place (inr past) (inr most) =
        let f = past.0 in let u = past.1 in let g = most.1 in inr (omega (arith, f, before), omega (arith, u, g, before))
