-- One entry more of those of which some are kept, and that the picture of these is that of all.
use Rattle.std.proofs.Common.{◌≡◌, ◌∙◌, ◌+◌, ◌-◌, ◌<◌, ◌≤◌, ℕ, List, [], ◌∷◌, ◌++◌, Bool, ap, arith, drop, inl, inr}
use Rattle.std.proofs.Common.{length, map, refl, subst, sym, take}
use Rattle.std.proofs.lemmas.Bool.{cases_lt, le-ltb, lt-ltb}
use Rattle.std.proofs.lemmas.List.{drop-append-le, drop-drop, drop-map, drop_all, drop_at, length-append, length-drop, length-map}
use Rattle.std.proofs.lemmas.List.{length-take-le, take-append-le, take-map, take_all, take_at}
use Rattle.std.specs.Prelude.{◌⊎◌, if◌then◌else◌, max}
use Rattle.journal.specs.declared.entry as rust
use Rattle.journal.specs.Between.{between}
use Rattle.journal.specs.Entries.{Entry, entry_is}
use Rattle.journal.proofs.KeptBetween.{one_before, one_past, one_within}
use Rattle.journal.proofs.Pushed.{pushed}
use Rattle.pictures.specs.Steps.Drawn.{first_drawn, first_met, last_drawn, met_of, rows_beside, rows_of, acting, with_all}
use Rattle.pictures.specs.Steps.Kept.{Keeps, KeepsAsked, StandFor, with_room}
use Rattle.pictures.specs.Steps.Measures.{letters_of}
use Rattle.pictures.specs.Steps.ProgramLines.{longest}
use Rattle.pictures.specs.declared.steps.excerpt.Excerpt.{Excerpt}

-- ---- how they stand for others

pub same_stand : (es : List Entry) → StandFor es es
same_stand es = record { first = refl; last = refl; whole = inl refl }

-- where those that are kept are few, they are all
all_kept : (k es : List Entry) → length k ≤ 112 → StandFor k es → k ≡ es
all_kept k es few s = by s.whole where
  by : (k ≡ es) ⊎ ((112 < length k) × (112 < length es)) → k ≡ es
  by (inl is) = is
  by (inr many) = let m = many.0 in absurd (omega (arith, m, few))

-- and where they are many, so are the others
many_too : (k es : List Entry) → 112 < length k → StandFor k es → 112 < length es
many_too k es many s = by s.whole where
  by : (k ≡ es) ⊎ ((112 < length k) × (112 < length es)) → 112 < length es
  by (inl is) = let e : length k ≡ length es = ap length is in omega (arith, e, many)
  by (inr both) = both.1

-- ---- one more

pub few_and_one : (k es : List Entry) (e : Entry) → length k ≤ 112 → StandFor k es → StandFor (k ++ e ∷ []) (es ++ e ∷ [])
few_and_one k es e few s =
    subst (λ es. StandFor (k ++ e ∷ []) (es ++ e ∷ [])) (all_kept k es few s) (same_stand (k ++ e ∷ []))

-- the last ones with one more
last_and_one : (xs : List Entry) (e : Entry) → 112 < length xs →
    drop (length (xs ++ e ∷ []) - 16) (xs ++ e ∷ []) ≡ drop 1 (drop (length xs - 16) xs) ++ e ∷ []
last_and_one xs e many =
    let l = length-append xs (e ∷ []) in
    let n : length (xs ++ e ∷ []) - 16 ≡ (length xs - 16) + 1 = omega (arith, l, many) in
    ap (λ n. drop n (xs ++ e ∷ [])) n
    ∙ drop-append-le ((length xs - 16) + 1) xs (e ∷ []) (omega (arith, many))
    ∙ ap (λ l. l ++ e ∷ []) (sym (drop-drop 1 (length xs - 16) xs))

-- one in the middle is given back
module _ (k es : List Entry) (e : Entry) (many : 112 < length k) (s : StandFor k es) where
  abbrev fewer : List Entry
  fewer = take 96 k ++ drop 97 k

  front_long : length (take 96 k) ≡ 96
  front_long = let m = many in length-take-le 96 k (omega (arith, m))

  fewer_long : length fewer ≡ length k - 1
  fewer_long =
      let m = many in let l = length-append (take 96 k) (drop 97 k) in let f = front_long in let d = length-drop 97 k in
      omega (arith, l, f, d, m)

  first_fewer : take 96 fewer ≡ take 96 k
  first_fewer = take_at (take 96 k) (drop 97 k) 96 front_long

  -- what stands behind the one that is given back
  behind : (n : ℕ) → 97 ≤ n → drop (n - 1) fewer ≡ drop n k
  behind n far =
      let f = front_long in
      let a : n - 1 ≡ 96 + (n - 97) = omega (arith, far) in
      let b : 97 + (n - 97) ≡ n = omega (arith, far) in
      ap (λ n. drop n fewer) a ∙ sym (drop-drop (n - 97) 96 fewer) ∙ ap (drop (n - 97)) (drop_at (take 96 k) (drop 97 k) 96 f)
      ∙ drop-drop (n - 97) 97 k ∙ ap (λ n. drop n k) b

  pub many_and_one : StandFor (fewer ++ e ∷ []) (es ++ e ∷ [])
  many_and_one =
      let m = many in
      let lots : 112 < length es = many_too k es many s in
      let long = fewer_long in
      let l = length-append fewer (e ∷ []) in
      let g = length-append es (e ∷ []) in
      let n : length (fewer ++ e ∷ []) - 16 ≡ (length k - 15) - 1 = omega (arith, l, long, m) in
      let o : (length k - 16) + 1 ≡ length k - 15 = omega (arith, m) in
      record {
        first = take-append-le 96 fewer (e ∷ []) (omega (arith, long, m)) ∙ first_fewer ∙ s.first
            ∙ sym (take-append-le 96 es (e ∷ []) (omega (arith, lots)));
        last = ap (λ n. drop n (fewer ++ e ∷ [])) n
            ∙ drop-append-le ((length k - 15) - 1) fewer (e ∷ []) (omega (arith, long, m))
            ∙ ap (λ l. l ++ e ∷ []) (behind (length k - 15) (omega (arith, m)) ∙ ap (λ n. drop n k) (sym o)
            ∙ sym (drop-drop 1 (length k - 16) k) ∙ ap (drop 1) s.last)
            ∙ sym (last_and_one es e lots);
        whole = inr (omega (arith, l, long, m), omega (arith, g, lots));
      }

-- ---- of entries as they come

pub keeps_none : (x : Excerpt) → x.entries.items ≡ [] → x.count ≡ 0 → Keeps x []
keeps_none x none zero = record { stand = subst (λ l. StandFor (map entry_is l) []) (sym none) (same_stand []); counted = zero }

pub keeps_one : (x y : Excerpt) (e : rust.Entry.Entry) (es : List Entry) → length x.entries.items ≤ 112 →
    y.entries.items ≡ x.entries.items ++ e ∷ [] → y.count ≡ x.count + 1 → Keeps x es → Keeps y (es ++ entry_is e ∷ [])
keeps_one x y e es few items count h = record {
  stand =
      let l = length-map x.entries.items entry_is in
      subst (λ l. StandFor l (es ++ entry_is e ∷ [])) (sym (pushed e x.entries.items y.entries.items items))
      (few_and_one (map entry_is x.entries.items) es (entry_is e) (omega (arith, l, few)) h.stand);
  counted = let c : x.count ≡ length es = h.counted in let l = length-append es (entry_is e ∷ []) in omega (arith, c, l, count);
}

map-append : (xs ys : List rust.Entry.Entry) → map entry_is (xs ++ ys) ≡ map entry_is xs ++ map entry_is ys
map-append [] ys = refl
map-append (x ∷ xs) ys = ap (λ l. entry_is x ∷ l) (map-append xs ys)

pub keeps_some : (x y : Excerpt) (e : rust.Entry.Entry) (items : List rust.Entry.Entry) (es : List Entry) → 112 < length x.entries.items →
    items ≡ take 96 x.entries.items ++ drop 97 x.entries.items → y.entries.items ≡ items ++ e ∷ [] → y.count ≡ x.count + 1 → Keeps x es →
    Keeps y (es ++ entry_is e ∷ [])
keeps_some x y e items es many rest is count h =
    let k = map entry_is x.entries.items in
    let l = length-map x.entries.items entry_is in
    let fewer : map entry_is items ≡ take 96 k ++ drop 97 k =
    ap (map entry_is) rest ∙ map-append (take 96 x.entries.items) (drop 97 x.entries.items)
    ∙ ap (λ l. l ++ map entry_is (drop 97 x.entries.items)) (sym (take-map entry_is 96 x.entries.items))
    ∙ ap (λ l. take 96 k ++ l) (sym (drop-map entry_is 97 x.entries.items)) in
    record {
      stand = subst (λ l. StandFor l (es ++ entry_is e ∷ [])) (sym (pushed e items y.entries.items is
          ∙ ap (λ l. l ++ entry_is e ∷ []) fewer)) (many_and_one k es (entry_is e) (omega (arith, l, many)) h.stand);
      counted = let c : x.count ≡ length es = h.counted in let m = length-append es (entry_is e ∷ []) in omega (arith, c, m, count);
    }

abbrev room_by : (many : Bool) → List rust.Entry.Entry → List rust.Entry.Entry
room_by many xs = if many then take 96 xs ++ drop 97 xs else xs

pub room_made : (xs ys : List rust.Entry.Entry) → 112 < length xs → ys ≡ take 96 xs ++ drop 97 xs → ys ≡ with_room xs
room_made xs ys many is = is ∙ sym (ap (λ b. room_by b xs) (lt-ltb 112 (length xs) many))

pub room_there : (xs : List rust.Entry.Entry) → length xs ≤ 112 → xs ≡ with_room xs
room_there xs few = sym (ap (λ b. room_by b xs) (le-ltb 112 (length xs) few))

pub keeps_added : (x y : Excerpt) (e : rust.Entry.Entry) (items : List rust.Entry.Entry) (es : List Entry) →
    items ≡ with_room x.entries.items → y.entries.items ≡ items ++ e ∷ [] → y.count ≡ x.count + 1 → Keeps x es →
    Keeps y (es ++ entry_is e ∷ [])
keeps_added x y e items es room is count h = by (cases_lt 112 (length x.entries.items)) where
  by : (112 < length x.entries.items) ⊎ (length x.entries.items ≤ 112) → Keeps y (es ++ entry_is e ∷ [])
  by (inl many) = keeps_some x y e items es many
      (room ∙ ap (λ b. room_by b x.entries.items) (lt-ltb 112 (length x.entries.items) many)) is count h
  by (inr few) = keeps_one x y e es few
      (is ∙ ap (λ v. v ++ e ∷ []) (room ∙ sym (room_there x.entries.items few))) count h

-- ---- of those between two numbers

pub asked_within : (first last count late : ℕ) (old new : Excerpt) (e : Entry) → late ≡ count + 1 → first ≤ late → late ≤ last →
    ((es : List Entry) → Keeps old es → Keeps new (es ++ e ∷ [])) → KeepsAsked first last count late old new (e ∷ [])
asked_within first last count late old new e l above below add = record {
  counted = l;
  kept = λ before n h. subst (Keeps new) (sym (one_within first last before e (omega (arith, n, l, below)) (omega (arith, n, l, above))))
      (add (between first last before) h);
}

pub asked_before : (first last count late : ℕ) (x : Excerpt) (e : Entry) → late ≡ count + 1 → late < first →
    KeepsAsked first last count late x x (e ∷ [])
asked_before first last count late x e l below = record {
  counted = l;
  kept = λ before n h. subst (Keeps x) (sym (one_before first last before e (omega (arith, n, l, below)))) h;
}

pub asked_past : (first last count late : ℕ) (x : Excerpt) (e : Entry) → late ≡ count + 1 → first ≤ late → last < late →
    KeepsAsked first last count late x x (e ∷ [])
asked_past first last count late x e l above past = record {
  counted = l;
  kept = λ before n h. subst (Keeps x) (sym (one_past first last before e (omega (arith, n, l, past)) (omega (arith, n, l, above)))) h;
}

-- ---- what is drawn of them

abbrev first_by : (many : Bool) → List Entry → List Entry
first_by many es = if many then take 96 es else es

abbrev last_by : (many : Bool) → List Entry → List Entry
last_by many es = if many then drop (length es - 16) es else []

module _ (k es : List Entry) (s : StandFor k es) where
  pub first_stands : first_drawn k ≡ first_drawn es
  first_stands = by s.whole where
    by : (k ≡ es) ⊎ ((112 < length k) × (112 < length es)) → first_drawn k ≡ first_drawn es
    by (inl is) = ap first_drawn is
    by (inr both) =
        ap (λ b. first_by b k) (lt-ltb 112 (length k) both.0) ∙ s.first ∙ sym (ap (λ b. first_by b es) (lt-ltb 112 (length es) both.1))

  pub last_stands : last_drawn k ≡ last_drawn es
  last_stands = by s.whole where
    by : (k ≡ es) ⊎ ((112 < length k) × (112 < length es)) → last_drawn k ≡ last_drawn es
    by (inl is) = ap last_drawn is
    by (inr both) =
        ap (λ b. last_by b k) (lt-ltb 112 (length k) both.0) ∙ s.last ∙ sym (ap (λ b. last_by b es) (lt-ltb 112 (length es) both.1))

  -- the last one of all
  pub end_stands : drop (length k - 1) k ≡ drop (length es - 1) es
  end_stands = by s.whole where
    end_of : (xs : List Entry) → 112 < length xs → drop (length xs - 1) xs ≡ drop 15 (drop (length xs - 16) xs)
    end_of xs many =
        ap (λ n. drop n xs) (let e : length xs - 1 ≡ (length xs - 16) + 15 = omega (arith, many) in e)
        ∙ sym (drop-drop 15 (length xs - 16) xs)

    by : (k ≡ es) ⊎ ((112 < length k) × (112 < length es)) → drop (length k - 1) k ≡ drop (length es - 1) es
    by (inl is) = ap (λ l. drop (length l - 1) l) is
    by (inr both) = end_of k both.0 ∙ ap (drop 15) s.last ∙ sym (end_of es both.1)

  pub rows_stand : rows_of k ≡ rows_of es
  rows_stand =
      ap (λ l. rows_beside (with_all [] (first_met l)) (acting (first_drawn k) ++ acting (last_drawn k))) end_stands
      ∙ ap (λ l. rows_beside (with_all [] (met_of es)) (acting l ++ acting (last_drawn k))) first_stands
      ∙ ap (λ l. rows_beside (with_all [] (met_of es)) (acting (first_drawn es) ++ acting l)) last_stands

  pub letters_stand : (text : List ℕ) → letters_of text k ≡ letters_of text es
  letters_stand text =
      ap (λ l. max (longest text l) (longest text (last_drawn k))) first_stands
      ∙ ap (λ l. max (longest text (first_drawn es)) (longest text l)) last_stands

-- ---- behind a whole run

nothing_between : (first last : ℕ) → [] ≡ between first last []
nothing_between first last = sym (ap (take (last - (first - 1))) (drop_all (first - 1) [] (omega arith))
    ∙ take_all (last - (first - 1)) [] (omega arith))

pub kept_of_all : (first last count late : ℕ) (old new : Excerpt) (es : List Entry) → KeepsAsked first last count late old new es →
    count ≡ 0 → Keeps old [] → Keeps new (between first last es)
kept_of_all first last count late old new es k none h =
    k.kept [] (sym none) (subst (Keeps old) (nothing_between first last) h)
