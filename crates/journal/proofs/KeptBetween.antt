-- One entry more of those that are kept from one number to another.
use Rattle.std.proofs.Common.{◌≡◌, ◌∙◌, ◌+◌, ◌-◌, ◌<◌, ◌≤◌, ℕ, List, [], ◌∷◌, ◌++◌, ap, arith, drop, length, map, sym, take}
use Rattle.std.proofs.lemmas.List.{drop-append-le, drop_all, length-append, length-drop, take-append-le, take_all}
use Rattle.journal.specs.declared.entry as rust
use Rattle.journal.specs.Entries.{Entry, entry_is}
use Rattle.journal.specs.Between.{KeepsBetween, between}
use Rattle.journal.proofs.Pushed.{pushed}

-- it has one of the numbers
pub one_within : (first last : ℕ) (es : List Entry) (e : Entry) → length es < last → first ≤ length es + 1 →
    between first last (es ++ e ∷ []) ≡ between first last es ++ e ∷ []
one_within first last es e below above =
    let a = first - 1 in
    let room = last - a in
    let le : a ≤ length es = omega (arith, above) in
    let d = length-drop a es in
    let fits : length (drop a es) ≤ room = omega (arith, d, below, le) in
    let more : length (drop a es ++ e ∷ []) ≤ room = (let m = length-append (drop a es) (e ∷ []) in omega (arith, m, d, below, le)) in
    ap (take room) (drop-append-le a es (e ∷ []) le)
    ∙ take_all room (drop a es ++ e ∷ []) more
    ∙ ap (λ xs. xs ++ e ∷ []) (sym (take_all room (drop a es) fits))

-- it comes before the first
pub one_before : (first last : ℕ) (es : List Entry) (e : Entry) → length es + 1 < first →
    between first last (es ++ e ∷ []) ≡ between first last es
one_before first last es e below =
    let a = first - 1 in
    let m = length-append es (e ∷ []) in
    ap (take (last - a)) (drop_all a (es ++ e ∷ []) (omega (arith, m, below)) ∙ sym (drop_all a es (omega (arith, below))))

-- it comes behind the last
pub one_past : (first last : ℕ) (es : List Entry) (e : Entry) → last ≤ length es → first ≤ length es + 1 →
    between first last (es ++ e ∷ []) ≡ between first last es
one_past first last es e past above =
    let a = first - 1 in
    let le : a ≤ length es = omega (arith, above) in
    let d = length-drop a es in
    ap (take (last - a)) (drop-append-le a es (e ∷ []) le)
    ∙ take-append-le (last - a) (drop a es) (e ∷ []) (omega (arith, d, past, le))

-- ---- as it passes

pub kept_within : (first last count late : ℕ) (old new : List rust.Entry.Entry) (e : rust.Entry.Entry) → late ≡ count + 1 →
    first ≤ late → late ≤ last → new ≡ old ++ e ∷ [] →
    KeepsBetween first last count late (map entry_is old) (map entry_is new) (entry_is e ∷ [])
kept_within first last count late old new e l above below is = record {
  counted = l;
  kept = λ before n old_is.
      pushed e old new is ∙ ap (λ es. es ++ entry_is e ∷ []) old_is
      ∙ sym (one_within first last before (entry_is e) (omega (arith, n, l, below)) (omega (arith, n, l, above)));
}

pub passed_before : (first last count late : ℕ) (old new : List Entry) (e : Entry) → late ≡ count + 1 → count + 1 < first →
    new ≡ old → KeepsBetween first last count late old new (e ∷ [])
passed_before first last count late old new e l below is = record {
  counted = l;
  kept = λ before n old_is. is ∙ old_is ∙ sym (one_before first last before e (omega (arith, n, below)));
}

pub passed_past : (first last count late : ℕ) (old new : List Entry) (e : Entry) → late ≡ count + 1 → last ≤ count → first ≤ count + 1 →
    new ≡ old → KeepsBetween first last count late old new (e ∷ [])
passed_past first last count late old new e l past above is = record {
  counted = l;
  kept = λ before n old_is. is ∙ old_is ∙ sym (one_past first last before e (omega (arith, n, past)) (omega (arith, n, above)));
}

-- ---- behind a whole run

nothing_between : (first last : ℕ) → [] ≡ between first last []
nothing_between first last = sym (ap (take (last - (first - 1))) (drop_all (first - 1) [] (omega arith))
    ∙ take_all (last - (first - 1)) [] (omega arith))

pub all_between : (first last count late : ℕ) (old new es : List Entry) → KeepsBetween first last count late old new es → count ≡ 0 →
    old ≡ [] → new ≡ between first last es
all_between first last count late old new es k none nothing =
    k.kept [] (sym none) (nothing ∙ nothing_between first last)

pub all_counted : (first last count late : ℕ) (old new es : List Entry) → KeepsBetween first last count late old new es → count ≡ 0 →
    late ≡ length es
all_counted first last count late old new es k none = let c = k.counted in omega (arith, c, none)
