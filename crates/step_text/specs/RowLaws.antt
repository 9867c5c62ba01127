-- The lines of entries that come one after the other.
use Rattle.std.proofs.Common.{◌≡◌, ◌∙◌, ◌+◌, ◌≤◌, ◌++◌, ◌∷◌, [], ◌&&◌, Bool, true, false, List, ℕ, ap, append_assoc, arith, if◌then◌else◌}
use Rattle.std.proofs.Common.{nat_le, nat_lt, refl, sym}
use Rattle.std.proofs.lemmas.Bool.{le-leb, le-ltb, lt-leb, ltb-false, ltb-true}
use Rattle.pram_model.specs.Layout.{SharedEntry}
use Rattle.journal.specs.Entries.{Entry}
use Rattle.step_text.specs.declared.telling.Telling.{Telling}
use Rattle.step_text.specs.StepText.{line_within, lines_from, told_line}
use Rattle.step_text.specs.Passing.{is_told, one_more, passed}

-- ---- one entry

pub within_is : (last c : ℕ) (b : Bool) → nat_lt c last ≡ b → b ≡ nat_le (c + 1) last
within_is last c true h = let l = ltb-true c last h in sym (le-leb (c + 1) last (omega (arith, l)))
within_is last c false h = let l = ltb-false c last h in sym (lt-leb (c + 1) last (omega (arith, l)))

pub swapped : (a b : Bool) → (a && b) ≡ (b && a)
swapped true true = refl
swapped true false = refl
swapped false true = refl
swapped false false = refl

-- the line of an entry behind c others
pub line_is : (layout : List SharedEntry) (telling : Telling) (first last c : ℕ) (e : Entry) →
    line_within layout telling first last (c + 1) e
    ≡ (if is_told first last c then told_line layout telling (c + 1) e else [])
line_is layout telling first last c e =
    let line : Bool → List ℕ = λ b. if b then told_line layout telling (c + 1) e else [] in
    ap line (swapped (nat_le first (c + 1)) (nat_le (c + 1) last)
    ∙ ap (λ b. b && nat_le first (c + 1)) (sym (within_is last c (nat_lt c last) refl)))

pub told_counts : (first last c : ℕ) → is_told first last c ≡ true → one_more last c ≡ c + 1
told_counts first last c h = by (nat_lt c last) h
  where
    by : (b : Bool) → (b && nat_le first (c + 1)) ≡ true → (if b then c + 1 else c) ≡ c + 1
    by true h = refl
    by false h = absurd (cc h)

-- ---- those behind the last

nothing_past : (layout : List SharedEntry) (telling : Telling) (first last c : ℕ) (e : Entry) → last ≤ c →
    line_within layout telling first last (c + 1) e ≡ []
nothing_past layout telling first last c e l =
    line_is layout telling first last c e
    ∙ ap (λ b. if b && nat_le first (c + 1) then told_line layout telling (c + 1) e else []) (le-ltb c last l)

no_lines_past : (layout : List SharedEntry) (telling : Telling) (first last c : ℕ) (es : List Entry) → last ≤ c →
    lines_from layout telling first last (c + 1) es ≡ []
no_lines_past layout telling first last c [] l = refl
no_lines_past layout telling first last c (e ∷ es) l =
    ap (λ line. line ++ lines_from layout telling first last ((c + 1) + 1) es) (nothing_past layout telling first last c e l)
    ∙ no_lines_past layout telling first last (c + 1) es (omega (arith, l))

pub none_passes : (last c : ℕ) (es : List Entry) → nat_lt c last ≡ false → passed last c es ≡ c
none_passes last c [] h = refl
none_passes last c (e ∷ es) h = ap (λ b. passed last (if b then c + 1 else c) es) h ∙ none_passes last c es h

-- ---- some entries, and others behind them

pub passed_both : (last c : ℕ) (xs ys : List Entry) → passed last c (xs ++ ys) ≡ passed last (passed last c xs) ys
passed_both last c [] ys = refl
passed_both last c (x ∷ xs) ys = passed_both last (one_more last c) xs ys

pub lines_behind : (layout : List SharedEntry) (telling : Telling) (first last c : ℕ) (xs ys : List Entry) →
    lines_from layout telling first last (c + 1) (xs ++ ys)
    ≡ lines_from layout telling first last (c + 1) xs ++ lines_from layout telling first last (passed last c xs + 1) ys
lines_behind layout telling first last c [] ys = refl
lines_behind layout telling first last c (x ∷ xs) ys =
    ap (λ l. line_within layout telling first last (c + 1) x ++ l)
    (by (nat_lt c last) refl (lines_behind layout telling first last (c + 1) xs ys))
    ∙ sym (append_assoc (line_within layout telling first last (c + 1) x) (lines_from layout telling first last ((c + 1) + 1) xs)
    (lines_from layout telling first last (passed last (one_more last c) xs + 1) ys))
  where
    by : (b : Bool) → nat_lt c last ≡ b → lines_from layout telling first last ((c + 1) + 1) (xs ++ ys)
        ≡ lines_from layout telling first last ((c + 1) + 1) xs ++ lines_from layout telling first last (passed last (c + 1) xs + 1) ys →
        lines_from layout telling first last ((c + 1) + 1) (xs ++ ys) ≡ lines_from layout telling first last ((c + 1) + 1) xs
        ++ lines_from layout telling first last (passed last (if b then c + 1 else c) xs + 1) ys
    by true h go = go
    by false h go =
        let l : last ≤ c = ltb-false c last h in
        let m : last ≤ c + 1 = omega (arith, l) in
        no_lines_past layout telling first last (c + 1) (xs ++ ys) m
        ∙ sym (ap (λ l. l ++ lines_from layout telling first last (passed last c xs + 1) ys)
        (no_lines_past layout telling first last (c + 1) xs m)
        ∙ ap (λ c. lines_from layout telling first last (c + 1) ys) (none_passes last c xs h)
        ∙ no_lines_past layout telling first last c ys l)
