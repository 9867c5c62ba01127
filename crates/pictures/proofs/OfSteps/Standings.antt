-- Shapes that are in others: the column of each statement, and in it the boxes of its processors.
use Rattle.std.proofs.Common.{◌≡◌, ◌∙◌, ◌<◌, ◌≤◌, ◌+◌, ◌-◌, ◌*◌, ◌/◌, ◌%◌, ◌++◌, ◌∷◌, ⊎_elim, [], List, ℕ, zero, suc, ℤ, Bool, true}
use Rattle.std.proofs.Common.{false, None, Some, ap, arith, drop, get_or, length, refl, subst, sym, take}
use Rattle.std.proofs.Math.Nat.{mul-div_cancel}
use Rattle.std.specs.List.{Contains}
use Rattle.std.specs.Ordering.{int_eq}
use Rattle.std.proofs.lemmas.Bool.{cases_lt}
use Rattle.std.proofs.lemmas.Bool.Decides.{Decides-int_eq}
use Rattle.std.proofs.lemmas.Grind.{common_steps}
use Rattle.std.proofs.lemmas.List.{drop-append-le, get_or_append_left, get_or_default, get_or-append-add, length-append, length-drop}
use Rattle.std.proofs.lemmas.List.{drop_all, length-take-le}
use Rattle.std.proofs.lemmas.List.Elements.{Contains-append_left, Contains-append_right}
use Rattle.pram_model.specs.Layout.{SharedEntry}
use Rattle.journal.specs.Entries.{Act, Entry}
use Rattle.pictures.specs.Steps.Bands.{band_front, columns_from, front_of, label, label_line, labels_from, titles, with_front}
use Rattle.pictures.specs.Steps.Columns.{act_at, act_drawn, act_drawn_by, acts_drawn, all_met, column, heading, met_at, met_drawn}
use Rattle.pictures.specs.Steps.Columns.{more_acting, more_at, processors, without_row}
use Rattle.pictures.specs.Acts.{acts_in}
use Rattle.pictures.specs.Steps.Drawn.{Numbered, drawn, first_drawn, last_drawn, last_number, met_in, missing, numbered}
use Rattle.pictures.specs.Steps.Drawn.{place_of, rows_of}
use Rattle.pictures.specs.Steps.Marks.{box, outline}
use Rattle.pictures.specs.Steps.Measures.{Column, Frame, band_height, bands_end, column_at, column_left, frame_of, row_top, rows_top}
use Rattle.pictures.specs.Steps.Picture.{drawing, ending, ending_of, first_ending, foot, foot_line, gap_words, head, key, lines, picture}
use Rattle.pictures.specs.Steps.Picture.{rest_words, rows_line, statements_line, statements_with, table}
use Rattle.svg_texts.proofs.Inside.{in_first, in_second, itself, within}
use Rattle.svg_texts.specs.Shapes.{IsIn, Over, Shape}
use Rattle.pictures.specs.declared.steps.frame.Part.{Part}
use Rattle.pictures.specs.Steps.ProgramLines.{line_of}
use Rattle.pictures.specs.Steps.Standing.{StandsAt, column_of, top_of}
use Rattle.pictures.proofs.OfSteps.ColumnTexts.{front_here}
use Rattle.pictures.proofs.OfSteps.Contained.{further}

-- ---- columns

columns_hold : (f : Frame) (j k : ℕ) (es : List Entry) (n : ℕ) (d : Numbered) → n < length (numbered k es) →
    get_or (numbered k es) n d ≡ d →
    IsIn (with_front f (j + n) d.number d.entry) (columns_from f j k es)
columns_hold f j k [] n d within is = absurd (omega (arith, within))
columns_hold f j k (e ∷ es) zero d within is =
    let same : j ≡ j + 0 = omega arith in
    let first = with_front f j k e in
    let there : IsIn first (columns_from f j k (e ∷ es)) = in_first first first (columns_from f (j + 1) (k + 1) es) (itself first) in
    let moved : IsIn (with_front f (j + 0) k e) (columns_from f j k (e ∷ es)) =
    subst (λ m. IsIn (with_front f m k e) (columns_from f j k (e ∷ es))) same there in
    subst (λ (x : Numbered). IsIn (with_front f (j + 0) x.number x.entry) (columns_from f j k (e ∷ es))) is moved
columns_hold f j k (e ∷ es) (suc n) d within is =
    let same : (j + 1) + n ≡ j + suc n = omega arith in
    let inner : n < length (numbered (k + 1) es) = omega (arith, within) in
    let it = with_front f ((j + 1) + n) d.number d.entry in
    subst (λ m. IsIn (with_front f m d.number d.entry) (columns_from f j k (e ∷ es))) same
    (in_second it (with_front f j k e) (columns_from f (j + 1) (k + 1) es) (columns_hold f (j + 1) (k + 1) es n d inner is))

-- ---- what is drawn

numbered_long : (k : ℕ) (es : List Entry) → length (numbered k es) ≡ length es
numbered_long k [] = refl
numbered_long k (e ∷ es) = ap suc (numbered_long (k + 1) es)

first_all : (es : List Entry) → length es ≤ 112 → first_drawn es ≡ es
first_all es few = grind (arith, common_steps)

last_none : (es : List Entry) → length es ≤ 112 → last_drawn es ≡ []
last_none es few = grind (arith, common_steps)

first_some : (es : List Entry) → 112 < length es → first_drawn es ≡ take 96 es
first_some es many = grind (arith, common_steps)

last_some : (es : List Entry) → 112 < length es → last_drawn es ≡ drop (length es - 16) es
last_some es many = grind (arith, common_steps)

-- where there are last ones, 96 stand before them
full : (es : List Entry) → 0 < length (last_drawn es) → length (first_drawn es) ≡ 96
full es some = ⊎_elim
    (λ (many : 112 < length es). ap length (first_some es many) ∙ length-take-le 96 es (omega (arith, many)))
    (λ (few : length es ≤ 112). absurd (let none = ap length (last_none es few) in omega (arith, some, none)))
    (cases_lt 112 (length es))

table_holds : (f : Frame) (es : List Entry) (j : ℕ) (d : Numbered) → StandsAt es j d →
    IsIn (with_front f j d.number d.entry) (table f es)
table_holds f es j d at =
    let front = numbered 1 (first_drawn es) in
    let back = numbered (last_number es) (last_drawn es) in
    let it = with_front f j d.number d.entry in
    let firsts = columns_from f 0 1 (first_drawn es) in
    let lasts = columns_from f 96 (last_number es) (last_drawn es) in
    let within = at.0 in
    let long = length-append front back in
    ⊎_elim
    (λ (left : j < length front). (
    let is : get_or front j d ≡ d = sym (get_or_append_left front back d j left) ∙ at.1 in
    let same : 0 + j ≡ j = omega arith in
    in_first it firsts lasts (subst (λ m. IsIn (with_front f m d.number d.entry) firsts) same
    (columns_hold f 0 1 (first_drawn es) j d left is))))
    (λ (right : length front ≤ j). (
    let m = j - length front in
    let back_long = numbered_long (last_number es) (last_drawn es) in
    let front_long = numbered_long 1 (first_drawn es) in
    let inner : m < length back = omega (arith, within, right, long) in
    let some : 0 < length (last_drawn es) = omega (arith, inner, back_long) in
    let before = full es some in
    let place : length front + m ≡ j = omega (arith, right) in
    let is : get_or back m d ≡ d = sym (get_or-append-add front back m d) ∙ ap (λ n. get_or (front ++ back) n d) place ∙ at.1 in
    let same : 96 + m ≡ j = omega (arith, right, before, front_long) in
    in_second it firsts lasts (subst (λ n. IsIn (with_front f n d.number d.entry) lasts) same
    (columns_hold f 96 (last_number es) (last_drawn es) m d inner is))))
    (cases_lt j (length front))

-- what is in the table, in the head or below the bands
in_table : (s : Shape) (f : Frame) (es : List Entry) → IsIn s (table f es) → IsIn s (drawing f es)
in_table s f es is =
    in_second s (head f.part (length es) (length f.rows)) (Over (table f es) (foot f es)) (in_first s (table f es) (foot f es) is)

in_foot : (s : Shape) (f : Frame) (es : List Entry) → IsIn s (foot f es) → IsIn s (drawing f es)
in_foot s f es is =
    in_second s (head f.part (length es) (length f.rows)) (Over (table f es) (foot f es)) (in_second s (table f es) (foot f es) is)

with_front_stands : (layout : List SharedEntry) (text : List ℕ) (part : Part) (es : List Entry) (j : ℕ) (d : Numbered) → StandsAt es j d →
    IsIn (with_front (frame_of layout text part es) j d.number d.entry) (picture layout text part es).shape
with_front_stands layout text part es j d at =
    let f = frame_of layout text part es in
    in_table (with_front f j d.number d.entry) f es (table_holds f es j d at)

pub column_stands : (layout : List SharedEntry) (text : List ℕ) (part : Part) (es : List Entry) (j : ℕ) (d : Numbered) → StandsAt es j d →
    IsIn (column (frame_of layout text part es) (column_of layout text part es j d) d.entry) (picture layout text part es).shape
column_stands layout text part es j d at =
    let f = frame_of layout text part es in
    let it = column f (column_at f j d.number) d.entry in
    within it (with_front f j d.number d.entry) (picture layout text part es).shape (in_second it (front_of f j) it (itself it))
    (with_front_stands layout text part es j d at)

-- ---- the last statement

last_numbered : (k : ℕ) (es : List Entry) (e : Entry) →
    Contains (numbered k (es ++ e ∷ [])) (record { number = k + length es; entry = e })
last_numbered k [] e =
    let same : k ≡ k + 0 = omega arith in
    (0, omega arith, ap (λ n. record { number = n; entry = e }) same)
last_numbered k (x ∷ es) e =
    let same : (k + 1) + length es ≡ k + suc (length es) = omega arith in
    further (record { number = k; entry = x }) (record { number = k + suc (length es); entry = e }) (numbered (k + 1) (es ++ e ∷ []))
    (subst (λ n. Contains (numbered (k + 1) (es ++ e ∷ [])) (record { number = n; entry = e })) same (last_numbered (k + 1) es e))

pub last_is_drawn : (es : List Entry) (e : Entry) → Contains (drawn (es ++ e ∷ [])) (record { number = length es + 1; entry = e })
last_is_drawn es e =
    let all = es ++ e ∷ [] in
    let long : length all ≡ length es + 1 = length-append es (e ∷ []) in
    let d : Numbered = record { number = length es + 1; entry = e } in
    ⊎_elim
    (λ (many : 112 < length all). (
    let n = length all - 16 in
    let inner : n ≤ length es = omega (arith, long) in
    let cut : last_drawn all ≡ drop n es ++ e ∷ [] = last_some all many ∙ drop-append-le n es (e ∷ []) inner in
    let left = length-drop n es in
    let number : last_number all + length (drop n es) ≡ length es + 1 = omega (arith, long, many, left) in
    let there = subst (λ m. Contains (numbered (last_number all) (drop n es ++ e ∷ [])) (record { number = m; entry = e })) number
    (last_numbered (last_number all) (drop n es) e) in
    Contains-append_right (numbered 1 (first_drawn all)) (numbered (last_number all) (last_drawn all)) d
    (subst (λ xs. Contains (numbered (last_number all) xs) d) (sym cut) there)))
    (λ (few : length all ≤ 112). (
    let number : 1 + length es ≡ length es + 1 = omega arith in
    let there = subst (λ m. Contains (numbered 1 all) (record { number = m; entry = e })) number (last_numbered 1 es e) in
    Contains-append_left (numbered 1 (first_drawn all)) (numbered (last_number all) (last_drawn all)) d
    (subst (λ xs. Contains (numbered 1 xs) d) (sym (first_all all few)) there)))
    (cases_lt 112 (length all))

-- ---- what is left out

drawn_long : (es : List Entry) → length (drawn es) ≡ length (first_drawn es) + length (last_drawn es)
drawn_long es =
    let long = length-append (numbered 1 (first_drawn es)) (numbered (last_number es) (last_drawn es)) in
    let front = numbered_long 1 (first_drawn es) in
    let back = numbered_long (last_number es) (last_drawn es) in
    omega (arith, long, front, back)

pub many_more : (es : List Entry) → length (drawn es) < length es → 112 < length es
many_more es less = ⊎_elim (λ (many : 112 < length es). many)
    (λ (few : length es ≤ 112). absurd (
    let long = drawn_long es in
    let front = ap length (first_all es few) in
    omega (arith, less, long, front)))
    (cases_lt 112 (length es))

pub left_out : (es : List Entry) → length (drawn es) < length es → length (drawn es) + (length es - 112) ≡ length es
left_out es less =
    let many = many_more es less in
    let long = drawn_long es in
    let front : length (first_drawn es) ≡ 96 = ap length (first_some es many) ∙ length-take-le 96 es (omega (arith, many)) in
    let back = ap length (last_some es many) in
    let back_long = length-drop (length es - 16) es in
    omega (arith, many, long, front, back, back_long)

told : (p : Part) (n : ℕ) → 112 < n → gap_words p n ≡ rest_words p n
told p n many = grind (arith, common_steps)

pub statements_told : (layout : List SharedEntry) (text : List ℕ) (part : Part) (es : List Entry) → length (drawn es) < length es →
    IsIn (statements_with part (length es) (gap_words part (length es))) (picture layout text part es).shape
statements_told layout text part es less =
    let f = frame_of layout text part es in
    let n = length es in
    let it = statements_with part n (gap_words part n) in
    let line = statements_line part n in
    in_first it (head part n (length f.rows)) (Over (table f es) (foot f es))
    (in_first it (lines part n (length f.rows)) key
    (in_first it line (rows_line (length f.rows))
    (subst (λ w. IsIn it (statements_with part n w)) (told part n (many_more es less)) (itself it))))

-- ---- processors in their column

acts_hold : (layout : List SharedEntry) (rows : List ℤ) (c : Column) (acts : List Act) (k : ℕ) (a : Act) → k < length acts →
    get_or acts k a ≡ a → IsIn (act_drawn layout rows c a) (acts_drawn layout rows c acts)
acts_hold layout rows c [] k a within is = absurd (omega (arith, within))
acts_hold layout rows c (x ∷ acts) zero a within is =
    let it = act_drawn layout rows c a in
    subst (λ (y : Act). IsIn it (Over (act_drawn layout rows c y) (acts_drawn layout rows c acts))) (sym is)
    (in_first it it (acts_drawn layout rows c acts) (itself it))
acts_hold layout rows c (x ∷ acts) (suc k) a within is =
    let inner : k < length acts = omega (arith, within) in
    in_second (act_drawn layout rows c a) (act_drawn layout rows c x) (acts_drawn layout rows c acts)
    (acts_hold layout rows c acts k a inner is)

met_hold : (rows : List ℤ) (c : Column) (met : List ℤ) (k : ℕ) (i : ℤ) → k < length met → get_or met k i ≡ i →
    IsIn (met_drawn rows c i) (all_met rows c met)
met_hold rows c [] k i within is = absurd (omega (arith, within))
met_hold rows c (x ∷ met) zero i within is =
    let it = met_drawn rows c i in
    subst (λ y. IsIn it (Over (met_drawn rows c y) (all_met rows c met))) (sym is) (in_first it it (all_met rows c met) (itself it))
met_hold rows c (x ∷ met) (suc k) i within is =
    let inner : k < length met = omega (arith, within) in
    in_second (met_drawn rows c i) (met_drawn rows c x) (all_met rows c met) (met_hold rows c met k i inner is)

-- what is drawn of those that act, of those that met, and of how many have no row
in_column : (s : Shape) (f : Frame) (c : Column) (e : Entry) →
    IsIn s (processors f.layout f.rows c (acts_in e) (met_in e)) → IsIn s (column f c e)
in_column s f c e is = in_second s (heading f.text c (line_of e)) (processors f.layout f.rows c (acts_in e) (met_in e)) is

acting_in : (s : Shape) (f : Frame) (c : Column) (e : Entry) → IsIn s (acts_drawn f.layout f.rows c (acts_in e)) → IsIn s (column f c e)
acting_in s f c e is = in_column s f c e (in_first s (acts_drawn f.layout f.rows c (acts_in e))
    (Over (all_met f.rows c (met_in e)) (without_row f.rows c (acts_in e))) is)

met_inside : (s : Shape) (f : Frame) (c : Column) (e : Entry) → IsIn s (all_met f.rows c (met_in e)) → IsIn s (column f c e)
met_inside s f c e is = in_column s f c e (in_second s (acts_drawn f.layout f.rows c (acts_in e))
    (Over (all_met f.rows c (met_in e)) (without_row f.rows c (acts_in e)))
    (in_first s (all_met f.rows c (met_in e)) (without_row f.rows c (acts_in e)) is))

missing_in : (s : Shape) (f : Frame) (c : Column) (e : Entry) → IsIn s (without_row f.rows c (acts_in e)) → IsIn s (column f c e)
missing_in s f c e is = in_column s f c e (in_second s (acts_drawn f.layout f.rows c (acts_in e))
    (Over (all_met f.rows c (met_in e)) (without_row f.rows c (acts_in e)))
    (in_second s (all_met f.rows c (met_in e)) (without_row f.rows c (acts_in e)) is))

-- one that has a row is found there
found_by : (x : ℤ) (xs : List ℤ) (i : ℤ) (b : Bool) (k : ℕ) → (Contains xs i → place_of xs i < length xs) → int_eq x i ≡ b →
    k < length (x ∷ xs) → get_or (x ∷ xs) k i ≡ i → place_of (x ∷ xs) i < length (x ∷ xs)
found_by x xs i true k rest same within is = let at : place_of (x ∷ xs) i ≡ 0 = rw same in omega (arith, at)
found_by x xs i false zero rest same within is =
    absurd (let yes = (Decides-int_eq x i).1 is in grind (arith, common_steps))
found_by x xs i false (suc k) rest same within is =
    let inner : k < length xs = omega (arith, within) in
    let found = rest (k, inner, is) in
    let at : place_of (x ∷ xs) i ≡ 1 + place_of xs i = rw same in
    omega (arith, found, at)

pub is_found : (rows : List ℤ) (i : ℤ) → Contains rows i → place_of rows i < length rows
is_found [] i c = let within = c.1 in absurd (omega (arith, within))
is_found (x ∷ xs) i c = found_by x xs i (int_eq x i) c.0 (is_found xs i) refl c.1 c.2

boxed : (layout : List SharedEntry) (rows : List ℤ) (c : Column) (n : ℕ) (a : Act) → n < length rows →
    act_at layout rows c n a ≡ box layout c.x (row_top c.y (n + 1)) a
boxed layout rows c n a within = grind (arith, common_steps)

outlined : (rows : List ℤ) (c : Column) (n : ℕ) (i : ℤ) → n < length rows → met_at rows c n i ≡ outline c.x (row_top c.y (n + 1)) i
outlined rows c n i within = grind (arith, common_steps)

pub box_stands : (layout : List SharedEntry) (text : List ℕ) (part : Part) (es : List Entry) (j : ℕ) (d : Numbered) (a : Act) (i : ℤ) →
    StandsAt es j d →
    Contains (acts_in d.entry) a → a.processor ≡ Some i → Contains (rows_of es) i →
    IsIn (box layout (column_left j) (row_top (top_of layout text es j) (place_of (rows_of es) i + 1)) a) (picture layout text part
    es).shape
box_stands layout text part es j d a i at one is has =
    let f = frame_of layout text part es in
    let c = column_of layout text part es j d in
    let rows = rows_of es in
    let it = box layout c.x (row_top c.y (place_of rows i + 1)) a in
    let drawn_is : act_drawn layout rows c a ≡ it =
    ap (λ p. act_drawn_by layout rows c a p) is ∙ boxed layout rows c (place_of rows i) a (is_found rows i has) in
    let stands_there = acts_hold layout rows c (acts_in d.entry) one.0 a one.1 one.2 in
    let inside : IsIn (act_drawn layout rows c a) (column f c d.entry) = acting_in (act_drawn layout rows c a) f c d.entry stands_there in
    within it (column f c d.entry) (picture layout text part es).shape (subst (λ s. IsIn s (column f c d.entry)) drawn_is inside)
    (column_stands layout text part es j d at)

-- the one outside pardo has no index, and the row of number 0
pub outside_stands : (layout : List SharedEntry) (text : List ℕ) (part : Part) (es : List Entry) (j : ℕ) (d : Numbered) (a : Act) →
    StandsAt es j d → Contains (acts_in d.entry) a → a.processor ≡ None →
    IsIn (box layout (column_left j) (row_top (top_of layout text es j) 0) a) (picture layout text part es).shape
outside_stands layout text part es j d a at one is =
    let f = frame_of layout text part es in
    let c = column_of layout text part es j d in
    let rows = rows_of es in
    let it = box layout c.x (row_top c.y 0) a in
    let drawn_is : act_drawn layout rows c a ≡ it = ap (λ p. act_drawn_by layout rows c a p) is in
    let stands_there = acts_hold layout rows c (acts_in d.entry) one.0 a one.1 one.2 in
    let inside : IsIn (act_drawn layout rows c a) (column f c d.entry) = acting_in (act_drawn layout rows c a) f c d.entry stands_there in
    within it (column f c d.entry) (picture layout text part es).shape (subst (λ s. IsIn s (column f c d.entry)) drawn_is inside)
    (column_stands layout text part es j d at)

-- what is said below the bands of the last statement
pub ending_stands : (layout : List SharedEntry) (text : List ℕ) (part : Part) (es : List Entry) (e : Entry) →
    IsIn (ending_of layout (foot_line (frame_of layout text part (es ++ e ∷ [])) (length (es ++ e ∷ []))) e)
    (picture layout text part (es ++ e ∷ [])).shape
ending_stands layout text part es e =
    let all = es ++ e ∷ [] in
    let f = frame_of layout text part all in
    let n = length all in
    let y = foot_line f n in
    let it = ending_of layout y e in
    let long : n ≡ length es + 1 = length-append es (e ∷ []) in
    let before : n - 1 ≡ length es = omega (arith, long) in
    let inner : length es ≤ length es = let q : ℕ = length es in let r : q ≤ q = omega arith in r in
    let last : drop (n - 1) all ≡ e ∷ [] = ap (λ k. drop k all) before ∙ drop-append-le (length es) es (e ∷ []) inner
    ∙ ap (λ l. l ++ e ∷ []) (drop_all (length es) es inner) in
    let is : ending layout y all ≡ it = ap (first_ending layout y) last in
    in_foot it f all (subst (λ s. IsIn it s) (sym is) (itself it))

pub outline_stands : (layout : List SharedEntry) (text : List ℕ) (part : Part) (es : List Entry) (j : ℕ) (d : Numbered) (i : ℤ) →
    StandsAt es j d →
    Contains (met_in d.entry) i → Contains (rows_of es) i →
    IsIn (outline (column_left j) (row_top (top_of layout text es j) (place_of (rows_of es) i + 1)) i) (picture layout text part es).shape
outline_stands layout text part es j d i at one has =
    let f = frame_of layout text part es in
    let c = column_of layout text part es j d in
    let rows = rows_of es in
    let it = outline c.x (row_top c.y (place_of rows i + 1)) i in
    let drawn_is = outlined rows c (place_of rows i) i (is_found rows i has) in
    let stands_there = met_hold rows c (met_in d.entry) one.0 i one.1 one.2 in
    let inside : IsIn (met_drawn rows c i) (column f c d.entry) = met_inside (met_drawn rows c i) f c d.entry stands_there in
    within it (column f c d.entry) (picture layout text part es).shape (subst (λ s. IsIn s (column f c d.entry)) drawn_is inside)
    (column_stands layout text part es j d at)

more_is : (rows : ℕ) (c : Column) (n : ℕ) → 0 < n → more_at c.x (row_top c.y (rows + 1) + 13) n ≡ more_acting rows c n
more_is rows c n some = grind (arith, common_steps)

pub more_told : (layout : List SharedEntry) (text : List ℕ) (part : Part) (es : List Entry) (j : ℕ) (d : Numbered) → StandsAt es j d →
    0 < missing (rows_of es) (acts_in d.entry) →
    IsIn (more_at (column_left j) (row_top (top_of layout text es j) (length (rows_of es) + 1) + 13)
    (missing (rows_of es) (acts_in d.entry)))
    (picture layout text part es).shape
more_told layout text part es j d at some =
    let f = frame_of layout text part es in
    let c = column_of layout text part es j d in
    let rows = rows_of es in
    let n = missing rows (acts_in d.entry) in
    let it = more_at c.x (row_top c.y (length rows + 1) + 13) n in
    let inside : IsIn it (column f c d.entry) =
    missing_in it f c d.entry (subst (λ s. IsIn it s) (more_is (length rows) c n some) (itself it)) in
    within it (column f c d.entry) (picture layout text part es).shape inside (column_stands layout text part es j d at)

-- ---- places

pub within_page : (j : ℕ) → column_left j + 64 ≤ 1200
within_page j = let small : j % 16 < 16 = grind (arith, common_steps) in omega (arith, small)

-- bands of some height, as many above one another as above the others
same_bands : (h a b : ℕ) → 0 < h → a * h ≡ b * h → a ≡ b
same_bands h a b tall is = sym (mul-div_cancel a tall) ∙ ap (λ n. n / h) is ∙ mul-div_cancel b tall

pub one_place : (f : Frame) (i j : ℕ) → column_left i ≡ column_left j → rows_top f i ≡ rows_top f j → i ≡ j
one_place f i j across down =
    let beside : i % 16 ≡ j % 16 = omega (arith, across) in
    let tall : 0 < band_height f = omega arith in
    let heights : (i / 16) * band_height f ≡ (j / 16) * band_height f = omega (arith, down) in
    let bands : i / 16 ≡ j / 16 = same_bands (band_height f) (i / 16) (j / 16) tall heights in
    omega (arith, beside, bands)

-- ---- names of rows

labels_by : (top row : ℕ) (x : ℤ) (xs : List ℤ) (i : ℤ) (b : Bool) (k : ℕ) →
    (Contains xs i → IsIn (label (label_line top ((row + 1) + place_of xs i)) i) (labels_from top (row + 1) xs)) → int_eq x i ≡ b →
    k < length (x ∷ xs) → get_or (x ∷ xs) k i ≡ i →
    IsIn (label (label_line top (row + place_of (x ∷ xs) i)) i) (labels_from top row (x ∷ xs))
labels_by top row x xs i true k rest same within is =
    let at : row ≡ row + place_of (x ∷ xs) i = (let here : place_of (x ∷ xs) i ≡ 0 = rw same in omega (arith, here)) in
    let it : x ≡ i = (Decides-int_eq x i).0 same in
    let first = label (label_line top row) x in
    let there : IsIn (label (label_line top row) i) (labels_from top row (x ∷ xs)) =
    subst (λ y. IsIn (label (label_line top row) y) (labels_from top row (x ∷ xs))) it
    (in_first first first (labels_from top (row + 1) xs) (itself first)) in
    subst (λ n. IsIn (label (label_line top n) i) (labels_from top row (x ∷ xs))) at there
labels_by top row x xs i false zero rest same within is =
    absurd (let yes = (Decides-int_eq x i).1 is in grind (arith, common_steps))
labels_by top row x xs i false (suc k) rest same within is =
    let inner : k < length xs = omega (arith, within) in
    let at : (row + 1) + place_of xs i ≡ row + place_of (x ∷ xs) i =
    (let here : place_of (x ∷ xs) i ≡ 1 + place_of xs i = rw same in omega (arith, here)) in
    in_second (label (label_line top (row + place_of (x ∷ xs) i)) i) (label (label_line top row) x) (labels_from top (row + 1) xs)
    (subst (λ n. IsIn (label (label_line top n) i) (labels_from top (row + 1) xs)) at (rest (k, inner, is)))

labels_hold : (rows : List ℤ) (i : ℤ) (top row : ℕ) → Contains rows i →
    IsIn (label (label_line top (row + place_of rows i)) i) (labels_from top row rows)
labels_hold [] i top row c = let within = c.1 in absurd (omega (arith, within))
labels_hold (x ∷ xs) i top row c = labels_by top row x xs i (int_eq x i) c.0 (labels_hold xs i top (row + 1)) refl c.1 c.2

pub name_stands : (layout : List SharedEntry) (text : List ℕ) (part : Part) (es : List Entry) (j : ℕ) (d : Numbered) (i : ℤ) →
    StandsAt es j d →
    Contains (rows_of es) i →
    IsIn (label (label_line (top_of layout text es j) (place_of (rows_of es) i + 1)) i) (picture layout text part es).shape
name_stands layout text part es j d i at has =
    let f = frame_of layout text part es in
    let rows = rows_of es in
    let b = (j / 16) * 16 in
    let bound = at.0 in
    let before : b < length (drawn es) = omega (arith, bound) in
    let start : b % 16 ≡ 0 = omega arith in
    let band : b / 16 ≡ j / 16 = omega arith in
    let e : Numbered = get_or (drawn es) b d in
    let found = with_front_stands layout text part es b e (before, sym (get_or_default (drawn es) b d e before)) in
    let top : rows_top f b ≡ rows_top f j = ap (λ n. bands_end f n + (7 * f.letters + 50)) band in
    let front : band_front rows (rows_top f j) ≡ front_of f b = front_here f b (rows_top f j) start (sym top) in
    let number : 1 + place_of rows i ≡ place_of rows i + 1 = omega arith in
    let it = label (label_line (rows_top f j) (place_of rows i + 1)) i in
    let in_labels : IsIn it (band_front rows (rows_top f j)) =
    in_second it (titles (rows_top f j)) (labels_from (rows_top f j) 1 rows)
    (subst (λ n. IsIn (label (label_line (rows_top f j) n) i) (labels_from (rows_top f j) 1 rows)) number
    (labels_hold rows i (rows_top f j) 1 has)) in
    within it (with_front f b e.number e.entry) (picture layout text part es).shape
    (in_first it (front_of f b) (column f (column_at f b e.number) e.entry) (subst (λ s. IsIn it s) front in_labels)) found
