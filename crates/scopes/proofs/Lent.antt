-- Which cells are handed on.
use Rattle.std.proofs.Common.{◌≡◌, ℕ, ◌+◌, ◌-◌, ◌≤◌, Bool, true, false, cond, Option, Some, None, ℤ, pos, List, [], ◌∷◌, ◌++◌}
use Rattle.std.proofs.Common.{drop, length, map, replicate, take, refl, ap, subst, sym, ◌∙◌, arith}
use Rattle.std.proofs.Math.Seq.{drop-append-add}
use Rattle.std.proofs.lemmas.List.{append_assoc, append-nil, drop_at, drop-append-le, length-append, length-drop, length-replicate}
use Rattle.std.proofs.lemmas.List.{length-take}
use Rattle.std.proofs.lemmas.List.{map-append, take_at, take-append-le}
use Rattle.std.specs.List.{AllByRecursion, find}
use Rattle.std.specs.Option.{option_map}
use Rattle.pram_check.specs.Checked.{Checked}
use Rattle.pram_meaning.specs.Outcome.{opening}
use Rattle.pram_model.specs.Declarations.{AreDifferent, IsNew, names_of}
use Rattle.pram_model.specs.Layout.{SharedEntry, size, total_size}
use Rattle.pram_model.specs.Names.{same_text}
use Rattle.pram_model.proofs.Texts.{same_is, same_itself}
use Rattle.scopes.specs.Handed.{Placed, StandsAt, cells_by, handed, handed_on, is_named, offered, opened, origin_of, placed, same_bounds}
use Rattle.scopes.specs.Handed.{source}
use Rattle.scopes.proofs.Bounds.{bounds_itself, one_bounds}

-- ---- how many cells

pub total_append : (xs ys : List SharedEntry) → total_size (xs ++ ys) ≡ total_size xs + total_size ys
total_append [] ys = omega arith
total_append (x ∷ xs) ys = let e = total_append xs ys in omega (arith, e)

total_opened : (xs : List SharedEntry) → total_size (map opened xs) ≡ total_size xs
total_opened [] = refl
total_opened (x ∷ xs) = let e = total_opened xs in omega (arith, e)

total_offered : (l : List SharedEntry) → total_size (offered l) ≡ total_size l + total_size l
total_offered l = let e = total_append l (map opened l) in let f = total_opened l in omega (arith, e, f)

-- ---- by name

other_of : (b : Bool) → (b ≡ true → ⊥) → b ≡ false
other_of true h = absurd (h refl)
other_of false h = refl

other_name : (a b : List ℕ) → (a ≡ b → ⊥) → same_text a b ≡ false
other_name a b h = other_of (same_text a b) (λ e. h (same_is a b e))

-- the first of that name, behind others
own_found : (k : ℕ) (bs rest : List SharedEntry) (e : SharedEntry) → AllByRecursion (λ (d : SharedEntry). d.name ≡ e.name → ⊥) bs →
    find (is_named e.name) (placed k (bs ++ e ∷ rest)) ≡ Some (record { entry = e; start = k + total_size bs })
own_found k [] rest e h =
    let q : Placed = record { entry = e; start = k } in
    let none : k ≡ k + 0 = omega arith in
    ap (λ (b : Bool). cond b (Some q) (find (is_named e.name) (placed (k + size e.bounds) rest))) (same_itself e.name)
    ∙ ap (λ (j : ℕ). Some (record { entry = e; start = j })) none
own_found k (b ∷ bs) rest e h =
    let q : Placed = record { entry = b; start = k } in
    let far : k + size b.bounds + total_size bs ≡ k + (size b.bounds + total_size bs) = omega arith in
    ap (λ (t : Bool). cond t (Some q) (find (is_named e.name) (placed (k + size b.bounds) (bs ++ e ∷ rest))))
    (other_name b.name e.name h.0)
    ∙ own_found (k + size b.bounds) bs rest e h.1 ∙ ap (λ (j : ℕ). Some (record { entry = e; start = j })) far

-- none of that name
none_found : (k : ℕ) (l rest : List SharedEntry) (name : List ℕ) → IsNew (names_of l) name →
    find (is_named name) (placed k (l ++ rest)) ≡ find (is_named name) (placed (k + total_size l) rest)
none_found k [] rest name h = let none : k ≡ k + 0 = omega arith in ap (λ (j : ℕ). find (is_named name) (placed j rest)) none
none_found k (d ∷ l) rest name h =
    let q : Placed = record { entry = d; start = k } in
    let far : k + size d.bounds + total_size l ≡ k + (size d.bounds + total_size l) = omega arith in
    ap (λ (t : Bool). cond t (Some q) (find (is_named name) (placed (k + size d.bounds) (l ++ rest))))
    (other_name d.name name (λ e. h.0 (sym e)))
    ∙ none_found (k + size d.bounds) l rest name h.1 ∙ ap (λ (j : ℕ). find (is_named name) (placed j rest)) far

new_at : (bs cs : List SharedEntry) (e : SharedEntry) (name : List ℕ) → IsNew (names_of (bs ++ e ∷ cs)) name → name ≡ e.name → ⊥
new_at [] cs e name h = h.0
new_at (b ∷ bs) cs e name h = new_at bs cs e name h.1

none_before : (bs cs : List SharedEntry) (e : SharedEntry) → AreDifferent (names_of (bs ++ e ∷ cs)) →
    AllByRecursion (λ (d : SharedEntry). d.name ≡ e.name → ⊥) bs
none_before [] cs e h = tt
none_before (b ∷ bs) cs e h = (new_at bs cs e b.name h.0, none_before bs cs e h.1)

opened_before : (e : SharedEntry) (bs : List SharedEntry) → AllByRecursion (λ (d : SharedEntry). d.name ≡ e.name → ⊥) bs →
    AllByRecursion (λ (d : SharedEntry). d.name ≡ (opened e).name → ⊥) (map opened bs)
opened_before e [] h = tt
opened_before e (b ∷ bs) h = ((λ same. h.0 (ap (drop 8) same)), opened_before e bs h.1)

-- ---- from where

own_source : (l : List SharedEntry) (e : SharedEntry) (bs cs : List SharedEntry) → l ≡ bs ++ e ∷ cs → AreDifferent (names_of l) →
    source l e.name ≡ Some (record { start = total_size bs; bounds = e.bounds })
own_source l e bs cs is different =
    let parts : offered l ≡ bs ++ e ∷ (cs ++ map opened l) =
    ap (λ (xs : List SharedEntry). xs ++ map opened l) is ∙ append_assoc bs (e ∷ cs) (map opened l) in
    let before = none_before bs cs e (subst (λ (xs : List SharedEntry). AreDifferent (names_of xs)) is different) in
    let none : 0 + total_size bs ≡ total_size bs = omega arith in
    ap (λ (xs : List SharedEntry). option_map origin_of (find (is_named e.name) (placed 0 xs))) parts
    ∙ ap (option_map origin_of) (own_found 0 bs (cs ++ map opened l) e before)
    ∙ ap (λ (k : ℕ). Some (record { start = k; bounds = e.bounds })) none

opening_source : (l : List SharedEntry) (e : SharedEntry) (bs cs : List SharedEntry) → l ≡ bs ++ e ∷ cs → AreDifferent (names_of l) →
    IsNew (names_of l) (opened e).name →
    source l (opened e).name ≡ Some (record { start = total_size l + total_size bs; bounds = e.bounds })
opening_source l e bs cs is different new =
    let name = (opened e).name in
    let parts : map opened l ≡ map opened bs ++ opened e ∷ map opened cs =
    ap (map opened) is ∙ map-append opened bs (e ∷ cs) in
    let before = opened_before e bs (none_before bs cs e (subst (λ (xs : List SharedEntry). AreDifferent (names_of xs)) is different)) in
    let sizes = total_opened bs in
    let far : 0 + total_size l + total_size (map opened bs) ≡ total_size l + total_size bs = omega (arith, sizes) in
    ap (option_map origin_of) (none_found 0 l (map opened l) name new)
    ∙ ap (λ (xs : List SharedEntry). option_map origin_of (find (is_named name) (placed (0 + total_size l) xs))) parts
    ∙ ap (option_map origin_of) (own_found (0 + total_size l) (map opened bs) (map opened cs) (opened e) before)
    ∙ ap (λ (k : ℕ). Some (record { start = k; bounds = e.bounds })) far

no_source : (l : List SharedEntry) (name : List ℕ) → IsNew (names_of (offered l)) name → source l name ≡ None
no_source l name new =
    ap (λ (xs : List SharedEntry). option_map origin_of (find (is_named name) (placed 0 xs))) (sym (append-nil (offered l)))
    ∙ ap (option_map origin_of) (none_found 0 (offered l) [] name new)

-- ---- how many are handed on

fits_step : (k : ℕ) (d : SharedEntry) (l : List SharedEntry) (name : List ℕ) (q : Placed) (b : Bool) →
    (find (is_named name) (placed (k + size d.bounds) l) ≡ Some q →
    q.start + size q.entry.bounds ≤ k + size d.bounds + total_size l) →
    cond b (Some (record { entry = d; start = k })) (find (is_named name) (placed (k + size d.bounds) l)) ≡ Some q →
    q.start + size q.entry.bounds ≤ k + (size d.bounds + total_size l)
fits_step k d l name q true more h =
    let is : (record { entry = d; start = k }) ≡ q = cc h in
    subst (λ (r : Placed). r.start + size r.entry.bounds ≤ k + (size d.bounds + total_size l)) is (omega arith)
fits_step k d l name q false more h = let m = more h in omega (arith, m)

fits : (k : ℕ) (l : List SharedEntry) (name : List ℕ) (q : Placed) → find (is_named name) (placed k l) ≡ Some q →
    q.start + size q.entry.bounds ≤ k + total_size l
fits k [] name q h = absurd (let P : None ≡ Some q → ⊥ = λ e. cc in P h)
fits k (d ∷ l) name q h = fits_step k d l name q (same_text d.name name) (fits (k + size d.bounds) l name q) h

so_many_taken : (n s : ℕ) (cells : List ℤ) → s + n ≤ length cells → length (take n (drop s cells)) ≡ n
so_many_taken n s cells le =
    let t = length-take n (drop s cells) in
    let d = length-drop s cells in
    omega (arith, t, d, le)

lent_length : (cells : List ℤ) (bounds : Option (ℤ × ℤ)) (q : Placed) (b : Bool) → same_bounds q.entry.bounds bounds ≡ b →
    q.start + size q.entry.bounds ≤ length cells →
    length (cond b (take (size bounds) (drop q.start cells)) (replicate (size bounds) (pos 0))) ≡ size bounds
lent_length cells bounds q true e le =
    let same = one_bounds q.entry.bounds bounds e in
    so_many_taken (size bounds) q.start cells
    (subst (λ (c : Option (ℤ × ℤ)). q.start + size c ≤ length cells) same le)
lent_length cells bounds q false e le = length-replicate (size bounds) (pos 0)

by_length : (l : List SharedEntry) (cells : List ℤ) (e : SharedEntry) (o : Option Placed) →
    find (is_named e.name) (placed 0 (offered l)) ≡ o → length cells ≡ total_size (offered l) →
    length (cells_by cells e.bounds (option_map origin_of o)) ≡ size e.bounds
by_length l cells e None h many = length-replicate (size e.bounds) (pos 0)
by_length l cells e (Some q) h many =
    let le = fits 0 (offered l) e.name q h in
    lent_length cells e.bounds q (same_bounds q.entry.bounds e.bounds) refl (omega (arith, le, many))

pub handed_length : (l : List SharedEntry) (cells : List ℤ) (asked : List SharedEntry) → length cells ≡ total_size (offered l) →
    length (handed l cells asked) ≡ total_size asked
handed_length l cells [] many = refl
handed_length l cells (e ∷ es) many =
    let here = cells_by cells e.bounds (source l e.name) in
    let a = length-append here (handed l cells es) in
    let b = by_length l cells e (find (is_named e.name) (placed 0 (offered l))) refl many in
    let c = handed_length l cells es many in
    omega (arith, a, b, c)

-- ---- those of one declaration

handed_append : (l : List SharedEntry) (cells : List ℤ) (xs ys : List SharedEntry) →
    handed l cells (xs ++ ys) ≡ handed l cells xs ++ handed l cells ys
handed_append l cells [] ys = refl
handed_append l cells (x ∷ xs) ys =
    let here = cells_by cells x.bounds (source l x.name) in
    ap (λ (zs : List ℤ). here ++ zs) (handed_append l cells xs ys)
    ∙ sym (append_assoc here (handed l cells xs) (handed l cells ys))

cells_at : (l : List SharedEntry) (cells : List ℤ) (asked : List SharedEntry) (e : SharedEntry) (to : ℕ) →
    length cells ≡ total_size (offered l) → StandsAt asked e to →
    take (size e.bounds) (drop to (handed l cells asked)) ≡ cells_by cells e.bounds (source l e.name)
cells_at l cells asked e to many at =
    let bs = at.0 in
    let cs = at.1 in
    let here = cells_by cells e.bounds (source l e.name) in
    let parts : handed l cells asked ≡ handed l cells bs ++ (here ++ handed l cells cs) =
    ap (handed l cells) at.2 ∙ handed_append l cells bs (e ∷ cs) in
    let long = handed_length l cells bs many in
    let before : length (handed l cells bs) ≡ to = long ∙ sym at.3 in
    ap (λ (zs : List ℤ). take (size e.bounds) (drop to zs)) parts
    ∙ ap (take (size e.bounds)) (drop_at (handed l cells bs) (here ++ handed l cells cs) to before)
    ∙ take_at here (handed l cells cs) (size e.bounds)
    (by_length l cells e (find (is_named e.name) (placed 0 (offered l))) refl many)

taken_by : (cells : List ℤ) (bounds : Option (ℤ × ℤ)) (start : ℕ) →
    cells_by cells bounds (Some (record { start = start; bounds = bounds })) ≡ take (size bounds) (drop start cells)
taken_by cells bounds start =
    ap (λ (b : Bool). cond b (take (size bounds) (drop start cells)) (replicate (size bounds) (pos 0))) (bounds_itself bounds)

-- ---- what a postcondition is handed

pub opening_length : (p : Checked) (input : List ℤ) → length input ≤ total_size p.layout →
    length (opening p input).cells ≡ total_size p.layout
opening_length p input le =
    let zeros = total_size p.layout - length input in
    let a = length-append input (replicate zeros (pos 0)) in
    let b = length-replicate zeros (pos 0) in
    omega (arith, a, b, le)

whole_length : (p : Checked) (input left : List ℤ) → length input ≤ total_size p.layout → length left ≡ total_size p.layout →
    length (left ++ (opening p input).cells) ≡ total_size (offered p.layout)
whole_length p input left le many =
    let a = length-append left (opening p input).cells in
    let b = opening_length p input le in
    let c = total_offered p.layout in
    omega (arith, a, b, c, many)

pub so_many_handed : (p q : Checked) (input left : List ℤ) → length input ≤ total_size p.layout → length left ≡ total_size p.layout →
    length (handed_on p q input left) ≡ total_size q.layout
so_many_handed p q input left le many =
    handed_length p.layout (left ++ (opening p input).cells) q.layout (whole_length p input left le many)

pub left_handed : (p q : Checked) (input left : List ℤ) (e : SharedEntry) (from to : ℕ) → AreDifferent (names_of p.layout) →
    length input ≤ total_size p.layout → length left ≡ total_size p.layout → StandsAt p.layout e from → StandsAt q.layout e to →
    take (size e.bounds) (drop to (handed_on p q input left)) ≡ take (size e.bounds) (drop from left)
left_handed p q input left e from to different le many at asked =
    let l = p.layout in
    let before = (opening p input).cells in
    let n = size e.bounds in
    let sizes = ap total_size at.2 ∙ total_append at.0 (e ∷ at.1) in
    let starts = at.3 in
    let within : from + n ≤ length left = omega (arith, sizes, starts, many) in
    let dropped = length-drop from left in
    let enough : n ≤ length (drop from left) = omega (arith, dropped, within) in
    let first : from ≤ length left = omega (arith, within) in
    cells_at l (left ++ before) q.layout e to (whole_length p input left le many) asked
    ∙ ap (cells_by (left ++ before) e.bounds) (own_source l e at.0 at.1 at.2 different)
    ∙ ap (λ (k : ℕ). cells_by (left ++ before) e.bounds (Some (record { start = k; bounds = e.bounds }))) (sym starts)
    ∙ taken_by (left ++ before) e.bounds from ∙ ap (take n) (drop-append-le from left before first)
    ∙ take-append-le n (drop from left) before enough

pub opening_handed : (p q : Checked) (input left : List ℤ) (e : SharedEntry) (from to : ℕ) → AreDifferent (names_of p.layout) →
    length input ≤ total_size p.layout → length left ≡ total_size p.layout → IsNew (names_of p.layout) (opened e).name →
    StandsAt p.layout e from → StandsAt q.layout (opened e) to →
    take (size e.bounds) (drop to (handed_on p q input left)) ≡ take (size e.bounds) (drop from (opening p input).cells)
opening_handed p q input left e from to different le many new at asked =
    let l = p.layout in
    let before = (opening p input).cells in
    let n = size e.bounds in
    let starts = at.3 in
    let far : total_size l + total_size at.0 ≡ length left + from = omega (arith, starts, many) in
    cells_at l (left ++ before) q.layout (opened e) to (whole_length p input left le many) asked
    ∙ ap (cells_by (left ++ before) e.bounds) (opening_source l e at.0 at.1 at.2 different new)
    ∙ ap (λ (k : ℕ). cells_by (left ++ before) e.bounds (Some (record { start = k; bounds = e.bounds }))) far
    ∙ taken_by (left ++ before) e.bounds (length left + from) ∙ ap (take n) (drop-append-add left before from)

pub zeros_handed : (p q : Checked) (input left : List ℤ) (e : SharedEntry) (to : ℕ) → length input ≤ total_size p.layout →
    length left ≡ total_size p.layout → IsNew (names_of (offered p.layout)) e.name → StandsAt q.layout e to →
    take (size e.bounds) (drop to (handed_on p q input left)) ≡ replicate (size e.bounds) (pos 0)
zeros_handed p q input left e to le many new asked =
    let cells = left ++ (opening p input).cells in
    cells_at p.layout cells q.layout e to (whole_length p input left le many) asked
    ∙ ap (cells_by cells e.bounds) (no_source p.layout e.name new)
