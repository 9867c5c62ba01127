-- A layout's fields, and the cells of its declarations.
use Rattle.std.proofs.Common.{length, get_or, ◌≡◌, ◌+◌, ◌<◌, ◌≤◌, ◌^◌, ◌++◌, ◌-ℤ◌, nat_abs, ℕ, zero, suc, List, [], ◌∷◌, Some, None, ℤ, pos}
use Rattle.std.proofs.Common.{true, false, refl, sym, ap, ◌∙◌, subst, arith}
use Rattle.std.specs.Prelude.{Bool, IfSome, slice_get, int_le, ◌≤ℤ◌}
use Rattle.std.proofs.lemmas.Int.{ints}
use Rattle.std.proofs.lemmas.List.{length-map}
use Rattle.pram_model.specs.declared.layout.Entry as field
use Rattle.pram_model.specs.Layout.{SharedEntry, size, width, total_size, cell_at, cell_in, cell_from, bounds_of, subscripts, IsSingle}
use Rattle.pram_model.specs.LayoutFields.{shown, declared, IsNumbered}

-- the cells of all declarations end where the last one's end
pub numbered_total : (at : ℕ) (es : List field.Entry) (cells : ℕ) → IsNumbered at es cells → cells ≡ at + total_size (declared es)
numbered_total at [] cells h = omega (arith, h)
numbered_total at (e ∷ es) cells h = let r = numbered_total (at + size (shown e).bounds) es cells h.2 in omega (arith, r)

in_bounds : (b : _) (first : ℕ) (low high z : ℤ) → IsSingle b low high → cell_in first (bounds_of b low high) z ≡ cell_at first low high z
in_bounds true first low high z h = refl
in_bounds false first low high z h = ap (λ l. cell_at first l (pos 0) z) (sym h.0) ∙ ap (λ k. cell_at first low k z) (sym h.1)

-- a declaration's cells are those of its range
pub found_cell : (at : ℕ) (es : List field.Entry) (cells i : ℕ) (z : ℤ) (e : field.Entry) → IsNumbered at es cells →
    slice_get es i ≡ Some e →
    cell_from at (declared es) i z ≡ cell_at e.range.first e.range.low e.range.high z
found_cell at [] cells i z e h is = absurd (cc is)
found_cell at (x ∷ es) cells zero z e h is =
    let q : x ≡ e = cc is in
    let r : cell_in at (shown x).bounds z ≡ cell_at x.range.first x.range.low x.range.high z =
    in_bounds x.is_array at x.range.low x.range.high z h.1 ∙ ap (λ f. cell_at f x.range.low x.range.high z) (sym h.0) in
    r ∙ ap (λ y. cell_at y.range.first y.range.low y.range.high z) q
found_cell at (x ∷ es) cells (suc i) z e h is = found_cell (at + size (shown x).bounds) es cells i z e h.2 is

pub no_cell : (at : ℕ) (es : List field.Entry) (i : ℕ) (z : ℤ) → slice_get es i ≡ None → cell_from at (declared es) i z ≡ None
no_cell at [] i z is = refl
no_cell at (x ∷ es) zero z is = absurd (cc is)
no_cell at (x ∷ es) (suc i) z is = no_cell (at + size (shown x).bounds) es i z is

-- a declaration behind the others
pub numbered_more : (at : ℕ) (es : List field.Entry) (cells more : ℕ) (e : field.Entry) → IsNumbered at es cells → e.range.first ≡ cells →
    IsSingle e.is_array e.range.low e.range.high → more ≡ cells + size (shown e).bounds → IsNumbered at (es ++ e ∷ []) more
numbered_more at [] cells more e h first single is = (first ∙ sym h, single, ap (λ n. n + size (shown e).bounds) h ∙ sym is)
numbered_more at (x ∷ es) cells more e h first single is =
    (h.0, h.1, numbered_more (at + size (shown x).bounds) es cells more e h.2 first single is)

pub declared_more : (es : List field.Entry) (e : field.Entry) → declared (es ++ e ∷ []) ≡ declared es ++ shown e ∷ []
declared_more [] e = refl
declared_more (x ∷ es) e = ap (λ l. shown x ∷ l) (declared_more es e)

-- how many cells a declaration has by its range
pub size_width : (b : _) (low high : ℤ) → low ≤ℤ high → IsSingle b low high → size (bounds_of b low high) ≡ width low high
size_width true low high h single = refl
size_width false low high h single = sym (ap (λ l. width l high) single.0 ∙ ap (width (pos 0)) single.1)

pub width_is : (low high : ℤ) → low ≤ℤ high → width low high ≡ nat_abs (high -ℤ low) + 1
width_is low high h = let b : int_le low high ≡ true = grind (arith, ints) in rw b refl

-- the range of a declaration behind the others, by what its call asks for
pub range_fits : (cells total : ℕ) (low high : ℤ) → cells ≡ total → low ≤ℤ high → total + width low high ≤ 2 ^ 20 →
    cells + nat_abs (high -ℤ low) < 2 ^ 20
range_fits cells total low high same h room = let w = width_is low high h in omega (arith, w, same, room)

-- a declaration behind the others, by the bounds that it is made of
pub numbered_push : (es : List field.Entry) (cells more : ℕ) (e : field.Entry) (low high : ℤ) → IsNumbered 0 es cells →
    e.range.first ≡ cells → e.range.low ≡ low → e.range.high ≡ high →
    low ≤ℤ high → IsSingle e.is_array low high → more ≡ cells + width low high → IsNumbered 0 (es ++ e ∷ []) more
numbered_push es cells more e low high h first l k ordered single is =
    let sized : size (shown e).bounds ≡ width low high =
    ap (λ z. size (bounds_of e.is_array z e.range.high)) l ∙ ap (λ z. size (bounds_of e.is_array low z)) k
    ∙ size_width e.is_array low high ordered single in
    let alone : IsSingle e.is_array e.range.low e.range.high =
    subst (λ z. IsSingle e.is_array z e.range.high) (sym l) (subst (λ z. IsSingle e.is_array low z) (sym k) single) in
    numbered_more 0 es cells more e h first alone (is ∙ ap (λ n. cells + n) (sym sized))

-- ---- one declaration among the others

single_at : (at : ℕ) (es : List field.Entry) (cells i : ℕ) (d : field.Entry) → IsNumbered at es cells → i < length es → d ≡ get_or es i d →
    IsSingle d.is_array d.range.low d.range.high
single_at at [] cells i d h below is = absurd (omega (arith, below))
single_at at (x ∷ es) cells zero d h below is = subst (λ (e : field.Entry). IsSingle e.is_array e.range.low e.range.high) (sym is) h.1
single_at at (x ∷ es) cells (suc i) d h below is = single_at (at + size (shown x).bounds) es cells i d h.2 (omega (arith, below)) is

pub declared_length : (es : List field.Entry) (i : ℕ) (all : List SharedEntry) → declared es ≡ all → i < length all → i < length es
declared_length es i all view below = let e = ap length view in let l = length-map es shown in omega (arith, e, l)

bounds_are : (b : Bool) (low high : ℤ) → IsSingle b low high → (low ≡ (subscripts (bounds_of b low high)).0)
    × (high ≡ (subscripts (bounds_of b low high)).1)
bounds_are true low high h = (refl, refl)
bounds_are false low high h = h

-- a declaration's range has its bounds
pub range_bounds : (es : List field.Entry) (cells i : ℕ) (d : field.Entry) (all : List SharedEntry) → IsNumbered 0 es cells →
    declared es ≡ all → i < length all → d ≡ get_or es i d →
    IfSome (slice_get all i) (λ e. (d.range.low ≡ (subscripts e.bounds).0) × (d.range.high ≡ (subscripts e.bounds).1))
range_bounds es cells i d all h view below is =
    let inside = declared_length es i all view below in
    let there : slice_get all i ≡ Some (shown d) =
    ap (λ l. slice_get l i) (sym view) ∙ shown_at es i inside ∙ ap (λ (e : field.Entry). Some (shown e)) (sym is) in
    subst (λ o. IfSome o (λ (e : SharedEntry). (d.range.low ≡ (subscripts e.bounds).0) × (d.range.high ≡ (subscripts e.bounds).1)))
    (sym there)
    (bounds_are d.is_array d.range.low d.range.high (single_at 0 es cells i d h inside is))
  where
    shown_at : (es : List field.Entry) (i : ℕ) → i < length es → slice_get (declared es) i ≡ Some (shown (get_or es i d))
    shown_at [] i below = absurd (omega (arith, below))
    shown_at (x ∷ es) zero below = refl
    shown_at (x ∷ es) (suc i) below = shown_at es i (omega (arith, below))
