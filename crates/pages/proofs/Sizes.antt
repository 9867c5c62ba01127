-- How large a page is.
use Rattle.std.proofs.Common.{◌≡◌, ◌<◌, ◌≤◌, ◌+◌, ◌-◌, ◌++◌, ◌^◌, List, ℕ, arith, codes, decimal, drop, length, length-append, length-drop}
use Rattle.std.proofs.Common.{refl}
use Rattle.std.proofs.Common.{Bool, true, false, if◌then◌else◌, take, ◌&&◌, [], nat_le, nat_lt}
use Rattle.std.proofs.lemmas.Bool.{leb-true}
use Rattle.std.proofs.lemmas.Fmt.{length-decimal-le}
use Rattle.std.proofs.lemmas.List.{length-take}
use Rattle.pages.specs.declared.markup.TheConstants.{STYLE, NARROW, BODY, CLOSING}
use Rattle.pages.specs.declared.moving.TheConstants.{READING, MOVING}
use Rattle.pages.specs.declared.drawing.TheConstants.{PLACING, DRAWING}
use Rattle.pages.specs.declared.telling.TheConstants.{TELLING, MARKING}
use Rattle.pages.specs.declared.stepping.TheConstants.{STEPPING, GUIDING}
use Rattle.pages.specs.Cut.{IsCut, room}
use Rattle.pages.specs.Facts.{behind_text, embedded, facts_text, gap_text, last_text, line_count, state_room, state_shown}
use Rattle.pages.specs.Page.{back, drawing, earlier, front, later, most_bytes, page, reading, rest, script, stepping, style, telling}
use Rattle.pages.proofs.Embedding.{line_count-le}

-- ---- what stands around the facts

style_size : length style ≤ 8000
style_size =
    let whole = length-append STYLE NARROW in
    let a : length STYLE ≡ 2846 = refl in
    let b : length NARROW ≡ 1477 = refl in
    omega (arith, whole, a, b)

reading_size : length reading ≤ 8000
reading_size =
    let whole = length-append READING MOVING in
    let a : length READING ≡ 2522 = refl in
    let b : length MOVING ≡ 4233 = refl in
    omega (arith, whole, a, b)

drawing_size : length drawing ≤ 8000
drawing_size =
    let whole = length-append PLACING DRAWING in
    let a : length PLACING ≡ 1983 = refl in
    let b : length DRAWING ≡ 4045 = refl in
    omega (arith, whole, a, b)

telling_size : length telling ≤ 8000
telling_size =
    let whole = length-append TELLING MARKING in
    let a : length TELLING ≡ 3001 = refl in
    let b : length MARKING ≡ 3228 = refl in
    omega (arith, whole, a, b)

stepping_size : length stepping ≤ 8000
stepping_size =
    let whole = length-append STEPPING GUIDING in
    let a : length STEPPING ≡ 2383 = refl in
    let b : length GUIDING ≡ 3141 = refl in
    omega (arith, whole, a, b)

front_size : length front ≤ 11000
front_size =
    let whole = length-append style BODY in
    let b : length BODY ≡ 2226 = refl in
    omega (arith, whole, style_size, b)

script_size : length script ≤ 32000
script_size =
    let whole = length-append earlier later in
    let a = length-append reading drawing in
    let b = length-append telling stepping in
    omega (arith, whole, a, b, reading_size, drawing_size, telling_size, stepping_size)

back_size : length back ≤ 32026
back_size =
    let whole = length-append script CLOSING in
    let c : length CLOSING ≡ 26 = refl in
    omega (arith, whole, c, script_size)

-- ---- the facts

decimal_size : (n : ℕ) → n < 2 ^ 64 → length (decimal n) ≤ 20
decimal_size n below = length-decimal-le 20 n (omega arith) (omega (arith, below)) below

gap_size : (behind left : ℕ) → behind < 2 ^ 64 → left < 2 ^ 64 → length (gap_text behind left) ≤ 64
gap_size behind left one other =
    let first = decimal_size behind one in
    let second = decimal_size left other in
    let w = length-append (codes "{\"behind\":") (decimal behind ++ (codes ",\"left_out\":" ++ (decimal left ++ codes "}]"))) in
    let x = length-append (decimal behind) (codes ",\"left_out\":" ++ (decimal left ++ codes "}]")) in
    let y = length-append (codes ",\"left_out\":") (decimal left ++ codes "}]") in
    let z = length-append (decimal left) (codes "}]") in
    let a : length (codes "{\"behind\":") ≡ 10 = refl in
    let b : length (codes ",\"left_out\":") ≡ 12 = refl in
    let c : length (codes "}]") ≡ 2 = refl in
    omega (arith, first, second, w, x, y, z, a, b, c)

state_size : (b : Bool) (state : List ℕ) → length (embedded (if b && nat_le (length (embedded state)) state_room then state else [])) ≤
    state_room
state_size false state = omega arith
state_size true state = by (nat_le (length (embedded state)) state_room) refl
  where
    by : (c : Bool) → nat_le (length (embedded state)) state_room ≡ c → length (embedded (if c then state else [])) ≤ state_room
    by true is = leb-true (length (embedded state)) state_room is
    by false is = omega arith

facts_size : (facts state : List ℕ) (from to : ℕ) → length facts < 2 ^ 64 → IsCut facts from to →
    length (facts_text facts state from to) ≤ room + state_room + 64
facts_size facts state from to below c =
    let first = take from facts in
    let last = drop to facts in
    let between = state_shown state from to in
    let left = line_count (drop from facts) - line_count last in
    let firsts : line_count first < length first + 1 = line_count-le first in
    let fewer = length-take from facts in
    let lines : line_count (drop from facts) < length (drop from facts) + 1 = line_count-le (drop from facts) in
    let less : length (drop from facts) ≡ length facts - from = length-drop from facts in
    let number = gap_size (line_count first) left (omega (arith, firsts, fewer, below)) (omega (arith, lines, less, below)) in
    let whole = length-append (embedded first) (behind_text between last (line_count first) left) in
    let middle = length-append (embedded between) (last_text last (line_count first) left) in
    let behind = length-append (embedded last) (gap_text (line_count first) left) in
    let fits : length (embedded first) + length (embedded last) ≤ room = c.first.are.fits in
    let some : length (embedded between) ≤ state_room = state_size (nat_lt from to) state in
    omega (arith, whole, middle, behind, number, fits, some)

pub page_size : (facts state : List ℕ) (from to : ℕ) → length facts < 2 ^ 64 → IsCut facts from to →
    length (page facts state from to) ≤ most_bytes
page_size facts state from to below c =
    let whole = length-append front (rest facts state from to) in
    let behind = length-append (facts_text facts state from to) back in
    let size = facts_size facts state from to below c in
    omega (arith, whole, behind, front_size, back_size, size)
