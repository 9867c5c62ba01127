-- The page of a text is written by what is kept of it.
use Rattle.std.proofs.Common.{◌≡◌, ◌≤◌, ◌+◌, ◌-◌, ◌∙◌, [], Bool, List, ℕ, ap, arith, drop, if◌then◌else◌, length, nat_le, nat_lt, sym, take}
use Rattle.std.proofs.lemmas.List.{take-append-drop, take-take}
use Rattle.std.specs.Prelude.{◌&&◌}
use Rattle.pages.specs.Cut.{room}
use Rattle.pages.specs.Facts.{embedded, line_count, state_room}
use Rattle.pages.specs.Kept.{Holds}
use Rattle.pages.specs.Page.{page, page_of}
use Rattle.pages.specs.declared.lines.KeptLines.{KeptLines}
use Rattle.pages.proofs.CutOfKept.{gap_is, last_is, length_take_most}
use Rattle.pages.proofs.LineEnds.{line_count-append}

-- the first ones
first_is : (k : KeptLines) (text : List ℕ) (front : ℕ) → Holds k text → front ≤ length k.first.items → take front k.first.items ≡ take
    front text
first_is k text front h le =
    let e : length k.first.items ≡ length (take room text) = ap length h.first in
    let s = length_take_most room text in
    ap (take front) h.first ∙ take-take front room text (omega (arith, le, e, s))

-- how many lines end behind the first ones
rest_is : (text : List ℕ) (front : ℕ) → line_count (drop front text) ≡ line_count text - line_count (take front text)
rest_is text front =
    let e : line_count text ≡ line_count (take front text) + line_count (drop front text) =
    ap line_count (sym (take-append-drop front text)) ∙ line_count-append (take front text) (drop front text) in
    omega (arith, e)

abbrev shown_if : (state : List ℕ) → Bool → List ℕ
shown_if state gap = if gap && nat_le (length (embedded state)) state_room then state else []

pub page_held : (k : KeptLines) (text state first last shown : List ℕ) (front at left : ℕ) (gap : Bool) → front ≤ length k.first.items →
    first ≡ take front k.first.items → last ≡ drop at k.last.items → left ≡ (k.count - line_count first) - line_count last →
    gap ≡ nat_lt front (k.before + at) →
    shown ≡ (if gap && nat_le (length (embedded state)) state_room then state else []) → (h : Holds k text) →
    page_of first shown last left ≡ page text state front (h.offset + at)
page_held k text state first last shown front at left gap le f l n g s h =
    let back = h.offset + at in
    let front_is : first ≡ take front text = f ∙ first_is k text front h le in
    let back_is : last ≡ drop back text = l ∙ last_is k text at h in
    let state_is : shown ≡ shown_if state (nat_lt front back) = s ∙ ap (shown_if state) (g ∙ gap_is k text front at h le) in
    let counts : line_count (drop front text) ≡ line_count text - line_count (take front text) = rest_is text front in
    let left_is : left ≡ line_count (drop front text) - line_count (drop back text) =
    n ∙ ap (λ c. (c - line_count first) - line_count last) h.count
    ∙ ap (λ x. (line_count text - line_count x) - line_count last) front_is
    ∙ ap (λ x. (line_count text - line_count (take front text)) - line_count x) back_is
    ∙ ap (λ c. c - line_count (drop back text)) (sym counts) in
    ap (λ x. page_of x shown last left) front_is
    ∙ ap (λ x. page_of (take front text) x last left) state_is
    ∙ ap (λ x. page_of (take front text) (shown_if state (nat_lt front back)) x left) back_is
    ∙ ap (page_of (take front text) (shown_if state (nat_lt front back)) (drop back text)) left_is
