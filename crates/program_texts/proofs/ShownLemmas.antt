-- The text of lists, item by item.
use Rattle.std.proofs.lemmas.Bool.Decides.{nat_tests}
use Rattle.std.specs.Bool.{if◌then◌else◌}
use Rattle.std.proofs.Common.{◌≤◌, ◌-◌, nat_lt, true, false, arith, ◌≡◌, ◌<◌, ◌+◌, ◌++◌, ◌∙◌, ◌∷◌, [], List, ℕ, ap, sym, subst}
use Rattle.std.proofs.Common.{append_assoc, drop, get_or, length, codes, slice_get, take}
use Rattle.std.specs.Prelude.{ℤ, Option, Some, None, IfSome}
use Rattle.std.proofs.lemmas.Option.{slice_get-get_or}
use Rattle.pram_model.specs.Layout.{SharedEntry, size}
use Rattle.std.specs.Fmt.{signed_decimal}
use Rattle.std.proofs.lemmas.List.{append-nil, drop_more}
use Rattle.program_texts.specs.Shown.{cell_text, entry_line, item_lines, memory_lines, spaced, subscript_text}

-- the item at i, and the lines behind it
pub items_at : (items : List ℤ) (i : ℕ) (d : ℤ) (digits : List ℕ) → i < length items → digits ≡ signed_decimal (get_or items i d)
    → item_lines (drop i items) ≡ (digits ++ 10 ∷ []) ++ item_lines (drop (i + 1) items)
items_at items i d digits below is =
    ap item_lines (drop_more items i d below) ∙ ap (λ l. (l ++ 10 ∷ []) ++ item_lines (drop (i + 1) items)) (sym is)

-- the value at i, and what stands behind it
pub values_at : (values : List ℤ) (i : ℕ) (d : ℤ) (digits : List ℕ) → i < length values → digits ≡ signed_decimal (get_or values i d)
    → spaced (drop i values) ≡ (32 ∷ (digits ++ [])) ++ spaced (drop (i + 1) values)
values_at values i d digits below is =
    ap spaced (drop_more values i d below)
    ∙ ap (λ l. 32 ∷ (l ++ spaced (drop (i + 1) values))) (sym is ∙ sym (append-nil digits))

-- a declaration's line: its name and bounds, and what stands behind them
pub entry_split : (name bounds rest : List ℕ) → (name ++ (bounds ++ rest)) ++ 10 ∷ [] ≡ (name ++ bounds) ++ (rest ++ 10 ∷ [])
entry_split name bounds rest = ap (λ l. l ++ 10 ∷ []) (sym (append_assoc name bounds rest)) ∙ append_assoc (name ++ bounds) rest (10 ∷ [])

-- a fault's text: its kind, its place, its line
pub fault_split : (kind word place number digits : List ℕ) → word ≡ kind → digits ≡ number
    → codes "fault " ++ (kind ++ (codes " " ++ (place ++ (codes " line " ++ number))))
    ≡ (codes "fault " ++ (word ++ (codes " " ++ []))) ++ (place ++ (codes " line " ++ (digits ++ [])))
fault_split kind word place number digits is_kind is_number =
    let behind = codes " line " ++ (digits ++ []) in
    ap (λ l. codes "fault " ++ (l ++ (codes " " ++ (place ++ (codes " line " ++ number))))) (sym is_kind)
    ∙ ap (λ l. codes "fault " ++ (word ++ (codes " " ++ (place ++ (codes " line " ++ l))))) (sym is_number ∙ sym (append-nil digits))
    ∙ ap (λ l. codes "fault " ++ l) (sym (append_assoc word (codes " ") (place ++ behind)))

-- the declaration at i
pub entry_at : (layout : List SharedEntry) (i : ℕ) → i < length layout
    → (e : SharedEntry) × (slice_get layout i ≡ Some e) × (drop i layout ≡ e ∷ drop (i + 1) layout)
entry_at layout i below =
    let none : SharedEntry = record { name = []; bounds = None } in
    (get_or layout i none, slice_get-get_or layout i none below, drop_more layout i none below)

-- what is known of the declaration at i
pub known_at : (layout : List SharedEntry) (i : ℕ) (e : SharedEntry) (P : SharedEntry → Type 0) → slice_get layout i ≡ Some e →
    IfSome (slice_get layout i) P → P e
known_at layout i e P found known = subst (λ o. IfSome o P) found known

-- the lines of the declarations from i on
pub memory_at : (layout : List SharedEntry) (i : ℕ) (rest values others : List ℤ) (name : List ℕ) (bounds : Option (ℤ × ℤ)) (count : ℕ) →
    i < length layout
    → IfSome (slice_get layout i) (λ e. name ≡ e.name) → IfSome (slice_get layout i) (λ e. bounds ≡ e.bounds) →
    IfSome (slice_get layout i) (λ e. count ≡ size e.bounds)
    → values ≡ take count rest → others ≡ drop count rest
    → memory_lines (drop i layout) rest ≡ entry_line record { name = name; bounds = bounds } values
    ++ memory_lines (drop (i + 1) layout) others
memory_at layout i rest values others name bounds count below named bounded counted first behind =
    let (e, found, split) = entry_at layout i below in
    let named' = known_at layout i e (λ e. name ≡ e.name) found named in
    let bounded' = known_at layout i e (λ e. bounds ≡ e.bounds) found bounded in
    let counted' = known_at layout i e (λ e. count ≡ size e.bounds) found counted in
    ap (λ l. memory_lines l rest) split
    ∙ ap (λ n. entry_line e (take n rest) ++ memory_lines (drop (i + 1) layout) (drop n rest)) (sym counted')
    ∙ ap (λ l. entry_line e l ++ memory_lines (drop (i + 1) layout) (drop count rest)) (sym first)
    ∙ ap (λ l. entry_line e values ++ memory_lines (drop (i + 1) layout) l) (sym behind)
    ∙ ap (λ n. entry_line record { name = n; bounds = e.bounds } values ++ memory_lines (drop (i + 1) layout) others) (sym named')
    ∙ ap (λ b. entry_line record { name = name; bounds = b } values ++ memory_lines (drop (i + 1) layout) others) (sym bounded')

-- a cell among those of the declaration at i
pub cell_here : (layout : List SharedEntry) (i k count : ℕ) (P : List ℕ → Type 0) → i < length layout
    → IfSome (slice_get layout i) (λ e. count ≡ size e.bounds) → k < count
    → IfSome (slice_get layout i) (λ e. P (e.name ++ subscript_text e.bounds k)) → P (cell_text (drop i layout) k)
cell_here layout i k count P below counted inside written =
    let (e, found, split) = entry_at layout i below in
    let counted' = known_at layout i e (λ e. count ≡ size e.bounds) found counted in
    let written' = known_at layout i e (λ e. P (e.name ++ subscript_text e.bounds k)) found written in
    let here : nat_lt k (size e.bounds) ≡ true = grind (arith, nat_tests, inside, counted') in
    subst P (sym (ap (λ l. cell_text l k) split
    ∙ ap (λ b. if b then e.name ++ subscript_text e.bounds k else cell_text (drop (i + 1) layout) (k - size e.bounds)) here)) written'

-- a cell behind those of the declaration at i
pub cell_behind : (layout : List SharedEntry) (i k count : ℕ) → i < length layout
    → IfSome (slice_get layout i) (λ e. count ≡ size e.bounds) → count ≤ k
    → cell_text (drop i layout) k ≡ cell_text (drop (i + 1) layout) (k - count)
cell_behind layout i k count below counted past =
    let (e, found, split) = entry_at layout i below in
    let counted' = known_at layout i e (λ e. count ≡ size e.bounds) found counted in
    let gone : nat_lt k (size e.bounds) ≡ false = grind (arith, nat_tests, past, counted') in
    ap (λ l. cell_text l k) split
    ∙ ap (λ b. if b then e.name ++ subscript_text e.bounds k else cell_text (drop (i + 1) layout) (k - size e.bounds)) gone
    ∙ ap (λ n. cell_text (drop (i + 1) layout) (k - n)) (sym counted')
