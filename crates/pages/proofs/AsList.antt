-- What stands in a page is read as the list of its facts.
use Rattle.std.proofs.Common.{◌≡◌, ◌∙◌, ◌-◌, ◌<◌, ◌≤◌, ◌^◌, ◌++◌, ◌∷◌, [], true, false, List, Some, ℕ, max, suc, ap, ap₂, append_assoc}
use Rattle.std.proofs.Common.{append-nil, arith, codes, decimal}
use Rattle.std.proofs.Common.{drop, inl, inr, length, length-append, refl, subst, sym, take, zero}
use Rattle.std.specs.Prelude.{◌⊎◌, ◌&&◌, Bool, negsuc, pos, if◌then◌else◌, nat_le, nat_lt, option_and_then, option_map}
use Rattle.std.proofs.lemmas.Bool.{cases_lt, le-ltb}
use Rattle.std.proofs.lemmas.List.{length-drop, length-take-le, take-append-drop}
use Rattle.std.proofs.lemmas.List.Elements.{recursion_from_All}
use Rattle.std.specs.List.{AllByRecursion}
use Rattle.json.specs.Json as json
use Rattle.json.specs.Lex.{tokens}
use Rattle.json.specs.Print.{escape_byte, quoted}
use Rattle.json.specs.Tree as tree
use Rattle.json.proofs.Printed.Decimals.{IsNumber-decimal, IsNumber-signed_decimal}
use Rattle.json.proofs.Printed.Tokens.{tokens-print}
use Rattle.json.proofs.Printed.Trees.{ArePrintable-json_tokens, value-json_tokens}
use Rattle.serde_json.specs.Data.{unsigned, negative, float, Data, null, boolean, number, string, array, object, Items, no_items, item}
use Rattle.serde_json.specs.Data.{Members}
use Rattle.serde_json.specs.Data.{no_members, member, depth, items_depth, members_depth, put}
use Rattle.serde_json.specs.Read.{max_depth, of_items, of_json, of_members, read}
use Rattle.serde_json.specs.View.{items_of}
use Rattle.serde_json.specs.Written.{compact_text, items_outline, items_text, members_outline, outline}
use Rattle.serde_json.proofs.Numbers.{number_of-decimal}
use Rattle.serde_json.proofs.Texts.{print-outline}
use Rattle.json_texts.specs.Facts.{list}
use Rattle.json_texts.specs.Lines.{IsJson, ReadsBack, json_line, json_lines}
use Rattle.json_texts.specs.Small.{IsSmall}
use Rattle.pages.specs.Cut.{IsBack, IsCut, room}
use Rattle.pages.specs.Facts.{BeginsLine, both_text, embedded, facts_text, gap_text, line_count, state_room, state_shown}
use Rattle.pages.specs.Stand.{AreTold, CutFactsAreRead, FactsAreRead, IsReadAs, OutcomeIsRead, gap_fact}
use Rattle.pages.proofs.Integers.{AreRead, EachOfItems, EachOfMembers, HasIntegers, IsInteger, those_read}
use Rattle.pages.proofs.Embedding.{embedded-append}
use Rattle.pages.proofs.LineEnds.{IsCutAt, all_at, cut_at, first_told, last_alone, last_at, last_begins, last_length, last_line}
use Rattle.json_texts.proofs.Json.{json_lines-append}
use Rattle.pages.proofs.LineEnds.{lines_end, ordered, whole_begins}
use Rattle.pages.proofs.Lexed.{AreKept, decimal_kept, kept-append, tokens_embedded}

-- ---- the tokens of data whose numbers are integers

mutual
  numbers : (d : Data) → HasIntegers d → tree.HasNumbers (outline d)
  numbers null h = tt
  numbers (boolean b) h = tt
  numbers (number (unsigned n)) h = IsNumber-decimal n h
  numbers (number (negative (pos n))) h = absurd h
  numbers (number (negative (negsuc n))) h = IsNumber-signed_decimal (negsuc n) h
  numbers (number (float x)) h = absurd h
  numbers (string s) h = tt
  numbers (array ds) h = items_numbers ds h
  numbers (object ms) h = members_numbers ms h

  items_numbers : (ds : Items) → EachOfItems IsInteger ds → tree.ItemsHaveNumbers (items_outline ds)
  items_numbers no_items h = tt
  items_numbers (item d ds) h = (numbers d h.0, items_numbers ds h.1)

  members_numbers : (ms : Members) → EachOfMembers IsInteger ms → tree.MembersHaveNumbers (members_outline ms)
  members_numbers no_members h = tt
  members_numbers (member k d ms) h = (numbers d h.0, members_numbers ms h.1)

mutual
  unfolding AreKept

  kept : (d : Data) → HasIntegers d → AreKept (tree.json_tokens (outline d))
  kept null h = (tt, tt)
  kept (boolean b) h = (tt, tt)
  kept (number (unsigned n)) h = (decimal_kept n h, tt)
  kept (number (negative (pos n))) h = absurd h
  kept (number (negative (negsuc n))) h = (ap (λ t. 45 ∷ t) (decimal_kept (suc n) (omega (arith, h))), tt)
  kept (number (float x)) h = absurd h
  kept (string s) h = (tt, tt)
  kept (array ds) h = (tt, items_kept ds h)
  kept (object ms) h = (tt, members_kept ms h)

  items_kept : (ds : Items) → EachOfItems IsInteger ds → AreKept (tree.items_tokens (items_outline ds))
  items_kept no_items h = (tt, tt)
  items_kept (item d ds) h = kept-append _ _ (kept d h.0) (items_kept ds h.1)

  members_kept : (ms : Members) → EachOfMembers IsInteger ms → AreKept (tree.members_tokens (members_outline ms))
  members_kept no_members h = (tt, tt)
  members_kept (member k d ms) h = (tt, kept-append _ _ (kept d h.0) (members_kept ms h.1))

mutual
  depths : (d : Data) → tree.depth (outline d) ≡ depth d
  depths null = refl
  depths (boolean b) = refl
  depths (number n) = refl
  depths (string s) = refl
  depths (array ds) = ap suc (items_depths ds)
  depths (object ms) = ap suc (members_depths ms)

  items_depths : (ds : Items) → tree.items_depth (items_outline ds) ≡ items_depth ds
  items_depths no_items = refl
  items_depths (item d ds) = ap₂ max (depths d) (items_depths ds)

  members_depths : (ms : Members) → tree.members_depth (members_outline ms) ≡ members_depth ms
  members_depths no_members = refl
  members_depths (member k d ms) = ap₂ max (depths d) (members_depths ms)

-- a text that has them is read as what they are of
read_tokens : (d : Data) (text : List ℕ) → depth d ≤ 127 → tokens text ≡ tree.json_tokens (outline d) → read text ≡ of_json (outline d)
read_tokens d text shallow is =
    let deep : tree.depth (outline d) ≡ depth d = depths d in
    ap (λ o. option_and_then of_json (option_and_then (λ p. json.if_last p.0 p.1) o))
    (ap (json.value max_depth) (is ∙ sym (append-nil (tree.json_tokens (outline d))))
    ∙ value-json_tokens (outline d) max_depth [] (omega (arith, deep, shallow)))

pub read_compact : (d : Data) → HasIntegers d → depth d ≤ 127 → read (compact_text d) ≡ of_json (outline d)
read_compact d h shallow =
    read_tokens d (compact_text d) shallow (ap tokens (sym (print-outline d))
    ∙ tokens-print (tree.json_tokens (outline d)) (ArePrintable-json_tokens (outline d) (numbers d h)))

read_there : (d : Data) → HasIntegers d → depth d ≤ 127 → read (embedded (compact_text d)) ≡ of_json (outline d)
read_there d h shallow =
    read_tokens d (embedded (compact_text d)) shallow (ap (λ t. tokens (embedded t)) (sym (print-outline d))
    ∙ tokens_embedded (tree.json_tokens (outline d)) (ArePrintable-json_tokens (outline d) (numbers d h)) (kept d h))

-- ---- the list of facts, and which are left out

abbrev with_last : (n m : ℕ) → List Data → List Data
with_last n m ds = ds ++ gap_fact n m ∷ []

last_given : (n m : ℕ) → n < 2 ^ 64 → m < 2 ^ 64 → of_json (outline (gap_fact n m)) ≡ Some (gap_fact n m)
last_given n m h g =
    ap₂ (λ a b. option_map object (option_and_then (λ d. option_and_then
    (λ e. of_members json.no_members (put (codes "left_out") e (put (codes "behind") d no_members)))
    (option_map number b)) (option_map number a)))
    (number_of-decimal n h) (number_of-decimal m g)

list_given : (n m : ℕ) → n < 2 ^ 64 → m < 2 ^ 64 → (ds : List Data) → AreRead ds → AllByRecursion ReadsBack ds →
    of_items (items_outline (items_of (with_last n m ds))) ≡ Some (items_of (with_last n m ds))
list_given n m l k [] h back = ap (option_and_then (λ d. option_map (item d) (Some no_items))) (last_given n m l k)
list_given n m l k (d ∷ ds) h back =
    let one : of_json (outline d) ≡ Some d = sym (read_compact d h.0.0 (let s : depth d ≤ 126 = h.0.1 in omega arith)) ∙ back.0 in
    ap₂ (λ a b. option_and_then (λ d. option_map (item d) b) a) one (list_given n m l k ds h.1 back.1)

list_counts : (n m : ℕ) → n < 2 ^ 64 → m < 2 ^ 64 → (ds : List Data) → AreRead ds → EachOfItems IsInteger (items_of (with_last n m ds))
list_counts n m l k [] h = ((l, (k, tt)), tt)
list_counts n m l k (d ∷ ds) h = (h.0.0, list_counts n m l k ds h.1)

list_depth : (n m : ℕ) (ds : List Data) → AreRead ds → items_depth (items_of (with_last n m ds)) ≤ 126
list_depth n m [] h = omega arith
list_depth n m (d ∷ ds) h =
    let one : depth d ≤ 126 = h.0.1 in
    let others : items_depth (items_of (with_last n m ds)) ≤ 126 = list_depth n m ds h.1 in
    omega (arith, one, others)

-- ---- its text

comma_first : (n m : ℕ) (ds : List Data) → items_text true (items_of (with_last n m ds)) ≡ 44 ∷ items_text false
    (items_of (with_last n m ds))
comma_first n m [] = refl
comma_first n m (d ∷ ds) = refl

abbrev end_text : (n m : ℕ) → List ℕ
end_text n m = embedded (compact_text (gap_fact n m)) ++ 93 ∷ []

lines_text : (n m : ℕ) (ds : List Data) → embedded (json_lines ds) ++ end_text n m ≡ embedded
    (items_text false (items_of (with_last n m ds)))
lines_text n m [] = sym (embedded-append (compact_text (gap_fact n m)) (93 ∷ []))
lines_text n m (d ∷ ds) =
    let one = compact_text d in
    let more = json_lines ds in
    ap (λ l. l ++ end_text n m) (embedded-append (one ++ 10 ∷ []) more ∙ ap (λ l. l ++ embedded more) (embedded-append one (10 ∷ []))
    ∙ append_assoc (embedded one) (44 ∷ []) (embedded more))
    ∙ append_assoc (embedded one) (44 ∷ embedded more) (end_text n m)
    ∙ ap (λ l. embedded one ++ 44 ∷ l) (lines_text n m ds)
    ∙ sym (ap (λ l. embedded (one ++ l)) (comma_first n m ds) ∙ embedded-append one (44 ∷ items_text false (items_of (with_last n m ds))))

-- the names and what stands before the numbers, as they are
front_is : (r : List ℕ) → embedded (123 ∷ (quoted (codes "behind") ++ 58 ∷ r)) ≡ codes "{\"behind\":" ++ embedded r
unfolding escape_byte
front_is r = refl

middle_is : (r : List ℕ) → embedded (44 ∷ (quoted (codes "left_out") ++ 58 ∷ r)) ≡ codes ",\"left_out\":" ++ embedded r
unfolding escape_byte
middle_is r = refl

-- a number, and what stands behind it
number_is : (n : ℕ) (r : List ℕ) → n < 2 ^ 64 → embedded (decimal n ++ r) ≡ decimal n ++ embedded r
number_is n r h = embedded-append (decimal n) r ∙ ap (λ t. t ++ embedded r) (decimal_kept n h)

end_is : (n m : ℕ) → n < 2 ^ 64 → m < 2 ^ 64 → gap_text n m ≡ end_text n m
end_is n m h g =
    let second = 44 ∷ (quoted (codes "left_out") ++ 58 ∷ (decimal m ++ 125 ∷ [])) in
    let there : embedded second ≡ codes ",\"left_out\":" ++ (decimal m ++ 125 ∷ []) =
    middle_is (decimal m ++ 125 ∷ []) ∙ ap (λ t. codes ",\"left_out\":" ++ t) (number_is m (125 ∷ []) g) in
    let whole : embedded (compact_text (gap_fact n m)) ≡ codes "{\"behind\":" ++
    (decimal n ++ (codes ",\"left_out\":" ++ (decimal m ++ 125 ∷ []))) =
    front_is (decimal n ++ second) ∙ ap (λ t. codes "{\"behind\":" ++ t) (number_is n second h ∙ ap (λ t. decimal n ++ t) there) in
    sym (ap (λ t. t ++ 93 ∷ []) whole
    ∙ ap (λ t. codes "{\"behind\":" ++ t) (append_assoc (decimal n) (codes ",\"left_out\":" ++ (decimal m ++ 125 ∷ [])) (93 ∷ [])
    ∙ ap (λ t. decimal n ++ (codes ",\"left_out\":" ++ t)) (append_assoc (decimal m) (125 ∷ []) (93 ∷ []))))

-- a text whose facts are these, and behind which stands what is left out, is read as they are
read_front : (n m : ℕ) → n < 2 ^ 64 → m < 2 ^ 64 → (ds : List Data) → AreRead ds → AllByRecursion ReadsBack ds →
    read (codes "[" ++ (embedded (json_lines ds) ++ gap_text n m)) ≡ Some (list (with_last n m ds))
read_front n m l k ds told back =
    let deep : items_depth (items_of (with_last n m ds)) ≤ 126 = list_depth n m ds told in
    ap (λ t. read (91 ∷ t)) (ap (λ t. embedded (json_lines ds) ++ t) (end_is n m l k) ∙ lines_text n m ds)
    ∙ read_there (list (with_last n m ds)) (list_counts n m l k ds told) (omega (arith, deep))
    ∙ ap (option_map array) (list_given n m l k ds told back)

-- ---- of some facts the first and the last

rest_told : (k : ℕ) (ds : List Data) → AreRead ds → AreRead (drop k ds)
rest_told zero ds h = h
rest_told (suc k) [] h = tt
rest_told (suc k) (d ∷ ds) h = rest_told k ds h.1

first_read : (k : ℕ) (ds : List Data) → AllByRecursion ReadsBack ds → AllByRecursion ReadsBack (take k ds)
first_read zero ds h = tt
first_read (suc k) [] h = tt
first_read (suc k) (d ∷ ds) h = (h.0, first_read k ds h.1)

rest_read : (k : ℕ) (ds : List Data) → AllByRecursion ReadsBack ds → AllByRecursion ReadsBack (drop k ds)
rest_read zero ds h = h
rest_read (suc k) [] h = tt
rest_read (suc k) (d ∷ ds) h = rest_read k ds h.1

told-append : (a b : List Data) → AreRead a → AreRead b → AreRead (a ++ b)
told-append [] b h g = g
told-append (d ∷ a) b h g = (h.0, told-append a b h.1 g)

read-append : (a b : List Data) → AllByRecursion ReadsBack a → AllByRecursion ReadsBack b → AllByRecursion ReadsBack (a ++ b)
read-append [] b h g = g
read-append (d ∷ a) b h g = (h.0, read-append a b h.1 g)

-- the text of some facts and of others, and of which are left out between them
both_is : (a b : List Data) (n m : ℕ) → embedded (json_lines a) ++ (embedded (json_lines b) ++ gap_text n m) ≡ embedded
    (json_lines (a ++ b)) ++ gap_text n m
both_is a b n m =
    sym (append_assoc (embedded (json_lines a)) (embedded (json_lines b)) (gap_text n m))
    ∙ ap (λ l. l ++ gap_text n m) (sym (embedded-append (json_lines a) (json_lines b)) ∙ ap embedded (sym (json_lines-append a b)))

-- what stands there of the state is the text of facts, or of none
chosen_lines : (b : Bool) (states : List Data) → (if b then json_lines states else []) ≡ json_lines (if b then states else [])
chosen_lines true states = refl
chosen_lines false states = refl

chosen_told : (b : Bool) (states : List Data) → AreRead states → AreRead (if b then states else [])
chosen_told true states h = h
chosen_told false states h = tt

chosen_read : (b : Bool) (states : List Data) → AllByRecursion ReadsBack states → AllByRecursion ReadsBack (if b then states else [])
chosen_read true states h = h
chosen_read false states h = tt

module _ (facts : List Data) (told : AreRead facts) (back : AllByRecursion ReadsBack facts) (few : length facts < 2 ^ 64)
    (states : List Data)
    (told_states : AreRead states) (back_states : AllByRecursion ReadsBack states) where
  abbrev has_state : (from to : ℕ) → Bool
  has_state from to = nat_lt from to && nat_le (length (embedded (json_lines states))) state_room

  abbrev those : (from to : ℕ) → List Data
  those from to = if has_state from to then states else []

  -- the text of the facts up to one place and from another on
  shown_text : (from to a k : ℕ) → IsCutAt facts from a → IsCutAt facts to k → a ≤ k →
      facts_text (json_lines facts) (json_lines states) from to
      ≡ embedded (json_lines (take a facts ++ (those from to ++ drop k facts))) ++ gap_text a (k - a)
  shown_text from to a k first last order =
      let within : a ≤ length facts = first.within in
      let inside : k ≤ length facts = last.within in
      let firsts : line_count (json_lines (take a facts)) ≡ a =
      lines_end (take a facts) (first_told a facts told) ∙ length-take-le a facts within in
      let others = ap line_count first.back ∙ lines_end (drop a facts) (rest_told a facts told) ∙ length-drop a facts in
      let lasts = ap line_count last.back ∙ lines_end (drop k facts) (rest_told k facts told) ∙ length-drop k facts in
      let left : length facts - a - (length facts - k) ≡ k - a = omega (arith, within, inside, order) in
      let count = line_count (drop from (json_lines facts)) - line_count (drop to (json_lines facts)) in
      ap₂ (λ l r. both_text l (state_shown (json_lines states) from to) r count) first.front last.back
      ∙ ap (λ s. both_text (json_lines (take a facts)) s (json_lines (drop k facts)) count) (chosen_lines (has_state from to) states)
      ∙ ap₂ (λ x y. embedded (json_lines (take a facts)) ++
      (embedded (json_lines (those from to)) ++ (embedded (json_lines (drop k facts)) ++ gap_text x y)))
      firsts (ap₂ (λ x y. x - y) others lasts ∙ left)
      ∙ ap (λ t. embedded (json_lines (take a facts)) ++ t) (both_is (those from to) (drop k facts) a (k - a))
      ∙ both_is (take a facts) (those from to ++ drop k facts) a (k - a)

  shown_is : (from to a k : ℕ) → IsCutAt facts from a → IsCutAt facts to k → a ≤ k →
      IsReadAs facts states (json_lines facts) (json_lines states) from to a k
  shown_is from to a k first last order =
      let within : a ≤ length facts = first.within in
      let inside : k ≤ length facts = last.within in
      let s = those from to in
      let ds = take a facts ++ (s ++ drop k facts) in
      let gap = gap_fact a (k - a) ∷ [] in
      record {
        in_order = order;
        within = last.within;
        reads =
            ap (λ t. read (91 ∷ t)) (shown_text from to a k first last order)
            ∙ read_front a (k - a) (omega (arith, within, few)) (omega (arith, inside, few)) ds
            (told-append (take a facts) (s ++ drop k facts) (first_told a facts told)
            (told-append s (drop k facts) (chosen_told (has_state from to) states told_states) (rest_told k facts told)))
            (read-append (take a facts) (s ++ drop k facts) (first_read a facts back)
            (read-append s (drop k facts) (chosen_read (has_state from to) states back_states) (rest_read k facts back)))
            ∙ ap (λ l. Some (list l)) (append_assoc (take a facts) (s ++ drop k facts) gap
            ∙ ap (λ l. take a facts ++ l) (append_assoc s (drop k facts) gap));
      }

  on_lines : (from to : ℕ) → IsCut (json_lines facts) from to → (a : ℕ) × (k : ℕ) × IsCutAt facts from a × IsCutAt facts to k × (a ≤ k)
  on_lines from to cut =
      let order : from ≤ to = cut.first.are.within in
      let inside : to ≤ length (json_lines facts) = cut.last.within in
      let first = cut_at facts from told cut.first.are.begins (omega (arith, order, inside)) in
      let last = tail (cases_lt to (length (json_lines facts))) in
      (first.0, last.0, first.1, last.1, ordered facts from to first.0 last.0 told first.1 last.1 order)
    where
      tail : (to < length (json_lines facts)) ⊎ (length (json_lines facts) ≤ to) → (k : ℕ) × IsCutAt facts to k
      tail (inl below) = cut_at facts to told (cut.last.begins below) cut.last.within
      tail (inr over) = (length facts, all_at facts to over)

  cut_read : (from to : ℕ) → IsCut (json_lines facts) from to →
      (a : ℕ) × (k : ℕ) × IsReadAs facts states (json_lines facts) (json_lines states) from to a k
  cut_read from to cut =
      let w = on_lines from to cut in
      (w.0, w.1, shown_is from to w.0 w.1 w.2 w.3 w.4)

  -- a place up to which all has room, is behind all lines that have
  all_fits : (from to : ℕ) → IsCut (json_lines facts) from to → length (embedded (json_lines facts)) ≤ room → to ≤ from
  all_fits from to cut little =
      cut.first.most to (record {
        within = omega arith;
        begins = by (cases_lt to (length (json_lines facts)));
        fits =
            let whole = ap (λ t. length (embedded t)) (sym (take-append-drop to (json_lines facts)))
            ∙ ap length (embedded-append (take to (json_lines facts)) (drop to (json_lines facts)))
            ∙ length-append (embedded (take to (json_lines facts))) (embedded (drop to (json_lines facts))) in
            omega (arith, whole, little);
      })
    where
      by : (to < length (json_lines facts)) ⊎ (length (json_lines facts) ≤ to) → BeginsLine (json_lines facts) to
      by (inl below) = cut.last.begins below
      by (inr over) =
          let inside : to ≤ length (json_lines facts) = cut.last.within in
          let e : length (json_lines facts) ≡ to = omega (arith, inside, over) in subst (BeginsLine (json_lines facts)) e
          (whole_begins facts)

  none_between : (from : ℕ) → those from from ≡ []
  none_between from = ap (λ b. if b && nat_le (length (embedded (json_lines states))) state_room then states else [])
      (le-ltb from from (omega arith))

  all_read : (from to : ℕ) → IsCut (json_lines facts) from to → length (embedded (json_lines facts)) ≤ room →
      (a : ℕ) × (read (codes "[" ++ facts_text (json_lines facts) (json_lines states) from to) ≡ Some (list (facts ++ gap_fact a 0 ∷ [])))
  all_read from to cut little =
      let w = on_lines from to cut in
      let far = all_fits from to cut little in
      let order : from ≤ to = cut.first.are.within in
      let e : from ≡ to = omega (arith, far, order) in
      let a = w.0 in
      let gap = gap_fact a 0 ∷ [] in
      let none : a - a ≡ 0 = omega arith in (
        a,
        ap (λ t. read (91 ∷ facts_text (json_lines facts) (json_lines states) from t)) (sym e)
            ∙ (shown_is from from a a w.2 w.2 (omega arith)).reads
            ∙ ap₂ (λ s n. Some (list (take a facts ++ (s ++ (drop a facts ++ gap_fact a n ∷ []))))) (none_between from) none
            ∙ ap (λ l. Some (list l)) (sym (append_assoc (take a facts) (drop a facts) gap) ∙ ap (λ l. l ++ gap)
            (take-append-drop a facts)),
      )

told_read : (facts : List Data) (text : List ℕ) → AreTold facts → IsJson facts text → AreRead facts
told_read facts text told says =
    those_read facts (recursion_from_All (IsSmall 126) facts told) (recursion_from_All ReadsBack facts says.read_back)

pub cut_facts_are_read : CutFactsAreRead
cut_facts_are_read facts states text state from to told told_states says also few cut =
    subst (λ s. (a : ℕ) × (k : ℕ) × IsReadAs facts states text s from to a k) (sym also.whole)
    (subst (λ t. IsCut t from to → (a : ℕ) × (k : ℕ) × IsReadAs facts states t (json_lines states) from to a k) (sym says.whole)
    (cut_read facts (told_read facts text told says) (recursion_from_All ReadsBack facts says.read_back) few states
    (told_read states state told_states also) (recursion_from_All ReadsBack states also.read_back) from to) cut)

pub facts_are_read : FactsAreRead
facts_are_read facts states text state from to told told_states says also few cut =
    subst (λ s. length (embedded text) ≤ room → (a : ℕ) × (read (codes "[" ++ facts_text text s from to) ≡ Some
    (list (facts ++ gap_fact a 0 ∷ []))))
    (sym also.whole)
    (subst (λ t. IsCut t from to → length (embedded t) ≤ room →
    (a : ℕ) × (read (codes "[" ++ facts_text t (json_lines states) from to) ≡ Some (list (facts ++ gap_fact a 0 ∷ [])))) (sym says.whole)
    (all_read facts (told_read facts text told says) (recursion_from_All ReadsBack facts says.read_back) few states
    (told_read states state told_states also) (recursion_from_All ReadsBack states also.read_back) from to) cut)

-- ---- the last line

last_told : (before : List Data) (d : Data) → AreRead (before ++ d ∷ []) → HasIntegers d
last_told [] d h = h.0.0
last_told (x ∷ before) d h = last_told before d h.1

module _ (before : List Data) (outcome : Data) (told : AreRead (before ++ outcome ∷ [])) where
  abbrev facts : List Data
  facts = before ++ outcome ∷ []

  stands : (to : ℕ) → IsBack (json_lines facts) to → length (embedded (json_line outcome)) ≤ room → to ≤ length (json_lines before)
  stands to back little =
      let whole = last_length before outcome in
      let one = length-append (compact_text outcome) (10 ∷ []) in
      back.last (length (json_lines before)) (record {
        within = omega (arith, whole, one);
        begins = last_begins before outcome;
        fits = subst (λ t. length (embedded t) ≤ room) (sym (last_line before outcome)) little;
      })
      (last_alone before outcome (last_told before outcome told))

  module _ (states : List Data) (told_states : AreRead states) (back_states : AllByRecursion ReadsBack states) where
    with_outcome : AllByRecursion ReadsBack facts → length facts < 2 ^ 64 → (from to : ℕ) → IsCut (json_lines facts) from to →
        length (embedded (json_line outcome)) ≤ room →
        (a : ℕ) × (k : ℕ) × IsReadAs facts states (json_lines facts) (json_lines states) from to a k × (k ≤ length before)
    with_outcome back few from to cut little =
        let w = on_lines facts told back few states told_states back_states from to cut in (
          w.0,
          w.1,
          shown_is facts told back few states told_states back_states from to w.0 w.1 w.2 w.3 w.4,
          ordered facts to (length (json_lines before)) w.1 (length before) told w.3 (last_at before outcome) (stands to cut.last little),
        )

pub outcome_is_read : OutcomeIsRead
outcome_is_read before states outcome text state from to told told_states says also few cut =
    subst (λ s. length (embedded (json_line outcome)) ≤ room →
    (a : ℕ) × (k : ℕ) × IsReadAs (before ++ outcome ∷ []) states text s from to a k × (k ≤ length before)) (sym also.whole)
    (subst (λ t. IsCut t from to → length (embedded (json_line outcome)) ≤ room →
    (a : ℕ) × (k : ℕ) × IsReadAs (before ++ outcome ∷ []) states t (json_lines states) from to a k × (k ≤ length before)) (sym says.whole)
    (with_outcome before outcome (told_read (before ++ outcome ∷ []) text told says) states (told_read states state told_states also)
    (recursion_from_All ReadsBack states also.read_back)
    (recursion_from_All ReadsBack (before ++ outcome ∷ []) says.read_back) few from to) cut)
