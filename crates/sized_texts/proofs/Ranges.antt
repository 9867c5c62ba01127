-- A text is read as a range exactly where it is one, and no list of numbers is one.
use Rattle.std.proofs.Common.{◌≡◌, ◌∙◌, ◌<◌, ◌≤◌, ◌+◌, ◌++◌, ◌∷◌, ◌==◌, ◌&&◌, [], Bool, List, ℕ, ap, arith, cond, false, length, map}
use Rattle.std.proofs.Common.{nat_le, refl, subst, sym, true}
use Rattle.std.specs.Bool.{if◌then◌else◌}
use Rattle.std.specs.Prelude.{Option, Some, None, Result, Ok, Err, IfOk}
use Rattle.std.proofs.Common.{inl, inr}
use Rattle.std.specs.List.{onto_first, prefix_len}
use Rattle.std.specs.Global.{Vec}
use Rattle.std.proofs.lemmas.Bool.Decides.{nat_tests}
use Rattle.std.proofs.lemmas.List.{drop_at, take-append-drop, take_at}
use Rattle.pram_model.proofs.Truths.{both}
use Rattle.pram_model.specs.Names.{are_words, is_digit, is_word}
use Rattle.pram_tokens.specs.Input.{are_digits, is_value}
use Rattle.pram_tokens.specs.Lexemes.{largest, value_after}
use Rattle.sized_texts.specs.declared.size_range.Growth.{Growth}
use Rattle.sized_texts.specs.declared.size_range.Growth.TheVariants.{Times, Plus}
use Rattle.sized_texts.specs.declared.size_range.Range.{Range}
use Rattle.sized_texts.specs.SizeRanges.{Begins, IsGrowth, IsProgression, IsRange, begins, behind_dots, growth_of, plus, range_by}
use Rattle.sized_texts.specs.SizeRanges.{range_from, range_of, times}
use Rattle.sized_texts.specs.SizeWords.{digits_value, name_of, rest_of}
use Rattle.sized_texts.specs.Sweeps.{AreListed, AreSizes, IsOf, most, parts}
use Rattle.sized_texts.proofs.SizeWords.{digits_found}

-- ---- what is read is a range

dots_is : (text more : List ℕ) → behind_dots text ≡ Some more → text ≡ 46 ∷ 46 ∷ more
dots_is [] more h = absurd (cc h)
dots_is (b ∷ []) more h = absurd (cc h)
dots_is (b ∷ c ∷ rest) more h = by (b == 46) (c == 46) refl refl h
  where
    by : (s t : Bool) → s ≡ (b == 46) → t ≡ (c == 46) → (if s && t then Some rest else None) ≡ Some more → b ∷ c ∷ rest ≡ 46 ∷ 46 ∷ more
    by true true p q h =
        let e : b ≡ 46 = grind (arith, nat_tests) in
        let f : c ≡ 46 = grind (arith, nat_tests) in
        let k : rest ≡ more = cc h in cc (e, f, k)
    by true false p q h = absurd (cc h)
    by false t p q h = absurd (cc h)

times_is : (digits : List ℕ) (o : Option ℕ) (g : Growth) → digits_value digits ≡ o → times o ≡ Some g → IsGrowth (42 ∷ digits) g
times_is digits None g is h = absurd (cc h)
times_is digits (Some f) g is h = by (nat_le 2 f) refl h
  where
    by : (t : Bool) → t ≡ nat_le 2 f → (if t then Some (Times f) else None) ≡ Some g → IsGrowth (42 ∷ digits) g
    by true e h =
        let k : Times f ≡ g = cc h in
        let l : 2 ≤ f = grind (arith, nat_tests) in
        subst (IsGrowth (42 ∷ digits)) k (digits, refl, is, l)
    by false e h = absurd (cc h)

plus_is : (digits : List ℕ) (o : Option ℕ) (g : Growth) → digits_value digits ≡ o → plus o ≡ Some g → IsGrowth (43 ∷ digits) g
plus_is digits None g is h = absurd (cc h)
plus_is digits (Some s) g is h = by (nat_le 1 s) refl h
  where
    by : (t : Bool) → t ≡ nat_le 1 s → (if t then Some (Plus s) else None) ≡ Some g → IsGrowth (43 ∷ digits) g
    by true e h =
        let k : Plus s ≡ g = cc h in
        let l : 1 ≤ s = grind (arith, nat_tests) in
        subst (IsGrowth (43 ∷ digits)) k (digits, refl, is, l)
    by false e h = absurd (cc h)

growth_is : (text : List ℕ) (g : Growth) → growth_of text ≡ Some g → IsGrowth text g
growth_is [] g h = absurd (cc h)
growth_is (b ∷ digits) g h = by (b == 42) (b == 43) refl refl h
  where
    by : (s t : Bool) → s ≡ (b == 42) → t ≡ (b == 43) →
        (if s then times (digits_value digits) else (if t then plus (digits_value digits) else None)) ≡ Some g → IsGrowth (b ∷ digits) g
    by true t p q h =
        let e : 42 ≡ b = grind (arith, nat_tests) in
        subst (λ x. IsGrowth (x ∷ digits) g) e (times_is digits (digits_value digits) g refl h)
    by false true p q h =
        let e : 43 ≡ b = grind (arith, nat_tests) in
        subst (λ x. IsGrowth (x ∷ digits) g) e (plus_is digits (digits_value digits) g refl h)
    by false false p q h = absurd (cc h)

begins_is : (g : Growth) (n : ℕ) → begins g n ≡ true → Begins g n
begins_is (Times f) n h = grind (arith, nat_tests)
begins_is (Plus s) n h = tt

-- the parts of a range that is read
pub record Parts (a b : Option ℕ) (g : Option Growth) (range : Range) : Type 0 where
  pub first_is : a ≡ Some range.first
  pub last_is : b ≡ Some range.last
  pub growth_is : g ≡ Some range.growth
  pub ordered : range.first ≤ range.last
  pub begins : Begins range.growth range.first

by_is : (a b : Option ℕ) (g : Option Growth) (range : Range) → range_by a b g ≡ Some range → Parts a b g range
by_is None b g range h = absurd (cc h)
by_is (Some a) None g range h = absurd (cc h)
by_is (Some a) (Some b) None range h = absurd (cc h)
by_is (Some a) (Some b) (Some g) range h = by (nat_le a b) (begins g a) refl refl h
  where
    by : (s t : Bool) → s ≡ nat_le a b → t ≡ begins g a →
        (if s && t then Some (record { first = a; last = b; growth = g }) else None) ≡ Some range → Parts (Some a) (Some b) (Some g) range
    by true true p q h =
        let k : record { first = a; last = b; growth = g } ≡ range = cc h in
        let l : a ≤ b = grind (arith, nat_tests) in
        subst (Parts (Some a) (Some b) (Some g)) k
        (record { first_is = refl; last_is = refl; growth_is = refl; ordered = l; begins = begins_is g a (sym q) })
    by true false p q h = absurd (cc h)
    by false t p q h = absurd (cc h)

pub range_is : (text : List ℕ) (range : Range) → range_of text ≡ Some range → IsRange text range
range_is text range h = by (behind_dots (rest_of text)) refl h
  where
    by : (o : Option (List ℕ)) → behind_dots (rest_of text) ≡ o → range_from (name_of text) o ≡ Some range → IsRange text range
    by None e h = absurd (cc h)
    by (Some more) e h =
        let p = by_is (digits_value (name_of text)) (digits_value (name_of more)) (growth_of (rest_of more)) range h in
        record {
          first = name_of text;
          last = name_of more;
          growth = rest_of more;
          spelled = sym (take-append-drop (prefix_len is_word text) text)
              ∙ ap (λ r. name_of text ++ r) (dots_is (rest_of text) more e)
              ∙ ap (λ r. name_of text ++ 46 ∷ 46 ∷ r) (sym (take-append-drop (prefix_len is_word more) more));
          first_is = p.first_is;
          last_is = p.last_is;
          grows = growth_is (rest_of more) range.growth p.growth_is;
          ordered = p.ordered;
          begins = p.begins;
        }

-- ---- a range is read

digit_word : (b : ℕ) → is_digit b ≡ true → is_word b ≡ true
digit_word b h = grind (arith, nat_tests)

digits_words : (text : List ℕ) → are_digits text ≡ true → are_words text ≡ true
digits_words [] h = refl
digits_words (b ∷ rest) h =
    let p = both (is_digit b) (are_digits rest) h in
    by (is_word b) (are_words rest) (digit_word b p.0) (digits_words rest p.1)
  where
    by : (s t : Bool) → s ≡ true → t ≡ true → (s && t) ≡ true
    by s t p q = cc (p, q)

value_digits : (text : List ℕ) → is_value largest text ≡ true → are_digits text ≡ true
value_digits [] h = refl
value_digits (b ∷ rest) h = (both (are_digits (b ∷ rest)) (nat_le (value_after 0 (b ∷ rest)) largest) h).0

pub number_digits : (text : List ℕ) (n : ℕ) → digits_value text ≡ Some n → are_digits text ≡ true
number_digits text n h = value_digits text (digits_found text n h).0

-- the run of letters, digits and `_` at the front ends before any other byte
run_of : (name rest : List ℕ) (c : ℕ) → are_words name ≡ true → is_word c ≡ false → prefix_len is_word (name ++ c ∷ rest) ≡ length name
run_of [] rest c h other = ap (λ t. cond t (1 + prefix_len is_word rest) 0) other
run_of (b ∷ name) rest c h other =
    let p = both (is_word b) (are_words name) h in
    let inner = run_of name rest c p.1 other in
    let next : 1 + length name ≡ length (b ∷ name) = omega arith in
    ap (λ t. cond t (1 + prefix_len is_word (name ++ c ∷ rest)) 0) p.0 ∙ ap (λ n. 1 + n) inner ∙ next

name_is : (name rest : List ℕ) (c : ℕ) → are_words name ≡ true → is_word c ≡ false → name_of (name ++ c ∷ rest) ≡ name
name_is name rest c h other =
    take_at name (c ∷ rest) (prefix_len is_word (name ++ c ∷ rest)) (sym (run_of name rest c h other))

rest_is : (name rest : List ℕ) (c : ℕ) → are_words name ≡ true → is_word c ≡ false → rest_of (name ++ c ∷ rest) ≡ c ∷ rest
rest_is name rest c h other =
    drop_at name (c ∷ rest) (prefix_len is_word (name ++ c ∷ rest)) (sym (run_of name rest c h other))

-- a growth as it is read
pub record Signed (text : List ℕ) (g : Growth) : Type 0 where
  pub sign : ℕ
  pub digits : List ℕ
  pub spelled : text ≡ sign ∷ digits
  pub other : is_word sign ≡ false
  pub read : growth_of text ≡ Some g

chosen : {A : Type 0} (t : Bool) (x : A) → t ≡ true → (if t then Some x else None) ≡ Some x
chosen t x h = ap (λ t. if t then Some x else None) h

signed : (text : List ℕ) (g : Growth) → IsGrowth text g → Signed text g
signed text (Times f) h =
    let two : nat_le 2 f ≡ true = (let l = h.3 in grind (arith, nat_tests)) in
    record {
      sign = 42;
      digits = h.0;
      spelled = h.1;
      other = refl;
      read = ap growth_of h.1 ∙ ap times h.2 ∙ chosen (nat_le 2 f) (Times f) two;
    }
signed text (Plus s) h =
    let one : nat_le 1 s ≡ true = (let l = h.3 in grind (arith, nat_tests)) in
    record {
      sign = 43;
      digits = h.0;
      spelled = h.1;
      other = refl;
      read = ap growth_of h.1 ∙ ap plus h.2 ∙ chosen (nat_le 1 s) (Plus s) one;
    }

begins_so : (g : Growth) (n : ℕ) → Begins g n → begins g n ≡ true
begins_so (Times f) n h = grind (arith, nat_tests)
begins_so (Plus s) n h = refl

by_so : (range : Range) → range.first ≤ range.last → Begins range.growth range.first →
    range_by (Some range.first) (Some range.last) (Some range.growth) ≡ Some range
by_so range ordered ok =
    let l : nat_le range.first range.last ≡ true = grind (arith, nat_tests) in
    let m = begins_so range.growth range.first ok in
    let t : (nat_le range.first range.last && begins range.growth range.first) ≡ true = cc (l, m) in
    chosen (nat_le range.first range.last && begins range.growth range.first) range t

pub range_read : (text : List ℕ) (range : Range) → IsRange text range → range_of text ≡ Some range
range_read text range r =
    let s = signed r.growth range.growth r.grows in
    let more = r.last ++ r.growth in
    let whole : text ≡ r.first ++ 46 ∷ 46 ∷ more = r.spelled in
    let first_words = digits_words r.first (number_digits r.first range.first r.first_is) in
    let last_words = digits_words r.last (number_digits r.last range.last r.last_is) in
    let more_is : more ≡ r.last ++ s.sign ∷ s.digits = ap (λ l. r.last ++ l) s.spelled in
    let name : name_of text ≡ r.first = ap name_of whole ∙ name_is r.first (46 ∷ more) 46 first_words refl in
    let rest : rest_of text ≡ 46 ∷ 46 ∷ more = ap rest_of whole ∙ rest_is r.first (46 ∷ more) 46 first_words refl in
    let last : name_of more ≡ r.last = ap name_of more_is ∙ name_is r.last s.digits s.sign last_words s.other in
    let growth : rest_of more ≡ r.growth = ap rest_of more_is ∙ rest_is r.last s.digits s.sign last_words s.other ∙ sym s.spelled in
    ap (λ l. range_from (name_of text) (behind_dots l)) rest
    ∙ ap (λ l. range_by (digits_value l) (digits_value (name_of more)) (growth_of (rest_of more))) name
    ∙ ap (λ o. range_by o (digits_value (name_of more)) (growth_of (rest_of more))) r.first_is
    ∙ ap (λ l. range_by (Some range.first) (digits_value l) (growth_of (rest_of more))) last
    ∙ ap (λ o. range_by (Some range.first) o (growth_of (rest_of more))) r.last_is
    ∙ ap (λ l. range_by (Some range.first) (Some range.last) (growth_of l)) growth
    ∙ ap (range_by (Some range.first) (Some range.last)) s.read
    ∙ by_so range r.ordered r.begins

-- ---- no list is a range

abbrev HaveDigits : List (List ℕ) → Type 0
HaveDigits [] = Unit {0}
HaveDigits (p ∷ ps) = (are_digits p ≡ true) × HaveDigits ps

listed_digits : (ps : List (List ℕ)) (zs : List ℕ) → map digits_value ps ≡ map Some zs → HaveDigits ps
listed_digits [] zs h = tt
listed_digits (p ∷ ps) [] h = absurd (cc h)
listed_digits (p ∷ ps) (z ∷ zs) h =
    let first : digits_value p ≡ Some z = cc h in
    let others : map digits_value ps ≡ map Some zs = cc h in (number_digits p z first, listed_digits ps zs others)

no_dot_first : (ps : List (List ℕ)) → HaveDigits (onto_first 46 ps) → ⊥
no_dot_first [] h = let e = h.0 in cc e
no_dot_first (p ∷ ps) h = let e = h.0 in cc e

behind_first : (b : ℕ) (ps : List (List ℕ)) → HaveDigits (onto_first b ps) → HaveDigits ps
behind_first b [] h = tt
behind_first b (p ∷ ps) h = ((both (is_digit b) (are_digits p) h.0).1, h.1)

undotted : (front rest : List ℕ) → HaveDigits (parts (front ++ 46 ∷ rest)) → ⊥
undotted [] rest h = no_dot_first (parts rest) h
undotted (b ∷ front) rest h = undotted front rest (by (b == 44) h)
  where
    by : (t : Bool) → HaveDigits (cond t ([] ∷ parts (front ++ 46 ∷ rest)) (onto_first b (parts (front ++ 46 ∷ rest)))) →
        HaveDigits (parts (front ++ 46 ∷ rest))
    by true h = h.1
    by false h = behind_first b (parts (front ++ 46 ∷ rest)) h

not_both : (text sizes : List ℕ) (range : Range) → AreListed text sizes → IsRange text range → ⊥
not_both text sizes range listed r =
    undotted r.first (46 ∷ (r.last ++ r.growth))
    (subst (λ t. HaveDigits (parts t)) r.spelled (listed_digits (parts text) sizes listed))

-- ---- the sizes of a text

abbrev pub Answered : {E : Type 0} → (List ℕ → Type 0) → Result (Option (Vec ℕ)) E → Type 0
Answered Are r = IfOk r (IsOf Are)

of_range : (text : List ℕ) (range : Range) → range_of text ≡ Some range → (o : Option (Vec ℕ)) → IsOf (IsProgression range) o →
    IsOf (AreSizes text) o
of_range text range is (Some v) h = (inr (range, range_is text range is, h.0), h.1)
of_range text range is None h = λ sizes a. by sizes a
  where
    by : (sizes : List ℕ) → AreSizes text sizes → most < length sizes
    by sizes (inl listed) = absurd (not_both text sizes range listed (range_is text range is))
    by sizes (inr r) =
        let e : Some r.0 ≡ Some range = sym (range_read text r.0 r.1) ∙ is in
        let k : r.0 ≡ range = cc e in
        h sizes (subst (λ q. IsProgression q sizes) k r.2)

of_list : (text : List ℕ) → range_of text ≡ None → (o : Option (Vec ℕ)) → IsOf (AreListed text) o → IsOf (AreSizes text) o
of_list text is (Some v) h = (inl h.0, h.1)
of_list text is None h = λ sizes a. by sizes a
  where
    by : (sizes : List ℕ) → AreSizes text sizes → most < length sizes
    by sizes (inl listed) = h sizes listed
    by sizes (inr r) = let e : None ≡ Some r.0 = sym is ∙ range_read text r.0 r.1 in absurd (cc e)

pub sizes_of_range : {E : Type 0} (text : List ℕ) (range : Range) → range_of text ≡ Some range → (r : Result (Option (Vec ℕ)) E) →
    Answered (IsProgression range) r → Answered (AreSizes text) r
sizes_of_range text range is (Ok o) h = of_range text range is o h
sizes_of_range text range is (Err e) h = tt

pub sizes_of_list : {E : Type 0} (text : List ℕ) → range_of text ≡ None → (r : Result (Option (Vec ℕ)) E) → Answered (AreListed text) r →
    Answered (AreSizes text) r
sizes_of_list text is (Ok o) h = of_list text is o h
sizes_of_list text is (Err e) h = tt
