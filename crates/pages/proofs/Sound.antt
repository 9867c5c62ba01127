-- Facts whose integers fit a reader, and whose objects have their names in order, are read back.
use Rattle.std.proofs.Common.{◌≡◌, ◌<◌, ◌≤◌, ◌^◌, ◌∙◌, ◌∷◌, [], List, Some, ℕ, pos, negsuc, Ordering, Less, Equal, Greater, ap, ap₂, map, refl, sym}
use Rattle.std.specs.Prelude.{⊤, ℤ, option_and_then, option_map}
use Rattle.std.proofs.lemmas.Cmp.{nat_list_cmp_total}
use Rattle.std.specs.Cmp.Lexicographic.{slice_cmp}
use Rattle.std.specs.Ordering.{match_ordering, nat_cmp, ordering_reverse}
use Rattle.serde_json.specs.Data.{Num, unsigned, negative, float, Data, null, boolean, number, string, array, object, Items, no_items, item}
use Rattle.serde_json.specs.Data.{Members, no_members, member, depth, put}
use Rattle.serde_json.specs.Read.{number_of, of_items, of_json, of_members}
use Rattle.serde_json.specs.Written.{items_outline, members_outline, number_text, outline}
use Rattle.serde_json.specs.View.{items_of}
use Rattle.serde_json.proofs.Numbers.{number_of-decimal, number_of-negative}
use Rattle.json_texts.specs.Facts.{Field, count, list, object_of, value, values, with_fields}
use Rattle.json_texts.specs.Lines.{ReadsBack}
use Rattle.pages.proofs.AsList.{read_compact}
use Rattle.pages.proofs.Integers.{EachOfItems, EachOfMembers, HasIntegers, IsInteger}

-- ---- names in order

-- a name that comes before all of these
abbrev pub IsBefore : List ℕ → Members → Type 0
IsBefore k no_members = ⊤
IsBefore k (member l e ms) = (slice_cmp nat_cmp k l ≡ Less) × IsBefore k ms

-- each object has its names in order, each once
abbrev mutual
  pub IsOrdered : Data → Type 0
  IsOrdered null = ⊤
  IsOrdered (boolean b) = ⊤
  IsOrdered (number n) = ⊤
  IsOrdered (string s) = ⊤
  IsOrdered (array ds) = AreOrdered ds
  IsOrdered (object ms) = InOrder ms

  pub AreOrdered : Items → Type 0
  AreOrdered no_items = ⊤
  AreOrdered (item d ds) = IsOrdered d × AreOrdered ds

  pub InOrder : Members → Type 0
  InOrder no_members = ⊤
  InOrder (member k d ms) = IsBefore k ms × IsOrdered d × InOrder ms

before_all : (k l : List ℕ) (ms : Members) → slice_cmp nat_cmp k l ≡ Less → IsBefore l ms → IsBefore k ms
before_all k l no_members lt h = tt
before_all k l (member m e ms) lt h = (nat_list_cmp_total.trans k l m lt h.0, before_all k l ms lt h.1)

before_either : (j : List ℕ) (o : Ordering) (a b c : Members) → IsBefore j a → IsBefore j b → IsBefore j c →
    IsBefore j (match_ordering o a b c)
before_either j Less a b c x y z = x
before_either j Equal a b c x y z = y
before_either j Greater a b c x y z = z

before_put : (j k : List ℕ) (d : Data) (ms : Members) → slice_cmp nat_cmp j k ≡ Less → IsBefore j ms → IsBefore j (put k d ms)
before_put j k d no_members lt h = (lt, tt)
before_put j k d (member l e ms) lt h =
    before_either j (slice_cmp nat_cmp k l) _ _ _ (lt, h) h (h.0, before_put j k d ms lt h.1)

ordered_either : (o : Ordering) (k l : List ℕ) (d e : Data) (ms more : Members) → slice_cmp nat_cmp k l ≡ o → IsOrdered d →
    InOrder (member l e ms) → InOrder more → (slice_cmp nat_cmp l k ≡ Less → IsBefore l more) →
    InOrder (match_ordering o (member k d (member l e ms)) (member l d ms) (member l e more))
ordered_either Less k l d e ms more is one h rest before = ((is, before_all k l ms is h.0), one, h)
ordered_either Equal k l d e ms more is one h rest before = (h.0, one, h.2)
ordered_either Greater k l d e ms more is one h rest before =
    (before (nat_list_cmp_total.antisymm l k ∙ ap ordering_reverse is), h.1, rest)

-- a member that is put there keeps the order
put_ordered : (k : List ℕ) (d : Data) (ms : Members) → IsOrdered d → InOrder ms → InOrder (put k d ms)
put_ordered k d no_members one h = (tt, one, tt)
put_ordered k d (member l e ms) one h =
    ordered_either (slice_cmp nat_cmp k l) k l d e ms (put k d ms) refl one h (put_ordered k d ms one h.2)
    (λ lt. before_put l k d ms lt h.0)

-- ---- what is read of them

abbrev joined : Members → Members → Members
joined no_members more = more
joined (member k d ms) more = member k d (joined ms more)

-- these come before a name
abbrev AreBefore : Members → List ℕ → Type 0
AreBefore no_members k = ⊤
AreBefore (member l e ms) k = (slice_cmp nat_cmp l k ≡ Less) × AreBefore ms k

put_last : (found : Members) (k : List ℕ) (d : Data) → AreBefore found k → put k d found ≡ joined found (member k d no_members)
put_last no_members k d h = refl
put_last (member l e ms) k d h =
    ap (λ o. match_ordering o (member k d (member l e ms)) (member l d ms) (member l e (put k d ms)))
    (nat_list_cmp_total.antisymm k l ∙ ap ordering_reverse h.0)
    ∙ ap (member l e) (put_last ms k d h.1)

joined_on : (found : Members) (k : List ℕ) (d : Data) (ms : Members) →
    joined (joined found (member k d no_members)) ms ≡ joined found (member k d ms)
joined_on no_members k d ms = refl
joined_on (member l e found) k d ms = ap (member l e) (joined_on found k d ms)

joined_none : (found : Members) → joined found no_members ≡ found
joined_none no_members = refl
joined_none (member k d ms) = ap (member k d) (joined_none ms)

-- all of these come before all of those
abbrev AllBefore : Members → Members → Type 0
AllBefore found no_members = ⊤
AllBefore found (member k d ms) = AreBefore found k × AllBefore found ms

before_last : (found : Members) (k : List ℕ) (d : Data) (l : List ℕ) → AreBefore found l → slice_cmp nat_cmp k l ≡ Less →
    AreBefore (joined found (member k d no_members)) l
before_last no_members k d l h lt = (lt, tt)
before_last (member j e found) k d l h lt = (h.0, before_last found k d l h.1 lt)

all_on : (found : Members) (k : List ℕ) (d : Data) (ms : Members) → AllBefore found ms → IsBefore k ms →
    AllBefore (joined found (member k d no_members)) ms
all_on found k d no_members h g = tt
all_on found k d (member l e ms) h g = (before_last found k d l h.0 g.0, all_on found k d ms h.1 g.1)

none_before : (ms : Members) → AllBefore no_members ms
none_before no_members = tt
none_before (member k d ms) = (tt, none_before ms)

number_given : (n : Num) → IsInteger n → option_map number (number_of (number_text n)) ≡ Some (number n)
number_given (unsigned n) h = ap (option_map number) (number_of-decimal n h)
number_given (negative (pos n)) h = absurd h
number_given (negative (negsuc n)) h = ap (option_map number) (number_of-negative n h)
number_given (float x) h = absurd h

mutual
  given : (d : Data) → HasIntegers d → IsOrdered d → of_json (outline d) ≡ Some d
  given null h o = refl
  given (boolean b) h o = refl
  given (number n) h o = number_given n h
  given (string s) h o = refl
  given (array ds) h o = ap (option_map array) (items_given ds h o)
  given (object ms) h o = ap (option_map object) (members_given ms no_members h o (none_before ms))

  items_given : (ds : Items) → EachOfItems IsInteger ds → AreOrdered ds → of_items (items_outline ds) ≡ Some ds
  items_given no_items h o = refl
  items_given (item d ds) h o =
      ap₂ (λ a b. option_and_then (λ d. option_map (item d) b) a) (given d h.0 o.0) (items_given ds h.1 o.1)

  members_given : (ms found : Members) → EachOfMembers IsInteger ms → InOrder ms → AllBefore found ms →
      of_members (members_outline ms) found ≡ Some (joined found ms)
  members_given no_members found h o b = ap Some (sym (joined_none found))
  members_given (member k d ms) found h o b =
      ap (option_and_then (λ d. of_members (members_outline ms) (put k d found))) (given d h.0 o.1)
      ∙ ap (of_members (members_outline ms)) (put_last found k d b.0)
      ∙ members_given ms (joined found (member k d no_members)) h.1 o.2 (all_on found k d ms b.1 o.0)
      ∙ ap Some (joined_on found k d ms)

-- ---- sound facts

-- facts whose integers fit the reader, and whose objects have their names in order
pub record IsSound (d : Data) : Type 0 where
  pub integers : HasIntegers d
  pub ordered : IsOrdered d

pub sound_read : (d : Data) → depth d ≤ 127 → IsSound d → ReadsBack d
sound_read d shallow h = read_compact d h.integers shallow ∙ given d h.integers h.ordered

pub sound_null : IsSound null
sound_null = record { integers = tt; ordered = tt }

pub sound_text : (text : List ℕ) → IsSound (string text)
sound_text text = record { integers = tt; ordered = tt }

pub sound_count : (n : ℕ) → n < 2 ^ 64 → IsSound (count n)
sound_count n h = record { integers = h; ordered = tt }

-- all of these are
abbrev pub AreSound : List Data → Type 0
AreSound [] = ⊤
AreSound (d ∷ ds) = IsSound d × AreSound ds

items_whole : (ds : List Data) → AreSound ds → EachOfItems IsInteger (items_of ds) × AreOrdered (items_of ds)
items_whole [] h = (tt, tt)
items_whole (d ∷ ds) h = let all = items_whole ds h.1 in ((h.0.integers, all.0), (h.0.ordered, all.1))

pub sound_list : (ds : List Data) → AreSound ds → IsSound (list ds)
sound_list ds h = let all = items_whole ds h in record { integers = all.0; ordered = all.1 }

-- those that a function makes
pub sound_map : {A : Type 0} (f : A → Data) → ((a : A) → IsSound (f a)) → (xs : List A) → AreSound (map f xs)
sound_map f each [] = tt
sound_map f each (x ∷ xs) = (each x, sound_map f each xs)

pub sound_values : (vs : List ℤ) → IsSound (values vs)
sound_values vs = sound_list (map value vs) (sound_map value (λ v. sound_text _) vs)

each_either : (o : Ordering) (a b c : Members) → EachOfMembers IsInteger a → EachOfMembers IsInteger b → EachOfMembers IsInteger c →
    EachOfMembers IsInteger (match_ordering o a b c)
each_either Less a b c x y z = x
each_either Equal a b c x y z = y
each_either Greater a b c x y z = z

put_integers : (k : List ℕ) (d : Data) (ms : Members) → HasIntegers d → EachOfMembers IsInteger ms → EachOfMembers IsInteger (put k d ms)
put_integers k d no_members one h = (one, tt)
put_integers k d (member l e ms) one h =
    each_either (slice_cmp nat_cmp k l) _ _ _ (one, h) (one, h.1) (h.0, put_integers k d ms one h.1)

-- what stands under each name is
abbrev pub HasSound : List Field → Type 0
HasSound [] = ⊤
HasSound (f ∷ fs) = IsSound f.1 × HasSound fs

with_sound : (fs : List Field) (ms : Members) → HasSound fs → EachOfMembers IsInteger ms → InOrder ms →
    EachOfMembers IsInteger (with_fields fs ms) × InOrder (with_fields fs ms)
with_sound [] ms h i o = (i, o)
with_sound (f ∷ fs) ms h i o =
    with_sound fs (put f.0 f.1 ms) h.1 (put_integers f.0 f.1 ms h.0.integers i) (put_ordered f.0 f.1 ms h.0.ordered o)

pub sound_object : (fs : List Field) → HasSound fs → IsSound (object_of fs)
sound_object fs h = let all = with_sound fs no_members h tt tt in record { integers = all.0; ordered = all.1 }
