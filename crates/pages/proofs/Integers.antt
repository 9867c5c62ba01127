-- Data that was read has integers in the reader's range; so facts that read back, and hold no float, have such integers alone.
use Rattle.std.proofs.Common.{◌≡◌, ◌<◌, ◌≤◌, ◌^◌, ◌∷◌, [], Bool, true, false, List, Option, None, Some, ℕ, pos, negsuc, zero, suc, arith}
use Rattle.std.proofs.Common.{drop}
use Rattle.std.proofs.Common.{Ordering, Less, Equal, Greater, refl, subst, option_map, option_and_then}
use Rattle.std.specs.Prelude.{⊤, ◌==◌, ◌&&◌, if◌then◌else◌, nat_le, nat_lt, slice_index}
use Rattle.std.specs.Float.{binary64, float_is_finite}
use Rattle.std.specs.Ordering.{nat_cmp, match_ordering}
use Rattle.std.specs.Cmp.Lexicographic.{slice_cmp}
use Rattle.std.specs.List.{AllByRecursion}
use Rattle.std.proofs.lemmas.Bool.{leb-true, ltb-true, or_parts, true≢false}
use Rattle.fast_float.specs.Text.{Parts, digits_of, minus, nearest, scan, with_sign}
use Rattle.json.specs.Json as json
use Rattle.json.specs.Lex.{tokens}
use Rattle.serde_json.specs.Data.{Num, unsigned, negative, float, Data, null, boolean, number, string, array, object, Items, no_items, item}
use Rattle.serde_json.specs.Data.{Members}
use Rattle.serde_json.specs.Data.{no_members, member, depth, put}
use Rattle.serde_json.specs.Find.{is_float}
use Rattle.serde_json.specs.Read.{float_of, is_integer, max_depth, number_from, number_of, of_items, of_json, of_members, read}
use Rattle.serde_json.specs.Written.{compact_text, has_float, items_have_float, members_have_float}
use Rattle.json_texts.specs.Lines.{ReadsBack}
use Rattle.json_texts.specs.Small.{IsSmall}

-- ---- each number of some data

abbrev mutual
  pub EachNumber : (Num → Type 0) → Data → Type 0
  EachNumber P null = ⊤
  EachNumber P (boolean b) = ⊤
  EachNumber P (number n) = P n
  EachNumber P (string s) = ⊤
  EachNumber P (array ds) = EachOfItems P ds
  EachNumber P (object ms) = EachOfMembers P ms

  pub EachOfItems : (Num → Type 0) → Items → Type 0
  EachOfItems P no_items = ⊤
  EachOfItems P (item d ds) = EachNumber P d × EachOfItems P ds

  pub EachOfMembers : (Num → Type 0) → Members → Type 0
  EachOfMembers P no_members = ⊤
  EachOfMembers P (member k d ms) = EachNumber P d × EachOfMembers P ms

-- an integer that a reader takes as one
abbrev pub IsInteger : Num → Type 0
IsInteger (unsigned n) = n < 2 ^ 64
IsInteger (negative (pos n)) = ⊥
IsInteger (negative (negsuc n)) = n < 2 ^ 63
IsInteger (float x) = ⊥

-- such an integer, or a float
abbrev pub IsTaken : Num → Type 0
IsTaken (unsigned n) = n < 2 ^ 64
IsTaken (negative (pos n)) = ⊥
IsTaken (negative (negsuc n)) = n < 2 ^ 63
IsTaken (float x) = ⊤

-- ---- what is read

abbrev Holds : {A : Type 0} → (A → Type 0) → Option A → Type 0
Holds P None = ⊤
Holds P (Some a) = P a

holds_map : {A B : Type 0} (P : A → Type 0) (Q : B → Type 0) (f : A → B) → ((a : A) → P a → Q (f a)) → (o : Option A) → Holds P o →
    Holds Q (option_map f o)
holds_map P Q f each None h = tt
holds_map P Q f each (Some a) h = each a h

holds_then : {A B : Type 0} (P : A → Type 0) (Q : B → Type 0) (f : A → Option B) → ((a : A) → P a → Holds Q (f a)) → (o : Option A) →
    Holds P o → Holds Q (option_and_then f o)
holds_then P Q f each None h = tt
holds_then P Q f each (Some a) h = each a h

float_taken : (sign : Bool) (p : Parts) → Holds IsTaken (float_of sign p)
float_taken sign p = by (float_is_finite (nearest binary64 sign p)) where
  by : (b : Bool) → Holds IsTaken (if b then Some (float (nearest binary64 sign p)) else None)
  by true = tt
  by false = tt

negative_taken : (n : ℕ) → 0 < n → n ≤ 2 ^ 63 → IsTaken (negative (with_sign true n))
negative_taken zero some fits = absurd (omega (arith, some))
negative_taken (suc n) some fits = omega (arith, fits)

from_taken : (sign : Bool) (p : Parts) → Holds IsTaken (number_from sign p)
from_taken false p = by (is_integer p) (nat_lt (digits_of p) (2 ^ 64)) refl where
  by : (a b : Bool) → nat_lt (digits_of p) (2 ^ 64) ≡ b → Holds IsTaken (if a && b then Some (unsigned (digits_of p)) else float_of false p)
  by true true e = ltb-true _ _ e
  by true false e = float_taken false p
  by false b e = float_taken false p
from_taken true p = by (is_integer p) (nat_lt 0 (digits_of p)) (nat_le (digits_of p) (2 ^ 63)) refl refl where
  by : (a b c : Bool) → nat_lt 0 (digits_of p) ≡ b → nat_le (digits_of p) (2 ^ 63) ≡ c →
      Holds IsTaken (if a && b && c then Some (negative (with_sign true (digits_of p))) else float_of true p)
  by true true true e f = negative_taken (digits_of p) (ltb-true _ _ e) (leb-true _ _ f)
  by true true false e f = float_taken true p
  by true false c e f = float_taken true p
  by false b c e f = float_taken true p

number_taken : (s : List ℕ) → Holds IsTaken (number_of s)
unfolding number_of
number_taken s = by (slice_index s 0 == minus) where
  by : (b : Bool) → Holds IsTaken (if b then number_from true (scan (drop 1 s)) else number_from false (scan s))
  by true = from_taken true (scan (drop 1 s))
  by false = from_taken false (scan s)

abbrev Taken : Data → Type 0
Taken = EachNumber IsTaken

abbrev ItemsTaken : Items → Type 0
ItemsTaken = EachOfItems IsTaken

abbrev MembersTaken : Members → Type 0
MembersTaken = EachOfMembers IsTaken

either : (o : Ordering) (a b c : Members) → MembersTaken a → MembersTaken b → MembersTaken c → MembersTaken (match_ordering o a b c)
either Less a b c x y z = x
either Equal a b c x y z = y
either Greater a b c x y z = z

put_taken : (k : List ℕ) (d : Data) (ms : Members) → Taken d → MembersTaken ms → MembersTaken (put k d ms)
put_taken k d no_members one h = (one, tt)
put_taken k d (member l e ms) one h =
    either (slice_cmp nat_cmp k l) (member k d (member l e ms)) (member l d ms) (member l e (put k d ms)) (one, h) (one, h.1)
    (h.0, put_taken k d ms one h.1)

mutual
  json_taken : (j : json.Json) → Holds Taken (of_json j)
  json_taken json.null = tt
  json_taken (json.boolean b) = tt
  json_taken (json.number s) = holds_map IsTaken Taken number (λ n h. h) (number_of s) (number_taken s)
  json_taken (json.string s) = tt
  json_taken (json.array js) = holds_map ItemsTaken Taken array (λ ds h. h) (of_items js) (items_taken js)
  json_taken (json.object ms) = holds_map MembersTaken Taken object (λ ms h. h) (of_members ms no_members) (members_taken ms no_members tt)

  items_taken : (js : json.Items) → Holds ItemsTaken (of_items js)
  items_taken json.no_items = tt
  items_taken (json.item j js) =
      holds_then Taken ItemsTaken (λ d. option_map (item d) (of_items js))
      (λ d h. holds_map ItemsTaken ItemsTaken (item d) (λ ds g. (h, g)) (of_items js) (items_taken js)) (of_json j) (json_taken j)

  members_taken : (ms : json.Members) (found : Members) → MembersTaken found → Holds MembersTaken (of_members ms found)
  members_taken json.no_members found h = h
  members_taken (json.member k j ms) found h =
      holds_then Taken MembersTaken (λ d. of_members ms (put k d found)) (λ d g. members_taken ms (put k d found) (put_taken k d found g h))
      (of_json j) (json_taken j)

read_taken : (text : List ℕ) → Holds Taken (read text)
read_taken text = by (option_and_then (λ p. json.if_last p.0 p.1) (json.value max_depth (tokens text))) where
  by : (o : Option json.Json) → Holds Taken (option_and_then of_json o)
  by None = tt
  by (Some j) = json_taken j

-- ---- where no float is in it

abbrev pub HasIntegers : Data → Type 0
HasIntegers = EachNumber IsInteger

one_integer : (n : Num) → is_float n ≡ false → IsTaken n → IsInteger n
one_integer (unsigned n) e h = h
one_integer (negative (pos n)) e h = h
one_integer (negative (negsuc n)) e h = h
one_integer (float x) e h = absurd (true≢false e)

mutual
  integers : (d : Data) → has_float d ≡ false → Taken d → HasIntegers d
  integers null e h = tt
  integers (boolean b) e h = tt
  integers (number n) e h = one_integer n e h
  integers (string s) e h = tt
  integers (array ds) e h = items_integers ds e h
  integers (object ms) e h = members_integers ms e h

  items_integers : (ds : Items) → items_have_float ds ≡ false → ItemsTaken ds → EachOfItems IsInteger ds
  items_integers no_items e h = tt
  items_integers (item d ds) e h =
      let both = or_parts (has_float d) (items_have_float ds) e in (integers d both.0 h.0, items_integers ds both.1 h.1)

  members_integers : (ms : Members) → members_have_float ms ≡ false → MembersTaken ms → EachOfMembers IsInteger ms
  members_integers no_members e h = tt
  members_integers (member k d ms) e h =
      let both = or_parts (has_float d) (members_have_float ms) e in (integers d both.0 h.0, members_integers ms both.1 h.1)

-- facts that have integers alone, and nest at most 126 deep
abbrev pub AreRead : List Data → Type 0
AreRead [] = ⊤
AreRead (d ∷ ds) = (HasIntegers d × (depth d ≤ 126)) × AreRead ds

pub those_read : (ds : List Data) → AllByRecursion (IsSmall 126) ds → AllByRecursion ReadsBack ds → AreRead ds
those_read [] told back = tt
those_read (d ∷ ds) told back =
    ((integers d told.0.no_float (subst (Holds Taken) back.0 (read_taken (compact_text d))), told.0.nests), those_read ds told.1 back.1)
