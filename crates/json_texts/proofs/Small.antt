-- Facts of small parts are small.
use Rattle.std.proofs.Common.{◌≡◌, ◌≤◌, ◌∙◌, ℕ, suc, max, Bool, true, false, ◌||◌, ◌++◌, List, [], ◌∷◌}
use Rattle.std.proofs.Common.{Ordering, Less, Equal, Greater, ap, arith, refl, sym, map}
use Rattle.std.specs.Prelude.{ℤ, if◌then◌else◌, nat_lt, decimal}
use Rattle.std.proofs.lemmas.Bool.{or_parts}
use Rattle.std.specs.Ordering.{nat_cmp, match_ordering}
use Rattle.std.specs.Cmp.Lexicographic.{slice_cmp}
use Rattle.serde_json.specs.Data.{Data, number, string, unsigned, Items, Members, no_members, member, depth, items_depth, members_depth}
use Rattle.serde_json.specs.Data.{put}
use Rattle.serde_json.specs.View.{items_of}
use Rattle.serde_json.specs.Written.{has_float, items_have_float, members_have_float}
use Rattle.json_texts.specs.Facts.{Field, count, counts, flag, large, letters, list, object_of, value, values, with_fields, word}
use Rattle.json_texts.specs.Small.{IsSmall}

-- ---- texts and numbers

pub small_flag : (n : ℕ) (b : Bool) → IsSmall n (flag b)
small_flag n b = record { nests = omega arith; no_float = refl }

pub small_word : (n : ℕ) (text : List ℕ) → IsSmall n (word text)
small_word n text = record { nests = omega arith; no_float = refl }

pub small_letters : (n : ℕ) (bytes : List ℕ) → IsSmall n (letters bytes)
small_letters n bytes = record { nests = omega arith; no_float = refl }

pub small_value : (n : ℕ) (v : ℤ) → IsSmall n (value v)
small_value n v = record { nests = omega arith; no_float = refl }

pub small_large : (n k : ℕ) → IsSmall n (large k)
small_large n k = by (nat_lt k 9007199254740992)
  where
    by : (b : Bool) → IsSmall n (if b then number (unsigned k) else string (decimal k))
    by true = record { nests = omega arith; no_float = refl }
    by false = record { nests = omega arith; no_float = refl }

pub small_count : (n k : ℕ) → IsSmall n (count k)
small_count n k = record { nests = omega arith; no_float = refl }

-- ---- lists

-- all of these are small
abbrev pub AreSmall : ℕ → List Data → Type 0
AreSmall n [] = Unit {0}
AreSmall n (d ∷ ds) = IsSmall n d × AreSmall n ds

record SmallItems (n : ℕ) (ds : Items) : Type 0 where
  pub nests : items_depth ds ≤ n
  pub no_float : items_have_float ds ≡ false

small_items : (n : ℕ) (ds : List Data) → AreSmall n ds → SmallItems n (items_of ds)
small_items n [] h = record { nests = omega arith; no_float = refl }
small_items n (d ∷ ds) h =
    let all = small_items n ds h.1 in
    let one : depth d ≤ n = h.0.nests in
    let others : items_depth (items_of ds) ≤ n = all.nests in
    record { nests = omega arith; no_float = ap (λ b. b || items_have_float (items_of ds)) h.0.no_float ∙ all.no_float }

pub small_list : (n : ℕ) (ds : List Data) → AreSmall n ds → IsSmall (suc n) (list ds)
small_list n ds h =
    let all = small_items n ds h in
    let nests : items_depth (items_of ds) ≤ n = all.nests in
    record { nests = omega arith; no_float = all.no_float }

-- those that a function makes
pub small_map : {A : Type 0} (n : ℕ) (f : A → Data) → ((a : A) → IsSmall n (f a)) → (xs : List A) → AreSmall n (map f xs)
small_map n f each [] = tt
small_map n f each (x ∷ xs) = (each x, small_map n f each xs)

pub small_values : (n : ℕ) (vs : List ℤ) → IsSmall (suc n) (values vs)
small_values n vs = small_list n (map value vs) (small_map n value (small_value n) vs)

pub small_counts : (n : ℕ) (ns : List ℕ) → IsSmall (suc n) (counts ns)
small_counts n ns = small_list n (map count ns) (small_map n count (small_count n) ns)

-- ---- objects

record SmallMembers (n : ℕ) (ms : Members) : Type 0 where
  pub nests : members_depth ms ≤ n
  pub no_float : members_have_float ms ≡ false

small_member : (n : ℕ) (k : List ℕ) (d : Data) (ms : Members) → IsSmall n d → SmallMembers n ms → SmallMembers n (member k d ms)
small_member n k d ms one others =
    let nests : depth d ≤ n = one.nests in
    let rest : members_depth ms ≤ n = others.nests in
    record { nests = omega arith; no_float = ap (λ b. b || members_have_float ms) one.no_float ∙ others.no_float }

either : (n : ℕ) (o : Ordering) (a b c : Members) → SmallMembers n a → SmallMembers n b → SmallMembers n c →
    SmallMembers n (match_ordering o a b c)
either n Less a b c x y z = x
either n Equal a b c x y z = y
either n Greater a b c x y z = z

first_of_two : (n : ℕ) (k : List ℕ) (d : Data) (ms : Members) → SmallMembers n (member k d ms) → IsSmall n d × SmallMembers n ms
first_of_two n k d ms h =
    let floats = or_parts (has_float d) (members_have_float ms) h.no_float in
    let nests : max (depth d) (members_depth ms) ≤ n = h.nests in
    (record { nests = omega arith; no_float = floats.0 }, record { nests = omega arith; no_float = floats.1 })

small_put : (n : ℕ) (k : List ℕ) (d : Data) (ms : Members) → IsSmall n d → SmallMembers n ms → SmallMembers n (put k d ms)
small_put n k d no_members one h = small_member n k d no_members one h
small_put n k d (member l e ms) one h =
    let parts = first_of_two n l e ms h in
    either n (slice_cmp nat_cmp k l) _ _ _ (small_member n k d (member l e ms) one h) (small_member n l d ms one parts.1)
    (small_member n l e (put k d ms) parts.0 (small_put n k d ms one parts.1))

-- what stands under each name is small
abbrev pub HasSmall : ℕ → List Field → Type 0
HasSmall n [] = Unit {0}
HasSmall n (f ∷ fs) = IsSmall n f.1 × HasSmall n fs

small_with : (n : ℕ) (fs : List Field) (ms : Members) → HasSmall n fs → SmallMembers n ms → SmallMembers n (with_fields fs ms)
small_with n [] ms h all = all
small_with n (f ∷ fs) ms h all = small_with n fs (put f.0 f.1 ms) h.1 (small_put n f.0 f.1 ms h.0 all)

no_member : (n : ℕ) → SmallMembers n no_members
no_member n = record { nests = omega arith; no_float = refl }

pub small_object : (n : ℕ) (fs : List Field) → HasSmall n fs → IsSmall (suc n) (object_of fs)
small_object n fs h =
    let all = small_with n fs no_members h (no_member n) in
    let nests : members_depth (with_fields fs no_members) ≤ n = all.nests in
    record { nests = omega arith; no_float = all.no_float }

-- fields behind fields
pub has_all : (n : ℕ) (fs gs : List Field) → HasSmall n fs → HasSmall n gs → HasSmall n (fs ++ gs)
has_all n [] gs h k = k
has_all n (f ∷ fs) gs h k = (h.0, has_all n fs gs h.1 k)

pub with_more : (fs gs : List Field) (ms : Members) → with_fields (fs ++ gs) ms ≡ with_fields gs (with_fields fs ms)
with_more [] gs ms = refl
with_more (f ∷ fs) gs ms = with_more fs gs (put f.0 f.1 ms)

-- fields that were put, and others behind them
pub put_then : (fs gs : List Field) (a b c : Members) → b ≡ with_fields fs a → c ≡ with_fields gs b → c ≡ with_fields (fs ++ gs) a
put_then fs gs a b c x y = y ∙ ap (with_fields gs) x ∙ sym (with_more fs gs a)

-- what is small at a level is so at the levels above
pub smaller : (m n : ℕ) (d : Data) → m ≤ n → IsSmall m d → IsSmall n d
smaller m n d below h = let nests : depth d ≤ m = h.nests in record { nests = omega arith; no_float = h.no_float }
