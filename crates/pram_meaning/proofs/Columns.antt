-- Reads position by position.
use Rattle.std.proofs.Common.{All, max, ◌≡◌, ◌≢◌, ◌⊎◌, inl, inr, ℕ, ℤ, pos, zero, suc, ◌+◌, ◌-◌, ◌<◌, ◌≤◌, List, [], ◌∷◌, ◌++◌, map, drop}
use Rattle.std.proofs.Common.{length, get_or, append_assoc, Bool, true, false, not, ◌||◌, ◌&&◌, if◌then◌else◌, nat_eq, Err, Option, Some}
use Rattle.std.proofs.Common.{None, refl, ap, sym, ◌∙◌, arith}
use Rattle.std.proofs.lemmas.List.{drop_more, drop_all, map-append}
use Rattle.std.proofs.lemmas.List.Elements.{All-nil, All-cons}
use Rattle.std.proofs.lemmas.List.Folds.{list_any-append}
use Rattle.std.proofs.lemmas.List.Sums.{fold-append}
use Rattle.std.proofs.lemmas.Bool.{cases_lt}
use Rattle.std.proofs.lemmas.Grind.{flat_map-append}
use Rattle.std.proofs.lemmas.Int.{ints}
use Rattle.std.specs.List.{fold, flat_map, list_any}
use Rattle.pram_meaning.specs.declared.access.Access.{Access}
use Rattle.pram_meaning.specs.declared.key.Key.{Key}
use Rattle.pram_meaning.specs.declared.part as part
use Rattle.pram_meaning.specs.declared.read.Read.{Read}
use Rattle.pram_meaning.specs.Accesses.{access_to, is_only_reader, judged, judged_in, last_position, read_at, reads_at, shared_key}
use Rattle.pram_meaning.specs.Accesses.{write_for, writes_for}
use Rattle.pram_meaning.specs.Attempt.{Trail}
use Rattle.pram_meaning.specs.Conflict.{Part, conflict_of, is_conflict, lesser, read_key, reads_of, reads_on, trail_of}
use Rattle.pram_meaning.specs.Judging.{part_is}
use Rattle.pram_meaning.specs.Store.{numbers}
use Rattle.pram_meaning.proofs.Groups.{past, other_number, same_number}
use Rattle.pram_meaning.proofs.Swaps.{found, transposed}
use Rattle.pram_meaning.proofs.Trails.{trail_is}
use Rattle.pram_model.specs.declared.rule.Rule.TheVariants.{Common}
use Rattle.pram_values.specs.Truth.{is_equal}
use Rattle.pram_values.specs.declared.kind.Kind.TheVariants.{WriteConflict}
use Rattle.write_rules.specs.Rule.{common_value, written}
use Rattle.write_rules.specs.declared.write.Write.{Write}
use Rattle.pram_values.proofs.TruthValues.{is_equal-true}

-- ---- the last position

pub record InLongest (items : List part.Part.Part) (i n : ℕ) : Type 0 where
  pub same : last_position (map part_is items) ≡ max n (last_position (map part_is (drop i items)))

pub longest_starts : (items : List part.Part.Part) → InLongest items 0 0
longest_starts items = record { same = omega arith }

pub longest_goes : (items : List part.Part.Part) (i m n : ℕ) (x : part.Part.Part) → InLongest items i m → i < length items →
    x ≡ get_or items i x → n ≡ max m (length x.trail.items) → InLongest items (i + 1) n
longest_goes items i m n x b h is e =
    let r : ℕ = last_position (map part_is (drop (i + 1) items)) in
    let grouped : max m (max (length x.trail.items) r) ≡ max (max m (length x.trail.items)) r = omega arith in
    record {
      same = b.same
          ∙ ap (λ xs. max m (last_position (map part_is xs))) (drop_more items i x h ∙ ap (λ y. y ∷ drop (i + 1) items) (sym is))
          ∙ ap (λ t. max m (max (length t) r)) (trail_is x)
          ∙ grouped ∙ ap (λ k. max k r) (sym e);
    }

pub longest_ends : (items : List part.Part.Part) (i n : ℕ) → InLongest items i n → length items ≤ i → n ≡ last_position (map part_is items)
longest_ends items i n b h =
    let alone : max n 0 ≡ n = omega arith in
    sym (b.same ∙ ap (λ xs. max n (last_position (map part_is xs))) (drop_all i items h) ∙ alone)

abbrev AreWithin : ℕ → List Part → Type 0
AreWithin n = All (λ x. length (trail_of x.attempt) ≤ n)

within : (xs : List Part) (n : ℕ) → last_position xs ≤ n → AreWithin n xs
within [] n h = All-nil (λ x. length (trail_of x.attempt) ≤ n)
within (x ∷ xs) n h =
    All-cons (λ x. length (trail_of x.attempt) ≤ n) x xs (omega arith) (within xs n (omega arith))

-- ---- a trail's reads, position by position

read_cell : ℤ → ℕ → Option ℕ → List Read
read_cell i p None = []
read_cell i p (Some c) = record { processor = i; at = p + 1; cell = c } ∷ []

row_one : (i : ℤ) (k : ℕ) (o : Option ℕ) (t : Trail) → reads_on i k (o ∷ t) ≡ read_cell i k o ++ reads_on i (k + 1) t
unfolding read_cell
row_one i k None t = refl
row_one i k (Some c) t = refl

no_cell : (i : ℤ) (k : ℕ) (o : Option ℕ) → o ≡ None → read_cell i k o ≡ []
unfolding read_cell
no_cell i k o e = ap (read_cell i k) e

row_by : (i : ℤ) (t : Trail) (k n : ℕ) → length t ≤ k + suc n →
    reads_on i (k + 1) (drop (k + 1) t) ≡ flat_map (λ p. read_cell i p (get_or t p None)) (numbers (k + 1) n) →
    (k < length t) ⊎ (length t ≤ k) → reads_on i k (drop k t) ≡ flat_map (λ p. read_cell i p (get_or t p None)) (numbers k (suc n))
row_by i t k n h rest (inl l) =
    ap (reads_on i k) (drop_more t k None l) ∙ row_one i k (get_or t k None) (drop (k + 1) t)
    ∙ ap (λ rs. read_cell i k (get_or t k None) ++ rs) rest
row_by i t k n h rest (inr l) =
    ap (reads_on i k) (drop_all k t l) ∙ ap (reads_on i (k + 1)) (sym (drop_all (k + 1) t (omega arith)))
    ∙ rest
    ∙ ap (λ rs. rs ++ flat_map (λ p. read_cell i p (get_or t p None)) (numbers (k + 1) n))
    (sym (no_cell i k (get_or t k None) (past t k None l)))

row : (i : ℤ) (t : Trail) (k n : ℕ) → length t ≤ k + n → reads_on i k (drop k t) ≡ flat_map (λ p. read_cell i p (get_or t p None))
    (numbers k n)
row i t k zero h = ap (reads_on i k) (drop_all k t (omega arith))
row i t k (suc n) h = row_by i t k n h (row i t (k + 1) n (omega arith)) (cases_lt k (length t))

abbrev read_in : Part → ℕ → List Read
read_in x p = read_cell x.processor p (get_or (trail_of x.attempt) p None)

abbrev column : ℕ → List Part → List Read
column p = flat_map (λ x. read_in x p)

rows : (n : ℕ) (xs : List Part) → AreWithin n xs → reads_of xs ≡ flat_map (λ x. flat_map (read_in x) (numbers 0 n)) xs
rows n [] h = refl
rows n (x ∷ xs) h =
    ap (λ rs. rs ++ reads_of xs) (row x.processor (trail_of x.attempt) 0 n (let l : length (trail_of x.attempt) ≤ n = h 0 x (omega arith) in
    omega arith))
    ∙ ap (λ rs. flat_map (read_in x) (numbers 0 n) ++ rs) (rows n xs (λ k d l. h (suc k) d (omega arith)))

-- ---- conflicts of a read are those with reads at its position

apart_by : (a b c : Bool) → b ≡ false → (a && b && c) ≡ false
apart_by true true c h = absurd (cc h)
apart_by true false c h = refl
apart_by false b c h = refl

apart : (r : Read) (i : ℤ) (at c : ℕ) → r.at ≢ at → is_conflict r (record { processor = i; at = at; cell = c }) ≡ false
apart r i at c h = apart_by (not (is_equal r.processor i)) (nat_eq r.at at) (nat_eq r.cell c) (other_number r.at at h)

none_behind : (r : Read) (i : ℤ) (t : Trail) (k : ℕ) → r.at ≤ k → list_any (is_conflict r) (reads_on i k t) ≡ false
none_behind r i [] k h = refl
none_behind r i (None ∷ t) k h = none_behind r i t (k + 1) (omega arith)
none_behind r i (Some c ∷ t) k h =
    ap (λ b. b || list_any (is_conflict r) (reads_on i (k + 1) t)) (apart r i (k + 1) c (λ e. omega arith))
    ∙ none_behind r i t (k + 1) (omega arith)

any_first : (r : Read) (i : ℤ) (o : Option ℕ) (t : Trail) (k p : ℕ) → p ≡ k → r.at ≡ p + 1 → list_any (is_conflict r)
    (reads_on i k (o ∷ t)) ≡ list_any (is_conflict r) (read_cell i p o)
unfolding read_cell
any_first r i None t k p e at = none_behind r i t (k + 1) (omega (arith, e, at))
any_first r i (Some c) t k p e at =
    ap (λ b. is_conflict r (record { processor = i; at = k + 1; cell = c }) || b) (none_behind r i t (k + 1) (omega (arith, e, at)))
    ∙ ap (λ n. is_conflict r (record { processor = i; at = n + 1; cell = c }) || false) (sym e)

any_later : (r : Read) (i : ℤ) (o : Option ℕ) (t : Trail) (k : ℕ) → r.at ≢ k + 1 → list_any (is_conflict r)
    (reads_on i k (o ∷ t)) ≡ list_any (is_conflict r) (reads_on i (k + 1) t)
any_later r i None t k h = refl
any_later r i (Some c) t k h = ap (λ b. b || list_any (is_conflict r) (reads_on i (k + 1) t)) (apart r i (k + 1) c h)

any_row : (r : Read) (i : ℤ) (t : Trail) (k d p : ℕ) → p ≡ k + d → r.at ≡ p + 1 → list_any (is_conflict r)
    (reads_on i k t) ≡ list_any (is_conflict r) (read_cell i p (get_or t d None))
any_row r i [] k d p e at = sym (ap (list_any (is_conflict r)) (no_cell i p None refl))
any_row r i (o ∷ t) k zero p e at = any_first r i o t k p (omega (arith, e)) at
any_row r i (o ∷ t) k (suc d) p e at = any_later r i o t k (λ z. omega (arith, e, at, z)) ∙ any_row r i t (k + 1) d p (omega (arith, e)) at

any_column : (r : Read) (p : ℕ) (xs : List Part) → r.at ≡ p + 1 → list_any (is_conflict r) (reads_of xs) ≡ list_any (is_conflict r)
    (column p xs)
any_column r p [] at = refl
any_column r p (x ∷ xs) at =
    list_any-append (is_conflict r) (reads_on x.processor 0 (trail_of x.attempt)) (reads_of xs)
    ∙ (λ j. any_row r x.processor (trail_of x.attempt) 0 p p (omega arith) at j || any_column r p xs at j)
    ∙ sym (list_any-append (is_conflict r) (read_in x p) (column p xs))

-- ---- as the rule of common values tells them

abbrev is_other : ℤ → Write → Bool
is_other i w = not (is_equal i w.value)

same_at : (m n : ℕ) → m ≡ n → nat_eq m n ≡ true
same_at m n h = grind arith

same_by : (a b c : Bool) → b ≡ true → ((a && b && c) || false) ≡ (if c then a || false else false)
same_by true true true h = refl
same_by true true false h = refl
same_by true false c h = absurd (cc h)
same_by false true true h = refl
same_by false true false h = refl
same_by false false c h = absurd (cc h)

any_if : (i : ℤ) (w : Write) (c : Bool) → (if c then is_other i w || false else false) ≡ list_any (is_other i)
    ((if c then w ∷ [] else []) ++ [])
any_if i w true = refl
any_if i w false = refl

any_one : (r : Read) (i : ℤ) (p : ℕ) (o : Option ℕ) → r.at ≡ p + 1 → list_any (is_conflict r)
    (read_cell i p o) ≡ list_any (is_other r.processor) (writes_for r.cell (access_to (p + 1) o (record { processor = i; value = i })))
unfolding read_cell
any_one r i p None at = refl
any_one r i p (Some c) at =
    same_by (not (is_equal r.processor i)) (nat_eq r.at (p + 1)) (nat_eq r.cell c) (same_at r.at (p + 1) at)
    ∙ any_if r.processor (record { processor = i; value = i }) (nat_eq r.cell c)

any_same : (r : Read) (p : ℕ) (xs : List Part) → r.at ≡ p + 1 → list_any (is_conflict r) (column p xs) ≡ list_any (is_other r.processor)
    (writes_for r.cell (reads_at p xs))
any_same r p [] at = refl
any_same r p (x ∷ xs) at =
    list_any-append (is_conflict r) (read_in x p) (column p xs)
    ∙ (λ j. any_one r x.processor p (get_or (trail_of x.attempt) p None) at j || any_same r p xs at j)
    ∙ sym (ap (list_any (is_other r.processor)) (flat_map-append (write_for r.cell) (read_at p x.processor (trail_of x.attempt))
    (reads_at p xs))
    ∙ list_any-append (is_other r.processor) (writes_for r.cell (read_at p x.processor (trail_of x.attempt)))
    (writes_for r.cell (reads_at p xs)))

equal_turned : (x y : ℤ) → is_equal x y ≡ is_equal y x
equal_turned x y = grind (arith, ints)

not_both : (i x y : ℤ) → is_equal x y ≡ false → is_equal i x ≡ true → is_equal i y ≡ false
not_both i x y h k = grind (arith, ints)

or_none : (a : Bool) → (a || false) ≡ a
or_none true = refl
or_none false = refl

or_twice : (a b : Bool) → (a || (a || b)) ≡ (a || b)
or_twice true b = refl
or_twice false b = refl

others_by : (i x : ℤ) (w : Write) (ws : List Write) (b c : Bool) →
    (not (is_equal i x) || list_any (is_other i) ws) ≡ not (is_only_reader i (common_value x ws)) → is_equal x w.value ≡ b →
    is_equal i x ≡ c → (not (is_equal i x) || (is_other i w || list_any (is_other i) ws)) ≡ not
    (is_only_reader i (if b then common_value x ws else Err WriteConflict))
others_by i x w ws true c rest e f =
    ap (λ v. not (is_equal i x) || (not (is_equal i v) || list_any (is_other i) ws)) (sym (is_equal-true x w.value e))
    ∙ or_twice (not (is_equal i x)) (list_any (is_other i) ws) ∙ rest
others_by i x w ws false true rest e f = λ j. not (f j) || (not (not_both i x w.value e f j) || list_any (is_other i) ws)
others_by i x w ws false false rest e f = ap (λ b. not b || (is_other i w || list_any (is_other i) ws)) f

-- where the readers have an index in common, it is that of each
others : (i x : ℤ) (ws : List Write) → (not (is_equal i x) || list_any (is_other i) ws) ≡ not (is_only_reader i (common_value x ws))
others i x [] = or_none (not (is_equal i x)) ∙ ap not (equal_turned i x)
others i x (w ∷ ws) = others_by i x w ws (is_equal x w.value) (is_equal i x) (others i x ws) refl refl

some_readers : (i : ℤ) (front : List Write) (w : Write) (tail : List Write) → list_any (is_other i)
    (front ++ w ∷ tail) ≡ not (is_only_reader i (written Common (pos 0) (front ++ w ∷ tail)))
some_readers i [] w tail = others i w.value tail
some_readers i (f ∷ front) w tail = others i f.value (front ++ w ∷ tail)

told : (i : ℤ) (p c : ℕ) (xs : List Part) (front rest : List Access) →
    reads_at p xs ≡ front ++ record { at = p + 1; cell = c; write = record { processor = i; value = i } } ∷ rest →
    list_any (is_conflict (record { processor = i; at = p + 1; cell = c }))
    (reads_of xs) ≡ not (is_only_reader i (written Common (pos 0) (writes_for c (reads_at p xs))))
told i p c xs front rest split =
    let r : Read = record { processor = i; at = p + 1; cell = c } in
    let w : Write = record { processor = i; value = i } in
    let e : writes_for c (reads_at p xs) ≡ writes_for c front ++ w ∷ writes_for c rest =
    ap (writes_for c) split ∙ flat_map-append (write_for c) front (record { at = p + 1; cell = c; write = w } ∷ rest)
    ∙ ap (λ b. writes_for c front ++ ((if b then w ∷ [] else []) ++ writes_for c rest)) (same_number c) in
    any_column r p xs refl ∙ any_same r p xs refl
    ∙ ap (list_any (is_other i)) e ∙ some_readers i (writes_for c front) w (writes_for c rest)
    ∙ sym (ap (λ ws. not (is_only_reader i (written Common (pos 0) ws))) e)

-- ---- what is said at one position

key_unless : (b : Bool) (k : Key) → (if b then [] else k ∷ []) ≡ (if not b then k ∷ [] else [])
key_unless true k = refl
key_unless false k = refl

said_one : (i : ℤ) (p : ℕ) (o : Option ℕ) (xs : List Part) (front rest : List Access) →
    reads_at p xs ≡ front ++ (access_to (p + 1) o (record { processor = i; value = i }) ++ rest) →
    flat_map shared_key (map (judged_in Common (reads_at p xs)) (access_to (p + 1) o (record { processor = i; value = i }))) ≡ flat_map
    (conflict_of (reads_of xs)) (read_cell i p o)
unfolding read_cell
said_one i p None xs front rest split = refl
said_one i p (Some c) xs front rest split =
    let k : Key = read_key (record { processor = i; at = p + 1; cell = c }) in
    ap (λ ks. ks ++ [])
    (key_unless (is_only_reader i (written Common (pos 0) (writes_for c (reads_at p xs)))) k
    ∙ ap (λ b. if b then k ∷ [] else []) (sym (told i p c xs front rest split)))

said_to : (p : ℕ) (xs front ys : List Part) → xs ≡ front ++ ys →
    flat_map shared_key (map (judged_in Common (reads_at p xs)) (reads_at p ys)) ≡ flat_map (conflict_of (reads_of xs)) (column p ys)
said_to p xs front [] split = refl
said_to p xs front (y ∷ ys) split =
    let one : List Access = read_at p y.processor (trail_of y.attempt) in
    let J = judged_in Common (reads_at p xs) in
    let F = conflict_of (reads_of xs) in
    let whole : reads_at p xs ≡ reads_at p front ++ (one ++ reads_at p ys) = ap (reads_at p) split
    ∙ flat_map-append (λ x. read_at p x.processor (trail_of x.attempt)) front (y ∷ ys) in
    ap (flat_map shared_key) (map-append J one (reads_at p ys))
    ∙ flat_map-append shared_key (map J one) (map J (reads_at p ys))
    ∙ ap (λ ks. ks ++ flat_map shared_key (map J (reads_at p ys))) (said_one y.processor p (get_or (trail_of y.attempt) p None) xs
    (reads_at p front) (reads_at p ys) whole)
    ∙ ap (λ ks. flat_map F (read_in y p) ++ ks) (said_to p xs (front ++ y ∷ []) ys (split ∙ sym (append_assoc front (y ∷ []) ys)))
    ∙ sym (flat_map-append F (read_in y p) (column p ys))

-- ---- all positions

abbrev said_at : List Part → ℕ → List Key
said_at xs p = flat_map shared_key (judged Common (reads_at p xs))

said_all : (xs : List Part) (ps : List ℕ) → flat_map (said_at xs) ps ≡ flat_map (conflict_of (reads_of xs)) (flat_map (λ p. column p xs) ps)
said_all xs [] = refl
said_all xs (p ∷ ps) =
    (λ j. said_to p xs [] xs refl j ++ said_all xs ps j)
    ∙ sym (flat_map-append (conflict_of (reads_of xs)) (column p xs) (flat_map (λ p. column p xs) ps))

columns : (n : ℕ) (xs : List Part) (b : Option Key) → AreWithin n xs →
    fold lesser b (flat_map (said_at xs) (numbers 0 n)) ≡ fold lesser b (flat_map (conflict_of (reads_of xs)) (reads_of xs))
columns n xs b h =
    ap (fold lesser b) (said_all xs (numbers 0 n))
    ∙ transposed (reads_of xs) read_in xs (numbers 0 n) b
    ∙ ap (found (reads_of xs) b) (sym (rows n xs h))

pub record InColumns (xs : List Part) (n at : ℕ) (start now : Option Key) : Type 0 where
  pub same : fold lesser start (flat_map (said_at xs) (numbers 0 n)) ≡ fold lesser now (flat_map (said_at xs) (numbers at (n - at)))

pub columns_start : (xs : List Part) (n : ℕ) (start : Option Key) → InColumns xs n 0 start start
columns_start xs n start = record {
  same = ap (λ m. fold lesser start (flat_map (said_at xs) (numbers 0 m))) (let e : n ≡ n - 0 =
      omega arith in e);
}

pub columns_go : (xs : List Part) (n at : ℕ) (start now new : Option Key) → InColumns xs n at start now → at < n →
    new ≡ fold lesser now (flat_map shared_key (judged Common (reads_at at xs))) → InColumns xs n (at + 1) start new
columns_go xs n at start now new b h e = record {
  same = b.same
      ∙ ap (λ m. fold lesser now (flat_map (said_at xs) (numbers at m))) (let k : n - at ≡ suc (n - (at + 1)) = omega arith in k)
      ∙ fold-append lesser now (said_at xs at) (flat_map (said_at xs) (numbers (at + 1) (n - (at + 1))))
      ∙ ap (λ k. fold lesser k (flat_map (said_at xs) (numbers (at + 1) (n - (at + 1))))) (sym e);
}

pub columns_end : (xs : List Part) (n at : ℕ) (start now : Option Key) → InColumns xs n at start now → n ≡ last_position xs → n ≤ at →
    now ≡ fold lesser start (flat_map (conflict_of (reads_of xs)) (reads_of xs))
columns_end xs n at start now b last h =
    sym (sym (columns n xs start (within xs n (omega (arith, last)))) ∙ b.same
    ∙ ap (λ m. fold lesser now (flat_map (said_at xs) (numbers at m))) (let k : n - at ≡ zero = omega arith in k))
