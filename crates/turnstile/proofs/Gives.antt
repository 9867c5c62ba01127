-- What a seat gives back, and that it keeps what is sound.
use Rattle.std.proofs.Common.{◌≡◌, ℕ, zero, suc, ◌+◌, ◌-◌, ◌*◌, ◌%◌, ◌<◌, ◌≤◌, ◌≢◌, ◌⊎◌, true, false, Option, Some, List, [], ◌∷◌, ◌++◌}
use Rattle.std.proofs.Common.{map, length, get_or, set, sym, refl, ap, ◌∙◌, subst, inl, inr, ⊎_elim, length-set, arith}
use mathlib.Core.Logic.{dite}
use mathlib.Core.Option.{some, some-injective, some-ne-none}
use native.Mathlib.Decide.{ℕ_discrete}
use Rattle.std.specs.Prelude.{All}
use lib.ListN.{get_elem?}
use Rattle.atomic_table.specs.Table.{Valid, homes_after, carried_after}
use Rattle.atomic_table.proofs.Lists.{set_here, set_else}
use Rattle.exchange_arena.specs.Piece.{PieceState}
use Rattle.turnstile.specs.declared.views.Message.{Message}
use Rattle.turnstile.specs.declared.views.Worker.{Worker}
use Rattle.turnstile.specs.Blocks.{TwoBlocks, BelongsIn, piece_of}
use Rattle.turnstile.specs.Turns.{message, entry, weight, slot, saw, phase, taken, HasTaken, given, Homes, Carried, letters, Parcel, Sound}
use Rattle.turnstile.specs.Loads.{loaded, emptied, gives_all, homes_with, RowPlaced, ColumnPlaced}
use Rattle.turnstile.proofs.Slots.{Paced, Way, rows_differ, columns_differ, rows_and_columns_differ, slots_apart, slot_below}
use Rattle.turnstile.proofs.Grids.{put, at_put}
use Rattle.turnstile.proofs.Keeps.{paces, takes_of, gives_of}

pub all_valid : (hs : Homes) (c : Carried) → Valid hs c (gives_all c)
all_valid hs [] = tt
all_valid hs (x ∷ xs) = (tt, all_valid (set hs x.0 (some x.1)) xs)

pub all_home : (hs : Homes) (c : Carried) → homes_after hs c (gives_all c) ≡ homes_with hs c
all_home hs [] = refl
all_home hs (x ∷ xs) = all_home (set hs x.0 (some x.1)) xs

pub none_left : (c : Carried) → carried_after c (gives_all c) ≡ []
none_left [] = refl
none_left (x ∷ xs) = none_left xs

pub length-homes_with : (hs : Homes) (c : Carried) → length (homes_with hs c) ≡ length hs
length-homes_with hs [] = refl
length-homes_with hs (x ∷ xs) = length-homes_with (set hs x.0 (some x.1)) xs ∙ length-set hs x.0 (some x.1)

-- each entry of c for the slot k has Q
abbrev pub Each : (Option PieceState → Type 0) → ℕ → Carried → Type 0
Each Q k [] = Unit {0}
Each Q k (x ∷ xs) = (x.0 ≡ k → Q x.1) × Each Q k xs

-- there is an entry for the slot k
abbrev pub Names : ℕ → Carried → Type 0
Names k [] = ⊥
Names k (x ∷ xs) = (x.0 ≡ k) ⊎ Names k xs

abbrev pub At : (Option PieceState → Type 0) → ℕ → Homes → Type 0
At Q k hs = (v : Option PieceState) × (get_elem? hs k ≡ some (some v)) × Q v

stays_at : (Q : Option PieceState → Type 0) (k : ℕ) (hs : Homes) (c : Carried) → Each Q k c → At Q k hs → k < length hs →
    At Q k (homes_with hs c)
stays_at Q k hs [] each at lt = at
stays_at Q k hs (x ∷ xs) each at lt = stays_at Q k (set hs x.0 (some x.1)) xs each.1
    (dite (ℕ_discrete k x.0) (λ (e : k ≡ x.0). (
      x.1,
      subst (λ (z : ℕ). get_elem? (set hs x.0 (some x.1)) z ≡ some (some x.1)) (sym e)
          (set_here hs x.0 (some x.1) (subst (λ (z : ℕ). z < length hs) e lt)),
      each.0 (sym e),
    ))
    (λ n. (at.0, set_else hs x.0 k (some x.1) n ∙ at.1, at.2)))
    (rw (length-set hs x.0 (some x.1)) lt)

pub comes_at : (Q : Option PieceState → Type 0) (k : ℕ) (hs : Homes) (c : Carried) → Each Q k c → Names k c → k < length hs →
    At Q k (homes_with hs c)
comes_at Q k hs [] each named lt = absurd named
comes_at Q k hs (x ∷ xs) each named lt = ⊎_elim
    (λ (e : x.0 ≡ k). stays_at Q k (set hs x.0 (some x.1)) xs each.1 (
      x.1,
      subst (λ (z : ℕ). get_elem? (set hs x.0 (some x.1)) z ≡ some (some x.1)) e
          (set_here hs x.0 (some x.1) (subst (λ (z : ℕ). z < length hs) (sym e) lt)),
      each.0 e,
    ) (rw (length-set hs x.0 (some x.1)) lt))
    (λ later. comes_at Q k (set hs x.0 (some x.1)) xs each.1 later (rw (length-set hs x.0 (some x.1)) lt)) named

unnamed : (k : ℕ) (hs : Homes) (c : Carried) → ¬ Names k c → get_elem? (homes_with hs c) k ≡ get_elem? hs k
unnamed k hs [] free = refl
unnamed k hs (x ∷ xs) free = unnamed k (set hs x.0 (some x.1)) xs (λ n. free (inr n))
    ∙ set_else hs x.0 k (some x.1) (λ e. free (inl (sym e)))

pub letters_of : (p w s k : ℕ) (xs ys : List PieceState) → length xs ≡ length ys → letters (loaded p w s k xs ys) ≡ map message xs
letters_of p w s k [] ys e = refl
letters_of p w s k (x ∷ xs) [] e = absurd (omega arith)
letters_of p w s k (x ∷ xs) (y ∷ ys) e = ap (λ (z : List Message). message x ∷ z) (letters_of p w s (suc k) xs ys (omega arith))

pub loaded_end : (p w s k : ℕ) (xs ys : List PieceState) (x y : PieceState) → length xs ≡ length ys
    → loaded p w s k (xs ++ x ∷ []) (ys ++ y ∷ []) ≡ loaded p w s k xs ys ++ (slot p s w (k + length xs), Some x)
    ∷ (slot p (s + 1) (k + length xs) w, Some y) ∷ []
loaded_end p w s k [] [] x y e = let z : k + 0 ≡ k = omega arith in rw z refl
loaded_end p w s k [] (b ∷ ys) x y e = absurd (omega arith)
loaded_end p w s k (a ∷ xs) [] x y e = absurd (omega arith)
loaded_end p w s k (a ∷ xs) (b ∷ ys) x y e = let z : k + suc (length xs) ≡ suc k + length xs = omega arith in
    rw z (ap (λ (c : Carried). (slot p s w k, Some a) ∷ (slot p (s + 1) k w, Some b)
    ∷ c) (loaded_end p w s (suc k) xs ys x y (omega arith)))

pub emptied_end : (p w s k n : ℕ) → emptied p w s k (suc n) ≡ emptied p w s k n ++ (slot p s w (k + n), Option.None)
    ∷ (slot p (s + 1) (k + n) w, Option.None) ∷ []
emptied_end p w s k zero = let z : k + 0 ≡ k = omega arith in rw z refl
emptied_end p w s k (suc n) = let z : k + suc n ≡ suc k + n = omega arith in
    rw z (ap (λ (c : Carried). (slot p s w k, Option.None) ∷ (slot p (s + 1) k w, Option.None) ∷ c) (emptied_end p w s (suc k) n))

module _ (blocks : TwoBlocks) (p w s : ℕ) (lw : w < p) where
  abbrev Rowed : ℕ → List PieceState → Option PieceState → Type 0
  Rowed j xs v = (x : PieceState) × (v ≡ Some x) × BelongsIn blocks (slot p s w j) x × (get_elem? xs j ≡ some x)

  abbrev Columned : ℕ → Option PieceState → Type 0
  Columned j v = (y : PieceState) × (v ≡ Some y) × BelongsIn blocks (slot p (s + 1) j w) y

  flips : s % 2 ≢ (s + 1) % 2
  flips e = omega arith

  row_each : (j k : ℕ) (all xs ys : List PieceState) → j < p → k + length xs ≤ p → RowPlaced blocks p w s k xs →
      ((i : ℕ) (x : PieceState) → get_elem? xs i ≡ some x → get_elem? all (k + i) ≡ some x)
      → Each (Rowed j all) (slot p s w j) (loaded p w s k xs ys)
  row_each j k all [] ys lj fits placed sub = tt
  row_each j k all (x ∷ xs) [] lj fits placed sub = tt
  row_each j k all (x ∷ xs) (y ∷ ys) lj fits placed sub = (
    (λ e. let d = slots_apart p s w k s w j lw (omega arith) lw lj e in (
      x,
      refl,
      placed.0 ∙ ap (λ (z : ℕ). piece_of blocks (slot p s w z)) d.2,
      (let z : k + 0 ≡ j = omega (arith, d.2) in
          subst (λ (z : ℕ). get_elem? all z ≡ some x) z (sub 0 x refl)),
    )),
    (
      (λ e. let d = slots_apart p (s + 1) k w s w j (omega arith) lw lw lj e in absurd (flips (sym d.0))),
      row_each j (suc k) all xs ys lj (omega arith) placed.1 (λ i z h. let q : k + suc i ≡ suc k + i = omega arith in
          subst (λ (n : ℕ). get_elem? all n ≡ some z) q (sub (suc i) z h)),
    ),
  )

  column_each : (j k : ℕ) (xs ys : List PieceState) → j < p → k + length xs ≤ p → ColumnPlaced blocks p w (s + 1) k ys →
      Each (Columned j) (slot p (s + 1) j w) (loaded p w s k xs ys)
  column_each j k [] ys lj fits placed = tt
  column_each j k (x ∷ xs) [] lj fits placed = tt
  column_each j k (x ∷ xs) (y ∷ ys) lj fits placed = (
    (λ e. let d = slots_apart p s w k (s + 1) j w lw (omega arith) lj lw e in absurd (flips d.0)),
    (
      (λ e. let d = slots_apart p (s + 1) k w (s + 1) j w (omega arith) lw lj lw e in
          (y, refl, placed.0 ∙ ap (λ (z : ℕ). piece_of blocks (slot p (s + 1) z w)) d.1)),
      column_each j (suc k) xs ys lj (omega arith) placed.1,
    ),
  )

  pub row_named : (j k : ℕ) (xs ys : List PieceState) → length xs ≡ length ys → k ≤ j → j < k + length xs → Names (slot p s w j)
      (loaded p w s k xs ys)
  row_named j k [] ys e lo hi = absurd (omega arith)
  row_named j k (x ∷ xs) [] e lo hi = absurd (omega arith)
  row_named j k (x ∷ xs) (y ∷ ys) e lo hi =
      dite (ℕ_discrete k j) (λ (same : k ≡ j). inl (ap (λ (z : ℕ). slot p s w z) same))
      (λ other. inr (inr (row_named j (suc k) xs ys (omega arith) (omega arith) (omega arith))))

  pub column_named : (j k : ℕ) (xs ys : List PieceState) → length xs ≡ length ys → k ≤ j → j < k + length xs → Names (slot p (s + 1) j w)
      (loaded p w s k xs ys)
  column_named j k [] ys e lo hi = absurd (omega arith)
  column_named j k (x ∷ xs) [] e lo hi = absurd (omega arith)
  column_named j k (x ∷ xs) (y ∷ ys) e lo hi =
      dite (ℕ_discrete k j) (λ (same : k ≡ j). inr (inl (ap (λ (z : ℕ). slot p (s + 1) z w) same)))
      (λ other. inr (inr (column_named j (suc k) xs ys (omega arith) (omega arith) (omega arith))))

  only_named : (n k : ℕ) (xs ys : List PieceState) → k + length xs ≤ p → ((j : ℕ) → j < p → (n ≢ slot p s w j) × (n ≢ slot p (s + 1) j w)) →
      ¬ Names n (loaded p w s k xs ys)
  only_named n k [] ys fits other h = h
  only_named n k (x ∷ xs) [] fits other h = h
  only_named n k (x ∷ xs) (y ∷ ys) fits other h = let o = other k (omega arith) in
      ⊎_elim (λ e. o.0 (sym e)) (λ h'. ⊎_elim (λ e. o.1 (sym e)) (λ h''. only_named n (suc k) xs ys (omega arith) other h'') h') h

  -- what is at home once the worker w has given back the pieces xs and ys
  pub row_home : (hs : Homes) (xs ys : List PieceState) → length hs ≡ 2 * p * p → length xs ≡ p → length ys ≡ p →
      RowPlaced blocks p w s 0 xs → (j : ℕ) → j < p
      → (x : PieceState) × (get_elem? (homes_with hs (loaded p w s 0 xs ys)) (slot p s w j) ≡ some (some (Some x)))
      × BelongsIn blocks (slot p s w j) x × (get_elem? xs j ≡ some x)
  row_home hs xs ys room lx ly placed j lj =
      let at = comes_at (Rowed j xs) (slot p s w j) hs (loaded p w s 0 xs ys)
      (row_each j 0 xs xs ys lj (omega arith) placed (λ i x h. let z : i ≡ 0 + i = omega arith in
      subst (λ (n : ℕ). get_elem? xs n ≡ some x) z h)) (row_named j 0 xs ys (omega arith) (omega arith) (omega arith))
      (rw room (slot_below p s w j lw lj)) in
      (at.2.0, at.1 ∙ ap (λ v. some (some v)) at.2.1, at.2.2, at.2.3)

  pub column_home : (hs : Homes) (xs ys : List PieceState) → length hs ≡ 2 * p * p → length xs ≡ p → length ys ≡ p →
      ColumnPlaced blocks p w (s + 1) 0 ys → (j : ℕ) → j < p
      → (y : PieceState) × (get_elem? (homes_with hs (loaded p w s 0 xs ys)) (slot p (s + 1) j w) ≡ some (some (Some y)))
      × BelongsIn blocks (slot p (s + 1) j w) y
  column_home hs xs ys room lx ly placed j lj =
      let at = comes_at (Columned j) (slot p (s + 1) j w) hs (loaded p w s 0 xs ys) (column_each j 0 xs ys lj (omega arith) placed)
      (column_named j 0 xs ys (omega arith) (omega arith) (omega arith)) (rw room (slot_below p (s + 1) j w lj lw)) in
      (at.2.0, at.1 ∙ ap (λ v. some (some v)) at.2.1, at.2.2)

  pub other_home : (hs : Homes) (xs ys : List PieceState) → length xs ≡ p → (n : ℕ) →
      ((j : ℕ) → j < p → (n ≢ slot p s w j) × (n ≢ slot p (s + 1) j w)) →
      get_elem? (homes_with hs (loaded p w s 0 xs ys)) n ≡ get_elem? hs n
  other_home hs xs ys lx n other = unnamed n hs (loaded p w s 0 xs ys) (only_named n 0 xs ys (omega arith) other)

at_map : {A B : Type 0} (f : A → B) (l : List A) (i : ℕ) (a : A) → get_elem? l i ≡ some a → get_elem? (map f l) i ≡ some (f a)
at_map f [] i a e = absurd (some-ne-none a (sym e))
at_map f (x ∷ xs) zero a e = ap (λ y. some (f y)) (some-injective x a e)
at_map f (x ∷ xs) (suc i) a e = at_map f xs i a e

-- A worker that has taken all its parcels gives one to each. x' is the worker after
pub gives_keeps : (blocks : TwoBlocks) (p : ℕ) (words words' : List ℕ) (homes : Homes) (team : ℕ → Worker)
    (ok : Sound blocks p words homes team) (w : ℕ) → w < p → (x' : Worker) (xs ys : List PieceState)
    → length xs ≡ p → length ys ≡ p → RowPlaced blocks p w (phase (team w) + 1) 0 xs → ColumnPlaced blocks p w (phase (team w) + 1 + 1) 0 ys
    → ((i : ℕ) → i < p → saw (team w) i ≡ true) → (team w).left ≡ false
    → length words' ≡ p → ((v : ℕ) → v < p → v ≢ w → get_or words' v 0 ≡ get_or words v 0) → get_or words' w 0 ≡ phase x'
    → length x'.received ≡ phase x' → length x'.seen ≡ p → ((i : ℕ) → i < p → taken x' i ≡ phase (team w) + 1) →
    given x' ≡ phase (team w) + 2 → phase (team w) ≤ phase x'
    → ((i : ℕ) → i < p → x'.left ≡ true → saw x' i ≡ true) → ((s i : ℕ) (m : Message) → entry (team w).sent s i ≡ some m →
    entry x'.sent s i ≡ some m)
    → ((s i : ℕ) (m : Message) → entry x'.received s i ≡ some (Some m) → entry (team w).received s i ≡ some (Some m))
    → All (λ r. length r ≡ p) x'.received → ((s i : ℕ) (m : Message) → entry (team w).received s i ≡ some (Some m) →
    entry x'.received s i ≡ some (Some m))
    → (phase (team w) + 1 ≤ phase x' → (j : ℕ) (m : Message) → get_elem? (map message xs) j ≡ some m →
    entry x'.sent (phase (team w)) j ≡ some m)
    → Sound blocks p words' (homes_with homes (loaded p w (phase (team w) + 1) 0 xs ys)) (put team w x')
gives_keeps blocks p words words' homes team ok w lw x' xs ys lx ly px py all here wide' others mine rows' looks' takes' gives' grows
    leaves' sent' received' columns' filled' new_row = record {
      wide = wide';
      room = length-homes_with homes (loaded p w (f + 1) 0 xs ys) ∙ ok.room;
      counts = λ v lv. at_put team w x' (λ z y. get_or words' z 0 ≡ phase y) v (λ (e : v ≡ w).
          subst (λ (z : ℕ). get_or words' z 0 ≡ phase x') (sym e) mine) (λ n. others v lv n ∙ ok.counts v lv);
      rows = λ v lv. at_put team w x' (λ z y. length y.received ≡ phase y) v (λ _. rows') (λ _. ok.rows v lv);
      looks = λ v lv. at_put team w x' (λ z y. length y.seen ≡ p) v (λ _. looks') (λ _. ok.looks v lv);
      near = λ l k ll lk. let same = takes_same l k ll lk in let n = ok.near l k ll lk in let a : ℕ = taken
          (put team w x' l) k in let b : ℕ =
          taken (team l) k in let same' : a ≡ b = same in
          at_put team w x' (λ z y. a ≤ phase y + 1) k (λ (e : k ≡ w). let n' : b ≤ f + 1 = subst (λ (z : ℕ). b ≤ phase (team z) + 1) e n in
          let g : ℕ = phase x' in let h : f ≤ g = grows in let r : a ≤ g + 1 = omega arith in r)
          (λ _. let g : ℕ = phase (team k) in let n' : b ≤ g + 1 = n in let r : a ≤ g + 1 = omega arith in r);
      leaves = λ v k lv lk. at_put team w x' (λ z y. y.left ≡ true → saw y k ≡ true) v (λ _. leaves' k lk) (λ _. ok.leaves v k lv lk);
      parcels = λ k l s lk ll h₀ h₁. dite (ℕ_discrete k w)
          (λ (e : k ≡ w). dite (ℕ_discrete s (f + 1))
          (λ (now : s ≡ f + 1). subst (λ (z : ℕ × ℕ). Parcel blocks p homes' (put team w x' z.0) z.0 l z.1) (λ q. (sym e q, sym now q))
          (new_parcel l ll))
          (λ earlier. old_parcel k l s lk ll h₀ h₁ (let a : s < given x' = gives_now k e s h₁ in let g : ℕ =
          given x' in let g' : g ≡ f + 2 =
          gives' in let l' : ℕ = weight (team w).left in let r : s < f + 1 + l' = omega arith in
          subst (λ (z : ℕ). s < given (team z)) (sym e) r) (λ _ now. earlier now)))
          (λ other. old_parcel k l s lk ll h₀ h₁ (at_put team w x' (λ z y. s < given y →
          s < given (team z)) k (λ e. absurd (other e)) (λ _ h. h) h₁) (λ e _. other e));
      told = λ l k s m ll lk h. at_put team w x' (λ z y. entry y.sent s l ≡ some m) k (λ (e : k ≡ w).
          sent' s l m (subst (λ (z : ℕ). entry (team z).sent s l ≡ some m) e (ok.told l k s m ll lk (heard l k s m h))))
          (λ _. ok.told l k s m ll lk (heard l k s m h));
      columns = λ v lv. at_put team w x' (λ z y. All (λ r. length r ≡ p) y.received) v (λ _. columns') (λ _. ok.columns v lv);
      filled = λ l k s ll lk h. at_put team w x' (λ z y. (m : Message) × (entry y.received s k ≡ some (Some m))) l
          (λ (e : l ≡ w). let old = ok.filled w k s lw lk
          (subst (λ (z : ℕ). HasTaken (team z) k s) e (subst (λ (z : ℕ). s + 1 < z) (takes_same l k ll lk) h)) in
          (old.0, filled' s k old.0 old.1))
          (λ _. ok.filled l k s ll lk (subst (λ (z : ℕ). s + 1 < z) (takes_same l k ll lk) h));
    }
  where
    f : ℕ
    f = phase (team w)

    homes' : Homes
    homes' = homes_with homes (loaded p w (phase (team w) + 1) 0 xs ys)

    team' : ℕ → Worker
    team' = put team w x'

    takes_same : (l k : ℕ) → l < p → k < p → taken (put team w x' l) k ≡ taken (team l) k
    takes_same l k ll lk = at_put team w x' (λ z y. taken y k ≡ taken (team z) k) l
        (λ (e : l ≡ w). subst (λ (z : ℕ). taken x' k ≡ taken (team z) k) (sym e) (takes' k lk
        ∙ ap (λ b. phase (team w) + weight b) (sym (all k lk))))
        (λ _. refl)

    gives_now : (k : ℕ) → k ≡ w → (s : ℕ) → s < given (put team w x' k) → s < given x'
    gives_now k e s = at_put team w x' (λ z y. s < given y → s < given x') k (λ _ h. h) (λ n. absurd (n e))

    heard : (l k s : ℕ) (m : Message) → entry (put team w x' l).received s k ≡ some (Some m) → entry (team l).received s k ≡ some (Some m)
    heard l k s m = at_put team w x' (λ z y. entry y.received s k ≡ some (Some m) → entry (team z).received s k ≡ some (Some m)) l
        (λ (e : l ≡ w) h. subst (λ (z : ℕ). entry (team z).received s k ≡ some (Some m)) (sym e) (received' s k m h)) (λ _ h. h)

    new_parcel : (l : ℕ) → l < p → Parcel blocks p (homes_with homes (loaded p w (phase (team w) + 1) 0 xs ys))
        (put team w x' w) w l (phase (team w) + 1)
    new_parcel l ll =
        let a = row_home blocks p w (phase (team w) + 1) lw homes xs ys ok.room lx ly px l ll in
        let b = column_home blocks p w (phase (team w) + 1) lw homes xs ys ok.room lx ly py l ll in
        at_put team w x' (λ z y. Parcel blocks p (homes_with homes (loaded p w (phase (team w) + 1) 0 xs ys)) y w l (phase (team w) + 1)) w
        (λ _. record {
          piece = a.0;
          back = b.0;
          piece_home = a.1;
          back_home = b.1;
          piece_place = a.2;
          back_place = b.2;
          carries = λ _ far. let n : ℕ = phase (team w) in let z : n + 1 - 1 ≡ n = omega arith in
              subst (λ (q : ℕ). entry x'.sent q l ≡ some (message a.0)) (sym z) (new_row far l (message a.0) (at_map message xs l a.0 a.3));
        })
        (λ n. absurd (n refl))

    paced' : Paced p (takes_of (put team w x')) (gives_of (put team w x'))
    paced' i j li lj =
        let old = paces blocks p words homes team ok i j li lj in let same = takes_same j i lj li in let n : ℕ = phase (team w) in
        let a : ℕ = taken (put team w x' j) i in let b : ℕ = taken (team j) i in let same' : a ≡ b = same in (
          at_put team w x' (λ z y. given y ≤ a + 1) j
              (λ (e : j ≡ w). let t = takes' i li in let g : ℕ = given x' in let g' : g ≡ n + 2 = gives' in
              let t' : a ≡ n + 1 = at_put team w x' (λ z y. taken y i ≡ phase (team w) + 1) j (λ _. t) (λ other. absurd (other e)) in
              let r : g ≤ a + 1 = omega arith in r)
              (λ _. let g : ℕ = given (team j) in let o : g ≤ b + 1 = old.0 in let r : g ≤ a + 1 = omega arith in r),
          at_put team w x' (λ z y. given y ≤ a + 2) i
              (λ (e : i ≡ w). let g : ℕ = given x' in let g' : g ≡ n + 2 = gives' in let near = ok.near w j lw lj in let q : ℕ =
              phase (team j) in
              let t : taken (team w) j ≡ n + 1 = ap (λ b. phase (team w) + weight b) (all j lj) in let u : ℕ = taken (team w) j in
              let t' : u ≡ n + 1 = t in let near' : u ≤ q + 1 = near in
              let s : ℕ = weight (saw (team j) i) in let b' : b ≡ q + s = refl in let r : g ≤ a + 2 = omega arith in r)
              (λ _. let g : ℕ = given (team i) in let o : g ≤ b + 2 = old.1 in let r : g ≤ a + 2 = omega arith in r),
        )

    -- the new parcels are on their way
    sets_out : (l : ℕ) → l < p → Way p (takes_of (put team w x')) (gives_of (put team w x')) w l (phase (team w) + 1)
    sets_out l ll = let n : ℕ = phase (team w) in (
      lw,
      ll,
      (let same = takes_same l w ll lw in let near = ok.near l w ll lw in let a : ℕ = taken (put team w x' l) w in let b : ℕ =
          taken (team l) w in let same' : a ≡ b = same in let near' : b ≤ n + 1 = near in let r : a ≤ n + 1 = omega arith in r),
      at_put team w x' (λ z y. n + 1 < given y) w (λ _. let g : ℕ = given x' in let g' : g ≡ n + 2 = gives' in let r : n + 1 < g =
          omega arith in r) (λ other. absurd (other refl)),
    )

    old_parcel : (k l s : ℕ) → k < p → l < p → taken (put team w x' l) k ≤ s → s < given (put team w x' k) → s < given (team k) →
        (k ≡ w → s ≢ phase (team w) + 1)
        → Parcel blocks p (homes_with homes (loaded p w (phase (team w) + 1) 0 xs ys)) (put team w x' k) k l s
    old_parcel k l s lk ll h₀ h₁ h₂ differs =
        let old = ok.parcels k l s lk ll (subst (λ (z : ℕ). z ≤ s) (takes_same l k ll lk) h₀) h₂ in
        let T = takes_of (put team w x') in let G = gives_of (put team w x') in let n : ℕ = phase (team w) in let way : Way p T G k l s =
        (lk, ll, h₀, h₁) in
        let stays = λ (q : ℕ) (other : (j : ℕ) → j < p → (q ≢ slot p (n + 1) w j) × (q ≢ slot p (n + 1 + 1) j w)).
        other_home blocks p w (n + 1) lw homes xs ys lx q other in
        record {
          piece = old.piece;
          back = old.back;
          piece_home = stays (slot p s k l) (λ j lj. (
            (λ e. let d = rows_differ p T G paced' k l s w j (n + 1) way (sets_out j lj) e in
                differs d.0 d.2),
            rows_and_columns_differ p T G paced' k l s w j (n + 1) way (sets_out j lj),
          )) ∙ old.piece_home;
          back_home = stays (slot p (s + 1) l k)
              (λ j lj. (
                (λ e. rows_and_columns_differ p T G paced' w j (n + 1) k l s (sets_out j lj) way (sym e)),
                (λ e. let d = columns_differ p T G paced' k l s w j (n + 1) way (sets_out j lj) e in differs d.0 d.2),
              )) ∙ old.back_home;
          piece_place = old.piece_place;
          back_place = old.back_place;
          carries = at_put team w x' (λ z y. 1 ≤ s → s ≤ phase y → entry y.sent (s - 1) l ≡ some (message old.piece)) k
              (λ (e : k ≡ w) one far. sent' (s - 1) l (message old.piece)
              (subst (λ (z : ℕ). entry (team z).sent (s - 1) l ≡ some (message old.piece)) e (old.carries one
              (let d = differs e in let a = subst (λ (z : ℕ). s < given (team z)) e h₂ in let z = ap weight here in let v : ℕ =
              weight (team w).left in let a' : s < n + 1 + v = a in let z' : v ≡ 0 = z in let r : s ≤ n = omega arith in
              subst (λ (z : ℕ). s ≤ phase (team z)) (sym e) r))))
              (λ _. old.carries);
        }
