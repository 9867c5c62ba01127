-- A Finish that leaves the barrier's rule is one that the steps allow.
use Rattle.std.proofs.Common.{◌≡◌, ℕ, zero, suc, ◌+◌, ◌-◌, ◌<◌, ◌≤◌, ◌≢◌, ◌%◌, Bool, true, false, Option, Some, None, List, [], ◌∷◌, ◌++◌}
use Rattle.std.proofs.Common.{map, length, get_or, replicate, nat_le, sym, refl, ap, ◌∙◌, subst, ⊎_elim, length-append}
use Rattle.std.proofs.Common.{get_or-set_same, get_or-set_other, arith}
use mathlib.Core.Option.{some, some-injective, some-ne-none}
use lib.ListN.{get_elem?}
use Rattle.exchange_arena.specs.Piece.{PieceState}
use Rattle.turnstile.specs.declared.views.Message.{Message}
use Rattle.turnstile.specs.declared.views.Worker.{Worker}
use Rattle.turnstile.specs.Blocks.{TwoBlocks, BelongsIn}
use Rattle.turnstile.specs.Turns.{message, entry, weight, slot, saw, phase, taken, Homes, Parcel, looked, finished}
use Rattle.turnstile.specs.Loads.{loaded, homes_with, RowPlaced, ColumnPlaced}
use Rattle.turnstile.specs.Interleavings.{Event, finish, look, Core, changed, piece_in, start, seen_by, if_new, after, May, run}
use Rattle.turnstile.specs.Interleavings.{IsInterleaving, KeepsRule, FinishesByTheRuleAreAllowed}
use Rattle.turnstile.proofs.Slots.{slots_apart, slot_below}
use Rattle.turnstile.proofs.Grids.{at_put, at_replicate, entry_end, entry-with_entry}
use Rattle.turnstile.proofs.Gives.{Each, comes_at, row_named, column_named}
use Rattle.turnstile.proofs.Orders.{same_put, seen_all, stands}

differ : {A : Type 0} → false ≡ true → A
differ e = absurd cc

entry_below : {A : Type 0} (l : List (List A)) (s i : ℕ) (b : A) → entry l s i ≡ some b → s < length l
entry_below [] s i b e = absurd (some-ne-none b (sym e))
entry_below (r ∷ rs) zero i b e = omega arith
entry_below (r ∷ rs) (suc s) i b e = let h = entry_below rs s i b e in omega arith

-- ---- what a worker that isn't seen has sent is not there yet

-- of the phase that a worker is in
abbrev Lacks : ℕ → Worker → Type 0
Lacks p x = (i : ℕ) → i < p → saw x i ≡ false →
    (1 ≤ phase x) × ((m : Message) → entry x.received (phase x - 1) i ≡ some (Some m) → ⊥)

abbrev AllLack : ℕ → Core → Type 0
AllLack p c = (w : ℕ) → w < p → Lacks p (c.team w)

none_starts : (b : TwoBlocks) → AllLack b.side (start b)
none_starts b w lw i li e = differ (sym e ∙ seen_all b.side i li)

unlike : (m : Message) → ◌≡◌ {A = Option Message} None (Some m) → ⊥
unlike m e = cc

finish_lacks : (p : ℕ) (x : Worker) (row : List Message) → length x.received ≡ phase x → Lacks p (finished x row)
finish_lacks p x row rows i li e =
    let longer : phase (finished x row) ≡ phase x + 1 = length-append x.sent (row ∷ []) in (
      (let n : ℕ = phase (finished x row) in let l : n ≡ phase x + 1 = longer in let r : 1 ≤ n = omega arith in r),
      λ m found.
          let there : phase (finished x row) - 1 ≡ length x.received =
          (let n : ℕ = phase (finished x row) in let l : n ≡ phase x + 1 = longer in let r : n - 1 ≡ length x.received = omega
          (arith, rows) in r) in
          let last : entry (x.received ++ replicate x.workers None ∷ []) (length x.received) i ≡ some (Some m) =
          subst (λ s. entry (x.received ++ replicate x.workers None ∷ []) s i ≡ some (Some m)) there found in
          ⊎_elim
          (λ old. let far = entry_below x.received (length x.received) i (Some m) old in absurd (omega (arith, far)))
          (λ new. unlike m (at_replicate {A = Option Message} x.workers None (Some m) i new))
          (entry_end x.received (replicate x.workers None) (length x.received) i (Some m) last),
    )

look_lacks : (p : ℕ) (x : Worker) (i : ℕ) (m : Message) → i < p → length x.seen ≡ p → Lacks p x → Lacks p (looked x i m)
look_lacks p x i m li wide before k lk e =
    let other : k ≢ i = (λ same. differ (sym e ∙ ap (saw (looked x i m)) same
    ∙ get_or-set_same x.seen i true false (subst (λ n. i < n) (sym wide) li))) in
    let old = before k lk (sym (get_or-set_other x.seen i k true false other) ∙ e) in (
      old.0,
      λ n found. ⊎_elim
          (λ here. other here.1)
          (λ there. old.1 n there)
          (entry-with_entry x.received (phase x - 1) i (Some m) (phase x - 1) k (Some n) found),
    )

module _ (b : TwoBlocks) (c : Core) (ok : KeepsRule b c) (before : AllLack b.side c) where
  changed_lacks : (w : ℕ) (x : Worker) → Lacks b.side x → (k : ℕ) → k < b.side → Lacks b.side (changed c.team w x k)
  changed_lacks w x new k lk = subst (Lacks b.side) (same_put c.team w x k)
      (at_put c.team w x (λ z y. z < b.side → Lacks b.side y) k (λ _ _. new) (λ _ l. before k l) lk)

  look_all : (w i : ℕ) → w < b.side → i < b.side → (known seen : Bool) → AllLack b.side (if_new b known seen (seen_by b c w i) c)
  look_all w i lw li true false = changed_lacks w (looked (c.team w) i (piece_in (get_elem? c.homes (slot b.side (phase (c.team w)) i w))))
      (look_lacks b.side (c.team w) i (piece_in (get_elem? c.homes (slot b.side (phase (c.team w)) i w))) li (ok.looks w lw) (before w lw))
  look_all w i lw li true true = before
  look_all w i lw li false seen = before

  step_lacks : (e : Event) → May b c e → AllLack b.side (after b c e)
  step_lacks (finish w row back) may = changed_lacks w (finished (c.team w) (map message row))
      (finish_lacks b.side (c.team w) (map message row) (ok.rows w may.0))
  step_lacks (look w i) may = look_all w i may.0 may.1 (nat_le (phase (c.team w)) (get_or c.words i 0)) (saw (c.team w) i)

all_lack : (b : TwoBlocks) (es : List Event) → 0 < b.side → IsInterleaving b es → AllLack b.side (run b es)
all_lack b [] pos h = none_starts b
all_lack b (e ∷ es) pos h = step_lacks b (run b es) (stands b es pos h.0).0 (all_lack b es pos h.0) e h.1

-- ---- what lies in a slot is the piece that was laid there

module _ (p w s : ℕ) (lw : w < p) where
  abbrev IsThe : ℕ → List PieceState → Option PieceState → Type 0
  IsThe j xs v = (x : PieceState) × (v ≡ Some x) × (get_elem? xs j ≡ some x)

  row_each : (j k : ℕ) (all xs ys : List PieceState) → j < p → k + length xs ≤ p →
      ((i : ℕ) (x : PieceState) → get_elem? xs i ≡ some x → get_elem? all (k + i) ≡ some x)
      → Each (IsThe j all) (slot p s w j) (loaded p w s k xs ys)
  row_each j k all [] ys lj fits sub = tt
  row_each j k all (x ∷ xs) [] lj fits sub = tt
  row_each j k all (x ∷ xs) (y ∷ ys) lj fits sub = (
    (λ e. let d = slots_apart p s w k s w j lw (omega arith) lw lj e in
        (x, refl, (let z : k + 0 ≡ j = omega (arith, d.2) in subst (λ (z : ℕ). get_elem? all z ≡ some x) z (sub 0 x refl)))),
    (
      (λ e. let d = slots_apart p (s + 1) k w s w j (omega arith) lw lw lj e in absurd (apart (sym d.0))),
      row_each j (suc k) all xs ys lj (omega arith) (λ i z h. let q : k + suc i ≡ suc k + i = omega arith in
          subst (λ (n : ℕ). get_elem? all n ≡ some z) q (sub (suc i) z h)),
    ),
  )
    where
      apart : ◌≢◌ (s % 2) ((s + 1) % 2)
      apart e = omega arith

  column_each : (j k : ℕ) (all xs ys : List PieceState) → j < p → k + length xs ≤ p →
      ((i : ℕ) (y : PieceState) → get_elem? ys i ≡ some y → get_elem? all (k + i) ≡ some y)
      → Each (IsThe j all) (slot p (s + 1) j w) (loaded p w s k xs ys)
  column_each j k all [] ys lj fits sub = tt
  column_each j k all (x ∷ xs) [] lj fits sub = tt
  column_each j k all (x ∷ xs) (y ∷ ys) lj fits sub = (
    (λ e. let d = slots_apart p s w k (s + 1) j w lw (omega arith) lj lw e in absurd (apart d.0)),
    (
      (λ e. let d = slots_apart p (s + 1) k w (s + 1) j w (omega arith) lw lj lw e in
          (y, refl, (let z : k + 0 ≡ j = omega (arith, d.1) in subst (λ (z : ℕ). get_elem? all z ≡ some y) z (sub 0 y refl)))),
      column_each j (suc k) all xs ys lj (omega arith) (λ i z h. let q : k + suc i ≡ suc k + i = omega arith in
          subst (λ (n : ℕ). get_elem? all n ≡ some z) q (sub (suc i) z h)),
    ),
  )
    where
      apart : ◌≢◌ (s % 2) ((s + 1) % 2)
      apart e = omega arith

-- each piece of a row that is where it belongs, as one
placed_row : (b : TwoBlocks) (p w s k : ℕ) (xs : List PieceState) →
    ((i : ℕ) (x : PieceState) → get_elem? xs i ≡ some x → BelongsIn b (slot p s w (k + i)) x) → RowPlaced b p w s k xs
placed_row b p w s k [] each = tt
placed_row b p w s k (x ∷ xs) each = (
  (let z : k + 0 ≡ k = omega arith in subst (λ (n : ℕ). BelongsIn b (slot p s w n) x) z (each 0 x refl)),
  placed_row b p w s (suc k) xs (λ i y h. let q : k + suc i ≡ suc k + i = omega arith in
      subst (λ (n : ℕ). BelongsIn b (slot p s w n) y) q (each (suc i) y h)),
)

placed_column : (b : TwoBlocks) (p w s k : ℕ) (xs : List PieceState) →
    ((i : ℕ) (x : PieceState) → get_elem? xs i ≡ some x → BelongsIn b (slot p s (k + i) w) x) → ColumnPlaced b p w s k xs
placed_column b p w s k [] each = tt
placed_column b p w s k (x ∷ xs) each = (
  (let z : k + 0 ≡ k = omega arith in subst (λ (n : ℕ). BelongsIn b (slot p s n w) x) z (each 0 x refl)),
  placed_column b p w s (suc k) xs (λ i y h. let q : k + suc i ≡ suc k + i = omega arith in
      subst (λ (n : ℕ). BelongsIn b (slot p s n w) y) q (each (suc i) y h)),
)

at_of : {A : Type 0} (l : List A) (i : ℕ) (a : A) → get_elem? l i ≡ some a → i < length l
at_of [] i a e = absurd (some-ne-none a (sym e))
at_of (x ∷ xs) zero a e = omega arith
at_of (x ∷ xs) (suc i) a e = let h = at_of xs i a e in omega arith

-- the same piece is found in two ways
one_piece : (a b : PieceState) → ◌≡◌ {A = Option PieceState} (Some a) (Some b) → a ≡ b
one_piece a b e = cc

module _ (b : TwoBlocks) (c : Core) (ok : KeepsRule b c) (lacks : AllLack b.side c) (w : ℕ) (row back : List PieceState)
    (lw : w < b.side) (many : length row ≡ b.side) (as_many : length back ≡ b.side)
    (kept : KeepsRule b (after b c (finish w row back))) where
  abbrev p : ℕ
  p = b.side

  abbrev f : ℕ
  f = phase (c.team w)

  abbrev y : Worker
  y = finished (c.team w) (map message row)

  abbrev homes' : Homes
  homes' = homes_with c.homes (loaded p w (f + 1) 0 row back)

  here : changed c.team w y w ≡ y
  here = sym (same_put c.team w y w) ∙ at_put c.team w y (λ z x. z ≡ w → x ≡ y) w (λ _ _. refl) (λ n e. absurd (n e)) refl

  longer : phase y ≡ f + 1
  longer = length-append (c.team w).sent (map message row ∷ [])

  -- it has seen every worker, since it has a message from each behind the step
  sees : (i : ℕ) → i < p → (seen : Bool) → saw (c.team w) i ≡ seen → saw (c.team w) i ≡ true
  sees i li true e = e
  sees i li false e =
      let lack = lacks w lw i li e in
      let one : 1 ≤ f = lack.0 in
      let has = subst (λ (x : Worker). (f - 1) + 1 < taken x i → (m : Message) × (entry x.received (f - 1) i ≡ some (Some m))) here
      (kept.filled w i (f - 1) lw li) (let n : ℕ = phase y in let l : n ≡ f + 1 = longer in let q : ℕ = weight (saw y i) in
      let r : (f - 1) + 1 < n + q = omega arith in r) in
      absurd (⊎_elim (λ old. lack.1 has.0 old)
      (λ new. unlike has.0 (at_replicate {A = Option Message} (c.team w).workers None (Some has.0) i new))
      (entry_end (c.team w).received (replicate (c.team w).workers None) (f - 1) i (Some has.0) has.1))

  -- the parcel that it gave to j
  gave : (j : ℕ) → j < p → Parcel b p homes' (changed c.team w y w) w j (f + 1)
  gave j lj = kept.parcels w j (f + 1) lw lj
      (subst (λ (x : Worker). taken x w ≤ f + 1) (same_put c.team w y j)
      (at_put c.team w y (λ z x. z < p → taken x w ≤ f + 1) j
      (λ _ _. let n : ℕ = phase y in let l : n ≡ f + 1 = longer in let none : weight (saw y w) ≡ 0 = ap weight (fresh w) in
      let q : ℕ = weight (saw y w) in let z : q ≡ 0 = none in let r : n + q ≤ f + 1 = omega arith in r)
      (λ _ l. ok.near j w l lw) lj))
      (subst (λ (x : Worker). f + 1 < phase x + 1 + weight x.left) (sym here)
      (let n : ℕ = phase y in let l : n ≡ f + 1 = longer in let q : ℕ = weight y.left in let r : f + 1 < n + 1 + q = omega arith in r))
    where
      none_seen : (n i : ℕ) → get_or (replicate n false) i false ≡ false
      none_seen zero i = refl
      none_seen (suc n) zero = refl
      none_seen (suc n) (suc i) = none_seen n i

      fresh : (i : ℕ) → saw y i ≡ false
      fresh i = none_seen (c.team w).workers i

  same_piece : (k : ℕ) (x z : PieceState) → get_elem? homes' k ≡ some (some (Some x)) → get_elem? homes' k ≡ some (some (Some z)) → x ≡ z
  same_piece k x z e d = one_piece x z (some-injective (Some x) (Some z)
      (some-injective (some (Some x)) (some (Some z)) (sym e ∙ d)))

  in_row : (j : ℕ) (x : PieceState) → get_elem? row j ≡ some x → BelongsIn b (slot p (f + 1) w j) x
  in_row j x e =
      let lj : j < p = subst (λ n. j < n) many (at_of row j x e) in
      let at = comes_at (IsThe p w (f + 1) lw j row) (slot p (f + 1) w j) c.homes (loaded p w (f + 1) 0 row back)
      (row_each p w (f + 1) lw j 0 row row back lj (omega (arith, many)) (λ i z h. let q : i ≡ 0 + i = omega arith in subst
      (λ (n : ℕ). get_elem? row n ≡ some z) q h))
      (row_named b p w (f + 1) lw j 0 row back (many ∙ sym as_many) (omega arith) (omega (arith, many, lj)))
      (subst (λ n. slot p (f + 1) w j < n) (sym ok.room) (slot_below p (f + 1) w j lw lj)) in
      let given = gave j lj in
      let first : get_elem? homes' (slot p (f + 1) w j) ≡ some (some (Some at.2.0)) = at.1 ∙ ap (λ v. some (some v)) at.2.1 in
      subst (BelongsIn b (slot p (f + 1) w j))
      (same_piece (slot p (f + 1) w j) given.piece at.2.0 given.piece_home first
      ∙ some-injective at.2.0 x (sym at.2.2 ∙ e)) given.piece_place

  in_column : (j : ℕ) (x : PieceState) → get_elem? back j ≡ some x → BelongsIn b (slot p (f + 1 + 1) j w) x
  in_column j x e =
      let lj : j < p = subst (λ n. j < n) as_many (at_of back j x e) in
      let at = comes_at (IsThe p w (f + 1) lw j back) (slot p (f + 1 + 1) j w) c.homes (loaded p w (f + 1) 0 row back)
      (column_each p w (f + 1) lw j 0 back row back lj (omega (arith, many)) (λ i z h. let q : i ≡ 0 + i = omega arith in subst
      (λ (n : ℕ). get_elem? back n ≡ some z) q h))
      (column_named b p w (f + 1) lw j 0 row back (many ∙ sym as_many) (omega arith) (omega (arith, many, lj)))
      (subst (λ n. slot p (f + 1 + 1) j w < n) (sym ok.room) (slot_below p (f + 1 + 1) j w lj lw)) in
      let given = gave j lj in
      let first : get_elem? homes' (slot p (f + 1 + 1) j w) ≡ some (some (Some at.2.0)) = at.1 ∙ ap (λ v. some (some v)) at.2.1 in
      subst (BelongsIn b (slot p (f + 1 + 1) j w))
      (same_piece (slot p (f + 1 + 1) j w) given.back at.2.0 given.back_home first
      ∙ some-injective at.2.0 x (sym at.2.2 ∙ e)) given.back_place

  pub allowed : May b c (finish w row back)
  allowed = (
    lw,
    (λ i li. sees i li (saw (c.team w) i) refl),
    many,
    as_many,
    placed_row b p w (f + 1) 0 row (λ j x e. let q : j ≡ 0 + j = omega arith in
        subst (λ n. BelongsIn b (slot p (f + 1) w n) x) q (in_row j x e)),
    placed_column b p w (f + 1 + 1) 0 back (λ j x e. let q : j ≡ 0 + j = omega arith in
        subst (λ n. BelongsIn b (slot p (f + 1 + 1) n w) x) q (in_column j x e)),
  )

pub finishes_by_the_rule_are_allowed : FinishesByTheRuleAreAllowed
finishes_by_the_rule_are_allowed b es pos h w row back lw many as_many kept =
    allowed b (run b es) (stands b es pos h).0 (all_lack b es pos h) w row back lw many as_many kept
