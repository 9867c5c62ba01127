-- What a worker took lies in no slot until it crosses.
use Rattle.std.proofs.Common.{◌≡◌, ◌≢◌, ◌∙◌, ℕ, zero, suc, ◌+◌, ◌*◌, ◌%◌, ◌<◌, ◌≤◌, Bool, true, false, List, [], ◌∷◌}
use Rattle.std.proofs.Common.{arith, get_or, get_or-set_other, length-set, nat_le, refl, set, subst, sym}
use Rattle.std.proofs.Common.{length, map, replicate}
use mathlib.Core.Logic.{dite}
use mathlib.Core.Option.{none, some}
use native.Mathlib.Decide.{ℕ_discrete}
use lib.ListN.{get_elem?}
use Rattle.atomic_table.proofs.Lists.{set_else, set_here}
use Rattle.exchange_arena.specs.Piece.{PieceState}
use Rattle.turnstile.specs.declared.views.Worker.{Worker}
use Rattle.turnstile.specs.Blocks.{TwoBlocks}
use Rattle.turnstile.specs.Interleavings.{AreOut, Core, Event, IsElsewhere, IsInterleaving, May, after, changed, finish, if_new, look}
use Rattle.turnstile.specs.Interleavings.{piece_in, run}
use Rattle.turnstile.specs.Interleavings.{seen_by, start}
use Rattle.turnstile.specs.Loads.{homes_with, loaded}
use Rattle.turnstile.specs.Turns.{Homes, Sound, Carried, finished, looked, message, phase, saw, slot, weight}
use Rattle.turnstile.proofs.Grids.{at_put}
use Rattle.turnstile.proofs.Moves.{fresh_saw}
use Rattle.turnstile.proofs.Orders.{same_put, stands}
use Rattle.turnstile.proofs.Slots.{slot_below, slots_apart}

-- ---- slots

-- nothing lies in that slot
abbrev pub IsBare : Homes → ℕ → Type 0
IsBare homes k = get_elem? homes k ≡ some none

bare_at_first : (n k : ℕ) → k < n → IsBare (replicate n none) k
bare_at_first zero k lt = absurd (omega (arith, lt))
bare_at_first (suc n) zero lt = refl
bare_at_first (suc n) (suc k) lt = bare_at_first n k (omega (arith, lt))

-- it stays so where another slot is emptied, or that one
stays_bare : (homes : Homes) (s k : ℕ) → k < length homes → IsBare homes k → IsBare (set homes s none) k
stays_bare homes s k lt bare = dite (ℕ_discrete k s)
    (λ (same : k ≡ s). subst (λ j. IsBare (set homes j none) k) same (set_here homes k none lt))
    (λ other. set_else homes s k none other ∙ bare)

-- and where what is carried goes into others
untouched : (homes : Homes) (xs : Carried) (k : ℕ) → IsElsewhere k xs → get_elem? (homes_with homes xs) k ≡ get_elem? homes k
untouched homes [] k else = refl
untouched homes (x ∷ xs) k else =
    untouched (set homes x.0 (some x.1)) xs k else.1 ∙ set_else homes x.0 k (some x.1) else.0

-- a slot that is none of those of a row and a column, from worker j on
elsewhere : (p w s k j : ℕ) (row back : List PieceState) → ((i : ℕ) → j ≤ i → i < j + length row → k ≢ slot p s w i) →
    ((i : ℕ) → j ≤ i → i < j + length row → k ≢ slot p (s + 1) i w) → IsElsewhere k (loaded p w s j row back)
elsewhere p w s k j [] back unlike nor = tt
elsewhere p w s k j (x ∷ row) [] unlike nor = tt
elsewhere p w s k j (x ∷ row) (y ∷ back) unlike nor = (
  unlike j (omega arith) (omega arith),
  (
    nor j (omega arith) (omega arith),
    elsewhere p w s k (suc j) row back (λ i from to. unlike i (omega (arith, from)) (omega (arith, to)))
        (λ i from to. nor i (omega (arith, from)) (omega (arith, to))),
  ),
)

-- a row and a column, from worker j on, whose slots are bare
are_out : (homes : Homes) (p w s j : ℕ) (row back : List PieceState) → w < p → j + length row ≤ p →
    ((i : ℕ) → j ≤ i → i < p → IsBare homes (slot p s w i)) → ((i : ℕ) → j ≤ i → i < p → IsBare homes (slot p (s + 1) i w)) →
    AreOut homes (loaded p w s j row back)
are_out homes p w s j [] back lw few rows columns = tt
are_out homes p w s j (x ∷ row) [] lw few rows columns = tt
are_out homes p w s j (x ∷ row) (y ∷ back) lw few rows columns =
    let lj : j < p = omega (arith, few) in
    let later : (i : ℕ) → i < suc j + length row → i < p = λ i to. omega (arith, to, few) in (
      rows j (omega arith) lj,
      (
        (λ e. let d = slots_apart p s w j (s + 1) j w lw lj lj lw e in let parity : s % 2 ≡ (s + 1) % 2 = d.0 in omega (arith, parity)),
        elsewhere p w s (slot p s w j) (suc j) row back
            (λ i from to e. let d = slots_apart p s w j s w i lw lj lw (later i to) e in
            let same : j ≡ i = d.2 in omega (arith, from, same))
            (λ i from to e. let d = slots_apart p s w j (s + 1) i w lw lj (later i to) lw e in let parity : s % 2 ≡ (s + 1) % 2 = d.0 in
            omega (arith, parity)),
      ),
      (
        columns j (omega arith) lj,
        elsewhere p w s (slot p (s + 1) j w) (suc j) row back
            (λ i from to e. let d = slots_apart p (s + 1) j w s w i lj lw lw (later i to) e in let parity : (s + 1) % 2 ≡ s % 2 = d.0 in
            omega (arith, parity))
            (λ i from to e. let d = slots_apart p (s + 1) j w (s + 1) i w lj lw (later i to) lw e in let same : j ≡ i = d.1 in
            omega (arith, from, same)),
        are_out homes p w s (suc j) row back lw (omega (arith, few)) (λ i from. rows i (omega (arith, from)))
            (λ i from. columns i (omega (arith, from))),
      ),
    )

-- ---- what a worker took

-- the slots of all parcels that a worker has taken in its phase are bare
abbrev pub HasTakenOut : ℕ → Homes → ℕ → Worker → Type 0
HasTakenOut p homes v x = (i : ℕ) → i < p → saw x i ≡ true →
    IsBare homes (slot p (phase x) i v) × IsBare homes (slot p (phase x + 1) v i)

abbrev pub AllTakenOut : TwoBlocks → Core → Type 0
AllTakenOut b c = (v : ℕ) → v < b.side → HasTakenOut b.side c.homes v (c.team v)

-- so it is of all workers where one of them is changed
changed_too : (p : ℕ) (team : ℕ → Worker) (w : ℕ) (y : Worker) (homes : Homes) (v : ℕ) → (v ≡ w → HasTakenOut p homes v y) →
    (v ≢ w → HasTakenOut p homes v (team v)) → HasTakenOut p homes v (changed team w y v)
changed_too p team w y homes v here else =
    subst (HasTakenOut p homes v) (same_put team w y v) (at_put team w y (HasTakenOut p homes) v here else)

module _ (b : TwoBlocks) (c : Core) (sound : Sound b b.side c.words c.homes c.team) (out : AllTakenOut b c) where
  abbrev p : ℕ
  p = b.side

  within : (s i j : ℕ) → i < p → j < p → slot p s i j < length c.homes
  within s i j li lj = subst (λ n. slot p s i j < n) (sym sound.room) (slot_below p s i j li lj)

  -- who has seen one another are in one phase
  in_phase : (v w : ℕ) → v < p → w < p → saw (c.team v) w ≡ true → saw (c.team w) v ≡ true → phase (c.team v) ≡ phase (c.team w)
  in_phase v w lv lw one other =
      let f : ℕ = phase (c.team v) in
      let g : ℕ = phase (c.team w) in
      let near : f + weight (saw (c.team v) w) ≤ g + 1 = sound.near v w lv lw in
      let back : g + weight (saw (c.team w) v) ≤ f + 1 = sound.near w v lw lv in
      let near' : f + 1 ≤ g + 1 = subst (λ (z : Bool). f + weight z ≤ g + 1) one near in
      let back' : g + 1 ≤ f + 1 = subst (λ (z : Bool). g + weight z ≤ f + 1) other back in
      let same : f ≡ g = omega (arith, near', back') in same

  -- what others took isn't where a worker that crosses puts its pieces
  module _ (w : ℕ) (row back : List PieceState) (may : May b c (finish w row back)) where
    abbrev f : ℕ
    f = phase (c.team w)

    abbrev carried : Carried
    carried = loaded p w (f + 1) 0 row back

    few : (i : ℕ) → i < 0 + length row → i < p
    few i lt = let long : length row ≡ p = may.2 in omega (arith, long, lt)

    spared : (v i : ℕ) → v < p → i < p → v ≢ w → saw (c.team v) i ≡ true →
        IsElsewhere (slot p (phase (c.team v)) i v) carried × IsElsewhere (slot p (phase (c.team v) + 1) v i) carried
    spared v i lv li other seen =
        let lw : w < p = may.0 in
        let g : ℕ = phase (c.team v) in
        let one : i ≡ w → g ≡ f = λ same. in_phase v w lv lw (subst (λ k. saw (c.team v) k ≡ true) same seen) (may.1 v lv) in (
          elsewhere p w (f + 1) (slot p g i v) 0 row back
              (λ j from to e. let d = slots_apart p g i v (f + 1) w j li lv lw (few j to) e in
              let parity : g % 2 ≡ (f + 1) % 2 = d.0 in let same : g ≡ f = one d.1 in omega (arith, parity, same))
              (λ j from to e. let d = slots_apart p g i v (f + 1 + 1) j w li lv (few j to) lw e in absurd (other d.2)),
          elsewhere p w (f + 1) (slot p (g + 1) v i) 0 row back
              (λ j from to e. let d = slots_apart p (g + 1) v i (f + 1) w j lv li lw (few j to) e in absurd (other d.1))
              (λ j from to e. let d = slots_apart p (g + 1) v i (f + 1 + 1) j w lv li (few j to) lw e in
              let parity : (g + 1) % 2 ≡ (f + 1 + 1) % 2 = d.0 in let same : g ≡ f = one d.2 in omega (arith, parity, same)),
        )

    finish_keeps : (x : (c.team w).workers ≡ p) → AllTakenOut b (after b c (finish w row back))
    finish_keeps x v lv = changed_too p c.team w (finished (c.team w) (map message row)) (homes_with c.homes carried) v
        (λ same i li seen. absurd (fresh i seen))
        (λ other i li seen. let no = spared v i lv li other seen in let had = out v lv i li seen in (
          untouched c.homes carried (slot p (phase (c.team v)) i v) no.0 ∙ had.0,
          untouched c.homes carried (slot p (phase (c.team v) + 1) v i) no.1 ∙ had.1,
        ))
      where
        differ : false ≡ true → ⊥
        differ e = cc

        fresh : (i : ℕ) → saw (finished (c.team w) (map message row)) i ≡ true → ⊥
        fresh i seen = differ (sym (fresh_saw (c.team w).workers i) ∙ seen)

  module _ (w i : ℕ) (lw : w < p) (li : i < p) where
    abbrev first : ℕ
    first = slot p (phase (c.team w)) i w

    abbrev second : ℕ
    second = slot p (phase (c.team w) + 1) w i

    abbrev emptied : Homes
    emptied = set (set c.homes first none) second none

    still : (k : ℕ) → k < length c.homes → IsBare c.homes k → IsBare emptied k
    still k lt bare = stays_bare (set c.homes first none) second k (subst (λ n. k < n) (sym (length-set c.homes first none)) lt)
        (stays_bare c.homes first k lt bare)

    now_first : IsBare emptied first
    now_first = stays_bare (set c.homes first none) second first
        (subst (λ n. first < n) (sym (length-set c.homes first none)) (within (phase (c.team w)) i w li lw))
        (set_here c.homes first none (within (phase (c.team w)) i w li lw))

    now_second : IsBare emptied second
    now_second = set_here (set c.homes first none) second none
        (subst (λ n. second < n) (sym (length-set c.homes first none)) (within (phase (c.team w) + 1) w i lw li))

    had : (v j : ℕ) → v < p → j < p → saw (c.team v) j ≡ true →
        IsBare emptied (slot p (phase (c.team v)) j v) × IsBare emptied (slot p (phase (c.team v) + 1) v j)
    had v j lv lj seen =
        let before = out v lv j lj seen in (
          still (slot p (phase (c.team v)) j v) (within (phase (c.team v)) j v lj lv) before.0,
          still (slot p (phase (c.team v) + 1) v j) (within (phase (c.team v) + 1) v j lv lj) before.1,
        )

    seen_keeps : AllTakenOut b (seen_by b c w i)
    seen_keeps v lv = changed_too p c.team w y emptied v
        (λ same j lj seen. subst (λ k. IsBare emptied (slot p (phase y) j k) × IsBare emptied (slot p (phase y + 1) k j)) (sym same)
        (dite (ℕ_discrete j i)
        (λ (new : j ≡ i). subst (λ k. IsBare emptied (slot p (phase y) k w) × IsBare emptied (slot p (phase y + 1) w k)) (sym new)
        (now_first, now_second))
        (λ old. had w j lw lj (sym (get_or-set_other (c.team w).seen i j true false old) ∙ seen))))
        (λ other j lj seen. had v j lv lj seen)
      where
        y : Worker
        y = looked (c.team w) i (piece_in (get_elem? c.homes (slot p (phase (c.team w)) i w)))

  look_keeps : (w i : ℕ) → w < p → i < p → (m n : Bool) → AllTakenOut b (if_new b m n (seen_by b c w i) c)
  look_keeps w i lw li true false = seen_keeps w i lw li
  look_keeps w i lw li true true = out
  look_keeps w i lw li false n = out

  step_keeps : ((k : ℕ) → (c.team k).workers ≡ p) → (e : Event) → May b c e → AllTakenOut b (after b c e)
  step_keeps many (finish w row back) may = finish_keeps w row back may (many w)
  step_keeps many (look w i) may = look_keeps w i may.0 may.1 (nat_le (phase (c.team w)) (get_or c.words i 0)) (saw (c.team w) i)

at_first : (b : TwoBlocks) → AllTakenOut b (start b)
at_first b v lv i li seen = (
  bare_at_first (2 * b.side * b.side) (slot b.side 0 i v) (slot_below b.side 0 i v li lv),
  bare_at_first (2 * b.side * b.side) (slot b.side 1 v i) (slot_below b.side 1 v i lv li),
)

pub all_taken_out : (b : TwoBlocks) (es : List Event) → 0 < b.side → IsInterleaving b es → AllTakenOut b (run b es)
all_taken_out b [] pos is = at_first b
all_taken_out b (e ∷ es) pos is =
    let before = stands b es pos is.0 in
    step_keeps b (run b es) before.0 (all_taken_out b es pos is.0) before.1 e is.1

-- a worker that has seen all holds a row and a column of whatever pieces
pub holds_all : (b : TwoBlocks) (c : Core) (w : ℕ) (row back : List PieceState) → AllTakenOut b c → w < b.side → length row ≡ b.side →
    ((i : ℕ) → i < b.side → saw (c.team w) i ≡ true) → AreOut c.homes (loaded b.side w (phase (c.team w) + 1) 0 row back)
holds_all b c w row back out lw long all =
    let f : ℕ = phase (c.team w) in
    are_out c.homes b.side w (f + 1) 0 row back lw (omega (arith, long)) (λ i from li. (out w lw i li (all i li)).1)
    (λ i from li. subst (λ s. get_elem? c.homes ((s * b.side + i) * b.side + w) ≡ some none) (turns f) (out w lw i li (all i li)).0)
  where
    turns : (f : ℕ) → f % 2 ≡ (f + 1 + 1) % 2
    turns f = omega arith
