-- A worker with the fewest crossings has a step.
use Rattle.std.proofs.Common.{◌≡◌, ◌∙◌, ◌⊎◌, inl, inr, ℕ, zero, suc, ◌+◌, ◌*◌, ◌<◌, ◌≤◌, Bool, true, false, List, [], ◌∷◌, length, map}
use Rattle.std.proofs.Common.{ap, arith, get_or, get_or-set_same, length-append, nat_le, refl, subst, sym}
use Rattle.std.specs.Prelude.{◌-◌, if◌then◌else◌, nat_lt}
use Rattle.std.proofs.lemmas.Bool.{le-leb, leb-false, leb-true}
use mathlib.Core.Logic.{dite}
use native.Mathlib.Decide.{ℕ_discrete}
use Rattle.exchange_arena.specs.Block.{piece_at}
use Rattle.exchange_arena.specs.Piece.{PieceState, emptied_piece}
use Rattle.turnstile.specs.declared.views.Worker.{Worker}
use Rattle.turnstile.specs.Blocks.{TwoBlocks, even_block, odd_block, piece_of}
use Rattle.turnstile.specs.Interleavings.{Core, Event, May, after, changed, finish, if_new, look, run, seen_by}
use Rattle.turnstile.specs.Loads.{ColumnPlaced, RowPlaced}
use Rattle.turnstile.specs.Turns.{Sound, finished, message, phase, saw, slot, taken, weight}
use Rattle.turnstile.proofs.Grids.{put_here}
use Rattle.turnstile.proofs.Orders.{same_put, steps_keep_the_rule}
use Rattle.barrier_laws.specs.Progress.{HasWhatItTakes, NeverSticks, NobodyIsTwoAhead, TellsSomething, crossings, maker}
use Rattle.barrier_laws.proofs.Hands.{AllTakenOut, all_taken_out, holds_all}

-- ---- the fewest crossings

-- of the first n numbers one has the least value
pub record Least (f : ℕ → ℕ) (n : ℕ) : Type 0 where
  pub at : ℕ
  pub within : at < n
  pub least : (i : ℕ) → i < n → f at ≤ f i

one_more : (f : ℕ → ℕ) (n : ℕ) → Least f n → Least f (suc n)
one_more f n l = by (nat_le (f l.at) (f n)) refl
  where
    keeps : f l.at ≤ f n → (i : ℕ) → i < suc n → f l.at ≤ f i
    keeps below i lt = dite (ℕ_discrete i n) (λ is. subst (λ k. f l.at ≤ f k) (sym is) below)
        (λ other. l.least i (omega (arith, lt, other)))

    moves : f n ≤ f l.at → (i : ℕ) → i < suc n → f n ≤ f i
    moves below i lt =
        dite (ℕ_discrete i n) (λ is. subst (λ k. f n ≤ f k) (sym is) (let q : ℕ = f n in let r : q ≤ q = omega arith in r))
        (λ other. let first : f l.at ≤ f i = l.least i (omega (arith, lt, other)) in omega (arith, first, below))

    by : (c : Bool) → nat_le (f l.at) (f n) ≡ c → Least f (suc n)
    by true is = record { at = l.at; within = omega (arith, l.within); least = keeps (leb-true (f l.at) (f n) is) }
    by false is =
        let above : f n < f l.at = leb-false (f l.at) (f n) is in
        record { at = n; within = omega arith; least = moves (omega (arith, above)) }

pub least_of : (f : ℕ → ℕ) (n : ℕ) → 0 < n → Least f n
least_of f zero some = absurd (omega (arith, some))
least_of f (suc zero) some = record {
  at = 0;
  within = omega arith;
  least = λ i lt. let same : i ≡ 0 = omega (arith, lt) in
      subst (λ k. f 0 ≤ f k) (sym same) (let q : ℕ = f 0 in let r : q ≤ q = omega arith in r);
}
least_of f (suc (suc n)) some = one_more f (suc n) (least_of f (suc n) (omega arith))

-- ---- pieces for a step

empty : (b : TwoBlocks) (k : ℕ) → emptied_piece (piece_of b k) ≡ piece_of b k
empty b k = by (nat_lt k (b.side * b.side))
  where
    by : (c : Bool) → emptied_piece (if c then piece_at (even_block b) k else piece_at (odd_block b) (k - b.side * b.side))
        ≡ (if c then piece_at (even_block b) k else piece_at (odd_block b) (k - b.side * b.side))
    by true = refl
    by false = refl

-- the empty pieces that belong in a row, and in a column, from k on
abbrev row_from : TwoBlocks → (w s k n : ℕ) → List PieceState
row_from b w s k zero = []
row_from b w s k (suc n) = piece_of b (slot b.side s w k) ∷ row_from b w s (suc k) n

row_long : (b : TwoBlocks) (w s k n : ℕ) → length (row_from b w s k n) ≡ n
row_long b w s k zero = refl
row_long b w s k (suc n) = ap suc (row_long b w s (suc k) n)

row_placed : (b : TwoBlocks) (w s k n : ℕ) → RowPlaced b b.side w s k (row_from b w s k n)
row_placed b w s k zero = tt
row_placed b w s k (suc n) = (empty b (slot b.side s w k), row_placed b w s (suc k) n)

abbrev column_from : TwoBlocks → (w s k n : ℕ) → List PieceState
column_from b w s k zero = []
column_from b w s k (suc n) = piece_of b (slot b.side s k w) ∷ column_from b w s (suc k) n

column_long : (b : TwoBlocks) (w s k n : ℕ) → length (column_from b w s k n) ≡ n
column_long b w s k zero = refl
column_long b w s k (suc n) = ap suc (column_long b w s (suc k) n)

column_placed : (b : TwoBlocks) (w s k n : ℕ) → ColumnPlaced b b.side w s k (column_from b w s k n)
column_placed b w s k zero = tt
column_placed b w s k (suc n) = (empty b (slot b.side s k w), column_placed b w s (suc k) n)

-- ---- whom a worker has seen

-- it has seen all of the first n, or one of them not
seen_or_not : (x : Worker) (n : ℕ) → ((i : ℕ) → i < n → saw x i ≡ true) ⊎ ((i : ℕ) × (i < n) × (saw x i ≡ false))
seen_or_not x zero = inl (λ i lt. absurd (omega (arith, lt)))
seen_or_not x (suc n) = by (saw x n) refl (seen_or_not x n)
  where
    Seen : Type 0
    Seen = ((i : ℕ) → i < suc n → saw x i ≡ true) ⊎ ((i : ℕ) × (i < suc n) × (saw x i ≡ false))

    by : (c : Bool) → saw x n ≡ c → ((i : ℕ) → i < n → saw x i ≡ true) ⊎ ((i : ℕ) × (i < n) × (saw x i ≡ false)) → Seen
    by c is (inr (i, lt, unseen)) = inr (i, (omega (arith, lt)), unseen)
    by false is (inl all) = inr (n, (omega arith), is)
    by true is (inl all) = inl (λ i lt. dite (ℕ_discrete i n) (λ same. subst (λ k. saw x k ≡ true) (sym same) is)
        (λ other. all i (omega (arith, lt, other))))

-- ---- what is known behind a step

here : (team : ℕ → Worker) (w : ℕ) (x : Worker) → changed team w x w ≡ x
here team w x = sym (same_put team w x w) ∙ put_here team w x

finish_tells : (b : TwoBlocks) (c : Core) (w : ℕ) (row back : List PieceState) → TellsSomething b c (finish w row back)
finish_tells b c w row back =
    ap phase (here c.team w (finished (c.team w) (map message row))) ∙ length-append (c.team w).sent (map message row ∷ [])

is_new : (b : TwoBlocks) (m n : Bool) (new old : Core) → m ≡ true → n ≡ false → if_new b m n new old ≡ new
is_new b m n new old is other =
    ap (λ k. if_new b k n new old) is ∙ ap (λ k. if_new b true k new old) other

look_tells : (b : TwoBlocks) (c : Core) (w i : ℕ) → phase (c.team w) ≤ get_or c.words i 0 → i < length (c.team w).seen →
    saw (c.team w) i ≡ false → TellsSomething b c (look w i)
look_tells b c w i come within unseen =
    let new : after b c (look w i) ≡ seen_by b c w i =
    is_new b (nat_le (phase (c.team w)) (get_or c.words i 0)) (saw (c.team w) i) (seen_by b c w i) c
    (le-leb (phase (c.team w)) (get_or c.words i 0) come) unseen in (
      unseen,
      ap (λ (k : Core). saw (k.team w) i) new ∙ ap (λ x. saw x i) (here c.team w _)
          ∙ get_or-set_same (c.team w).seen i true false within,
    )

-- ---- the laws

-- a worker with the fewest crossings has a step that tells something
step_of : (b : TwoBlocks) (c : Core) (s v : ℕ) → Sound b b.side c.words c.homes c.team → AllTakenOut b c → v < b.side →
    crossings c v < s → ((i : ℕ) → i < b.side → crossings c v ≤ crossings c i) →
    (e : Event) × May b c e × HasWhatItTakes b c e × (crossings c (maker e) < s) × TellsSomething b c e
step_of b c s v sound out lv less fewest = by (seen_or_not (c.team v) b.side)
  where
    round : ℕ
    round = phase (c.team v) + 1

    row : List PieceState
    row = row_from b v round 0 b.side

    back : List PieceState
    back = column_from b v (round + 1) 0 b.side

    by : ((i : ℕ) → i < b.side → saw (c.team v) i ≡ true) ⊎ ((i : ℕ) × (i < b.side) × (saw (c.team v) i ≡ false)) →
        (e : Event) × May b c e × HasWhatItTakes b c e × (crossings c (maker e) < s) × TellsSomething b c e
    by (inl all) = (
      finish v row back,
      (
        lv,
        all,
        row_long b v round 0 b.side,
        column_long b v (round + 1) 0 b.side,
        row_placed b v round 0 b.side,
        column_placed b v (round + 1) 0 b.side,
      ),
      holds_all b c v row back out lv (row_long b v round 0 b.side) all,
      less,
      finish_tells b c v row back,
    )
    by (inr (i, li, unseen)) =
        let come : phase (c.team v) ≤ get_or c.words i 0 =
        subst (λ k. crossings c v ≤ k) (sym (sound.counts i li)) (fewest i li) in
        let within : i < length (c.team v).seen = subst (λ k. i < k) (sym (sound.looks v lv)) li in
        (look v i, (lv, li), tt, less, look_tells b c v i come within unseen)

pub never_sticks : NeverSticks
never_sticks b es s w is lw left =
    let some : 0 < b.side = omega (arith, lw) in
    let l = least_of (crossings (run b es)) b.side some in
    let fewest : crossings (run b es) l.at ≤ crossings (run b es) w = l.least w lw in
    step_of b (run b es) s l.at (steps_keep_the_rule b es some is) (all_taken_out b es some is) l.within (omega
    (arith, fewest, left)) l.least

pub nobody_is_two_ahead : NobodyIsTwoAhead
nobody_is_two_ahead b es w v is lw lv =
    let some : 0 < b.side = omega (arith, lw) in
    let near : taken ((run b es).team w) v ≤ crossings (run b es) v + 1 = (steps_keep_the_rule b es some is).near w v lw lv in
    let seen : ℕ = weight (saw ((run b es).team w) v) in
    let near' : crossings (run b es) w + seen ≤ crossings (run b es) v + 1 = near in
    omega (arith, near')
