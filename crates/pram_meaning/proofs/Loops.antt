-- A run on its way through a block or a loop.
use Rattle.std.proofs.Common.{if◌then◌else◌, ◌≡◌, ℕ, ℤ, Bool, true, false, List, ◌∷◌, zero, suc, ◌+◌, ◌<◌, ◌≤◌, refl, ap, sym, ◌∙◌, drop}
use Rattle.std.proofs.Common.{length, get_or, Err, arith}
use Rattle.std.proofs.lemmas.List.{drop_more, drop_all}
use Rattle.std.proofs.lemmas.Bool.{le-ltb}
use Rattle.pram_meaning.specs.declared.run.Halt.TheVariants as halt
use Rattle.pram_check.specs.Checked.{Checked}
use Rattle.pram_names.specs.declared.body.Expression.{Expression}
use Rattle.pram_names.specs.declared.body.Statement.{Statement}
use Rattle.pram_meaning.specs.Bounded.{Behaviour, Done, Goes, Reaches, perform, perform_list, tested, then_do, turns}
use Rattle.pram_meaning.specs.Runs.{IsBehaviour}
use Rattle.pram_meaning.specs.Store.{State}
use Rattle.pram_meaning.specs.declared.run.Halt.{Halt}
use Rattle.pram_meaning.proofs.Halts.{halts}

-- ---- a block: what is left of it gives what the whole gives

pub record InBlock (w : Checked) (n : ℕ) (items : List Statement) (i : ℕ) (start now : State) : Type 0 where
  pub same : perform_list w n items start ≡ perform_list w n (drop i items) now
  pub grows : start.count ≤ now.count

pub block_starts : (w : Checked) (n : ℕ) (items : List Statement) (m : State) → InBlock w n items 0 m m
block_starts w n items m = record { same = refl; grows = omega arith }

next_of : (w : Checked) (n : ℕ) (items : List Statement) (i : ℕ) (s : Statement) (start now : State) → InBlock w n items i start now →
    i < length items → s ≡ get_or items i s → perform_list w n items start ≡ then_do (perform w n s now)
    (λ u. perform_list w n (drop (i + 1) items))
next_of w n items i s start now b h is =
    b.same ∙ ap (λ xs. perform_list w n xs now) (drop_more items i s h ∙ ap (λ x. x ∷ drop (i + 1) items) (sym is))

pub block_halts : (w : Checked) (n : ℕ) (items : List Statement) (i : ℕ) (s : Statement) (start now new : State) (x : Halt) →
    InBlock w n items i start now → i < length items → s ≡ get_or items i s → IsBehaviour {A = Unit {0}} (Err x) new (perform w n s now) →
    IsBehaviour {A = Unit {0}} (Err x) new (perform_list w n items start)
block_halts w n items i s start now new x b h is e =
    rw (next_of w n items i s start now b h is) (halts x new (perform w n s now) (λ u. perform_list w n (drop (i + 1) items)) e)

pub block_goes : (w : Checked) (n : ℕ) (items : List Statement) (i : ℕ) (s : Statement) (start now new : State) →
    InBlock w n items i start now → i < length items → s ≡ get_or items i s → perform w n s now ≡ Goes tt new → now.count ≤ new.count →
    InBlock w n items (i + 1) start new
block_goes w n items i s start now new b h is e more =
    record {
      same = next_of w n items i s start now b h is ∙ ap (λ x. then_do x (λ u. perform_list w n (drop (i + 1) items))) e;
      grows =
          let g : start.count ≤ now.count = b.grows in omega arith;
    }

pub block_ends : (w : Checked) (n : ℕ) (items : List Statement) (i : ℕ) (start now : State) → InBlock w n items i start now →
    length items ≤ i → perform_list w n items start ≡ Goes tt now
block_ends w n items i start now b h = b.same ∙ ap (λ xs. perform_list w n xs now) (drop_all i items h)

-- ---- a loop: a bound on its turns that is no smaller than the statements left

pub record InTurns (w : Checked) (n line : ℕ) (e : Expression) (body : List Statement) (start now : State) : Type 0 where
  pub left : ℕ
  pub enough : n ≤ left + now.count
  pub same : turns (n + 1) (tested w n line e) (perform_list w n body) start ≡ turns left (tested w n line e) (perform_list w n body) now
  pub grows : start.count ≤ now.count

pub turns_start : (w : Checked) (n line : ℕ) (e : Expression) (body : List Statement) (m : State) → InTurns w n line e body m m
turns_start w n line e body m = record { left = n + 1; enough = omega arith; same = refl; grows = omega arith }

-- at the bound no test begins
at_bound : (w : Checked) (n line : ℕ) (e : Expression) (m : State) → n ≤ m.count → tested w n line e m ≡ Reaches m.output
at_bound w n line e m h = rw (le-ltb m.count n h)

turns_of : (w : Checked) (n line : ℕ) (e : Expression) (body : List Statement) → ℕ → Bool → State → Done
turns_of w n line e body k v m = if v then then_do (perform_list w n body m) (λ u. turns k (tested w n line e) (perform_list w n body)) else
    Goes tt m

halts_at : (x : Halt) (new : State) (out : List ℤ) (b : Behaviour Bool) → b ≡ Reaches out → IsBehaviour {A = Bool} (Err x) new b →
    IsBehaviour {A = Unit {0}} (Err x) new (Reaches out)
halts_at (halt.Fault k) new out b at e = cc
halts_at halt.Bound new out b at e = cc
halts_at halt.OutOfMemory new out b at e = tt

test_halts_at : (w : Checked) (n line : ℕ) (e : Expression) (body : List Statement) (now new : State) (x : Halt) (k : ℕ) →
    n ≤ k + now.count → IsBehaviour {A = Bool} (Err x) new (tested w n line e now) → IsBehaviour {A = Unit {0}}
    (Err x) new (turns k (tested w n line e) (perform_list w n body) now)
test_halts_at w n line e body now new x zero h t =
    halts_at x new now.output (tested w n line e now) (at_bound w n line e now (omega arith)) t
test_halts_at w n line e body now new x (suc k) h t =
    halts x new (tested w n line e now)
    (λ z m. if z then then_do (perform_list w n body m) (λ u. turns k (tested w n line e) (perform_list w n body)) else Goes tt m) t

pub test_halts : (w : Checked) (n line : ℕ) (e : Expression) (body : List Statement) (start now new : State) (x : Halt) →
    InTurns w n line e body start now → IsBehaviour {A = Bool} (Err x) new (tested w n line e now) → IsBehaviour {A = Unit {0}}
    (Err x) new (turns (n + 1) (tested w n line e) (perform_list w n body) start)
test_halts w n line e body start now new x i t = rw i.same (test_halts_at w n line e body now new x i.left i.enough t)

-- a test with a value, where a turn was left
test_goes : (w : Checked) (n line : ℕ) (e : Expression) (body : List Statement) (now m : State) (k : ℕ) (v : Bool) → n ≤ k + now.count →
    tested w n line e now ≡ Goes v m →
    (j : ℕ) × (k ≡ suc j) × (turns k (tested w n line e) (perform_list w n body) now ≡ turns_of w n line e body j v m)
test_goes w n line e body now m zero v h t = let r : tested w n line e now ≡ Reaches now.output = at_bound w n line e now (omega arith) in
    cc
test_goes w n line e body now m (suc j) v h t = (
  j,
  refl,
  unfold turns_of in ap
      (λ x. then_do x (λ z m. if z then then_do (perform_list w n body m) (λ u. turns j (tested w n line e) (perform_list w n body)) else
      Goes tt m)) t,
)

pub turns_end : (w : Checked) (n line : ℕ) (e : Expression) (body : List Statement) (start now m : State) (v : Bool) →
    InTurns w n line e body start now → tested w n line e now ≡ Goes v m → v ≡ false → turns (n + 1) (tested w n line e)
    (perform_list w n body) start ≡ Goes tt m
turns_end w n line e body start now m v i t z =
    let g = test_goes w n line e body now m i.left v i.enough t in
    i.same ∙ g.2 ∙ (unfold turns_of in
    ap (λ b. if b then then_do (perform_list w n body m) (λ u. turns g.0 (tested w n line e) (perform_list w n body)) else Goes tt m) z)

turn_begins : (w : Checked) (n line : ℕ) (e : Expression) (body : List Statement) (start now m : State) (v : Bool) →
    InTurns w n line e body start now → tested w n line e now ≡ Goes v m → v ≡ true → (j : ℕ) × (n ≤ j + suc now.count)
    × (turns (n + 1) (tested w n line e) (perform_list w n body) start ≡ then_do (perform_list w n body m)
    (λ u. turns j (tested w n line e) (perform_list w n body)))
turn_begins w n line e body start now m v i t z =
    let g = test_goes w n line e body now m i.left v i.enough t in
    let h : n ≤ i.left + now.count = i.enough in
    let k : i.left ≡ suc g.0 = g.1 in (
      g.0,
      omega arith,
      i.same ∙ g.2
          ∙ (unfold turns_of in ap (λ b.
          if b then then_do (perform_list w n body m) (λ u. turns g.0 (tested w n line e) (perform_list w n body)) else Goes tt m) z),
    )

pub turn_halts : (w : Checked) (n line : ℕ) (e : Expression) (body : List Statement) (start now m new : State) (v : Bool) (x : Halt) →
    InTurns w n line e body start now → tested w n line e now ≡ Goes v m → v ≡ true → IsBehaviour {A = Unit {0}}
    (Err x) new (perform_list w n body m) → IsBehaviour {A = Unit {0}}
    (Err x) new (turns (n + 1) (tested w n line e) (perform_list w n body) start)
turn_halts w n line e body start now m new v x i t z b =
    let g = turn_begins w n line e body start now m v i t z in
    rw g.2 (halts x new (perform_list w n body m) (λ u. turns g.0 (tested w n line e) (perform_list w n body)) b)

pub turn_goes : (w : Checked) (n line : ℕ) (e : Expression) (body : List Statement) (start now m new : State) (v : Bool) →
    InTurns w n line e body start now → tested w n line e now ≡ Goes v m → v ≡ true → perform_list w n body m ≡ Goes tt new →
    suc now.count ≤ new.count → InTurns w n line e body start new
turn_goes w n line e body start now m new v i t z b more =
    let g = turn_begins w n line e body start now m v i t z in
    let h : n ≤ g.0 + suc now.count = g.1 in
    let grown : start.count ≤ now.count = i.grows in
    record {
      left = g.0;
      enough = omega arith;
      same = g.2 ∙ ap (λ x. then_do x (λ u. turns g.0 (tested w n line e) (perform_list w n body))) b;
      grows = omega arith;
    }
