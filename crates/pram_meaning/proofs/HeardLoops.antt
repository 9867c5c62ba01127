-- A loop as it is heard.
use Rattle.std.proofs.Common.{if◌then◌else◌, ◌≡◌, ℕ, Bool, true, false, List, [], ◌++◌, zero, suc, ◌+◌, ◌≤◌, refl, ap}
use Rattle.std.proofs.Common.{Err, arith}
use Rattle.std.proofs.lemmas.Bool.{le-ltb}
use Rattle.pram_check.specs.Checked.{Checked}
use Rattle.pram_tokens.specs.declared.token.Location.{Location}
use Rattle.pram_names.specs.declared.body.Expression.{Expression}
use Rattle.pram_names.specs.declared.body.Statement.{Statement}
use Rattle.pram_meaning.specs.declared.run.Halt.{Halt}
use Rattle.pram_meaning.specs.Bounded.{Goes, perform_list, tested}
use Rattle.pram_meaning.specs.Listening.{HasHeard}
use Rattle.pram_meaning.specs.Moments.{Moment, Turns, behind, list_moments, test_moment, turns_moments}
use Rattle.pram_meaning.specs.Runs.{IsBehaviour}
use Rattle.pram_meaning.specs.Store.{State}
use Rattle.pram_meaning.proofs.Telling.{Closes, HearsNothing, HearsOn, closes_as, closes_halt, closes_on, closes_start}

abbrev loop : Checked → ℕ → Location → Expression → List Statement → ℕ → State → List Moment
loop w n here e body k = turns_moments k (test_moment w n here (Turns e) e) (tested w n here.line e) (list_moments w n body)
    (perform_list w n body)

-- a bound on the turns left that is no smaller than the statements left
pub record TurnsHeard {S : Type 0} (H : S → List Moment → S → Type 0) (G : S → Moment → S → Type 0) (w : Checked) (n : ℕ) (here : Location)
    (e : Expression)
    (body : List Statement)
    (start : State) (from : S) (now : State) (till : S) : Type 0 where
  pub left : ℕ
  pub enough : n ≤ left + now.count
  pub heard : Closes H G from (loop w n here e body (n + 1) start) till (loop w n here e body left now)

pub heard_start : {S : Type 0} (H : S → List Moment → S → Type 0) (G : S → Moment → S → Type 0) (w : Checked) (n : ℕ) (here : Location)
    (e : Expression)
    (body : List Statement)
    (m : State) (from : S) → TurnsHeard H G w n here e body m from m from
heard_start H G w n here e body m from = record {
  left = n + 1;
  enough = omega arith;
  heard = closes_start H G from (loop w n here e body
      (n + 1) m);
}

abbrev less : ℕ → ℕ
less zero = zero
less (suc k) = k

-- what is told of a turn behind its test
abbrev turn_told : Checked → ℕ → Location → Expression → List Statement → ℕ → Bool → State → List Moment
turn_told w n here e body k v m =
    if v then list_moments w n body m ++ behind (perform_list w n body m) (λ u. loop w n here e body k) else []

-- at the bound no test begins
left_told : (w : Checked) (n : ℕ) (here : Location) (e : Expression) (body : List Statement) (m : State) (k : ℕ) → n ≤ k + m.count →
    loop w n here e body k m ≡
    test_moment w n here (Turns e) e m ++ behind (tested w n here.line e m) (turn_told w n here e body (less k))
left_told w n here e body m zero h = rw (le-ltb m.count n (omega (arith, h))) refl
left_told w n here e body m (suc k) h = refl

enough_left : (n k a b : ℕ) → n ≤ k + a → suc a ≤ b → n ≤ less k + b
enough_left n zero a b h more = omega (arith, h, more)
enough_left n (suc k) a b h more = omega (arith, h, more)

left_heard : {S : Type 0} (H : S → List Moment → S → Type 0) (G : S → Moment → S → Type 0) (w : Checked) (n : ℕ) (here : Location)
    (e : Expression)
    (body : List Statement)
    (start : State) (from : S) (now : State) (till : S) (i : TurnsHeard H G w n here e body start from now till) →
    Closes H G from (loop w n here e body (n + 1) start) till
    (test_moment w n here (Turns e) e now ++ behind (tested w n here.line e now) (turn_told w n here e body (less i.left)))
left_heard H G w n here e body start from now till i =
    closes_as H G from till (loop w n here e body (n + 1) start) (loop w n here e body i.left now)
    (test_moment w n here (Turns e) e now ++ behind (tested w n here.line e now) (turn_told w n here e body (less i.left)))
    (left_told w n here e body now i.left i.enough) i.heard

pub test_halts_heard : {S : Type 0} (H : S → List Moment → S → Type 0) (G : S → Moment → S → Type 0) (w : Checked) (n : ℕ)
    (here : Location) (e : Expression)
    (body : List Statement)
    (start now new : State) (from till late : S) (x : Halt) → TurnsHeard H G w n here e body start from now till →
    IsBehaviour {A = Bool} (Err x) new (tested w n here.line e now) →
    HasHeard {A = Bool} (Err x) H G till (test_moment w n here (Turns e) e now) late →
    HasHeard {A = Unit {0}} (Err x) H G from (turns_moments (n + 1) (test_moment w n here (Turns e) e) (tested w n here.line e)
    (list_moments w n body) (perform_list w n body) start) late
test_halts_heard H G w n here e body start now new from till late x i t h =
    closes_halt H G {A = Bool} from till late (loop w n here e body (n + 1) start) (test_moment w n here (Turns e) e now)
    (tested w n here.line e now) (turn_told w n here e body (less i.left)) x new t (left_heard H G w n here e body start from now till i) h

-- a test with a value
goes_heard : {S : Type 0} (H : S → List Moment → S → Type 0) (G : S → Moment → S → Type 0) → HearsOn H → (w : Checked) (n : ℕ)
    (here : Location) (e : Expression)
    (body : List Statement) (start now m : State) (from till half : S) (v : Bool) (i : TurnsHeard H G w n here e body start from now till) →
    tested w n here.line e now ≡ Goes v m → H till (test_moment w n here (Turns e) e now) half →
    Closes H G from (loop w n here e body (n + 1) start) half (turn_told w n here e body (less i.left) v m)
goes_heard H G on w n here e body start now m from till half v i t h =
    closes_on H G on {A = Bool} from till half (loop w n here e body (n + 1) start) (test_moment w n here (Turns e) e now)
    (tested w n here.line e now) (turn_told w n here e body (less i.left)) v m t (left_heard H G w n here e body start from now till i) h

pub turns_end_heard : {S : Type 0} (H : S → List Moment → S → Type 0) (G : S → Moment → S → Type 0) → HearsNothing H → HearsOn H →
    (w : Checked) (n : ℕ) (here : Location)
    (e : Expression) (body : List Statement) (start now m : State) (from till half : S) (v : Bool) →
    TurnsHeard H G w n here e body start from now till → tested w n here.line e now ≡ Goes v m → v ≡ false →
    H till (test_moment w n here (Turns e) e now) half → H from (turns_moments (n + 1) (test_moment w n here (Turns e) e)
    (tested w n here.line e) (list_moments w n body) (perform_list w n body) start) half
turns_end_heard H G nothing on w n here e body start now m from till half v i t z h =
    let p : turn_told w n here e body (less i.left) v m ≡ [] = ap (λ v. turn_told w n here e body (less i.left) v m) z in
    (goes_heard H G on w n here e body start now m from till half v i t h).all half (rw p (nothing half))

-- what is left to hear behind a test that holds
body_heard : {S : Type 0} (H : S → List Moment → S → Type 0) (G : S → Moment → S → Type 0) → HearsOn H → (w : Checked) (n : ℕ)
    (here : Location) (e : Expression)
    (body : List Statement) (start now m : State) (from till half : S) (v : Bool) (i : TurnsHeard H G w n here e body start from now till) →
    tested w n here.line e now ≡ Goes v m → v ≡ true → H till (test_moment w n here (Turns e) e now) half →
    Closes H G from (loop w n here e body (n + 1) start) half
    (list_moments w n body m ++ behind (perform_list w n body m) (λ u. loop w n here e body (less i.left)))
body_heard H G on w n here e body start now m from till half v i t z h =
    let p : turn_told w n here e body (less i.left) v m ≡ turn_told w n here e body (less i.left) true m =
    ap (λ v. turn_told w n here e body (less i.left) v m) z in
    closes_as H G from half (loop w n here e body (n + 1) start) (turn_told w n here e body (less i.left) v m)
    (turn_told w n here e body (less i.left) true m) p (goes_heard H G on w n here e body start now m from till half v i t h)

pub turn_halts_heard : {S : Type 0} (H : S → List Moment → S → Type 0) (G : S → Moment → S → Type 0) → HearsOn H →
    (w : Checked) (n : ℕ) (here : Location) (e : Expression)
    (body : List Statement) (start now m new : State) (from till half late : S) (v : Bool) (x : Halt) →
    TurnsHeard H G w n here e body start from now till → tested w n here.line e now ≡ Goes v m → v ≡ true →
    H till (test_moment w n here (Turns e) e now) half → IsBehaviour {A = Unit {0}} (Err x) new (perform_list w n body m) →
    HasHeard {A = Unit {0}} (Err x) H G half (list_moments w n body m) late →
    HasHeard {A = Unit {0}} (Err x) H G from (turns_moments (n + 1) (test_moment w n here (Turns e) e) (tested w n here.line e)
    (list_moments w n body) (perform_list w n body) start) late
turn_halts_heard H G on w n here e body start now m new from till half late v x i t z h b told =
    closes_halt H G {A = Unit {0}} from half late (loop w n here e body (n + 1) start) (list_moments w n body m) (perform_list w n body m)
    (λ u. loop w n here e body (less i.left)) x new b (body_heard H G on w n here e body start now m from till half v i t z h) told

pub turn_goes_heard : {S : Type 0} (H : S → List Moment → S → Type 0) (G : S → Moment → S → Type 0) → HearsOn H → (w : Checked) (n : ℕ)
    (here : Location) (e : Expression)
    (body : List Statement) (start now m new : State) (from till half late : S) (v : Bool) →
    TurnsHeard H G w n here e body start from now till → tested w n here.line e now ≡ Goes v m → v ≡ true →
    H till (test_moment w n here (Turns e) e now) half → perform_list w n body m ≡ Goes tt new → H half (list_moments w n body m) late →
    suc now.count ≤ new.count → TurnsHeard H G w n here e body start from new late
turn_goes_heard H G on w n here e body start now m new from till half late v i t z h b told more =
    record {
      left = less i.left;
      enough = enough_left n i.left now.count new.count i.enough more;
      heard =
          closes_on H G on {A = Unit {0}} from half late (loop w n here e body (n + 1) start) (list_moments w n body m)
          (perform_list w n body m) (λ u. loop w n here e body (less i.left)) tt new b
          (body_heard H G on w n here e body start now m from till half v i t z h) told;
    }
