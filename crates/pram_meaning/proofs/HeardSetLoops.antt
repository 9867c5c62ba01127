-- A set's loop as it is heard.
use Rattle.std.proofs.Common.{◌≡◌, ℕ, true, List, [], ◌∷◌, ◌++◌, zero, suc, ◌+◌, ◌<◌, ◌≤◌, refl, sym, length, Err, arith, subst}
use Rattle.std.proofs.Common.{Global, Vec}
use Rattle.std.proofs.lemmas.Bool.{le-ltb}
use Rattle.pram_check.specs.Checked.{Checked}
use Rattle.pram_tokens.specs.declared.token.Location.{Location}
use Rattle.pram_names.specs.declared.body.Expression.{Expression}
use Rattle.pram_names.specs.declared.body.Step.{Step}
use Rattle.pram_meaning.specs.declared.part as part
use Rattle.pram_meaning.specs.declared.run.Halt.{Halt}
use Rattle.pram_meaning.specs.Bounded.{Behaviour, Goes, perform_list_on, tested_on}
use Rattle.pram_meaning.specs.Conflict.{Part}
use Rattle.pram_meaning.specs.Listening.{HasHeard, HasHeardPart}
use Rattle.pram_meaning.specs.Moments.{Moment, TurnsOn, behind, if_any, inner_list_moments, set_test_moment, turns_on_moments}
use Rattle.pram_meaning.specs.Runs.{IsBehaviour}
use Rattle.pram_meaning.specs.Sets.{IsParts}
use Rattle.pram_meaning.specs.Store.{State}
use Rattle.pram_meaning.specs.Together.{those}
use Rattle.pram_meaning.proofs.HeardSetBlocks.{parts_halt_heard}
use Rattle.pram_meaning.proofs.Telling.{Closes, HearsNothing, HearsOn, closes_as, closes_halt, closes_on, closes_part, closes_start}
use Rattle.pram_meaning.proofs.Telling.{closes_with, part_all}

abbrev loop : Checked → ℕ → Location → Expression → List Step → ℕ → List ℕ → State → List Moment
loop w n here e body k = turns_on_moments k (set_test_moment w n here (TurnsOn e) e) (tested_on w n here.line e)
    (inner_list_moments w n body)
    (perform_list_on w n body)

-- a bound on the turns left that is no smaller than the statements left
pub record TurnsHeard {S : Type 0} (H : S → List Moment → S → Type 0) (G : S → Moment → S → Type 0) (w : Checked) (n : ℕ) (here : Location)
    (e : Expression)
    (body : List Step)
    (vs : List ℕ) (start : State) (from : S) (us : List ℕ) (now : State) (till : S) : Type 0 where
  pub left : ℕ
  pub enough : n ≤ left + now.count
  pub heard : Closes H G from (loop w n here e body (n + 1) vs start) till (loop w n here e body left us now)

pub heard_start : {S : Type 0} (H : S → List Moment → S → Type 0) (G : S → Moment → S → Type 0) (w : Checked) (n : ℕ) (here : Location)
    (e : Expression)
    (body : List Step)
    (vs us : List ℕ) (m : State) (from : S) → us ≡ vs → TurnsHeard H G w n here e body vs m from us m from
heard_start H G w n here e body vs us m from is =
    record {
      left = n + 1;
      enough = omega arith;
      heard =
          let whole : List Moment = loop w n here e body (n + 1) vs m in
          let P : List ℕ → Type 0 = λ us. Closes H G from whole from (loop w n here e body (n + 1) us m) in
          subst P (sym is) (closes_start H G from whole);
    }

abbrev less : ℕ → ℕ
less zero = zero
less (suc k) = k

-- what is told of a turn on these behind its test
abbrev turn_told : Checked → ℕ → Location → Expression → List Step → ℕ → List ℕ → State → List Moment
turn_told w n here e body k ws m =
    if_any ws (inner_list_moments w n body ws m ++ behind (perform_list_on w n body ws m) (λ u. loop w n here e body k ws))

-- at the bound no test begins
left_told : (w : Checked) (n : ℕ) (here : Location) (e : Expression) (body : List Step) (us : List ℕ) (m : State) (k : ℕ) →
    n ≤ k + m.count →
    loop w n here e body k us m ≡ set_test_moment w n here (TurnsOn e) e us m
    ++ behind (tested_on w n here.line e us m) (λ xs. turn_told w n here e body (less k) (those true xs))
left_told w n here e body us m zero h = rw (le-ltb m.count n (omega (arith, h))) refl
left_told w n here e body us m (suc k) h = refl

enough_left : (n k a b : ℕ) → n ≤ k + a → suc a ≤ b → n ≤ less k + b
enough_left n zero a b h more = omega (arith, h, more)
enough_left n (suc k) a b h more = omega (arith, h, more)

left_heard : {S : Type 0} (H : S → List Moment → S → Type 0) (G : S → Moment → S → Type 0) (w : Checked) (n : ℕ) (here : Location)
    (e : Expression) (body : List Step)
    (vs us : List ℕ) (start : State) (from : S) (now : State) (till : S)
    (i : TurnsHeard H G w n here e body vs start from us now till) → Closes H G from (loop w n here e body (n + 1) vs start) till
    (set_test_moment w n here (TurnsOn e) e us now
    ++ behind (tested_on w n here.line e us now) (λ xs. turn_told w n here e body (less i.left) (those true xs)))
left_heard H G w n here e body vs us start from now till i =
    closes_as H G from till (loop w n here e body (n + 1) vs start) (loop w n here e body i.left us now)
    (set_test_moment w n here (TurnsOn e) e us now
    ++ behind (tested_on w n here.line e us now) (λ xs. turn_told w n here e body (less i.left) (those true xs)))
    (left_told w n here e body us now i.left i.enough) i.heard

set_halts : {S : Type 0} (H : S → List Moment → S → Type 0) (G : S → Moment → S → Type 0) (from till late : S) (whole ms : List Moment)
    (b : Behaviour (List Part)) (f : List Part → State → List Moment) (x : Halt) (m : State) → IsParts (Err x) m b →
    Closes H G from whole till (ms ++ behind b f) → HasHeard {A = Vec part.Part.Part Global} (Err x) H G till ms late →
    HasHeard {A = Unit {0}} (Err x) H G from whole late
set_halts H G from till late whole ms b f x m is c h =
    closes_with H G (Unit {0}) (Unit {0}) from till late whole (ms ++ behind b f) x c
    (parts_halt_heard H G (Vec part.Part.Part Global) (Unit {0}) till late ms b f x m is h)

pub test_halts_heard : {S : Type 0} (H : S → List Moment → S → Type 0) (G : S → Moment → S → Type 0) (w : Checked) (n : ℕ)
    (here : Location) (e : Expression)
    (body : List Step)
    (vs us : List ℕ) (start now new : State) (from till late : S) (x : Halt) → TurnsHeard H G w n here e body vs start from us now till →
    IsParts (Err x) new (tested_on w n here.line e us now) →
    HasHeard {A = Vec part.Part.Part Global} (Err x) H G till (set_test_moment w n here (TurnsOn e) e us now) late →
    HasHeard {A = Unit {0}} (Err x) H G from (turns_on_moments (n + 1) (set_test_moment w n here (TurnsOn e) e)
    (tested_on w n here.line e)
    (inner_list_moments w n body) (perform_list_on w n body) vs start) late
test_halts_heard H G w n here e body vs us start now new from till late x i t h =
    set_halts H G from till late (loop w n here e body (n + 1) vs start) (set_test_moment w n here (TurnsOn e) e us now)
    (tested_on w n here.line e us now) (λ xs. turn_told w n here e body (less i.left) (those true xs)) x new t
    (left_heard H G w n here e body vs us start from now till i) h

-- memory was refused behind the test
pub chosen_refused_heard : {S : Type 0} (H : S → List Moment → S → Type 0) (G : S → Moment → S → Type 0) (w : Checked) (n : ℕ)
    (here : Location) (e : Expression) (body : List Step) (vs us : List ℕ) (start now : State) (from till half : S) →
    TurnsHeard H G w n here e body vs start from us now till → H till (set_test_moment w n here (TurnsOn e) e us now) half →
    HasHeardPart H G from (turns_on_moments (n + 1) (set_test_moment w n here (TurnsOn e) e) (tested_on w n here.line e)
    (inner_list_moments w n body) (perform_list_on w n body) vs start) half
chosen_refused_heard H G w n here e body vs us start now from till half i h =
    closes_part H G from till half (loop w n here e body (n + 1) vs start) (set_test_moment w n here (TurnsOn e) e us now)
    (behind (tested_on w n here.line e us now) (λ xs. turn_told w n here e body (less i.left) (those true xs)))
    (left_heard H G w n here e body vs us start from now till i)
    (part_all H G till half (set_test_moment w n here (TurnsOn e) e us now) h)

-- a test that gives its parts
goes_heard : {S : Type 0} (H : S → List Moment → S → Type 0) (G : S → Moment → S → Type 0) → HearsOn H → (w : Checked) (n : ℕ)
    (here : Location) (e : Expression)
    (body : List Step) (vs us ws : List ℕ) (start now m : State) (from till half : S) (xs : List Part)
    (i : TurnsHeard H G w n here e body vs start from us now till) → tested_on w n here.line e us now ≡ Goes xs m → ws ≡ those true xs →
    H till (set_test_moment w n here (TurnsOn e) e us now) half →
    Closes H G from (loop w n here e body (n + 1) vs start) half (turn_told w n here e body (less i.left) ws m)
goes_heard H G on w n here e body vs us ws start now m from till half xs i t s h =
    let P : List ℕ → Type 0 = λ ws. Closes H G from (loop w n here e body (n + 1) vs start) half
    (turn_told w n here e body (less i.left) ws m)
    in
    subst P (sym s)
    (closes_on H G on {A = List Part} from till half (loop w n here e body (n + 1) vs start)
    (set_test_moment w n here (TurnsOn e) e us now) (tested_on w n here.line e us now)
    (λ xs. turn_told w n here e body (less i.left) (those true xs)) xs m t
    (left_heard H G w n here e body vs us start from now till i) h)

none_told : (ws : List ℕ) (ms : List Moment) → length ws ≡ 0 → if_any ws ms ≡ []
none_told [] ms h = refl
none_told (v ∷ ws) ms h = absurd (omega arith)

some_told : (ws : List ℕ) (ms : List Moment) → 0 < length ws → if_any ws ms ≡ ms
some_told [] ms h = absurd (omega arith)
some_told (v ∷ ws) ms h = refl

pub turns_end_heard : {S : Type 0} (H : S → List Moment → S → Type 0) (G : S → Moment → S → Type 0) → HearsNothing H → HearsOn H →
    (w : Checked) (n : ℕ) (here : Location)
    (e : Expression) (body : List Step) (vs us ws : List ℕ) (start now m : State) (from till half : S) (xs : List Part) →
    TurnsHeard H G w n here e body vs start from us now till → tested_on w n here.line e us now ≡ Goes xs m → ws ≡ those true xs →
    length ws ≡ 0 → H till (set_test_moment w n here (TurnsOn e) e us now) half →
    H from (turns_on_moments (n + 1) (set_test_moment w n here (TurnsOn e) e) (tested_on w n here.line e)
    (inner_list_moments w n body) (perform_list_on w n body) vs start) half
turns_end_heard H G nothing on w n here e body vs us ws start now m from till half xs i t s z h =
    let P : List Moment → Type 0 = λ ms. H half ms half in
    (goes_heard H G on w n here e body vs us ws start now m from till half xs i t s h).all half
    (subst P (sym (none_told ws _ z)) (nothing half))

-- what is left to hear behind a test that some pass
body_heard : {S : Type 0} (H : S → List Moment → S → Type 0) (G : S → Moment → S → Type 0) → HearsOn H → (w : Checked) (n : ℕ)
    (here : Location) (e : Expression)
    (body : List Step) (vs us ws : List ℕ) (start now m : State) (from till half : S) (xs : List Part)
    (i : TurnsHeard H G w n here e body vs start from us now till) → tested_on w n here.line e us now ≡ Goes xs m → ws ≡ those true xs →
    0 < length ws → H till (set_test_moment w n here (TurnsOn e) e us now) half →
    Closes H G from (loop w n here e body (n + 1) vs start) half
    (inner_list_moments w n body ws m ++ behind (perform_list_on w n body ws m) (λ u. loop w n here e body (less i.left) ws))
body_heard H G on w n here e body vs us ws start now m from till half xs i t s z h =
    let P : List Moment → Type 0 = λ ms. Closes H G from (loop w n here e body (n + 1) vs start) half ms in
    subst P (some_told ws _ z) (goes_heard H G on w n here e body vs us ws start now m from till half xs i t s h)

pub turn_halts_heard : {S : Type 0} (H : S → List Moment → S → Type 0) (G : S → Moment → S → Type 0) → HearsOn H →
    (w : Checked) (n : ℕ) (here : Location) (e : Expression)
    (body : List Step) (vs us ws : List ℕ) (start now m new : State) (from till half late : S) (xs : List Part) (x : Halt) →
    TurnsHeard H G w n here e body vs start from us now till → tested_on w n here.line e us now ≡ Goes xs m → ws ≡ those true xs →
    0 < length ws → H till (set_test_moment w n here (TurnsOn e) e us now) half →
    IsBehaviour {A = Unit {0}} (Err x) new (perform_list_on w n body ws m) →
    HasHeard {A = Unit {0}} (Err x) H G half (inner_list_moments w n body ws m) late →
    HasHeard {A = Unit {0}} (Err x) H G from (turns_on_moments (n + 1) (set_test_moment w n here (TurnsOn e) e)
    (tested_on w n here.line e)
    (inner_list_moments w n body) (perform_list_on w n body) vs start) late
turn_halts_heard H G on w n here e body vs us ws start now m new from till half late xs x i t s z h b told =
    closes_halt H G {A = Unit {0}} from half late (loop w n here e body (n + 1) vs start) (inner_list_moments w n body ws m)
    (perform_list_on w n body ws m) (λ u. loop w n here e body (less i.left) ws) x new b
    (body_heard H G on w n here e body vs us ws start now m from till half xs i t s z h) told

pub turn_goes_heard : {S : Type 0} (H : S → List Moment → S → Type 0) (G : S → Moment → S → Type 0) → HearsOn H → (w : Checked) (n : ℕ)
    (here : Location) (e : Expression)
    (body : List Step) (vs us ws : List ℕ) (start now m new : State) (from till half late : S) (xs : List Part) →
    TurnsHeard H G w n here e body vs start from us now till → tested_on w n here.line e us now ≡ Goes xs m → ws ≡ those true xs →
    0 < length ws → H till (set_test_moment w n here (TurnsOn e) e us now) half → perform_list_on w n body ws m ≡ Goes tt new →
    H half (inner_list_moments w n body ws m) late → suc now.count ≤ new.count →
    TurnsHeard H G w n here e body vs start from ws new late
turn_goes_heard H G on w n here e body vs us ws start now m new from till half late xs i t s z h b told more =
    record {
      left = less i.left;
      enough = enough_left n i.left now.count new.count i.enough more;
      heard =
          closes_on H G on {A = Unit {0}} from half late (loop w n here e body (n + 1) vs start) (inner_list_moments w n body ws m)
          (perform_list_on w n body ws m) (λ u. loop w n here e body (less i.left) ws) tt new b
          (body_heard H G on w n here e body vs us ws start now m from till half xs i t s z h) told;
    }
