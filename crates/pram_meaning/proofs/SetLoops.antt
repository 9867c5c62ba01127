-- A set's loop, on its way.
use Rattle.std.proofs.Common.{◌≡◌, ℕ, ℤ, true, List, [], ◌∷◌, zero, suc, ◌+◌, ◌<◌, ◌≤◌, refl, ap, sym, ◌∙◌, length, Err, arith}
use Rattle.std.proofs.lemmas.Bool.{le-ltb}
use Rattle.pram_meaning.specs.declared.run.Halt.TheVariants as halt
use Rattle.pram_check.specs.Checked.{Checked}
use Rattle.pram_names.specs.declared.body.Expression.{Expression}
use Rattle.pram_names.specs.declared.body.Step.{Step}
use Rattle.pram_meaning.specs.Bounded.{Behaviour, Done, Goes, Reaches, perform_list_on, tested_on, then_do, turns_on, unless_none}
use Rattle.pram_meaning.specs.Conflict.{Part}
use Rattle.pram_meaning.specs.Runs.{IsBehaviour}
use Rattle.pram_meaning.specs.Sets.{IsParts}
use Rattle.pram_meaning.specs.Store.{State}
use Rattle.pram_meaning.specs.Together.{those}
use Rattle.pram_meaning.specs.declared.run.Halt.{Halt}
use Rattle.pram_meaning.proofs.Halts.{halts}
use Rattle.pram_meaning.proofs.SetBlocks.{parts_halt}

abbrev loop : Checked → ℕ → ℕ → Expression → List Step → ℕ → List ℕ → State → Done
loop w n line e body k = turns_on k (tested_on w n line e) (perform_list_on w n body)

pub record InTurns (w : Checked) (n line : ℕ) (e : Expression) (body : List Step) (vs : List ℕ) (start : State) (us : List ℕ)
    (now : State) : Type 0 where
  pub left : ℕ
  pub enough : n ≤ left + now.count
  pub same : turns_on (n + 1) (tested_on w n line e) (perform_list_on w n body) vs start ≡ turns_on left (tested_on w n line e)
      (perform_list_on w n body) us now
  pub grows : start.count ≤ now.count

pub turns_start : (w : Checked) (n line : ℕ) (e : Expression) (body : List Step) (vs us : List ℕ) (m : State) → us ≡ vs →
    InTurns w n line e body vs m us m
turns_start w n line e body vs us m is =
    record {
      left = n + 1;
      enough = omega arith;
      same = ap (λ vs. turns_on (n + 1) (tested_on w n line e) (perform_list_on w n body) vs m) (sym is);
      grows = omega arith;
    }

at_bound : (w : Checked) (n line : ℕ) (e : Expression) (vs : List ℕ) (m : State) → n ≤ m.count →
    tested_on w n line e vs m ≡ Reaches m.output
at_bound w n line e vs m h = rw (le-ltb m.count n h)

halts_at : (x : Halt) (new : State) (out : List ℤ) (b : Behaviour (List Part)) → b ≡ Reaches out → IsParts (Err x) new b →
    IsBehaviour {A = Unit {0}} (Err x) new (Reaches out)
halts_at (halt.Fault k) new out b at e = cc
halts_at halt.Bound new out b at e = cc
halts_at halt.OutOfMemory new out b at e = tt

test_halts_at : (w : Checked) (n line : ℕ) (e : Expression) (body : List Step) (us : List ℕ) (now new : State) (x : Halt) (k : ℕ) →
    n ≤ k + now.count → IsParts (Err x) new (tested_on w n line e us now) → IsBehaviour {A = Unit {0}}
    (Err x) new (turns_on k (tested_on w n line e) (perform_list_on w n body) us now)
test_halts_at w n line e body us now new x zero h t =
    halts_at x new now.output (tested_on w n line e us now) (at_bound w n line e us now (omega arith)) t
test_halts_at w n line e body us now new x (suc k) h t =
    parts_halt x new (tested_on w n line e us now)
    (λ xs m. unless_none (those true xs) (Goes tt m)
    (then_do (perform_list_on w n body (those true xs) m) (λ u. turns_on k (tested_on w n line e) (perform_list_on w n body)
    (those true xs)))) t

pub test_halts : (w : Checked) (n line : ℕ) (e : Expression) (body : List Step) (vs us : List ℕ) (start now new : State) (x : Halt) →
    InTurns w n line e body vs start us now → IsParts (Err x) new (tested_on w n line e us now) → IsBehaviour {A = Unit {0}}
    (Err x) new (turns_on (n + 1) (tested_on w n line e) (perform_list_on w n body) vs start)
test_halts w n line e body vs us start now new x i t = rw i.same (test_halts_at w n line e body us now new x i.left i.enough t)

-- a test with a value, where a turn was left
test_goes : (w : Checked) (n line : ℕ) (e : Expression) (body : List Step) (us ws : List ℕ) (now m : State) (k : ℕ) (xs : List Part) →
    n ≤ k + now.count → tested_on w n line e us now ≡ Goes xs m → ws ≡ those true xs →
    (j : ℕ) × (k ≡ suc j) × (turns_on k (tested_on w n line e) (perform_list_on w n body) us now ≡ unless_none ws (Goes tt m)
    (then_do (perform_list_on w n body ws m) (λ u. turns_on j (tested_on w n line e) (perform_list_on w n body) ws)))
test_goes w n line e body us ws now m zero xs h t s = let r : tested_on w n line e us now ≡ Reaches now.output =
    at_bound w n line e us now (omega arith) in cc
test_goes w n line e body us ws now m (suc j) xs h t s = (
  j,
  refl,
  ap (λ x. then_do x (λ xs m. unless_none (those true xs) (Goes tt m)
      (then_do (perform_list_on w n body (those true xs) m) (λ u. turns_on j (tested_on w n line e) (perform_list_on w n body)
      (those true xs))))) t
      ∙ ap (λ ws. unless_none ws (Goes tt m)
      (then_do (perform_list_on w n body ws m) (λ u. turns_on j (tested_on w n line e) (perform_list_on w n body) ws))) (sym s),
)

none_left : (ws : List ℕ) (a b : Done) → length ws ≡ 0 → unless_none ws a b ≡ a
none_left [] a b h = refl
none_left (v ∷ ws) a b h = absurd (omega arith)

some_left : (ws : List ℕ) (a b : Done) → 0 < length ws → unless_none ws a b ≡ b
some_left [] a b h = absurd (omega arith)
some_left (v ∷ ws) a b h = refl

pub turns_end : (w : Checked) (n line : ℕ) (e : Expression) (body : List Step) (vs us ws : List ℕ) (start now m : State) (xs : List Part) →
    InTurns w n line e body vs start us now → tested_on w n line e us now ≡ Goes xs m → ws ≡ those true xs → length ws ≡ 0 →
    turns_on (n + 1) (tested_on w n line e) (perform_list_on w n body) vs start ≡ Goes tt m
turns_end w n line e body vs us ws start now m xs i t s z =
    let g = test_goes w n line e body us ws now m i.left xs i.enough t s in
    i.same ∙ g.2 ∙ none_left ws _ _ z

turn_begins : (w : Checked) (n line : ℕ) (e : Expression) (body : List Step) (vs us ws : List ℕ) (start now m : State) (xs : List Part) →
    InTurns w n line e body vs start us now → tested_on w n line e us now ≡ Goes xs m → ws ≡ those true xs → 0 < length ws →
    (j : ℕ) × (n ≤ j + suc now.count)
    × (turns_on (n + 1) (tested_on w n line e) (perform_list_on w n body) vs start ≡ then_do (perform_list_on w n body ws m)
    (λ u. turns_on j (tested_on w n line e) (perform_list_on w n body) ws))
turn_begins w n line e body vs us ws start now m xs i t s z =
    let g = test_goes w n line e body us ws now m i.left xs i.enough t s in
    let h : n ≤ i.left + now.count = i.enough in
    let k : i.left ≡ suc g.0 = g.1 in
    (g.0, omega arith, i.same ∙ g.2 ∙ some_left ws _ _ z)

pub turn_halts : (w : Checked) (n line : ℕ) (e : Expression) (body : List Step) (vs us ws : List ℕ) (start now m new : State)
    (xs : List Part) (x : Halt) → InTurns w n line e body vs start us now → tested_on w n line e us now ≡ Goes xs m → ws ≡ those true xs →
    0 < length ws → IsBehaviour {A = Unit {0}} (Err x) new (perform_list_on w n body ws m) → IsBehaviour {A = Unit {0}}
    (Err x) new (turns_on (n + 1) (tested_on w n line e) (perform_list_on w n body) vs start)
turn_halts w n line e body vs us ws start now m new xs x i t s z b =
    let g = turn_begins w n line e body vs us ws start now m xs i t s z in
    rw g.2 (halts x new (perform_list_on w n body ws m) (λ u. turns_on g.0 (tested_on w n line e) (perform_list_on w n body) ws) b)

pub turn_goes : (w : Checked) (n line : ℕ) (e : Expression) (body : List Step) (vs us ws : List ℕ) (start now m new : State)
    (xs : List Part) → InTurns w n line e body vs start us now → tested_on w n line e us now ≡ Goes xs m → ws ≡ those true xs →
    0 < length ws → perform_list_on w n body ws m ≡ Goes tt new → suc now.count ≤ new.count → InTurns w n line e body vs start ws new
turn_goes w n line e body vs us ws start now m new xs i t s z b more =
    let g = turn_begins w n line e body vs us ws start now m xs i t s z in
    let h : n ≤ g.0 + suc now.count = g.1 in
    let grown : start.count ≤ now.count = i.grows in
    record {
      left = g.0;
      enough = omega arith;
      same = g.2 ∙ ap (λ x. then_do x (λ u. turns_on g.0 (tested_on w n line e) (perform_list_on w n body) ws)) b;
      grows = omega arith;
    }
