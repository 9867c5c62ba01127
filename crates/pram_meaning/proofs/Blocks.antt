-- A block's statements as a list.
use Rattle.std.proofs.Common.{if◌then◌else◌, Bool, ◌≡◌, ℕ, ◌+◌, refl, ap, sym, ◌∙◌, Global, Vec, Result, Err, subst, true, false}
use Rattle.pram_check.specs.Checked.{Checked}
use Rattle.pram_tokens.specs.declared.token.Location.{Location}
use Rattle.pram_names.specs.declared.body.Expression.{Expression}
use Rattle.pram_names.specs.declared.body.Statement.{Assign, For, If, Pardo, Print, Row_of-Statement, Statement, While, end_of-Statement}
use Rattle.pram_names.specs.declared.body.Statement.{items-the_row-Statement, items_hidden-the_row-Statement-0, more_of-Statement}
use Rattle.pram_names.specs.declared.body.Statement.TheBlock.{hidden-the_row-Statement-0}
use Rattle.pram_names.specs.declared.body.Step.{Step}
use Rattle.pram_names.specs.declared.body.Target.{Target}
use Rattle.pram_meaning.specs.Attempt.{attempt_assign, attempt_bounds, attempt_range}
use Rattle.pram_meaning.specs.Bounded.{Done, Goes, evaluated, for_turns, found, pardo_done, perform, perform_list, perform_row, tested}
use Rattle.pram_meaning.specs.Bounded.{then_do, turns}
use Rattle.pram_meaning.specs.Runs.{IsBehaviour}
use Rattle.pram_meaning.specs.Store.{State, printed, seen}
use Rattle.pram_meaning.specs.Together.{assigned}
use Rattle.pram_meaning.specs.declared.run.Halt.{Halt}
use Rattle.pram_model.specs.Layout.{width}
use Rattle.pram_meaning.proofs.Halts.{halts}

items_are_all : (w : Checked) (n : ℕ) {k : _} (ss : Row_of-Statement k) (m : State) →
    perform_list w n (items-the_row-Statement k ss) m ≡ perform_row w n ss m
items_are_all w n end_of-Statement m = refl
items_are_all w n (more_of-Statement s ss) m = ap (then_do (perform w n s m)) (λ j u m. items_are_all w n ss m j)

-- a block's meaning, read at the vector's items
pub block_is : (w : Checked) (n : ℕ) (body : Vec Statement Global) →
    perform_row w n (hidden-the_row-Statement-0 body) ≡ perform_list w n body.items
block_is w n body = λ j m. (sym (items_are_all w n (hidden-the_row-Statement-0 body) m)
    ∙ ap (λ ss. perform_list w n ss m) (items_hidden-the_row-Statement-0 body)) j

pub while_is : (w : Checked) (n : ℕ) (here : Location) (e : Expression) (body : Vec Statement Global) (m : State) →
    perform w n (While here e body) m ≡ turns (n + 1) (tested w n here.line e) (perform_list w n body.items) m
while_is w n here e body m = ap (λ f. turns (n + 1) (tested w n here.line e) f m) (block_is w n body)

pub if_is : (w : Checked) (n : ℕ) (here : Location) (e : Expression) (a b : Vec Statement Global) (m : State) →
    perform w n (If here e a b) m ≡ then_do (tested w n here.line e m)
    (λ z m. if z then perform_list w n a.items m else perform_list w n b.items m)
if_is w n here e a b m =
    ap (λ f. then_do (tested w n here.line e m) (λ z m. if z then f m else perform_row w n (hidden-the_row-Statement-0 b) m))
    (block_is w n a)
    ∙ ap (λ f. then_do (tested w n here.line e m) (λ z m. if z then perform_list w n a.items m else f m)) (block_is w n b)

-- ---- a statement of each kind, from what its own function answers

pub assign_arm : (w : Checked) (n : ℕ) (here : Location) (s : Statement) (x : Target) (e : Expression) (m new : State)
    (r : Result (Unit {0}) Halt) →
    s ≡ Assign here x e → IsBehaviour r new (then_do (evaluated n here.line (λ m. attempt_assign (seen w m) x e) m)
    (λ g m. Goes tt (assigned x g m))) → IsBehaviour r new (perform w n s m)
assign_arm w n here s x e m new r is h = rw is h

pub print_arm : (w : Checked) (n : ℕ) (here : Location) (s : Statement) (e : Expression) (m new : State) (r : Result (Unit {0}) Halt) →
    s ≡ Print here e → IsBehaviour r new (then_do (found w n here.line e m) (λ v m. Goes tt (printed v m))) →
    IsBehaviour r new (perform w n s m)
print_arm w n here s e m new r is h = rw is h

pub while_arm : (w : Checked) (n : ℕ) (here : Location) (s : Statement) (e : Expression) (body : Vec Statement Global) (m new : State)
    (r : Result (Unit {0}) Halt) → s ≡ While here e body →
    IsBehaviour r new (turns (n + 1) (tested w n here.line e) (perform_list w n body.items) m) → IsBehaviour r new (perform w n s m)
while_arm w n here s e body m new r is h = let P : Done → Type 0 = IsBehaviour r new in
    subst P (sym (ap (λ s. perform w n s m) is ∙ while_is w n here e body m)) h

if_arm : (w : Checked) (n : ℕ) (here : Location) (s : Statement) (e : Expression) (a b : Vec Statement Global) (m : State) →
    s ≡ If here e a b →
    perform w n s m ≡ then_do (tested w n here.line e m) (λ z m. if z then perform_list w n a.items m else perform_list w n b.items m)
if_arm w n here s e a b m is = ap (λ s. perform w n s m) is ∙ if_is w n here e a b m

pub if_halts_arm : (w : Checked) (n : ℕ) (here : Location) (s : Statement) (e : Expression) (a b : Vec Statement Global) (m new : State)
    (h : Halt) →
    s ≡ If here e a b → IsBehaviour {A = Bool} (Err h) new (tested w n here.line e m) →
    IsBehaviour {A = Unit {0}} (Err h) new (perform w n s m)
if_halts_arm w n here s e a b m new h is t =
    rw (if_arm w n here s e a b m is)
    (halts h new (tested w n here.line e m) (λ z m. if z then perform_list w n a.items m else perform_list w n b.items m) t)

pub then_arm : (w : Checked) (n : ℕ) (here : Location) (s : Statement) (e : Expression) (a b : Vec Statement Global) (m m' new : State)
    (v : Bool)
    (r : Result (Unit {0}) Halt) → s ≡ If here e a b → tested w n here.line e m ≡ Goes v m' → v ≡ true →
    IsBehaviour r new (perform_list w n a.items m') → IsBehaviour r new (perform w n s m)
then_arm w n here s e a b m m' new v r is t z h =
    let P : Done → Type 0 = IsBehaviour r new in
    subst P (sym (if_arm w n here s e a b m is
    ∙ ap (λ x. then_do x (λ z m. if z then perform_list w n a.items m else perform_list w n b.items m)) t
    ∙ ap (λ c. if c then perform_list w n a.items m' else perform_list w n b.items m') z)) h

pub else_arm : (w : Checked) (n : ℕ) (here : Location) (s : Statement) (e : Expression) (a b : Vec Statement Global) (m m' new : State)
    (v : Bool)
    (r : Result (Unit {0}) Halt) → s ≡ If here e a b → tested w n here.line e m ≡ Goes v m' → v ≡ false →
    IsBehaviour r new (perform_list w n b.items m') → IsBehaviour r new (perform w n s m)
else_arm w n here s e a b m m' new v r is t z h =
    let P : Done → Type 0 = IsBehaviour r new in
    subst P (sym (if_arm w n here s e a b m is
    ∙ ap (λ x. then_do x (λ z m. if z then perform_list w n a.items m else perform_list w n b.items m)) t
    ∙ ap (λ c. if c then perform_list w n a.items m' else perform_list w n b.items m') z)) h

pub for_arm : (w : Checked) (n : ℕ) (here : Location) (x : ℕ) (s : Statement) (e f : Expression) (body : Vec Statement Global)
    (m new : State)
    (r : Result (Unit {0}) Halt) → s ≡ For here x e f body →
    IsBehaviour r new (then_do (evaluated n here.line (λ m. attempt_bounds (seen w m) e f) m)
    (λ r. for_turns n (width r.0 r.1) x r.0 (perform_list w n body.items))) → IsBehaviour r new (perform w n s m)
for_arm w n here x s e f body m new r is h =
    let P : Done → Type 0 = IsBehaviour r new in
    subst P (sym (ap (λ s. perform w n s m) is
    ∙ ap (λ b. then_do (evaluated n here.line (λ m. attempt_bounds (seen w m) e f) m) (λ r. for_turns n (width r.0 r.1) x r.0 b))
    (block_is w n body))) h

pub pardo_arm : (w : Checked) (n : ℕ) (here : Location) (locals : ℕ) (s : Statement) (e f : Expression) (body : Vec Step Global)
    (m new : State)
    (r : Result (Unit {0}) Halt) → s ≡ Pardo here e f locals body →
    IsBehaviour r new (then_do (evaluated n here.line (λ m. attempt_range w.procs (seen w m) e f) m)
    (λ r. pardo_done w n locals body.items r.0 r.1)) → IsBehaviour r new (perform w n s m)
pardo_arm w n here locals s e f body m new r is h = rw is h
