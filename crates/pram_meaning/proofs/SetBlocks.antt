-- A set's blocks and choices.
use Rattle.std.proofs.Common.{◌≡◌, ℕ, true, false, List, ◌∷◌, ◌+◌, ◌<◌, ◌≤◌, refl, ap, sym, ◌∙◌, Global, Vec, drop, length, get_or, Result}
use Rattle.std.proofs.Common.{Err, subst, arith}
use Rattle.std.proofs.lemmas.List.{drop_more, drop_all}
use Rattle.pram_meaning.specs.declared.run.Halt.TheVariants as halt
use Rattle.pram_names.specs.declared.body.Step as step
use Rattle.pram_check.specs.Checked.{Checked}
use Rattle.pram_tokens.specs.declared.token.Location.{Location}
use Rattle.pram_names.specs.declared.body.Expression.{Expression}
use Rattle.pram_names.specs.declared.body.Step.{Row_of-Step, Step, end_of-Step, items-the_row-Step, items_hidden-the_row-Step-0}
use Rattle.pram_names.specs.declared.body.Step.{more_of-Step}
use Rattle.pram_names.specs.declared.body.Step.TheBlock.{hidden-the_row-Step-0}
use Rattle.pram_names.specs.declared.body.StepTarget.{StepTarget}
use Rattle.pram_meaning.specs.Attempt.{attempt_step}
use Rattle.pram_meaning.specs.Bounded.{Behaviour, Done, Goes, attempted_on, perform_list_on, perform_on, perform_row_on, tested_on, then_do}
use Rattle.pram_meaning.specs.Bounded.{turns_on}
use Rattle.pram_meaning.specs.Conflict.{Part}
use Rattle.pram_meaning.specs.Runs.{IsBehaviour}
use Rattle.pram_meaning.specs.Sets.{IsParts}
use Rattle.pram_meaning.specs.Store.{State}
use Rattle.pram_meaning.specs.Together.{assigned_by, those}
use Rattle.pram_meaning.specs.declared.run.Halt.{Halt}
use Rattle.pram_meaning.proofs.Halts.{halts}

-- what halts the attempts, halts the whole
pub parts_halt : {B : Type 0} (h : Halt) (m : State) (x : Behaviour (List Part)) (f : List Part → State → Behaviour B) →
    IsParts (Err h) m x → IsBehaviour {A = B} (Err h) m (then_do x f)
parts_halt (halt.Fault k) m x f is = ap (λ x. then_do x f) is
parts_halt halt.Bound m x f is = ap (λ x. then_do x f) is
parts_halt halt.OutOfMemory m x f is = tt

abbrev pub set_assigned : Checked → ℕ → ℕ → StepTarget → Expression → List ℕ → State → Done
set_assigned w n line x e vs m = then_do (attempted_on w n line (λ s. attempt_step s x e) vs m) (λ xs m. Goes tt (assigned_by w x xs m))

pub assign_halts : (w : Checked) (n line : ℕ) (x : StepTarget) (e : Expression) (vs : List ℕ) (m new : State) (h : Halt) →
    IsParts (Err h) new (attempted_on w n line (λ s. attempt_step s x e) vs m) → IsBehaviour {A = Unit {0}}
    (Err h) new (set_assigned w n line x e vs m)
assign_halts w n line x e vs m new h is =
    parts_halt h new (attempted_on w n line (λ s. attempt_step s x e) vs m) (λ xs m. Goes tt (assigned_by w x xs m)) is

pub assign_goes : (w : Checked) (n line : ℕ) (x : StepTarget) (e : Expression) (vs : List ℕ) (m mid new : State) (xs : List Part) →
    attempted_on w n line (λ s. attempt_step s x e) vs m ≡ Goes xs mid → new ≡ assigned_by w x xs mid →
    set_assigned w n line x e vs m ≡ Goes tt new
assign_goes w n line x e vs m mid new xs is left = ap (λ b. then_do b (λ xs m. Goes tt (assigned_by w x xs m))) is ∙ ap (Goes tt) (sym left)

-- ---- blocks

items_are_all : (w : Checked) (n : ℕ) {k : _} (ss : Row_of-Step k) (vs : List ℕ) (m : State) →
    perform_list_on w n (items-the_row-Step k ss) vs m ≡ perform_row_on w n ss vs m
items_are_all w n end_of-Step vs m = refl
items_are_all w n (more_of-Step s ss) vs m = ap (then_do (perform_on w n s vs m)) (λ j u m. items_are_all w n ss vs m j)

pub block_is : (w : Checked) (n : ℕ) (body : Vec Step Global) →
    perform_row_on w n (hidden-the_row-Step-0 body) ≡ perform_list_on w n body.items
block_is w n body = λ j vs m. (sym (items_are_all w n (hidden-the_row-Step-0 body) vs m)
    ∙ ap (λ ss. perform_list_on w n ss vs m) (items_hidden-the_row-Step-0 body)) j

pub record InBlock (w : Checked) (n : ℕ) (items : List Step) (vs : List ℕ) (i : ℕ) (start now : State) : Type 0 where
  pub same : perform_list_on w n items vs start ≡ perform_list_on w n (drop i items) vs now
  pub grows : start.count ≤ now.count

pub block_starts : (w : Checked) (n : ℕ) (items : List Step) (vs : List ℕ) (m : State) → InBlock w n items vs 0 m m
block_starts w n items vs m = record { same = refl; grows = omega arith }

next_of : (w : Checked) (n : ℕ) (items : List Step) (vs : List ℕ) (i : ℕ) (s : Step) (start now : State) →
    InBlock w n items vs i start now → i < length items → s ≡ get_or items i s →
    perform_list_on w n items vs start ≡ then_do (perform_on w n s vs now) (λ u. perform_list_on w n (drop (i + 1) items) vs)
next_of w n items vs i s start now b h is =
    b.same ∙ ap (λ xs. perform_list_on w n xs vs now) (drop_more items i s h ∙ ap (λ x. x ∷ drop (i + 1) items) (sym is))

pub block_halts : (w : Checked) (n : ℕ) (items : List Step) (vs : List ℕ) (i : ℕ) (s : Step) (start now new : State) (x : Halt) →
    InBlock w n items vs i start now → i < length items → s ≡ get_or items i s → IsBehaviour {A = Unit {0}}
    (Err x) new (perform_on w n s vs now) → IsBehaviour {A = Unit {0}} (Err x) new (perform_list_on w n items vs start)
block_halts w n items vs i s start now new x b h is e =
    rw (next_of w n items vs i s start now b h is) (halts x new (perform_on w n s vs now) (λ u. perform_list_on w n (drop (i + 1) items) vs)
    e)

pub block_goes : (w : Checked) (n : ℕ) (items : List Step) (vs : List ℕ) (i : ℕ) (s : Step) (start now new : State) →
    InBlock w n items vs i start now → i < length items → s ≡ get_or items i s → perform_on w n s vs now ≡ Goes tt new →
    now.count ≤ new.count → InBlock w n items vs (i + 1) start new
block_goes w n items vs i s start now new b h is e more =
    record {
      same = next_of w n items vs i s start now b h is ∙ ap (λ x. then_do x (λ u. perform_list_on w n (drop (i + 1) items) vs)) e;
      grows = let g : start.count ≤ now.count = b.grows in omega arith;
    }

pub block_ends : (w : Checked) (n : ℕ) (items : List Step) (vs : List ℕ) (i : ℕ) (start now : State) → InBlock w n items vs i start now →
    length items ≤ i → perform_list_on w n items vs start ≡ Goes tt now
block_ends w n items vs i start now b h = b.same ∙ ap (λ xs. perform_list_on w n xs vs now) (drop_all i items h)

-- ---- a statement of each kind

pub assign_arm : (w : Checked) (n : ℕ) (here : Location) (s : Step) (x : StepTarget) (e : Expression) (vs : List ℕ) (m new : State)
    (r : Result (Unit {0}) Halt) → s ≡ step.Assign here x e →
    IsBehaviour r new (then_do (attempted_on w n here.line (λ s. attempt_step s x e) vs m) (λ xs m. Goes tt (assigned_by w x xs m))) →
    IsBehaviour r new (perform_on w n s vs m)
assign_arm w n here s x e vs m new r is h = rw is h

pub while_arm : (w : Checked) (n : ℕ) (here : Location) (s : Step) (e : Expression) (body : Vec Step Global) (vs : List ℕ) (m new : State)
    (r : Result (Unit {0}) Halt) → s ≡ step.While here e body →
    IsBehaviour r new (turns_on (n + 1) (tested_on w n here.line e) (perform_list_on w n body.items) vs m) →
    IsBehaviour r new (perform_on w n s vs m)
while_arm w n here s e body vs m new r is h =
    let P : Done → Type 0 = IsBehaviour r new in
    subst P (sym (ap (λ s. perform_on w n s vs m) is ∙ ap (λ f. turns_on (n + 1) (tested_on w n here.line e) f vs m) (block_is w n body))) h

if_arm : (w : Checked) (n : ℕ) (here : Location) (s : Step) (e : Expression) (a b : Vec Step Global) (vs : List ℕ) (m : State) →
    s ≡ step.If here e a b →
    perform_on w n s vs m ≡ then_do (tested_on w n here.line e vs m) (λ xs m. then_do (perform_list_on w n a.items (those true xs) m)
    (λ u. perform_list_on w n b.items (those false xs)))
if_arm w n here s e a b vs m is =
    ap (λ s. perform_on w n s vs m) is
    ∙ ap (λ f. then_do (tested_on w n here.line e vs m)
    (λ xs m. then_do (f (those true xs) m) (λ u. perform_row_on w n (hidden-the_row-Step-0 b) (those false xs)))) (block_is w n a)
    ∙ ap (λ f. then_do (tested_on w n here.line e vs m) (λ xs m. then_do (perform_list_on w n a.items (those true xs) m)
    (λ u. f (those false xs)))) (block_is w n b)

pub if_halts : (w : Checked) (n : ℕ) (here : Location) (s : Step) (e : Expression) (a b : Vec Step Global) (vs : List ℕ) (m new : State)
    (h : Halt) →
    s ≡ step.If here e a b → IsParts (Err h) new (tested_on w n here.line e vs m) → IsBehaviour {A = Unit {0}}
    (Err h) new (perform_on w n s vs m)
if_halts w n here s e a b vs m new h is t =
    rw (if_arm w n here s e a b vs m is)
    (parts_halt h new (tested_on w n here.line e vs m) (λ xs m. then_do (perform_list_on w n a.items (those true xs) m)
    (λ u. perform_list_on w n b.items (those false xs))) t)

if_tested : (w : Checked) (n : ℕ) (here : Location) (s : Step) (e : Expression) (a b : Vec Step Global) (vs us : List ℕ) (m mid : State)
    (xs : List Part) → s ≡ step.If here e a b → tested_on w n here.line e vs m ≡ Goes xs mid → us ≡ those true xs →
    perform_on w n s vs m ≡ then_do (perform_list_on w n a.items us mid) (λ u. perform_list_on w n b.items (those false xs))
if_tested w n here s e a b vs us m mid xs is t u =
    if_arm w n here s e a b vs m is
    ∙ ap (λ y. then_do y (λ xs m. then_do (perform_list_on w n a.items (those true xs) m)
    (λ u. perform_list_on w n b.items (those false xs)))) t
    ∙ ap (λ us. then_do (perform_list_on w n a.items us mid) (λ u. perform_list_on w n b.items (those false xs))) (sym u)

pub if_then_halts : (w : Checked) (n : ℕ) (here : Location) (s : Step) (e : Expression) (a b : Vec Step Global) (vs us : List ℕ)
    (m mid new : State)
    (xs : List Part) (h : Halt) → s ≡ step.If here e a b → tested_on w n here.line e vs m ≡ Goes xs mid → us ≡ those true xs →
    IsBehaviour {A = Unit {0}} (Err h) new (perform_list_on w n a.items us mid) → IsBehaviour {A = Unit {0}}
    (Err h) new (perform_on w n s vs m)
if_then_halts w n here s e a b vs us m mid new xs h is t u r =
    rw (if_tested w n here s e a b vs us m mid xs is t u)
    (halts h new (perform_list_on w n a.items us mid) (λ u. perform_list_on w n b.items (those false xs)) r)

pub if_goes : (w : Checked) (n : ℕ) (here : Location) (s : Step) (e : Expression) (a b : Vec Step Global) (vs us ws : List ℕ)
    (m mid late new : State)
    (xs : List Part) (r : Result (Unit {0}) Halt) → s ≡ step.If here e a b → tested_on w n here.line e vs m ≡ Goes xs mid →
    us ≡ those true xs →
    ws ≡ those false xs → perform_list_on w n a.items us mid ≡ Goes tt late → IsBehaviour r new (perform_list_on w n b.items ws late) →
    IsBehaviour r new (perform_on w n s vs m)
if_goes w n here s e a b vs us ws m mid late new xs r is t u v f g =
    let P : Done → Type 0 = IsBehaviour r new in
    subst P (sym (if_tested w n here s e a b vs us m mid xs is t u
    ∙ ap (λ y. then_do y (λ u. perform_list_on w n b.items (those false xs))) f
    ∙ ap (λ ws. perform_list_on w n b.items ws late) (sym v))) g
