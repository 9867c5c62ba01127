-- A block as it is heard, and a statement of each kind.
use Rattle.std.proofs.Common.{if◌then◌else◌, Bool, true, false, ◌≡◌, ℕ, ◌+◌, ◌<◌, ◌≤◌, List, [], ◌∷◌, ◌++◌, refl, ap, sym, ◌∙◌, Global, Vec}
use Rattle.std.proofs.Common.{Result, Err, subst, drop, length, get_or}
use Rattle.std.proofs.lemmas.List.{drop_more, drop_all}
use Rattle.pram_check.specs.Checked.{Checked}
use Rattle.pram_tokens.specs.declared.token.Location.{Location}
use Rattle.pram_names.specs.declared.body.Expression.{Expression}
use Rattle.pram_names.specs.declared.body.Statement.{Assign, For, If, Pardo, Print, Row_of-Statement, Statement, While, end_of-Statement}
use Rattle.pram_names.specs.declared.body.Statement.{items-the_row-Statement, items_hidden-the_row-Statement-0, more_of-Statement}
use Rattle.pram_names.specs.declared.body.Statement.TheBlock.{hidden-the_row-Statement-0}
use Rattle.pram_names.specs.declared.body.Step.{Step}
use Rattle.pram_names.specs.declared.body.Target.{Target}
use Rattle.pram_meaning.specs.declared.run.Halt.{Halt}
use Rattle.pram_meaning.specs.Bounded.{Goes, perform, perform_list, perform_row, tested}
use Rattle.pram_meaning.specs.Listening.{HasHeard}
use Rattle.pram_meaning.specs.Moments.{Chooses, Moment, Turns, assign_moment, behind, closing, for_moments}
use Rattle.pram_meaning.specs.Moments.{list_moments, moments, pardo_moments, print_moment, row_moments, test_moment, turns_moments}
use Rattle.pram_meaning.specs.Runs.{IsBehaviour}
use Rattle.pram_meaning.specs.Store.{State}
use Rattle.pram_meaning.proofs.Blocks.{block_is}
use Rattle.pram_meaning.proofs.Telling.{Closes, HearsNothing, HearsOn, closes_as, closes_halt, closes_on, closes_start, first_goes}
use Rattle.pram_meaning.proofs.Telling.{first_halts}

-- ---- a block: what is left of it is to be heard

abbrev pub BlockHeard : {S : Type 0} → (S → List Moment → S → Type 0) → (S → Moment → S → Type 0) → Checked → ℕ → List Statement → ℕ →
    State → S → State → S → Type 0
BlockHeard H G w n items i start from now till = Closes H G from (list_moments w n items start) till (list_moments w n (drop i items) now)

pub heard_starts : {S : Type 0} (H : S → List Moment → S → Type 0) (G : S → Moment → S → Type 0) (w : Checked) (n : ℕ)
    (items : List Statement) (m : State) (from : S) →
    BlockHeard H G w n items 0 m from m from
heard_starts H G w n items m from = closes_start H G from (list_moments w n items m)

heard_left : {S : Type 0} (H : S → List Moment → S → Type 0) (G : S → Moment → S → Type 0) (w : Checked) (n : ℕ) (items : List Statement)
    (i : ℕ) (s : Statement)
    (start now : State) (from till : S) → i < length items → s ≡ get_or items i s → BlockHeard H G w n items i start from now till →
    Closes H G from (list_moments w n items start) till
    (moments w n s now ++ behind (perform w n s now) (λ u. list_moments w n (drop (i + 1) items)))
heard_left H G w n items i s start now from till h is c =
    let p : list_moments w n (drop i items) now ≡ list_moments w n (s ∷ drop (i + 1) items) now =
    ap (λ xs. list_moments w n xs now) (drop_more items i s h ∙ ap (λ x. x ∷ drop (i + 1) items) (sym is)) in
    closes_as H G from till (list_moments w n items start) (list_moments w n (drop i items) now)
    (list_moments w n (s ∷ drop (i + 1) items) now) p c

pub heard_halts : {S : Type 0} (H : S → List Moment → S → Type 0) (G : S → Moment → S → Type 0) (w : Checked) (n : ℕ)
    (items : List Statement) (i : ℕ) (s : Statement)
    (start now new : State) (from till late : S) (x : Halt) → BlockHeard H G w n items i start from now till → i < length items →
    s ≡ get_or items i s → IsBehaviour {A = Unit {0}} (Err x) new (perform w n s now) →
    HasHeard {A = Unit {0}} (Err x) H G till (moments w n s now) late →
    HasHeard {A = Unit {0}} (Err x) H G from (list_moments w n items start) late
heard_halts H G w n items i s start now new from till late x c h is e t =
    closes_halt H G {A = Unit {0}} from till late (list_moments w n items start) (moments w n s now) (perform w n s now)
    (λ u. list_moments w n (drop (i + 1) items)) x new e (heard_left H G w n items i s start now from till h is c) t

pub heard_goes : {S : Type 0} (H : S → List Moment → S → Type 0) (G : S → Moment → S → Type 0) → HearsOn H → (w : Checked) (n : ℕ)
    (items : List Statement) (i : ℕ)
    (s : Statement) (start now new : State) (from till late : S) → BlockHeard H G w n items i start from now till → i < length items →
    s ≡ get_or items i s → perform w n s now ≡ Goes tt new → H till (moments w n s now) late →
    BlockHeard H G w n items (i + 1) start from new late
heard_goes H G on w n items i s start now new from till late c h is e t =
    closes_on H G on {A = Unit {0}} from till late (list_moments w n items start) (moments w n s now) (perform w n s now)
    (λ u. list_moments w n (drop (i + 1) items)) tt new e (heard_left H G w n items i s start now from till h is c) t

pub heard_ends : {S : Type 0} (H : S → List Moment → S → Type 0) (G : S → Moment → S → Type 0) → HearsNothing H → (w : Checked) (n : ℕ)
    (items : List Statement) (i : ℕ)
    (start now : State) (from till : S) → BlockHeard H G w n items i start from now till → length items ≤ i →
    H from (list_moments w n items start) till
heard_ends H G nothing w n items i start now from till c h =
    let p : list_moments w n (drop i items) now ≡ [] = ap (λ xs. list_moments w n xs now) (drop_all i items h) in
    c.all till (rw p (nothing till))

-- ---- a block's moments, read at the vector's items

items_are_told : (w : Checked) (n : ℕ) {k : _} (ss : Row_of-Statement k) (m : State) →
    list_moments w n (items-the_row-Statement k ss) m ≡ row_moments w n ss m
items_are_told w n end_of-Statement m = refl
items_are_told w n (more_of-Statement s ss) m =
    ap (λ f. moments w n s m ++ behind (perform w n s m) f) (λ j u m. items_are_told w n ss m j)

pub told_is : (w : Checked) (n : ℕ) (body : Vec Statement Global) →
    row_moments w n (hidden-the_row-Statement-0 body) ≡ list_moments w n body.items
told_is w n body = λ j m. (sym (items_are_told w n (hidden-the_row-Statement-0 body) m)
    ∙ ap (λ ss. list_moments w n ss m) (items_hidden-the_row-Statement-0 body)) j

-- ---- a statement of each kind

pub while_told : (w : Checked) (n : ℕ) (here : Location) (s : Statement) (e : Expression) (body : Vec Statement Global) (m : State) →
    s ≡ While here e body → moments w n s m ≡ turns_moments (n + 1) (test_moment w n here (Turns e) e) (tested w n here.line e)
    (list_moments w n body.items) (perform_list w n body.items) m
while_told w n here s e body m is =
    ap (λ s. moments w n s m) is
    ∙ ap (λ f. turns_moments (n + 1) (test_moment w n here (Turns e) e) (tested w n here.line e) f
    (perform_row w n (hidden-the_row-Statement-0 body)) m) (told_is w n body)
    ∙ ap (λ f. turns_moments (n + 1) (test_moment w n here (Turns e) e) (tested w n here.line e) (list_moments w n body.items) f m)
    (block_is w n body)

for_told : (w : Checked) (n : ℕ) (here : Location) (x : ℕ) (s : Statement) (e f : Expression) (body : Vec Statement Global) (m : State) →
    s ≡ For here x e f body →
    moments w n s m ≡ for_moments w n here x e f (list_moments w n body.items) (perform_list w n body.items) m
for_told w n here x s e f body m is =
    ap (λ s. moments w n s m) is
    ∙ ap (λ g. for_moments w n here x e f g (perform_row w n (hidden-the_row-Statement-0 body)) m) (told_is w n body)
    ∙ ap (λ g. for_moments w n here x e f (list_moments w n body.items) g m) (block_is w n body)

if_told : (w : Checked) (n : ℕ) (here : Location) (s : Statement) (e : Expression) (a b : Vec Statement Global) (m : State) →
    s ≡ If here e a b →
    moments w n s m ≡ test_moment w n here (Chooses e) e m ++ behind (tested w n here.line e m)
    (λ z m. closing (if z then list_moments w n a.items m else list_moments w n b.items m))
if_told w n here s e a b m is =
    ap (λ s. moments w n s m) is
    ∙ ap (λ f. test_moment w n here (Chooses e) e m ++ behind (tested w n here.line e m)
    (λ z m. closing (if z then f m else row_moments w n (hidden-the_row-Statement-0 b) m))) (told_is w n a)
    ∙ ap (λ f. test_moment w n here (Chooses e) e m ++ behind (tested w n here.line e m)
    (λ z m. closing (if z then list_moments w n a.items m else f m))) (told_is w n b)

-- the same, of a function's answer

pub assign_heard : {S : Type 0} (H : S → List Moment → S → Type 0) (G : S → Moment → S → Type 0) (from late : S) (w : Checked) (n : ℕ)
    (here : Location) (s : Statement)
    (x : Target) (e : Expression) (m : State) (r : Result (Unit {0}) Halt) → s ≡ Assign here x e →
    HasHeard r H G from (assign_moment w n here x e m) late → HasHeard r H G from (moments w n s m) late
assign_heard H G from late w n here s x e m r is h = rw is h

pub print_heard : {S : Type 0} (H : S → List Moment → S → Type 0) (G : S → Moment → S → Type 0) (from late : S) (w : Checked) (n : ℕ)
    (here : Location) (s : Statement)
    (e : Expression) (m : State) (r : Result (Unit {0}) Halt) → s ≡ Print here e →
    HasHeard r H G from (print_moment w n here e m) late → HasHeard r H G from (moments w n s m) late
print_heard H G from late w n here s e m r is h = rw is h

pub pardo_heard : {S : Type 0} (H : S → List Moment → S → Type 0) (G : S → Moment → S → Type 0) (from late : S) (w : Checked) (n : ℕ)
    (here : Location) (locals : ℕ)
    (s : Statement)
    (e f : Expression) (body : Vec Step Global) (m : State) (r : Result (Unit {0}) Halt) → s ≡ Pardo here e f locals body →
    HasHeard r H G from (pardo_moments w n here e f locals body.items m) late → HasHeard r H G from (moments w n s m) late
pardo_heard H G from late w n here locals s e f body m r is h = rw is h

pub while_heard : {S : Type 0} (H : S → List Moment → S → Type 0) (G : S → Moment → S → Type 0) (from late : S) (w : Checked) (n : ℕ)
    (here : Location) (s : Statement)
    (e : Expression) (body : Vec Statement Global) (m : State) (r : Result (Unit {0}) Halt) → s ≡ While here e body →
    HasHeard r H G from (turns_moments (n + 1) (test_moment w n here (Turns e) e) (tested w n here.line e)
    (list_moments w n body.items) (perform_list w n body.items) m) late → HasHeard r H G from (moments w n s m) late
while_heard H G from late w n here s e body m r is h =
    let P : List Moment → Type 0 = λ ms. HasHeard r H G from ms late in subst P (sym (while_told w n here s e body m is)) h

pub for_heard : {S : Type 0} (H : S → List Moment → S → Type 0) (G : S → Moment → S → Type 0) (from late : S) (w : Checked) (n : ℕ)
    (here : Location) (x : ℕ)
    (s : Statement)
    (e f : Expression) (body : Vec Statement Global) (m : State) (r : Result (Unit {0}) Halt) → s ≡ For here x e f body →
    HasHeard r H G from (for_moments w n here x e f (list_moments w n body.items) (perform_list w n body.items) m) late →
    HasHeard r H G from (moments w n s m) late
for_heard H G from late w n here x s e f body m r is h =
    let P : List Moment → Type 0 = λ ms. HasHeard r H G from ms late in subst P (sym (for_told w n here x s e f body m is)) h

pub if_halts_heard : {S : Type 0} (H : S → List Moment → S → Type 0) (G : S → Moment → S → Type 0) (from late : S) (w : Checked) (n : ℕ)
    (here : Location) (s : Statement)
    (e : Expression) (a b : Vec Statement Global) (m new : State) (x : Halt) → s ≡ If here e a b →
    IsBehaviour {A = Bool} (Err x) new (tested w n here.line e m) →
    HasHeard {A = Bool} (Err x) H G from (test_moment w n here (Chooses e) e m) late →
    HasHeard {A = Unit {0}} (Err x) H G from (moments w n s m) late
if_halts_heard H G from late w n here s e a b m new x is t h =
    let P : List Moment → Type 0 = λ ms. HasHeard {A = Unit {0}} (Err x) H G from ms late in
    subst P (sym (if_told w n here s e a b m is))
    (first_halts H G {A = Bool} (Unit {0}) from late (test_moment w n here (Chooses e) e m) (tested w n here.line e m)
    (λ z m. closing (if z then list_moments w n a.items m else list_moments w n b.items m)) x new t h)

branch_heard : {S : Type 0} (H : S → List Moment → S → Type 0) (G : S → Moment → S → Type 0) → HearsOn H → (from half late : S)
    (w : Checked) (n : ℕ) (here : Location)
    (s : Statement) (e : Expression) (a b : Vec Statement Global) (m mid : State) (v : Bool) (r : Result (Unit {0}) Halt) →
    s ≡ If here e a b → tested w n here.line e m ≡ Goes v mid → H from (test_moment w n here (Chooses e) e m) half →
    HasHeard r H G half (closing (if v then list_moments w n a.items mid else list_moments w n b.items mid)) late →
    HasHeard r H G from (moments w n s m) late
branch_heard H G on from half late w n here s e a b m mid v r is t h rest =
    let P : List Moment → Type 0 = λ ms. HasHeard r H G from ms late in
    subst P (sym (if_told w n here s e a b m is))
    (first_goes H G on {A = Bool} {B = Unit {0}} from half late (test_moment w n here (Chooses e) e m) (tested w n here.line e m)
    (λ z m. closing (if z then list_moments w n a.items m else list_moments w n b.items m)) v mid r t h rest)

pub then_heard : {S : Type 0} (H : S → List Moment → S → Type 0) (G : S → Moment → S → Type 0) → HearsOn H → (from half late : S)
    (w : Checked) (n : ℕ) (here : Location)
    (s : Statement) (e : Expression) (a b : Vec Statement Global) (m mid : State) (v : Bool) (r : Result (Unit {0}) Halt) →
    s ≡ If here e a b → tested w n here.line e m ≡ Goes v mid → v ≡ true → H from (test_moment w n here (Chooses e) e m) half →
    HasHeard r H G half (closing (list_moments w n a.items mid)) late → HasHeard r H G from (moments w n s m) late
then_heard H G on from half late w n here s e a b m mid v r is t z h rest =
    let P : Bool → Type 0 = λ v. HasHeard r H G half (closing (if v then list_moments w n a.items mid else
    list_moments w n b.items mid)) late in
    branch_heard H G on from half late w n here s e a b m mid v r is t h (subst P (sym z) rest)

pub else_heard : {S : Type 0} (H : S → List Moment → S → Type 0) (G : S → Moment → S → Type 0) → HearsOn H → (from half late : S)
    (w : Checked) (n : ℕ) (here : Location)
    (s : Statement) (e : Expression) (a b : Vec Statement Global) (m mid : State) (v : Bool) (r : Result (Unit {0}) Halt) →
    s ≡ If here e a b → tested w n here.line e m ≡ Goes v mid → v ≡ false → H from (test_moment w n here (Chooses e) e m) half →
    HasHeard r H G half (closing (list_moments w n b.items mid)) late → HasHeard r H G from (moments w n s m) late
else_heard H G on from half late w n here s e a b m mid v r is t z h rest =
    let P : Bool → Type 0 = λ v. HasHeard r H G half (closing (if v then list_moments w n a.items mid else
    list_moments w n b.items mid)) late in
    branch_heard H G on from half late w n here s e a b m mid v r is t h (subst P (sym z) rest)
