-- A set's block as it is heard, and a statement of each kind.
use Rattle.std.proofs.Common.{true, false, ◌≡◌, ℕ, ◌+◌, ◌<◌, ◌≤◌, List, [], ◌∷◌, ◌++◌, refl, ap, sym, ◌∙◌, Global, Vec, Result, Err, subst}
use Rattle.std.proofs.Common.{drop}
use Rattle.std.proofs.Common.{length, get_or}
use Rattle.std.proofs.lemmas.List.{append-nil, drop_more, drop_all}
use Rattle.pram_check.specs.Checked.{Checked}
use Rattle.pram_tokens.specs.declared.token.Location.{Location}
use Rattle.pram_names.specs.declared.body.Expression.{Expression}
use Rattle.pram_names.specs.declared.body.Step as step
use Rattle.pram_names.specs.declared.body.Step.{Row_of-Step, Step, end_of-Step, items-the_row-Step, items_hidden-the_row-Step-0}
use Rattle.pram_names.specs.declared.body.Step.{more_of-Step}
use Rattle.pram_names.specs.declared.body.Step.TheBlock.{hidden-the_row-Step-0}
use Rattle.pram_names.specs.declared.body.StepTarget.{StepTarget}
use Rattle.pram_meaning.specs.declared.part as part
use Rattle.pram_meaning.specs.declared.run.Halt.{Halt}
use Rattle.pram_meaning.specs.declared.run.Halt.TheVariants as halt
use Rattle.pram_meaning.specs.Bounded.{Behaviour, Goes, perform_list_on, perform_on, perform_row_on, tested_on}
use Rattle.pram_meaning.specs.Conflict.{Part}
use Rattle.pram_meaning.specs.Listening.{HasHeard, HasHeardPart}
use Rattle.pram_meaning.specs.Moments.{ChoosesOn, Moment, TurnsOn, behind, inner_list_moments, inner_moments, inner_row_moments}
use Rattle.pram_meaning.specs.Moments.{set_assign_moment, set_test_moment, turns_on_moments}
use Rattle.pram_meaning.specs.Runs.{IsBehaviour}
use Rattle.pram_meaning.specs.Sets.{IsParts}
use Rattle.pram_meaning.specs.Store.{State}
use Rattle.pram_meaning.specs.Together.{those}
use Rattle.pram_meaning.proofs.SetBlocks.{block_is}
use Rattle.pram_meaning.proofs.Telling.{Closes, HearsNothing, HearsOn, closes_as, closes_halt, closes_on, closes_start, first_goes}
use Rattle.pram_meaning.proofs.Telling.{first_halts, part_all, part_first}

-- ---- a block: what is left of it is to be heard

abbrev pub BlockHeard : {S : Type 0} → (S → List Moment → S → Type 0) → (S → Moment → S → Type 0) → Checked → ℕ → List Step → List ℕ → ℕ →
    State → S → State → S →
    Type 0
BlockHeard H G w n items vs i start from now till =
    Closes H G from (inner_list_moments w n items vs start) till (inner_list_moments w n (drop i items) vs now)

pub heard_starts : {S : Type 0} (H : S → List Moment → S → Type 0) (G : S → Moment → S → Type 0) (w : Checked) (n : ℕ) (items : List Step)
    (vs : List ℕ) (m : State)
    (from : S) → BlockHeard H G w n items vs 0 m from m from
heard_starts H G w n items vs m from = closes_start H G from (inner_list_moments w n items vs m)

heard_left : {S : Type 0} (H : S → List Moment → S → Type 0) (G : S → Moment → S → Type 0) (w : Checked) (n : ℕ) (items : List Step)
    (vs : List ℕ) (i : ℕ) (s : Step)
    (start now : State) (from till : S) → i < length items → s ≡ get_or items i s → BlockHeard H G w n items vs i start from now till →
    Closes H G from (inner_list_moments w n items vs start) till
    (inner_moments w n s vs now ++ behind (perform_on w n s vs now) (λ u. inner_list_moments w n (drop (i + 1) items) vs))
heard_left H G w n items vs i s start now from till h is c =
    let p : inner_list_moments w n (drop i items) vs now ≡ inner_list_moments w n (s ∷ drop (i + 1) items) vs now =
    ap (λ xs. inner_list_moments w n xs vs now) (drop_more items i s h ∙ ap (λ x. x ∷ drop (i + 1) items) (sym is)) in
    closes_as H G from till (inner_list_moments w n items vs start) (inner_list_moments w n (drop i items) vs now)
    (inner_list_moments w n (s ∷ drop (i + 1) items) vs now) p c

pub heard_halts : {S : Type 0} (H : S → List Moment → S → Type 0) (G : S → Moment → S → Type 0) (w : Checked) (n : ℕ) (items : List Step)
    (vs : List ℕ) (i : ℕ)
    (s : Step) (start now new : State) (from till late : S) (x : Halt) → BlockHeard H G w n items vs i start from now till →
    i < length items → s ≡ get_or items i s → IsBehaviour {A = Unit {0}} (Err x) new (perform_on w n s vs now) →
    HasHeard {A = Unit {0}} (Err x) H G till (inner_moments w n s vs now) late →
    HasHeard {A = Unit {0}} (Err x) H G from (inner_list_moments w n items vs start) late
heard_halts H G w n items vs i s start now new from till late x c h is e t =
    closes_halt H G {A = Unit {0}} from till late (inner_list_moments w n items vs start) (inner_moments w n s vs now)
    (perform_on w n s vs now) (λ u. inner_list_moments w n (drop (i + 1) items) vs) x new e
    (heard_left H G w n items vs i s start now from till h is c) t

pub heard_goes : {S : Type 0} (H : S → List Moment → S → Type 0) (G : S → Moment → S → Type 0) → HearsOn H → (w : Checked) (n : ℕ)
    (items : List Step) (vs : List ℕ)
    (i : ℕ) (s : Step) (start now new : State) (from till late : S) → BlockHeard H G w n items vs i start from now till →
    i < length items → s ≡ get_or items i s → perform_on w n s vs now ≡ Goes tt new → H till (inner_moments w n s vs now) late →
    BlockHeard H G w n items vs (i + 1) start from new late
heard_goes H G on w n items vs i s start now new from till late c h is e t =
    closes_on H G on {A = Unit {0}} from till late (inner_list_moments w n items vs start) (inner_moments w n s vs now)
    (perform_on w n s vs now) (λ u. inner_list_moments w n (drop (i + 1) items) vs) tt new e
    (heard_left H G w n items vs i s start now from till h is c) t

pub heard_ends : {S : Type 0} (H : S → List Moment → S → Type 0) (G : S → Moment → S → Type 0) → HearsNothing H → (w : Checked) (n : ℕ)
    (items : List Step)
    (vs : List ℕ) (i : ℕ) (start now : State) (from till : S) → BlockHeard H G w n items vs i start from now till → length items ≤ i →
    H from (inner_list_moments w n items vs start) till
heard_ends H G nothing w n items vs i start now from till c h =
    let p : inner_list_moments w n (drop i items) vs now ≡ [] = ap (λ xs. inner_list_moments w n xs vs now) (drop_all i items h) in
    c.all till (rw p (nothing till))

-- ---- a block's moments, read at the vector's items

items_are_told : (w : Checked) (n : ℕ) {k : _} (ss : Row_of-Step k) (vs : List ℕ) (m : State) →
    inner_list_moments w n (items-the_row-Step k ss) vs m ≡ inner_row_moments w n ss vs m
items_are_told w n end_of-Step vs m = refl
items_are_told w n (more_of-Step s ss) vs m =
    ap (λ f. inner_moments w n s vs m ++ behind (perform_on w n s vs m) f) (λ j u m. items_are_told w n ss vs m j)

pub told_is : (w : Checked) (n : ℕ) (body : Vec Step Global) →
    inner_row_moments w n (hidden-the_row-Step-0 body) ≡ inner_list_moments w n body.items
told_is w n body = λ j vs m. (sym (items_are_told w n (hidden-the_row-Step-0 body) vs m)
    ∙ ap (λ ss. inner_list_moments w n ss vs m) (items_hidden-the_row-Step-0 body)) j

-- ---- a statement of each kind

-- what halts the attempts halts the whole, and is heard
pub parts_halt_heard : {S : Type 0} (H : S → List Moment → S → Type 0) (G : S → Moment → S → Type 0) (A B : Type 0) (from late : S)
    (ms : List Moment)
    (b : Behaviour (List Part)) (f : List Part → State → List Moment) (x : Halt) (m : State) → IsParts (Err x) m b →
    HasHeard {A = A} (Err x) H G from ms late → HasHeard {A = B} (Err x) H G from (ms ++ behind b f) late
parts_halt_heard H G A B from late ms b f (halt.Fault k) m is h =
    let p : ms ++ behind b f ≡ ms = ap (λ b. ms ++ behind b f) is ∙ append-nil ms in rw p h
parts_halt_heard H G A B from late ms b f halt.Bound m is h =
    let p : ms ++ behind b f ≡ ms = ap (λ b. ms ++ behind b f) is ∙ append-nil ms in rw p h
parts_halt_heard H G A B from late ms b f halt.OutOfMemory m is h = part_first H G from late ms (behind b f) h

while_told : (w : Checked) (n : ℕ) (here : Location) (s : Step) (e : Expression) (body : Vec Step Global) (vs : List ℕ) (m : State) →
    s ≡ step.While here e body → inner_moments w n s vs m ≡ turns_on_moments (n + 1) (set_test_moment w n here (TurnsOn e) e)
    (tested_on w n here.line e) (inner_list_moments w n body.items) (perform_list_on w n body.items) vs m
while_told w n here s e body vs m is =
    ap (λ s. inner_moments w n s vs m) is
    ∙ ap (λ f. turns_on_moments (n + 1) (set_test_moment w n here (TurnsOn e) e) (tested_on w n here.line e) f
    (perform_row_on w n (hidden-the_row-Step-0 body)) vs m) (told_is w n body)
    ∙ ap (λ f. turns_on_moments (n + 1) (set_test_moment w n here (TurnsOn e) e) (tested_on w n here.line e)
    (inner_list_moments w n body.items) f vs m) (block_is w n body)

-- what is told of the branches of an `if`
abbrev branches : Checked → ℕ → List Step → List Step → List ℕ → List ℕ → State → List Moment
branches w n a b us ws m =
    inner_list_moments w n a us m ++ behind (perform_list_on w n a us m) (λ u. inner_list_moments w n b ws)

if_told : (w : Checked) (n : ℕ) (here : Location) (s : Step) (e : Expression) (a b : Vec Step Global) (vs : List ℕ) (m : State) →
    s ≡ step.If here e a b → inner_moments w n s vs m ≡ set_test_moment w n here (ChoosesOn e) e vs m
    ++ behind (tested_on w n here.line e vs m) (λ xs m. branches w n a.items b.items (those true xs) (those false xs) m)
if_told w n here s e a b vs m is =
    ap (λ s. inner_moments w n s vs m) is
    ∙ ap (λ f. set_test_moment w n here (ChoosesOn e) e vs m ++ behind (tested_on w n here.line e vs m) (λ xs m. f (those true xs) m
    ++ behind (perform_row_on w n (hidden-the_row-Step-0 a) (those true xs) m)
    (λ u. inner_row_moments w n (hidden-the_row-Step-0 b) (those false xs)))) (told_is w n a)
    ∙ ap (λ f. set_test_moment w n here (ChoosesOn e) e vs m ++ behind (tested_on w n here.line e vs m)
    (λ xs m. inner_list_moments w n a.items (those true xs) m ++ behind (f (those true xs) m)
    (λ u. inner_row_moments w n (hidden-the_row-Step-0 b) (those false xs)))) (block_is w n a)
    ∙ ap (λ f. set_test_moment w n here (ChoosesOn e) e vs m ++ behind (tested_on w n here.line e vs m)
    (λ xs m. inner_list_moments w n a.items (those true xs) m ++ behind (perform_list_on w n a.items (those true xs) m)
    (λ u. f (those false xs)))) (told_is w n b)

pub assign_heard : {S : Type 0} (H : S → List Moment → S → Type 0) (G : S → Moment → S → Type 0) (from late : S) (w : Checked) (n : ℕ)
    (here : Location) (s : Step)
    (x : StepTarget) (e : Expression) (vs : List ℕ) (m : State) (r : Result (Unit {0}) Halt) → s ≡ step.Assign here x e →
    HasHeard r H G from (set_assign_moment w n here x e vs m) late → HasHeard r H G from (inner_moments w n s vs m) late
assign_heard H G from late w n here s x e vs m r is h = rw is h

pub while_heard : {S : Type 0} (H : S → List Moment → S → Type 0) (G : S → Moment → S → Type 0) (from late : S) (w : Checked) (n : ℕ)
    (here : Location) (s : Step)
    (e : Expression) (body : Vec Step Global) (vs : List ℕ) (m : State) (r : Result (Unit {0}) Halt) → s ≡ step.While here e body →
    HasHeard r H G from (turns_on_moments (n + 1) (set_test_moment w n here (TurnsOn e) e) (tested_on w n here.line e)
    (inner_list_moments w n body.items) (perform_list_on w n body.items) vs m) late →
    HasHeard r H G from (inner_moments w n s vs m) late
while_heard H G from late w n here s e body vs m r is h =
    let P : List Moment → Type 0 = λ ms. HasHeard r H G from ms late in subst P (sym (while_told w n here s e body vs m is)) h

pub if_halts_heard : {S : Type 0} (H : S → List Moment → S → Type 0) (G : S → Moment → S → Type 0) (from late : S) (w : Checked) (n : ℕ)
    (here : Location) (s : Step)
    (e : Expression) (a b : Vec Step Global) (vs : List ℕ) (m new : State) (x : Halt) → s ≡ step.If here e a b →
    IsParts (Err x) new (tested_on w n here.line e vs m) →
    HasHeard {A = Vec part.Part.Part Global} (Err x) H G from (set_test_moment w n here (ChoosesOn e) e vs m) late →
    HasHeard {A = Unit {0}} (Err x) H G from (inner_moments w n s vs m) late
if_halts_heard H G from late w n here s e a b vs m new x is t h =
    let P : List Moment → Type 0 = λ ms. HasHeard {A = Unit {0}} (Err x) H G from ms late in
    subst P (sym (if_told w n here s e a b vs m is))
    (parts_halt_heard H G (Vec part.Part.Part Global) (Unit {0}) from late (set_test_moment w n here (ChoosesOn e) e vs m)
    (tested_on w n here.line e vs m)
    (λ xs m. branches w n a.items b.items (those true xs) (those false xs) m) x new t h)

-- memory was refused behind the test
pub if_refused_heard : {S : Type 0} (H : S → List Moment → S → Type 0) (G : S → Moment → S → Type 0) (from late : S) (w : Checked) (n : ℕ)
    (here : Location) (s : Step) (e : Expression) (a b : Vec Step Global) (vs : List ℕ) (m : State) → s ≡ step.If here e a b →
    H from (set_test_moment w n here (ChoosesOn e) e vs m) late → HasHeardPart H G from (inner_moments w n s vs m) late
if_refused_heard H G from late w n here s e a b vs m is h =
    let P : List Moment → Type 0 = λ ms. HasHeardPart H G from ms late in
    subst P (sym (if_told w n here s e a b vs m is))
    (part_first H G from late (set_test_moment w n here (ChoosesOn e) e vs m) _
    (part_all H G from late (set_test_moment w n here (ChoosesOn e) e vs m) h))

-- the test of an `if` was heard
tested_heard : {S : Type 0} (H : S → List Moment → S → Type 0) (G : S → Moment → S → Type 0) → HearsOn H →
    (from half late : S) (w : Checked) (n : ℕ) (here : Location) (s : Step)
    (e : Expression) (a b : Vec Step Global) (vs us : List ℕ) (m mid : State) (xs : List Part) (r : Result (Unit {0}) Halt) →
    s ≡ step.If here e a b → tested_on w n here.line e vs m ≡ Goes xs mid → us ≡ those true xs →
    H from (set_test_moment w n here (ChoosesOn e) e vs m) half →
    HasHeard r H G half (branches w n a.items b.items us (those false xs) mid) late →
    HasHeard r H G from (inner_moments w n s vs m) late
tested_heard H G on from half late w n here s e a b vs us m mid xs r is t u h rest =
    let P : List Moment → Type 0 = λ ms. HasHeard r H G from ms late in
    let Q : List ℕ → Type 0 = λ us. HasHeard r H G half (branches w n a.items b.items us (those false xs) mid) late in
    subst P (sym (if_told w n here s e a b vs m is))
    (first_goes H G on {A = List Part} {B = Unit {0}} from half late (set_test_moment w n here (ChoosesOn e) e vs m)
    (tested_on w n here.line e vs m) (λ xs m. branches w n a.items b.items (those true xs) (those false xs) m) xs mid r t h
    (subst Q u rest))

pub if_then_halts_heard : {S : Type 0} (H : S → List Moment → S → Type 0) (G : S → Moment → S → Type 0) → HearsOn H →
    (from half late : S) (w : Checked) (n : ℕ) (here : Location)
    (s : Step) (e : Expression) (a b : Vec Step Global) (vs us : List ℕ) (m mid new : State) (xs : List Part) (x : Halt) →
    s ≡ step.If here e a b → tested_on w n here.line e vs m ≡ Goes xs mid → us ≡ those true xs →
    H from (set_test_moment w n here (ChoosesOn e) e vs m) half →
    IsBehaviour {A = Unit {0}} (Err x) new (perform_list_on w n a.items us mid) →
    HasHeard {A = Unit {0}} (Err x) H G half (inner_list_moments w n a.items us mid) late →
    HasHeard {A = Unit {0}} (Err x) H G from (inner_moments w n s vs m) late
if_then_halts_heard H G on from half late w n here s e a b vs us m mid new xs x is t u h f told =
    tested_heard H G on from half late w n here s e a b vs us m mid xs (Err x) is t u h
    (first_halts H G {A = Unit {0}} (Unit {0}) half late (inner_list_moments w n a.items us mid) (perform_list_on w n a.items us mid)
    (λ u. inner_list_moments w n b.items (those false xs)) x new f told)

pub if_goes_heard : {S : Type 0} (H : S → List Moment → S → Type 0) (G : S → Moment → S → Type 0) → HearsOn H →
    (from half then late : S) (w : Checked) (n : ℕ) (here : Location)
    (s : Step) (e : Expression) (a b : Vec Step Global) (vs us ws : List ℕ) (m mid end : State) (xs : List Part)
    (r : Result (Unit {0}) Halt) → s ≡ step.If here e a b → tested_on w n here.line e vs m ≡ Goes xs mid → us ≡ those true xs →
    ws ≡ those false xs → H from (set_test_moment w n here (ChoosesOn e) e vs m) half →
    perform_list_on w n a.items us mid ≡ Goes tt end → H half (inner_list_moments w n a.items us mid) then →
    HasHeard r H G then (inner_list_moments w n b.items ws end) late → HasHeard r H G from (inner_moments w n s vs m) late
if_goes_heard H G on from half then late w n here s e a b vs us ws m mid end xs r is t u v h f told rest =
    let P : List ℕ → Type 0 = λ ws. HasHeard r H G then (inner_list_moments w n b.items ws end) late in
    tested_heard H G on from half late w n here s e a b vs us m mid xs r is t u h
    (first_goes H G on {A = Unit {0}} {B = Unit {0}} half then late (inner_list_moments w n a.items us mid)
    (perform_list_on w n a.items us mid) (λ u. inner_list_moments w n b.items (those false xs)) tt end r f told (subst P v rest))
