-- A `for` as it is heard.
use Rattle.std.proofs.Common.{◌≡◌, ℕ, ℤ, pos, ◌+ℤ◌, ◌≤ℤ◌, ◌<ℤ◌, List, [], ◌∷◌, ◌++◌, None, ap, sym, Err, arith, subst}
use Rattle.std.proofs.Common.{Result}
use Rattle.std.proofs.lemmas.Int.{ints}
use Rattle.pram_check.specs.Checked.{Checked}
use Rattle.pram_tokens.specs.declared.token.Location.{Location}
use Rattle.pram_names.specs.declared.body.Expression.{Expression}
use Rattle.pram_names.specs.declared.body.Statement.{Statement}
use Rattle.pram_meaning.specs.declared.run.Halt.{Halt}
use Rattle.pram_meaning.specs.Attempt.{Gives, attempt_bounds}
use Rattle.pram_meaning.specs.Bounded.{Goes, counted, evaluated, perform_list}
use Rattle.pram_meaning.specs.Listening.{HasHeard, HasHeardPart}
use Rattle.pram_meaning.specs.Moments.{Alone, Moment, Sets, behind, bounds_moment, closing, for_moments, for_turns_moments}
use Rattle.pram_meaning.specs.Moments.{list_moments, setting_moment}
use Rattle.pram_meaning.specs.Runs.{IsBehaviour}
use Rattle.pram_meaning.specs.Store.{State, seen, with_uniform}
use Rattle.pram_model.specs.Layout.{width}
use Rattle.pram_meaning.proofs.ForLoops.{InFor, width_more, width_none}
use Rattle.pram_meaning.proofs.Telling.{Closes, HearsNothing, HearsOn, closes_halt, closes_on, closes_part, closes_start, first_goes}
use Rattle.pram_meaning.proofs.Telling.{part_of_one, waits}

abbrev loop : Checked → ℕ → Location → ℕ → List Statement → ℕ → ℤ → State → List Moment
loop w n here x body k a = for_turns_moments n here k x a (list_moments w n body) (perform_list w n body)

-- whoever hears what is left has heard the whole
abbrev pub ForHeard : {S : Type 0} → (S → List Moment → S → Type 0) → (S → Moment → S → Type 0) → Checked → (n : ℕ) (here : Location)
    (x : ℕ) → List Statement →
    (first last : ℤ) →
    State → S → ℤ → State → S → Type 0
ForHeard H G w n here x body first last start from value now till =
    Closes H G from (for_turns_moments n here (width first last) x first (list_moments w n body) (perform_list w n body) start) till
    (for_turns_moments n here (width value last) x value (list_moments w n body) (perform_list w n body) now)

pub heard_start : {S : Type 0} (H : S → List Moment → S → Type 0) (G : S → Moment → S → Type 0) (w : Checked) (n : ℕ) (here : Location)
    (x : ℕ) (body : List Statement)
    (first last : ℤ)
    (m : State) (from : S) → ForHeard H G w n here x body first last m from first m from
heard_start H G w n here x body first last m from =
    closes_start H G from (loop w n here x body (width first last) first m)

pub heard_none : {S : Type 0} (H : S → List Moment → S → Type 0) (G : S → Moment → S → Type 0) → HearsNothing H →
    (w : Checked) (n : ℕ) (here : Location) (x : ℕ) (body : List Statement)
    (first last : ℤ) (m : State) (from : S) → last <ℤ first →
    H from (for_turns_moments n here (width first last) x first (list_moments w n body) (perform_list w n body) m) from
heard_none H G nothing w n here x body first last m from h =
    let P : ℕ → Type 0 = λ k. H from (loop w n here x body k first m) from in subst P (sym (width_none first last h)) (nothing from)

-- what is told of a turn, once it counts
abbrev turn_told : Checked → ℕ → Location → ℕ → List Statement → (value last : ℤ) → Unit {0} → State → List Moment
turn_told w n here x body value last u m =
    closing (list_moments w n body (with_uniform x value m)) ++ behind (perform_list w n body (with_uniform x value m))
    (λ u. loop w n here x body (width (value +ℤ pos 1) last) (value +ℤ pos 1))

left_heard : {S : Type 0} (H : S → List Moment → S → Type 0) (G : S → Moment → S → Type 0) (w : Checked) (n : ℕ) (here : Location) (x : ℕ)
    (body : List Statement)
    (first last value : ℤ) (start : State) (from : S) (now : State) (till : S) → value ≤ℤ last →
    ForHeard H G w n here x body first last start from value now till →
    Closes H G from (loop w n here x body (width first last) first start) till
    (setting_moment n here x value now ++ behind (counted n now) (turn_told w n here x body value last))
left_heard H G w n here x body first last value start from now till within c =
    let P : ℕ → Type 0 = λ k. Closes H G from (loop w n here x body (width first last) first start) till
    (loop w n here x body k value now) in
    subst P (width_more value last within) c

pub setting_halts_heard : {S : Type 0} (H : S → List Moment → S → Type 0) (G : S → Moment → S → Type 0) → HearsNothing H → (w : Checked)
    (n : ℕ) (here : Location) (x : ℕ)
    (body : List Statement) (first last value end : ℤ) (start now new : State) (from till : S) (h : Halt) →
    InFor w n x body first last start value end now → ForHeard H G w n here x body first last start from value now till →
    IsBehaviour {A = Unit {0}} (Err h) new (counted n now) → HasHeard {A = Unit {0}} (Err h) H G from (for_turns_moments n here
    (width first last) x first (list_moments w n body) (perform_list w n body) start) till
setting_halts_heard H G nothing w n here x body first last value end start now new from till h i c is =
    closes_halt H G {A = Unit {0}} from till till (loop w n here x body (width first last) first start) (setting_moment n here x value now)
    (counted n now) (turn_told w n here x body value last) h new is
    (left_heard H G w n here x body first last value start from now till i.within c)
    (waits H G nothing (Unit {0}) n (λ m. Alone here (Sets x) m (Gives [] None) (with_uniform x value m)) now new till h is)

-- a turn counts, and whoever was told of the setting of its variable gave up
setting_told : (n : ℕ) (here : Location) (x : ℕ) (value : ℤ) (now mid : State) → counted n now ≡ Goes tt mid →
    setting_moment n here x value now ≡ Alone here (Sets x) mid (Gives [] None) (with_uniform x value mid) ∷ []
setting_told n here x value now mid is =
    ap (λ b. behind b (λ u m. Alone here (Sets x) m (Gives [] None) (with_uniform x value m) ∷ [])) is

pub setting_refused_heard : {S : Type 0} (H : S → List Moment → S → Type 0) (G : S → Moment → S → Type 0) → HearsNothing H →
    (w : Checked) (n : ℕ) (here : Location) (x : ℕ) (body : List Statement) (first last value end : ℤ) (start now mid : State)
    (from till half : S) → InFor w n x body first last start value end now →
    ForHeard H G w n here x body first last start from value now till →
    counted n now ≡ Goes tt mid → G till (Alone here (Sets x) mid (Gives [] None) (with_uniform x value mid)) half → HasHeardPart H G from
    (for_turns_moments n here (width first last) x first (list_moments w n body) (perform_list w n body) start) half
setting_refused_heard H G nothing w n here x body first last value end start now mid from till half i c is g =
    let P : List Moment → Type 0 = λ ms. HasHeardPart H G till ms half in
    closes_part H G from till half (loop w n here x body (width first last) first start) (setting_moment n here x value now)
    (behind (counted n now) (turn_told w n here x body value last))
    (left_heard H G w n here x body first last value start from now till i.within c)
    (subst P (sym (setting_told n here x value now mid is))
    (part_of_one H G nothing till half (Alone here (Sets x) mid (Gives [] None) (with_uniform x value mid)) g))

-- a turn counts, and the setting of its variable was heard
set_heard : {S : Type 0} (H : S → List Moment → S → Type 0) (G : S → Moment → S → Type 0) → HearsOn H → (w : Checked) (n : ℕ)
    (here : Location) (x : ℕ)
    (body : List Statement) (first last value : ℤ) (start now mid set : State) (from till half : S) → value ≤ℤ last →
    ForHeard H G w n here x body first last start from value now till → counted n now ≡ Goes tt mid → set ≡ with_uniform x value mid →
    H till (Alone here (Sets x) mid (Gives [] None) (with_uniform x value mid) ∷ []) half →
    Closes H G from (loop w n here x body (width first last) first start) half (closing (list_moments w n body set)
    ++ behind (perform_list w n body set) (λ u. loop w n here x body (width (value +ℤ pos 1) last) (value +ℤ pos 1)))
set_heard H G on w n here x body first last value start now mid set from till half within c is s h =
    let P : List Moment → Type 0 = λ ms. H till ms half in
    let Q : State → Type 0 = λ set. Closes H G from (loop w n here x body (width first last) first start) half
    (closing (list_moments w n body set)
    ++ behind (perform_list w n body set) (λ u. loop w n here x body (width (value +ℤ pos 1) last) (value +ℤ pos 1))) in
    subst Q (sym s)
    (closes_on H G on {A = Unit {0}} from till half (loop w n here x body (width first last) first start)
    (setting_moment n here x value now)
    (counted n now) (turn_told w n here x body value last) tt mid is
    (left_heard H G w n here x body first last value start from now till within c) (subst P (sym
    (setting_told n here x value now mid is)) h))

pub turn_halts_heard : {S : Type 0} (H : S → List Moment → S → Type 0) (G : S → Moment → S → Type 0) → HearsOn H → (w : Checked) (n : ℕ)
    (here : Location) (x : ℕ)
    (body : List Statement) (first last value end : ℤ) (start now mid set new : State) (from till half late : S) (h : Halt) →
    InFor w n x body first last start value end now → ForHeard H G w n here x body first last start from value now till →
    counted n now ≡ Goes tt mid → set ≡ with_uniform x value mid →
    H till (Alone here (Sets x) mid (Gives [] None) (with_uniform x value mid) ∷ []) half →
    IsBehaviour {A = Unit {0}} (Err h) new (perform_list w n body set) →
    HasHeard {A = Unit {0}} (Err h) H G half (closing (list_moments w n body set)) late → HasHeard {A = Unit {0}} (Err h) H G from
    (for_turns_moments n here (width first last) x first (list_moments w n body) (perform_list w n body) start) late
turn_halts_heard H G on w n here x body first last value end start now mid set new from till half late h i c is s told b rest =
    closes_halt H G {A = Unit {0}} from half late (loop w n here x body (width first last) first start)
    (closing (list_moments w n body set)) (perform_list w n body set)
    (λ u. loop w n here x body (width (value +ℤ pos 1) last) (value +ℤ pos 1)) h new b
    (set_heard H G on w n here x body first last value start now mid set from till half i.within c is s told) rest

-- a turn was heard
gone_heard : {S : Type 0} (H : S → List Moment → S → Type 0) (G : S → Moment → S → Type 0) → HearsOn H → (w : Checked) (n : ℕ)
    (here : Location) (x : ℕ)
    (body : List Statement) (first last value : ℤ) (start now mid set new : State) (from till half late : S) → value ≤ℤ last →
    ForHeard H G w n here x body first last start from value now till → counted n now ≡ Goes tt mid → set ≡ with_uniform x value mid →
    H till (Alone here (Sets x) mid (Gives [] None) (with_uniform x value mid) ∷ []) half → perform_list w n body set ≡ Goes tt new →
    H half (closing (list_moments w n body set)) late →
    Closes H G from (loop w n here x body (width first last) first start) late
    (loop w n here x body (width (value +ℤ pos 1) last) (value +ℤ pos 1) new)
gone_heard H G on w n here x body first last value start now mid set new from till half late within c is s told b rest =
    closes_on H G on {A = Unit {0}} from half late (loop w n here x body (width first last) first start)
    (closing (list_moments w n body set)) (perform_list w n body set)
    (λ u. loop w n here x body (width (value +ℤ pos 1) last) (value +ℤ pos 1)) tt new b
    (set_heard H G on w n here x body first last value start now mid set from till half within c is s told) rest

pub turn_goes_heard : {S : Type 0} (H : S → List Moment → S → Type 0) (G : S → Moment → S → Type 0) → HearsOn H → (w : Checked) (n : ℕ)
    (here : Location) (x : ℕ)
    (body : List Statement) (first last value end next : ℤ) (start now mid set new : State) (from till half late : S) →
    InFor w n x body first last start value end now → ForHeard H G w n here x body first last start from value now till →
    counted n now ≡ Goes tt mid → set ≡ with_uniform x value mid →
    H till (Alone here (Sets x) mid (Gives [] None) (with_uniform x value mid) ∷ []) half → perform_list w n body set ≡ Goes tt new →
    H half (closing (list_moments w n body set)) late → next ≡ value +ℤ pos 1 →
    ForHeard H G w n here x body first last start from next new late
turn_goes_heard H G on w n here x body first last value end next start now mid set new from till half late i c is s told b rest k =
    let P : ℤ → Type 0 = λ next. ForHeard H G w n here x body first last start from next new late in
    subst P (sym k)
    (gone_heard H G on w n here x body first last value start now mid set new from till half late i.within c is s told b rest)

pub turns_end_heard : {S : Type 0} (H : S → List Moment → S → Type 0) (G : S → Moment → S → Type 0) → HearsNothing H → HearsOn H →
    (w : Checked) (n : ℕ) (here : Location) (x : ℕ)
    (body : List Statement) (first last value end : ℤ) (start now mid set new : State) (from till half late : S) →
    InFor w n x body first last start value end now → ForHeard H G w n here x body first last start from value now till →
    counted n now ≡ Goes tt mid → set ≡ with_uniform x value mid →
    H till (Alone here (Sets x) mid (Gives [] None) (with_uniform x value mid) ∷ []) half → perform_list w n body set ≡ Goes tt new →
    H half (closing (list_moments w n body set)) late → value ≡ end →
    H from (for_turns_moments n here (width first last) x first (list_moments w n body) (perform_list w n body) start) late
turns_end_heard H G nothing on w n here x body first last value end start now mid set new from till half late i c is s told b rest k =
    (gone_heard H G on w n here x body first last value start now mid set new from till half late i.within c is s told b rest).all late
    (heard_none H G nothing w n here x body (value +ℤ pos 1) last new late (let m : end ≡ last = i.to in omega (arith, ints, k)))

-- the whole of it, once its bounds are heard
pub for_goes_heard : {S : Type 0} (H : S → List Moment → S → Type 0) (G : S → Moment → S → Type 0) → HearsOn H →
    (from half late : S) (w : Checked) (n : ℕ) (here : Location) (x : ℕ)
    (e f : Expression) (body : List Statement) (m mid : State) (first last next end : ℤ) (r : Result (Unit {0}) Halt) →
    evaluated n here.line (λ m. attempt_bounds (seen w m) e f) m ≡ Goes (first, last) mid → H from (bounds_moment w n here e f m) half →
    next ≡ first → end ≡ last →
    HasHeard r H G half (for_turns_moments n here (width next end) x next (list_moments w n body) (perform_list w n body) mid) late →
    HasHeard r H G from (for_moments w n here x e f (list_moments w n body) (perform_list w n body) m) late
for_goes_heard H G on from half late w n here x e f body m mid first last next end r is h a b rest =
    let P : ℤ → ℤ → Type 0 = λ first last. HasHeard r H G half (loop w n here x body (width first last) first mid) late in
    first_goes H G on {A = ℤ × ℤ} {B = Unit {0}} from half late (bounds_moment w n here e f m)
    (evaluated n here.line (λ m. attempt_bounds (seen w m) e f) m)
    (λ r. loop w n here x body (width r.0 r.1) r.0) (first, last) mid r is h (subst (P first) b (subst (λ a. P a end) a rest))
