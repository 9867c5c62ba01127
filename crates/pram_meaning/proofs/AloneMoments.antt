-- A statement of the one processor, from what its attempt gives.
use Rattle.std.proofs.Common.{◌≡◌, ℕ, List, [], ◌∷◌, Option, ap, sym, ◌∙◌, subst}
use Rattle.pram_tokens.specs.declared.token.Location.{Location}
use Rattle.pram_values.specs.declared.kind.Kind.{Kind}
use Rattle.pram_values.specs.declared.place.Place.TheVariants.{All}
use Rattle.pram_meaning.specs.Attempt.{Attempt, Fails, Gives, Trail}
use Rattle.pram_meaning.specs.Bounded.{Goes, Stops, counted, evaluated, then_do, valued}
use Rattle.pram_meaning.specs.Listening.{HasHeardPart}
use Rattle.pram_meaning.specs.Moments.{Action, Alone, Moment, alone_moment, behind, left_by, writing}
use Rattle.pram_meaning.specs.Store.{State}
use Rattle.pram_meaning.specs.Together.{alone}
use Rattle.pram_meaning.proofs.Telling.{HearsNothing, part_of_one}

-- ---- what it comes to

attempted : {A : Type 0} (n line : ℕ) (a : State → Attempt A) (m mid : State) (x : Attempt A) → counted n m ≡ Goes tt mid → a mid ≡ x →
    evaluated n line a m ≡ valued (alone line x) mid
attempted n line a m mid x is at =
    ap (λ b. then_do b (λ u m. valued (alone line (a m)) m)) is ∙ ap (λ x. valued (alone line x) mid) at

pub value_goes : {A : Type 0} (n line : ℕ) (a : State → Attempt A) (m mid : State) (t : Trail) (v : A) → counted n m ≡ Goes tt mid →
    a mid ≡ Gives t v → evaluated n line a m ≡ Goes v mid
value_goes n line a m mid t v is at = attempted n line a m mid (Gives t v) is at

pub value_fails : {A : Type 0} (n line : ℕ) (a : State → Attempt A) (m mid : State) (t : Trail) (k : Kind) → counted n m ≡ Goes tt mid →
    a mid ≡ Fails t k → evaluated n line a m ≡ Stops (record { kind = k; line = line; place = All }) mid.output
value_fails n line a m mid t k is at = attempted n line a m mid (Fails t k) is at

-- ---- what is told of it

told : {A : Type 0} (n : ℕ) (here : Location) (act : Action) (write : A → Option ℕ) (left : A → State → State) (a : State → Attempt A)
    (m mid : State) (x : Attempt A) → counted n m ≡ Goes tt mid → a mid ≡ x →
    alone_moment n here act write left a m ≡ Alone here act mid (writing write x) (left_by left x mid) ∷ []
told n here act write left a m mid x is at =
    ap (λ b. behind b (λ u m. Alone here act m (writing write (a m)) (left_by left (a m) m) ∷ [])) is
    ∙ ap (λ x. Alone here act mid (writing write x) (left_by left x mid) ∷ []) at

pub told_goes : {S : Type 0} (H : S → List Moment → S → Type 0) {A : Type 0} (n : ℕ) (here : Location) (act : Action) (write : A → Option ℕ)
    (left : A → State → State) (a : State → Attempt A) (m mid : State) (t : Trail) (v : A) (from late : S) →
    counted n m ≡ Goes tt mid → a mid ≡ Gives t v → H from (Alone here act mid (Gives t (write v)) (left v mid) ∷ []) late →
    H from (alone_moment n here act write left a m) late
told_goes H n here act write left a m mid t v from late is at h =
    let P : List Moment → Type 0 = λ ms. H from ms late in
    subst P (sym (told n here act write left a m mid (Gives t v) is at)) h

pub told_fails : {S : Type 0} (H : S → List Moment → S → Type 0) {A : Type 0} (n : ℕ) (here : Location) (act : Action)
    (write : A → Option ℕ)
    (left : A → State → State) (a : State → Attempt A) (m mid : State) (t : Trail) (k : Kind) (from late : S) →
    counted n m ≡ Goes tt mid → a mid ≡ Fails t k → H from (Alone here act mid (Fails t k) mid ∷ []) late →
    H from (alone_moment n here act write left a m) late
told_fails H n here act write left a m mid t k from late is at h =
    let P : List Moment → Type 0 = λ ms. H from ms late in
    subst P (sym (told n here act write left a m mid (Fails t k) is at)) h

-- whoever was told of it gave up

refused : {S : Type 0} (H : S → List Moment → S → Type 0) (G : S → Moment → S → Type 0) → HearsNothing H → {A : Type 0} (n : ℕ)
    (here : Location) (act : Action) (write : A → Option ℕ) (left : A → State → State) (a : State → Attempt A) (m mid : State)
    (x : Attempt A) (from late : S) → counted n m ≡ Goes tt mid → a mid ≡ x →
    G from (Alone here act mid (writing write x) (left_by left x mid)) late → HasHeardPart H G from
    (alone_moment n here act write left a m) late
refused H G nothing n here act write left a m mid x from late is at g =
    let P : List Moment → Type 0 = λ ms. HasHeardPart H G from ms late in
    let one : Moment = Alone here act mid (writing write x) (left_by left x mid) in
    subst P (sym (told n here act write left a m mid x is at)) (part_of_one H G nothing from late one g)

pub goes_refused : {S : Type 0} (H : S → List Moment → S → Type 0) (G : S → Moment → S → Type 0) → HearsNothing H → {A : Type 0} (n : ℕ)
    (here : Location) (act : Action) (write : A → Option ℕ) (left : A → State → State) (a : State → Attempt A) (m mid : State)
    (t told : Trail) (v u : A) (from late : S) → counted n m ≡ Goes tt mid → a mid ≡ Gives t v → told ≡ t → u ≡ v →
    G from (Alone here act mid (Gives told (write u)) (left u mid)) late → HasHeardPart H G from
    (alone_moment n here act write left a m) late
goes_refused H G nothing {A} n here act write left a m mid t told v u from late is at same value g =
    let P : Trail → Type 0 = λ t. G from (Alone here act mid (Gives t (write u)) (left u mid)) late in
    let Q : A → Type 0 = λ v. G from (Alone here act mid (Gives t (write v)) (left v mid)) late in
    refused H G nothing n here act write left a m mid (Gives t v) from late is at (subst Q value (subst P same g))

pub fails_refused : {S : Type 0} (H : S → List Moment → S → Type 0) (G : S → Moment → S → Type 0) → HearsNothing H → {A : Type 0} (n : ℕ)
    (here : Location) (act : Action) (write : A → Option ℕ) (left : A → State → State) (a : State → Attempt A) (m mid : State)
    (t told : Trail) (k : Kind) (from late : S) → counted n m ≡ Goes tt mid → a mid ≡ Fails t k → told ≡ t →
    G from (Alone here act mid (Fails told k) mid) late → HasHeardPart H G from (alone_moment n here act write left a m) late
fails_refused H G nothing n here act write left a m mid t told k from late is at same g =
    let P : Trail → Type 0 = λ t. G from (Alone here act mid (Fails t k) mid) late in
    refused H G nothing n here act write left a m mid (Fails t k) from late is at (subst P same g)
