-- A statement of a set, from its parts and its least fault.
use Rattle.std.proofs.Common.{◌≡◌, ℕ, List, [], ◌∷◌, Option, Some, None, ap, sym, ◌∙◌, subst}
use Rattle.pram_check.specs.Checked.{Checked}
use Rattle.pram_tokens.specs.declared.token.Location.{Location}
use Rattle.pram_meaning.specs.declared.key.Key.{Key}
use Rattle.pram_meaning.specs.Attempt.{Attempt, Effect}
use Rattle.pram_meaning.specs.Bounded.{Goes, Stops, attempted_on, counted, then_do, valued}
use Rattle.pram_meaning.specs.Conflict.{Part, keys, least}
use Rattle.pram_meaning.specs.Listening.{HasHeardPart}
use Rattle.pram_meaning.specs.Moments.{Moment, StepAction, Together, behind, by_set, set_moment}
use Rattle.pram_meaning.specs.Store.{State, View}
use Rattle.pram_meaning.specs.Together.{on_key, parts, together}
use Rattle.pram_meaning.proofs.Telling.{HearsNothing, part_of_one}

-- ---- what it comes to

attempted : (w : Checked) (n line : ℕ) (a : View → Attempt Effect) (vs : List ℕ) (m mid : State) (xs : List Part) (o : Option Key) →
    counted n m ≡ Goes tt mid → xs ≡ parts w mid a vs → o ≡ least (keys w.rule xs) →
    attempted_on w n line a vs m ≡ valued (on_key line o xs) mid
attempted w n line a vs m mid xs o is same l =
    ap (λ b. then_do b (λ u m. valued (together w line (parts w m a vs)) m)) is
    ∙ ap (λ xs. valued (together w line xs) mid) (sym same)
    ∙ ap (λ o. valued (on_key line o xs) mid) (sym l)

pub set_goes : (w : Checked) (n line : ℕ) (a : View → Attempt Effect) (vs : List ℕ) (m mid new : State) (xs : List Part)
    (o : Option Key) → counted n m ≡ Goes tt mid → new ≡ mid → xs ≡ parts w mid a vs → o ≡ least (keys w.rule xs) → o ≡ None →
    attempted_on w n line a vs m ≡ Goes xs new
set_goes w n line a vs m mid new xs o is kept same l none =
    attempted w n line a vs m mid xs o is same l ∙ ap (λ o. valued (on_key line o xs) mid) none ∙ ap (Goes xs) (sym kept)

pub set_fails : (w : Checked) (n line : ℕ) (a : View → Attempt Effect) (vs : List ℕ) (m mid new : State) (xs : List Part)
    (o : Option Key) (k : Key) → counted n m ≡ Goes tt mid → new ≡ mid → xs ≡ parts w mid a vs → o ≡ least (keys w.rule xs) →
    o ≡ Some k → attempted_on w n line a vs m ≡ Stops (record { kind = k.kind; line = line; place = k.place }) new.output
set_fails w n line a vs m mid new xs o k is kept same l some =
    attempted w n line a vs m mid xs o is same l ∙ ap (λ o. valued (on_key line o xs) mid) some
    ∙ ap (λ (m : State). Stops (record { kind = k.kind; line = line; place = k.place }) m.output) (sym kept)

-- ---- what is told of it

told : (w : Checked) (n : ℕ) (here : Location) (act : StepAction) (left : List Part → State → State) (a : View → Attempt Effect)
    (vs : List ℕ)
    (m mid : State) (xs : List Part) (o : Option Key) → counted n m ≡ Goes tt mid → xs ≡ parts w mid a vs →
    o ≡ least (keys w.rule xs) → set_moment w n here act left a vs m ≡ by_set here act left mid xs o ∷ []
told w n here act left a vs m mid xs o is same l =
    ap (λ b. behind b (λ u m. by_set here act left m (parts w m a vs) (least (keys w.rule (parts w m a vs))) ∷ [])) is
    ∙ ap (λ xs. by_set here act left mid xs (least (keys w.rule xs)) ∷ []) (sym same)
    ∙ ap (λ o. by_set here act left mid xs o ∷ []) (sym l)

pub told_goes : {S : Type 0} (H : S → List Moment → S → Type 0) (w : Checked) (n : ℕ) (here : Location) (act : StepAction)
    (left : List Part → State → State) (a : View → Attempt Effect) (vs : List ℕ) (m mid new : State) (xs : List Part) (o : Option Key)
    (from late : S) → counted n m ≡ Goes tt mid → new ≡ mid → xs ≡ parts w mid a vs → o ≡ least (keys w.rule xs) → o ≡ None →
    H from (Together here act new xs None (left xs new) ∷ []) late → H from (set_moment w n here act left a vs m) late
told_goes H w n here act left a vs m mid new xs o from late is kept same l none h =
    let P : List Moment → Type 0 = λ ms. H from ms late in
    subst P (sym (told w n here act left a vs m mid xs o is same l ∙ ap (λ o. by_set here act left mid xs o ∷ []) none
    ∙ ap (λ m. Together here act m xs None (left xs m) ∷ []) (sym kept))) h

pub told_fails : {S : Type 0} (H : S → List Moment → S → Type 0) (w : Checked) (n : ℕ) (here : Location) (act : StepAction)
    (left : List Part → State → State) (a : View → Attempt Effect) (vs : List ℕ) (m mid new : State) (xs : List Part) (o : Option Key)
    (k : Key) (from late : S) → counted n m ≡ Goes tt mid → new ≡ mid → xs ≡ parts w mid a vs → o ≡ least (keys w.rule xs) →
    o ≡ Some k → H from (Together here act new xs (Some k) new ∷ []) late → H from (set_moment w n here act left a vs m) late
told_fails H w n here act left a vs m mid new xs o k from late is kept same l some h =
    let P : List Moment → Type 0 = λ ms. H from ms late in
    subst P (sym (told w n here act left a vs m mid xs o is same l ∙ ap (λ o. by_set here act left mid xs o ∷ []) some
    ∙ ap (λ m. Together here act m xs (Some k) m ∷ []) (sym kept))) h

-- whoever was told of it gave up

pub goes_refused : {S : Type 0} (H : S → List Moment → S → Type 0) (G : S → Moment → S → Type 0) → HearsNothing H → (w : Checked) (n : ℕ)
    (here : Location) (act : StepAction) (left : List Part → State → State) (a : View → Attempt Effect) (vs : List ℕ) (m mid new : State)
    (xs lent : List Part) (o : Option Key) (from late : S) → counted n m ≡ Goes tt mid → new ≡ mid → xs ≡ parts w mid a vs →
    o ≡ least (keys w.rule xs) → o ≡ None → lent ≡ xs → G from (Together here act new lent None (left lent new)) late →
    HasHeardPart H G from (set_moment w n here act left a vs m) late
goes_refused H G nothing w n here act left a vs m mid new xs lent o from late is kept same l none alike g =
    let P : List Moment → Type 0 = λ ms. HasHeardPart H G from ms late in
    let Q : List Part → Type 0 = λ xs. G from (Together here act new xs None (left xs new)) late in
    subst P (sym (told w n here act left a vs m mid xs o is same l ∙ ap (λ o. by_set here act left mid xs o ∷ []) none
    ∙ ap (λ m. Together here act m xs None (left xs m) ∷ []) (sym kept)))
    (part_of_one H G nothing from late (Together here act new xs None (left xs new)) (subst Q alike g))

pub fails_refused : {S : Type 0} (H : S → List Moment → S → Type 0) (G : S → Moment → S → Type 0) → HearsNothing H → (w : Checked) (n : ℕ)
    (here : Location) (act : StepAction) (left : List Part → State → State) (a : View → Attempt Effect) (vs : List ℕ) (m mid new : State)
    (xs lent : List Part) (o : Option Key) (k : Key) (from late : S) → counted n m ≡ Goes tt mid → new ≡ mid → xs ≡ parts w mid a vs →
    o ≡ least (keys w.rule xs) → o ≡ Some k → lent ≡ xs → G from (Together here act new lent (Some k) new) late →
    HasHeardPart H G from (set_moment w n here act left a vs m) late
fails_refused H G nothing w n here act left a vs m mid new xs lent o k from late is kept same l some alike g =
    let P : List Moment → Type 0 = λ ms. HasHeardPart H G from ms late in
    let Q : List Part → Type 0 = λ xs. G from (Together here act new xs (Some k) new) late in
    subst P (sym (told w n here act left a vs m mid xs o is same l ∙ ap (λ o. by_set here act left mid xs o ∷ []) some
    ∙ ap (λ m. Together here act m xs (Some k) m ∷ []) (sym kept)))
    (part_of_one H G nothing from late (Together here act new xs (Some k) new) (subst Q alike g))
