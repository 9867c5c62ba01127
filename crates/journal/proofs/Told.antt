-- What is told of a moment, as an entry, and that a moment is heard as who is told its entry says.
use Rattle.std.proofs.Common.{Option, ◌≡◌, ◌∙◌, ℤ, Result, Ok, Err, List, [], ◌∷◌, ◌++◌, map, drop, length, refl, ap, subst, sym}
use Rattle.std.specs.Result.{OnErr}
pub use Rattle.costs.proofs.Complete.{given_ok}
use Rattle.journal.specs.declared.change.Change.{Change}
use Rattle.journal.specs.declared.local_change.LocalChange.{LocalChange}
use Rattle.pram_tokens.specs.declared.token.Location.{Location}
use Rattle.pram_names.specs.declared.body.StepTarget.TheVariants as target
use Rattle.pram_check.specs.Checked.{Checked}
use Rattle.pram_meaning.specs.Attempt.{Effect, Trail}
use Rattle.pram_meaning.specs.Conflict.{Part}
use Rattle.pram_meaning.specs.Listening.{done_by, done_on}
use Rattle.pram_meaning.specs.Moments.{Action, AssignsOn, ChoosesOn, Moment, StepAction, TurnsOn}
use Rattle.pram_meaning.specs.Store.{State}
use Rattle.journal.specs.Entries.{Act, Entry, Ran}
use Rattle.journal.specs.Acts.{act_of, alone_acts, held}
use Rattle.journal.specs.Changes.{difference}
use Rattle.journal.specs.RunEntries.{entries_of, ran}
use Rattle.journal.specs.HeardLaws.{Broken, Heard, Left}
use Rattle.journal.specs.Locals.{locals_changed}
use Rattle.journal.proofs.Differing.{none_of_it}
use Rattle.journal.proofs.Pushed.{nothing_gained}

-- ---- the entry of a statement that ran

pub done_alone : (here : Location) (act : Action) (m : State) (t : Trail) (g : Effect) (acts : List Act) (cells variables : List Change)
    (locals : List LocalChange) (items : List ℤ) (w : Option ℤ) → acts ≡ alone_acts m.cells t g.cell w →
    w ≡ held (done_by act g m).cells g.cell → cells ≡ difference m.cells (done_by act g m).cells →
    variables ≡ difference m.uniforms (done_by act g m).uniforms → locals ≡ [] →
    items ≡ drop (length m.output) (done_by act g m).output →
    Ran here acts cells variables locals items
    ≡ ran here (alone_acts m.cells t g.cell (held (done_by act g m).cells g.cell)) [] m (done_by act g m)
done_alone here act m t g acts cells variables locals items w a is c v l o =
    let told = a ∙ ap (alone_acts m.cells t g.cell) is in λ i. Ran here (told i) (c i) (v i) (l i) (o i)

-- a set changes no uniform variable, and prints nothing
cells_alone : (p : Checked) (act : StepAction) (xs : List Part) (m : State) →
    ((done_on p act xs m).uniforms ≡ m.uniforms) × ((done_on p act xs m).output ≡ m.output)
cells_alone p (AssignsOn (target.Local x) e) xs m = (refl, refl)
cells_alone p (AssignsOn (target.Cell a) e) xs m = (refl, refl)
cells_alone p (AssignsOn (target.Element a i) e) xs m = (refl, refl)
cells_alone p (TurnsOn e) xs m = (refl, refl)
cells_alone p (ChoosesOn e) xs m = (refl, refl)

pub done_together : (p : Checked) (here : Location) (act : StepAction) (m : State) (xs : List Part) (acts : List Act)
    (cells variables : List Change) (locals : List LocalChange) (items : List ℤ) → acts ≡ map (act_of m.cells) xs →
    cells ≡ difference m.cells (done_on p act xs m).cells → variables ≡ [] → locals ≡ locals_changed act xs m.team → items ≡ [] →
    Ran here acts cells variables locals items ≡ ran here (map (act_of m.cells) xs) (locals_changed act xs m.team) m (done_on p act xs m)
done_together p here act m xs acts cells variables locals items a c v l o =
    let same = cells_alone p act xs m in
    let variables_are = none_of_it m.uniforms variables v ∙ ap (difference m.uniforms) (sym same.0) in
    let items_are = nothing_gained m.output items o ∙ ap (drop (length m.output)) (sym same.1) in
    λ i. Ran here (a i) (c i) (variables_are i) (l i) (items_are i)

-- ---- a moment, by who is told

abbrev pub TellsOn : {T : Type 0} → (T → List Entry → T → Type 0) → Type 0
TellsOn {T} Tells = (a b c : T) (xs ys : List Entry) → Tells a xs b → Tells b ys c → Tells a (xs ++ ys) c

-- its entry was made and told
pub heard_told : {T : Type 0} (Tells : T → List Entry → T → Type 0) → TellsOn Tells → (p : Checked) (a between b : T) (m : Moment)
    (e : Entry) → e ∷ [] ≡ entries_of p m → Tells a [] between → Tells between (e ∷ []) b → Heard Tells p p a b (m ∷ [])
heard_told Tells on p a between b m e is w h =
    (refl, subst (λ es. Tells a (es ++ []) b) is (on a between b [] (e ∷ []) w h))

-- the telling broke off at it
pub broken_at : {T : Type 0} (Tells : T → List Entry → T → Type 0) (BreaksOff : T → Entry → T → Type 0) (p : Checked) (a between b : T)
    (m : Moment) (e : Entry) → e ∷ [] ≡ entries_of p m → Tells a [] between → BreaksOff between e b → Left Tells BreaksOff p a m b
broken_at Tells BreaksOff p a between b m e is w h = Broken e between (sym is) w h

-- ---- behind an answer

pub anyway_refused : {A E : Type 0} (r : Result A E) (Q : Type 0) → Q → OnErr r Q
anyway_refused (Ok a) Q h = tt
anyway_refused (Err e) Q h = h
