-- Each part of a run is told soundly, by recursion beside the bounded meaning.
use Rattle.std.proofs.Common.{ℕ, ℤ, pos, ◌+ℤ◌, zero, suc, Bool, true, false, ◌+◌, List, [], ◌∷◌, ◌++◌, length, if◌then◌else◌}
use Rattle.std.proofs.Common.{refl, map, sym, subst, ◌≡◌, Option, Some, None}
use Rattle.std.proofs.lemmas.List.{length-set}
use Rattle.std.specs.Bool.{⊤}
use Rattle.pram_tokens.specs.declared.token.Location.{Location}
use Rattle.pram_model.specs.Layout.{width}
use Rattle.pram_check.specs.Checked.{Checked}
use Rattle.pram_names.specs.declared.body.Expression.{Expression}
use Rattle.pram_names.specs.declared.body.Statement.{Statement, Assign, Print, While', If', For', Pardo, Row_of-Statement, end_of-Statement}
use Rattle.pram_names.specs.declared.body.Statement.{more_of-Statement}
use Rattle.pram_names.specs.declared.body.Step as step
use Rattle.pram_names.specs.declared.body.Step.{Step, Row_of-Step, end_of-Step, more_of-Step}
use Rattle.pram_names.specs.declared.body.StepTarget.{StepTarget}
use Rattle.pram_names.specs.declared.body.StepTarget.TheVariants as inner
use Rattle.pram_names.specs.declared.body.Target.{Target}
use Rattle.pram_names.specs.declared.body.Target.TheVariants as target
use Rattle.pram_values.specs.Truth.{is_nonzero}
use Rattle.pram_meaning.specs.Attempt as trying
use Rattle.pram_meaning.specs.Attempt.{Attempt, Effect, Fails, attempt, attempt_assign, attempt_bounds, attempt_range, attempt_step}
use Rattle.pram_meaning.specs.Attempt.{attempt_value}
use Rattle.pram_meaning.specs.Bounded.{Behaviour, Done, Goes, Reaches, Stops, assign_on, attempted_on, counted, evaluated, for_turns, found}
use Rattle.pram_meaning.specs.Bounded.{pardo_done, perform, perform_list, perform_list_on, perform_on, perform_row, perform_row_on, tested}
use Rattle.pram_meaning.specs.Bounded.{tested_on, then_do, turns, turns_on, unless_none, valued}
use Rattle.pram_meaning.specs.Bounded as meaning
use Rattle.pram_meaning.specs.declared.key.Key.{Key}
use Rattle.pram_meaning.specs.Conflict.{Part, keys, least}
use Rattle.pram_meaning.specs.Moments as moment
use Rattle.pram_meaning.specs.Moments.{Action, Alone, AssignsOn, Bounds, ChoosesOn, Moment, Ranges, Sets, StepAction, TurnsOn}
use Rattle.pram_meaning.specs.Moments.{alone_moment, assign_moment, behind, bounds_moment, closing, for_turns_moments, goes_to, if_any}
use Rattle.pram_meaning.specs.Moments.{inner_list_moments, inner_moments, inner_row_moments, left_by, list_moments, moments, nowhere}
use Rattle.pram_meaning.specs.Moments.{print_moment, range_moment, row_moments, set_assign_moment, set_moment, set_test_moment}
use Rattle.pram_meaning.specs.Moments.{setting_moment, test_moment, turns_moments, turns_on_moments, unchanged, writing}
use Rattle.pram_meaning.specs.Store.{State, View, numbers, printed, seen, with_team, with_uniform, without_team}
use Rattle.pram_meaning.specs.Together.{after_write, alone, assigned, assigned_by, on_key, parts, together, those}
use Rattle.pram_meaning.proofs.Overwrites.{length_over}
use Rattle.moment_laws.proofs.Statements.{same_goes}
use Rattle.journal.specs.FoundCauses.{cause_in, cause_on}
use Rattle.journal.specs.Faults.{Explains, IsExplained}
use Rattle.journal.proofs.Explained as Explained
use Rattle.journal.proofs.Explained.{bounds_told, member_told, range_told, test_told}
use Rattle.journal.proofs.SetFaults as SetFaults
use Rattle.journal.specs.Acts.{act_before, act_of, alone_acts, front, held}
use Rattle.journal.specs.RunEntries.{fault_alone, fault_on, why_alone}
use Rattle.journal.specs.Locals.{locals_changed}
use Rattle.journal.specs.FaultLocals.{locals_at}
use Rattle.journal.specs.Meeting.{meeting}
use Rattle.journal.proofs.Sound.{Extends, IsTold, closing_told, counted_told, done, extends, fell_told, none_told, ran_told}
use Rattle.journal.proofs.Sound.{then_assoc, told, told_from, told_map, told_then, wait_told}

-- ---- a statement of one processor

module _ {A B : Type 0} (p : Checked) (here : Location) (act : Action) (write : A → Option ℕ) (left : A → State → State) (f : A → B)
    (kept : (a : A) (m : State) → Extends m (left a m)) where
  come : (x : Attempt A) (m : State) → Explains p x (why_alone p m act) →
      IsTold p m (told p (Alone here act m (writing write x) (left_by left x m) ∷ []))
      (then_do (valued (alone here.line x) m) (λ v m. Goes (f v) (left v m)))
  come (trying.Gives t v) m why = ran_told p m (left v m) here
      (alone_acts m.cells t (write v) (held (left v m).cells (write v))) [] (f v) (kept v m)
  come (Fails t k) m why = fell_told p m here (fault_alone here.line k) (why_alone p m act)
      (alone_acts m.cells (front (length t) t) None None) [] [] refl why

  alone_told : (n : ℕ) (a : State → Attempt A) → ((m : State) → Explains p (a m) (why_alone p m act)) → (m : State) →
      IsTold p m (told p (alone_moment n here act write left a m))
      (then_do (evaluated n here.line a m) (λ v m. Goes (f v) (left v m)))
  alone_told n a why m =
      let told_there : State → List Moment = λ m. Alone here act m (writing write (a m)) (left_by left (a m) m) ∷ [] in
      let goes : A → State → Behaviour B = λ v m. Goes (f v) (left v m) in
      subst (IsTold p m (told p (alone_moment n here act write left a m)))
      (sym (then_assoc (counted n m) (λ u m. valued (alone here.line (a m)) m) goes))
      (told_then p m [] (counted n m) (λ u. told_there) (λ u m. then_do (valued (alone here.line (a m)) m) goes) (counted_told p n m)
      (λ u m. come (a m) m (why m)))

as_it_is : {A : Type 0} (a : A) (m : State) → Extends m (unchanged a m)
as_it_is a m = extends m m refl refl

-- one that only reads
evaluated_told : {A : Type 0} (p : Checked) (n : ℕ) (here : Location) (act : Action) (a : State → Attempt A) →
    ((m : State) → Explains p (a m) (why_alone p m act)) → (m : State) →
    IsTold p m (told p (alone_moment n here act nowhere unchanged a m)) (evaluated n here.line a m)
evaluated_told p n here act a why m =
    subst (IsTold p m (told p (alone_moment n here act nowhere unchanged a m))) (same_goes (evaluated n here.line a m))
    (alone_told p here act nowhere unchanged (λ v. v) as_it_is n a why m)

tested_told : (p : Checked) (n : ℕ) (here : Location) (act : Action) (e : Expression) →
    ((m : State) → Explains p (attempt (seen p m) e []) (why_alone p m act)) → (m : State) →
    IsTold p m (told p (test_moment p n here act e m)) (tested p n here.line e m)
tested_told p n here act e why m =
    alone_told p here act nowhere unchanged is_nonzero as_it_is n (λ m. attempt (seen p m) e []) why m

print_told : (p : Checked) (n : ℕ) (here : Location) (e : Expression) (m : State) →
    IsTold p m (told p (print_moment p n here e m)) (meaning.print p n here.line e m)
print_told p n here e m =
    alone_told p here (moment.Prints e) nowhere printed (λ v. done) (λ v m. record { size = refl; more = v ∷ []; output = refl }) n
    (λ m. attempt (seen p m) e []) (λ m. test_told p (seen p m) refl e []) m

write_extends : (c : Option ℕ) (v : ℤ) (m : State) → Extends m (after_write c v m)
write_extends None v m = extends m m refl refl
write_extends (Some c) v m = extends m (after_write (Some c) v m) (length-set m.cells c v) refl

assigned_extends : (x : Target) (g : Effect) (m : State) → Extends m (assigned x g m)
assigned_extends (target.Uniform x) g m = extends m (with_uniform x g.value m) refl refl
assigned_extends (target.Cell a) g m = write_extends g.cell g.value m
assigned_extends (target.Element a e) g m = write_extends g.cell g.value m

assign_told : (p : Checked) (n : ℕ) (here : Location) (x : Target) (e : Expression) (m : State) →
    IsTold p m (told p (assign_moment p n here x e m)) (meaning.assign p n here.line x e m)
assign_told p n here x e m =
    alone_told p here (moment.Assigns x e) goes_to (assigned x) (λ g. done) (assigned_extends x) n (λ m. attempt_assign (seen p m) x e)
    (λ m. Explained.assign_told p (seen p m) refl x e) m

-- ---- a statement of a set

-- the least fault, if there is one, has its cause
abbrev HasCause : Checked → StepAction → State → List Part → Option Key → Type 0
HasCause p act m xs None = ⊤
HasCause p act m xs (Some k) = IsExplained p k.kind (cause_on p m act k xs)

has_cause : (p : Checked) (m : State) (act : StepAction) (a : View → Attempt Effect) →
    ((s : View) → s.layout ≡ p.layout → Explains p (a s) (cause_in s act)) → (vs : List ℕ) (o : Option Key) →
    least (keys p.rule (parts p m a vs)) ≡ o → HasCause p act m (parts p m a vs) o
has_cause p m act a why vs None e = tt
has_cause p m act a why vs (Some k) e = SetFaults.set_told p m act a why vs k e

module _ {B : Type 0} (p : Checked) (n : ℕ) (here : Location) (act : StepAction) (left : List Part → State → State) (f : List Part → B)
    (kept : (xs : List Part) (m : State) → Extends m (left xs m)) where
  come_on : (k : Option Key) (xs : List Part) (m : State) → HasCause p act m xs k →
      IsTold p m (told p (moment.by_set here act left m xs k ∷ []))
      (then_do (valued (on_key here.line k xs) m) (λ xs m. Goes (f xs) (left xs m)))
  come_on None xs m why = ran_told p m (left xs m) here (map (act_of m.cells) xs) (locals_changed act xs m.team) (f xs) (kept xs m)
  come_on (Some k) xs m why = fell_told p m here (fault_on here.line k) (cause_on p m act k xs)
      (map (act_before m.cells k.at) xs)
      (meeting k xs) (locals_at k xs m.team) refl why

  set_told : (a : View → Attempt Effect) → ((s : View) → s.layout ≡ p.layout → Explains p (a s) (cause_in s act)) → (vs : List ℕ)
      (m : State) → IsTold p m (told p (set_moment p n here act left a vs m))
      (then_do (attempted_on p n here.line a vs m) (λ xs m. Goes (f xs) (left xs m)))
  set_told a why vs m =
      let told_there : State → List Moment =
      λ m. moment.by_set here act left m (parts p m a vs) (least (keys p.rule (parts p m a vs))) ∷ [] in
      let goes : List Part → State → Behaviour B = λ xs m. Goes (f xs) (left xs m) in
      subst (IsTold p m (told p (set_moment p n here act left a vs m)))
      (sym (then_assoc (counted n m) (λ u m. valued (together p here.line (parts p m a vs)) m) goes))
      (told_then p m [] (counted n m) (λ u. told_there) (λ u m. then_do (valued (together p here.line (parts p m a vs)) m) goes)
      (counted_told p n m)
      (λ u m. come_on (least (keys p.rule (parts p m a vs))) (parts p m a vs) m
      (has_cause p m act a why vs (least (keys p.rule (parts p m a vs))) refl)))

tested_on_told : (p : Checked) (n : ℕ) (here : Location) (act : StepAction) (e : Expression) →
    ((s : View) → s.layout ≡ p.layout → Explains p (attempt_value s e) (cause_in s act)) → (vs : List ℕ) (m : State) →
    IsTold p m (told p (set_test_moment p n here act e vs m)) (tested_on p n here.line e vs m)
tested_on_told p n here act e why vs m =
    subst (IsTold p m (told p (set_test_moment p n here act e vs m))) (same_goes (tested_on p n here.line e vs m))
    (set_told p n here act unchanged (λ xs. xs) as_it_is (λ s. attempt_value s e) why vs m)

assigned_by_extends : (p : Checked) (x : StepTarget) (xs : List Part) (m : State) → Extends m (assigned_by p x xs m)
assigned_by_extends p (inner.Local x) xs m = extends m (assigned_by p (inner.Local x) xs m) refl refl
assigned_by_extends p (inner.Cell a) xs m = extends m (assigned_by p (inner.Cell a) xs m) (length_over p.rule xs 0 m.cells) refl
assigned_by_extends p (inner.Element a e) xs m = extends m (assigned_by p (inner.Element a e) xs m) (length_over p.rule xs 0 m.cells) refl

assign_on_told : (p : Checked) (n : ℕ) (here : Location) (x : StepTarget) (e : Expression) (vs : List ℕ) (m : State) →
    IsTold p m (told p (set_assign_moment p n here x e vs m)) (assign_on p n here.line x e vs m)
assign_on_told p n here x e vs m =
    set_told p n here (AssignsOn x e) (assigned_by p x) (λ xs. done) (assigned_by_extends p x) (λ s. attempt_step s x e)
    (λ s same. member_told p s same (AssignsOn x e)) vs m

-- ---- loops and blocks inside pardo

turn_on_told : (p : Checked) (inside : List ℕ → State → List Moment) (body : List ℕ → State → Done) (rest : List ℕ → State → List Moment)
    (others : List ℕ → State → Done) → ((vs : List ℕ) (m : State) → IsTold p m (told p (inside vs m)) (body vs m)) →
    ((vs : List ℕ) (m : State) → IsTold p m (told p (rest vs m)) (others vs m)) → (us : List ℕ) (m : State) →
    IsTold p m (told p (if_any us (inside us m ++ behind (body us m) (λ w. rest us))))
    (unless_none us (Goes done m) (then_do (body us m) (λ w. others us)))
turn_on_told p inside body rest others b r [] m = none_told p m m done refl refl
turn_on_told p inside body rest others b r (u ∷ us) m =
    told_then p m (inside (u ∷ us) m) (body (u ∷ us) m) (λ w. rest (u ∷ us)) (λ w. others (u ∷ us)) (b (u ∷ us) m)
    (λ w m. r (u ∷ us) m)

turns_on_told : (p : Checked) (k : ℕ) (head : List ℕ → State → List Moment) (test : List ℕ → State → Behaviour (List Part))
    (inside : List ℕ → State → List Moment) (body : List ℕ → State → Done) →
    ((vs : List ℕ) (m : State) → IsTold p m (told p (head vs m)) (test vs m)) →
    ((vs : List ℕ) (m : State) → IsTold p m (told p (inside vs m)) (body vs m)) → (vs : List ℕ) (m : State) →
    IsTold p m (told p (turns_on_moments k head test inside body vs m)) (turns_on k test body vs m)
turns_on_told p zero head test inside body t b vs m = wait_told m
turns_on_told p (suc k) head test inside body t b vs m =
    told_then p m (head vs m) (test vs m)
    (λ xs m. if_any (those true xs) (inside (those true xs) m
    ++ behind (body (those true xs) m) (λ u. turns_on_moments k head test inside body (those true xs))))
    (λ xs m. unless_none (those true xs) (Goes done m) (then_do (body (those true xs) m) (λ u. turns_on k test body (those true xs))))
    (t vs m) (λ xs m. turn_on_told p inside body (turns_on_moments k head test inside body) (turns_on k test body) b
    (λ us m. turns_on_told p k head test inside body t b us m) (those true xs) m)

module _ (p : Checked) (n : ℕ) where
  mutual
    inner_told : (s : Step) (vs : List ℕ) (m : State) → IsTold p m (told p (inner_moments p n s vs m)) (perform_on p n s vs m)
    inner_told (step.Assign here x e) vs m = assign_on_told p n here x e vs m
    inner_told (step.If' here e q a r b) vs m =
        told_then p m (set_test_moment p n here (ChoosesOn e) e vs m) (tested_on p n here.line e vs m)
        (λ xs m. inner_row_moments p n a (those true xs) m
        ++ behind (perform_row_on p n a (those true xs) m) (λ u. inner_row_moments p n b (those false xs)))
        (λ xs m. then_do (perform_row_on p n a (those true xs) m) (λ u. perform_row_on p n b (those false xs)))
        (tested_on_told p n here (ChoosesOn e) e (λ s same. member_told p s same (ChoosesOn e)) vs m)
        (λ xs m. told_then p m (inner_row_moments p n a (those true xs) m) (perform_row_on p n a (those true xs) m)
        (λ u. inner_row_moments p n b (those false xs)) (λ u. perform_row_on p n b (those false xs))
        (inner_row_told a (those true xs) m) (λ u m. inner_row_told b (those false xs) m))
    inner_told (step.While' here e q body) vs m =
        turns_on_told p (n + 1) (set_test_moment p n here (TurnsOn e) e) (tested_on p n here.line e) (inner_row_moments p n body)
        (perform_row_on p n body) (λ vs m. tested_on_told p n here (TurnsOn e) e (λ s same. member_told p s same (TurnsOn e)) vs m)
        (λ vs m. inner_row_told body vs m) vs m

    inner_row_told : {k : _} (ss : Row_of-Step k) (vs : List ℕ) (m : State) →
        IsTold p m (told p (inner_row_moments p n ss vs m)) (perform_row_on p n ss vs m)
    inner_row_told end_of-Step vs m = none_told p m m done refl refl
    inner_row_told (more_of-Step s ss) vs m =
        told_then p m (inner_moments p n s vs m) (perform_on p n s vs m) (λ u. inner_row_moments p n ss vs)
        (λ u. perform_row_on p n ss vs) (inner_told s vs m) (λ u m. inner_row_told ss vs m)

  inner_list_told : (ss : List Step) (vs : List ℕ) (m : State) →
      IsTold p m (told p (inner_list_moments p n ss vs m)) (perform_list_on p n ss vs m)
  inner_list_told [] vs m = none_told p m m done refl refl
  inner_list_told (s ∷ ss) vs m =
      told_then p m (inner_moments p n s vs m) (perform_on p n s vs m) (λ u. inner_list_moments p n ss vs)
      (λ u. perform_list_on p n ss vs) (inner_told s vs m) (λ u m. inner_list_told ss vs m)

-- ---- loops and blocks outside pardo

either : (p : Checked) (z : Bool) (m : State) (xs ys : List Moment) (a b : Done) → IsTold p m (told p xs) a → IsTold p m (told p ys) b →
    IsTold p m (told p (if z then xs else ys)) (if z then a else b)
either p true m xs ys a b h g = h
either p false m xs ys a b h g = g

turns_told : (p : Checked) (k : ℕ) (head : State → List Moment) (test : State → Behaviour Bool) (inside : State → List Moment)
    (body : State → Done) →
    ((m : State) → IsTold p m (told p (head m)) (test m)) → ((m : State) → IsTold p m (told p (inside m)) (body m)) → (m : State) →
    IsTold p m (told p (turns_moments k head test inside body m)) (turns k test body m)
turns_told p zero head test inside body t b m = wait_told m
turns_told p (suc k) head test inside body t b m =
    told_then p m (head m) (test m)
    (λ z m. if z then inside m ++ behind (body m) (λ u. turns_moments k head test inside body) else [])
    (λ z m. if z then then_do (body m) (λ u. turns k test body) else Goes done m) (t m)
    (λ z m. either p z m (inside m ++ behind (body m) (λ u. turns_moments k head test inside body)) []
    (then_do (body m) (λ u. turns k test body)) (Goes done m)
    (told_then p m (inside m) (body m) (λ u. turns_moments k head test inside body) (λ u. turns k test body) (b m)
    (λ u m. turns_told p k head test inside body t b m))
    (none_told p m m done refl refl))

-- the setting of a `for`'s variable
abbrev setting : ℕ → ℕ → ℤ → State → Done
setting n x a m = then_do (counted n m) (λ u m. Goes done (with_uniform x a m))

setting_told : (p : Checked) (n : ℕ) (here : Location) (x : ℕ) (a : ℤ) (m : State) →
    IsTold p m (told p (setting_moment n here x a m)) (setting n x a m)
setting_told p n here x a m =
    told_then p m [] (counted n m) (λ u m. Alone here (Sets x) m (trying.Gives [] None) (with_uniform x a m) ∷ [])
    (λ u m. Goes done (with_uniform x a m)) (counted_told p n m)
    (λ u m. ran_told p m (with_uniform x a m) here (alone_acts m.cells [] None None) [] done (extends m (with_uniform x a m) refl refl))

-- what follows the count of a setting follows the setting
set_then : (p : Checked) (x : ℕ) (a : ℤ) (m : State) (xs : List Moment) (b : Done) (f : State → List Moment) (g : State → Done) →
    IsTold p m (told p (xs ++ behind (then_do b (λ u m. Goes done (with_uniform x a m))) (λ u. f)))
    (then_do (then_do b (λ u m. Goes done (with_uniform x a m))) (λ u. g)) →
    IsTold p m (told p (xs ++ behind b (λ u m. f (with_uniform x a m)))) (then_do b (λ u m. g (with_uniform x a m)))
set_then p x a m xs (Goes u new) f g s = s
set_then p x a m xs (Stops k out) f g s = s
set_then p x a m xs (Reaches out) f g s = s

for_told : (p : Checked) (n : ℕ) (here : Location) (k x : ℕ) (a : ℤ) (inside : State → List Moment) (body : State → Done) →
    ((m : State) → IsTold p m (told p (inside m)) (body m)) → (m : State) →
    IsTold p m (told p (for_turns_moments n here k x a inside body m)) (for_turns n k x a body m)
for_told p n here zero x a inside body b m = none_told p m m done refl refl
for_told p n here (suc k) x a inside body b m =
    let later : State → List Moment = for_turns_moments n here k x (a +ℤ pos 1) inside body in
    let last : State → Done = for_turns n k x (a +ℤ pos 1) body in
    let rest : State → List Moment = λ m. closing (inside m) ++ behind (body m) (λ u. later) in
    let others : State → Done = λ m. then_do (body m) (λ u. last) in
    set_then p x a m (setting_moment n here x a m) (counted n m) rest others
    (told_then p m (setting_moment n here x a m) (setting n x a m) (λ u. rest) (λ u. others) (setting_told p n here x a m)
    (λ u m. told_then p m (closing (inside m)) (body m) (λ u. later) (λ u. last) (closing_told p m (inside m) (body m) (b m))
    (λ u m. for_told p n here k x (a +ℤ pos 1) inside body b m)))

-- ---- all statements

module _ (p : Checked) (n : ℕ) where
  pardo_told : (locals : ℕ) (body : List Step) (a : ℤ) (k : ℕ) (m : State) →
      IsTold p m (told p (inner_list_moments p n body (numbers 0 k) (with_team a k locals m))) (pardo_done p n locals body a k m)
  pardo_told locals body a k m =
      let start = with_team a k locals m in
      let ms = inner_list_moments p n body (numbers 0 k) start in
      told_map p m (told p ms) (perform_list_on p n body (numbers 0 k) start) (λ u m. done) (λ u m. without_team m)
      (told_from p m start ms (perform_list_on p n body (numbers 0 k) start) refl refl (inner_list_told p n body (numbers 0 k) start))
      (λ u m. refl) (λ u m. refl)

  mutual
    statement_told : (s : Statement) (m : State) → IsTold p m (told p (moments p n s m)) (perform p n s m)
    statement_told (Assign here x e) m = assign_told p n here x e m
    statement_told (Print here e) m = print_told p n here e m
    statement_told (While' here e q body) m =
        turns_told p (n + 1) (test_moment p n here (moment.Turns e) e) (tested p n here.line e) (row_moments p n body)
        (perform_row p n body)
        (λ m. tested_told p n here (moment.Turns e) e (λ m. test_told p (seen p m) refl e []) m) (λ m. row_told body m) m
    statement_told (If' here e q a r b) m =
        told_then p m (test_moment p n here (moment.Chooses e) e m) (tested p n here.line e m)
        (λ z m. closing (if z then row_moments p n a m else row_moments p n b m))
        (λ z m. if z then perform_row p n a m else perform_row p n b m)
        (tested_told p n here (moment.Chooses e) e (λ m. test_told p (seen p m) refl e []) m)
        (λ z m. closing_told p m (if z then row_moments p n a m else row_moments p n b m)
        (if z then perform_row p n a m else perform_row p n b m)
        (either p z m (row_moments p n a m) (row_moments p n b m) (perform_row p n a m) (perform_row p n b m)
        (row_told a m) (row_told b m)))
    statement_told (For' here x e f q body) m =
        told_then p m (bounds_moment p n here e f m)
        (evaluated n here.line (λ m. attempt_bounds (seen p m) e f) m)
        (λ r. for_turns_moments n here (width r.0 r.1) x r.0 (row_moments p n body) (perform_row p n body))
        (λ r. for_turns n (width r.0 r.1) x r.0 (perform_row p n body))
        (evaluated_told p n here (Bounds e f) (λ m. attempt_bounds (seen p m) e f) (λ m. bounds_told p (seen p m) refl e f) m)
        (λ r m. for_told p n here (width r.0 r.1) x r.0 (row_moments p n body) (perform_row p n body) (λ m. row_told body m) m)
    statement_told (Pardo here e f locals body) m =
        told_then p m (range_moment p n here e f m)
        (evaluated n here.line (λ m. attempt_range p.procs (seen p m) e f) m)
        (λ r m. inner_list_moments p n body.items (numbers 0 r.1) (with_team r.0 r.1 locals m))
        (λ r. pardo_done p n locals body.items r.0 r.1)
        (evaluated_told p n here (Ranges e f) (λ m. attempt_range p.procs (seen p m) e f) (λ m. range_told p (seen p m) refl e f) m)
        (λ r m. pardo_told locals body.items r.0 r.1 m)

    row_told : {k : _} (ss : Row_of-Statement k) (m : State) → IsTold p m (told p (row_moments p n ss m)) (perform_row p n ss m)
    row_told end_of-Statement m = none_told p m m done refl refl
    row_told (more_of-Statement s ss) m =
        told_then p m (moments p n s m) (perform p n s m) (λ u. row_moments p n ss) (λ u. perform_row p n ss) (statement_told s m)
        (λ u m. row_told ss m)

  pub list_told : (ss : List Statement) (m : State) → IsTold p m (told p (list_moments p n ss m)) (perform_list p n ss m)
  list_told [] m = none_told p m m done refl refl
  list_told (s ∷ ss) m =
      told_then p m (moments p n s m) (perform p n s m) (λ u. list_moments p n ss) (λ u. perform_list p n ss) (statement_told s m)
      (λ u m. list_told ss m)
