-- Runs keep to values of 64 bits.
use Rattle.std.proofs.Common.{if◌then◌else◌}
use Rattle.std.proofs.Common.{ℕ, zero, suc, ◌+◌, ◌-◌, List, [], ◌∷◌, Bool, true, false, Result, Ok, Err, ℤ, pos, ◌+ℤ◌, sym}
use Rattle.std.proofs.Common.{subst, Option, Some, None, replicate, length, nat_lt, nat_eq}
use Rattle.std.specs.List.{AllByRecursion}
use Rattle.pram_model.specs.declared.rule.Rule.{Rule}
use Rattle.pram_model.specs.Layout.{total_size, width}
use Rattle.pram_check.specs.Bounded as bounded
use Rattle.pram_check.specs.Bounded.{ArePartStatements, ArePartSteps, AreStatements, AreSteps}
use Rattle.pram_check.specs.Bounded.{IsNamed, IsStatement, IsStep, Names, with_locals}
use Rattle.pram_check.specs.Checked.{Checked}
use Rattle.pram_names.specs.declared.body.Expression.{Expression}
use Rattle.pram_names.specs.declared.body.Statement.{Assign, For', If', Pardo, Print, Row_of-Statement, Statement, While', end_of-Statement}
use Rattle.pram_names.specs.declared.body.Statement.{more_of-Statement}
use Rattle.pram_names.specs.declared.body.Step.{Row_of-Step, Step, end_of-Step, more_of-Step}
use Rattle.pram_names.specs.declared.body.Step as step
use Rattle.pram_names.specs.declared.body.StepTarget.{StepTarget}
use Rattle.pram_names.specs.declared.body.StepTarget.TheVariants as inner
use Rattle.pram_names.specs.declared.body.Target.{Target}
use Rattle.pram_names.specs.declared.body.Target.TheVariants as target
use Rattle.pram_values.specs.Truth.{is_nonzero}
use Rattle.pram_values.specs.Value.{Value}
use Rattle.write_rules.specs.declared.fault.Fault.{Fault}
use Rattle.write_rules.specs.Rule.{written}
use Rattle.pram_meaning.specs.declared.key.Key.{Key}
use Rattle.pram_meaning.specs.Attempt.{Attempt, Effect, Fails, Gives, attempt, attempt_assign, attempt_bounds}
use Rattle.pram_meaning.specs.Attempt.{attempt_range, attempt_step, attempt_value}
use Rattle.pram_meaning.specs.Bounded.{Behaviour, Done, Goes, Reaches, Stops, attempted_on, counted, evaluated, for_turns, found}
use Rattle.pram_meaning.specs.Bounded.{pardo_done, perform, perform_list, perform_list_on, perform_on, perform_row, perform_row_on, tested}
use Rattle.pram_meaning.specs.Bounded.{tested_on, then_do, turns, turns_on, unless_none, valued}
use Rattle.pram_meaning.specs.Computed.{body_done, verdict_at}
use Rattle.pram_meaning.specs.Conflict.{Part, keys, least, write_to, writes_by, writes_to}
use Rattle.pram_meaning.specs.Outcome.{opening}
use Rattle.pram_meaning.specs.Store.{Member, State, View, member_of, members, numbers, printed, seen, seen_by, with_local, with_team}
use Rattle.pram_meaning.specs.Store.{with_uniform, without_team}
use Rattle.pram_meaning.specs.Together.{after_write, alone, assigned, assigned_by, on_key, overwritten, parts, settled, those, together}
use Rattle.pram_meaning.specs.Together.{value_in, with_locals as with_written}
use Rattle.pram_meaning.specs.Values.{AreValues, ComesToValues, HasValues, IsMember, IsOfValues, IsValue, OutcomesHaveValues}
use Rattle.pram_meaning.specs.Values.{StatementsKeepValues, StepsKeepValues}
use Rattle.pram_meaning.proofs.OneOutcome.{outcome_is_computed}
use Rattle.pram_meaning.proofs.SoundValues.{AreNumbers, IsSound, WritesValue, all_append, all_set, numbers_first}
use Rattle.pram_meaning.proofs.SoundValues.{numbers_rest, written_sound, zero_is, zeros_are}
use Rattle.pram_meaning.proofs.ValuesOfAttempts.{IfGives, SeesValues, attempt_gives, value_gives, assign_gives, step_gives, bounds_give}
use Rattle.pram_meaning.proofs.ValuesOfAttempts.{range_gives}

-- ---- runs

-- what a run goes on with, in a state of values; and its output where it stops
abbrev IfGoes : {A : Type 0} → (A → Type 0) → Behaviour A → Type 0
IfGoes P (Goes a m) = P a × HasValues m
IfGoes P (Stops k out) = AreValues out
IfGoes P (Reaches out) = AreValues out

abbrev IsDone : Unit {0} → Type 0
IsDone u = Unit {0}

goes_then : {A B : Type 0} (P : A → Type 0) (Q : B → Type 0) (b : Behaviour A) (f : A → State → Behaviour B) → IfGoes P b →
    ((a : A) (m : State) → P a → HasValues m → IfGoes Q (f a m)) →
    IfGoes Q (then_do b f)
goes_then P Q (Goes a m) f h g = g a m h.0 h.1
goes_then P Q (Stops k out) f h g = h
goes_then P Q (Reaches out) f h g = h

counted_goes : (n : ℕ) (m : State) → HasValues m → IfGoes IsDone (counted n m)
counted_goes n m h = by (nat_lt m.count n)
  where
    by : (b : Bool) → IfGoes IsDone (if b then Goes tt (record m { count = m.count + 1 }) else Reaches m.output)
    by true = (tt, record { output = h.output; uniforms = h.uniforms; cells = h.cells; team = h.team })
    by false = h.output

abbrev IfOkay : {A : Type 0} → (A → Type 0) → Result A Fault → Type 0
IfOkay P (Ok a) = P a
IfOkay P (Err k) = Unit {0}

valued_goes : {A : Type 0} (P : A → Type 0) (r : Result A Fault) (m : State) → IfOkay P r → HasValues m → IfGoes P (valued r m)
valued_goes P (Ok a) m h g = (h, g)
valued_goes P (Err k) m h g = g.output

alone_okay : {A : Type 0} (P : A → Type 0) (line : ℕ) (a : Attempt A) → IfGives P a → IfOkay P (alone line a)
alone_okay P line (Gives t a) h = h
alone_okay P line (Fails t k) h = tt

evaluated_goes : {A : Type 0} (P : A → Type 0) (n line : ℕ) (a : State → Attempt A) (m : State) → HasValues m →
    ((m : State) → HasValues m → IfGives P (a m)) → IfGoes P (evaluated n line a m)
evaluated_goes P n line a m h g =
    goes_then IsDone P (counted n m) (λ u m. valued (alone line (a m)) m) (counted_goes n m h)
    (λ u m i j. valued_goes P (alone line (a m)) m (alone_okay P line (a m) (g m j)) j)

abbrev pub IsAny : {A : Type 0} → A → Type 0
IsAny a = Unit {0}

turns_goes : (k : ℕ) (test : State → Behaviour Bool) (body : State → Done) → ((m : State) → HasValues m → IfGoes IsAny (test m)) →
    ((m : State) → HasValues m → IfGoes IsDone (body m)) →
    (m : State) → HasValues m → IfGoes IsDone (turns k test body m)
turns_goes zero test body t b m h = h.output
turns_goes (suc k) test body t b m h =
    goes_then IsAny IsDone (test m) (λ z m. if z then then_do (body m) (λ u. turns k test body) else Goes tt m) (t m h)
    (λ z m i j. one z m j (b m j) (λ m g. turns_goes k test body t b m g))
  where
    one : (z : Bool) (m : State) → HasValues m → IfGoes IsDone (body m) →
        ((m : State) → HasValues m → IfGoes IsDone (turns k test body m)) →
        IfGoes IsDone (if z then then_do (body m) (λ u. turns k test body) else Goes tt m)
    one true m j g more = goes_then IsDone IsDone (body m) (λ u. turns k test body) g (λ u m p q. more m q)
    one false m j g more = (tt, j)

with_uniform_has : (x : ℕ) (v : ℤ) (m : State) → IsValue v → HasValues m → HasValues (with_uniform x v m)
with_uniform_has x v m g h = record {
  output = h.output;
  uniforms = all_set IsValue m.uniforms x v h.uniforms g;
  cells = h.cells;
  team =
      h.team;
}

for_goes : (n k x : ℕ) (a : ℤ) (body : State → Done) → AreNumbers a k → ((m : State) → HasValues m → IfGoes IsDone (body m)) →
    (m : State) → HasValues m → IfGoes IsDone (for_turns n k x a body m)
for_goes n zero x a body all b m h = (tt, h)
for_goes n (suc k) x a body all b m h =
    goes_then IsDone IsDone (counted n m) (λ u m. then_do (body (with_uniform x a m)) (λ u. for_turns n k x (a +ℤ pos 1) body))
    (counted_goes n m h)
    (λ u m i j. goes_then IsDone IsDone (body (with_uniform x a m)) (λ u. for_turns n k x (a +ℤ pos 1) body)
    (b (with_uniform x a m) (with_uniform_has x a m (numbers_first a k all) j))
    (λ u m p q. for_goes n k x (a +ℤ pos 1) body (numbers_rest a k all) b m q))

-- ---- a set of processors

abbrev IsPart : Part → Type 0
IsPart x = IfGives (λ g. IsValue g.value) x.attempt

member_is : (team : List Member) (v : ℕ) → AllByRecursion IsMember team → IsMember (member_of team v)
member_is [] v h = record { index = zero_is; locals = tt }
member_is (g ∷ team) zero h = h.0
member_is (g ∷ team) (suc v) h = member_is team v h.1

sees_one : (p : Checked) (m : State) → HasValues m → SeesValues (seen p m)
sees_one p m h = record { uniforms = h.uniforms; cells = h.cells; index = zero_is; locals = tt }

sees_by : (p : Checked) (m : State) (v : ℕ) → HasValues m → SeesValues (seen_by p m v)
sees_by p m v h = let g = member_is m.team v h.team in record { uniforms = h.uniforms; cells = h.cells; index = g.index; locals = g.locals }

parts_are : (p : Checked) (m : State) (a : View → Attempt Effect) (vs : List ℕ) →
    ((v : ℕ) → IfGives (λ g. IsValue g.value) (a (seen_by p m v))) → AllByRecursion IsPart (parts p m a vs)
parts_are p m a [] h = tt
parts_are p m a (v ∷ vs) h = (h v, parts_are p m a vs h)

together_okay : (p : Checked) (line : ℕ) (xs : List Part) → AllByRecursion IsPart xs → IfOkay (AllByRecursion IsPart) (together p line xs)
together_okay p line xs h = by (least (keys p.rule xs))
  where
    by : (o : Option Key) → IfOkay (AllByRecursion IsPart) (on_key line o xs)
    by (Some k) = tt
    by None = h

attempted_goes : (p : Checked) (n line : ℕ) (a : View → Attempt Effect) (vs : List ℕ) (m : State) → HasValues m →
    ((s : View) → SeesValues s → IfGives (λ g. IsValue g.value) (a s)) → IfGoes (AllByRecursion IsPart) (attempted_on p n line a vs m)
attempted_goes p n line a vs m h g =
    goes_then IsDone (AllByRecursion IsPart) (counted n m) (λ u m. valued (together p line (parts p m a vs)) m) (counted_goes n m h)
    (λ u m i j. valued_goes (AllByRecursion IsPart) (together p line (parts p m a vs)) m
    (together_okay p line (parts p m a vs) (parts_are p m a vs (λ v. g (seen_by p m v) (sees_by p m v j)))) j)

value_in_is : (a : Attempt Effect) → IfGives (λ g. IsValue g.value) a → IsValue (value_in a)
value_in_is (Gives t x) h = h
value_in_is (Fails t k) h = zero_is

locals_kept : (x : ℕ) (xs : List Part) (team : List Member) → AllByRecursion IsPart xs → AllByRecursion IsMember team →
    AllByRecursion IsMember (with_written x xs team)
locals_kept x [] team h g = g
locals_kept x (y ∷ xs) team h g =
    locals_kept x xs (with_local x y.member (value_in y.attempt) team) h.1
    (
    let k = member_is team y.member g in
    all_set IsMember team y.member _ g (record {
      index = k.index;
      locals = all_set IsValue (member_of team y.member).locals x
          (value_in y.attempt) k.locals (value_in_is y.attempt h.0);
    })
    )

writes_are : (c : ℕ) (xs : List Part) → AllByRecursion IsPart xs → AllByRecursion WritesValue (writes_to c xs)
writes_are c [] h = tt
writes_are c (x ∷ xs) h = all_append WritesValue (writes_by c x.processor x.attempt) (writes_to c xs) (one x.attempt h.0)
    (writes_are c xs h.1)
  where
    to : (o : Option ℕ) (v : ℤ) → IsValue v → AllByRecursion WritesValue (write_to c x.processor o v)
    to None v g = tt
    to (Some d) v g = by (nat_eq c d)
      where
        by : (b : Bool) → AllByRecursion WritesValue (if b then record { processor = x.processor; value = v } ∷ [] else [])
        by true = (g, tt)
        by false = tt

    one : (a : Attempt Effect) → IfGives (λ g. IsValue g.value) a → AllByRecursion WritesValue (writes_by c x.processor a)
    one (Gives t y) g = to y.cell y.value g
    one (Fails t k) g = tt

settled_is : (old : ℤ) (v : Value) → IsValue old → IsSound v → IsValue (settled old v)
settled_is old (Ok v) h g = g
settled_is old (Err k) h g = h

overwritten_are : (rule : Rule) (xs : List Part) (c : ℕ) (cells : List ℤ) → AllByRecursion IsPart xs → AreValues cells →
    AreValues (overwritten rule xs c cells)
overwritten_are rule xs c [] h g = tt
overwritten_are rule xs c (old ∷ cells) h g = (
  settled_is old (written rule old (writes_to c xs)) g.0 (written_sound rule old (writes_to c xs) g.0 (writes_are c xs h)),
  overwritten_are rule xs (c + 1) cells h g.1,
)

assigned_by_has : (p : Checked) (x : StepTarget) (xs : List Part) (m : State) → AllByRecursion IsPart xs → HasValues m →
    HasValues (assigned_by p x xs m)
assigned_by_has p (inner.Local x) xs m h g = record {
  output = g.output;
  uniforms = g.uniforms;
  cells = g.cells;
  team =
      locals_kept x xs m.team h g.team;
}
assigned_by_has p (inner.Cell a) xs m h g = record {
  output = g.output;
  uniforms = g.uniforms;
  cells =
      overwritten_are p.rule xs 0 m.cells h g.cells;
  team = g.team;
}
assigned_by_has p (inner.Element a e) xs m h g = record {
  output = g.output;
  uniforms = g.uniforms;
  cells =
      overwritten_are p.rule xs 0 m.cells h g.cells;
  team = g.team;
}

unless_goes : (us : List ℕ) (b c : Done) → IfGoes IsDone b → IfGoes IsDone c → IfGoes IsDone (unless_none us b c)
unless_goes [] b c h g = h
unless_goes (u ∷ us) b c h g = g

turns_on_goes : (k : ℕ) (test : List ℕ → State → Behaviour (List Part)) (body : List ℕ → State → Done) →
    ((vs : List ℕ) (m : State) → HasValues m → IfGoes (AllByRecursion IsPart) (test vs m)) →
    ((vs : List ℕ) (m : State) → HasValues m → IfGoes IsDone (body vs m)) → (vs : List ℕ) (m : State) → HasValues m →
    IfGoes IsDone (turns_on k test body vs m)
turns_on_goes zero test body t b vs m h = h.output
turns_on_goes (suc k) test body t b vs m h =
    goes_then (AllByRecursion IsPart) IsDone (test vs m) (λ xs m. unless_none (those true xs) (Goes tt m)
    (then_do (body (those true xs) m) (λ u. turns_on k test body (those true xs)))) (t vs m h)
    (λ xs m i j. unless_goes (those true xs) (Goes tt m) (then_do (body (those true xs) m) (λ u. turns_on k test body (those true xs)))
    (tt, j)
    (goes_then IsDone IsDone (body (those true xs) m) (λ u. turns_on k test body (those true xs)) (b (those true xs) m j)
    (λ u m p q. turns_on_goes k test body t b (those true xs) m q)))

module _ (p : Checked) (n : ℕ) (names : Names) where
  tested_on_goes : (line : ℕ) (e : Expression) → IsNamed names e → (vs : List ℕ) (m : State) → HasValues m →
      IfGoes (AllByRecursion IsPart) (tested_on p n line e vs m)
  tested_on_goes line e h vs m g = attempted_goes p n line (λ s. attempt_value s e) vs m g (λ s i. value_gives names s i e h)

  mutual
    perform_on_goes : (x : Step) → IsStep names x → (vs : List ℕ) (m : State) → HasValues m → IfGoes IsDone (perform_on p n x vs m)
    perform_on_goes (step.Assign here x e) h vs m g =
        goes_then (AllByRecursion IsPart) IsDone (attempted_on p n here.line (λ s. attempt_step s x e) vs m)
        (λ xs m. Goes tt (assigned_by p x xs m))
        (attempted_goes p n here.line (λ s. attempt_step s x e) vs m g (λ s i. step_gives names s i x e h))
        (λ xs m i j. (tt, assigned_by_has p x xs m i j))
    perform_on_goes (step.If' here e q a r b) h vs m g =
        goes_then (AllByRecursion IsPart) IsDone (tested_on p n here.line e vs m)
        (λ xs m. then_do (perform_row_on p n a (those true xs) m) (λ u. perform_row_on p n b (those false xs)))
        (tested_on_goes here.line e h.0.0 vs m g)
        (λ xs m i j. goes_then IsDone IsDone (perform_row_on p n a (those true xs) m) (λ u. perform_row_on p n b (those false xs))
        (row_on_goes a h.1 (those true xs) m j)
        (λ u m k l. row_on_goes b h.2 (those false xs) m l))
    perform_on_goes (step.While' here e q body) h vs m g =
        turns_on_goes (n + 1) (tested_on p n here.line e) (perform_row_on p n body) (λ vs m i. tested_on_goes here.line e h.0.0 vs m i)
        (λ vs m i. row_on_goes body h.1 vs m i) vs m g

    row_on_goes : {k : _} (xs : Row_of-Step k) → ArePartSteps names xs → (vs : List ℕ) (m : State) → HasValues m →
        IfGoes IsDone (perform_row_on p n xs vs m)
    row_on_goes end_of-Step h vs m g = (tt, g)
    row_on_goes (more_of-Step x xs) h vs m g =
        goes_then IsDone IsDone (perform_on p n x vs m) (λ u. perform_row_on p n xs vs) (perform_on_goes x h.0 vs m g)
        (λ u m i j. row_on_goes xs h.1 vs m j)

  list_on_goes : (xs : List Step) → AreSteps names xs → (vs : List ℕ) (m : State) → HasValues m →
      IfGoes IsDone (perform_list_on p n xs vs m)
  list_on_goes [] h vs m g = (tt, g)
  list_on_goes (x ∷ xs) h vs m g =
      goes_then IsDone IsDone (perform_on p n x vs m) (λ u. perform_list_on p n xs vs) (perform_on_goes x h.0 vs m g)
      (λ u m i j. list_on_goes xs h.1 vs m j)

-- ---- outside pardo

members_are : (a : ℤ) (k locals : ℕ) → AreNumbers a k → AllByRecursion IsMember (members a k locals)
members_are a zero locals all = tt
members_are a (suc k) locals all = (
  record { index = numbers_first a k all; locals = zeros_are locals },
  members_are (a +ℤ pos 1) k locals
      (numbers_rest a k all),
)

written_has : (c : Option ℕ) (v : ℤ) (m : State) → IsValue v → HasValues m → HasValues (after_write c v m)
written_has None v m i h = h
written_has (Some c) v m i h = record {
  output = h.output;
  uniforms = h.uniforms;
  cells = all_set IsValue m.cells c v h.cells i;
  team =
      h.team;
}

assigned_has : (x : Target) (g : Effect) (m : State) → IsValue g.value → HasValues m → HasValues (assigned x g m)
assigned_has (target.Uniform x) g m v h = with_uniform_has x g.value m v h
assigned_has (target.Cell a) g m v h = written_has g.cell g.value m v h
assigned_has (target.Element a e) g m v h = written_has g.cell g.value m v h

either : (z : Bool) (a b : Done) → IfGoes IsDone a → IfGoes IsDone b → IfGoes IsDone (if z then a else b)
either true a b h g = h
either false a b h g = g

module _ (p : Checked) (n : ℕ) where
  pardo_goes : (names : Names) (locals : ℕ) (body : List Step) (a : ℤ) (k : ℕ) → AreSteps names body → AreNumbers a k → (m : State) →
      HasValues m → IfGoes IsDone (pardo_done p n locals body a k m)
  pardo_goes names locals body a k h all m g =
      goes_then IsDone IsDone (perform_list_on p n body (numbers 0 k) (with_team a k locals m)) (λ u m. Goes tt (without_team m))
      (list_on_goes p n names body h (numbers 0 k) (with_team a k locals m)
      (record { output = g.output; uniforms = g.uniforms; cells = g.cells; team = members_are a k locals all }))
      (λ u m i j. (tt, record { output = j.output; uniforms = j.uniforms; cells = j.cells; team = tt }))

  module _ (names : Names) where
    found_goes : (line : ℕ) (e : Expression) → IsNamed names e → (m : State) → HasValues m → IfGoes IsValue (found p n line e m)
    found_goes line e h m g = evaluated_goes IsValue n line (λ m. attempt (seen p m) e []) m g
        (λ m i. attempt_gives names (seen p m) (sees_one p m i) e h [])

    tested_goes : (line : ℕ) (e : Expression) → IsNamed names e → (m : State) → HasValues m → IfGoes IsAny (tested p n line e m)
    tested_goes line e h m g = goes_then IsValue IsAny (found p n line e m) (λ v m. Goes (is_nonzero v) m) (found_goes line e h m g)
        (λ v m i j. (tt, j))

    mutual
      perform_goes : (x : Statement) → IsStatement names x → (m : State) → HasValues m → IfGoes IsDone (perform p n x m)
      perform_goes (Assign here x e) h m g =
          goes_then (λ g. IsValue g.value) IsDone (evaluated n here.line (λ m. attempt_assign (seen p m) x e) m)
          (λ g m. Goes tt (assigned x g m))
          (evaluated_goes (λ g. IsValue g.value) n here.line (λ m. attempt_assign (seen p m) x e) m g
          (λ m i. assign_gives names (seen p m) (sees_one p m i) x e h))
          (λ f m i j. (tt, assigned_has x f m i j))
      perform_goes (Print here e) h m g =
          goes_then IsValue IsDone (found p n here.line e m) (λ v m. Goes tt (printed v m)) (found_goes here.line e h.0 m g)
          (λ v m i j. (
            tt,
            record {
              output = all_append IsValue m.output (v ∷ []) j.output (i, tt);
              uniforms = j.uniforms;
              cells =
                  j.cells;
              team = j.team;
            },
          ))
      perform_goes (While' here e q body) h m g =
          turns_goes (n + 1) (tested p n here.line e) (perform_row p n body) (λ m i. tested_goes here.line e h.0.0 m i)
          (λ m i. row_goes body h.1 m i) m g
      perform_goes (If' here e q a r b) h m g =
          goes_then IsAny IsDone (tested p n here.line e m) (λ z m. if z then perform_row p n a m else perform_row p n b m)
          (tested_goes here.line e h.0.0 m g)
          (λ z m i j. either z (perform_row p n a m) (perform_row p n b m) (row_goes a h.1 m j) (row_goes b h.2 m j))
      perform_goes (For' here x e f q body) h m g =
          goes_then _ IsDone (evaluated n here.line (λ m. attempt_bounds (seen p m) e f) m)
          (λ r. for_turns n (width r.0 r.1) x r.0 (perform_row p n body))
          (evaluated_goes (λ (r : ℤ × ℤ). AreNumbers r.0 (width r.0 r.1)) n here.line (λ m. attempt_bounds (seen p m) e f) m g
          (λ m i. bounds_give names (seen p m) (sees_one p m i) e f h.1.0 h.1.1))
          (λ r m i j. for_goes n (width r.0 r.1) x r.0 (perform_row p n body) i (λ m k. row_goes body h.2 m k) m j)
      perform_goes (Pardo here e f locals body) h m g =
          goes_then _ IsDone (evaluated n here.line (λ m. attempt_range p.procs (seen p m) e f) m)
          (λ r. pardo_done p n locals body.items r.0 r.1)
          (evaluated_goes (λ (r : ℤ × ℕ). AreNumbers r.0 r.1) n here.line (λ m. attempt_range p.procs (seen p m) e f) m g
          (λ m i. range_gives names (seen p m) (sees_one p m i) p.procs e f h.0.0 h.0.1))
          (λ r m i j. pardo_goes (with_locals locals names) locals body.items r.0 r.1 h.1 i m j)

      row_goes : {k : _} (xs : Row_of-Statement k) → ArePartStatements names xs → (m : State) → HasValues m →
          IfGoes IsDone (perform_row p n xs m)
      row_goes end_of-Statement h m g = (tt, g)
      row_goes (more_of-Statement x xs) h m g =
          goes_then IsDone IsDone (perform p n x m) (λ u. perform_row p n xs) (perform_goes x h.0 m g) (λ u m i j. row_goes xs h.1 m j)

    list_goes : (xs : List Statement) → AreStatements names xs → (m : State) → HasValues m → IfGoes IsDone (perform_list p n xs m)
    list_goes [] h m g = (tt, g)
    list_goes (x ∷ xs) h m g = goes_then IsDone IsDone (perform p n x m) (λ u. perform_list p n xs) (perform_goes x h.0 m g)
        (λ u m i j. list_goes xs h.1 m j)

-- ---- the laws

comes : (b : Done) → IfGoes IsDone b → ComesToValues b
comes (Goes u m) h = h.1
comes (Stops k out) h = h
comes (Reaches out) h = h

pub statements_keep_values : StatementsKeepValues
statements_keep_values p n s x m h g = comes (perform p n x m) (perform_goes p n s x h m g)

pub steps_keep_values : StepsKeepValues
steps_keep_values p n s x vs m h g = comes (perform_on p n x vs m) (perform_on_goes p n s x h vs m g)

verdict_has : (b : Done) → IfGoes IsDone b → IsOfValues (verdict_at b)
verdict_has (Goes u m) h = (h.1.output, h.1.cells)
verdict_has (Stops k out) h = h
verdict_has (Reaches out) h = h

pub outcomes_have_values : OutcomesHaveValues
outcomes_have_values p input n v within values is =
    let start : HasValues (opening p input) = record {
      output = tt;
      uniforms = zeros_are p.uniforms;
      cells = all_append IsValue input (replicate (total_size p.layout - length input) (pos 0)) values
          (zeros_are (total_size p.layout - length input));
      team = tt;
    } in
    subst IsOfValues (sym ((outcome_is_computed p input n v).0 is))
    (verdict_has (body_done p input n) (list_goes p n (bounded.names_of p) p.body within.body (opening p input) start))
