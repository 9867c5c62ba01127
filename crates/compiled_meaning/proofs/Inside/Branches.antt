-- An `if` inside pardo is followed, if its parts are.
use Rattle.std.proofs.Common.{◌≡◌, ℕ, ◌+◌, ◌<◌, ◌≤◌, List, [], ◌∷◌, ◌++◌, length, Bool, true, false, not, refl, sym, ◌∙◌, subst, arith}
use Rattle.std.proofs.Common.{length-append}
use Rattle.superstep_instructions.specs.declared.instr.Instr.{Instr}
use Rattle.superstep_instructions.specs.declared.instr.Instr.TheVariants.{Mark, Unmask}
use Rattle.pram_names.specs.declared.body.Expression.{Expression}
use Rattle.pram_check.specs.Checked.{Checked}
use Rattle.pram_check.specs.Bounded as bounded
use Rattle.pram_check.specs.Bounded.{names_of, with_locals}
use Rattle.pram_meaning.specs.Bounded.{Done, then_do, tested_on}
use Rattle.pram_meaning.specs.Store.{State}
use Rattle.pram_meaning.specs.Together.{those}
use Rattle.flat_machine.specs.Flat.{Flat, after_instr}
use Rattle.flat_stretches.specs.Applied.{applied}
use Rattle.flat_stretches.specs.Along.{Run, IsAt}
use Rattle.flat_stretches.specs.Folds.{Stand}
use Rattle.flat_stretches.specs.Frames.{Frame, present, narrowed}
use Rattle.flat_stretches.specs.Tells.{IsCalm}
use Rattle.flat_stretches.proofs.Frames.{unmasks_widen}
use Rattle.plain_form.specs.Formulas.{formula_of}
use Rattle.plain_form.specs.Registers.{behind_locals}
use Rattle.plain_form.specs.Shapes.{still}
use Rattle.verified_form.specs.Straight.{masking}
use Rattle.exchange_bound.specs.Events.{Event, behind, begun, levels}
use Rattle.exchange_bound.specs.Spent as events
use Rattle.compiled_meaning.specs.Paid.{tests_on, testing_costs}
use Rattle.compiled_meaning.specs.Paid as paid
use Rattle.compiled_meaning.specs.Between.{IsRunOf}
use Rattle.compiled_meaning.specs.Follows.{Follows, HoldsBehind}
use Rattle.compiled_meaning.proofs.EachStatement.Joined.{follows_also, follows_sooner, follows_behind, follows_then, spent_behind}
use Rattle.compiled_meaning.specs.Steps.{GoesWithin}
use Rattle.compiled_meaning.specs.Within.{IsWithin}
use Rattle.compiled_meaning.proofs.Inside.Parts.{Followed}
use Rattle.compiled_meaning.proofs.Inside.Attempted.{one_more}
use Rattle.compiled_meaning.proofs.Inside.Left.{reads_send}
use Rattle.compiled_meaning.proofs.Inside.Moves.{within_at, unmask_within}
use Rattle.compiled_meaning.proofs.Inside.Passed.{goes_from}
use Rattle.compiled_meaning.proofs.Inside.Tests.{passes, test_results, test_follows}

-- what a test spends
reads_spent : (t : Run) (held : Bool) (vs : List ℕ) (e : Expression) → paid.spent t (tests_on vs e ∷ []) held ≡ testing_costs t vs e
reads_spent t true vs e = omega arith
reads_spent t false vs e = omega arith

module _ (p : Checked) (t : Run) (of : IsRunOf p t) (locals base vote : ℕ) (free : behind_locals locals ≤ base) (fr : Frame) (held : Bool)
    (line : ℕ) (e : Expression) (named : bounded.IsNamed (with_locals locals (names_of p)) e) (keep : Bool) (place : ℕ)
    (part other : List Instr) (first last : Bool) (body one : List ℕ → State → Done) (inner two : List ℕ → State → List Event) where
  abbrev some : Bool
  some = still held (formula_of e)

  abbrev test : List Instr
  test = Mark line ∷ masking keep held base (formula_of e)

  abbrev code : List Instr
  code = test ++ part ++ other ++ (Unmask ∷ [])

  -- where they stand
  pub record BranchStands : Type 0 where
    pub begins : Stand t place test
    pub unmask : IsAt t (place + length (test ++ part) + length other) Unmask
    pub calm : IsCalm t.code (place + length test)

  -- behind the second part, whose frame has one more mask
  abbrev pub GoesMasked : ℕ → Flat → State → Type 0
  GoesMasked spent f now =
      (passing : ℕ → Bool)
      × GoesWithin p t locals base vote (narrowed passing fr) last (place + length (test ++ part) + length other) spent f now

  -- what the parts are: each followed in its frame
  pub record BranchesFollow : Type 0 where
    pub then_part : (passing : ℕ → Bool) (m : State) (spent : ℕ) (f : Flat) →
        IsWithin p t locals base (narrowed passing fr) some m (place + length test) spent f →
        Followed p t locals base vote (narrowed passing fr) some first part (place + length test) spent f
        (inner (present (narrowed passing fr)) m) (body (present (narrowed passing fr)) m)
    pub holds : (vs : List ℕ) (m : State) → HoldsBehind some (inner vs m) first (body vs m)
    pub else_part : (passing : ℕ → Bool) (m : State) (spent : ℕ) (f : Flat) →
        IsWithin p t locals base (narrowed passing fr) first m (place + length (test ++ part)) spent f →
        let vs = present (narrowed (λ v. not (passing v)) fr) in
        Follows t spent first (two vs m) (GoesMasked (spent + paid.spent t (two vs m) first) f) (one vs m)

  module _ (st : BranchStands) (h : BranchesFollow) (m : State) (spent : ℕ) (f : Flat) where
    abbrev goes : List Event → State → Type 0
    goes ys = GoesWithin p t locals base vote fr last (place + length code) (spent + paid.spent t ys held) f

    abbrev run : Event
    run = tests_on (present fr) e

    -- behind the test, with those that pass and the others
    module _ (passing : ℕ → Bool) (now : State)
        (g : GoesWithin p t locals base vote (narrowed passing fr) some (place + 1 + length (masking keep held base (formula_of e)))
        (spent + testing_costs t (present fr) e) f now) where
      abbrev yes : List ℕ
      yes = present (narrowed passing fr)

      abbrev no : List ℕ
      no = present (narrowed (λ v. not (passing v)) fr)

      abbrev by : ℕ
      by = spent + testing_costs t (present fr) e

      -- the end: the masks are as before
      closes : (z : Flat) (y : State) (k : ℕ) (es : List Event) → by + paid.spent t es some ≤ k →
          ((r : ℕ) → r < vote → z.uniform.registers r ≡ f.uniform.registers r) → (fs : List Event) →
          events.held_behind es some ≡ first → GoesMasked (by + paid.spent t es some + paid.spent t fs first) z y → goes
          (run ∷ (es ++ fs)) y
      closes z y k es l same fs kept x =
          let passing = x.0 in
          let u = x.1 in
          let b = u.behind in
          let w = u.within in
          let n1 = length-append test part in
          let n2 = length-append (test ++ part) other in
          let n3 = length-append (test ++ part ++ other) (Unmask ∷ []) in
          let at = place + length (test ++ part) + length other in
          let all = by + paid.spent t es some + paid.spent t fs first in
          let s1 = spent_behind t es fs some first kept in
          let s2 = spent_behind t (run ∷ []) (es ++ fs) held some (reads_send held (levels e)) in
          let s3 = reads_spent t held (present fr) e in
          goes_from p t locals base vote fr last (at + 1) (place + length code) all
          (spent + paid.spent t (run ∷ (es ++ fs)) held) f (after_instr t.code Unmask b) y (omega (arith, n1, n2, n3))
          (omega (arith, s1, s2, s3)) (λ r q. u.registers r q ∙ same r q)
          (record {
            behind = after_instr t.code Unmask b;
            within = unmask_within p t locals base (narrowed passing fr) last y at all b w base fr st.unmask
                (unmasks_widen t.code (behind_locals locals) base passing fr (applied t.code b) w.stands);
            registers = λ r l. refl;
          })

      branches : Follows t spent held (run ∷ (inner yes now ++ behind (body yes now) (λ u y. two no y)))
          (goes (run ∷ (inner yes now ++ behind (body yes now) (λ u y. two no y)))) (then_do (body yes now) (λ u y. one no y))
      branches =
          let n1 = length-append test part in
          let cost = reads_spent t held (present fr) e in
          let b = g.behind in
          let at = within_at p t locals base (narrowed passing fr) some now (place + 1 + length (masking keep held base (formula_of e)))
          (place + length test) by by b (omega arith) (omega arith) g.within in
          let P = λ (y : State).
          GoesWithin p t locals base vote (narrowed passing fr) first (place + length test + length part)
          (by + paid.spent t (inner yes now) some) b y in
          let all = inner yes now ++ behind (body yes now) (λ u y. two no y) in
          follows_behind t spent held some (run ∷ []) all (goes (run ∷ all)) (then_do (body yes now) (λ u y. one no y))
          (reads_send held (levels e))
          (follows_then t (spent + paid.spent t (run ∷ []) held) some first (inner yes now) (λ y. two no y) P (λ ys. goes (run ∷ ys))
          (body yes now) (λ y. one no y)
          (follows_sooner t by (spent + paid.spent t (run ∷ []) held) some some (inner yes now) (inner yes now) P (body yes now)
          (omega (arith, cost)) (h.then_part passing now by b at))
          (h.holds yes now)
          (λ y x held_is.
          let z = x.behind in
          let es = inner yes now in
          let sum = by + paid.spent t es some in
          let there = within_at p t locals base (narrowed passing fr) first y (place + length test + length part)
          (place + length (test ++ part)) sum sum z (omega (arith, n1)) (omega arith) x.within in
          follows_sooner t sum (spent + paid.spent t (run ∷ []) held + paid.spent t es some) first first (two no y) (two no y)
          (goes (run ∷ (es ++ two no y))) (one no y) (omega (arith, cost))
          (follows_also t sum first (two no y) (GoesMasked (sum + paid.spent t (two no y) first) z) (goes (run ∷ (es ++ two no y)))
          (one no y)
          (λ last_state u. closes z last_state sum es (omega arith) (λ r q. x.registers r q ∙ g.registers r q) (two no y) held_is u)
          (h.else_part passing y sum z there))))

    pub branches_follow : IsWithin p t locals base fr held m place spent f →
        let all = begun t.bound m (tests_on (present fr) e ∷ []) ++ behind (tested_on p t.bound line e (present fr) m) (λ xs now.
        inner (those true xs) now ++ behind (body (those true xs) now) (λ u y. two (those false xs) y)) in
        Follows t spent held all (goes all)
        (then_do (tested_on p t.bound line e (present fr) m) (λ xs now. then_do (body (those true xs) now) (λ u y. one (those false xs) y)))
    branches_follow w =
        let passing = passes p t of locals base free fr held m place spent f w line e named keep in
        let results = test_results p t of locals base free fr held m place spent f w line e named keep in
        let now = one_more m in
        test_follows p t of locals base free fr held m place spent f w line e named keep vote goes
        (λ xs now. then_do (body (those true xs) now) (λ u y. one (those false xs) y))
        (λ xs now. inner (those true xs) now ++ behind (body (those true xs) now) (λ u y. two (those false xs) y)) st.begins
        (subst (IsCalm t.code)
        (let n : place + length test ≡ place + 1 + length (masking keep held base (formula_of e)) = omega arith in n) st.calm)
        (λ g set others.
        subst (λ us. Follows t spent held (run ∷ (inner us now ++ behind (body us now) (λ u y. two (those false results) y)))
        (goes (run ∷ (inner us now ++ behind (body us now) (λ u y. two (those false results) y))))
        (then_do (body us now) (λ u y. one (those false results) y))) (sym set)
        (subst (λ us. Follows t spent held
        (run ∷ (inner (present (narrowed passing fr)) now ++ behind (body (present (narrowed passing fr)) now) (λ u y. two us y)))
        (goes (run ∷ (inner (present (narrowed passing fr)) now ++ behind (body (present (narrowed passing fr)) now) (λ u y. two us y))))
        (then_do (body (present (narrowed passing fr)) now) (λ u y. one us y))) (sym others) (branches passing now g)))
