-- The turns of a `while` inside pardo are followed, if its body is.
use Rattle.std.proofs.Common.{◌≡◌, ℕ, zero, suc, ◌+◌, ◌<◌, ◌≤◌, List, [], ◌∷◌, ◌++◌, length, Bool, true, false, refl, sym, ◌∙◌}
use Rattle.std.proofs.Common.{subst, arith}
use Rattle.std.proofs.Common.{length-append}
use Rattle.std.specs.Prelude.{if◌then◌else◌}
use Rattle.pram_values.specs.Truth.{is_nonzero}
use Rattle.superstep_instructions.specs.declared.instr.Instr.{Instr}
use Rattle.superstep_instructions.specs.declared.instr.Instr.TheVariants.{Mark, Unmask}
use Rattle.superstep_machine.specs.Parts.{Registers}
use Rattle.pram_names.specs.declared.body.Expression.{Expression}
use Rattle.pram_check.specs.Checked.{Checked}
use Rattle.pram_check.specs.Bounded as bounded
use Rattle.pram_check.specs.Bounded.{names_of, with_locals}
use Rattle.pram_meaning.specs.Bounded.{Behaviour, Done, Goes, then_do, tested_on, turns_on, unless_none}
use Rattle.pram_meaning.specs.Conflict.{Part}
use Rattle.pram_meaning.specs.Store.{State}
use Rattle.pram_meaning.specs.Together.{those}
use Rattle.flat_machine.specs.Flat.{Flat, after_instr}
use Rattle.flat_stretches.specs.Applied.{applied}
use Rattle.flat_stretches.specs.Along.{Run}
use Rattle.flat_stretches.specs.Frames.{Frame, present, is_some, Keeps, looping}
use Rattle.flat_stretches.specs.Tells.{IsCalm}
use Rattle.flat_stretches.proofs.Loops.{loops_close}
use Rattle.plain_form.specs.Formulas.{formula_of}
use Rattle.plain_form.specs.Registers.{behind_variables, behind_locals}
use Rattle.plain_form.specs.Shapes.{flush, sent}
use Rattle.verified_form.specs.Straight.{flagging}
use Rattle.exchange_bound.specs.Bound.{one_if}
use Rattle.exchange_bound.specs.Events.{Event, Cut, Votes, behind, begun, if_any, turns_on_events}
use Rattle.exchange_bound.specs.Spent as events
use Rattle.compiled_meaning.specs.Paid.{tests_on, testing_costs}
use Rattle.compiled_meaning.specs.Paid as paid
use Rattle.compiled_meaning.specs.Between.{IsBetween, IsRunOf}
use Rattle.compiled_meaning.specs.Follows.{Follows, HoldsBehind}
use Rattle.compiled_meaning.proofs.EachStatement.Joined.{follows_also, follows_sooner, follows_behind, follows_then, spent_behind}
use Rattle.compiled_meaning.proofs.EachStatement.Places.{jump_between, fork_between}
use Rattle.compiled_meaning.specs.Steps.{GoesWithin}
use Rattle.compiled_meaning.specs.Within.{IsWithin}
use Rattle.compiled_meaning.proofs.Inside.LoopPlaces.{LoopStands}
use Rattle.compiled_meaning.proofs.Inside.Parts.{Followed, within_seen}
use Rattle.compiled_meaning.proofs.Inside.Attempted.{one_more}
use Rattle.compiled_meaning.proofs.Inside.Flags.{flags_now, keeps_now, test_results, flags_follow}
use Rattle.compiled_meaning.proofs.Inside.Grown.{Grows, follows_grown}
use Rattle.compiled_meaning.proofs.Inside.Moves.{within_at, unmask_within, flushed_within}
use Rattle.compiled_meaning.proofs.Inside.Passed.{goes_from}

-- ---- whether there is anybody

if_some : (vs : List ℕ) (es : List Event) → is_some vs ≡ true → es ≡ if_any vs es
if_some [] es e = cc
if_some (v ∷ vs) es e = refl

unless_some : (vs : List ℕ) (a b : Done) → is_some vs ≡ true → b ≡ unless_none vs a b
unless_some [] a b e = cc
unless_some (v ∷ vs) a b e = refl

nobody : (vs : List ℕ) → is_some vs ≡ false → [] ≡ vs
nobody [] e = refl
nobody (v ∷ vs) e = cc

module _ (p : Checked) (t : Run) (of : IsRunOf p t) (locals base vote : ℕ) (free : behind_locals locals ≤ base)
    (further : behind_locals locals ≤ base + 1) (above : behind_variables p.uniforms ≤ vote) (fr : Frame) (line : ℕ) (e : Expression)
    (named : bounded.IsNamed (with_locals locals (names_of p)) e) (keep : Bool) (head : ℕ) (part : List Instr) (left : Bool)
    (st : LoopStands t head (Mark line ∷ flagging keep vote base (base + 1) (formula_of e)) vote part left)
    (body : List ℕ → State → Done) (inside : List ℕ → State → List Event) where
  abbrev stretch : List Instr
  stretch = flagging keep vote base (base + 1) (formula_of e)

  abbrev start : ℕ
  start = head + length (Mark line ∷ stretch) + 1

  abbrev end : ℕ
  end = start + length (sent part left) + 1

  abbrev test : List ℕ → State → Behaviour (List Part)
  test = tested_on p t.bound line e

  abbrev heads : List ℕ → State → List Event
  heads us m = begun t.bound m (Cut ∷ tests_on us e ∷ Cut ∷ Votes ∷ [])

  -- what the body is: followed in the frame of the loop
  pub record BodyFollows : Type 0 where
    pub follows : (registers : ℕ → Registers) (m : State) (spent : ℕ) (f : Flat) →
        IsWithin p t locals (base + 1) (looping base registers fr) false m start spent f →
        Followed p t locals (base + 1) vote (looping base registers fr) false left part start spent f
        (inside (present (looping base registers fr)) m) (body (present (looping base registers fr)) m)
    pub holds : (vs : List ℕ) (m : State) → HoldsBehind false (inside vs m) left (body vs m)
    pub grows : (vs : List ℕ) (m : State) → Grows m.count (body vs m)

  -- the turns of the loop, less than k, from its head on
  abbrev TurnsFollow : ℕ → Type 0
  TurnsFollow k = (registers : ℕ → Registers) (m : State) (before : ℕ) (virtual : Bool) (spent : ℕ) (f : Flat) → t.bound < k + m.count →
      IsWithin p t locals (base + 1) (looping base registers fr) false m head spent f → Keeps (behind_locals locals) base fr registers →
      spent ≤ before + one_if virtual →
      let es = turns_on_events k heads test body inside (present (looping base registers fr)) m in
      Follows t before virtual es (GoesWithin p t locals base vote fr false (end + 1) (before + paid.spent t es virtual) f)
      (turns_on k test body (present (looping base registers fr)) m)

  module _ (h : BodyFollows) (k : ℕ) (again : TurnsFollow k) (before : ℕ) (virtual : Bool) (f : Flat) (vs : List ℕ) where
    abbrev es : List Event
    es = Cut ∷ tests_on vs e ∷ Cut ∷ Votes ∷ []

    abbrev goes : List Event → State → Type 0
    goes ys = GoesWithin p t locals base vote fr false (end + 1) (before + paid.spent t ys virtual) f

    -- what is done in a turn by these, and behind it
    abbrev inner : List ℕ → State → List Event
    inner us m = inside us m ++ behind (body us m) (λ u now. turns_on_events k heads test body inside us now)

    abbrev does : List ℕ → State → Done
    does us m = then_do (body us m) (λ u now. turns_on k test body us now)

    module _ (m : State) (spent : ℕ) (g : Flat) (flags : ℕ → Registers) (within_bound : t.bound < k + m.count)
        (w : IsWithin p t locals (base + 1) (looping base flags fr) false m (head + length (Mark line ∷ stretch)) spent g)
        (same : (r : ℕ) → r < vote → g.uniform.registers r ≡ f.uniform.registers r) (keeps : Keeps (behind_locals locals) base fr flags)
        (few : spent ≤ before + (one_if virtual + testing_costs t vs e + 1)) where
      abbrev set : List ℕ
      set = present (looping base flags fr)

      enough : spent ≤ before + paid.spent t es virtual
      enough = go virtual few
        where
          go : (b : Bool) → spent ≤ before + (one_if b + testing_costs t vs e + 1) → spent ≤ before + paid.spent t es b
          go true l = omega (arith, l)
          go false l = omega (arith, l)

      -- nobody goes on
      ends : IsBetween t false m end spent g → Follows t before virtual (es ++ []) (goes (es ++ [])) (Goes tt m)
      ends b =
          let now = within_seen p t locals (base + 1) (looping base flags fr) false false m (head + length (Mark line ∷ stretch)) end spent
          spent g g w b refl in
          let more = enough in
          goes_from p t locals base vote fr false (end + 1) (end + 1) spent (before + paid.spent t (es ++ []) virtual) f
          (after_instr t.code Unmask g) m refl (omega (arith, more)) same
          (record {
            behind = after_instr t.code Unmask g;
            within = unmask_within p t locals (base + 1) (looping base flags fr) false m end spent g now base fr st.unmask
                (loops_close t.code (behind_locals locals) base fr flags (applied t.code g)
                (record { stands = now.stands; keeps = keeps }));
            registers = λ r l. refl;
          })

      -- somebody does: the body, the jump back, and the turns that are left
      module _ (at : IsWithin p t locals (base + 1) (looping base flags fr) false m start spent g) where
        back : (now : State) →
            GoesWithin p t locals (base + 1) vote (looping base flags fr) left (start + length part)
            (spent + paid.spent t (inside set m) false)
            g now × (m.count ≤ now.count) → events.held_behind (inside set m) false ≡ left →
            let ys = turns_on_events k heads test body inside set now in
            Follows t (before + paid.spent t es virtual + paid.spent t (inside set m) false) left ys (goes (es ++ (inside set m ++ ys)))
            (turns_on k test body set now)
        back now h e =
            let x = h.0 in
            let y = x.behind in
            let grown = h.1 in
            let count = length-append part (flush left) in
            let by = spent + paid.spent t (inside set m) false in
            let flushed = flushed_within p t locals (base + 1) (looping base flags fr) left now (start + length part) by y x.within
            st.sends in
            let z = flushed.behind in
            let placed = within_at p t locals (base + 1) (looping base flags fr) false now (start + length part + length (flush left))
            (start + length (sent part left)) (by + one_if left) (by + one_if left) z (omega (arith, count)) (omega arith) flushed.within in
            let jumped = within_seen p t locals (base + 1) (looping base flags fr) false false now (start + length (sent part left)) head
            (by + one_if left) (by + one_if left) z z placed
            (jump_between t false now (start + length (sent part left)) (by + one_if left) z placed.between head st.jump) refl in
            let more = enough in
            let ys = turns_on_events k heads test body inside set now in
            let from = before + paid.spent t es virtual + paid.spent t (inside set m) false in
            let first = spent_behind t (inside set m) ys false left e in
            let second = spent_behind t es (inside set m ++ ys) virtual false refl in
            follows_also t from left ys (GoesWithin p t locals base vote fr false (end + 1) (from + paid.spent t ys left) z)
            (goes (es ++ (inside set m ++ ys))) (turns_on k test body set now)
            (λ last u. goes_from p t locals base vote fr false (end + 1) (end + 1) (from + paid.spent t ys left)
            (before + paid.spent t (es ++ (inside set m ++ ys)) virtual) f z last refl (omega (arith, first, second))
            (λ r l. flushed.registers r ∙ x.registers r l ∙ same r l) u)
            (again flags now from left (by + one_if left) z (omega (arith, within_bound, grown)) jumped keeps (omega (arith, more)))

        turns : Follows t before virtual (es ++ inner set m) (goes (es ++ inner set m)) (does set m)
        turns =
            let more = enough in
            let P = λ (now : State). GoesWithin p t locals (base + 1) vote (looping base flags fr) left (start + length part)
            (spent + paid.spent t (inside set m) false) g now in
            let first = h.follows flags m spent g at in
            let sooner = follows_sooner t spent (before + paid.spent t es virtual) false false (inside set m) (inside set m) P (body set m)
            (omega (arith, more)) first in
            follows_behind t before virtual false es (inner set m) (goes (es ++ inner set m)) (does set m) refl
            (follows_then t (before + paid.spent t es virtual) false left (inside set m)
            (λ now. turns_on_events k heads test body inside set now) (λ now. P now × (m.count ≤ now.count)) (λ ys. goes (es ++ ys))
            (body set m) (λ now. turns_on k test body set now)
            (follows_grown t (before + paid.spent t es virtual) false (inside set m) P m.count (body set m) sooner (h.grows set m))
            (h.holds set m) back)

      -- behind the test
      by_vote : (b : Bool) → is_nonzero (g.uniform.registers vote) ≡ b → b ≡ is_some set →
          Follows t before virtual (es ++ if_any set (inner set m)) (goes (es ++ if_any set (inner set m)))
          (unless_none set (Goes tt m) (does set m))
      by_vote true a s =
          let fork = fork_between t false m (head + length (Mark line ∷ stretch)) spent g w.between vote end st.fork in
          let at = within_seen p t locals (base + 1) (looping base flags fr) false false m (head + length (Mark line ∷ stretch)) start spent
          spent g g w (subst (λ x. IsBetween t false m (if x then start else end) spent g) a fork) refl in
          subst (λ ys. Follows t before virtual (es ++ ys) (goes (es ++ ys)) (unless_none set (Goes tt m) (does set m)))
          (if_some set (inner set m) (sym s))
          (subst (Follows t before virtual (es ++ inner set m) (goes (es ++ inner set m)))
          (unless_some set (Goes tt m) (does set m) (sym s))
          (turns at))
      by_vote false a s =
          let fork = fork_between t false m (head + length (Mark line ∷ stretch)) spent g w.between vote end st.fork in
          subst (λ us. Follows t before virtual (es ++ if_any us (inner us m)) (goes (es ++ if_any us (inner us m)))
          (unless_none us (Goes tt m) (does us m))) (nobody set (sym s))
          (ends (subst (λ x. IsBetween t false m (if x then start else end) spent g) a fork))

  turn : BodyFollows → (k : ℕ) → TurnsFollow k → TurnsFollow (suc k)
  turn h k again registers m before virtual spent f bound w keeps few =
      let around = looping base registers fr in
      let vs = present around in
      let flags = flags_now p t of locals base vote free further above fr registers m head spent f w keeps line e named keep in
      let results = test_results p t of locals base vote free further above fr registers m head spent f w keeps line e named keep in
      let goes = λ (ys : List Event). GoesWithin p t locals base vote fr false (end + 1) (before + paid.spent t ys virtual) f in
      let inner = λ (us : List ℕ) (now : State).
      inside us now ++ behind (body us now) (λ u now. turns_on_events k heads test body inside us now) in
      let does = λ (us : List ℕ) (now : State). then_do (body us now) (λ u now. turns_on k test body us now) in
      let first = Cut ∷ tests_on vs e ∷ Cut ∷ Votes ∷ [] in
      flags_follow p t of locals base vote free further above fr registers m head spent f w keeps line e named keep before virtual
      first goes (λ xs now. unless_none (those true xs) (Goes tt now) (does (those true xs) now))
      (λ xs now. if_any (those true xs) (inner (those true xs) now)) few st.begins
      (subst (IsCalm t.code) (let n : head + length (Mark line ∷ stretch) ≡ head + 1 + length stretch = omega arith in n) st.calm)
      (λ g within same set vote_is.
      subst (λ us. Follows t before virtual (first ++ if_any us (inner us (one_more m))) (goes (first ++ if_any us (inner us (one_more m))))
      (unless_none us (Goes tt (one_more m)) (does us (one_more m)))) (sym set)
      (by_vote h k again before virtual f vs (one_more m) (spent + (testing_costs t vs e + 1)) g flags (omega (arith, bound))
      (within_at p t locals (base + 1) (looping base flags fr) false (one_more m) (head + 1 + length stretch)
      (head + length (Mark line ∷ stretch)) (spent + (testing_costs t vs e + 1)) (spent + (testing_costs t vs e + 1)) g (omega arith)
      (omega arith) within)
      same (keeps_now p t of locals base vote free further above fr registers m head spent f w keeps line e named keep)
      (omega (arith, few)) (is_nonzero (g.uniform.registers vote)) refl vote_is))

  -- as many as have begun are within the bound, so some turn is left
  none_left : TurnsFollow zero
  none_left registers m before virtual spent f bound w keeps few =
      let b = w.between in let l = b.within in absurd (omega (arith, bound, l))

  pub loop_follows : BodyFollows → (k : ℕ) → TurnsFollow k
  loop_follows h zero = none_left
  loop_follows h (suc k) = turn h k (loop_follows h k)
