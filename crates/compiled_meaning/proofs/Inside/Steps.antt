-- All statements inside pardo are followed: rows of them by recursion, and the list of a body.
use Rattle.std.proofs.Common.{◌≡◌, ℕ, ◌+◌, ◌≤◌, List, [], ◌∷◌, ◌++◌, length, Bool, false, not, refl, subst, arith}
use Rattle.std.proofs.Common.{length-append}
use Rattle.superstep_instructions.specs.declared.instr.Instr.{Instr}
use Rattle.superstep_instructions.specs.declared.instr.Instr.TheVariants.{Mark, Flip, Unmask}
use Rattle.pram_names.specs.declared.body.Step as step
use Rattle.pram_names.specs.declared.body.Step.{Step, Row_of-Step, end_of-Step, more_of-Step}
use Rattle.pram_check.specs.Checked.{Checked}
use Rattle.pram_check.specs.Bounded.{IsStep, ArePartSteps, AreSteps, names_of, with_locals}
use Rattle.pram_meaning.specs.Bounded.{tested_on, perform_on, perform_row_on, perform_list_on, turns_on}
use Rattle.pram_meaning.specs.Store.{State}
use Rattle.flat_machine.specs.Flat.{Flat, after_instr}
use Rattle.flat_stretches.specs.Applied.{applied}
use Rattle.flat_stretches.specs.Along.{Run, IsAt}
use Rattle.flat_stretches.specs.Folds.{Stand}
use Rattle.flat_stretches.specs.Frames as frames
use Rattle.flat_stretches.specs.Frames.{present, narrowed, looping}
use Rattle.flat_stretches.specs.Tells.{IsCalm}
use Rattle.flat_stretches.proofs.Frames.{flips_turn}
use Rattle.flat_stretches.proofs.Joins.{stands_split}
use Rattle.plain_form.specs.Formulas.{formula_of}
use Rattle.plain_form.specs.Inside.{Frame, step_code, part_code, steps_code, step_left, part_left, steps_left, has_part}
use Rattle.plain_form.specs.Registers.{behind_variables, behind_locals}
use Rattle.plain_form.specs.Shapes.{still, sent, flipped, flagged, looped}
use Rattle.verified_form.specs.Straight.{masking, flagging}
use Rattle.verified_form.proofs.Calm.{statements_begin_calm, masks_are_calm, exits_are_calm}
use Rattle.exchange_bound.specs.Bound.{one_if}
use Rattle.exchange_bound.specs.Events.{Cut, Votes, begun, turns_on_events, step_events, step_row_events, steps_events}
use Rattle.compiled_meaning.specs.Paid.{tests_on}
use Rattle.compiled_meaning.specs.Paid as paid
use Rattle.compiled_meaning.specs.Between.{IsRunOf}
use Rattle.compiled_meaning.specs.Follows.{Follows}
use Rattle.compiled_meaning.proofs.EachStatement.Joined.{follows_also}
use Rattle.compiled_meaning.specs.Steps.{GoesWithin, StepsAreFollowed}
use Rattle.compiled_meaning.specs.Within.{IsWithin}
use Rattle.compiled_meaning.proofs.Inside.Assigns.{assign_followed}
use Rattle.compiled_meaning.proofs.Inside.Branches.{branches_follow}
use Rattle.compiled_meaning.proofs.Inside.Grown.{row_grows}
use Rattle.compiled_meaning.proofs.Inside.Left.{step_holds, row_holds, list_holds}
use Rattle.compiled_meaning.proofs.Inside.LoopPlaces.{loop_length, loop_stands}
use Rattle.compiled_meaning.proofs.Inside.Loops.{loop_follows}
use Rattle.compiled_meaning.proofs.Inside.Parts.{Followed, both_followed}
use Rattle.compiled_meaning.proofs.Inside.Moves.{within_at, flip_within, opens}
use Rattle.compiled_meaning.proofs.Inside.Passed.{goes_from}

module _ (p : Checked) (t : Run) (of : IsRunOf p t) (w : Frame) (locals : ℕ) (above : behind_variables p.uniforms ≤ w.vote) where
  -- what a statement or a part is run from
  pub record MayRun (base place : ℕ) (fr : frames.Frame) (held : Bool) (code : List Instr) (m : State) (spent : ℕ) (f : Flat) : Type 0 where
    pub free : behind_locals locals ≤ base
    pub stand : Stand t place code
    pub calm : IsCalm t.code (place + length code)
    pub within : IsWithin p t locals base fr held m place spent f

  -- the second part of an `if`: the other processors, or nothing
  abbrev GoesOther : ℕ → frames.Frame → Bool → ℕ → ℕ → Flat → State → Type 0
  GoesOther base fr left place spent f now =
      (passing : ℕ → Bool) × GoesWithin p t locals base w.vote (narrowed passing fr) left place spent f now

  -- what is to be shown of a row
  abbrev RowFollows : {j : _} → Row_of-Step j → Type 0
  RowFollows ss = (base : ℕ) (fr : frames.Frame) (held : Bool) (m : State) (place spent : ℕ) (f : Flat) →
      ArePartSteps (with_locals locals (names_of p)) ss → MayRun base place fr held (part_code w base place held ss) m spent f →
      Followed p t locals base w.vote fr held (part_left held ss) (part_code w base place held ss) place spent f
      (step_row_events p t.bound ss (present fr) m) (perform_row_on p t.bound ss (present fr) m)

  other_followed : {j : _} (ss : Row_of-Step j) → RowFollows ss → (base : ℕ) (fr : frames.Frame) (passing : ℕ → Bool) (held : Bool)
      (m : State)
      (place spent : ℕ) (f : Flat) → ArePartSteps (with_locals locals (names_of p)) ss →
      MayRun base place (narrowed passing fr) held (flipped (has_part ss) place (λ n. part_code w base n held ss)) m spent f →
      let vs = present (narrowed (λ v. not (passing v)) fr) in
      Follows t spent held (step_row_events p t.bound ss vs m)
      (GoesOther base fr (part_left held ss) (place + length (flipped (has_part ss) place (λ n. part_code w base n held ss)))
      (spent + paid.spent t (step_row_events p t.bound ss vs m) held) f) (perform_row_on p t.bound ss vs m)
  other_followed end_of-Step row_is base fr passing held m place spent f named h = (
    passing,
    record {
      behind = f;
      within = within_at p t locals base (narrowed passing fr) held m place (place + 0) spent (spent + 0) f (omega arith) (omega arith)
          h.within;
      registers = λ r l. refl;
    },
  )
  other_followed (more_of-Step s ss) row_is base fr passing held m place spent f named h =
      let others = narrowed (λ v. not (passing v)) fr in
      let row = part_code w base (place + 1) held (more_of-Step s ss) in
      let at = h.within in
      let turned = flip_within p t locals base (narrowed passing fr) held m place spent f at others h.stand.0
      (flips_turn t.code (behind_locals locals) base passing fr (applied t.code f) at.stands) in
      let g = after_instr t.code Flip f in
      let es = step_row_events p t.bound (more_of-Step s ss) (present others) m in
      follows_also t spent held es
      (GoesWithin p t locals base w.vote others (part_left held (more_of-Step s ss)) (place + 1 + length row)
      (spent + paid.spent t es held) g)
      (GoesOther base fr (part_left held (more_of-Step s ss)) (place + length (Flip ∷ row)) (spent + paid.spent t es held) f)
      (perform_row_on p t.bound (more_of-Step s ss) (present others) m)
      (λ now x. (
        λ v. not (passing v),
        goes_from p t locals base w.vote others (part_left held (more_of-Step s ss)) (place + 1 + length row) (place + length (Flip ∷ row))
            (spent + paid.spent t es held) (spent + paid.spent t es held) f g now (omega arith) (omega arith) (λ r l. refl) x,
      ))
      (row_is base others held m (place + 1) spent g named (record {
        free = h.free;
        stand = h.stand.1;
        calm = subst (IsCalm t.code) (let k : place + length (Flip ∷ row) ≡ place + 1 + length row = omega arith in k) h.calm;
        within = turned;
      }))

  mutual
    step_followed : (s : Step) (base : ℕ) (fr : frames.Frame) (held : Bool) (m : State) (place spent : ℕ) (f : Flat) →
        IsStep (with_locals locals (names_of p)) s → MayRun base place fr held (step_code w base place held s) m spent f →
        Followed p t locals base w.vote fr held (step_left held s) (step_code w base place held s) place spent f
        (step_events p t.bound s (present fr) m) (perform_on p t.bound s (present fr) m)
    step_followed (step.Assign here x e) base fr held m place spent f named h =
        assign_followed p t of locals base w.vote h.free fr held m place spent f h.within here w.keep x e named w.vote h.stand h.calm
    step_followed (step.If' here e q a r b) base fr held m place spent f named h =
        let formula = formula_of e in
        let some = still held formula in
        let first = part_left some a in
        let last = part_left first b in
        let test = Mark here.line ∷ masking w.keep held base formula in
        let part = part_code w base (place + length test) some a in
        let before = test ++ part in
        let others = λ (n : ℕ). part_code w base n first b in
        let other = flipped (has_part b) (place + length before) others in
        let begin = statements_begin_calm in
        let outer = stands_split t place (before ++ other) (Unmask ∷ []) h.stand in
        let middle = stands_split t place before other outer.0 in
        let front = stands_split t place test part middle.0 in
        let n1 = length-append test part in
        let n2 = length-append before other in
        let calm = masks_are_calm t place test part (has_part b) others h.stand (begin.inner_part t w base (place + length test) some a)
        (λ n. begin.inner_part t w base n first b) h.calm in
        branches_follow p t of locals base w.vote h.free fr held here.line e named.0.0 w.keep place part other first last
        (λ vs now. perform_row_on p t.bound a vs now) (λ vs now. perform_row_on p t.bound b vs now)
        (λ vs now. step_row_events p t.bound a vs now) (λ vs now. step_row_events p t.bound b vs now)
        (record {
          begins = front.0;
          unmask = subst (λ n. IsAt t n Unmask)
              (let k : place + length (before ++ other) ≡ place + length before + length other = omega (arith, n2) in k) outer.1.0;
          calm = calm.0;
        })
        (record {
          then_part = λ passing now by g at. row_followed a base (narrowed passing fr) some now (place + length test) by g named.1 (record {
            free = h.free;
            stand = front.1;
            calm = subst (IsCalm t.code) (let k : place + length before ≡ place + length test + length part = omega (arith, n1) in k)
                calm.1;
            within = at;
          });
          holds = λ vs now. row_holds p t.bound a some vs now;
          else_part = λ passing now by g at. other_followed b (row_followed b) base fr passing first now (place + length before) by g
              named.2 (record {
                free = h.free;
                stand = middle.1;
                calm = subst (IsCalm t.code)
                    (let k : place + length (before ++ other) ≡ place + length before + length other = omega (arith, n2) in k) calm.2;
                within = at;
              });
        }) m spent f h.within
    step_followed (step.While' here e q body) base fr held m place spent f named h =
        let formula = formula_of e in
        let left = part_left false body in
        let front = flagged held base in
        let head = place + length front in
        let test = Mark here.line ∷ flagging w.keep w.vote base (base + 1) formula in
        let start = head + length test + 1 in
        let inner = λ (n : ℕ). part_code w (base + 1) n false body in
        let part = inner start in
        let loop = looped head test w.vote (λ n. sent (inner n) left) in
        let begin = statements_begin_calm in
        let outer = stands_split t place (front ++ loop) (Unmask ∷ []) h.stand in
        let halves = stands_split t place front loop outer.0 in
        let n1 = length-append front loop in
        let n2 = length-append (front ++ loop) (Unmask ∷ []) in
        let n3 = loop_length t head here.line w.vote (flagging w.keep w.vote base (base + 1) formula) inner left in
        let last = subst (λ n. IsAt t n Unmask)
        (let k : place + length (front ++ loop) ≡ head + length loop = omega (arith, n1) in k) outer.1.0 in
        let stands = loop_stands t head here.line w.vote (flagging w.keep w.vote base (base + 1) formula) inner left halves.1 last
        (begin.inner_part t w (base + 1) start false body) (exits_are_calm t place front loop h.stand h.calm) in
        let further : behind_locals locals ≤ base + 1 = (let l = h.free in omega (arith, l)) in
        let opened = opens p t locals base h.free fr held m place spent f h.within halves.0 in
        let g = opened.behind in
        let vs = present (looping base opened.flags fr) in
        let ys = λ (us : List ℕ). turns_on_events (t.bound + 1) (λ them now. begun t.bound now (Cut ∷ tests_on them e ∷ Cut ∷ Votes ∷ []))
        (tested_on p t.bound here.line e) (λ us now. perform_row_on p t.bound body us now)
        (λ us now. step_row_events p t.bound body us now) us m in
        let d = λ (us : List ℕ). turns_on (t.bound + 1) (tested_on p t.bound here.line e)
        (λ us now. perform_row_on p t.bound body us now) us m in
        let code = step_code w base place held (step.While' here e q body) in
        subst (λ us. Follows t spent held (ys us)
        (GoesWithin p t locals base w.vote fr false (place + length code) (spent + paid.spent t (ys us) held) f) (d us)) opened.all
        (follows_also t spent held (ys vs)
        (GoesWithin p t locals base w.vote fr false (start + length (sent part left) + 1 + 1) (spent + paid.spent t (ys vs) held) g)
        (GoesWithin p t locals base w.vote fr false (place + length code) (spent + paid.spent t (ys vs) held) f) (d vs)
        (λ now x. goes_from p t locals base w.vote fr false (start + length (sent part left) + 1 + 1) (place + length code)
        (spent + paid.spent t (ys vs) held) (spent + paid.spent t (ys vs) held) f g now (omega (arith, n1, n2, n3)) (omega arith)
        (λ r l. opened.registers r) x)
        (loop_follows p t of locals base w.vote h.free further above fr here.line e named.0.0 w.keep head part left stands
        (λ us now. perform_row_on p t.bound body us now) (λ us now. step_row_events p t.bound body us now)
        (record {
          follows = λ registers now by y at. row_followed body (base + 1) (looping base registers fr) false now start by y named.1 (record {
            free = further;
            stand = stands.body;
            calm = stands.ends;
            within = at;
          });
          holds = λ us now. row_holds p t.bound body false us now;
          grows = λ us now. row_grows p t.bound body now.count us now (omega arith);
        }) (t.bound + 1) opened.flags m spent held (spent + one_if held) g (omega arith) opened.within opened.keeps (omega arith)))

    row_followed : {j : _} (ss : Row_of-Step j) → RowFollows ss
    row_followed end_of-Step base fr held m place spent f named h = record {
      behind = f;
      within = within_at p t locals base fr held m place (place + 0) spent (spent + 0) f (omega arith) (omega arith) h.within;
      registers = λ r l. refl;
    }
    row_followed (more_of-Step s ss) base fr held m place spent f named h =
        let first = step_code w base place held s in
        let between = step_left held s in
        let second = part_code w base (place + length first) between ss in
        let halves = stands_split t place first second h.stand in
        let n = length-append first second in
        let begin = statements_begin_calm in
        let rest_calm = subst (IsCalm t.code)
        (let k : place + length (first ++ second) ≡ place + length first + length second = omega (arith, n) in k) h.calm in
        both_followed p t locals base w.vote fr held between (part_left between ss) first second place spent f
        (step_events p t.bound s (present fr) m)
        (λ now. step_row_events p t.bound ss (present fr) now) (perform_on p t.bound s (present fr) m)
        (λ now. perform_row_on p t.bound ss (present fr) now)
        (step_followed s base fr held m place spent f named.0 (record {
          free = h.free;
          stand = halves.0;
          calm = begin.inner_part t w base (place + length first) between ss halves.1 rest_calm;
          within = h.within;
        }))
        (step_holds p t.bound s held (present fr) m)
        (λ now by g at. row_followed ss base fr between now (place + length first) by g named.1 (record {
          free = h.free;
          stand = halves.1;
          calm = rest_calm;
          within = at;
        }))

  -- the statements of a body
  list_followed : (ss : List Step) (base : ℕ) (fr : frames.Frame) (held : Bool) (m : State) (place spent : ℕ) (f : Flat) →
      AreSteps (with_locals locals (names_of p)) ss → MayRun base place fr held (steps_code w base place held ss) m spent f →
      Followed p t locals base w.vote fr held (steps_left held ss) (steps_code w base place held ss) place spent f
      (steps_events p t.bound ss (present fr) m) (perform_list_on p t.bound ss (present fr) m)
  list_followed [] base fr held m place spent f named h = record {
    behind = f;
    within = within_at p t locals base fr held m place (place + 0) spent (spent + 0) f (omega arith) (omega arith) h.within;
    registers = λ r l. refl;
  }
  list_followed (s ∷ ss) base fr held m place spent f named h =
      let first = step_code w base place held s in
      let between = step_left held s in
      let second = steps_code w base (place + length first) between ss in
      let halves = stands_split t place first second h.stand in
      let n = length-append first second in
      let begin = statements_begin_calm in
      let rest_calm = subst (IsCalm t.code)
      (let k : place + length (first ++ second) ≡ place + length first + length second = omega (arith, n) in k) h.calm in
      both_followed p t locals base w.vote fr held between (steps_left between ss) first second place spent f
      (step_events p t.bound s (present fr) m)
      (λ now. steps_events p t.bound ss (present fr) now) (perform_on p t.bound s (present fr) m)
      (λ now. perform_list_on p t.bound ss (present fr) now)
      (step_followed s base fr held m place spent f named.0 (record {
        free = h.free;
        stand = halves.0;
        calm = begin.steps t w base (place + length first) between ss halves.1 rest_calm;
        within = h.within;
      }))
      (step_holds p t.bound s held (present fr) m)
      (λ now by g at. list_followed ss base fr between now (place + length first) by g named.1 (record {
        free = h.free;
        stand = halves.1;
        calm = rest_calm;
        within = at;
      }))

pub steps_are_followed : StepsAreFollowed
steps_are_followed p t w locals base fr held ss m place spent f h = record {
  follows = list_followed p t h.of w locals h.vote ss base fr held m place spent f h.named
      (record { free = h.free; stand = h.stand; calm = h.calm; within = h.within });
  left = list_holds p t.bound ss held (present fr) m;
}
