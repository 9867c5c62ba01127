-- What is known of a loop, from what is known of its turns.
use Rattle.std.proofs.Common.{◌≡◌, ◌⊎◌, ◌≤◌, ◌<◌, ◌∙◌, ℕ, zero, suc, ◌+◌, ◌-◌, List, Bool, true, false, Option, Some, None, Err, ℤ}
use Rattle.std.proofs.Common.{◌++◌, [], ap, arith, if◌then◌else◌, inl, inr, refl, subst, sym}
use Rattle.std.proofs.lemmas.Bool.{cases_lt, le-ltb}
use Rattle.pram_check.specs.Checked.{Checked}
use Rattle.pram_tokens.specs.declared.token.Location.{Location}
use Rattle.pram_names.specs.declared.body.Expression.{Expression}
use Rattle.pram_names.specs.declared.body.Statement.{Statement}
use Rattle.pram_meaning.specs.Bounded.{Behaviour, Goes, Reaches, perform_list, tested}
use Rattle.pram_meaning.specs.Meaning as relation
use Rattle.pram_meaning.specs.Meaning.{Does, Ends, Evaluated, Fate, MeansList, Tested, at_fault, at_start, begins, on}
use Rattle.pram_meaning.specs.Moments.{Moment, Turns, behind, list_moments, test_moment, turns_moments}
use Rattle.pram_meaning.specs.Store.{State, no_team}
use Rattle.pram_meaning.proofs.Agree.{Loop}
use Rattle.pram_meaning.proofs.AgreeAll.{agree_list}
use Rattle.endless_runs.specs.Endless.{IsEndless, IsTestedIn}
use Rattle.endless_runs.specs.Search.{HasKept, HasShown, IsBack, IsKnown, IsStill, of_list, of_loop}
use Rattle.endless_runs.specs.declared.cycle.Cycle.{Cycle}
use Rattle.endless_runs.specs.declared.kept.Kept.{Kept}
use Rattle.endless_runs.specs.declared.stop.Stop.{Stop}
use Rattle.endless_runs.specs.declared.stop.Stop.TheVariants as stop
use Rattle.endless_runs.proofs.Alike.{blind_tested}
use Rattle.endless_runs.proofs.AlikeAll.{blind_list}
use Rattle.endless_runs.proofs.Cycles.{More, Once, Turned, Turning, endless_behind, endless_cycle, endless_turn}
use Rattle.endless_runs.proofs.Told.{Holds, IsWithin, behind_goes, counting, first_within, list_goes, shown_in, test_goes, test_is_told}
use Rattle.endless_runs.proofs.Told.{tested_within}
use Rattle.endless_runs.proofs.Walk.{sure_list, sure_tested}

no_end : {A : Type 0} (a : A) (k : State) (out : List ℤ) (x : Behaviour A) → x ≡ Goes a k → x ≡ Reaches out → ⊥
no_end a k out x e g = cc

module _ (w : Checked) (here : Location) (e : Expression) (body : List Statement) where
  abbrev Test : State → relation.Fates Bool
  Test = Tested w here.line e

  abbrev Body : State → Does
  Body = MeansList w body

  -- none or some turns
  abbrev pub Star : (from to : State) → Type 0
  Star from to = (from ≡ to) ⊎ Turning Test Body from to

  one_turn : (from now to : State) → Star from now → Turned Test Body now to → Turning Test Body from to
  one_turn from now to (inl same) t = Once (subst (λ m. Turned Test Body m to) (sym same) t)
  one_turn from now to (inr ts) t = More ts t

  -- ---- how many statements run

  -- at the bound no test begins
  none_at : (m k : State) (z : Bool) → k.count ≤ m.count → Test m (Ends z k) → ⊥
  none_at m k z low p = no_end z k m.output (tested w m.count here.line e m) (test_goes w m.count here.line e m k z p low)
      (rw (le-ltb m.count m.count (omega arith)) refl)

  test_counts : (m k : State) (z : Bool) → Test m (Ends z k) → m.count < k.count
  test_counts m k z p = elim (cases_lt m.count k.count) [ inl low ↦ low | inr high ↦ absurd (none_at m k z high p) ]

  turn_counts : (from to : State) → Turned Test Body from to → from.count < to.count
  turn_counts from to t =
      let a : from.count < t.tested.count = test_counts from t.tested true t.is_true in
      let b : t.tested.count ≤ to.count = (agree_list w to.count body).grows t.tested (Ends tt to) t.ends in
      omega (arith, a, b)

  turns_count : (from to : State) → Turning Test Body from to → from.count < to.count
  turns_count from to (Once t) = turn_counts from to t
  turns_count from to (More {now} ts t) =
      let a : from.count < now.count = turns_count from now ts in
      let b : now.count < to.count = turn_counts now to t in omega (arith, a, b)

  -- ---- the moments of the turns that are left

  abbrev told : ℕ → ℕ → State → List Moment
  told n k = turns_moments k (test_moment w n here (Turns e) e) (tested w n here.line e) (list_moments w n body) (perform_list w n body)

  -- they are moments of the whole
  record Left (n : ℕ) (all : List Moment) (now : State) : Type 0 where
    left : ℕ
    enough : n < left + now.count
    within : IsWithin (told n left now) all

  next_turn : (n k : ℕ) (from to : State) → Turned Test Body from to → to.count ≤ n → IsWithin (told n k to) (told n (suc k) from)
  next_turn n k from to t low x has =
      let b : t.tested.count ≤ to.count = (agree_list w to.count body).grows t.tested (Ends tt to) t.ends in
      behind_goes (test_moment w n here (Turns e) e from) (tested w n here.line e from)
      (λ z m. if z then list_moments w n body m ++ behind (perform_list w n body m) (λ u. told n k) else []) true t.tested
      (test_goes w n here.line e from t.tested true t.is_true (omega (arith, b, low))) x
      (behind_goes (list_moments w n body t.tested) (perform_list w n body t.tested) (λ u. told n k) tt to
      (list_goes w n body t.tested to t.ends low) x has)

  turn_left : (n : ℕ) (all : List Moment) (from to : State) → Turned Test Body from to → to.count ≤ n → Left n all from → Left n all to
  turn_left n all from to t low l = fewer l.left l.enough l.within
    where
      more : from.count < to.count
      more = turn_counts from to t

      fewer : (k : ℕ) → n < k + from.count → IsWithin (told n k from) all → Left n all to
      fewer zero enough within = absurd (let a = more in omega (arith, a, enough, low))
      fewer (suc k) enough within = record {
        left = k;
        enough = let a = more in omega (arith, a, enough);
        within = λ x has. within x (next_turn n k from to t low x has);
      }

  turns_left : (n : ℕ) (all : List Moment) (from to : State) → Turning Test Body from to → to.count ≤ n → Left n all from → Left n all to
  turns_left n all from to (Once t) low l = turn_left n all from to t low l
  turns_left n all from to (More {now} ts t) low l =
      let a : now.count < to.count = turn_counts now to t in
      turn_left n all now to t low (turns_left n all from now ts (omega (arith, a, low)) l)

  star_left : (n : ℕ) (all : List Moment) (from to : State) → Star from to → to.count ≤ n → Left n all from → Left n all to
  star_left n all from to (inl same) low l = subst (Left n all) same l
  star_left n all from to (inr ts) low l = turns_left n all from to ts low l

  -- the next test is one of them
  test_left : (n : ℕ) (all : List Moment) (now : State) → now.count < n → Left n all now → IsTestedIn all here e (counting now)
  test_left n all now low l = first l.left l.enough l.within
    where
      first : (k : ℕ) → n < k + now.count → IsWithin (told n k now) all → IsTestedIn all here e (counting now)
      first zero enough within = absurd (omega (arith, low, enough))
      first (suc k) enough within =
          tested_within (test_moment w n here (Turns e) e now) all here e (counting now)
          (λ x has. within x (first_within (test_moment w n here (Turns e) e now) _ x has)) (test_is_told w n here e now low)

  whole_left : (n : ℕ) (start : State) → Left n ((of_loop w here e body start).told n) start
  whole_left n start = record { left = n + 1; enough = omega arith; within = λ x has. has }

  -- so are those of its body
  body_left : (n : ℕ) (all : List Moment) (now at : State) → Test now (Ends true at) → at.count ≤ n → Left n all now →
      IsWithin (list_moments w n body at) all
  body_left n all now at p low l = inside l.left l.enough l.within
    where
      more : now.count < at.count
      more = test_counts now at true p

      inside : (k : ℕ) → n < k + now.count → IsWithin (told n k now) all → IsWithin (list_moments w n body at) all
      inside zero enough within = absurd (let a = more in omega (arith, a, enough, low))
      inside (suc k) enough within = λ x has. within x (behind_goes (test_moment w n here (Turns e) e now) (tested w n here.line e now)
          (λ z m. if z then list_moments w n body m ++ behind (perform_list w n body m) (λ u. told n k) else []) true at
          (test_goes w n here.line e now at true p low) x
          (first_within (list_moments w n body at) (behind (perform_list w n body at) (λ u. told n k)) x has))

  body_holds : (start now at : State) → Star start now → Test now (Ends true at) →
      Holds (of_loop w here e body start).told (of_list w body at).told
  body_holds start now at star p =
      let a : now.count < at.count = test_counts now at true p in (
        at.count,
        λ n low. body_left n ((of_loop w here e body start).told n) now at p low
            (star_left n ((of_loop w here e body start).told n) start now star (omega (arith, a, low)) (whole_left n start)),
      )

  -- ---- what is kept

  -- the state that is kept was that of the loop behind some turns, and it has made some since
  abbrev pub IsKept : Option Kept → (start now : State) → Type 0
  IsKept None start now = Unit {0}
  IsKept (Some k) start now = (s : State) × HasKept (Some k) s × (s.team ≡ no_team) × Star start s × Star s now

  -- where a loop stands that began in one state and is in another now
  pub record InLoop (start now : State) (kept : Option Kept) : Type 0 where
    pub turned : Star start now
    pub is_kept : IsKept kept start now

  pub loop_starts : (m : State) (kept : Option Kept) → kept ≡ None → InLoop m m kept
  loop_starts m kept none = record { turned = inl refl; is_kept = subst (λ k. IsKept k m m) (sym none) tt }

  kept_on : (kept : Option Kept) (start now to : State) → IsKept kept start now → Turned Test Body now to → IsKept kept start to
  kept_on None start now to is t = tt
  kept_on (Some k) start now to is t = (is.0, is.1, is.2, is.3, inr (one_turn is.0 now to is.4 t))

  new_kept : (kept : Option Kept) (start now : State) → now.team ≡ no_team → Star start now → HasKept kept now → IsKept kept start now
  new_kept None start now out star has = tt
  new_kept (Some k) start now out star has = (now, has, out, star, inl refl)

  -- a turn more, behind which a state may be kept
  pub loop_goes : (start now at to : State) (kept new : Option Kept) → to.team ≡ no_team → InLoop start now kept → Test now (Ends true at) →
      Body at (Ends tt to) → IsStill kept to new → InLoop start to new
  loop_goes start now at to kept new out in_loop yes_so p still = record { turned = inr on_way; is_kept = behind still }
    where
      t : Turned Test Body now to
      t = record { tested = at; is_true = yes_so; ends = p }

      on_way : Turning Test Body start to
      on_way = one_turn start now to in_loop.turned t

      behind : IsStill kept to new → IsKept new start to
      behind (inl same) = subst (λ k. IsKept k start to) (sym same) (kept_on kept start now to in_loop.is_kept t)
      behind (inr has) = new_kept new start to out (inr on_way) has

  -- ---- how a loop comes out

  loop_first : (from to : State) → Turned Test Body from to → (f : Fate (Unit {0})) → Loop Test Body to f → Loop Test Body from f
  loop_first from to t f r = (suc r.0, on t.is_true (on t.ends r.1))

  loop_before : (from to : State) → Turning Test Body from to → (f : Fate (Unit {0})) → Loop Test Body to f → Loop Test Body from f
  loop_before from to (Once t) f r = loop_first from to t f r
  loop_before from to (More {now} ts t) f r = loop_before from now ts f (loop_first now to t f r)

  star_before : (from to : State) → Star from to → (f : Fate (Unit {0})) → Loop Test Body to f → Loop Test Body from f
  star_before from to (inl same) f r = subst (λ m. Loop Test Body m f) (sym same) r
  star_before from to (inr ts) f r = loop_before from to ts f r

  star_endless : (from to : State) → Star from to → IsEndless (Loop Test Body to) → IsEndless (Loop Test Body from)
  star_endless from to (inl same) never = subst (λ m. IsEndless (Loop Test Body m)) (sym same) never
  star_endless from to (inr ts) never = endless_behind Test Body (sure_tested w here.line e) (sure_list w body) from to ts never

  -- its test is false
  pub loop_ends : (start now at : State) (kept : Option Kept) → InLoop start now kept → Test now (Ends false at) →
      Loop Test Body start (Ends tt at)
  loop_ends start now at kept in_loop p = star_before start now in_loop.turned (Ends tt at) (suc zero, on p refl)

  -- its body goes no further
  pub loop_stops : (start now at new : State) (kept : Option Kept) (why : Stop) → InLoop start now kept → Test now (Ends true at) →
      IsKnown (of_list w body at) new (Err why) → IsKnown (of_loop w here e body start) new (Err why)
  loop_stops start now at new kept (stop.Cycle c) in_loop p known = (
    star_endless start now in_loop.turned (endless_turn Test Body (sure_tested w here.line e) (sure_list w body) now at p known.0),
    shown_in (of_loop w here e body start).told (of_list w body at).told c (body_holds start now at in_loop.turned p) known.1,
  )
  loop_stops start now at new kept stop.Unknown in_loop p known = tt

  -- two tests of it, in the state that was kept and in the one that it is back in
  shows : (start s now to : State) (c : Cycle) → Star start s → Star s now → Turned Test Body now to → s.uniforms ≡ to.uniforms →
      s.cells ≡ to.cells → s.team ≡ to.team → c.line ≡ here.line → c.statements ≡ to.count - s.count →
      HasShown (of_loop w here e body start).told c
  shows start s now to c before after t uniforms cells team line statements =
      let ts = one_turn s now to after t in
      let more : s.count < to.count = turns_count s to ts in (
        to.count + 1,
        λ n low.
            let all = (of_loop w here e body start).told n in
            let left : Left n all s = star_left n all start s before (omega (arith, low, more)) (whole_left n start) in
            record {
              here = here;
              test = e;
              first = counting s;
              later = counting to;
              is_here = sym line;
              was = test_left n all s (omega (arith, low, more)) left;
              is_again = test_left n all to (omega (arith, low)) (turns_left n all s to ts (omega (arith, low)) left);
              alike = record { uniforms = uniforms; cells = cells; team = team };
              apart = omega (arith, statements, more);
              some = omega (arith, statements, more);
            },
      )

  cycle_in : (kept : Option Kept) (start now to : State) (c : Cycle) → to.team ≡ no_team → IsKept kept start now → Turned Test Body now to →
      IsBack kept here.line to c → IsEndless (Loop Test Body start) × HasShown (of_loop w here e body start).told c
  cycle_in None start now to c out is t back = absurd back
  cycle_in (Some k) start now to c out is t back =
      let s = is.0 in
      let count : k.count ≡ s.count = is.1.0 in
      let statements : c.statements ≡ to.count - k.count = back.3 in (
        star_endless start s is.3 (endless_cycle Test Body (sure_tested w here.line e) (sure_list w body) (blind_tested w here.line e)
            (blind_list w body) s to (one_turn s now to is.4 t) (λ j. record {
              count = s.count;
              output = s.output;
              uniforms = (sym back.0 ∙ is.1.1) j;
              cells = (sym back.1 ∙ is.1.2) j;
              team = (out ∙ sym is.2) j;
            })),
        shows start s now to c is.3 is.4 t (sym is.1.1 ∙ back.0) (sym is.1.2 ∙ back.1) (is.2 ∙ sym out) back.2
            (statements ∙ ap (λ n. to.count - n) count),
      )

  -- it is back
  pub loop_cycles : (start now at to : State) (kept : Option Kept) (c : Cycle) → to.team ≡ no_team → InLoop start now kept →
      Test now (Ends true at) → Body at (Ends tt to) → IsBack kept here.line to c →
      IsEndless (Loop Test Body start) × HasShown (of_loop w here e body start).told c
  loop_cycles start now at to kept c out in_loop p q back =
      cycle_in kept start now to c out in_loop.is_kept (record { tested = at; is_true = p; ends = q }) back
