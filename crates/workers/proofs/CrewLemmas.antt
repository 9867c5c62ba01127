-- The threads of a crew, from their start to the end of their line.
use Rattle.std.proofs.Common.{◌≡◌, ◌≢◌, inl, inr, ℕ, zero, suc, ◌≤◌, List, [], ◌∷◌, ◌++◌, length, map, Bool, true, false}
use Rattle.std.proofs.Common.{Option, Some, None, Vec, Global, refl, sym, ap, ◌∙◌, subst, arith}
use Rattle.std.specs.Prelude.{slice_get, filter_map}
use Rattle.pram_model.proofs.Truths.{unsome}
use Rattle.std.proofs.lemmas.List.{length-append, length-map, map-append, append-nil}
use Rattle.std.proofs.lemmas.List.Elements.{filter_map-append}
use Rattle.std.specs.declared.thread.PromisedHandle.{PromisedHandle}
use mathlib.Core.Option.{some}
use lib.ListN.{get_elem?}
use Rattle.turnstile.specs.Seats.{RowState}
use Rattle.turnstile.specs.Lines.{Hears}
use Rattle.turnstile.specs.Runners.{LineShape, RunnerState, StarterState, AreNewRunners, IsOver}
use Rattle.turnstile.specs.declared.start.told.Told.{Told}
use Rattle.turnstile.specs.declared.start.told.Told.TheVariants.{Nothing, Stop, Go}
use Rattle.bsp_machine.specs.declared.counted.CountedWorker.{CountedWorker}
use Rattle.workers.specs.declared.report.Report.{Report}
use Rattle.workers.specs.declared.report.ReportOf.{ReportOf}
use Rattle.workers.specs.Reports.{IsReportOf, CameOf}
use Rattle.workers.specs.Crews.{Pairwise, runner_of, AreStarted, IsSaid, AreReports, IsEnded}
use Rattle.workers.proofs.PairLemmas.{pair_at, pairs_long, get_front, mapped_at}

get_of_elem : {A : Type 0} (xs : List A) (k : ℕ) (x : A) → get_elem? xs k ≡ some x → slice_get xs k ≡ Some x
get_of_elem [] k x e = absurd (cc)
get_of_elem (y ∷ xs) zero x e = (let s : y ≡ x = cc in ap (λ z. Some z) s)
get_of_elem (y ∷ xs) (suc k) x e = get_of_elem xs k x e

map_get : {A B : Type 0} (f : A → B) (xs : List A) (k : ℕ) (x : A) → slice_get xs k ≡ Some x → slice_get (map f xs) k ≡ Some (f x)
map_get f [] k x e = absurd (cc)
map_get f (y ∷ xs) zero x e = ap (λ z. Some (f z)) (unsome y x e)
map_get f (y ∷ xs) (suc k) x e = map_get f xs k x e

-- ---- one report more

module _ {T : Type 0} (y : List (Report T)) (r : Report T) where
  pub one_ended : (ended : List (RunnerState T)) → ended ≡ map (λ (q : Report T). q.runner) y →
      ended ++ r.runner ∷ [] ≡ map (λ (q : Report T). q.runner) (y ++ r ∷ [])
  one_ended ended e = ap (λ rs. rs ++ r.runner ∷ []) e ∙ sym (map-append (λ (q : Report T). q.runner) y (r ∷ []))

  pub one_played : (one : RowState × CountedWorker) (all : List (RowState × CountedWorker)) →
      all ≡ filter_map (λ (q : Report T). q.played) y → r.played ≡ Some one →
      all ++ one ∷ [] ≡ filter_map (λ (q : Report T). q.played) (y ++ r ∷ [])
  one_played one all e is =
      ap (λ ys. ys ++ one ∷ []) e ∙ ap (λ ys. filter_map (λ (q : Report T). q.played) y ++ ys) (rw is refl)
      ∙ sym (filter_map-append (λ (q : Report T). q.played) y (r ∷ []))

  pub none_played : (all : List (RowState × CountedWorker)) → all ≡ filter_map (λ (q : Report T). q.played) y → r.played ≡ None →
      all ≡ filter_map (λ (q : Report T). q.played) (y ++ r ∷ [])
  none_played all e is =
      e ∙ sym (append-nil (filter_map (λ (q : Report T). q.played) y))
      ∙ ap (λ ys. filter_map (λ (q : Report T). q.played) y ++ ys) (rw is refl)
      ∙ sym (filter_map-append (λ (q : Report T). q.played) y (r ∷ []))

module _ {T : Type 0} (done : T → RowState × CountedWorker → Type 0) where
  -- ---- what the threads gave back

  module _ (l : LineShape) (rs : List (RunnerState T)) (hs : List (PromisedHandle (Report T) (ReportOf T))) (all : Bool)
      (reports : List (Report T)) (new : AreNewRunners l.table l.runners rs) (started : AreStarted rs hs all)
      (told : AreReports done (map runner_of hs) reports) where
    abbrev P : RunnerState T → Report T → Type 0
    P before r = IsReportOf done before r.runner r.played

    pub few_reports : length reports ≤ l.runners
    few_reports =
        let a = pairs_long P (map runner_of hs) reports told in
        let b = ap length started.those in
        let c = length-append (map runner_of hs) started.rest in
        let d = new.count in
        omega (arith, a, b, c, d)

    pub all_reports : all ≡ true → length reports ≡ l.runners
    all_reports went =
        let a = pairs_long P (map runner_of hs) reports told in
        let b = ap length started.those in
        let c = length-append (map runner_of hs) started.rest in
        let d = new.count in
        let e = ap length (started.none went) in
        omega (arith, a, b, c, d, e)

    pub reported : (k : ℕ) (r : Report T) → slice_get reports k ≡ Some r →
        (r.runner.table ≡ l.table) × (r.runner.at ≡ k) × CameOf done r.runner r.played
    reported k r e =
        let p = pair_at P (map runner_of hs) reports k r told e in
        let here : slice_get rs k ≡ Some p.0 = subst (λ xs. slice_get xs k ≡ Some p.0) started.those
        (get_front (map runner_of hs) started.rest k p.0 p.1) in
        (p.2.table ∙ new.tables k p.0 here, p.2.at ∙ new.order k p.0 here, p.2.came)

  -- ---- the end of the line

  not_silent : (r : RunnerState T) (o : Option (RowState × CountedWorker)) → CameOf done r o → r.heard ≢ Nothing
  not_silent r None came h = (let q : ◌≡◌ {A = Told T} Nothing Stop = sym h ∙ came in absurd (cc))
  not_silent r (Some y) came h = (let q : ◌≡◌ {A = Told T} Nothing (Go came.0) = sym h ∙ came.1 in absurd (cc))

  -- a runner that heard go at this place was told the task of this place
  told_of : (tasks : List T) (k : ℕ) (r : RunnerState T) (o : Option (RowState × CountedWorker)) → CameOf done r o →
      Hears (Go tasks) k r.heard → (x : T) × (y : RowState × CountedWorker) × (slice_get tasks k ≡ Some x) × (o ≡ Some y) × done x y
  told_of tasks k r None came hears =
      (let q : ◌≡◌ {A = Told (List T)} (Go tasks) Stop = subst (Hears (Go tasks) k) came hears in absurd (cc))
  told_of tasks k r (Some y) came hears =
      let h : (xs : List T) × (◌≡◌ {A = Told (List T)} (Go tasks) (Go xs)) × (get_elem? xs k ≡ some came.0)
      = subst (Hears (Go tasks) k) came.1 hears in
      let same : tasks ≡ h.0 = (let q = h.1 in cc) in
      (came.0, y, subst (λ xs. slice_get xs k ≡ Some came.0) (sym same) (get_of_elem h.0 k came.0 h.2), refl, came.2)

  -- all that were done
  all_done : (tasks : List T) (reports : List (Report T)) → length reports ≡ length tasks →
      ((k : ℕ) (r : Report T) → slice_get reports k ≡ Some r →
      (x : T) × (y : RowState × CountedWorker) × (slice_get tasks k ≡ Some x) × (r.played ≡ Some y) × done x y) →
      Pairwise done tasks (filter_map (λ (r : Report T). r.played) reports)
  all_done [] [] same each = tt
  all_done [] (r ∷ reports) same each = absurd (omega (arith, same))
  all_done (x ∷ tasks) [] same each = absurd (omega (arith, same))
  all_done (x ∷ tasks) (r ∷ reports) same each =
      let h = each 0 r refl in
      let rest = all_done tasks reports (omega (arith, same)) (λ k q e. each (suc k) q e) in
      let here : done x h.1 = subst (λ z. done z h.1) (sym (unsome x h.0 h.2)) h.4 in
      subst (Pairwise done (x ∷ tasks)) (sym (some_first r reports h.1 h.3)) (here, rest)
    where
      some_first : (r : Report T) (reports : List (Report T)) (y : RowState × CountedWorker) → r.played ≡ Some y →
          filter_map (λ (q : Report T). q.played) (r ∷ reports) ≡ y ∷ filter_map (λ (q : Report T). q.played) reports
      some_first r reports y e = rw e refl

  module _ (l : LineShape) (tasks : List T) (s : StarterState T) (reports : List (Report T)) (unsaid : Option (Vec T Global))
      (e : IsEnded done l tasks s reports unsaid) (many : length tasks ≡ l.runners) (runners : List (RunnerState T))
      (are : runners ≡ map (λ (r : Report T). r.runner) reports) where
    report_at : (k : ℕ) (r : RunnerState T) → slice_get runners k ≡ Some r → (a : Report T) × (slice_get reports k ≡ Some a) ×
        (a.runner ≡ r)
    report_at k r g = mapped_at (λ (q : Report T). q.runner) reports k r (subst (λ xs. slice_get xs k ≡ Some r) are g)

    pub tables_are : (k : ℕ) (r : RunnerState T) → slice_get runners k ≡ Some r → r.table ≡ l.table
    tables_are k r g =
        let a = report_at k r g in
        subst (λ (z : RunnerState T). z.table ≡ l.table) a.2 (e.reported k a.0 a.1).0

    over_by : (went : Bool) → e.went ≡ went → IsOver l.runners s.said runners
    over_by true is = inr (
      tasks,
      (subst (λ b. IsSaid b tasks s.said unsaid) is e.said).0,
      record {
        count = ap length are ∙ length-map reports (λ (r : Report T). r.runner) ∙ e.all is;
        order = λ k r g. (let a = report_at k r g in
            subst (λ (z : RunnerState T). z.at ≡ k) a.2 (e.reported k a.0 a.1).1);
        waited = λ k r g. (let a = report_at k r g in
            subst (λ (z : RunnerState T). z.heard ≢ Nothing) a.2 (not_silent a.0.runner a.0.played (e.reported k a.0 a.1).2));
      },
    )
    over_by false is = inl (subst (λ b. IsSaid b tasks s.said unsaid) is e.said).0

    pub is_over : IsOver l.runners s.said runners
    is_over = over_by e.went refl

    module _ (heard : (k : ℕ) (r : RunnerState T) → slice_get runners k ≡ Some r → Hears s.said r.at r.heard) where
      done_by : (went : Bool) → e.went ≡ went → unsaid ≡ None →
          Pairwise done tasks (filter_map (λ (r : Report T). r.played) reports)
      done_by true is none =
          let said = subst (λ b. IsSaid b tasks s.said unsaid) is e.said in
          all_done tasks reports (e.all is ∙ sym many) (λ k r g.
          let rep = e.reported k r g in
          let hears = heard k r.runner (subst (λ xs. slice_get xs k ≡ Some r.runner) (sym are) (map_get (λ (q : Report T). q.runner) reports
          k r g)) in
          told_of tasks k r.runner r.played rep.2
          (subst (λ (z : Told (List T) × ℕ). Hears z.0 z.1 r.runner.heard) (λ i. (said.0 i, rep.1 i)) hears))
      done_by false is none =
          let said = subst (λ b. IsSaid b tasks s.said unsaid) is e.said in
          absurd (let q : ◌≡◌ {A = Option (Vec T Global)} None (Some said.1) = sym none ∙ said.2 in cc)

      pub all_played : unsaid ≡ None → Pairwise done tasks (filter_map (λ (r : Report T). r.played) reports)
      all_played = done_by e.went refl

    back_by : (went : Bool) → e.went ≡ went → (back : Vec T Global) → unsaid ≡ Some back → back.items ≡ tasks
    back_by true is back there =
        let said = subst (λ b. IsSaid b tasks s.said unsaid) is e.said in
        absurd (let q : ◌≡◌ {A = Option (Vec T Global)} None (Some back) = sym said.1 ∙ there in cc)
    back_by false is back there =
        let said = subst (λ b. IsSaid b tasks s.said unsaid) is e.said in
        ap (λ (v : Vec T Global). v.items) (unsome back said.1 (sym there ∙ said.2)) ∙ said.3

    pub tasks_back : (back : Vec T Global) → unsaid ≡ Some back → back.items ≡ tasks
    tasks_back = back_by e.went refl
