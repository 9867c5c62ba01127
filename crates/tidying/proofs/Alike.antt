-- Tidied code runs as the code does.
use Rattle.std.proofs.Common.{◌≡◌, ℕ, zero, suc, ◌+◌, ◌*◌, ◌<◌, ◌≤◌, List, [], ◌∷◌, length, Some, ℤ, refl, sym}
use Rattle.std.proofs.Common.{ap, ◌∙◌, subst, arith}
use Rattle.std.specs.Prelude.{if◌then◌else◌, slice_get}
use Rattle.address_map.specs.Lawful.{Shape}
use Rattle.write_rules.specs.Verdict.{Verdict}
use Rattle.pram_model.specs.Layout.{total_size}
use Rattle.superstep_instructions.specs.declared.instr.Instr.{Instr}
use Rattle.superstep_instructions.specs.Code.{SuperstepCode}
use Rattle.superstep_machine.specs.Setting.{Setting, workers}
use Rattle.superstep_machine.specs.Parts.{Registers, zeros, UniformPart}
use Rattle.superstep_machine.specs.Machine.{phase, phases}
use Rattle.superstep_machine.specs.Stretch.{Arrival, Nowhere, At, until}
use Rattle.superstep_machine.specs.Run.{Purpose, Way, On, Ending, Past, Refused, Lost, is_over, IsBspOutcome, setting, bsp}
use Rattle.superstep_machine.specs.Run as workers_run
use Rattle.superstep_machine.specs.Trace.{exchanges_by}
use Rattle.bsp_verify.specs.Runs.{worker_after}
use Rattle.bsp_verify.specs.WellFormed.{IsWellFormed}
use Rattle.bsp_verify.proofs.ArrivalLemmas.{runs_arrive}
use Rattle.flat_machine.specs.Flat.{Flat, after_instr}
use Rattle.flat_machine.specs.ByExchanges.{Plan, State, Ready, stretch, ready_at, ready_by, ready, after, next, outcome_of, run, opening}
use Rattle.flat_machine.specs.ByExchanges.{outcome_by}
use Rattle.flat_machine.specs.ByExchanges.{purposes_from, purposes_by}
use Rattle.flat_machine.specs.ByInstructions.{everywhere, IsFlatOutcome}
use Rattle.flat_machine.specs.Flatness.{IsMapFor, plan}
use Rattle.flat_machine.specs.OneList.{made_for}
use Rattle.flat_machine.proofs.Lockstep.{Agree, readies}
use Rattle.flat_machine.proofs.Runs.{first, phase_agrees, opening_agrees}
use Rattle.flat_machine.proofs.Stepping.{outcome_stays}
use Rattle.flat_machine.proofs.Bridge.{advances, to_exchanges}
use Rattle.flat_machine.proofs.Laws.{outcomes_are_same, purposes_are_same, runs_agree, workers_are_flat}
use Rattle.tidying.specs.Certificates.{Certificate, IsCertified, opening_rows}
use Rattle.tidying.specs.Tidied.{IsShortened, IsTidied, IsEnough, TidiedCodeRunsAlike}
use Rattle.tidying.proofs.Flats.{Related, related_there, opening_related}
use Rattle.tidying.proofs.Runs.{later, goes, Stands, stands, runs_same, purposes_same, shown}

-- two runs of the flat machine from one input
pub record Alike (p q : Plan) (input : List ℤ) : Type 0 where
  pub runs : (m : ℕ) → outcome_by p m input ≡ outcome_by q m input
  pub ways : (m : ℕ) → (later p m (opening input)).way ≡ (later q m (opening input)).way
  pub outputs : (m : ℕ) → (ready p (later p m (opening input))).state.flat.uniform.output
      ≡ (ready q (later q m (opening input))).state.flat.uniform.output
  pub purposes : (m : ℕ) → purposes_by p m input ≡ purposes_by q m input

turned : (p q : Plan) (input : List ℤ) → Alike p q input → Alike q p input
turned p q input a = record {
  runs = λ m. sym (a.runs m);
  ways = λ m. sym (a.ways m);
  outputs = λ m. sym (a.outputs m);
  purposes = λ m. sym (a.purposes m);
}

joined : (p q r : Plan) (input : List ℤ) → Alike p q input → Alike q r input → Alike p r input
joined p q r input a b = record {
  runs = λ m. a.runs m ∙ b.runs m;
  ways = λ m. a.ways m ∙ b.ways m;
  outputs = λ m. a.outputs m ∙ b.outputs m;
  purposes = λ m. a.purposes m ∙ b.purposes m;
}

later_more : (t : Plan) (m : ℕ) (s : State) → later t (suc m) s ≡ next t (later t m s)
later_more t zero s = refl
later_more t (suc m) s = later_more t m (next t s)

-- ---- no run of well-formed code is lost

module _ (t : Setting) (room : IsMapFor t.code t.map) where
  later_agrees : (m : ℕ) (s : State) (ws : ℕ → workers_run.State) → Agree t room s ws →
      Agree t room (later (plan t) m s) (phases (bsp t) (workers t) m ws)
  later_agrees zero s ws a = a
  later_agrees (suc m) s ws a = later_agrees m (next (plan t) s) (phase (bsp t) (workers t) ws) (phase_agrees t room s ws a)

  pub agrees : (input : List ℤ) (m : ℕ) → Agree t room (later (plan t) m (opening input)) (worker_after t input m)
  agrees input m = later_agrees m (opening input) (workers_run.opening t input) (opening_agrees t room input)

  pub never_lost : IsWellFormed t.code → IsEnough t.code t.bound t.enough → (input : List ℤ) (m : ℕ) →
      (later (plan t) m (opening input)).way ≡ Lost → ⊥
  never_lost formed enough input m e =
      runs_arrive t formed enough input m 0 ((agrees input m).way 0 (first t room) ∙ e)

-- ---- with more instructions

module _ (code : SuperstepCode) (bound n e : ℕ) (more : n ≤ e) where
  abbrev few : Plan
  few = record { code = code; bound = bound; enough = n }

  abbrev many : Plan
  many = record { code = code; bound = bound; enough = e }

  abbrev Same : Arrival Flat → Arrival Flat → Type 0
  Same Nowhere b = Unit {0}
  Same (At stop k f) b = At stop k f ≡ b

  abbrev from : ℕ → ℕ → Flat → Arrival Flat
  from a k f = until bound (λ (g : Flat). g.uniform) (after_instr code) code.instructions a k f

  longer : (a b : ℕ) → a ≤ b → (k : ℕ) (f : Flat) → Same (from a k f) (from b k f)
  longer zero b l k f = tt
  longer (suc a) zero l k f = absurd (omega (arith, l))
  longer (suc a) (suc b) l k f =
      advances code bound Same k f Nowhere Nowhere tt (λ stop i g. At stop i g) (λ stop i g. At stop i g) (λ stop. refl) (from a) (from b)
      (longer a b (omega (arith, l))) (slice_get code.instructions k)

  ready_same : (s : State) → ((next few s).way ≡ Lost → ⊥) → ready few s ≡ ready many s
  ready_same s lost = by_way s.way lost
    where
      arrived : (a b : Arrival Flat) → Same a b → ((after code (ready_at s a)).way ≡ Lost → ⊥) → ready_at s a ≡ ready_at s b
      arrived Nowhere b q lost = absurd (lost refl)
      arrived (At stop k f) b q lost = ap (ready_at s) q

      by_way : (way : Way) → ((after code (ready_by few s way)).way ≡ Lost → ⊥) → ready_by few s way ≡ ready_by many s way
      by_way On lost = arrived (stretch few s) (stretch many s) (longer n e more s.place s.flat) lost
      by_way (Ending ended) lost = refl
      by_way (Past key ended) lost = refl
      by_way (Refused mark) lost = refl
      by_way Lost lost = refl

  Finds : State → Type 0
  Finds s = (m : ℕ) → (later few m s).way ≡ Lost → ⊥

  next_same : (s : State) → ((next few s).way ≡ Lost → ⊥) → next few s ≡ next many s
  next_same s lost = ap (after code) (ready_same s lost)

  later_same : (m : ℕ) (s : State) → ((m : ℕ) → (later few m s).way ≡ Lost → ⊥) → later few m s ≡ later many m s
  later_same zero s finds = refl
  later_same (suc m) s finds = later_same m (next few s) (λ i. finds (suc i)) ∙ ap (later many m) (next_same s (finds 1))

  run_same : (m : ℕ) (s : State) → ((m : ℕ) → (later few m s).way ≡ Lost → ⊥) → run few m s ≡ run many m s
  run_same zero s finds = refl
  run_same (suc m) s finds = ap (λ x. if is_over s.way then Some (outcome_of code s) else x)
      (run_same m (next few s) (λ i. finds (suc i)) ∙ ap (run many m) (next_same s (finds 1)))

  purposes_more : (m : ℕ) (s : State) → ((m : ℕ) → (later few m s).way ≡ Lost → ⊥) → purposes_from few m s ≡ purposes_from many m s
  purposes_more zero s finds = refl
  purposes_more (suc m) s finds =
      ap (λ xs. if is_over s.way then [] else (ready few s).purpose ∷ xs)
      (purposes_more m (next few s) (λ i. finds (suc i)))
      ∙ ap (λ (q : Ready). if is_over s.way then [] else q.purpose ∷ purposes_from many m (after code q)) (ready_same s (finds 1))

  pub steady : (input : List ℤ) → ((m : ℕ) → (later few m (opening input)).way ≡ Lost → ⊥) → Alike few many input
  steady input finds = record {
    runs = λ m. run_same m (opening input) finds;
    ways = λ m. ap (λ (s : State). s.way) (later_same m (opening input) finds);
    outputs = λ m. ap (λ (q : Ready). q.state.flat.uniform.output)
        (ready_same (later few m (opening input)) (λ q. finds (suc m) (ap (λ (s : State). s.way) (later_more few m (opening input)) ∙ q))
        ∙ ap (ready many) (later_same m (opening input) finds));
    purposes = λ m. purposes_more m (opening input) finds;
  }

-- ---- the shorter of two codes

module _ (c : Certificate) (long : SuperstepCode) (uniform private : ℕ) (left : List Instr) where
  abbrev short : SuperstepCode
  short = record long { uniform_registers = uniform; private_registers = private; instructions = left }

  module _ (cert : IsCertified c long short) (bound n e : ℕ) (more : n ≤ e) (input : List ℤ) where
    abbrev one : Plan
    one = record { code = long; bound = bound; enough = n }

    abbrev other : Plan
    other = record { code = short; bound = bound; enough = e }

    abbrev zs : ℕ → Registers
    zs v = zeros

    related : Related c (c.at 0) (opening input).flat zeros zs
    related = related_there c (c.at 0) (opening_rows c) (opening input).flat zeros zs cert.opening (opening_related c input)

    start : opening input ≡ shown c long uniform private left cert.each bound n e more (opening input) zeros zs
    start = λ j. record (opening input) { place = sym cert.start j }

    module _ (finds : (m : ℕ) → (later one m (opening input)).way ≡ Lost → ⊥) where
      standing : (m : ℕ) → Stands c long uniform private left cert.each bound n e more m (opening input)
          (shown c long uniform private left cert.each bound n e more (opening input) zeros zs)
      standing m = stands c long uniform private left cert.each bound n e more m (opening input) zeros zs related finds

      output_is : (m : ℕ) → (ready one (later one m (opening input))).state.flat.uniform.output
          ≡ (ready other (later other m (opening input))).state.flat.uniform.output
      output_is m =
          let x = standing m in
          sym (ap (λ s. (ready other (later other m s)).state.flat.uniform.output) start
          ∙ ap (λ s. (ready other s).state.flat.uniform.output) x.same
          ∙ (goes c long uniform private left cert.each bound n e more (later one m (opening input)) x.registers x.own x.related
          (λ q. finds (suc m) (ap (λ (s : State). s.way) (later_more one m (opening input)) ∙ q))).output)

      pub shortened : Alike one other input
      shortened = record {
        runs = λ m. sym (ap (run other m) start
            ∙ runs_same c long uniform private left cert.each bound n e more m (opening input) zeros zs related finds);
        ways = λ m. sym (ap (λ s. (later other m s).way) start ∙ ap (λ (s : State). s.way) (standing m).same);
        outputs = output_is;
        purposes = λ m. sym (ap (purposes_from other m) start
            ∙ purposes_same c long uniform private left cert.each bound n e more m (opening input) zeros zs related finds);
      }

-- ---- both are shortened from one

abbrev plan_of : SuperstepCode → ℕ → ℕ → Plan
plan_of code bound n = record { code = code; bound = bound; enough = n }

layout_of : (long short : SuperstepCode) → IsShortened long short → short.layout ≡ long.layout
layout_of long _ x = ap (λ (c : SuperstepCode). c.layout) x.1.header

by_certificate : (long short : SuperstepCode) → IsShortened long short → (bound n e : ℕ) → n ≤ e → (input : List ℤ) →
    ((m : ℕ) → (later (plan_of long bound n) m (opening input)).way ≡ Lost → ⊥) →
    Alike (plan_of long bound n) (plan_of short bound e) input
by_certificate long short (c, cert) bound n e more input finds =
    subst (λ (x : SuperstepCode). Alike (plan_of long bound n) (plan_of x bound e) input) (sym cert.header)
    (shortened c long short.uniform_registers short.private_registers short.instructions
    (subst (λ (x : SuperstepCode). IsCertified c long x) cert.header cert) bound n e more input finds)

module _ (code tidied : SuperstepCode) (formed : IsWellFormed code) (formed_too : IsWellFormed tidied) (t : IsTidied code tidied)
    (m : Shape) (room : IsMapFor code m) where
  room_whole : IsMapFor t.whole m
  room_whole = record { lawful = room.lawful; room = subst (λ l. total_size l ≤ m.count) (layout_of t.whole code t.is_code) room.room }

  pub room_too : IsMapFor tidied m
  room_too = record {
    lawful = room.lawful;
    room = subst (λ l. total_size l ≤ m.count) (layout_of t.whole code t.is_code ∙ sym (layout_of t.whole tidied t.is_tidied)) room.room;
  }

  module _ (bound n k : ℕ) (enough : IsEnough code bound n) (enough_too : IsEnough tidied bound k) (input : List ℤ) where
    abbrev w : ℕ
    w = (bound + 1) * length t.whole.instructions + 1

    finds_whole : (i : ℕ) → (later (plan_of t.whole bound w) i (opening input)).way ≡ Lost → ⊥
    finds_whole = never_lost (setting t.whole m bound w) room_whole t.formed (omega arith) input

    pub alike : Alike (plan_of code bound n) (plan_of tidied bound k) input
    alike =
        joined (plan_of code bound n) (plan_of code bound (w + n)) (plan_of tidied bound k) input
        (steady code bound n (w + n) (omega arith) input (never_lost (setting code m bound n) room formed enough input))
        (joined (plan_of code bound (w + n)) (plan_of t.whole bound w) (plan_of tidied bound k) input
        (turned (plan_of t.whole bound w) (plan_of code bound (w + n)) input
        (by_certificate t.whole code t.is_code bound w (w + n) (omega arith) input finds_whole))
        (joined (plan_of t.whole bound w) (plan_of tidied bound (w + k)) (plan_of tidied bound k) input
        (by_certificate t.whole tidied t.is_tidied bound w (w + k) (omega arith) input finds_whole)
        (turned (plan_of tidied bound k) (plan_of tidied bound (w + k)) input
        (steady tidied bound k (w + k) (omega arith) input (never_lost (setting tidied m bound k) room_too formed_too enough_too input)))))

    way_is : (e : ℕ) (x : ℕ) → x < m.parts → (worker_after (setting tidied m bound k) input e x).way
        ≡ (worker_after (setting code m bound n) input e x).way
    way_is e x l =
        (agrees (setting tidied m bound k) room_too input e).way x l ∙ sym (alike.ways e) ∙ sym ((agrees (setting code m bound n) room
        input e).way x l)

    output_of : (t : Setting) (room : IsMapFor t.code t.map) (e : ℕ) (x : ℕ) → x < workers t →
        (workers_run.ready t x (worker_after t input e x)).state.worker.uniform.output
        ≡ (ready (plan t) (later (plan t) e (opening input))).state.flat.uniform.output
    output_of t room e x l =
        ap (λ (u : UniformPart). u.output)
        ((readies t room (later (plan t) e (opening input)) (worker_after t input e) (agrees t room input e)).states.splits.uniform x l)

    pub over_is : (e : ℕ) (x : ℕ) → x < m.parts → is_over (worker_after (setting tidied m bound k) input e x).way
        ≡ is_over (worker_after (setting code m bound n) input e x).way
    over_is e x l = ap is_over (way_is e x l)

    pub output_same : (e : ℕ) (x : ℕ) → x < m.parts →
        (workers_run.ready (setting tidied m bound k) x (worker_after (setting tidied m bound k) input e x)).state.worker.uniform.output
        ≡ (workers_run.ready (setting code m bound n) x (worker_after (setting code m bound n) input e x)).state.worker.uniform.output
    output_same e x l = output_of (setting tidied m bound k) room_too e x l ∙ sym (alike.outputs e)
        ∙ sym (output_of (setting code m bound n) room e x l)

    pub outcome_same : (e : ℕ) → workers_run.outcome_by (setting tidied m bound k) e input
        ≡ workers_run.outcome_by (setting code m bound n) e input
    outcome_same e = outcomes_are_same (setting tidied m bound k) room_too e input ∙ sym (alike.runs e)
        ∙ sym (outcomes_are_same (setting code m bound n) room e input)

    pub purposes_are : (e : ℕ) → made_for (exchanges_by (setting tidied m bound k) e input)
        ≡ made_for (exchanges_by (setting code m bound n) e input)
    purposes_are e = purposes_are_same (setting tidied m bound k) room_too e input ∙ sym (alike.purposes e)
        ∙ sym (purposes_are_same (setting code m bound n) room e input)

-- an outcome is one with many instructions, too
at_least : (code : SuperstepCode) (bound : ℕ) (input : List ℤ) (verdict : Verdict) (n : ℕ) → IsFlatOutcome code input bound verdict →
    (k : ℕ) × (n ≤ k) × (outcome_by (plan_of code bound k) (suc (suc k)) input ≡ Some (Some verdict))
at_least code bound input verdict n o = (
  n + o.instructions,
  omega arith,
  to_exchanges code bound (n + o.instructions) input verdict
      (outcome_stays code bound everywhere input o.instructions (n + o.instructions) verdict (omega arith) o.ends),
)

pub tidied_code_runs_alike : TidiedCodeRunsAlike
tidied_code_runs_alike code tidied formed formed_too t = record {
  rule = ap (λ (c : SuperstepCode). c.rule) t.is_tidied.1.header ∙ sym (ap (λ (c : SuperstepCode). c.rule) t.is_code.1.header);
  procs = ap (λ (c : SuperstepCode). c.procs) t.is_tidied.1.header ∙ sym (ap (λ (c : SuperstepCode). c.procs) t.is_code.1.header);
  layout = layout_of t.whole tidied t.is_tidied ∙ sym (layout_of t.whole code t.is_code);
  verdicts = λ m room input bound verdict. (there m room input bound verdict, back m room input bound verdict);
  outcomes = λ m room bound n k e f input. outcome_same code tidied formed formed_too t m room bound n k e f input;
  purposes = λ m room bound n k e f input. purposes_are code tidied formed formed_too t m room bound n k e f input;
  over = λ m room bound n k e f input. over_is code tidied formed formed_too t m room bound n k e f input;
  output = λ m room bound n k e f input. output_same code tidied formed formed_too t m room bound n k e f input;
}
  where
    there : (m : Shape) → IsMapFor code m → (input : List ℤ) (bound : ℕ) (verdict : Verdict) →
        IsBspOutcome code m input bound verdict → IsBspOutcome tidied m input bound verdict
    there m room input bound verdict o =
        let a = at_least code bound input verdict ((bound + 1) * length code.instructions + 1)
        ((workers_are_flat code m room input bound verdict).0 o) in
        let k = (bound + 1) * length tidied.instructions + 1 in
        (workers_are_flat tidied m (room_too code tidied formed formed_too t m room) input bound verdict).1
        ((runs_agree tidied input bound verdict).0 (record {
          enough = k;
          exchanges = suc (suc a.0);
          ends = sym ((alike code tidied formed formed_too t m room bound a.0 k a.1 (omega arith) input).runs (suc (suc a.0))) ∙ a.2;
        }))

    back : (m : Shape) → IsMapFor code m → (input : List ℤ) (bound : ℕ) (verdict : Verdict) →
        IsBspOutcome tidied m input bound verdict → IsBspOutcome code m input bound verdict
    back m room input bound verdict o =
        let a = at_least tidied bound input verdict ((bound + 1) * length tidied.instructions + 1)
        ((workers_are_flat tidied m (room_too code tidied formed formed_too t m room) input bound verdict).0 o) in
        let n = (bound + 1) * length code.instructions + 1 in
        (workers_are_flat code m room input bound verdict).1
        ((runs_agree code input bound verdict).0 (record {
          enough = n;
          exchanges = suc (suc a.0);
          ends = (alike code tidied formed formed_too t m room bound n a.0 (omega arith) a.1 input).runs (suc (suc a.0)) ∙ a.2;
        }))
