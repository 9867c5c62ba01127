-- A worker that has taken what came stands behind the exchange.
use Rattle.std.proofs.Common.{◌≡◌, ℕ, ◌+◌, ◌-◌, ◌<◌, List, length, Bool, true, false, Option, Some, None, refl, sym, ap, subst, ◌∙◌, arith}
use Rattle.std.specs.Prelude.{slice_get}
use Rattle.std.specs.Option.{is_some}
use Rattle.std.proofs.lemmas.Bool.{ltb-true}
use Rattle.std.proofs.lemmas.Option.{slice_get_within}
use Rattle.address_map.specs.Lawful.{Shape}
use Rattle.superstep_instructions.specs.declared.instr.Instr.TheVariants.{Vote}
use Rattle.superstep_instructions.specs.Code.{SuperstepCode}
use Rattle.superstep_machine.specs.declared.key.Key.{Key}
use Rattle.superstep_machine.specs.declared.mark.HeaderMark.TheVariants.{Clear}
use Rattle.superstep_machine.specs.Setting.{Setting}
use Rattle.superstep_machine.specs.Parts.{UniformPart}
use Rattle.superstep_machine.specs.Worker.{Worker}
use Rattle.superstep_machine.specs.Run as machine
use Rattle.superstep_machine.specs.Run.{setting}
use Rattle.instruction_steps.specs.declared.read.Moment.{Moment}
use Rattle.instruction_steps.specs.Views.{put_is, uniform_of}
use Rattle.bsp_verify.specs.Control.{Leads}
use Rattle.bsp_verify.specs.Judging.{is_mark}
use Rattle.bsp_verify.specs.WellFormed.{IsWellFormed}
use Rattle.bsp_verify.proofs.RunLemmas.{decided_same}
use Rattle.worker_steps.specs.declared.worker.WorkerState.{WorkerState}
use Rattle.worker_steps.specs.Met.{IsVerifiedAt}
use Rattle.worker_steps.specs.Stretch.{rank_of, rank}
use Rattle.worker_steps.proofs.FittedLemmas.{fitted_at}
use Rattle.worker_steps.proofs.StretchLemmas.{met_there, rank_on, rises_there}
use Rattle.worker_exchange.specs.Rows.{WrittenMessage}
use Rattle.superstep_machine.specs.declared.purpose.Purpose.{Purpose}
use Rattle.superstep_machine.specs.declared.purpose.Purpose.TheVariants as purposes
use Rattle.worker_exchange.specs.declared.way.Way.{Way}
use Rattle.worker_exchange.specs.declared.way.Way.TheVariants as ways
use Rattle.worker_exchange.specs.declared.local.Local.{Local}
use Rattle.superstep_machine.specs.Purposes.{purpose_is}
use Rattle.worker_exchange.specs.Shown.{way_is, is_stopped, place_behind, ShowsWorker, IsShown}
use Rattle.worker_exchange.specs.Equipped.{IsEquipped, IsRunnable, IsAtStep, GoesWith, instr_of, left_by, left_at_by, left, left_at}
use Rattle.worker_exchange.specs.Received.{messages_to, mark_heard, key_heard}
use Rattle.worker_exchange.specs.Taken.{StandsStill}
use Rattle.worker_exchange.specs.Behind.{ForEachState, ShowsTaken, ShowsBehind, MayGoOnBehind}
use Rattle.worker_exchange.proofs.BehindLemmas.{behind, values_read}
use Rattle.worker_exchange.proofs.HeardLemmas.{marks_heard, keys_heard}

pub held_is : (put : Option Moment) → machine.is_held (put_is put) ≡ is_some put
held_is None = refl
held_is (Some at) = refl

-- ---- the way

pub never : true ≡ false → ⊥
never e = cc

pub stopped_over : (way : Way) → is_stopped way ≡ true → machine.is_over (way_is way) ≡ true
stopped_over ways.On h = cc
stopped_over (ways.Ending ended) h = cc
stopped_over (ways.Past k ended) h = cc
stopped_over (ways.Stopped mark) h = refl

abbrev Decides : Purpose → UniformPart → Option Key → Way → Way → Type 0
Decides purpose u key way new = way_is new ≡ machine.decided (purpose_is purpose) u key (way_is way)

-- what goes on went on
went_on : (purpose : Purpose) (u : UniformPart) (key : Option Key) (way new : Way) → Decides purpose u key way new → new ≡ ways.On →
    way ≡ ways.On
went_on purpose u key way new d e =
    on_is way (decided_same machine.On (λ k ended q. cc) (purpose_is purpose) u key (way_is way) (sym d ∙ ap way_is e))
  where
    on_is : (way : Way) → way_is way ≡ machine.On → way ≡ ways.On
    on_is ways.On h = refl
    on_is (ways.Ending ended) h = cc
    on_is (ways.Past k ended) h = cc
    on_is (ways.Stopped mark) h = cc

-- nothing stops
never_stops : (purpose : Purpose) (u : UniformPart) (key : Option Key) (way new : Way) → Decides purpose u key way new →
    machine.is_over (way_is way) ≡ false → is_stopped new ≡ false
never_stops purpose u key way ways.On d going = refl
never_stops purpose u key way (ways.Ending ended) d going = refl
never_stops purpose u key way (ways.Past k ended) d going = refl
never_stops purpose u key way (ways.Stopped mark) d going =
    let same = decided_same (machine.Refused mark) (λ k ended q. cc) (purpose_is purpose) u key (way_is way) (sym d) in
    absurd (both_not (ap machine.is_over same) going)
  where
    both_not : {b : Bool} → b ≡ true → b ≡ false → ⊥
    both_not h k = (let e : true ≡ false = sym h ∙ k in cc)

-- fewer exchanges are left
fewer_by : (purpose : Purpose) (u : UniformPart) (key : Option Key) (way new : Way) → GoesWith way purpose → Decides purpose u key way new →
    machine.is_over (way_is new) ≡ false → (before later : ℕ) → (way ≡ ways.On → later < before) →
    left_by new later < left_at_by way purpose before
fewer_by purpose u key ways.On ways.On goes d going before later falls = let h = falls refl in omega (arith, h)
fewer_by purpose u key ways.On (ways.Ending ended) goes d going before later falls = omega arith
fewer_by purpose u key way (ways.Past k ended) goes d going before later falls = absurd (cc going)
fewer_by purpose u key way (ways.Stopped mark) goes d going before later falls = absurd (cc going)
fewer_by purposes.Send u key (ways.Ending e) ways.On goes d going before later falls =
    absurd (cc (went_on purposes.Send u key (ways.Ending e) ways.On d refl))
fewer_by purposes.Send u key (ways.Ending e) (ways.Ending ended) goes d going before later falls = omega arith
fewer_by purposes.Close u key (ways.Ending e) ways.On goes d going before later falls = absurd (cc d)
fewer_by purposes.Close u key (ways.Ending e) (ways.Ending ended) goes d going before later falls = absurd (cc d)
fewer_by purposes.Reply u key (ways.Ending e) new goes d going before later falls = absurd goes
fewer_by (purposes.Vote r) u key (ways.Ending e) new goes d going before later falls = absurd goes
fewer_by purpose u key (ways.Past k e) new goes d going before later falls = absurd goes
fewer_by purpose u key (ways.Stopped m) new goes d going before later falls = absurd goes

-- ---- the place

-- a vote is for a run that goes on
votes_on : (way : Way) (d : ℕ) → GoesWith way (purposes.Vote d) → way ≡ ways.On
votes_on ways.On d h = refl
votes_on (ways.Ending ended) d h = absurd h
votes_on (ways.Past k ended) d h = absurd h
votes_on (ways.Stopped mark) d h = absurd h

-- the register of a vote has its place
pub vote_placed : (code : SuperstepCode) (m : Shape) (bound : ℕ) (x : Local) (d : ℕ) → IsWellFormed code → IsAtStep code m bound x →
    x.purpose ≡ purposes.Vote d → d < length x.steps.uniform.registers.items
vote_placed code m bound x d formed at e =
    let on = votes_on x.way d (subst (GoesWith x.way) e at.goes) in
    let met = met_there code x.steps (Vote d) formed (at.verified on) (at.stands on ∙ ap (λ p. Some (instr_of p)) e) in
    let low = ltb-true d code.uniform_registers met.allowed.registers in
    let places = at.equipped.fitted.places in
    omega (arith, low, places)

leads_on : (purpose : Purpose) → GoesWith ways.On purpose → (p : ℕ) → Leads (instr_of purpose) p (p + 1)
leads_on purposes.Send goes p = refl
leads_on purposes.Reply goes p = refl
leads_on (purposes.Vote d) goes p = refl
leads_on purposes.Close goes p = absurd goes

no_mark : (purpose : Purpose) → is_mark (Some (instr_of purpose)) ≡ false
no_mark purposes.Send = refl
no_mark purposes.Reply = refl
no_mark (purposes.Vote d) = refl
no_mark purposes.Close = refl

falls_behind : (code : SuperstepCode) (bound : ℕ) (x : WorkerState) (purpose : Purpose) → IsWellFormed code → IsVerifiedAt code x →
    slice_get code.instructions x.place ≡ Some (instr_of purpose) → GoesWith ways.On purpose →
    rank_of code (bound - x.uniform.count) (x.place + 1) < rank code bound x
falls_behind code bound x purpose formed v there goes =
    rank_on code (bound - x.uniform.count) x.place (x.place + 1) (ap is_mark there ∙ no_mark purpose)
    (slice_get_within code.instructions x.place (instr_of purpose) there)
    (rises_there code x (instr_of purpose) formed v there (x.place + 1) (leads_on purpose goes x.place))

-- ---- with another place and another way

abbrev placed : Local → ℕ → Way → Local
placed a p way = record a { steps = record a.steps { place = p }; way = way }

equipped_placed : (code : SuperstepCode) (m : Shape) (a : Local) (p : ℕ) (way : Way) → IsEquipped code m a →
    IsEquipped code m (placed a p way)
equipped_placed code m a p way e = record {
  fitted = fitted_at code a.steps p e.fitted;
  workers = e.workers;
  sent = e.sent;
  cells = e.cells;
  asked = e.asked;
  few = e.few;
  buffers = e.buffers;
  values = e.values;
  below = e.below;
}

shows_placed : (t : Setting) (w : ℕ) (a : Local) (p : ℕ) (way : Way) (y : Worker) → ShowsWorker t w a y → ShowsWorker t w (placed a p way) y
shows_placed t w a p way y h = record {
  shows = (let q = h.shows in record { uniform = q.uniform; own = q.own; key = q.key; puts = q.puts; asks = q.asks });
  cells = h.cells;
  sent = h.sent;
  taken = h.taken;
}

-- ---- the worker behind the exchange

module _ (code : SuperstepCode) (m : Shape) (bound : ℕ) (came : List WrittenMessage) (x a z : Local) (key : Option Key) (held : Bool)
    (at : IsAtStep code m bound x) (still : StandsStill x a) (same : z ≡ placed a z.steps.place z.way)
    (place : z.steps.place ≡ place_behind a.way a.steps.place)
    (way : (u : UniformPart) → machine.is_held u.put ≡ held → u.count ≡ x.steps.uniform.count →
    way_is z.way ≡ machine.decided (purpose_is x.purpose) u key (way_is a.way))
    (was : machine.is_held (put_is x.steps.uniform.put) ≡ held) (told : key ≡ key_heard came) (clear : mark_heard came ≡ Clear) where
  abbrev u : UniformPart
  u = uniform_of x.steps.uniform

  decides : Decides x.purpose u key x.way z.way
  decides = way u was refl ∙ ap (λ v. machine.decided (purpose_is x.purpose) u key (way_is v)) still.way

  place_is : z.steps.place ≡ place_behind x.way x.steps.place
  place_is = place ∙ (λ i. place_behind (still.way i) (still.place i))

  pub runs_on : is_stopped z.way ≡ false
  runs_on = never_stops x.purpose u key x.way z.way decides at.going

  pub shown_behind : ShowsTaken code m bound came x a → ShowsBehind code m bound came x z
  shown_behind taken n s enough here =
      let t = setting code m bound n in
      let w = x.steps.bank.worker in
      let messages = messages_to code.rule m w (purpose_is x.purpose) came in
      let y = (machine.ready t w s).state.worker in
      behind t w x z s here messages (values_read code.rule m w (purpose_is x.purpose) came)
      (marks_heard code.rule m w (purpose_is x.purpose) came ∙ clear)
      (subst (λ (q : Local). ShowsWorker t w q (machine.after_exchange t w (purpose_is x.purpose) y messages)) (sym same)
      (shows_placed t w a z.steps.place z.way (machine.after_exchange t w (purpose_is x.purpose) y messages) (taken n s enough here)))
      (way y.uniform (ap (λ (q : UniformPart). machine.is_held q.put) here.worker.shows.uniform ∙ was)
      (ap (λ (q : UniformPart). q.count) here.worker.shows.uniform)
      ∙ (λ i. machine.decided (purpose_is x.purpose) y.uniform
      ((told ∙ sym (keys_heard code.rule m w (purpose_is x.purpose) came)) i) (way_is (still.way i))))
      place_is

  count_is : z.steps.uniform.count ≡ x.steps.uniform.count
  count_is = ap (λ (q : Local). q.steps.uniform.count) same ∙ still.count

  pub worker_is : z.steps.bank.worker ≡ x.steps.bank.worker
  worker_is = ap (λ (q : Local). q.steps.bank.worker) same ∙ still.worker

  pub output_is : z.steps.uniform.output ≡ x.steps.uniform.output
  output_is = ap (λ (q : Local). q.steps.uniform.output) same ∙ still.output

  -- where it goes on, it stands on the path
  verified_behind : (x.way ≡ ways.On → IsVerifiedAt code (record a.steps { place = x.steps.place + 1 })) → z.way ≡ ways.On →
      IsVerifiedAt code z.steps
  verified_behind verified on =
      let before = went_on x.purpose u key x.way z.way decides on in
      subst (λ (q : Local). IsVerifiedAt code q.steps) (sym same)
      (subst (λ p. IsVerifiedAt code (record a.steps { place = p }))
      (sym (place_is ∙ ap (λ v. place_behind v x.steps.place) before)) (verified before))

  pub going_behind : IsRunnable code m → ShowsTaken code m bound came x a → ForEachState code m bound x (λ n s. IsEquipped code m a) →
      (x.way ≡ ways.On → IsVerifiedAt code (record a.steps { place = x.steps.place + 1 })) → MayGoOnBehind code m bound x z
  going_behind runnable taken equipped verified going n s enough here =
      let t = setting code m bound n in
      let w = x.steps.bank.worker in
      let state = machine.after t w (machine.ready t w s) (messages_to code.rule m w (purpose_is x.purpose) came) in
      record {
        runnable = runnable;
        equipped = subst (IsEquipped code m) (sym same) (equipped_placed code m a z.steps.place z.way (equipped n s enough here));
        going = going;
        count = (let c = count_is in let few = at.count in omega (arith, c, few));
        verified = verified_behind verified;
        enough = n;
        is_enough = enough;
        state = state;
        shown = subst (λ v. IsShown t v z state) (sym worker_is) (shown_behind taken n s enough here);
      }

  pub left_behind : IsWellFormed code → machine.is_over (way_is z.way) ≡ false → left code bound z < left_at code bound x
  left_behind formed going =
      fewer_by x.purpose u key x.way z.way at.goes decides going (rank code bound x.steps) (rank code bound z.steps)
      (λ on.
      let p = place_is ∙ ap (λ v. place_behind v x.steps.place) on in
      subst (λ (q : ℕ × ℕ). rank_of code (bound - q.0) q.1 < rank code bound x.steps) (λ i. (sym count_is i, sym p i))
      (falls_behind code bound x.steps x.purpose formed (at.verified on) (at.stands on) (subst (λ v. GoesWith v x.purpose) on at.goes)))
