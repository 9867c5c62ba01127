-- A worker that is short of memory in a stretch comes past its items there.
use Rattle.std.proofs.Common.{◌≡◌, ℕ, ◌<◌, length, refl, sym, ap, subst, ◌∙◌, arith}
use Rattle.address_map.specs.Lawful.{Shape}
use Rattle.superstep_instructions.specs.Code.{SuperstepCode}
use Rattle.superstep_machine.specs.Stretch.{Stop, ToSend, ToReply, ToVote, ToClose, At}
use Rattle.superstep_machine.specs.Worker.{Worker}
use Rattle.superstep_machine.specs.Run as machine
use Rattle.superstep_machine.specs.Run.{setting}
use Rattle.worker_steps.specs.Stretch.{rank, stretch_by, PrintsPast}
use Rattle.worker_exchange.specs.declared.way.Way.TheVariants as ways
use Rattle.worker_exchange.specs.declared.local.Local.{Local}
use Rattle.worker_exchange.specs.Shown.{way_is}
use Rattle.worker_exchange.specs.Equipped.{MayGoOn}
use Rattle.worker_exchange.specs.Arrived.{ComesPast}
use Rattle.worker_exchange.proofs.ArrivedLemmas.{ready_is, rank_most}

worker_there : (s : machine.State) (stop : Stop) (place : ℕ) (z : Worker) → (machine.ready_at s (At stop place z)).state.worker ≡ z
worker_there s ToSend place z = refl
worker_there s ToReply place z = refl
worker_there s (ToVote d) place z = refl
worker_there s (ToClose ended) place z = refl

pub comes_past : (code : SuperstepCode) (m : Shape) (bound : ℕ) (a : Local) (items : ℕ) → a.way ≡ ways.On → MayGoOn code m bound a →
    PrintsPast code bound a.steps items → ComesPast code m bound a items
comes_past code m bound a items on go past n s enough sh =
    let t = setting code m bound n in
    let w = a.steps.bank.worker in
    let lt : rank code bound a.steps < n = (let r = rank_most code bound a.steps in omega (arith, r, enough)) in
    let k = past t s.worker n (record {
      code_is = refl;
      bound_is = refl;
      as_many = sym go.equipped.workers;
      shows = sh.worker.shows;
    }) lt in
    let at : machine.stretch t w s ≡ At k.stop k.there k.worker = ap (λ p. stretch_by t w n p s.worker) sh.place ∙ k.at in
    let is : machine.ready t w s ≡ machine.ready_at s (At k.stop k.there k.worker) =
    ready_is t w s sh.clear ∙ ap (machine.ready_by t w s) (sh.way ∙ ap way_is on) ∙ ap (machine.ready_at s) at in
    subst (λ (z : Worker). items < length z.uniform.output)
    (sym (ap (λ (r : machine.Ready). r.state.worker) is ∙ worker_there s k.stop k.there k.worker)) k.more
