-- More room changes nothing else.
use Rattle.std.proofs.Common.{ℕ, ◌+◌, ◌*◌, ◌<◌, ◌≤◌, ◌∙◌, List, length, map, ap, sym, subst}
use Rattle.std.specs.Prelude.{nat_lt}
use Rattle.std.specs.List.{range_with_len}
use Rattle.address_map.specs.Lawful.{Shape}
use Rattle.superstep_instructions.specs.Code.{SuperstepCode}
use Rattle.pram_model.specs.declared.rule.Rule.{Rule}
use Rattle.superstep_machine.specs.Worker.{Worker}
use Rattle.superstep_machine.specs.Setting.{Setting, processors}
use Rattle.superstep_machine.specs.Parts.{PrivatePart}
use Rattle.superstep_machine.specs.Run.{State, is_held}
use Rattle.instruction_steps.specs.declared.read.Read.{Read}
use Rattle.instruction_steps.specs.declared.uniform.UniformState.{UniformState}
use Rattle.instruction_steps.specs.Views.{put_is, IsRoomier}
use Rattle.worker_bank.specs.Bank.{part_at, number_of}
use Rattle.worker_steps.specs.declared.worker.WorkerState.{WorkerState}
use Rattle.worker_steps.specs.Shown.{cells_at, Shows}
use Rattle.worker_steps.specs.Fitted.{IsFitted}
use Rattle.worker_steps.specs.Met.{IsVerifiedAt}
use Rattle.worker_exchange.specs.declared.local.Local.{Local}
use Rattle.worker_exchange.specs.Shown.{IsShown}
use Rattle.worker_exchange.specs.Equipped.{MayGoOn}

abbrev roomy : WorkerState → UniformState → WorkerState
roomy y u = record y { uniform = u }

module _ (code : SuperstepCode) (y : WorkerState) (u : UniformState) (same : IsRoomier y.uniform u) where
  abbrev part_by : List Read → List Read → ℕ → PrivatePart
  part_by asks awaited j =
      part_at y.bank (cells_at (length asks) y.asked.items j) (cells_at (length awaited) y.awaited.items j) j

  still_shows : (rule : Rule) (s : Worker) → Shows rule y s → Shows rule (roomy y u) s
  still_shows rule s q = record {
    uniform = q.uniform ∙ sym same.shown;
    own = q.own ∙ (λ i. map (part_by (sym same.asks i) (sym same.awaited i)) (range_with_len 0 y.bank.masks.many));
    key = q.key;
    puts = q.puts;
    asks = q.asks;
  }

  still_fitted : IsFitted code y → IsFitted code (roomy y u)
  still_fitted f = record {
    bank = f.bank;
    worker = f.worker;
    registers = f.registers;
    places = subst (λ n. code.uniform_registers ≤ n) (sym same.registers) f.places;
    masks = f.masks;
    range = λ t e. ap (processors t y.bank.worker) same.width ∙ f.range t e;
    numbers = λ j l. subst (λ n. number_of y.bank j < n) (sym same.width) (f.numbers j l);
    room = f.room;
    asked = f.asked;
    awaited = f.awaited;
    written = f.written;
    puts = f.puts;
    asks = f.asks;
    held = subst (λ (reads : List Read). length y.asks.held ≤ length reads * (y.bank.masks.most + 1)) (sym same.asks) f.held;
  }

  still_verified : IsVerifiedAt code y → IsVerifiedAt code (roomy y u)
  still_verified v = record {
    steps = v.steps;
    point = v.point;
    comes = v.comes;
    here = v.here;
    describes = (let d = v.describes in record {
      outside = λ e. same.width ∙ d.outside e;
      narrow = subst (λ n. n ≤ code.procs) (sym same.width) d.narrow;
      masks = d.masks;
      asks = ap length same.asks ∙ d.asks;
      put = ap (λ o. is_held (put_is o)) same.put ∙ d.put;
      awaited = ap (λ (reads : List Read). nat_lt 0 (length reads)) same.awaited ∙ d.awaited;
    });
  }

-- ---- a worker of a run

module _ (x : Local) (u : UniformState) (same : IsRoomier x.steps.uniform u) where
  abbrev pub roomier : Local
  roomier = record x { steps = roomy x.steps u }

  pub still_shown : (t : Setting) (w : ℕ) (s : State) → IsShown t w x s → IsShown t w roomier s
  still_shown t w s h = record {
    exchanges = h.exchanges;
    reached = h.reached;
    way = h.way;
    place = h.place;
    clear = h.clear;
    worker = record {
      shows = still_shows t.code x.steps u same t.code.rule s.worker h.worker.shows;
      cells = h.worker.cells;
      sent = h.worker.sent;
      taken = h.worker.taken;
    };
  }

  pub still_going_on : (code : SuperstepCode) (m : Shape) (bound : ℕ) → MayGoOn code m bound x → MayGoOn code m bound roomier
  still_going_on code m bound go =
      let e = go.equipped in record {
        runnable = go.runnable;
        equipped = record {
          fitted = still_fitted code x.steps u same e.fitted;
          workers = e.workers;
          sent = e.sent;
          cells = e.cells;
          asked = e.asked;
          few = e.few;
          buffers = e.buffers;
          values = e.values;
          below = e.below;
        };
        going = go.going;
        count = subst (λ n. n ≤ bound) (sym same.count) go.count;
        verified = λ on. still_verified code x.steps u same (go.verified on);
        enough = go.enough;
        is_enough = go.is_enough;
        state = go.state;
        shown = still_shown _ _ go.state go.shown;
      }
