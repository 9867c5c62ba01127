-- What a worker shows behind a send.
use Rattle.std.proofs.Common.{◌≡◌, ℕ, zero, suc, ◌<◌, List, [], ◌∷◌, map, length, Option, refl, sym, ap, ◌∙◌, arith}
use Rattle.std.specs.Prelude.{slice_index_or}
use Rattle.std.specs.List.{range_with_len}
use Rattle.pram_model.specs.declared.rule.Rule.{Rule}
use Rattle.address_map.specs.Lawful.{Shape}
use Rattle.superstep_machine.specs.declared.key.Key.{Key}
use Rattle.superstep_machine.specs.Keys.{least}
use Rattle.superstep_machine.specs.Setting.{Setting}
use Rattle.superstep_machine.specs.HeaderWords.{read_header}
use Rattle.superstep_machine.specs.Words.{CellAsk, Message}
use Rattle.superstep_machine.specs.WordReading.{ask_part}
use Rattle.superstep_machine.specs.Worker.{Worker}
use Rattle.superstep_machine.specs.Sending.{asks_held, conflicts, uniform_sent, own_sent, after_send}
use Rattle.superstep_machine.specs.Run.{Sends}
use Rattle.instruction_steps.specs.Views.{uniform_of}
use Rattle.worker_bank.specs.Bank.{part_at}
use Rattle.combining.specs.AllModules.{column}
use Rattle.combining.specs.Adding.{unanswered}
use Rattle.worker_steps.specs.declared.worker.WorkerState.{WorkerState}
use Rattle.worker_steps.specs.Shown.{cells_at, part_in, own_in}
use Rattle.worker_exchange.specs.Rows.{WrittenMessage, message_at}
use Rattle.worker_exchange.specs.Sends.{words_of}
use Rattle.worker_exchange.specs.declared.local.Local.{Local}
use Rattle.worker_exchange.specs.Shown.{cells_asked, ShowsWorker}
use Rattle.std.proofs.lemmas.Simd.{map-map}
use Rattle.worker_exchange.specs.Received.{messages_to}
use Rattle.worker_exchange.specs.Settled.{IsSettled}
use Rattle.worker_exchange.specs.Taken.{IsSentWorker}

-- the cells that each worker asked for
pub taken_are : (rule : Rule) (m : Shape) (w : ℕ) (came : List WrittenMessage) (columns : List (List ℕ)) → length columns ≡ length came →
    ((j : ℕ) → j < length came → column columns j ≡ ask_part rule (read_header (message_at came j).header) (message_at came j).words) →
    (j : ℕ) → slice_index_or (map (λ (x : Message). map (λ (a : CellAsk). a.cell) x.asks) (messages_to rule m w Sends came)) j []
    ≡ cells_asked m w (column columns j)
taken_are rule m w [] [] l h j = refl
taken_are rule m w [] (ws ∷ columns) l h j = absurd (omega (arith, l))
taken_are rule m w (x ∷ came) [] l h j = absurd (omega (arith, l))
taken_are rule m w (x ∷ came) (ws ∷ columns) l h zero = ap (cells_asked m w) (sym (h 0 (omega arith)))
taken_are rule m w (x ∷ came) (ws ∷ columns) l h (suc j) =
    taken_are rule m w came columns (omega (arith, l)) (λ k b. h (suc k) (omega (arith, b))) j

module _ (x y : WorkerState) (noted : Option Key) (sent : IsSentWorker x y noted) where
  -- one processor: the cells of its reads are awaited
  part_sent : (j : ℕ) → own_sent (part_in x j) ≡ part_in y j
  part_sent j = λ i.
      part_at (sym sent.bank i) (cells_at (length (sym sent.uniform.asks i)) (sym sent.asked i).items j)
      (cells_at (length (sym sent.uniform.awaited i)) (sym sent.awaited i).items j) j

  own_is_sent : map own_sent (own_in x) ≡ own_in y
  own_is_sent =
      map-map own_sent (part_in x) (range_with_len 0 x.bank.masks.many)
      ∙ (λ i. map (λ j. part_sent j i) (range_with_len 0 (sym sent.bank i).masks.many))

module _ (t : Setting) (w : ℕ) (x z : Local) (y : Worker) (messages : List Message) (noted : Option Key) (shows : ShowsWorker t w x y)
    (asks : x.steps.asks.held ≡ map unanswered (asks_held y)) (sent : IsSentWorker x.steps z.steps noted)
    (settled : IsSettled t w (uniform_of x.steps.uniform) messages x.cells z.cells noted) (kept : z.sent.held ≡ x.steps.asks.held)
    (taken : (j : ℕ) → slice_index_or (map (λ (m : Message). map (λ (a : CellAsk). a.cell) m.asks) messages) j []
    ≡ cells_asked t.map w (column (words_of z.asked.items) j)) where
  pub sent_shown : ShowsWorker t w z (after_send t w y messages)
  sent_shown = record {
    shows = record {
      uniform = ap uniform_sent shows.shows.uniform ∙ sym sent.uniform.shown;
      own = ap (map own_sent) shows.shows.own ∙ own_is_sent x.steps z.steps noted sent;
      key = (λ i. least (shows.shows.key i) (conflicts t w (shows.shows.uniform i) messages)) ∙ ap (least x.steps.key) settled.key
          ∙ sym sent.key;
      puts = sym sent.puts;
      asks = sym sent.asks;
    };
    cells = settled.cells y shows.cells;
    sent = kept ∙ asks;
    taken = taken;
  }
