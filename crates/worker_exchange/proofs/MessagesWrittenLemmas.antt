-- What a worker writes at an exchange are the messages of the machine's worker.
use Rattle.std.proofs.Common.{◌≡◌, ℕ, ◌<◌, ◌≤◌, List, [], ◌∷◌, map, length, false, Some, refl, sym, ap, subst, ◌∙◌, arith}
use Rattle.std.proofs.Common.{vec_capacity, pos, ℤ, ◌*◌}
use Rattle.std.specs.Prelude.{slice_index_or}
use Rattle.std.specs.List.{list_any}
use Rattle.std.proofs.lemmas.List.{length-map}
use Rattle.address_map.specs.Lawful.{Shape}
use Rattle.superstep_instructions.specs.Code.{SuperstepCode}
use Rattle.superstep_instructions.specs.Limits.{IsCode}
use Rattle.superstep_machine.specs.HeaderWords.{header_words}
use Rattle.superstep_machine.specs.Setting.{Setting, workers}
use Rattle.superstep_machine.specs.Steps.{is_active}
use Rattle.superstep_machine.specs.Words.{CellAsk, values_words, words}
use Rattle.superstep_machine.specs.WordReading.{header_of, asks_in, read_message}
use Rattle.superstep_machine.specs.WordLaws.{IsReadBack}
use Rattle.superstep_machine.specs.declared.key.Key.{Key}
use Rattle.superstep_machine.specs.HeaderWords.{FitsKey}
use Rattle.superstep_machine.specs.Fitting.{FitsWorker}
use Rattle.superstep_machine.proofs.HeaderBack.{given_back}
use Rattle.superstep_machine.proofs.MachineWords.{sent_back, replied_back, voted_back, closing_back}
use Rattle.superstep_machine.specs.Worker.{Worker}
use Rattle.superstep_machine.specs.Sending.{sent}
use Rattle.superstep_machine.specs.Answering.{replied, voted, closing}
use Rattle.superstep_machine.specs.Run as machine
use Rattle.superstep_machine.specs.Run.{setting}
use Rattle.bsp_verify.specs.WellFormed.{IsWellFormed}
use Rattle.machine_limits.specs.Within.{words_for_each, share}
use Rattle.flat_machine.specs.Flatness.{IsMapFor}
use Rattle.combining.specs.AllModules.{column, room_at}
use Rattle.combining.specs.Answers.{answers}
use Rattle.worker_steps.specs.Shown.{own_in}
use Rattle.worker_exchange.specs.Rows.{WrittenMessage, written, IsRow}
use Rattle.worker_exchange.specs.Sends.{words_of, header_with, reply_message, CanBeWritten}
use Rattle.superstep_machine.specs.declared.purpose.Purpose.{Purpose}
use Rattle.superstep_machine.specs.declared.purpose.Purpose.TheVariants as purposes
use Rattle.worker_exchange.specs.declared.buffers.Buffers.{Buffers}
use Rattle.worker_exchange.specs.declared.way.Way.{Way}
use Rattle.worker_exchange.specs.declared.way.Way.TheVariants as ways
use Rattle.worker_exchange.specs.declared.local.Local.{Local}
use Rattle.superstep_machine.specs.Purposes.{purpose_is}
use Rattle.worker_exchange.specs.Shown.{way_is, marked, ShowsWorker, IsAtExchange}
use Rattle.worker_exchange.specs.Equipped.{most_words, AreBuffers, MayGoOn, IsAtStep}
use Rattle.worker_exchange.specs.Arrived.{HasArrived, CanTell}
use Rattle.worker_exchange.specs.MessagesWritten.{IsWrittenFor, told_in_send, told_alone, told_at, told}
use Rattle.worker_exchange.proofs.ReachedLemmas.{IsPathed, exchange_pathed}
use Rattle.worker_exchange.proofs.WrittenLemmas.{fits, puts_to, words_are, can_be_written, words_small, share_small}

-- ---- one message

told_sent : (t : Setting) (code : IsCode t.code) (room : IsMapFor t.code t.map) (w : ℕ) → w < workers t → (x : Local) (y : Worker) →
    IsPathed t w y → ShowsWorker t w x y → (j : ℕ) → told_in_send t.code.rule t.map x.steps j ≡ written t.code.rule (sent t y j)
told_sent t code room w l x y p shows j = λ i. record {
  header = header_words (header_with (sym shows.shows.key i) (length (puts_to t code room w l x.steps y p shows.shows j i)));
  words = words_are t code room w l x.steps y p shows.shows j i;
}

values_alone : (f : ℕ → ℤ) (asks : List CellAsk) → map f (map (λ (x : CellAsk). x.cell) asks) ≡ map (λ (x : CellAsk). f x.cell) asks
values_alone f [] = refl
values_alone f (x ∷ asks) = ap (λ zs. f x.cell ∷ zs) (values_alone f asks)

told_replied : (t : Setting) (w : ℕ) (x : Local) (y : Worker) → ShowsWorker t w x y → (j : ℕ) →
    reply_message x.steps.key t.map w x.cells (words_of x.asked.items) j ≡ written t.code.rule (replied t y j)
told_replied t w x y shows j =
    let asked = column (words_of x.asked.items) j in
    let value = λ (cells : List ℤ) (c : ℕ). slice_index_or cells (t.map.offset c) (pos 0) in
    let e : answers t.map w x.cells asked ≡ values_words (map (value y.cells) (slice_index_or y.taken j [])) =
    ap values_words (sym (values_alone (value x.cells) (asks_in t.map w asked)))
    ∙ (λ i. values_words (map (value (sym shows.cells i)) (sym (shows.taken j) i))) in
    λ i. record { header = header_words (header_with (sym shows.shows.key i) 0); words = e i }

told_voted : (t : Setting) (w : ℕ) (x : Local) (y : Worker) → ShowsWorker t w x y → (j : ℕ) →
    told_alone (record (header_with x.steps.key 0) { active = list_any is_active (own_in x.steps) }) j ≡ written t.code.rule (voted y)
told_voted t w x y shows j = λ i. record {
  header = header_words (record (header_with (sym shows.shows.key i) 0) { active = list_any is_active (sym shows.shows.own i) });
  words = [];
}

told_closing : (t : Setting) (w : ℕ) (x : Local) (y : Worker) → ShowsWorker t w x y → (j : ℕ) →
    told_alone (header_with x.steps.key 0) j ≡ written t.code.rule (closing y)
told_closing t w x y shows j = λ i. record { header = header_words (header_with (sym shows.shows.key i) 0); words = [] }

-- ---- at an exchange

module _ (t : Setting) (code : IsCode t.code) (room : IsMapFor t.code t.map) (formed : IsWellFormed t.code) (w : ℕ) (l : w < workers t)
    (x : Local) (s : machine.State) (at : IsAtExchange t w x s) (here : x.steps.bank.worker ≡ w) where
  abbrev y : Worker
  y = (machine.ready t w s).state.worker

  pathed : (purpose : Purpose) → x.purpose ≡ purpose → (purpose_is purpose ≡ machine.Closes → ⊥) → IsPathed t w y
  pathed purpose e h = exchange_pathed t code room formed w at.exchanges s at.reached at.clear
      (λ closes. h (sym (at.purpose ∙ ap purpose_is e) ∙ closes))

  fits_at : (purpose : Purpose) → x.purpose ≡ purpose → (purpose_is purpose ≡ machine.Closes → ⊥) → FitsWorker t y
  fits_at purpose e h = fits t code room w l x.steps y (pathed purpose e h) at.worker.shows

  message_is : (j : ℕ) → machine.message_of t w s j ≡ machine.message_for t (purpose_is x.purpose) y j
  message_is j =
      ap (λ ms. machine.message_with t (machine.ready t w s) j (machine.mark_now ms)) at.clear
      ∙ ap (λ p. machine.message_for t p y j) at.purpose

  told_for : (purpose : Purpose) → x.purpose ≡ purpose → (j : ℕ) →
      told_at t.code.rule t.map purpose x j ≡ written t.code.rule (machine.message_for t (purpose_is purpose) y j)
  told_for purposes.Send e j = told_sent t code room w l x y (pathed purposes.Send e (λ h. cc)) at.worker j
  told_for purposes.Reply e j =
      ap (λ v. reply_message x.steps.key t.map v x.cells (words_of x.asked.items) j) here ∙ told_replied t w x y at.worker j
  told_for (purposes.Vote d) e j = told_voted t w x y at.worker j
  told_for purposes.Close e j = told_closing t w x y at.worker j

  pub told_is : (j : ℕ) → told t.code.rule t.map x j ≡ written t.code.rule (machine.message_of t w s j)
  told_is j = told_for x.purpose refl j ∙ ap (written t.code.rule) (sym (message_is j))

  -- each is read back from its words
  back_for : (purpose : Purpose) → x.purpose ≡ purpose → (j : ℕ) →
      IsReadBack t.code.rule t.map j (purpose_is purpose) (machine.message_for t (purpose_is purpose) y j)
  back_for purposes.Send e j = sent_back t y j (fits_at purposes.Send e (λ h. cc))
  back_for purposes.Reply e j = replied_back t y j (fits_at purposes.Reply e (λ h. cc))
  back_for (purposes.Vote d) e j = voted_back t y j d
  back_for purposes.Close e j = closing_back t y j

  key_for : (purpose : Purpose) (j : ℕ) → (machine.message_for t (purpose_is purpose) y j).key ≡ y.key
  key_for purposes.Send j = refl
  key_for purposes.Reply j = refl
  key_for (purposes.Vote d) j = refl
  key_for purposes.Close j = refl

  pub told_back : ((key : Key) → x.steps.key ≡ Some key → FitsKey key) → (j : ℕ) →
      IsWrittenFor t.code.rule t.map j (purpose_is x.purpose) (machine.message_of t w s j)
      (written t.code.rule (machine.message_of t w s j))
  told_back keys j =
      let m = machine.message_for t (purpose_is x.purpose) y j in
      subst (λ q. IsWrittenFor t.code.rule t.map j (purpose_is x.purpose) q (written t.code.rule q)) (sym (message_is j))
      (ap (λ h. read_message t.code.rule t.map j (purpose_is x.purpose) h (words t.code.rule m))
      (given_back (header_of m) (λ key e. keys key (sym at.worker.shows.key ∙ sym (key_for x.purpose j) ∙ e)))
      ∙ back_for x.purpose refl j)

  pub held_can : (rooms : List ℕ) → length rooms ≡ t.map.parts →
      ((j : ℕ) → j < t.map.parts → room_at rooms j ≡ words_for_each t.code.rule * share t) → x.purpose ≡ purposes.Send →
      CanBeWritten t.code.rule t.map rooms x.steps.puts.held x.steps.asks.held
  held_can rooms count each e = can_be_written t code room w l x.steps y (pathed purposes.Send e (λ h. cc)) at.worker.shows rooms count each

-- a row of the messages
pub same_row : (p : ℕ) (one other : ℕ → WrittenMessage) (row : List WrittenMessage) → ((j : ℕ) → one j ≡ other j) → IsRow p one row →
    IsRow p other row
same_row p one other row e h = record { long = h.long; each = λ j l. h.each j l ∙ e j }

-- ---- it can write them

pub can_tell : (code : SuperstepCode) (m : Shape) (bound : ℕ) (a b : Local) (room : ℕ) → IsCode code → MayGoOn code m bound a →
    HasArrived code m bound a b → most_words code m ≤ room → CanTell code.rule m room b
can_tell code m bound a b room is go arrived enough =
    let e = arrived.at.equipped in
    let t = setting code m bound go.enough in
    let w = a.steps.bank.worker in
    let same = arrived.worker in
    let below : b.steps.bank.worker < m.parts = (let f = e.fitted.worker in let n = e.workers in omega (arith, f, n)) in
    record {
      worker = below;
      bank = e.fitted.bank;
      cells = e.cells;
      asked = e.asked.count;
      few = λ j. let n = e.few j in let r = e.buffers.reply in omega (arith, n, r);
      reply = (let r = e.buffers.reply in omega (arith, r, enough));
      short = (let r = e.buffers.reply in
          let s = words_small code.rule (share t) (share_small t is go.runnable.map) in omega (arith, r, s));
      counts = e.buffers.counts;
      rooms = λ j l. let r = e.buffers.words.room j l in omega (arith, r, enough);
      held = held_can t is go.runnable.map go.runnable.formed w (omega (arith, same, below)) b go.state
          (arrived.shown go.enough go.state go.is_enough go.shown) same (map vec_capacity b.buffers.words.items)
          (length-map b.buffers.words.items vec_capacity ∙ e.buffers.words.count) e.buffers.words.room;
    }

-- ---- what the words of messages are written to is no part of what is shown

module _ (b : Local) (z : Buffers) where
  pub still_at : (t : Setting) (w : ℕ) (s : machine.State) → IsAtExchange t w b s → IsAtExchange t w (record b { buffers = z }) s
  still_at t w s h = record {
    exchanges = h.exchanges;
    reached = h.reached;
    purpose = h.purpose;
    way = h.way;
    place = h.place;
    clear = h.clear;
    worker = (let q = h.worker in record { shows = q.shows; cells = q.cells; sent = q.sent; taken = q.taken });
  }

  pub still_stands : (code : SuperstepCode) (m : Shape) (bound : ℕ) → IsAtStep code m bound b → AreBuffers m.parts (most_words code m) z →
      IsAtStep code m bound (record b { buffers = z })
  still_stands code m bound h buffers = record {
    equipped = (let e = h.equipped in record {
      fitted = e.fitted;
      workers = e.workers;
      sent = e.sent;
      cells = e.cells;
      asked = e.asked;
      few = e.few;
      buffers = buffers;
      values = e.values;
      below = e.below;
    });
    going = h.going;
    count = h.count;
    verified = h.verified;
    stands = h.stands;
    goes = h.goes;
    few = h.few;
    awaited = λ e. let q = h.awaited e in record { few = q.few; places = q.places; reads = q.reads; own = q.own };
  }

-- ---- marks

pub unmarked : (way : Way) (s : machine.State) → machine.is_over (way_is way) ≡ false → marked way s ≡ s
unmarked ways.On s h = refl
unmarked (ways.Ending ended) s h = refl
unmarked (ways.Past key ended) s h = refl
unmarked (ways.Stopped mark) s h = absurd (cc h)
