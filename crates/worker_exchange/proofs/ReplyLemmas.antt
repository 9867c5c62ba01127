-- What a worker shows behind a reply.
use Rattle.std.proofs.Common.{◌≡◌, ℕ, ◌+◌, ◌^◌, ◌<◌, ◌≤◌, List, [], ◌∷◌, map, length, take, Option, Some, None, ℤ}
use Rattle.std.proofs.Common.{refl, sym, ap, subst, ◌∙◌, arith, eqb, Vec, vec_capacity}
use Rattle.smallvec.specs.SmallVec.{SmallVec}
use Rattle.std.specs.Global.{Global}
use Rattle.std.specs.Prelude.{slice_get, slice_index_or, nat_lt, if◌then◌else◌}
use Rattle.std.specs.Int.{w64, cast_signed}
use Rattle.std.specs.List.{AllByRecursion, range_with_len}
use Rattle.std.proofs.lemmas.Int.{to_z-of_z}
use Rattle.std.proofs.lemmas.List.{length-map}
use Rattle.pram_model.specs.declared.rule.Rule.{Rule}
use Rattle.address_map.specs.Lawful.{Shape, IsLawful}
use Rattle.superstep_instructions.specs.declared.instr.Instr.TheVariants.{Reply}
use Rattle.superstep_instructions.specs.Code.{SuperstepCode}
use Rattle.superstep_machine.specs.declared.header.MessageHeader.{MessageHeader}
use Rattle.superstep_machine.specs.Setting.{Setting}
use Rattle.superstep_machine.specs.Parts.{PrivatePart}
use Rattle.superstep_machine.specs.Words.{Message, CellAsk, values_words}
use Rattle.superstep_machine.specs.Worker.{Worker}
use Rattle.superstep_machine.specs.Answering.{value_came, uniform_answered, own_answered, after_reply}
use Rattle.superstep_machine.specs.Fitting.{IsCellBelow}
use Rattle.superstep_machine.specs.Run.{Replies, is_held}
use Rattle.superstep_machine.proofs.Refused.{map_within}
use Rattle.instruction_steps.specs.declared.read.Read.{Read as HeldRead}
use Rattle.instruction_steps.specs.Views.{uniform_of, put_is}
use Rattle.bsp_verify.specs.declared.state.State.{State}
use Rattle.bsp_verify.specs.States.{after}
use Rattle.bsp_verify.specs.WellFormed.{IsWellFormed}
use Rattle.combining.specs.AllModules.{column, room_at}
use Rattle.combining.specs.Asked.{HeldAsk, IsAskBelow, replied, value_for}
use Rattle.combining.specs.Adding.{unanswered, asked_after}
use Rattle.combining.specs.Came.{all_replied, reply_words}
use Rattle.combining.proofs.Came.{values_are_machines}
use Rattle.worker_bank.specs.Masks.{masks_of}
use Rattle.worker_bank.specs.declared.masks.Masks.{Masks}
use Rattle.worker_steps.specs.declared.worker.WorkerState.{WorkerState}
use Rattle.worker_steps.specs.Shown.{cells_at, part_in, own_in}
use Rattle.worker_steps.specs.Fitted.{IsFitted}
use Rattle.worker_steps.specs.Met.{Describes, IsVerifiedAt}
use Rattle.worker_steps.proofs.FittedLemmas.{fitted_same}
use Rattle.worker_steps.proofs.ShownLemmas.{asked_same}
use Rattle.worker_steps.proofs.StretchLemmas.{verified_next}
use Rattle.worker_exchange.specs.Rows.{WrittenMessage}
use Rattle.worker_exchange.specs.Sends.{words_of}
use Rattle.worker_exchange.specs.declared.local.Local.{Local}
use Rattle.worker_exchange.specs.Shown.{cells_asked, ShowsWorker}
use Rattle.worker_exchange.specs.Equipped.{most_words, AreBuffers, IsAwaited, IsEquipped}
use Rattle.std.proofs.lemmas.Simd.{map-map}
use Rattle.worker_exchange.specs.Received.{received, messages_to}
use Rattle.worker_exchange.specs.Answered.{Gives, IsAnswered}
use Rattle.worker_exchange.proofs.BehindLemmas.{word_fits, values_read}

-- ---- the values that came

-- the words of the values that are read are taken as the words that came
words_replied : (part : ℕ → ℕ) (j : ℕ) (ws : List ℕ) (held : List HeldAsk) →
    replied part j (values_words (map (cast_signed w64) ws)) held ≡ replied part j ws held
words_replied part j ws [] = refl
words_replied part j [] (x ∷ rest) = refl
words_replied part j (w ∷ ws) (x ∷ rest) = λ i.
    if eqb (part x.ask.cell) j
    then record { ask = x.ask; value = to_z-of_z w64 (cast_signed w64 w) (word_fits w) i } ∷ words_replied part j ws rest i
    else x ∷ words_replied part j (w ∷ ws) rest i

all_words_replied : (rule : Rule) (m : Shape) (w j : ℕ) (came : List WrittenMessage) (held : List HeldAsk) →
    all_replied m.part j (reply_words (messages_to rule m w Replies came)) held
    ≡ all_replied m.part j (map (λ (r : MessageHeader × List ℕ). r.1) (received came)) held
all_words_replied rule m w j [] held = refl
all_words_replied rule m w j (x ∷ came) held =
    ap (all_replied m.part (j + 1) (reply_words (messages_to rule m w Replies came))) (words_replied m.part j x.words held)
    ∙ all_words_replied rule m w (j + 1) came (replied m.part j x.words held)

cells_below : (n m : ℕ) → n ≤ m → (xs : List CellAsk) → AllByRecursion (IsAskBelow n) (map unanswered xs) →
    AllByRecursion (λ (x : CellAsk). x.cell < m) xs
cells_below n m l [] h = tt
cells_below n m l (x ∷ xs) h = ((let c = h.0 in omega (arith, c, l)), cells_below n m l xs h.1)

-- with the asks that a worker sent come the values of the machine's worker
pub gives_values : (t : Setting) (w : ℕ) (y : Worker) (came : List WrittenMessage) (held : List HeldAsk) → IsLawful t.map →
    AllByRecursion (IsAskBelow t.map.count) held → held ≡ map unanswered y.wanted →
    Gives (all_replied t.map.part 0 (map (λ (r : MessageHeader × List ℕ). r.1) (received came)) held)
    (value_came t y (messages_to t.code.rule t.map w Replies came))
gives_values t w y came held lawful below is read cell low =
    let messages = messages_to t.code.rule t.map w Replies came in
    ap (value_for read cell) (sym (all_words_replied t.code.rule t.map w 0 came held))
    ∙ ap (λ h. value_for read cell (all_replied t.map.part 0 (reply_words messages) h)) is
    ∙ values_are_machines t y messages read cell
    (cells_below t.map.count (2 ^ 20) lawful.small y.wanted (subst (AllByRecursion (IsAskBelow t.map.count)) is below))
    (values_read t.code.rule t.map w Replies came) low

-- ---- cells of the map have 20 bits

pub cell_of_map : (n m : ℕ) → n ≤ m → (cell : Option ℕ) → IsCellBelow n cell → IsCellBelow m cell
cell_of_map n m l None h = tt
cell_of_map n m l (Some c) h = omega (arith, l, h)

pub cells_of_map : (n m : ℕ) → n ≤ m → (cells : List (Option ℕ)) → AllByRecursion (IsCellBelow n) cells →
    AllByRecursion (IsCellBelow m) cells
cells_of_map n m l [] h = tt
cells_of_map n m l (c ∷ cells) h = (cell_of_map n m l c h.0, cells_of_map n m l cells h.1)

pub reads_of_map : (n m registers many : ℕ) → n ≤ m → (reads : List HeldRead) → AllByRecursion (IsAwaited n registers many) reads →
    AllByRecursion (IsAwaited m registers many) reads
reads_of_map n m registers many l [] h = tt
reads_of_map n m registers many l (r ∷ reads) h = (
  record { cell = cell_of_map n m l r.cell h.0.cell; register = h.0.register; alone = h.0.alone },
  reads_of_map n m registers many l reads h.1,
)

-- ---- the worker that is shown

module _ (x y : WorkerState) (held : List HeldAsk) (done : IsAnswered held x y) (value : ℕ → ℕ → ℤ) (gives : Gives held value) where
  many_same : y.bank.masks.many ≡ x.bank.masks.many
  many_same = ap (λ (m : Masks). m.many) done.masks

  columns_same : y.asked ≡ x.asked
  columns_same = ap (λ (z : WorkerState). z.asked) done.rest

  -- one processor
  part_replied : (j : ℕ) → j < x.bank.masks.many →
      own_answered value (uniform_of x.uniform).awaited (part_in x j) ≡ part_in y j
  part_replied j l = λ i. record {
    registers = sym (done.own value j gives l) i;
    masks = masks_of (sym done.masks i) j;
    asks = cells_at (length (sym done.part.asks i).items) (sym columns_same i).items j;
    awaited = map (λ (v : Vec (Option ℕ) Global). slice_index_or v.items j None) (take (length (sym done.part.none i)) y.awaited.items);
  }

  pub own_replied : map (own_answered value (uniform_of x.uniform).awaited) (own_in x) ≡ own_in y
  own_replied =
      map-map (own_answered value (uniform_of x.uniform).awaited) (part_in x) (range_with_len 0 x.bank.masks.many)
      ∙ map_within (λ j. own_answered value (uniform_of x.uniform).awaited (part_in x j)) (part_in y) x.bank.masks.many 0
      (λ j l. part_replied j (omega (arith, l)))
      ∙ ap (λ n. map (part_in y) (range_with_len 0 n)) (sym many_same)

module _ (t : Setting) (w : ℕ) (x z : Local) (y : Worker) (messages : List Message) (held : List HeldAsk) (shows : ShowsWorker t w x y)
    (done : IsAnswered held x.steps z.steps) (gives : Gives held (value_came t y messages)) (cells : z.cells ≡ x.cells)
    (sent : z.sent.held ≡ []) (none : (j : ℕ) → column (words_of z.asked.items) j ≡ []) where
  abbrev value : ℕ → ℕ → ℤ
  value = value_came t y messages

  own_shown : map (own_answered value y.uniform.awaited) y.own ≡ own_in z.steps
  own_shown =
      (λ i. map (own_answered value (shows.shows.uniform i).awaited) (shows.shows.own i))
      ∙ own_replied x.steps z.steps held done value gives

  pub reply_shown : ShowsWorker t w z (after_reply t y messages)
  reply_shown = record {
    shows = record {
      uniform = ap (uniform_answered value) shows.shows.uniform ∙ sym (done.part.shown value gives);
      own = own_shown;
      key = shows.shows.key ∙ ap (λ (s : WorkerState). s.key) (sym done.rest);
      puts = shows.shows.puts ∙ ap (λ (s : WorkerState). s.puts.held) (sym done.rest);
      asks = ap (λ asks. asked_after asks [])
          (asked_same (after_reply t y messages) y (map-map (λ (p : PrivatePart). p.asks) (own_answered value y.uniform.awaited) y.own)
          refl)
          ∙ shows.shows.asks ∙ ap (λ (s : WorkerState). s.asks.held) (sym done.rest);
    };
    cells = shows.cells ∙ sym cells;
    sent = sent;
    taken = λ j. ap (cells_asked t.map w) (sym (none j));
  }

-- ---- it has room as before, and stands on the path of control

module _ (code : SuperstepCode) (x y : WorkerState) (held : List HeldAsk) (done : IsAnswered held x y) where
  pub fitted_replied : IsFitted code x → IsFitted code y
  fitted_replied f =
      subst (IsFitted code) (sym done.rest)
      (let g = fitted_same code x y.uniform y.bank x.key f done.bank done.same (ap (λ (m : Masks). m.many) done.masks) done.part.width
      (ap (λ (v : SmallVec HeldRead). length v.items) done.part.asks) done.part.reserve.registers in
      record {
        bank = g.bank;
        worker = g.worker;
        registers = g.registers;
        places = g.places;
        masks = g.masks;
        range = g.range;
        numbers = g.numbers;
        room = g.room;
        asked = g.asked;
        awaited = g.awaited;
        written = g.written;
        puts = g.puts;
        asks = g.asks;
        held = g.held;
      })

  describes_replied : (state : State) → Describes code state x → Describes code (after Reply state) (record y { place = x.place + 1 })
  describes_replied state d = record {
    outside = λ e. done.part.width ∙ d.outside e;
    narrow = subst (λ n. n ≤ code.procs) (sym done.part.width) d.narrow;
    masks = ap (λ (m : Masks). m.depth) done.masks ∙ d.masks;
    asks = ap (λ (v : SmallVec HeldRead). length v.items) done.part.asks ∙ d.asks;
    put = ap (λ o. is_held (put_is o)) done.part.put ∙ d.put;
    awaited = ap (λ (rs : List HeldRead). nat_lt 0 (length rs)) done.part.none;
  }

  pub verified_replied : IsWellFormed code → IsVerifiedAt code x → slice_get code.instructions x.place ≡ Some Reply →
      IsVerifiedAt code (record y { place = x.place + 1 })
  verified_replied formed v there =
      verified_next code x Reply formed v there (record y { place = x.place + 1 }) refl
      (λ state d allowed within. describes_replied state d)

-- no asks are kept, and as much room
module _ (code : SuperstepCode) (m : Shape) (x z : Local) (held : List HeldAsk) (done : IsAnswered held x.steps z.steps)
    (cells : z.cells ≡ x.cells) (sent : z.sent.held ≡ []) (room : z.sent.room ≡ x.sent.room)
    (none : (j : ℕ) → column (words_of z.asked.items) j ≡ []) (rooms : map vec_capacity z.asked.items ≡ map vec_capacity x.asked.items)
    (buffers : z.buffers ≡ x.buffers) (values : length z.values.items ≡ length x.values.items) where
  pub equipped_replied : IsEquipped code m x → IsEquipped code m z
  equipped_replied e =
      let most = done.same.most in
      record {
        fitted = fitted_replied code x.steps z.steps held done e.fitted;
        workers = done.same.workers ∙ e.workers;
        sent = (let r = e.sent in omega (arith, r, room, most));
        cells = ap length cells ∙ e.cells ∙ ap m.width (sym done.same.worker);
        asked = record {
          count = sym (length-map z.asked.items vec_capacity) ∙ ap length rooms ∙ length-map x.asked.items vec_capacity ∙ e.asked.count;
          room = λ j l. ap (λ rs. room_at rs j) rooms ∙ e.asked.room j l;
        };
        few = λ j. let n = ap length (none j) in omega (arith, n);
        buffers = subst (λ b. AreBuffers m.parts (most_words code m) b) (sym buffers) e.buffers;
        values = values ∙ e.values ∙ sym most;
        below = subst (AllByRecursion (IsAskBelow m.count)) (sym sent) tt;
      }
