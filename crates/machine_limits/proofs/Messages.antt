-- Messages of runs of verified code can be sent, in few words.
use Rattle.std.proofs.Common.{◌≡◌, ℕ, zero, suc, ◌+◌, ◌*◌, ◌<◌, ◌≤◌, List, [], ◌∷◌, ◌++◌, map, length, Bool, true, false, not, cond, eqb}
use Rattle.std.proofs.Common.{Option, None, ℤ, pos, refl, sym, ap, ◌∙◌, subst, arith}
use Rattle.std.specs.Prelude.{if◌then◌else◌, slice_index_or}
use Rattle.std.specs.List.{AllByRecursion, filter, flat_map, range_with_len}
use Rattle.std.proofs.lemmas.List.{length-append, length-map}
use Rattle.std.proofs.Math.Nat.{mul-le-mul_left}
use Rattle.pram_model.specs.declared.rule.Rule.{Rule}
use Rattle.pram_model.specs.declared.rule.Rule.TheVariants.{Erew, Crew, Common, Priority, Sum}
use Rattle.superstep_machine.specs.declared.mark.HeaderMark.{HeaderMark}
use Rattle.superstep_machine.specs.declared.mark.HeaderMark.TheVariants.{Clear, OutOfMemory, OutOfReserve}
use Rattle.superstep_instructions.specs.declared.instr.Instr.{Instr}
use Rattle.superstep_instructions.specs.Limits.{IsCode, IsInstr}
use Rattle.superstep_machine.specs.Setting.{Setting, workers, processors}
use Rattle.superstep_machine.specs.Parts.{Read, PrivatePart}
use Rattle.superstep_machine.specs.Words.{CellPut, CellAsk, Message, put_words, ask_words, values_words, words}
use Rattle.superstep_machine.specs.WordReading.{put_length}
use Rattle.superstep_machine.proofs.WordLengths.{length-ask_words, length-values_words}
use Rattle.superstep_machine.specs.Worker.{HeldWrite, Worker, after_instr}
use Rattle.superstep_machine.specs.Stretch.{ToSend, ToReply, ToVote, ToClose, Arrival, Nowhere, At}
use Rattle.superstep_machine.specs.Machine.{phase, phases, column}
use Rattle.superstep_machine.specs.Sending.{firsts, present, cell_at, put_of, entry_held, puts_held, cells_asked, asked_twice, asks_from}
use Rattle.superstep_machine.specs.Sending.{asks_held, sent}
use Rattle.superstep_machine.specs.Answering.{replied, voted, closing}
use Rattle.superstep_machine.specs.Run.{Purpose, Sends, Replies, Votes, Closes, Way, On, Ending, Past, Refused, Lost, State, Ready, is_held}
use Rattle.superstep_machine.specs.Run.{mark_now, no_worker, stretch, ready, ready_at, ready_by, ready_with, message_for, message_with}
use Rattle.superstep_machine.specs.Run.{message_of, mark_of, after_exchange, after_with, after, bsp}
use Rattle.superstep_machine.specs.Refusals.{opening_with}
use Rattle.superstep_machine.proofs.ReadBack.{message_back, put_long}
use Rattle.superstep_machine.specs.Fitting.{CanBeSent, FitsWrite, FitsWorker, IsCellBelow}
use Rattle.superstep_machine.proofs.MachineWords.{all_map, sent_can, replied_can}
use Rattle.bsp_verify.specs.declared.state.State as states
use Rattle.bsp_verify.specs.WellFormed.{IsWellFormed}
use Rattle.bsp_verify.specs.Paths.{IsWithin}
use Rattle.bsp_verify.specs.Moments.{side_of, DescribesWorker}
use Rattle.bsp_verify.proofs.PathLemmas.{paths_sound}
use Rattle.std.proofs.lemmas.List.{nil_from_length}
use Rattle.bsp_verify.proofs.RunLemmas.{Arrives, Agrees, follow, next_agrees, begins}
use Rattle.flat_machine.specs.Flatness.{IsMapFor}
use Rattle.machine_limits.specs.Within.{AreValues, share, words_for_each, marked_after, MessagesCanBeSent, MessagesAreReadBack}
use Rattle.machine_limits.specs.Within.{MessagesAreShort}
use Rattle.machine_limits.proofs.Shares.{some_share}
use Rattle.machine_limits.proofs.Keeping.{IsReadBelow, IsWriteBelow, IsOwnKept, IsKept, length-filter_map}
use Rattle.machine_limits.proofs.Runs.{KeptAt, until_kept, ready_kept, all_also, none_kept, keeps, exchange_kept, column_values}
use Rattle.machine_limits.proofs.Runs.{opening_kept}

-- ---- lengths

length-kept : {A : Type 0} (test : A → Bool) (xs : List A) → length (filter test xs) ≤ length xs
length-kept test [] = omega arith
length-kept test (x ∷ xs) = go (test x) (length-kept test xs)
  where
    go : (b : Bool) → length (filter test xs) ≤ length xs → length (cond b (x ∷ filter test xs) (filter test xs)) ≤ suc (length xs)
    go true h = omega (arith, h)
    go false h = omega (arith, h)

length-firsts : (xs : List ℕ) → length (firsts xs) ≤ length xs
length-firsts [] = omega arith
length-firsts (x ∷ xs) = let h = length-firsts xs in let k = length-kept (λ y. not (eqb x y)) (firsts xs) in omega (arith, h, k)

length-puts : (rule : Rule) (xs : List CellPut) → length (flat_map (put_words rule) xs) ≡ put_length rule * length xs
length-puts rule [] = let z : 0 ≡ put_length rule * 0 = grind arith in z
length-puts rule (x ∷ xs) =
    let z : put_length rule + put_length rule * length xs ≡ put_length rule * suc (length xs) = grind arith in
    length-append (put_words rule x) (flat_map (put_words rule) xs)
    ∙ ap (λ n. n + length (flat_map (put_words rule) xs)) (put_long rule x)
    ∙ ap (λ n. put_length rule + n) (length-puts rule xs) ∙ z

for_each : (rule : Rule) → words_for_each rule ≡ 8 + put_length rule
for_each Erew = refl
for_each Crew = refl
for_each Common = refl
for_each Priority = refl
for_each Sum = refl

-- eight asks and one put for each of n, or as many values as asks
few_words : (rule : Rule) (m : Message) (n : ℕ) → length m.puts ≤ n → length m.asks + length m.values ≤ 8 * n →
    length (words rule m) ≤ words_for_each rule * n
few_words rule m n p a =
    let e = length-append (flat_map (put_words rule) m.puts) (ask_words m.asks ++ values_words m.values) in
    let f = length-append (ask_words m.asks) (values_words m.values) in
    let g = length-puts rule m.puts in
    let h = length-ask_words m.asks in
    let k = length-values_words m.values in
    let l = mul-le-mul_left (put_length rule) p in
    let z : words_for_each rule * n ≡ 8 * n + put_length rule * n =
    (let y = for_each rule in ap (λ q. q * n) y ∙ (let x : (8 + put_length rule) * n ≡ 8 * n + put_length rule * n = grind arith in
    x)) in
    omega (arith, e, f, g, h, k, l, z, a)

-- ---- one worker

all_two : {A : Type 0} (P Q : A → Type 0) (xs : List A) → AllByRecursion P xs → AllByRecursion Q xs → AllByRecursion (λ x. P x × Q x) xs
all_two P Q [] h k = tt
all_two P Q (x ∷ xs) h k = ((h.0, k.0), all_two P Q xs h.1 k.1)

module _ (t : Setting) where
  pub record MessageFits (j : ℕ) (purpose : Purpose) (m : Message) : Type 0 where
    pub can : CanBeSent t.code.rule t.map j purpose m
    pub asks : length m.asks ≤ 8 * share t
    pub short : length (words t.code.rule m) ≤ words_for_each t.code.rule * share t

  -- without words
  bare : (j : ℕ) (purpose : Purpose) (m : Message) → CanBeSent t.code.rule t.map j purpose m → m.puts ≡ [] → m.asks ≡ [] →
      m.values ≡ [] → MessageFits j purpose m
  bare j purpose m c p a v =
      let x = ap (λ (l : List CellPut). length l) p in
      let y = ap (λ (l : List CellAsk). length l) a in
      let z = ap (λ (l : List ℤ). length l) v in record {
        can = c;
        asks = omega (arith, y);
        short = few_words t.code.rule m (share t) (omega (arith, x)) (omega (arith, y, z));
      }

  -- no module was asked for more cells by a worker
  abbrev pub TakenFew : Worker → Type 0
  TakenFew x = AllByRecursion (λ (cells : List ℕ). length cells ≤ 8 * share t) x.taken

  taken_at : (taken : List (List ℕ)) (j : ℕ) → AllByRecursion (λ (cells : List ℕ). length cells ≤ 8 * share t) taken →
      length (slice_index_or taken j []) ≤ 8 * share t
  taken_at [] j h = omega arith
  taken_at (c ∷ cs) zero h = h.0
  taken_at (c ∷ cs) (suc j) h = taken_at cs j h.1

  module _ (code : IsCode t.code) (room : IsMapFor t.code t.map) (w : ℕ) (l : w < workers t) (x : Worker) (k : IsKept t w x) where
    pub fits_worker : length x.uniform.asks ≤ 8 → FitsWorker t x
    fits_worker few = record {
      small = room.lawful.small;
      writes = all_also (IsWriteBelow t.map.count) FitsWrite (λ h b. b.fits) x.held k.writes;
      written = all_also (IsWriteBelow t.map.count) (λ (h : HeldWrite). h.cell < t.map.count) (λ h b. b.cell) x.held k.writes;
      few = omega (arith, few);
      asks = all_also (IsReadBelow t.map.count) (λ (r : Read). IsCellBelow t.map.count r.cell) (λ r b. b.cell) x.uniform.asks
          k.uniform.asks;
      own_asks = all_also (IsOwnKept t.map.count) (λ (y : PrivatePart). AllByRecursion (IsCellBelow t.map.count) y.asks) (λ y b. b.asks)
          x.own k.own;
      cells = k.cells;
    }

    -- a read of the processors asks for no more cells than there are processors, and one of the program for one
    by_own : (read : Read) (n : ℕ) → read.cell ≡ None → length (cells_asked x read n) ≤ length x.own
    by_own read n e =
        let ys = map (λ (y : PrivatePart). cell_at n y.asks) x.own in
        let f = length-firsts (present (read.cell ∷ ys)) in
        let p : length (present (read.cell ∷ ys)) ≤ length ys =
        subst (λ (o : Option ℕ). length (present (o ∷ ys)) ≤ length ys) (sym e) (length-filter_map (λ (c : Option ℕ). c) ys) in
        let m = length-map x.own (λ (y : PrivatePart). cell_at n y.asks) in
        omega (arith, f, p, m)

    by_one : (read : Read) (n : ℕ) → x.own ≡ [] → length (cells_asked x read n) ≤ 1
    by_one read n e =
        let f = length-firsts (present (read.cell ∷ map (λ (y : PrivatePart). cell_at n y.asks) x.own)) in
        let p : length (present (read.cell ∷ map (λ (y : PrivatePart). cell_at n y.asks) x.own)) ≤ 1 =
        subst (λ (own : List PrivatePart). length (present (read.cell ∷ map (λ (y : PrivatePart). cell_at n y.asks) own)) ≤ 1) (sym e)
        (length-filter_map (λ (c : Option ℕ). c) (read.cell ∷ [])) in
        omega (arith, f, p)

    abbrev ask_of : ℕ → ℕ → CellAsk
    ask_of n c = record { read = n; cell = c; twice = asked_twice x n c }

    asks_few : (Good : Read → Type 0) → ((read : Read) (n : ℕ) → Good read → length (cells_asked x read n) ≤ share t) →
        (n : ℕ) (reads : List Read) → AllByRecursion Good reads →
        length (asks_from x n reads) ≤ length reads * share t
    asks_few Good each n [] h = omega arith
    asks_few Good each n (read ∷ rest) h =
        let a = length-append (map (ask_of n) (cells_asked x read n)) (asks_from x (n + 1) rest) in
        let b = length-map (cells_asked x read n) (ask_of n) in
        let c = each read n h.0 in
        let d = asks_few Good each (n + 1) rest h.1 in
        let e : suc (length rest) * share t ≡ share t + length rest * share t = grind arith in
        omega (arith, a, b, c, d, e)

    one : 1 ≤ share t
    one = some_share t (omega (arith, l)) code.some_procs

    held_asks_few : (s : states.State) → DescribesWorker t w s x → length (asks_held x) ≤ length x.uniform.asks * share t
    held_asks_few s d = go s.entered refl
      where
        go : (b : Bool) → s.entered ≡ b → length (asks_held x) ≤ length x.uniform.asks * share t
        go true e =
            asks_few (λ (r : Read). (r.side ≡ side_of s.entered) × IsReadBelow t.map.count r)
            (λ r n h. let a = by_own r n (h.1.own (h.0 ∙ ap side_of e)) in let b = k.few_own l in omega (arith, a, b)) 0 x.uniform.asks
            (all_two (λ (r : Read). r.side ≡ side_of s.entered) (IsReadBelow t.map.count) x.uniform.asks d.asks_side k.uniform.asks)
        go false e =
            let none : x.own ≡ [] = nil_from_length x.own (d.processors ∙ ap (λ n. length (processors t w n)) (d.outside e)) in
            asks_few (IsReadBelow t.map.count) (λ r n h. let a = by_one r n none in let b = one in
            omega (arith, a, b)) 0 x.uniform.asks k.uniform.asks

    puts_few : length (puts_held t.code.rule x) ≤ share t
    puts_few =
        let a = length-filter_map (λ c. put_of c (entry_held t.code.rule x c)) (firsts (map (λ (h : HeldWrite). h.cell) x.held)) in
        let b = length-firsts (map (λ (h : HeldWrite). h.cell) x.held) in
        let c = length-map x.held (λ (h : HeldWrite). h.cell) in
        let d = k.few_held l in omega (arith, a, b, c, d)

    pub sent_message : (s : states.State) → DescribesWorker t w s x → IsWithin s → (j : ℕ) → MessageFits j Sends (sent t x j)
    sent_message s d within j =
        let few : length x.uniform.asks ≤ 8 = (let a = d.asks in let b = within.asks in omega (arith, a, b)) in
        let a = held_asks_few s d in
        let b = mul-le-mul_left (share t) few in
        let c : length x.uniform.asks * share t ≡ share t * length x.uniform.asks = grind arith in
        let e = length-kept (λ (y : CellAsk). eqb (t.map.part y.cell) j) (asks_held x) in
        let f = length-kept (λ (y : CellPut). eqb (t.map.part y.cell) j) (puts_held t.code.rule x) in
        let g = puts_few in
        record {
          can = sent_can t x j (fits_worker few);
          asks = omega (arith, a, b, c, e);
          short = few_words t.code.rule (sent t x j) (share t) (omega (arith, f, g)) (omega (arith, a, b, c, e));
        }

    replied_message : (s : states.State) → DescribesWorker t w s x → IsWithin s → TakenFew x → (j : ℕ) →
        MessageFits j Replies (replied t x j)
    replied_message s d within taken j =
        let few : length x.uniform.asks ≤ 8 = (let a = d.asks in let b = within.asks in omega (arith, a, b)) in
        let a = taken_at x.taken j taken in
        let b = length-map (slice_index_or x.taken j []) (λ c. slice_index_or x.cells (t.map.offset c) (pos 0)) in
        record {
          can = replied_can t x j (fits_worker few);
          asks = omega arith;
          short = few_words t.code.rule (replied t x j) (share t) (omega arith) (omega (arith, a, b));
        }

-- ---- runs

-- of what is made by a function of the numbers from k on
made_within : {B : Type 0} (Q : B → Type 0) (f : ℕ → B) (n k m : ℕ) → k + n ≤ m → ((i : ℕ) → i < m → Q (f i)) →
    AllByRecursion Q (map f (range_with_len k n))
made_within Q f zero k m h q = tt
made_within Q f (suc n) k m h q = (q k (omega (arith, h)), made_within Q f n (k + 1) m (omega (arith, h)) q)

module _ (t : Setting) (code : IsCode t.code) (room : IsMapFor t.code t.map) (formed : IsWellFormed t.code) where
  -- a worker that keeps all this, and was asked for no more
  abbrev Holds : ℕ → Worker → Type 0
  Holds w x = IsKept t w x × (w < workers t → TakenFew t x)

  holds_instr : (w : ℕ) (i : Instr) → IsInstr i → (x : Worker) → Holds w x → Holds w (after_instr t w i x)
  holds_instr w i a x h = (keeps t code room w i a x h.0, h.1)

  none_holds : (w : ℕ) → Holds w no_worker
  none_holds w = (none_kept t w, λ l. tt)

  abbrev Fits : ℕ → Ready → Message → Type 0
  Fits j r m = MessageFits t j r.purpose m

  module _ (w : ℕ) (l : w < workers t) (j : ℕ) where
    closes : (x : Worker) → MessageFits t j Closes (closing x)
    closes x = bare t j Closes (closing x) (refl, refl, refl) refl refl refl

    at_arrival : (s : State) (a : Arrival Worker) → Arrives t formed w a → KeptAt t code w (Holds w) (holds_instr w) a →
        Fits j (ready_at s a) (message_for t (ready_at s a).purpose (ready_at s a).state.worker j)
    at_arrival s Nowhere p h = closes s.worker
    at_arrival s (At ToSend place x) p h =
        let q = p.there in
        sent_message t code room w l x h.0 q.point.state q.describes (paths_sound t.code formed q.steps q.point q.comes).within j
    at_arrival s (At ToReply place x) p h =
        let q = p.there in
        replied_message t code room w l x h.0 q.point.state q.describes (paths_sound t.code formed q.steps q.point q.comes).within (h.1 l) j
    at_arrival s (At (ToVote d) place x) p h = bare t j (Votes d) (voted x) (refl, refl, refl) refl refl refl
    at_arrival s (At (ToClose ended) place x) p h = go (is_held x.uniform.put)
      where
        go : (b : Bool) → MessageFits t j (if b then Sends else Closes) (message_for t (if b then Sends else Closes) x j)
        go true =
            let q = p.there in
            sent_message t code room w l x h.0 q.point.state q.describes (paths_sound t.code formed q.steps q.point q.comes).within j
        go false = closes x

    message_fits : (s : State) → Holds w s.worker → Agrees t formed w s → Fits j (ready t w s) (message_of t w s j)
    message_fits s h a = marks (mark_now s.refusals)
      where
        by_way : (way : Way) → s.way ≡ way →
            Fits j (ready_by t w s way) (message_for t (ready_by t w s way).purpose (ready_by t w s way).state.worker j)
        by_way On e =
            at_arrival s (stretch t w s) (follow t formed w t.enough s.place s.worker (a e))
            (until_kept t code w (Holds w) (holds_instr w) t.enough s.place s.worker h)
        by_way (Ending ended) e = closes s.worker
        by_way (Past key ended) e = closes s.worker
        by_way (Refused mark) e = closes s.worker
        by_way Lost e = closes s.worker

        marks : (mark : HeaderMark) → Fits j (ready_with t w s mark) (message_with t (ready_with t w s mark) j mark)
        marks Clear = by_way s.way refl
        marks OutOfMemory = bare t j Closes _ (refl, refl, refl) refl refl refl
        marks OutOfReserve = bare t j Closes _ (refl, refl, refl) refl refl refl

  -- ---- exchanges

  abbrev FewAsks : List Message → Type 0
  FewAsks = AllByRecursion (λ (m : Message). length m.asks ≤ 8 * share t)

  taken_few : (w : ℕ) (p : Purpose) (x : Worker) (messages : List Message) → FewAsks messages → TakenFew t x →
      TakenFew t (after_exchange t w p x messages)
  taken_few w Sends x messages f h =
      all_map (λ (m : Message). length m.asks ≤ 8 * share t) (λ (cells : List ℕ). length cells ≤ 8 * share t) (λ (m : Message).
      map (λ (y : CellAsk). y.cell) m.asks)
      (λ m k. let e = length-map m.asks (λ (y : CellAsk). y.cell) in omega (arith, e, k)) messages f
  taken_few w Replies x messages f h = tt
  taken_few w (Votes d) x messages f h = h
  taken_few w Closes x messages f h = h

  pub record AllHold (ws : ℕ → State) : Type 0 where
    pub holds : (w : ℕ) → Holds w (ws w).worker
    pub agree : (w : ℕ) → Agrees t formed w (ws w)

  few_asked : (ws : ℕ → State) → AllHold ws → (w : ℕ) → FewAsks (column (bsp t) (workers t) ws w)
  few_asked ws h w =
      made_within (λ (m : Message). length m.asks ≤ 8 * share t) (λ i. message_of t i (ws i) w) (workers t) 0 (workers t) (omega arith)
      (λ i l. (message_fits i l w (ws i) (h.holds i) (h.agree i)).asks)

  after_holds : (w : ℕ) (r : Ready) (messages : List Message) → Holds w r.state.worker →
      AllByRecursion (λ (m : Message). AreValues m.values) messages → FewAsks messages →
      Holds w (after t w r messages).worker
  after_holds w r messages h v f = marks (mark_of messages)
    where
      marks : (mark : HeaderMark) → Holds w (after_with t w r messages mark).worker
      marks Clear = (
        exchange_kept t w r.state.worker h.0 messages v r.purpose,
        λ l. taken_few w r.purpose r.state.worker messages f (h.1 l),
      )
      marks OutOfMemory = none_holds w
      marks OutOfReserve = none_holds w

  next_holds : (ws : ℕ → State) → AllHold ws → AllHold (phase (bsp t) (workers t) ws)
  next_holds ws h = record {
    holds = λ w. after_holds w (ready t w (ws w)) (column (bsp t) (workers t) ws w)
        (ready_kept t code w (Holds w) (holds_instr w) (none_holds w) (ws w) (h.holds w))
        (column_values t code room ws (λ v. (h.holds v).0) w) (few_asked ws h w);
    agree = λ w. next_agrees t formed w (column (bsp t) (workers t) ws w) (ws w) (h.agree w);
  }

  all_hold : (n : ℕ) (ws : ℕ → State) → AllHold ws → AllHold (phases (bsp t) (workers t) n ws)
  all_hold zero ws h = h
  all_hold (suc n) ws h = all_hold n (phase (bsp t) (workers t) ws) (next_holds ws h)

  pub fits_after : (input : List ℤ) → AreValues input → (marks : ℕ → List HeaderMark) (n w j : ℕ) → w < workers t →
      Fits j (ready t w (marked_after t input marks n w)) (message_of t w (marked_after t input marks n w) j)
  fits_after input v marks n w j l =
      let h = all_hold n (opening_with t input marks) (record {
        holds = λ i. (opening_kept t code room input v i, λ q. tt);
        agree = λ i. begins t formed i input;
      }) in
      message_fits w l j (marked_after t input marks n w) (h.holds w) (h.agree w)

pub messages_can_be_sent : MessagesCanBeSent
messages_can_be_sent t input g formed marks n w j l = (fits_after t g.code g.room formed input g.values marks n w j l).can

pub messages_are_read_back : MessagesAreReadBack
messages_are_read_back t input g formed marks n w j l =
    let s = marked_after t input marks n w in
    message_back t.code.rule t.map j (ready t w s).purpose (message_of t w s j) (messages_can_be_sent t input g formed marks n w j l)

pub messages_are_short : MessagesAreShort
messages_are_short t input g formed marks n w j l = (fits_after t g.code g.room formed input g.values marks n w j l).short
