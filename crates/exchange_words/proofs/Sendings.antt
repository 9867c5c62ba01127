-- What a worker sends and owes behind an exchange is at most what it owed before.
use Rattle.std.proofs.Common.{◌≡◌, ℕ, suc, ◌+◌, ◌*◌, ◌<◌, ◌≤◌, List, [], ◌∷◌, ◌++◌, map, length, eqb, refl, ap, ◌∙◌, subst, arith, ℤ, pos}
use Rattle.std.specs.Prelude.{slice_index_or}
use Rattle.std.specs.List.{filter, flat_map, range_with_len}
use Rattle.std.proofs.lemmas.List.{length-append, length-map}
use Rattle.std.proofs.Math.Nat.{mul-le-mul_left}
use Rattle.pram_model.specs.declared.rule.Rule.{Rule}
use Rattle.pram_model.specs.declared.rule.Rule.TheVariants.{Sum}
use Rattle.pram_values.proofs.Totals.{total_same, total_map, total_within, total_swap}
use Rattle.superstep_machine.specs.declared.mark.HeaderMark.{HeaderMark}
use Rattle.superstep_machine.specs.declared.mark.HeaderMark.TheVariants.{Clear}
use Rattle.superstep_machine.specs.Setting.{Setting, workers}
use Rattle.superstep_machine.specs.Parts.{PrivatePart}
use Rattle.superstep_machine.specs.Words.{CellPut, CellAsk, Message, put_words, ask_words, values_words, words}
use Rattle.superstep_machine.proofs.WordLengths.{length-ask_words, length-values_words}
use Rattle.superstep_machine.specs.Worker.{Worker}
use Rattle.superstep_machine.specs.Sending.{puts_held, asks_held, sent, own_sent, after_send}
use Rattle.superstep_machine.specs.Answering.{replied, own_answered, value_came, after_reply}
use Rattle.superstep_machine.specs.Run.{Purpose, Sends, Replies, Votes, Closes, Ready, message_for, after_exchange, after, after_with}
use Rattle.superstep_machine.specs.Run.{mark_of}
use Rattle.flat_machine.specs.Flat.{Flat}
use Rattle.flat_machine.proofs.Relation.{Splits}
use Rattle.exchange_words.specs.Accesses.{of_write}
use Rattle.exchange_words.proofs.Sums.{added, added_both, added_most, added_within, added_nothing, added_times, classes, numbers_are_monoid}
use Rattle.exchange_words.proofs.Owed.{owed, of_cells, of_own, puts_few, asks_few}

-- ---- how many words a message has

of_put : (rule : Rule) (x : CellPut) → length (put_words rule x) ≡ of_write rule
of_put Sum x = refl
of_put rule x = refl

of_puts : (rule : Rule) (xs : List CellPut) → length (flat_map (put_words rule) xs) ≡ of_write rule * length xs
of_puts rule [] = let e : 0 ≡ of_write rule * 0 = omega arith in e
of_puts rule (x ∷ xs) =
    let a = length-append (put_words rule x) (flat_map (put_words rule) xs) in
    let b = of_put rule x in
    let c = of_puts rule xs in
    let d : of_write rule * suc (length xs) ≡ of_write rule + of_write rule * length xs = omega arith in
    omega (arith, a, b, c, d)

of_message : (rule : Rule) (m : Message) → length (words rule m) ≡ of_write rule * length m.puts + (length m.asks + length m.values)
of_message rule m =
    let a = length-append (flat_map (put_words rule) m.puts) (ask_words m.asks ++ values_words m.values) in
    let b = length-append (ask_words m.asks) (values_words m.values) in
    let c = of_puts rule m.puts in
    let d = length-ask_words m.asks in
    let e = length-values_words m.values in
    omega (arith, a, b, c, d, e)

module _ (t : Setting) where
  abbrev pub all : List ℕ
  all = range_with_len 0 (workers t)

  -- the words that a worker sends to all
  abbrev pub claims : Purpose → Worker → ℕ
  claims p x = added (λ j. length (words t.code.rule (message_for t p x j))) all

  -- ---- a send

  no_own : (own : List PrivatePart) → of_own (map own_sent own) ≡ 0
  no_own [] = refl
  no_own (x ∷ own) = let h = no_own own in omega (arith, h)

  sends : (w : ℕ) (x : Worker) (column : List Message) →
      claims Sends x + owed t.code.rule (after_send t w x column) ≤ owed t.code.rule x
  sends w x column =
      let rule = t.code.rule in
      let puts = λ (j : ℕ). length (filter (λ (y : CellPut). eqb (t.map.part y.cell) j) (puts_held rule x)) in
      let asks = λ (j : ℕ). length (filter (λ (y : CellAsk). eqb (t.map.part y.cell) j) (asks_held x)) in
      let a : claims Sends x ≡ added (λ j. of_write rule * puts j + (asks j + 0)) all =
      total_same 0 (λ a b. a + b) (λ j. length (words rule (sent t x j))) (λ j. of_write rule * puts j + (asks j + 0))
      (λ j. of_message rule (sent t x j)) all in
      let b : added (λ j. of_write rule * puts j + (asks j + 0)) all ≡ added (λ j. of_write rule * puts j) all + added
      (λ j. asks j + 0) all =
      added_both (λ j. of_write rule * puts j) (λ j. asks j + 0) all in
      let c : added (λ j. of_write rule * puts j) all ≡ of_write rule * added puts all = added_times (of_write rule) puts all in
      let d : added (λ j. asks j + 0) all ≤ added asks all =
      added_most (λ j. asks j + 0) asks all (λ j. let e : asks j + 0 ≤ asks j = omega arith in e) in
      let e : added puts all ≤ length (puts_held rule x) = classes (λ (y : CellPut). t.map.part y.cell) (workers t) (puts_held rule x) in
      let f : added asks all ≤ length (asks_held x) = classes (λ (y : CellAsk). t.map.part y.cell) (workers t) (asks_held x) in
      let g = puts_few rule x in
      let h = asks_few x in
      let i : of_write rule * added puts all ≤ of_write rule * length x.held =
      mul-le-mul_left (of_write rule) (omega (arith, e, g)) in
      let j = no_own x.own in
      let k : of_write rule * 0 ≡ 0 = omega arith in
      omega (arith, a, b, c, d, f, h, i, j, k)

  -- ---- a reply

  answered_own : (x : Worker) (column : List Message) (own : List PrivatePart) →
      of_own (map (own_answered (value_came t x column) x.uniform.awaited) own) ≡ of_own own
  answered_own x column own =
      total_map 0 (λ a b. a + b) (λ (y : PrivatePart). of_cells y.asks) (own_answered (value_came t x column) x.uniform.awaited) own

  answered : (x : Worker) (column : List Message) →
      owed t.code.rule (after_reply t x column) + length x.wanted ≡ owed t.code.rule x
  answered x column = let a = answered_own x column x.own in omega (arith, a)

  -- what a module answers to a worker is what that asked it for
  answers_to : (f : Flat) (xs : ℕ → Worker) → Splits t f xs → (j w : ℕ) → j < workers t → w < workers t →
      length (words t.code.rule (replied t (xs j) w)) ≡ length (filter (λ (y : CellAsk). eqb (t.map.part y.cell) j) (xs w).wanted)
  answers_to f xs s j w lj lw =
      let got = filter (λ (y : CellAsk). eqb (t.map.part y.cell) j) (xs w).wanted in
      let a = of_message t.code.rule (replied t (xs j) w) in
      let b = length-map (slice_index_or (xs j).taken w []) (λ c. slice_index_or (xs j).cells (t.map.offset c) (pos 0)) in
      let c = ap length (s.taken j w lj lw) in
      let d = length-map got (λ (y : CellAsk). y.cell) in
      let e : of_write t.code.rule * 0 ≡ 0 = omega arith in
      omega (arith, a, b, c, d, e)

  replies : (f : Flat) (xs : ℕ → Worker) → Splits t f xs → (columns : ℕ → List Message) →
      added (λ w. claims Replies (xs w)) all + added (λ w. owed t.code.rule (after_reply t (xs w) (columns w))) all
      ≤ added (λ w. owed t.code.rule (xs w)) all
  replies f xs s columns =
      let to = λ (j w : ℕ). length (filter (λ (y : CellAsk). eqb (t.map.part y.cell) j) (xs w).wanted) in
      let a : added (λ j. claims Replies (xs j)) all ≡ added (λ j. added (to j) all) all =
      total_within 0 (λ a b. a + b) (λ j. claims Replies (xs j)) (λ j. added (to j) all) (workers t) 0
      (λ j lj. total_within 0 (λ a b. a + b) (λ w. length (words t.code.rule (replied t (xs j) w))) (to j) (workers t) 0
      (λ w lw. answers_to f xs s j w (omega (arith, lj)) (omega (arith, lw)))) in
      let b : added (λ j. added (to j) all) all ≡ added (λ w. added (λ j. to j w) all) all =
      total_swap 0 (λ a b. a + b) numbers_are_monoid to all all in
      let c : added (λ w. added (λ j. to j w) all) all ≤ added (λ w. length (xs w).wanted) all =
      added_most (λ w. added (λ j. to j w) all) (λ w. length (xs w).wanted) all
      (λ w. classes (λ (y : CellAsk). t.map.part y.cell) (workers t) (xs w).wanted) in
      let d : added (λ w. owed t.code.rule (after_reply t (xs w) (columns w)) + length (xs w).wanted) all
      ≡ added (λ w. owed t.code.rule (xs w)) all =
      total_same 0 (λ a b. a + b) (λ w. owed t.code.rule (after_reply t (xs w) (columns w)) + length (xs w).wanted)
      (λ w. owed t.code.rule (xs w)) (λ w. answered (xs w) (columns w)) all in
      let e : added (λ w. owed t.code.rule (after_reply t (xs w) (columns w)) + length (xs w).wanted) all
      ≡ added (λ w. owed t.code.rule (after_reply t (xs w) (columns w))) all + added (λ w. length (xs w).wanted) all =
      added_both (λ w. owed t.code.rule (after_reply t (xs w) (columns w))) (λ w. length (xs w).wanted) all in
      omega (arith, a, b, c, d, e)

  -- ---- any exchange

  nothing_said : (xs : ℕ → Worker) → added (λ w. added (λ j. 0) all) all ≡ 0
  nothing_said xs = total_same 0 (λ a b. a + b) (λ w. added (λ j. 0) all) (λ w. 0) (λ w. added_nothing (workers t) 0) all
      ∙ added_nothing (workers t) 0

  exchanges : (p : Purpose) (f : Flat) (xs : ℕ → Worker) → Splits t f xs → (columns : ℕ → List Message) →
      added (λ w. claims p (xs w)) all + added (λ w. owed t.code.rule (after_exchange t w p (xs w) (columns w))) all
      ≤ added (λ w. owed t.code.rule (xs w)) all
  exchanges Sends f xs s columns =
      let a = added_both (λ w. claims Sends (xs w)) (λ w. owed t.code.rule (after_send t w (xs w) (columns w))) all in
      let b = added_most (λ w. claims Sends (xs w) + owed t.code.rule (after_send t w (xs w) (columns w)))
      (λ w. owed t.code.rule (xs w)) all (λ w. sends w (xs w) (columns w)) in
      omega (arith, a, b)
  exchanges Replies f xs s columns = replies f xs s columns
  exchanges (Votes d) f xs s columns = let a = nothing_said xs in omega (arith, a)
  exchanges Closes f xs s columns = let a = nothing_said xs in omega (arith, a)

  -- a worker that a mark stops owes nothing
  stopped_or_not : (w : ℕ) (r : Ready) (column : List Message) (mark : HeaderMark) →
      owed t.code.rule (after_with t w r column mark).worker ≤ owed t.code.rule (after_exchange t w r.purpose r.state.worker column)
  stopped_or_not w r column Clear = omega arith
  stopped_or_not w r column mark = let e : of_write t.code.rule * 0 ≡ 0 = omega arith in omega (arith, e)

  pub exchanged : (p : Purpose) (f : Flat) (rs : ℕ → Ready) → ((w : ℕ) → w < workers t → (rs w).purpose ≡ p) →
      Splits t f (λ w. (rs w).state.worker) → (columns : ℕ → List Message) →
      added (λ w. claims p (rs w).state.worker) all + added (λ w. owed t.code.rule (after t w (rs w) (columns w)).worker) all
      ≤ added (λ w. owed t.code.rule (rs w).state.worker) all
  exchanged p f rs same s columns =
      let a = exchanges p f (λ w. (rs w).state.worker) s columns in
      let b = added_within (λ w. owed t.code.rule (after t w (rs w) (columns w)).worker)
      (λ w. owed t.code.rule (after_exchange t w p (rs w).state.worker (columns w))) (workers t) 0
      (λ w l. subst (λ q. owed t.code.rule (after t w (rs w) (columns w)).worker
      ≤ owed t.code.rule (after_exchange t w q (rs w).state.worker (columns w))) (same w (omega (arith, l)))
      (stopped_or_not w (rs w) (columns w) (mark_of (columns w)))) in
      omega (arith, a, b)
