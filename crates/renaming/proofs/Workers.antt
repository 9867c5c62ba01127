-- What a worker does whose registers are renamed, by renamed code.
use Rattle.std.proofs.Common.{◌≡◌, ℕ, zero, suc, ◌+◌, List, [], ◌∷◌, ◌++◌, map, Bool, true, false, Option, Some, None, ℤ, pos, refl, sym}
use Rattle.std.proofs.Common.{ap, ◌∙◌, eqb}
use Rattle.std.specs.Prelude.{◌||◌, if◌then◌else◌, slice_get, option_map}
use Rattle.std.specs.List.{filter, filter_map, cons_option, zip, list_any}
use Rattle.std.proofs.lemmas.Option.{slice_get-map}
use Rattle.flat_machine.proofs.Lists.{map_twice, map_same}
use Rattle.pram_values.specs.Total.{total}
use Rattle.pram_values.proofs.Totals.{total_map, total_same}
use Rattle.pram_values.specs.Truth.{is_nonzero, truth}
use Rattle.superstep_instructions.specs.declared.instr.Instr.{Instr}
use Rattle.superstep_instructions.specs.declared.instr.Instr.TheVariants.{Mark, Set, Copy, Negate, Calculate, Decide, Not, CopyUniform}
use Rattle.superstep_instructions.specs.declared.instr.Instr.TheVariants.{Index}
use Rattle.superstep_instructions.specs.declared.instr.Instr.TheVariants.{Enter, Leave, Mask, Flip, Unmask, Ask, Put, Send, Reply, Vote}
use Rattle.superstep_instructions.specs.declared.instr.Instr.TheVariants.{Print}
use Rattle.superstep_instructions.specs.declared.instr.Instr.TheVariants.{Jump, JumpIfZero, Halt}
use Rattle.superstep_machine.specs.Keys.{least}
use Rattle.superstep_machine.specs.Setting.{Setting, processors, module_cells}
use Rattle.superstep_machine.specs.Parts.{Registers, Read, UniformPart, PrivatePart, fresh}
use Rattle.superstep_machine.specs.Steps.{on_uniform, index_of, on_own, own_key, own_write, is_active, renews}
use Rattle.superstep_machine.specs.Words.{CellAsk, Message}
use Rattle.superstep_machine.specs.Worker.{Worker, numbered, by_processor, uniform_writes, own_writes, own_after, noted, after_instr}
use Rattle.superstep_machine.specs.Sending.{firsts, present, cell_at, cells_asked, several, asks_for, is_several, asked_twice, asks_from}
use Rattle.superstep_machine.specs.Sending.{sent, put_conflict, read_conflict, read_conflicts, conflicts, own_sent, after_send}
use Rattle.superstep_machine.specs.Sending.{verdict_on, entry_came}
use Rattle.superstep_machine.specs.Answering.{value_came, answer, answers, destinations, uniform_answered, own_answered, after_reply}
use Rattle.superstep_machine.specs.Answering.{voted, after_vote}
use Rattle.write_rules.specs.Rule.{shares_reads}
use Rattle.superstep_machine.specs.Stretch.{Stop, ToSend, ToReply, ToVote, ToClose, Arrival, Nowhere, At, advance, until}
use Rattle.renaming.specs.Renamed.{IsOneToOne, renamed, with_names}
use Rattle.renaming.proofs.Parts.{alike, moved, at, set_moved, read_moved, uniform_moved, own_moved, on_uniform_moved, uniform_key_moved}
use Rattle.renaming.proofs.Parts.{uniform_write_moved, on_own_moved, own_key_moved, own_write_moved}

filter_same : {A B : Type 0} (f g : A → Option B) → ((x : A) → f x ≡ g x) → (xs : List A) → filter_map f xs ≡ filter_map g xs
filter_same f g h [] = refl
filter_same f g h (x ∷ xs) = λ i. cons_option (h x i) (filter_same f g h xs i)

filter_twice : {A B C : Type 0} (f : B → Option C) (g : A → B) (xs : List A) → filter_map f (map g xs) ≡ filter_map (λ x. f (g x)) xs
filter_twice f g [] = refl
filter_twice f g (x ∷ xs) = ap (cons_option (f (g x))) (filter_twice f g xs)

module _ (p l : ℕ → ℕ) (one : IsOneToOne p l) (uniform private : ℕ) (t : Setting) where
  abbrev pub t' : Setting
  t' = record t { code = with_names p uniform private t.code }

  abbrev pub worker_moved : Worker → Worker
  worker_moved s = record s { uniform = uniform_moved p l one s.uniform; own = map (own_moved p l one) s.own }

  abbrev with_number : ℕ × PrivatePart → ℕ × PrivatePart
  with_number x = (x.0, own_moved p l one x.1)

  zip_moved : (ns : List ℕ) (xs : List PrivatePart) → zip ns (map (own_moved p l one) xs) ≡ map with_number (zip ns xs)
  zip_moved [] xs = refl
  zip_moved (n ∷ ns) [] = refl
  zip_moved (n ∷ ns) (x ∷ xs) = ap (λ zs. (n, own_moved p l one x) ∷ zs) (zip_moved ns xs)

  numbered_moved : (w : ℕ) (s : Worker) → numbered t' w (worker_moved s) ≡ map with_number (numbered t w s)
  numbered_moved w s = zip_moved (processors t w s.uniform.width) s.own

  -- ---- an instruction

  own_after_moved : (w : ℕ) (i : Instr) (s : Worker) →
      own_after t' w (renamed p i) (worker_moved s) ≡ map (own_moved p l one) (own_after t w i s)
  own_after_moved w i s = (λ j. if (alike p i).renewing j then new else stay) ∙ go (renews i)
    where
      new : List PrivatePart
      new = map (λ v. fresh) (processors t' w (on_uniform t'.code (renamed p i) (uniform_moved p l one s.uniform)).width)

      stay : List PrivatePart
      stay = map (λ x. on_own t'.code (renamed p i) (uniform_moved p l one s.uniform) x.0 x.1) (numbered t' w (worker_moved s))

      new_is : new ≡ map (own_moved p l one) (map (λ v. fresh) (processors t w (on_uniform t.code i s.uniform).width))
      new_is =
          ap (λ (u : UniformPart). map (λ v. fresh) (processors t w u.width)) (on_uniform_moved p l one t.code uniform private i s.uniform)
          ∙ sym (map_twice (own_moved p l one) (λ (v : ℕ). fresh) (processors t w (on_uniform t.code i s.uniform).width))

      stay_is : stay ≡ map (own_moved p l one) (map (λ x. on_own t.code i s.uniform x.0 x.1) (numbered t w s))
      stay_is =
          ap (map (λ x. on_own t'.code (renamed p i) (uniform_moved p l one s.uniform) x.0 x.1)) (numbered_moved w s)
          ∙ map_twice (λ x. on_own t'.code (renamed p i) (uniform_moved p l one s.uniform) x.0 x.1) with_number (numbered t w s)
          ∙ map_same (λ x. on_own t'.code (renamed p i) (uniform_moved p l one s.uniform) x.0 (own_moved p l one x.1))
          (λ x. own_moved p l one (on_own t.code i s.uniform x.0 x.1))
          (λ x. on_own_moved p l one t.code uniform private i s.uniform x.0 x.1) (numbered t w s)
          ∙ sym (map_twice (own_moved p l one) (λ x. on_own t.code i s.uniform x.0 x.1) (numbered t w s))

      go : (b : Bool) → (if b then new else stay) ≡ map (own_moved p l one)
          (if b then map (λ v. fresh) (processors t w (on_uniform t.code i s.uniform).width) else
          map (λ x. on_own t.code i s.uniform x.0 x.1) (numbered t w s))
      go true = new_is
      go false = stay_is

  noted_moved : (w : ℕ) (i : Instr) (s : Worker) → noted t' w (renamed p i) (worker_moved s) ≡ noted t w i s
  noted_moved w i s = λ j. least (uniform_key_moved p l one t.code uniform private i s.uniform j) (own j)
    where
      own : total None least (λ x. own_key t'.code (renamed p i) (uniform_moved p l one s.uniform) x.0 x.1) (numbered t' w (worker_moved s))
          ≡ total None least (λ x. own_key t.code i s.uniform x.0 x.1) (numbered t w s)
      own =
          ap (total None least (λ x. own_key t'.code (renamed p i) (uniform_moved p l one s.uniform) x.0 x.1)) (numbered_moved w s)
          ∙ total_map None least (λ x. own_key t'.code (renamed p i) (uniform_moved p l one s.uniform) x.0 x.1) with_number (numbered t w s)
          ∙ total_same None least (λ x. own_key t'.code (renamed p i) (uniform_moved p l one s.uniform) x.0 (own_moved p l one x.1))
          (λ x. own_key t.code i s.uniform x.0 x.1) (λ x. own_key_moved p l one t.code uniform private i s.uniform x.0 x.1) (numbered t w s)

  writes_moved : (w : ℕ) (i : Instr) (s : Worker) →
      uniform_writes t' w (renamed p i) (uniform_moved p l one s.uniform)
      ++ own_writes t' (renamed p i) (uniform_moved p l one s.uniform) (numbered t' w (worker_moved s))
      ≡ uniform_writes t w i s.uniform ++ own_writes t i s.uniform (numbered t w s)
  writes_moved w i s = λ j.
      filter_map (λ write. by_processor (pos 0) write)
      ((if eqb w 0 then uniform_write_moved p l one t.code uniform private i s.uniform j else None) ∷ []) ++ own j
    where
      own : own_writes t' (renamed p i) (uniform_moved p l one s.uniform) (numbered t' w (worker_moved s))
          ≡ own_writes t i s.uniform (numbered t w s)
      own =
          ap (own_writes t' (renamed p i) (uniform_moved p l one s.uniform)) (numbered_moved w s)
          ∙ filter_twice (λ x. by_processor (index_of s.uniform x.0) (own_write t'.code (renamed p i) x.1)) with_number (numbered t w s)
          ∙ filter_same (λ x. by_processor (index_of s.uniform x.0) (own_write t'.code (renamed p i) (own_moved p l one x.1)))
          (λ x. by_processor (index_of s.uniform x.0) (own_write t.code i x.1))
          (λ x. ap (by_processor (index_of s.uniform x.0)) (own_write_moved p l one t.code uniform private i x.1)) (numbered t w s)

  pub instr_moved : (w : ℕ) (i : Instr) (s : Worker) → after_instr t' w (renamed p i) (worker_moved s) ≡ worker_moved (after_instr t w i s)
  instr_moved w i s = λ j. record {
    uniform = on_uniform_moved p l one t.code uniform private i s.uniform j;
    own = own_after_moved w i s j;
    cells = s.cells;
    held = if (alike p i).put j then writes_moved w i s j else s.held;
    key = least s.key (noted_moved w i s j);
    wanted = s.wanted;
    taken = s.taken;
  }

  -- ---- up to the next exchange

  abbrev pub stop_moved : Stop → Stop
  stop_moved ToSend = ToSend
  stop_moved ToReply = ToReply
  stop_moved (ToVote d) = ToVote (p d)
  stop_moved (ToClose ended) = ToClose ended

  abbrev pub arrival_moved : Arrival Worker → Arrival Worker
  arrival_moved Nowhere = Nowhere
  arrival_moved (At stop place s) = At (stop_moved stop) place (worker_moved s)

  module _ (w : ℕ) (next next' : ℕ → Worker → Arrival Worker)
      (on : (k : ℕ) (s : Worker) → next' k (worker_moved s) ≡ arrival_moved (next k s)) where
    step : (place : ℕ) (i : Instr) (s : Worker) →
        next' (place + 1) (after_instr t' w (renamed p i) (worker_moved s)) ≡ arrival_moved (next (place + 1) (after_instr t w i s))
    step place i s = ap (next' (place + 1)) (instr_moved w i s) ∙ on (place + 1) (after_instr t w i s)

    choose : (b : Bool) (x y x' y' : Arrival Worker) → x' ≡ arrival_moved x → y' ≡ arrival_moved y →
        (if b then x' else y') ≡ arrival_moved (if b then x else y)
    choose true x y x' y' e f = e
    choose false x y x' y' e f = f

    abbrev here : Option Instr → ℕ → Worker → Arrival Worker
    here o place s = advance t.bound (λ (x : Worker). x.uniform) (after_instr t w) Nowhere (λ stop k x. At stop k x) next o place s

    abbrev there : Option Instr → ℕ → Worker → Arrival Worker
    there o place s = advance t.bound (λ (x : Worker). x.uniform) (after_instr t' w) Nowhere (λ stop k x. At stop k x) next' o place s

    pub advance_moved : (o : Option Instr) (place : ℕ) (s : Worker) →
        there (option_map (renamed p) o) place (worker_moved s) ≡ arrival_moved (here o place s)
    advance_moved None place s = refl
    advance_moved (Some (Mark line)) place s =
        choose (eqb s.uniform.count t.bound) (At (ToClose false) place s) (next (place + 1) (after_instr t w (Mark line) s))
        (At (ToClose false) place (worker_moved s)) (next' (place + 1) (after_instr t' w (Mark line) (worker_moved s)))
        refl (step place (Mark line) s)
    advance_moved (Some (Set a d n)) place s = step place (Set a d n) s
    advance_moved (Some (Copy a d x)) place s = step place (Copy a d x) s
    advance_moved (Some (Negate a d x q)) place s = step place (Negate a d x q) s
    advance_moved (Some (Calculate a o d x y q)) place s = step place (Calculate a o d x y q) s
    advance_moved (Some (Decide a o d x y)) place s = step place (Decide a o d x y) s
    advance_moved (Some (Not a d x)) place s = step place (Not a d x) s
    advance_moved (Some (CopyUniform d x)) place s = step place (CopyUniform d x) s
    advance_moved (Some (Index d)) place s = step place (Index d) s
    advance_moved (Some (Enter a b q)) place s = step place (Enter a b q) s
    advance_moved (Some Leave) place s = step place Leave s
    advance_moved (Some (Mask x)) place s = step place (Mask x) s
    advance_moved (Some Flip) place s = step place Flip s
    advance_moved (Some Unmask) place s = step place Unmask s
    advance_moved (Some (Ask a d c x q)) place s = step place (Ask a d c x q) s
    advance_moved (Some (Put a c x v q)) place s = step place (Put a c x v q) s
    advance_moved (Some Send) place s = refl
    advance_moved (Some Reply) place s = refl
    advance_moved (Some (Vote d)) place s = refl
    advance_moved (Some (Print x)) place s = step place (Print x) s
    advance_moved (Some (Jump target)) place s = on target s
    advance_moved (Some (JumpIfZero r target)) place s =
        (λ j. if is_nonzero (at p l one s.uniform.registers r j) then next' (place + 1) (worker_moved s) else next' target (worker_moved s))
        ∙ choose (is_nonzero (s.uniform.registers r)) (next (place + 1) s) (next target s) (next' (place + 1) (worker_moved s))
        (next' target (worker_moved s)) (on (place + 1) s) (on target s)
    advance_moved (Some Halt) place s = refl

  pub until_moved : (w n place : ℕ) (s : Worker) →
      until t.bound (λ (x : Worker). x.uniform) (after_instr t' w) (map (renamed p) t.code.instructions) n place (worker_moved s)
      ≡ arrival_moved (until t.bound (λ (x : Worker). x.uniform) (after_instr t w) t.code.instructions n place s)
  until_moved w zero place s = refl
  until_moved w (suc n) place s =
      ap (λ o. there w (until t.bound (λ (x : Worker). x.uniform) (after_instr t w) t.code.instructions n)
      (until t.bound (λ (x : Worker). x.uniform) (after_instr t' w) (map (renamed p) t.code.instructions) n) (until_moved w n) o place
      (worker_moved s))
      (slice_get-map (renamed p) t.code.instructions place)
      ∙ advance_moved w (until t.bound (λ (x : Worker). x.uniform) (after_instr t w) t.code.instructions n)
      (until t.bound (λ (x : Worker). x.uniform) (after_instr t' w) (map (renamed p) t.code.instructions) n) (until_moved w n)
      (slice_get t.code.instructions place) place s

  -- ---- messages

  asked_moved : (s : Worker) (read : Read) (k : ℕ) → cells_asked (worker_moved s) (read_moved p l one read) k ≡ cells_asked s read k
  asked_moved s read k =
      ap (λ cs. firsts (present (read.cell ∷ cs))) (map_twice (λ (x : PrivatePart). cell_at k x.asks) (own_moved p l one) s.own)

  twice_moved : (s : Worker) (k c : ℕ) → asked_twice (worker_moved s) k c ≡ asked_twice s k c
  twice_moved s k c = ap is_several (total_map None several (λ (x : PrivatePart). asks_for c (cell_at k x.asks)) (own_moved p l one) s.own)

  asks_moved : (s : Worker) (k : ℕ) (reads : List Read) → asks_from (worker_moved s) k (map (read_moved p l one) reads) ≡
      asks_from s k reads
  asks_moved s k [] = refl
  asks_moved s k (read ∷ rest) = λ j.
      map (λ c. record { read = k; cell = c; twice = twice_moved s k c j }) (asked_moved s read k j) ++ asks_moved s (k + 1) rest j

  pub sent_moved : (s : Worker) (j : ℕ) → sent t' (worker_moved s) j ≡ sent t s j
  sent_moved s j = λ i. record (sent t s j) {
    asks = filter (λ (x : CellAsk). eqb (t.map.part x.cell) j) (asks_moved s 0 s.uniform.asks i);
  }

  any_moved : (xs : List PrivatePart) → list_any is_active (map (own_moved p l one) xs) ≡ list_any is_active xs
  any_moved [] = refl
  any_moved (x ∷ xs) = ap (λ z. is_active x || z) (any_moved xs)

  pub voted_moved : (s : Worker) → voted (worker_moved s) ≡ voted s
  voted_moved s = λ j. record (voted s) { active = any_moved s.own j }

  -- ---- behind an exchange

  conflicts_from : (column : List Message) (cells : List ℕ) (k : ℕ) (reads : List Read) →
      read_conflicts column cells k (map (read_moved p l one) reads) ≡ read_conflicts column cells k reads
  conflicts_from column cells k [] = refl
  conflicts_from column cells k (read ∷ rest) = ap (least (read_conflict column cells k read)) (conflicts_from column cells (k + 1) rest)

  conflicts_moved : (w : ℕ) (u : UniformPart) (column : List Message) →
      conflicts t' w (uniform_moved p l one u) column ≡ conflicts t w u column
  conflicts_moved w u column = λ j.
      least (total None least (λ c. put_conflict u.put c (verdict_on t.code.rule (entry_came t.code.rule column c))) (module_cells t w))
      (if shares_reads t.code.rule then None else conflicts_from column (module_cells t w) 0 u.asks j)

  pub after_send_moved : (w : ℕ) (s : Worker) (column : List Message) →
      after_send t' w (worker_moved s) column ≡ worker_moved (after_send t w s column)
  after_send_moved w s column = λ j. record (worker_moved (after_send t w s column)) {
    own = (map_twice own_sent (own_moved p l one) s.own ∙ sym (map_twice (own_moved p l one) own_sent s.own)) j;
    key = least s.key (conflicts_moved w s.uniform column j);
    wanted = asks_moved s 0 s.uniform.asks j;
  }

  module _ (value : ℕ → ℕ → ℤ) where
    answer_moved : (k d : ℕ) (cell : Option ℕ) (r : Registers) →
        answer (value k) (p d) cell (moved p l one r) ≡ moved p l one (answer (value k) d cell r)
    answer_moved k d None r = refl
    answer_moved k d (Some c) r = set_moved p l one d (value k c) r

    answers_moved : (k : ℕ) (reads : List Read) (r : Registers) →
        answers value k (map (λ (x : Read). (x.destination, x.cell)) (map (read_moved p l one) reads)) (moved p l one r)
        ≡ moved p l one (answers value k (map (λ (x : Read). (x.destination, x.cell)) reads) r)
    answers_moved k [] r = refl
    answers_moved k (read ∷ rest) r =
        ap (answers value (k + 1) (map (λ (x : Read). (x.destination, x.cell)) (map (read_moved p l one) rest)))
        (answer_moved k read.destination read.cell r)
        ∙ answers_moved (k + 1) rest (answer (value k) read.destination read.cell r)

    own_answers : (k : ℕ) (reads : List Read) (cells : List (Option ℕ)) (r : Registers) →
        answers value k (zip (destinations (map (read_moved p l one) reads)) cells) (moved p l one r)
        ≡ moved p l one (answers value k (zip (destinations reads) cells) r)
    own_answers k [] cells r = refl
    own_answers k (read ∷ rest) [] r = refl
    own_answers k (read ∷ rest) (cell ∷ cells) r =
        ap (answers value (k + 1) (zip (destinations (map (read_moved p l one) rest)) cells)) (answer_moved k read.destination cell r)
        ∙ own_answers (k + 1) rest cells (answer (value k) read.destination cell r)

    pub uniform_answered_moved : (u : UniformPart) →
        uniform_answered value (uniform_moved p l one u) ≡ uniform_moved p l one (uniform_answered value u)
    uniform_answered_moved u = λ j. record (uniform_moved p l one (uniform_answered value u)) {
      registers = answers_moved 0 u.awaited u.registers j;
    }

    own_one : (awaited : List Read) (x : PrivatePart) →
        own_answered value (map (read_moved p l one) awaited) (own_moved p l one x) ≡ own_moved p l one (own_answered value awaited x)
    own_one awaited x = λ j. record (own_moved p l one (own_answered value awaited x)) {
      registers = own_answers 0 awaited x.awaited x.registers j;
    }

    pub own_answered_moved : (awaited : List Read) (own : List PrivatePart) →
        map (own_answered value (map (read_moved p l one) awaited)) (map (own_moved p l one) own)
        ≡ map (own_moved p l one) (map (own_answered value awaited) own)
    own_answered_moved awaited [] = refl
    own_answered_moved awaited (x ∷ xs) = λ j. own_one awaited x j ∷ own_answered_moved awaited xs j

  pub after_reply_moved : (s : Worker) (column : List Message) →
      after_reply t' (worker_moved s) column ≡ worker_moved (after_reply t s column)
  after_reply_moved s column = λ j. record (worker_moved (after_reply t s column)) {
    uniform = uniform_answered_moved (value_came t s column) s.uniform j;
    own = own_answered_moved (value_came t s column) s.uniform.awaited s.own j;
  }

  pub after_vote_moved : (d : ℕ) (s : Worker) (column : List Message) →
      after_vote (p d) (worker_moved s) column ≡ worker_moved (after_vote d s column)
  after_vote_moved d s column = λ j. record (worker_moved s) {
    uniform = record (uniform_moved p l one s.uniform) {
      registers = set_moved p l one d (truth (list_any (λ (m : Message). m.active) column)) s.uniform.registers j;
    };
  }
