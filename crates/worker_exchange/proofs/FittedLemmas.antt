-- A worker behind a send has room still, and stands on the path of control.
use Rattle.std.proofs.Common.{◌≡◌, ℕ, zero, suc, ◌+◌, ◌*◌, ◌<◌, ◌≤◌, List, [], ◌∷◌, length, map, drop, Option, Some, Vec, vec_capacity, ℤ}
use Rattle.std.proofs.Common.{refl, sym, ap, subst, ◌∙◌, arith}
use Rattle.smallvec.specs.SmallVec.{SmallVec}
use Rattle.std.specs.Prelude.{nat_lt, slice_get}
use Rattle.std.specs.Global.{Global}
use Rattle.std.specs.List.{AllByRecursion, zip, range_with_len}
use Rattle.std.proofs.lemmas.List.{length-map}
use Rattle.std.proofs.lemmas.List.FromFn.{length-map-range_with_len}
use Rattle.address_map.specs.Lawful.{Shape}
use Rattle.superstep_instructions.specs.declared.instr.Instr.TheVariants.{Send, Vote}
use Rattle.superstep_instructions.specs.Code.{SuperstepCode}
use Rattle.superstep_machine.specs.declared.key.Key.{Key}
use Rattle.superstep_machine.specs.Setting.{Setting, processors}
use Rattle.superstep_machine.specs.Parts.{UniformPart}
use Rattle.superstep_machine.specs.Words.{Message}
use Rattle.superstep_machine.specs.Run.{no_worker, is_held}
use Rattle.instruction_steps.specs.declared.read.Read.{Read}
use Rattle.instruction_steps.specs.declared.uniform.UniformState.{UniformState}
use Rattle.instruction_steps.specs.Views.{put_is}
use Rattle.bsp_verify.specs.declared.state.State.{State}
use Rattle.bsp_verify.specs.States.{after}
use Rattle.bsp_verify.specs.WellFormed.{IsWellFormed}
use Rattle.combining.specs.AllModules.{column, room_at}
use Rattle.combining.specs.Asked.{HeldAsks, IsAskBelow}
use Rattle.worker_exchange.specs.Sends.{words_of}
use Rattle.worker_exchange.specs.declared.local.Local.{Local}
use Rattle.worker_exchange.specs.Equipped.{most_words, AreBuffers, IsEquipped}
use Rattle.worker_bank.specs.declared.bank.Bank.{Bank}
use Rattle.worker_bank.specs.Bank.{number_of, IsBank}
use Rattle.worker_steps.specs.declared.worker.WorkerState.{WorkerState}
use Rattle.worker_steps.specs.Shown.{numbers_in}
use Rattle.worker_steps.specs.Fitted.{AreColumns, IsFitted}
use Rattle.worker_steps.specs.Met.{Describes, IsVerifiedAt}
use Rattle.worker_steps.proofs.StretchLemmas.{verified_next}
use Rattle.worker_exchange.specs.Settled.{IsSettled}
use Rattle.worker_exchange.specs.Taken.{IsSentWorker}

module _ (code : SuperstepCode) (x y : WorkerState) (noted : Option Key) (sent : IsSentWorker x y noted) where
  most_same : y.bank.masks.most ≡ x.bank.masks.most
  most_same = ap (λ (b : Bank). b.masks.most) sent.bank

  pub fitted_sent : IsFitted code x → 8 * (x.bank.masks.most + 1) ≤ y.asks.room → IsFitted code y
  fitted_sent f room = record {
    bank = subst IsBank (sym sent.bank) f.bank;
    worker = subst (λ (b : Bank). b.worker < b.workers) (sym sent.bank) f.worker;
    registers = ap (λ (b : Bank). length b.columns.items) sent.bank ∙ f.registers;
    places = subst (λ n. code.uniform_registers ≤ n) (sym sent.uniform.reserve.registers) f.places;
    masks = subst (λ (b : Bank). 64 < length b.masks.levels.items) (sym sent.bank) f.masks;
    range = λ t e.
        subst (λ (b : Bank). processors t b.worker y.uniform.width ≡ numbers_in b) (sym sent.bank)
        (ap (processors t x.bank.worker) sent.uniform.width ∙ f.range t (e ∙ ap (λ (b : Bank). b.workers) sent.bank));
    numbers = λ j l.
        let many = ap (λ (b : Bank). b.masks.many) sent.bank in
        let number = ap (λ (b : Bank). number_of b j) sent.bank in
        let width = sent.uniform.width in
        let low = f.numbers j (omega (arith, l, many)) in
        subst (λ n. number_of y.bank j < n) (sym width) (subst (λ n. n < x.uniform.width) (sym number) low);
    room = λ t e.
        subst (λ (b : Bank). length (processors t b.worker code.procs) ≤ b.masks.most) (sym sent.bank)
        (f.room t (e ∙ ap (λ (b : Bank). b.workers) sent.bank));
    asked = subst (λ n. AreColumns n y.asked.items) (sym most_same)
        (subst (λ (v : Vec (Vec (Option ℕ) Global) Global). AreColumns x.bank.masks.most v.items) (sym sent.asked) f.awaited);
    awaited = subst (λ n. AreColumns n y.awaited.items) (sym most_same)
        (subst (λ (v : Vec (Vec (Option ℕ) Global) Global). AreColumns x.bank.masks.most v.items) (sym sent.awaited) f.asked);
    written = ap (λ (v : Vec (Option ℕ) Global). length v.items) sent.written ∙ f.written ∙ sym most_same;
    puts = (let a = f.puts in let b = sent.puts_room in let c = most_same in omega (arith, a, b, c));
    asks = (let c = most_same in omega (arith, room, c));
    held = (let none = ap length sent.asks in omega (arith, none));
  }

  describes_sent : (state : State) → Describes code state x → Describes code (after Send state) (record y { place = x.place + 1 })
  describes_sent state d = record {
    outside = λ e. sent.uniform.width ∙ d.outside e;
    narrow = subst (λ n. n ≤ code.procs) (sym sent.uniform.width) d.narrow;
    masks = ap (λ (b : Bank). b.masks.depth) sent.bank ∙ d.masks;
    asks = ap length sent.uniform.asks;
    put = ap (λ o. is_held (put_is o)) sent.uniform.put;
    awaited = ap (nat_lt 0) (ap length sent.uniform.awaited ∙ d.asks);
  }

  -- behind it the path goes on
  pub verified_sent : IsWellFormed code → IsVerifiedAt code x → slice_get code.instructions x.place ≡ Some Send →
      IsVerifiedAt code (record y { place = x.place + 1 })
  verified_sent formed v there =
      verified_next code x Send formed v there (record y { place = x.place + 1 }) refl (λ state d allowed within. describes_sent state d)

-- ---- a worker at all that it has room for

pub drop_short : {A : Type 0} (k : ℕ) (xs : List A) → length (drop k xs) ≤ length xs
drop_short zero xs = omega arith
drop_short (suc k) [] = omega arith
drop_short (suc k) (x ∷ xs) = let h = drop_short k xs in omega (arith, h)

-- what is short within some columns is short behind them
pub few_kept : (columns : List (List ℕ)) (most : ℕ) → ((j : ℕ) → j < length columns → length (column columns j) ≤ most) → (j : ℕ) →
    length (column columns j) ≤ most
few_kept [] most h j = omega arith
few_kept (ws ∷ columns) most h zero = h 0 (omega arith)
few_kept (ws ∷ columns) most h (suc j) = few_kept columns most (λ k l. h (suc k) (omega (arith, l))) j

zip_long : {A B : Type 0} (xs : List A) (ys : List B) → length xs ≡ length ys → length (zip xs ys) ≡ length ys
zip_long [] [] e = refl
zip_long [] (y ∷ ys) e = absurd (omega (arith, e))
zip_long (x ∷ xs) [] e = absurd (omega (arith, e))
zip_long (x ∷ xs) (y ∷ ys) e = ap suc (zip_long xs ys (omega (arith, e)))

-- a send leaves as many cells
pub settled_long : (t : Setting) (w : ℕ) (u : UniformPart) (messages : List Message) (old new : List ℤ) (noted : Option Key) →
    IsSettled t w u messages old new noted → length old ≡ t.map.width w → length new ≡ length old
settled_long t w u messages old new noted settled long =
    let range = length-map-range_with_len (λ k. k) 0 (t.map.width w) in
    let same = mapped_same (range_with_len 0 (t.map.width w)) in
    sym (ap length (settled.cells (record no_worker { cells = old }) refl))
    ∙ length-map (zip (range_with_len 0 (t.map.width w)) old) _
    ∙ zip_long (range_with_len 0 (t.map.width w)) old (ap length (sym same) ∙ range ∙ sym long)
  where
    mapped_same : (xs : List ℕ) → map (λ k. k) xs ≡ xs
    mapped_same [] = refl
    mapped_same (x ∷ xs) = ap (λ ys. x ∷ ys) (mapped_same xs)

module _ (code : SuperstepCode) (m : Shape) (x z : Local) (noted : Option Key) (sent : IsSentWorker x.steps z.steps noted)
    (room : z.steps.asks.room ≡ x.sent.room) (kept : z.sent ≡ x.steps.asks) (cells : length z.cells ≡ length x.cells)
    (rooms : map vec_capacity z.asked.items ≡ map vec_capacity x.asked.items)
    (few : (j : ℕ) → length (column (words_of z.asked.items) j) ≤ most_words code m) (buffers : z.buffers ≡ x.buffers)
    (values : z.values ≡ x.values) where
  pub equipped_sent : AllByRecursion (IsAskBelow m.count) x.steps.asks.held → IsEquipped code m x → IsEquipped code m z
  equipped_sent below e =
      let most = ap (λ (b : Bank). b.masks.most) sent.bank in
      record {
        fitted = fitted_sent code x.steps z.steps noted sent e.fitted (let r = e.sent in omega (arith, r, room));
        workers = ap (λ (b : Bank). b.workers) sent.bank ∙ e.workers;
        sent = (let r = e.fitted.asks in let k = ap (λ (a : HeldAsks). a.room) kept in omega (arith, r, k, most));
        cells = cells ∙ e.cells ∙ ap m.width (ap (λ (b : Bank). b.worker) (sym sent.bank));
        asked = record {
          count = sym (length-map z.asked.items vec_capacity) ∙ ap length rooms ∙ length-map x.asked.items vec_capacity ∙ e.asked.count;
          room = λ j l. ap (λ rs. room_at rs j) rooms ∙ e.asked.room j l;
        };
        few = few;
        buffers = subst (λ b. AreBuffers m.parts (most_words code m) b) (sym buffers) e.buffers;
        values = ap (λ (v : Vec ℤ Global). length v.items) values ∙ e.values ∙ sym most;
        below = subst (λ (a : HeldAsks). AllByRecursion (IsAskBelow m.count) a.held) (sym kept) below;
      }

-- ---- a vote

pub verified_voted : (code : SuperstepCode) (x : WorkerState) (u : UniformState) (d : ℕ) → IsWellFormed code → IsVerifiedAt code x →
    slice_get code.instructions x.place ≡ Some (Vote d) → u.width ≡ x.uniform.width → u.asks ≡ x.uniform.asks →
    u.awaited ≡ x.uniform.awaited → u.put ≡ x.uniform.put → IsVerifiedAt code (record x { uniform = u; place = x.place + 1 })
verified_voted code x u d formed v there width asks awaited put =
    verified_next code x (Vote d) formed v there (record x { uniform = u; place = x.place + 1 }) refl
    (λ state q allowed within. record {
      outside = λ e. width ∙ q.outside e;
      narrow = subst (λ n. n ≤ code.procs) (sym width) q.narrow;
      masks = q.masks;
      asks = ap (λ (v : SmallVec Read). length v.items) asks ∙ q.asks;
      put = ap (λ o. is_held (put_is o)) put ∙ q.put;
      awaited = ap (λ (v : SmallVec Read). nat_lt 0 (length v.items)) awaited ∙ q.awaited;
    })
