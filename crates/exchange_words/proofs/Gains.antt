-- By how much an instruction adds to what the workers owe.
use Rattle.std.proofs.Common.{◌≡◌, ℕ, ◌+◌, ◌*◌, ◌≤◌, List, [], ◌∷◌, ◌++◌, map, length, Bool, true, false, Option, Some, None}
use Rattle.std.proofs.Common.{eqb, refl, sym, ap, ◌∙◌, arith, ℤ, pos}
use Rattle.std.specs.Prelude.{if◌then◌else◌}
use Rattle.std.specs.List.{filter_map, cons_option, zip, range_with_len}
use Rattle.std.proofs.lemmas.List.{length-append}
use Rattle.std.proofs.Math.Nat.{mul-le-mul_left}
use Rattle.pram_model.specs.Layout.{cell_of}
use Rattle.pram_values.proofs.Totals.{total_map, total_joined, total_none, total_within}
use Rattle.superstep_instructions.specs.declared.instr.Side.TheVariants.{Uniform, Private}
use Rattle.superstep_instructions.specs.declared.instr.Instr.{Instr}
use Rattle.superstep_instructions.specs.declared.instr.Instr.TheVariants.{Mask, Flip, Unmask, Ask, Put}
use Rattle.superstep_instructions.specs.Code.{SuperstepCode}
use Rattle.superstep_machine.specs.Setting.{Setting, workers, processors}
use Rattle.superstep_machine.specs.Parts.{Read, UniformPart, PrivatePart, fresh}
use Rattle.superstep_machine.specs.Steps.{on_uniform, uniform_write, is_active, cell_for, write_to, on_active, on_own, index_of}
use Rattle.superstep_machine.specs.Steps.{renews, moment_of}
use Rattle.superstep_machine.specs.Words.{bit}
use Rattle.superstep_machine.specs.Worker.{Worker, HeldWrite, numbered, by_processor, uniform_writes, own_writes, own_after}
use Rattle.superstep_machine.specs.Worker as worker
use Rattle.superstep_machine.proofs.Numbers.{turned}
use Rattle.flat_machine.specs.Flat.{Flat}
use Rattle.flat_machine.specs.Flatness.{IsMapFor}
use Rattle.flat_machine.proofs.Ranges.{either}
use Rattle.flat_machine.proofs.Relation.{Splits}
use Rattle.flat_machine.proofs.Instructions.{by_workers}
use Rattle.exchange_words.specs.Accesses.{of_write, active, words_by}
use Rattle.exchange_words.proofs.Sums.{added, added_both, added_most, added_again, added_nothing, added_times, once, passed}
use Rattle.exchange_words.proofs.Sums.{numbers_are_monoid}
use Rattle.exchange_words.proofs.Owed.{owed, one_cell, of_reads, of_cells, of_own}

one_at_most : (c : Option ℕ) → one_cell c ≤ 1
one_at_most None = omega arith
one_at_most (Some c) = omega arith

-- ---- the reads

cell_behind : (cells : List (Option ℕ)) (c : Option ℕ) → of_cells (cells ++ c ∷ []) ≡ of_cells cells + one_cell c
cell_behind cells c =
    let a = total_joined 0 (λ a b. a + b) numbers_are_monoid one_cell cells (c ∷ []) in omega (arith, a)

read_behind : (reads : List Read) (read : Read) → of_reads (reads ++ read ∷ []) ≡ of_reads reads + one_cell read.cell
read_behind reads read =
    let a = total_joined 0 (λ a b. a + b) numbers_are_monoid (λ (r : Read). one_cell r.cell) reads (read ∷ []) in omega (arith, a)

abbrev uniform_growth : Instr → ℕ
uniform_growth (Ask Uniform d c s q) = 1
uniform_growth i = 0

uniform_grows : (code : SuperstepCode) (i : Instr) (u : UniformPart) → of_reads (on_uniform code i u).asks ≤ of_reads u.asks
    + uniform_growth i
uniform_grows code (Ask Uniform d c s q) u =
    let cell = cell_of code.layout c (u.registers s) in
    let read : Read = record { side = Uniform; destination = d; moment = moment_of u q; cell = cell } in
    let a = read_behind u.asks read in
    let b = one_at_most cell in
    omega (arith, a, b)
uniform_grows code (Ask Private d c s q) u =
    let read : Read = record { side = Private; destination = d; moment = moment_of u q; cell = None } in
    let a = read_behind u.asks read in
    omega (arith, a)
uniform_grows code i u = omega arith

abbrev own_growth : Instr → PrivatePart → ℕ
own_growth (Ask Private d c s q) x = bit (is_active x)
own_growth i x = 0

own_grows : (code : SuperstepCode) (i : Instr) (u : UniformPart) (v : ℕ) (x : PrivatePart) →
    of_cells (on_own code i u v x).asks ≤ of_cells x.asks + own_growth i x
own_grows code (Mask s) u v x = omega arith
own_grows code Flip u v x = omega arith
own_grows code Unmask u v x = omega arith
own_grows code (Ask Uniform d c s q) u v x = let a = cell_behind x.asks None in omega (arith, a)
own_grows code (Ask Private d c s q) u v x = go (is_active x)
  where
    go : (b : Bool) → of_cells (if b then on_active code (Ask Private d c s q) u v x else record x { asks = x.asks ++ None ∷ [] }).asks
        ≤ of_cells x.asks + bit b
    go true =
        let a = cell_behind x.asks (cell_for code c s x) in let b = one_at_most (cell_for code c s x) in omega (arith, a, b)
    go false = let a = cell_behind x.asks None in omega (arith, a)
own_grows code i u v x =
    either (λ (y : PrivatePart). of_cells y.asks ≤ of_cells x.asks + 0) (is_active x) (on_active code i u v x) x
    (let e : of_cells x.asks ≤ of_cells x.asks + 0 = omega arith in e) (let e : of_cells x.asks ≤ of_cells x.asks + 0 = omega arith in e)

zipped : (code : SuperstepCode) (i : Instr) (u : UniformPart) (vs : List ℕ) (own : List PrivatePart) →
    of_own (map (λ (x : ℕ × PrivatePart). on_own code i u x.0 x.1) (zip vs own)) ≤ of_own own + added (own_growth i) own
zipped code i u [] own = omega arith
zipped code i u (v ∷ vs) [] = omega arith
zipped code i u (v ∷ vs) (x ∷ own) =
    let a = own_grows code i u v x in let b = zipped code i u vs own in omega (arith, a, b)

all_fresh : (vs : List ℕ) → of_own (map (λ (v : ℕ). fresh) vs) ≡ 0
all_fresh [] = refl
all_fresh (v ∷ vs) = let h = all_fresh vs in omega (arith, h)

own_after_grows : (t : Setting) (w : ℕ) (i : Instr) (x : Worker) → of_own (own_after t w i x) ≤ of_own x.own + added (own_growth i) x.own
own_after_grows t w i x = go (renews i)
  where
    go : (b : Bool) → of_own (if b then map (λ v. fresh) (processors t w (on_uniform t.code i x.uniform).width)
        else map (λ (y : ℕ × PrivatePart). on_own t.code i x.uniform y.0 y.1) (numbered t w x)) ≤ of_own x.own + added (own_growth i) x.own
    go true = let h = all_fresh (processors t w (on_uniform t.code i x.uniform).width) in omega (arith, h)
    go false = zipped t.code i x.uniform (processors t w x.uniform.width) x.own

-- ---- the writes

abbrev acting : Worker → ℕ
acting x = added (λ (y : PrivatePart). bit (is_active y)) x.own

abbrev held_growth : Instr → ℕ → Worker → ℕ
held_growth (Put Uniform c s v q) w x = bit (eqb 0 w)
held_growth (Put Private c s v q) w x = acting x
held_growth i w x = 0

-- where nobody writes nothing is held
none_write : {A : Type 0} (f : A → Option HeldWrite) → ((x : A) → f x ≡ None) → (xs : List A) → length (filter_map f xs) ≡ 0
none_write f h [] = refl
none_write f h (x ∷ xs) = ap (λ o. length (cons_option o (filter_map f xs))) (h x) ∙ none_write f h xs

one_writes : (processor : ℤ) (write : Option (ℕ × ℤ)) (rest : List HeldWrite) →
    length (cons_option (by_processor processor write) rest) ≤ 1 + length rest
one_writes processor None rest = omega arith
one_writes processor (Some (cell, value)) rest = omega arith

uniform_held : (t : Setting) (w c s v q : ℕ) (u : UniformPart) → length (uniform_writes t w (Put Uniform c s v q) u) ≤ bit (eqb w 0)
uniform_held t w c s v q u = go (eqb w 0)
  where
    go : (b : Bool) → length (filter_map (λ write. by_processor (pos 0) write)
        ((if b then uniform_write t.code (Put Uniform c s v q) u else None) ∷ [])) ≤ bit b
    go true = let a = one_writes (pos 0) (uniform_write t.code (Put Uniform c s v q) u) [] in omega (arith, a)
    go false = omega arith

none_of_uniform : (t : Setting) (w c s v q : ℕ) (u : UniformPart) → length (uniform_writes t w (Put Private c s v q) u) ≡ 0
none_of_uniform t w c s v q u = go (eqb w 0)
  where
    go : (b : Bool) → length (filter_map (λ write. by_processor (pos 0) write) ((if b then None else None) ∷ [])) ≡ 0
    go true = refl
    go false = refl

own_held : (t : Setting) (c s v q : ℕ) (u : UniformPart) (vs : List ℕ) (own : List PrivatePart) →
    length (own_writes t (Put Private c s v q) u (zip vs own)) ≤ added (λ (y : PrivatePart). bit (is_active y)) own
own_held t c s v q u [] own = omega arith
own_held t c s v q u (k ∷ vs) [] = omega arith
own_held t c s v q u (k ∷ vs) (x ∷ own) = go (own_held t c s v q u vs own) (is_active x)
  where
    go : length (own_writes t (Put Private c s v q) u (zip vs own)) ≤ added (λ (y : PrivatePart). bit (is_active y)) own → (b : Bool) →
        length (cons_option (by_processor (index_of u k) (if b then write_to (cell_for t.code c s x) (x.registers v) else None))
        (own_writes t (Put Private c s v q) u (zip vs own))) ≤ bit b + added (λ (y : PrivatePart). bit (is_active y)) own
    go h true =
        let a = one_writes (index_of u k) (write_to (cell_for t.code c s x) (x.registers v))
        (own_writes t (Put Private c s v q) u (zip vs own)) in omega (arith, a, h)
    go h false = omega (arith, h)

held_grows : (t : Setting) (w : ℕ) (i : Instr) (x : Worker) → length (worker.after_instr t w i x).held ≤ length x.held + held_growth i w x
held_grows t w (Put Uniform c s v q) x =
    let first = uniform_writes t w (Put Uniform c s v q) x.uniform in
    let second = own_writes t (Put Uniform c s v q) x.uniform (numbered t w x) in
    let a = length-append first second in
    let b = uniform_held t w c s v q x.uniform in
    let d : length second ≡ 0 = none_write _ (λ y. refl) (numbered t w x) in
    let e : bit (eqb w 0) ≡ bit (eqb 0 w) = ap bit (turned w 0) in
    omega (arith, a, b, d, e)
held_grows t w (Put Private c s v q) x =
    let first = uniform_writes t w (Put Private c s v q) x.uniform in
    let second = own_writes t (Put Private c s v q) x.uniform (numbered t w x) in
    let a = length-append first second in
    let b = none_of_uniform t w c s v q x.uniform in
    let d = own_held t c s v q x.uniform (processors t w x.uniform.width) x.own in
    omega (arith, a, b, d)
held_grows t w i x = omega arith

-- ---- all workers

module _ (t : Setting) (room : IsMapFor t.code t.map) where
  abbrev all : List ℕ
  all = range_with_len 0 (workers t)

  abbrev growth : Instr → ℕ → Worker → ℕ
  growth i w x = of_write t.code.rule * held_growth i w x + 2 * (uniform_growth i + added (own_growth i) x.own)

  grows : (w : ℕ) (i : Instr) (x : Worker) → owed t.code.rule (worker.after_instr t w i x) ≤ owed t.code.rule x + growth i w x
  grows w i x =
      let k = of_write t.code.rule in
      let a = held_grows t w i x in
      let b : k * length (worker.after_instr t w i x).held ≤ k * (length x.held + held_growth i w x) = mul-le-mul_left k a in
      let c : k * (length x.held + held_growth i w x) ≡ k * length x.held + k * held_growth i w x = omega arith in
      let d = uniform_grows t.code i x.uniform in
      let e = own_after_grows t w i x in
      omega (arith, b, c, d, e)

  -- the active processors of all workers are those of the range
  acting_all : (f : Flat) (xs : ℕ → Worker) → Splits t f xs → added (λ w. acting (xs w)) all ≡ active f
  acting_all f xs s =
      let one = λ (y : PrivatePart). bit (is_active y) in
      total_within 0 (λ a b. a + b) (λ w. acting (xs w)) (λ w. added (λ v. one (f.own v)) (processors t w f.uniform.width)) (workers t) 0
      (λ w l. ap (λ (own : List PrivatePart). added one own) (s.own w (omega (arith, l)))
      ∙ total_map 0 (λ a b. a + b) one f.own (processors t w f.uniform.width))
      ∙ by_workers t room 0 (λ a b. a + b) numbers_are_monoid (λ v. one (f.own v)) f.uniform.width
      ∙ sym (passed (λ v. is_active (f.own v)) (range_with_len 0 f.uniform.width))

  none_own : (own : List PrivatePart) → added (λ (x : PrivatePart). 0) own ≡ 0
  none_own own = total_none 0 (λ a b. a + b) numbers_are_monoid (λ (x : PrivatePart). 0) (λ x. refl) own

  growths : (i : Instr) (f : Flat) (xs : ℕ → Worker) → Splits t f xs →
      added (λ w. growth i w (xs w)) all ≤ words_by t.code.rule (workers t) i f
  growths (Ask Uniform d c s q) f xs sp =
      let a = added_most (λ w. growth (Ask Uniform d c s q) w (xs w)) (λ w. 2) all
      (λ w. let z = none_own (xs w).own in let k : of_write t.code.rule * 0 ≡ 0 = omega arith in omega (arith, z, k)) in
      let b = added_again 2 (workers t) 0 in
      omega (arith, a, b)
  growths (Ask Private d c s q) f xs sp =
      let a = added_most (λ w. growth (Ask Private d c s q) w (xs w)) (λ w. 2 * acting (xs w)) all
      (λ w. let k : of_write t.code.rule * 0 ≡ 0 = omega arith in omega (arith, k)) in
      let b = added_times 2 (λ w. acting (xs w)) all in
      let c = acting_all f xs sp in
      omega (arith, a, b, c)
  growths (Put Uniform c s v q) f xs sp =
      let k = of_write t.code.rule in
      let a = added_most (λ w. growth (Put Uniform c s v q) w (xs w)) (λ w. k * bit (eqb 0 w)) all
      (λ w. let z = none_own (xs w).own in omega (arith, z)) in
      let b = added_times k (λ w. bit (eqb 0 w)) all in
      let d : k * added (λ w. bit (eqb 0 w)) all ≤ k * 1 = mul-le-mul_left k (once 0 (workers t) 0) in
      let e : k * 1 ≡ k = omega arith in
      omega (arith, a, b, d, e)
  growths (Put Private c s v q) f xs sp =
      let k = of_write t.code.rule in
      let a = added_most (λ w. growth (Put Private c s v q) w (xs w)) (λ w. k * acting (xs w)) all
      (λ w. let z = none_own (xs w).own in omega (arith, z)) in
      let b = added_times k (λ w. acting (xs w)) all in
      let d : k * added (λ w. acting (xs w)) all ≡ k * active f = ap (λ n. k * n) (acting_all f xs sp) in
      omega (arith, a, b, d)
  growths i f xs sp =
      let a = added_most (λ w. growth i w (xs w)) (λ w. 0) all
      (λ w. let z = none_own (xs w).own in let k : of_write t.code.rule * 0 ≡ 0 = omega arith in omega (arith, z, k)) in
      let b = added_nothing (workers t) 0 in
      omega (arith, a, b)

  -- what all workers owe behind an instruction
  pub gains : (i : Instr) (f : Flat) (xs : ℕ → Worker) → Splits t f xs →
      added (λ w. owed t.code.rule (worker.after_instr t w i (xs w))) all
      ≤ added (λ w. owed t.code.rule (xs w)) all + words_by t.code.rule (workers t) i f
  gains i f xs s =
      let a = added_most (λ w. owed t.code.rule (worker.after_instr t w i (xs w))) (λ w. owed t.code.rule (xs w) + growth i w (xs w)) all
      (λ w. grows w i (xs w)) in
      let b = added_both (λ w. owed t.code.rule (xs w)) (λ w. growth i w (xs w)) all in
      let c = growths i f xs s in
      omega (arith, a, b, c)
