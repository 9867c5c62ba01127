-- What an instruction keeps of a worker: values of 64 bits, cells of the map, and no more writes than it has processors.
use Rattle.std.proofs.Common.{◌≡◌, ℕ, suc, ◌<◌, ◌≤◌, List, [], ◌∷◌, ◌++◌, map, length, Bool, true, false, eqb, Option, Some, None, ℤ, pos}
use Rattle.std.proofs.Common.{refl, ap, ◌∙◌, subst, arith, FitsSigned}
use Rattle.std.specs.Prelude.{if◌then◌else◌}
use Rattle.std.specs.List.{AllByRecursion, filter_map, cons_option, zip}
use Rattle.std.specs.Int.{w64}
use Rattle.std.proofs.lemmas.List.{length-append, length-map}
use Rattle.pram_model.specs.Layout.{total_size, cell_of}
use Rattle.superstep_instructions.specs.declared.instr.Side.TheVariants.{Uniform, Private}
use Rattle.superstep_instructions.specs.declared.instr.Instr.{Instr}
use Rattle.superstep_instructions.specs.declared.instr.Instr.TheVariants.{Mark, CopyUniform, Index, Enter, Leave, Mask, Flip, Unmask, Ask}
use Rattle.superstep_instructions.specs.declared.instr.Instr.TheVariants.{Put}
use Rattle.superstep_instructions.specs.declared.instr.Instr.TheVariants.{Print}
use Rattle.superstep_instructions.specs.Code.{SuperstepCode}
use Rattle.superstep_instructions.specs.Limits.{IsCode, IsInstr}
use Rattle.superstep_machine.specs.Setting.{Setting, workers, processors}
use Rattle.superstep_machine.specs.Parts.{Read, UniformPart, PrivatePart, fresh}
use Rattle.superstep_machine.specs.Results.{is_of, range_width, or_empty}
use Rattle.superstep_machine.specs.Steps.{on_uniform, uniform_write, index_of, is_active, cell_for, write_to, on_active, on_own, own_write}
use Rattle.superstep_machine.specs.Steps.{is_put}
use Rattle.superstep_machine.specs.Worker.{HeldWrite, Worker, numbered, by_processor, uniform_writes, own_writes, after_instr}
use Rattle.superstep_machine.specs.Fitting.{FitsWrite, IsCellBelow}
use Rattle.superstep_machine.proofs.MachineWords.{all_map, all_joined, zero_fits}
use Rattle.bsp_verify.proofs.WorkerLemmas.{either_way, all_made, all_add, width_at_most}
use Rattle.flat_machine.specs.Flatness.{IsMapFor}
use Rattle.pram_model.proofs.Cells.{cell_below}
use Rattle.machine_limits.specs.Within.{AreValues, HaveValues, share}
use Rattle.machine_limits.proofs.Values.{result_if, zero_without_fits, set_fits, index_within}
use Rattle.machine_limits.proofs.Shares.{few_processors, some_share, numbers_below}
use Rattle.pram_model.proofs.Truths.{unsome}

-- a read is of a cell of the map, and a private one has no cell of its own
pub record IsReadBelow (n : ℕ) (r : Read) : Type 0 where
  pub cell : IsCellBelow n r.cell
  pub own : r.side ≡ Private → r.cell ≡ None

-- a write that fits, to a cell of the map
pub record IsWriteBelow (n : ℕ) (x : HeldWrite) : Type 0 where
  pub fits : FitsWrite x
  pub cell : x.cell < n

pub record IsOwnKept (n : ℕ) (y : PrivatePart) : Type 0 where
  pub values : HaveValues y.registers
  pub asks : AllByRecursion (IsCellBelow n) y.asks

-- the uniform part
pub record IsUniformKept (n : ℕ) (u : UniformPart) : Type 0 where
  pub values : HaveValues u.registers
  pub indices : (v : ℕ) → v < u.width → FitsSigned w64 (index_of u v)
  pub asks : AllByRecursion (IsReadBelow n) u.asks
  pub output : AllByRecursion (λ (item : ℕ × ℤ). FitsSigned w64 item.1) u.output

pub record IsKept (t : Setting) (w : ℕ) (x : Worker) : Type 0 where
  pub uniform : IsUniformKept t.map.count x.uniform
  pub own : AllByRecursion (IsOwnKept t.map.count) x.own
  pub cells : AreValues x.cells
  pub writes : AllByRecursion (IsWriteBelow t.map.count) x.held
  pub few_own : w < workers t → length x.own ≤ share t
  pub few_held : w < workers t → length x.held ≤ share t

-- ---- lists

all_filter_map : {A B : Type 0} (P : A → Type 0) (Q : B → Type 0) (f : A → Option B) → ((x : A) (y : B) → P x → f x ≡ Some y → Q y) →
    (xs : List A) → AllByRecursion P xs →
    AllByRecursion Q (filter_map f xs)
all_filter_map P Q f h [] a = tt
all_filter_map P Q f h (x ∷ xs) a = go (f x) refl (all_filter_map P Q f h xs a.1)
  where
    go : (o : Option _) → f x ≡ o → AllByRecursion Q (filter_map f xs) → AllByRecursion Q (cons_option o (filter_map f xs))
    go None e rest = rest
    go (Some y) e rest = (h x y a.0 e, rest)

pub length-filter_map : {A B : Type 0} (f : A → Option B) (xs : List A) → length (filter_map f xs) ≤ length xs
length-filter_map f [] = omega arith
length-filter_map f (x ∷ xs) = go (f x) (length-filter_map f xs)
  where
    go : (o : Option _) → length (filter_map f xs) ≤ length xs → length (cons_option o (filter_map f xs)) ≤ suc (length xs)
    go None h = omega (arith, h)
    go (Some y) h = omega (arith, h)

none_filter_map : {A B : Type 0} (f : A → Option B) → ((x : A) → f x ≡ None) → (xs : List A) → filter_map f xs ≡ []
none_filter_map f h [] = refl
none_filter_map f h (x ∷ xs) = ap (λ o. cons_option o (filter_map f xs)) (h x) ∙ none_filter_map f h xs

-- numbers, each with a processor
all_zipped : {A : Type 0} (P : ℕ → Type 0) (Q : A → Type 0) (vs : List ℕ) (ys : List A) → AllByRecursion P vs → AllByRecursion Q ys →
    AllByRecursion (λ (x : ℕ × A). P x.0 × Q x.1) (zip vs ys)
all_zipped P Q [] ys h k = tt
all_zipped P Q (v ∷ vs) [] h k = tt
all_zipped P Q (v ∷ vs) (y ∷ ys) h k = ((h.0, k.0), all_zipped P Q vs ys h.1 k.1)

pub length-zip : {A B : Type 0} (vs : List A) (ys : List B) → length (zip vs ys) ≤ length ys
length-zip [] ys = omega arith
length-zip (v ∷ vs) [] = omega arith
length-zip (v ∷ vs) (y ∷ ys) = let h = length-zip vs ys in omega (arith, h)

-- ---- one instruction

module _ (code : SuperstepCode) (n : ℕ) (room : total_size code.layout ≤ n) where
  cell_fits : (entry : ℕ) (z : ℤ) → IsCellBelow n (cell_of code.layout entry z)
  cell_fits entry z = go (cell_of code.layout entry z) refl
    where
      go : (o : Option ℕ) → cell_of code.layout entry z ≡ o → IsCellBelow n o
      go None e = tt
      go (Some c) e = let l = cell_below code.layout entry z c e in omega (arith, l, room)

  uniform_kept : (i : Instr) → IsInstr i → (u : UniformPart) → IsUniformKept n u → IsUniformKept n (on_uniform code i u)
  uniform_kept (Mark line) a u h = record { values = h.values; indices = h.indices; asks = h.asks; output = h.output }
  uniform_kept (Enter r s q) a u h = record {
    values = h.values;
    indices = λ v l. index_within code.procs (u.registers r) (u.registers s) (h.values r) (h.values s) v l;
    asks = h.asks;
    output = h.output;
  }
  uniform_kept Leave a u h = record { values = h.values; indices = λ v l. absurd (omega (arith, l)); asks = h.asks; output = h.output }
  uniform_kept (Ask Uniform d e s q) a u h = record {
    values = zero_without_fits (cell_of code.layout e (u.registers s)) d u.registers h.values;
    indices = h.indices;
    asks = all_add (IsReadBelow n) u.asks _ h.asks (record { cell = cell_fits e (u.registers s); own = λ k. cc });
    output = h.output;
  }
  uniform_kept (Ask Private d e s q) a u h = record {
    values = h.values;
    indices = h.indices;
    asks = all_add (IsReadBelow n) u.asks _ h.asks (record { cell = tt; own = λ k. refl });
    output = h.output;
  }
  uniform_kept (Put side e s v q) a u h = record { values = h.values; indices = h.indices; asks = h.asks; output = h.output }
  uniform_kept (Print s) a u h = record {
    values = h.values;
    indices = h.indices;
    asks = h.asks;
    output = all_add (λ (item : ℕ × ℤ). FitsSigned w64 item.1) u.output _ h.output (h.values s);
  }
  uniform_kept i a u h = record {
    values = result_if (is_of Uniform i) i u.registers u.registers a h.values h.values;
    indices = h.indices;
    asks = h.asks;
    output = h.output;
  }

  module _ (u : UniformPart) (k : IsUniformKept n u) (v : ℕ) (l : v < u.width) where
    active_kept : (i : Instr) → IsInstr i → (y : PrivatePart) → IsOwnKept n y → IsOwnKept n (on_active code i u v y)
    active_kept (CopyUniform d s) a y h = record { values = set_fits d (u.registers s) y.registers (k.values s) h.values; asks = h.asks }
    active_kept (Index d) a y h = record { values = set_fits d (index_of u v) y.registers (k.indices v l) h.values; asks = h.asks }
    active_kept (Ask Private d e s q) a y h = record {
      values = zero_without_fits (cell_for code e s y) d y.registers h.values;
      asks = all_add (IsCellBelow n) y.asks (cell_for code e s y) h.asks (cell_fits e (y.registers s));
    }
    active_kept i a y h = record { values = result_if (is_of Private i) i y.registers y.registers a h.values h.values; asks = h.asks }

    own_kept : (i : Instr) → IsInstr i → (y : PrivatePart) → IsOwnKept n y → IsOwnKept n (on_own code i u v y)
    own_kept (Mask s) a y h = record { values = h.values; asks = h.asks }
    own_kept Flip a y h = record { values = h.values; asks = h.asks }
    own_kept Unmask a y h = record { values = h.values; asks = h.asks }
    own_kept (Ask Uniform d e s q) a y h = record { values = h.values; asks = all_add (IsCellBelow n) y.asks None h.asks tt }
    own_kept (Ask Private d e s q) a y h =
        either_way (IsOwnKept n) (is_active y) (on_active code (Ask Private d e s q) u v y) (record y { asks = y.asks ++ None ∷ [] })
        (active_kept (Ask Private d e s q) a y h) (record { values = h.values; asks = all_add (IsCellBelow n) y.asks None h.asks tt })
    own_kept i a y h = either_way (IsOwnKept n) (is_active y) (on_active code i u v y) y (active_kept i a y h) h

-- ---- a worker

module _ (t : Setting) (code : IsCode t.code) (room : IsMapFor t.code t.map) (w : ℕ) where
  abbrev count : ℕ
  count = t.map.count

  -- a write of a value, by a processor whose index fits
  write_kept : (index : ℤ) → FitsSigned w64 index → (entry : ℕ) (z value : ℤ) → FitsSigned w64 value → (h : HeldWrite) →
      by_processor index (write_to (cell_of t.code.layout entry z) value) ≡ Some h → IsWriteBelow count h
  write_kept index f entry z value g h = go (cell_of t.code.layout entry z) (cell_fits t.code count room.room entry z)
    where
      go : (o : Option ℕ) → IsCellBelow count o → by_processor index (write_to o value) ≡ Some h → IsWriteBelow count h
      go None b e = cc
      go (Some c) b e =
          subst (IsWriteBelow count) (unsome (record { processor = index; cell = c; value = value }) h e)
          (record { fits = record { cell = (let s = room.lawful.small in omega (arith, s, b)); processor = f; value = g }; cell = b })

  uniform_write_kept : (i : Instr) (u : UniformPart) → IsUniformKept count u → (h : HeldWrite) →
      by_processor (pos 0) (uniform_write t.code i u) ≡ Some h → IsWriteBelow count h
  uniform_write_kept (Put Uniform e s v q) u k h = write_kept (pos 0) zero_fits e (u.registers s) (u.registers v) (k.values v) h
  uniform_write_kept i u k h = λ e. cc

  own_write_kept : (i : Instr) (index : ℤ) → FitsSigned w64 index → (y : PrivatePart) → IsOwnKept count y → (h : HeldWrite) →
      by_processor index (own_write t.code i y) ≡ Some h → IsWriteBelow count h
  own_write_kept (Put Private e s v q) index f y k h = go (is_active y)
    where
      go : (b : Bool) → by_processor index (if b then write_to (cell_for t.code e s y) (y.registers v) else None) ≡ Some h →
          IsWriteBelow count h
      go true = write_kept index f e (y.registers s) (y.registers v) (k.values v) h
      go false = λ e. cc
  own_write_kept i index f y k h = λ e. cc

  module _ (x : Worker) (h : IsKept t w x) where
    -- its processors, with their numbers
    numbered_kept : AllByRecursion (λ (y : ℕ × PrivatePart). (y.0 < x.uniform.width) × IsOwnKept count y.1) (numbered t w x)
    numbered_kept =
        all_zipped (λ v. v < x.uniform.width) (IsOwnKept count) (processors t w x.uniform.width) x.own (numbers_below t w x.uniform.width)
        h.own

    uniform_writes_kept : (i : Instr) → AllByRecursion (IsWriteBelow count) (uniform_writes t w i x.uniform)
    uniform_writes_kept i = go (eqb w 0)
      where
        go : (b : Bool) → AllByRecursion (IsWriteBelow count) (filter_map (λ (o : Option (ℕ × ℤ)). by_processor (pos 0) o)
            ((if b then uniform_write t.code i x.uniform else None) ∷ []))
        go true = one (by_processor (pos 0) (uniform_write t.code i x.uniform)) (λ z e. uniform_write_kept i x.uniform h.uniform z e)
          where
            one : (o : Option HeldWrite) → ((z : HeldWrite) → o ≡ Some z → IsWriteBelow count z) →
                AllByRecursion (IsWriteBelow count) (cons_option o [])
            one None f = tt
            one (Some z) f = (f z refl, tt)
        go false = tt

    own_writes_kept : (i : Instr) → AllByRecursion (IsWriteBelow count) (own_writes t i x.uniform (numbered t w x))
    own_writes_kept i =
        all_filter_map (λ (y : ℕ × PrivatePart). (y.0 < x.uniform.width) × IsOwnKept count y.1) (IsWriteBelow count)
        (λ (y : ℕ × PrivatePart). by_processor (index_of x.uniform y.0) (own_write t.code i y.1))
        (λ y z k e. own_write_kept i (index_of x.uniform y.0) (h.uniform.indices y.0 k.0) y.1 k.1 z e) (numbered t w x) numbered_kept

    parts_kept : (i : Instr) → IsInstr i →
        AllByRecursion (IsOwnKept count) (map (λ (y : ℕ × PrivatePart). on_own t.code i x.uniform y.0 y.1) (numbered t w x))
    parts_kept i a =
        all_map (λ (y : ℕ × PrivatePart). (y.0 < x.uniform.width) × IsOwnKept count y.1) (IsOwnKept count) (λ (y : ℕ × PrivatePart).
        on_own t.code i x.uniform y.0 y.1)
        (λ y k. own_kept t.code count room.room x.uniform h.uniform y.0 k.0 i a y.1 k.1) (numbered t w x) numbered_kept

    fresh_kept : (vs : List ℕ) → AllByRecursion (IsOwnKept count) (map (λ v. fresh) vs)
    fresh_kept vs = all_made (IsOwnKept count) (λ (v : ℕ). fresh) (λ v. record { values = λ r. zero_fits; asks = tt }) vs

    numbered_few : w < workers t → length (numbered t w x) ≤ share t
    numbered_few l = let a = length-zip (processors t w x.uniform.width) x.own in let b = h.few_own l in omega (arith, a, b)

    parts_few : (g : ℕ × PrivatePart → PrivatePart) → w < workers t → length (map g (numbered t w x)) ≤ share t
    parts_few g l = let a = length-map (numbered t w x) g in let b = numbered_few l in omega (arith, a, b)

    room_for_one : w < workers t → 1 ≤ share t
    room_for_one l = some_share t (omega (arith, l)) code.some_procs

    -- a put of the program makes one write, and one of the processors at most one each
    few_writes : (i : Instr) (one : length (uniform_writes t w i x.uniform) ≤ 1) → own_writes t i x.uniform (numbered t w x) ≡ [] →
        w < workers t →
        length (uniform_writes t w i x.uniform ++ own_writes t i x.uniform (numbered t w x)) ≤ share t
    few_writes i one none l =
        let a = length-append (uniform_writes t w i x.uniform) (own_writes t i x.uniform (numbered t w x)) in
        let b = ap (λ (xs : List HeldWrite). length xs) none in
        let c = room_for_one l in omega (arith, a, b, c, one)

    put_few : (i : Instr) → is_put i ≡ true → w < workers t →
        length (uniform_writes t w i x.uniform ++ own_writes t i x.uniform (numbered t w x)) ≤ share t
    put_few (Put Uniform e s v q) p l =
        few_writes (Put Uniform e s v q) (length-filter_map (λ (o : Option (ℕ × ℤ)). by_processor (pos 0) o)
        ((if eqb w 0 then uniform_write t.code (Put Uniform e s v q) x.uniform else None) ∷ []))
        (none_filter_map (λ (y : ℕ × PrivatePart). by_processor (index_of x.uniform y.0) (own_write t.code (Put Uniform e s v q) y.1))
        (λ y. refl) (numbered t w x)) l
    put_few (Put Private e s v q) p l = go (eqb w 0)
      where
        own : List HeldWrite
        own = own_writes t (Put Private e s v q) x.uniform (numbered t w x)

        short : length own ≤ share t
        short =
            let a = length-filter_map (λ (y : ℕ × PrivatePart).
            by_processor (index_of x.uniform y.0) (own_write t.code (Put Private e s v q) y.1)) (numbered t w x) in
            let b = numbered_few l in omega (arith, a, b)

        go : (b : Bool) → length (filter_map (λ (o : Option (ℕ × ℤ)). by_processor (pos 0) o) ((if b then None else None) ∷ [])
            ++ own) ≤ share t
        go true = short
        go false = short
    put_few i p l = cc

    pub instr_kept : (i : Instr) → IsInstr i → IsKept t w (after_instr t w i x)
    instr_kept (Enter r s q) a = record {
      uniform = uniform_kept t.code count room.room (Enter r s q) a x.uniform h.uniform;
      own = fresh_kept (processors t w (or_empty (range_width t.code.procs (x.uniform.registers r) (x.uniform.registers s))));
      cells = h.cells;
      writes = h.writes;
      few_own = λ l.
          let n = or_empty (range_width t.code.procs (x.uniform.registers r) (x.uniform.registers s)) in
          let e = length-map (processors t w n) (λ (v : ℕ). fresh) in
          let f = few_processors t w n l (width_at_most t.code.procs (x.uniform.registers r) (x.uniform.registers s)) in
          omega (arith, e, f);
      few_held = h.few_held;
    }
    instr_kept Leave a = record {
      uniform = uniform_kept t.code count room.room Leave a x.uniform h.uniform;
      own = tt;
      cells = h.cells;
      writes = h.writes;
      few_own = λ l. omega arith;
      few_held = h.few_held;
    }
    instr_kept (Put side e s v q) a = record {
      uniform = uniform_kept t.code count room.room (Put side e s v q) a x.uniform h.uniform;
      own = parts_kept (Put side e s v q) a;
      cells = h.cells;
      writes = all_joined (IsWriteBelow count) (uniform_writes t w (Put side e s v q) x.uniform)
          (own_writes t (Put side e s v q) x.uniform (numbered t w x))
          (uniform_writes_kept (Put side e s v q)) (own_writes_kept (Put side e s v q));
      few_own = parts_few (λ (y : ℕ × PrivatePart). on_own t.code (Put side e s v q) x.uniform y.0 y.1);
      few_held = put_few (Put side e s v q) refl;
    }
    instr_kept i a = record {
      uniform = uniform_kept t.code count room.room i a x.uniform h.uniform;
      own = parts_kept i a;
      cells = h.cells;
      writes = h.writes;
      few_own = parts_few (λ (y : ℕ × PrivatePart). on_own t.code i x.uniform y.0 y.1);
      few_held = h.few_held;
    }
