-- What an instruction and an exchange do to one memory, where the other code's do the same to one whose registers hold the same.
use Rattle.std.proofs.Common.{◌≡◌, ℕ, ◌+◌, List, [], ◌∷◌, ◌++◌, Bool, true, false, Option, Some, None, ℤ, pos, refl, sym, ap, ◌∙◌}
use Rattle.std.specs.Prelude.{if◌then◌else◌, ◌&&◌}
use Rattle.std.specs.List.{AllByRecursion}
use Rattle.std.proofs.lemmas.Bool.Decides.{Decides-int_eq}
use Rattle.pram_values.specs.Total.{total}
use Rattle.pram_values.proofs.Totals.{total_none}
use Rattle.pram_model.proofs.Truths.{both}
use Rattle.pram_values.specs.Truth.{truth}
use Rattle.write_rules.specs.Rule.{shares_reads}
use Rattle.superstep_machine.specs.declared.key.Key.{Key}
use Rattle.superstep_machine.proofs.KeyOrder.{keys_are_monoid, none_least}
use Rattle.superstep_instructions.specs.declared.instr.Side.TheVariants.{Uniform, Private}
use Rattle.superstep_instructions.specs.declared.instr.Instr.{Instr}
use Rattle.superstep_instructions.specs.declared.instr.Instr.TheVariants.{Mark, Set, Copy, Negate, Calculate, Decide, Not, CopyUniform}
use Rattle.superstep_instructions.specs.declared.instr.Instr.TheVariants.{Index}
use Rattle.superstep_instructions.specs.declared.instr.Instr.TheVariants.{Enter, Leave, Mask, Flip, Unmask, Ask, Put, Send, Reply, Vote}
use Rattle.superstep_instructions.specs.declared.instr.Instr.TheVariants.{Print}
use Rattle.superstep_instructions.specs.declared.instr.Instr.TheVariants.{Jump, JumpIfZero, Halt}
use Rattle.superstep_instructions.specs.Code.{SuperstepCode}
use Rattle.superstep_machine.specs.Keys.{least}
use Rattle.superstep_machine.specs.Parts.{Registers, set_register, zeros, Read, UniformPart, PrivatePart}
use Rattle.superstep_machine.specs.Parts as parts
use Rattle.superstep_machine.specs.Steps.{on_uniform, uniform_key, index_of, is_active, on_own, own_key}
use Rattle.superstep_machine.specs.Steps.{renews}
use Rattle.superstep_machine.specs.Sending.{join}
use Rattle.superstep_machine.specs.Answering.{destinations, uniform_answered, own_answered}
use Rattle.flat_machine.specs.Flat.{Flat, range, noted, single_to, written, after_instr, conflicts, read_conflict, read_conflicts, owed}
use Rattle.flat_machine.specs.Flat.{after_send}
use Rattle.flat_machine.specs.Flat.{after_reply, any_active, after_vote}
use Rattle.flat_machine.specs.Flat as flat
use Rattle.tidying.specs.Rows.{Row, Has, Holds, is_none, left_at, in_place}
use Rattle.tidying.proofs.Behind.{active_after, idle_after, rows_after, rows_left}
use Rattle.tidying.specs.Certificates.{Rows, Certificate, changed, is_known, is_at, knows, all_after}
use Rattle.tidying.specs.Certificates.{holds, row_left, may_be_left, AreRefined, opening_rows}
use Rattle.tidying.proofs.Registers.{refined, put_holds, left_holds, zero_holds, no_number, AreFree, own_reply, uniform_reply}
use Rattle.tidying.proofs.Parts.{with_registers, own_with, alike, is_step, uniform_same, uniform_holds, uniform_key_same}
use Rattle.tidying.proofs.Parts.{uniform_write_same}
use Rattle.tidying.proofs.OwnParts.{OwnHolds, own_same, own_holds, own_key_same, own_write_same, idle_row, not_both}

-- the memory with other registers
abbrev pub patched : Flat → Registers → (ℕ → Registers) → Flat
patched f r rs = record f { uniform = with_registers r f.uniform; own = λ v. own_with (rs v) (f.own v) }

-- no read is for a register with a number of its own
abbrev pub IsFree : Certificate → ℕ → Type 0
IsFree c d = (is_none (c.number Uniform d) ≡ true) × (is_none (c.number Private d) ≡ true)

abbrev pub Free : Certificate → List Read → Type 0
Free c reads = AllByRecursion (λ (x : Read). IsFree c x.destination) reads

-- these registers hold what the memory's registers hold, as far as it's known
pub record Related (c : Certificate) (rows : Rows) (f : Flat) (r : Registers) (rs : ℕ → Registers) : Type 0 where
  pub uniform : Holds (c.number Uniform) rows.uniform f.uniform.registers r
  pub own : (v : ℕ) → OwnHolds (c.number Private) rows.active rows.idle rows.all (f.own v) (rs v)
  pub asks : Free c f.uniform.asks
  pub awaited : Free c f.uniform.awaited

free_uniform : (c : Certificate) (reads : List Read) → Free c reads → AreFree (c.number Uniform) (destinations reads)
free_uniform c [] h = tt
free_uniform c (x ∷ xs) h = (h.0.0, free_uniform c xs h.1)

free_private : (c : Certificate) (reads : List Read) → Free c reads → AreFree (c.number Private) (destinations reads)
free_private c [] h = tt
free_private c (x ∷ xs) h = (h.0.1, free_private c xs h.1)

free_more : (c : Certificate) (reads : List Read) (x : Read) → Free c reads → IsFree c x.destination → Free c (reads ++ x ∷ [])
free_more c [] x h i = (i, tt)
free_more c (y ∷ ys) x h i = (h.0, free_more c ys x h.1 i)

pub related_there : (c : Certificate) (there here : Rows) (f : Flat) (r : Registers) (rs : ℕ → Registers) → AreRefined there here →
    Related c here f r rs → Related c there f r rs
related_there c there here f r rs n h = record {
  uniform = refined (c.number Uniform) there.uniform here.uniform f.uniform.registers r n.uniform h.uniform;
  own = λ v. record {
    active = λ e. refined (c.number Private) there.active here.active (f.own v).registers (rs v) n.active ((h.own v).active e);
    idle = λ e. refined (c.number Private) there.idle here.idle (f.own v).registers (rs v) n.idle ((h.own v).idle e);
    all = λ e. (h.own v).all (n.all e);
  };
  asks = h.asks;
  awaited = h.awaited;
}

pub opening_related : (c : Certificate) (input : List ℤ) → Related c (opening_rows c) (flat.opening input) zeros (λ v. zeros)
opening_related c input = record {
  uniform = zero_holds (c.number Uniform);
  own = λ v. record { active = λ e. zero_holds (c.number Private); idle = λ e. cc; all = λ e. refl };
  asks = tt;
  awaited = tt;
}

module _ (code : SuperstepCode) (c : Certificate) (k : ℕ) where
  abbrev ch : Instr → Instr
  ch = changed (c.at k).uniform (c.at k).active (c.into k) c.moved

  abbrev Knows : Instr → Type 0
  Knows i = knows c.number (c.at k).uniform (c.at k).active i ≡ true

  renewed : (i : Instr) → renews i ≡ true →
      OwnHolds (c.number Private) (active_after c k i) (if (c.at k).all then active_after c k i else idle_after c k i)
      (all_after (c.at k).all i) parts.fresh zeros
  renewed (Mark line) nr = cc
  renewed (Set side d n) nr = cc
  renewed (Copy side d s) nr = cc
  renewed (Negate side d s q) nr = cc
  renewed (Calculate side o d y z q) nr = cc
  renewed (Decide side o d y z) nr = cc
  renewed (Not side d s) nr = cc
  renewed (CopyUniform d s) nr = cc
  renewed (Index d) nr = cc
  renewed (Enter y z q) nr = record { active = λ e. zero_holds (c.number Private); idle = λ e. cc; all = λ e. refl }
  renewed Leave nr = record { active = λ e. zero_holds (c.number Private); idle = λ e. cc; all = λ e. refl }
  renewed (Mask s) nr = cc
  renewed Flip nr = cc
  renewed Unmask nr = cc
  renewed (Ask Uniform d z s q) nr = cc
  renewed (Ask Private d z s q) nr = cc
  renewed (Put Uniform z s v q) nr = cc
  renewed (Put Private z s v q) nr = cc
  renewed Send nr = cc
  renewed Reply nr = cc
  renewed (Vote d) nr = cc
  renewed (Print s) nr = cc
  renewed (Jump t) nr = cc
  renewed (JumpIfZero s t) nr = cc
  renewed Halt nr = cc

  asks_free : (i : Instr) → Knows i → (U : UniformPart) → Free c U.asks → Free c (on_uniform code i U).asks
  asks_free (Mark line) w U h = h
  asks_free (Set side d n) w U h = h
  asks_free (Copy side d s) w U h = h
  asks_free (Negate side d s q) w U h = h
  asks_free (Calculate side o d y z q) w U h = h
  asks_free (Decide side o d y z) w U h = h
  asks_free (Not side d s) w U h = h
  asks_free (CopyUniform d s) w U h = h
  asks_free (Index d) w U h = h
  asks_free (Enter y z q) w U h = h
  asks_free Leave w U h = h
  asks_free (Mask s) w U h = h
  asks_free Flip w U h = h
  asks_free Unmask w U h = h
  asks_free (Ask Uniform d z s q) w U h =
      let p = both (is_known Uniform (c.at k).uniform (c.at k).active s)
      (is_at d ((c.at k).uniform d) && (is_none (c.number Uniform d) && is_none (c.number Private d))) w in
      let q = both (is_at d ((c.at k).uniform d)) (is_none (c.number Uniform d) && is_none (c.number Private d)) p.1 in
      free_more c U.asks _ h (both (is_none (c.number Uniform d)) (is_none (c.number Private d)) q.1)
  asks_free (Ask Private d z s q) w U h =
      let p = both (is_known Private (c.at k).uniform (c.at k).active s)
      (is_at d ((c.at k).active d) && (is_none (c.number Uniform d) && is_none (c.number Private d))) w in
      let q = both (is_at d ((c.at k).active d)) (is_none (c.number Uniform d) && is_none (c.number Private d)) p.1 in
      free_more c U.asks _ h (both (is_none (c.number Uniform d)) (is_none (c.number Private d)) q.1)
  asks_free (Put Uniform z s v q) w U h = h
  asks_free (Put Private z s v q) w U h = h
  asks_free Send w U h = h
  asks_free Reply w U h = h
  asks_free (Vote d) w U h = h
  asks_free (Print s) w U h = h
  asks_free (Jump t) w U h = h
  asks_free (JumpIfZero s t) w U h = h
  asks_free Halt w U h = h

  awaited_free : (i : Instr) (U : UniformPart) → Free c U.awaited → Free c (on_uniform code i U).awaited
  awaited_free (Mark line) U h = h
  awaited_free (Set side d n) U h = h
  awaited_free (Copy side d s) U h = h
  awaited_free (Negate side d s q) U h = h
  awaited_free (Calculate side o d y z q) U h = h
  awaited_free (Decide side o d y z) U h = h
  awaited_free (Not side d s) U h = h
  awaited_free (CopyUniform d s) U h = h
  awaited_free (Index d) U h = h
  awaited_free (Enter y z q) U h = h
  awaited_free Leave U h = h
  awaited_free (Mask s) U h = h
  awaited_free Flip U h = h
  awaited_free Unmask U h = h
  awaited_free (Ask Uniform d z s q) U h = h
  awaited_free (Ask Private d z s q) U h = h
  awaited_free (Put Uniform z s v q) U h = h
  awaited_free (Put Private z s v q) U h = h
  awaited_free Send U h = h
  awaited_free Reply U h = h
  awaited_free (Vote d) U h = h
  awaited_free (Print s) U h = h
  awaited_free (Jump t) U h = h
  awaited_free (JumpIfZero s t) U h = h
  awaited_free Halt U h = h

  module _ (f : Flat) (r : Registers) (rs : ℕ → Registers) (h : Related c (c.at k) f r rs) where
    abbrev f' : Flat
    f' = patched f r rs

    abbrev all : Bool
    all = (c.at k).all

    -- ---- an instruction that both codes have

    module _ (i : Instr) (w : Knows i) where
      abbrev pub registers_after : Registers
      registers_after = (on_uniform code (ch i) f'.uniform).registers

      abbrev pub own_after : ℕ → Registers
      own_after v = (if renews i then parts.fresh else on_own code (ch i) f'.uniform v (f'.own v)).registers

      own_is : (v : ℕ) → (if renews (ch i) then parts.fresh else on_own code (ch i) f'.uniform v (f'.own v))
          ≡ own_with (own_after v) (if renews i then parts.fresh else on_own code i f.uniform v (f.own v))
      own_is v =
          ap (λ q. if q then parts.fresh else on_own code (ch i) f'.uniform v (f'.own v))
          (alike (c.at k).uniform (c.at k).active (c.into k) c.moved i).renewing
          ∙ go (renews i)
        where
          go : (q : Bool) → (if q then parts.fresh else on_own code (ch i) f'.uniform v (f'.own v))
              ≡ own_with (if q then parts.fresh else on_own code (ch i) f'.uniform v (f'.own v)).registers
              (if q then parts.fresh else on_own code i f.uniform v (f.own v))
          go true = refl
          go false = own_same code c k f.uniform r h.uniform v (f.own v) (rs v) (h.own v) i w

      written_is : (x : ℕ) → written code (ch i) f' x ≡ written code i f x
      written_is x = λ j. join code.rule
          (single_to code.rule x (pos 0) (uniform_write_same code c k f.uniform r h.uniform i w j))
          (total None (join code.rule) (λ v. single_to code.rule x (index_of f.uniform v)
          (own_write_same code c k f.uniform r h.uniform v (f.own v) (rs v) (h.own v) i w j)) (range f))

      noted_is : noted code (ch i) f' ≡ noted code i f
      noted_is = λ j. least (uniform_key_same code c k f.uniform r h.uniform i w j)
          (total None least (λ v. own_key_same code c k f.uniform r h.uniform v (f.own v) (rs v) (h.own v) i w j) (range f))

      pub instr_same : after_instr code (ch i) f' ≡ patched (after_instr code i f) registers_after own_after
      instr_same = λ j. record {
        uniform = uniform_same code c k f.uniform r h.uniform i w j;
        own = λ v. own_is v j;
        memory = f.memory;
        held = λ x. if (alike (c.at k).uniform (c.at k).active (c.into k) c.moved i).put j then written_is x j else f.held x;
        key = least f.key (noted_is j);
      }

      pub instr_related : is_step i ≡ true → Related c (rows_after c k i) (after_instr code i f) registers_after own_after
      instr_related o = record {
        uniform = uniform_holds code c k f.uniform r h.uniform i w o;
        own = λ v. go v (renews i) refl;
        asks = asks_free i w f.uniform h.asks;
        awaited = awaited_free i f.uniform h.awaited;
      }
        where
          go : (v : ℕ) (q : Bool) → renews i ≡ q →
              OwnHolds (c.number Private) (active_after c k i) (if (c.at k).all then active_after c k i else idle_after c k i)
              (all_after (c.at k).all i)
              (if q then parts.fresh else on_own code i f.uniform v (f.own v))
              (if q then parts.fresh else on_own code (ch i) f'.uniform v (f'.own v)).registers
          go v true e = renewed i e
          go v false e = own_holds code c k f.uniform r h.uniform v (f.own v) (rs v) (h.own v) i w o e

    -- ---- where nothing is done to registers and masks

    still : (v : ℕ) → OwnHolds (c.number Private) (c.at k).active (if all then (c.at k).active else (c.at k).idle) all (f.own v) (rs v)
    still v = record {
      active = (h.own v).active;
      idle = λ e. idle_row (c.number Private) (c.at k).active (c.at k).idle all (f.own v) (rs v) (h.own v).all e ((h.own v).idle e);
      all = (h.own v).all;
    }

    pub jump_related : (target : ℕ) → Related c (rows_after c k (Jump target)) f r rs
    jump_related target = record { uniform = h.uniform; own = still; asks = h.asks; awaited = h.awaited }

    pub fork_related : (s target : ℕ) → Related c (rows_after c k (JumpIfZero s target)) f r rs
    fork_related s target = record { uniform = h.uniform; own = still; asks = h.asks; awaited = h.awaited }

    -- ---- exchanges

    conflict_reads : (n : ℕ) (reads : List Read) → read_conflicts code f' n reads ≡ read_conflicts code f n reads
    conflict_reads n [] = refl
    conflict_reads n (x ∷ xs) = ap (least (read_conflict code f n x)) (conflict_reads (n + 1) xs)

    pub send_same : after_send code f' ≡ patched (after_send code f) r rs
    send_same = λ j. record (patched (after_send code f) r rs) {
      key = least f.key (least (owed code f) (if shares_reads code.rule then None else conflict_reads 0 f.uniform.asks j));
    }

    pub send_related : Related c (rows_after c k Send) (after_send code f) r rs
    send_related = record {
      uniform = h.uniform;
      own = λ v. record { active = (still v).active; idle = (still v).idle; all = (still v).all };
      asks = tt;
      awaited = h.asks;
    }

    abbrev value : ℕ → ℕ → ℤ
    value n x = f.memory x

    pub reply_same : after_reply f' ≡ patched (after_reply f) (uniform_answered value f'.uniform).registers
        (λ v. (own_answered value f.uniform.awaited (f'.own v)).registers)
    reply_same = refl

    pub reply_related : Related c (rows_after c k Reply) (after_reply f) (uniform_answered value f'.uniform).registers
        (λ v. (own_answered value f.uniform.awaited (f'.own v)).registers)
    reply_related = record {
      uniform = uniform_reply (c.number Uniform) value (c.at k).uniform f.uniform.awaited f.uniform.registers r
          (free_uniform c f.uniform.awaited h.awaited) h.uniform;
      own = λ v. record {
        active = λ e. one (c.at k).active v ((h.own v).active e);
        idle = λ e. idle_row (c.number Private) (in_place (c.at k).active) (in_place (c.at k).idle) all
            (own_answered value f.uniform.awaited (f.own v)) (own_answered value f.uniform.awaited (f'.own v)).registers (h.own v).all e
            (one (c.at k).idle v ((h.own v).idle e));
        all = (h.own v).all;
      };
      asks = h.asks;
      awaited = tt;
    }
      where
        one : (row : Row) (v : ℕ) → Holds (c.number Private) row (f.own v).registers (rs v) →
            Holds (c.number Private) (in_place row) (own_answered value f.uniform.awaited (f.own v)).registers
            (own_answered value f.uniform.awaited (f'.own v)).registers
        one row v x = own_reply (c.number Private) value row (destinations f.uniform.awaited) (f.own v).awaited (f.own v).registers (rs v)
            (free_private c f.uniform.awaited h.awaited) x

    pub vote_same : (d : ℕ) → after_vote d f' ≡ patched (after_vote d f) (set_register d (truth (any_active f)) r) rs
    vote_same d = refl

    pub vote_related : (d : ℕ) → Related c (rows_after c k (Vote d)) (after_vote d f) (set_register d (truth (any_active f)) r) rs
    vote_related d = record {
      uniform = put_holds (c.number Uniform) (c.at k).uniform f.uniform.registers r h.uniform (is_none (c.number Uniform d)) d d
          (truth (any_active f)) (no_number (c.number Uniform d) (truth (any_active f)));
      own = still;
      asks = h.asks;
      awaited = h.awaited;
    }

    -- ---- an instruction that the other code hasn't got

    the_number : (o : Option ℤ) (n x : ℤ) → holds o n ≡ true → Has o x → x ≡ n
    the_number None n x e y = cc
    the_number (Some m) n x e y = y ∙ (Decides-int_eq m n).0 e

    left_row : (numbers : ℕ → Option ℤ) (row : Row) (p q : Registers) → Holds numbers row p q → (d : ℕ) (n : ℤ) →
        Holds numbers (left_at (is_none (numbers d) && holds (numbers (c.into k)) n) d (row (c.into k)) row) (set_register d n p) q
    left_row numbers row p q x d n =
        left_holds numbers row p q x (is_none (numbers d) && holds (numbers (c.into k)) n) d (row (c.into k)) n
        (λ e. (both (is_none (numbers d)) (holds (numbers (c.into k)) n) e).0)
        (λ e t z. the_number (numbers (c.into k)) n (q t) (both (is_none (numbers d)) (holds (numbers (c.into k)) n) e).1
        (x (c.into k) t z).1)

    copy_row : (numbers : ℕ → Option ℤ) (row : Row) (p q : Registers) → Holds numbers row p q → (d s : ℕ) →
        Holds numbers (left_at (is_none (numbers d)) d (row s) row) (set_register d (p s) p) q
    copy_row numbers row p q x d s =
        left_holds numbers row p q x (is_none (numbers d)) d (row s) (p s) (λ e. e) (λ e t z. (x s t z).0)

    -- nothing is noted
    quiet : (i : Instr) → uniform_key code i f.uniform ≡ None → ((v : ℕ) → own_key code i f.uniform v (f.own v) ≡ None) →
        least f.key (noted code i f) ≡ f.key
    quiet i e g =
        (λ j. least f.key (least (e j) (total_none None least keys_are_monoid (λ v. own_key code i f.uniform v (f.own v)) g (range f) j)))
        ∙ none_least f.key

    no_key : (q : Bool) → (let none : Option Key = None in if q then none else none) ≡ None
    no_key true = refl
    no_key false = refl

    own_stays : (q : Bool) (p : Registers) (v : ℕ) → own_with (rs v) (f.own v)
        ≡ own_with (rs v) (if q then own_with p (f.own v) else f.own v)
    own_stays true p v = refl
    own_stays false p v = refl

    abbrev IsLeft : Instr → Type 0
    IsLeft i = (f' ≡ patched (after_instr code i f) r rs) × Related c (rows_left c k i) (after_instr code i f) r rs

    own_left : (row : Row) (p : Registers) (v : ℕ) (q : Bool) → is_active (f.own v) ≡ q →
        (is_active (f.own v) ≡ true → Holds (c.number Private) row p (rs v)) →
        OwnHolds (c.number Private) row (if all then row else (c.at k).idle) all (if q then own_with p (f.own v) else f.own v) (rs v)
    own_left row p v true e x = record { active = λ y. x e; idle = λ y. not_both (is_active (f.own v)) e y; all = (h.own v).all }
    own_left row p v false e x = record {
      active = λ y. not_both (is_active (f.own v)) y e;
      idle = λ y. idle_row (c.number Private) row (c.at k).idle all (f.own v) (rs v) (h.own v).all e ((h.own v).idle e);
      all = (h.own v).all;
    }

    set_uniform_left : (d : ℕ) (n : ℤ) → IsLeft (Set Uniform d n)
    set_uniform_left d n = (
      λ j. record f' {
        own = λ v. own_stays (is_active (f.own v)) (f.own v).registers v j;
        key = sym (quiet (Set Uniform d n) refl (λ v. no_key (is_active (f.own v)))) j;
      },
      record {
        uniform = left_row (c.number Uniform) (c.at k).uniform f.uniform.registers r h.uniform d n;
        own = λ v. own_left (c.at k).active (f.own v).registers v (is_active (f.own v)) refl (h.own v).active;
        asks = h.asks;
        awaited = h.awaited;
      },
    )

    copy_uniform_left : (d : ℕ) (s : ℕ) → IsLeft (Copy Uniform d s)
    copy_uniform_left d s = (
      λ j. record f' {
        own = λ v. own_stays (is_active (f.own v)) (f.own v).registers v j;
        key = sym (quiet (Copy Uniform d s) refl (λ v. no_key (is_active (f.own v)))) j;
      },
      record {
        uniform = copy_row (c.number Uniform) (c.at k).uniform f.uniform.registers r h.uniform d s;
        own = λ v. own_left (c.at k).active (f.own v).registers v (is_active (f.own v)) refl (h.own v).active;
        asks = h.asks;
        awaited = h.awaited;
      },
    )

    set_private_left : (d : ℕ) (n : ℤ) → IsLeft (Set Private d n)
    set_private_left d n = (
      λ j. record f' {
        own = λ v. own_stays (is_active (f.own v)) (set_register d n (f.own v).registers) v j;
        key = sym (quiet (Set Private d n) refl (λ v. no_key (is_active (f.own v)))) j;
      },
      record {
        uniform = h.uniform;
        own = λ v. own_left (row_left Private (c.number Private) (c.into k) (c.at k).active (Set Private d n))
            (set_register d n (f.own v).registers) v (is_active (f.own v)) refl
            (λ e. left_row (c.number Private) (c.at k).active (f.own v).registers (rs v) ((h.own v).active e) d n);
        asks = h.asks;
        awaited = h.awaited;
      },
    )

    copy_private_left : (d : ℕ) (s : ℕ) → IsLeft (Copy Private d s)
    copy_private_left d s = (
      λ j. record f' {
        own = λ v. own_stays (is_active (f.own v)) (set_register d ((f.own v).registers s) (f.own v).registers) v j;
        key = sym (quiet (Copy Private d s) refl (λ v. no_key (is_active (f.own v)))) j;
      },
      record {
        uniform = h.uniform;
        own = λ v. own_left (row_left Private (c.number Private) (c.into k) (c.at k).active (Copy Private d s))
            (set_register d ((f.own v).registers s) (f.own v).registers) v (is_active (f.own v)) refl
            (λ e. copy_row (c.number Private) (c.at k).active (f.own v).registers (rs v) ((h.own v).active e) d s);
        asks = h.asks;
        awaited = h.awaited;
      },
    )

    pub is_left : (i : Instr) → may_be_left i ≡ true → IsLeft i
    is_left (Set Uniform d n) e = set_uniform_left d n
    is_left (Set Private d n) e = set_private_left d n
    is_left (Copy Uniform d s) e = copy_uniform_left d s
    is_left (Copy Private d s) e = copy_private_left d s
    is_left (Mark line) e = cc
    is_left (Negate side d s q) e = cc
    is_left (Calculate side o d y z q) e = cc
    is_left (Decide side o d y z) e = cc
    is_left (Not side d s) e = cc
    is_left (CopyUniform d s) e = cc
    is_left (Index d) e = cc
    is_left (Enter y z q) e = cc
    is_left Leave e = cc
    is_left (Mask s) e = cc
    is_left Flip e = cc
    is_left Unmask e = cc
    is_left (Ask Uniform d z s q) e = cc
    is_left (Ask Private d z s q) e = cc
    is_left (Put Uniform z s v q) e = cc
    is_left (Put Private z s v q) e = cc
    is_left Send e = cc
    is_left Reply e = cc
    is_left (Vote d) e = cc
    is_left (Print s) e = cc
    is_left (Jump t) e = cc
    is_left (JumpIfZero s t) e = cc
    is_left Halt e = cc
