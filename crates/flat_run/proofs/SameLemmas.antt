-- Flat states that don't differ within the range don't differ after an instruction or an exchange.
use Rattle.std.proofs.Common.{◌≡◌, ℕ, ◌+◌, ◌<◌, List, [], ◌∷◌, Bool, true, false, ◌&&◌, ◌||◌, cond, Option, Some, None, ℤ, pos, refl, sym}
use Rattle.std.proofs.Common.{ap, subst, ◌∙◌, arith}
use Rattle.std.specs.List.{range_with_len}
use Rattle.pram_values.specs.declared.kind.Kind.TheVariants.{ReadConflict}
use Rattle.pram_values.specs.Total.{total}
use Rattle.pram_values.specs.Truth.{truth}
use Rattle.pram_values.proofs.Totals.{total_within, total_same}
use Rattle.write_rules.specs.declared.entry.Entry.{Entry}
use Rattle.write_rules.specs.Rule.{shares_reads}
use Rattle.superstep_instructions.specs.declared.instr.Instr.{Instr}
use Rattle.superstep_instructions.specs.Code.{SuperstepCode}
use Rattle.superstep_machine.specs.Keys.{least}
use Rattle.superstep_machine.specs.Parts.{Read, UniformPart, PrivatePart, set_register, fresh}
use Rattle.superstep_machine.specs.Steps.{on_uniform, on_own, uniform_key, own_key, uniform_write, own_write, index_of, is_active, is_put}
use Rattle.superstep_machine.specs.Steps.{renews}
use Rattle.superstep_machine.specs.Sending.{join, cell_at, several, asks_for, is_several, verdict_on, settled, conflict_at, put_conflict}
use Rattle.superstep_machine.specs.Sending.{is_private, uniform_sent, own_sent}
use Rattle.superstep_machine.specs.Answering.{uniform_answered, own_answered}
use Rattle.flat_machine.specs.Flat.{Flat, range, cells, noted, single_to, written, after_instr, owed, askers, read_conflict, read_conflicts}
use Rattle.flat_machine.specs.Flat.{conflicts, after_send, after_reply, any_active, after_vote}
use Rattle.flat_machine.proofs.Instructions.{same_width}
use Rattle.flat_run.specs.Views.{AreSame}
use Rattle.flat_run.proofs.SumLemmas.{any_is}

pub same_itself : (f : Flat) → AreSame f f
same_itself f = record { uniform = refl; own = λ v l. refl; memory = refl; held = refl; key = refl }

pub same_on : (f g h : Flat) → AreSame f g → AreSame g h → AreSame f h
same_on f g h a b = record {
  uniform = a.uniform ∙ b.uniform;
  own = λ v l. a.own v (subst (λ (u : UniformPart). v < u.width) (sym b.uniform) l) ∙ b.own v l;
  memory = a.memory ∙ b.memory;
  held = a.held ∙ b.held;
  key = a.key ∙ b.key;
}

module _ (f g : Flat) (s : AreSame f g) where
  -- sums over the range
  sum_same : {M : Type 0} (e : M) (op : M → M → M) (x : UniformPart → ℕ → PrivatePart → M) →
      total e op (λ v. x f.uniform v (f.own v)) (range f) ≡ total e op (λ v. x g.uniform v (g.own v)) (range g)
  sum_same e op x =
      ap (λ (u : UniformPart). total e op (λ v. x u v (f.own v)) (range_with_len 0 u.width)) s.uniform
      ∙ total_within e op (λ v. x g.uniform v (f.own v)) (λ v. x g.uniform v (g.own v)) g.uniform.width 0
      (λ v l. ap (x g.uniform v) (s.own v (omega (arith, l))))

  -- ---- an instruction

  noted_same : (code : SuperstepCode) (i : Instr) → noted code i f ≡ noted code i g
  noted_same code i =
      ap (λ k. least k (total None least (λ v. own_key code i f.uniform v (f.own v)) (range f))) (ap (uniform_key code i) s.uniform)
      ∙ ap (least (uniform_key code i g.uniform)) (sum_same None least (own_key code i))

  written_same : (code : SuperstepCode) (i : Instr) (c : ℕ) → written code i f c ≡ written code i g c
  written_same code i c =
      let each = λ (u : UniformPart) (v : ℕ) (x : PrivatePart). single_to code.rule c (index_of u v) (own_write code i x) in
      ap (λ (u : UniformPart). join code.rule (single_to code.rule c (pos 0) (uniform_write code i u))
      (total None (join code.rule) (λ v. each f.uniform v (f.own v)) (range f))) s.uniform
      ∙ ap (join code.rule (single_to code.rule c (pos 0) (uniform_write code i g.uniform))) (sum_same None (join code.rule) each)

  own_stepped : (code : SuperstepCode) (i : Instr) (v : ℕ) → v < (on_uniform code i g.uniform).width → (b : Bool) → renews i ≡ b →
      ◌≡◌ {A = PrivatePart} (cond b fresh (on_own code i f.uniform v (f.own v))) (cond b fresh (on_own code i g.uniform v (g.own v)))
  own_stepped code i v l true e = refl
  own_stepped code i v l false e =
      let kept = same_width code i g.uniform e in
      ap (λ (u : UniformPart). on_own code i u v (f.own v)) s.uniform ∙ ap (on_own code i g.uniform v) (s.own v (omega (arith, l, kept)))

  pub same_after_instr : (code : SuperstepCode) (i : Instr) → AreSame (after_instr code i f) (after_instr code i g)
  same_after_instr code i = record {
    uniform = ap (on_uniform code i) s.uniform;
    own = λ v l. own_stepped code i v l (renews i) refl;
    memory = s.memory;
    held = λ j c. (ap (λ w. cond (is_put i) w (f.held c)) (written_same code i c)
        ∙ ap (λ (h : ℕ → Option Entry). cond (is_put i) (written code i g c) (h c)) s.held) j;
    key = ap (λ k. least k (noted code i f)) s.key ∙ ap (least g.key) (noted_same code i);
  }

  -- ---- a send

  owed_same : (code : SuperstepCode) → owed code f ≡ owed code g
  owed_same code =
      ap (λ (u : UniformPart). total None least (λ c. put_conflict u.put c (verdict_on code.rule (f.held c))) (cells code)) s.uniform
      ∙ ap (λ (h : ℕ → Option Entry). total None least (λ c. put_conflict g.uniform.put c (verdict_on code.rule (h c))) (cells code)) s.held

  askers_same : (k c : ℕ) → askers f k c ≡ askers g k c
  askers_same k c = sum_same None several (λ u v x. asks_for c (cell_at k x.asks))

  read_conflict_same : (code : SuperstepCode) (k : ℕ) (read : Read) → read_conflict code f k read ≡ read_conflict code g k read
  read_conflict_same code k read =
      total_same None least
      (λ c. cond (is_private read.side && is_several (askers f k c)) (Some (conflict_at read.moment c ReadConflict)) None)
      (λ c. cond (is_private read.side && is_several (askers g k c)) (Some (conflict_at read.moment c ReadConflict)) None)
      (λ c. ap (λ a. cond (is_private read.side && is_several a) (Some (conflict_at read.moment c ReadConflict)) None) (askers_same k c))
      (cells code)

  read_conflicts_same : (code : SuperstepCode) (k : ℕ) (reads : List Read) → read_conflicts code f k reads ≡ read_conflicts code g k reads
  read_conflicts_same code k [] = refl
  read_conflicts_same code k (read ∷ rest) =
      ap (λ a. least a (read_conflicts code f (k + 1) rest)) (read_conflict_same code k read)
      ∙ ap (least (read_conflict code g k read)) (read_conflicts_same code (k + 1) rest)

  conflicts_same : (code : SuperstepCode) → conflicts code f ≡ conflicts code g
  conflicts_same code =
      let shared = shares_reads code.rule in
      ap (λ a. least a (cond shared None (read_conflicts code f 0 f.uniform.asks))) (owed_same code)
      ∙ ap (λ (u : UniformPart). least (owed code g) (cond shared None (read_conflicts code f 0 u.asks))) s.uniform
      ∙ ap (λ r. least (owed code g) (cond shared None r)) (read_conflicts_same code 0 g.uniform.asks)

  pub same_after_send : (code : SuperstepCode) → AreSame (after_send code f) (after_send code g)
  same_after_send code = record {
    uniform = ap uniform_sent s.uniform;
    own = λ v l. ap own_sent (s.own v l);
    memory = ap (λ (h : ℕ → Option Entry). λ c. settled (verdict_on code.rule (h c)) (f.memory c)) s.held
        ∙ ap (λ (m : ℕ → ℤ). λ c. settled (verdict_on code.rule (g.held c)) (m c)) s.memory;
    held = refl;
    key = ap (λ k. least k (conflicts code f)) s.key ∙ ap (least g.key) (conflicts_same code);
  }

  -- ---- a reply, and a vote

  pub same_after_reply : AreSame (after_reply f) (after_reply g)
  same_after_reply = record {
    uniform = ap (λ (m : ℕ → ℤ). uniform_answered (λ k c. m c) f.uniform) s.memory ∙ ap (uniform_answered (λ k c. g.memory c)) s.uniform;
    own = λ v l.
        ap (λ (m : ℕ → ℤ). own_answered (λ k c. m c) f.uniform.awaited (f.own v)) s.memory
        ∙ ap (λ (u : UniformPart). own_answered (λ k c. g.memory c) u.awaited (f.own v)) s.uniform
        ∙ ap (own_answered (λ k c. g.memory c) g.uniform.awaited) (s.own v l);
    memory = s.memory;
    held = s.held;
    key = s.key;
  }

  active_same : any_active f ≡ any_active g
  active_same =
      sym (any_is (λ v. is_active (f.own v)) (range f)) ∙ sum_same false (λ a b. a || b) (λ u v x. is_active x)
      ∙ any_is (λ v. is_active (g.own v)) (range g)

  pub same_after_vote : (d : ℕ) → AreSame (after_vote d f) (after_vote d g)
  same_after_vote d = record {
    uniform =
        ap (λ a. record f.uniform { registers = set_register d (truth a) f.uniform.registers }) active_same
        ∙ ap (λ (u : UniformPart). record u { registers = set_register d (truth (any_active g)) u.registers }) s.uniform;
    own = λ v l. s.own v l;
    memory = s.memory;
    held = s.held;
    key = s.key;
  }
