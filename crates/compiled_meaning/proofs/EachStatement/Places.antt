-- From place to place between two statements: sends of what is held, instructions that note nothing, and jumps.
use Rattle.std.proofs.Common.{◌≡◌, ℕ, ◌+◌, ◌*◌, ◌≤◌, [], ◌∷◌, length, Bool, true, false, not, ◌&&◌, refl, sym, ap, ◌∙◌, subst, arith}
use Rattle.std.specs.Prelude.{if◌then◌else◌}
use Rattle.pram_values.specs.Truth.{is_nonzero}
use Rattle.superstep_instructions.specs.declared.instr.Instr.{Instr}
use Rattle.superstep_instructions.specs.declared.instr.Instr.TheVariants.{Ask, Put, Send, Jump, JumpIfZero}
use Rattle.superstep_machine.specs.Keys.{least}
use Rattle.superstep_machine.specs.Run.{Sends, items}
use Rattle.superstep_machine.specs.Steps.{is_put}
use Rattle.pram_meaning.specs.Store.{State}
use Rattle.flat_machine.specs.Flat.{Flat, after_instr, after_send}
use Rattle.flat_machine.specs.ByInstructions.{going}
use Rattle.flat_machine.specs.Verdicts.{told}
use Rattle.flat_machine.proofs.Late.{told_noted}
use Rattle.superstep_machine.proofs.KeyOrder.{none_least}
use Rattle.pram_model.specs.declared.rule.Rule.{Rule}
use Rattle.exchange_words.specs.Accesses.{words_by}
use Rattle.flat_stretches.specs.Applied.{applied, AsksNone}
use Rattle.flat_stretches.specs.Along.{Run, Comes, IsAt, IsOf, access_cost, works}
use Rattle.flat_stretches.specs.Folds.{Stand}
use Rattle.flat_stretches.specs.Tells.{is_quiet}
use Rattle.flat_stretches.proofs.Along.{nothing_decides, work_goes_on, sends_go_on, jumps_go_on, forks_go_on, more_may_be_spent}
use Rattle.flat_stretches.proofs.Applied.{told_by, put_stays, held_stays, sends_of_writes_apply, bare_is_applied}
use Rattle.flat_stretches.proofs.Folds.{accesses_alone}
use Rattle.flat_stretches.proofs.Tells.{notes_nothing}
use Rattle.plain_form.specs.Shapes.{flush}
use Rattle.exchange_bound.specs.Bound.{one_if}
use Rattle.compiled_meaning.specs.Between.{IsBetween}

-- what is held on the uniform side and by the processors is as it was
pub asks_none_before : (t : Run) (f : Flat) → AsksNone (applied t.code f) → AsksNone f
asks_none_before t f n = record { asks = n.asks; awaited = n.awaited; own_asks = n.own_asks; own_awaited = n.own_awaited }

module _ (t : Run) (held : Bool) (m : State) (f : Flat) where
  -- the same place written in another way, by as many exchanges or more
  pub between_at : (place other spent more : ℕ) → place ≡ other → spent ≤ more → IsBetween t held m place spent f →
      IsBetween t held m other more f
  between_at place other spent more e l b = record {
    comes = more_may_be_spent t (going other f) spent more (subst (λ n. Comes t (going n f) spent) e b.comes) l;
    told = b.told;
    holds = b.holds;
    count = b.count;
    within = b.within;
    output = b.output;
  }

-- what notes nothing accesses nothing
quiet_words : (rule : Rule) (p : ℕ) (i : Instr) (f : Flat) → is_quiet i ≡ true → words_by rule p i f ≡ 0
quiet_words rule p (Ask side d c s q) f e = cc
quiet_words rule p (Put side c s v q) f e = cc
quiet_words rule p i f e = refl

module _ (t : Run) (held : Bool) (m : State) (place spent : ℕ) (f : Flat) (b : IsBetween t held m place spent f) where
  -- an instruction on registers or masks
  pub work_between : (i : Instr) → IsAt t place i → works i ≡ true → is_put i ≡ false → is_quiet i ≡ true →
      (after_instr t.code i f).uniform.count ≡ f.uniform.count → (after_instr t.code i f).uniform.output ≡ f.uniform.output →
      IsBetween t held m (place + 1) spent (after_instr t.code i f)
  work_between i at w p q c o = record {
    comes =
        (let e : access_cost t i f ≡ t.weight * 0 = ap (λ n. t.weight * n) (quiet_words t.code.rule t.workers i f q) in
        let z : t.weight * 0 ≡ 0 = omega arith in
        subst (Comes t (going (place + 1) (after_instr t.code i f))) (let h : spent + access_cost t i f ≡ spent = omega (arith, e, z) in h)
        (work_goes_on t place f spent b.comes i at w));
    told = told_by t.code i f p ∙ ap (least (told t.code f)) (notes_nothing t.code i q f) ∙ none_least (told t.code f) ∙ b.told;
    holds = λ e. let n = b.holds e in record {
      put = put_stays t.code i f.uniform p ∙ n.put;
      held = λ k. ap (λ (h : ℕ → _). h k) (held_stays t.code i f p) ∙ n.held k;
    };
    count = c ∙ b.count;
    within = b.within;
    output = ap items o ∙ b.output;
  }

  pub jump_between : (target : ℕ) → IsAt t place (Jump target) → IsBetween t held m target spent f
  jump_between target at = record {
    comes = jumps_go_on t place f spent b.comes target at;
    told = b.told;
    holds = b.holds;
    count = b.count;
    within = b.within;
    output = b.output;
  }

  -- a fork, by what the register holds
  pub fork_between : (r target : ℕ) → IsAt t place (JumpIfZero r target) →
      IsBetween t held m (if is_nonzero (f.uniform.registers r) then place + 1 else target) spent f
  fork_between r target at = record {
    comes = go (is_nonzero (f.uniform.registers r)) (forks_go_on t place f spent b.comes r target at);
    told = b.told;
    holds = b.holds;
    count = b.count;
    within = b.within;
    output = b.output;
  }
    where
      go : (x : Bool) → Comes t (if x then going (place + 1) f else going target f) spent →
          Comes t (going (if x then place + 1 else target) f) spent
      go true c = c
      go false c = c

-- ---- a send of what is held

-- the run behind it, where nothing is held, and what is seen is the same
pub record IsFlushed (t : Run) (m : State) (place spent : ℕ) (f : Flat) : Type 0 where
  pub behind : Flat
  pub between : IsBetween t false m place spent behind
  pub seen : applied t.code behind ≡ applied t.code f

pub flushed : (t : Run) (held : Bool) (m : State) (place spent : ℕ) (f : Flat) → IsBetween t held m place spent f →
    AsksNone (applied t.code f) → Stand t place (flush held) →
    IsFlushed t m (place + length (flush held)) (spent + one_if held) f
flushed t false m place spent f b n st = record {
  behind = f;
  between = between_at t false m f place (place + 0) spent (spent + 0) (omega arith) (omega arith) b;
  seen = refl;
}
flushed t true m place spent f b n st = record {
  behind = applied t.code f;
  between = record {
    comes = subst (λ g. Comes t (going (place + 1) g) (spent + 1)) (sends_of_writes_apply t.code f (asks_none_before t f n))
        (let few = accesses_alone t (Send ∷ []) f (refl, tt) in
        more_may_be_spent t (going (place + 1) (after_send t.code f)) _ (spent + 1)
        (sends_go_on t place f spent b.comes st.0
        (nothing_decides t.code f (subst (IsOf f.uniform.count) (sym b.told) tt) Sends)) (omega (arith, few)));
    told = told_noted t.code (applied t.code f) refl ∙ b.told;
    holds = λ e. record { put = refl; held = λ c. refl };
    count = b.count;
    within = b.within;
    output = b.output;
  };
  seen = bare_is_applied t.code (applied t.code f) (record { put = refl; held = λ c. refl });
}

-- before a write: what is held goes, unless it waits for the reads of the write
pub record IsReady (t : Run) (left : Bool) (m : State) (place spent : ℕ) (f : Flat) : Type 0 where
  pub behind : Flat
  pub between : IsBetween t left m place spent behind
  pub seen : applied t.code behind ≡ applied t.code f

pub ready_to_write : (t : Run) (held some : Bool) (m : State) (place spent : ℕ) (f : Flat) → IsBetween t held m place spent f →
    AsksNone (applied t.code f) → Stand t place (flush (held && not some)) →
    IsReady t (held && some) m (place + length (flush (held && not some))) (spent + one_if (held && not some)) f
ready_to_write t true true m place spent f b n st = record {
  behind = f;
  between = between_at t true m f place (place + 0) spent (spent + 0) (omega arith) (omega arith) b;
  seen = refl;
}
ready_to_write t true false m place spent f b n st =
    let g = flushed t true m place spent f b n st in record { behind = g.behind; between = g.between; seen = g.seen }
ready_to_write t false some m place spent f b n st =
    let g = flushed t false m place spent f b n st in record { behind = g.behind; between = g.between; seen = g.seen }
