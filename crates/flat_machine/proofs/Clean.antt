-- Where the uniform part holds and awaits no reads, no processor does; so a send where nothing is held changes nothing.
use Rattle.std.proofs.Common.{◌≡◌, ℕ, zero, suc, ◌+◌, List, [], ◌∷◌, ◌++◌, Bool, true, false, eqb, Option, Some, None, refl, sym, ap, ◌∙◌}
use Rattle.std.specs.Prelude.{if◌then◌else◌, slice_get}
use Rattle.pram_values.specs.Truth.{is_nonzero}
use Rattle.write_rules.specs.Rule.{shares_reads}
use Rattle.superstep_instructions.specs.declared.instr.Side.TheVariants.{Uniform, Private}
use Rattle.superstep_instructions.specs.declared.instr.Instr.{Instr}
use Rattle.superstep_instructions.specs.declared.instr.Instr.TheVariants.{Mark, Enter, Leave, Mask, Flip, Unmask, Ask, Send, Reply, Vote}
use Rattle.superstep_instructions.specs.declared.instr.Instr.TheVariants.{Jump}
use Rattle.superstep_instructions.specs.declared.instr.Instr.TheVariants.{JumpIfZero, Halt}
use Rattle.superstep_instructions.specs.Code.{SuperstepCode}
use Rattle.superstep_machine.specs.Keys.{least}
use Rattle.superstep_machine.specs.Parts.{PrivatePart, UniformPart}
use Rattle.superstep_machine.specs.Run.{Way, On, Ending, Past, Refused, Lost, is_held}
use Rattle.superstep_machine.specs.Sending.{verdict_on, settled}
use Rattle.superstep_machine.specs.Steps.{is_active, on_active}
use Rattle.superstep_machine.specs.Stretch.{ToClose}
use Rattle.flat_machine.specs.Flat.{Flat, after_instr, after_send, after_reply, after_vote, read_conflicts, conflicts}
use Rattle.flat_machine.specs.ByExchanges.{State}
use Rattle.flat_machine.specs.ByInstructions.{stopped, going, step, step_by, steps}
use Rattle.flat_machine.proofs.Stepping.{carried_out}
use Rattle.flat_machine.proofs.Counts.{IsCounted}
use Rattle.flat_machine.proofs.Late.{none_owed, read_keys}
use Rattle.superstep_machine.proofs.KeyOrder.{none_least}

pub record IsClean (f : Flat) : Type 0 where
  pub asks : f.uniform.asks ≡ [] → (v : ℕ) → (f.own v).asks ≡ []
  pub awaited : f.uniform.awaited ≡ [] → (v : ℕ) → (f.own v).awaited ≡ []

not_empty : {A B : Type 0} (xs : List A) (x : A) → xs ++ x ∷ [] ≡ [] → B
not_empty [] x h = cc
not_empty (y ∷ xs) x h = cc

-- ---- instructions

module _ (code : SuperstepCode) (f : Flat) (c : IsClean f) where
  either_asks : (b : Bool) (x y : PrivatePart) → x.asks ≡ [] → y.asks ≡ [] → (if b then x else y).asks ≡ []
  either_asks true x y p q = p
  either_asks false x y p q = q

  either_awaited : (b : Bool) (x y : PrivatePart) → x.awaited ≡ [] → y.awaited ≡ [] → (if b then x else y).awaited ≡ []
  either_awaited true x y p q = p
  either_awaited false x y p q = q

  clean_instr : (i : Instr) → IsClean (after_instr code i f)
  clean_instr (Ask Uniform d e s q) = record { asks = λ h. not_empty f.uniform.asks _ h; awaited = c.awaited }
  clean_instr (Ask Private d e s q) = record {
    asks = λ h. not_empty f.uniform.asks _ h;
    awaited = λ h v. either_awaited (is_active (f.own v)) _ _ (c.awaited h v) (c.awaited h v);
  }
  clean_instr (Enter a b q) = record { asks = λ h v. refl; awaited = λ h v. refl }
  clean_instr Leave = record { asks = λ h v. refl; awaited = λ h v. refl }
  clean_instr (Mask s) = record { asks = c.asks; awaited = c.awaited }
  clean_instr Flip = record { asks = c.asks; awaited = c.awaited }
  clean_instr Unmask = record { asks = c.asks; awaited = c.awaited }
  clean_instr i = record {
    asks = λ h v. either_asks (is_active (f.own v)) (on_active code i f.uniform v (f.own v)) (f.own v) (c.asks h v) (c.asks h v);
    awaited = λ h v. either_awaited (is_active (f.own v)) (on_active code i f.uniform v (f.own v)) (f.own v) (c.awaited h v)
        (c.awaited h v);
  }

  clean_send : IsClean (after_send code f)
  clean_send = record { asks = λ h v. refl; awaited = c.asks }

  clean_reply : IsClean (after_reply f)
  clean_reply = record { asks = c.asks; awaited = λ h v. refl }

  clean_vote : (d : ℕ) → IsClean (after_vote d f)
  clean_vote d = record { asks = c.asks; awaited = c.awaited }

-- ---- runs

-- as long as it goes on
abbrev pub StaysClean : State → Type 0
StaysClean s = s.way ≡ On → IsClean s.flat

module _ (code : SuperstepCode) (bound : ℕ) (judges : ℕ → Bool) where
  by_instr : (o : Option Instr) (place : ℕ) (f : Flat) → IsClean f → StaysClean (carried_out code bound judges o place f)
  by_instr None place f c = λ e. cc
  by_instr (Some Send) place f c = λ e. clean_send code f c
  by_instr (Some Reply) place f c = λ e. clean_reply code f c
  by_instr (Some (Vote d)) place f c = λ e. clean_vote code f c d
  by_instr (Some Halt) place f c = λ e. cc
  by_instr (Some (Mark line)) place f c = marked (eqb f.uniform.count bound)
    where
      marked : (b : Bool) → StaysClean (if b then stopped code judges (ToClose false) place f else going (place + 1)
          (after_instr code (Mark line) f))
      marked true = λ e. cc
      marked false = λ e. clean_instr code f c (Mark line)
  by_instr (Some (Jump target)) place f c = λ e. c
  by_instr (Some (JumpIfZero r target)) place f c = forked (is_nonzero (f.uniform.registers r))
    where
      forked : (b : Bool) → StaysClean (if b then going (place + 1) f else going target f)
      forked true = λ e. c
      forked false = λ e. c
  by_instr (Some i) place f c = λ e. clean_instr code f c i

  pub step_clean : (s : State) → StaysClean s → StaysClean (step code bound judges s)
  step_clean s c = go s.way refl
    where
      go : (way : Way) → s.way ≡ way → StaysClean (step_by code bound judges s way)
      go On e = by_instr (slice_get code.instructions s.place) s.place s.flat (c e)
      go (Ending ended) e = c
      go (Past key ended) e = c
      go (Refused mark) e = c
      go Lost e = c

  pub steps_clean : (n : ℕ) (s : State) → StaysClean s → StaysClean (steps code bound judges n s)
  steps_clean zero s c = c
  steps_clean (suc n) s c = steps_clean n (step code bound judges s) (step_clean s c)

-- ---- a send where nothing is held

-- nothing is held, and no answers are awaited
pub record IsQuiet (u : UniformPart) : Type 0 where
  pub asks : u.asks ≡ []
  pub awaited : u.awaited ≡ []
  pub put : u.put ≡ None

pub quiet_send : (code : SuperstepCode) (f : Flat) → IsClean f → IsCounted f → IsQuiet f.uniform → after_send code f ≡ f
quiet_send code f c n q = λ i. record {
  uniform = record f.uniform { put = sym q.put i; awaited = (q.asks ∙ sym q.awaited) i; asks = sym q.asks i };
  own = λ v. record (f.own v) { awaited = (c.asks q.asks v ∙ sym (c.awaited q.awaited v)) i; asks = sym (c.asks q.asks v) i };
  memory = λ cell. settled (verdict_on code.rule (bare cell i)) (f.memory cell);
  held = λ cell. sym (bare cell) i;
  key = same_key i;
}
  where
    free : is_held f.uniform.put ≡ false
    free = ap is_held q.put

    bare : (cell : ℕ) → f.held cell ≡ None
    bare cell = n.bare free cell

    no_read_keys : (b : Bool) → (if b then None else read_conflicts code f 0 f.uniform.asks) ≡ None
    no_read_keys true = refl
    no_read_keys false = ap (read_conflicts code f 0) q.asks

    same_key : least f.key (conflicts code f) ≡ f.key
    same_key =
        ap (least f.key) (ap (λ x. least x (read_keys code f)) (none_owed code f free) ∙ no_read_keys (shares_reads code.rule))
        ∙ none_least f.key
