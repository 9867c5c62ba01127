-- A held write may be applied at once: what comes before its send does the same to the state in which it is applied.
use Rattle.std.proofs.Common.{◌≡◌, ℕ, [], Bool, true, false, Option, Some, None, refl, sym, ap, ◌∙◌}
use Rattle.std.specs.Prelude.{if◌then◌else◌}
use Rattle.pram_values.specs.Total.{total}
use Rattle.pram_values.proofs.Totals.{total_none}
use Rattle.write_rules.specs.declared.entry.Entry.{Entry}
use Rattle.superstep_instructions.specs.declared.instr.Side.{Side}
use Rattle.superstep_instructions.specs.declared.instr.Side.TheVariants.{Uniform, Private}
use Rattle.superstep_instructions.specs.declared.instr.Instr.{Instr}
use Rattle.superstep_instructions.specs.declared.instr.Instr.TheVariants.{Mark, Enter, Leave, Ask, Put, Print}
use Rattle.superstep_instructions.specs.Code.{SuperstepCode}
use Rattle.superstep_machine.specs.Keys.{least}
use Rattle.superstep_machine.specs.Parts.{UniformPart, PrivatePart, Moment, fresh}
use Rattle.superstep_machine.specs.Run.{is_held}
use Rattle.superstep_machine.specs.Sending.{verdict_on, settled, put_conflict, uniform_sent, own_sent}
use Rattle.superstep_machine.specs.Steps.{moment_of, on_uniform, uniform_key, on_own, own_key, is_active, is_put, renews}
use Rattle.superstep_machine.proofs.KeyOrder.{keys_are_monoid, none_least}
use Rattle.flat_machine.specs.Flat.{Flat, range, cells, noted, written, after_instr, owed, after_send, after_reply}
use Rattle.flat_machine.specs.Verdicts.{told}
use Rattle.flat_machine.proofs.Late.{least_last, none_owed, told_noted, told_sent, read_keys, no_read_keys}
use Rattle.flat_stretches.specs.Applied.{applied, IsBare, wrote, InstructionsApply, WritesApply, SendsAreSame, SendsOfWritesApply}
use Rattle.flat_stretches.specs.Applied.{RepliesApply, VotesApply, BareIsApplied, EmptySendsAreNothing}

-- without the put that is held
abbrev pub without_put : UniformPart → UniformPart
without_put u = record u { put = None }

-- ---- an instruction doesn't look at the put

uniform_same : (code : SuperstepCode) (i : Instr) (u : UniformPart) → is_put i ≡ false →
    without_put (on_uniform code i u) ≡ on_uniform code i (without_put u)
uniform_same code (Mark line) u h = refl
uniform_same code (Enter a b q) u h = refl
uniform_same code Leave u h = refl
uniform_same code (Ask Uniform d c s q) u h = refl
uniform_same code (Ask Private d c s q) u h = refl
uniform_same code (Put side c s v q) u h = cc
uniform_same code (Print s) u h = refl
uniform_same code i u h = refl

pub put_stays : (code : SuperstepCode) (i : Instr) (u : UniformPart) → is_put i ≡ false → (on_uniform code i u).put ≡ u.put
put_stays code (Mark line) u h = refl
put_stays code (Enter a b q) u h = refl
put_stays code Leave u h = refl
put_stays code (Ask Uniform d c s q) u h = refl
put_stays code (Ask Private d c s q) u h = refl
put_stays code (Put side c s v q) u h = cc
put_stays code (Print s) u h = refl
put_stays code i u h = refl

own_same : (code : SuperstepCode) (i : Instr) (u : UniformPart) (v : ℕ) (x : PrivatePart) →
    on_own code i u v x ≡ on_own code i (without_put u) v x
own_same code (Ask Uniform d c s q) u v x = refl
own_same code (Ask Private d c s q) u v x = refl
own_same code i u v x = refl

uniform_key_same : (code : SuperstepCode) (i : Instr) (u : UniformPart) → uniform_key code i u ≡ uniform_key code i (without_put u)
uniform_key_same code (Ask Uniform d c s q) u = refl
uniform_key_same code (Ask Private d c s q) u = refl
uniform_key_same code (Put Uniform d c s q) u = refl
uniform_key_same code (Put Private d c s q) u = refl
uniform_key_same code i u = refl

own_key_same : (code : SuperstepCode) (i : Instr) (u : UniformPart) (v : ℕ) (x : PrivatePart) →
    own_key code i u v x ≡ own_key code i (without_put u) v x
own_key_same code (Ask Uniform d c s q) u v x = refl
own_key_same code (Ask Private d c s q) u v x = refl
own_key_same code (Put Uniform d c s q) u v x = refl
own_key_same code (Put Private d c s q) u v x = refl
own_key_same code i u v x = refl

-- ---- keys

module _ (code : SuperstepCode) where
  -- where nothing is held nothing is owed
  none_owes : (put : Option Moment) → total None least (λ c. put_conflict put c (verdict_on code.rule None)) (cells code) ≡ None
  none_owes put = total_none None least keys_are_monoid (λ c. put_conflict put c (verdict_on code.rule None)) (go put) (cells code)
    where
      go : (o : Option Moment) (c : ℕ) → put_conflict o c (verdict_on code.rule None) ≡ None
      go None c = refl
      go (Some at) c = refl

  noted_same : (i : Instr) (f : Flat) → noted code i f ≡ noted code i (applied code f)
  noted_same i f = λ z. least (uniform_key_same code i f.uniform z)
      (total None least (λ v. own_key_same code i f.uniform v (f.own v) z) (range f))

  -- what an instruction that is no put leaves held
  pub held_stays : (i : Instr) (f : Flat) → is_put i ≡ false → (after_instr code i f).held ≡ f.held
  held_stays i f h = ap (λ b. let x : ℕ → Option Entry = λ c. if b then written code i f c else f.held c in x) h

  owed_stays : (i : Instr) (f : Flat) → is_put i ≡ false → owed code (after_instr code i f) ≡ owed code f
  owed_stays i f h = λ z. total None least
      (λ c. put_conflict (put_stays code i f.uniform h z) c (verdict_on code.rule (held_stays i f h z c))) (cells code)

  -- what is told behind it is what was told, and what it notes
  pub told_by : (i : Instr) (f : Flat) → is_put i ≡ false → told code (after_instr code i f) ≡ least (told code f) (noted code i f)
  told_by i f h = ap (least (least f.key (noted code i f))) (owed_stays i f h) ∙ least_last f.key (owed code f) (noted code i f)

  pub instructions_apply_here : (i : Instr) (f : Flat) → is_put i ≡ false →
      applied code (after_instr code i f) ≡ after_instr code i (applied code f)
  instructions_apply_here i f h =
      let key = told_by i f h ∙ ap (least (told code f)) (noted_same i f) in
      let none : (λ (c : ℕ). let x : Option Entry = None in x) ≡ (after_instr code i (applied code f)).held =
      sym (held_stays i (applied code f) h) in
      λ z. record {
        uniform = uniform_same code i f.uniform h z;
        own = λ v. if renews i then fresh else own_same code i f.uniform v (f.own v) z;
        memory = λ c. settled (verdict_on code.rule (held_stays i f h z c)) (f.memory c);
        held = none z;
        key = key z;
      }

pub instructions_apply : InstructionsApply
instructions_apply code i f h = instructions_apply_here code i f h

-- ---- writes

module _ (code : SuperstepCode) where
  -- a put leaves a processor as it was
  put_own : (side : Side) (c s v q : ℕ) (u : UniformPart) (n : ℕ) (x : PrivatePart) → on_own code (Put side c s v q) u n x ≡ x
  put_own Uniform c s v q u n x = go (is_active x)
    where
      go : (b : Bool) → (if b then x else x) ≡ x
      go true = refl
      go false = refl
  put_own Private c s v q u n x = go (is_active x)
    where
      go : (b : Bool) → (if b then x else x) ≡ x
      go true = refl
      go false = refl

  written_same : (side : Side) (c s v q : ℕ) (f : Flat) (k : ℕ) →
      written code (Put side c s v q) f k ≡ written code (Put side c s v q) (applied code f) k
  written_same Uniform c s v q f k = refl
  written_same Private c s v q f k = refl

  put_applies : (side : Side) (c s v q : ℕ) (f : Flat) → IsBare f →
      applied code (after_instr code (Put side c s v q) f) ≡ wrote code (Put side c s v q) (applied code f)
  put_applies side c s v q f b =
      let i = Put side c s v q in
      let a = applied code f in
      let noted_first = ap (λ k. least k (noted code i f)) (sym (told_noted code f (ap is_held b.put)))
      ∙ ap (least (told code f)) (noted_same code i f) in
      λ z. record {
        uniform = without_put f.uniform;
        own = λ n. put_own side c s v q f.uniform n (f.own n) z;
        memory = λ k. settled (verdict_on code.rule (written_same side c s v q f k z))
            (sym (ap (λ (e : Option Entry). settled (verdict_on code.rule e) (f.memory k)) (b.held k)) z);
        held = λ k. None;
        key = least (noted_first z)
            (total None least
            (λ k. put_conflict (Some (moment_of f.uniform q)) k (verdict_on code.rule (written_same side c s v q f k z))) (cells code));
      }

pub writes_apply : WritesApply
writes_apply code (Put side c s v q) f h b = put_applies code side c s v q f b
writes_apply code i f h b = cc

-- ---- exchanges

module _ (code : SuperstepCode) where
  pub send_same : (f : Flat) → after_send code (applied code f) ≡ after_send code f
  send_same f =
      let key = ap (λ k. least (told code f) (least k (read_keys code f))) (none_owed code (applied code f) refl)
      ∙ sym (told_sent code f) in
      λ z. record {
        uniform = uniform_sent f.uniform;
        own = λ v. own_sent (f.own v);
        memory = λ c. settled (verdict_on code.rule (f.held c)) (f.memory c);
        held = λ c. None;
        key = key z;
      }

pub sends_are_same : SendsAreSame
sends_are_same code f = send_same code f

pub bare_is_applied : BareIsApplied
bare_is_applied code f b = λ z. record {
  uniform = record f.uniform { put = sym b.put z };
  own = f.own;
  memory = λ c. settled (verdict_on code.rule (b.held c z)) (f.memory c);
  held = λ c. sym (b.held c) z;
  key = told_noted code f (ap is_held b.put) z;
}

pub replies_apply : RepliesApply
replies_apply code f b =
    let r : IsBare (after_reply f) = record { put = b.put; held = b.held } in
    bare_is_applied code (after_reply f) r ∙ ap after_reply (sym (bare_is_applied code f b))

pub votes_apply : VotesApply
votes_apply code d f = refl

-- a send without reads notes what the write owed alone
pub lone_send_told : (code : SuperstepCode) (f : Flat) → f.uniform.asks ≡ [] → (after_send code f).key ≡ told code f
lone_send_told code f h = told_sent code f ∙ ap (least (told code f)) (no_read_keys code f h) ∙ none_least (told code f)

pub sends_of_writes_apply : SendsOfWritesApply
sends_of_writes_apply code f n = λ z. record {
  uniform = record f.uniform { put = None; awaited = (n.asks ∙ sym n.awaited) z; asks = sym n.asks z };
  own = λ v. record (f.own v) { awaited = (n.own_asks v ∙ sym (n.own_awaited v)) z; asks = sym (n.own_asks v) z };
  memory = λ c. settled (verdict_on code.rule (f.held c)) (f.memory c);
  held = λ c. None;
  key = lone_send_told code f n.asks z;
}

pub empty_sends_are_nothing : EmptySendsAreNothing
empty_sends_are_nothing code f b n = sends_of_writes_apply code f n ∙ bare_is_applied code f b
