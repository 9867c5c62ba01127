-- What is told stays of the running statement, through each instruction but a mark.
use Rattle.std.proofs.Common.{◌≡◌, ℕ, true, false, Option, Some, None, refl, sym, ap, ◌∙◌, subst}
use Rattle.superstep_instructions.specs.declared.instr.Side.{Side}
use Rattle.superstep_instructions.specs.declared.instr.Side.TheVariants.{Uniform, Private}
use Rattle.superstep_instructions.specs.declared.instr.Instr.{Instr}
use Rattle.superstep_instructions.specs.declared.instr.Instr.TheVariants.{Mark, Ask, Put, Send, Reply, Vote, Jump, JumpIfZero, Halt}
use Rattle.superstep_machine.specs.declared.key.Key.{Key}
use Rattle.superstep_instructions.specs.Code.{SuperstepCode}
use Rattle.superstep_machine.specs.Keys.{least}
use Rattle.superstep_machine.specs.Parts.{Read}
use Rattle.superstep_machine.specs.Run.{is_held}
use Rattle.superstep_machine.specs.Steps.{is_put}
use Rattle.bsp_verify.proofs.WorkerLemmas.{all_add}
use Rattle.flat_machine.specs.Flat.{Flat, noted, owed, after_instr, after_send, after_reply, after_vote}
use Rattle.flat_machine.specs.Verdicts.{told}
use Rattle.flat_machine.proofs.Counts.{IsKeyOf, least_of, noted_of, owed_of, reads_of}
use Rattle.flat_machine.proofs.Late.{told_noted, told_sent, read_keys}
use Rattle.flat_stretches.specs.Applied.{IsBare}
use Rattle.flat_stretches.specs.Along.{works, IsOf, IsRunning}
use Rattle.flat_stretches.proofs.Applied.{told_by}

to_key : (n : ℕ) (x : Option Key) → IsOf n x → IsKeyOf (λ m. m ≡ n) x
to_key n None h = tt
to_key n (Some key) h = h

from_key : (n : ℕ) (x : Option Key) → IsKeyOf (λ m. m ≡ n) x → IsOf n x
from_key n None h = tt
from_key n (Some key) h = h

-- the least of two keys of a statement is of it
pub both_of : (n : ℕ) (x y : Option Key) → IsOf n x → IsOf n y → IsOf n (least x y)
both_of n x y h k = from_key n (least x y) (least_of (λ m. m ≡ n) x y (to_key n x h) (to_key n y k))

module _ (code : SuperstepCode) (f : Flat) (r : IsRunning code f) where
  abbrev count : ℕ
  count = f.uniform.count

  noted_here : (i : Instr) → IsOf count (noted code i f)
  noted_here i = from_key count (noted code i f) (noted_of (λ m. m ≡ count) code i f refl)

  -- an instruction that is no put
  told_behind : (i : Instr) → is_put i ≡ false → IsOf count (told code (after_instr code i f))
  told_behind i h = subst (IsOf count) (sym (told_by code i f h)) (both_of count (told code f) (noted code i f) r.told (noted_here i))

  -- a put where none is held
  told_behind_put : (side : Side) (c s v q : ℕ) → IsBare f → IsOf count (told code (after_instr code (Put side c s v q) f))
  told_behind_put side c s v q b =
      let i = Put side c s v q in
      let here = subst (IsOf count) (told_noted code f (ap is_held b.put)) r.told in
      both_of count (least f.key (noted code i f)) (owed code (after_instr code i f))
      (both_of count f.key (noted code i f) here (noted_here i))
      (from_key count (owed code (after_instr code i f)) (owed_of (λ m. m ≡ count) code (after_instr code i f) refl))

  pub running_behind : (i : Instr) → works i ≡ true → (is_put i ≡ true → IsBare f) → IsRunning code (after_instr code i f)
  running_behind (Mark line) w b = cc
  running_behind Send w b = cc
  running_behind Reply w b = cc
  running_behind (Vote d) w b = cc
  running_behind (Jump target) w b = cc
  running_behind (JumpIfZero k target) w b = cc
  running_behind Halt w b = cc
  running_behind (Ask Uniform d c s q) w b = record {
    told = told_behind (Ask Uniform d c s q) refl;
    asks = all_add (λ (x : Read). x.moment.count ≡ count) f.uniform.asks _ r.asks refl;
  }
  running_behind (Ask Private d c s q) w b = record {
    told = told_behind (Ask Private d c s q) refl;
    asks = all_add (λ (x : Read). x.moment.count ≡ count) f.uniform.asks _ r.asks refl;
  }
  running_behind (Put side c s v q) w b = record { told = told_behind_put side c s v q (b refl); asks = r.asks }
  running_behind i w b = record { told = told_behind i refl; asks = r.asks }

  pub running_sent : IsRunning code (after_send code f)
  running_sent = record {
    told = subst (IsOf count) (sym (told_noted code (after_send code f) refl ∙ told_sent code f))
        (both_of count (told code f) (read_keys code f) r.told
        (from_key count (read_keys code f) (reads_of (λ m. m ≡ count) code f r.asks)));
    asks = tt;
  }

  pub running_replied : IsRunning code (after_reply f)
  running_replied = record { told = r.told; asks = r.asks }

  pub running_voted : (d : ℕ) → IsRunning code (after_vote d f)
  running_voted d = record { told = r.told; asks = r.asks }
