-- Packed code is well formed again.
use Rattle.std.proofs.Common.{◌≡◌, ℕ, ◌+◌, ◌<◌, inl, inr, length, Bool, true, not, ◌&&◌, ◌||◌, Option, Some, None, refl, sym, ap, ◌∙◌}
use Rattle.std.proofs.Common.{arith}
use Rattle.std.specs.Prelude.{slice_get, option_map, nat_lt}
use Rattle.std.proofs.lemmas.Bool.{lt-ltb}
use Rattle.std.proofs.lemmas.List.{length-map}
use Rattle.std.proofs.lemmas.Option.{slice_get-map}
use Rattle.superstep_instructions.specs.declared.instr.Side.{Side}
use Rattle.superstep_instructions.specs.declared.instr.Side.TheVariants.{Uniform, Private}
use Rattle.superstep_instructions.specs.declared.instr.Instr.{Instr}
use Rattle.superstep_instructions.specs.declared.instr.Instr.TheVariants.{Mark, Set, Copy, Negate, Calculate, Decide, Not, CopyUniform}
use Rattle.superstep_instructions.specs.declared.instr.Instr.TheVariants.{Index}
use Rattle.superstep_instructions.specs.declared.instr.Instr.TheVariants.{Enter, Leave, Mask, Flip, Unmask, Ask, Put, Send, Reply, Vote}
use Rattle.superstep_instructions.specs.declared.instr.Instr.TheVariants.{Print}
use Rattle.superstep_instructions.specs.declared.instr.Instr.TheVariants.{Jump, JumpIfZero, Halt}
use Rattle.superstep_instructions.specs.Code.{SuperstepCode}
use Rattle.bsp_verify.specs.declared.state.State.{State}
use Rattle.bsp_verify.specs.States.{after}
use Rattle.bsp_verify.specs.Control.{Leads, goes_on, IsLed}
use Rattle.bsp_verify.specs.Judging.{registers_of, is_register, has_registers, has_entry, is_mark, is_target, has_target, fits_mode}
use Rattle.bsp_verify.specs.Judging.{fits_masks}
use Rattle.bsp_verify.specs.Judging.{fits_exchange}
use Rattle.bsp_verify.specs.WellFormed.{IsMet, IsWellFormed}
use Rattle.renaming.specs.Renamed.{renamed, with_names}
use Rattle.renaming.specs.Named.{of, named, IsAmong, IsNamedIn}

-- what is judged of an instruction has nothing to do with the numbers of its registers, but for whether they are there
record Judged (i j : Instr) : Type 0 where
  pub entry : (code : SuperstepCode) → has_entry code j ≡ has_entry code i
  pub mode : (s : State) → fits_mode j s ≡ fits_mode i s
  pub masks : (s : State) → fits_masks j s ≡ fits_masks i s
  pub exchange : (s : State) → fits_exchange j s ≡ fits_exchange i s
  pub goes : goes_on j ≡ goes_on i
  pub after : (s : State) → after j s ≡ after i s
  pub mark : is_mark (Some j) ≡ is_mark (Some i)
  pub leads : (k v : ℕ) → Leads j k v → Leads i k v
  pub led : (k v : ℕ) → Leads i k v → Leads j k v

judged : (p : ℕ → ℕ) (i : Instr) → Judged i (renamed p i)
judged p (Mark line) = record {
  entry = λ c. refl;
  mode = λ z. refl;
  masks = λ z. refl;
  exchange = λ z. refl;
  goes = refl;
  after = λ z.
      refl;
  mark = refl;
  leads = λ k v h. h;
  led = λ k v h. h;
}
judged p (Set s d n) = record {
  entry = λ c. refl;
  mode = λ z. refl;
  masks = λ z. refl;
  exchange = λ z. refl;
  goes = refl;
  after = λ z.
      refl;
  mark = refl;
  leads = λ k v h. h;
  led = λ k v h. h;
}
judged p (Copy s d x) = record {
  entry = λ c. refl;
  mode = λ z. refl;
  masks = λ z. refl;
  exchange = λ z. refl;
  goes = refl;
  after = λ z.
      refl;
  mark = refl;
  leads = λ k v h. h;
  led = λ k v h. h;
}
judged p (Negate s d x q) = record {
  entry = λ c. refl;
  mode = λ z. refl;
  masks = λ z. refl;
  exchange = λ z. refl;
  goes = refl;
  after = λ z.
      refl;
  mark = refl;
  leads = λ k v h. h;
  led = λ k v h. h;
}
judged p (Calculate s o d a b q) = record {
  entry = λ c. refl;
  mode = λ z. refl;
  masks = λ z. refl;
  exchange = λ z. refl;
  goes = refl;
  after = λ z. refl;
  mark = refl;
  leads = λ k v h. h;
  led = λ k v h. h;
}
judged p (Decide s o d a b) = record {
  entry = λ c. refl;
  mode = λ z. refl;
  masks = λ z. refl;
  exchange = λ z. refl;
  goes = refl;
  after =
      λ z. refl;
  mark = refl;
  leads = λ k v h. h;
  led = λ k v h. h;
}
judged p (Not s d x) = record {
  entry = λ c. refl;
  mode = λ z. refl;
  masks = λ z. refl;
  exchange = λ z. refl;
  goes = refl;
  after = λ z.
      refl;
  mark = refl;
  leads = λ k v h. h;
  led = λ k v h. h;
}
judged p (CopyUniform d s) = record {
  entry = λ c. refl;
  mode = λ z. refl;
  masks = λ z. refl;
  exchange = λ z. refl;
  goes = refl;
  after =
      λ z. refl;
  mark = refl;
  leads = λ k v h. h;
  led = λ k v h. h;
}
judged p (Index d) = record {
  entry = λ c. refl;
  mode = λ z. refl;
  masks = λ z. refl;
  exchange = λ z. refl;
  goes = refl;
  after = λ z. refl;
  mark = refl;
  leads = λ k v h. h;
  led = λ k v h. h;
}
judged p (Enter a b q) = record {
  entry = λ c. refl;
  mode = λ z. refl;
  masks = λ z. refl;
  exchange = λ z. refl;
  goes = refl;
  after = λ z.
      refl;
  mark = refl;
  leads = λ k v h. h;
  led = λ k v h. h;
}
judged p Leave = record {
  entry = λ c. refl;
  mode = λ z. refl;
  masks = λ z. refl;
  exchange = λ z. refl;
  goes = refl;
  after = λ z. refl;
  mark = refl;
  leads = λ k v h. h;
  led = λ k v h. h;
}
judged p (Mask s) = record {
  entry = λ c. refl;
  mode = λ z. refl;
  masks = λ z. refl;
  exchange = λ z. refl;
  goes = refl;
  after = λ z. refl;
  mark = refl;
  leads = λ k v h. h;
  led = λ k v h. h;
}
judged p Flip = record {
  entry = λ c. refl;
  mode = λ z. refl;
  masks = λ z. refl;
  exchange = λ z. refl;
  goes = refl;
  after = λ z. refl;
  mark = refl;
  leads = λ k v h. h;
  led = λ k v h. h;
}
judged p Unmask = record {
  entry = λ c. refl;
  mode = λ z. refl;
  masks = λ z. refl;
  exchange = λ z. refl;
  goes = refl;
  after = λ z. refl;
  mark = refl;
  leads = λ k v h. h;
  led = λ k v h. h;
}
judged p (Ask s d c x q) = record {
  entry = λ c. refl;
  mode = λ z. refl;
  masks = λ z. refl;
  exchange = λ z. refl;
  goes = refl;
  after = λ z.
      refl;
  mark = refl;
  leads = λ k v h. h;
  led = λ k v h. h;
}
judged p (Put s c x v q) = record {
  entry = λ c. refl;
  mode = λ z. refl;
  masks = λ z. refl;
  exchange = λ z. refl;
  goes = refl;
  after = λ z.
      refl;
  mark = refl;
  leads = λ k v h. h;
  led = λ k v h. h;
}
judged p Send = record {
  entry = λ c. refl;
  mode = λ z. refl;
  masks = λ z. refl;
  exchange = λ z. refl;
  goes = refl;
  after = λ z. refl;
  mark = refl;
  leads = λ k v h. h;
  led = λ k v h. h;
}
judged p Reply = record {
  entry = λ c. refl;
  mode = λ z. refl;
  masks = λ z. refl;
  exchange = λ z. refl;
  goes = refl;
  after = λ z. refl;
  mark = refl;
  leads = λ k v h. h;
  led = λ k v h. h;
}
judged p (Vote d) = record {
  entry = λ c. refl;
  mode = λ z. refl;
  masks = λ z. refl;
  exchange = λ z. refl;
  goes = refl;
  after = λ z. refl;
  mark = refl;
  leads = λ k v h. h;
  led = λ k v h. h;
}
judged p (Print s) = record {
  entry = λ c. refl;
  mode = λ z. refl;
  masks = λ z. refl;
  exchange = λ z. refl;
  goes = refl;
  after = λ z. refl;
  mark = refl;
  leads = λ k v h. h;
  led = λ k v h. h;
}
judged p (Jump t) = record {
  entry = λ c. refl;
  mode = λ z. refl;
  masks = λ z. refl;
  exchange = λ z. refl;
  goes = refl;
  after = λ z. refl;
  mark = refl;
  leads = λ k v h. h;
  led = λ k v h. h;
}
judged p (JumpIfZero s t) = record {
  entry = λ c. refl;
  mode = λ z. refl;
  masks = λ z. refl;
  exchange = λ z. refl;
  goes = refl;
  after = λ z.
      refl;
  mark = refl;
  leads = λ k v h. h;
  led = λ k v h. h;
}
judged p Halt = record {
  entry = λ c. refl;
  mode = λ z. refl;
  masks = λ z. refl;
  exchange = λ z. refl;
  goes = refl;
  after = λ z. refl;
  mark = refl;
  leads = λ k v h. h;
  led = λ k v h. h;
}

mark_moved : (p : ℕ → ℕ) (o : Option Instr) → is_mark (option_map (renamed p) o) ≡ is_mark o
mark_moved p None = refl
mark_moved p (Some i) = (judged p i).mark

of_same : (side : Side) (r : ℕ) → of side side r ≡ Some r
of_same Uniform r = refl
of_same Private r = refl

and_true : {a b : Bool} → a ≡ true → b ≡ true → (a && b) ≡ true
and_true e f = λ i. e i && f i

all_true : {a b c : Bool} → a ≡ true → b ≡ true → c ≡ true → (a && b && c) ≡ true
all_true e f g = λ i. e i && f i && g i

module _ (p : ℕ → ℕ) (uniform private : ℕ) (code : SuperstepCode) where
  abbrev packed : SuperstepCode
  packed = with_names p uniform private code

  there : (side : Side) (r : ℕ) → p r < registers_of packed side → is_register packed side (p r) ≡ true
  there side r l = lt-ltb (p r) (registers_of packed side) l

  registers_there : (i : Instr) → ((side : Side) (r : ℕ) → IsAmong r (named side i) → p r < registers_of packed side) →
      has_registers packed (renamed p i) ≡ true
  registers_there (Mark line) names = refl
  registers_there (Set s d n) names =
      there s d (names s d (0, ap (λ o. Some o) (of_same s d)))
  registers_there (Copy s d x) names =
      and_true (there s d (names s d (0, ap (λ o. Some o) (of_same s d))))
      (there s x (names s x (1, ap (λ o. Some o) (of_same s x))))
  registers_there (Negate s d x q) names =
      and_true (there s d (names s d (0, ap (λ o. Some o) (of_same s d))))
      (there s x (names s x (1, ap (λ o. Some o) (of_same s x))))
  registers_there (Calculate s o d a b q) names =
      all_true (there s d (names s d (0, ap (λ o. Some o) (of_same s d))))
      (there s a (names s a (1, ap (λ o. Some o) (of_same s a))))
      (there s b (names s b (2, ap (λ o. Some o) (of_same s b))))
  registers_there (Decide s o d a b) names =
      all_true (there s d (names s d (0, ap (λ o. Some o) (of_same s d))))
      (there s a (names s a (1, ap (λ o. Some o) (of_same s a))))
      (there s b (names s b (2, ap (λ o. Some o) (of_same s b))))
  registers_there (Not s d x) names =
      and_true (there s d (names s d (0, ap (λ o. Some o) (of_same s d))))
      (there s x (names s x (1, ap (λ o. Some o) (of_same s x))))
  registers_there (CopyUniform d s) names =
      and_true (there Private d (names Private d (0, ap (λ o. Some o) (of_same Private d))))
      (there Uniform s (names Uniform s (1, ap (λ o. Some o) (of_same Uniform s))))
  registers_there (Index d) names =
      there Private d (names Private d (0, ap (λ o. Some o) (of_same Private d)))
  registers_there (Enter a b q) names =
      and_true (there Uniform a (names Uniform a (0, ap (λ o. Some o) (of_same Uniform a))))
      (there Uniform b (names Uniform b (1, ap (λ o. Some o) (of_same Uniform b))))
  registers_there Leave names = refl
  registers_there (Mask s) names =
      there Private s (names Private s (0, ap (λ o. Some o) (of_same Private s)))
  registers_there Flip names = refl
  registers_there Unmask names = refl
  registers_there (Ask s d c x q) names =
      and_true (there s d (names s d (0, ap (λ o. Some o) (of_same s d))))
      (there s x (names s x (1, ap (λ o. Some o) (of_same s x))))
  registers_there (Put s c x v q) names =
      and_true (there s x (names s x (0, ap (λ o. Some o) (of_same s x))))
      (there s v (names s v (1, ap (λ o. Some o) (of_same s v))))
  registers_there Send names = refl
  registers_there Reply names = refl
  registers_there (Vote d) names =
      there Uniform d (names Uniform d (0, ap (λ o. Some o) (of_same Uniform d)))
  registers_there (Print s) names =
      there Uniform s (names Uniform s (0, ap (λ o. Some o) (of_same Uniform s)))
  registers_there (Jump t) names = refl
  registers_there (JumpIfZero s t) names =
      there Uniform s (names Uniform s (0, ap (λ o. Some o) (of_same Uniform s)))
  registers_there Halt names = refl

  as_long : length packed.instructions ≡ length code.instructions
  as_long = length-map code.instructions (renamed p)

  is_target_moved : (place t : ℕ) → is_target packed place t ≡ is_target code place t
  is_target_moved place t = λ i.
      nat_lt t (as_long i)
      && (nat_lt place t || (ap is_mark (slice_get-map (renamed p) code.instructions t) ∙ mark_moved p (slice_get code.instructions t)) i)

  target_moved : (place : ℕ) (i : Instr) → has_target packed place (renamed p i) ≡ has_target code place i
  target_moved place (Mark line) = refl
  target_moved place (Set s d n) = refl
  target_moved place (Copy s d x) = refl
  target_moved place (Negate s d x q) = refl
  target_moved place (Calculate s o d a b q) = refl
  target_moved place (Decide s o d a b) = refl
  target_moved place (Not s d x) = refl
  target_moved place (CopyUniform d s) = refl
  target_moved place (Index d) = refl
  target_moved place (Enter a b q) = refl
  target_moved place Leave = refl
  target_moved place (Mask s) = refl
  target_moved place Flip = refl
  target_moved place Unmask = refl
  target_moved place (Ask s d c x q) = refl
  target_moved place (Put s c x v q) = refl
  target_moved place Send = refl
  target_moved place Reply = refl
  target_moved place (Vote d) = refl
  target_moved place (Print s) = refl
  target_moved place (Jump t) = is_target_moved place t
  target_moved place (JumpIfZero s t) = is_target_moved place t
  target_moved place Halt = refl

  found : (k : ℕ) (i : Instr) → slice_get code.instructions k ≡ Some i → slice_get packed.instructions k ≡ Some (renamed p i)
  found k i e = slice_get-map (renamed p) code.instructions k ∙ ap (option_map (renamed p)) e

  reached : (k t : ℕ) → IsLed code k t → IsLed packed k t
  reached k t (inl e) = inl e
  reached k t (inr (j, i, l, at, leads)) = inr (j, renamed p i, l, found j i at, (judged p i).led j t leads)

  module _ (names : (side : Side) (r : ℕ) → IsNamedIn side code.instructions r → p r < registers_of packed side) where
    met : (given : ℕ → State) (k : ℕ) → IsMet code given k → IsMet packed given k
    met given k m =
        let i = m.instr in
        let a = m.allowed in
        let same = judged p i in
        record {
          instr = renamed p i;
          is = found k i m.is;
          reached = reached k k m.reached;
          allowed = record {
            registers = registers_there i (λ side r among. names side r (record { place = k; instr = i; is = m.is; among = among }));
            entry = same.entry packed ∙ a.entry;
            target = target_moved k i ∙ a.target;
            mode = same.mode (given k) ∙ a.mode;
            masks = same.masks (given k) ∙ a.masks;
            exchange = same.exchange (given k) ∙ a.exchange;
            within = (λ j. not (same.goes j) || nat_lt (k + 1) (as_long j)) ∙ a.within;
          };
          leaves = λ t leads. m.leaves t (same.leads k t leads) ∙ sym (same.after (given k));
        }

    pub formed_again : IsWellFormed code → IsWellFormed packed
    formed_again w = (
      (let some = w.0 in let same = as_long in omega (arith, some, same)),
      (
        w.1.0,
        record {
          start = w.1.1.start;
          each = λ j l. met w.1.0 j (w.1.1.each j (let same = as_long in omega (arith, l, same)));
        },
      ),
    )
