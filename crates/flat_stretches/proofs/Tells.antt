-- A fault of the running statement that is told stays so up to the next mark or halt, where it is the outcome.
use Rattle.std.proofs.Common.{◌≡◌, ℕ, ◌+◌, List, [], ◌∷◌, ◌++◌, map, length, Bool, true, false, cond, Option, Some, None, ℤ, refl, sym, ap}
use Rattle.std.proofs.Common.{◌∙◌, subst, arith}
use Rattle.std.specs.Prelude.{if◌then◌else◌, nat_lt, slice_get}
use Rattle.std.specs.List.{AllByRecursion, filter}
use Rattle.std.proofs.lemmas.Bool.Decides.{nat_tests}
use Rattle.pram_values.specs.Total.{total}
use Rattle.pram_values.specs.Truth.{is_nonzero}
use Rattle.pram_values.specs.declared.kind.Kind.{Kind}
use Rattle.pram_values.specs.declared.place.Place.TheVariants.{All, Processor}
use Rattle.pram_values.proofs.Totals.{total_none}
use Rattle.write_rules.specs.Verdict.{Faulted}
use Rattle.superstep_instructions.specs.declared.instr.Side.TheVariants.{Uniform, Private}
use Rattle.superstep_instructions.specs.declared.instr.Instr.{Instr}
use Rattle.superstep_instructions.specs.declared.instr.Instr.TheVariants.{Mark, Set, Copy, Negate, Calculate, Decide, Not, Enter, Ask, Put}
use Rattle.superstep_instructions.specs.declared.instr.Instr.TheVariants.{Print}
use Rattle.superstep_instructions.specs.declared.instr.Instr.TheVariants.{Send}
use Rattle.superstep_instructions.specs.declared.instr.Instr.TheVariants.{Reply, Vote, Jump, JumpIfZero, Halt}
use Rattle.superstep_machine.specs.declared.key.Key.{Key}
use Rattle.superstep_instructions.specs.Code.{SuperstepCode}
use Rattle.superstep_machine.specs.Keys.{least}
use Rattle.superstep_machine.specs.Parts.{Read, UniformPart, PrivatePart}
use Rattle.superstep_machine.specs.Results.{position_of}
use Rattle.superstep_machine.specs.Run.{Purpose, Sends, Replies, Votes, On, items_below, fault_of}
use Rattle.superstep_machine.specs.Steps.{fault_at, wrong_uniform, wrong_own, own_key, index_of, is_active, is_put}
use Rattle.superstep_machine.proofs.KeyOrder.{keys_are_monoid, none_least}
use Rattle.flat_machine.specs.Flat.{Flat, range, noted, after_instr, after_send, after_reply, after_vote}
use Rattle.flat_machine.specs.ByExchanges.{State}
use Rattle.flat_machine.specs.ByInstructions.{going, everywhere, IsFlatOutcome}
use Rattle.flat_machine.specs.Verdicts.{told, ends_statement}
use Rattle.flat_machine.proofs.AnyTime.{a_key_is_for_good}
use Rattle.flat_machine.proofs.Late.{told_noted}
use Rattle.flat_stretches.specs.Along.{Run, Comes, IsAt, works, IsUndecided, IsOf, IsRunning}
use Rattle.flat_stretches.specs.Tells.{IsDoomed, Tells, is_quiet, EndsTell, QuietPlacesTell, QuietStretchesTell, JumpsTell, ForksTell}
use Rattle.flat_stretches.specs.Tells.{IsCalm, ends, quiet, jumps, forks, CalmPlacesTell, QuietBeforeCalm}
use Rattle.flat_stretches.proofs.Applied.{told_by, lone_send_told}
use Rattle.flat_stretches.proofs.Along.{nothing_decides, work_goes_on_here, send_goes_on, reply_goes_on, vote_goes_on, jump_goes_on}
use Rattle.flat_stretches.proofs.Along.{fork_goes_on}

-- ---- what notes nothing

nothing_wrong : (code : SuperstepCode) (i : Instr) (u : UniformPart) → is_quiet i ≡ true → wrong_uniform code i u ≡ None
nothing_wrong code (Set Uniform d x) u q = refl
nothing_wrong code (Set Private d x) u q = refl
nothing_wrong code (Copy Uniform d s) u q = refl
nothing_wrong code (Copy Private d s) u q = refl
nothing_wrong code (Decide Uniform o d a b) u q = refl
nothing_wrong code (Decide Private o d a b) u q = refl
nothing_wrong code (Not Uniform d s) u q = refl
nothing_wrong code (Not Private d s) u q = refl
nothing_wrong code (Negate side d s p) u q = cc
nothing_wrong code (Calculate side o d a b p) u q = cc
nothing_wrong code (Enter a b p) u q = cc
nothing_wrong code (Ask side d c s p) u q = cc
nothing_wrong code (Put side c s v p) u q = cc
nothing_wrong code i u q = refl

nothing_wrong_there : (code : SuperstepCode) (i : Instr) (x : PrivatePart) → is_quiet i ≡ true → wrong_own code i x ≡ None
nothing_wrong_there code (Set Uniform d y) x q = refl
nothing_wrong_there code (Set Private d y) x q = refl
nothing_wrong_there code (Copy Uniform d s) x q = refl
nothing_wrong_there code (Copy Private d s) x q = refl
nothing_wrong_there code (Decide Uniform o d a b) x q = refl
nothing_wrong_there code (Decide Private o d a b) x q = refl
nothing_wrong_there code (Not Uniform d s) x q = refl
nothing_wrong_there code (Not Private d s) x q = refl
nothing_wrong_there code (Negate side d s p) x q = cc
nothing_wrong_there code (Calculate side o d a b p) x q = cc
nothing_wrong_there code (Enter a b p) x q = cc
nothing_wrong_there code (Ask side d c s p) x q = cc
nothing_wrong_there code (Put side c s v p) x q = cc
nothing_wrong_there code i x q = refl

module _ (code : SuperstepCode) (i : Instr) (q : is_quiet i ≡ true) where
  own_notes_nothing : (u : UniformPart) (v : ℕ) (x : PrivatePart) → own_key code i u v x ≡ None
  own_notes_nothing u v x =
      ap (λ (w : Option Kind). if is_active x then fault_at u (position_of i) (Processor (index_of u v)) w else None)
      (nothing_wrong_there code i x q)
      ∙ go (is_active x)
    where
      go : (b : Bool) → (let none : Option Key = None in if b then none else none) ≡ None
      go true = refl
      go false = refl

  pub notes_nothing : (f : Flat) → noted code i f ≡ None
  notes_nothing f =
      ap (λ (w : Option Kind). least (fault_at f.uniform (position_of i) All w)
      (total None least (λ v. own_key code i f.uniform v (f.own v)) (range f))) (nothing_wrong code i f.uniform q)
      ∙ total_none None least keys_are_monoid (λ v. own_key code i f.uniform v (f.own v))
      (λ v. own_notes_nothing f.uniform v (f.own v)) (range f)

-- an item that isn't of an earlier statement
pub item_stays : (n m : ℕ) (x : ℤ) (output : List (ℕ × ℤ)) → n ≡ m → items_below n (output ++ (m, x) ∷ []) ≡ items_below n output
item_stays n m x [] h = ap (λ b. map (λ (p : ℕ × ℤ). p.1) (cond b ((m, x) ∷ []) [])) (no m n h)
  where
    no : (a b : ℕ) → b ≡ a → nat_lt a b ≡ false
    no a b l = grind (arith, nat_tests)
item_stays n m x (p ∷ output) h = go (item_stays n m x output h) (nat_lt p.0 n)
  where
    go : items_below n (output ++ (m, x) ∷ []) ≡ items_below n output → (b : Bool) →
        map (λ (r : ℕ × ℤ). r.1)
        (cond b (p ∷ filter (λ (r : ℕ × ℤ). nat_lt r.0 n) (output ++ (m, x) ∷ []))
        (filter (λ (r : ℕ × ℤ). nat_lt r.0 n) (output ++ (m, x) ∷ [])))
        ≡ map (λ (r : ℕ × ℤ). r.1)
        (cond b (p ∷ filter (λ (r : ℕ × ℤ). nat_lt r.0 n) output) (filter (λ (r : ℕ × ℤ). nat_lt r.0 n) output))
    go rest true = ap (λ xs. p.1 ∷ xs) rest
    go rest false = rest

-- ---- doomed runs

pub doomed_runs : (code : SuperstepCode) (key : Key) (f : Flat) → IsDoomed code key f → IsRunning code f
doomed_runs code key f d = record {
  told = subst (IsOf f.uniform.count) (sym d.told) d.running;
  asks = subst (AllByRecursion (λ (x : Read). x.moment.count ≡ f.uniform.count)) (sym d.asks) tt;
}

module _ (t : Run) (place : ℕ) (key : Key) (f : Flat) (spent : ℕ) (c : Comes t (going place f) spent) (d : IsDoomed t.code key f)
    (next : Tells t (place + 1)) where
  abbrev Outcome : List (ℕ × ℤ) → Type 0
  Outcome output = IsFlatOutcome t.code t.input t.bound (Faulted (fault_of key) (items_below key.count output))

  told_still : (i : Instr) → is_quiet i ≡ true → is_put i ≡ false → told t.code (after_instr t.code i f) ≡ Some key
  told_still i q p =
      told_by t.code i f p ∙ ap (least (told t.code f)) (notes_nothing t.code i q f) ∙ none_least (told t.code f) ∙ d.told

  works_tell : (i : Instr) → IsAt t place i → works i ≡ true → is_quiet i ≡ true → is_put i ≡ false →
      (after_instr t.code i f).uniform.count ≡ f.uniform.count → (after_instr t.code i f).uniform.asks ≡ f.uniform.asks →
      Outcome (after_instr t.code i f).uniform.output
  works_tell i at w q p e a =
      next key (after_instr t.code i f) _ (work_goes_on_here t place f spent c i at w)
      (record { told = told_still i q p; running = d.running ∙ sym e; asks = a ∙ d.asks })

  undecided : (purpose : Purpose) → IsUndecided purpose f
  undecided purpose = nothing_decides t.code f (doomed_runs t.code key f d).told purpose

  quiet_tells : (i : Instr) → IsAt t place i → is_quiet i ≡ true → Outcome f.uniform.output
  quiet_tells Send at q =
      next key (after_send t.code f) _ (send_goes_on t place f spent c at (undecided Sends))
      (record {
        told = told_noted t.code (after_send t.code f) refl ∙ lone_send_told t.code f d.asks ∙ d.told;
        running = d.running;
        asks = refl;
      })
  quiet_tells Reply at q =
      next key (after_reply f) _ (reply_goes_on t place f spent c at (undecided Replies))
      (record { told = d.told; running = d.running; asks = d.asks })
  quiet_tells (Vote r) at q =
      next key (after_vote r f) _ (vote_goes_on t place f spent c r at (undecided (Votes r)))
      (record { told = d.told; running = d.running; asks = d.asks })
  quiet_tells (Print s) at q =
      subst (λ (xs : List ℤ). IsFlatOutcome t.code t.input t.bound (Faulted (fault_of key) xs))
      (item_stays key.count f.uniform.count (f.uniform.registers s) f.uniform.output d.running)
      (works_tell (Print s) at refl refl refl refl refl)
  quiet_tells (Mark line) at q = cc
  quiet_tells (Negate side a s p) at q = cc
  quiet_tells (Calculate side o a b e p) at q = cc
  quiet_tells (Enter a b p) at q = cc
  quiet_tells (Ask side a e s p) at q = cc
  quiet_tells (Put side e s v p) at q = cc
  quiet_tells (Jump target) at q = cc
  quiet_tells (JumpIfZero r target) at q = cc
  quiet_tells Halt at q = cc
  quiet_tells i at q = works_tell i at refl refl refl refl refl

pub quiet_places_tell : QuietPlacesTell
quiet_places_tell t place i at q next key f spent c d = quiet_tells t place key f spent c d next i at q

pub quiet_stretches_tell : QuietStretchesTell
quiet_stretches_tell t [] place st q next = subst (Tells t) (let e : place + 0 ≡ place = omega arith in e) next
quiet_stretches_tell t (i ∷ is) place st q next =
    quiet_places_tell t place i st.0 q.0
    (quiet_stretches_tell t is (place + 1) st.1 q.1
    (subst (Tells t) (let e : place + length (i ∷ is) ≡ place + 1 + length is = omega arith in e) next))

pub jumps_tell : JumpsTell
jumps_tell t place target at next key f spent c d = next key f spent (jump_goes_on t place f spent c target at) d

pub forks_tell : ForksTell
forks_tell t place r target at on away key f spent c d =
    go (is_nonzero (f.uniform.registers r)) (fork_goes_on t place f spent c r target at)
  where
    go : (b : Bool) → Comes t (if b then going (place + 1) f else going target f) spent →
        IsFlatOutcome t.code t.input t.bound (Faulted (fault_of key) (items_below key.count f.uniform.output))
    go true x = on key f spent x d
    go false x = away key f spent x d

-- ---- where it ends

pub ends_tell : EndsTell
ends_tell t formed place end key f spent c d =
    subst
    (λ (s : State). s.way ≡ On → ends_statement (slice_get t.code.instructions s.place) ≡ true → told t.code s.flat ≡ Some key →
    IsFlatOutcome t.code t.input t.bound (Faulted (fault_of key) (items_below key.count s.flat.uniform.output)))
    c.here (a_key_is_for_good t.code formed everywhere t.input t.bound c.instructions key) refl end d.told

pub calm_places_tell : CalmPlacesTell
calm_places_tell t formed place (ends e) = ends_tell t formed place e
calm_places_tell t formed place (quiet i at q c) = quiet_places_tell t place i at q (calm_places_tell t formed (place + 1) c)
calm_places_tell t formed place (jumps target at c) = jumps_tell t place target at (calm_places_tell t formed target c)
calm_places_tell t formed place (forks r target at c d) =
    forks_tell t place r target at (calm_places_tell t formed (place + 1) c) (calm_places_tell t formed target d)

pub quiet_before_calm : QuietBeforeCalm
quiet_before_calm t [] place st q c = subst (IsCalm t.code) (let e : place + 0 ≡ place = omega arith in e) c
quiet_before_calm t (i ∷ is) place st q c =
    quiet i st.0 q.0
    (quiet_before_calm t is (place + 1) st.1 q.1
    (subst (IsCalm t.code) (let e : place + length (i ∷ is) ≡ place + 1 + length is = omega arith in e) c))
