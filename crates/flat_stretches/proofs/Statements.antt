-- One statement of well-formed code, from its mark on.
use Rattle.std.proofs.Common.{◌≡◌, ℕ, ◌+◌, ◌<◌, ◌≤◌, List, [], ◌∷◌, map, length, Bool, true, false, cond, Some, None, ℤ, refl, sym, ap}
use Rattle.std.proofs.Common.{◌∙◌, subst, arith}
use Rattle.std.specs.Prelude.{nat_lt, if◌then◌else◌}
use Rattle.std.specs.List.{AllByRecursion, filter}
use Rattle.std.proofs.lemmas.Bool.Decides.{nat_tests}
use Rattle.write_rules.specs.Verdict.{Faulted}
use Rattle.superstep_instructions.specs.declared.instr.Side.TheVariants.{Uniform, Private}
use Rattle.superstep_instructions.specs.declared.instr.Instr.{Instr}
use Rattle.superstep_instructions.specs.declared.instr.Instr.TheVariants.{Mark, Ask, Print, Jump, JumpIfZero, Halt}
use Rattle.superstep_machine.specs.declared.key.Key.{Key}
use Rattle.superstep_instructions.specs.Code.{SuperstepCode}
use Rattle.superstep_machine.specs.Keys.{least}
use Rattle.superstep_machine.specs.Run.{items, items_below, fault_of}
use Rattle.flat_machine.specs.Flat.{Flat, opening}
use Rattle.flat_machine.specs.ByInstructions.{going, IsFlatOutcome}
use Rattle.flat_machine.specs.Verdicts.{told}
use Rattle.superstep_machine.specs.Parts.{PrivatePart}
use Rattle.superstep_machine.specs.Steps.{is_active}
use Rattle.bsp_verify.proofs.WorkerLemmas.{none_came}
use Rattle.bsp_verify.proofs.RunLemmas.{no_answers}
use Rattle.flat_machine.proofs.Late.{told_noted}
use Rattle.superstep_machine.proofs.KeyOrder.{none_least}
use Rattle.flat_machine.proofs.AnyTime.{none_noted}
use Rattle.flat_machine.proofs.Paths as paths
use Rattle.flat_stretches.specs.Applied.{AsksNone}
use Rattle.flat_stretches.specs.Along.{Comes, IsOf, IsRunning, Run}
use Rattle.flat_stretches.specs.Folds.{Stand, act, acts, costs, held_after, may_follow, IsFine, MayHold, IsBehind}
use Rattle.flat_stretches.specs.Tells.{Tells}
use Rattle.flat_stretches.specs.Statements.{HasBegun, MarksBegin, finished, HasFinished, StatementsFinish, StatementsFault}
use Rattle.flat_stretches.specs.Statements.{RunsBeginAtRest, MarksHold}
use Rattle.flat_stretches.proofs.Applied.{told_by}
use Rattle.flat_stretches.proofs.Along.{mark_goes_on}
use Rattle.flat_stretches.proofs.Folds.{stretches_are_folds}
use Rattle.flat_stretches.proofs.Tells.{item_stays}
use Rattle.flat_stretches.proofs.Closes.{agrees, fits}
use Rattle.flat_stretches.proofs.Rests.{rests_there}

-- items of statements before n are all of them, if there are no others
all_below : (n : ℕ) (output : List (ℕ × ℤ)) → AllByRecursion (λ (x : ℕ × ℤ). x.0 < n) output → items_below n output ≡ items output
all_below n [] h = refl
all_below n (x ∷ output) h = keep (nat_lt x.0 n) (yes x.0 n h.0) (all_below n output h.1)
  where
    yes : (a b : ℕ) → a < b → nat_lt a b ≡ true
    yes a b l = grind (arith, nat_tests)

    keep : (b : Bool) → b ≡ true → items_below n output ≡ items output →
        map (λ (r : ℕ × ℤ). r.1)
        (cond b (x ∷ filter (λ (r : ℕ × ℤ). nat_lt r.0 n) output) (filter (λ (r : ℕ × ℤ). nat_lt r.0 n) output))
        ≡ x.1 ∷ items output
    keep true e rest = ap (λ xs. x.1 ∷ xs) rest
    keep false e rest = cc

-- at a mark no read is held or awaited, by any processor
marked_rests : (t : Run) (place : ℕ) (f : Flat) (spent : ℕ) → Comes t (going place f) spent → (a : paths.IsAt t.code place f) →
    (line : ℕ) → paths.Fits t.code place f a (Mark line) → AsksNone f
marked_rests t place f spent c a line h =
    rests_there t place f spent c (paths.mark_asks_none t.code place f a line h)
    (none_came f.uniform.awaited (let d = a.describes in d.awaited ∙ no_answers (Mark line) a.point.state (λ e. cc) h))

-- a mark does nothing to a processor
pub mark_stays : (active : Bool) (x : PrivatePart) → (if active then x else x) ≡ x
mark_stays true x = refl
mark_stays false x = refl

pub marks_begin : MarksBegin
marks_begin t formed place f spent c line at l quiet =
    let a = agrees t formed place f spent c in record {
      comes = mark_goes_on t place f spent c line at l;
      told = told_by t.code (Mark line) f refl ∙ ap (least (told t.code f)) (none_noted t.code line f) ∙ none_least (told t.code f)
          ∙ quiet;
      rests =
          let n = marked_rests t place f spent c a line (fits t formed place f spent c (Mark line) at) in
          record {
            asks = n.asks;
            awaited = n.awaited;
            own_asks = λ v. ap (λ (x : PrivatePart). x.asks) (mark_stays (is_active (f.own v)) (f.own v)) ∙ n.own_asks v;
            own_awaited = λ v. ap (λ (x : PrivatePart). x.awaited) (mark_stays (is_active (f.own v)) (f.own v)) ∙ n.own_awaited v;
          };
      output = all_below (f.uniform.count + 1) f.uniform.output
          (less f.uniform.count f.uniform.output a.counted.output);
    }
  where
    less : (n : ℕ) (output : List (ℕ × ℤ)) → AllByRecursion (λ (x : ℕ × ℤ). x.0 ≤ n) output →
        AllByRecursion (λ (x : ℕ × ℤ). x.0 < n + 1) output
    less n [] h = tt
    less n (x ∷ output) h = (let k = h.0 in omega (arith, k), less n output h.1)

pub marks_hold : MarksHold
marks_hold code line held f h = λ e. let b = h e in record { put = b.put; held = b.held }

pub runs_begin_at_rest : RunsBeginAtRest
runs_begin_at_rest code input = record {
  told = told_noted code (opening input) refl;
  bare = record { put = refl; held = λ c. refl };
  rests = record { asks = refl; awaited = refl; own_asks = λ v. refl; own_awaited = λ v. refl };
}

-- ---- a stretch stays in its statement

-- the count stays, and so do the items of the statements before
record StaysIn (f g : Flat) : Type 0 where
  count : g.uniform.count ≡ f.uniform.count
  output : items_below f.uniform.count g.uniform.output ≡ items_below f.uniform.count f.uniform.output

act_stays : (code : SuperstepCode) (h : Bool) (i : Instr) (f : Flat) → may_follow h i ≡ true → StaysIn f (act code i f)
act_stays code h (Mark line) f m = cc
act_stays code h (Jump target) f m = cc
act_stays code h (JumpIfZero r target) f m = cc
act_stays code h Halt f m = cc
act_stays code h (Ask Uniform d c s q) f m = record { count = refl; output = refl }
act_stays code h (Ask Private d c s q) f m = record { count = refl; output = refl }
act_stays code h (Print s) f m = record {
  count = refl;
  output = item_stays f.uniform.count f.uniform.count (f.uniform.registers s) f.uniform.output refl;
}
act_stays code h i f m = record { count = refl; output = refl }

acts_stay : (code : SuperstepCode) (is : List Instr) (h k : Bool) (f : Flat) → IsFine h is k → StaysIn f (acts code is f)
acts_stay code [] h k f fine = record { count = refl; output = refl }
acts_stay code (i ∷ is) h k f fine =
    let a = act_stays code h i f fine.0 in
    let b = acts_stay code is (held_after i h) k (act code i f) fine.1 in
    record {
      count = b.count ∙ a.count;
      output =
          ap (λ n. items_below n (acts code (i ∷ is) f).uniform.output) (sym a.count) ∙ b.output
          ∙ ap (λ n. items_below n (act code i f).uniform.output) a.count ∙ a.output;
    }

-- ---- what a statement comes to

module _ (t : Run) (is : List Instr) (before behind : Bool) (place spent : ℕ) (f : Flat) (b : HasBegun t place spent f)
    (st : Stand t place is) (fine : IsFine before is behind) (m : MayHold before f) where
  abbrev end : Flat
  end = acts t.code is f

  running : IsRunning t.code f
  running = record { told = subst (IsOf f.uniform.count) (sym b.told) tt; asks = subst (AllByRecursion _) (sym (b.rests).asks) tt }

  came : IsBehind t is behind place spent f
  came = stretches_are_folds t is before behind place spent f st fine m running b.comes

  -- what is told at the end is the key of the finished stretch
  told_there : told t.code end ≡ (finished t is f).key
  told_there = ap (λ (x : Flat). x.key) came.applied

  finishes : (finished t is f).key ≡ None → HasFinished t is behind place spent f end
  finishes quiet = record { comes = came.comes; seen = came.applied; told = told_there ∙ quiet; holds = came.holds }

  faults : (key : Key) → (finished t is f).key ≡ Some key → (finished t is f).uniform.asks ≡ [] → Tells t (place + length is) →
      IsFlatOutcome t.code t.input t.bound (Faulted (fault_of key) (items f.uniform.output))
  faults key e none tells =
      let s = acts_stay t.code is before behind f fine in
      let here : told t.code end ≡ Some key = told_there ∙ e in
      let running_key : key.count ≡ end.uniform.count = subst (IsOf end.uniform.count) here came.running.told in
      subst (λ (xs : List ℤ). IsFlatOutcome t.code t.input t.bound (Faulted (fault_of key) xs))
      (ap (λ n. items_below n end.uniform.output) (running_key ∙ s.count) ∙ s.output ∙ b.output)
      (tells key end (spent + costs t is f) came.comes
      (record { told = here; running = running_key; asks = ap (λ (x : Flat). x.uniform.asks) came.applied ∙ none }))

pub statements_finish : StatementsFinish
statements_finish t is before behind place spent f b st fine m quiet = finishes t is before behind place spent f b st fine m quiet

pub statements_fault : StatementsFault
statements_fault t is before behind place spent f b st fine m key e none tells =
    faults t is before behind place spent f b st fine m key e none tells
