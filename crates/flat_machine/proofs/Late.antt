-- A key of an earlier statement, which is noted or owed, is the verdict of a run of well-formed code, whichever exchanges decide.
use Rattle.std.proofs.Common.{◌≡◌, ℕ, zero, suc, ◌+◌, ◌*◌, ◌<◌, List, [], ◌∷◌, ◌++◌, map, length, Bool, true, false, cond, eqb, Option}
use Rattle.std.proofs.Common.{Some, None, ℤ, refl, sym, ap, ◌∙◌, subst, arith, ⊎_elim, ◌⊎◌, inl, inr}
use Rattle.std.specs.Prelude.{if◌then◌else◌, nat_lt}
use Rattle.std.specs.List.{filter}
use Rattle.std.proofs.lemmas.Bool.Decides.{nat_tests}
use Rattle.pram_values.specs.Total.{total}
use Rattle.pram_values.specs.Truth.{is_nonzero}
use Rattle.pram_values.proofs.Totals.{neutral_right, total_none}
use Rattle.write_rules.specs.Rule.{shares_reads}
use Rattle.write_rules.specs.Verdict.{Verdict, Faulted}
use Rattle.superstep_instructions.specs.declared.instr.Side.TheVariants.{Uniform, Private}
use Rattle.superstep_instructions.specs.declared.instr.Instr.{Instr}
use Rattle.superstep_instructions.specs.declared.instr.Instr.TheVariants.{Mark, Ask, Put, Print, Send, Reply, Vote, Jump, JumpIfZero, Halt}
use Rattle.superstep_machine.specs.declared.key.Key.{Key}
use Rattle.superstep_instructions.specs.Code.{SuperstepCode}
use Rattle.superstep_machine.specs.Keys.{least}
use Rattle.superstep_machine.specs.Parts.{Moment}
use Rattle.superstep_machine.specs.Run.{Sends, Way, On, Past, is_held, due, unless, decided, items_below, fault_of}
use Rattle.superstep_machine.specs.Sending.{put_conflict, verdict_on}
use Rattle.superstep_machine.specs.Stretch.{ToClose}
use Rattle.superstep_machine.proofs.KeyOrder.{by_earlier_statement, keys_are_monoid, none_least}
use Rattle.bsp_verify.specs.WellFormed.{IsWellFormed}
use Rattle.flat_machine.specs.Flat.{Flat, cells, noted, after_instr, owed, read_conflicts, after_send, after_reply, after_vote}
use Rattle.flat_machine.specs.ByExchanges.{State, outcome_of, opening}
use Rattle.flat_machine.specs.ByInstructions.{closed, stopped, going, instructed, step, step_by, steps, outcome_within}
use Rattle.flat_machine.specs.Verdicts.{told, IsLate}
use Rattle.flat_machine.proofs.Stepping.{carried_out, outcome_is_past, past_is_not_on, over_stays, steps_more, outcome_stays}
use Rattle.flat_machine.proofs.Counts.{IsKeyOf, AreReadsOf, reads_also, noted_of, owed_of, reads_of}
use Rattle.flat_machine.proofs.Paths.{IsAt, Agrees, Fits, found, step_agrees, states_describe, mark_asks_none, halt_asks_none}
use Rattle.flat_machine.proofs.Paths.{reply_holds_none, vote_holds_none, put_holds_none}
use Rattle.flat_machine.proofs.Arrival.{arrives}

-- the verdict of a key
abbrev pub faulted : Key → List ℤ → Option Verdict
faulted key items = Some (Faulted (fault_of key) items)

-- a key of a later statement isn't told
stays : (key : Key) (x : Option Key) → IsKeyOf (λ n. key.count < n) x → least (Some key) x ≡ Some key
stays key None h = refl
stays key (Some b) h = ap (λ c. let k : Key = if c then key else b in Some k) (by_earlier_statement key b h)

-- a and o, then y
pub least_last : (a o y : Option Key) → least (least a y) o ≡ least (least a o) y
least_last a o y = keys_are_monoid.associative a y o ∙ ap (least a) (keys_are_monoid.commutative y o)
    ∙ sym (keys_are_monoid.associative a o y)

abbrev below : ℕ → List (ℕ × ℤ) → List (ℕ × ℤ)
below n output = filter (λ (p : ℕ × ℤ). nat_lt p.0 n) output

-- the items of statements before n, where one of a later statement is added
later_item : (n m : ℕ) (x : ℤ) (output : List (ℕ × ℤ)) → n < m → items_below n (output ++ (m, x) ∷ []) ≡ items_below n output
later_item n m x [] h = ap (λ b. map (λ (q : ℕ × ℤ). q.1) (cond b ((m, x) ∷ []) [])) (no m n h)
  where
    no : (a b : ℕ) → b < a → nat_lt a b ≡ false
    no a b l = grind (arith, nat_tests)
later_item n m x (q ∷ output) h = go (later_item n m x output h) (nat_lt q.0 n)
  where
    go : items_below n (output ++ (m, x) ∷ []) ≡ items_below n output → (b : Bool) →
        map (λ (p : ℕ × ℤ). p.1) (cond b (q ∷ below n (output ++ (m, x) ∷ [])) (below n (output ++ (m, x) ∷ [])))
        ≡ map (λ (p : ℕ × ℤ). p.1) (cond b (q ∷ below n output) (below n output))
    go rest true = ap (λ xs. q.1 ∷ xs) rest
    go rest false = rest

module _ (code : SuperstepCode) where
  -- without a put nothing is owed
  pub none_owed : (f : Flat) → is_held f.uniform.put ≡ false → owed code f ≡ None
  none_owed f h = go f.uniform.put h
    where
      go : (put : Option Moment) → is_held put ≡ false → total None least (λ c. put_conflict put c (verdict_on code.rule (f.held c)))
          (cells code) ≡ None
      go None e = total_none None least keys_are_monoid (λ c. put_conflict None c (verdict_on code.rule (f.held c))) (λ c. refl)
          (cells code)
      go (Some at) e = cc

  -- then what is told is what is noted
  pub told_noted : (f : Flat) → is_held f.uniform.put ≡ false → told code f ≡ f.key
  told_noted f h = ap (least f.key) (none_owed f h) ∙ none_least f.key

  -- what a send notes of the reads
  abbrev pub read_keys : Flat → Option Key
  read_keys f = if shares_reads code.rule then None else read_conflicts code f 0 f.uniform.asks

  -- what a send leaves is told as before, together with that
  pub told_sent : (f : Flat) → (after_send code f).key ≡ least (told code f) (read_keys f)
  told_sent f = sym (keys_are_monoid.associative f.key (owed code f) (read_keys f))

  pub no_read_keys : (f : Flat) → f.uniform.asks ≡ [] → read_keys f ≡ None
  no_read_keys f h = go (shares_reads code.rule) ∙ refl
    where
      go : (b : Bool) → (if b then None else read_conflicts code f 0 f.uniform.asks) ≡ None
      go true = refl
      go false = ap (read_conflicts code f 0) h

  -- a close tells it
  pub closed_told : (ended : Bool) (place : ℕ) (f : Flat) (key : Key) → f.uniform.asks ≡ [] → told code f ≡ Some key →
      outcome_of code (closed code ended place f) ≡ faulted key (items_below key.count f.uniform.output)
  closed_told ended place f key h t = go (is_held f.uniform.put) refl
    where
      by_key : (g : Flat) → g.uniform.output ≡ f.uniform.output → g.key ≡ Some key →
          outcome_of code (record { flat = g; place = place; way = Past g.key ended }) ≡ faulted key
          (items_below key.count f.uniform.output)
      by_key g o e =
          ap (λ (k : Option Key). outcome_of code (record { flat = g; place = place; way = Past k ended })) e
          ∙ ap (λ xs. faulted key (items_below key.count xs)) o

      go : (b : Bool) → is_held f.uniform.put ≡ b →
          outcome_of code (let last = if b then after_send code f else f in
          record { flat = last; place = place; way = Past last.key ended })
          ≡ faulted key (items_below key.count f.uniform.output)
      go true e = by_key (after_send code f) refl (told_sent f ∙ ap (least (told code f)) (no_read_keys f h) ∙ none_least (told code f) ∙ t)
      go false e = by_key f refl (sym (told_noted f e) ∙ t)

  module _ (key : Key) (f : Flat) (l : IsLate code key f) where
    -- a send
    late_send : AreReadsOf (λ n. n ≡ f.uniform.count) f.uniform.asks → IsLate code key (after_send code f)
    late_send h = record {
      told = told_noted (after_send code f) refl ∙ told_sent f ∙ ap (λ x. least x (read_keys f)) l.told
          ∙ stays key (read_keys f) (reads_of (λ n. key.count < n) code f (reads_also (λ n. n ≡ f.uniform.count) (λ n. key.count < n) later
          f.uniform.asks h));
      over = l.over;
    }
      where
        later : (n : ℕ) → n ≡ f.uniform.count → key.count < n
        later n e = let o = l.over in omega (arith, o, e)

    late_reply : IsLate code key (after_reply f)
    late_reply = record { told = l.told; over = l.over }

    late_vote : (d : ℕ) → IsLate code key (after_vote d f)
    late_vote d = record { told = l.told; over = l.over }

    -- a put comes where none is held
    abbrev MayPut : Instr → Type 0
    MayPut (Put side c s v q) = is_held f.uniform.put ≡ false
    MayPut i = Unit {0}

    -- another instruction
    still_told : (i : Instr) → least (least f.key (noted code i f)) (owed code f) ≡ Some key
    still_told i =
        least_last f.key (owed code f) (noted code i f) ∙ ap (λ x. least x (noted code i f)) l.told
        ∙ stays key (noted code i f) (noted_of (λ n. key.count < n) code i f l.over)

    late_put : (i : Instr) → is_held f.uniform.put ≡ false → IsKeyOf (λ n. key.count < n) (owed code (after_instr code i f)) →
        told code (after_instr code i f) ≡ Some key
    late_put i h k =
        ap (λ x. least (least x (noted code i f)) (owed code (after_instr code i f))) (sym (told_noted f h) ∙ l.told)
        ∙ ap (λ x. least x (owed code (after_instr code i f))) (stays key (noted code i f) (noted_of (λ n. key.count < n) code i f l.over))
        ∙ stays key (owed code (after_instr code i f)) k

    late_instr : (i : Instr) → MayPut i → IsLate code key (after_instr code i f)
    late_instr (Mark line) h = record { told = still_told (Mark line); over = (let o = l.over in omega (arith, o)) }
    late_instr (Ask Uniform d c s q) h = record { told = still_told (Ask Uniform d c s q); over = l.over }
    late_instr (Ask Private d c s q) h = record { told = still_told (Ask Private d c s q); over = l.over }
    late_instr (Put side c s v q) h = record {
      told = late_put (Put side c s v q) h (owed_of (λ n. key.count < n) code (after_instr code (Put side c s v q) f) l.over);
      over = l.over;
    }
    late_instr i h = record { told = still_told i; over = l.over }

    same_items : (i : Instr) → items_below key.count (after_instr code i f).uniform.output ≡ items_below key.count f.uniform.output
    same_items (Ask Uniform d c s q) = refl
    same_items (Ask Private d c s q) = refl
    same_items (Print s) = later_item key.count f.uniform.count (f.uniform.registers s) f.uniform.output l.over
    same_items i = refl

    -- it is due where no put is held
    late_due : is_held f.uniform.put ≡ false → unless (due f.key f.uniform.count) On ≡ Past (Some key) false
    late_due h =
        ap (λ x. unless (due x f.uniform.count) On) (sym (told_noted f h) ∙ l.told)
        ∙ ap (λ b. unless (if b then Some key else None) On) (yes key.count f.uniform.count l.over)
      where
        yes : (a b : ℕ) → a < b → nat_lt a b ≡ true
        yes a b e = grind (arith, nat_tests)

-- ---- runs

module _ (code : SuperstepCode) (formed : IsWellFormed code) (bound : ℕ) (judges : ℕ → Bool) (key : Key) (items : List ℤ) where
  -- the run goes on with the key late, or it is over by it
  pub record IsOnLate (s : State) : Type 0 where
    pub on : s.way ≡ On
    pub late : IsLate code key s.flat
    pub same : items_below key.count s.flat.uniform.output ≡ items

  abbrev pub IsFixed : State → Type 0
  IsFixed s = IsOnLate s ⊎ (outcome_of code s ≡ faulted key items)

  -- it goes on, or it is over by the key
  abbrev Tells : Way → Type 0
  Tells way = (way ≡ On) ⊎ (way ≡ Past (Some key) false)

  exchange_fixed : (place : ℕ) (f : Flat) (way : Way) → IsLate code key f → items_below key.count f.uniform.output ≡ items → Tells way →
      IsFixed (record { flat = f; place = place; way = way })
  exchange_fixed place f way l e h =
      ⊎_elim (λ o. inl (record { on = o; late = l; same = e }))
      (λ p. inr (ap (λ (w : Way). outcome_of code (record { flat = f; place = place; way = w })) p ∙ ap (faulted key) e)) h

  going_fixed : (place : ℕ) (f : Flat) → IsLate code key f → items_below key.count f.uniform.output ≡ items → IsFixed (going place f)
  going_fixed place f l e = inl (record { on = refl; late = l; same = e })

  module _ (place : ℕ) (f : Flat) (a : IsAt code place f) (l : IsLate code key f) (e : items_below key.count f.uniform.output ≡ items) where
    judged : (b : Bool) (way : Way) → Tells way → Tells (if b then way else On)
    judged true way h = h
    judged false way h = inl refl

    send_way : Tells (decided Sends f.uniform f.key On)
    send_way = go (is_held f.uniform.put) refl
      where
        go : (b : Bool) → is_held f.uniform.put ≡ b → Tells (if b then On else unless (due f.key f.uniform.count) On)
        go true h = inl refl
        go false h = inr (late_due code key f l h)

    closed_fixed : (ended : Bool) → f.uniform.asks ≡ [] → IsFixed (closed code ended place f)
    closed_fixed ended h = inr (closed_told code ended place f key h l.told ∙ ap (faulted key) e)

    abbrev from : Option Instr → State
    from o = carried_out code bound judges o place f

    works : (i : Instr) → MayPut code key f l i → IsFixed (going (place + 1) (after_instr code i f))
    works i h = going_fixed (place + 1) (after_instr code i f) (late_instr code key f l i h) (same_items code key f l i ∙ e)

    by_instr : (i : Instr) → Fits code place f a i → IsFixed (from (Some i))
    by_instr Send h =
        exchange_fixed (place + 1) (after_send code f) _ (late_send code key f l a.counted.asks) e
        (judged (judges place) (decided Sends f.uniform f.key On) send_way)
    by_instr Reply h =
        exchange_fixed (place + 1) (after_reply f) _ (late_reply code key f l) e
        (judged (judges place) (unless (due f.key f.uniform.count) On) (inr (late_due code key f l (reply_holds_none code place f a h))))
    by_instr (Vote d) h =
        exchange_fixed (place + 1) (after_vote d f) _ (late_vote code key f l d) e
        (judged (judges place) (unless (due f.key f.uniform.count) On) (inr (late_due code key f l (vote_holds_none code place f a d h))))
    by_instr Halt h = closed_fixed true (halt_asks_none code place f a h)
    by_instr (Mark line) h = marked (eqb f.uniform.count bound)
      where
        marked : (b : Bool) → IsFixed (if b then stopped code judges (ToClose false) place f else going (place + 1)
            (after_instr code (Mark line) f))
        marked true = closed_fixed false (mark_asks_none code place f a line h)
        marked false = works (Mark line) tt
    by_instr (Jump target) h = going_fixed target f l e
    by_instr (JumpIfZero r target) h = forked (is_nonzero (f.uniform.registers r))
      where
        forked : (b : Bool) → IsFixed (if b then going (place + 1) f else going target f)
        forked true = going_fixed (place + 1) f l e
        forked false = going_fixed target f l e
    by_instr (Put side c s v q) h = works (Put side c s v q) (put_holds_none code place f a side c s v q h)
    by_instr i h = works i tt

    instructed_fixed : IsFixed (instructed code bound judges place f)
    instructed_fixed =
        let x = found code formed place f a in
        subst (λ (o : Option Instr). IsFixed (from o)) (sym x.is) (by_instr x.instr x.fits)

  -- what is over by it stays so
  told_not_on : (s : State) → outcome_of code s ≡ faulted key items → s.way ≡ On → ⊥
  told_not_on s o = past_is_not_on s.way (outcome_is_past code s (Faulted (fault_of key) items) o)

  step_fixed : (s : State) → Agrees code s → IsFixed s → IsFixed (step code bound judges s)
  step_fixed s a h =
      ⊎_elim (λ l. subst (λ (w : Way). IsFixed (step_by code bound judges s w)) (sym l.on)
      (instructed_fixed s.place s.flat (a l.on) l.late l.same))
      (λ o. subst IsFixed (sym (over_stays code bound judges 1 s (told_not_on s o))) (inr o)) h

  steps_fixed : (n : ℕ) (s : State) → Agrees code s → IsFixed s → IsFixed (steps code bound judges n s)
  steps_fixed zero s a h = h
  steps_fixed (suc n) s a h = steps_fixed n (step code bound judges s) (step_agrees code formed bound judges s a) (step_fixed s a h)

-- with the output of the statements before
pub late_verdict : (code : SuperstepCode) → IsWellFormed code → (bound : ℕ) (judges : ℕ → Bool) (input : List ℤ) (n : ℕ) (key : Key) →
    let s = steps code bound judges n (opening input) in
    s.way ≡ On → IsLate code key s.flat →
    outcome_within code bound judges ((bound + 1) * length code.instructions) input ≡ faulted key
    (items_below key.count s.flat.uniform.output)
late_verdict code formed bound judges input n key on l = go (arrives code formed bound judges input)
  where
    s : State
    s = steps code bound judges n (opening input)

    enough : ℕ
    enough = (bound + 1) * length code.instructions

    go : (v : Verdict) × (outcome_within code bound judges enough input ≡ Some v) →
        outcome_within code bound judges enough input ≡ faulted key (items_below key.count s.flat.uniform.output)
    go a =
        let later = outcome_stays code bound judges input enough (n + enough) a.0 (omega arith) a.1 in
        let here = sym (ap (λ (x : State). outcome_of code x) (steps_more code bound judges n enough (opening input))) ∙ later in
        ⊎_elim
        (λ m. absurd (past_is_not_on _ (outcome_is_past code (steps code bound judges enough s) a.0 here) m.on))
        (λ e. a.1 ∙ sym here ∙ e)
        (steps_fixed code formed bound judges key (items_below key.count s.flat.uniform.output) enough s
        (states_describe code formed bound judges input n)
        (inl (record { on = on; late = l; same = refl })))
