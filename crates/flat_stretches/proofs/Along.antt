-- A run comes from one instruction to the next, and exchanges are counted on the way.
use Rattle.std.proofs.Common.{◌≡◌, ℕ, ◌+◌, ◌*◌, ◌<◌, ◌≤◌, List, [], ◌∷◌, ◌++◌, length, Bool, true, false, eqb, Option, Some, None, refl, ap}
use Rattle.std.proofs.Common.{◌∙◌, subst, arith}
use Rattle.std.specs.Prelude.{if◌then◌else◌, nat_lt, slice_get}
use Rattle.std.proofs.lemmas.Bool.Decides.{nat_tests}
use Rattle.std.proofs.lemmas.List.{append-nil, length-append}
use Rattle.pram_values.specs.Truth.{is_nonzero}
use Rattle.superstep_instructions.specs.declared.instr.Instr.{Instr}
use Rattle.superstep_instructions.specs.declared.instr.Instr.TheVariants.{Mark, Send, Reply, Vote, Jump, JumpIfZero, Halt}
use Rattle.superstep_instructions.specs.Code.{SuperstepCode}
use Rattle.superstep_machine.specs.declared.key.Key.{Key}
use Rattle.superstep_machine.specs.Keys.{by_number, is_first, least}
use Rattle.superstep_machine.specs.Run.{Purpose, Sends, Replies, Votes, Closes, Way, On, is_held, due, unless, decided}
use Rattle.superstep_machine.specs.Stretch.{ToClose, advance}
use Rattle.flat_machine.specs.Flat.{Flat, owed, after_instr, after_send, after_reply, after_vote}
use Rattle.flat_machine.specs.ByExchanges.{State, after_exchange, opening}
use Rattle.flat_machine.specs.ByInstructions.{going, stopped, step, steps, everywhere}
use Rattle.flat_machine.specs.Exchanges.{Exchange, is_holding, exchanges_at, exchanges_from, but_empty}
use Rattle.flat_machine.proofs.Stepping.{carried_out, steps_more}
use Rattle.flat_machine.proofs.ExchangeLists.{but_empty_append, sum_from}
use Rattle.exchange_words.specs.Accesses.{words_by, words_at, words_within}
use Rattle.exchange_words.proofs.Lists.{taken_more}
use Rattle.flat_stretches.specs.Along.{Run, Comes, IsAt, works, access_cost, send_cost, IsUndecided, IsOf, NothingDecides, MoreMayBeSpent}
use Rattle.flat_stretches.specs.Along.{RunsBegin}
use Rattle.flat_stretches.specs.Along.{WorkGoesOn, MarksGoOn, SendsGoOn, RepliesGoOn, VotesGoOn, JumpsGoOn, ForksGoOn}

-- ---- when nothing decides

not_less : (a n : ℕ) → a ≡ n → nat_lt a n ≡ false
not_less a n e = grind (arith, nat_tests)

not_less_later : (a b n : ℕ) (rest : Bool) → by_number a b rest ≡ false → b ≡ n → nat_lt a n ≡ false
not_less_later a b n rest e h = grind (arith, nat_tests)

-- a key of the statement isn't due
not_due : (key : Key) (n : ℕ) → nat_lt key.count n ≡ false → due (Some key) n ≡ None
not_due key n h = ap (λ b. let k : Option Key = if b then Some key else None in k) h

-- and where the least of two keys is of it, neither is due
pub none_due : (n : ℕ) (x y : Option Key) → IsOf n (least x y) → due x n ≡ None
none_due n None y h = refl
none_due n (Some a) None h = not_due a n (not_less a.count n h)
none_due n (Some a) (Some b) h = not_due a n (go (is_first a b) refl h)
  where
    go : (c : Bool) → is_first a b ≡ c → (if c then a else b).count ≡ n → nat_lt a.count n ≡ false
    go true e k = not_less a.count n k
    go false e k = not_less_later a.count b.count n _ e k

-- then each exchange goes on
pub undecided : (f : Flat) → due f.key f.uniform.count ≡ None → (purpose : Purpose) → IsUndecided purpose f
undecided f h Sends = go (is_held f.uniform.put)
  where
    go : (b : Bool) → (if b then On else unless (due f.key f.uniform.count) On) ≡ On
    go true = refl
    go false = ap (λ k. unless k On) h
undecided f h Replies = ap (λ k. unless k On) h
undecided f h (Votes d) = ap (λ k. unless k On) h
undecided f h Closes = refl

pub nothing_decides : NothingDecides
nothing_decides code f h purpose = undecided f (none_due f.uniform.count f.key (owed code f) h) purpose

-- ---- one instruction

-- the exchanges of what stands at a place
abbrev pub made : SuperstepCode → ℕ → Option Instr → ℕ → Flat → List Exchange
made code bound o place f =
    advance bound (λ (g : Flat). g.uniform) (after_instr code) [] (λ stop k g. exchanges_at stop g.uniform) (λ k g. []) o place f

abbrev pub counted : List Exchange → ℕ
counted xs = length (but_empty xs)

pub counted_append : (xs ys : List Exchange) → counted (xs ++ ys) ≡ counted xs + counted ys
counted_append xs ys = ap length (but_empty_append xs ys) ∙ length-append (but_empty xs) (but_empty ys)

module _ (t : Run) (place : ℕ) (f : Flat) (spent : ℕ) (c : Comes t (going place f) spent) where
  -- the exchanges of one more instruction
  more_made : (i : Instr) → IsAt t place i →
      exchanges_from t.code t.bound everywhere (c.instructions + 1) (opening t.input)
      ≡ exchanges_from t.code t.bound everywhere c.instructions (opening t.input) ++ made t.code t.bound (Some i) place f
  more_made i at =
      sum_from t.code t.bound everywhere c.instructions 1 (c.instructions + 1) refl (opening t.input)
      ∙ ap (λ s. exchanges_from t.code t.bound everywhere c.instructions (opening t.input) ++ exchanges_from t.code t.bound everywhere 1 s)
      c.here
      ∙ ap (λ xs. exchanges_from t.code t.bound everywhere c.instructions (opening t.input) ++ xs)
      (append-nil (made t.code t.bound (slice_get t.code.instructions place) place f)
      ∙ ap (λ (o : Option Instr). made t.code t.bound o place f) at)

  -- and the words of its accesses
  more_taken : (i : Instr) → IsAt t place i →
      words_within t.code t.bound t.workers (c.instructions + 1) (opening t.input)
      ≡ words_within t.code t.bound t.workers c.instructions (opening t.input) + words_by t.code.rule t.workers i f
  more_taken i at =
      let a = taken_more t.code t.bound t.workers c.instructions 1 (c.instructions + 1) refl (opening t.input) in
      let b : words_within t.code t.bound t.workers 1 (steps t.code t.bound everywhere c.instructions (opening t.input))
      ≡ words_at t.code.rule t.workers (slice_get t.code.instructions place) f + 0 =
      ap (words_within t.code t.bound t.workers 1) c.here in
      let d : words_at t.code.rule t.workers (slice_get t.code.instructions place) f ≡ words_by t.code.rule t.workers i f =
      ap (λ o. words_at t.code.rule t.workers o f) at in
      omega (arith, a, b, d)

  -- the state that it leaves, with so much spent more
  pub along : (i : Instr) (s : State) (cost : ℕ) → IsAt t place i → carried_out t.code t.bound everywhere (Some i) place f ≡ s →
      counted (made t.code t.bound (Some i) place f) + access_cost t i f ≤ cost → Comes t s (spent + cost)
  along i s cost at is few = record {
    instructions = c.instructions + 1;
    here = steps_more t.code t.bound everywhere c.instructions 1 (opening t.input)
        ∙ ap (step t.code t.bound everywhere) c.here
        ∙ ap (λ (o : Option Instr). carried_out t.code t.bound everywhere o place f) at ∙ is;
    few =
        let e = ap counted (more_made i at)
        ∙ counted_append (exchanges_from t.code t.bound everywhere c.instructions (opening t.input))
        (made t.code t.bound (Some i) place f) in
        let w : t.weight * words_within t.code t.bound t.workers (c.instructions + 1) (opening t.input)
        ≡ t.weight * (words_within t.code t.bound t.workers c.instructions (opening t.input) + words_by t.code.rule t.workers i f) =
        ap (λ n. t.weight * n) (more_taken i at) in
        let d : t.weight * (words_within t.code t.bound t.workers c.instructions (opening t.input) + words_by t.code.rule t.workers i f)
        ≡ t.weight * words_within t.code t.bound t.workers c.instructions (opening t.input) + access_cost t i f = omega arith in
        let l = c.few in
        omega (arith, e, l, few, w, d);
  }

  none_more : (s : State) → Comes t s (spent + 0) → Comes t s spent
  none_more s = subst (Comes t s) (let e : spent + 0 ≡ spent = omega arith in e)

  -- without an exchange
  pub along_working : (i : Instr) (s : State) → IsAt t place i → carried_out t.code t.bound everywhere (Some i) place f ≡ s →
      made t.code t.bound (Some i) place f ≡ [] → Comes t s (spent + access_cost t i f)
  along_working i s at is none = along i s (access_cost t i f) at is (let e = ap counted none in omega (arith, e))

  -- and without an access
  pub along_free : (i : Instr) (s : State) → IsAt t place i → carried_out t.code t.bound everywhere (Some i) place f ≡ s →
      made t.code t.bound (Some i) place f ≡ [] → words_by t.code.rule t.workers i f ≡ 0 → Comes t s spent
  along_free i s at is none idle =
      none_more s (along i s 0 at is (let e = ap counted none in
      let w : access_cost t i f ≡ t.weight * 0 = ap (λ n. t.weight * n) idle in
      let z : t.weight * 0 ≡ 0 = omega arith in
      omega (arith, e, w, z)))

  pub work_goes_on_here : (i : Instr) → IsAt t place i → works i ≡ true → Comes t (going (place + 1) (after_instr t.code i f))
      (spent + access_cost t i f)
  work_goes_on_here (Mark line) at w = cc
  work_goes_on_here Send at w = cc
  work_goes_on_here Reply at w = cc
  work_goes_on_here (Vote d) at w = cc
  work_goes_on_here (Jump target) at w = cc
  work_goes_on_here (JumpIfZero r target) at w = cc
  work_goes_on_here Halt at w = cc
  work_goes_on_here i at w = along_working i (going (place + 1) (after_instr t.code i f)) at refl refl

  pub mark_goes_on : (line : ℕ) → IsAt t place (Mark line) → f.uniform.count < t.bound →
      Comes t (going (place + 1) (after_instr t.code (Mark line) f)) spent
  mark_goes_on line at l =
      along_free (Mark line) next at
      (ap (λ b. if b then stopped t.code everywhere (ToClose false) place f else next) (below f.uniform.count t.bound l))
      (ap (λ b. let none : List Exchange = [] in if b then exchanges_at (ToClose false) f.uniform else none)
      (below f.uniform.count t.bound l)) refl
    where
      next : State
      next = going (place + 1) (after_instr t.code (Mark line) f)

      below : (a b : ℕ) → a < b → eqb a b ≡ false
      below a b h = grind (arith, nat_tests)

  -- an exchange that goes on
  exchange_goes_on : (purpose : Purpose) → IsUndecided purpose f →
      (let s : State = record { flat = after_exchange t.code purpose f; place = place + 1; way = decided purpose f.uniform f.key On } in s)
      ≡ going (place + 1) (after_exchange t.code purpose f)
  exchange_goes_on purpose h = ap
      (λ (w : Way). let s : State = record { flat = after_exchange t.code purpose f; place = place + 1; way = w } in s) h

  pub send_goes_on : IsAt t place Send → IsUndecided Sends f → Comes t (going (place + 1) (after_send t.code f)) (spent + send_cost f)
  send_goes_on at h = along Send (going (place + 1) (after_send t.code f)) (send_cost f) at (exchange_goes_on Sends h)
      (let e = go (is_holding f.uniform) in let z : t.weight * 0 ≡ 0 = omega arith in omega (arith, e, z))
    where
      go : (b : Bool) → counted (let x : Exchange = record { purpose = Sends; held = b } in x ∷ []) ≤ (if b then 1 else 0)
      go true = omega arith
      go false = omega arith

  pub reply_goes_on : IsAt t place Reply → IsUndecided Replies f → Comes t (going (place + 1) (after_reply f)) (spent + 1)
  reply_goes_on at h = along Reply (going (place + 1) (after_reply f)) 1 at (exchange_goes_on Replies h)
      (let z : t.weight * 0 ≡ 0 = omega arith in omega (arith, z))

  pub vote_goes_on : (d : ℕ) → IsAt t place (Vote d) → IsUndecided (Votes d) f →
      Comes t (going (place + 1) (after_vote d f)) (spent + 1)
  vote_goes_on d at h = along (Vote d) (going (place + 1) (after_vote d f)) 1 at (exchange_goes_on (Votes d) h)
      (let z : t.weight * 0 ≡ 0 = omega arith in omega (arith, z))

  pub jump_goes_on : (target : ℕ) → IsAt t place (Jump target) → Comes t (going target f) spent
  jump_goes_on target at = along_free (Jump target) (going target f) at refl refl refl

  pub fork_goes_on : (r target : ℕ) → IsAt t place (JumpIfZero r target) →
      Comes t (if is_nonzero (f.uniform.registers r) then going (place + 1) f else going target f) spent
  fork_goes_on r target at = along_free (JumpIfZero r target) _ at refl (either (is_nonzero (f.uniform.registers r))) refl
    where
      either : (b : Bool) → (let none : List Exchange = [] in if b then none else none) ≡ []
      either true = refl
      either false = refl

pub more_may_be_spent : MoreMayBeSpent
more_may_be_spent t s spent more c l = record {
  instructions = c.instructions;
  here = c.here;
  few = (let h = c.few in omega (arith, h, l));
}

pub runs_begin : RunsBegin
runs_begin t = record { instructions = 0; here = refl; few = (let z : t.weight * 0 ≡ 0 = omega arith in omega (arith, z)) }

pub work_goes_on : WorkGoesOn
work_goes_on t place f spent c i at w = work_goes_on_here t place f spent c i at w

pub marks_go_on : MarksGoOn
marks_go_on t place f spent c line at l = mark_goes_on t place f spent c line at l

pub sends_go_on : SendsGoOn
sends_go_on t place f spent c at h = send_goes_on t place f spent c at h

pub replies_go_on : RepliesGoOn
replies_go_on t place f spent c at h = reply_goes_on t place f spent c at h

pub votes_go_on : VotesGoOn
votes_go_on t place f spent c d at h = vote_goes_on t place f spent c d at h

pub jumps_go_on : JumpsGoOn
jumps_go_on t place f spent c target at = jump_goes_on t place f spent c target at

pub forks_go_on : ForksGoOn
forks_go_on t place f spent c r target at = fork_goes_on t place f spent c r target at
