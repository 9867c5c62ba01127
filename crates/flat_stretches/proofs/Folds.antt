-- A stretch is run as a fold, also with each write applied at once.
use Rattle.std.proofs.Common.{◌≡◌, ℕ, ◌+◌, ◌*◌, ◌≤◌, [], ◌∷◌, ◌++◌, length, Bool, true, false, not, None, refl, sym, ap, ◌∙◌}
use Rattle.std.proofs.Common.{subst, arith}
use Rattle.std.specs.Prelude.{if◌then◌else◌, ◌||◌}
use Rattle.superstep_instructions.specs.declared.instr.Side.TheVariants.{Uniform, Private}
use Rattle.superstep_instructions.specs.declared.instr.Instr.{Instr}
use Rattle.superstep_instructions.specs.declared.instr.Instr.TheVariants.{Mark, Ask, Put, Send, Reply, Vote, Jump, JumpIfZero, Halt}
use Rattle.superstep_instructions.specs.declared.instr.Instr.TheVariants.{Enter, Leave, Mask, Flip, Unmask}
use Rattle.superstep_instructions.specs.Code.{SuperstepCode}
use Rattle.superstep_machine.specs.Run.{Sends, Replies, Votes, is_held}
use Rattle.superstep_machine.specs.Steps.{is_put}
use Rattle.flat_machine.specs.Flat.{Flat, after_instr, after_send, after_reply, after_vote}
use Rattle.flat_machine.specs.ByInstructions.{going}
use Rattle.flat_machine.specs.Exchanges.{is_some, is_holding}
use Rattle.flat_stretches.specs.Applied.{applied, IsBare}
use Rattle.flat_stretches.specs.Along.{Run, Comes, IsAt, works, send_cost, IsRunning}
use Rattle.flat_stretches.specs.Folds.{act, acts, act_at_once, acts_at_once, cost, costs, exchange_count, word_count, is_steady, accesses}
use Rattle.flat_stretches.specs.Folds.{held_after, may_follow}
use Rattle.flat_stretches.specs.Folds.{MayHold, StretchesAreFolds, CostsAreCounted, AccessesAlone, FoldsStayBare, NothingCostsNothing}
use Rattle.flat_stretches.proofs.Applied.{instructions_apply_here, writes_apply, send_same, bare_is_applied, replies_apply, put_stays}
use Rattle.flat_stretches.proofs.Applied.{held_stays}
use Rattle.flat_stretches.proofs.Along.{nothing_decides, work_goes_on_here, send_goes_on, reply_goes_on, vote_goes_on}
use Rattle.std.specs.Prelude.{◌&&◌}
use Rattle.std.specs.List.{range_with_len}
use Rattle.std.proofs.Math.Nat.{mul-le-mul_left}
use Rattle.pram_values.specs.Truth.{is_nonzero}
use Rattle.superstep_machine.specs.Parts.{UniformPart, PrivatePart, fresh}
use Rattle.superstep_machine.specs.Steps.{on_uniform, on_own, on_active, is_active, renews}
use Rattle.superstep_machine.specs.Words.{bit}
use Rattle.flat_machine.proofs.Ranges.{either}
use Rattle.exchange_words.specs.Accesses.{of_write, active}
use Rattle.exchange_words.proofs.Sums.{added, added_most, passed}
use Rattle.flat_stretches.proofs.Joins.{counts_join, words_join}
use Rattle.flat_stretches.proofs.Running.{running_behind, running_sent, running_replied, running_voted}

not_held : (h : Bool) → not h ≡ true → h ≡ false
not_held false e = refl
not_held true e = cc

-- what one instruction of a stretch leaves
record IsNext (code : SuperstepCode) (behind : Bool) (i : Instr) (f : Flat) : Type 0 where
  applied : applied code (act code i f) ≡ act_at_once code i (applied code f)
  holds : MayHold behind (act code i f)
  running : IsRunning code (act code i f)

module _ (code : SuperstepCode) (h : Bool) (f : Flat) (b : MayHold h f) (r : IsRunning code f) where
  works_next : (i : Instr) → works i ≡ true → is_put i ≡ false → act code i f ≡ after_instr code i f →
      act_at_once code i (applied code f) ≡ after_instr code i (applied code f) → held_after i h ≡ h → IsNext code (held_after i h) i f
  works_next i w p a at_once e = record {
    applied = ap (applied code) a ∙ instructions_apply_here code i f p ∙ sym at_once;
    holds = λ z. subst IsBare (sym a) (bare (b (sym e ∙ z)));
    running = subst (IsRunning code) (sym a) (running_behind code f r i w (λ z. cc));
  }
    where
      bare : IsBare f → IsBare (after_instr code i f)
      bare n = record {
        put = put_stays code i f.uniform p ∙ n.put;
        held = λ c. ap (λ (held : ℕ → _). held c) (held_stays code i f p) ∙ n.held c;
      }

  next : (i : Instr) → may_follow h i ≡ true → IsNext code (held_after i h) i f
  next (Mark line) m = cc
  next (Jump target) m = cc
  next (JumpIfZero k target) m = cc
  next Halt m = cc
  next (Put side c s v q) m =
      let n = b (not_held h m) in record {
        applied = writes_apply code (Put side c s v q) f refl n;
        holds = λ e. cc;
        running = running_behind code f r (Put side c s v q) refl (λ e. n);
      }
  next Send m =
      let n : IsBare (after_send code f) = record { put = refl; held = λ c. refl } in record {
        applied = bare_is_applied code (after_send code f) n ∙ sym (send_same code f);
        holds = λ e. n;
        running = running_sent code f r;
      }
  next Reply m =
      let n = b (not_held h m) in record {
        applied = replies_apply code f n;
        holds = λ e. record { put = n.put; held = n.held };
        running = running_replied code f r;
      }
  next (Vote d) m = record {
    applied = refl;
    holds = λ e. let n = b e in record { put = n.put; held = n.held };
    running = running_voted code f r d;
  }
  next i m = works_next i refl refl refl refl refl

-- one more place on
act_goes_on : (t : Run) (place : ℕ) (f : Flat) (spent : ℕ) → Comes t (going place f) spent → (i : Instr) → IsAt t place i → (h : Bool) →
    may_follow h i ≡ true → IsRunning t.code f → Comes t (going (place + 1) (act t.code i f)) (spent + cost t i f)
act_goes_on t place f spent c (Mark line) at h m r = cc
act_goes_on t place f spent c (Jump target) at h m r = cc
act_goes_on t place f spent c (JumpIfZero k target) at h m r = cc
act_goes_on t place f spent c Halt at h m r = cc
act_goes_on t place f spent c Send at h m r = send_goes_on t place f spent c at (nothing_decides t.code f r.told Sends)
act_goes_on t place f spent c Reply at h m r = reply_goes_on t place f spent c at (nothing_decides t.code f r.told Replies)
act_goes_on t place f spent c (Vote d) at h m r = vote_goes_on t place f spent c d at (nothing_decides t.code f r.told (Votes d))
act_goes_on t place f spent c i at h m r = work_goes_on_here t place f spent c i at refl

-- written in another way
elsewhere : (t : Run) (f : Flat) (place other spent most : ℕ) → place ≡ other → spent ≡ most → Comes t (going place f) spent →
    Comes t (going other f) most
elsewhere t f place other spent most e d c = subst (Comes t (going other f)) d (subst (λ k. Comes t (going k f) spent) e c)

pub stretches_are_folds : StretchesAreFolds
stretches_are_folds t [] before behind place spent f st fine b r c = record {
  comes = elsewhere t f place (place + 0) spent (spent + 0) (omega arith) (omega arith) c;
  applied = refl;
  holds = λ e. b (fine ∙ e);
  running = r;
}
stretches_are_folds t (i ∷ is) before behind place spent f st fine b r c =
    let n = next t.code before f b r i fine.0 in
    let more = act_goes_on t place f spent c i st.0 before fine.0 r in
    let rest = stretches_are_folds t is (held_after i before) behind (place + 1) (spent + cost t i f) (act t.code i f) st.1 fine.1 n.holds
    n.running more in
    record {
      comes = elsewhere t (acts t.code (i ∷ is) f) (place + 1 + length is) (place + length (i ∷ is))
          (spent + cost t i f + costs t is (act t.code i f)) (spent + costs t (i ∷ is) f) (omega arith) (omega arith) rest.comes;
      applied = rest.applied ∙ ap (acts_at_once t.code is) n.applied;
      holds = rest.holds;
      running = rest.running;
    }

-- ---- how many exchanges

at_most : (b : Bool) → bit b ≤ 1
at_most true = omega arith
at_most false = omega arith

at_most_one : (f : Flat) → send_cost f ≤ 1
at_most_one f = go (is_holding f.uniform)
  where
    go : (b : Bool) → (if b then 1 else 0) ≤ 1
    go true = omega arith
    go false = omega arith

-- which processors are active
steady_own : (code : SuperstepCode) (i : Instr) (u : UniformPart) (v : ℕ) (x : PrivatePart) → is_steady i ≡ true →
    bit (is_active (on_own code i u v x)) ≤ bit (is_active x)
steady_own code (Enter a b q) u v x e = cc
steady_own code Leave u v x e = cc
steady_own code Flip u v x e = cc
steady_own code Unmask u v x e = cc
steady_own code (Mask s) u v x e = go (is_active x)
  where
    go : (b : Bool) → bit (b && is_nonzero (x.registers s)) ≤ bit b
    go true = at_most (is_nonzero (x.registers s))
    go false = omega arith
steady_own code (Ask Uniform d c s q) u v x e = omega arith
steady_own code (Ask Private d c s q) u v x e =
    either (λ (y : PrivatePart). bit (is_active y) ≤ bit (is_active x)) (is_active x) (on_active code (Ask Private d c s q) u v x)
    (record x { asks = x.asks ++ None ∷ [] }) (omega arith) (omega arith)
steady_own code i u v x e =
    either (λ (y : PrivatePart). bit (is_active y) ≤ bit (is_active x)) (is_active x) (on_active code i u v x) x (omega arith) (omega arith)

steady_width : (code : SuperstepCode) (i : Instr) (u : UniformPart) → is_steady i ≡ true → (on_uniform code i u).width ≡ u.width
steady_width code (Enter a b q) u e = cc
steady_width code Leave u e = cc
steady_width code (Ask Uniform d c s q) u e = refl
steady_width code (Ask Private d c s q) u e = refl
steady_width code i u e = refl

steady_renews : (i : Instr) → is_steady i ≡ true → renews i ≡ false
steady_renews (Enter a b q) e = cc
steady_renews Leave e = cc
steady_renews i e = refl

fewer_active : (f g : Flat) → g.uniform.width ≡ f.uniform.width →
    ((v : ℕ) → bit (is_active (g.own v)) ≤ bit (is_active (f.own v))) → active g ≤ active f
fewer_active f g e h =
    let a = passed (λ v. is_active (g.own v)) (range_with_len 0 g.uniform.width) in
    let b = passed (λ v. is_active (f.own v)) (range_with_len 0 f.uniform.width) in
    let c = added_most (λ v. bit (is_active (g.own v))) (λ v. bit (is_active (f.own v))) (range_with_len 0 f.uniform.width) h in
    let d : added (λ v. bit (is_active (g.own v))) (range_with_len 0 g.uniform.width)
    ≡ added (λ v. bit (is_active (g.own v))) (range_with_len 0 f.uniform.width) =
    ap (λ n. added (λ v. bit (is_active (g.own v))) (range_with_len 0 n)) e in
    omega (arith, a, b, c, d)

pub after_steady : (code : SuperstepCode) (i : Instr) (f : Flat) → is_steady i ≡ true → active (after_instr code i f) ≤ active f
after_steady code i f e =
    fewer_active f (after_instr code i f) (steady_width code i f.uniform e)
    (λ v. subst (λ b. bit (is_active (if b then fresh else on_own code i f.uniform v (f.own v))) ≤ bit (is_active (f.own v)))
    (sym (steady_renews i e)) (steady_own code i f.uniform v (f.own v) e))

act_steady : (code : SuperstepCode) (i : Instr) (f : Flat) → is_steady i ≡ true → active (act code i f) ≤ active f
act_steady code Send f e = fewer_active f (after_send code f) refl (λ v. omega arith)
act_steady code Reply f e = fewer_active f (after_reply f) refl (λ v. omega arith)
act_steady code (Vote d) f e = fewer_active f (after_vote d f) refl (λ v. omega arith)
act_steady code i f e = after_steady code i f e

-- what one instruction spends
one_counted : (t : Run) (k : ℕ) (i : Instr) (f : Flat) → active f ≤ k →
    cost t i f ≤ exchange_count (i ∷ []) + t.weight * word_count t k (i ∷ [])
one_counted t k Send f l = let a = at_most_one f in omega (arith, a)
one_counted t k Reply f l = omega arith
one_counted t k (Vote d) f l = omega arith
one_counted t k (Ask Uniform d c s q) f l =
    let z : t.weight * (2 * t.workers + 0) ≡ t.weight * (2 * t.workers) = omega arith in omega (arith, z)
one_counted t k (Ask Private d c s q) f l =
    let a : 2 * active f ≤ 2 * k + 0 = omega (arith, l) in
    let b = mul-le-mul_left t.weight a in
    omega (arith, b)
one_counted t k (Put Uniform c s v q) f l =
    let z : t.weight * (of_write t.code.rule + 0) ≡ t.weight * of_write t.code.rule = omega arith in omega (arith, z)
one_counted t k (Put Private c s v q) f l =
    let a : of_write t.code.rule * active f ≤ of_write t.code.rule * k = mul-le-mul_left (of_write t.code.rule) l in
    let b : of_write t.code.rule * active f ≤ of_write t.code.rule * k + 0 = omega (arith, a) in
    let c = mul-le-mul_left t.weight b in
    omega (arith, c)
one_counted t k i f l = omega arith

pub costs_are_counted : CostsAreCounted
costs_are_counted t k [] f h l = omega arith
costs_are_counted t k (i ∷ is) f h l =
    let a = one_counted t k i f l in
    let s = act_steady t.code i f h.0 in
    let b = costs_are_counted t k is (act t.code i f) h.1 (omega (arith, s, l)) in
    let c = counts_join (i ∷ []) is in
    let d : t.weight * word_count t k (i ∷ is) ≡ t.weight * (word_count t k (i ∷ []) + word_count t k is) =
    ap (λ n. t.weight * n) (words_join t k (i ∷ []) is) in
    let e : t.weight * (word_count t k (i ∷ []) + word_count t k is)
    ≡ t.weight * word_count t k (i ∷ []) + t.weight * word_count t k is = omega arith in
    omega (arith, a, b, c, d, e)

-- without accesses
one_alone : (t : Run) (i : Instr) (f : Flat) → accesses i ≡ false → cost t i f ≤ exchange_count (i ∷ [])
one_alone t Send f e = at_most_one f
one_alone t Reply f e = omega arith
one_alone t (Vote d) f e = omega arith
one_alone t (Ask side d c s q) f e = cc
one_alone t (Put side c s v q) f e = cc
one_alone t i f e = let z : t.weight * 0 ≡ 0 = omega arith in omega (arith, z)

pub accesses_alone : AccessesAlone
accesses_alone t [] f h = omega arith
accesses_alone t (i ∷ is) f h =
    let a = one_alone t i f h.0 in
    let b = accesses_alone t is (act t.code i f) h.1 in
    let c = counts_join (i ∷ []) is in
    omega (arith, a, b, c)

-- ---- no write is held

pub bare_at_once : (code : SuperstepCode) (i : Instr) (f : Flat) → IsBare f → IsBare (act_at_once code i f)
bare_at_once code (Put side c s v q) f b = record { put = b.put; held = b.held }
bare_at_once code Send f b = record { put = refl; held = λ c. refl }
bare_at_once code Reply f b = record { put = b.put; held = b.held }
bare_at_once code (Vote d) f b = record { put = b.put; held = b.held }
bare_at_once code (Ask Uniform d c s q) f b = record { put = b.put; held = b.held }
bare_at_once code (Ask Private d c s q) f b = record { put = b.put; held = b.held }
bare_at_once code i f b = record { put = b.put; held = b.held }

pub folds_stay_bare : FoldsStayBare
folds_stay_bare code [] f b = b
folds_stay_bare code (i ∷ is) f b = folds_stay_bare code is (act_at_once code i f) (bare_at_once code i f b)

-- ---- a send at which nothing is held

pub nothing_costs_nothing : NothingCostsNothing
nothing_costs_nothing f b n =
    ap (λ (h : Bool). if h then 1 else 0) (λ z. is_held (b.put z) || is_some (n z))
