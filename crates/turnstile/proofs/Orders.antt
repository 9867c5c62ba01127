-- What is sound stays sound in every interleaving.
use Rattle.std.proofs.Common.{◌≡◌, ℕ, zero, suc, ◌+◌, ◌*◌, ◌<◌, ◌≤◌, Bool, true, false, List, [], ◌∷◌, map, length, replicate, get_or, set}
use Rattle.std.proofs.Common.{Option, Some, None, nat_le, sym, refl, ap, ◌∙◌, subst, ⊎_elim, length-append, length-set, get_or-set_same}
use Rattle.std.proofs.Common.{get_or-set_other, eq-eqb, ne_eqb, leb-true, arith}
use mathlib.Core.Logic.{dite}
use mathlib.Core.Option.{none, some, some-ne-none}
use mathlib.Core.Option as maybe
use native.Mathlib.Decide.{ℕ_discrete}
use lib.ListN.{get_elem?, length-replicate, get_or-replicate}
use Rattle.exchange_arena.specs.Piece.{PieceState}
use Rattle.turnstile.specs.declared.views.Message.{Message}
use Rattle.turnstile.specs.declared.views.Worker.{Worker}
use Rattle.turnstile.specs.Blocks.{TwoBlocks}
use Rattle.std.proofs.lemmas.List.Elements.{All-nil, All-push}
use Rattle.turnstile.specs.Turns.{message, weight, slot, saw, phase, taken, Homes, Sound, looked, finished}
use Rattle.turnstile.specs.Loads.{loaded, homes_with}
use Rattle.turnstile.specs.Interleavings.{Event, finish, look, Core, changed, piece_in, start, seen_by, if_new, after, May, run}
use Rattle.turnstile.specs.Interleavings.{IsInterleaving, StepsKeepTheRule, ReceivesWhatWasSent, ReceivesFromEach, HasWholeColumns}
use Rattle.turnstile.proofs.Grids.{put, at_put, put_here, put_else, entry_end, entry_longer, entry_last, at_replicate}
use Rattle.turnstile.proofs.Keeps.{found, look_keeps}
use Rattle.turnstile.proofs.Gives.{gives_keeps}
use Rattle.turnstile.proofs.Moves.{fresh_saw}

pub same_put : (team : ℕ → Worker) (w : ℕ) (x : Worker) (j : ℕ) → put team w x j ≡ changed team w x j
same_put team w x j = dite (ℕ_discrete j w)
    (λ e. let b = eq-eqb j w e in ap (put team w x) e ∙ put_here team w x ∙ (rw b refl))
    (λ n. let b = ne_eqb j w n in put_else team w x j n ∙ (rw b refl))

same_team : (team : ℕ → Worker) (w : ℕ) (x : Worker) → put team w x ≡ changed team w x
same_team team w x = λ q j. same_put team w x j q

abbrev pub Stands : TwoBlocks → Core → Type 0
Stands b c = Sound b b.side c.words c.homes c.team × ((k : ℕ) → (c.team k).workers ≡ b.side) × ((k : ℕ) → (c.team k).left ≡ false)

pub seen_all : (p i : ℕ) → i < p → get_or (replicate p true) i false ≡ true
seen_all zero i lt = absurd (omega arith)
seen_all (suc p) zero lt = refl
seen_all (suc p) (suc i) lt = seen_all p i (omega arith)

starts : (b : TwoBlocks) → 0 < b.side → Stands b (start b)
starts b pos = let p : ℕ = b.side in (
  record {
    wide = length-replicate p 0;
    room = length-replicate (2 * p * p) none;
    counts = λ w lw. get_or-replicate p w 0 0 lw;
    rows = λ _ _. refl;
    looks = λ _ _. length-replicate p true;
    near = λ j i lj li. let z = ap weight (seen_all p i li) in let q : ℕ = weight (get_or (replicate p true) i false) in let z' : q ≡ 1 =
        z in let r : 0 + q ≤ 0 + 1 = omega arith in r;
    leaves = λ w i lw li gone. absurd (differ gone);
    parcels = λ i j s li lj lo hi. let z = ap weight (seen_all p i li) in let q : ℕ = weight (get_or (replicate p true) i false) in
        let z' : q ≡ 1 = z in let lo' : 0 + q ≤ s = lo in absurd (omega arith);
    told = λ j i s m lj li e. absurd (some-ne-none (Some m) (sym e));
    columns = λ w lw. All-nil (λ r. length r ≡ p);
    filled = λ j i s lj li h. let z = ap weight (seen_all p i li) in let q : ℕ = weight (get_or (replicate p true) i false) in
        let z' : q ≡ 1 = z in let h' : s + 1 < 0 + q = h in absurd (omega arith);
  },
  (λ k. refl),
  (λ k. refl),
)
  where
    differ : false ≡ true → ⊥
    differ e = cc

module _ (blocks : TwoBlocks) (c : Core) (h : Stands blocks c) where
  abbrev p : ℕ
  p = blocks.side

  fields_stay : {A : Type 0} (f : Worker → A) (w : ℕ) (x : Worker) (a : A) → ((k : ℕ) → f (c.team k) ≡ a) → f x ≡ a → (k : ℕ) →
      f (changed c.team w x k) ≡ a
  fields_stay f w x a all new k = ap f (sym (same_put c.team w x k)) ∙ at_put c.team w x (λ z y. f y ≡ a) k (λ _. new) (λ _. all k)

  finishes_stand : (w : ℕ) (row back : List PieceState) → May blocks c (finish w row back) →
      Stands blocks (after blocks c (finish w row back))
  finishes_stand w row back may =
      let x : Worker = c.team w in let ms : List Message = map message row in let y : Worker = finished x ms in let f : ℕ = phase x in
      let n : ℕ = get_or c.words w 0 in
      let count : n ≡ f = h.0.counts w may.0 in let longer : phase y ≡ f + 1 = length-append x.sent (ms ∷ []) in
      let rows : length x.received ≡ f = h.0.rows w may.0 in let lw : w < p = may.0 in
      let sound = gives_keeps blocks p c.words (set c.words w (n + 1)) c.homes c.team h.0 w lw y row back may.2 may.3 may.4 may.5 may.1
      (h.2 w)
      (length-set c.words w (n + 1) ∙ h.0.wide) (λ v lv other. get_or-set_other c.words w v (n + 1) 0 other)
      (get_or-set_same c.words w (n + 1) 0 (rw (h.0.wide) lw) ∙ ap (λ (z : ℕ). z + 1) count ∙ sym longer)
      (length-append x.received (replicate x.workers None ∷ []) ∙ ap (λ (z : ℕ). z + 1) rows ∙ sym longer) (length-replicate x.workers false
      ∙ h.1 w)
      (λ i li. let z : weight (saw y i) ≡ 0 = ap weight (fresh_saw x.workers i) in let q : ℕ = weight (saw y i) in let g : ℕ = phase y in
      let r : g + q ≡ f + 1 = omega arith in r)
      (let z : weight y.left ≡ 0 = ap weight (h.2 w) in let q : ℕ = weight y.left in let g : ℕ = phase y in let r : g + 1 + q ≡ f + 2 =
      omega arith in r)
      (let g : ℕ = phase y in let r : f ≤ g = omega arith in r) (λ i li gone. absurd (differ (sym (h.2 w) ∙ gone)))
      (λ t i m e. entry_longer x.sent ms t i m e) (λ t i m e. ⊎_elim (λ q. q) (λ q. absurd (bare x.workers i m q))
      (entry_end x.received (replicate x.workers None) t i (Some m) e))
      (All-push (λ r. length r ≡ p) x.received (replicate x.workers None) (h.0.columns w lw) (length-replicate x.workers None ∙ h.1 w))
      (λ t i m e. entry_longer x.received (replicate x.workers None) t i (Some m) e)
      (λ _ j m e. entry_last x.sent ms j m e) in (
        subst (Sound blocks p (set c.words w (n + 1)) (homes_with c.homes (loaded p w (f + 1) 0 row back))) (same_team c.team w y) sound,
        fields_stay (λ z. z.workers) w y p h.1 (h.1 w),
        fields_stay (λ z. z.left) w y false h.2 (h.2 w),
      )
    where
      differ : false ≡ true → ⊥
      differ e = cc

      unlike : (m : Message) → ◌≡◌ {A = Option Message} None (Some m) → ⊥
      unlike m e = cc

      bare : (n i : ℕ) (m : Message) → ◌≡◌ {A = maybe.Option (Option Message)} (get_elem? (replicate n None) i) (some (Some m)) → ⊥
      bare n i m q = unlike m (at_replicate {A = Option Message} n None (Some m) i q)

  seen_stands : (w i : ℕ) → w < p → i < p → nat_le (phase (c.team w)) (get_or c.words i 0) ≡ true → saw (c.team w) i ≡ false →
      Stands blocks (seen_by blocks c w i)
  seen_stands w i lw li ready new =
      let le : phase (c.team w) ≤ get_or c.words i 0 = leb-true (phase (c.team w)) (get_or c.words i 0) ready in
      let far : phase (c.team w) ≤ phase (c.team i) = subst (λ (z : ℕ). phase (c.team w) ≤ z) (h.0.counts i li) le in
      let got = found blocks p c.words c.homes c.team h.0 w i lw li new far in
      let same : piece_in (get_elem? c.homes (slot p (phase (c.team w)) i w)) ≡ message got.piece = ap piece_in got.piece_home in
      let y : Worker = looked (c.team w) i (piece_in (get_elem? c.homes (slot p (phase (c.team w)) i w))) in
      let homes' : Homes = set (set c.homes (slot p (phase (c.team w)) i w) none) (slot p (phase (c.team w) + 1) w i) none in (
        subst (Sound blocks p c.words homes') ((λ q. put c.team w (looked (c.team w) i (sym same q)))
            ∙ same_team c.team w y) (look_keeps blocks p c.words c.homes c.team h.0 w i lw li new far),
        fields_stay (λ z. z.workers) w y p h.1 (h.1 w),
        fields_stay (λ z. z.left) w y false h.2 (h.2 w),
      )

  looks_stand : (w i : ℕ) → May blocks c (look w i) → (a b : Bool) → nat_le (phase (c.team w)) (get_or c.words i 0) ≡ a →
      saw (c.team w) i ≡ b → Stands blocks (if_new blocks a b (seen_by blocks c w i) c)
  looks_stand w i may true false ea eb = seen_stands w i may.0 may.1 ea eb
  looks_stand w i may true true ea eb = h
  looks_stand w i may false b ea eb = h

  steps_stand : (e : Event) → May blocks c e → Stands blocks (after blocks c e)
  steps_stand (finish w row back) may = finishes_stand w row back may
  steps_stand (look w i) may = looks_stand w i may (nat_le (phase (c.team w)) (get_or c.words i 0)) (saw (c.team w) i) refl refl

pub stands : (b : TwoBlocks) (es : List Event) → 0 < b.side → IsInterleaving b es → Stands b (run b es)
stands b [] pos h = starts b pos
stands b (e ∷ es) pos h = steps_stand b (run b es) (stands b es pos h.0) e h.1

pub steps_keep_the_rule : StepsKeepTheRule
steps_keep_the_rule b es pos h = (stands b es pos h).0

pub receives_what_was_sent : ReceivesWhatWasSent
receives_what_was_sent b es pos h j i s m lj li e = (stands b es pos h).0.told j i s m lj li e

pub receives_from_each : ReceivesFromEach
receives_from_each b es pos h j i s lj li taken = (stands b es pos h).0.filled j i s lj li taken

pub has_whole_columns : HasWholeColumns
has_whole_columns b es pos h j lj = let ok = (stands b es pos h).0 in (ok.rows j lj, ok.columns j lj)
