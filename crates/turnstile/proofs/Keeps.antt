-- A Look keeps what is sound, and so does whatever gives one parcel to each.
use Rattle.std.proofs.Common.{◌≡◌, ℕ, suc, ◌+◌, ◌-◌, ◌<◌, ◌≤◌, ◌≢◌, Bool, true, false, Option, Some, List, length, set, sym, refl, ap, ◌∙◌}
use Rattle.std.proofs.Common.{subst, ⊎_elim, length-set, get_or-set_same, get_or-set_other, arith}
use mathlib.Core.Logic.{dite}
use mathlib.Core.Option.{none, some}
use native.Mathlib.Decide.{ℕ_discrete, dec_le}
use Rattle.std.specs.Prelude.{All}
use lib.ListN.{get_elem?}
use Rattle.atomic_table.proofs.Lists.{set_else}
use Rattle.turnstile.specs.declared.views.Message.{Message}
use Rattle.turnstile.specs.declared.views.Worker.{Worker}
use Rattle.turnstile.specs.Blocks.{TwoBlocks}
use Rattle.turnstile.specs.Turns.{message, entry, weight, slot, saw, phase, taken, HasTaken, given, Homes, Parcel, Sound, looked}
use Rattle.turnstile.proofs.Slots.{Paced, Way, rows_differ, columns_differ, rows_and_columns_differ}
use Rattle.turnstile.proofs.Grids.{put, at_put, entry-with_entry, length-with_entry, wide-with_entry, entry_here, entry_keeps}

abbrev pub takes_of : (ℕ → Worker) → ℕ → ℕ → ℕ
takes_of team j i = taken (team j) i

abbrev pub gives_of : (ℕ → Worker) → ℕ → ℕ
gives_of team i = given (team i)

light : (b : Bool) → weight b ≤ 1
light true = omega arith
light false = omega arith

paced_by : (left saw_it : Bool) → (left ≡ true → saw_it ≡ true) → weight left ≤ weight saw_it
paced_by true true h = omega arith
paced_by true false h = absurd (true_is_not (h refl))
  where
    true_is_not : false ≡ true → ⊥
    true_is_not e = cc
paced_by false b h = omega arith

module _ (blocks : TwoBlocks) (p : ℕ) (words : List ℕ) (homes : Homes) (team : ℕ → Worker) (ok : Sound blocks p words homes team) where
  pub paces : Paced p (takes_of team) (gives_of team)
  paces i j li lj =
      let a = paced_by (team j).left (saw (team j) i) (ok.leaves j i lj li) in
      let b = paced_by (team i).left (saw (team i) j) (ok.leaves i j li lj) in
      let n = ok.near i j li lj in let lf : ℕ = weight (team j).left in let lf' : ℕ = weight (team i).left in let s : ℕ =
      weight (saw (team j) i) in let s' : ℕ = weight (saw (team i) j) in
      let f : ℕ = phase (team i) in let g : ℕ = phase (team j) in
      let a' : lf ≤ s = a in let b' : lf' ≤ s' = b in let n' : f + s' ≤ g + 1 = n in
      let one : g + 1 + lf ≤ g + s + 1 = omega arith in let two : f + 1 + lf' ≤ g + s + 2 = omega arith in (one, two)

  -- the parcel that a Look finds
  pub found : (w i : ℕ) → w < p → i < p → saw (team w) i ≡ false → phase (team w) ≤ phase (team i) →
      Parcel blocks p homes (team i) i w (phase (team w))
  found w i lw li new le = let f : ℕ = phase (team w) in let g : ℕ = phase (team i) in
      let z : weight (saw (team w) i) ≡ 0 = ap weight new in let s : ℕ = weight (saw (team w) i) in
      ok.parcels i w f li lw (let h : f + s ≤ f = omega arith in h) (let l : ℕ = weight (team i).left in let h : f < g + 1 + l =
      omega arith in h)

  module _ (w i : ℕ) (lw : w < p) (li : i < p) (new : saw (team w) i ≡ false) (le : phase (team w) ≤ phase (team i)) where
    abbrev got : Parcel blocks p homes (team i) i w (phase (team w))
    got = found w i lw li new le

    abbrev x' : Worker
    x' = looked (team w) i (message got.piece)

    abbrev k₁ : ℕ
    k₁ = slot p (phase (team w)) i w

    abbrev k₂ : ℕ
    k₂ = slot p (phase (team w) + 1) w i

    abbrev homes' : Homes
    homes' = set (set homes k₁ none) k₂ none

    on_way : Way p (takes_of team) (gives_of team) i w (phase (team w))
    on_way = let f : ℕ = phase (team w) in let g : ℕ = phase (team i) in let s : ℕ = weight (saw (team w) i) in let z : s ≡ 0 =
        ap weight new in let l : ℕ = weight (team i).left in
        (li, lw, (let h : f + s ≤ f = omega arith in h), (let h : f < g + 1 + l = omega arith in h))

    pub slots_two : k₁ ≢ k₂
    slots_two = rows_and_columns_differ p (takes_of team) (gives_of team) paces i w (phase (team w)) i w (phase (team w)) on_way on_way

    saw_now : saw x' i ≡ true
    saw_now = get_or-set_same (team w).seen i true false (rw (ok.looks w lw) li)

    takes_now : taken x' i ≡ suc (taken (team w) i)
    takes_now = let a = ap weight saw_now in let b = ap weight new in let f : ℕ = phase (team w) in let s : ℕ = weight (saw x' i) in
        let t : ℕ = weight (saw (team w) i) in
        let a' : s ≡ 1 = a in let b' : t ≡ 0 = b in let g : f + s ≡ suc (f + t) = omega arith in g

    takes_else : (j : ℕ) → j ≢ i → taken x' j ≡ taken (team w) j
    takes_else j n = ap (λ b. phase (team w) + weight b) (get_or-set_other (team w).seen i j true false n)

    -- what is on its way after is another parcel, on its way before
    before : (k l s : ℕ) → k < p → l < p → taken (put team w x' l) k ≤ s → s < given (put team w x' k) → Way p (takes_of team)
        (gives_of team) k l s × ((k ≡ i) → (l ≡ w) → s ≢ phase (team w))
    before k l s lk ll h₀ h₁ =
        let h₁' : s < given (team k) =
        at_put team w x' (λ m y. s < given y → s < given (team m)) k (λ (e : k ≡ w). rw e (λ h. h)) (λ _ h. h) h₁ in
        at_put team w x' (λ m y. taken y k ≤ s → Way p (takes_of team) (gives_of team) k m s × ((k ≡ i) → (m ≡ w) → s ≢ phase (team w))) l
        (λ (e : l ≡ w) h. dite (ℕ_discrete k i)
        (λ (same : k ≡ i). let t = takes_now in let n : ℕ = taken (team w) i in let m : ℕ = taken x' i in let t' : m ≡ suc n = t in
        let h' : m ≤ s = subst (λ (z : ℕ). taken x' z ≤ s) same h in
        let f : ℕ = phase (team w) in let q : ℕ = weight (saw (team w) i) in let n' : n ≡ f + q = refl in (
          (
            lk,
            ll,
            subst (λ (z : ℕ). taken (team z) k ≤ s) (sym e) (subst (λ (z : ℕ). taken (team w) z ≤ s) (sym same) (let g : n ≤ s =
                omega arith in g)),
            h₁',
          ),
          λ _ _ z. let z' : s ≡ f = z in omega arith,
        ))
        (λ other. (
          (lk, ll, subst (λ (z : ℕ). taken (team z) k ≤ s) (sym e) (subst (λ (z : ℕ). z ≤ s) (takes_else k other) h), h₁'),
          λ y _ _. other y,
        )))
        (λ other h. ((lk, ll, h, h₁'), λ _ y _. other y)) h₀

    keeps_slot : (k : ℕ) → k ≢ k₁ → k ≢ k₂ → get_elem? homes' k ≡ get_elem? homes k
    keeps_slot k a b = set_else (set homes k₁ none) k₂ k none b ∙ set_else homes k₁ k none a

    pub look_keeps : Sound blocks p words homes' (put team w x')
    look_keeps = record {
      wide = ok.wide;
      room = length-set (set homes k₁ none) k₂ none ∙ length-set homes k₁ none ∙ ok.room;
      counts = λ v lv. ok.counts v lv ∙ at_put team w x' (λ z y. phase (team z) ≡ phase y) v (λ e. ap (λ z. phase (team z)) e) (λ _. refl);
      rows = λ v lv. at_put team w x' (λ z y. length y.received ≡ phase y) v (λ _. length-with_entry (team w).received (phase (team w) - 1)
          i (Some (message got.piece)) ∙ ok.rows w lw) (λ _. ok.rows v lv);
      looks = λ v lv. at_put team w x' (λ z y. length y.seen ≡ p) v (λ _. length-set (team w).seen i true
          ∙ ok.looks w lw) (λ _. ok.looks v lv);
      near = λ l k ll lk. at_put team w x' (λ z y. taken (put team w x' l) k ≤ phase y + 1) k
          (λ (e : k ≡ w). near_at l k ll lk (phase (team w)) (ap (λ z. phase (team z)) e))
          (λ _. near_at l k ll lk (phase (team k)) refl);
      leaves = λ v k lv lk. at_put team w x' (λ z y. y.left ≡ true →
          saw y k ≡ true) v (λ _ gone. dite (ℕ_discrete k i) (λ (e : k ≡ i). rw e saw_now)
          (λ n. get_or-set_other (team w).seen i k true false n ∙ ok.leaves w k lw lk gone)) (λ _. ok.leaves v k lv lk);
      parcels = λ k l s lk ll h₀ h₁. let b = before k l s lk ll h₀ h₁ in let old = ok.parcels k l s lk ll b.0.2 b.0.3 in
          let P = paces in let T = takes_of team in let G = gives_of team in let f : ℕ = phase (team w) in
          record {
            piece = old.piece;
            back = old.back;
            piece_home = keeps_slot (slot p s k l) (λ e. let same = rows_differ p T G P k l s i w f b.0 on_way e in
                b.1 same.0 same.1 same.2) (rows_and_columns_differ p T G P k l s i w f b.0 on_way) ∙ old.piece_home;
            back_home = keeps_slot (slot p (s + 1) l k) (λ e. rows_and_columns_differ p T G P i w f k l s on_way b.0 (sym e))
                (λ e. let same = columns_differ p T G P k l s i w f b.0 on_way e in b.1 same.0 same.1 same.2) ∙ old.back_home;
            piece_place = old.piece_place;
            back_place = old.back_place;
            carries = at_put team w x' (λ z y. 1 ≤ s → s ≤ phase y →
                entry y.sent (s - 1) l ≡ some (message old.piece)) k (λ (e : k ≡ w). subst (λ (z : ℕ). 1 ≤ s → s ≤ phase (team z) →
                entry (team z).sent (s - 1) l ≡ some (message old.piece)) e old.carries) (λ _. old.carries);
          };
      told = λ l k s m ll lk. at_put team w x' (λ z y. entry (put team w x' l).received s k ≡ some (Some m) → entry y.sent s l ≡ some m) k
          (λ (e : k ≡ w) h. subst (λ (z : ℕ). entry (team z).sent s l ≡ some m) e (told_at l k s m ll lk h))
          (λ _. told_at l k s m ll lk);
      columns = λ v lv. at_put team w x' (λ z y. All (λ r. length r ≡ p) y.received) v
          (λ _. wide-with_entry p (team w).received (phase (team w) - 1) i (Some (message got.piece)) (ok.columns w lw))
          (λ _. ok.columns v lv);
      filled = λ l k s ll lk. at_put team w x' (λ z y. HasTaken y k s →
          (m : Message) × (entry y.received s k ≡ some (Some m))) l (λ _ h. filled_at k s lk h) (λ _ h. ok.filled l k s ll lk h);
    }
      where
        -- what w had taken before is still there
        old_filled : (k s : ℕ) → k < p → HasTaken (team w) k s → (m : Message) × (entry x'.received s k ≡ some (Some m))
        old_filled k s lk h = let old = ok.filled w k s lw lk h in
            let kept = entry_keeps (λ (o : Option Message). (m : Message) × (o ≡ Some m)) (team w).received (phase (team w) - 1) i
            (Some (message got.piece)) s k (Some old.0) old.1 (message got.piece, refl) (old.0, refl) in
            (kept.2.0, kept.1 ∙ ap some kept.2.1)

        filled_at : (k s : ℕ) → k < p → HasTaken x' k s → (m : Message) × (entry x'.received s k ≡ some (Some m))
        filled_at k s lk h = dite (ℕ_discrete k i)
            (λ (same : k ≡ i). dite (dec_le (suc (s + 1)) (taken (team w) i))
            (λ before. old_filled k s lk (subst (λ (z : ℕ). HasTaken (team w) z s) (sym same) (let n : ℕ = taken (team w) i in
            let r : s + 1 < n = omega arith in r)))
            (λ now. let t = takes_now in let n : ℕ = taken (team w) i in let m : ℕ = taken x' i in let t' : m ≡ suc n = t in
            let h' : s + 1 < m = subst (λ (z : ℕ). s + 1 < taken x' z) same h in
            let f : ℕ = phase (team w) in let q : ℕ = weight (saw (team w) i) in let n' : n ≡ f + q = refl in let z : q ≡ 0 =
            ap weight new in let last : f - 1 ≡ s = omega arith in
            let long : length (team w).received ≡ f = ok.rows w lw in (
              message got.piece,
              subst (λ (z : ℕ × ℕ). entry x'.received z.0 z.1 ≡ some (Some (message got.piece))) (λ e. (last e, sym same e))
                  (entry_here p (team w).received (f - 1) i (Some (message got.piece)) (ok.columns w lw)
                  (subst (λ (z : ℕ). f - 1 < z) (sym long) (let r : f - 1 < f = omega arith in r)) li),
            )))
            (λ other. old_filled k s lk (subst (λ (z : ℕ). s + 1 < z) (takes_else k other) h))

        near_at : (l k : ℕ) → l < p → k < p → (n : ℕ) → phase (team k) ≡ n → taken (put team w x' l) k ≤ n + 1
        near_at l k ll lk n is = at_put team w x' (λ z y. taken y k ≤ n + 1) l
            (λ _. dite (ℕ_discrete k i)
            (λ (e : k ≡ i). let t = takes_now in let z = ap weight new in let f : ℕ = phase (team w) in let g : ℕ = phase (team i) in
            let s : ℕ = weight (saw (team w) i) in let m : ℕ = taken x' i in
            let t' : m ≡ suc (f + s) = t in let z' : s ≡ 0 = z in let is' : g ≡ n = ap (λ z. phase (team z)) (sym e) ∙ is in
            subst (λ (z : ℕ). taken x' z ≤ n + 1) (sym e) (let h : m ≤ n + 1 = omega arith in h))
            (λ other. let a = ok.near w k lw lk in
            subst (λ (z : ℕ). z ≤ n + 1) (sym (takes_else k other)) (subst (λ (z : ℕ). taken (team w) k ≤ z + 1) is a)))
            (λ _. subst (λ (z : ℕ). taken (team l) k ≤ z + 1) is (ok.near l k ll lk))

        told_at : (l k s : ℕ) (m : Message) → l < p → k < p → entry (put team w x' l).received s k ≡ some (Some m) →
            entry (team k).sent s l ≡ some m
        told_at l k s m ll lk = at_put team w x' (λ z y. entry y.received s k ≡ some (Some m) → entry (team k).sent s z ≡ some m) l
            (λ (e : l ≡ w) h. ⊎_elim
            (λ t. let f : ℕ = phase (team w) in let r = ok.rows w lw in let some_row : 1 ≤ f = (let lt = t.3 in omega arith) in
            let sent = got.carries some_row le in let same : message got.piece ≡ m = (λ q. unsome (t.2 q)) in
            subst (λ (z : ℕ). entry (team k).sent s z ≡ some m) (sym e) (rw (t.0, t.1) (sent ∙ ap some same)))
            (λ old. subst (λ (z : ℕ). entry (team k).sent s z ≡ some m) (sym e) (ok.told w k s m lw lk old))
            (entry-with_entry (team w).received (phase (team w) - 1) i (Some (message got.piece)) s k (Some m) h))
            (λ _ h. ok.told l k s m ll lk h)
          where
            unsome : Option Message → Message
            unsome (Some y) = y
            unsome _ = message got.piece
