-- How the seats are made and taken in, and what the table is at the end.
use Rattle.std.proofs.Common.{◌≡◌, ℕ, zero, suc, ◌+◌, ◌-◌, ◌*◌, ◌/◌, ◌%◌, ◌<◌, ◌≤◌, ◌≢◌, true, false, Option, Some, List, [], ◌∷◌, ◌++◌}
use Rattle.std.proofs.Common.{map, length, get_or, set, sym, refl, ap, ◌∙◌, subst, ⊎_elim, length-append, le_refl, mod-lt}
use Rattle.std.proofs.Common.{div-add-mod', arith}
use mathlib.Core.Logic.{dite}
use mathlib.Core.Option.{none, some, some-injective, some-ne-none}
use native.Mathlib.Decide.{ℕ_discrete, dec_le}
use lib.ListN.{get_elem?, length-map, length-replicate}
use Rattle.std.proofs.lemmas.List.Elements.{All-nil}
use Rattle.atomic_table.specs.Table.{State, Enters, step, Splits, Joins, opening, Final, Seen}
use Rattle.atomic_table.proofs.Lists.{at_set, set_else, at_map}
use Rattle.exchange_arena.specs.Piece.{PieceState}
use Rattle.turnstile.specs.declared.views.Message.{Message}
use Rattle.turnstile.specs.declared.views.Worker.{Worker}
use Rattle.turnstile.specs.declared.views.Kind.{Kind}
use Rattle.turnstile.specs.declared.views.Kind.TheVariants.{Spent, Keeper, Seated}
use Rattle.turnstile.specs.declared.views.View.{View}
use Rattle.turnstile.specs.Blocks.{TwoBlocks, BelongsIn, piece_of, Laid}
use Rattle.turnstile.specs.Turns.{entry, weight, slot, saw, phase, taken, Parcel, newcomer, keeper, spent_view, Has, FitsAs, Holds}
use Rattle.turnstile.specs.Turns.{next_keeper, next_worker, taken_in, collects}
use Rattle.turnstile.proofs.Slots.{rows_apart}
use Rattle.turnstile.proofs.Grids.{put, put_here, put_else, at_end, at_below}
use Rattle.turnstile.proofs.Moves.{fits_seated, fits_keeper, fresh_saw}

abbrev St : Type 0
St = State (Option PieceState) View

-- the views of other seats fit still where the worker k of the seat id is given to the seat m
others_seats : (blocks : TwoBlocks) (p : ℕ) (team : ℕ → Worker) (seats : ℕ → ℕ) (id k m j : ℕ) → seats k ≡ id → j ≢ id →
    (kind : Kind) (y : Worker) (ys : List Worker) → FitsAs blocks p team seats j kind y ys →
    FitsAs blocks p team (put seats k m) j kind y ys
others_seats blocks p team seats id k m j is other Spent y ys h = tt
others_seats blocks p team seats id k m j is other Seated y ys h = let away : y.at ≢ k = λ e. other (sym h.2.0 ∙ ap seats e ∙ is) in
    (h.0, h.1, (put_else seats k m y.at away ∙ h.2.0, h.2.1), h.3)
others_seats blocks p team seats id k m j is other Keeper y ys h = (
  h.0,
  h.1,
  h.2,
  (λ l a b. let q = h.3 l a b in (put_else seats k m l (λ e. other (sym q.0 ∙ ap seats e ∙ is)) ∙ q.0, q.1)),
  (λ l z e. let q = h.4 l z e in (put_else seats k m (y.at - length ys + l) (λ e. other (sym q.0 ∙ ap seats e ∙ is)) ∙ q.0, q.1)),
  h.5,
)

pub splits : (blocks : TwoBlocks) (p id : ℕ) (v : View) → v.kind ≡ Keeper → v.team ≡ [] → v.mine.at < p →
    Splits (Holds blocks p) id v (next_keeper v) (next_worker v)
splits blocks p id v is alone more s ok at =
    let h = fits_keeper blocks p s ok id v at is in let k : ℕ = v.mine.at in let left : View = next_keeper v in let right : View =
    next_worker v in let vs : List View = set s.views id left in let m : ℕ = length vs in
    let mine = h.3 k (le_refl k) more in let len : ℕ = length v.team in let len' : len ≤ k = h.2 in
    record {
      team = ok.team;
      seats = put ok.seats k m;
      some_worker = ok.some_worker;
      sound = ok.sound;
      fits = λ j u e. ⊎_elim
          (λ old. ⊎_elim
          (λ t. subst (λ (u' : View). FitsAs blocks p ok.team (put ok.seats k m) j u'.kind u'.mine u'.team) t.1 (
            h.0,
            (let r : k + 1 ≤ p = omega arith in r),
            (let r : len ≤ k + 1 = omega arith in r),
            (λ l a b. let q = h.3 l (let a' : k + 1 ≤ l = a in omega arith) b in
                (put_else ok.seats k m l (λ e. let a' : k + 1 ≤ l = a in omega arith) ∙ q.0 ∙ sym t.0, q.1)),
            (λ l y e. absurd (some_in l y e)),
            h.5,
          ))
          (λ t. others_seats blocks p ok.team ok.seats id k m j mine.0 t.0 u.kind u.mine u.team (ok.fits j u t.1))
          (at_set s.views id j left u old))
          (λ new. subst (λ (u' : View). FitsAs blocks p ok.team (put ok.seats k m) j u'.kind u'.mine u'.team) new.1
          (more, h.0, (put_here ok.seats k m ∙ sym new.0, mine.1 ∙ (λ q. newcomer (sym h.5 q) (sym h.0 q) k)), h.5))
          (at_end vs right u j e);
    }
  where
    some_in : (l : ℕ) (y : Worker) → get_elem? v.team l ≡ some y → ⊥
    some_in l y e = some-ne-none y (sym (subst (λ (ys : List Worker). get_elem? ys l ≡ some y) alone e))

pub joins : (blocks : TwoBlocks) (p id : ℕ) (v : View) (other : ℕ) (w : View) → v.kind ≡ Keeper → w.kind ≡ Seated →
    w.mine.at + suc (length v.team) ≡ v.mine.at → Joins (Holds blocks p) id v other w (taken_in v w) spent_view
joins blocks p id v other w is is' next s ok at two at' =
    let both : View = taken_in v w in let old : get_elem? s.views other ≡ some w = sym (set_else s.views id other both two) ∙ at' in
    let h = fits_keeper blocks p s ok id v at is in let g = fits_seated blocks p s ok other w old is' in let k : ℕ = w.mine.at in
    let len : ℕ = length v.team in let made : ℕ = v.mine.at in
    record {
      team = ok.team;
      seats = put ok.seats k id;
      some_worker = ok.some_worker;
      sound = ok.sound;
      fits = λ j u e. ⊎_elim
          (λ t. subst (λ (u' : View). FitsAs blocks p ok.team (put ok.seats k id) j u'.kind u'.mine u'.team) t.1 tt)
          (λ t. ⊎_elim
          (λ t'. subst (λ (u' : View). FitsAs blocks p ok.team (put ok.seats k id) j u'.kind u'.mine u'.team) t'.1 (
            h.0,
            h.1,
            (let n : k + suc len ≡ made = next in let r : suc len ≤ made = omega arith in r),
            (λ l a b. let q = h.3 l a b in (
              put_else ok.seats k id l (λ e. let a' : made ≤ l = a in let n : k + suc len ≡ made = next in omega arith) ∙ q.0
                  ∙ sym t'.0,
              q.1,
            )),
            (λ l y e. taken_at j t'.0 l y e),
            h.5,
          ))
          (λ t'. others_seats blocks p ok.team ok.seats other k id j g.2.0 t.0 u.kind u.mine u.team (ok.fits j u t'.1))
          (at_set s.views id j both u t.1))
          (at_set (set s.views id both) other j spent_view u e);
    }
  where
    taken_at : (j : ℕ) → j ≡ id → (l : ℕ) (y : Worker) → get_elem? (w.mine ∷ v.team) l ≡ some y →
        Has blocks p ok.team (put ok.seats w.mine.at id) j (v.mine.at - length (w.mine ∷ v.team) + l) y
    taken_at j here zero y e =
        let old : get_elem? s.views other ≡ some w = sym (set_else s.views id other (taken_in v w) two) ∙ at' in let g =
        fits_seated blocks p s ok other w old is' in
        let k : ℕ = w.mine.at in let len : ℕ = length v.team in let made : ℕ = v.mine.at in let n : k + suc len ≡ made = next in
        let z : made - suc len + 0 ≡ k = omega arith in
        (ap (put ok.seats k id) z ∙ put_here ok.seats k id ∙ sym here, ap ok.team z ∙ g.2.1 ∙ some-injective w.mine y e)
    taken_at j here (suc l) y e =
        let h = fits_keeper blocks p s ok id v at is in let q = h.4 l y e in let b = at_below v.team l y e in
        let k : ℕ = w.mine.at in let len : ℕ = length v.team in let made : ℕ = v.mine.at in let n : k + suc len ≡ made = next in
        let b' : l < len = b in let z : made - suc len + suc l ≡ made - len + l = omega arith in
        (ap (put ok.seats k id) z ∙ put_else ok.seats k id (made - len + l) (λ e. omega arith) ∙ q.0 ∙ sym here, ap ok.team z ∙ q.1)

far_rows : (p a j : ℕ) → j < p → a < 2 * p → a * p + j < 2 * p * p
far_rows p a j near lt = Rattle.turnstile.proofs.Slots.below p a (2 * p) j near lt

pub opens : (blocks : TwoBlocks) (p : ℕ) (ws : List ℕ) (xs : List (Option PieceState)) → 0 < p → length ws ≡ p →
    ((w : ℕ) → w < p → get_or ws w 0 ≡ 0) → Laid blocks (2 * p * p) xs → Holds blocks p (opening ws xs (keeper blocks p 0 []))
opens blocks p ws xs pos wide zeros laid = record {
  team = newcomer blocks p;
  seats = λ _. 0;
  some_worker = pos;
  sound = record {
    wide = wide;
    room = length-map xs some ∙ laid.0;
    counts = zeros;
    rows = λ _ _. refl;
    looks = λ _ _. length-replicate p false;
    near = λ j i lj li. let z = ap weight (fresh_saw p i) in let q : ℕ = weight (saw (newcomer blocks p j) i) in let z' : q ≡ 0 = z in
        let r : 0 + q ≤ 0 + 1 = omega arith in r;
    leaves = λ w i lw li gone. absurd (differ gone);
    parcels = λ i j s li lj lo hi. let t : s ≡ 0 = omega arith in
        subst (λ (z : ℕ). Parcel blocks p (map some xs) (newcomer blocks p i) i j z) (sym t)
        (let a = laid.1 (slot p 0 i j) (Rattle.turnstile.proofs.Slots.slot_below p 0 i j li lj) in let b =
        laid.1 (slot p (0 + 1) j i) (Rattle.turnstile.proofs.Slots.slot_below p (0 + 1) j i lj li) in
        record {
          piece = a.0;
          back = b.0;
          piece_home = at_map some xs (slot p 0 i j) (Some a.0) a.1;
          back_home =
              at_map some xs (slot p (0 + 1) j i) (Some b.0) b.1;
          piece_place = a.2;
          back_place = b.2;
          carries =
              λ one. absurd (omega arith);
        });
    told = λ j i s m lj li e. absurd (some-ne-none (Some m) (sym e));
    columns = λ w lw. All-nil (λ r. length r ≡ p);
    filled = λ j i s lj li h. let z = ap weight (fresh_saw p i) in let q : ℕ = weight (saw (newcomer blocks p j) i) in let z' : q ≡ 0 = z in
        let h' : s + 1 < 0 + q = h in absurd (omega arith);
  };
  fits = λ id v e. only id v e;
}
  where
    differ : false ≡ true → ⊥
    differ e = cc

    only : (id : ℕ) (v : View) → get_elem? (keeper blocks p 0 [] ∷ []) id ≡ some v → FitsAs blocks p (newcomer blocks p)
        (λ _. 0) id v.kind v.mine v.team
    only zero v e = subst (λ (u : View). FitsAs blocks p (newcomer blocks p) (λ _. 0) 0 u.kind u.mine u.team)
        (some-injective (keeper blocks p 0 []) v e) (
          refl,
          (let r : 0 ≤ p = omega arith in r),
          (let r : 0 ≤ 0 = omega arith in r),
          (λ k _ _. (refl, refl)),
          (λ k y h. absurd (some-ne-none y (sym h))),
          refl,
        )
    only (suc id) v e = absurd (some-ne-none v (sym e))

-- the slot k is that of some piece (i, j) of some block
cut : (p k : ℕ) → 0 < p → k < 2 * p * p → (b i j : ℕ) × (b < 2) × (i < p) × (j < p) × (k ≡ (b * p + i) * p + j)
cut p k pos lt =
    let r : ℕ = k / p in let j : ℕ = k % p in let lj : j < p = mod-lt k pos in let e : r * p + j ≡ k = div-add-mod' k p in
    let b : ℕ = r / p in let i : ℕ = r % p in let li : i < p = mod-lt r pos in let f : b * p + i ≡ r = div-add-mod' r p in
    (b, i, j, (low p b i j k li lj (ap (λ z. z * p + j) f ∙ e) lt), li, lj, sym e ∙ ap (λ (z : ℕ). z * p + j) (sym f))
  where
    low : (p b i j k : ℕ) → i < p → j < p → (b * p + i) * p + j ≡ k → k < 2 * p * p → b < 2
    low p b i j k li lj e lt = dite (dec_le 2 b)
        (λ big. let h = Rattle.turnstile.proofs.Slots.above p (2 * p) (b * p + i) j (Rattle.turnstile.proofs.Slots.above p 2 b i big) in
        let x : ℕ = (b * p + i) * p in let y : ℕ = 2 * p * p in let h' : y ≤ x + j = h in let e' : x + j ≡ k = e in let lt' : k < y =
        lt in absurd (omega arith))
        (λ n. omega arith)

-- What is known once the keeper has taken in all workers, and each has given back what it held
module _ (blocks : TwoBlocks) (p : ℕ) (ws : List ℕ) (ys : List (Option PieceState)) (id : ℕ) (v : View) (is : v.kind ≡ Keeper)
    (all : length v.team ≡ p) (made : v.mine.at ≡ p) (end : Final (Seen (Holds blocks p) id v) ws ys) where
  abbrev s : St
  s = end.0

  abbrev ok : Holds blocks p end.0
  ok = end.1.0

  team_at : (k : ℕ) (x : Worker) → get_elem? v.team k ≡ some x → (k < p) × (end.1.0.team k ≡ x)
  team_at k x e = let h = fits_keeper blocks p end.0 end.1.0 id v end.1.1 is in let b = at_below v.team k x e in (
    subst (λ (z : ℕ). k < z) all b,
    (let n : ℕ = v.mine.at in let l : ℕ = length v.team in let z : k ≡ n - l + k = omega arith in
        ap end.1.0.team z) ∙ (h.4 k x e).1,
  )

  -- what was received is what was sent
  pub received_is_sent : (i j t : ℕ) (x y : Worker) (m : Message) → get_elem? v.team i ≡ some x → get_elem? v.team j ≡ some y →
      entry y.received t i ≡ some (Some m) → entry x.sent t j ≡ some m
  received_is_sent i j t x y m ex ey got = let a = team_at i x ex in let b = team_at j y ey in
      subst (λ (z : Worker). entry z.sent t j ≡ some m) a.1
      (end.1.0.sound.told j i t m b.0 a.0 (subst (λ (z : Worker). entry z.received t i ≡ some (Some m)) (sym b.1) got))

  module _ (gone : (k : ℕ) (x : Worker) → get_elem? v.team k ≡ some x → x.left ≡ true) where
    there : {A : Type 0} (l : List A) (k : ℕ) → k < length l → (x : A) × (get_elem? l k ≡ some x)
    there [] k lt = absurd (omega arith)
    there (x ∷ xs) zero lt = (x, refl)
    there (x ∷ xs) (suc k) lt = there xs k (omega arith)

    left : (k : ℕ) → k < p → (end.1.0.team k).left ≡ true
    left k lk = let x = there v.team k (subst (λ (z : ℕ). k < z) (sym all) lk) in let t = team_at k x.0 x.1 in ap (λ z. z.left) t.1
        ∙ gone k x.0 x.1

    sees : (k i : ℕ) → k < p → i < p → taken (end.1.0.team k) i ≡ phase (end.1.0.team k) + 1
    sees k i lk li = ap (λ b. phase (end.1.0.team k) + weight b) (end.1.0.sound.leaves k i lk li (left k lk))

    phases_at : (i j : ℕ) → i < p → j < p → phase (end.1.0.team i) ≡ phase (end.1.0.team j)
    phases_at i j li lj =
        let a = end.1.0.sound.near j i lj li in let b = end.1.0.sound.near i j li lj in let c = sees j i lj li in let d = sees i j li lj in
        let f : ℕ = phase (end.1.0.team i) in let g : ℕ = phase (end.1.0.team j) in let t : ℕ = taken (end.1.0.team j) i in let u : ℕ =
        taken (end.1.0.team i) j in
        let a' : t ≤ f + 1 = a in let b' : u ≤ g + 1 = b in let c' : t ≡ g + 1 = c in let d' : u ≡ f + 1 = d in let r : f ≡ g =
        omega arith in r

    pub same_phases : (i j : ℕ) (x y : Worker) → get_elem? v.team i ≡ some x → get_elem? v.team j ≡ some y → phase x ≡ phase y
    same_phases i j x y ex ey = let a = team_at i x ex in let b = team_at j y ey in ap phase (sym a.1) ∙ phases_at i j a.0 b.0
        ∙ ap phase b.1

    last : (i j : ℕ) → i < p → j < p → Parcel blocks p end.0.homes (end.1.0.team i) i j (phase (end.1.0.team 0) + 1)
    last i j li lj =
        let e = phases_at i 0 li end.1.0.some_worker in let e' = phases_at j 0 lj end.1.0.some_worker in let f : ℕ =
        phase (end.1.0.team 0) in let g : ℕ = phase (end.1.0.team i) in let h : ℕ = phase (end.1.0.team j) in
        let t : ℕ = taken (end.1.0.team j) i in let t' : t ≡ h + 1 = sees j i lj li in let q : ℕ = weight (end.1.0.team i).left in
        let q' : q ≡ 1 = ap weight (left i li) in
        let e₁ : g ≡ f = e in let e₂ : h ≡ f = e' in
        end.1.0.sound.parcels i j (f + 1) li lj (let r : t ≤ f + 1 = omega arith in r) (let r : f + 1 < g + 1 + q = omega arith in r)

    pub all_laid : Laid blocks (2 * p * p) ys
    all_laid = (
      sym end.3 ∙ end.1.0.sound.room,
      λ k lk.
          let c = cut p k end.1.0.some_worker lk in let b : ℕ = c.0 in let i : ℕ = c.1 in let j : ℕ = c.2 in let li : i < p = c.4 in
          let lj : j < p = c.5 in let f : ℕ = phase (end.1.0.team 0) in let lb : b < 2 = c.3 in
          dite (ℕ_discrete ((f + 1) % 2) b)
          (λ (e : (f + 1) % 2 ≡ b). let q = last i j li lj in let n : slot p (f + 1) i j ≡ k = ap (λ (z : ℕ). (z * p + i) * p + j) e
          ∙ sym c.6 in (
            q.piece,
            subst (λ (z : ℕ). get_elem? ys z ≡ some (Some q.piece)) n (end.4 (slot p (f + 1) i j) (Some q.piece) q.piece_home),
            q.piece_place ∙ ap (piece_of blocks) n,
          ))
          (λ other. let q = last j i lj li in let e : (f + 1 + 1) % 2 ≡ b = omega arith in let n : slot p (f + 1 + 1) i j ≡ k =
          ap (λ (z : ℕ). (z * p + i) * p + j) e ∙ sym c.6 in (
            q.back,
            subst (λ (z : ℕ). get_elem? ys z ≡ some (Some q.back)) n (end.4 (slot p (f + 1 + 1) i j) (Some q.back) q.back_home),
            q.back_place ∙ ap (piece_of blocks) n,
          )),
    )

pub laid_one_more : (blocks : TwoBlocks) (n : ℕ) (xs : List (Option PieceState)) (x : PieceState) → Laid blocks n xs →
    BelongsIn blocks n x → Laid blocks (n + 1) (xs ++ Some x ∷ [])
laid_one_more blocks n xs x h e = (
  length-append xs (Some x ∷ []) ∙ ap (λ (z : ℕ). z + 1) h.0,
  λ k lk. dite (ℕ_discrete k n)
      (λ (same : k ≡ n). (
        x,
        ap (get_elem? (xs ++ Some x ∷ [])) same ∙ Rattle.atomic_table.proofs.Lists.at_last xs (Some x) n h.0,
        e
            ∙ ap (piece_of blocks) (sym same),
      ))
      (λ other. let y = h.1 k (omega arith) in (y.0, Rattle.atomic_table.proofs.Lists.at_longer xs (Some x ∷ []) k (Some y.0) y.1, y.2)),
)

pub enters : (blocks : TwoBlocks) (p slots i : ℕ) →
    Enters (Holds blocks p) slots i (λ n w. collects (step slots i 0 0 none) (keeper blocks p 0 [], []) n (w, []))
enters blocks p slots i s ok wide _ = (
  keeper blocks p p [],
  record {
    team = ok.team;
    seats = ok.seats;
    some_worker = ok.some_worker;
    sound = ok.sound;
    fits = λ j u e. ⊎_elim (λ old. ok.fits j u old)
        (λ new. subst (λ (v : View). FitsAs blocks p ok.team ok.seats j v.kind v.mine v.team) new.1 (
          refl,
          (let r : p ≤ p = omega arith in r),
          (let r : 0 ≤ p = omega arith in r),
          (λ k a b. absurd (omega arith)),
          (λ k y h. absurd (some-ne-none y (sym h))),
          refl,
        ))
        (at_end s.views (keeper blocks p p []) u j e);
  },
  refl,
)
