-- Each step of a seat at the table keeps the rule.
use Rattle.std.proofs.Common.{◌≡◌, ℕ, zero, suc, ◌+◌, ◌-◌, ◌%◌, ◌^◌, ◌<◌, ◌≤◌, ◌≢◌, true, false, Option, Some, None, List, [], ◌∷◌, map}
use Rattle.std.proofs.Common.{length, get_or, set, replicate, sym, refl, ap, ◌∙◌, subst, ⊎_elim, length-append, length-set, get_or-set_same}
use Rattle.std.proofs.Common.{get_or-set_other, mod-eq_of_lt, arith}
use mathlib.Core.Logic.{dite}
use mathlib.Core.Option.{none, some, some-injective, some-ne-none}
use mathlib.Core.Option as maybe
use native.Mathlib.Decide.{dec_le}
use lib.ListN.{get_elem?, length-replicate}
use lib.Seq.{set-get_or}
use Rattle.std.specs.Prelude.{All}
use Rattle.std.proofs.lemmas.List.Elements.{All-push}
use Rattle.atomic_table.specs.Table.{State, Me, step, keeps, takes, chain, homes_after, Allows}
use Rattle.atomic_table.proofs.Lists.{at_set, set_else, set_again}
use Rattle.exchange_arena.specs.Piece.{PieceState}
use Rattle.turnstile.specs.declared.views.Message.{Message}
use Rattle.turnstile.specs.declared.views.Worker.{Worker}
use Rattle.turnstile.specs.declared.views.Kind.{Kind}
use Rattle.turnstile.specs.declared.views.Kind.TheVariants.{Spent, Keeper, Seated}
use Rattle.turnstile.specs.declared.views.View.{View}
use Rattle.turnstile.specs.Blocks.{TwoBlocks, piece_of}
use Rattle.turnstile.specs.Turns.{message, entry, weight, slot, saw, phase, taken, given, Homes, Carried, letters, Sound, seated, FitsAs}
use Rattle.turnstile.specs.Turns.{Holds, looked, finished, departed, looks_at, finishes, departs}
use Rattle.turnstile.specs.Loads.{loaded, gives_all, homes_with, RowPlaced, ColumnPlaced, Ready}
use Rattle.turnstile.proofs.Grids.{put, put_here, put_else, at_replicate, entry_end, entry_longer, entry_last}
use Rattle.turnstile.proofs.Keeps.{found, look_keeps, slots_two}
use Rattle.turnstile.proofs.Gives.{gives_keeps, all_valid, all_home, none_left, letters_of}

abbrev M : Type 0
M = Me (Option PieceState) View

abbrev St : Type 0
St = State (Option PieceState) View

-- the others' views are not touched where the worker k of the seat id moves
others_fit : (blocks : TwoBlocks) (p : ℕ) (team : ℕ → Worker) (seats : ℕ → ℕ) (id k j : ℕ) (x' : Worker) → seats k ≡ id → j ≢ id →
    (kind : Kind) (y : Worker) (ys : List Worker) → FitsAs blocks p team seats j kind y ys →
    FitsAs blocks p (put team k x') seats j kind y ys
others_fit blocks p team seats id k j x' is other Spent y ys h = tt
others_fit blocks p team seats id k j x' is other Seated y ys h = let away : y.at ≢ k = λ e. other (sym h.2.0 ∙ ap seats e ∙ is) in
    (h.0, h.1, (h.2.0, put_else team k x' y.at away ∙ h.2.1), h.3)
others_fit blocks p team seats id k j x' is other Keeper y ys h = (
  h.0,
  h.1,
  h.2,
  (λ l a b. let q = h.3 l a b in (q.0, put_else team k x' l (λ e. other (sym q.0 ∙ ap seats e ∙ is)) ∙ q.1)),
  (λ l z e. let q = h.4 l z e in (q.0, put_else team k x' (y.at - length ys + l) (λ e. other (sym q.0 ∙ ap seats e ∙ is)) ∙ q.1)),
  h.5,
)

module _ (blocks : TwoBlocks) (p : ℕ) (s : St) (ok : Holds blocks p s) (id : ℕ) (v : View) (at : get_elem? s.views id ≡ some v) where
  pub fits_seated : v.kind ≡ Seated → FitsAs blocks p ok.team ok.seats id Seated v.mine v.team
  fits_seated e = subst (λ (k : Kind). FitsAs blocks p ok.team ok.seats id k v.mine v.team) e (ok.fits id v at)

  pub fits_keeper : v.kind ≡ Keeper → FitsAs blocks p ok.team ok.seats id Keeper v.mine v.team
  fits_keeper e = subst (λ (k : Kind). FitsAs blocks p ok.team ok.seats id k v.mine v.team) e (ok.fits id v at)

  -- the worker of a seat moves
  moves : (is : v.kind ≡ Seated) (words' : List ℕ) (homes' : Homes) (x' x'' : Worker) → x'.at ≡ v.mine.at → x'.workers ≡ v.mine.workers →
      x'.blocks ≡ v.mine.blocks → x'' ≡ x' → Sound blocks p words' homes' (put ok.team v.mine.at x'')
      → Holds blocks p record { words = words'; homes = homes'; views = set s.views id (seated x') }
  moves is words' homes' x' x'' same_at same_of same_blocks e sound' = let mine = fits_seated is in record {
    team = put ok.team v.mine.at x'';
    seats = ok.seats;
    some_worker = ok.some_worker;
    sound = sound';
    fits = λ j u h. ⊎_elim
        (λ t. subst (λ (u' : View). FitsAs blocks p (put ok.team v.mine.at x'') ok.seats j u'.kind u'.mine u'.team) t.1
        (let a : x'.at < p = subst (λ (z : ℕ). z < p) (sym same_at) mine.0 in (
          a,
          same_of ∙ mine.1,
          (
            ap ok.seats same_at ∙ mine.2.0 ∙ sym t.0,
            ap (put ok.team v.mine.at x'') same_at
                ∙ put_here ok.team v.mine.at x'' ∙ e,
          ),
          same_blocks ∙ mine.3,
        )))
        (λ t. others_fit blocks p ok.team ok.seats id v.mine.at j x'' mine.2.0 t.0 u.kind u.mine u.team (ok.fits j u t.1))
        (at_set s.views id j (seated x') u h);
  }

pub looks : (blocks : TwoBlocks) (p slots id : ℕ) (me : M) (i : ℕ) → me.0.kind ≡ Seated → i < p → saw me.0.mine i ≡ false →
    Allows (Holds blocks p) slots id me i (λ n. n) (looks_at (step slots i 0 0 none) me)
looks blocks p slots id me i is li new s ok wide at _ =
    let v : View = me.0 in let x : Worker = v.mine in let mine = fits_seated blocks p s ok id v at is in let k : ℕ = x.at in let n : ℕ =
    get_or s.words i 0 in
    let n_is : n ≡ phase (ok.team i) = ok.sound.counts i li in let same : ok.team k ≡ x = mine.2.1 in
    let same_words : set s.words i n ≡ s.words = set-get_or s.words i 0 in
    let f_is : phase (ok.team k) ≡ phase x = ap phase same in
    dite (dec_le (phase x) n)
    (λ ready. let new' : saw (ok.team k) i ≡ false = ap (λ y. saw y i) same ∙ new in
    let far : phase (ok.team k) ≤ phase (ok.team i) = (let a : ℕ = phase (ok.team k) in let b : ℕ = phase x in let c : ℕ =
    phase (ok.team i) in let e : a ≡ b = f_is in let r : a ≤ c = omega arith in r) in
    let got = found blocks p s.words s.homes ok.team ok.sound k i mine.0 li new' far in
    let k₁ : ℕ = slot p (phase (ok.team k)) i k in let k₂ : ℕ = slot p (phase (ok.team k) + 1) k i in
    let e₁ : slot x.workers (phase x) i k ≡ k₁ = (λ q. slot (mine.1 q) (sym f_is q) i k) in let e₂ : slot x.workers (phase x + 1) k i ≡ k₂ =
    (λ q. slot (mine.1 q) (sym f_is q + 1) k i) in
    let m : Message = message got.piece in (
      seated (looked x i m),
      chain (takes k₁ (Some got.piece)) (takes k₂ (Some got.back)),
      (
        got.piece_home,
        set_else s.homes k₁ k₂ none (λ e. slots_two blocks p s.words s.homes ok.team ok.sound k i mine.0 li new' far (sym e))
            ∙ got.back_home,
      ),
      moves blocks p s ok id v at is (set s.words i n) (set (set s.homes k₁ none) k₂ none) (looked x i m) (looked (ok.team k) i m) refl refl
          refl (ap (λ y. looked y i m) same)
          (subst (λ (ws : List ℕ). Sound blocks p ws (set (set s.homes k₁ none) k₂ none) (put ok.team k (looked (ok.team k) i m)))
          (sym same_words) (look_keeps blocks p s.words s.homes ok.team ok.sound k i mine.0 li new' far)),
      (
        (λ early. let a : ℕ = phase x in let a' : a ≤ n = ready in let b : n < a = early in absurd (omega arith)),
        (λ _. (
          got.piece,
          got.back,
          (λ q. (seated (looked x i m), (sym e₂ q, Some got.back) ∷ (sym e₁ q, Some got.piece) ∷ me.1)),
          got.piece_place ∙ (λ q. piece_of (sym mine.3 q) (sym e₁ q)),
          got.back_place ∙ (λ q. piece_of (sym mine.3 q) (sym e₂ q)),
        )),
      ),
    ))
    (λ early. (
      v,
      keeps,
      tt,
      subst (λ (t : List ℕ × List View). Holds blocks p record { words = t.0; homes = s.homes; views = t.1 })
          (λ q. (sym same_words q, sym (set_again s.views id v at) q)) ok,
      ((λ _. refl), (λ ready. absurd (early ready))),
    ))

pub fresh_saw : (p i : ℕ) → get_or (replicate p false) i false ≡ false
fresh_saw zero i = refl
fresh_saw (suc p) zero = refl
fresh_saw (suc p) (suc i) = fresh_saw p i

module _ (blocks : TwoBlocks) (p slots id : ℕ) (me : M) (xs ys : List PieceState) (rdy : Ready p me xs ys) (s : St) (ok : Holds blocks p s)
    (at : get_elem? s.views id ≡ some me.0) where
  abbrev x : Worker
  x = me.0.mine

  abbrev k : ℕ
  k = me.0.mine.at

  mine : FitsAs blocks p ok.team ok.seats id Seated me.0.mine me.0.team
  mine = fits_seated blocks p s ok id me.0 at rdy.is_seated

  same : ok.team me.0.mine.at ≡ me.0.mine
  same = mine.2.1

  -- the worker becomes x', which has given
  gave : (words' : List ℕ) (x' : Worker) → x'.at ≡ x.at → x'.workers ≡ x.workers → x'.blocks ≡ x.blocks → length words' ≡ p →
      ((v : ℕ) → v < p → v ≢ k → get_or words' v 0 ≡ get_or s.words v 0) → get_or words' k 0 ≡ phase x'
      → length x'.received ≡ phase x' → length x'.seen ≡ p → ((i : ℕ) → i < p → taken x' i ≡ phase x + 1) → given x' ≡ phase x + 2 →
      phase x ≤ phase x'
      → ((i : ℕ) → i < p → x'.left ≡ true → saw x' i ≡ true) →
      ((t i : ℕ) (m : Message) → entry x.sent t i ≡ some m → entry x'.sent t i ≡ some m)
      → ((t i : ℕ) (m : Message) → entry x'.received t i ≡ some (Some m) → entry x.received t i ≡ some (Some m))
      → All (λ r. length r ≡ p) x'.received → ((t i : ℕ) (m : Message) → entry x.received t i ≡ some (Some m) →
      entry x'.received t i ≡ some (Some m))
      → (phase x + 1 ≤ phase x' → (j : ℕ) (m : Message) → get_elem? (map message xs) j ≡ some m → entry x'.sent (phase x) j ≡ some m)
      → Holds blocks p record { words = words'; homes = homes_with s.homes me.1; views = set s.views id (seated x') }
  gave words' x' a b same_blocks wide others mine' rows looks' takes' gives' grows leaves' sent' received' columns' filled' new_row =
      moves blocks p s ok id me.0 at rdy.is_seated words' (homes_with s.homes me.1) x' x' a b same_blocks refl
      (subst (λ (c : Carried). Sound blocks p words' (homes_with s.homes c) (put ok.team k x')) (sym rdy.carries)
      (subst (λ (y : Worker). Sound blocks p words' (homes_with s.homes (loaded p k (phase y + 1) 0 xs ys)) (put ok.team k x')) same
      (give (ok.team k) (sym same))))
    where
      give : (y : Worker) → me.0.mine ≡ ok.team me.0.mine.at →
          Sound blocks p words' (homes_with s.homes (loaded p me.0.mine.at (phase (ok.team me.0.mine.at) + 1) 0 xs ys))
          (put ok.team me.0.mine.at x')
      give y e = gives_keeps blocks p s.words words' s.homes ok.team ok.sound k mine.0 x' xs ys rdy.row rdy.column
          (subst (λ (z : TwoBlocks × Worker). RowPlaced z.0 p k (phase z.1 + 1) 0 xs) (λ q. (mine.3 q, e q)) rdy.row_placed)
          (subst (λ (z : TwoBlocks × Worker). ColumnPlaced z.0 p k (phase z.1 + 1 + 1) 0 ys) (λ q. (mine.3 q, e q)) rdy.column_placed)
          (subst (λ (z : Worker). (i : ℕ) → i < p → saw z i ≡ true) e rdy.saw_all) (subst (λ (z : Worker). z.left ≡ false) e rdy.stays)
          wide others mine' rows looks' (subst (λ (z : Worker). (i : ℕ) → i < p → taken x' i ≡ phase z + 1) e takes')
          (subst (λ (z : Worker). given x' ≡ phase z + 2) e gives') (subst (λ (z : Worker). phase z ≤ phase x') e grows)
          leaves' (subst (λ (z : Worker). (t i : ℕ) (m : Message) → entry z.sent t i ≡ some m → entry x'.sent t i ≡ some m) e sent')
          (subst (λ (z : Worker). (t i : ℕ) (m : Message) → entry x'.received t i ≡ some (Some m) →
          entry z.received t i ≡ some (Some m)) e received')
          columns' (subst (λ (z : Worker). (t i : ℕ) (m : Message) → entry z.received t i ≡ some (Some m) →
          entry x'.received t i ≡ some (Some m)) e filled')
          (subst (λ (z : Worker). phase z + 1 ≤ phase x' → (j : ℕ) (m : Message) → get_elem? (map message xs) j ≡ some m →
          entry x'.sent (phase z) j ≡ some m) e new_row)

  row_is : letters me.1 ≡ map message xs
  row_is = ap letters rdy.carries ∙ letters_of p k (phase x + 1) 0 xs ys (rdy.row ∙ sym rdy.column)

  count_is : get_or s.words k 0 ≡ phase x
  count_is = ok.sound.counts k mine.0 ∙ ap phase same

  finish_keeps : phase x < 2 ^ 63 → Holds blocks p record {
    words = set s.words k ((get_or s.words k 0 + 1) % 2 ^ 64);
    homes =
        homes_with s.homes me.1;
    views = set s.views id (seated (finished x (letters me.1)));
  }
  finish_keeps few =
      let n : ℕ = get_or s.words k 0 in let f : ℕ = phase x in let c : n ≡ f = count_is in let up : (n + 1) % 2 ^ 64 ≡ f + 1 =
      (let z : n + 1 < 2 ^ 64 = omega arith in mod-eq_of_lt z ∙ ap (λ (q : ℕ). q + 1) c) in
      let wide = ok.sound.wide in let lk : k < p = mine.0 in let y : Worker = finished x (letters me.1) in
      let longer : phase y ≡ f + 1 = length-append x.sent (letters me.1 ∷ []) in
      let of : x.workers ≡ p = mine.1 in
      let rows : length x.received ≡ f = subst (λ (z : Worker). length z.received ≡ phase z) same (ok.sound.rows k lk) in
      gave (set s.words k ((n + 1) % 2 ^ 64)) y refl refl refl (length-set s.words k ((n + 1) % 2 ^ 64)
      ∙ wide) (λ v lv other. get_or-set_other s.words k v ((n + 1) % 2 ^ 64) 0 other)
      (get_or-set_same s.words k ((n + 1) % 2 ^ 64) 0 (rw wide lk) ∙ up ∙ sym longer)
      (length-append x.received (replicate x.workers None ∷ []) ∙ ap (λ (q : ℕ). q + 1) rows ∙ sym longer)
      (length-replicate x.workers false ∙ of)
      (λ i li. let z : weight (saw y i) ≡ 0 = ap weight (fresh_saw x.workers i) in let q : ℕ = weight (saw y i) in let g : ℕ = phase y in
      let r : g + q ≡ f + 1 = omega arith in r)
      (let z : weight y.left ≡ 0 = ap weight rdy.stays in let q : ℕ = weight y.left in let g : ℕ = phase y in let r : g + 1 + q ≡ f + 2 =
      omega arith in r)
      (let g : ℕ = phase y in let r : f ≤ g = omega arith in r)
      (λ i li gone. absurd (differ (sym rdy.stays ∙ gone)))
      (λ t i m e. entry_longer x.sent (letters me.1) t i m e)
      (λ t i m e. ⊎_elim (λ h. h) (λ h. absurd (bare x.workers i m h)) (entry_end x.received (replicate x.workers None) t i (Some m) e))
      (All-push (λ r. length r ≡ p) x.received (replicate x.workers None) (subst (λ (z : Worker). All (λ r. length r ≡ p) z.received) same
      (ok.sound.columns k lk)) (length-replicate x.workers None ∙ of))
      (λ t i m e. entry_longer x.received (replicate x.workers None) t i (Some m) e)
      (λ _ j m e. entry_last x.sent (letters me.1) j m (subst (λ (l : List Message). get_elem? l j ≡ some m) (sym row_is) e))
    where
      differ : false ≡ true → ⊥
      differ e = cc

      unlike : (m : Message) → ◌≡◌ {A = Option Message} None (Some m) → ⊥
      unlike m e = cc

      bare : (n i : ℕ) (m : Message) → ◌≡◌ {A = maybe.Option (Option Message)} (get_elem? (replicate n None) i) (some (Some m)) → ⊥
      bare n i m h = unlike m (at_replicate {A = Option Message} n None (Some m) i h)

  depart_keeps : (w : ℕ) → Holds blocks p record {
    words = set s.words w (get_or s.words w 0);
    homes = homes_with s.homes me.1;
    views =
        set s.views id (seated (departed x));
  }
  depart_keeps w =
      let same_words : set s.words w (get_or s.words w 0) ≡ s.words = set-get_or s.words w 0 in let f : ℕ = phase x in
      subst (λ (ws : List ℕ). Holds blocks p record {
        words = ws;
        homes = homes_with s.homes me.1;
        views =
            set s.views id (seated (departed x));
      }) (sym same_words)
      (gave s.words (departed x) refl refl refl ok.sound.wide (λ v lv other. refl) count_is
      (subst (λ (z : Worker). length z.received ≡ phase z) same (ok.sound.rows k mine.0))
      (subst (λ (z : Worker). length z.seen ≡ p) same (ok.sound.looks k mine.0))
      (λ i li. ap (λ b. f + weight b) (rdy.saw_all i li)) (let r : f + 1 + 1 ≡ f + 2 = omega arith in
      r) (omega arith) (λ i li _. rdy.saw_all i li) (λ t i m e. e) (λ t i m e. e)
      (subst (λ (z : Worker). All (λ r. length r ≡ p) z.received) same (ok.sound.columns k mine.0)) (λ t i m e. e)
      (λ far. let r : f + 1 ≤ f = far in absurd (omega arith)))

pub finish_steps : (blocks : TwoBlocks) (p slots id : ℕ) (me : M) (xs ys : List PieceState) → Ready p me xs ys → phase me.0.mine < 2 ^ 63 →
    Allows (Holds blocks p) slots id me me.0.mine.at (λ n. (n + 1) % 2 ^ 64) (finishes (step slots me.0.mine.at 1 0 none) me)
finish_steps blocks p slots id me xs ys rdy few s ok wide at _ =
    let homes : homes_after s.homes me.1 (gives_all me.1) ≡ homes_with s.homes me.1 = all_home s.homes me.1 in let w : View =
    seated (finished me.0.mine (letters me.1)) in (
      w,
      gives_all me.1,
      all_valid s.homes me.1,
      subst (λ (hs : Homes). Holds blocks p record {
        words = set s.words me.0.mine.at ((get_or s.words me.0.mine.at 0 + 1) % 2 ^ 64);
        homes = hs;
        views = set s.views id w;
      }) (sym homes) (finish_keeps blocks p slots id me xs ys rdy s ok at few),
      (λ q. (w, none_left me.1 q)),
    )

pub depart_steps : (blocks : TwoBlocks) (p slots id : ℕ) (me : M) (xs ys : List PieceState) (w : ℕ) → Ready p me xs ys →
    Allows (Holds blocks p) slots id me w (λ n. n) (departs (step slots w 0 0 none) me)
depart_steps blocks p slots id me xs ys w rdy s ok wide at _ =
    let homes : homes_after s.homes me.1 (gives_all me.1) ≡ homes_with s.homes me.1 = all_home s.homes me.1 in let u : View =
    seated (departed me.0.mine) in (
      u,
      gives_all me.1,
      all_valid s.homes me.1,
      subst (λ (hs : Homes). Holds blocks p record { words = set s.words w (get_or s.words w 0); homes = hs; views = set s.views id u })
          (sym homes) (depart_keeps blocks p slots id me xs ys rdy s ok at w),
      (λ q. (u, none_left me.1 q)),
    )
