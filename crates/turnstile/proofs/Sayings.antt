-- What the starter does, and how seats are made and taken in.
use Rattle.std.proofs.Common.{◌≡◌, ℕ, zero, suc, ◌+◌, ◌-◌, ◌<◌, ◌≤◌, ◌≢◌, ◌⊎◌, Bool, true, false, Option, Some, None, List, [], ◌∷◌, ◌++◌}
use Rattle.std.proofs.Common.{map, length, get_or, set, sym, refl, ap, ◌∙◌, subst, inl, inr, ⊎_elim, length-set, le_refl, get_or-set_same}
use Rattle.std.proofs.Common.{arith}
use Rattle.std.specs.Prelude.{MatchOption}
use mathlib.Core.Logic.{dite}
use mathlib.Core.Option.{none, some, some-injective, some-ne-none}
use mathlib.Core.Option as maybe
use native.Mathlib.Decide.{ℕ_discrete}
use lib.ListN.{get_elem?, length-map}
use Rattle.atomic_table.specs.Table.{State, Me, Step, step, Act, keeps, takes, gives, chain, Valid, homes_after, carried_after, stepped}
use Rattle.atomic_table.specs.Table.{Allows, Splits, Joins, opening, Final, Seen}
use Rattle.atomic_table.proofs.Lists.{at_set, set_here, set_else}
use Rattle.turnstile.specs.declared.start.told.Told.{Told}
use Rattle.turnstile.specs.declared.start.told.Told.TheVariants.{Nothing, Stop, Go}
use Rattle.turnstile.specs.declared.start.told.Role.{Role}
use Rattle.turnstile.specs.declared.start.told.Role.TheVariants.{Spent, Starter, Runner}
use Rattle.turnstile.specs.declared.start.told.Part.{Part}
use Rattle.turnstile.specs.Lines.{code, Hears, Home, empty, Lies, starter, runner, spent, FitsAs, Line, Chair, slots_of, nothings}
use Rattle.turnstile.specs.Lines.{takes_all, gives_all, items_of, holds_all, says_go, says_stop, comes_back, next_starter, next_runner}
use Rattle.turnstile.specs.Lines.{takes_in, has_gone, starts}
use Rattle.turnstile.proofs.Grids.{put, put_here, put_else}
use Rattle.turnstile.proofs.Hearings.{as_runner, as_starter, goes_on, nothing_go, nothing_stop, same_words}

pub length-nothings : (T : Type 0) (n : ℕ) → length (nothings {T = T} n) ≡ n
length-nothings T zero = refl
length-nothings T (suc n) = ap suc (length-nothings T n)

module _ {T : Type 0} where
  abbrev homes_with : List (maybe.Option (Option T)) → List (ℕ × Option T) → List (maybe.Option (Option T))
  homes_with hs [] = hs
  homes_with hs (x ∷ xs) = homes_with (set hs x.0 (some x.1)) xs

  all_valid : (hs : List (maybe.Option (Option T))) (c : List (ℕ × Option T)) → Valid hs c (gives_all c)
  all_valid hs [] = tt
  all_valid hs (x ∷ xs) = (tt, all_valid (set hs x.0 (some x.1)) xs)

  all_home : (hs : List (maybe.Option (Option T))) (c : List (ℕ × Option T)) → homes_after hs c (gives_all c) ≡ homes_with hs c
  all_home hs [] = refl
  all_home hs (x ∷ xs) = all_home (set hs x.0 (some x.1)) xs

  none_left : (c : List (ℕ × Option T)) → carried_after c (gives_all c) ≡ []
  none_left [] = refl
  none_left (x ∷ xs) = none_left xs

  length-homes : (hs : List (maybe.Option (Option T))) (c : List (ℕ × Option T)) → length (homes_with hs c) ≡ length hs
  length-homes hs [] = refl
  length-homes hs (x ∷ xs) = length-homes (set hs x.0 (some x.1)) xs ∙ length-set hs x.0 (some x.1)

  below : (hs : List (maybe.Option (Option T))) (os : List (Option T)) (k j : ℕ) → j < k →
      get_elem? (homes_with hs (slots_of k os)) j ≡ get_elem? hs j
  below hs [] k j lt = refl
  below hs (o ∷ os) k j lt = below (set hs k (some o)) os (suc k) j (omega arith) ∙ set_else hs k j (some o) (λ e. omega arith)

  put_at : (hs : List (maybe.Option (Option T))) (os : List (Option T)) (k j : ℕ) (o : Option T) → k + length os ≤ length hs →
      get_elem? os j ≡ some o → get_elem? (homes_with hs (slots_of k os)) (k + j) ≡ some (some o)
  put_at hs [] k j o fits e = absurd (some-ne-none o (sym e))
  put_at hs (a ∷ os) k zero o fits e = let z : k + 0 ≡ k = omega arith in
      ap (get_elem? (homes_with (set hs k (some a)) (slots_of (suc k) os))) z ∙ below (set hs k (some a)) os (suc k) k (omega arith)
      ∙ set_here hs k (some a) (omega arith) ∙ ap (λ (y : Option T). some (some y)) (some-injective a o e)
  put_at hs (a ∷ os) k (suc j) o fits e = let z : k + suc j ≡ suc k + j = omega arith in let l = length-set hs k (some a) in
      ap (get_elem? (homes_with (set hs k (some a)) (slots_of (suc k) os))) z ∙ put_at (set hs k (some a)) os (suc k) j o (let n : ℕ =
      length (set hs k (some a)) in let m : ℕ = length hs in let e' : n ≡ m = l in let r : suc k + length os ≤ n = omega arith in r) e

  module _ (p : ℕ) (s : State (Option T) (Part T)) (ok : Line p s) (id : ℕ) (me : Chair T) (at : get_elem? s.views id ≡ some me.0) (k : ℕ)
      (ts : List (ℕ × Told T × Bool)) (os : List (Option T)) (me_is : me ≡ (starter k true Nothing ts, slots_of 0 os))
      (len : length os ≡ p) where
    mine : FitsAs p ok.said ok.holds ok.heard ok.back ok.first ok.seats id Starter me.0
    mine = as_starter p s ok id me.0 at (ap (λ z. z.0.role) me_is)

    said_nothing : ok.said ≡ Nothing
    said_nothing = sym mine.1 ∙ ap (λ z. z.0.said) me_is

    heard_nothing : (w : ℕ) → w < p → ok.heard w ≡ Nothing
    heard_nothing w lw = silent (ok.heard w) (subst (λ (z : Told (List T)). Hears z w (ok.heard w)) said_nothing (ok.hears w lw))
      where
        silent : (h : Told T) → Hears Nothing w h → h ≡ Nothing
        silent Nothing q = refl
        silent Stop q = absurd (nothing_stop q)
        silent (Go x) q = absurd (nothing_go q.0 q.1)

    says : (new : Told (List T)) (n : ℕ) → n ≡ code new →
        ((w : ℕ) (o : Option T) → w < p → get_elem? os w ≡ some o → Lies false new w Nothing (ok.back w) (some (some o)))
        → Line p record { words = set s.words 0 n; homes = homes_with s.homes me.1; views = set s.views id (starter k false new ts) }
    says new n is lies = let fits₀ = mine in record {
      said = new;
      holds = false;
      heard = ok.heard;
      back = ok.back;
      first = ok.first;
      seats = ok.seats;
      wide = length-set s.words 0 n ∙ ok.wide;
      room = length-homes s.homes me.1 ∙ ok.room;
      word = get_or-set_same s.words 0 n 0 (let e = ok.wide in omega arith) ∙ is;
      early = λ e. absurd (differ e);
      hears = λ w lw. subst (Hears new w) (sym (heard_nothing w lw)) tt;
      lies = λ w lw. let o = there os w (subst (λ (z : ℕ). w < z) (sym len) lw) in
          subst (λ (z : Told T × Home T). Lies false new w z.0 (ok.back w) z.1)
          (λ q. (sym (heard_nothing w lw) q, sym (at_home w o.0 o.1) q)) (lies w o.0 lw o.1);
      fits = λ j u e. ⊎_elim
          (λ t. subst (λ (u' : Part T). FitsAs p new false ok.heard ok.back ok.first ok.seats j u'.role u') t.1 (
            mine.0 ∙ sym t.0,
            refl,
            refl,
            subst (λ (z : ℕ). z ≤ p) k_is mine.3,
            (λ l a b. let q = mine.4 l (subst (λ (z : ℕ). z ≤ l) (sym k_is) a) b in (q.0 ∙ sym t.0, q.1, q.2)),
            (λ l y e. let q = mine.5 l y (ap (λ z. get_elem? z.0.taken l) me_is ∙ e) in (q.0, q.1 ∙ sym t.0, q.2, q.3)),
          ))
          (λ t. others j t.0 u.role u (ok.fits j u t.1))
          (at_set s.views id j (starter k false new ts) u e);
    }
      where
        differ : false ≡ true → ⊥
        differ e = cc

        k_is : me.0.at ≡ k
        k_is = ap (λ z. z.0.at) me_is

        there : {A : Type 0} (l : List A) (w : ℕ) → w < length l → (a : A) × (get_elem? l w ≡ some a)
        there [] w lt = absurd (omega arith)
        there (x ∷ xs) zero lt = (x, refl)
        there (x ∷ xs) (suc w) lt = there xs w (omega arith)

        at_home : (w : ℕ) (o : Option T) → get_elem? os w ≡ some o → get_elem? (homes_with s.homes me.1) w ≡ some (some o)
        at_home w o e = let z : w ≡ 0 + w = omega arith in ap (λ c. get_elem? (homes_with s.homes c.1) w) me_is
            ∙ ap (get_elem? (homes_with s.homes (slots_of 0 os))) z
            ∙ put_at s.homes os 0 w o (let a : ℕ = length s.homes in let a' : a ≡ p = ok.room in let b : ℕ = length os in let b' : b ≡ p =
            len in let r : 0 + b ≤ a = omega arith in r) e

        others : (j : ℕ) → j ≢ id → (role : Role) (u : Part T) → FitsAs p ok.said ok.holds ok.heard ok.back ok.first ok.seats j role u →
            FitsAs p new false ok.heard ok.back ok.first ok.seats j role u
        others j other Spent u f = tt
        others j other Starter u f = absurd (other (sym f.0 ∙ mine.0))
        others j other Runner u f = f

  at_items : (xs : List T) (w : ℕ) (o : Option T) → get_elem? (map Some xs) w ≡ some o → (x : T) × (get_elem? xs w ≡ some x) × (o ≡ Some x)
  at_items [] w o e = absurd (some-ne-none o (sym e))
  at_items (x ∷ xs) zero o e = (x, refl, some-injective o (Some x) (sym e))
  at_items (x ∷ xs) (suc w) o e = at_items xs w o e

  pub items_are : (k : ℕ) (xs : List T) → items_of (slots_of k (map Some xs)) ≡ xs
  items_are k [] = refl
  items_are k (x ∷ xs) = ap (λ (z : List T). x ∷ z) (items_are (suc k) xs)

  at_nothings : (n w : ℕ) (o : Option T) → get_elem? (nothings n) w ≡ some o → o ≡ None
  at_nothings zero w o e = absurd (some-ne-none o (sym e))
  at_nothings (suc n) zero o e = some-injective o None (sym e)
  at_nothings (suc n) (suc w) o e = at_nothings n w o e

  -- go is said
  pub go_steps : (p slots id : ℕ) (me : Chair T) (k : ℕ) (ts : List (ℕ × Told T × Bool)) (xs : List T) →
      me ≡ (starter k true Nothing ts, slots_of 0 (map Some xs)) → length xs ≡ p → Allows (Line p) slots id me 0 (λ _. 1)
      (λ _. says_go (step slots 0 1 0 none) me 1)
  go_steps p slots id me k ts xs is len s ok wide at _ = let len' : length (map Some xs) ≡ p = length-map xs Some ∙ len in
      let new : Told (List T) = Go xs in (
        starter k false new ts,
        gives_all me.1,
        all_valid s.homes me.1,
        subst (λ (hs : List (maybe.Option (Option T))). Line p record {
          words = set s.words 0 1;
          homes = hs;
          views =
              set s.views id (starter k false new ts);
        }) (sym (all_home s.homes me.1))
            (says p s ok id me at k ts (map Some xs) is len' new 1 refl (λ w o lw e. let q = at_items xs w o e in
            (q.0, q.1, ap (λ (y : Option T). some (some y)) q.2))),
        (λ i. (
          starter (ap (λ z. z.0.at) (sym is) i) false (Go ((sym (ap (λ z. items_of z.1) is ∙ items_are 0 xs)) i))
              (ap (λ z. z.0.taken) (sym is) i),
          none_left me.1 i,
        )),
      )

  pub stop_steps : (p slots id : ℕ) (me : Chair T) (k : ℕ) (ts : List (ℕ × Told T × Bool)) →
      me ≡ (starter k true Nothing ts, slots_of 0 (nothings p)) → Allows (Line p) slots id me 0 (λ _. 2)
      (λ _. says_stop (step slots 0 2 0 none) me 2)
  stop_steps p slots id me k ts is s ok wide at _ = let new : Told (List T) = Stop in (
    starter k false new ts,
    gives_all me.1,
    all_valid s.homes me.1,
    subst (λ (hs : List (maybe.Option (Option T))). Line p record {
      words = set s.words 0 2;
      homes = hs;
      views =
          set s.views id (starter k false new ts);
    }) (sym (all_home s.homes me.1))
        (says p s ok id me at k ts (nothings p) is (length-nothings T p) new 2 refl (λ w o lw e.
        ap (λ (y : Option T). some (some y)) (at_nothings p w o e))),
    (λ i. (starter (ap (λ z. z.0.at) (sym is) i) false new (ap (λ z. z.0.taken) (sym is) i), none_left me.1 i)),
  )

  -- a runner gives back its slot, which is empty
  pub back_steps : (p slots id w : ℕ) (me : Chair T) (x : T) → me ≡ (runner w (Go x) false, (w, None) ∷ []) →
      Allows (Line p) slots id me 0 (λ n. n) (comes_back (step slots 0 0 0 none) me)
  back_steps p slots id w me x e s ok wide at _ =
      let role : me.0.role ≡ Runner = ap (λ z. z.0.role) e in let f = as_runner p s ok id me.0 at role in let n : ℕ = me.0.at in
      let n_is : n ≡ w = ap (λ z. z.0.at) e in
      let heard : ok.heard n ≡ Go x = f.2 ∙ ap (λ z. z.0.heard) e in let h = subst (Hears ok.said n) heard (ok.hears n f.0) in
      let xs : List T = h.0 in
      let near : n < length s.homes = subst (λ (z : ℕ). n < z) (sym ok.room) f.0 in
      let homes' = set s.homes n (some None) in (
        runner n (Go x) true,
        gives,
        tt,
        same_words p s _ _ (subst (λ (hs : List (maybe.Option (Option T))). Line p record {
          words = s.words;
          homes = hs;
          views =
              set s.views id (runner n (Go x) true);
        }) (λ i. put_one s.homes (e' i))
            (goes_on p s ok id me.0 at role (Go x) true homes' (length-set s.homes n (some None) ∙ ok.room) h
            (subst (λ (z : Bool × Told (List T)). Lies z.0 z.1 n (Go x) true (get_elem? homes' n))
            (λ i. (sym (not_holding ok.holds refl xs h.1) i, sym h.1 i)) (set_here s.homes n (some None) near))
            (λ k other. set_else s.homes n k (some None) other))),
        (λ i. (runner n (ap (λ z. z.0.heard) (sym e) i) true, rest_is i)),
      )
    where
      put_one : List (maybe.Option (Option T)) → List (ℕ × Option T) → List (maybe.Option (Option T))
      put_one hs [] = hs
      put_one hs (c ∷ cs) = set hs c.0 (some c.1)

      e' : (me.0.at, None) ∷ [] ≡ me.1
      e' = (λ i. (ap (λ z. z.0.at) e i, None) ∷ []) ∙ sym (ap (λ z. z.1) e)

      rest_is : Rattle.atomic_table.specs.Table.rest me.1 ≡ []
      rest_is = ap (λ z. Rattle.atomic_table.specs.Table.rest z.1) e

      not_holding : (b : Bool) → ok.holds ≡ b → (xs : List T) → ok.said ≡ Go xs → ok.holds ≡ false
      not_holding true q xs r = absurd (nothing_go xs (sym (ok.early q) ∙ r))
      not_holding false q xs r = q

  -- the starter takes every slot, before it makes a runner
  valid_all : (hs : List (maybe.Option (Option T))) (c : List (ℕ × Option T)) (k n : ℕ) →
      ((j : ℕ) → k ≤ j → j < k + n → get_elem? hs j ≡ empty)
      → Valid hs c (takes_all k n) × (carried_after c (takes_all k n) ≡ slots_of k (nothings n) ++ c)
      × (length (homes_after hs c (takes_all k n)) ≡ length hs)
      × ((j : ℕ) → j < k → get_elem? (homes_after hs c (takes_all k n)) j ≡ get_elem? hs j)
  valid_all hs c k zero h = (tt, refl, refl, (λ j lt. refl))
  valid_all hs c k (suc n) h = let r = valid_all hs c (suc k) n (λ j lo hi. h j (omega arith) (omega arith)) in let hs' =
      homes_after hs c (takes_all (suc k) n) in (
        (r.0, r.3 k (omega arith) ∙ h k (le_refl k) (omega arith)),
        ap (λ (z : List (ℕ × Option T)). (k, None) ∷ z) r.1,
        length-set hs' k none ∙ r.2,
        (λ j lt. set_else hs' k j none (λ e. omega arith) ∙ r.3 j (omega arith)),
      )

  pub hold_steps : (p slots id : ℕ) (me : Chair T) (k : ℕ) (ts : List (ℕ × Told T × Bool)) → slots ≡ p →
      me ≡ (starter k false Nothing ts, []) → Allows (Line p) slots id me 0 (λ n. n) (holds_all (step slots 0 0 0 none) me)
  hold_steps p slots id me k ts count is s ok wide at _ =
      let mine = as_starter p s ok id me.0 at (ap (λ z. z.0.role) is) in let said : ok.said ≡ Nothing =
      sym mine.1 ∙ ap (λ z. z.0.said) is in let free : ok.holds ≡ false = sym mine.2 ∙ ap (λ z. z.0.holds) is in
      let r = valid_all s.homes me.1 0 slots
      (λ j lo hi. subst (λ (z : Bool × Told (List T)). Lies z.0 z.1 j (ok.heard j) (ok.back j) (get_elem? s.homes j))
      (λ i. (free i, said i)) (ok.lies j (let a : 0 + slots ≡ p = omega arith in omega arith))) in
      let view : Part T = starter me.0.at true me.0.said me.0.taken in
      let homes' = homes_after s.homes me.1 (takes_all 0 slots) in (
        view,
        takes_all 0 slots,
        r.0,
        same_words p s homes' (set s.views id view) record {
          said = ok.said;
          holds = true;
          heard = ok.heard;
          back = ok.back;
          first = ok.first;
          seats = ok.seats;
          wide = ok.wide;
          room = r.2 ∙ ok.room;
          word = ok.word;
          early = λ _. said;
          hears = ok.hears;
          lies = λ w lw. tt;
          fits = λ j u e. ⊎_elim
              (λ t. subst (λ (u' : Part T). FitsAs p ok.said true ok.heard ok.back ok.first ok.seats j u'.role u') t.1 (
                mine.0
                    ∙ sym t.0,
                mine.1,
                refl,
                mine.3,
                (λ l a b. let q = mine.4 l a b in (q.0 ∙ sym t.0, q.1, q.2)),
                (λ l y e. let q = mine.5 l y e in (q.0, q.1 ∙ sym t.0, q.2, q.3)),
              ))
              (λ t. others mine.0 j t.0 u.role u (ok.fits j u t.1))
              (at_set s.views id j view u e);
        },
        (λ i. (
          view,
          (r.1 ∙ ap (λ (z : List (ℕ × Option T)). slots_of 0 (nothings slots) ++ z) (ap (λ z. z.1) is)
              ∙ mathlib.Core.List.append-nil (slots_of 0 (nothings slots))) i,
        )),
      )
    where
      others : ok.first ≡ id → (j : ℕ) → j ≢ id → (role : Role) (u : Part T) →
          FitsAs p ok.said ok.holds ok.heard ok.back ok.first ok.seats j role u →
          FitsAs p ok.said true ok.heard ok.back ok.first ok.seats j role u
      others mine j other Spent u f = tt
      others mine j other Starter u f = absurd (other (sym f.0 ∙ mine))
      others mine j other Runner u f = f

  at_end : (l : List (Part T)) (a b : Part T) (j : ℕ) → get_elem? (l ++ a ∷ []) j ≡ some b → (get_elem? l j ≡ some b)
      ⊎ ((j ≡ length l) × (a ≡ b))
  at_end [] a b zero e = inr (refl, some-injective a b e)
  at_end [] a b (suc j) e = absurd (some-ne-none b (sym e))
  at_end (x ∷ xs) a b zero e = inl e
  at_end (x ∷ xs) a b (suc j) e = ⊎_elim inl (λ t. inr (ap suc t.0, t.1)) (at_end xs a b j e)

  others_seats : (p : ℕ) (said : Told (List T)) (h : Bool) (heard : ℕ → Told T) (back : ℕ → Bool) (first : ℕ) (seats : ℕ → ℕ)
      (id k m j : ℕ) → seats k ≡ id → j ≢ id → (role : Role) (u : Part T) → FitsAs p said h heard back first seats j role u →
      FitsAs p said h heard back first (put seats k m) j role u
  others_seats p said h heard back first seats id k m j is other Spent u f = tt
  others_seats p said h heard back first seats id k m j is other Starter u f = (
    f.0,
    f.1,
    f.2,
    f.3,
    (λ l a b. let q = f.4 l a b in (put_else seats k m l (λ e. other (sym q.0 ∙ ap seats e ∙ is)) ∙ q.0, q.1, q.2)),
    (λ l t e. let q = f.5 l t e in (q.0, put_else seats k m t.0 (λ e. other (sym q.1 ∙ ap seats e ∙ is)) ∙ q.1, q.2, q.3)),
  )
  others_seats p said h heard back first seats id k m j is other Runner u f =
      (f.0, put_else seats k m u.at (λ e. other (sym f.1 ∙ ap seats e ∙ is)) ∙ f.1, f.2, f.3)

  pub splits : (p id : ℕ) (v : Part T) → v.role ≡ Starter → v.taken ≡ [] → v.at < p → Splits (Line p) id v (next_starter v) (next_runner v)
  splits p id v is alone more s ok at =
      let f = as_starter p s ok id v at is in let k : ℕ = v.at in let left : Part T = next_starter v in let right : Part T =
      next_runner v in let vs = set s.views id left in let m : ℕ = length vs in let mine = f.4 k (le_refl k) more in
      record {
        said = ok.said;
        holds = ok.holds;
        heard = ok.heard;
        back = ok.back;
        first = ok.first;
        seats = put ok.seats k m;
        wide = ok.wide;
        room = ok.room;
        word = ok.word;
        early = ok.early;
        hears = ok.hears;
        lies = ok.lies;
        fits = λ j u e. ⊎_elim
            (λ old. ⊎_elim
            (λ t. subst (λ (u' : Part T). FitsAs p ok.said ok.holds ok.heard ok.back ok.first (put ok.seats k m) j u'.role u') t.1 (
              f.0 ∙ sym t.0,
              f.1,
              f.2,
              (let r : k + 1 ≤ p = omega arith in r),
              (λ l a b. let q = f.4 l (let a' : k + 1 ≤ l = a in omega arith) b in
                  (put_else ok.seats k m l (λ e. let a' : k + 1 ≤ l = a in omega arith) ∙ q.0 ∙ sym t.0, q.1, q.2)),
              (λ l y e. absurd (some-ne-none y (sym (subst (λ (ys : List (ℕ × Told T × Bool)). get_elem? ys l ≡ some y) alone e)))),
            ))
            (λ t. others_seats p ok.said ok.holds ok.heard ok.back ok.first ok.seats id k m j mine.0 t.0 u.role u (ok.fits j u t.1))
            (at_set s.views id j left u old))
            (λ new. subst (λ (u' : Part T). FitsAs p ok.said ok.holds ok.heard ok.back ok.first (put ok.seats k m) j u'.role u') new.1
            (more, put_here ok.seats k m ∙ sym new.0, mine.1, mine.2))
            (at_end vs right u j e);
      }

  pub joins : (p id : ℕ) (v : Part T) (other : ℕ) (w : Part T) → v.role ≡ Starter → w.role ≡ Runner →
      Joins (Line p) id v other w (takes_in v w) spent
  joins p id v other w is is' s ok at two at' =
      let both : Part T = takes_in v w in let old : get_elem? s.views other ≡ some w = sym (set_else s.views id other both two) ∙ at' in
      let f = as_starter p s ok id v at is in let g = as_runner p s ok other w old is' in let k : ℕ = w.at in
      let either = λ (l : ℕ) (h : ok.seats l ≡ id). dite (ℕ_discrete l k) (λ (e : l ≡ k). ap (put ok.seats k id) e
      ∙ put_here ok.seats k id) (λ n. put_else ok.seats k id l n ∙ h) in
      record {
        said = ok.said;
        holds = ok.holds;
        heard = ok.heard;
        back = ok.back;
        first = ok.first;
        seats = put ok.seats k id;
        wide = ok.wide;
        room = ok.room;
        word = ok.word;
        early = ok.early;
        hears = ok.hears;
        lies = ok.lies;
        fits = λ j u e. ⊎_elim
            (λ t. subst (λ (u' : Part T). FitsAs p ok.said ok.holds ok.heard ok.back ok.first (put ok.seats k id) j u'.role u') t.1 tt)
            (λ t. ⊎_elim
            (λ t'. subst (λ (u' : Part T). FitsAs p ok.said ok.holds ok.heard ok.back ok.first (put ok.seats k id) j u'.role u') t'.1 (
              f.0 ∙ sym t'.0,
              f.1,
              f.2,
              f.3,
              (λ l a b. let q = f.4 l a b in (either l q.0 ∙ sym t'.0, q.1, q.2)),
              (λ l y e. all j t'.0 l y e),
            ))
            (λ t'. others_seats p ok.said ok.holds ok.heard ok.back ok.first ok.seats other k id j g.1 t.0 u.role u (ok.fits j u t'.1))
            (at_set s.views id j both u t.1))
            (at_set (set s.views id both) other j spent u e);
      }
    where
      all : (j : ℕ) → j ≡ id → (l : ℕ) (y : ℕ × Told T × Bool) → get_elem? ((w.at, w.heard, w.back) ∷ v.taken) l ≡ some y →
          (y.0 < p) × (put ok.seats w.at id y.0 ≡ j) × (ok.heard y.0 ≡ y.1) × (ok.back y.0 ≡ y.2)
      all j here zero y e =
          let old : get_elem? s.views other ≡ some w = sym (set_else s.views id other (takes_in v w) two) ∙ at' in let g =
          as_runner p s ok other w old is' in
          subst (λ (z : ℕ × Told T × Bool). (z.0 < p) × (put ok.seats w.at id z.0 ≡ j) × (ok.heard z.0 ≡ z.1)
          × (ok.back z.0 ≡ z.2)) (some-injective (w.at, w.heard, w.back) y e) (g.0, put_here ok.seats w.at id ∙ sym here, g.2, g.3)
      all j here (suc l) y e =
          let f = as_starter p s ok id v at is in let q = f.5 l y e in (
            q.0,
            dite (ℕ_discrete y.0 w.at) (λ (d : y.0 ≡ w.at). ap (put ok.seats w.at id) d
                ∙ put_here ok.seats w.at id) (λ n. put_else ok.seats w.at id y.0 n ∙ q.1) ∙ sym here,
            q.2,
            q.3,
          )

  homes_open : (n w : ℕ) → w < n → get_elem? (map some (nothings {T = T} n)) w ≡ empty
  homes_open zero w lt = absurd (omega arith)
  homes_open (suc n) zero lt = refl
  homes_open (suc n) (suc w) lt = homes_open n w (omega arith)

  pub opens : (p : ℕ) (xs : List (Option T)) → xs ≡ nothings p → Line p (opening (0 ∷ []) xs (starter 0 false Nothing []))
  opens p xs is = record {
    said = Nothing;
    holds = false;
    heard = λ _. Nothing;
    back = λ _. false;
    first = 0;
    seats = λ _. 0;
    wide = refl;
    room = length-map xs some ∙ ap length is ∙ length-nothings T p;
    word = refl;
    early = λ _. refl;
    hears = λ w lw. tt;
    lies = λ w lw. ap (λ (l : List (Option T)). get_elem? (map some l) w) is ∙ homes_open p w lw;
    fits = λ id v e. only id v e;
  }
    where
      only : (id : ℕ) (v : Part T) → get_elem? (starter 0 false Nothing [] ∷ []) id ≡ some v → FitsAs p Nothing false (λ _. Nothing)
          (λ _. false) 0 (λ _. 0) id v.role v
      only zero v e = subst (λ (u : Part T). FitsAs p Nothing false (λ _. Nothing) (λ _. false) 0 (λ _. 0) 0 u.role u)
          (some-injective _ v e) (
            refl,
            refl,
            refl,
            (let r : 0 ≤ p = omega arith in r),
            (λ k _ _. (refl, refl, refl)),
            (λ k y h. absurd (some-ne-none y (sym h))),
          )
      only (suc id) v e = absurd (some-ne-none v (sym e))

  -- what the starter knows at the end: each runner that was taken in heard what was said
  pub heard_is_said : (p : ℕ) (ws : List ℕ) (ys : List (Option T)) (id : ℕ) (v : Part T) → v.role ≡ Starter →
      Final (Seen (Line p) id v) ws ys → (n : ℕ) (t : ℕ × Told T × Bool) → get_elem? v.taken n ≡ some t → Hears v.said t.0 t.1
  heard_is_said p ws ys id v is end n t e = let ok = end.1.0 in let f = as_starter p end.0 ok id v end.1.1 is in let q = f.5 n t e in
      subst (λ (z : Told (List T) × Told T). Hears z.0 t.0 z.1) (λ i. (sym f.1 i, q.2 i)) (ok.hears t.0 q.0)

  pub has_item : (h : Told T) → has_gone h ≡ true → (x : T) × (h ≡ Go x)
  has_item Nothing e = absurd (cc)
  has_item Stop e = absurd (cc)
  has_item (Go x) e = (x, refl)

  -- what the starter has said is what its seat shows
  pub shows_said : {V : Type 0} (items : V → List T) (o : Option V) (p : ℕ) (me : Chair T) →
      MatchOption o (me ≡ (starter p false Stop [], [])) (λ v. me ≡ (starter p false (Go (items v)) [], []))
      → (me ≡ starts p me.0.said) × MatchOption o (me.0.said ≡ Stop) (λ v. me.0.said ≡ Go (items v))
  shows_said items None p me e = (e ∙ ap (starts p) (sym (ap (λ z. z.0.said) e)), ap (λ z. z.0.said) e)
  shows_said items (Some v) p me e = (e ∙ ap (starts p) (sym (ap (λ z. z.0.said) e)), ap (λ z. z.0.said) e)

  -- once something was said the starter holds no slot
  pub holds_none : (p : ℕ) (me : Chair T) → me ≡ starts p me.0.said → (me.0.said ≡ Stop) ⊎ ((xs : List T) × (me.0.said ≡ Go xs)) →
      me.0.holds ≡ false
  holds_none p me e said = ap (λ z. z.0.holds) e
      ∙ ⊎_elim (λ stop. ap (λ s. (starts p s).0.holds) stop) (λ go. ap (λ s. (starts p s).0.holds) go.1) said

  stop_go : (xs : List T) → ◌≡◌ {A = Told (List T)} Stop (Go xs) → ⊥
  stop_go xs e = cc

  -- after stop, and after go where all runners have waited, every slot is empty
  pub all_empty : (p : ℕ) (ws : List ℕ) (ys : List (Option T)) (id : ℕ) (v : Part T) → v.role ≡ Starter → v.holds ≡ false →
      Final (Seen (Line p) id v) ws ys
      → (v.said ≡ Stop) ⊎ ((xs : List T) × (v.said ≡ Go xs)
      × ((w : ℕ) → w < p → (n : ℕ) × (h : Told T) × (h ≢ Nothing) × (get_elem? v.taken n ≡ some (w, h, has_gone h)))) → (w : ℕ) →
      w < p → get_elem? ys w ≡ some None
  all_empty p ws ys id v is free end how w lw = let ok = end.1.0 in let f = as_starter p end.0 ok id v end.1.1 is in
      end.4 w None (⊎_elim
      (λ (stop : v.said ≡ Stop). subst (λ (z : Bool × Told (List T)). Lies z.0 z.1 w (ok.heard w) (ok.back w) (get_elem? end.0.homes w))
      (λ i. ((sym f.2 ∙ free) i, (sym f.1 ∙ stop) i)) (ok.lies w lw))
      (λ go. let t = go.2 w lw in let q = f.5 t.0 (w, t.1, has_gone t.1) t.3 in
      by_heard go.0 (sym f.1 ∙ go.1) (sym f.2 ∙ free) t.1 t.2 q.2 q.3)
      how)
    where
      by_heard : (xs : List T) → end.1.0.said ≡ Go xs → end.1.0.holds ≡ false → (h : Told T) → h ≢ Nothing → end.1.0.heard w ≡ h →
          end.1.0.back w ≡ has_gone h → get_elem? end.0.homes w ≡ some (some None)
      by_heard xs said holds Nothing told heard back = absurd (told refl)
      by_heard xs said holds Stop told heard back =
          absurd (stop_go xs (sym (subst (Hears end.1.0.said w) heard (end.1.0.hears w lw)) ∙ said))
      by_heard xs said holds (Go x) told heard back =
          subst (λ (z : Bool × Told (List T) × Told T × Bool). Lies z.0 z.1 w z.2 z.3 (get_elem? end.0.homes w))
          (λ i. (holds i, said i, heard i, back i)) (end.1.0.lies w lw)

pub nothings_are : (T : Type 0) (n : ℕ) → ◌≡◌ {A = List (Option T)} (Rattle.std.proofs.Common.replicate n None) (nothings n)
nothings_are T zero = refl
nothings_are T (suc n) = ap (λ (z : List (Option T)). None ∷ z) (nothings_are T n)
