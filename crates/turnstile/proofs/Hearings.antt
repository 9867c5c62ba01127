-- Each step at a start line keeps its rule.
use Rattle.std.proofs.Common.{◌≡◌, ℕ, ◌<◌, ◌≢◌, Bool, true, false, Option, Some, List, [], ◌∷◌, length, get_or, set, sym, refl, ap, ◌∙◌}
use Rattle.std.proofs.Common.{subst, ⊎_elim, length-set, arith}
use mathlib.Core.Logic.{dite}
use mathlib.Core.Option.{none, some, some-injective, some-ne-none}
use mathlib.Core.Option as maybe
use native.Mathlib.Decide.{ℕ_discrete}
use lib.ListN.{get_elem?}
use lib.Seq.{set-get_or}
use Rattle.atomic_table.specs.Table.{State, step, Act, keeps, takes, Valid, carried_after, stepped, Allows}
use Rattle.atomic_table.proofs.Lists.{at_set, set_else, set_again}
use Rattle.turnstile.specs.declared.start.told.Told.{Told}
use Rattle.turnstile.specs.declared.start.told.Told.TheVariants.{Nothing, Stop, Go}
use Rattle.turnstile.specs.declared.start.told.Role.{Role}
use Rattle.turnstile.specs.declared.start.told.Role.TheVariants.{Spent, Starter, Runner}
use Rattle.turnstile.specs.declared.start.told.Part.{Part}
use Rattle.turnstile.proofs.Grids.{put, put_here, put_else}
use Rattle.turnstile.specs.Lines.{code, Hears, Home, Lies, runner, FitsAs, Line, Chair, listens}

module _ {T : Type 0} where
  pub nothing_stop : ◌≡◌ {A = Told (List T)} Nothing Stop → ⊥
  nothing_stop e = cc

  pub nothing_go : (xs : List T) → ◌≡◌ {A = Told (List T)} Nothing (Go xs) → ⊥
  nothing_go xs e = cc

  -- the other seats' views still fit where the runner w of the seat id goes on
  others_fit : (p : ℕ) (said : Told (List T)) (h : Bool) (heard : ℕ → Told T) (back : ℕ → Bool) (first : ℕ) (seats : ℕ → ℕ) (id w j : ℕ)
      (x : Told T) (b : Bool) → seats w ≡ id → j ≢ id → (role : Role) (v : Part T)
      → FitsAs p said h heard back first seats j role v → FitsAs p said h (put heard w x) (put back w b) first seats j role v
  others_fit p said h heard back first seats id w j x b is other Spent v f = tt
  others_fit p said h heard back first seats id w j x b is other Starter v f = (
    f.0,
    f.1,
    f.2,
    f.3,
    (λ k a l. let q = f.4 k a l in let n : k ≢ w = λ e. other (sym q.0 ∙ ap seats e ∙ is) in
        (q.0, put_else heard w x k n ∙ q.1, put_else back w b k n ∙ q.2)),
    (λ k t e. let q = f.5 k t e in let n : t.0 ≢ w = λ e. other (sym q.1 ∙ ap seats e ∙ is) in
        (q.0, q.1, put_else heard w x t.0 n ∙ q.2, put_else back w b t.0 n ∙ q.3)),
  )
  others_fit p said h heard back first seats id w j x b is other Runner v f =
      let n : v.at ≢ w = λ e. other (sym f.1 ∙ ap seats e ∙ is) in
      (f.0, f.1, put_else heard w x v.at n ∙ f.2, put_else back w b v.at n ∙ f.3)

  module _ (p : ℕ) (s : State (Option T) (Part T)) (ok : Line p s) (id : ℕ) (v : Part T) (at : get_elem? s.views id ≡ some v) where
    pub as_runner : v.role ≡ Runner → FitsAs p ok.said ok.holds ok.heard ok.back ok.first ok.seats id Runner v
    as_runner e = subst (λ (k : Role). FitsAs p ok.said ok.holds ok.heard ok.back ok.first ok.seats id k v) e (ok.fits id v at)

    pub as_starter : v.role ≡ Starter → FitsAs p ok.said ok.holds ok.heard ok.back ok.first ok.seats id Starter v
    as_starter e = subst (λ (k : Role). FitsAs p ok.said ok.holds ok.heard ok.back ok.first ok.seats id k v) e (ok.fits id v at)

    -- the runner of a seat has heard x, and its slot is as b says
    pub goes_on : v.role ≡ Runner → (x : Told T) (b : Bool) (homes' : List (maybe.Option (Option T))) → length homes' ≡ p →
        Hears ok.said v.at x → Lies ok.holds ok.said v.at x b (get_elem? homes' v.at)
        → ((w : ℕ) → w ≢ v.at → get_elem? homes' w ≡ get_elem? s.homes w) →
        Line p record { words = s.words; homes = homes'; views = set s.views id (runner v.at x b) }
    goes_on is x b homes' room hears lies other = let f = as_runner is in let w : ℕ = v.at in record {
      said = ok.said;
      holds = ok.holds;
      heard = put ok.heard w x;
      back = put ok.back w b;
      first = ok.first;
      seats = ok.seats;
      wide = ok.wide;
      room = room;
      word = ok.word;
      early = ok.early;
      hears = λ k lk. dite (ℕ_discrete k w)
          (λ (e : k ≡ w). subst (λ (z : ℕ). Hears ok.said z (put ok.heard w x z)) (sym e)
          (subst (Hears ok.said w) (sym (put_here ok.heard w x)) hears))
          (λ n. subst (Hears ok.said k) (sym (put_else ok.heard w x k n)) (ok.hears k lk));
      lies = λ k lk. dite (ℕ_discrete k w)
          (λ (e : k ≡ w). subst (λ (z : ℕ). Lies ok.holds ok.said z (put ok.heard w x z) (put ok.back w b z) (get_elem? homes' z)) (sym e)
          (subst (λ (z : Told T × Bool). Lies ok.holds ok.said w z.0 z.1 (get_elem? homes' w))
          (λ q. (sym (put_here ok.heard w x) q, sym (put_here ok.back w b) q)) lies))
          (λ n. subst (λ (z : Told T × Bool × Home T). Lies ok.holds ok.said k z.0 z.1 z.2)
          (λ q. (sym (put_else ok.heard w x k n) q, sym (put_else ok.back w b k n) q, sym (other k n) q)) (ok.lies k lk));
      fits = λ j u e. ⊎_elim
          (λ t. subst (λ (u' : Part T). FitsAs p ok.said ok.holds (put ok.heard w x) (put ok.back w b) ok.first ok.seats j u'.role u') t.1
          (f.0, f.1 ∙ sym t.0, put_here ok.heard w x, put_here ok.back w b))
          (λ t. others_fit p ok.said ok.holds ok.heard ok.back ok.first ok.seats id w j x b f.1 t.0 u.role u (ok.fits j u t.1))
          (at_set s.views id j (runner w x b) u e);
    }

    unchanged : Line p record { words = set s.words 0 (get_or s.words 0 0); homes = s.homes; views = set s.views id v }
    unchanged = subst (λ (t : List ℕ × List (Part T)). Line p record { words = t.0; homes = s.homes; views = t.1 })
        (λ q. (sym (set-get_or s.words 0 0) q, sym (set_again s.views id v at) q)) ok

  pub same_words : (p : ℕ) (s : State (Option T) (Part T)) (homes' : List (maybe.Option (Option T))) (views' : List (Part T)) →
      Line p record { words = s.words; homes = homes'; views = views' } →
      Line p record { words = set s.words 0 (get_or s.words 0 0); homes = homes'; views = views' }
  same_words p s homes' views' l =
      subst (λ (ws : List ℕ). Line p record { words = ws; homes = homes'; views = views' }) (sym (set-get_or s.words 0 0)) l

  pub hears_steps : (p slots id w : ℕ) (me : Chair T) → me ≡ (runner w Nothing false, []) → Allows (Line p) slots id me 0 (λ n. n)
      (listens (step slots 0 0 0 none) me)
  hears_steps p slots id w me e s ok wide at _ = by_said ok.said refl
    where
      v_is : me.0 ≡ runner w Nothing false
      v_is = ap (λ z. z.0) e

      role : me.0.role ≡ Runner
      role = ap (λ (z : Part T). z.role) v_is

      f : FitsAs p ok.said ok.holds ok.heard ok.back ok.first ok.seats id Runner me.0
      f = as_runner p s ok id me.0 at role

      said_is : (said : Told (List T)) → ok.said ≡ said → get_or s.words 0 0 ≡ code said
      said_is said q = ok.word ∙ ap code q

      Goal : Type 0
      Goal = (u : Part T) × (a : Act (Option T)) × Valid s.homes me.1 a × Line p (stepped s 0 (get_or s.words 0 0) id me.1 u a)
          × listens (step slots 0 0 0 none) me (get_or s.words 0 0) (u, carried_after me.1 a)

      not_holding : (b : Bool) → ok.holds ≡ b → (xs : List T) → ok.said ≡ Go xs → ok.holds ≡ false
      not_holding true q xs r = absurd (nothing_go xs (sym (ok.early q) ∙ r))
      not_holding false q xs r = q

      by_said : (said : Told (List T)) → ok.said ≡ said → Goal
      by_said Nothing q = let n : ℕ = get_or s.words 0 0 in let z : n ≡ 0 = said_is Nothing q in (
        me.0,
        keeps,
        tt,
        unchanged p s ok id me.0 at,
        (
          (λ _. refl),
          (λ (h : n ≡ 1). absurd (omega arith)),
          (λ (h : n ≡ 2). absurd (omega arith)),
          (let r : n < 3 = omega arith in
              r),
        ),
      )
      by_said Stop q = let n : ℕ = get_or s.words 0 0 in let z : n ≡ 2 = said_is Stop q in (
        runner me.0.at Stop false,
        keeps,
        tt,
        same_words p s s.homes (set s.views id (runner me.0.at Stop false)) (goes_on p s ok id me.0 at role Stop false s.homes ok.room q
            (still q) (λ _ _. refl)),
        (
          (λ (h : n ≡ 0). absurd (omega arith)),
          (λ (h : n ≡ 1). absurd (omega arith)),
          (λ _ i. (runner me.0.at Stop false, (e i).1)),
          (let r : n < 3 = omega arith in r),
        ),
      )
        where
          lies_stop : (b : Bool) (h : Told T) (k : Bool) (home : Home T) → Lies b Stop me.0.at h k home →
              Lies b Stop me.0.at Stop false home
          lies_stop true h k home l = tt
          lies_stop false h k home l = l

          still : ok.said ≡ Stop → Lies ok.holds ok.said me.0.at Stop false (get_elem? s.homes me.0.at)
          still r = subst (λ (z : Told (List T)). Lies ok.holds z me.0.at Stop false (get_elem? s.homes me.0.at)) (sym r)
              (lies_stop ok.holds (ok.heard me.0.at) (ok.back me.0.at) (get_elem? s.homes me.0.at)
              (subst (λ (z : Told (List T)). Lies ok.holds z me.0.at (ok.heard me.0.at) (ok.back me.0.at) (get_elem? s.homes me.0.at)) r
              (ok.lies me.0.at f.0)))
      by_said (Go xs) q = let n : ℕ = get_or s.words 0 0 in let z : n ≡ 1 = said_is (Go xs) q in
          let h = not_holding ok.holds refl xs q in
          let heard : ok.heard me.0.at ≡ Nothing = f.2 ∙ ap (λ (u : Part T). u.heard) v_is in
          let l = subst (λ (u : Bool × Told (List T) × Told T). Lies u.0 u.1 me.0.at u.2 (ok.back me.0.at) (get_elem? s.homes me.0.at))
          (λ i. (h i, q i, heard i)) (ok.lies me.0.at f.0) in
          let x : T = l.0 in (
            runner me.0.at (Go x) false,
            takes me.0.at (Some x),
            l.2,
            same_words p s (set s.homes me.0.at none) (set s.views id (runner me.0.at (Go x) false))
                (goes_on p s ok id me.0 at role (Go x) false (set s.homes me.0.at none) (length-set s.homes me.0.at none
                ∙ ok.room) (xs, q, l.1)
                (subst (λ (u : Bool × Told (List T)). Lies u.0 u.1 me.0.at (Go x) false (get_elem? (set s.homes me.0.at none) me.0.at))
                (λ i. (sym h i, sym q i)) tt) (λ k other. set_else s.homes me.0.at k none other)),
            (
              (λ (h : n ≡ 0). absurd (omega arith)),
              (λ _. (x, λ i. (runner me.0.at (Go x) false, (me.0.at, Some x) ∷ (e i).1))),
              (λ (h : n ≡ 2). absurd (omega arith)),
              (let r : n < 3 = omega arith in r),
            ),
          )
