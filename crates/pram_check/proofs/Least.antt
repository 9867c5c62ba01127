-- The breaches of a whole and its faults, from those of its parts in the order of the text.
use Rattle.std.proofs.Common.{◌≡◌, ℕ, zero, suc, ◌+◌, ◌<◌, ◌≤◌, List, [], ◌∷◌, ◌++◌, map, Option, Some, None, subst, sym, ap, refl}
use Rattle.std.proofs.Common.{◌∙◌, arith}
use Rattle.std.specs.List.{All, Contains}
use mathlib.Core.Logic.{◌⊎◌, inl, inr}
use Rattle.std.proofs.lemmas.List.Elements.{All-append, All-map, Contains-append_left, Contains-append_right}
use Rattle.pram_tokens.specs.declared.token.Location.{Location}
use Rattle.pram_tokens.specs.declared.token.Token.{Token}
use Rattle.pram_names.specs.declared.fault.Breach.{Breach}
use Rattle.pram_names.specs.declared.fault.Cause.{Cause}
use Rattle.pram_names.specs.declared.fault.Spot.TheVariants.{Offset}
use Rattle.pram_names.specs.Breaches.{at}
use Rattle.pram_check.specs.Faults.{all_at, offset_in, offsets_in, number, IsBefore, IsLeast}
use Rattle.pram_check.proofs.Sublists.{Between, lower, higher, most, split, joined}
use Rattle.pram_tokens.specs.InOrder.{places}
use Rattle.pram_check.proofs.Places.{places_append}

-- ---- nothing is told exactly where nothing is wrong

abbrev pub AreNoneAlike : List Breach → List Breach → Type 0
AreNoneAlike bs fs = (bs ≡ [] → fs ≡ []) × (fs ≡ [] → bs ≡ [])

pub none_is_none : AreNoneAlike [] []
none_is_none = (λ h. refl, λ h. refl)

parts_none : (xs ys : List Breach) → xs ++ ys ≡ [] → (xs ≡ []) × (ys ≡ [])
parts_none [] ys h = (refl, h)
parts_none (x ∷ xs) ys h = absurd (cc h)

both_none : (xs ys : List Breach) → xs ≡ [] → ys ≡ [] → xs ++ ys ≡ []
both_none xs ys h k = ap (λ l. l ++ ys) h ∙ k

pub none_append : {bs cs fs gs : List Breach} → AreNoneAlike bs fs → AreNoneAlike cs gs → AreNoneAlike (bs ++ cs) (fs ++ gs)
none_append {bs} {cs} {fs} {gs} a b = (
  λ h. let p = parts_none bs cs h in both_none fs gs (a.0 p.0) (b.0 p.1),
  λ h. let p = parts_none fs gs h in both_none bs cs (a.1 p.0) (b.1 p.1),
)

module _ (end : ℕ) where
  -- no breach and no fault, or the first breach is the least fault
  abbrev pub Leads : List Breach → List Breach → Type 0
  Leads [] fs = fs ≡ []
  Leads (b ∷ bs) fs = IsLeast end fs b

  abbrev Within : ℕ → ℕ → Breach → Type 0
  Within lo hi f = (lo ≤ offset_in end f.spot) × (offset_in end f.spot < hi)

  -- breaches and faults from one offset on and below another
  pub record Told (lo hi : ℕ) (bs fs : List Breach) : Type 0 where
    pub ascends : Between lo (offsets_in end bs) hi
    pub within : All (Within lo hi) fs
    pub leads : Leads bs fs

  pub told_nothing : (lo hi : ℕ) → lo ≤ hi → Told lo hi [] []
  told_nothing lo hi h = record { ascends = h; within = λ k d below. absurd (omega (arith, below)); leads = refl }

  pub told_lower : (lo from hi : ℕ) (bs fs : List Breach) → lo ≤ from → Told from hi bs fs → Told lo hi bs fs
  told_lower lo from hi bs fs h t = record {
    ascends = lower lo from hi (offsets_in end bs) h t.ascends;
    within = λ k d below. let w = t.within k d below in (omega (arith, h, w.0), w.1);
    leads = t.leads;
  }

  pub told_higher : (lo to hi : ℕ) (bs fs : List Breach) → to ≤ hi → Told lo to bs fs → Told lo hi bs fs
  told_higher lo to hi bs fs h t = record {
    ascends = higher lo to hi (offsets_in end bs) h t.ascends;
    within = λ k d below. let w = t.within k d below in (w.0, omega (arith, h, w.1));
    leads = t.leads;
  }

  offsets_append : (xs ys : List Breach) → offsets_in end (xs ++ ys) ≡ offsets_in end xs ++ offsets_in end ys
  offsets_append [] ys = refl
  offsets_append (x ∷ xs) ys = ap (λ l. offset_in end x.spot ∷ l) (offsets_append xs ys)

  leads_append : (lo mid hi : ℕ) (bs cs fs gs : List Breach) → Told lo mid bs fs → Told mid hi cs gs → Leads (bs ++ cs) (fs ++ gs)
  leads_append lo mid hi [] cs fs gs a b = subst (λ l. Leads cs (l ++ gs)) (sym a.leads) b.leads
  leads_append lo mid hi (x ∷ bs) cs fs gs a b =
      let below : offset_in end x.spot + 1 ≤ mid = most (offset_in end x.spot + 1) mid (offsets_in end bs) a.ascends.1 in
      let later : All (λ f. (f ≡ x) ⊎ IsBefore end x f) gs = λ k d h. let w = b.within k d h in inr (inl (omega (arith, below, w.0))) in
      record {
        one = Contains-append_left fs gs x a.leads.one;
        least =
            All-append (λ f. (f ≡ x) ⊎ IsBefore end x f) fs gs a.leads.least later;
      }

  pub told_append : (lo mid hi : ℕ) (bs cs fs gs : List Breach) → Told lo mid bs fs → Told mid hi cs gs → Told lo hi (bs ++ cs) (fs ++ gs)
  told_append lo mid hi bs cs fs gs a b =
      let first = most lo mid (offsets_in end bs) a.ascends in
      let last = most mid hi (offsets_in end cs) b.ascends in
      record {
        ascends = subst (λ l. Between lo l hi) (sym (offsets_append bs cs))
            (joined lo mid hi (offsets_in end bs) (offsets_in end cs) a.ascends b.ascends);
        within = All-append (Within lo hi) fs gs (told_higher lo mid hi bs fs last a).within (told_lower lo mid hi cs gs first b).within;
        leads = leads_append lo mid hi bs cs fs gs a b;
      }

  -- ---- within tokens

  pub record ToldIn (bs fs : List Breach) (ts : List Token) : Type 0 where
    pub told : (lo hi : ℕ) → Between lo (places ts) hi → Told lo hi bs fs
    pub none : AreNoneAlike bs fs

  cut : (lo hi : ℕ) (ts us : List Token) → Between lo (places (ts ++ us)) hi → (mid : ℕ) × Between lo (places ts) mid
      × Between mid (places us) hi
  cut lo hi ts us h = split lo hi (places ts) (places us) (subst (λ l. Between lo l hi) (places_append ts us) h)

  pub join : {bs cs fs gs : List Breach} {ts us : List Token} → ToldIn bs fs ts → ToldIn cs gs us → ToldIn (bs ++ cs) (fs ++ gs) (ts ++ us)
  join {bs} {cs} {fs} {gs} {ts} {us} a b = record {
    told = λ lo hi h. let s = cut lo hi ts us h in
        told_append lo s.0 hi bs cs fs gs (a.told lo s.0 s.1) (b.told s.0 hi s.2);
    none = none_append a.none b.none;
  }

  pub front : {bs fs : List Breach} {ts : List Token} (us : List Token) → ToldIn bs fs ts → ToldIn bs fs (ts ++ us)
  front {bs} {fs} {ts} us a = record {
    told = λ lo hi h. let s = cut lo hi ts us h in
        told_higher lo s.0 hi bs fs (most s.0 hi (places us) s.2) (a.told lo s.0 s.1);
    none = a.none;
  }

  pub behind : {bs fs : List Breach} {us : List Token} (ts : List Token) → ToldIn bs fs us → ToldIn bs fs (ts ++ us)
  behind {bs} {fs} {us} ts a = record {
    told = λ lo hi h. let s = cut lo hi ts us h in
        told_lower lo s.0 hi bs fs (most lo s.0 (places ts) s.1) (a.told s.0 hi s.2);
    none = a.none;
  }

  pub nothing : (ts : List Token) → ToldIn [] [] ts
  nothing ts = record { told = λ lo hi h. told_nothing lo hi (most lo hi (places ts) h); none = none_is_none }

  -- behind a breach nothing is told of the faults that follow
  pub hidden : {b : Breach} {cs fs gs : List Breach} {ts us : List Token} → ToldIn (b ∷ []) fs ts → ToldIn cs gs us →
      ToldIn (b ∷ []) (fs ++ gs) (ts ++ us)
  hidden {b} {cs} {fs} {gs} {ts} {us} x y = record {
    told = λ lo hi h.
        let s = cut lo hi ts us h in
        let one = x.told lo s.0 s.1 in
        let both = told_append lo s.0 hi (b ∷ []) cs fs gs one (y.told s.0 hi s.2) in
        record {
          ascends = (told_higher lo s.0 hi (b ∷ []) fs (most s.0 hi (places us) s.2) one).ascends;
          within = both.within;
          leads =
              both.leads;
        };
    none = (λ h. absurd (cc h), λ h. x.none.1 (parts_none fs gs h).0);
  }

-- the cause that is told at a place is the lowest of those that apply there
abbrev pub IsLowest : Option Cause → List Cause → Type 0
IsLowest None cs = cs ≡ []
IsLowest (Some c) cs = Contains cs c × All (λ d. (d ≡ c) ⊎ (number c < number d)) cs

contains_map : (f : Cause → Breach) (cs : List Cause) (c : Cause) → Contains cs c → Contains (map f cs) (f c)
contains_map f [] c h = absurd (omega (arith, h.1))
contains_map f (d ∷ cs) c (zero, below, is) = (0, omega arith, ap f is)
contains_map f (d ∷ cs) c (suc k, below, is) =
    Contains-append_right (f d ∷ []) (map f cs) (f c) (contains_map f cs c (k, omega (arith, below), is))

-- at one place
pub none_at : (l : Location) (k : Option Cause) (cs : List Cause) → IsLowest k cs → AreNoneAlike (at l k) (all_at l cs)
none_at l None cs low = (λ h. ap (all_at l) low, λ h. refl)
none_at l (Some c) [] low = absurd (omega (arith, low.0.1))
none_at l (Some c) (d ∷ cs) low = (λ h. absurd (cc h), λ h. absurd (cc h))

module _ (end : ℕ) (l : Location) where
  abbrev here : Cause → Breach
  here c = record { spot = Offset l.offset; cause = c }

  -- what is told at one place
  pub told_at : (k : Option Cause) (cs : List Cause) (lo hi : ℕ) → IsLowest k cs → lo ≤ l.offset → l.offset + 1 ≤ hi →
      Told end lo hi (at l k) (all_at l cs)
  told_at None cs lo hi low first last =
      subst (λ fs. Told end lo hi [] (all_at l fs)) (sym low) (told_nothing end lo hi (omega (arith, first, last)))
  told_at (Some c) cs lo hi low first last = record {
    ascends = (first, last);
    within = All-map (λ f. (lo ≤ offset_in end f.spot) × (offset_in end f.spot < hi)) here cs (λ k d below. (first, omega (arith, last)));
    leads = record {
      one = contains_map here cs c low.0;
      least = All-map (λ f. (f ≡ here c) ⊎ IsBefore end (here c) f) here cs (λ k d below. ranked (low.1 k d below));
    };
  }
    where
      ranked : {d : Cause} → (d ≡ c) ⊎ (number c < number d) → (here d ≡ here c) ⊎ IsBefore end (here c) (here d)
      ranked (inl is) = inl (ap here is)
      ranked (inr low) = inr (inr (refl, low))
