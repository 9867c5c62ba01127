-- A `for` on its way.
use Rattle.std.proofs.Common.{◌≡◌, ◌⊎◌, inl, inr, ℕ, ℤ, pos, ◌+ℤ◌, ◌≤ℤ◌, ◌<ℤ◌, List, Bool, true, false, refl, sym, subst, ap, ◌∙◌, arith}
use Rattle.std.proofs.lemmas.Int.{ints, by_lt_z}
use Rattle.pram_model.specs.Layout.{width}
use Rattle.pram_check.specs.Checked.{Checked}
use Rattle.pram_names.specs.declared.body.Statement.{Statement}
use Rattle.pram_meaning.specs.Bounded.{Done, counted, for_turns, perform_list, then_do}
use Rattle.pram_meaning.specs.Store.{State, with_uniform}
use Rattle.pram_meaning.proofs.ForLoops.{width_more, width_none}
use Rattle.abstract_runs.specs.declared.standing.Standing.{Standing}
use Rattle.all_inputs.specs.declared.told.Told.{Told}
use Rattle.abstract_runs.specs.Leads.{Leads}
use Rattle.abstract_runs.specs.Standing.{IsKnownAs, StandsFor}
use Rattle.all_inputs.specs.Told.{IsKept}
use Rattle.abstract_runs.proofs.Coming.{Comes, comes_leads, comes_on, then_comes}
use Rattle.abstract_runs.proofs.Leading.{leads_then, kept_same, kept_then}

cases_lt_z : (a z : ℤ) → (a <ℤ z) ⊎ (z ≤ℤ a)
cases_lt_z a z = by_lt_z a z inl inr

module _ (p : Checked) (n x : ℕ) (body : List Statement) where
  abbrev pub turns_from : ℤ → ℤ → State → Done
  turns_from next last = for_turns n (width next last) x next (perform_list p n body)

  pub record InFor (first last next end : ℤ) (before known : Standing) (told : Told) : Type 0 where
    pub comes : (m : State) → StandsFor before m → Comes (StandsFor known) told (turns_from next last) (turns_from first last m)
    pub within : next ≤ℤ last
    pub to : end ≡ last

  pub for_starts : (first last end : ℤ) (known : Standing) (told : Told) → first ≤ℤ last → end ≡ last →
      InFor first last first end known known told
  for_starts first last end known told within to = record {
    comes = λ m h. inr (record { state = m; same = refl; stands = h });
    within = within;
    to = to;
  }

  -- no number
  pub none_leads : (first last : ℤ) (known : Standing) (told : Told) → last <ℤ first → (m : State) → StandsFor known m →
      Leads (λ u s. (true ≡ true) × StandsFor known s) told (turns_from first last m)
  none_leads first last known told none m h =
      subst (λ k. Leads (λ u s. (true ≡ true) × StandsFor known s) told (for_turns n k x first (perform_list p n body) m))
      (sym (width_none first last none)) (refl, h)

  -- the next turn, and what is left behind it
  abbrev turn : ℤ → ℤ → State → Done
  turn next last m =
      then_do (counted n m) (λ u m. then_do (perform_list p n body (with_uniform x next m)) (λ u. turns_from (next +ℤ pos 1) last))

  opened : (next last : ℤ) (m : State) → next ≤ℤ last → turns_from next last m ≡ turn next last m
  opened next last m h = ap (λ k. for_turns n k x next (perform_list p n body) m) (width_more next last h)

  module _ (first last next end : ℤ) (before known begun set new : Standing) (told mid more : Told) (on : Bool)
      (i : InFor first last next end before known told) (k : IsKept told mid) (l : IsKept mid more)
      (begins : (m : State) → IsKnownAs known m → Leads (λ u s. (true ≡ true) × IsKnownAs begun s × (s.team ≡ m.team)) mid (counted n m))
      (sets : (m : State) → IsKnownAs begun m → IsKnownAs set (with_uniform x next m))
      (does : (m : State) → StandsFor set m → Leads (λ u s. (on ≡ true) × StandsFor new s) more (perform_list p n body m)) where
    one_turn : (Q : Unit {0} → State → Type 0) → ((s : State) → on ≡ true → StandsFor new s → Leads Q more (turns_from (next +ℤ pos 1) last s)) →
        (m : State) → StandsFor known m → Leads Q more (turns_from next last m)
    one_turn Q behind m h =
        subst (Leads Q more) (sym (opened next last m i.within))
        (leads_then _ Q mid more (counted n m) _ (begins m h.known_as) l
        (λ u s g. leads_then (λ u s. (on ≡ true) × StandsFor new s) Q more more (perform_list p n body (with_uniform x next s)) _
        (does (with_uniform x next s) (record { known_as = sets s g.1; team = g.2 ∙ h.team })) (kept_same more)
        (λ u s f. behind s f.0 f.1)))

    pub turn_leads : (Q : Unit {0} → State → Type 0) →
        ((s : State) → on ≡ true → StandsFor new s → Leads Q more (turns_from (next +ℤ pos 1) last s)) →
        (m : State) → StandsFor before m → Leads Q more (turns_from first last m)
    turn_leads Q behind m h =
        comes_leads (StandsFor known) Q told more (turns_from next last) (turns_from first last m) (i.comes m h) (kept_then told mid more k l)
        (one_turn Q behind)

    pub turn_goes : (later : ℤ) → later ≡ next +ℤ pos 1 → (further : ℤ) → further ≡ end → ¬ (next ≡ end) →
        InFor first last later further before new more
    turn_goes later e further f more_left = record {
      comes = λ m h. comes_on (StandsFor known) (StandsFor new) told more (turns_from next last) (turns_from later last) (turns_from first last m)
          (i.comes m h) (kept_then told mid more k l)
          (λ m here. subst (Comes (StandsFor new) more (turns_from later last)) (sym (opened next last m i.within))
          (then_comes _ (StandsFor new) mid more (turns_from later last) (counted n m) _ (begins m here.known_as) l
          (λ u s g. then_comes (λ u s. (on ≡ true) × StandsFor new s) (StandsFor new) more more (turns_from later last)
          (perform_list p n body (with_uniform x next s)) _
          (does (with_uniform x next s) (record { known_as = sets s g.1; team = g.2 ∙ here.team })) (kept_same more)
          (λ u s d. inr (record { state = s; same = ap (λ z. turns_from z last s) (sym e); stands = d.1 })))));
      within = further_within;
      to = f ∙ i.to;
    }
      where
        at_end : next ≡ last → ⊥
        at_end h = more_left (h ∙ sym i.to)

        further_within : later ≤ℤ last
        further_within = let w = i.within in
            elim (cases_lt_z next last) [
              | inl l ↦ omega (arith, ints, e, l)
              | inr g ↦ absurd (at_end (omega (arith, ints, w, g)))
            ]

    -- at the last number
    pub last_leads : next ≡ end → (m : State) → StandsFor before m → Leads (λ u s. (true ≡ true) × StandsFor new s) more (turns_from first last m)
    last_leads at = turn_leads (λ u s. (true ≡ true) × StandsFor new s)
        (λ s up stands. subst (λ w. Leads (λ u s. (true ≡ true) × StandsFor new s) more (for_turns n w x (next +ℤ pos 1) (perform_list p n body) s))
        (sym (width_none (next +ℤ pos 1) last (let w = i.within in let t = i.to in omega (arith, ints, at, t)))) (refl, stands))

    -- a body behind which no run goes on
    pub stop_leads : (Q : Unit {0} → State → Type 0) → on ≡ false → (m : State) → StandsFor before m → Leads Q more (turns_from first last m)
    stop_leads Q none = turn_leads Q (λ s up stands. absurd (cc (sym none ∙ up)))

  -- a turn that no run begins
  pub unbegun_leads : (first last next end : ℤ) (before known begun : Standing) (told mid : Told) (Q : Unit {0} → State → Type 0) →
      InFor first last next end before known told → IsKept told mid →
      ((m : State) → IsKnownAs known m → Leads (λ u s. (false ≡ true) × IsKnownAs begun s × (s.team ≡ m.team)) mid (counted n m)) →
      (m : State) → StandsFor before m → Leads Q mid (turns_from first last m)
  unbegun_leads first last next end before known begun told mid Q i k begins m h =
      comes_leads (StandsFor known) Q told mid (turns_from next last) (turns_from first last m) (i.comes m h) k
      (λ m here. subst (Leads Q mid) (sym (opened next last m i.within))
      (leads_then _ Q mid mid (counted n m) _ (begins m here.known_as) (kept_same mid) (λ u s g. absurd (cc (g.0)))))
