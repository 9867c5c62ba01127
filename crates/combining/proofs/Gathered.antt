-- What is collected in the places of a module, one item after the other, and what is taken out of them again.
use Rattle.std.proofs.Common.{◌≡◌, ℕ, ℤ, ◌<◌, List, length, set, Bool, Option, Some, None, refl, sym, ap, ◌∙◌, subst, arith, ⊎_elim, pos}
use Rattle.std.specs.Prelude.{if◌then◌else◌}
use Rattle.std.proofs.lemmas.List.{get_or-set_same, get_or-set_other, get_or_past}
use Rattle.std.proofs.lemmas.Bool.{cases_lt, cases_eq, lt-ltb, le-ltb}
use Rattle.pram_values.specs.declared.kind.Kind.{Kind}
use Rattle.pram_values.specs.Total.{IsMonoid}
use Rattle.pram_values.proofs.Totals.{neutral_right}
use Rattle.pram_model.specs.declared.rule.Rule.{Rule}
use Rattle.write_rules.specs.declared.entry.Entry.{Entry}
use Rattle.address_map.specs.Lawful.{Shape, IsOf, IsLawful}
use Rattle.superstep_machine.specs.Sending.{verdict_on, settled}
use Rattle.combining.specs.Gathering.{slot, value_at, Gathers, IsNoted, note, Notes, Owes}

-- different cells of a module lie apart
pub offsets_apart : (m : Shape) → IsLawful m → (j c d : ℕ) → IsOf m j c → IsOf m j d → m.offset c ≡ m.offset d → c ≡ d
offsets_apart m lawful j c d p q e =
    sym (lawful.back c p.below) ∙ ap (λ k. m.cell k (m.offset c)) (p.here ∙ sym q.here) ∙ ap (m.cell (m.part d)) e ∙ lawful.back d q.below

pub offset_within : (m : Shape) → IsLawful m → (j c : ℕ) → IsOf m j c → m.offset c < m.width j
offset_within m lawful j c p = subst (λ (k : ℕ). m.offset c < m.width k) p.here (lawful.offset_below c p.below)

-- one conflict more
pub note_one : (m : Shape) (j : ℕ) (found left after : ℕ → Option Kind) (d : ℕ) → IsOf m j d → after d ≡ None →
    ((c : ℕ) → IsOf m j c → (c ≡ d → ⊥) → after c ≡ left c)
    → (noted : Option (ℕ × Kind)) → IsNoted m j found left noted → IsNoted m j found after (note d (left d) noted)
note_one m j found left after d of gone same noted known = go (left d) refl noted known
  where
    stays : (k : Option Kind) → left d ≡ k → k ≡ None → (c : ℕ) → IsOf m j c → left c ≡ after c
    stays k e n c p = ⊎_elim (λ eq. subst (λ (x : ℕ). left x ≡ after x) (sym eq) (e ∙ n ∙ sym gone)) (λ ne. sym (same c p ne))
        (cases_eq c d)

    go : (k : Option Kind) → left d ≡ k → (noted : Option (ℕ × Kind)) → IsNoted m j found left noted →
        IsNoted m j found after (note d k noted)
    go None e None known = λ c p. known c p ∙ stays None e refl c p
    go None e (Some q) known = (known.0, known.1, λ c p l. known.2 c p l ∙ stays None e refl c p)
    go (Some k) e None known = (of, known d of ∙ e, λ c p l. known c p ∙ sym (same c p (λ f. absurd (omega arith))))
    go (Some k) e (Some q) known =
        ⊎_elim
        (λ lt.
        subst (λ (b : Bool). IsNoted m j found after (if b then Some (d, k) else Some q)) (sym (lt-ltb d q.0 lt))
        (of, known.2 d of lt ∙ e, λ c p l. known.2 c p (omega arith) ∙ sym (same c p (λ f. absurd (omega arith)))))
        (λ ge.
        subst (λ (b : Bool). IsNoted m j found after (if b then Some (d, k) else Some q)) (sym (le-ltb d q.0 ge))
        (known.0, known.1, λ c p l. known.2 c p l ∙ sym (same c p (λ f. absurd (omega arith)))))
        (cases_lt d q.0)

module _ {E : Type 0} (op : Option E → Option E → Option E) (monoid : IsMonoid (Option E) None op) (m : Shape) (lawful : IsLawful m)
    (j : ℕ) where
  -- the same is still to come
  pub Gathers_same : (whole : ℕ → Option E) (slots : List (Option E)) (rest other : ℕ → Option E) → ((c : ℕ) → rest c ≡ other c) →
      Gathers m j op whole slots rest → Gathers m j op whole slots other
  Gathers_same whole slots rest other same known c p = ap (op (slot slots (m.offset c))) (sym (same c)) ∙ known c p

  pub Notes_same : (judge : Option E → Option Kind) (start : ℕ → Option E) (slots : List (Option E)) (noted : Option (ℕ × Kind))
      (rest other : ℕ → Option E)
      → ((c : ℕ) → rest c ≡ other c) → Notes m j judge start slots noted rest → Notes m j judge start slots noted other
  Notes_same judge start slots noted rest other same known = record { least = known.least; gone = λ c p e. known.gone c p (same c ∙ e) }

  -- an item that gives nothing to any cell
  module _ (item rest : ℕ → Option E) (nothing : (c : ℕ) → item c ≡ None) where
    passes : (c : ℕ) → op (item c) (rest c) ≡ rest c
    passes c = ap (λ x. op x (rest c)) (nothing c) ∙ monoid.neutral (rest c)

    pub gather_none : (whole : ℕ → Option E) (slots : List (Option E)) → Gathers m j op whole slots (λ c. op (item c) (rest c)) →
        Gathers m j op whole slots rest
    gather_none whole slots known = Gathers_same whole slots (λ c. op (item c) (rest c)) rest passes known

    pub note_none : (judge : Option E → Option Kind) (start : ℕ → Option E) (slots : List (Option E)) (noted : Option (ℕ × Kind))
        → Notes m j judge start slots noted (λ c. op (item c) (rest c)) → Notes m j judge start slots noted rest
    note_none judge start slots noted known = Notes_same judge start slots noted (λ c. op (item c) (rest c)) rest passes known

  -- an item for cell d alone
  module _ (slots : List (Option E)) (size : length slots ≡ m.width j) (d : ℕ) (of : IsOf m j d) where
    within : m.offset d < length slots
    within = let w = offset_within m lawful j d of in omega arith

    pub slot_here : (x : Option E) → slot (set slots (m.offset d) x) (m.offset d) ≡ x
    slot_here x = get_or-set_same slots (m.offset d) x None within

    pub slot_other : (c : ℕ) (x : Option E) → IsOf m j c → (c ≡ d → ⊥) → slot (set slots (m.offset d) x)
        (m.offset c) ≡ slot slots (m.offset c)
    slot_other c x p h = get_or-set_other slots (m.offset d) (m.offset c) x None (λ e. h (offsets_apart m lawful j c d p of e))

    module _ (item rest : ℕ → Option E) (others : (c : ℕ) → (c ≡ d → ⊥) → item c ≡ None) where
      pub gather_one : (whole : ℕ → Option E) (made : E) → Some made ≡ op (slot slots (m.offset d)) (item d)
          → Gathers m j op whole slots (λ c. op (item c) (rest c)) → Gathers m j op whole (set slots (m.offset d) (Some made)) rest
      gather_one whole made e known c p =
          ⊎_elim
          (λ eq.
          subst (λ (k : ℕ). op (slot (set slots (m.offset d) (Some made)) (m.offset k)) (rest k) ≡ whole k) (sym eq)
          (ap (λ x. op x (rest d)) (slot_here (Some made) ∙ e) ∙ monoid.associative (slot slots (m.offset d)) (item d) (rest d)
          ∙ known d of))
          (λ ne.
          ap (λ x. op x (rest c)) (slot_other c (Some made) p ne)
          ∙ sym (ap (λ x. op (slot slots (m.offset c)) x) (ap (λ x. op x (rest c)) (others c ne) ∙ monoid.neutral (rest c)))
          ∙ known c p)
          (cases_eq c d)

      pub note_taken : (judge : Option E → Option Kind) → judge None ≡ None → (start : ℕ → Option E) (noted : Option (ℕ × Kind))
          → Notes m j judge start slots noted (λ c. op (item c) (rest c)) →
          Notes m j judge start (set slots (m.offset d) None) (note d (judge (slot slots (m.offset d))) noted) rest
      note_taken judge quiet start noted known = record {
        least = note_one m j (λ c. judge (start c)) (λ c. judge (slot slots (m.offset c)))
            (λ c. judge (slot (set slots (m.offset d) None) (m.offset c))) d of
            (ap judge (slot_here None) ∙ quiet)
            (λ c p ne. ap judge (slot_other c None p ne))
            noted known.least;
        gone = λ c p e.
            ⊎_elim
            (λ eq. subst (λ (k : ℕ). slot (set slots (m.offset d) None) (m.offset k) ≡ None) (sym eq) (slot_here None))
            (λ ne. slot_other c None p ne ∙ known.gone c p (ap (λ x. op x (rest c)) (others c ne) ∙ monoid.neutral (rest c) ∙ e))
            (cases_eq c d);
      }

  -- all is gathered, and then all is taken out: the slots are empty, and the least conflict is noted
  module _ (part : j < m.parts) (judge : Option E → Option Kind) (quiet : judge None ≡ None) (all : ℕ → Option E)
      (slots0 slots1 slots2 : List (Option E)) (size : length slots2 ≡ m.width j)
      (empty : (o : ℕ) → slot slots0 o ≡ None)
      (gathered : (whole : ℕ → Option E) → Gathers m j op whole slots0 all → Gathers m j op whole slots1 (λ c. None))
      (noted : Option (ℕ × Kind)) (took : Notes m j judge all slots1 None all → Notes m j judge all slots2 noted (λ c. None))
    where
      pub held : (c : ℕ) → IsOf m j c → slot slots1 (m.offset c) ≡ all c
      held c p = sym (neutral_right None op monoid (slot slots1 (m.offset c)))
          ∙ gathered all (λ d q. ap (λ x. op x (all d)) (empty (m.offset d)) ∙ monoid.neutral (all d)) c p

      done : Notes m j judge all slots2 noted (λ c. None)
      done = took (record { least = λ c p. sym (ap judge (held c p)); gone = λ c p e. held c p ∙ e })

      pub nothing_left : (c : ℕ) → IsOf m j c → slot slots2 (m.offset c) ≡ None
      nothing_left c p = done.gone c p refl

      calm : (c : ℕ) → IsOf m j c → judge (slot slots2 (m.offset c)) ≡ None
      calm c p = ap judge (nothing_left c p) ∙ quiet

      pub none_noted : noted ≡ None → (c : ℕ) → IsOf m j c → judge (all c) ≡ None
      none_noted e c p = (subst (λ (x : Option (ℕ × Kind)). IsNoted m j (λ c. judge (all c)) (λ c. judge (slot slots2 (m.offset c))) x) e
          done.least) c p ∙ calm c p

      pub least_noted : (c : ℕ) (k : Kind) → noted ≡ Some (c, k) → IsOf m j c × (judge (all c) ≡ Some k)
          × ((d : ℕ) → IsOf m j d → d < c → judge (all d) ≡ None)
      least_noted c k e =
          let l = subst (λ (x : Option (ℕ × Kind)). IsNoted m j (λ c. judge (all c)) (λ c. judge (slot slots2 (m.offset c))) x) e
          done.least in
          (l.0, l.1, λ d p b. l.2 d p b ∙ calm d p)

      pub is_empty : (o : ℕ) → slot slots2 o ≡ None
      is_empty o =
          ⊎_elim
          (λ l.
          let b : o < m.width j = omega arith in
          subst (λ (k : ℕ). slot slots2 k ≡ None) (lawful.again j o part b) (nothing_left (m.cell j o) (lawful.forth j o part b)))
          (λ l. get_or_past slots2 o None l)
          (cases_lt o (length slots2))

-- a value that is settled
module _ (m : Shape) (lawful : IsLawful m) (rule : Rule) (j : ℕ) (slots : List (Option Entry)) (size : length slots ≡ m.width j)
    (values : List ℤ) (long : length values ≡ m.width j) (d : ℕ) (of : IsOf m j d) where
  pub settle_one : (due : ℕ → ℤ) → Owes m rule j due slots values
      → Owes m rule j due (set slots (m.offset d) None)
      (set values (m.offset d) (settled (verdict_on rule (slot slots (m.offset d))) (value_at values (m.offset d))))
  settle_one due known c p =
      let o = m.offset d in
      let v = settled (verdict_on rule (slot slots o)) (value_at values o) in
      let room : o < length values = (let w = offset_within m lawful j d of in omega arith) in
      ⊎_elim
      (λ eq.
      subst (λ (k : ℕ). settled (verdict_on rule (slot (set slots o None) (m.offset k))) (value_at (set values o v) (m.offset k)) ≡ due k)
      (sym eq)
      (ap (λ (x : Option Entry). settled (verdict_on rule x) (value_at (set values o v) o))
      (get_or-set_same slots o None None (omega arith)) ∙ get_or-set_same values o v (pos 0) room ∙ known d of))
      (λ ne.
      let apart : m.offset c ≡ o → ⊥ = λ e. ne (offsets_apart m lawful j c d p of e) in
      ap (λ (x : Option Entry). settled (verdict_on rule x) (value_at (set values o v) (m.offset c)))
      (get_or-set_other slots o (m.offset c) None None apart)
      ∙ ap (settled (verdict_on rule (slot slots (m.offset c)))) (get_or-set_other values o (m.offset c) v (pos 0) apart)
      ∙ known c p)
      (cases_eq c d)
