-- One processor's attempt beside its whole evaluation: the fault that it tells, and what of its trail is left.
use Rattle.std.proofs.Common.{◌≡◌, ◌⊎◌, inl, inr, ℕ, zero, suc, ◌+◌, ◌<◌, ◌≤◌, List, [], ◌∷◌, ◌++◌, length, get_or, length-append}
use Rattle.std.proofs.Common.{append_assoc, append-nil, true, false, if◌then◌else◌, Option, Some, None, ℤ, refl, sym, ap, ◌∙◌, subst, arith}
use Rattle.pram_values.specs.declared.kind.Kind.{Kind}
use Rattle.pram_values.specs.declared.place.Place.{Place}
use Rattle.pram_values.specs.declared.place.Place.TheVariants.{All, Processor}
use Rattle.pram_values.specs.Total.{total}
use Rattle.superstep_machine.specs.declared.key.Key.{Key}
use Rattle.superstep_machine.specs.Keys.{is_first, least}
use Rattle.superstep_machine.proofs.KeyOrder.{keys_are_monoid, by_lesser_position, by_lesser_class}
use Rattle.pram_meaning.specs.Attempt.{Gives, Trail, Effect}
use Rattle.pram_meaning.specs.Conflict.{fault_of, trail_of}
use Rattle.pram_meaning.specs.Together.{alone}
use Rattle.statement_evaluation.specs.Whole.{Step, unless_noted, upto}
use Rattle.statement_evaluation.specs.Rows.{trail}
use Rattle.statement_evaluation.specs.Noted.{Heading, note_key, notes_behind}
use Rattle.statement_evaluation.specs.LeastFaults.{told, unless_told, AloneIsNoted}

-- ---- a key that is told before all behind it

stays : (a b : Key) → is_first a b ≡ true → least (Some a) (Some b) ≡ Some a
stays a b h = ap (λ c. let x : Key = if c then a else b in Some x) h

pub past_notes : (h : Heading) (place : Place) (k : Key) (ss : List Step) (q : ℕ) → k.count ≡ h.count → k.position ≤ q →
    least (Some k) (notes_behind h q place ss) ≡ Some k
past_notes h place k [] q e l = refl
past_notes h place k (s ∷ ss) q e l = go s.note (past_notes h place k ss (q + 1) e (omega arith))
  where
    go : (n : Option Kind) → least (Some k) (notes_behind h (q + 1) place ss) ≡ Some k →
        least (Some k) (least (note_key h (q + 1) place n) (notes_behind h (q + 1) place ss)) ≡ Some k
    go None r = r
    go (Some kind) r =
        let j : Key = record { count = h.count; position = q + 1; conflict = false; place = place; kind = kind; line = h.line } in
        sym (keys_are_monoid.associative (Some k) (Some j) (notes_behind h (q + 1) place ss))
        ∙ ap (λ x. least x (notes_behind h (q + 1) place ss)) (stays k j (by_lesser_position k j e (omega arith)))
        ∙ r

longer : (t : Trail) (c : Option ℕ) → length (t ++ c ∷ []) ≡ length t + 1
longer t c = length-append t (c ∷ [])

-- ---- the fault that it tells is its least note

pub fault_is_note : (h : Heading) (i : ℤ) (ss : List Step) (x : Effect) (t : Trail) →
    total None least (λ k. told h (Some k)) (fault_of i (upto t ss x)) ≡ notes_behind h (length t) (Processor i) ss
fault_is_note h i [] x t = refl
fault_is_note h i (s ∷ ss) x t = go s.note (fault_is_note h i ss x (t ++ s.cell ∷ []))
  where
    go : (n : Option Kind) → total None least (λ k. told h (Some k)) (fault_of i (upto (t ++ s.cell ∷ []) ss x))
        ≡ notes_behind h (length (t ++ s.cell ∷ [])) (Processor i) ss →
        total None least (λ k. told h (Some k)) (fault_of i (unless_noted n t (upto (t ++ s.cell ∷ []) ss x)))
        ≡ least (note_key h (length t + 1) (Processor i) n) (notes_behind h (length t + 1) (Processor i) ss)
    go None r = r ∙ ap (λ q. notes_behind h q (Processor i) ss) (longer t s.cell)
    go (Some kind) r =
        let k : Key = record {
          count = h.count;
          position = length t + 1;
          conflict = false;
          place = Processor i;
          kind = kind;
          line =
              h.line;
        } in
        ap (λ q. let x : Key = record {
          count = h.count;
          position = q;
          conflict = false;
          place = Processor i;
          kind = kind;
          line =
              h.line;
        } in Some x) (longer t None)
        ∙ sym (past_notes h (Processor i) k ss (length t + 1) refl (omega arith))

-- outside pardo
pub alone_is_noted : (A : Type 0) → AloneIsNoted A
alone_is_noted A h w = from w.steps []
  where
    from : (ss : List Step) (t : Trail) → alone h.line (upto t ss w.value) ≡ unless_told (notes_behind h (length t) All ss) w.value
    from [] t = refl
    from (s ∷ ss) t = go s.note (from ss (t ++ s.cell ∷ []))
      where
        go : (n : Option Kind) → alone h.line (upto (t ++ s.cell ∷ []) ss w.value)
            ≡ unless_told (notes_behind h (length (t ++ s.cell ∷ [])) All ss) w.value →
            alone h.line (unless_noted n t (upto (t ++ s.cell ∷ []) ss w.value))
            ≡ unless_told (least (note_key h (length t + 1) All n) (notes_behind h (length t + 1) All ss)) w.value
        go None r = r ∙ ap (λ q. unless_told (notes_behind h q All ss) w.value) (longer t s.cell)
        go (Some kind) r =
            let k : Key = record { count = h.count; position = length t + 1; conflict = false; place = All; kind = kind; line = h.line } in
            sym (ap (λ x. unless_told x w.value) (past_notes h All k ss (length t + 1) refl (omega arith)))

-- ---- what is left of its trail

abbrev pub left_after : Option Kind → Option ℕ → Trail → Trail
left_after None c rest = c ∷ rest
left_after (Some kind) c rest = None ∷ []

-- the positions up to the first note
abbrev pub left : List Step → Trail
left [] = []
left (s ∷ ss) = left_after s.note s.cell (left ss)

pub trail_left : {A : Type 0} (ss : List Step) (x : A) (t : Trail) → trail_of (upto t ss x) ≡ t ++ left ss
trail_left [] x t = sym (append-nil t)
trail_left (s ∷ ss) x t = go s.note (trail_left ss x (t ++ s.cell ∷ []))
  where
    go : (n : Option Kind) → trail_of (upto (t ++ s.cell ∷ []) ss x) ≡ (t ++ s.cell ∷ []) ++ left ss →
        trail_of (unless_noted n t (upto (t ++ s.cell ∷ []) ss x)) ≡ t ++ left_after n s.cell (left ss)
    go None r = r ∙ append_assoc t (s.cell ∷ []) (left ss)
    go (Some kind) r = refl

pub left_length : (ss : List Step) → length (left ss) ≤ length ss
left_length [] = omega arith
left_length (s ∷ ss) = go s.note (left_length ss)
  where
    go : (n : Option Kind) → length (left ss) ≤ length ss → length (left_after n s.cell (left ss)) ≤ suc (length ss)
    go None r = omega arith
    go (Some kind) r = omega arith

-- what it reads it also reads if it goes on
pub left_reads : (ss : List Step) (d c : ℕ) → get_or (left ss) d None ≡ Some c → get_or (trail ss) d None ≡ Some c
left_reads [] d c = λ e. absurd (cc e)
left_reads (s ∷ ss) d c = go (λ d. left_reads ss d c) s.note d
  where
    go : ((d : ℕ) → get_or (left ss) d None ≡ Some c → get_or (trail ss) d None ≡ Some c) → (n : Option Kind) (d : ℕ) →
        get_or (left_after n s.cell (left ss)) d None ≡ Some c → get_or (trail (s ∷ ss)) d None ≡ Some c
    go r None zero e = e
    go r None (suc d) e = r d e
    go r (Some kind) zero e = absurd (cc e)
    go r (Some kind) (suc d) e = absurd (cc e)

-- ---- a note hides all conflicts from its position on

-- each conflict at position q
pub record Covers (h : Heading) (q : ℕ) (o : Option Key) : Type 0 where
  pub hides : (j : Key) → j.count ≡ h.count → j.position ≡ q → j.conflict ≡ true → least o (Some j) ≡ o

pub covers_left : (h : Heading) (q : ℕ) (o p : Option Key) → Covers h q o → Covers h q (least o p)
covers_left h q o p c = record {
  hides = λ j a b e.
      keys_are_monoid.associative o p (Some j) ∙ ap (least o) (keys_are_monoid.commutative p (Some j))
      ∙ sym (keys_are_monoid.associative o (Some j) p) ∙ ap (λ x. least x p) (c.hides j a b e);
}

pub covers_right : (h : Heading) (q : ℕ) (o p : Option Key) → Covers h q p → Covers h q (least o p)
covers_right h q o p c = record { hides = λ j a b e. keys_are_monoid.associative o p (Some j) ∙ ap (least o) (c.hides j a b e) }

cases_le : (r q : ℕ) → r ≤ q → (r ≡ q) ⊎ (r < q)
cases_le zero zero l = inl refl
cases_le zero (suc q) l = inr (omega arith)
cases_le (suc r) zero l = absurd (omega arith)
cases_le (suc r) (suc q) l = elim (cases_le r q (omega arith)) [ inl e ↦ inl (ap suc e) | inr m ↦ inr (omega arith) ]

note_covers : (h : Heading) (place : Place) (kind : Kind) (r q : ℕ) → r ≤ q → Covers h q (note_key h r place (Some kind))
note_covers h place kind r q l = record { hides = λ j a b e. stays k j (first j a b e (cases_le r q l)) }
  where
    k : Key
    k = record { count = h.count; position = r; conflict = false; place = place; kind = kind; line = h.line }

    first : (j : Key) → j.count ≡ h.count → j.position ≡ q → j.conflict ≡ true → (r ≡ q) ⊎ (r < q) → is_first k j ≡ true
    first j a b e (inl s) = by_lesser_class k j (sym a) (s ∙ sym b) refl e
    first j a b e (inr l) = by_lesser_position k j (sym a) (subst (λ x. r < x) (sym b) l)

-- at a position behind k + d others a note covers its conflicts, or the cell that is read is the same
pub kept_at : (h : Heading) (place : Place) (ss : List Step) (k d : ℕ) →
    Covers h (k + d + 1) (notes_behind h k place ss) ⊎ (get_or (left ss) d None ≡ get_or (trail ss) d None)
kept_at h place [] k d = inr refl
kept_at h place (s ∷ ss) k d = go (λ d. kept_at h place ss (k + 1) d) s.note d
  where
    rest : Option Key
    rest = notes_behind h (k + 1) place ss

    go : ((d : ℕ) → Covers h (k + 1 + d + 1) rest ⊎ (get_or (left ss) d None ≡ get_or (trail ss) d None)) → (n : Option Kind) (d : ℕ) →
        Covers h (k + d + 1) (least (note_key h (k + 1) place n) rest)
        ⊎ (get_or (left_after n s.cell (left ss)) d None ≡ get_or (trail (s ∷ ss)) d None)
    go r (Some kind) d = inl (covers_left h (k + d + 1) (note_key h (k + 1) place (Some kind)) rest
        (note_covers h place kind (k + 1) (k + d + 1) (omega arith)))
    go r None zero = inr refl
    go r None (suc d) = elim (r d) [
      | inl c ↦ inl (subst (λ q. Covers h q rest) (let e : k + 1 + d + 1 ≡ k + suc d + 1 = omega arith in e) c)
      | inr e ↦ inr e
    ]

-- a note covers the conflicts at the last position, or the attempt gives the value
pub kept_whole : (h : Heading) (place : Place) {A : Type 0} (ss : List Step) (x : A) (t : Trail) (k : ℕ) →
    Covers h (k + length ss) (notes_behind h k place ss) ⊎ (upto t ss x ≡ Gives (t ++ trail ss) x)
kept_whole h place [] x t k = inr (ap (λ u. Gives u x) (sym (append-nil t)))
kept_whole h place (s ∷ ss) x t k = go (kept_whole h place ss x (t ++ s.cell ∷ []) (k + 1)) s.note
  where
    rest : Option Key
    rest = notes_behind h (k + 1) place ss

    go : Covers h (k + 1 + length ss) rest ⊎ (upto (t ++ s.cell ∷ []) ss x ≡ Gives ((t ++ s.cell ∷ []) ++ trail ss) x) → (n : Option Kind) →
        Covers h (k + suc (length ss)) (least (note_key h (k + 1) place n) rest)
        ⊎ (unless_noted n t (upto (t ++ s.cell ∷ []) ss x) ≡ Gives (t ++ s.cell ∷ trail ss) x)
    go r (Some kind) =
        inl (covers_left h (k + suc (length ss)) (note_key h (k + 1) place (Some kind)) rest
        (note_covers h place kind (k + 1) (k + suc (length ss)) (omega arith)))
    go r None = elim r [
      | inl c ↦ inl (subst (λ q. Covers h q rest) (let e : k + 1 + length ss ≡ k + suc (length ss) = omega arith in e) c)
      | inr e ↦ inr (e ∙ ap (λ u. Gives u x) (append_assoc t (s.cell ∷ []) (trail ss)))
    ]
