-- What was told of moments of which a beginning was heard, as long as there was time.
use Rattle.std.proofs.Common.{◌≡◌, ◌∙◌, ◌++◌, ◌∷◌, ◌+◌, ◌≤◌, ℕ, ℤ, List, [], None, Option, Some, ap, append-nil, arith, refl, subst, sym}
use Rattle.std.specs.Prelude.{Result, Ok, Err}
use Rattle.std.specs.Borrow.{Bor}
use Rattle.std.specs.Result.{IfOk, OnOk}
use Rattle.std.specs.List.{flat_map}
use Rattle.pram_check.specs.Checked.{Checked}
use Rattle.pram_meaning.specs.Listening.{GaveUp, HasHeardPart, HeardFirst}
use Rattle.pram_meaning.specs.Moments.{Alone, Closed, Moment, Together, run_moments}
use Rattle.pram_meaning.specs.Outcome.{IsOutcome}
use Rattle.pram_meaning.specs.declared.observation.MeaningRefusal.{MeaningRefusal}
use Rattle.pram_meaning.specs.declared.observation.MeaningRefusal.TheVariants.{InputTooLong, OutOfMemory}
use Rattle.write_rules.specs.Verdict.{GoesOn, verdict_of}
use Rattle.write_rules.specs.declared.outcome.Outcome.{Outcome}
use Rattle.journal.specs.declared.telling_in_time.Ending.{Ending}
use Rattle.journal.specs.declared.in_time.Cut.{Cut}
use Rattle.journal.specs.Entries.{Entry}
use Rattle.journal.specs.RunEntries.{by_one, by_set, entries_of, run_entries}
use Rattle.journal.specs.HeardLaws.{Broken, Heard, Left, Unmade}
use Rattle.journal.specs.InTime.{EndsBy, GaveUpAt, IsBegun, IsOver, ending_of}
use Rattle.journal.specs.Telling.{HasToldPart}
use Rattle.journal.proofs.Complete.{part_heard}
use Rattle.journal.proofs.Cuts.{cut_at}
use Rattle.journal.proofs.Told.{TellsOn}

-- a statement that begins has an entry
entry_of : (p : Checked) (m : Moment) (count : ℕ) (output : List ℤ) → IsBegun m count output → (e : Entry) × (entries_of p m ≡ e ∷ [])
entry_of p (Alone here act before tried behind) count output begun = (by_one p here act before tried behind, refl)
entry_of p (Together here act before xs key behind) count output begun = (by_set p here act before xs key behind, refl)
entry_of p Closed count output begun = absurd begun

module _ {T : Type 0} (Tells : T → List Entry → T → Type 0) (BreaksOff : T → Entry → T → Type 0) where
  -- what was told couldn't be shown: the telling broke off at the statement
  pub broken_at_it : ((t : T) → Tells t [] t) → (p : Checked) (old new : T) (m : Moment) (count : ℕ) (output : List ℤ) →
      IsBegun m count output → ((e : Entry) → BreaksOff old e new) → Left Tells BreaksOff p old m new
  broken_at_it nothing p old new m count output begun broken =
      let e = entry_of p m count output begun in Broken e.0 old e.1 (nothing old) (broken e.0)

  -- what was left was shown before
  pub left_behind : TellsOn Tells → (p : Checked) (old mid new : T) (m : Moment) → Tells old [] mid → Left Tells BreaksOff p mid m new →
      Left Tells BreaksOff p old m new
  left_behind on p old mid new m shown (Unmade w) = Unmade (on old mid new [] [] shown w)
  left_behind on p old mid new m shown (Broken e between one w b) = Broken e between one (on old mid between [] [] shown w) b

  -- without a cut it is what was left
  pub gave_left : (p : Checked) (until : Option ℕ) (old new : T) (m : Moment) (cut : Option Cut) → cut ≡ None →
      Left Tells BreaksOff p old m new → GaveUpAt Tells BreaksOff p until old m new cut
  gave_left p until old new m cut none left = subst (GaveUpAt Tells BreaksOff p until old m new) (sym none) left

  pub gave_behind : TellsOn Tells → (p : Checked) (until : Option ℕ) (old mid new : T) (m : Moment) (cut : Option Cut) → Tells old [] mid →
      GaveUpAt Tells BreaksOff p until mid m new cut → GaveUpAt Tells BreaksOff p until old m new cut
  gave_behind on p until old mid new m None shown left = left_behind on p old mid new m shown left
  gave_behind on p until old mid new m (Some c) shown over = record {
    told = on old mid new [] [] shown over.told;
    begun = over.begun;
    timed = over.timed;
  }

-- the program behind the same reference
pub same_program : (a b : Bor Checked) → b ≡ a → b.now ≡ a.now
same_program a b same = ap (λ (r : Bor Checked). r.now) same

-- what is left, by the same program
pub left_of : {T : Type 0} (Tells : T → List Entry → T → Type 0) (BreaksOff : T → Entry → T → Type 0) (q p : Checked) (old new : T)
    (m : Moment) → q ≡ p → Left Tells BreaksOff q old m new → Left Tells BreaksOff p old m new
left_of Tells BreaksOff q p old new m same left = subst (λ p. Left Tells BreaksOff p old m new) same left

-- what was shown and then told of a moment
pub shown_then : {T : Type 0} (Tells : T → List Entry → T → Type 0) → TellsOn Tells → (p q r : Checked) (old mid new : T) (m : Moment) →
    q ≡ p → Tells old [] mid → Heard Tells q r mid new (m ∷ []) → Heard Tells p r old new (m ∷ [])
shown_then Tells on p q r old mid new m same shown heard = (
  heard.0 ∙ same,
  on old mid new [] (flat_map (entries_of p) (m ∷ [])) shown
      (subst (λ (p : Checked). Tells mid (flat_map (entries_of p) (m ∷ [])) new) same heard.1),
)

-- ---- behind a run

ends_before : (until : Option ℕ) (n s : ℕ) → s ≤ n → (time : ℕ) × (until ≡ Some time) → EndsBy until n s
ends_before until n s few timed = subst (λ until. EndsBy until n s) (sym timed.1) few

pub record EndedInTime {T : Type 0} (Tells : T → List Entry → T → Type 0) (p : Checked) (input : List ℤ) (n : ℕ) (until : Option ℕ)
    (old new : T) (c : Cut) : Type 0 where
  pub outcome : IsOutcome p input c.statements (GoesOn c.output.items)
  pub ends : EndsBy until n c.statements
  pub told : Tells old (run_entries p input c.statements) new

module _ {J T : Type 0} (Tells : T → List Entry → T → Type 0) (BreaksOff : T → Entry → T → Type 0) (on : TellsOn Tells)
    (program : J → Checked) (teller : J → T) (until : J → Option ℕ) (cut : J → Option Cut) where
  abbrev pub Hears : J → List Moment → J → Type 0
  Hears a ms b = Heard Tells (program a) (program b) (teller a) (teller b) ms × (until b ≡ until a) × (cut b ≡ cut a)

  abbrev pub GivesUp : J → Moment → J → Type 0
  GivesUp a m b = cut a ≡ None → GaveUpAt Tells BreaksOff (program a) (until a) (teller a) m (teller b) (cut b)

  -- the telling ended, before time was over
  pub part_in_time : (old new : J) (ms : List Moment) → cut old ≡ None → cut new ≡ None → HasHeardPart Hears GivesUp old ms new →
      HasToldPart Tells BreaksOff (teller old) (flat_map (entries_of (program old)) ms) (teller new)
  part_in_time old new ms none still (HeardFirst first rest is h) =
      part_heard Tells BreaksOff on program teller old new ms (HeardFirst first rest is h.0)
  part_in_time old new ms none still (GaveUp first next rest between is h g) =
      part_heard Tells BreaksOff on program teller old new ms (GaveUp first next rest between is h.0
      (subst (GaveUpAt Tells BreaksOff (program between) (until between) (teller between) next (teller new)) still (g (h.2 ∙ none))))

  -- time was over
  pub ended_in_time : (p : Checked) (input : List ℤ) (n : ℕ) (old new : J) (c : Cut) → program old ≡ p → cut old ≡ None →
      cut new ≡ Some c → HasHeardPart Hears GivesUp old (run_moments p input n) new →
      EndedInTime Tells p input n (until old) (teller old) (teller new) c
  ended_in_time p input n old new c same none over (HeardFirst first rest is h) = absurd (cc (over, h.2, none))
  ended_in_time p input n old new c same none over (GaveUp first next rest between is h g) =
      let o : IsOver Tells (until between) (teller between) next (teller new) c.statements c.output.items =
      subst (GaveUpAt Tells BreaksOff (program between) (until between) (teller between) next (teller new)) over (g (h.2 ∙ none)) in
      let at = cut_at p input n first rest next c.statements c.output.items is o.begun in
      let low = at.fewer in
      let es = flat_map (entries_of p) first in
      let told = subst (λ (p : Checked). Tells (teller old) (flat_map (entries_of p) first) (teller between)) same h.0.1 in
      record {
        outcome = at.outcome;
        ends = ends_before (until old) n c.statements (omega (arith, low)) (o.timed.0, sym h.1 ∙ o.timed.1);
        told = subst (λ es. Tells (teller old) es (teller new)) (append-nil es ∙ sym at.entries)
            (on (teller old) (teller between) (teller new) es [] told o.told);
      }

-- ---- what it comes to

pub if_ok_of : {A E : Type 0} (r : Result A E) (P Q : A → Type 0) → ((a : A) → Q a → P a) → IfOk r Q → IfOk r P
if_ok_of (Ok a) P Q f h = f a h
if_ok_of (Err e) P Q f h = tt

ends_at_all : (until : Option ℕ) (n : ℕ) → EndsBy until n n
ends_at_all None n = refl
ends_at_all (Some time) n = omega arith

abbrev refusal_of : Result Ending MeaningRefusal → MeaningRefusal → MeaningRefusal
refusal_of (Ok r) other = other
refusal_of (Err e) other = e

-- nothing is refused but what the run is refused for, where time was not over
pub refused_by : (done : Result Outcome MeaningRefusal) (n : ℕ) (cut : Option Cut) (e : MeaningRefusal) → ending_of done n cut ≡ Err e →
    (done ≡ Err e) × (cut ≡ None)
refused_by (Ok o) n None e is = absurd (cc is)
refused_by (Err x) n None e is = (ap Err (ap (λ r. refusal_of r x) is), refl)
refused_by (Ok o) n (Some c) e is = absurd (cc is)
refused_by (Err x) n (Some c) e is = absurd (cc is)

module _ {J T : Type 0} (Tells : T → List Entry → T → Type 0) (BreaksOff : T → Entry → T → Type 0) (on : TellsOn Tells)
    (program : J → Checked) (teller : J → T) (until : J → Option ℕ) (cut : J → Option Cut)
    (p : Checked) (input : List ℤ) (n : ℕ) (old new : J) (same : program old ≡ p) (none : cut old ≡ None) where
  -- the run was told up to there
  abbrev pub ToldUpTo : Ending → Type 0
  ToldUpTo r = IsOutcome p input r.bound (verdict_of r.outcome) × EndsBy (until old) n r.bound
      × Tells (teller old) (run_entries p input r.bound) (teller new)

  pub told_up_to : (done : Result Outcome MeaningRefusal) (k : Option Cut) → cut new ≡ k →
      IfOk done (λ o. IsOutcome p input n (verdict_of o)) →
      OnOk done (Hears Tells BreaksOff on program teller until cut old (run_moments p input n) new) →
      (done ≡ Err OutOfMemory → HasHeardPart (Hears Tells BreaksOff on program teller until cut)
      (GivesUp Tells BreaksOff on program teller until cut) old (run_moments p input n) new) →
      (done ≡ Err InputTooLong → new ≡ old) → IfOk (ending_of done n k) ToldUpTo
  told_up_to (Ok o) None is outcome heard part unheard = (
    outcome,
    ends_at_all (until old) n,
    subst (λ (p : Checked). Tells (teller old) (flat_map (entries_of p) (run_moments p input n)) (teller new)) same
        (subst (λ (q : Checked). Tells (teller old) (flat_map (entries_of (program old)) (run_moments q input n)) (teller new)) (sym same)
        heard.0.1),
  )
  told_up_to (Err e) None is outcome heard part unheard = tt
  told_up_to (Ok o) (Some c) is outcome heard part unheard = let u = heard.2 in absurd (cc (is, u, none))
  told_up_to (Err InputTooLong) (Some c) is outcome heard part unheard =
      let u = ap cut (unheard refl) in absurd (cc (is, u, none))
  told_up_to (Err OutOfMemory) (Some c) is outcome heard part unheard =
      let e = ended_in_time Tells BreaksOff on program teller until cut p input n old new c same none is (part refl) in
      (e.outcome, e.ends, e.told)

  pub outcome_up_to : (r : Result Ending MeaningRefusal) → IfOk r ToldUpTo → IfOk r (λ r. IsOutcome p input r.bound (verdict_of r.outcome))
  outcome_up_to r h = if_ok_of r (λ r. IsOutcome p input r.bound (verdict_of r.outcome)) ToldUpTo (λ r q. q.0) h

  pub ends_up_to : (r : Result Ending MeaningRefusal) → IfOk r ToldUpTo → IfOk r (λ r. EndsBy (until old) n r.bound)
  ends_up_to r h = if_ok_of r (λ r. EndsBy (until old) n r.bound) ToldUpTo (λ r q. q.1) h

  pub entries_up_to : (r : Result Ending MeaningRefusal) → IfOk r ToldUpTo →
      IfOk r (λ r. Tells (teller old) (run_entries p input r.bound) (teller new))
  entries_up_to r h = if_ok_of r (λ r. Tells (teller old) (run_entries p input r.bound) (teller new)) ToldUpTo (λ r q. q.2) h

-- what holds of an answer by another name
pub answered : {A E : Type 0} (P : A → Type 0) (r q : Result A E) → r ≡ q → IfOk q P → IfOk r P
answered P r q same h = subst (λ r. IfOk r P) (sym same) h

-- how a listener began that is as it was where this holds
abbrev pub started : {J P : Type 0} {new old : J} → (P → new ≡ old) → J
started {J} {P} {new} {old} same = old

-- what holds of an answer
pub given_of : {A E : Type 0} (r : Result A E) (P : A → Type 0) (a : A) → r ≡ Ok a → IfOk r P → P a
given_of r P a is h = subst (λ r. IfOk r P) is h
