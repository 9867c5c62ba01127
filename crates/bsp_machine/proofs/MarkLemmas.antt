-- Marks: who has stopped, and what the headers say of it.
use Rattle.std.proofs.Common.{◌≡◌, ℕ, zero, suc, List, [], ◌∷◌, length, Bool, true, false}
use Rattle.std.proofs.Common.{Option, None, Some, refl, sym, ap, subst, ◌∙◌, arith, ◌⊎◌, inl, inr, ⊎_elim}
use Rattle.std.specs.Prelude.{slice_get, ◌||◌}
use Rattle.std.specs.List.{list_any}
use Rattle.std.proofs.lemmas.Bool.{or_parts}
use Rattle.pram_model.specs.declared.rule.Rule.{Rule}
use Rattle.address_map.specs.Lawful.{Shape}
use Rattle.superstep_machine.specs.declared.mark.HeaderMark.{HeaderMark}
use Rattle.superstep_machine.specs.declared.mark.HeaderMark.TheVariants.{Clear, OutOfMemory, OutOfReserve}
use Rattle.superstep_machine.specs.declared.header.MessageHeader.{MessageHeader}
use Rattle.superstep_machine.specs.Marks.{worse}
use Rattle.superstep_machine.specs.HeaderWords.{read_header}
use Rattle.superstep_machine.specs.WordReading.{read_message}
use Rattle.superstep_machine.specs.Run.{Purpose, Sends, Replies, Votes, Closes, State, is_over}
use Rattle.worker_exchange.specs.Rows.{WrittenMessage}
use Rattle.worker_exchange.specs.declared.way.Way.{Way}
use Rattle.worker_exchange.specs.declared.way.Way.TheVariants as ways
use Rattle.worker_exchange.specs.Shown.{way_is, is_stopped, marked}
use Rattle.worker_exchange.specs.Received.{mark_heard, is_marked}
use Rattle.worker_histories.proofs.Marking.{marked_worse}
use Rattle.bsp_machine.specs.declared.counted.CountedWorker.{CountedWorker}
use Rattle.run_options.specs.declared.reserve.Reserve.{Reserve}
use Rattle.bsp_machine.specs.Reserves.{own_mark, IsMark, AreMarked, IsGiven, refusal_by, refusal_for}

-- ---- one worker

pub unstopped : (way : Way) (s : State) → is_stopped way ≡ false → marked way s ≡ s
unstopped ways.On s h = refl
unstopped (ways.Ending ended) s h = refl
unstopped (ways.Past key ended) s h = refl
unstopped (ways.Stopped mark) s h = absurd (cc h)

-- what goes on hasn't stopped
pub going_on : (way : Way) → is_over (way_is way) ≡ false → is_stopped way ≡ false
going_on ways.On h = refl
going_on (ways.Ending ended) h = refl
going_on (ways.Past key ended) h = refl
going_on (ways.Stopped mark) h = h

pub never : (way : Way) (mark : HeaderMark) → way ≡ ways.Stopped mark → is_stopped way ≡ false → ⊥
never way mark e h = true_no_false (sym (ap is_stopped e) ∙ h)
  where
    true_no_false : true ≡ false → ⊥
    true_no_false h = cc

-- ---- marks together

abbrev pub header_marked : WrittenMessage → Bool
header_marked x = is_marked (read_header x.header).mark

marks_are : (came : List WrittenMessage) → is_marked (mark_heard came) ≡ list_any header_marked came
marks_are [] = refl
marks_are (x ∷ came) =
    marked_worse (read_header x.header).mark (mark_heard came) ∙ ap (λ b. header_marked x || b) (marks_are came)

-- ---- two lists with the same marks

any_by : {A B : Type 0} (f : A → Bool) (g : B → Bool) (xs : List A) (ys : List B) → length xs ≡ length ys →
    ((i : ℕ) (x : A) (y : B) → slice_get xs i ≡ Some x → slice_get ys i ≡ Some y → f x ≡ g y) → list_any f xs ≡ list_any g ys
any_by f g [] [] l h = refl
any_by f g [] (y ∷ ys) l h = cc
any_by f g (x ∷ xs) [] l h = cc
any_by f g (x ∷ xs) (y ∷ ys) l h =
    let e = h 0 x y refl refl in
    let r = any_by f g xs ys (omega (arith, l)) (λ i a b p q. h (suc i) a b p q) in
    (λ i. e i || r i)

abbrev pub any_stopped : List CountedWorker → Bool
any_stopped = list_any (λ (x : CountedWorker). is_stopped x.local.way)

or_true : (b : Bool) → (b || true) ≡ true
or_true true = refl
or_true false = refl

-- it is one of them
one_of_any : (xs : List CountedWorker) (i : ℕ) (x : CountedWorker) → slice_get xs i ≡ Some x →
    (is_stopped x.local.way || any_stopped xs) ≡ any_stopped xs
one_of_any xs i x h = go (is_stopped x.local.way) refl
  where
    has : (xs : List CountedWorker) (i : ℕ) → slice_get xs i ≡ Some x → is_stopped x.local.way ≡ true → any_stopped xs ≡ true
    has [] i h s = cc
    has (y ∷ xs) zero h s = ap (λ (z : CountedWorker). is_stopped z.local.way || any_stopped xs) (unsome y x h)
        ∙ ap (λ b. b || any_stopped xs) s
      where
        unsome : (a b : CountedWorker) → Some a ≡ Some b → a ≡ b
        unsome a b e = cc
    has (y ∷ xs) (suc i) h s = ap (λ b. is_stopped y.local.way || b) (has xs i h s) ∙ or_true (is_stopped y.local.way)

    go : (b : Bool) → is_stopped x.local.way ≡ b → (b || any_stopped xs) ≡ any_stopped xs
    go true s = sym (has xs i h s)
    go false s = refl

-- where none has stopped, this one hasn't
pub none_stopped : (xs : List CountedWorker) (i : ℕ) (x : CountedWorker) → slice_get xs i ≡ Some x → any_stopped xs ≡ false →
    is_stopped x.local.way ≡ false
none_stopped xs i x h none = (or_parts (is_stopped x.local.way) (any_stopped xs) (one_of_any xs i x h ∙ none)).0

-- A worker stops at an exchange exactly where any has: from each comes a mark exactly where it has stopped.
pub stops_with_any : (xs : List CountedWorker) (came : List WrittenMessage) (w : ℕ) (x : CountedWorker) → length came ≡ length xs →
    slice_get xs w ≡ Some x →
    ((i : ℕ) (c : WrittenMessage) (y : CountedWorker) → slice_get came i ≡ Some c → slice_get xs i ≡ Some y →
    header_marked c ≡ is_stopped y.local.way) → (is_stopped x.local.way || is_marked (mark_heard came)) ≡ any_stopped xs
stops_with_any xs came w x long here each =
    ap (λ b. is_stopped x.local.way || b)
    (marks_are came ∙ any_by header_marked (λ (y : CountedWorker). is_stopped y.local.way) came xs long each)
    ∙ one_of_any xs w x here

-- ---- which mark

worse_clear : (own : HeaderMark) → worse own Clear ≡ own
worse_clear Clear = refl
worse_clear OutOfMemory = refl
worse_clear OutOfReserve = refl

worse_self : (own : HeaderMark) → worse own own ≡ own
worse_self Clear = refl
worse_self OutOfMemory = refl
worse_self OutOfReserve = refl

worse_mark : (own a b : HeaderMark) → IsMark own a → IsMark own b → IsMark own (worse a b)
worse_mark own a b h k =
    ⊎_elim (λ e. subst (λ z. IsMark own (worse z b)) (sym e) k)
    (λ (e : a ≡ own). ⊎_elim (λ (f : b ≡ Clear). inr ((λ i. worse (e i) (f i)) ∙ worse_clear own))
    (λ (f : b ≡ own). inr ((λ i. worse (e i) (f i)) ∙ worse_self own)) k) h

heard_mark : (own : HeaderMark) (came : List WrittenMessage) → AreMarked own came → IsMark own (mark_heard came)
heard_mark own [] h = inl refl
heard_mark own (x ∷ came) h = worse_mark own (read_header x.header).mark (mark_heard came) h.0 (heard_mark own came h.1)

-- Behind an exchange at which no other mark came, a worker that has stopped was stopped by that for its reserve.
pub given_behind : (reserve : Option Reserve) (old new : CountedWorker) (came : List WrittenMessage) → old.reserve ≡ reserve →
    ((mark : HeaderMark) → old.local.way ≡ ways.Stopped mark → mark ≡ own_mark old.reserve) → AreMarked (own_mark reserve) came →
    new.reserve ≡ old.reserve → is_stopped new.local.way ≡ (is_stopped old.local.way || is_marked (mark_heard came)) →
    ((mark : HeaderMark) → new.local.way ≡ ways.Stopped mark →
    (old.local.way ≡ ways.Stopped mark) ⊎ ((is_stopped old.local.way ≡ false) × (mark_heard came ≡ mark))) → IsGiven reserve new
given_behind reserve old new came given own marks kept stopped by = record {
  given = kept ∙ given;
  stopped = λ mark way.
      ⊎_elim (λ (was : old.local.way ≡ ways.Stopped mark). own mark was ∙ ap own_mark given)
      (λ h. ⊎_elim
      (λ (clear : mark_heard came ≡ Clear). absurd (none_marked
      (sym (ap is_stopped way) ∙ stopped ∙ (λ i. h.0 i || is_marked (clear i)))))
      (λ (is : mark_heard came ≡ own_mark reserve). sym h.1 ∙ is) (heard_mark (own_mark reserve) came marks)) (by mark way);
}
  where
    none_marked : true ≡ false → ⊥
    none_marked h = cc

-- so is its run refused
pub refusal_at : (way : Way) (reserve : Option Reserve) → ((mark : HeaderMark) → way ≡ ways.Stopped mark → mark ≡ own_mark reserve) →
    is_stopped way ≡ true → refusal_by way ≡ refusal_for reserve
refusal_at ways.On reserve own h = absurd (cc h)
refusal_at (ways.Ending ended) reserve own h = absurd (cc h)
refusal_at (ways.Past key ended) reserve own h = absurd (cc h)
refusal_at (ways.Stopped mark) reserve own h = ap (λ k. refusal_by (ways.Stopped k)) (own mark refl) ∙ by_own reserve
  where
    by_own : (r : Option Reserve) → refusal_by (ways.Stopped (own_mark r)) ≡ refusal_for r
    by_own None = refl
    by_own (Some r) = refl

-- ---- the mark of a message that is read

pub mark_read : (rule : Rule) (m : Shape) (j : ℕ) (purpose : Purpose) (h : MessageHeader) (ws : List ℕ) →
    (read_message rule m j purpose h ws).mark ≡ h.mark
mark_read rule m j Sends h ws = refl
mark_read rule m j Replies h ws = refl
mark_read rule m j (Votes d) h ws = refl
mark_read rule m j Closes h ws = refl
