-- Parts of a run that are told soundly: what was told of them gives the state behind them, its cells by the changes and its output by the
-- items, and a fault is the last of it.
use Rattle.std.proofs.Common.{◌≡◌, ℕ, ◌+◌, ℤ, List, [], ◌∷◌, ◌++◌, Bool, true, false, if◌then◌else◌, length, drop, nat_lt, refl, ap, sym}
use Rattle.std.proofs.Common.{◌∙◌, subst, append_assoc, append-nil, Option}
use Rattle.std.specs.List.{AllByRecursion, flat_map, fold}
use Rattle.std.proofs.lemmas.List.Sums.{fold-append}
use Rattle.std.proofs.lemmas.Grind.{flat_map-append}
use Rattle.pram_tokens.specs.declared.token.Location.{Location}
use Rattle.journal.specs.declared.local_change.LocalChange.{LocalChange}
use Rattle.write_rules.specs.declared.fault.Fault.{Fault}
use Rattle.pram_check.specs.Checked.{Checked}
use Rattle.pram_meaning.specs.Bounded.{Behaviour, Done, Goes, Reaches, Stops, counted, then_do}
use Rattle.pram_meaning.specs.Moments.{Closed, Moment, behind, closing}
use Rattle.pram_meaning.specs.Store.{State}
use Rattle.journal.specs.Causes.{Cause}
use Rattle.journal.specs.Entries.{Act, Entry, Faulting, OwnLocals, Ran}
use Rattle.journal.specs.Faults.{IsExplained}
use Rattle.journal.specs.Replay.{with_cells}
use Rattle.journal.specs.RunEntries.{EndsIn, HasRun, entries_of, items_of, ran}
use Rattle.journal.proofs.Applied.{applied}
use Rattle.journal.proofs.Pushed.{gained}

-- the value of a statement
abbrev pub done : Unit {0}
done = tt

abbrev pub told : Checked → List Moment → List Entry
told p ms = flat_map (entries_of p) ms

-- how entries lead from one state to another
pub record Leads (m : State) (es : List Entry) (new : State) : Type 0 where
  pub size : length new.cells ≡ length m.cells
  pub memory : fold with_cells m.cells es ≡ new.cells
  pub output : m.output ++ items_of es ≡ new.output
  pub all : AllByRecursion HasRun es

-- or to a fault
pub record Falls (p : Checked) (m : State) (es : List Entry) (k : Fault) (out : List ℤ) : Type 0 where
  pub output : m.output ++ items_of es ≡ out
  pub ends : EndsIn p k es

-- or to where the bound forbids one statement more
pub record Waits (m : State) (es : List Entry) (out : List ℤ) : Type 0 where
  pub output : m.output ++ items_of es ≡ out
  pub all : AllByRecursion HasRun es

abbrev pub IsTold : {A : Type 0} → Checked → State → List Entry → Behaviour A → Type 0
IsTold p m es (Goes a new) = Leads m es new
IsTold p m es (Stops k out) = Falls p m es k out
IsTold p m es (Reaches out) = Waits m es out

-- ---- two lists of entries

items_on : (xs ys : List Entry) → items_of (xs ++ ys) ≡ items_of xs ++ items_of ys
items_on [] ys = refl
items_on (Ran here acts ds vs ls items ∷ xs) ys =
    ap (λ r. items ++ r) (items_on xs ys) ∙ sym (append_assoc items (items_of xs) (items_of ys))
items_on (Faulting here fault cause acts met locals ∷ xs) ys = items_on xs ys

all_on : (xs ys : List Entry) → AllByRecursion HasRun xs → AllByRecursion HasRun ys → AllByRecursion HasRun (xs ++ ys)
all_on [] ys h g = g
all_on (x ∷ xs) ys h g = (h.0, all_on xs ys h.1 g)

ends_on : (p : Checked) (xs ys : List Entry) (k : Fault) → AllByRecursion HasRun xs → EndsIn p k ys → EndsIn p k (xs ++ ys)
ends_on p xs ys k h (front, here, cause, acts, met, locals, all, stands, why, is) = (
  xs ++ front,
  here,
  cause,
  acts,
  met,
  locals,
  all_on xs front h all,
  stands,
  why,
  ap (λ zs. xs ++ zs) is ∙ sym (append_assoc xs front (Faulting here k cause acts met locals ∷ [])),
)

output_on : (m new : State) (xs ys : List Entry) (out : List ℤ) → m.output ++ items_of xs ≡ new.output →
    new.output ++ items_of ys ≡ out → m.output ++ items_of (xs ++ ys) ≡ out
output_on m new xs ys out s h =
    ap (λ r. m.output ++ r) (items_on xs ys) ∙ sym (append_assoc m.output (items_of xs) (items_of ys))
    ∙ ap (λ o. o ++ items_of ys) s ∙ h

-- ---- one entry

-- a state with as many cells, and with more output
pub record Extends (m new : State) : Type 0 where
  pub size : length new.cells ≡ length m.cells
  pub more : List ℤ
  pub output : new.output ≡ m.output ++ more

-- one with the same output
pub extends : (m new : State) → length new.cells ≡ length m.cells → new.output ≡ m.output → Extends m new
extends m new l o = record { size = l; more = []; output = o ∙ sym (append-nil m.output) }

pub ran_told : {A : Type 0} (p : Checked) (m new : State) (here : Location) (acts : List Act) (locals : List LocalChange) (a : A) →
    Extends m new →
    IsTold p m (ran here acts locals m new ∷ []) (Goes a new)
ran_told p m new here acts locals a h = record {
  size = h.size;
  memory = applied m.cells new.cells h.size;
  output = ap (λ r. m.output ++ r) (append-nil (drop (length m.output) new.output))
      ∙ ap (λ o. m.output ++ drop (length m.output) o) h.output
      ∙ ap (λ r. m.output ++ r) (gained m.output h.more)
      ∙ sym h.output;
  all = (tt, tt);
}

pub fell_told : (p : Checked) (m : State) (here : Location) (k : Fault) (cause : Option Cause) (acts : List Act) (met : List ℤ)
    (locals : List OwnLocals) → here.line ≡ k.line → IsExplained p k.kind cause → Falls p m (Faulting here k cause acts met locals ∷ [])
    k m.output
fell_told p m here k cause acts met locals stands why =
    record { output = append-nil m.output; ends = ([], here, cause, acts, met, locals, tt, stands, why, refl) }

-- ---- none

pub none_told : {A : Type 0} (p : Checked) (m new : State) (a : A) → new.cells ≡ m.cells → new.output ≡ m.output →
    IsTold p m [] (Goes a new)
none_told p m new a c o = record {
  size = ap length c;
  memory = sym c;
  output = append-nil m.output ∙ sym o;
  all = tt;
}

pub wait_told : (m : State) → Waits m [] m.output
wait_told m = record { output = append-nil m.output; all = tt }

pub counted_told : (p : Checked) (n : ℕ) (m : State) → IsTold p m [] (counted n m)
counted_told p n m = by (nat_lt m.count n) where
  by : (b : Bool) → IsTold p m [] (if b then Goes done (record m { count = m.count + 1 }) else Reaches m.output)
  by true = none_told p m (record m { count = m.count + 1 }) done refl refl
  by false = wait_told m

-- ---- one part of a run behind the other

joined : {B : Type 0} (p : Checked) (m new : State) (xs ys : List Entry) (d : Behaviour B) → Leads m xs new → IsTold p new ys d →
    IsTold p m (xs ++ ys) d
joined p m new xs ys (Goes b last) s h = record {
  size = h.size ∙ s.size;
  memory = fold-append with_cells m.cells xs ys ∙ ap (λ c. fold with_cells c ys) s.memory ∙ h.memory;
  output = output_on m new xs ys last.output s.output h.output;
  all = all_on xs ys s.all h.all;
}
joined p m new xs ys (Stops k out) s h = record {
  output = output_on m new xs ys out s.output h.output;
  ends = ends_on p xs ys k s.all h.ends;
}
joined p m new xs ys (Reaches out) s h = record {
  output = output_on m new xs ys out s.output h.output;
  all = all_on xs ys s.all h.all;
}

pub told_then : {A B : Type 0} (p : Checked) (m : State) (ms : List Moment) (b : Behaviour A) (f : A → State → List Moment)
    (g : A → State → Behaviour B) → IsTold p m (told p ms) b → ((a : A) (new : State) → IsTold p new (told p (f a new)) (g a new)) →
    IsTold p m (told p (ms ++ behind b f)) (then_do b g)
told_then p m ms (Goes a new) f g s h =
    subst (λ es. IsTold p m es (g a new)) (sym (flat_map-append (entries_of p) ms (f a new)))
    (joined p m new (told p ms) (told p (f a new)) (g a new) s (h a new))
told_then p m ms (Stops k out) f g s h = subst (λ ms. Falls p m (told p ms) k out) (sym (append-nil ms)) s
told_then p m ms (Reaches out) f g s h = subst (λ ms. Waits m (told p ms) out) (sym (append-nil ms)) s

-- where a part of a run begins in another state, with the same cells and output
pub told_from : {B : Type 0} (p : Checked) (m new : State) (ms : List Moment) (d : Behaviour B) → new.cells ≡ m.cells →
    new.output ≡ m.output →
    IsTold p new (told p ms) d → IsTold p m (told p ms) d
told_from p m new ms d c o h = joined p m new [] (told p ms) d (none_told p m new done c o) h

-- a value and a state put in place of others, with the same cells and output
pub told_map : {A B : Type 0} (p : Checked) (m : State) (es : List Entry) (b : Behaviour A) (f : A → State → B) (h : A → State → State) →
    IsTold p m es b → ((a : A) (new : State) → (h a new).cells ≡ new.cells) → ((a : A) (new : State) → (h a new).output ≡ new.output) →
    IsTold p m es (then_do b (λ a m. Goes (f a m) (h a m)))
told_map p m es (Goes a new) f h s c o = record {
  size = ap length (c a new) ∙ s.size;
  memory = s.memory ∙ sym (c a new);
  output = s.output ∙ sym (o a new);
  all = s.all;
}
told_map p m es (Stops k out) f h s c o = s
told_map p m es (Reaches out) f h s c o = s

-- the end of a block tells nothing
pub closing_told : (p : Checked) (m : State) (ms : List Moment) (b : Done) → IsTold p m (told p ms) b → IsTold p m (told p (closing ms)) b
closing_told p m ms b h =
    subst (λ es. IsTold p m es b) (sym (flat_map-append (entries_of p) ms (Closed ∷ []) ∙ append-nil (told p ms))) h

-- ---- behaviours

pub then_assoc : {A B C : Type 0} (b : Behaviour A) (f : A → State → Behaviour B) (g : B → State → Behaviour C) →
    then_do (then_do b f) g ≡ then_do b (λ a m. then_do (f a m) g)
then_assoc (Goes a m) f g = refl
then_assoc (Stops k out) f g = refl
then_assoc (Reaches out) f g = refl
