-- The facts of a run hold no float and don't nest deep, and there are fewer than 2^64: so they are read from its page.
use Rattle.std.proofs.Common.{◌≡◌, ◌+◌, ◌-◌, ◌<◌, ◌≤◌, ◌^◌, ◌∷◌, ◌++◌, [], Bool, true, false, List, Option, None, Some, ℕ, ℤ, suc, ap}
use Rattle.std.proofs.Common.{append_assoc, arith}
use Rattle.std.proofs.Common.{length, length-append, min, refl, subst, sym, take}
use Rattle.std.specs.Prelude.{◌&&◌, if◌then◌else◌, nat_le, nat_lt}
use Rattle.std.proofs.lemmas.List.Elements.{All-append, All-cons, All-nil}
use Rattle.std.specs.List.{flat_map, fold}
use Rattle.serde_json.specs.Data.{Data}
use Rattle.pram_check.specs.Checked.{Checked}
use Rattle.pram_meaning.specs.Moments.{Alone, Closed, Moment, Together, run_moments}
use Rattle.pram_model.specs.Layout.{SharedEntry}
use Rattle.pram_trees.specs.Program.{ProgramTree}
use Rattle.moment_laws.specs.Following.{statements}
use Rattle.moment_laws.proofs.Whole.{statements_are_within}
use Rattle.write_rules.specs.Verdict.{verdict_of}
use Rattle.write_rules.specs.declared.outcome.Outcome.{Outcome}
use Rattle.journal.specs.Entries.{Entry}
use Rattle.journal.specs.Replay.{with_cells, with_printed, with_variables}
use Rattle.journal.specs.RunEntries.{entries_of, run_entries}
use Rattle.json_texts.specs.Lines.{IsJson}
use Rattle.json_texts.specs.Small.{IsSmall}
use Rattle.json_texts.proofs.Json.{adds_nothing, adds_then}
use Rattle.json_texts.specs.OutcomeFacts.{outcome_facts}
use Rattle.json_texts.specs.StepFacts.{step_facts, step_within, steps_from}
use Rattle.json_texts.proofs.Readable.{shallow_outcome, shallow_step}
use Rattle.pages.specs.Cut.{IsCut, gap_end}
use Rattle.pages.specs.Opening.{opening_facts}
use Rattle.pages.specs.Stand.{AreTold}
use Rattle.pages.specs.State.{state_facts}
use Rattle.pages.proofs.AsList.{cut_facts_are_read, facts_are_read, outcome_is_read}
use Rattle.pages.proofs.Readable.{shallow_opening, shallow_state}
use Rattle.pages.specs.Pages.{AreFacts, IsStateBehind, IsStateIf}
use Rattle.pages.specs.Read.{AreReadBack, PageOfRunIsRead, before_facts, between_facts, told_facts}

-- ---- how many entries a run has

one_each : (p : Checked) (ms : List Moment) → length (flat_map (entries_of p) ms) ≡ length (statements ms)
one_each p [] = refl
one_each p (Alone here act before tried behind ∷ ms) = ap suc (one_each p ms)
one_each p (Together here act before xs key behind ∷ ms) = ap suc (one_each p ms)
one_each p (Closed ∷ ms) = one_each p ms

entries_within : (p : Checked) (input : List ℤ) (n : ℕ) → length (run_entries p input n) ≤ n
entries_within p input n =
    let e = one_each p (run_moments p input n) in let l = statements_are_within p input n in omega (arith, e, l)

-- ---- its facts

alone : (d : Data) → IsSmall 126 d → AreTold (d ∷ [])
alone d h = All-cons (IsSmall 126) d [] h (All-nil (IsSmall 126))

one_if : (d : Data) (b : Bool) → length (if b then d ∷ [] else []) ≤ 1
one_if d true = omega arith
one_if d false = omega arith

module _ (layout : List SharedEntry) (tree : ProgramTree) (source : List ℕ) (first last : ℕ) where
  within_told : (number : ℕ) (e : Entry) → AreTold (step_within layout tree source first last number e)
  within_told number e = by (nat_le first number && nat_le number last) where
    by : (b : Bool) → AreTold (if b then step_facts layout tree source number e ∷ [] else [])
    by true = alone (step_facts layout tree source number e) (shallow_step layout tree source number e)
    by false = All-nil (IsSmall 126)

  pub steps_told : (number : ℕ) (es : List Entry) → AreTold (steps_from layout tree source first last number es)
  steps_told number [] = All-nil (IsSmall 126)
  steps_told number (e ∷ es) = All-append (IsSmall 126) (step_within layout tree source first last number e)
      (steps_from layout tree source first last (number + 1) es) (within_told number e) (steps_told (number + 1) es)

  within_one : (number : ℕ) (e : Entry) → length (step_within layout tree source first last number e) ≤ 1
  within_one number e = one_if (step_facts layout tree source number e) (nat_le first number && nat_le number last)

  steps_few : (number : ℕ) (es : List Entry) → length (steps_from layout tree source first last number es) ≤ length es
  steps_few number [] = omega arith
  steps_few number (e ∷ es) =
      let one = within_one number e in
      let more = steps_few (number + 1) es in
      let rest = steps_from layout tree source first last (number + 1) es in
      let l = length-append (step_within layout tree source first last number e) rest in
      omega (arith, one, more, l)

state_told : (input : List ℤ) (es : List Entry) (k : ℕ) → AreTold (state_facts input es k ∷ [])
state_told input es k =
    alone (state_facts input es k)
    (shallow_state (fold with_cells input (take k es)) (fold with_variables [] (take k es)) (fold with_printed 0 (take k es)) k)

-- those of a state that is there or not
if_told : (input : List ℤ) (es : List Entry) (k : ℕ) (b : Bool) → AreTold (if b then state_facts input es k ∷ [] else [])
if_told input es k true = state_told input es k
if_told input es k false = All-nil (IsSmall 126)

before_told : (input : List ℤ) (es : List Entry) (first : ℕ) → AreTold (before_facts input es first)
before_told input es first = if_told input es _ (nat_lt 1 first)

before_few : (input : List ℤ) (es : List Entry) (first : ℕ) → length (before_facts input es first) ≤ 1
before_few input es first = one_if _ (nat_lt 1 first)

before_json : (input : List ℤ) (es : List Entry) (first : ℕ) (line : List ℕ) → IsStateIf (nat_lt 1 first) input es first line →
    IsJson (before_facts input es first) line
before_json input es first line = by (nat_lt 1 first) where
  by : (b : Bool) → IsStateIf b input es first line → IsJson (if b then state_facts input es (first - 1) ∷ [] else []) line
  by true h = h
  by false h = subst (IsJson []) (sym h) (adds_nothing [])

between_told : (input : List ℤ) (es : List Entry) (behind : Option ℕ) → AreTold (between_facts input es behind)
between_told input es None = All-nil (IsSmall 126)
between_told input es (Some k) = state_told input es k

between_json : (input : List ℤ) (es : List Entry) (behind : Option ℕ) (line : List ℕ) → IsStateBehind input es behind line →
    IsJson (between_facts input es behind) line
between_json input es None line h = subst (IsJson []) (sym h) (adds_nothing [])
between_json input es (Some k) line h = h

-- lines behind lines
joined : (ds es : List Data) (a b : List ℕ) → IsJson ds a → IsJson es b → IsJson (ds ++ es) (a ++ b)
joined ds es a b x y = adds_then ds es [] a (a ++ b) x (record { whole = ap (λ t. a ++ t) y.whole; read_back = y.read_back })

module _ (file text : List ℕ) (program : Checked) (input : List ℤ) (o : Outcome) (entries : List Entry) (first last : ℕ) where
  abbrev opening : Data
  opening = opening_facts file text program.tree input (length entries)

  abbrev before : List Data
  before = before_facts input entries first

  abbrev steps : List Data
  steps = steps_from program.layout program.tree text first last 1 entries

  abbrev told : List Data
  told = told_facts file text program input entries first last

  abbrev outcome : Data
  outcome = outcome_facts program.layout (verdict_of o)

  all_told : AreTold (told ++ outcome ∷ [])
  all_told = All-append (IsSmall 126) told (outcome ∷ [])
      (All-cons (IsSmall 126) opening (before ++ steps) (shallow_opening file text program.tree input (length entries))
      (All-append (IsSmall 126) before steps (before_told input entries first)
      (steps_told program.layout program.tree text first last 1 entries)))
      (alone outcome (shallow_outcome program.layout (verdict_of o)))

  all_few : length entries < 2 ^ 32 → length (told ++ outcome ∷ []) < 2 ^ 64
  all_few few =
      let a = before_few input entries first in
      let b = steps_few program.layout program.tree text first last 1 entries in
      let l = length-append before steps in
      let m = length-append told (outcome ∷ []) in
      omega (arith, few, a, b, l, m)

  all_json : (facts : List ℕ) → AreFacts file text program input o entries first last facts → IsJson (told ++ outcome ∷ []) facts
  all_json facts are =
      subst (IsJson (told ++ outcome ∷ [])) (sym are.joined)
      (subst (λ ds. IsJson (opening ∷ ds) ((are.opening ++ are.before) ++ are.lines)) (sym (append_assoc before steps (outcome ∷ [])))
      (joined (opening ∷ before) (steps ++ outcome ∷ []) (are.opening ++ are.before) are.lines
      (joined (opening ∷ []) before are.opening are.before are.opens (before_json input entries first are.before are.stands)) are.tells))

  read_back : (facts state : List ℕ) (front back : ℕ) → length entries < 2 ^ 32 →
      AreFacts file text program input o entries first last facts → IsCut facts front back →
      IsStateBehind input entries (gap_end facts front back (min last (length entries))) state →
      AreReadBack told (between_facts input entries (gap_end facts front back (min last (length entries)))) outcome facts state front back
  read_back facts state front back few are cut stands =
      let behind = gap_end facts front back (min last (length entries)) in
      let states = between_facts input entries behind in
      let also = between_told input entries behind in
      let says = all_json facts are in
      let state_says = between_json input entries behind state stands in
      record {
        some = cut_facts_are_read (told ++ outcome ∷ []) states facts state front back all_told also says state_says (all_few few) cut;
        whole = facts_are_read (told ++ outcome ∷ []) states facts state front back all_told also says state_says (all_few few) cut;
        ending = outcome_is_read told states outcome facts state front back all_told also says state_says (all_few few) cut;
      }

pub page_of_run_is_read : PageOfRunIsRead
page_of_run_is_read file text program input bound first last outcome shows small is =
    let entries = run_entries program input bound in
    let shown = is.1 in
    let few : length entries < 2 ^ 32 = (let l = entries_within program input bound in omega (arith, l, small)) in
    record {
      facts = shown.facts;
      state = shown.state;
      front = shown.front;
      back = shown.back;
      is = shown.is;
      read_back = read_back file text program input outcome entries first last shown.facts shown.state shown.front shown.back few shown.are
          shown.cut shown.between;
    }
