-- One entry that passes: its changes, and its line.
use Rattle.std.proofs.Common.{◌≡◌, ◌<◌, ◌≤◌, ◌∙◌, ◌+◌, ◌-◌, ◌&&◌, ℕ, suc, Bool, List, [], ◌∷◌, ◌++◌, ap, arith}
use Rattle.std.proofs.Common.{if◌then◌else◌, nat_le, refl, subst, sym, take}
use Rattle.std.proofs.Math.Bool.{and-false}
use Rattle.std.proofs.lemmas.Bool.{le-leb, lt-leb}
use Rattle.std.proofs.lemmas.List.{take_all}
use Rattle.std.specs.List.{fold}
use Rattle.serde_json.specs.Data.{Data}
use Rattle.json_texts.specs.Lines.{IsJson}
use Rattle.json_texts.specs.StepFacts.{step_facts, step_within}
use Rattle.pram_model.specs.Layout.{SharedEntry}
use Rattle.pram_trees.specs.Program.{ProgramTree}
use Rattle.journal.specs.Entries.{Entry}
use Rattle.pages.specs.Kept.{Holds}
use Rattle.journal.specs.Replay.{with_cells, with_printed, with_variables}
use Rattle.pages.specs.declared.lines.KeptLines.{KeptLines}
use Rattle.pages.specs.declared.state.RunState.{RunState}
use Rattle.pages.specs.Gathered.{AddsLines, Replays}
use Rattle.pages.specs.GatheredLaws.{adds_none}

-- ---- its changes

one_of : (n m : ℕ) (e : Entry) → n ≡ suc m → take n (e ∷ []) ≡ e ∷ []
one_of n m e is = take_all n (e ∷ []) (omega (arith, is))

-- of an entry up to the last one
made : {S : Type 0} (f : S → Entry → S) (last count number : ℕ) (a b : S) (e : Entry) → number ≡ count + 1 → number ≤ last → b ≡ f a e →
    b ≡ fold f a (take (last - count) (e ∷ []))
made f last count number a b e n le is =
    is ∙ ap (fold f a) (sym (one_of (last - count) ((last - count) - 1) e (omega (arith, n, le))))

-- of one behind it
unmade : {S : Type 0} (f : S → Entry → S) (last count number : ℕ) (a b : S) (e : Entry) → number ≡ count + 1 → last < number → b ≡ a →
    b ≡ fold f a (take (last - count) (e ∷ []))
unmade f last count number a b e n past is =
    is ∙ ap (λ n. fold f a (take n (e ∷ []))) (let z : 0 ≡ last - count = omega (arith, n, past) in z)

pub state_on : (last count number : ℕ) (s t : RunState) (e : Entry) → number ≡ count + 1 → number ≤ last →
    t.cells.items ≡ with_cells s.cells.items e → t.variables.items ≡ with_variables s.variables.items e →
    t.printed ≡ with_printed s.printed e → Replays last count number s t (e ∷ [])
state_on last count number s t e n le cells variables printed = record {
  counted = n;
  cells = made with_cells last count number s.cells.items t.cells.items e n le cells;
  variables = made with_variables last count number s.variables.items t.variables.items e n le variables;
  printed = made with_printed last count number s.printed t.printed e n le printed;
}

pub state_passed : (last count number : ℕ) (s : RunState) (e : Entry) → number ≡ count + 1 → last < number →
    Replays last count number s s (e ∷ [])
state_passed last count number s e n past = record {
  counted = n;
  cells = unmade with_cells last count number s.cells.items s.cells.items e n past refl;
  variables = unmade with_variables last count number s.variables.items s.variables.items e n past refl;
  printed = unmade with_printed last count number s.printed s.printed e n past refl;
}

-- ---- its line

pub line_pushed : (k l : KeptLines) (bytes line : List ℕ) → bytes ≡ line → ((before : List ℕ) → Holds k before → Holds l
    (before ++ bytes)) →
    (before : List ℕ) → Holds k before → Holds l (before ++ line)
line_pushed k l bytes line same holds before h = subst (λ b. Holds l (before ++ b)) same (holds before h)

module _ (layout : List SharedEntry) (tree : ProgramTree) (source : List ℕ) (first last number : ℕ) (e : Entry) where
  abbrev told_if : Bool → List Data
  told_if b = if b then step_facts layout tree source number e ∷ [] else []

  -- it is before the first one that is asked for
  pub none_before : number < first → step_within layout tree source first last number e ≡ []
  none_before lt = ap told_if (ap (λ b. b && nat_le number last) (lt-leb first number lt))

  -- behind the last one
  pub none_behind : last < number → step_within layout tree source first last number e ≡ []
  none_behind lt = ap told_if (ap (λ b. nat_le first number && b) (lt-leb number last lt) ∙ and-false (nat_le first number))

  -- or asked for
  pub one_within : first ≤ number → number ≤ last → step_within layout tree source first last number e ≡ step_facts layout tree source
      number e ∷ []
  one_within from to =
      ap told_if (ap (λ b. b && nat_le number last) (le-leb first number from) ∙ le-leb number last to)

  pub no_line_before : (k : KeptLines) → number < first → AddsLines k k (step_within layout tree source first last number e)
  no_line_before k lt = subst (AddsLines k k) (sym (none_before lt)) (adds_none k)

  pub no_line_behind : (k : KeptLines) → last < number → AddsLines k k (step_within layout tree source first last number e)
  no_line_behind k lt = subst (AddsLines k k) (sym (none_behind lt)) (adds_none k)

  pub line_added : (k l : KeptLines) (line : List ℕ) → first ≤ number → number ≤ last →
      IsJson (step_facts layout tree source number e ∷ []) line → ((before : List ℕ) → Holds k before → Holds l (before ++ line)) →
      AddsLines k l (step_within layout tree source first last number e)
  line_added k l line from to json holds =
      subst (AddsLines k l) (sym (one_within from to)) (record { text = line; json = json; holds = holds })
