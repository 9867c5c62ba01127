-- What was gathered of a whole run, and its facts.
use Rattle.std.proofs.Common.{◌≡◌, ◌∙◌, ◌<◌, ◌≤◌, ◌+◌, ◌-◌, ℕ, ℤ, Bool, true, false, List, [], ◌∷◌, ◌++◌, Option, ap, append_assoc, arith}
use Rattle.std.proofs.Common.{length, min, nat_lt, refl, subst, sym, take}
use Rattle.std.proofs.lemmas.List.{take_all}
use Rattle.std.specs.List.{fold}
use Rattle.serde_json.specs.Data.{Data}
use Rattle.json_texts.specs.Lines.{IsJson}
use Rattle.json_texts.proofs.Json.{adds_then}
use Rattle.json_texts.specs.OutcomeFacts.{outcome_facts}
use Rattle.json_texts.specs.StepFacts.{steps_facts, steps_from}
use Rattle.pram_model.specs.Layout.{SharedEntry}
use Rattle.pram_trees.specs.Program.{ProgramTree}
use Rattle.pram_check.specs.Checked.{Checked}
use Rattle.write_rules.specs.Verdict.{Verdict, verdict_of}
use Rattle.write_rules.specs.declared.outcome.Outcome.{Outcome}
use Rattle.journal.specs.Entries.{Entry}
use Rattle.journal.specs.declared.telling_in_time.Ending.{Ending}
use Rattle.pages.specs.Kept.{Holds}
use Rattle.pages.specs.Opening.{opening_facts}
use Rattle.journal.specs.Replay.{with_cells, with_printed, with_variables}
use Rattle.pages.specs.State.{state_facts, state_of}
use Rattle.pages.specs.declared.lines.KeptLines.{KeptLines}
use Rattle.pages.specs.declared.state.RunState.{RunState}
use Rattle.pages.specs.declared.asked.Asked.{Asked}
use Rattle.pages.specs.declared.first_lines.FirstLines.{FirstLines}
use Rattle.pages.specs.declared.gatherer.Gatherer.{Gatherer}
use Rattle.pages.specs.declared.gathering.Gathered.{Gathered}
use Rattle.pages.specs.declared.recent.Recent.{Recent}
use Rattle.pages.proofs.States.{after_none}
use Rattle.pages.specs.Gathered.{AreFirstLines, AreRecent, Gathers, HoldsFacts, IsAfter, IsBehind, IsGathered, IsGathering, IsLineIf}
use Rattle.pages.specs.Gathered.{Replays, last_told}
use Rattle.pages.specs.Pages.{IsPage, IsStateBehind, IsStateIf}
use Rattle.pages.specs.Facts.{line_count}
use Rattle.pages.specs.Paged.{IsPaged, IsWithin, KeepsFacts}
use Rattle.pages.specs.declared.streaming.Page.{Page}
use Rattle.pages.specs.Cut.{gap_end}
use Rattle.pages.specs.Page.{page}
use Rattle.pram_model.specs.Layout.{total_size}
use Rattle.step_text.specs.declared.failure.StreamFailure.{StreamFailure}
use Rattle.step_text.specs.declared.failure.StreamFailure.TheVariants as failure
use Rattle.std.specs.Prelude.{Result, Ok, Err, None, Some, ◌↔◌, drop, if◌then◌else◌, nat_le, string_bytes}

-- ---- of a whole run

all_made : {S : Type 0} (f : S → Entry → S) (last : ℕ) (a b c : S) (es : List Entry) → b ≡ a → c ≡ fold f b (take (last - 0) es) →
    c ≡ fold f a (take last es)
all_made f last a b c es same is =
    is ∙ ap (λ s. fold f s (take (last - 0) es)) same ∙ ap (λ n. fold f a (take n es)) (let e : last - 0 ≡ last = omega arith in e)

pub all_replayed : (last count : ℕ) (input : List ℤ) (s t : RunState) (es : List Entry) → s.cells.items ≡ input → s.variables.items ≡ [] →
    s.printed ≡ 0 → Replays last 0 count s t es → IsBehind input es last t
all_replayed last count input s t es cells variables printed h = record {
  cells = all_made with_cells last input s.cells.items t.cells.items es cells h.cells;
  variables = all_made with_variables last [] s.variables.items t.variables.items es variables h.variables;
  printed = all_made with_printed last 0 s.printed t.printed es printed h.printed;
}

-- nothing has come yet
pub gathering_begun : (input : List ℤ) (g : Gatherer) → g.count ≡ 0 → g.state.cells.items ≡ input → g.state.variables.items ≡ [] →
    g.state.printed ≡ 0 → AreRecent input [] g.recent → AreFirstLines [] g.first → IsGathering input [] g
gathering_begun input g none cells variables printed recent first = record {
  counted = none;
  before = subst (λ es. IsAfter input es g.state) (sym (take_all (g.asked.first - 1) [] (omega arith)))
      (after_none input g.state cells variables printed);
  recent = subst (λ es. AreRecent input es g.recent) (sym (take_all (last_told g.asked) [] (omega arith))) recent;
  lines = first;
}

-- all has
pub all_gathered : (a b : Asked) (input : List ℤ) (es : List Entry) (r : Recent) (f : FirstLines) (g : Gathered) → b ≡ a →
    Gathers b input es g.count g.state r f →
    HoldsFacts g.lines (steps_from a.layout.now a.tree.now a.source.now a.first a.last 1 es) → IsGathered a input es g
all_gathered a b input es r f g same h lines = record {
  counted = h.counted;
  before = subst (λ a. IsBehind input es (a.first - 1) g.state) same h.before;
  lines = lines;
}

pub all_recent : (a b : Asked) (input : List ℤ) (es : List Entry) (count : ℕ) (s : RunState) (r : Recent) (f : FirstLines) → b ≡ a →
    Gathers b input es count s r f → AreRecent input (take (last_told a) es) r
all_recent a b input es count s r f same h = subst (λ a. AreRecent input (take (last_told a) es) r) same h.recent

pub all_first : (a b : Asked) (input : List ℤ) (es : List Entry) (count : ℕ) (s : RunState) (r : Recent) (f : FirstLines) → b ≡ a →
    Gathers b input es count s r f → AreFirstLines (steps_from a.layout.now a.tree.now a.source.now a.first a.last 1 es) f
all_first a b input es count s r f same h =
    subst (λ a. AreFirstLines (steps_from a.layout.now a.tree.now a.source.now a.first a.last 1 es) f) same h.lines

-- ---- the lines of states

state_is : (input : List ℤ) (es : List Entry) (k : ℕ) (s : RunState) → IsBehind input es k s →
    state_of s.cells.items s.variables.items s.printed k ≡ state_facts input es k
state_is input es k s h = λ i. state_of (h.cells i) (h.variables i) (h.printed i) k

pub line_is : (input : List ℤ) (es : List Entry) (k : ℕ) (s : RunState) (line : List ℕ) → IsBehind input es k s →
    IsJson (state_of s.cells.items s.variables.items s.printed k ∷ []) line → IsJson (state_facts input es k ∷ []) line
line_is input es k s line h json = subst (λ d. IsJson (d ∷ []) line) (state_is input es k s h) json

stands_so : (b : Bool) (input : List ℤ) (es : List Entry) (first : ℕ) (s : RunState) (line : List ℕ) → IsBehind input es (first - 1) s →
    IsLineIf b s (first - 1) line → IsStateIf b input es first line
stands_so true input es first s line h json = line_is input es (first - 1) s line h json
stands_so false input es first s line h none = none

-- ---- the facts

both_said : (ds es : List Data) (a b : List ℕ) → IsJson ds a → IsJson es b → IsJson (ds ++ es) (a ++ b)
both_said ds es a b x y =
    adds_then ds es [] a (a ++ b) x (record { whole = ap (λ l. a ++ l) y.whole; read_back = y.read_back })

-- the statements and the outcome
tells_so : (source : List ℕ) (program : Checked) (v : Verdict) (a : Asked) (layout : List SharedEntry) (es : List Entry)
    (text end : List ℕ) →
    a.layout.now ≡ program.layout → a.tree.now ≡ program.tree → a.source.now ≡ source → layout ≡ program.layout →
    IsJson (steps_from a.layout.now a.tree.now a.source.now a.first a.last 1 es) text → IsJson (outcome_facts layout v ∷ []) end →
    IsJson (steps_facts program.layout program.tree source v es a.first a.last) (text ++ end)
tells_so source program v a layout es text end same_layout same_tree same_source same lines outcome =
    both_said (steps_from program.layout program.tree source a.first a.last 1 es) (outcome_facts program.layout v ∷ []) text end
    (subst (λ o. IsJson (steps_from program.layout program.tree o a.first a.last 1 es) text) same_source
    (subst (λ t. IsJson (steps_from program.layout t a.source.now a.first a.last 1 es) text) same_tree
    (subst (λ l. IsJson (steps_from l a.tree.now a.source.now a.first a.last 1 es) text) same_layout lines)))
    (subst (λ l. IsJson (outcome_facts l v ∷ []) end) same outcome)

opens_so : (file text : List ℕ) (tree t : ProgramTree) (input : List ℤ) (n count : ℕ) (line : List ℕ) → t ≡ tree → n ≡ count →
    IsJson (opening_facts file text t input n ∷ []) line → IsJson (opening_facts file text tree input count ∷ []) line
opens_so file text tree t input n count line same counted json =
    subst (λ c. IsJson (opening_facts file text tree input c ∷ []) line) counted
    (subst (λ t. IsJson (opening_facts file text t input n ∷ []) line) same json)

module _ (file text : List ℕ) (program : Checked) (input : List ℤ) (outcome : Outcome) (a : Asked) (g : Gathered)
    (same_layout : a.layout.now ≡ program.layout) (same_tree : a.tree.now ≡ program.tree) (same_source : a.source.now ≡ text) where
  pub facts_kept : (tree : ProgramTree) (layout : List SharedEntry) (opening before head end : List ℕ) (lines more : KeptLines) →
      tree ≡ program.tree → IsJson (opening_facts file text tree input g.count ∷ []) opening →
      IsLineIf (nat_lt 1 a.first) g.state (a.first - 1) before → layout ≡ program.layout →
      IsJson (outcome_facts layout (verdict_of outcome) ∷ []) end → head ≡ opening ++ before →
      ((text : List ℕ) → Holds g.lines text → Holds lines (head ++ text)) →
      ((text : List ℕ) → Holds lines text → Holds more (text ++ end)) →
      (es : List Entry) → IsGathered a input es g → KeepsFacts file text program input outcome es a.first a.last more
  facts_kept tree layout opening before head end lines more tree_is opens stands layout_is ends joined behind pushed es h =
      let told = h.lines.text in record {
        facts = (head ++ told) ++ end;
        are = record {
          opening = opening;
          opens = opens_so file text program.tree tree input g.count (length es) opening tree_is h.counted opens;
          before = before;
          stands = stands_so (nat_lt 1 a.first) input es a.first g.state before h.before stands;
          lines = told ++ end;
          tells = tells_so text program (verdict_of outcome) a layout es told end same_layout same_tree same_source layout_is
              h.lines.json ends;
          joined = ap (λ l. (l ++ told) ++ end) joined ∙ append_assoc (opening ++ before) told end;
        };
        holds = pushed (head ++ told) (behind told h.lines.holds);
      }

-- the last one that is left out is no later than the last of all
pub gap_within : (facts : List ℕ) (front back last most : ℕ) (behind : Option ℕ) → behind ≡ gap_end facts front back last → last ≤ most →
    IsWithin behind most
gap_within facts front back last most behind is le = subst (λ b. IsWithin b most) (sym is) (by (nat_le back front)) where
  by : (b : Bool) → IsWithin (if b then None else Some (last - (line_count (drop back facts) - 1))) most
  by true = tt
  by false = omega (arith, le)

-- the state behind what has no room
pub between_so : (input : List ℤ) (es : List Entry) (behind gap : Option ℕ) (state : List ℕ) → behind ≡ gap →
    IsStateBehind input es behind state → IsStateBehind input es gap state
between_so input es behind gap state same is = subst (λ b. IsStateBehind input es b state) same is

-- ---- the page

pub is_page : (file text : List ℕ) (program : Checked) (input : List ℤ) (outcome : Outcome) (es : List Entry) (first last : ℕ) (p : Page)
    (state : List ℕ) → state ≡ string_bytes p.state → (h : IsPaged file text program input outcome es first last p) →
    IsPage file text program input outcome es first last (page h.keeps.facts state p.kept.front (h.keeps.holds.offset + p.kept.back))
is_page file text program input outcome es first last p state same h = record {
  facts = h.keeps.facts;
  are = h.keeps.are;
  front = p.kept.front;
  back = h.keeps.holds.offset + p.kept.back;
  cut = h.cut;
  state = state;
  between = subst (IsStateBehind input es (gap_end h.keeps.facts p.kept.front (h.keeps.holds.offset + p.kept.back) (min last (length es))))
      (sym same) h.between;
  is = refl;
}

-- ---- the input

pub fits_in : (n cells : ℕ) (layout of : List SharedEntry) → cells ≡ total_size layout → layout ≡ of → n ≤ cells → n ≤ total_size of
fits_in n cells layout of sized same le =
    subst (λ l. n ≤ total_size l) same (subst (λ c. n ≤ c) sized le)

abbrev IsNotLong : Result Ending StreamFailure → Type 0
IsNotLong (Ok o) = Unit {0}
IsNotLong (Err failure.InputTooLong) = ⊥
IsNotLong (Err failure.OutOfMemory) = Unit {0}
IsNotLong (Err failure.WriteFailed) = Unit {0}

pub not_too_long : (r : Result Ending StreamFailure) (n cells : ℕ) → IsNotLong r → n ≤ cells →
    (r ≡ Err failure.InputTooLong) ↔ (cells < n)
not_too_long r n cells is le = ((λ e. absurd (subst IsNotLong e is)), (λ lt. absurd (omega (arith, le, lt))))
