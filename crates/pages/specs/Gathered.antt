-- What a page takes of the entries of a run, that come one after the other.
use Rattle.std.specs.Prelude.{◌≡◌, ◌+◌, ◌-◌, ℕ, ℤ, All, List, [], ◌∷◌, ◌++◌, Bool, true, false, length, map, max, take}
use Rattle.std.specs.List.{fold}
use Rattle.serde_json.specs.Data.{Data}
use Rattle.json_texts.specs.Lines.{IsJson, ReadsBack, json_lines}
use Rattle.json_texts.specs.StepFacts.{steps_from}
use Rattle.journal.specs.Entries.{Entry, entry_is}
use Rattle.pages.specs.Cut.{room}
use Rattle.pages.specs.Kept.{Holds}
use Rattle.journal.specs.Replay.{with_cells, with_printed, with_variables}
use Rattle.pages.specs.State.{state_of}
use Rattle.pages.specs.declared.lines.KeptLines.{KeptLines}
use Rattle.pages.specs.declared.state.RunState.{RunState}
use Rattle.pages.specs.declared.asked.Asked.{Asked}
use Rattle.pages.specs.declared.first_lines.FirstLines.{FirstLines}
use Rattle.pages.specs.declared.gatherer.Gatherer.{Gatherer}
use Rattle.pages.specs.declared.recent.Recent.{Recent}
use Rattle.pages.specs.declared.gathering.Gathered.{Gathered}

-- ---- as they come

-- these entries have passed: they are counted, and the changes were made of those whose numbers go up to `last`
pub record Replays (last count late : ℕ) (old new : RunState) (es : List Entry) : Type 0 where
  pub counted : late ≡ count + length es
  pub cells : new.cells.items ≡ fold with_cells old.cells.items (take (last - count) es)
  pub variables : new.variables.items ≡ fold with_variables old.variables.items (take (last - count) es)
  pub printed : new.printed ≡ fold with_printed old.printed (take (last - count) es)

-- lines that say these facts were put behind the others
pub record AddsLines (old new : KeptLines) (facts : List Data) : Type 0 where
  pub text : List ℕ
  pub json : IsJson facts text
  pub holds : (before : List ℕ) → Holds old before → Holds new (before ++ text)

-- ---- of a run up to some entry

-- the state behind these entries
pub record IsAfter (input : List ℤ) (es : List Entry) (s : RunState) : Type 0 where
  pub cells : s.cells.items ≡ fold with_cells input es
  pub variables : s.variables.items ≡ fold with_variables [] es
  pub printed : s.printed ≡ fold with_printed 0 es

-- the state behind the first `k` of these entries, or behind all, if they are fewer
abbrev pub IsBehind : (input : List ℤ) → List Entry → (k : ℕ) → RunState → Type 0
IsBehind input es k = IsAfter input (take k es)

-- of these entries the last ones are kept, with how many came before and the state behind those
pub record AreRecent (input : List ℤ) (es : List Entry) (r : Recent) : Type 0 where
  pub before : List Entry
  pub left : r.left ≡ length before
  pub state : IsAfter input before r.state
  pub whole : es ≡ before ++ (map entry_is r.older.items ++ map entry_is r.newer.items)

-- of the lines of these facts, which a reader takes, the first bytes are kept, and how many lines there are
pub record AreFirstLines (facts : List Data) (f : FirstLines) : Type 0 where
  pub bytes : f.bytes.items ≡ take room (json_lines facts)
  pub count : f.count ≡ length facts
  pub read_back : All ReadsBack facts

-- the number of the last entry that is told, or comes before those that are
abbrev pub last_told : Asked → ℕ
last_told a = max a.last (a.first - 1)

-- So many entries have come; kept are the state before the first one that is asked for, the last ones of those that come no later than the
-- last one asked for, and the first bytes of the lines.
pub record Gathers (a : Asked) (input : List ℤ) (es : List Entry) (count : ℕ) (s : RunState) (r : Recent) (f : FirstLines) : Type 0 where
  pub counted : count ≡ length es
  pub before : IsBehind input es (a.first - 1) s
  pub recent : AreRecent input (take (last_told a) es) r
  pub lines : AreFirstLines (steps_from a.layout.now a.tree.now a.source.now a.first a.last 1 es) f

abbrev pub IsGathering : List ℤ → List Entry → Gatherer → Type 0
IsGathering input es g = Gathers g.asked input es g.count g.state g.recent g.first

-- ---- of a whole run

-- lines that say these facts
pub record HoldsFacts (k : KeptLines) (facts : List Data) : Type 0 where
  pub text : List ℕ
  pub json : IsJson facts text
  pub holds : Holds k text

-- how many entries there are, the state before the first one that is asked for, and the lines of those that are
pub record IsGathered (a : Asked) (input : List ℤ) (es : List Entry) (g : Gathered) : Type 0 where
  pub counted : g.count ≡ length es
  pub before : IsBehind input es (a.first - 1) g.state
  pub lines : HoldsFacts g.lines (steps_from a.layout.now a.tree.now a.source.now a.first a.last 1 es)

-- the line of a state, where it is asked for
abbrev pub IsLineIf : (asked : Bool) → RunState → (k : ℕ) → List ℕ → Type 0
IsLineIf true s k line = IsJson (state_of s.cells.items s.variables.items s.printed k ∷ []) line
IsLineIf false s k line = line ≡ []
