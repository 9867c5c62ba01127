-- The lines of a text, one by one.
use Rattle.std.proofs.Common.{◌≡◌, ◌∙◌, ◌+◌, ◌<◌, ◌==◌, ◌∷◌, [], Bool, List, ℕ, ℤ, suc, true, false, ap, arith, cond, drop, length}
use Rattle.std.proofs.Common.{length-drop, not, refl, subst, sym, take}
use Rattle.std.specs.Bool.{if◌then◌else◌}
use Rattle.std.specs.Prelude.{IsErrAnd, Option, Result, Ok, Err}
use Rattle.std.specs.List.{prefix_len}
use Rattle.std.proofs.lemmas.List.{drop-drop}
use Rattle.std.proofs.lemmas.List.Folds.{length-prefix_len}
use Rattle.pram_model.specs.Layout.{SharedEntry, total_size}
use Rattle.memory_texts.specs.declared.front.Run.TheVariants as run
use Rattle.memory_texts.specs.declared.memory_fault.MemoryFault.{MemoryFault}
use Rattle.memory_texts.specs.declared.memory_fault.MemoryFault.TheVariants.{OutOfMemory, Text, TooMany, Unknown}
use Rattle.sized_texts.specs.Reading.{◌>>=◌}
use Rattle.memory_texts.specs.Front.{front, is_of}
use Rattle.memory_texts.specs.Assignments.{Answers, Assigned, IsFault, ReachesIf}
use Rattle.memory_texts.proofs.Within.{line_within}
use Rattle.memory_texts.specs.Memory.{Line, after, after_lines, given, lines, memory_of, with_byte}

-- the length of the line at the front
abbrev pub line_len : List ℕ → ℕ
line_len = prefix_len (is_of run.Line)

-- the line at the front, of that length, and the lines behind its end
abbrev IsFront : ℕ → List ℕ → ℕ → Type 0
IsFront at text n = lines at text ≡ record { offset = at; bytes = take n text } ∷ lines (at + (n + 1)) (drop (n + 1) text)

ended : (at b : ℕ) (rest : List ℕ) → b == 10 ≡ true → IsFront at (b ∷ rest) 0
ended at b rest is =
    ap (λ (t : Bool). if t then record { offset = at; bytes = [] } ∷ lines (at + 1) rest else with_byte at b (lines (at + 1) rest)) is

-- a byte before the lines behind it
longer : (at b n : ℕ) (rest : List ℕ) → b == 10 ≡ false → IsFront (at + 1) rest n → IsFront at (b ∷ rest) (suc n)
longer at b n rest is front =
    let l : Line = record { offset = at; bytes = b ∷ take n rest } in
    let next : at + 1 + (n + 1) ≡ at + (suc n + 1) = omega arith in
    let more : suc n + 1 ≡ suc (n + 1) = omega arith in
    ap (λ (t : Bool). if t then record { offset = at; bytes = [] } ∷ lines (at + 1) rest else with_byte at b (lines (at + 1) rest)) is
    ∙ ap (with_byte at b) front ∙ ap (λ i. l ∷ lines i (drop (n + 1) rest)) next
    ∙ ap (λ m. l ∷ lines (at + (suc n + 1)) (drop m (b ∷ rest))) (sym more)

last : (at b : ℕ) → b == 10 ≡ false → IsFront at (b ∷ []) 1
last at b is =
    ap (λ (t : Bool). if t then record { offset = at; bytes = [] } ∷ [] else record { offset = at; bytes = b ∷ [] } ∷ []) is

pub line_front : (at : ℕ) (text : List ℕ) → 0 < length text → IsFront at text (line_len text)
line_front at [] some = absurd (omega (arith, some))
line_front at (b ∷ rest) some = by (line_front (at + 1) rest) (b == 10) refl
  where
    behind : (rest : List ℕ) → b == 10 ≡ false → (0 < length rest → IsFront (at + 1) rest (line_len rest)) →
        IsFront at (b ∷ rest) (1 + line_len rest)
    behind [] is inner = last at b is
    behind (c ∷ more) is inner =
        let k : suc (line_len (c ∷ more)) ≡ 1 + line_len (c ∷ more) = omega arith in
        subst (IsFront at (b ∷ c ∷ more)) k (longer at b (line_len (c ∷ more)) (c ∷ more) is (inner (omega arith)))

    by : (0 < length rest → IsFront (at + 1) rest (line_len rest)) → (t : Bool) → (b == 10) ≡ t →
        IsFront at (b ∷ rest) (cond (not t) (1 + line_len rest) 0)
    by inner true is = ended at b rest is
    by inner false is = behind rest is inner

-- what holds before each turn of the loop: what the lines from there on leave is what all lines leave
pub record IsLeftTo (layout : List SharedEntry) (text : List ℕ) (memory : List ℤ) (at : ℕ) : Type 0 where
  pub left : after_lines layout (lines at (drop at text)) memory ≡ memory_of layout text
  pub sized : length memory ≡ total_size layout

-- one turn
module _ (layout : List SharedEntry) (text rest line : List ℕ) (memory : List ℤ) (at : ℕ) (before : IsLeftTo layout text memory at)
    (more : at < length text) (is_rest : rest ≡ drop at text) (is_line : line ≡ front run.Line rest) where
  abbrev pub here : Line
  here = record { offset = at; bytes = line }

  line_length : length line ≡ line_len (drop at text)
  line_length =
      ap length (is_line ∙ ap (front run.Line) is_rest) ∙ length-prefix_len (is_of run.Line) (drop at text)

  split : lines at (drop at text) ≡ here ∷ lines (at + (length line + 1)) (drop (at + (length line + 1)) text)
  split =
      let n = line_len (drop at text) in
      let some : 0 < length (drop at text) = omega (arith, length-drop at text) in
      line_front at (drop at text) some
      ∙ ap (λ l. record { offset = at; bytes = l } ∷ lines (at + (n + 1)) (drop (n + 1) (drop at text)))
      (sym (is_line ∙ ap (front run.Line) is_rest))
      ∙ ap (λ l. here ∷ lines (at + (n + 1)) l) (drop-drop (n + 1) at text)
      ∙ ap (λ m. here ∷ lines (at + (m + 1)) (drop (at + (m + 1)) text)) (sym line_length)

  whole : (given layout here >>= λ a. after_lines layout (lines (at + (length line + 1)) (drop (at + (length line + 1)) text))
      (after memory a))
      ≡ memory_of layout text
  whole = ap (λ ls. after_lines layout ls memory) (sym split) ∙ before.left

  pub turn_line : (a : Option Assigned) (now : List ℤ) → given layout here ≡ Ok a → now ≡ after memory a → length now ≡ length memory →
      IsLeftTo layout text now (at + (length line + 1))
  turn_line a now is new sized =
      let next = at + (length line + 1) in
      record {
        left = ap (after_lines layout (lines next (drop next text))) new
            ∙ ap (λ r. r >>= λ a. after_lines layout (lines next (drop next text)) (after memory a)) (sym is) ∙ whole;
        sized = sized ∙ before.sized;
      }

  -- the cells that the line gives are there
  pub turn_reaches : (a : Option Assigned) → given layout here ≡ Ok a → ReachesIf (length memory) a
  turn_reaches a is =
      subst (λ n. ReachesIf n a) (sym before.sized)
      (line_within layout (at + length (front run.Code line)) (front run.Code line) a is)

  same_fault : (f : MemoryFault) → given layout here ≡ Err f → memory_of layout text ≡ Err f
  same_fault f is =
      let next = at + (length line + 1) in
      sym whole ∙ ap (λ r. r >>= λ a. after_lines layout (lines next (drop next text)) (after memory a)) is

  pub turn_wrong : (f : MemoryFault) → IsFault f (given layout here) → IsFault f (memory_of layout text)
  turn_wrong OutOfMemory h = tt
  turn_wrong (Text fault) h = same_fault (Text fault) h
  turn_wrong (Unknown place) h = same_fault (Unknown place) h
  turn_wrong (TooMany values cells) h = same_fault (TooMany values cells) h

-- the fault of a line is answered for all lines
pub hands_on : {X : Type 0} (view : X → List ℤ) (r : Result X MemoryFault) (f : MemoryFault) (is : Result (List ℤ) MemoryFault) →
    IsErrAnd r (λ g. g ≡ f) → IsFault f is → Answers view r is
hands_on view (Ok x) f is e h = absurd e
hands_on view (Err g) f is e h = subst (λ g. IsFault g is) (sym e) h
