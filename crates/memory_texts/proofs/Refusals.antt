-- What a line is refused for.
use Rattle.std.proofs.Common.{◌≡◌, ◌+◌, ◌∷◌, [], Bool, List, ℕ, ℤ, true, false, length, nat_lt, refl, subst}
use Rattle.std.specs.Bool.{if◌then◌else◌}
use Rattle.std.specs.Prelude.{IfErr, Option, Some, None, Result, Ok, Err}
use Rattle.pram_model.specs.Layout.{SharedEntry}
use Rattle.pram_tokens.specs.declared.error.TextFault.TheVariants.{BadToken, NotAscii, Syntax, TextTooLong, TooDeep}
use Rattle.pram_tokens.specs.declared.error.TextFault.TheVariants as told
use Rattle.pram_tokens.specs.Plain.{IsPlain}
use Rattle.memory_texts.specs.declared.front.Run.TheVariants as run
use Rattle.memory_texts.specs.declared.memory_fault.MemoryFault.{MemoryFault}
use Rattle.memory_texts.specs.declared.memory_fault.MemoryFault.TheVariants.{OutOfMemory, Text, TooMany, Unknown}
use Rattle.sized_texts.specs.Reading.{◌>>=◌}
use Rattle.memory_texts.specs.Front.{front, past_blanks}
use Rattle.memory_texts.specs.Headings.{Headed, heading_front}
use Rattle.memory_texts.specs.Cells.{cells_at, cells_of, declaration, declared_cells, found_cells, left_of, subscripts_of, unknown}
use Rattle.memory_texts.specs.Assignments.{Answers, Assigned, IsFault, assignment_by, assignment_front, assignment_of, in_line, misplaced}
use Rattle.memory_texts.specs.Assignments.{values_of}
use Rattle.memory_texts.specs.Memory.{IsRefused, Line, after, after_lines, given, lines, memory_of}

-- what a line can be refused for
abbrev pub IsOfLine : MemoryFault → Type 0
IsOfLine (Text (BadToken at)) = Unit {0}
IsOfLine (Text fault) = ⊥
IsOfLine (Unknown at) = Unit {0}
IsOfLine (TooMany values cells) = Unit {0}
IsOfLine OutOfMemory = ⊥

-- only for that
abbrev Only : {A : Type 0} → Result A MemoryFault → Type 0
Only r = (f : MemoryFault) → r ≡ Err f → IsOfLine f

none_wrong : {A : Type 0} (x : A) → Only (Ok x)
none_wrong x f is = absurd (cc is)

is_only : {A : Type 0} (g : MemoryFault) → IsOfLine g → Only {A = A} (Err g)
is_only g h f is = let e : g ≡ f = cc is in subst IsOfLine e h

behind_it : {A B : Type 0} (r : Result A MemoryFault) (f : A → Result B MemoryFault) → Only r → ((x : A) → Only (f x)) → Only (r >>= f)
behind_it (Ok x) f h k = k x
behind_it (Err g) f h k = is_only g (h g refl)

in_line_only : {A : Type 0} (end : ℕ) (r : Result A ℕ) → Only (in_line end r)
in_line_only end (Ok x) = none_wrong x
in_line_only end (Err left) = is_only (misplaced end left) tt

found_only : (end left : ℕ) (o : Option (ℕ × ℕ)) → Only (found_cells end left o)
found_only end left None = is_only (unknown end left) tt
found_only end left (Some cells) = none_wrong cells

declared_only : (layout : List SharedEntry) (end : ℕ) (h : Headed) (d : Option (ℕ × Option (ℤ × ℤ))) → Only (declared_cells layout end h d)
declared_only layout end h None = is_only (unknown end h.left) tt
declared_only layout end h (Some (i, bounds)) = found_only end (left_of h) (cells_at layout i (subscripts_of bounds h.interval))

of_only : (first cells : ℕ) (values : List ℤ) → Only (assignment_of first cells values)
of_only first cells values = by (nat_lt cells (length values))
  where
    by : (t : Bool) → Only {A = Assigned} (if t then Err (TooMany (length values) cells) else Ok
        (record { first = first; values = values }))
    by true = is_only (TooMany (length values) cells) tt
    by false = none_wrong {A = Assigned} (record { first = first; values = values })

front_only : (layout : List SharedEntry) (end : ℕ) (text : List ℕ) → Only (assignment_front layout end text)
front_only layout end text =
    behind_it (in_line end (heading_front text)) _ (in_line_only end (heading_front text))
    (λ h. behind_it (in_line end (values_of h.1)) _ (in_line_only end (values_of h.1))
    (λ values. behind_it (cells_of layout end h.0) _ (declared_only layout end h.0 (declaration 0 layout h.0.name))
    (λ cells. of_only cells.0 cells.1 values)))

by_only : (layout : List SharedEntry) (end : ℕ) (text : List ℕ) → Only (assignment_by layout end text)
by_only layout end [] = none_wrong None
by_only layout end (b ∷ rest) =
    behind_it (assignment_front layout end (b ∷ rest)) (λ a. Ok (Some a)) (front_only layout end (b ∷ rest)) (λ a. none_wrong (Some a))

lines_only : (layout : List SharedEntry) (ls : List Line) (memory : List ℤ) → Only (after_lines layout ls memory)
lines_only layout [] memory = none_wrong memory
lines_only layout (l ∷ ls) memory =
    behind_it (given layout l) (λ a. after_lines layout ls (after memory a))
    (by_only layout (l.offset + length (front run.Code l.bytes)) (past_blanks (front run.Code l.bytes)))
    (λ a. lines_only layout ls (after memory a))

-- what the lines of a plain text are refused for is a refusal of the text
pub refused_by : (layout : List SharedEntry) (text : List ℕ) (f : MemoryFault) → IsPlain text → IsFault f (memory_of layout text) →
    IsRefused layout text f
refused_by layout text f plain fault = by f fault (lines_only layout (lines 0 text) _ f)
  where
    by : (f : MemoryFault) → IsFault f (memory_of layout text) → (memory_of layout text ≡ Err f → IsOfLine f) → IsRefused layout text f
    by OutOfMemory h only = plain
    by (Text (BadToken at)) h only = record { plain = plain; wrong = h }
    by (Text TextTooLong) h only = absurd (only h)
    by (Text (NotAscii at)) h only = absurd (only h)
    by (Text (Syntax at)) h only = only h
    by (Text (TooDeep at)) h only = only h
    by (Text told.OutOfMemory) h only = only h
    by (Unknown at) h only = record { plain = plain; wrong = h }
    by (TooMany values cells) h only = record { plain = plain; wrong = h }

pub refused : {X : Type 0} (view : X → List ℤ) (layout : List SharedEntry) (text : List ℕ) (r : Result X MemoryFault) → IsPlain text →
    Answers view r (memory_of layout text) → IfErr r (IsRefused layout text)
refused view layout text (Ok x) plain h = tt
refused view layout text (Err f) plain h = refused_by layout text f plain h

-- that a text is too long is said of such a text alone
pub told_long : {X : Type 0} (layout : List SharedEntry) (text : List ℕ) (r : Result X MemoryFault) → IfErr r (IsRefused layout text) →
    r ≡ Err (Text TextTooLong) → IsRefused layout text (Text TextTooLong)
told_long layout text (Ok x) h is = absurd (cc is)
told_long layout text (Err f) h is = let e : f ≡ Text TextTooLong = cc is in subst (IsRefused layout text) e h
