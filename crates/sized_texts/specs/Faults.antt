-- What a function answers of a text with sizes.
use Rattle.std.specs.Prelude.{◌≡◌, ℕ, ◌-◌, Result, Ok, Err}
use Rattle.sized_texts.specs.declared.expanded.Expanded.{Expanded}
use Rattle.sized_texts.specs.declared.fault.SizeFault.{SizeFault}
use Rattle.sized_texts.specs.declared.fault.SizeFault.TheVariants.{BadSize, TooLong, NotDeclared, OutOfMemory}
use Rattle.sized_texts.specs.declared.stop.Wrong.{Wrong}
use Rattle.sized_texts.specs.Pieces.{Expansion}

-- the offset at which so many bytes of a text are left, and the reason
abbrev pub fault_in : ℕ → Wrong → SizeFault
fault_in total w = BadSize (total - w.left) w.reason

-- what is found in a text of that many bytes, or the fault
abbrev pub in_text : {A : Type 0} → ℕ → Result A Wrong → Result A SizeFault
in_text total (Ok x) = Ok x
in_text total (Err w) = Err (fault_in total w)

-- what a function answered is what is so, unless memory was refused
abbrev pub Answers : {X Y : Type 0} → (X → Y) → Result X SizeFault → Result Y SizeFault → Type 0
Answers view (Ok x) is = is ≡ Ok (view x)
Answers view (Err OutOfMemory) is = Unit {0}
Answers view (Err (BadSize at r)) is = is ≡ Err (BadSize at r)
Answers view (Err TooLong) is = is ≡ Err TooLong
Answers view (Err (NotDeclared i)) is = is ≡ Err (NotDeclared i)

-- the text and the places
abbrev pub shown : Expanded → Expansion
shown e = record { text = e.text.items; places = e.places.items }
