-- What a stretch notes: the least key of its instructions, in the fold with each write applied at once.
use Rattle.std.specs.Prelude.{◌≡◌, List, [], ◌∷◌, ◌++◌, Option, None}
use Rattle.superstep_instructions.specs.declared.instr.Instr.{Instr}
use Rattle.superstep_instructions.specs.declared.instr.Instr.TheVariants.{Put, Send, Reply, Vote}
use Rattle.superstep_instructions.specs.Code.{SuperstepCode}
use Rattle.superstep_machine.specs.declared.key.Key.{Key}
use Rattle.superstep_machine.specs.Keys.{least}
use Rattle.flat_machine.specs.Flat.{Flat, noted, conflicts}
use Rattle.flat_stretches.specs.Applied.{write_conflict}
use Rattle.flat_stretches.specs.Folds.{act_at_once, acts_at_once}

-- what one instruction notes: a write its conflicts too, a send those of the reads
abbrev pub note : SuperstepCode → Instr → Flat → Option Key
note code (Put side c s v q) f = least (noted code (Put side c s v q) f) (write_conflict code (Put side c s v q) f)
note code Send f = conflicts code f
note code Reply f = None
note code (Vote d) f = None
note code i f = noted code i f

abbrev pub notes : SuperstepCode → List Instr → Flat → Option Key
notes code [] f = None
notes code (i ∷ is) f = least (note code i f) (notes code is (act_at_once code i f))

-- that is what the fold adds to the key
abbrev pub FoldsTellNotes : Type 0
FoldsTellNotes = (code : SuperstepCode) (is : List Instr) (f : Flat) → (acts_at_once code is f).key ≡ least f.key (notes code is f)

abbrev pub NotesJoin : Type 0
NotesJoin = (code : SuperstepCode) (xs ys : List Instr) (f : Flat) →
    notes code (xs ++ ys) f ≡ least (notes code xs f) (notes code ys (acts_at_once code xs f))

-- it doesn't depend on the key before, and nor does what the fold leaves
abbrev pub NotesForgetKeys : Type 0
NotesForgetKeys = (code : SuperstepCode) (is : List Instr) (key : Option Key) (f : Flat) →
    notes code is (record f { key = key }) ≡ notes code is f

abbrev pub FoldsForgetKeys : Type 0
FoldsForgetKeys = (code : SuperstepCode) (is : List Instr) (key : Option Key) (f : Flat) →
    acts_at_once code is (record f { key = key }) ≡ record (acts_at_once code is f) { key = least key (notes code is f) }
