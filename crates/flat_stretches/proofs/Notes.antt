-- Keys of a stretch are collected apart from what it leaves.
use Rattle.std.proofs.Common.{◌≡◌, [], ◌∷◌, Option, refl, sym, ap, ◌∙◌}
use Rattle.superstep_instructions.specs.declared.instr.Side.TheVariants.{Uniform, Private}
use Rattle.superstep_instructions.specs.declared.instr.Instr.{Instr}
use Rattle.superstep_instructions.specs.declared.instr.Instr.TheVariants.{Ask, Put, Send, Reply, Vote}
use Rattle.superstep_instructions.specs.Code.{SuperstepCode}
use Rattle.superstep_machine.specs.declared.key.Key.{Key}
use Rattle.superstep_machine.specs.Keys.{least}
use Rattle.superstep_machine.proofs.KeyOrder.{keys_are_monoid, none_least}
use Rattle.flat_machine.specs.Flat.{Flat, noted}
use Rattle.flat_stretches.specs.Applied.{write_conflict}
use Rattle.flat_stretches.specs.Folds.{act_at_once, acts_at_once}
use Rattle.flat_stretches.specs.Notes.{note, notes, FoldsTellNotes, NotesJoin, NotesForgetKeys, FoldsForgetKeys}

abbrev with_key : Option Key → Flat → Flat
with_key key f = record f { key = key }

module _ (code : SuperstepCode) where
  -- the key behind one instruction
  key_behind : (i : Instr) (f : Flat) → (act_at_once code i f).key ≡ least f.key (note code i f)
  key_behind (Put side c s v q) f =
      keys_are_monoid.associative f.key (noted code (Put side c s v q) f) (write_conflict code (Put side c s v q) f)
  key_behind Send f = refl
  key_behind Reply f = sym (none_least f.key)
  key_behind (Vote d) f = sym (none_least f.key)
  key_behind i f = refl

  note_forgets : (i : Instr) (key : Option Key) (f : Flat) → note code i (with_key key f) ≡ note code i f
  note_forgets (Put Uniform c s v q) key f = refl
  note_forgets (Put Private c s v q) key f = refl
  note_forgets (Ask Uniform d c s q) key f = refl
  note_forgets (Ask Private d c s q) key f = refl
  note_forgets i key f = refl

  -- all but the key is the same
  act_forgets : (i : Instr) (key : Option Key) (f : Flat) →
      act_at_once code i (with_key key f) ≡ with_key (act_at_once code i (with_key key f)).key (act_at_once code i f)
  act_forgets (Put Uniform c s v q) key f = refl
  act_forgets (Put Private c s v q) key f = refl
  act_forgets Send key f = refl
  act_forgets Reply key f = refl
  act_forgets (Vote d) key f = refl
  act_forgets (Ask Uniform d c s q) key f = refl
  act_forgets (Ask Private d c s q) key f = refl
  act_forgets i key f = refl

pub folds_tell_notes : FoldsTellNotes
folds_tell_notes code [] f = sym (none_least f.key)
folds_tell_notes code (i ∷ is) f =
    folds_tell_notes code is (act_at_once code i f)
    ∙ ap (λ k. least k (notes code is (act_at_once code i f))) (key_behind code i f)
    ∙ keys_are_monoid.associative f.key (note code i f) (notes code is (act_at_once code i f))

pub notes_join : NotesJoin
notes_join code [] ys f = refl
notes_join code (i ∷ xs) ys f =
    ap (least (note code i f)) (notes_join code xs ys (act_at_once code i f))
    ∙ sym (keys_are_monoid.associative (note code i f) (notes code xs (act_at_once code i f))
    (notes code ys (acts_at_once code (i ∷ xs) f)))

pub notes_forget_keys : NotesForgetKeys
notes_forget_keys code [] key f = refl
notes_forget_keys code (i ∷ is) key f =
    ap (λ k. least k (notes code is (act_at_once code i (with_key key f)))) (note_forgets code i key f)
    ∙ ap (λ g. least (note code i f) (notes code is g)) (act_forgets code i key f)
    ∙ ap (least (note code i f)) (notes_forget_keys code is (act_at_once code i (with_key key f)).key (act_at_once code i f))

pub folds_forget_keys : FoldsForgetKeys
folds_forget_keys code [] key f = λ z. with_key (sym (none_least key) z) f
folds_forget_keys code (i ∷ is) key f =
    let g = act_at_once code i f in
    let k = (act_at_once code i (with_key key f)).key in
    ap (acts_at_once code is) (act_forgets code i key f) ∙ folds_forget_keys code is k g
    ∙ (λ z. with_key
    ((ap (λ (x : Option Key). least x (notes code is g)) (key_behind code i (with_key key f) ∙ ap (least key) (note_forgets code i key f))
    ∙ keys_are_monoid.associative key (note code i f) (notes code is g)) z)
    (acts_at_once code is g))
