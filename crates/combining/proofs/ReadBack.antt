-- Words that were packed are read as what they were packed from.
use Rattle.std.proofs.Common.{◌≡◌, ℕ, List, [], ◌∷◌, map, Bool, None, refl, sym, subst, ⊎_elim, cond}
use Rattle.std.specs.List.{flat_map, AllByRecursion}
use Rattle.std.proofs.lemmas.Bool.Decides.{eqb_tells}
use Rattle.pram_values.specs.Total.{total}
use Rattle.pram_model.specs.declared.rule.Rule.{Rule}
use Rattle.address_map.specs.Lawful.{Shape}
use Rattle.superstep_machine.specs.Words.{CellPut, Message, put_words, ask_words}
use Rattle.superstep_machine.specs.WordReading.{puts_in, entry_read, askers_read}
use Rattle.superstep_machine.specs.Fitting.{FitsPut, IsPutFor, IsAskFor}
use Rattle.superstep_machine.specs.Sending.{join, entry_in, entry_came, several, asked_in, askers_came}
use Rattle.superstep_machine.proofs.ReadBack.{puts_back, asks_back}
use Rattle.combining.specs.Held.{IsPutBelow, puts_for, packed_puts}

-- those of a worker for a module
puts_are_for : (rule : Rule) (m : Shape) (j : ℕ) (held : List CellPut) → AllByRecursion (FitsPut rule) held →
    AllByRecursion (IsPutBelow m.count) held → AllByRecursion (IsPutFor rule m j) (puts_for m.part j held)
puts_are_for rule m j [] fits below = tt
puts_are_for rule m j (x ∷ held) fits below =
    let inner = puts_for m.part j held in
    let rest = puts_are_for rule m j held fits.1 below.1 in
    ⊎_elim
    (λ yes. subst (λ (b : Bool). AllByRecursion (IsPutFor rule m j) (cond b (x ∷ inner) inner)) (sym yes.0) (
      record {
        fits = fits.0;
        of = record { below = below.0; here = yes.1 };
      },
      rest,
    ))
    (λ other. subst (λ (b : Bool). AllByRecursion (IsPutFor rule m j) (cond b (x ∷ inner) inner)) (sym other.0) rest)
    (eqb_tells (m.part x.cell) j)

pub packed_back : (rule : Rule) (m : Shape) (j : ℕ) (held : List CellPut) → AllByRecursion (FitsPut rule) held →
    AllByRecursion (IsPutBelow m.count) held → puts_in rule m j (packed_puts rule m.part j held) ≡ puts_for m.part j held
packed_back rule m j held fits below = puts_back rule m j (puts_for m.part j held) (puts_are_for rule m j held fits below)

-- those of messages
pub entries_back : (rule : Rule) (m : Shape) (j : ℕ) (column : List Message) →
    AllByRecursion (λ (x : Message). AllByRecursion (IsPutFor rule m j) x.puts) column → (c : ℕ)
    → entry_read rule m j (map (λ (x : Message). flat_map (put_words rule) x.puts) column) c ≡ entry_came rule column c
entries_back rule m j [] is c = refl
entries_back rule m j (x ∷ column) is c =
    λ i. join rule (total None (join rule) (entry_in c) (puts_back rule m j x.puts is.0 i)) (entries_back rule m j column is.1 c i)

pub askers_back : (m : Shape) (j : ℕ) (column : List Message) →
    AllByRecursion (λ (x : Message). AllByRecursion (IsAskFor m j) x.asks) column → (k c : ℕ)
    → askers_read m j (map (λ (x : Message). ask_words x.asks) column) k c ≡ askers_came column k c
askers_back m j [] is k c = refl
askers_back m j (x ∷ column) is k c =
    λ i. several (total None several (asked_in k c) (asks_back m j x.asks is.0 i)) (askers_back m j column is.1 k c i)
