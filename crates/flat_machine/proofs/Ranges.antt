-- What instructions ask for and write to are cells of the layout.
use Rattle.std.proofs.Common.{◌≡◌, ℕ, zero, suc, ◌<◌, ◌≤◌, List, [], ◌∷◌, ◌++◌, map, Bool, true, false, Option, Some, None, ℤ, pos}
use Rattle.std.proofs.Common.{eqb, refl, sym, ap, ◌∙◌, subst, arith, ⊎_elim, ◌⊎◌, inl, inr}
use Rattle.std.specs.Prelude.{if◌then◌else◌}
use Rattle.std.proofs.lemmas.Bool.Decides.{nat_tests}
use Rattle.pram_model.specs.Layout.{total_size, cell_of}
use Rattle.pram_model.proofs.Cells.{cell_below}
use Rattle.pram_model.specs.declared.rule.Rule.{Rule}
use Rattle.pram_values.specs.Total.{total}
use Rattle.pram_values.proofs.Totals.{total_none}
use Rattle.superstep_instructions.specs.declared.instr.Side.TheVariants.{Uniform, Private}
use Rattle.superstep_instructions.specs.declared.instr.Instr.{Instr}
use Rattle.superstep_instructions.specs.declared.instr.Instr.TheVariants.{Mask, Flip, Unmask, Ask, Put}
use Rattle.superstep_instructions.specs.Code.{SuperstepCode}
use Rattle.superstep_machine.specs.Parts.{Read, UniformPart, PrivatePart}
use Rattle.superstep_machine.specs.Steps.{on_uniform, uniform_write, is_active, cell_for, write_to, on_active, on_own, own_write, index_of}
use Rattle.superstep_machine.specs.Sending.{join, cell_at}
use Rattle.superstep_machine.proofs.Collected.{entries_are_monoid}
use Rattle.flat_machine.specs.Flat.{Flat, range, single_to, written}
use Rattle.superstep_machine.specs.Sides.{IsBySide, AreBySide}

-- what holds of both holds of the one that a test takes
pub either : {A : Type 0} (P : A → Type 0) (b : Bool) (x y : A) → P x → P y → P (if b then x else y)
either P true x y p q = p
either P false x y p q = q

-- ---- what is asked for

-- a cell of a list with one more behind it
pub cell_pushed : (k : ℕ) (cells : List (Option ℕ)) (last : Option ℕ) (c : ℕ) → cell_at k (cells ++ last ∷ []) ≡ Some c →
    (cell_at k cells ≡ Some c) ⊎ (last ≡ Some c)
cell_pushed zero [] last c h = inr h
cell_pushed (suc k) [] last c h = absurd (cc)
cell_pushed zero (d ∷ cells) last c h = inl h
cell_pushed (suc k) (d ∷ cells) last c h = cell_pushed k cells last c h

-- below a number, if each cell of the list is
abbrev pub AreBelow : ℕ → List (Option ℕ) → Type 0
AreBelow n cells = (k c : ℕ) → cell_at k cells ≡ Some c → c < n

below_pushed : (n : ℕ) (cells : List (Option ℕ)) (last : Option ℕ) → AreBelow n cells → ((c : ℕ) → last ≡ Some c → c < n) →
    AreBelow n (cells ++ last ∷ [])
below_pushed n cells last old new k c h = ⊎_elim (λ before. old k c before) (λ here. new c here) (cell_pushed k cells last c h)

none_below : (n c : ℕ) → None ≡ Some c → c < n
none_below n c h = absurd (cc)

cells_pushed : (reads : List Read) (last : Read) → map (λ (r : Read). r.cell) (reads ++ last ∷ []) ≡ map (λ (r : Read). r.cell) reads
    ++ last.cell ∷ []
cells_pushed [] last = refl
cells_pushed (read ∷ reads) last = ap (λ cells. read.cell ∷ cells) (cells_pushed reads last)

pub uniform_below : (code : SuperstepCode) (i : Instr) (u : UniformPart) → AreBelow (total_size code.layout)
    (map (λ (r : Read). r.cell) u.asks) →
    AreBelow (total_size code.layout) (map (λ (r : Read). r.cell) (on_uniform code i u).asks)
uniform_below code (Ask Uniform d c s q) u h =
    let n = total_size code.layout in
    subst (AreBelow n) (sym (cells_pushed u.asks _))
    (below_pushed n (map (λ (r : Read). r.cell) u.asks) (cell_of code.layout c (u.registers s)) h
    (cell_below code.layout c (u.registers s)))
uniform_below code (Ask Private d c s q) u h =
    let n = total_size code.layout in
    subst (AreBelow n) (sym (cells_pushed u.asks _)) (below_pushed n (map (λ (r : Read). r.cell) u.asks) None h (none_below n))
uniform_below code i u h = h

pub own_below : (code : SuperstepCode) (i : Instr) (u : UniformPart) (v : ℕ) (x : PrivatePart) → AreBelow (total_size code.layout) x.asks →
    AreBelow (total_size code.layout) (on_own code i u v x).asks
own_below code (Mask s) u v x h = h
own_below code Flip u v x h = h
own_below code Unmask u v x h = h
own_below code (Ask Uniform d c s q) u v x h = let n = total_size code.layout in below_pushed n x.asks None h (none_below n)
own_below code (Ask Private d c s q) u v x h =
    let n = total_size code.layout in
    either (λ (y : PrivatePart). AreBelow n y.asks) (is_active x) (on_active code (Ask Private d c s q) u v x) (record x {
      asks =
          x.asks ++ None ∷ [];
    })
    (below_pushed n x.asks (cell_for code c s x) h (cell_below code.layout c (x.registers s)))
    (below_pushed n x.asks None h (none_below n))
own_below code i u v x h = either (λ (y : PrivatePart). AreBelow (total_size code.layout) y.asks) (is_active x) (on_active code i u v x) x h
    h

-- ---- what is awaited stays

pub uniform_awaited_stays : (code : SuperstepCode) (i : Instr) (u : UniformPart) → (on_uniform code i u).awaited ≡ u.awaited
uniform_awaited_stays code (Ask Uniform d c s q) u = refl
uniform_awaited_stays code (Ask Private d c s q) u = refl
uniform_awaited_stays code i u = refl

pub own_awaited_stays : (code : SuperstepCode) (i : Instr) (u : UniformPart) (v : ℕ) (x : PrivatePart) →
    (on_own code i u v x).awaited ≡ x.awaited
own_awaited_stays code (Mask s) u v x = refl
own_awaited_stays code Flip u v x = refl
own_awaited_stays code Unmask u v x = refl
own_awaited_stays code (Ask Uniform d c s q) u v x = refl
own_awaited_stays code (Ask Private d c s q) u v x =
    either (λ (y : PrivatePart). y.awaited ≡ x.awaited) (is_active x) (on_active code (Ask Private d c s q) u v x)
    (record x { asks = x.asks ++ None ∷ [] }) refl refl
own_awaited_stays code i u v x = either (λ (y : PrivatePart). y.awaited ≡ x.awaited) (is_active x) (on_active code i u v x) x refl refl

-- ---- what is written

-- a write, where there is one, is to a cell below n
abbrev IsBelow : ℕ → Option (ℕ × ℤ) → Type 0
IsBelow n None = Unit {0}
IsBelow n (Some (c, value)) = c < n

write_below : (n : ℕ) (cell : Option ℕ) (value : ℤ) → ((c : ℕ) → cell ≡ Some c → c < n) → IsBelow n (write_to cell value)
write_below n None value h = tt
write_below n (Some c) value h = h c refl

uniform_write_below : (code : SuperstepCode) (i : Instr) (u : UniformPart) → IsBelow (total_size code.layout) (uniform_write code i u)
uniform_write_below code (Put Uniform c s v q) u =
    write_below (total_size code.layout) (cell_of code.layout c (u.registers s)) (u.registers v) (cell_below code.layout c (u.registers s))
uniform_write_below code (Put Private c s v q) u = tt
uniform_write_below code i u = tt

own_write_below : (code : SuperstepCode) (i : Instr) (x : PrivatePart) → IsBelow (total_size code.layout) (own_write code i x)
own_write_below code (Put Private c s v q) x =
    let n = total_size code.layout in
    either (IsBelow n) (is_active x) (write_to (cell_for code c s x) (x.registers v)) None
    (write_below n (cell_for code c s x) (x.registers v) (cell_below code.layout c (x.registers s))) tt
own_write_below code (Put Uniform c s v q) x = tt
own_write_below code i x = tt

not_to : (rule : Rule) (n c : ℕ) (processor : ℤ) (write : Option (ℕ × ℤ)) → IsBelow n write → n ≤ c →
    single_to rule c processor write ≡ None
not_to rule n c processor None h above = refl
not_to rule n c processor (Some (d, value)) h above = let apart : eqb d c ≡ false = grind (arith, nat_tests, h, above) in rw apart refl

pub none_written : (code : SuperstepCode) (i : Instr) (f : Flat) (c : ℕ) → total_size code.layout ≤ c → written code i f c ≡ None
none_written code i f c above =
    let n = total_size code.layout in
    let own = λ (v : ℕ). single_to code.rule c (index_of f.uniform v) (own_write code i (f.own v)) in
    let nothing : (v : ℕ) → own v ≡ None = λ v. not_to code.rule n c (index_of f.uniform v) (own_write code i (f.own v))
    (own_write_below code i (f.own v)) above in
    ap (λ e. join code.rule e (total None (join code.rule) own (range f)))
    (not_to code.rule n c (pos 0) (uniform_write code i f.uniform) (uniform_write_below code i f.uniform) above)
    ∙ total_none None (join code.rule) (entries_are_monoid code.rule) own nothing (range f)

-- ---- private reads

by_side_pushed : (reads : List Read) (last : Read) → AreBySide reads → IsBySide last → AreBySide (reads ++ last ∷ [])
by_side_pushed [] last h new = (new, tt)
by_side_pushed (read ∷ reads) last h new = (h.0, by_side_pushed reads last h.1 new)

-- every instruction keeps that; a send holds no read any longer, and a reply and a vote leave the reads that are held
pub by_side_stays : (code : SuperstepCode) (i : Instr) (u : UniformPart) → AreBySide u.asks → AreBySide (on_uniform code i u).asks
by_side_stays code (Ask Uniform d c s q) u h = by_side_pushed u.asks _ h (λ private. absurd (cc))
by_side_stays code (Ask Private d c s q) u h = by_side_pushed u.asks _ h (λ private. refl)
by_side_stays code i u h = h
