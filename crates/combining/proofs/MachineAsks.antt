-- The asks that are added read by read are those of the machine's worker.
use Rattle.std.proofs.Common.{◌≡◌, ℕ, zero, suc, ◌+◌, ◌^◌, ◌<◌, ◌≤◌, List, [], ◌∷◌, ◌++◌, length, map, Bool, true, false, not, Option, Some}
use Rattle.std.proofs.Common.{None, refl, sym, subst, ap, ◌∙◌, arith, ⊎_elim, cond, eqb}
use Rattle.std.specs.Prelude.{if◌then◌else◌}
use Rattle.std.specs.List.{filter, AllByRecursion, cons_option}
use Rattle.std.proofs.lemmas.Bool.{eq-eqb, ne_eqb}
use Rattle.std.proofs.lemmas.Bool.Decides.{eqb_tells}
use Rattle.std.proofs.lemmas.List.{map-append}
use Rattle.std.proofs.lemmas.Simd.{map-map}
use Rattle.pram_values.specs.Total.{total}
use Rattle.superstep_instructions.specs.declared.instr.Side.{Side}
use Rattle.superstep_instructions.specs.declared.instr.Side.TheVariants.{Uniform, Private}
use Rattle.superstep_machine.specs.Parts.{Read, PrivatePart}
use Rattle.superstep_machine.specs.Words.{CellAsk}
use Rattle.superstep_machine.specs.Worker.{Worker}
use Rattle.superstep_machine.specs.Fitting.{IsCellBelow}
use Rattle.superstep_machine.specs.Sides.{HasOneSide, HaveOneSide}
use Rattle.superstep_machine.specs.Sending.{firsts, cell_at, present, several, is_several, asks_for, asked_twice, asks_from}
use Rattle.superstep_machine.proofs.MachineWords.{all_firsts, all_map, cell_at_below}
use Rattle.combining.specs.Asked.{HeldAsk, IsAskBelow, ask_key, key_of, marked_twice, ask}
use Rattle.combining.specs.Adding.{cells_added, asked_from, asked_by, asked_after, unanswered, AddedAsksAreTheMachines, AsksCanBeAdded}
use Rattle.combining.specs.Adding.{FittingAsksAreTheMachines, CellsStayBelow}
use Rattle.combining.proofs.AscendingAsks.{asked_after_append}
use Rattle.combining.proofs.MachinePuts.{firsts_filter, length_filter}

-- ---- one read

abbrev pairs : ℕ → List ℕ → List (ℕ × ℕ)
pairs k cs = map (λ (c : ℕ). (k, c)) cs

-- none, one, or more of these cells
abbrev count : ℕ → List ℕ → Option Bool
count c cs = total None several (λ (d : ℕ). asks_for c (Some d)) cs

abbrev but : ℕ → List ℕ → List ℕ
but c = filter (λ d. not (eqb c d))

abbrev asked_as : ℕ → ℕ → Bool → HeldAsk
asked_as k c b = unanswered (record { read = k; cell = c; twice = b })

several_more : (b : Bool) (n : Option Bool) → several (Some b) (several (Some false) n) ≡ several (Some true) n
several_more b None = refl
several_more b (Some y) = refl

-- the ask that is held first is marked by those for its cell, and the others go behind it
held_first : (k : ℕ) (ds : List ℕ) (c : ℕ) (b : Bool) (held : List HeldAsk)
    → asked_after (pairs k ds) (asked_as k c b ∷ held)
    ≡ asked_as k c (is_several (several (Some b) (count c ds))) ∷ asked_after (pairs k (but c ds)) held
held_first k [] c b held = refl
held_first k (d ∷ ds) c b held =
    let x = asked_as k c b in
    let others = but c ds in
    let all = asked_as k c (is_several (several (Some b) (count c (d ∷ ds)))) in
    ⊎_elim
    (λ same.
    ap (λ t. asked_after (pairs k ds) (if t then marked_twice x ∷ held else x ∷ ask k d held))
    (eq-eqb (ask_key k c) (ask_key k d) (ap (ask_key k) same.1))
    ∙ held_first k ds c true held
    ∙ ap (λ n. asked_as k c (is_several n) ∷ asked_after (pairs k others) held)
    (sym (several_more b (count c ds))
    ∙ ap (λ t. several (Some b) (several (if t then Some false else None) (count c ds))) (sym (eq-eqb d c (sym same.1))))
    ∙ ap (λ t. all ∷ asked_after (pairs k (cond (not t) (d ∷ others) others)) held) (sym same.0))
    (λ other.
    ap (λ t. asked_after (pairs k ds) (if t then marked_twice x ∷ held else x ∷ ask k d held))
    (ne_eqb (ask_key k c) (ask_key k d) (λ e. other.1 (omega (arith, e))))
    ∙ held_first k ds c b (ask k d held)
    ∙ ap (λ t. asked_as k c (is_several (several (Some b) (several (if t then Some false else None) (count c ds))))
    ∷ asked_after (pairs k (d ∷ others)) held)
    (sym (ne_eqb d c (λ e. other.1 (sym e))))
    ∙ ap (λ t. all ∷ asked_after (pairs k (cond (not t) (d ∷ others) others)) held) (sym other.0))
    (eqb_tells c d)

count_but : (c d : ℕ) → (c ≡ d → ⊥) → (es : List ℕ) → count d (but c es) ≡ count d es
count_but c d apart [] = refl
count_but c d apart (e ∷ es) =
    ⊎_elim
    (λ same.
    ap (λ t. count d (cond (not t) (e ∷ but c es) (but c es))) same.0
    ∙ count_but c d apart es
    ∙ sym (ap (λ t. several (if t then Some false else None) (count d es)) (ne_eqb e d (λ h. apart (same.1 ∙ h)))))
    (λ other.
    ap (λ t. count d (cond (not t) (e ∷ but c es) (but c es))) other.0
    ∙ ap (several (asks_for d (Some e))) (count_but c d apart es))
    (eqb_tells c e)

-- functions that are equal but at c
same_but : {B : Type 0} (f g : ℕ → B) (c : ℕ) → ((d : ℕ) → (c ≡ d → ⊥) → f d ≡ g d) → (xs : List ℕ) → map f (but c xs) ≡ map g (but c xs)
same_but f g c h [] = refl
same_but f g c h (x ∷ xs) =
    let rest = but c xs in
    ⊎_elim
    (λ same.
    ap (λ t. map f (cond (not t) (x ∷ rest) rest)) same.0
    ∙ same_but f g c h xs
    ∙ sym (ap (λ t. map g (cond (not t) (x ∷ rest) rest)) same.0))
    (λ other.
    ap (λ t. map f (cond (not t) (x ∷ rest) rest)) other.0
    ∙ (λ i. h x other.1 i ∷ same_but f g c h xs i)
    ∙ sym (ap (λ t. map g (cond (not t) (x ∷ rest) rest)) other.0))
    (eqb_tells c x)

read_within : (k n : ℕ) (cs : List ℕ) → length cs ≤ n
    → asked_after (pairs k cs) [] ≡ map (λ c. asked_as k c (is_several (count c cs))) (firsts cs)
read_within k n [] h = refl
read_within k zero (c ∷ cs) h = absurd (omega arith)
read_within k (suc n) (c ∷ cs) h =
    let short : length (but c cs) ≤ n = (let l = length_filter (λ d. not (eqb c d)) cs in omega arith) in
    let f : ℕ → HeldAsk = λ d. asked_as k d (is_several (count d (but c cs))) in
    let g : ℕ → HeldAsk = λ d. asked_as k d (is_several (count d (c ∷ cs))) in
    held_first k cs c false []
    ∙ (λ i. asked_as k c (is_several (several (if sym (eq-eqb c c refl) i then Some false else None) (count c cs)))
    ∷ read_within k n (but c cs) short i)
    ∙ ap (λ ds. g c ∷ map f ds) (firsts_filter (λ d. not (eqb c d)) cs)
    ∙ ap (λ ys. g c ∷ ys)
    (same_but f g c (λ d apart. ap (λ n. asked_as k d (is_several n))
    (count_but c d apart cs ∙ sym (ap (λ t. several (if t then Some false else None) (count d cs)) (ne_eqb c d apart)))) (firsts cs))

-- ---- the two sides

abbrev own_cells : ℕ → List PrivatePart → List (Option ℕ)
own_cells k = map (λ (x : PrivatePart). cell_at k x.asks)

abbrev askers : ℕ → ℕ → List PrivatePart → Option Bool
askers k c = total None several (λ (x : PrivatePart). asks_for c (cell_at k x.asks))

count_own : (k c : ℕ) (own : List PrivatePart) → count c (present (own_cells k own)) ≡ askers k c own
count_own k c [] = refl
count_own k c (x ∷ own) = go (cell_at k x.asks) (count_own k c own)
  where
    go : (o : Option ℕ) → count c (present (own_cells k own)) ≡ askers k c own
        → count c (cons_option o (present (own_cells k own))) ≡ several (asks_for c o) (askers k c own)
    go None e = e
    go (Some d) e = ap (several (asks_for c (Some d))) e

module _ (k : ℕ) where
  abbrev NoneAsks : PrivatePart → Type 0
  NoneAsks x = cell_at k x.asks ≡ None

  none_present : (own : List PrivatePart) → AllByRecursion NoneAsks own → present (own_cells k own) ≡ []
  none_present [] all = refl
  none_present (x ∷ own) all = ap (λ o. cons_option o (present (own_cells k own))) all.0 ∙ none_present own all.1

  none_ask : (c : ℕ) (own : List PrivatePart) → AllByRecursion NoneAsks own → askers k c own ≡ None
  none_ask c [] all = refl
  none_ask c (x ∷ own) all = ap (λ o. several (asks_for c o) (askers k c own)) all.0 ∙ none_ask c own all.1

-- the marks are the machine's
abbrev SameMarks : List PrivatePart → ℕ → Option ℕ → Type 0
SameMarks own k cell =
    map (λ c. asked_as k c (is_several (count c (present (cell ∷ own_cells k own))))) (firsts (present (cell ∷ own_cells k own)))
    ≡ map (λ c. asked_as k c (is_several (askers k c own))) (firsts (present (cell ∷ own_cells k own)))

marks_uniform : (own : List PrivatePart) (k : ℕ) (cell : Option ℕ) → AllByRecursion (NoneAsks k) own → SameMarks own k cell
marks_uniform own k None all =
    let e = none_present k own all in
    ap (λ ps. map (λ c. asked_as k c (is_several (count c ps))) (firsts ps)) e
    ∙ sym (ap (λ ps. map (λ c. asked_as k c (is_several (askers k c own))) (firsts ps)) e)
marks_uniform own k (Some d) all =
    let e = none_present k own all in
    ap (λ ps. map (λ c. asked_as k c (is_several (count c (d ∷ ps)))) (firsts (d ∷ ps))) e
    ∙ ap (λ t. asked_as k d (is_several (several (if t then Some false else None) None)) ∷ []) (eq-eqb d d refl)
    ∙ ap (λ n. asked_as k d (is_several n) ∷ []) (sym (none_ask k d own all))
    ∙ sym (ap (λ ps. map (λ c. asked_as k c (is_several (askers k c own))) (firsts (d ∷ ps))) e)

marks_are : (own : List PrivatePart) (k : ℕ) (cell : Option ℕ) (side : Side) → HasOneSide own k cell side → SameMarks own k cell
marks_are own k cell Private one =
    subst (SameMarks own k) (sym one) (λ i. map (λ c. asked_as k c (is_several (count_own k c own i))) (firsts (present (own_cells k own))))
marks_are own k cell Uniform one = marks_uniform own k cell one

-- ---- read by read

abbrev Small : ℕ × ℕ → Type 0
Small a = a.1 < 2 ^ 20

abbrev AllSmall : List ℕ → Type 0
AllSmall = AllByRecursion (λ c. c < 2 ^ 20)

small_apart : (k : ℕ) (cs : List ℕ) (ys : List (ℕ × ℕ)) → AllByRecursion Small (pairs k cs ++ ys) → AllSmall cs × AllByRecursion Small ys
small_apart k [] ys all = (tt, all)
small_apart k (c ∷ cs) ys all = let rest = small_apart k cs ys all.1 in ((all.0, rest.0), rest.1)

keys_apart : (k c m d : ℕ) → c < 2 ^ 20 → d < 2 ^ 20 → k < m → ask_key k c ≡ ask_key m d → ⊥
keys_apart k c m d small l less e = omega (arith, small, l, less, e)

-- asks of a later read, and of all later reads, go behind
behind_read : (x : HeldAsk) (k : ℕ) → x.ask.cell < 2 ^ 20 → x.ask.read < k → (cs : List ℕ) → AllSmall cs → (held : List HeldAsk)
    → asked_after (pairs k cs) (x ∷ held) ≡ x ∷ asked_after (pairs k cs) held
behind_read x k small less [] all held = refl
behind_read x k small less (c ∷ cs) all held =
    ap (λ t. asked_after (pairs k cs) (if t then marked_twice x ∷ held else x ∷ ask k c held))
    (ne_eqb (key_of x.ask) (ask_key k c) (keys_apart x.ask.read x.ask.cell k c small all.0 less))
    ∙ behind_read x k small less cs all.1 (ask k c held)

behind : (s : Worker) (x : HeldAsk) (k : ℕ) → x.ask.cell < 2 ^ 20 → x.ask.read < k
    → (reads : List Read) → AllByRecursion Small (asked_from s k reads) → (held : List HeldAsk)
    → asked_after (asked_from s k reads) (x ∷ held) ≡ x ∷ asked_after (asked_from s k reads) held
behind s x k small less [] all held = refl
behind s x k small less (read ∷ rest) all held =
    let cs = cells_added s read k in
    let later = asked_from s (k + 1) rest in
    let both = small_apart k cs later all in
    asked_after_append (pairs k cs) later (x ∷ held)
    ∙ ap (asked_after later) (behind_read x k small less cs both.0 held)
    ∙ behind s x (k + 1) small (omega (arith, less)) rest both.1 (asked_after (pairs k cs) held)
    ∙ ap (λ ys. x ∷ ys) (sym (asked_after_append (pairs k cs) later held))

all_behind : (s : Worker) (k m : ℕ) → k < m → (twice : ℕ → Bool) (cs : List ℕ) → AllSmall cs
    → (reads : List Read) → AllByRecursion Small (asked_from s m reads)
    → asked_after (asked_from s m reads) (map (λ c. asked_as k c (twice c)) cs)
    ≡ map (λ c. asked_as k c (twice c)) cs ++ asked_after (asked_from s m reads) []
all_behind s k m less twice [] small reads all = refl
all_behind s k m less twice (c ∷ cs) small reads all =
    let x = asked_as k c (twice c) in
    behind s x m small.0 less reads all (map (λ d. asked_as k d (twice d)) cs)
    ∙ ap (λ ys. x ∷ ys) (all_behind s k m less twice cs small.1 reads all)

reads_are : (s : Worker) (k : ℕ) (reads : List Read) → HaveOneSide s.own k reads → AllByRecursion Small (asked_from s k reads)
    → asked_after (asked_from s k reads) [] ≡ map unanswered (asks_from s k reads)
reads_are s k [] sides all = refl
reads_are s k (read ∷ rest) sides all =
    let cs = cells_added s read k in
    let later = asked_from s (k + 1) rest in
    let both = small_apart k cs later all in
    let now : ℕ → CellAsk = λ c. record { read = k; cell = c; twice = asked_twice s k c } in
    asked_after_append (pairs k cs) later []
    ∙ ap (asked_after later) (read_within k (length cs) cs (omega arith) ∙ marks_are s.own k read.cell read.side sides.0)
    ∙ all_behind s k (k + 1) (omega arith) (asked_twice s k) (firsts cs) (all_firsts (λ c. c < 2 ^ 20) cs both.0) rest both.1
    ∙ ap (λ ys. map (λ c. unanswered (now c)) (firsts cs) ++ ys) (reads_are s (k + 1) rest sides.1 both.1)
    ∙ sym (map-append unanswered (map now (firsts cs)) (asks_from s (k + 1) rest)
    ∙ ap (λ ys. ys ++ map unanswered (asks_from s (k + 1) rest)) (map-map unanswered now (firsts cs)))

pub added_are_machines : AddedAsksAreTheMachines
added_are_machines s sides small = reads_are s 0 s.uniform.asks sides small

-- ---- of a worker that fits

module _ (n : ℕ) where
  own_below : (k : ℕ) (own : List PrivatePart) → AllByRecursion (λ (x : PrivatePart). AllByRecursion (IsCellBelow n) x.asks) own
      → AllByRecursion (IsCellBelow n) (own_cells k own)
  own_below k = all_map (λ (x : PrivatePart). AllByRecursion (IsCellBelow n) x.asks) (IsCellBelow n) (λ (x : PrivatePart). cell_at k x.asks)
      (λ x below. cell_at_below n k x.asks below)

  abbrev Fits : ℕ × ℕ → Type 0
  Fits a = (a.0 < 2 ^ 3) × (a.1 < n)

  -- those of one read, before others
  read_fits : (k : ℕ) → k < 2 ^ 3 → (cells : List (Option ℕ)) → AllByRecursion (IsCellBelow n) cells
      → (ys : List (ℕ × ℕ)) → AllByRecursion Fits ys → AllByRecursion Fits (pairs k (present cells) ++ ys)
  read_fits k l [] below ys all = all
  read_fits k l (None ∷ cells) below ys all = read_fits k l cells below.1 ys all
  read_fits k l (Some c ∷ cells) below ys all = ((l, below.0), read_fits k l cells below.1 ys all)

  reads_fit : (s : Worker) → AllByRecursion (λ (x : PrivatePart). AllByRecursion (IsCellBelow n) x.asks) s.own
      → (k : ℕ) (reads : List Read) → k + length reads ≤ 2 ^ 3 → AllByRecursion (λ (read : Read). IsCellBelow n read.cell) reads
      → AllByRecursion Fits (asked_from s k reads)
  reads_fit s own k [] l all = tt
  reads_fit s own k (read ∷ rest) l all =
      read_fits k (omega (arith, l)) (read.cell ∷ own_cells k s.own) (all.0, own_below k s.own own) (asked_from s (k + 1) rest)
      (reads_fit s own (k + 1) rest (omega (arith, l)) all.1)

  pub fits_small : n ≤ 2 ^ 20 → (xs : List (ℕ × ℕ)) → AllByRecursion Fits xs → AllByRecursion Small xs
  fits_small few [] all = tt
  fits_small few (x ∷ xs) all = let below = all.0.1 in (omega (arith, below, few), fits_small few xs all.1)

pub added_fit : AsksCanBeAdded
added_fit t s f = reads_fit t.map.count s f.own_asks 0 s.uniform.asks (let few = f.few in omega (arith, few)) f.asks

pub fitting_are_machines : FittingAsksAreTheMachines
fitting_are_machines t s f sides = added_are_machines s sides (fits_small t.map.count f.small (asked_by s) (added_fit t s f))

-- ---- cells stay below a number

ask_below : (n read cell : ℕ) → cell < n → (held : List HeldAsk) → AllByRecursion (IsAskBelow n) held
    → AllByRecursion (IsAskBelow n) (ask read cell held)
ask_below n read cell l [] all = (l, tt)
ask_below n read cell l (x ∷ held) all = go (eqb (key_of x.ask) (ask_key read cell)) (ask_below n read cell l held all.1)
  where
    go : (b : Bool) → AllByRecursion (IsAskBelow n) (ask read cell held)
        → AllByRecursion (IsAskBelow n) (if b then marked_twice x ∷ held else x ∷ ask read cell held)
    go true rest = all
    go false rest = (all.0, rest)

pub stay_below : CellsStayBelow
stay_below n [] held small all = all
stay_below n (a ∷ asks) held small all = stay_below n asks (ask a.0 a.1 held) small.1 (ask_below n a.0 a.1 small.0 held all)
