-- The places of one level's reads: they are the same for all processors, and each has as many cells.
use Rattle.std.proofs.Common.{◌≡◌, ℕ, ◌+◌, List, [], ◌∷◌, ◌++◌, length, length-append, Bool, true, false}
use Rattle.std.proofs.Common.{None, refl, sym, ap, ◌∙◌, append_assoc, arith}
use Rattle.std.specs.Prelude.{nat_eq}
use Rattle.pram_tokens.specs.declared.token.Binary.{Binary}
use Rattle.pram_tokens.specs.declared.token.Binary.TheVariants.{Or, And, Equal, Unequal, Less, AtMost, Greater, AtLeast, Add, Subtract}
use Rattle.pram_tokens.specs.declared.token.Binary.TheVariants.{Multiply, Divide, Remainder}
use Rattle.pram_trees.specs.declared.tree.Prefix.{Prefix}
use Rattle.pram_trees.specs.declared.tree.Prefix.TheVariants.{Negate, Not}
use Rattle.pram_model.specs.Layout.{cell_of}
use Rattle.superstep_instructions.specs.declared.instr.Side.TheVariants.{Private}
use Rattle.superstep_instructions.specs.declared.instr.Instr.{Instr}
use Rattle.superstep_instructions.specs.declared.instr.Instr.TheVariants.{Ask}
use Rattle.superstep_machine.specs.Parts as parts
use Rattle.pram_meaning.specs.Store.{View}
use Rattle.statement_evaluation.specs.Whole.{value}
use Rattle.statement_evaluation.specs.Noted.{Heading, moment}
use Rattle.plain_form.specs.Formulas.{Formula, Zero, Number, Variable, Index, Local, Read, Before, Between, Pair, reads, positions, nesting}
use Rattle.plain_form.specs.Regions.{place, before_code, between_code, region}
use Rattle.plain_form.specs.Groups.{only, asks}
use Rattle.compiled_formulas.specs.Terms.{term}
use Rattle.compiled_formulas.proofs.LevelReads.{reads_if, level_reads}
use Rattle.compiled_formulas.proofs.PrivateSteps.{slots, slots_in}

-- the place of a private read
abbrev pub slot : Heading → ℕ → ℕ → parts.Read
slot h d q = record { side = Private; destination = d; moment = moment h q; cell = None }

abbrev pub slots_if : Bool → List parts.Read → List parts.Read
slots_if true xs = xs
slots_if false xs = []

abbrev pub level_slots : Heading → ℕ → Formula → (t q : ℕ) → List parts.Read
level_slots h l Zero t q = []
level_slots h l (Number z) t q = []
level_slots h l (Variable x) t q = []
level_slots h l Index t q = []
level_slots h l (Local x) t q = []
level_slots h l (Read a f) t q =
    level_slots h l f t q ++ slots_if (nat_eq (nesting f) l) (slot h (t + reads f) (q + positions f + 1) ∷ [])
level_slots h l (Before o f) t q = level_slots h l f t q
level_slots h l (Between o f g) t q = level_slots h l f t q ++ level_slots h l g (t + reads f) (q + positions f)
level_slots h l (Pair f g) t q = level_slots h l f t q ++ level_slots h l g (t + reads f) (q + positions f)

-- ---- they are those of the code

module _ (h : Heading) where
  pub slots_join : (xs ys : List Instr) → slots_in h (xs ++ ys) ≡ slots_in h xs ++ slots_in h ys
  slots_join [] ys = refl
  slots_join (i ∷ xs) ys = ap (λ zs. slots h i ++ zs) (slots_join xs ys) ∙ sym (append_assoc (slots h i) (slots_in h xs) (slots_in h ys))

  none_before : (o : Prefix) (b x q : ℕ) → slots_in h (before_code Private o b x q) ≡ []
  none_before Negate b x q = refl
  none_before Not b x q = refl

  none_between : (o : Binary) (b x y q : ℕ) → slots_in h (between_code Private o b x y q) ≡ []
  none_between Or b x y q = refl
  none_between And b x y q = refl
  none_between Equal b x y q = refl
  none_between Unequal b x y q = refl
  none_between Less b x y q = refl
  none_between AtMost b x y q = refl
  none_between Greater b x y q = refl
  none_between AtLeast b x y q = refl
  none_between Add b x y q = refl
  none_between Subtract b x y q = refl
  none_between Multiply b x y q = refl
  none_between Divide b x y q = refl
  none_between Remainder b x y q = refl

  none_joined : (xs ys : List Instr) → slots_in h xs ≡ [] → slots_in h ys ≡ [] → slots_in h (xs ++ ys) ≡ []
  none_joined xs ys e d = slots_join xs ys ∙ (λ i. e i ++ d i)

  region_slots : (f : Formula) (t b q : ℕ) → slots_in h (region Private f t b q) ≡ []
  region_slots Zero t b q = refl
  region_slots (Number z) t b q = refl
  region_slots (Variable x) t b q = refl
  region_slots Index t b q = refl
  region_slots (Local x) t b q = refl
  region_slots (Read a f) t b q = refl
  region_slots (Before o f) t b q =
      none_joined (region Private f t b q) (before_code Private o b (place Private f t b) (q + positions f + 1)) (region_slots f t b q)
      (none_before o b (place Private f t b) (q + positions f + 1))
  region_slots (Between o f g) t b q =
      let e = place Private g (t + reads f) (b + 1) in
      let ys = region Private g (t + reads f) (b + 1) (q + positions f) in
      let zs = between_code Private o b (place Private f t b) e (q + positions f + positions g + 1) in
      none_joined (region Private f t b q) (ys ++ zs) (region_slots f t b q)
      (none_joined ys zs (region_slots g (t + reads f) (b + 1) (q + positions f))
      (none_between o b (place Private f t b) e (q + positions f + positions g + 1)))
  region_slots (Pair f g) t b q =
      none_joined (region Private f t b q) (region Private g (t + reads f) (b + 1) (q + positions f)) (region_slots f t b q)
      (region_slots g (t + reads f) (b + 1) (q + positions f))

  pub asks_slots : (l : ℕ) (f : Formula) (t b q : ℕ) → slots_in h (asks Private l f t b q) ≡ level_slots h l f t q
  asks_slots l Zero t b q = refl
  asks_slots l (Number z) t b q = refl
  asks_slots l (Variable x) t b q = refl
  asks_slots l Index t b q = refl
  asks_slots l (Local x) t b q = refl
  asks_slots l (Read a f) t b q =
      slots_join (asks Private l f t b q) (only (nat_eq (nesting f) l) code) ∙ (λ i. asks_slots l f t b q i ++ go (nat_eq (nesting f) l) i)
    where
      code : List Instr
      code = region Private f t b q ++ Ask Private (t + reads f) a (place Private f t b) (q + positions f + 1) ∷ []

      go : (c : Bool) → slots_in h (only c code) ≡ slots_if c (slot h (t + reads f) (q + positions f + 1) ∷ [])
      go true =
          slots_join (region Private f t b q) (Ask Private (t + reads f) a (place Private f t b) (q + positions f + 1) ∷ [])
          ∙ (λ i. region_slots f t b q i ++ slot h (t + reads f) (q + positions f + 1) ∷ [])
      go false = refl
  asks_slots l (Before o f) t b q = asks_slots l f t b q
  asks_slots l (Between o f g) t b q =
      slots_join (asks Private l f t b q) (asks Private l g (t + reads f) b (q + positions f))
      ∙ (λ i. asks_slots l f t b q i ++ asks_slots l g (t + reads f) b (q + positions f) i)
  asks_slots l (Pair f g) t b q =
      slots_join (asks Private l f t b q) (asks Private l g (t + reads f) b (q + positions f))
      ∙ (λ i. asks_slots l f t b q i ++ asks_slots l g (t + reads f) b (q + positions f) i)

-- ---- how many

abbrev pub count_if : Bool → ℕ
count_if true = 1
count_if false = 0

abbrev pub level_count : ℕ → Formula → ℕ
level_count l Zero = 0
level_count l (Number z) = 0
level_count l (Variable x) = 0
level_count l Index = 0
level_count l (Local x) = 0
level_count l (Read a f) = level_count l f + count_if (nat_eq (nesting f) l)
level_count l (Before o f) = level_count l f
level_count l (Between o f g) = level_count l f + level_count l g
level_count l (Pair f g) = level_count l f + level_count l g

both_long : {A : Type 0} (xs ys : List A) (m n : ℕ) → length xs ≡ m → length ys ≡ n → length (xs ++ ys) ≡ m + n
both_long xs ys m n e d = let a = length-append xs ys in omega (arith, a, e, d)

pub count_slots : (h : Heading) (l : ℕ) (f : Formula) (t q : ℕ) → length (level_slots h l f t q) ≡ level_count l f
count_slots h l Zero t q = refl
count_slots h l (Number z) t q = refl
count_slots h l (Variable x) t q = refl
count_slots h l Index t q = refl
count_slots h l (Local x) t q = refl
count_slots h l (Read a f) t q =
    both_long (level_slots h l f t q) _ (level_count l f) (count_if (nat_eq (nesting f) l)) (count_slots h l f t q)
    (go (nat_eq (nesting f) l))
  where
    go : (c : Bool) → length (slots_if c (slot h (t + reads f) (q + positions f + 1) ∷ [])) ≡ count_if c
    go true = refl
    go false = refl
count_slots h l (Before o f) t q = count_slots h l f t q
count_slots h l (Between o f g) t q =
    both_long (level_slots h l f t q) (level_slots h l g (t + reads f) (q + positions f)) (level_count l f) (level_count l g)
    (count_slots h l f t q) (count_slots h l g (t + reads f) (q + positions f))
count_slots h l (Pair f g) t q =
    both_long (level_slots h l f t q) (level_slots h l g (t + reads f) (q + positions f)) (level_count l f) (level_count l g)
    (count_slots h l f t q) (count_slots h l g (t + reads f) (q + positions f))

pub count_reads : (s : View) (l : ℕ) (f : Formula) (t : ℕ) → length (level_reads s l f t) ≡ level_count l f
count_reads s l Zero t = refl
count_reads s l (Number z) t = refl
count_reads s l (Variable x) t = refl
count_reads s l Index t = refl
count_reads s l (Local x) t = refl
count_reads s l (Read a f) t =
    both_long (level_reads s l f t) _ (level_count l f) (count_if (nat_eq (nesting f) l)) (count_reads s l f t)
    (go (nat_eq (nesting f) l))
  where
    go : (c : Bool) → length (reads_if c ((t + reads f, cell_of s.layout a (value s (term f))) ∷ [])) ≡ count_if c
    go true = refl
    go false = refl
count_reads s l (Before o f) t = count_reads s l f t
count_reads s l (Between o f g) t =
    both_long (level_reads s l f t) (level_reads s l g (t + reads f)) (level_count l f) (level_count l g)
    (count_reads s l f t) (count_reads s l g (t + reads f))
count_reads s l (Pair f g) t =
    both_long (level_reads s l f t) (level_reads s l g (t + reads f)) (level_count l f) (level_count l g)
    (count_reads s l f t) (count_reads s l g (t + reads f))
