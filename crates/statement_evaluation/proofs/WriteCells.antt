-- The conflicts of writes, cell by cell.
use Rattle.std.proofs.Common.{◌≡◌, ℕ, suc, ◌+◌, List, [], ◌∷◌, ◌++◌, map, length, length-append, Bool, true, false, ◌||◌, if◌then◌else◌}
use Rattle.std.proofs.Common.{cond, Option, Some, None, Ok, Err, ℤ, pos, refl, sym, ap, ◌∙◌, subst, arith}
use Rattle.std.specs.List.{AllByRecursion, flat_map, range_with_len, list_any}
use Rattle.pram_model.specs.declared.rule.Rule.{Rule}
use Rattle.pram_values.specs.declared.kind.Kind.{Kind}
use Rattle.pram_values.specs.Total.{total}
use Rattle.pram_values.specs.Value.{Value}
use Rattle.pram_values.proofs.Totals.{total_same, total_map, neutral_right}
use Rattle.write_rules.specs.declared.write.Write.{Write}
use Rattle.write_rules.specs.Rule.{written, rule_value}
use Rattle.superstep_machine.specs.declared.key.Key.{Key}
use Rattle.superstep_machine.specs.Keys.{least}
use Rattle.superstep_machine.specs.Sending.{conflict_at, put_conflict}
use Rattle.superstep_machine.proofs.KeyOrder.{keys_are_monoid, least_again}
use Rattle.pram_meaning.specs.Attempt.{Attempt, Gives, Fails, Trail, Effect}
use Rattle.pram_meaning.specs.Conflict.{Part, cell_conflict, value_key, write_conflict, write_to, writes_by, writes_to}
use Rattle.statement_evaluation.specs.Whole.{Step, Whole, unless_noted, upto, cut}
use Rattle.statement_evaluation.specs.Noted.{Heading, moment, verdict}
use Rattle.statement_evaluation.specs.LeastFaults.{told}
use Rattle.statement_evaluation.proofs.Sums.{on, is_at, IsBelow, total_flat, by_number}
use Rattle.pram_values.proofs.Totals.{total_each}
use Rattle.statement_evaluation.proofs.ReadColumns.{part, turned}

-- ---- one attempt

-- an attempt that gives its value has come to the last position
abbrev pub IsFull : ℕ → Attempt Effect → Type 0
IsFull n (Gives t x) = length t ≡ n
IsFull n (Fails t k) = Unit {0}

full : (ss : List Step) (x : Effect) (t : Trail) → IsFull (length t + length ss) (upto t ss x)
full [] x t = omega arith
full (s ∷ ss) x t = go s.note (full ss x (t ++ s.cell ∷ []))
  where
    go : (n : Option Kind) → IsFull (length (t ++ s.cell ∷ []) + length ss) (upto (t ++ s.cell ∷ []) ss x) →
        IsFull (length t + suc (length ss)) (unless_noted n t (upto (t ++ s.cell ∷ []) ss x))
    go None r = subst (λ n. IsFull n (upto (t ++ s.cell ∷ []) ss x))
        (let l = length-append t (s.cell ∷ []) in let e : length (t ++ s.cell ∷ []) + length ss ≡ length t + suc (length ss) =
        omega (arith, l) in e) r
    go (Some kind) r = tt

pub full_whole : (x : Whole Effect) → IsFull (length x.steps) (cut x)
full_whole x = subst (λ q. IsFull q (cut x)) (let e : 0 + length x.steps ≡ length x.steps = omega arith in e) (full x.steps x.value [])

-- the cell that it writes
abbrev pub put_by : Attempt Effect → Option ℕ
put_by (Gives t x) = x.cell
put_by (Fails t k) = None

put_below : (cells : ℕ) (ss : List Step) (x : Effect) (t : Trail) → IsBelow cells x.cell → IsBelow cells (put_by (upto t ss x))
put_below cells [] x t b = b
put_below cells (s ∷ ss) x t b = go s.note (put_below cells ss x (t ++ s.cell ∷ []) b)
  where
    go : (n : Option Kind) → IsBelow cells (put_by (upto (t ++ s.cell ∷ []) ss x)) →
        IsBelow cells (put_by (unless_noted n t (upto (t ++ s.cell ∷ []) ss x)))
    go None r = r
    go (Some kind) r = tt

-- ---- once for a cell

-- what the rule says against the writers of a cell
abbrev pub write_key : Heading → ℕ → ℕ → Value → Option Key
write_key h q c (Ok v) = None
write_key h q c (Err kind) = Some (conflict_at (moment h q) c kind)

pub write_key_is : (h : Heading) (rule : Rule) (q c : ℕ) (ws : List Write) →
    write_key h q c (written rule (pos 0) ws) ≡ put_conflict (Some (moment h q)) c (verdict rule ws)
write_key_is h rule q c [] = refl
write_key_is h rule q c (v ∷ ws) = go (rule_value rule v ws)
  where
    go : (r : Value) → write_key h q c r ≡ put_conflict (Some (moment h q)) c (Some r)
    go (Ok x) = refl
    go (Err kind) = refl

once : (k : Option Key) (b : ℕ → Bool) (vs : List ℕ) → total None least (λ v. cond (b v) k None) vs ≡ (if list_any b vs then k else None)
once k b [] = refl
once k b (v ∷ vs) = ap (least (cond (b v) k None)) (once k b vs) ∙ go (b v) (list_any b vs)
  where
    go : (x y : Bool) → least (cond x k None) (if y then k else None) ≡ (if x || y then k else None)
    go true true = least_again k
    go true false = neutral_right None least keys_are_monoid k
    go false y = refl

module _ (h : Heading) (rule : Rule) (index : ℕ → ℤ) (w : ℕ → Whole Effect) where
  abbrev put : ℕ → Option ℕ
  put v = put_by (cut (w v))

  one_write : (c : ℕ) (i : ℤ) (a : Attempt Effect) → is_at c (put_by a) ≡ false → writes_by c i a ≡ []
  one_write c i (Fails t k) = λ e. refl
  one_write c i (Gives t x) = at x.cell
    where
      at : (o : Option ℕ) → is_at c o ≡ false → write_to c i o x.value ≡ []
      at None e = refl
      at (Some d) e = ap (λ b. if b then record { processor = i; value = x.value } ∷ [] else []) (turned c d ∙ e)

  no_writes : (c : ℕ) (vs : List ℕ) → list_any (λ v. is_at c (put v)) vs ≡ false → writes_to c (map (part h index w) vs) ≡ []
  no_writes c [] e = refl
  no_writes c (v ∷ vs) e = go (no_writes c vs) (is_at c (put v)) refl e
    where
      go : (list_any (λ v. is_at c (put v)) vs ≡ false → writes_to c (map (part h index w) vs) ≡ []) → (b : Bool) → is_at c (put v) ≡ b →
          (b || list_any (λ v. is_at c (put v)) vs) ≡ false → writes_to c (map (part h index w) (v ∷ vs)) ≡ []
      go r true f g = absurd (cc g)
      go r false f g = λ i. one_write c (index v) (cut (w v)) f i ++ r g i

  module _ (n : ℕ) (vs : List ℕ) where
    abbrev xs : List Part
    xs = map (part h index w) vs

    abbrev pub verdict_key : ℕ → Option Key
    verdict_key c = write_key h n c (written rule (pos 0) (writes_to c xs))

    value_told : (at c : ℕ) (v : Value) → total None least (λ k. told h (Some k)) (value_key at c v) ≡ write_key h at c v
    value_told at c (Ok v) = refl
    value_told at c (Err k) = refl

    attempt_told : (a : Attempt Effect) → IsFull n a → total None least (λ k. told h (Some k)) (write_conflict rule xs a)
        ≡ on None verdict_key (put_by a)
    attempt_told (Fails t k) f = refl
    attempt_told (Gives t x) f = at x.cell
      where
        at : (o : Option ℕ) → total None least (λ k. told h (Some k)) (cell_conflict rule xs (length t) o) ≡ on None verdict_key o
        at None = refl
        at (Some c) = value_told (length t) c (written rule (pos 0) (writes_to c xs))
            ∙ ap (λ q. write_key h q c (written rule (pos 0) (writes_to c xs))) f

    if_any : (c : ℕ) → (if list_any (λ v. is_at c (put v)) vs then verdict_key c else None) ≡ verdict_key c
    if_any c = go (list_any (λ v. is_at c (put v)) vs) refl
      where
        go : (b : Bool) → list_any (λ v. is_at c (put v)) vs ≡ b → (if b then verdict_key c else None) ≡ verdict_key c
        go true e = refl
        go false e = sym (ap (λ ws. write_key h n c (written rule (pos 0) ws)) (no_writes c vs e))

    -- the meaning's write conflicts are those of all cells
    pub write_cells : (cells : ℕ) → AllByRecursion (λ v. IsBelow cells (w v).value.cell) vs →
        AllByRecursion (λ v. length (w v).steps ≡ n) vs →
        total None least (λ k. told h (Some k)) (flat_map (λ (x : Part). write_conflict rule xs x.attempt) xs)
        ≡ total None least verdict_key (range_with_len 0 cells)
    write_cells cells below long =
        total_flat None least keys_are_monoid (λ k. told h (Some k)) (λ (x : Part). write_conflict rule xs x.attempt) xs
        ∙ total_map None least (λ (x : Part). total None least (λ k. told h (Some k)) (write_conflict rule xs x.attempt)) (part h index w)
        vs
        ∙ total_each None least (λ v. total None least (λ k. told h (Some k)) (write_conflict rule xs (cut (w v))))
        (λ v. on None verdict_key (put v)) vs (each vs long)
        ∙ by_number None least keys_are_monoid (λ v c. verdict_key c) put cells vs (puts vs below)
        ∙ total_same None least (λ c. total None least (λ v. cond (is_at c (put v)) (verdict_key c) None) vs) verdict_key
        (λ c. once (verdict_key c) (λ v. is_at c (put v)) vs ∙ if_any c) (range_with_len 0 cells)
      where
        each : (us : List ℕ) → AllByRecursion (λ v. length (w v).steps ≡ n) us →
            AllByRecursion (λ v. total None least (λ k. told h (Some k)) (write_conflict rule xs (cut (w v)))
            ≡ on None verdict_key (put v)) us
        each [] l = tt
        each (v ∷ us) l = (attempt_told (cut (w v)) (subst (λ q. IsFull q (cut (w v))) l.0 (full_whole (w v))), each us l.1)

        puts : (us : List ℕ) → AllByRecursion (λ v. IsBelow cells (w v).value.cell) us → AllByRecursion (λ v. IsBelow cells (put v)) us
        puts [] b = tt
        puts (v ∷ us) b = (put_below cells (w v).steps (w v).value [] b.0, puts us b.1)
