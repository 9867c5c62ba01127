-- The least fault of a statement is the least of what processors that go on note, column by column.
use Rattle.std.proofs.Common.{◌≡◌, ◌≢◌, ◌⊎◌, inl, inr, ℕ, ◌+◌, List, [], ◌∷◌, ◌++◌, map, length, get_or, Bool, true, false, if◌then◌else◌}
use Rattle.std.proofs.Common.{Option, Some, None, Ok, Err, ℤ, pos, refl, sym, ap, ◌∙◌, subst, arith}
use Rattle.std.proofs.lemmas.List.Elements.{All-contains, All-from_recursion}
use Rattle.std.specs.List.{AllByRecursion, flat_map, range_with_len}
use Rattle.pram_model.specs.declared.rule.Rule.{Rule}
use Rattle.pram_model.specs.Layout.{total_size}
use Rattle.pram_values.specs.declared.place.Place.TheVariants.{Processor}
use Rattle.pram_values.specs.declared.kind.Kind.TheVariants.{ReadConflict}
use Rattle.pram_values.specs.Total.{total}
use Rattle.pram_values.specs.Value.{Value}
use Rattle.pram_values.proofs.Totals.{total_same, total_map, total_joined, neutral_right}
use Rattle.write_rules.specs.declared.write.Write.{Write}
use Rattle.write_rules.specs.Rule.{written, shares_reads}
use Rattle.superstep_machine.specs.declared.key.Key.{Key}
use Rattle.superstep_machine.specs.Keys.{least}
use Rattle.superstep_machine.specs.Sending.{several, asks_for, is_several, conflict_at, put_conflict}
use Rattle.superstep_machine.proofs.KeyOrder.{keys_are_monoid}
use Rattle.pram_check.specs.Checked.{Checked}
use Rattle.pram_meaning.specs.declared.key as faults
use Rattle.pram_meaning.specs.Store.{State, member_of, seen_by}
use Rattle.pram_meaning.specs.Attempt.{Gives, Effect}
use Rattle.pram_meaning.specs.Conflict.{Part, conflict_of, fault_of, keys, lesser, read_conflicts, reads_of, write_conflict, write_to}
use Rattle.pram_meaning.specs.Conflict.{writes_by, writes_to}
use Rattle.pram_meaning.specs.Conflict as meaning
use Rattle.pram_meaning.specs.Together.{on_key}
use Rattle.statement_evaluation.specs.Terms.{Task, Gets, Writes, positions, task_positions}
use Rattle.statement_evaluation.specs.Whole.{Whole, whole, cut}
use Rattle.statement_evaluation.specs.Rows.{Row, rows, cut_parts, trail, AreApart}
use Rattle.statement_evaluation.specs.Noted.{Heading, moment, notes_behind, notes, readers, read_key, reads_noted, verdict, writes_at}
use Rattle.statement_evaluation.specs.Noted.{writes_noted}
use Rattle.statement_evaluation.specs.Noted.{noted_in, noted}
use Rattle.statement_evaluation.specs.LeastFaults.{told, unless_told, LeastFaultIsNoted, TogetherIsNoted, NoneDifferInKindAlone}
use Rattle.statement_evaluation.proofs.Sums.{IsBelow, total_flat}
use Rattle.statement_evaluation.proofs.Order.{IsOfKind, told_fold, one_kind}
use Rattle.statement_evaluation.proofs.Cuts.{Covers, covers_left, covers_right, fault_is_note, kept_at, kept_whole, left}
use Rattle.statement_evaluation.proofs.Askers.{IsApart, askers}
use Rattle.statement_evaluation.proofs.ReadColumns.{part, cell_left, column, read_columns}
use Rattle.statement_evaluation.proofs.WriteCells.{verdict_key, write_cells, write_key, write_key_is}
use Rattle.statement_evaluation.proofs.FaultKinds.{kind_at, WritesAt, kinds_decided}
use Rattle.statement_evaluation.proofs.Tasks.{length_whole, reads_below, write_below, write_reads_nothing}

-- ---- sums beside a key that covers them

abbrev under : Option Key → Option Key → Option Key → Type 0
under f x y = least f x ≡ least f y

-- two sums beside f, where each two terms are equal beside it
total_under : (f : Option Key) (x y : ℕ → Option Key) (ks : List ℕ) → ((k : ℕ) → least f (x k) ≡ least f (y k)) →
    least f (total None least x ks) ≡ least f (total None least y ks)
total_under f x y [] h = refl
total_under f x y (k ∷ ks) h =
    sym (keys_are_monoid.associative f (x k) (total None least x ks)) ∙ ap (λ a. least a (total None least x ks)) (h k)
    ∙ ap (λ a. least a (total None least x ks)) (keys_are_monoid.commutative f (y k))
    ∙ keys_are_monoid.associative (y k) f (total None least x ks)
    ∙ ap (least (y k)) (total_under f x y ks h)
    ∙ sym (keys_are_monoid.associative (y k) f (total None least y ks))
    ∙ ap (λ a. least a (total None least y ks)) (keys_are_monoid.commutative (y k) f)
    ∙ keys_are_monoid.associative f (y k) (total None least y ks)

-- three sums, the first of which comes before both others
both_under : (f a b c d : Option Key) → least f a ≡ least f c → least f b ≡ least f d → least (least f a) b ≡ least f (least c d)
both_under f a b c d h k =
    ap (λ x. least x b) (h ∙ keys_are_monoid.commutative f c) ∙ keys_are_monoid.associative c f b
    ∙ ap (least c) k ∙ sym (keys_are_monoid.associative c f d) ∙ ap (λ x. least x d) (keys_are_monoid.commutative c f)
    ∙ keys_are_monoid.associative f c d

-- what is hidden by f alone
covered : (h : Heading) (q : ℕ) (f : Option Key) → Covers h q f → (x : ℕ → Option Key) →
    ((c : ℕ) → (x c ≡ None) ⊎ ((k : Key) × (x c ≡ Some k) × (k.count ≡ h.count) × (k.position ≡ q) × (k.conflict ≡ true))) →
    (cs : List ℕ) → least f (total None least x cs) ≡ f
covered h q f v x is [] = neutral_right None least keys_are_monoid f
covered h q f v x is (c ∷ cs) =
    sym (keys_are_monoid.associative f (x c) (total None least x cs)) ∙ ap (λ a. least a (total None least x cs)) (one (is c))
    ∙ covered h q f v x is cs
  where
    one : (x c ≡ None) ⊎ ((k : Key) × (x c ≡ Some k) × (k.count ≡ h.count) × (k.position ≡ q) × (k.conflict ≡ true)) → least f (x c) ≡ f
    one (inl e) = ap (least f) e ∙ neutral_right None least keys_are_monoid f
    one (inr e) = ap (least f) e.1 ∙ v.hides e.0 e.2 e.3 e.4

module _ (h : Heading) (rule : Rule) (index : ℕ → ℤ) (w : ℕ → Whole Effect) where
  abbrev row : ℕ → Row
  row v = record { processor = index v; whole = w v }

  abbrev note : ℕ → Option Key
  note v = notes_behind h 0 (Processor (index v)) (w v).steps

  abbrev own : List ℕ → Option Key
  own = total None least note

  notes_are : (vs : List ℕ) → notes h (map row vs) ≡ own vs
  notes_are vs = total_map None least (λ (r : Row). notes_behind h 0 (Processor r.processor) r.whole.steps) row vs

  -- the meaning's own faults are the notes
  own_faults : (vs : List ℕ) → total None least (λ k. told h (Some k))
      (flat_map (λ (x : Part). fault_of x.processor x.attempt) (map (part h index w) vs)) ≡ own vs
  own_faults vs =
      total_flat None least keys_are_monoid (λ k. told h (Some k)) (λ (x : Part). fault_of x.processor x.attempt) (map (part h index w) vs)
      ∙ total_map None least (λ (x : Part). total None least (λ k. told h (Some k)) (fault_of x.processor x.attempt)) (part h index w) vs
      ∙ total_same None least (λ v. total None least (λ k. told h (Some k)) (fault_of (index v) (cut (w v)))) note
      (λ v. fault_is_note h (index v) (w v).steps (w v).value []) vs

  -- ---- reads

  kept_cells : (d : ℕ) (vs : List ℕ) → Covers h (d + 1) (own vs)
      ⊎ AllByRecursion (λ v. cell_left h index w d v ≡ get_or (trail (w v).steps) d None) vs
  kept_cells d [] = inr tt
  kept_cells d (v ∷ vs) = go (kept_at h (Processor (index v)) (w v).steps 0 d) (kept_cells d vs)
    where
      go : Covers h (0 + d + 1) (note v) ⊎ (get_or (left (w v).steps) d None ≡ get_or (trail (w v).steps) d None) →
          Covers h (d + 1) (own vs) ⊎ AllByRecursion (λ v. cell_left h index w d v ≡ get_or (trail (w v).steps) d None) vs →
          Covers h (d + 1) (least (note v) (own vs)) ⊎ AllByRecursion (λ v. cell_left h index w d v ≡ get_or (trail (w v).steps) d None)
          (v ∷ vs)
      go (inl c) r = inl (covers_left h (d + 1) (note v) (own vs)
          (subst (λ q. Covers h q (note v)) (let e : 0 + d + 1 ≡ d + 1 = omega arith in e) c))
      go (inr e) (inl c) = inl (covers_right h (d + 1) (note v) (own vs) c)
      go (inr e) (inr r) = inr (e, r)

  read_key_is : (q c : ℕ) (o : Option Bool) → (read_key h q c o ≡ None)
      ⊎ ((k : Key) × (read_key h q c o ≡ Some k) × (k.count ≡ h.count) × (k.position ≡ q) × (k.conflict ≡ true))
  read_key_is q c o = go (is_several o)
    where
      go : (b : Bool) → ((if b then Some (conflict_at (moment h q) c ReadConflict) else None) ≡ None)
          ⊎ ((k : Key) × ((if b then Some (conflict_at (moment h q) c ReadConflict) else None) ≡ Some k) × (k.count ≡ h.count)
          × (k.position ≡ q) × (k.conflict ≡ true))
      go true = inr (conflict_at (moment h q) c ReadConflict, refl, refl, refl, refl)
      go false = inl refl

  reads_under : (cells : ℕ) (vs : List ℕ) (d : ℕ) → least (own vs) (column h index w cells vs d)
      ≡ least (own vs) (reads_noted h cells (map row vs) d)
  reads_under cells vs d = go (kept_cells d vs)
    where
      go : Covers h (d + 1) (own vs) ⊎ AllByRecursion (λ v. cell_left h index w d v ≡ get_or (trail (w v).steps) d None) vs →
          least (own vs) (column h index w cells vs d) ≡ least (own vs) (reads_noted h cells (map row vs) d)
      go (inl v) =
          covered h (d + 1) (own vs) v (λ c. read_key h (d + 1) c (askers index (cell_left h index w d) c vs))
          (λ c. read_key_is (d + 1) c (askers index (cell_left h index w d) c vs)) (range_with_len 0 cells)
          ∙ sym (covered h (d + 1) (own vs) v (λ c. read_key h (d + 1) c (readers d c (map row vs)))
          (λ c. read_key_is (d + 1) c (readers d c (map row vs))) (range_with_len 0 cells))
      go (inr same) =
          ap (least (own vs))
          (total_same None least (λ c. read_key h (d + 1) c (askers index (cell_left h index w d) c vs))
          (λ c. read_key h (d + 1) c (readers d c (map row vs)))
          (λ c. ap (read_key h (d + 1) c) (counts c vs same ∙ sym
          (total_map None several (λ (r : Row). asks_for c (get_or (trail r.whole.steps) d None)) row vs))) (range_with_len 0 cells))
        where
          counts : (c : ℕ) (us : List ℕ) → AllByRecursion (λ v. cell_left h index w d v ≡ get_or (trail (w v).steps) d None) us →
              askers index (cell_left h index w d) c us ≡ total None several (λ v. asks_for c (get_or (trail (w v).steps) d None)) us
          counts c [] e = refl
          counts c (u ∷ us) e = λ i. several (asks_for c (e.0 i)) (counts c us e.1 i)

  -- ---- writes

  pub kept_values : (n : ℕ) (vs : List ℕ) → AllByRecursion (λ v. length (w v).steps ≡ n) vs →
      Covers h n (own vs) ⊎ AllByRecursion (λ v. cut (w v) ≡ Gives (trail (w v).steps) (w v).value) vs
  kept_values n [] l = inr tt
  kept_values n (v ∷ vs) l = go (kept_whole h (Processor (index v)) (w v).steps (w v).value [] 0) (kept_values n vs l.1)
    where
      go : Covers h (0 + length (w v).steps) (note v) ⊎ (cut (w v) ≡ Gives (trail (w v).steps) (w v).value) →
          Covers h n (own vs) ⊎ AllByRecursion (λ v. cut (w v) ≡ Gives (trail (w v).steps) (w v).value) vs →
          Covers h n (least (note v) (own vs)) ⊎ AllByRecursion (λ v. cut (w v) ≡ Gives (trail (w v).steps) (w v).value) (v ∷ vs)
      go (inl c) r = inl (covers_left h n (note v) (own vs) (subst (λ q. Covers h q (note v))
          (let a = l.0 in let e : 0 + length (w v).steps ≡ n = omega (arith, a) in e) c))
      go (inr e) (inl c) = inl (covers_right h n (note v) (own vs) c)
      go (inr e) (inr r) = inr (e, r)

  abbrev IsConflict : ℕ → Option Key → Type 0
  IsConflict q x = (x ≡ None) ⊎ ((k : Key) × (x ≡ Some k) × (k.count ≡ h.count) × (k.position ≡ q) × (k.conflict ≡ true))

  put_is : (q c : ℕ) (v : Option Value) → IsConflict q (put_conflict (Some (moment h q)) c v)
  put_is q c None = inl refl
  put_is q c (Some (Ok v)) = inl refl
  put_is q c (Some (Err k)) = inr (conflict_at (moment h q) c k, refl, refl, refl, refl)

  pub same_writes : (c : ℕ) (vs : List ℕ) → AllByRecursion (λ v. cut (w v) ≡ Gives (trail (w v).steps) (w v).value) vs →
      writes_to c (map (part h index w) vs) ≡ writes_at c (map row vs)
  same_writes c [] e = refl
  same_writes c (v ∷ vs) e = λ i. writes_by c (index v) (e.0 i) ++ same_writes c vs e.1 i

  writes_under : (cells n : ℕ) (vs : List ℕ) → AllByRecursion (λ v. length (w v).steps ≡ n) vs →
      least (own vs) (total None least (verdict_key h rule index w n vs) (range_with_len 0 cells))
      ≡ least (own vs) (writes_noted h rule cells (map row vs) n)
  writes_under cells n vs l = go (kept_values n vs l)
    where
      by_verdict : (ws : ℕ → List Write) → total None least (λ c. write_key h n c (written rule (pos 0) (ws c))) (range_with_len 0 cells)
          ≡ total None least (λ c. put_conflict (Some (moment h n)) c (verdict rule (ws c))) (range_with_len 0 cells)
      by_verdict ws =
          total_same None least (λ c. write_key h n c (written rule (pos 0) (ws c)))
          (λ c. put_conflict (Some (moment h n)) c (verdict rule (ws c)))
          (λ c. write_key_is h rule n c (ws c)) (range_with_len 0 cells)

      go : Covers h n (own vs) ⊎ AllByRecursion (λ v. cut (w v) ≡ Gives (trail (w v).steps) (w v).value) vs →
          least (own vs) (total None least (verdict_key h rule index w n vs) (range_with_len 0 cells))
          ≡ least (own vs) (writes_noted h rule cells (map row vs) n)
      go (inl v) =
          ap (least (own vs)) (by_verdict (λ c. writes_to c (map (part h index w) vs)))
          ∙ covered h n (own vs) v (λ c. put_conflict (Some (moment h n)) c (verdict rule (writes_to c (map (part h index w) vs))))
          (λ c. put_is n c (verdict rule (writes_to c (map (part h index w) vs)))) (range_with_len 0 cells)
          ∙ sym (covered h n (own vs) v (λ c. put_conflict (Some (moment h n)) c (verdict rule (writes_at c (map row vs))))
          (λ c. put_is n c (verdict rule (writes_at c (map row vs)))) (range_with_len 0 cells))
      go (inr e) =
          ap (least (own vs))
          (by_verdict (λ c. writes_to c (map (part h index w) vs))
          ∙ total_same None least (λ c. put_conflict (Some (moment h n)) c (verdict rule (writes_to c (map (part h index w) vs))))
          (λ c. put_conflict (Some (moment h n)) c (verdict rule (writes_at c (map row vs))))
          (λ c. ap (λ ws. put_conflict (Some (moment h n)) c (verdict rule ws)) (same_writes c vs e)) (range_with_len 0 cells))

  -- ---- all of it

  module _ (vs : List ℕ) where
    abbrev xs : List Part
    xs = map (part h index w) vs

    abbrev owns : List faults.Key.Key
    owns = flat_map (λ (x : Part). fault_of x.processor x.attempt) xs

    abbrev tell : List faults.Key.Key → Option Key
    tell = total None least (λ k. told h (Some k))

    pub all_columns : (cells n : ℕ) (last : Option ℕ) → IsApart index vs →
        ((d : ℕ) → AllByRecursion (λ v. IsBelow cells (cell_left h index w d v)) vs) →
        AllByRecursion (λ v. IsBelow cells (w v).value.cell) vs → AllByRecursion (λ v. length (w v).steps ≡ n) vs →
        AllByRecursion (λ v. WritesAt h rule index w vs last (w v)) vs →
        told h (meaning.least (keys rule xs)) ≡ noted_in h rule cells n (map row vs)
    all_columns cells n last apart below puts long ends =
        told_fold h (kind_at h rule index w vs last) (keys rule xs) None tt (kinds_decided h rule index w vs last apart ends)
        ∙ total_joined None least keys_are_monoid (λ k. told h (Some k)) (owns ++ read_conflicts rule (reads_of xs))
        (flat_map (λ (x : Part). write_conflict rule xs x.attempt) xs)
        ∙ (λ i. least (total_joined None least keys_are_monoid (λ k. told h (Some k)) owns (read_conflicts rule (reads_of xs)) i)
        (write_cells h rule index w n vs cells puts long i))
        ∙ ap (λ f. least (least f (tell (read_conflicts rule (reads_of xs))))
        (total None least (verdict_key h rule index w n vs) (range_with_len 0 cells))) (own_faults vs)
        ∙ both_under (own vs) (tell (read_conflicts rule (reads_of xs)))
        (total None least (verdict_key h rule index w n vs) (range_with_len 0 cells))
        (if shares_reads rule then None else total None least (reads_noted h cells (map row vs)) (range_with_len 0 n))
        (writes_noted h rule cells (map row vs) n)
        (shared (shares_reads rule)) (writes_under cells n vs long)
        ∙ ap (λ f. least f (least (if shares_reads rule then None else total None least (reads_noted h cells (map row vs))
        (range_with_len 0 n)) (writes_noted h rule cells (map row vs) n))) (sym (notes_are vs))
      where
        shared : (b : Bool) → least (own vs) (tell (if b then [] else flat_map (conflict_of (reads_of xs)) (reads_of xs)))
            ≡ least (own vs) (if b then None else total None least (reads_noted h cells (map row vs)) (range_with_len 0 n))
        shared true = refl
        shared false =
            ap (least (own vs)) (read_columns h index w cells n vs apart below long)
            ∙ total_under (own vs) (column h index w cells vs) (reads_noted h cells (map row vs)) (range_with_len 0 n)
            (reads_under cells vs)

-- ---- tasks

module _ (h : Heading) (p : Checked) (m : State) (task : Task) where
  abbrev index_of : ℕ → ℤ
  index_of v = (member_of m.team v).index

  abbrev whole_of : ℕ → Whole Effect
  whole_of v = whole (seen_by p m v) task

  last_of : Task → Option ℕ
  last_of (Gets t) = None
  last_of (Writes a t u) = Some (positions t + positions u + 1)

  apart_from : (v : ℕ) (vs : List ℕ) → AllByRecursion (λ (y : Row). index_of v ≢ y.processor) (rows p m task vs) →
      AllByRecursion (λ u. index_of v ≢ index_of u) vs
  apart_from v [] a = tt
  apart_from v (u ∷ us) a = (a.0, apart_from v us a.1)

  apart : (vs : List ℕ) → AreApart (rows p m task vs) → IsApart index_of vs
  apart [] a = tt
  apart (v ∷ vs) a = (apart_from v vs a.0, apart vs a.1)

  all_of : (P : ℕ → Type 0) → ((v : ℕ) → P v) → (vs : List ℕ) → AllByRecursion P vs
  all_of P f [] = tt
  all_of P f (v ∷ vs) = (f v, all_of P f vs)

  ends : (task : Task) (vs : List ℕ) (v : ℕ) → WritesAt h p.rule index_of whole_of vs (last_of task) (whole (seen_by p m v) task)
  unfolding last_of
  ends (Gets t) vs v = refl
  ends (Writes a t u) vs v = (length_whole (seen_by p m v) (Writes a t u), λ d l. write_reads_nothing (seen_by p m v) a t u d (omega arith))

  task_kinds : (vs : List ℕ) → AreApart (rows p m task vs) → AllByRecursion
      (IsOfKind (kind_at h p.rule index_of whole_of vs (last_of task))) (keys p.rule (cut_parts p m task vs))
  task_kinds vs a = kinds_decided h p.rule index_of whole_of vs (last_of task) (apart vs a)
      (all_of (λ v. WritesAt h p.rule index_of whole_of vs (last_of task) (whole_of v)) (ends task vs) vs)

  least_is_noted : (vs : List ℕ) → AreApart (rows p m task vs) →
      told h (meaning.least (keys p.rule (cut_parts p m task vs))) ≡ noted h p.rule p.layout task (rows p m task vs)
  least_is_noted vs a =
      all_columns h p.rule index_of whole_of vs (total_size p.layout) (task_positions task) (last_of task) (apart vs a)
      (λ d. all_of (λ v. IsBelow (total_size p.layout) (get_or (left (whole_of v).steps) d None)) (λ v. reads_below (seen_by p m v) task d)
      vs)
      (all_of (λ v. IsBelow (total_size p.layout) (whole_of v).value.cell) (λ v. write_below (seen_by p m v) task) vs)
      (all_of (λ v. length (whole_of v).steps ≡ task_positions task) (λ v. length_whole (seen_by p m v) task) vs)
      (all_of (λ v. WritesAt h p.rule index_of whole_of vs (last_of task) (whole_of v)) (ends task vs) vs)

pub least_fault_is_noted : LeastFaultIsNoted
least_fault_is_noted h p m task vs a = least_is_noted h p m task vs a

pub together_is_noted : TogetherIsNoted
together_is_noted h p m task vs a = go (meaning.least (keys p.rule (cut_parts p m task vs)))
    ∙ ap (λ k. unless_told k (cut_parts p m task vs)) (least_is_noted h p m task vs a)
  where
    go : (o : Option faults.Key.Key) → on_key h.line o (cut_parts p m task vs) ≡ unless_told (told h o) (cut_parts p m task vs)
    go None = refl
    go (Some k) = refl

pub none_differ : NoneDifferInKindAlone
none_differ p m task vs a k j in_k in_j =
    let h : Heading = record { count = 0; line = 0 } in
    let kind = kind_at h p.rule (index_of h p m task) (whole_of h p m task) vs (last_of h p m task task) in
    let all = All-from_recursion (IsOfKind kind) (keys p.rule (cut_parts p m task vs)) (task_kinds h p m task vs a) in
    one_kind kind k j (All-contains (IsOfKind kind) (keys p.rule (cut_parts p m task vs)) k all in_k)
    (All-contains (IsOfKind kind) (keys p.rule (cut_parts p m task vs)) j all in_j)
