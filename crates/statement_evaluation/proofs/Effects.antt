-- Where no processor notes a fault, a statement's effects are those of its whole evaluations.
use Rattle.std.proofs.Common.{◌≡◌, inl, inr, ℕ, ◌+◌, List, [], ◌∷◌, ◌++◌, map, length, get_or, fold, Bool, true}
use Rattle.std.proofs.Common.{false, not, if◌then◌else◌, cond, eqb, nat_eq, Option, Some, None, Ok, Err, ℤ, pos, ◌+ℤ◌, FitsSigned, refl}
use Rattle.std.proofs.Common.{sym, ap, ◌∙◌, subst, arith}
use Rattle.std.specs.Int.{w64}
use Rattle.std.proofs.lemmas.Int.{ints}
use Rattle.std.specs.List.{filter, flat_map}
use Rattle.pram_model.specs.declared.rule.Rule.{Rule}
use Rattle.pram_model.specs.declared.rule.Rule.TheVariants.{Erew, Crew, Common, Priority, Sum}
use Rattle.pram_values.specs.declared.kind.Kind.TheVariants.{Overflow}
use Rattle.pram_values.specs.Total.{total}
use Rattle.pram_values.specs.Truth.{is_nonzero}
use Rattle.pram_values.specs.Value.{Value}
use Rattle.pram_values.proofs.Checked.{checked_some}
use Rattle.pram_values.proofs.Totals.{neutral_right, total_same}
use Rattle.pram_values.specs.declared.place.Place.TheVariants.{All, Processor}
use Rattle.write_rules.specs.declared.write.Write.{Write}
use Rattle.write_rules.specs.Combining.{AreWriters}
use Rattle.write_rules.specs.Rule.{rule_value, written}
use Rattle.superstep_machine.specs.declared.key.Key.{Key}
use Rattle.superstep_machine.specs.Keys.{least}
use Rattle.superstep_machine.specs.Setting.{combining}
use Rattle.superstep_machine.specs.Sending.{join, verdict_on}
use Rattle.superstep_machine.specs.Sending as machine
use Rattle.superstep_machine.specs.Worker.{HeldWrite}
use Rattle.superstep_machine.specs.WrittenCells.{writers_of}
use Rattle.superstep_machine.proofs.Collected.{entries_are_monoid}
use Rattle.superstep_machine.proofs.Written.{writers_get_the_rule, no_writers_no_verdict}
use Rattle.superstep_machine.specs.Sending.{entry_to}
use Rattle.pram_check.specs.Checked.{Checked}
use Rattle.pram_meaning.specs.Store.{State, Member, member_of, seen_by, with_local}
use Rattle.pram_meaning.specs.Attempt.{Gives, Effect}
use Rattle.pram_meaning.specs.Conflict.{write_to, writes_to}
use Rattle.pram_meaning.specs.Together.{those, with_locals, settled}
use Rattle.pram_meaning.proofs.Overwrites.{at_over, length_over}
use Rattle.statement_evaluation.specs.Terms.{Term, Task, Gets}
use Rattle.statement_evaluation.specs.Whole.{Whole, value, whole, cut}
use Rattle.statement_evaluation.specs.Rows.{Row, rows, cut_parts, trail}
use Rattle.statement_evaluation.specs.Noted.{Heading, notes, notes_behind, verdict, writes_at}
use Rattle.statement_evaluation.specs.Effects.{whole_part, PartsAreWhole, counts_as, TestsAreValues, LocalsAreValues, CellsAreSettled}
use Rattle.statement_evaluation.specs.Effects.{NoCellIsLost, entry_by, entry_at, EntriesAreTheRule, OneWriterIsTheRule}
use Rattle.statement_evaluation.proofs.Sums.{total_flat}
use Rattle.statement_evaluation.proofs.ReadColumns.{turned}
use Rattle.statement_evaluation.proofs.Cuts.{Covers, kept_whole}

-- ---- parts

none_covers : (h : Heading) (q : ℕ) → Covers h q None → ⊥
none_covers h q c =
    let j : Key = record { count = h.count; position = q; conflict = true; place = All; kind = Overflow; line = h.line } in
    absurd (cc (c.hides j refl refl refl))

-- of two sums neither has a key where both together have none
pub both_none : (x y : Option Key) → least x y ≡ None → (x ≡ None) × (y ≡ None)
both_none None y e = (refl, e)
both_none (Some x) None e = absurd (cc e)
both_none (Some x) (Some y) e = absurd (cc e)

module _ (h : Heading) (p : Checked) (m : State) (task : Task) where
  one_whole : (v : ℕ) → notes_behind h 0 (Processor (member_of m.team v).index) (whole (seen_by p m v) task).steps ≡ None →
      cut (whole (seen_by p m v) task) ≡ Gives (trail (whole (seen_by p m v) task).steps) (whole (seen_by p m v) task).value
  one_whole v e =
      let w : Whole Effect = whole (seen_by p m v) task in
      elim (kept_whole h (Processor (member_of m.team v).index) w.steps w.value [] 0) [
        | inl c ↦ absurd (none_covers h (0 + length w.steps) (subst (Covers h (0 + length w.steps)) e c))
        | inr g ↦ g
      ]

  all_whole : (vs : List ℕ) → notes h (rows p m task vs) ≡ None → cut_parts p m task vs ≡ map (whole_part p m task) vs
  all_whole [] e = refl
  all_whole (v ∷ vs) e =
      let n = both_none (notes_behind h 0 (Processor (member_of m.team v).index) (whole (seen_by p m v) task).steps)
      (notes h (rows p m task vs)) e in
      λ i. record { member = v; processor = (member_of m.team v).index; attempt = one_whole v n.0 i } ∷ all_whole vs n.1 i

pub parts_are_whole : PartsAreWhole
parts_are_whole h p m task vs f = all_whole h p m task vs f

-- ---- tests and locals

tests_of : (p : Checked) (m : State) (t : Term) (b : Bool) (vs : List ℕ) →
    those b (map (whole_part p m (Gets t)) vs) ≡ filter (λ v. counts_as b (value (seen_by p m v) t)) vs
tests_of p m t b [] = refl
tests_of p m t true (v ∷ vs) = go (is_nonzero (value (seen_by p m v) t)) (tests_of p m t true vs)
  where
    go : (x : Bool) → those true (map (whole_part p m (Gets t)) vs) ≡ filter (λ v. counts_as true (value (seen_by p m v) t)) vs →
        (if x then v ∷ [] else []) ++ those true (map (whole_part p m (Gets t)) vs)
        ≡ cond x (v ∷ filter (λ v. counts_as true (value (seen_by p m v) t)) vs) (filter (λ v. counts_as true (value (seen_by p m v) t)) vs)
    go true r = ap (λ us. v ∷ us) r
    go false r = r
tests_of p m t false (v ∷ vs) = go (is_nonzero (value (seen_by p m v) t)) (tests_of p m t false vs)
  where
    go : (x : Bool) → those false (map (whole_part p m (Gets t)) vs) ≡ filter (λ v. counts_as false (value (seen_by p m v) t)) vs →
        (if x then [] else v ∷ []) ++ those false (map (whole_part p m (Gets t)) vs)
        ≡ cond (not x) (v ∷ filter (λ v. counts_as false (value (seen_by p m v) t)) vs)
        (filter (λ v. counts_as false (value (seen_by p m v) t)) vs)
    go true r = r
    go false r = ap (λ us. v ∷ us) r

pub tests_are_values : TestsAreValues
tests_are_values h p m t vs f b = ap (those b) (parts_are_whole h p m (Gets t) vs f) ∙ tests_of p m t b vs

locals_of : (p : Checked) (m : State) (t : Term) (x : ℕ) (vs : List ℕ) (team : List Member) →
    with_locals x (map (whole_part p m (Gets t)) vs) team ≡ fold (λ team v. with_local x v (value (seen_by p m v) t) team) team vs
locals_of p m t x [] team = refl
locals_of p m t x (v ∷ vs) team = locals_of p m t x vs (with_local x v (value (seen_by p m v) t) team)

pub locals_are_values : LocalsAreValues
locals_are_values h p m t vs f x team = ap (λ xs. with_locals x xs team) (parts_are_whole h p m (Gets t) vs f) ∙ locals_of p m t x vs team

-- ---- cells

pub no_cell_is_lost : NoCellIsLost
no_cell_is_lost rule xs cells = length_over rule xs 0 cells

settles : (rule : Rule) (old : ℤ) (ws : List Write) → settled old (written rule old ws) ≡ machine.settled (verdict rule ws) old
settles rule old [] = refl
settles rule old (w ∷ ws) = go (rule_value rule w ws)
  where
    go : (r : Value) → settled old r ≡ machine.settled (Some r) old
    go (Ok x) = refl
    go (Err k) = refl

whole_writes : (p : Checked) (m : State) (task : Task) (c : ℕ) (vs : List ℕ) →
    writes_to c (map (whole_part p m task) vs) ≡ writes_at c (rows p m task vs)
whole_writes p m task c [] = refl
whole_writes p m task c (v ∷ vs) =
    let w : Whole Effect = whole (seen_by p m v) task in
    ap (λ ws. write_to c (member_of m.team v).index w.value.cell w.value.value ++ ws) (whole_writes p m task c vs)

pub cells_are_settled : CellsAreSettled
cells_are_settled h p m task vs f rule cells c l =
    let old : ℤ = get_or cells c (pos 0) in
    at_over rule (cut_parts p m task vs) 0 cells c l
    ∙ ap (λ n. settled old (written rule old (writes_to n (cut_parts p m task vs)))) (let e : 0 + c ≡ c = omega arith in e)
    ∙ ap (λ ws. settled old (written rule old ws)) (ap (writes_to c) (parts_are_whole h p m task vs f) ∙ whole_writes p m task c vs)
    ∙ settles rule old (writes_at c (rows p m task vs))

-- ---- entries

-- as writes that the machine holds
abbrev held_by : ℤ → Option ℕ → ℤ → List HeldWrite
held_by i None v = []
held_by i (Some d) v = record { processor = i; cell = d; value = v } ∷ []

abbrev held_of : List Row → List HeldWrite
held_of = flat_map (λ (r : Row). held_by r.processor r.whole.value.cell r.whole.value.value)

held_one : (rule : Rule) (c : ℕ) (i : ℤ) (o : Option ℕ) (v : ℤ) →
    total None (join rule) (entry_to rule c) (held_by i o v) ≡ entry_by rule c i o v
held_one rule c i None v = refl
held_one rule c i (Some d) v = neutral_right None (join rule) (entries_are_monoid rule)
    (if eqb d c then Some ((combining rule).single i v) else None)

entries_held : (rule : Rule) (c : ℕ) (rows : List Row) → total None (join rule) (entry_to rule c) (held_of rows) ≡ entry_at rule c rows
entries_held rule c rows =
    total_flat None (join rule) (entries_are_monoid rule) (entry_to rule c)
    (λ (r : Row). held_by r.processor r.whole.value.cell r.whole.value.value) rows
    ∙ total_same None (join rule) (λ (r : Row). total None (join rule) (entry_to rule c)
    (held_by r.processor r.whole.value.cell r.whole.value.value))
    (λ (r : Row). entry_by rule c r.processor r.whole.value.cell r.whole.value.value)
    (λ r. held_one rule c r.processor r.whole.value.cell r.whole.value.value) rows

writers_one : (c : ℕ) (i : ℤ) (o : Option ℕ) (v : ℤ) (rest : List HeldWrite) →
    writers_of c (held_by i o v ++ rest) ≡ write_to c i o v ++ writers_of c rest
writers_one c i None v rest = refl
writers_one c i (Some d) v rest = go (eqb d c) (nat_eq c d) (sym (turned c d))
  where
    go : (a b : Bool) → a ≡ b →
        map (λ (x : HeldWrite). record { processor = x.processor; value = x.value })
        (cond a (record { processor = i; cell = d; value = v } ∷ filter (λ (x : HeldWrite). eqb x.cell c) rest)
        (filter (λ (x : HeldWrite). eqb x.cell c) rest))
        ≡ (if b then record { processor = i; value = v } ∷ [] else []) ++ writers_of c rest
    go true true e = refl
    go true false e = absurd (cc e)
    go false true e = absurd (cc e)
    go false false e = refl

writers_held : (c : ℕ) (rows : List Row) → writers_of c (held_of rows) ≡ writes_at c rows
writers_held c [] = refl
writers_held c (r ∷ rows) =
    writers_one c r.processor r.whole.value.cell r.whole.value.value (held_of rows)
    ∙ ap (λ ws. write_to c r.processor r.whole.value.cell r.whole.value.value ++ ws) (writers_held c rows)

pub entries_are_the_rule : EntriesAreTheRule
entries_are_the_rule rule c rows apart =
    ap (verdict_on rule) (sym (entries_held rule c rows)) ∙ go (writes_at c rows) (writers_held c rows) apart
  where
    go : (ws : List Write) → writers_of c (held_of rows) ≡ ws → AreWriters ws →
        verdict_on rule (total None (join rule) (entry_to rule c) (held_of rows)) ≡ verdict rule ws
    go [] e a = no_writers_no_verdict rule c (held_of rows) e
    go (w ∷ ws) e a = writers_get_the_rule rule c (held_of rows) w ws e a

pub one_writer : OneWriterIsTheRule
one_writer Erew i v f = refl
one_writer Crew i v f = refl
one_writer Common i v f = refl
one_writer Priority i v f = refl
one_writer Sum i v f =
    ap Some (sym (checked_some (v +ℤ pos 0) v (subst (FitsSigned w64) (let e : v ≡ v +ℤ pos 0 = omega (arith, ints) in e) f)
    (omega (arith, ints))))
