-- Those that met at a statement's fault have accessed its cell there, and are two at least.
use Rattle.std.proofs.Common.{◌≡◌, ◌⊎◌, inl, inr, ℕ, zero, suc, ◌+◌, ◌-◌, ◌<◌, ◌≤◌, ℤ, pos, ◌+ℤ◌, List, [], ◌∷◌, ◌++◌, Bool, true, false}
use Rattle.std.proofs.Common.{not, ◌&&◌, ◌||◌, if◌then◌else◌, Option, Some, None, Ok, Err, Contains, append-nil, flat_map, length, map}
use Rattle.std.proofs.Common.{get_or, nat_eq, refl, ap, sym, ◌∙◌, subst, arith}
use Rattle.std.specs.List.{AllByRecursion, list_any}
use Rattle.std.proofs.lemmas.Grind.{flat_map-append}
use Rattle.std.proofs.lemmas.Int.{ints}
use Rattle.std.proofs.lemmas.List.{map-append}
use Rattle.pram_model.specs.declared.rule.Rule.{Rule}
use Rattle.pram_model.specs.declared.rule.Rule.TheVariants.{Common, Crew, Erew, Priority, Sum}
use Rattle.pram_model.proofs.Truths.{either}
use Rattle.pram_values.specs.declared.kind.Kind.{Kind}
use Rattle.pram_values.specs.declared.kind.Kind.TheVariants.{Overflow, ReadConflict, WriteConflict}
use Rattle.pram_values.specs.declared.place.Place.TheVariants.{Cell}
use Rattle.pram_values.specs.Truth.{is_equal}
use Rattle.pram_values.specs.Value.{Value, fits}
use Rattle.write_rules.specs.declared.write.Write.{Write}
use Rattle.write_rules.specs.Rule.{written}
use Rattle.pram_meaning.specs.declared.key.Key.{Key}
use Rattle.pram_meaning.specs.declared.read.Read.{Read}
use Rattle.pram_meaning.specs.Attempt.{Attempt, Effect, Fails, Gives, Trail}
use Rattle.pram_meaning.specs.Conflict.{Part, fault_of, is_conflict, reads_of, reads_on, trail_of, write_to, writes_by, writes_to}
use Rattle.journal.proofs.CellFaults.{IsOwn, IsReadConflict, IsWriteConflict, found, in_one, nothing_in, whose, written_kind}
use Rattle.journal.specs.Accesses.{FaultsAt, ReadersMeet, TwoMeet, WritersMeet, reader_at}
use Rattle.journal.specs.Meeting.{is_cell, meeting, met_at, met_in, readers, writer, writers}

-- ---- the readers of a cell at one position

-- behind a position nothing is read at it
later : (at c b : ℕ) (i : ℤ) (t : Trail) → at ≤ b → flat_map (reader_at at c) (reads_on i b t) ≡ []
later at c b i [] h = refl
later at c b i (None ∷ t) h = later at c (b + 1) i t (omega (arith, h))
later at c b i (Some d ∷ t) h =
    let e : nat_eq at (b + 1) ≡ false = grind (arith, h) in
    ap (λ z. (if z && nat_eq c d then i ∷ [] else []) ++ flat_map (reader_at at c) (reads_on i (b + 1) t)) e
    ∙ later at c (b + 1) i t (omega (arith, h))

here : (at c : ℕ) (i : ℤ) (t : Trail) (b j : ℕ) → at ≡ b + j + 1 →
    flat_map (reader_at at c) (reads_on i b t) ≡ (if is_cell c (get_or t j None) then i ∷ [] else [])
here at c i [] b j e = refl
here at c i (None ∷ t) b zero e = later at c (b + 1) i t (omega (arith, e))
here at c i (Some d ∷ t) b zero e =
    let same : nat_eq at (b + 1) ≡ true = grind (arith, e) in
    ap (λ z. (if z && nat_eq c d then i ∷ [] else []) ++ flat_map (reader_at at c) (reads_on i (b + 1) t)) same
    ∙ ap (λ rs. (if nat_eq c d then i ∷ [] else []) ++ rs) (later at c (b + 1) i t (omega (arith, e)))
    ∙ append-nil (if nat_eq c d then i ∷ [] else [])
here at c i (None ∷ t) b (suc j) e = here at c i t (b + 1) j (omega (arith, e))
here at c i (Some d ∷ t) b (suc j) e =
    let other : nat_eq at (b + 1) ≡ false = grind (arith, e) in
    ap (λ z. (if z && nat_eq c d then i ∷ [] else []) ++ flat_map (reader_at at c) (reads_on i (b + 1) t)) other
    ∙ here at c i t (b + 1) j (omega (arith, e))

readers_are : (at c : ℕ) (xs : List Part) → 1 ≤ at → readers at c xs ≡ flat_map (reader_at at c) (reads_of xs)
readers_are at c [] h = refl
readers_are at c (x ∷ xs) h =
    ap (λ ys. ys ++ readers at c xs) (sym (here at c x.processor (trail_of x.attempt) 0 (at - 1) (omega (arith, h))))
    ∙ ap (λ ys. flat_map (reader_at at c) (reads_on x.processor 0 (trail_of x.attempt)) ++ ys) (readers_are at c xs h)
    ∙ sym (flat_map-append (reader_at at c) (reads_on x.processor 0 (trail_of x.attempt)) (reads_of xs))

-- ---- the writers of a cell

writer_to : (c : ℕ) (i : ℤ) (o : Option ℕ) (v : ℤ) →
    (if is_cell c o then i ∷ [] else []) ≡ map (λ (w : Write). w.processor) (write_to c i o v)
writer_to c i None v = refl
writer_to c i (Some d) v = by (nat_eq c d) where
  by : (b : Bool) → (if b then i ∷ [] else []) ≡
      map (λ (w : Write). w.processor) (if b then record { processor = i; value = v } ∷ [] else [])
  by true = refl
  by false = refl

writer_is : (c : ℕ) (i : ℤ) (m : ℕ) (a : Attempt Effect) →
    writer c (record { member = m; processor = i; attempt = a }) ≡ map (λ (w : Write). w.processor) (writes_by c i a)
writer_is c i m (Gives t g) = writer_to c i g.cell g.value
writer_is c i m (Fails t k) = refl

writers_are : (c : ℕ) (xs : List Part) → writers c xs ≡ map (λ w. w.processor) (writes_to c xs)
writers_are c [] = refl
writers_are c (x ∷ xs) =
    ap (λ ys. ys ++ writers c xs) (writer_is c x.processor x.member x.attempt)
    ∙ ap (λ ys. map (λ (w : Write). w.processor) (writes_by c x.processor x.attempt) ++ ys) (writers_are c xs)
    ∙ sym (map-append (λ (w : Write). w.processor) (writes_by c x.processor x.attempt) (writes_to c xs))

-- ---- two reads in conflict

last_two : (a b c : Bool) → (a && b && c) ≡ true → (b && c) ≡ true
last_two true true c h = h
last_two true false c h = absurd (cc h)
last_two false b c h = absurd (cc h)

same_read : (r : Read) → reader_at r.at r.cell r ≡ r.processor ∷ []
same_read r =
    let a : nat_eq r.at r.at ≡ true = grind arith in
    let c : nat_eq r.cell r.cell ≡ true = grind arith in
    ap (λ z. if z && nat_eq r.cell r.cell then r.processor ∷ [] else []) a
    ∙ ap (λ z. if z then r.processor ∷ [] else []) c

conflicting : (r q : Read) → is_conflict r q ≡ true → reader_at r.at r.cell q ≡ q.processor ∷ []
conflicting r q h =
    ap (λ z. if z then q.processor ∷ [] else [])
    (last_two (not (is_equal r.processor q.processor)) (nat_eq r.at q.at) (nat_eq r.cell q.cell) h)

never_itself : (r : Read) → is_conflict r r ≡ false
never_itself r =
    let e : is_equal r.processor r.processor ≡ true = grind (arith, ints) in
    ap (λ z. not z && nat_eq r.at r.at && nat_eq r.cell r.cell) e

more : (ys zs : List ℤ) (y : ℤ) (n : ℕ) → ys ≡ y ∷ [] → n ≤ length zs → n + 1 ≤ length (ys ++ zs)
more ys zs y n e h = subst (λ ys. n + 1 ≤ length (ys ++ zs)) (sym e) (omega (arith, h))

also : (ys zs : List ℤ) (n : ℕ) → n ≤ length zs → n ≤ length (ys ++ zs)
also [] zs n h = h
also (y ∷ ys) zs n h = let i = also ys zs n h in omega (arith, i)

-- how many read as this one does
abbrev many : Read → List Read → ℕ
many r rs = length (flat_map (reader_at r.at r.cell) rs)

has : (r : Read) (rs : List Read) (k : ℕ) → k < length rs → get_or rs k r ≡ r → 1 ≤ many r rs
has r [] k h e = absurd (omega (arith, h))
has r (z ∷ rs) zero h e =
    more (reader_at r.at r.cell z) (flat_map (reader_at r.at r.cell) rs) r.processor 0 (ap (reader_at r.at r.cell) e ∙ same_read r)
    (omega arith)
has r (z ∷ rs) (suc k) h e =
    also (reader_at r.at r.cell z) (flat_map (reader_at r.at r.cell) rs) 1 (has r rs k (omega (arith, h)) e)

-- whether the first one reads so or not, by those behind it
met_first : (r z : Read) (rs : List Read) (n : ℕ) → (is_conflict r z ≡ true → n ≤ many r rs) →
    (is_conflict r z ≡ false → n + 1 ≤ many r rs) → n + 1 ≤ many r (z ∷ rs)
met_first r z rs n met other = by (either (is_conflict r z)) where
  by : (is_conflict r z ≡ true) ⊎ (is_conflict r z ≡ false) → n + 1 ≤ many r (z ∷ rs)
  by (inl e) =
      more (reader_at r.at r.cell z) (flat_map (reader_at r.at r.cell) rs) z.processor n (conflicting r z e) (met e)
  by (inr e) = also (reader_at r.at r.cell z) (flat_map (reader_at r.at r.cell) rs) (n + 1) (other e)

any_behind : (r z : Read) (rs : List Read) → list_any (is_conflict r) (z ∷ rs) ≡ true → is_conflict r z ≡ false →
    list_any (is_conflict r) rs ≡ true
any_behind r z rs a e = sym (ap (λ b. b || list_any (is_conflict r) rs) e) ∙ a

any_has : (r : Read) (rs : List Read) → list_any (is_conflict r) rs ≡ true → 1 ≤ many r rs
any_has r [] a = absurd (cc a)
any_has r (z ∷ rs) a = met_first r z rs 0 (λ e. omega arith) (λ e. any_has r rs (any_behind r z rs a e))

two : (r : Read) (rs : List Read) (k : ℕ) → k < length rs → get_or rs k r ≡ r → list_any (is_conflict r) rs ≡ true → 2 ≤ many r rs
two r [] k h e a = absurd (cc a)
two r (z ∷ rs) zero h e a =
    more (reader_at r.at r.cell z) (flat_map (reader_at r.at r.cell) rs) r.processor 1 (ap (reader_at r.at r.cell) e ∙ same_read r)
    (any_has r rs (any_behind r z rs a (ap (is_conflict r) e ∙ never_itself r)))
two r (z ∷ rs) (suc k) h e a =
    met_first r z rs 1 (λ f. has r rs k (omega (arith, h)) e) (λ f. two r rs k (omega (arith, h)) e (any_behind r z rs a f))

first_at : (i : ℤ) (b : ℕ) (t : Trail) (r : Read) (k : ℕ) → k < length (reads_on i b t) → get_or (reads_on i b t) k r ≡ r → 1 ≤ r.at
first_at i b [] r k h e = absurd (omega (arith, h))
first_at i b (None ∷ t) r k h e = first_at i (b + 1) t r k h e
first_at i b (Some c ∷ t) r zero h e = let a : b + 1 ≡ r.at = ap (λ (r : Read). r.at) e in omega (arith, a)
first_at i b (Some c ∷ t) r (suc k) h e = first_at i (b + 1) t r k (omega (arith, h)) e

-- ---- what is told at a cell

own : (i : ℤ) (a : Attempt Effect) (k : Key) (c : ℕ) → Contains (fault_of i a) k → k.place ≡ Cell c → ⊥
own i (Gives t g) k c h e = nothing_in k h
own i (Fails t d) k c h e = let p = in_one _ k h in cc (p, e)

-- two read the cell at the fault's position
pub record AreRead (xs : List Part) (k : Key) : Type 0 where
  pub kind : k.kind ≡ ReadConflict
  pub at : 1 ≤ k.at
  pub two : (c : ℕ) → k.place ≡ Cell c → 2 ≤ length (flat_map (reader_at k.at c) (reads_of xs))

at_least : (xs : List Part) (r : Read) → Contains (reads_of xs) r → 1 ≤ r.at
at_least xs r m =
    let f = found (λ (x : Part). reads_on x.processor 0 (trail_of x.attempt)) xs r m in
    first_at f.0.processor 0 (trail_of f.0.attempt) r f.2.0 f.2.1 f.2.2

in_reads : (rule : Rule) (xs : List Part) (k : Key) → IsReadConflict rule (reads_of xs) k → AreRead xs k
in_reads rule xs k h =
    let r = h.read in
    record {
      kind = ap (λ (k : Key). k.kind) h.told;
      at = let s : k.at ≡ r.at = ap (λ (k : Key). k.at) h.told in let l = at_least xs r h.among in omega (arith, s, l);
      two = λ c p.
          let q : r.cell ≡ c = let s : k.place ≡ Cell r.cell = ap (λ (k : Key). k.place) h.told in cc (s, p) in
          subst (λ c. 2 ≤ length (flat_map (reader_at k.at c) (reads_of xs))) q
          (subst (λ n. 2 ≤ length (flat_map (reader_at n r.cell) (reads_of xs))) (sym (ap (λ (k : Key). k.at) h.told))
          (two r (reads_of xs) h.among.0 h.among.1 h.among.2 h.met));
    }

-- the rule has something against the writers of the cell
abbrev AreWritten : Rule → List Part → Key → Type 0
AreWritten rule xs k = (c : ℕ) → k.place ≡ Cell c → written rule (pos 0) (writes_to c xs) ≡ Err k.kind

in_writes : (rule : Rule) (xs : List Part) (k : Key) → IsWriteConflict rule xs k → AreWritten rule xs k
in_writes rule xs k w = λ c p.
    let q : w.cell ≡ c = let s = w.place in cc (s, p) in ap (λ c. written rule (pos 0) (writes_to c xs)) (sym q) ∙ w.against

of_cell : (rule : Rule) (xs : List Part) (k : Key) (c : ℕ) → FaultsAt rule xs k c → AreRead xs k ⊎ AreWritten rule xs k
of_cell rule xs k c f = by (whose rule xs k f.told) where
  by : IsOwn xs k ⊎ (IsReadConflict rule (reads_of xs) k ⊎ IsWriteConflict rule xs k) → AreRead xs k ⊎ AreWritten rule xs k
  by (inl o) = absurd (own o.0.processor o.0.attempt k c o.2 f.cell)
  by (inr (inl r)) = inl (in_reads rule xs k r)
  by (inr (inr w)) = inr (in_writes rule xs k w)

-- ---- what a rule has against writers

fits_alone : (z : ℤ) → fits z ≡ true → fits (z +ℤ pos 0) ≡ true
fits_alone z h = let e : z +ℤ pos 0 ≡ z = grind (arith, ints) in ap fits e ∙ h

sum_alone : (z : ℤ) (b : Bool) (d : Kind) → b ≡ true → ◌≡◌ {A = Value} (if b then Ok z else Err Overflow) (Err d) → ⊥
sum_alone z true d h e = cc e
sum_alone z false d h e = cc h

one_writer : (rule : Rule) (w : Write) (d : Kind) → fits w.value ≡ true → written rule (pos 0) (w ∷ []) ≡ Err d → ⊥
one_writer Erew w d h e = cc e
one_writer Crew w d h e = cc e
one_writer Common w d h e = cc e
one_writer Priority w d h e = cc e
one_writer Sum w d h e = sum_alone (w.value +ℤ pos 0) (fits (w.value +ℤ pos 0)) d (fits_alone w.value h) e

two_writers : (rule : Rule) (ws : List Write) (d : Kind) → AllByRecursion (λ (w : Write). fits w.value ≡ true) ws →
    written rule (pos 0) ws ≡ Err d → 2 ≤ length (map (λ (w : Write). w.processor) ws)
two_writers rule [] d h e = absurd (cc e)
two_writers rule (w ∷ []) d h e = absurd (one_writer rule w d h.0 e)
two_writers rule (w ∷ v ∷ ws) d h e = omega arith

-- ---- the laws

read_meeting : (xs : List Part) (k : Key) (c : ℕ) → k.place ≡ Cell c → k.kind ≡ ReadConflict → meeting k xs ≡ readers k.at c xs
read_meeting xs k c p d = ap (λ p. met_in p k.kind k.at xs) p ∙ ap (λ d. met_at d k.at c xs) d

write_meeting : (xs : List Part) (k : Key) (c : ℕ) → k.place ≡ Cell c → (k.kind ≡ WriteConflict) ⊎ (k.kind ≡ Overflow) →
    meeting k xs ≡ writers c xs
write_meeting xs k c p (inl d) = ap (λ p. met_in p k.kind k.at xs) p ∙ ap (λ d. met_at d k.at c xs) d
write_meeting xs k c p (inr d) = ap (λ p. met_in p k.kind k.at xs) p ∙ ap (λ d. met_at d k.at c xs) d

not_a_write : (k : Key) → k.kind ≡ ReadConflict → (k.kind ≡ WriteConflict) ⊎ (k.kind ≡ Overflow) → ⊥
not_a_write k r (inl w) = cc (r, w)
not_a_write k r (inr w) = cc (r, w)

pub readers_meet : ReadersMeet
readers_meet rule xs k c f d = by (of_cell rule xs k c f) where
  by : AreRead xs k ⊎ AreWritten rule xs k → meeting k xs ≡ flat_map (reader_at k.at c) (reads_of xs)
  by (inl r) = read_meeting xs k c f.cell d ∙ readers_are k.at c xs r.at
  by (inr w) = absurd (not_a_write k d (written_kind rule (writes_to c xs) k.kind (w c f.cell)))

pub writers_meet : WritersMeet
writers_meet rule xs k c f d = by (of_cell rule xs k c f) where
  by : AreRead xs k ⊎ AreWritten rule xs k → meeting k xs ≡ map (λ (w : Write). w.processor) (writes_to c xs)
  by (inl r) = absurd (d r.kind)
  by (inr w) = write_meeting xs k c f.cell (written_kind rule (writes_to c xs) k.kind (w c f.cell)) ∙ writers_are c xs

pub two_meet : TwoMeet
two_meet rule xs k c f h = by (of_cell rule xs k c f) where
  by : AreRead xs k ⊎ AreWritten rule xs k → 2 ≤ length (meeting k xs)
  by (inl r) =
      subst (λ ys. 2 ≤ length ys) (sym (read_meeting xs k c f.cell r.kind ∙ readers_are k.at c xs r.at)) (r.two c f.cell)
  by (inr w) =
      subst (λ ys. 2 ≤ length ys)
      (sym (write_meeting xs k c f.cell (written_kind rule (writes_to c xs) k.kind (w c f.cell)) ∙ writers_are c xs))
      (two_writers rule (writes_to c xs) k.kind h (w c f.cell))
