-- Accesses whose cells ascend: each is alone at its cell.
use Rattle.std.proofs.Common.{◌≡◌, ℕ, ℤ, pos, ◌+◌, ◌<◌, ◌≤◌, List, [], ◌∷◌, ◌++◌, map, drop, length, get_or, append_assoc}
use Rattle.std.proofs.Common.{nat_eq, Bool, false, if◌then◌else◌, Option, Some, None, Result, Ok, refl, ap, sym, ◌∙◌, subst, arith}
use Rattle.std.proofs.lemmas.List.{drop_more, drop_all}
use Rattle.std.specs.Prelude.{⊤}
use Rattle.std.specs.List.{fold, flat_map}
use Rattle.pram_values.proofs.TruthValues.{is_equal-self}
use Rattle.pram_values.specs.Value.{Value}
use Rattle.pram_values.specs.declared.kind.Kind.{Kind}
use Rattle.pram_values.specs.declared.kind.Kind.TheVariants.{ReadConflict}
use Rattle.pram_values.specs.declared.place.Place.TheVariants.{Cell}
use Rattle.pram_model.specs.declared.rule.Rule.{Rule}
use Rattle.pram_model.specs.declared.rule.Rule.TheVariants.{Erew, Crew, Common, Priority, Sum}
use Rattle.write_rules.specs.Rule.{is_sum, written}
use Rattle.write_rules.specs.declared.write.Write.{Write}
use Rattle.pram_meaning.specs.declared.access.Access.{Access}
use Rattle.pram_meaning.specs.declared.access.Judged.{Judged}
use Rattle.pram_meaning.specs.declared.key.Key.{Key}
use Rattle.pram_meaning.specs.declared.part as part
use Rattle.pram_meaning.specs.Accesses.{access_to, judged, judged_in, key_of, made_by, read_at, reads_at, shared_key, writes_for}
use Rattle.pram_meaning.specs.Accesses.{writes_made}
use Rattle.pram_meaning.specs.Ascents.{AreApart, AscendFrom, IsPast, cell_written}
use Rattle.pram_meaning.specs.Attempt.{Attempt, Effect, Fails, Gives}
use Rattle.pram_meaning.specs.Conflict.{Part, lesser, trail_of, write_conflict}
use Rattle.pram_meaning.specs.Judging.{part_is}
use Rattle.pram_meaning.specs.Together.{value_in}
use Rattle.pram_meaning.proofs.Groups.{same_number}
use Rattle.pram_meaning.proofs.Trails.{trail_is}
use Rattle.pram_meaning.proofs.Written.{verdicts_are}

-- ---- one access to each cell

number_before : (c d : ℕ) → c < d → nat_eq c d ≡ false
number_before c d h = grind arith

number_behind : (c d : ℕ) → d < c → nat_eq c d ≡ false
number_behind c d h = grind arith

none_before : (c n : ℕ) (all : List Access) → AscendFrom n all → c < n → writes_for c all ≡ []
none_before c n [] h l = refl
none_before c n (a ∷ bs) h l =
    let k : n ≤ a.cell = h.0 in
    ap (λ b. (if b then a.write ∷ [] else []) ++ writes_for c bs) (number_before c a.cell (omega (arith, k, l)))
    ∙ none_before c (a.cell + 1) bs h.1 (omega (arith, k, l))

reach : (n : ℕ) (front tail : List Access) (a : Access) → AscendFrom n (front ++ a ∷ tail) → n ≤ a.cell
reach n [] tail a h = h.0
reach n (b ∷ front) tail a h =
    let k : b.cell + 1 ≤ a.cell = reach (b.cell + 1) front tail a h.1 in let l : n ≤ b.cell = h.0 in omega (arith, k, l)

pub alone_in : (n : ℕ) (front tail : List Access) (a : Access) → AscendFrom n (front ++ a ∷ tail) →
    writes_for a.cell (front ++ a ∷ tail) ≡ a.write ∷ []
alone_in n [] tail a h =
    ap (λ b. (if b then a.write ∷ [] else []) ++ writes_for a.cell tail) (same_number a.cell)
    ∙ ap (λ ws. a.write ∷ ws) (none_before a.cell (a.cell + 1) tail h.1 (omega arith))
alone_in n (b ∷ front) tail a h =
    let k : b.cell + 1 ≤ a.cell = reach (b.cell + 1) front tail a h.1 in
    ap (λ c. (if c then b.write ∷ [] else []) ++ writes_for a.cell (front ++ a ∷ tail)) (number_behind a.cell b.cell (omega (arith, k)))
    ∙ alone_in (b.cell + 1) front tail a h.1

-- ---- nothing is said against them

abbrev said_alone : Rule → Access → Judged
said_alone rule a = record { access = a; verdict = written rule (pos 0) (a.write ∷ []) }

-- nothing is said against each of these, where it is alone at its cell
abbrev AreQuiet : (Judged → List Key) → Rule → List Access → Type 0
AreQuiet F rule [] = ⊤
AreQuiet F rule (a ∷ bs) = (F (said_alone rule a) ≡ []) × AreQuiet F rule bs

none_said : (F : Judged → List Key) (rule : Rule) (all front tail : List Access) → all ≡ front ++ tail → AscendFrom 0 all →
    AreQuiet F rule tail → flat_map F (map (judged_in rule all) tail) ≡ []
none_said F rule all front [] e h q = refl
none_said F rule all front (a ∷ tail) e h q =
    let one : writes_for a.cell all ≡ a.write ∷ [] = ap (writes_for a.cell) e ∙ alone_in 0 front tail a (subst (AscendFrom 0) e h) in
    ap (λ ws. F (record { access = a; verdict = written rule (pos 0) ws }) ++ flat_map F (map (judged_in rule all) tail)) one
    ∙ ap (λ ks. ks ++ flat_map F (map (judged_in rule all) tail)) q.0
    ∙ none_said F rule all (front ++ a ∷ []) tail (e ∙ sym (append_assoc front (a ∷ []) tail)) h q.1

-- ---- reads

abbrev conflict_at : Access → Bool → List Key
conflict_at a b = if b then [] else record { at = a.at; place = Cell a.cell; kind = ReadConflict } ∷ []

quiet_read : (p : ℕ) (i : ℤ) (o : Option ℕ) (rest : List Access) → AreQuiet shared_key Common rest →
    AreQuiet shared_key Common (access_to p o (record { processor = i; value = i }) ++ rest)
quiet_read p i None rest q = q
quiet_read p i (Some c) rest q =
    (ap (conflict_at (record { at = p; cell = c; write = record { processor = i; value = i } })) (is_equal-self i), q)

quiet_reads : (at : ℕ) (xs : List Part) → AreQuiet shared_key Common (reads_at at xs)
quiet_reads at [] = tt
quiet_reads at (x ∷ xs) =
    quiet_read (at + 1) x.processor (get_or (trail_of x.attempt) at None) (reads_at at xs) (quiet_reads at xs)

pub reads_quiet : (at : ℕ) (xs : List Part) (best : Option Key) → AscendFrom 0 (reads_at at xs) →
    best ≡ fold lesser best (flat_map shared_key (judged Common (reads_at at xs)))
reads_quiet at xs best h =
    sym (ap (fold lesser best) (none_said shared_key Common (reads_at at xs) [] (reads_at at xs) refl h (quiet_reads at xs)))

-- ---- writes

pub one_written : (rule : Rule) (o : ℤ) (w : Write) → is_sum rule ≡ false → ◌≡◌ {A = Result ℤ Kind} (written rule o (w ∷ [])) (Ok w.value)
one_written Erew o w h = refl
one_written Crew o w h = refl
one_written Common o w h = refl
one_written Priority o w h = refl
one_written Sum o w h = grind arith

quiet_writes : (rule : Rule) (all : List Access) → is_sum rule ≡ false → AreQuiet key_of rule all
quiet_writes rule [] h = tt
quiet_writes rule (a ∷ bs) h =
    (ap (λ (v : Value). key_of (record { access = a; verdict = v })) (one_written rule (pos 0) a.write h), quiet_writes rule bs h)

pub writes_quiet : (rule : Rule) (xs : List Part) (best : Option Key) → AreApart rule (writes_made xs) →
    best ≡ fold lesser best (flat_map (λ x. write_conflict rule xs x.attempt) xs)
writes_quiet rule xs best h =
    sym (ap (fold lesser best) (sym (verdicts_are rule xs xs)
    ∙ none_said key_of rule (writes_made xs) [] (writes_made xs) refl h.ascend (quiet_writes rule (writes_made xs) h.plain)))

-- ---- the loops

pub record InAscent (F : Part → List Access) (items : List part.Part.Part) (i n : ℕ) : Type 0 where
  pub rest : AscendFrom n (flat_map F (map part_is (drop i items))) → AscendFrom 0 (flat_map F (map part_is items))

pub ascent_starts : (F : Part → List Access) (items : List part.Part.Part) → InAscent F items 0 0
ascent_starts F items = record { rest = λ h. h }

longer : (p n m : ℕ) (o : Option ℕ) (w : Write) (rest : List Access) → IsPast n o m → AscendFrom m rest →
    AscendFrom n (access_to p o w ++ rest)
longer p n m None w rest e h = subst (λ k. AscendFrom k rest) e h
longer p n m (Some c) w rest e h = (e.0, subst (λ k. AscendFrom k rest) e.1 h)

ascent_goes : (F : Part → List Access) (items : List part.Part.Part) (i n m p : ℕ) (x : part.Part.Part) (o : Option ℕ) (w : Write) →
    InAscent F items i n → i < length items → x ≡ get_or items i x → F (part_is x) ≡ access_to p o w → IsPast n o m →
    InAscent F items (i + 1) m
ascent_goes F items i n m p x o w b l is e k = record {
  rest = λ h. b.rest (subst (λ ys. AscendFrom n (flat_map F (map part_is ys)))
      (sym (drop_more items i x l ∙ ap (λ y. y ∷ drop (i + 1) items) (sym is)))
      (subst (λ bs. AscendFrom n (bs ++ flat_map F (map part_is (drop (i + 1) items)))) (sym e)
      (longer p n m o w (flat_map F (map part_is (drop (i + 1) items))) k h)));
}

ascent_ends : (F : Part → List Access) (items : List part.Part.Part) (i n : ℕ) → InAscent F items i n → length items ≤ i →
    AscendFrom 0 (flat_map F (map part_is items))
ascent_ends F items i n b h = b.rest (subst (λ ys. AscendFrom n (flat_map F (map part_is ys))) (sym (drop_all i items h)) tt)

abbrev pub read_by : ℕ → Part → List Access
read_by at x = read_at at x.processor (trail_of x.attempt)

abbrev pub write_by : Part → List Access
write_by x = made_by x.processor x.attempt

pub made_is : (i : ℤ) (a : Attempt Effect) →
    made_by i a ≡ access_to (length (trail_of a)) (cell_written a) (record { processor = i; value = value_in a })
made_is i (Gives t x) = refl
made_is i (Fails t k) = refl

pub reads_go : (items : List part.Part.Part) (at i n m : ℕ) (x : part.Part.Part) (o : Option ℕ) → InAscent (read_by at) items i n →
    i < length items → x ≡ get_or items i x → o ≡ get_or x.trail.items at None → IsPast n o m → InAscent (read_by at) items (i + 1) m
reads_go items at i n m x o b l is e k =
    ascent_goes (read_by at) items i n m (at + 1) x o (record { processor = x.processor; value = x.processor }) b l is
    (ap (read_at at x.processor) (trail_is x)
    ∙ ap (λ o. access_to (at + 1) o (record { processor = x.processor; value = x.processor })) (sym e)) k

pub reads_end : (items : List part.Part.Part) (at i n : ℕ) → InAscent (read_by at) items i n → length items ≤ i →
    AscendFrom 0 (reads_at at (map part_is items))
reads_end items at i n b h = ascent_ends (read_by at) items i n b h

pub writes_go : (items : List part.Part.Part) (i n m : ℕ) (x : part.Part.Part) (o : Option ℕ) → InAscent write_by items i n →
    i < length items → x ≡ get_or items i x → o ≡ cell_written (part_is x).attempt → IsPast n o m → InAscent write_by items (i + 1) m
writes_go items i n m x o b l is e k =
    let p : ℕ = length (trail_of (part_is x).attempt) in
    let w : Write = record { processor = x.processor; value = value_in (part_is x).attempt } in
    ascent_goes write_by items i n m p x o w b l is (made_is x.processor (part_is x).attempt ∙ ap (λ o. access_to p o w) (sym e)) k

pub writes_end : (items : List part.Part.Part) (i n : ℕ) → InAscent write_by items i n → length items ≤ i →
    AscendFrom 0 (writes_made (map part_is items))
writes_end items i n b h = ascent_ends write_by items i n b h
