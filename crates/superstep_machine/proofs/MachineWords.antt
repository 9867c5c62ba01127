-- The messages of a worker whose values fit are read back.
use Rattle.std.proofs.Common.{◌≡◌, ℕ, zero, suc, ◌+◌, ◌^◌, ◌<◌, ◌≤◌, List, [], ◌∷◌, ◌++◌, map, length, Bool, true, false, not, cond, eqb}
use Rattle.std.proofs.Common.{Option, Some, None, ℤ, pos, ◌+ℤ◌, refl, sym, subst, arith, ⊎_elim, FitsSigned}
use Rattle.std.specs.Prelude.{if◌then◌else◌, int_le, slice_index_or}
use Rattle.std.specs.List.{AllByRecursion, filter, filter_map, cons_option}
use Rattle.std.specs.Int.{w64, w128}
use Rattle.std.proofs.lemmas.Int.{SFits-int_wrap}
use Rattle.std.proofs.lemmas.Bool.Decides.{eqb_tells}
use Rattle.pram_values.specs.Total.{total}
use Rattle.pram_model.specs.declared.rule.Rule.{Rule}
use Rattle.pram_model.specs.declared.rule.Rule.TheVariants.{Erew, Crew, Common, Priority, Sum}
use Rattle.write_rules.specs.declared.entry.Entry.{Entry}
use Rattle.write_rules.specs.Combining.{is_first, differ, marked}
use Rattle.superstep_machine.specs.Setting.{Setting, combining}
use Rattle.superstep_machine.specs.Parts.{Read, PrivatePart}
use Rattle.superstep_machine.specs.Words.{CellPut, CellAsk}
use Rattle.superstep_machine.specs.Worker.{HeldWrite, Worker}
use Rattle.superstep_machine.specs.Sending.{firsts, join, entry_to, entry_held, put_of, puts_held, cell_at, present, cells_asked}
use Rattle.superstep_machine.specs.Sending.{asked_twice, asks_from, asks_held, sent}
use Rattle.superstep_machine.specs.Answering.{replied}
use Rattle.superstep_machine.specs.Run.{Sends, Replies, Votes, Closes}
use Rattle.superstep_machine.specs.Fitting.{FitsValue, FitsPut, FitsAsk, FitsWrite, IsPutFor, IsAskFor, IsCellBelow, CanBeSent, FitsWorker}
use Rattle.superstep_machine.specs.WordLaws.{SentIsReadBack, RepliedIsReadBack, VotedIsReadBack, ClosingIsReadBack}
use Rattle.superstep_machine.proofs.ReadBack.{message_back}

-- ---- entries

pub record FitsEntry (V : ℤ → Type 0) (e : Entry) : Type 0 where
  pub owner : FitsSigned w64 e.owner
  pub value : V e.value

either : (V : ℤ → Type 0) (clash first : Bool) (a b : Entry) → FitsEntry V a → FitsEntry V b →
    FitsEntry V (if first then marked clash a else marked clash b)
either V clash true a b f g = record { owner = f.owner; value = f.value }
either V clash false a b f g = record { owner = g.owner; value = g.value }

least_fits : (b : Bool) (x y : ℤ) → FitsSigned w64 x → FitsSigned w64 y → FitsSigned w64 (if b then x else y)
least_fits true x y f g = f
least_fits false x y f g = g

pub join_fits : (rule : Rule) (a b : Entry) → FitsEntry (FitsValue rule) a → FitsEntry (FitsValue rule) b → FitsEntry (FitsValue rule)
    ((combining rule).join a b)
join_fits Erew a b f g = either (FitsSigned w64) true (is_first a b) a b f g
join_fits Crew a b f g = either (FitsSigned w64) true (is_first a b) a b f g
join_fits Common a b f g = either (FitsSigned w64) (differ a b) (is_first a b) a b f g
join_fits Priority a b f g = either (FitsSigned w64) false (is_first a b) a b f g
join_fits Sum a b f g = record {
  owner = least_fits (int_le a.owner b.owner) a.owner b.owner f.owner g.owner;
  value =
      SFits-int_wrap w128 (a.value +ℤ b.value);
}

pub single_fits : (rule : Rule) (w : HeldWrite) → FitsWrite w → FitsEntry (FitsValue rule) ((combining rule).single w.processor w.value)
single_fits Erew w f = record { owner = f.processor; value = f.value }
single_fits Crew w f = record { owner = f.processor; value = f.value }
single_fits Common w f = record { owner = f.processor; value = f.value }
single_fits Priority w f = record { owner = f.processor; value = f.value }
single_fits Sum w f = record { owner = f.processor; value = record { sfits = (let v = f.value.sfits in omega arith) } }

-- ---- all items of a list

pub all_kept : {A : Type 0} (P : A → Type 0) (test : A → Bool) (xs : List A) → AllByRecursion P xs → AllByRecursion P (filter test xs)
all_kept P test [] h = tt
all_kept P test (x ∷ xs) h = go (test x) (all_kept P test xs h.1)
  where
    go : (b : Bool) → AllByRecursion P (filter test xs) → AllByRecursion P (cond b (x ∷ filter test xs) (filter test xs))
    go true rest = (h.0, rest)
    go false rest = rest

-- those that pass a test have what it tells
all_passed : {A : Type 0} (P Q : A → Type 0) (part : A → ℕ) (j : ℕ) → ((x : A) → P x → part x ≡ j → Q x) → (xs : List A) →
    AllByRecursion P xs → AllByRecursion Q (filter (λ x. eqb (part x) j) xs)
all_passed P Q part j told [] h = tt
all_passed P Q part j told (x ∷ xs) h =
    let inner = filter (λ y. eqb (part y) j) xs in
    let rest = all_passed P Q part j told xs h.1 in
    ⊎_elim
    (λ yes. subst (λ (b : Bool). AllByRecursion Q (cond b (x ∷ inner) inner)) (sym yes.0) (told x h.0 yes.1, rest))
    (λ other. subst (λ (b : Bool). AllByRecursion Q (cond b (x ∷ inner) inner)) (sym other.0) rest)
    (eqb_tells (part x) j)

pub all_firsts : (P : ℕ → Type 0) (xs : List ℕ) → AllByRecursion P xs → AllByRecursion P (firsts xs)
all_firsts P [] h = tt
all_firsts P (x ∷ xs) h = (h.0, all_kept P (λ y. not (eqb x y)) (firsts xs) (all_firsts P xs h.1))

pub all_joined : {A : Type 0} (P : A → Type 0) (xs ys : List A) → AllByRecursion P xs → AllByRecursion P ys → AllByRecursion P (xs ++ ys)
all_joined P [] ys f g = g
all_joined P (x ∷ xs) ys f g = (f.0, all_joined P xs ys f.1 g)

pub all_map : {A B : Type 0} (P : A → Type 0) (Q : B → Type 0) (f : A → B) → ((x : A) → P x → Q (f x)) → (xs : List A) →
    AllByRecursion P xs → AllByRecursion Q (map f xs)
all_map P Q f h [] all = tt
all_map P Q f h (x ∷ xs) all = (h x all.0, all_map P Q f h xs all.1)

-- ---- puts

module _ (rule : Rule) where
  -- an entry that fits, if there is one
  abbrev FitsSome : Option Entry → Type 0
  FitsSome None = Unit {0}
  FitsSome (Some e) = FitsEntry (FitsValue rule) e

  both_fit : (a b : Option Entry) → FitsSome a → FitsSome b → FitsSome (join rule a b)
  both_fit None b f g = g
  both_fit (Some a) None f g = f
  both_fit (Some a) (Some b) f g = join_fits rule a b f g

  one_fits : (c : ℕ) (w : HeldWrite) → FitsWrite w → FitsSome (entry_to rule c w)
  one_fits c w f = go (eqb w.cell c)
    where
      go : (b : Bool) → FitsSome (if b then Some ((combining rule).single w.processor w.value) else None)
      go true = single_fits rule w f
      go false = tt

  held_fits : (c : ℕ) (ws : List HeldWrite) → AllByRecursion FitsWrite ws → FitsSome (total None (join rule) (entry_to rule c) ws)
  held_fits c [] f = tt
  held_fits c (w ∷ ws) f = both_fit (entry_to rule c w) (total None (join rule) (entry_to rule c) ws) (one_fits c w f.0)
      (held_fits c ws f.1)

  -- a put that fits, to a cell below n
  abbrev IsPutBelow : ℕ → CellPut → Type 0
  IsPutBelow n x = FitsPut rule x × (x.cell < n)

  puts_fit : (n : ℕ) → n ≤ 2 ^ 20 → (f : ℕ → Option Entry) → ((c : ℕ) → FitsSome (f c)) → (cs : List ℕ) → AllByRecursion (λ c. c < n) cs →
      AllByRecursion (IsPutBelow n) (filter_map (λ c. put_of c (f c)) cs)
  puts_fit n small f h [] l = tt
  puts_fit n small f h (c ∷ cs) l = go (f c) (h c) (puts_fit n small f h cs l.1)
    where
      inside : c < 2 ^ 20
      inside = let k = l.0 in omega (arith, k, small)

      go : (e : Option Entry) → FitsSome e → AllByRecursion (IsPutBelow n) (filter_map (λ d. put_of d (f d)) cs) →
          AllByRecursion (IsPutBelow n) (cons_option (put_of c e) (filter_map (λ d. put_of d (f d)) cs))
      go None g rest = rest
      go (Some e) g rest = ((record { cell = inside; owner = g.owner; value = g.value }, l.0), rest)

-- ---- asks

all_present : (n : ℕ) (os : List (Option ℕ)) → AllByRecursion (IsCellBelow n) os → AllByRecursion (λ c. c < n) (present os)
all_present n [] h = tt
all_present n (None ∷ os) h = all_present n os h.1
all_present n (Some c ∷ os) h = (h.0, all_present n os h.1)

pub cell_at_below : (n k : ℕ) (os : List (Option ℕ)) → AllByRecursion (IsCellBelow n) os → IsCellBelow n (cell_at k os)
cell_at_below n k [] h = tt
cell_at_below n zero (o ∷ os) h = h.0
cell_at_below n (suc k) (o ∷ os) h = cell_at_below n k os h.1

module _ (n : ℕ) (small : n ≤ 2 ^ 20) (s : Worker)
    (own : AllByRecursion (λ (x : PrivatePart). AllByRecursion (IsCellBelow n) x.asks) s.own) where
  -- an ask that fits, for a cell below n
  abbrev IsAskBelow : CellAsk → Type 0
  IsAskBelow x = FitsAsk x × (x.cell < n)

  cells_below : (read : Read) (k : ℕ) → IsCellBelow n read.cell → AllByRecursion (λ c. c < n) (cells_asked s read k)
  cells_below read k h =
      let each = all_map (λ (x : PrivatePart). AllByRecursion (IsCellBelow n) x.asks) (IsCellBelow n) (λ (x : PrivatePart).
      cell_at k x.asks) (λ x f. cell_at_below n k x.asks f) s.own own in
      all_firsts (λ c. c < n) _ (all_present n (read.cell ∷ map (λ (x : PrivatePart). cell_at k x.asks) s.own) (h, each))

  asks_fit : (k : ℕ) (reads : List Read) → AllByRecursion (λ (read : Read). IsCellBelow n read.cell) reads → k + length reads ≤ 2 ^ 3 →
      AllByRecursion IsAskBelow (asks_from s k reads)
  asks_fit k [] h l = tt
  asks_fit k (read ∷ rest) h l =
      all_joined IsAskBelow (map (λ c. record { read = k; cell = c; twice = asked_twice s k c }) (cells_asked s read k))
      (asks_from s (k + 1) rest)
      (all_map (λ c. c < n) IsAskBelow (λ c. record { read = k; cell = c; twice = asked_twice s k c })
      (λ c b. (record { cell = omega (arith, b, small); read = omega (arith, l) }, b)) (cells_asked s read k) (cells_below read k h.0))
      (asks_fit (k + 1) rest h.1 (omega (arith, l)))

-- ---- values

pub zero_fits : FitsSigned w64 (pos 0)
zero_fits = record { sfits = omega arith }

pub value_fits : (cells : List ℤ) (o : ℕ) → AllByRecursion (FitsSigned w64) cells → FitsSigned w64 (slice_index_or cells o (pos 0))
value_fits [] o h = zero_fits
value_fits (z ∷ cells) zero h = h.0
value_fits (z ∷ cells) (suc o) h = value_fits cells o h.1

pub values_fit : {A : Type 0} (f : A → ℤ) → ((x : A) → FitsSigned w64 (f x)) → (xs : List A) → AllByRecursion (FitsSigned w64) (map f xs)
values_fit f h [] = tt
values_fit f h (x ∷ xs) = (h x, values_fit f h xs)

-- ---- messages

-- they can be sent
pub sent_can : (t : Setting) (s : Worker) (j : ℕ) → FitsWorker t s → CanBeSent t.code.rule t.map j Sends (sent t s j)
sent_can t s j fits = (puts, asks, refl)
  where
    puts : AllByRecursion (IsPutFor t.code.rule t.map j) (filter (λ (x : CellPut). eqb (t.map.part x.cell) j) (puts_held t.code.rule s))
    puts =
        all_passed (IsPutBelow t.code.rule t.map.count) (IsPutFor t.code.rule t.map j) (λ (x : CellPut). t.map.part x.cell) j
        (λ x f e. record { fits = f.0; of = record { below = f.1; here = e } }) (puts_held t.code.rule s)
        (puts_fit t.code.rule t.map.count fits.small (entry_held t.code.rule s) (λ c. held_fits t.code.rule c s.held fits.writes)
        (firsts (map (λ (x : HeldWrite). x.cell) s.held))
        (all_firsts (λ c. c < t.map.count) _ (all_map (λ (x : HeldWrite). x.cell < t.map.count) (λ c. c < t.map.count) (λ (x : HeldWrite).
        x.cell) (λ x l. l) s.held fits.written)))

    asks : AllByRecursion (IsAskFor t.map j) (filter (λ (x : CellAsk). eqb (t.map.part x.cell) j) (asks_held s))
    asks =
        all_passed (IsAskBelow t.map.count fits.small s fits.own_asks) (IsAskFor t.map j) (λ (x : CellAsk). t.map.part x.cell) j
        (λ x f e. record { fits = f.0; of = record { below = f.1; here = e } }) (asks_held s)
        (asks_fit t.map.count fits.small s fits.own_asks 0 s.uniform.asks fits.asks (let l = fits.few in omega (arith, l)))

pub replied_can : (t : Setting) (s : Worker) (j : ℕ) → FitsWorker t s → CanBeSent t.code.rule t.map j Replies (replied t s j)
replied_can t s j fits = (
  refl,
  refl,
  values_fit (λ c. slice_index_or s.cells (t.map.offset c) (pos 0)) (λ c. value_fits s.cells (t.map.offset c) fits.cells)
      (slice_index_or s.taken j []),
)

pub sent_back : SentIsReadBack
sent_back t s j fits = message_back t.code.rule t.map j Sends _ (sent_can t s j fits)

pub replied_back : RepliedIsReadBack
replied_back t s j fits = message_back t.code.rule t.map j Replies _ (replied_can t s j fits)

pub voted_back : VotedIsReadBack
voted_back t s j d = message_back t.code.rule t.map j (Votes d) _ (refl, refl, refl)

pub closing_back : ClosingIsReadBack
closing_back t s j = message_back t.code.rule t.map j Closes _ (refl, refl, refl)
