-- A listener on its way: what it still has to hear, so that it has heard the whole.
use Rattle.std.proofs.Common.{◌≡◌, ◌≢◌, ℕ, List, [], ◌∷◌, ◌++◌, Result, Ok, Err, ap, ◌∙◌, append_assoc, refl, subst, sym}
use Rattle.std.proofs.lemmas.List.{append-nil}
use Rattle.pram_meaning.specs.declared.run.Halt.{Halt}
use Rattle.pram_meaning.specs.declared.run.Halt.TheVariants as halt
use Rattle.pram_meaning.specs.Bounded.{Behaviour, Goes, counted}
use Rattle.pram_meaning.specs.Listening.{GaveUp, HasHeard, HasHeardPart, HeardFirst}
use Rattle.pram_meaning.specs.Moments.{Closed, Moment, begun, behind, closing}
use Rattle.pram_meaning.specs.Runs.{IsBehaviour}
use Rattle.pram_meaning.specs.Store.{State}

abbrev pub HearsOn : {S : Type 0} → (S → List Moment → S → Type 0) → Type 0
HearsOn {S} H = (a b c : S) (ms ns : List Moment) → H a ms b → H b ns c → H a (ms ++ ns) c

abbrev pub HearsNothing : {S : Type 0} → (S → List Moment → S → Type 0) → Type 0
HearsNothing {S} H = (l : S) → H l [] l

-- ---- a beginning of some moments

-- nothing of them was heard
pub part_none : {S : Type 0} (H : S → List Moment → S → Type 0) (G : S → Moment → S → Type 0) → HearsNothing H → (from : S)
    (ms : List Moment) → HasHeardPart H G from ms from
part_none H G nothing from ms = HeardFirst [] ms refl (nothing from)

-- all of them were heard
pub part_all : {S : Type 0} (H : S → List Moment → S → Type 0) (G : S → Moment → S → Type 0) (from late : S) (ms : List Moment) →
    H from ms late → HasHeardPart H G from ms late
part_all H G from late ms h = HeardFirst ms [] (sym (append-nil ms)) h

-- whoever was told it gave up
pub part_of_one : {S : Type 0} (H : S → List Moment → S → Type 0) (G : S → Moment → S → Type 0) → HearsNothing H → (from late : S)
    (m : Moment) → G from m late → HasHeardPart H G from (m ∷ []) late
part_of_one H G nothing from late m g = GaveUp [] m [] from refl (nothing from) g

-- a beginning of the first ones
pub part_first : {S : Type 0} (H : S → List Moment → S → Type 0) (G : S → Moment → S → Type 0) (from late : S) (ms ns : List Moment) →
    HasHeardPart H G from ms late → HasHeardPart H G from (ms ++ ns) late
part_first H G from late ms ns (HeardFirst first rest is h) =
    HeardFirst first (rest ++ ns) (ap (λ ms. ms ++ ns) is ∙ append_assoc first rest ns) h
part_first H G from late ms ns (GaveUp first next rest between is h g) =
    GaveUp first next (rest ++ ns) between (ap (λ ms. ms ++ ns) is ∙ append_assoc first (next ∷ rest) ns) h g

-- the first ones, and a beginning of the others
pub part_behind : {S : Type 0} (H : S → List Moment → S → Type 0) (G : S → Moment → S → Type 0) → HearsOn H → (from half late : S)
    (ms ns : List Moment) → H from ms half → HasHeardPart H G half ns late → HasHeardPart H G from (ms ++ ns) late
part_behind H G on from half late ms ns h (HeardFirst first rest is k) =
    HeardFirst (ms ++ first) rest (ap (λ ns. ms ++ ns) is ∙ sym (append_assoc ms first rest)) (on from half late ms first h k)
part_behind H G on from half late ms ns h (GaveUp first next rest between is k g) =
    GaveUp (ms ++ first) next rest between (ap (λ ns. ms ++ ns) is ∙ sym (append_assoc ms first (next ∷ rest)))
    (on from half between ms first h k) g

-- ---- what is left to hear

-- whoever goes on from here with the rest has heard the whole, and with a beginning of the rest a beginning of the whole
pub record Closes {S : Type 0} (H : S → List Moment → S → Type 0) (G : S → Moment → S → Type 0) (from : S) (whole : List Moment) (till : S)
    (rest : List Moment) : Type 0 where
  pub all : (late : S) → H till rest late → H from whole late
  pub part : (late : S) → HasHeardPart H G till rest late → HasHeardPart H G from whole late

-- where all is left
pub closes_start : {S : Type 0} (H : S → List Moment → S → Type 0) (G : S → Moment → S → Type 0) (from : S) (whole : List Moment) →
    Closes H G from whole from whole
closes_start H G from whole = record { all = λ late h. h; part = λ late h. h }

-- what is left, by another name
pub closes_as : {S : Type 0} (H : S → List Moment → S → Type 0) (G : S → Moment → S → Type 0) (from till : S)
    (whole rest same : List Moment) → rest ≡ same → Closes H G from whole till rest → Closes H G from whole till same
closes_as H G from till whole rest same is c = let P : List Moment → Type 0 = λ ms. Closes H G from whole till ms in subst P is c

-- an answer that tells of what is left tells of the whole
pub closes_with : {S : Type 0} (H : S → List Moment → S → Type 0) (G : S → Moment → S → Type 0) (A B : Type 0) (from till late : S)
    (whole rest : List Moment) (x : Halt) → Closes H G from whole till rest → HasHeard {A = A} (Err x) H G till rest late →
    HasHeard {A = B} (Err x) H G from whole late
closes_with H G A B from till late whole rest (halt.Fault k) c h = c.all late h
closes_with H G A B from till late whole rest halt.Bound c h = c.all late h
closes_with H G A B from till late whole rest halt.OutOfMemory c h = c.part late h

-- the first of what is left was heard, and the run goes on
pub closes_on : {S : Type 0} (H : S → List Moment → S → Type 0) (G : S → Moment → S → Type 0) → HearsOn H → {A : Type 0}
    (from till late : S) (whole ms : List Moment) (b : Behaviour A) (f : A → State → List Moment) (a : A) (m : State) → b ≡ Goes a m →
    Closes H G from whole till (ms ++ behind b f) → H till ms late → Closes H G from whole late (f a m)
closes_on H G on from till late whole ms b f a m is c h =
    let p : behind b f ≡ f a m = ap (λ b. behind b f) is in
    closes_as H G from late whole (behind b f) (f a m) p
    (record {
      all = λ end rest. c.all end (on till late end ms (behind b f) h rest);
      part = λ end rest. c.part end (part_behind H G on till late end ms (behind b f) h rest);
    })

-- the first of two parts was heard, and it halts the run
pub first_halts : {S : Type 0} (H : S → List Moment → S → Type 0) (G : S → Moment → S → Type 0) {A : Type 0} (B : Type 0) (from late : S)
    (ms : List Moment) (b : Behaviour A) (f : A → State → List Moment) (x : Halt) (m : State) → IsBehaviour {A = A} (Err x) m b →
    HasHeard {A = A} (Err x) H G from ms late → HasHeard {A = B} (Err x) H G from (ms ++ behind b f) late
first_halts H G B from late ms b f (halt.Fault k) m is h =
    let p : ms ++ behind b f ≡ ms = ap (λ b. ms ++ behind b f) is ∙ append-nil ms in rw p h
first_halts H G B from late ms b f halt.Bound m is h =
    let p : ms ++ behind b f ≡ ms = ap (λ b. ms ++ behind b f) is ∙ append-nil ms in rw p h
first_halts H G B from late ms b f halt.OutOfMemory m is h = part_first H G from late ms (behind b f) h

-- the first of what is left was heard, and the run halts
pub closes_halt : {S : Type 0} (H : S → List Moment → S → Type 0) (G : S → Moment → S → Type 0) {A : Type 0} (from till late : S)
    (whole ms : List Moment) (b : Behaviour A) (f : A → State → List Moment) (x : Halt) (m : State) →
    IsBehaviour {A = A} (Err x) m b → Closes H G from whole till (ms ++ behind b f) → HasHeard {A = A} (Err x) H G till ms late →
    HasHeard {A = Unit {0}} (Err x) H G from whole late
closes_halt H G {A} from till late whole ms b f x m is c h =
    closes_with H G A (Unit {0}) from till late whole (ms ++ behind b f) x c (first_halts H G A till late ms b f x m is h)

-- both were heard, whatever the second one answers
pub both_heard : {S : Type 0} (H : S → List Moment → S → Type 0) (G : S → Moment → S → Type 0) → HearsOn H → {B : Type 0}
    (from half late : S) (ms ns : List Moment) (r : Result B Halt) → H from ms half → HasHeard r H G half ns late →
    HasHeard r H G from (ms ++ ns) late
both_heard H G on from half late ms ns (Ok x) h rest = on from half late ms ns h rest
both_heard H G on from half late ms ns (Err (halt.Fault k)) h rest = on from half late ms ns h rest
both_heard H G on from half late ms ns (Err halt.Bound) h rest = on from half late ms ns h rest
both_heard H G on from half late ms ns (Err halt.OutOfMemory) h rest = part_behind H G on from half late ms ns h rest

pub first_goes : {S : Type 0} (H : S → List Moment → S → Type 0) (G : S → Moment → S → Type 0) → HearsOn H → {A B : Type 0}
    (from half late : S) (ms : List Moment) (b : Behaviour A) (f : A → State → List Moment) (a : A) (m : State) (r : Result B Halt) →
    b ≡ Goes a m → H from ms half → HasHeard r H G half (f a m) late → HasHeard r H G from (ms ++ behind b f) late
first_goes H G on {B} from half late ms b f a m r is h rest =
    let p : f a m ≡ behind b f = ap (λ b. behind b f) (sym is) in
    let P : List Moment → Type 0 = λ ns. HasHeard r H G half ns late in
    both_heard H G on {B = B} from half late ms (behind b f) r h (subst P p rest)

-- a statement that does not begin
pub waits : {S : Type 0} (H : S → List Moment → S → Type 0) (G : S → Moment → S → Type 0) → HearsNothing H → (B : Type 0) (n : ℕ)
    (f : State → Moment) (m new : State) (l : S) (x : Halt) → IsBehaviour {A = Unit {0}} (Err x) new (counted n m) →
    HasHeard {A = B} (Err x) H G l (begun n m f) l
waits H G nothing B n f m new l (halt.Fault k) is =
    let p : begun n m f ≡ [] = ap (λ b. behind b (λ u m. f m ∷ [])) is in rw p (nothing l)
waits H G nothing B n f m new l halt.Bound is =
    let p : begun n m f ≡ [] = ap (λ b. behind b (λ u m. f m ∷ [])) is in rw p (nothing l)
waits H G nothing B n f m new l halt.OutOfMemory is = part_none H G nothing l (begun n m f)

-- ---- where memory was refused

-- a beginning of the first of what is left was heard
pub closes_part : {S : Type 0} (H : S → List Moment → S → Type 0) (G : S → Moment → S → Type 0) (from till late : S)
    (whole ms ns : List Moment) → Closes H G from whole till (ms ++ ns) → HasHeardPart H G till ms late → HasHeardPart H G from whole late
closes_part H G from till late whole ms ns c h = c.part late (part_first H G till late ms ns h)

-- a block was heard, and then that it closes
pub closed_heard : {S : Type 0} (H : S → List Moment → S → Type 0) (G : S → Moment → S → Type 0) → HearsOn H → {B : Type 0}
    (from half late : S) (ms : List Moment) (r : Result B Halt) → r ≢ Err halt.OutOfMemory → HasHeard r H G from ms half →
    H half (Closed ∷ []) late → HasHeard r H G from (closing ms) late
closed_heard H G on from half late ms (Ok x) told h rest = on from half late ms (Closed ∷ []) h rest
closed_heard H G on from half late ms (Err (halt.Fault k)) told h rest = on from half late ms (Closed ∷ []) h rest
closed_heard H G on from half late ms (Err halt.Bound) told h rest = on from half late ms (Closed ∷ []) h rest
closed_heard H G on from half late ms (Err halt.OutOfMemory) told h rest = absurd (told refl)

-- memory was refused in it, and nobody is told that it closes
pub closing_left : {S : Type 0} (H : S → List Moment → S → Type 0) (G : S → Moment → S → Type 0) {B : Type 0} (from half : S)
    (ms : List Moment) (r : Result B Halt) → r ≡ Err halt.OutOfMemory → HasHeard r H G from ms half → HasHeard r H G from (closing ms) half
closing_left H G {B} from half ms r is h =
    let P : Result B Halt → Type 0 = λ r. HasHeard r H G from ms half in
    let Q : Result B Halt → Type 0 = λ r. HasHeard r H G from (closing ms) half in
    subst Q (sym is) (part_first H G from half ms (Closed ∷ []) (subst P is h))

-- it was heard, but that it closes no more
pub closing_refused : {S : Type 0} (H : S → List Moment → S → Type 0) (G : S → Moment → S → Type 0) → HearsNothing H → HearsOn H →
    {B : Type 0} (from half late : S) (ms : List Moment) (r : Result B Halt) → r ≢ Err halt.OutOfMemory → HasHeard r H G from ms half →
    G half Closed late → HasHeardPart H G from (closing ms) late
closing_refused H G nothing on from half late ms (Ok x) told h g =
    part_behind H G on from half late ms (Closed ∷ []) h (part_of_one H G nothing half late Closed g)
closing_refused H G nothing on from half late ms (Err (halt.Fault k)) told h g =
    part_behind H G on from half late ms (Closed ∷ []) h (part_of_one H G nothing half late Closed g)
closing_refused H G nothing on from half late ms (Err halt.Bound) told h g =
    part_behind H G on from half late ms (Closed ∷ []) h (part_of_one H G nothing half late Closed g)
closing_refused H G nothing on from half late ms (Err halt.OutOfMemory) told h g = absurd (told refl)
