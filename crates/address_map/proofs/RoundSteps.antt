-- Rounds, one more and one less.
use Rattle.std.proofs.Common.{◌≡◌, ◌<◌, ◌≤◌, ◌+◌, ◌*◌, ◌/◌, ◌%◌, ◌++◌, ◌∙◌, ℕ, List, [], ◌∷◌, length, get_or, map, set, take, ap, refl}
use Rattle.std.proofs.Common.{subst, sym, arith}
use Rattle.std.proofs.lemmas.List.{get_or-take, length-set, length-take-le, map-append, take_all, take_more, take_more_set}
use Rattle.std.proofs.ByRecursion.{All-append as every_append, All-get_or as every_at}
use Rattle.std.specs.List.{All, AllByRecursion}
use Rattle.address_map.specs.Lawful.{rows, spread, Spreads}
use Rattle.address_map.specs.Outcome.{AreRounds, IsRound}
use Rattle.address_map.specs.Permutation.{round}
use Rattle.address_map.specs.RoundLaws.{IsUndone, numbers_of, rounds_back, rounds_of}
use Rattle.address_map.specs.ShiftLaws.{round_back}
use Rattle.address_map.specs.declared.round.Round.{Round}

forth_last : (k : ℕ) (rs : List Round) (r : Round) (x : ℕ) → rounds_of k (rs ++ r ∷ []) x ≡ round k r.multiplier r.shift (rounds_of k rs x)
forth_last k [] r x = refl
forth_last k (q ∷ rs) r x = forth_last k rs r (round k q.multiplier q.shift x)

back_last : (k : ℕ) (rs : List Round) (r : Round) (y : ℕ) →
    rounds_back k (rs ++ r ∷ []) y ≡ rounds_back k rs (round_back k r.inverse r.shift y)
back_last k [] r y = refl
back_last k (q ∷ rs) r y = ap (round_back k q.inverse q.shift) (back_last k rs r y)

-- one round more
pub forth_goes : (k : ℕ) (rs : List Round) (i : ℕ) (d : Round) (x moved : ℕ) → i < length rs → moved ≡ rounds_of k (take i rs) x
    → round k (get_or rs i d).multiplier (get_or rs i d).shift moved ≡ rounds_of k (take (i + 1) rs) x
forth_goes k rs i d x moved below is =
    let r = get_or rs i d in
    ap (round k r.multiplier r.shift) is ∙ sym (ap (λ l. rounds_of k l x) (take_more rs i d below) ∙ forth_last k (take i rs) r x)

-- one round less to undo
pub back_goes : (k : ℕ) (rs : List Round) (i : ℕ) (d : Round) (moved goal : ℕ) → i < length rs →
    rounds_back k (take (i + 1) rs) moved ≡ goal
    → rounds_back k (take i rs) (round_back k (get_or rs i d).inverse (get_or rs i d).shift moved) ≡ goal
back_goes k rs i d moved goal below is =
    let r = get_or rs i d in
    sym (ap (λ l. rounds_back k l moved) (take_more rs i d below) ∙ back_last k (take i rs) r moved) ∙ is

-- a round of the first n
pub round_at : (k n : ℕ) (rs : List Round) (i : ℕ) (d : Round) → All (IsUndone k) (take n rs) → i < n → n ≤ length rs →
    IsUndone k (get_or rs i d)
round_at k n rs i d undone below long =
    subst (IsUndone k) (get_or-take n rs i d below) (undone i d (let l = length-take-le n rs long in omega arith))

-- The first i rounds are made: they have the given numbers, each is undone, and each given pair is one of a round.
pub record Made (k : ℕ) (given : List (ℕ × ℕ)) (made : List Round) (i : ℕ) : Type 0 where
  pub long : length made ≡ 8
  pub same : map numbers_of (take i made) ≡ take i given
  pub undone : AllByRecursion (IsUndone k) (take i made)
  pub good : AllByRecursion IsRound (take i given)

pub made_starts : (k : ℕ) (given : List (ℕ × ℕ)) (made : List Round) → length made ≡ 8 → Made k given made 0
made_starts k given made long = record { long = long; same = refl; undone = tt; good = tt }

pub made_goes : (k : ℕ) (given : List (ℕ × ℕ)) (made : List Round) (i : ℕ) (d : ℕ × ℕ) (r : Round) → Made k given made i →
    i < length given → length given ≤ 8
    → numbers_of r ≡ get_or given i d → IsRound (numbers_of r) → (r.multiplier * r.inverse) % k ≡ 1 % k →
    Made k given (set made i r) (i + 1)
made_goes k given made i d r m below few is shape unit =
    let room : i < length made = (let l = m.long in omega arith) in
    let more : take (i + 1) (set made i r) ≡ take i made ++ r ∷ [] = take_more_set made i r room in
    let next : take (i + 1) given ≡ take i given ++ numbers_of r ∷ [] = take_more given i d below
    ∙ ap (λ p. take i given ++ p ∷ []) (sym is) in
    record {
      long = length-set made i r ∙ m.long;
      same = ap (map numbers_of) more ∙ map-append numbers_of (take i made) (r ∷ []) ∙ ap (λ l. l ++ numbers_of r ∷ []) m.same ∙ sym next;
      undone = subst (AllByRecursion (IsUndone k)) (sym more) (every_append (IsUndone k) (take i made) (r
          ∷ []) m.undone (record { unit = unit; least = shape.1; most = shape.2 }, tt));
      good = subst (AllByRecursion IsRound) (sym next) (every_append IsRound (take i given) (numbers_of r ∷ []) m.good (shape, tt));
    }

-- the pair at i, among those of rounds
pub pair_at : (given : List (ℕ × ℕ)) (i : ℕ) (d : ℕ × ℕ) → i < length given → AreRounds given → IsRound (get_or given i d)
pair_at given i d below are = every_at IsRound given i d below are.1

-- all rounds are made
pub made_ends : (k : ℕ) (given : List (ℕ × ℕ)) (made : List Round) (i : ℕ) → Made k given made i → i ≤ length given → length given ≤ i →
    Made k given made (length given)
made_ends k given made i m most least = let all : i ≡ length given = omega arith in subst (Made k given made) all m

pub made_given : (k : ℕ) (given : List (ℕ × ℕ)) (made : List Round) → Made k given made (length given) →
    map numbers_of (take (length given) made) ≡ given
made_given k given made m = m.same ∙ take_all (length given) given (omega arith)

pub made_rounds : (k : ℕ) (given : List (ℕ × ℕ)) (made : List Round) → Made k given made (length given) → length given ≤ 8 → AreRounds given
made_rounds k given made m few = (few, subst (AllByRecursion IsRound) (take_all (length given) given (omega arith)) m.good)

-- a map by the numbers that it was made with
pub spreads_by : (k p cells modules : ℕ) (f h g : ℕ → ℕ) → k ≡ cells → p ≡ modules → f ≡ h → Spreads (spread k p f g) cells modules h
spreads_by k p cells modules f h g as_cells as_modules as_map = record {
  count = as_cells;
  parts = as_modules;
  width = λ j. ap (λ n. rows n p j) as_cells ∙ ap (λ q. rows cells q j) as_modules;
  part = λ c. ap (λ (v : ℕ → ℕ). v c % p) as_map ∙ ap (λ q. h c % q) as_modules;
  offset = λ c. ap (λ (v : ℕ → ℕ). v c / p) as_map ∙ ap (λ q. h c / q) as_modules;
}
