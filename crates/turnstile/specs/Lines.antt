-- The rule of a start line: one word, 0, 1 or 2 as nothing, go or stop was said, and a slot for each runner.
use Rattle.std.specs.Prelude.{◌≡◌, ℕ, zero, suc, ◌+◌, ◌<◌, ◌≤◌, Bool, true, false, List, [], ◌∷◌, length, Option, Some, None, slice_index}
use mathlib.Core.Option.{some}
use mathlib.Core.Option as maybe
use lib.ListN.{get_elem?}
use Rattle.atomic_table.specs.Table.{State, Me, Step, Act, keeps, takes, gives, chain}
use Rattle.turnstile.specs.declared.start.told.Told.{Told}
use Rattle.turnstile.specs.declared.start.told.Told.TheVariants.{Nothing, Stop, Go}
use Rattle.turnstile.specs.declared.start.told.Role.{Role}
use Rattle.turnstile.specs.declared.start.told.Role.TheVariants.{Spent, Starter, Runner}
use Rattle.turnstile.specs.declared.start.told.Part.{Part}

abbrev pub code : {X : Type 0} → Told X → ℕ
code Nothing = 0
code (Go x) = 1
code Stop = 2

abbrev pub Home : Type 0 → Type 0
Home T = maybe.Option (maybe.Option (Option T))

abbrev pub Chair : Type 0 → Type 0
Chair T = Me (Option T) (Part T)

module _ {T : Type 0} where
  -- what the runner w may have heard
  abbrev pub Hears : Told (List T) → ℕ → Told T → Type 0
  Hears said w Nothing = Unit {0}
  Hears said w Stop = said ≡ Stop
  Hears said w (Go x) = (xs : List T) × (said ≡ Go xs) × (get_elem? xs w ≡ some x)

  abbrev pub empty : Home T
  empty = some (some None)

  -- where the slot of w is
  abbrev pub Lies : Bool → Told (List T) → ℕ → Told T → Bool → Home T → Type 0
  Lies true said w heard back home = Unit {0}
  Lies false Nothing w heard back home = home ≡ empty
  Lies false Stop w heard back home = home ≡ empty
  Lies false (Go xs) w (Go x) true home = home ≡ empty
  Lies false (Go xs) w (Go x) false home = Unit {0}
  Lies false (Go xs) w Stop back home = Unit {0}
  Lies false (Go xs) w Nothing back home = (x : T) × (get_elem? xs w ≡ some x) × (home ≡ some (some (Some x)))

  abbrev pub starter : ℕ → Bool → Told (List T) → List (ℕ × Told T × Bool) → Part T
  starter k h s ts = record { role = Starter; at = k; holds = h; said = s; heard = Nothing; back = false; taken = ts }

  abbrev pub runner : ℕ → Told T → Bool → Part T
  runner k x b = record { role = Runner; at = k; holds = false; said = Nothing; heard = x; back = b; taken = [] }

  abbrev pub spent : Part T
  spent = record { role = Spent; at = 0; holds = false; said = Nothing; heard = Nothing; back = false; taken = [] }

  module _ (p : ℕ) (said : Told (List T)) (holds : Bool) (heard : ℕ → Told T) (back : ℕ
      → Bool) (first : ℕ) (seats : ℕ → ℕ) (id : ℕ) where
    abbrev pub FitsAs : Role → Part T → Type 0
    FitsAs Spent v = Unit {0}
    FitsAs Starter v = (first ≡ id) × (v.said ≡ said) × (v.holds ≡ holds) × (v.at ≤ p)
        × ((k : ℕ) → v.at ≤ k → k < p → (seats k ≡ id) × (heard k ≡ Nothing) × (back k ≡ false))
        × ((n : ℕ) (t : ℕ × Told T × Bool) → get_elem? v.taken n ≡ some t → (t.0 < p) × (seats t.0 ≡ id)
        × (heard t.0 ≡ t.1) × (back t.0 ≡ t.2))
    FitsAs Runner v = (v.at < p) × (seats v.at ≡ id) × (heard v.at ≡ v.heard) × (back v.at ≡ v.back)

  pub record Line (p : ℕ) (s : State (Option T) (Part T)) : Type 0 where
    pub said : Told (List T)
    pub holds : Bool
    pub heard : ℕ → Told T
    pub back : ℕ → Bool
    pub first : ℕ
    pub seats : ℕ → ℕ
    pub wide : length s.words ≡ 1
    pub room : length s.homes ≡ p
    pub word : slice_index s.words 0 ≡ code said
    pub early : holds ≡ true → said ≡ Nothing
    pub hears : (w : ℕ) → w < p → Hears said w (heard w)
    pub lies : (w : ℕ) → w < p → Lies holds said w (heard w) (back w) (get_elem? s.homes w)
    pub fits : (id : ℕ) (v : Part T) → get_elem? s.views id ≡ some v
        → FitsAs p said holds heard back first seats id v.role v

  -- the slots that the starter holds, each with its item
  abbrev pub slots_of : ℕ → List (Option T) → List (ℕ × Option T)
  slots_of k [] = []
  slots_of k (x ∷ xs) = (k, x) ∷ slots_of (suc k) xs

  abbrev pub nothings : ℕ → List (Option T)
  nothings zero = []
  nothings (suc n) = None ∷ nothings n

  abbrev pub takes_all : ℕ → ℕ → Act (Option T)
  takes_all k zero = keeps
  takes_all k (suc n) = chain (takes_all (suc k) n) (takes k None)

  abbrev pub gives_all : List (ℕ × Option T) → Act (Option T)
  gives_all [] = keeps
  gives_all (x ∷ xs) = chain gives (gives_all xs)

  -- the starter takes every slot
  abbrev pub holds_all : Step (Option T) → Chair T → ℕ → Chair T → Type 0
  holds_all st m r m' = m' ≡ (starter m.0.at true m.0.said m.0.taken, slots_of 0 (nothings st.slots))

  abbrev pub with_item : Option T → List T → List T
  with_item (Some y) ys = y ∷ ys
  with_item None ys = ys

  abbrev pub items_of : List (ℕ × Option T) → List T
  items_of [] = []
  items_of (x ∷ xs) = with_item x.1 (items_of xs)

  abbrev pub says_go : Step (Option T) → Chair T → ℕ → Chair T → Type 0
  says_go st m r m' = m' ≡ (starter m.0.at false (Go (items_of m.1)) m.0.taken, [])

  abbrev pub says_stop : Step (Option T) → Chair T → ℕ → Chair T → Type 0
  says_stop st m r m' = m' ≡ (starter m.0.at false Stop m.0.taken, [])

  abbrev pub listens : Step (Option T) → Chair T → ℕ → Chair T → Type 0
  listens st m r m' = (r ≡ 0 → m' ≡ m) × (r ≡ 1 → (x : T)
      × (m' ≡ (runner m.0.at (Go x) false, (m.0.at, Some x) ∷ []))) × (r ≡ 2 → m' ≡ (runner m.0.at Stop false, []))
      × (r < 3)

  abbrev pub comes_back : Step (Option T) → Chair T → ℕ → Chair T → Type 0
  comes_back st m r m' = m' ≡ (runner m.0.at m.0.heard true, [])

  abbrev pub next_starter : Part T → Part T
  next_starter v = starter (v.at + 1) v.holds v.said v.taken

  abbrev pub next_runner : Part T → Part T
  next_runner v = runner v.at Nothing false

  abbrev pub takes_in : Part T → Part T → Part T
  takes_in v w = starter v.at v.holds v.said ((w.at, w.heard, w.back) ∷ v.taken)

  -- the slots from k on, with nothing in them
  abbrev pub bare : ℕ → ℕ → List (ℕ × Option T)
  bare k n = slots_of k (nothings n)

  abbrev pub IsStarter : Part T → Type 0
  IsStarter v = v.role ≡ Starter

  abbrev pub has_gone : Told T → Bool
  has_gone Nothing = false
  has_gone Stop = false
  has_gone (Go x) = true

  -- the slot of a runner that has taken its item
  abbrev pub held : Bool → ℕ → List (ℕ × Option T)
  held true k = (k, None) ∷ []
  held false k = []

  -- the seat of the starter of p runners, before and after it has said something
  abbrev pub starts : ℕ → Told (List T) → Chair T
  starts p Nothing = (starter p true Nothing [], bare 0 p)
  starts p Stop = (starter p false Stop [], [])
  starts p (Go xs) = (starter p false (Go xs) [], [])

  -- the seat of a runner
  abbrev pub runs : ℕ → Told T → Chair T
  runs k heard = (runner k heard false, held (has_gone heard) k)
