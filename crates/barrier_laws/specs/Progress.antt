-- The barrier never sticks: some step is open while crossings are left, and nobody runs away.
use Rattle.std.specs.Prelude.{◌≡◌, ℕ, ◌+◌, ◌<◌, ◌≤◌, true, false, List}
use Rattle.turnstile.specs.Blocks.{TwoBlocks}
use Rattle.turnstile.specs.Interleavings.{AreOut, Core, Event, IsInterleaving, May, after, finish, look, run}
use Rattle.turnstile.specs.Loads.{loaded}
use Rattle.turnstile.specs.Turns.{phase, saw}

-- how many crossings a worker has made
abbrev pub crossings : Core → ℕ → ℕ
crossings c w = phase (c.team w)

-- who makes a step
abbrev pub maker : Event → ℕ
maker (finish w row back) = w
maker (look w i) = w

-- Behind the step something else is known: its maker has made a crossing more, or has seen a worker that it hadn't.
abbrev pub TellsSomething : TwoBlocks → Core → Event → Type 0
TellsSomething b c (finish w row back) = crossings (after b c (finish w row back)) w ≡ crossings c w + 1
TellsSomething b c (look w i) = (saw (c.team w) i ≡ false) × (saw ((after b c (look w i)).team w) i ≡ true)

-- Who makes the step has what it takes: of a crossing each piece that is handed over lies in no slot, and none is handed over twice.
abbrev pub HasWhatItTakes : TwoBlocks → Core → Event → Type 0
HasWhatItTakes b c (finish w row back) = AreOut c.homes (loaded b.side w (crossings c w + 1) 0 row back)
HasWhatItTakes b c (look w i) = Unit {0}

-- Where each worker is to make s crossings, and one has some left: some step is allowed, of a worker that has some left and what the step
-- takes, and it tells something.
abbrev pub NeverSticks : Type 0
NeverSticks = (b : TwoBlocks) (es : List Event) (s w : ℕ) → IsInterleaving b es → w < b.side → crossings (run b es) w < s →
    (e : Event) × May b (run b es) e × HasWhatItTakes b (run b es) e × (crossings (run b es) (maker e) < s)
    × TellsSomething b (run b es) e

-- no worker is more than one crossing ahead of another
abbrev pub NobodyIsTwoAhead : Type 0
NobodyIsTwoAhead = (b : TwoBlocks) (es : List Event) (w v : ℕ) → IsInterleaving b es → w < b.side → v < b.side →
    crossings (run b es) w ≤ crossings (run b es) v + 1
