-- The picture of a run's exchanges: a column for each, in which each worker has a bar up for the words that it sent, and one down for those
-- that it received.
use Rattle.std.specs.Prelude.{ℕ, zero, suc, ◌+◌, ◌-◌, ◌*◌, ◌/◌, max, nat_eq, nat_lt, if◌then◌else◌, List, [], ◌∷◌, Option, Some, None}
use Rattle.std.specs.Prelude.{length, take, codes}
use Rattle.superstep_machine.specs.Trace.{Exchange, relation_of}
use Rattle.superstep_machine.specs.Run.{Purpose, Sends, Replies, Votes, Closes}
use Rattle.svg_texts.specs.declared.colour.Colour.{Colour}
use Rattle.svg_texts.specs.declared.colour.Colour.TheVariants.{Black, White, Blue, Brown, Pale, Light}
use Rattle.svg_texts.specs.declared.form.Form.TheVariants.{Rectangle}
use Rattle.svg_texts.specs.declared.lettering.Anchor.TheVariants.{Start, Middle, End}
use Rattle.svg_texts.specs.declared.lettering.Face.TheVariants as face
use Rattle.svg_texts.specs.declared.paint.Fill.TheVariants.{Striped}
use Rattle.svg_texts.specs.declared.paint.Paint.{Paint}
use Rattle.svg_texts.specs.Plain.{filled, label, lettered, line, number, numbered, thin}
use Rattle.svg_texts.specs.Shapes.{Shape, Empty, Drawn, Text, Titled, Over, Words, Letters, Then, Picture}
use Rattle.tracer.specs.Traced.{kind_text, line_of}

-- ---- measures, in pixels

-- of more exchanges the first are drawn
abbrev pub drawn : List Exchange → List Exchange
drawn = take 200

abbrev pub workers_of : List Exchange → ℕ
workers_of [] = 0
workers_of (e ∷ es) = length e.sent

-- a bar of 12 pixels and 2 between two bars for each worker, and room for the words of a column
abbrev pub column_width : ℕ → ℕ
column_width workers = 14 * workers + 50

-- where the column of exchange k, counted from 1, begins
abbrev pub column_left : (workers k : ℕ) → ℕ
column_left workers k = 168 + column_width workers * (k - 1)

-- so many columns, and what is left of them; there is room for the words above them
abbrev pub picture_width : (workers columns : ℕ) → ℕ
picture_width workers columns = max 620 (180 + column_width workers * columns)

-- the most words that one worker sent or received in one of these
abbrev pub most_words : List Exchange → ℕ
most_words [] = 0
most_words (e ∷ es) = max (relation_of e) (most_words es)

-- how tall the bar of so many words is, where the tallest, of 100 pixels, is for the most: in proportion, rounded up
abbrev pub bar_height : (most words : ℕ) → ℕ
bar_height most words = if nat_eq most 0 then 0 else (words * 100 + (most - 1)) / most

-- ---- bars

-- a number behind a word
abbrev pub named_number : (x y : ℕ) → (word : List ℕ) → ℕ → Shape
named_number x y word n = Text x y (lettered Start face.Plain) (numbered word n)

-- `worker 1 sent 3`
abbrev pub share_words : (worker : ℕ) → (did : List ℕ) → (words : ℕ) → Words
share_words worker did words = Then (numbered (codes "worker ") worker) (numbered did words)

-- words that were sent are blue and full, those that were received striped within a brown line
abbrev pub sent_paint : Paint
sent_paint = filled Blue

abbrev pub received_paint : Paint
received_paint = record { fill = Striped; stroke = Some (thin Brown) }

-- a worker's bar, of 12 pixels: where it stands, how it is painted, and what it says where it is pointed at
abbrev pub bar : (x y height : ℕ) → Paint → Words → Shape
bar x y height paint words = Titled words (Drawn (Rectangle x y 12 height) paint)

abbrev pub bar_left : (x worker : ℕ) → ℕ
bar_left x worker = x + 4 + 14 * worker

-- what a worker sent goes up from the axis, in a column that begins at x
abbrev pub sent_bar : (most x worker words : ℕ) → Shape
sent_bar most x worker words = bar (bar_left x worker) (214 - bar_height most words) (bar_height most words) sent_paint
    (share_words worker (codes " sent ") words)

-- what it received goes down
abbrev pub received_bar : (most x worker words : ℕ) → Shape
received_bar most x worker words =
    bar (bar_left x worker) 214 (bar_height most words) received_paint (share_words worker (codes " received ") words)

-- those of the workers from this one on
abbrev pub sent_bars : (most x worker : ℕ) → List ℕ → Shape
sent_bars most x worker [] = Empty
sent_bars most x worker (n ∷ ns) = Over (sent_bar most x worker n) (sent_bars most x (worker + 1) ns)

abbrev pub received_bars : (most x worker : ℕ) → List ℕ → Shape
received_bars most x worker [] = Empty
received_bars most x worker (n ∷ ns) = Over (received_bar most x worker n) (received_bars most x (worker + 1) ns)

-- a worker's number below its bars
abbrev pub worker_number : (x worker : ℕ) → Shape
worker_number x worker = number (bar_left x worker + 6) 327 Middle face.Small worker

-- so many from this one on
abbrev pub worker_numbers : (x worker more : ℕ) → Shape
worker_numbers x worker zero = Empty
worker_numbers x worker (suc more) = Over (worker_number x worker) (worker_numbers x (worker + 1) more)

-- ---- columns

-- the colour behind a column, by what its exchange is for
abbrev pub ground : Purpose → Colour
ground Sends = Pale
ground Replies = White
ground (Votes destination) = Light
ground Closes = White

-- its number and its kind above the bars, and its h below them
abbrev pub column_words : (x k : ℕ) → Purpose → (h : ℕ) → Shape
column_words x k purpose h = Over (number (x + 4) 64 Start face.Plain k)
    (Over (label (x + 4) 78 Start face.Plain (kind_text purpose)) (named_number (x + 4) 344 (codes "h ") h))

-- what is behind a column from x on, and its words
abbrev pub column_front : (x width k : ℕ) → Purpose → (h : ℕ) → Shape
column_front x width k purpose h = Over (Drawn (Rectangle x 50 width 300) (filled (ground purpose))) (column_words x k purpose h)

-- the line of the statement that it serves, where that is known
abbrev pub column_line : (x : ℕ) → Option ℕ → Shape
column_line x None = Empty
column_line x (Some n) = named_number (x + 4) 92 (codes "line ") n

abbrev pub column_head : (x width k : ℕ) → Option ℕ → Exchange → Shape
column_head x width k n e = Over (column_front x width k e.purpose (relation_of e)) (column_line x n)

abbrev pub bars : (most x : ℕ) → Exchange → Shape
bars most x e = Over (sent_bars most x 0 e.sent) (received_bars most x 0 e.received)

abbrev pub column_body : (most x : ℕ) → Exchange → Shape
column_body most x e = Over (bars most x e) (worker_numbers x 0 (length e.sent))

-- exchange k, counted from 1
abbrev pub column : (workers most k : ℕ) → Option ℕ → Exchange → Shape
column workers most k n e =
    Over (column_head (column_left workers k) (column_width workers) k n e) (column_body most (column_left workers k) e)

-- the exchanges from number k on
abbrev pub columns_from : (workers most : ℕ) → (lines : List ℕ) → (k : ℕ) → List Exchange → Shape
columns_from workers most lines k [] = Empty
columns_from workers most lines k (e ∷ es) =
    Over (column workers most k (line_of lines k) e) (columns_from workers most lines (k + 1) es)

-- ---- the scale

-- a mark of the scale, and its number
abbrev pub tick : (y n : ℕ) → Shape
tick y n = Over (line 163 y 168 y Black) (number 158 (y + 4) End face.Plain n)

-- of so many words sent, and of so many received
abbrev pub two_ticks : (most n : ℕ) → Shape
two_ticks most n = Over (tick (214 - bar_height most n) n) (tick (214 + bar_height most n) n)

abbrev pub ticks_of : (most n : ℕ) → Shape
ticks_of most n = if nat_eq n 0 then Empty else two_ticks most n

-- of the half and of the most
abbrev pub ticks : (most : ℕ) → Shape
ticks most = Over (ticks_of most (most / 2)) (ticks_of most most)

-- the axes: that of no words, its mark, and that of the scale
abbrev pub axes : (width : ℕ) → Shape
axes width = Over (line 168 214 width 214 Black) (Over (line 163 214 168 214 Black) (line 168 114 168 314 Black))

-- a title on the left
abbrev pub aside : (y : ℕ) → List ℕ → Shape
aside y words = label 158 y End face.Plain words

abbrev pub titles : Shape
titles = Over (aside 64 (codes "exchange")) (Over (aside 143 (codes "words sent")) (Over (aside 218 (codes "0"))
    (Over (aside 293 (codes "words received")) (aside 327 (codes "worker")))))

abbrev pub scale : (width most : ℕ) → Shape
scale width most = Over (axes width) (Over titles (ticks most))

-- ---- all of it

-- that not all are drawn
abbrev pub cut_text : ℕ → List ℕ
cut_text n = if nat_lt 200 n then codes ", of which the first 200 are drawn" else []

-- `workers 2, exchanges 4`
abbrev pub head_words : (workers exchanges : ℕ) → Words
head_words workers exchanges =
    Then (numbered (codes "workers ") workers) (Then (numbered (codes ", exchanges ") exchanges) (Letters (cut_text exchanges)))

abbrev pub head : (workers exchanges : ℕ) → Shape
head workers exchanges = Text 12 20 (lettered Start face.Plain) (head_words workers exchanges)

-- which bars are which, by their colours and by their stripes
abbrev pub key_sent : Shape
key_sent = Over (Drawn (Rectangle 12 28 12 12) sent_paint) (label 28 38 Start face.Plain (codes "words sent"))

abbrev pub key_received : Shape
key_received = Over (Drawn (Rectangle 112 28 12 12) received_paint) (label 128 38 Start face.Plain (codes "words received"))

abbrev pub key : Shape
key = Over key_sent (Over key_received
    (label 236 38 Start face.Plain (codes "h: the most words that one worker sent or received")))

-- what stands above the columns
abbrev pub above : (workers exchanges : ℕ) → Shape
above workers exchanges = Over (head workers exchanges) key

-- how the run came out
abbrev pub outcome_label : (outcome : List ℕ) → Shape
outcome_label outcome = label 12 372 Start face.Plain outcome

-- what stands around the columns, and below them
abbrev pub around : (width most : ℕ) → (outcome : List ℕ) → Shape
around width most outcome = Over (scale width most) (outcome_label outcome)

-- all of a picture of that width, for so many workers, and bars that are to be for so many words
abbrev pub shape_of : (width workers most : ℕ) → (lines outcome : List ℕ) → List Exchange → Shape
shape_of width workers most lines outcome es =
    Over (above workers (length es)) (Over (columns_from workers most lines 1 (drawn es)) (around width most outcome))

abbrev pub title : List ℕ
title = codes "The exchanges of a run"

abbrev pub picture_of : (width workers most : ℕ) → (lines outcome : List ℕ) → List Exchange → Picture
picture_of width workers most lines outcome es =
    record { title = Letters title; wide = width; tall = 386; shape = shape_of width workers most lines outcome es }

-- of exchanges that serve the statements of these lines
abbrev pub picture : (lines outcome : List ℕ) → List Exchange → Picture
picture lines outcome es =
    picture_of (picture_width (workers_of es) (length (drawn es))) (workers_of es) (most_words (drawn es)) lines outcome es
