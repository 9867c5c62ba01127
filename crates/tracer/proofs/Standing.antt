-- The columns and the bars of a picture are in it.
use Rattle.std.proofs.Common.{◌≡◌, ◌∙◌, ℕ, zero, suc, ◌+◌, ◌-◌, ◌<◌, ◌≤◌, List, [], ◌∷◌, ap, arith, get_or, length, refl, subst, sym}
use Rattle.superstep_machine.specs.Trace.{Exchange}
use Rattle.exchange_counts.specs.CountedExchanges.{exchange_at, no_exchange}
use Rattle.svg_texts.specs.Shapes.{Over, Shape, IsIn}
use Rattle.svg_texts.proofs.Inside.{in_first, in_second, itself, within}
use Rattle.tracer.specs.Picture.{above, around, bars, column, column_body, column_head, column_left, column_width, columns_from, drawn}
use Rattle.tracer.specs.Picture.{most_words, picture, picture_width, received_bar, received_bars, sent_bar, sent_bars, worker_number}
use Rattle.tracer.specs.Picture.{worker_numbers, workers_of}
use Rattle.tracer.specs.Traced.{line_of}
use Rattle.tracer.proofs.ColumnTexts.{few_drawn, same_exchange}

-- ---- columns

column_at : (workers most : ℕ) (lines : List ℕ) (k i n : ℕ) (es : List Exchange) → i < length es → n ≡ k + i →
    IsIn (column workers most n (line_of lines n) (get_or es i no_exchange)) (columns_from workers most lines k es)
column_at workers most lines k i n [] below is = absurd (omega (arith, below))
column_at workers most lines k zero n (e ∷ es) below is =
    let same : n ≡ k = omega (arith, is) in
    subst (λ j. IsIn (column workers most n (line_of lines n) e) (Over (column workers most j (line_of lines j) e)
    (columns_from workers most lines (k + 1) es))) same
    (in_first (column workers most n (line_of lines n) e) _ (columns_from workers most lines (k + 1) es)
    (itself (column workers most n (line_of lines n) e)))
column_at workers most lines k (suc i) n (e ∷ es) below is =
    in_second (column workers most n (line_of lines n) (get_or es i no_exchange)) (column workers most k (line_of lines k) e)
    (columns_from workers most lines (k + 1) es) (column_at workers most lines (k + 1) i n es (omega (arith, below)) (omega (arith, is)))

pub column_stands : (lines outcome : List ℕ) (es : List Exchange) (k : ℕ) → 1 ≤ k → k ≤ length (drawn es) →
    IsIn (column (workers_of es) (most_words (drawn es)) k (line_of lines k) (exchange_at es k)) (picture lines outcome es).shape
column_stands lines outcome es k first last =
    let below : k - 1 < length (drawn es) = omega (arith, first, last) in
    let workers = workers_of es in
    let most = most_words (drawn es) in
    let width = picture_width workers (length (drawn es)) in
    let all = columns_from workers most lines 1 (drawn es) in
    let at = column_at workers most lines 1 (k - 1) k (drawn es) below (omega (arith, first)) in
    let number : k - 1 + 1 ≡ k = omega (arith, first) in
    let same : get_or (drawn es) (k - 1) no_exchange ≡ exchange_at es k =
    same_exchange es (k - 1) (few_drawn es (k - 1) below) ∙ ap (exchange_at es) number in
    let one = column workers most k (line_of lines k) (exchange_at es k) in
    in_second one (above workers (length es)) (Over all (around width most outcome)) (in_first one all (around width most outcome)
    (subst (λ (e : Exchange). IsIn (column workers most k (line_of lines k) e) all) same at))

-- ---- bars

-- shapes that a list has, one over the other from its first on
module _ (shape : ℕ → ℕ → Shape) (all : ℕ → List ℕ → Shape) (more : (k m : ℕ) (ns : List ℕ) → all k (m ∷ ns) ≡ Over (shape k m) (all (k +
    1) ns)) where
  one_at : (k w n : ℕ) (ns : List ℕ) → w < length ns → n ≡ k + w → IsIn (shape n (get_or ns w 0)) (all k ns)
  one_at k w n [] below is = absurd (omega (arith, below))
  one_at k zero n (m ∷ ns) below is =
      let same : n ≡ k = omega (arith, is) in
      subst (IsIn (shape n m)) (sym (more k m ns)) (subst (λ j. IsIn (shape n m) (Over (shape j m) (all (k + 1) ns))) same
      (in_first (shape n m) (shape n m) (all (k + 1) ns) (itself (shape n m))))
  one_at k (suc w) n (m ∷ ns) below is = subst (IsIn (shape n (get_or ns w 0))) (sym (more k m ns))
      (in_second (shape n (get_or ns w 0)) (shape k m) (all (k + 1) ns) (one_at (k + 1) w n ns (omega (arith, below)) (omega (
        arith,
        is,
      ))))

number_at : (x k w n more : ℕ) → w < more → n ≡ k + w → IsIn (worker_number x n) (worker_numbers x k more)
number_at x k w n zero below is = absurd (omega (arith, below))
number_at x k zero n (suc more) below is =
    let same : n ≡ k = omega (arith, is) in
    subst (λ j. IsIn (worker_number x n) (Over (worker_number x j) (worker_numbers x (k + 1) more))) same
    (in_first (worker_number x n) (worker_number x n) (worker_numbers x (k + 1) more) (itself (worker_number x n)))
number_at x k (suc w) n (suc more) below is =
    in_second (worker_number x n) (worker_number x k) (worker_numbers x (k + 1) more)
    (number_at x (k + 1) w n more (omega (arith, below)) (omega (arith, is)))

-- what is below the head of a column is in the picture
body_stands : (s : Shape) (lines outcome : List ℕ) (es : List Exchange) (k : ℕ) → 1 ≤ k → k ≤ length (drawn es) →
    IsIn s (column_body (most_words (drawn es)) (column_left (workers_of es) k) (exchange_at es k)) → IsIn s (picture lines outcome
    es).shape
body_stands s lines outcome es k first last is =
    let workers = workers_of es in
    let x = column_left workers k in
    let e = exchange_at es k in
    let head = column_head x (column_width workers) k (line_of lines k) e in
    let body = column_body (most_words (drawn es)) x e in
    within s (column workers (most_words (drawn es)) k (line_of lines k) e) (picture lines outcome es).shape (in_second s head body is)
    (column_stands lines outcome es k first last)

pub sent_stands : (lines outcome : List ℕ) (es : List Exchange) (k w : ℕ) → 1 ≤ k → k ≤ length (drawn es) →
    w < length (exchange_at es k).sent →
    IsIn (sent_bar (most_words (drawn es)) (column_left (workers_of es) k) w (get_or (exchange_at es k).sent w 0))
    (picture lines outcome es).shape
sent_stands lines outcome es k w first last below =
    let most = most_words (drawn es) in
    let x = column_left (workers_of es) k in
    let e = exchange_at es k in
    let one = sent_bar most x w (get_or e.sent w 0) in
    let at = one_at (sent_bar most x) (sent_bars most x) (λ k m ns. refl) 0 w w e.sent below (omega arith) in
    body_stands one lines outcome es k first last (in_first one (bars most x e) (worker_numbers x 0 (length e.sent))
    (in_first one (sent_bars most x 0 e.sent) (received_bars most x 0 e.received) at))

pub received_stands : (lines outcome : List ℕ) (es : List Exchange) (k w : ℕ) → 1 ≤ k → k ≤ length (drawn es) →
    w < length (exchange_at es k).received →
    IsIn (received_bar (most_words (drawn es)) (column_left (workers_of es) k) w (get_or (exchange_at es k).received w 0))
    (picture lines outcome es).shape
received_stands lines outcome es k w first last below =
    let most = most_words (drawn es) in
    let x = column_left (workers_of es) k in
    let e = exchange_at es k in
    let one = received_bar most x w (get_or e.received w 0) in
    let at = one_at (received_bar most x) (received_bars most x) (λ k m ns. refl) 0 w w e.received below (omega arith) in
    body_stands one lines outcome es k first last (in_first one (bars most x e) (worker_numbers x 0 (length e.sent))
    (in_second one (sent_bars most x 0 e.sent) (received_bars most x 0 e.received) at))

pub number_stands : (lines outcome : List ℕ) (es : List Exchange) (k w : ℕ) → 1 ≤ k → k ≤ length (drawn es) →
    w < length (exchange_at es k).sent →
    IsIn (worker_number (column_left (workers_of es) k) w) (picture lines outcome es).shape
number_stands lines outcome es k w first last below =
    let most = most_words (drawn es) in
    let x = column_left (workers_of es) k in
    let e = exchange_at es k in
    let one = worker_number x w in
    body_stands one lines outcome es k first last (in_second one (bars most x e) (worker_numbers x 0 (length e.sent))
    (number_at x 0 w w (length e.sent) below (omega arith)))
