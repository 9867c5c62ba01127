-- Words are read group by group.
use Rattle.std.proofs.Common.{◌≡◌, ℕ, ◌<◌, ◌≤◌, List, [], ◌∷◌, length, drop, take, map, Option, Some, None, refl, ap, ◌∙◌, arith}
use Rattle.std.specs.List.{filter_map, cons_option}
use Rattle.pram_model.specs.declared.rule.Rule.{Rule}
use Rattle.pram_model.specs.declared.rule.Rule.TheVariants.{Sum}
use Rattle.address_map.specs.Lawful.{Shape}
use Rattle.superstep_machine.specs.Words.{CellPut, CellAsk}
use Rattle.superstep_machine.specs.WordReading.{word, put_length, threes, fours, groups, put_in, puts_in, ask_in, asks_in}
use Rattle.combining.specs.Items.{placed, placed_if, puts_placed, ask_placed, ask_placed_if, asks_placed}

threes_more : (ws : List ℕ) → 3 ≤ length ws → threes ws ≡ take 3 ws ∷ threes (drop 3 ws)
threes_more [] h = absurd (omega arith)
threes_more (a ∷ []) h = absurd (omega arith)
threes_more (a ∷ b ∷ []) h = absurd (omega arith)
threes_more (a ∷ b ∷ c ∷ ws) h = refl

fours_more : (ws : List ℕ) → 4 ≤ length ws → fours ws ≡ take 4 ws ∷ fours (drop 4 ws)
fours_more [] h = absurd (omega arith)
fours_more (a ∷ []) h = absurd (omega arith)
fours_more (a ∷ b ∷ []) h = absurd (omega arith)
fours_more (a ∷ b ∷ c ∷ []) h = absurd (omega arith)
fours_more (a ∷ b ∷ c ∷ d ∷ ws) h = refl

groups_more : (rule : Rule) (ws : List ℕ) → put_length rule ≤ length ws →
    groups rule ws ≡ take (put_length rule) ws ∷ groups rule (drop (put_length rule) ws)
groups_more Sum ws h = fours_more ws h
groups_more rule ws h = threes_more ws h

threes_short : (ws : List ℕ) → length ws < 3 → threes ws ≡ []
threes_short [] h = refl
threes_short (a ∷ []) h = refl
threes_short (a ∷ b ∷ []) h = refl
threes_short (a ∷ b ∷ c ∷ ws) h = absurd (omega arith)

fours_short : (ws : List ℕ) → length ws < 4 → fours ws ≡ []
fours_short [] h = refl
fours_short (a ∷ []) h = refl
fours_short (a ∷ b ∷ []) h = refl
fours_short (a ∷ b ∷ c ∷ []) h = refl
fours_short (a ∷ b ∷ c ∷ d ∷ ws) h = absurd (omega arith)

groups_short : (rule : Rule) (ws : List ℕ) → length ws < put_length rule → groups rule ws ≡ []
groups_short Sum ws h = fours_short ws h
groups_short rule ws h = threes_short ws h

-- ---- puts

one_put : (m : Shape) (x : Option CellPut) (xs : List CellPut) →
    map (placed m) (cons_option x xs) ≡ cons_option (placed_if m x) (map (placed m) xs)
one_put m None xs = refl
one_put m (Some x) xs = refl

pub puts_more : (rule : Rule) (m : Shape) (j : ℕ) (ws : List ℕ) → put_length rule ≤ length ws →
    puts_placed rule m j ws
    ≡ cons_option (placed_if m (put_in rule m j (take (put_length rule) ws))) (puts_placed rule m j (drop (put_length rule) ws))
puts_more rule m j ws h =
    ap (λ gs. map (placed m) (filter_map (put_in rule m j) gs)) (groups_more rule ws h)
    ∙ one_put m (put_in rule m j (take (put_length rule) ws)) (puts_in rule m j (drop (put_length rule) ws))

pub puts_short : (rule : Rule) (m : Shape) (j : ℕ) (ws : List ℕ) → length ws < put_length rule → puts_placed rule m j ws ≡ []
puts_short rule m j ws h = ap (λ gs. map (placed m) (filter_map (put_in rule m j) gs)) (groups_short rule ws h)

-- ---- asks

one_ask : (m : Shape) (x : Option CellAsk) (xs : List CellAsk) →
    map (ask_placed m) (cons_option x xs) ≡ cons_option (ask_placed_if m x) (map (ask_placed m) xs)
one_ask m None xs = refl
one_ask m (Some x) xs = refl

pub asks_more : (m : Shape) (j : ℕ) (ws : List ℕ) → 1 ≤ length ws →
    asks_placed m j ws ≡ cons_option (ask_placed_if m (ask_in m j (word (take 1 ws) 0))) (asks_placed m j (drop 1 ws))
asks_more m j [] h = absurd (omega arith)
asks_more m j (w ∷ ws) h = one_ask m (ask_in m j w) (asks_in m j ws)

pub asks_short : (m : Shape) (j : ℕ) (ws : List ℕ) → length ws < 1 → asks_placed m j ws ≡ []
asks_short m j [] h = refl
asks_short m j (w ∷ ws) h = absurd (omega arith)
