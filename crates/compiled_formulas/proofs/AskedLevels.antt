-- The asks of one level, by recursion on the formula.
use Rattle.std.proofs.Common.{◌≡◌, ℕ, ◌+◌, ◌<◌, ◌≤◌, List, [], ◌∷◌, ◌++◌, Bool, true, false, ℤ, refl}
use Rattle.std.proofs.Common.{ap, ◌∙◌, arith}
use Rattle.std.specs.Prelude.{nat_eq}
use Rattle.pram_model.specs.Layout.{cell_of}
use Rattle.pram_values.specs.declared.place.Place.{Place}
use Rattle.superstep_instructions.specs.declared.instr.Side.{Side}
use Rattle.superstep_instructions.specs.declared.instr.Instr.{Instr}
use Rattle.superstep_instructions.specs.declared.instr.Instr.TheVariants.{Ask}
use Rattle.superstep_machine.specs.Keys.{least}
use Rattle.superstep_machine.specs.Parts.{Registers}
use Rattle.pram_check.specs.Bounded.{Names}
use Rattle.pram_meaning.specs.Store.{View}
use Rattle.statement_evaluation.specs.Whole.{value}
use Rattle.statement_evaluation.specs.Noted.{Heading, note_key}
use Rattle.plain_form.specs.Formulas.{Formula, Zero, Number, Variable, Index, Local, Read, Before, Between, Pair, reads, positions, nesting}
use Rattle.plain_form.specs.Regions.{place, region}
use Rattle.plain_form.specs.Groups.{only, asks}
use Rattle.compiled_formulas.specs.Terms.{term}
use Rattle.compiled_formulas.specs.Environments.{IsFree}
use Rattle.compiled_formulas.proofs.Lone.{moves, moves_join, asks_join, wrongs_join}
use Rattle.compiled_formulas.proofs.Levels.{key_if, around, at_level}
use Rattle.compiled_formulas.proofs.Shown.{still_shows}
use Rattle.compiled_formulas.proofs.RegionValues.{own_key_at, still_read}
use Rattle.compiled_formulas.proofs.LevelReads.{reads_if, level_reads, delivered, delivered_join, delivered_past}
use Rattle.compiled_formulas.proofs.Asks.{MayAsk, IsAsked, asked_not, asked_here}

module _ (side : Side) (n : Names) (base : ℕ) (free : IsFree side n base) (s : View) (uniforms : Registers) (memory : ℕ → ℤ) where
  module _ (head : Heading) (at : Place) (l : ℕ) where
    abbrev go_on : List Instr → Registers → Registers
    go_on = moves s.layout uniforms

    abbrev May : Formula → (t b : ℕ) → Registers → Type 0
    May = MayAsk side n base free s uniforms memory head at l

    abbrev Done : Formula → (t b q : ℕ) → Registers → Type 0
    Done f t b q r = IsAsked side n base free s uniforms memory head at l f t b r (asks side l f t b q) (level_reads s l f t)
        (at_level (own_key_at head at s) l f q)

    may_second : (f g : Formula) (t b q : ℕ) (r : Registers) → May (Pair f g) t b r → Done f t b q r →
        May g (t + reads f) b (go_on (asks side l f t b q) r)
    may_second f g t b q r m k =
        let above = m.above in
        let apart = m.apart in
        let u = go_on (asks side l f t b q) r in record {
          shows = still_shows n base side free s uniforms r u memory
              (λ x h. k.stays x (omega (arith, h, above, apart)) (λ y low high e. omega (arith, low, above, h, e))) m.shows;
          known = still_read s l g (t + reads f) r u
              (λ x low high. k.stays x (omega (arith, high, apart)) (λ y lower higher e. omega (arith, low, higher, e))) m.known.1;
          named = m.named.1;
          above = omega (arith, above);
          apart = omega (arith, apart);
        }

    -- one formula's behind another's
    asked_both : (f g : Formula) (t b q p : ℕ) (r : Registers) → May (Pair f g) t b r → Done f t b q r →
        Done g (t + reads f) b p (go_on (asks side l f t b q) r) →
        IsAsked side n base free s uniforms memory head at l (Pair f g) t b r
        (asks side l f t b q ++ asks side l g (t + reads f) b p) (level_reads s l f t ++ level_reads s l g (t + reads f))
        (least (at_level (own_key_at head at s) l f q) (at_level (own_key_at head at s) l g p))
    asked_both f g t b q p r m k j =
        let apart = m.apart in
        let d = t + reads f in
        let is = asks side l f t b q in
        let js = asks side l g d b p in
        let xs = level_reads s l f t in
        let ys = level_reads s l g d in
        let u = go_on is r in
        let w = go_on (is ++ js) r in
        let here : (x : ℕ) → w x ≡ go_on js u x = λ x i. moves_join s.layout uniforms is js r i x in
        let first : (x : ℕ) → x < d → w x ≡ u x =
        λ x h. here x ∙ j.stays x (omega (arith, h, apart)) (λ y low high e. omega (arith, low, h, e)) in
        let left : (x : ℕ) → x < d → delivered memory x (xs ++ ys) (w x) ≡ delivered memory x xs (u x) =
        λ x h. delivered_join memory x xs ys (w x)
        ∙ delivered_past memory x s l g d (delivered memory x xs (w x)) (λ y low high e. omega (arith, low, h, e))
        ∙ ap (delivered memory x xs) (first x h) in
        let right : (x : ℕ) → d ≤ x → delivered memory x (xs ++ ys) (w x) ≡ delivered memory x ys (go_on js u x) =
        λ x h. delivered_join memory x xs ys (w x)
        ∙ ap (delivered memory x ys)
        (delivered_past memory x s l f t (w x) (λ y low high e. omega (arith, high, h, e)) ∙ here x) in
        record {
          stays = λ x h o. here x ∙ j.stays x h (λ y low high. o y (omega (arith, low)) (omega (arith, high)))
              ∙ k.stays x h (λ y low high. o y low (omega (arith, high)));
          known = (
            still_read s l f t u w (λ x low high. first x high) k.known,
            still_read s l g d (go_on js u) w (λ x low high. here x) j.known,
          );
          read = (
            still_read s (l + 1) f t (λ x. delivered memory x xs (u x)) (λ x. delivered memory x (xs ++ ys) (w x))
                (λ x low high. left x high) k.read,
            still_read s (l + 1) g d (λ x. delivered memory x ys (go_on js u x)) (λ x. delivered memory x (xs ++ ys) (w x))
                (λ x low high. right x low) j.read,
          );
          notes = wrongs_join s.layout uniforms (λ q k. note_key head q at k) is js r ∙ (λ i. least (k.notes i) (j.notes i));
          cells = asks_join s.layout uniforms is js r ∙ (λ i. k.cells i ++ j.cells i);
        }

    pub asked_level : (f : Formula) (t b q : ℕ) (r : Registers) → May f t b r → Done f t b q r
    asked_level Zero t b q r m = record { stays = λ x h o. refl; known = tt; read = tt; notes = refl; cells = refl }
    asked_level (Number z) t b q r m = record { stays = λ x h o. refl; known = tt; read = tt; notes = refl; cells = refl }
    asked_level (Variable y) t b q r m = record { stays = λ x h o. refl; known = tt; read = tt; notes = refl; cells = refl }
    asked_level Index t b q r m = record { stays = λ x h o. refl; known = tt; read = tt; notes = refl; cells = refl }
    asked_level (Local y) t b q r m = record { stays = λ x h o. refl; known = tt; read = tt; notes = refl; cells = refl }
    asked_level (Read a f) t b q r m = go (nat_eq (nesting f) l) refl
        (let apart = m.apart in
        asked_level f t b q r (record {
          shows = m.shows;
          known = m.known.0;
          named = m.named;
          above = m.above;
          apart = omega (arith, apart);
        }))
      where
        go : (c : Bool) → nat_eq (nesting f) l ≡ c → Done f t b q r →
            IsAsked side n base free s uniforms memory head at l (Read a f) t b r
            (asks side l f t b q ++ only c (region side f t b q ++ Ask side (t + reads f) a (place side f t b) (q + positions f + 1) ∷ []))
            (level_reads s l f t ++ reads_if c ((t + reads f, cell_of s.layout a (value s (term f))) ∷ []))
            (least (at_level (own_key_at head at s) l f q)
            (key_if c (least (around (own_key_at head at s) f q) (own_key_at head at s (q + positions f + 1) (Read a f)))))
        go true e k = asked_here side n base free s uniforms memory head at l a f t b q r (asks side l f t b q) (level_reads s l f t)
            (at_level (own_key_at head at s) l f q) e m refl k
        go false e k = asked_not side n base free s uniforms memory head at l a f t b r (asks side l f t b q) (level_reads s l f t)
            (at_level (own_key_at head at s) l f q) e m refl k
    asked_level (Before o f) t b q r m =
        let k = asked_level f t b q r
        (record { shows = m.shows; known = m.known; named = m.named; above = m.above; apart = m.apart }) in
        record { stays = k.stays; known = k.known; read = k.read; notes = k.notes; cells = k.cells }
    asked_level (Between o f g) t b q r m =
        let apart = m.apart in
        let both : May (Pair f g) t b r =
        record { shows = m.shows; known = m.known; named = m.named; above = m.above; apart = m.apart } in
        let k = asked_level f t b q r
        (record { shows = m.shows; known = m.known.0; named = m.named.0; above = m.above; apart = omega (arith, apart) }) in
        let j = asked_level g (t + reads f) b (q + positions f) (go_on (asks side l f t b q) r) (may_second f g t b q r both k) in
        let done = asked_both f g t b q (q + positions f) r both k j in
        record { stays = done.stays; known = done.known; read = done.read; notes = done.notes; cells = done.cells }
    asked_level (Pair f g) t b q r m =
        let apart = m.apart in
        let k = asked_level f t b q r
        (record { shows = m.shows; known = m.known.0; named = m.named.0; above = m.above; apart = omega (arith, apart) }) in
        let j = asked_level g (t + reads f) b (q + positions f) (go_on (asks side l f t b q) r) (may_second f g t b q r m k) in
        asked_both f g t b q (q + positions f) r m k j
