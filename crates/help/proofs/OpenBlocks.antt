-- A block that is told to be open has no end.
use Rattle.std.proofs.Common.{◌≡◌, ◌∙◌, ◌++◌, ◌∷◌, ◌-◌, [], true, false, Bool, List, ℕ, zero, suc, ap, append_assoc, arith, cond, inl, inr}
use Rattle.std.proofs.Common.{length, refl, subst, sym, take, ⊎_elim}
use Rattle.std.specs.Prelude.{◌⊎◌, Option, Some, None, Result, Ok, Err, position, slice_index}
use Rattle.std.specs.List.{slice_get}
use Rattle.std.specs.Option.{option_map, option_or}
use Rattle.pram_tokens.specs.Scanning.{Cut, cut_of}
use Rattle.pram_tokens.specs.declared.token.Location.{Location}
use Rattle.pram_tokens.specs.declared.token.Mark.{Mark}
use Rattle.pram_tokens.specs.declared.token.Mark.TheVariants as mark
use Rattle.pram_tokens.specs.declared.token.Opening.{Opening}
use Rattle.pram_tokens.specs.declared.token.Opening.TheVariants as opening
use Rattle.pram_tokens.specs.declared.token.Token.{Token}
use Rattle.pram_tokens.specs.declared.token.Token.TheVariants as token
use Rattle.help.specs.declared.choice.Choice.{Choice}
use Rattle.help.specs.declared.blocks.Block.{Block}
use Rattle.help.specs.declared.habit.Habit.{Habit as HabitOf}
use Rattle.help.specs.declared.hint.Hint.TheVariants.{Nothing, Habit, Open}
use Rattle.help.specs.declared.sign.Sign.TheVariants as sign
use Rattle.help.specs.Blocks.{behind, behind_all, closed, open_blocks}
use Rattle.help.specs.Habits.{before_habit, habit_of, only_habit}
use Rattle.help.specs.Hints.{IsAt, IsBy, IsHint, IsHintOf, IsKnownOr, before, begin_hint, block_hint, closed_last, is_begin, known}
use Rattle.help.specs.Hints.{last_of}
use Rattle.help.specs.Hints.{first_hint, habit_at, program_hint}
use Rattle.help.specs.OpenBlocks.{IsOpenBlock, IsOpenIn, Turn, Opens, Closes, Keeps, ends_among, ends_by, turn, turn_of}
use Rattle.help.specs.Signs.{could}

-- ---- what a token does to blocks

record IsOpening (blocks : List Block) (t : Token) : Type 0 where
  kind : Opening
  place : Location
  is : t ≡ token.Opening kind place
  new : behind blocks t ≡ blocks ++ record { opening = kind; at = place.offset } ∷ []

abbrev IsTurn : List Block → Token → Turn → Type 0
IsTurn blocks t Opens = IsOpening blocks t
IsTurn blocks t Closes = behind blocks t ≡ closed blocks
IsTurn blocks t Keeps = behind blocks t ≡ blocks

opening_turn : (blocks : List Block) (o : Opening) (place : Location) → IsTurn blocks (token.Opening o place) (turn_of o)
opening_turn blocks opening.Print place = refl
opening_turn blocks opening.While place = record { kind = opening.While; place = place; is = refl; new = refl }
opening_turn blocks opening.If place = record { kind = opening.If; place = place; is = refl; new = refl }
opening_turn blocks opening.For place = record { kind = opening.For; place = place; is = refl; new = refl }

mark_turn : (blocks : List Block) (m : Mark) → IsTurn blocks (token.Mark m) (turn (token.Mark m))
mark_turn blocks mark.End = refl
mark_turn blocks m = refl

its_turn : (blocks : List Block) (t : Token) → IsTurn blocks t (turn t)
its_turn blocks (token.Opening o place) = opening_turn blocks o place
its_turn blocks (token.Mark m) = mark_turn blocks m
its_turn blocks t = refl

-- ---- lists of blocks

record IsIn (b : Block) (blocks : List Block) : Type 0 where
  front : List Block
  above : List Block
  whole : blocks ≡ front ++ b ∷ above

none_in : (front : List Block) (b : Block) (above : List Block) → [] ≡ front ++ b ∷ above → ⊥
none_in [] b above e = cc e
none_in (f ∷ front) b above e = cc e

got : (blocks : List Block) (i : ℕ) (b : Block) → slice_get blocks i ≡ Some b → IsIn b blocks
got [] i b e = absurd (cc e)
got (x ∷ blocks) zero b e =
    let same : x ≡ b = cc e in record { front = []; above = blocks; whole = ap (λ z. z ∷ blocks) same }
got (x ∷ blocks) (suc i) b e =
    let there = got blocks i b e in
    record { front = x ∷ there.front; above = there.above; whole = ap (λ l. x ∷ l) there.whole }

length_more : (blocks : List Block) (b : Block) → length (blocks ++ b ∷ []) ≡ suc (length blocks)
length_more [] b = refl
length_more (x ∷ blocks) b = ap suc (length_more blocks b)

-- all but the last, and the last
record IsSplit (blocks : List Block) : Type 0 where
  last : Block
  whole : blocks ≡ closed blocks ++ last ∷ []

split_more : (x z : Block) (blocks : List Block) → IsSplit (z ∷ blocks) → IsSplit (x ∷ z ∷ blocks)
split_more x z blocks r =
    let one : length (x ∷ z ∷ blocks) - 1 ≡ suc (length (z ∷ blocks) - 1) = omega arith in
    record {
      last = r.last;
      whole = ap (λ l. x ∷ l) r.whole ∙ ap (λ n. take n (x ∷ z ∷ blocks) ++ r.last ∷ []) (sym one);
    }

split_last : (x : Block) (blocks : List Block) → IsSplit (x ∷ blocks)
split_last x [] = record { last = x; whole = refl }
split_last x (z ∷ blocks) = split_more x z blocks (split_last z blocks)

-- behind one block more: it is that one, or was there before
record WasThere (blocks : List Block) (front above : List Block) (b : Block) : Type 0 where
  earlier : List Block
  whole : blocks ≡ front ++ b ∷ earlier
  one_more : length above ≡ suc (length earlier)

abbrev IsNewOrOld : (blocks front above : List Block) → (new b : Block) → Type 0
IsNewOrOld blocks front above new b = ((above ≡ []) × (b ≡ new)) ⊎ WasThere blocks front above b

new_or_old : (front blocks above : List Block) (new b : Block) → blocks ++ new ∷ [] ≡ front ++ b ∷ above → IsNewOrOld blocks front
    above new b
new_or_old [] [] above new b e = inl (cc e, cc e)
new_or_old [] (x ∷ blocks) above new b e =
    let rest : blocks ++ new ∷ [] ≡ above = cc e in
    let same : x ≡ b = cc e in
    inr (record { earlier = blocks; whole = ap (λ z. z ∷ blocks) same; one_more = ap length (sym rest) ∙ length_more blocks new })
new_or_old (f ∷ front) [] above new b e =
    let rest : [] ≡ front ++ b ∷ above = cc e in absurd (none_in front b above rest)
new_or_old (f ∷ front) (x ∷ blocks) above new b e =
    let rest : blocks ++ new ∷ [] ≡ front ++ b ∷ above = cc e in
    let same : x ≡ f = cc e in
    ⊎_elim (λ new. inl new)
    (λ old. inr (record {
      earlier = old.earlier;
      whole = ap (λ l. x ∷ l) old.whole ∙ ap (λ z. z ∷ front ++ b ∷ old.earlier) same;
      one_more =
          old.one_more;
    }))
    (new_or_old front blocks above new b rest)

-- ---- over tokens

-- the block is open before the tokens, and ends with none of them
record StaysOpen (blocks : List Block) (ts : List Token) (b : Block) : Type 0 where
  front : List Block
  above : List Block
  whole : blocks ≡ front ++ b ∷ above
  no_end : ends_among ts (length above) ≡ false

abbrev IsOpen : List Block → List Token → Block → Type 0
IsOpen blocks ts b = StaysOpen blocks ts b ⊎ IsOpenBlock ts b.opening b.at

later : (t : Token) (ts : List Token) (o : Opening) (at : ℕ) → IsOpenBlock ts o at → IsOpenBlock (t ∷ ts) o at
later t ts o at h = record {
  front = t ∷ h.front;
  place = h.place;
  rest = h.rest;
  whole = ap (λ l. t ∷ l) h.whole;
  there = h.there;
  no_end = h.no_end;
}

kept : (blocks : List Block) (t : Token) (ts : List Token) (b : Block) → turn t ≡ Keeps → behind blocks t ≡ blocks →
    StaysOpen (behind blocks t) ts b → IsOpen blocks (t ∷ ts) b
kept blocks t ts b is same h = inl (record {
  front = h.front;
  above = h.above;
  whole = sym same ∙ h.whole;
  no_end = ap (λ k. ends_by k (ends_among ts) (length h.above)) is ∙ h.no_end;
})

closing : (blocks : List Block) (t : Token) (ts : List Token) (b : Block) → turn t ≡ Closes → behind blocks t ≡ closed blocks →
    StaysOpen (behind blocks t) ts b → IsOpen blocks (t ∷ ts) b
closing [] t ts b is same h = absurd (none_in h.front b h.above (sym same ∙ h.whole))
closing (x ∷ blocks) t ts b is same h =
    let r = split_last x blocks in
    let above = h.above ++ r.last ∷ [] in
    inl (record {
      front = h.front;
      above = above;
      whole = r.whole ∙ ap (λ l. l ++ r.last ∷ []) (sym same ∙ h.whole) ∙ append_assoc h.front (b ∷ h.above) (r.last ∷ []);
      no_end = ap (λ k. ends_by k (ends_among ts) (length above)) is
          ∙ ap (λ n. ends_by Closes (ends_among ts) n) (length_more h.above r.last) ∙ h.no_end;
    })

newly : (t : Token) (ts : List Token) (b : Block) (o : Opening) (place : Location) (above : List Block) → t ≡ token.Opening o place →
    b ≡ record { opening = o; at = place.offset } → above ≡ [] → ends_among ts (length above) ≡ false →
    IsOpenBlock (t ∷ ts) b.opening b.at
newly t ts b o place above is b_is last no_end = record {
  front = [];
  place = place;
  rest = ts;
  whole = ap (λ z. z ∷ ts) is ∙ ap (λ (k : Opening). token.Opening k place ∷ ts) (sym (ap (λ (z : Block). z.opening) b_is));
  there = sym (ap (λ (z : Block). z.at) b_is);
  no_end = ap (λ (l : List Block). ends_among ts (length l)) (sym last) ∙ no_end;
}

opening_one : (blocks : List Block) (t : Token) (ts : List Token) (b : Block) → turn t ≡ Opens → IsOpening blocks t →
    StaysOpen (behind blocks t) ts b → IsOpen blocks (t ∷ ts) b
opening_one blocks t ts b is o h =
    ⊎_elim (λ new. inr (newly t ts b o.kind o.place h.above o.is new.1 new.0 h.no_end)) (λ old. inl (record {
      front = h.front;
      above = old.earlier;
      whole = old.whole;
      no_end = ap (λ k. ends_by k (ends_among ts) (length old.earlier)) is ∙ ap (ends_among ts) (sym old.one_more) ∙ h.no_end;
    })) (new_or_old h.front blocks h.above (record { opening = o.kind; at = o.place.offset }) b (sym o.new ∙ h.whole))

by_turn : (blocks : List Block) (t : Token) (ts : List Token) (b : Block) (k : Turn) → turn t ≡ k → IsTurn blocks t k →
    StaysOpen (behind blocks t) ts b → IsOpen blocks (t ∷ ts) b
by_turn blocks t ts b Opens is o h = opening_one blocks t ts b is o h
by_turn blocks t ts b Closes is o h = closing blocks t ts b is o h
by_turn blocks t ts b Keeps is o h = kept blocks t ts b is o h

stays : (ts : List Token) (blocks : List Block) (b : Block) → IsIn b (behind_all blocks ts) → IsOpen blocks ts b
stays [] blocks b h = inl (record { front = h.front; above = h.above; whole = h.whole; no_end = refl })
stays (t ∷ ts) blocks b h =
    ⊎_elim (λ old. by_turn blocks t ts b (turn t) refl (its_turn blocks t) old) (λ new. inr (later t ts b.opening b.at new))
    (stays ts (behind blocks t) b h)

last_open : (ts : List Token) (b : Block) → last_of (open_blocks ts) ≡ Some b → IsOpenBlock ts b.opening b.at
last_open ts b e =
    ⊎_elim (λ old. absurd (none_in old.front b old.above old.whole)) (λ new. new)
    (stays ts [] b (got (open_blocks ts) (length (open_blocks ts) - 1) b e))

-- ---- what is told

module _ (c : Cut) (found : List Choice) (o : Opening) (begins : ℕ) where
  no_program : (i : Option ℕ) → Open o begins ≡ program_hint c.offsets i → ⊥
  no_program None e = cc e
  no_program (Some i) e = cc e

  no_begin : (b : Option Block) → Open o begins ≡ begin_hint c b → ⊥
  no_begin None e = no_program (position is_begin c.tokens) e
  no_begin (Some b) e = cc e

  by_block : (last : Option Block) → last_of (open_blocks c.tokens) ≡ last → Open o begins ≡ block_hint c last → IsOpenBlock
      c.tokens o begins
  by_block None is e = absurd (no_begin (closed_last c.tokens) e)
  by_block (Some b) is e =
      let kind : b.opening ≡ o = cc e in
      let there : b.at ≡ begins = cc e in
      subst (λ k. IsOpenBlock c.tokens k begins) kind (subst (IsOpenBlock c.tokens b.opening) there (last_open c.tokens b is))

  by_end : (ends : Bool) → Open o begins ≡ cond ends (block_hint c (last_of (open_blocks c.tokens))) Nothing → IsOpenBlock c.tokens o begins
  by_end true e = by_block (last_of (open_blocks c.tokens)) refl e
  by_end false e = absurd (cc e)

  no_habit : (n x y : ℕ) (first second : Option HabitOf) →
      IsKnownOr c n found (Open o begins) (option_or (option_map (λ h. Habit h x) first) (option_map (λ h. Habit h y) second)) → ⊥
  no_habit n x y (Some h) second e = cc e
  no_habit n x y None (Some h) e = cc e
  no_habit n x y None None e = e

  no_token : (n x y : ℕ) (b t : Token) (ks : List Choice) → IsKnownOr c n found (Open o begins) (known b t ks x y) → ⊥
  no_token n x y b t [] e = cc e
  no_token n x y b t (k ∷ ks) e = no_habit n x y (before_habit b (k ∷ ks) t) (habit_of b (k ∷ ks) t) e

  no_habit_at : (x : ℕ) (h : Option HabitOf) → Open o begins ≡ habit_at x h → ⊥
  no_habit_at x None e = cc e
  no_habit_at x (Some h) e = cc e

  no_first : (x : ℕ) (t : Option Token) → Open o begins ≡ first_hint found x t → ⊥
  no_first x None e = cc e
  no_first x (Some t) e = no_habit_at x (only_habit found t) e

  at_place : (n : ℕ) (b t : Option Token) → IsAt c n found b t (Open o begins) → IsOpenBlock c.tokens o begins
  at_place n None t e = absurd (cc e)
  at_place n (Some b) None e = by_end (could sign.End found) e
  at_place n (Some b) (Some t) e = absurd (no_token n _ _ b t found e)

  by_count : (n : ℕ) → IsBy c found n (Open o begins) → IsOpenBlock c.tokens o begins
  by_count zero e = absurd (no_first (slice_index c.offsets 0) (slice_get c.tokens 0) e)
  by_count (suc n) e = at_place (suc n) (slice_get c.tokens n) (slice_get c.tokens (suc n)) e

of_cut : (r : Result Cut ℕ) (at : ℕ) (found : List Choice) (o : Opening) (begins : ℕ) → IsHintOf r at found (Open o begins) → IsOpenIn
    r o begins
of_cut (Ok c) at found o begins e = by_count c found o begins (before at c.offsets) e
of_cut (Err bad) at found o begins e = cc e

pub open_in : (text : List ℕ) (at : ℕ) (found : List Choice) (o : Opening) (begins : ℕ) → IsHint text at found (Open o begins) →
    IsOpenIn (cut_of text) o begins
open_in text at found o begins e = of_cut (cut_of text) at found o begins e
