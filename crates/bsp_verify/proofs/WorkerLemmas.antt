-- What an instruction and an exchange do to a worker that a state describes.
use Rattle.std.proofs.Common.{◌≡◌, ℕ, ◌+◌, ◌-◌, ◌≤◌, List, [], ◌∷◌, ◌++◌, map, length, Bool, true, false, not, eqb, None, Ok, Err, ℤ, refl}
use Rattle.std.proofs.Common.{sym, ap, ◌∙◌, subst, arith}
use Rattle.std.specs.Prelude.{if◌then◌else◌, ◌&&◌, nat_le, nat_lt}
use Rattle.std.specs.List.{AllByRecursion, zip}
use Rattle.std.proofs.lemmas.List.{nil_from_length}
use Rattle.std.proofs.lemmas.Bool.Decides.{nat_tests}
use Rattle.std.proofs.lemmas.List.{length-append, length-map}
use Rattle.pram_model.specs.Layout.{width}
use Rattle.pram_values.specs.declared.kind.Kind.TheVariants.{TooWide}
use Rattle.superstep_instructions.specs.declared.instr.Side.TheVariants.{Uniform, Private}
use Rattle.superstep_instructions.specs.declared.instr.Instr.{Instr}
use Rattle.superstep_instructions.specs.declared.instr.Instr.TheVariants.{Enter, Leave, Mask, Flip, Unmask, Ask, Put, Send, Reply}
use Rattle.superstep_instructions.specs.Code.{SuperstepCode}
use Rattle.superstep_machine.specs.Setting.{Setting, processors}
use Rattle.superstep_machine.specs.Parts.{Read, UniformPart, PrivatePart, fresh}
use Rattle.superstep_machine.specs.Results.{range_width, or_empty}
use Rattle.superstep_machine.specs.Steps.{is_active, flipped, unmasked, on_active, on_own}
use Rattle.superstep_machine.specs.Words.{Message}
use Rattle.superstep_machine.specs.Worker.{Worker, numbered, after_instr}
use Rattle.superstep_machine.specs.Run as machine
use Rattle.superstep_machine.specs.Sides.{IsBySide, AreBySide, HasOneSide, HaveOneSide}
use Rattle.superstep_machine.specs.Sending.{is_private, own_sent, after_send}
use Rattle.superstep_machine.specs.Answering.{value_came, own_answered, after_reply, after_vote}
use Rattle.bsp_verify.specs.declared.state.State.{State}
use Rattle.bsp_verify.specs.States.{opening, after}
use Rattle.bsp_verify.specs.Judging.{IsAllowed}
use Rattle.bsp_verify.specs.Paths.{IsWithin}
use Rattle.bsp_verify.specs.Moments.{HasPlaces, side_of, DescribesWorker}
use Rattle.superstep_machine.proofs.MachineWords.{all_map}
use Rattle.bsp_verify.proofs.PathLemmas.{is_zero}
use Rattle.pram_model.proofs.Truths.{both}
use Rattle.std.proofs.lemmas.Bool.{not-true}

-- ---- lists of processors

pub either_way : (P : PrivatePart → Type 0) (b : Bool) (x y : PrivatePart) → P x → P y → P (if b then x else y)
either_way P true x y p q = p
either_way P false x y p q = q

pub all_made : {A B : Type 0} (Q : B → Type 0) (g : A → B) → ((x : A) → Q (g x)) → (xs : List A) → AllByRecursion Q (map g xs)
all_made Q g f [] = tt
all_made Q g f (x ∷ xs) = (f x, all_made Q g f xs)

pub all_numbered : (P Q : PrivatePart → Type 0) (g : ℕ × PrivatePart → PrivatePart) → ((v : ℕ) (y : PrivatePart) → P y → Q (g (v, y))) →
    (vs : List ℕ) (ys : List PrivatePart) → AllByRecursion P ys → AllByRecursion Q (map g (zip vs ys))
all_numbered P Q g f [] ys h = tt
all_numbered P Q g f (v ∷ vs) [] h = tt
all_numbered P Q g f (v ∷ vs) (y ∷ ys) h = (f v y h.0, all_numbered P Q g f vs ys h.1)

pub length-numbered : (g : ℕ × PrivatePart → PrivatePart) (vs : List ℕ) (ys : List PrivatePart) → length ys ≡ length vs →
    length (map g (zip vs ys)) ≡ length vs
length-numbered g [] ys h = refl
length-numbered g (v ∷ vs) [] h = absurd (omega (arith, h))
length-numbered g (v ∷ vs) (y ∷ ys) h = let r = length-numbered g vs ys (omega (arith, h)) in omega (arith, r)

pub none_came : {A : Type 0} (xs : List A) → nat_lt 0 (length xs) ≡ false → xs ≡ []
none_came [] h = refl
none_came (x ∷ xs) h = absurd (grind (arith, nat_tests))

pub all_add : {A : Type 0} (P : A → Type 0) (xs : List A) (y : A) → AllByRecursion P xs → P y → AllByRecursion P (xs ++ y ∷ [])
all_add P [] y h k = (k, tt)
all_add P (x ∷ xs) y h k = (h.0, all_add P xs y h.1 k)

-- ---- one processor

pub length-flipped : (masks : List Bool) → length (flipped masks) ≡ length masks
length-flipped [] = refl
length-flipped (b ∷ bs) = refl

pub length-unmasked : (masks : List Bool) → length (unmasked masks) ≡ length masks - 1
length-unmasked [] = refl
length-unmasked (b ∷ bs) = let h : length bs ≡ length (b ∷ bs) - 1 = omega arith in h

-- it makes no send and no reply
abbrev pub Works : Instr → Type 0
Works Send = ⊥
Works Reply = ⊥
Works _ = Unit {0}

one_part : (code : SuperstepCode) (i : Instr) → Works i → (s : State) (n : ℕ) (u : UniformPart) (v : ℕ) (y : PrivatePart) →
    HasPlaces s.masks s.asks n y →
    HasPlaces (after i s).masks (after i s).asks n (on_own code i u v y)
one_part code Send a s n u v y h = absurd a
one_part code Reply a s n u v y h = absurd a
one_part code (Mask r) a s n u v y h = record { masks = (let m = h.masks in omega (arith, m)); asks = h.asks; awaited = h.awaited }
one_part code Flip a s n u v y h = record { masks = length-flipped y.masks ∙ h.masks; asks = h.asks; awaited = h.awaited }
one_part code Unmask a s n u v y h = record {
  masks = length-unmasked y.masks ∙ ap (λ m. m - 1) h.masks;
  asks = h.asks;
  awaited =
      h.awaited;
}
one_part code (Ask Uniform d c r q) a s n u v y h = record {
  masks = h.masks;
  asks = length-append y.asks _ ∙ ap (λ m. m + 1) h.asks;
  awaited = h.awaited;
}
one_part code (Ask Private d c r q) a s n u v y h =
    either_way (HasPlaces s.masks (s.asks + 1) n) (is_active y) (on_active code (Ask Private d c r q) u v y) (record y {
      asks =
          y.asks ++ None ∷ [];
    })
    (record { masks = h.masks; asks = length-append y.asks _ ∙ ap (λ m. m + 1) h.asks; awaited = h.awaited })
    (record { masks = h.masks; asks = length-append y.asks _ ∙ ap (λ m. m + 1) h.asks; awaited = h.awaited })
one_part code i a s n u v y h =
    either_way (HasPlaces s.masks s.asks n) (is_active y) (on_active code i u v y) y (record {
      masks = h.masks;
      asks = h.asks;
      awaited =
          h.awaited;
    }) h

-- ---- the worker

pub width_at_most : (procs : ℕ) (low high : ℤ) → or_empty (range_width procs low high) ≤ procs
width_at_most procs low high = go (width low high) (nat_le (width low high) procs) refl
  where
    go : (n : ℕ) (b : Bool) → nat_le n procs ≡ b → or_empty (if b then Ok n else Err TooWide) ≤ procs
    go n true e = grind (arith, nat_tests)
    go n false e = omega arith

module _ (t : Setting) (w : ℕ) (s : State) (x : Worker) (d : DescribesWorker t w s x) where
  abbrev awaited_so_far : ℕ
  awaited_so_far = length x.uniform.awaited

  all_parts : (i : Instr) → Works i →
      AllByRecursion (HasPlaces (after i s).masks (after i s).asks awaited_so_far)
      (map (λ (y : ℕ × PrivatePart). on_own t.code i x.uniform y.0 y.1) (numbered t w x))
  all_parts i a =
      all_numbered (HasPlaces s.masks s.asks awaited_so_far) (HasPlaces (after i s).masks (after i s).asks awaited_so_far)
      (λ (y : ℕ × PrivatePart). on_own t.code i x.uniform y.0 y.1) (λ v y h. one_part t.code i a s awaited_so_far x.uniform v y h)
      (processors t w x.uniform.width) x.own d.each

  as_many : (i : Instr) → length (map (λ (y : ℕ × PrivatePart). on_own t.code i x.uniform y.0 y.1)
      (numbered t w x)) ≡ length (processors t w x.uniform.width)
  as_many i = length-numbered (λ (y : ℕ × PrivatePart). on_own t.code i x.uniform y.0 y.1) (processors t w x.uniform.width) x.own
      d.processors

  module _ (quiet : (not s.awaits && eqb s.asks 0) ≡ true) where
    asks_zero : s.asks ≡ 0
    asks_zero = is_zero s.asks (both (not s.awaits) (eqb s.asks 0) quiet).1

    no_asks : x.uniform.asks ≡ []
    no_asks = nil_from_length x.uniform.asks (d.asks ∙ asks_zero)

    none_awaited : x.uniform.awaited ≡ []
    none_awaited = none_came x.uniform.awaited (d.awaited ∙ not-true s.awaits (both (not s.awaits) (eqb s.asks 0) quiet).0)

    -- the processors of a new range
    all_fresh : s.masks ≡ 0 → (vs : List ℕ) → AllByRecursion (HasPlaces s.masks s.asks awaited_so_far) (map (λ v. fresh) vs)
    all_fresh m vs =
        all_made (HasPlaces s.masks s.asks awaited_so_far) (λ (v : ℕ). fresh)
        (λ v. record { masks = sym m; asks = sym asks_zero; awaited = sym (ap (λ (l : List Read). length l) none_awaited) }) vs

    abbrev AreOf : Bool → List Read → Type 0
    AreOf entered reads = AllByRecursion (λ (r : Read). r.side ≡ side_of entered) reads

    -- no reads are there, so they are of any side
    asks_of : (b : Bool) → AreOf b x.uniform.asks
    asks_of b = subst (AreOf b) (sym no_asks) tt

    none_own : AreBySide x.uniform.asks
    none_own = subst AreBySide (sym no_asks) tt

    awaited_of : (b : Bool) → AreOf b x.uniform.awaited
    awaited_of b = subst (AreOf b) (sym none_awaited) tt

  pub acts_worker : (place : ℕ) (i : Instr) → Works i → IsAllowed t.code place i s → IsWithin s →
      DescribesWorker t w (after i s) (after_instr t w i x)
  acts_worker place Send a h l = absurd a
  acts_worker place Reply a h l = absurd a
  acts_worker place (Enter r q k) a h l = record {
    outside = λ e. cc;
    narrow = width_at_most t.code.procs (x.uniform.registers r) (x.uniform.registers q);
    processors = length-map (processors t w (or_empty (range_width t.code.procs (x.uniform.registers r) (x.uniform.registers q))))
        (λ (v : ℕ). fresh);
    each = all_fresh h.exchange (l.outside (not-true s.entered h.mode))
        (processors t w (or_empty (range_width t.code.procs (x.uniform.registers r) (x.uniform.registers q))));
    asks = d.asks;
    asks_side = asks_of h.exchange true;
    asks_own = none_own h.exchange;
    put = d.put;
    awaited = d.awaited;
    awaited_side = awaited_of h.exchange true;
  }
  acts_worker place Leave a h l = record {
    outside = λ e. refl;
    narrow = omega arith;
    processors = length-map (processors t w 0) (λ (v : ℕ). fresh);
    each = all_fresh h.exchange (is_zero s.masks h.masks) (processors t w 0);
    asks = d.asks;
    asks_side = asks_of h.exchange false;
    asks_own = none_own h.exchange;
    put = d.put;
    awaited = d.awaited;
    awaited_side = awaited_of h.exchange false;
  }
  acts_worker place (Ask Uniform e c r q) a h l = record {
    outside = d.outside;
    narrow = d.narrow;
    processors = as_many (Ask Uniform e c r q);
    each = all_parts (Ask Uniform e c r q) tt;
    asks = length-append x.uniform.asks _ ∙ ap (λ n. n + 1) d.asks;
    asks_side = all_add (λ (z : Read). z.side ≡ side_of s.entered) x.uniform.asks _ d.asks_side
        (ap side_of (sym (not-true s.entered h.mode)));
    asks_own = all_add IsBySide x.uniform.asks _ d.asks_own (λ e. cc);
    put = d.put;
    awaited = d.awaited;
    awaited_side = d.awaited_side;
  }
  acts_worker place (Ask Private e c r q) a h l = record {
    outside = d.outside;
    narrow = d.narrow;
    processors = as_many (Ask Private e c r q);
    each = all_parts (Ask Private e c r q) tt;
    asks = length-append x.uniform.asks _ ∙ ap (λ n. n + 1) d.asks;
    asks_side = all_add (λ (z : Read). z.side ≡ side_of s.entered) x.uniform.asks _ d.asks_side (ap side_of (sym h.mode));
    asks_own = all_add IsBySide x.uniform.asks _ d.asks_own (λ e. refl);
    put = d.put;
    awaited = d.awaited;
    awaited_side = d.awaited_side;
  }
  acts_worker place (Put side c r v q) a h l = record {
    outside = d.outside;
    narrow = d.narrow;
    processors = as_many (Put side c r v q);
    each = all_parts (Put side c r v q) tt;
    asks = d.asks;
    asks_side = d.asks_side;
    asks_own = d.asks_own;
    put = refl;
    awaited = d.awaited;
    awaited_side = d.awaited_side;
  }
  acts_worker place i a h l = record {
    outside = d.outside;
    narrow = d.narrow;
    processors = as_many i;
    each = all_parts i tt;
    asks = d.asks;
    asks_side = d.asks_side;
    asks_own = d.asks_own;
    put = d.put;
    awaited = d.awaited;
    awaited_side = d.awaited_side;
  }

  -- ---- exchanges

  pub sent_worker : (messages : List Message) → DescribesWorker t w (after Send s) (after_send t w x messages)
  sent_worker messages = record {
    outside = d.outside;
    narrow = d.narrow;
    processors = length-map x.own own_sent ∙ d.processors;
    each = all_map (HasPlaces s.masks s.asks awaited_so_far) (HasPlaces s.masks 0 (length x.uniform.asks)) own_sent
        (λ y h. record { masks = h.masks; asks = refl; awaited = h.asks ∙ sym d.asks }) x.own d.each;
    asks = refl;
    asks_side = tt;
    asks_own = tt;
    put = refl;
    awaited = ap (nat_lt 0) d.asks;
    awaited_side = d.asks_side;
  }

  pub replied_worker : (messages : List Message) → DescribesWorker t w (after Reply s) (after_reply t x messages)
  replied_worker messages = record {
    outside = d.outside;
    narrow = d.narrow;
    processors = length-map x.own (own_answered (value_came t x messages) x.uniform.awaited) ∙ d.processors;
    each = all_map (HasPlaces s.masks s.asks awaited_so_far) (HasPlaces s.masks s.asks 0)
        (own_answered (value_came t x messages) x.uniform.awaited)
        (λ y h. record { masks = h.masks; asks = h.asks; awaited = refl }) x.own d.each;
    asks = d.asks;
    asks_side = d.asks_side;
    asks_own = d.asks_own;
    put = d.put;
    awaited = refl;
    awaited_side = tt;
  }

  pub voted_worker : (v : ℕ) (messages : List Message) → DescribesWorker t w s (after_vote v x messages)
  voted_worker v messages = record {
    outside = d.outside;
    narrow = d.narrow;
    processors = d.processors;
    each = d.each;
    asks = d.asks;
    asks_side = d.asks_side;
    asks_own = d.asks_own;
    put = d.put;
    awaited = d.awaited;
    awaited_side = d.awaited_side;
  }

pub opening_worker : (t : Setting) (w : ℕ) (input : List ℤ) → DescribesWorker t w opening (machine.opening_worker t input w)
opening_worker t w input = record {
  outside = λ e. refl;
  narrow = omega arith;
  processors = refl;
  each = tt;
  asks = refl;
  asks_side = tt;
  asks_own = tt;
  put = refl;
  awaited = refl;
  awaited_side = tt;
}

-- ---- each read is of one side

private_sides : (own : List PrivatePart) (k : ℕ) (reads : List Read) → AllByRecursion (λ (r : Read). r.side ≡ Private) reads →
    AreBySide reads → HaveOneSide own k reads
private_sides own k [] sides cells = tt
private_sides own k (r ∷ reads) sides cells =
    (subst (HasOneSide own k r.cell) (sym sides.0) (cells.0 (ap is_private sides.0)), private_sides own (k + 1) reads sides.1 cells.1)

uniform_sides : (k : ℕ) (reads : List Read) → AllByRecursion (λ (r : Read). r.side ≡ Uniform) reads → HaveOneSide [] k reads
uniform_sides k [] sides = tt
uniform_sides k (r ∷ reads) sides = (subst (HasOneSide [] k r.cell) (sym sides.0) tt, uniform_sides (k + 1) reads sides.1)

pub one_side : (t : Setting) (w : ℕ) (s : State) (x : Worker) → DescribesWorker t w s x → HaveOneSide x.own 0 x.uniform.asks
one_side t w s x d = go s.entered refl
  where
    go : (b : Bool) → s.entered ≡ b → HaveOneSide x.own 0 x.uniform.asks
    go true e = private_sides x.own 0 x.uniform.asks (subst (λ (b : Bool). AllByRecursion (λ (r : Read). r.side ≡ side_of b) x.uniform.asks)
        e d.asks_side) d.asks_own
    go false e =
        let none : x.own ≡ [] = nil_from_length x.own (d.processors ∙ ap (λ n. length (processors t w n)) (d.outside e)) in
        subst (λ own. HaveOneSide own 0 x.uniform.asks) (sym none)
        (uniform_sides 0 x.uniform.asks (subst (λ (b : Bool). AllByRecursion (λ (r : Read). r.side ≡ side_of b) x.uniform.asks) e
        d.asks_side))
