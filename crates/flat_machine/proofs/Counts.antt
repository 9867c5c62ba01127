-- Of which statements the keys are that are noted, the put and the reads that are held, and the items of the output.
use Rattle.std.proofs.Common.{◌≡◌, ℕ, ◌+◌, ◌≤◌, List, [], ◌∷◌, ◌++◌, Bool, true, false, Option, Some, None, Err, Ok, ℤ, refl, sym, subst}
use Rattle.std.proofs.Common.{arith}
use Rattle.std.specs.Prelude.{if◌then◌else◌, ◌&&◌}
use Rattle.std.specs.List.{AllByRecursion}
use Rattle.pram_values.specs.declared.kind.Kind.{Kind}
use Rattle.pram_values.specs.declared.kind.Kind.TheVariants.{ReadConflict}
use Rattle.pram_values.specs.declared.place.Place.{Place}
use Rattle.pram_values.specs.declared.place.Place.TheVariants.{Processor}
use Rattle.pram_values.specs.Value.{Value}
use Rattle.pram_values.specs.Total.{total}
use Rattle.write_rules.specs.Rule.{shares_reads}
use Rattle.superstep_instructions.specs.declared.instr.Side.TheVariants.{Uniform, Private}
use Rattle.superstep_instructions.specs.declared.instr.Instr.{Instr}
use Rattle.superstep_instructions.specs.declared.instr.Instr.TheVariants.{Mark, Ask, Put, Print}
use Rattle.superstep_machine.specs.declared.key.Key.{Key}
use Rattle.superstep_instructions.specs.Code.{SuperstepCode}
use Rattle.superstep_machine.specs.Keys.{is_first, least}
use Rattle.superstep_machine.specs.Parts.{Moment, Read, UniformPart, PrivatePart}
use Rattle.superstep_machine.specs.Results.{position_of}
use Rattle.superstep_machine.specs.Run.{is_held}
use Rattle.superstep_machine.specs.Sending.{verdict_on, conflict_at, put_conflict, is_private, is_several}
use Rattle.superstep_machine.specs.Steps.{fault_at, uniform_key, own_key, index_of, is_active, wrong_own}
use Rattle.flat_machine.specs.Flat.{Flat, range, cells, noted, after_instr, owed, askers, read_conflict, read_conflicts, conflicts}
use Rattle.flat_machine.specs.Flat.{after_send, after_reply, after_vote, opening}

-- a key, if there is one, is of such a statement
abbrev pub IsKeyOf : (ℕ → Type 0) → Option Key → Type 0
IsKeyOf P None = Unit {0}
IsKeyOf P (Some key) = P key.count

abbrev pub IsPutOf : (ℕ → Type 0) → Option Moment → Type 0
IsPutOf P None = Unit {0}
IsPutOf P (Some at) = P at.count

abbrev pub AreReadsOf : (ℕ → Type 0) → List Read → Type 0
AreReadsOf P asks = AllByRecursion (λ (x : Read). P x.moment.count) asks

abbrev pub AreItemsOf : (ℕ → Type 0) → List (ℕ × ℤ) → Type 0
AreItemsOf P output = AllByRecursion (λ (x : ℕ × ℤ). P x.0) output

module _ (P Q : ℕ → Type 0) (h : (n : ℕ) → P n → Q n) where
  pub key_also : (x : Option Key) → IsKeyOf P x → IsKeyOf Q x
  key_also None k = tt
  key_also (Some key) k = h key.count k

  pub put_also : (x : Option Moment) → IsPutOf P x → IsPutOf Q x
  put_also None k = tt
  put_also (Some at) k = h at.count k

  pub reads_also : (xs : List Read) → AreReadsOf P xs → AreReadsOf Q xs
  reads_also [] k = tt
  reads_also (x ∷ xs) k = (h x.moment.count k.0, reads_also xs k.1)

  pub items_also : (xs : List (ℕ × ℤ)) → AreItemsOf P xs → AreItemsOf Q xs
  items_also [] k = tt
  items_also (x ∷ xs) k = (h x.0 k.0, items_also xs k.1)

all_add : {A : Type 0} (P : A → Type 0) (xs : List A) (y : A) → AllByRecursion P xs → P y → AllByRecursion P (xs ++ y ∷ [])
all_add P [] y h k = (k, tt)
all_add P (x ∷ xs) y h k = (h.0, all_add P xs y h.1 k)

-- ---- what is noted

module _ (P : ℕ → Type 0) where
  pub least_of : (x y : Option Key) → IsKeyOf P x → IsKeyOf P y → IsKeyOf P (least x y)
  least_of None y h k = k
  least_of (Some a) None h k = h
  least_of (Some a) (Some b) h k = go (is_first a b)
    where
      go : (t : Bool) → P (if t then a else b).count
      go true = h
      go false = k

  total_of : {A : Type 0} (f : A → Option Key) → ((x : A) → IsKeyOf P (f x)) → (xs : List A) → IsKeyOf P (total None least f xs)
  total_of f h [] = tt
  total_of f h (x ∷ xs) = least_of (f x) (total None least f xs) (h x) (total_of f h xs)

  fault_of_present : (u : UniformPart) (q : ℕ) (place : Place) (wrong : Option Kind) → P u.count → IsKeyOf P (fault_at u q place wrong)
  fault_of_present u q place None h = tt
  fault_of_present u q place (Some kind) h = h

  own_of : (code : SuperstepCode) (i : Instr) (u : UniformPart) (v : ℕ) (x : PrivatePart) → P u.count → IsKeyOf P (own_key code i u v x)
  own_of code i u v x h = go (is_active x)
    where
      go : (b : Bool) → IsKeyOf P (if b then fault_at u (position_of i) (Processor (index_of u v)) (wrong_own code i x) else None)
      go true = fault_of_present u (position_of i) (Processor (index_of u v)) (wrong_own code i x) h
      go false = tt

  -- what an instruction notes is of the present statement
  pub noted_of : (code : SuperstepCode) (i : Instr) (f : Flat) → P f.uniform.count → IsKeyOf P (noted code i f)
  noted_of code i f h =
      least_of (uniform_key code i f.uniform) (total None least (λ v. own_key code i f.uniform v (f.own v)) (range f))
      (fault_of_present f.uniform _ _ _ h)
      (total_of (λ v. own_key code i f.uniform v (f.own v)) (λ v. own_of code i f.uniform v (f.own v) h) (range f))

  put_conflict_of : (put : Option Moment) (c : ℕ) (v : Option Value) → IsPutOf P put → IsKeyOf P (put_conflict put c v)
  put_conflict_of None c v h = tt
  put_conflict_of (Some at) c None h = tt
  put_conflict_of (Some at) c (Some (Ok x)) h = tt
  put_conflict_of (Some at) c (Some (Err kind)) h = h

  -- what is owed is of the statement of the put
  pub owed_of : (code : SuperstepCode) (f : Flat) → IsPutOf P f.uniform.put → IsKeyOf P (owed code f)
  owed_of code f h =
      total_of (λ c. put_conflict f.uniform.put c (verdict_on code.rule (f.held c)))
      (λ c. put_conflict_of f.uniform.put c (verdict_on code.rule (f.held c)) h) (cells code)

  read_conflict_of : (code : SuperstepCode) (f : Flat) (k : ℕ) (read : Read) → P read.moment.count → IsKeyOf P (read_conflict code f k read)
  read_conflict_of code f k read h =
      total_of (λ c. if is_private read.side && is_several (askers f k c) then Some (conflict_at read.moment c ReadConflict) else None)
      (λ c. go c (is_private read.side && is_several (askers f k c))) (cells code)
    where
      go : (c : ℕ) (b : Bool) → IsKeyOf P (if b then Some (conflict_at read.moment c ReadConflict) else None)
      go c true = h
      go c false = tt

  read_conflicts_of : (code : SuperstepCode) (f : Flat) (k : ℕ) (reads : List Read) → AreReadsOf P reads →
      IsKeyOf P (read_conflicts code f k reads)
  read_conflicts_of code f k [] h = tt
  read_conflicts_of code f k (x ∷ xs) h =
      least_of (read_conflict code f k x) (read_conflicts code f (k + 1) xs) (read_conflict_of code f k x h.0)
      (read_conflicts_of code f (k + 1) xs h.1)

  -- what a send notes of the reads
  pub reads_of : (code : SuperstepCode) (f : Flat) → AreReadsOf P f.uniform.asks →
      IsKeyOf P (if shares_reads code.rule then None else read_conflicts code f 0 f.uniform.asks)
  reads_of code f h = go (shares_reads code.rule)
    where
      go : (b : Bool) → IsKeyOf P (if b then None else read_conflicts code f 0 f.uniform.asks)
      go true = tt
      go false = read_conflicts_of code f 0 f.uniform.asks h

-- ---- the counts of a state

-- Held reads are of the present statement, the rest is of it or of an earlier one. Where no put is held, nothing is held for a cell.
pub record IsCounted (f : Flat) : Type 0 where
  pub key : IsKeyOf (λ n. n ≤ f.uniform.count) f.key
  pub put : IsPutOf (λ n. n ≤ f.uniform.count) f.uniform.put
  pub asks : AreReadsOf (λ n. n ≡ f.uniform.count) f.uniform.asks
  pub output : AreItemsOf (λ n. n ≤ f.uniform.count) f.uniform.output
  pub bare : is_held f.uniform.put ≡ false → (c : ℕ) → f.held c ≡ None

pub opening_counted : (input : List ℤ) → IsCounted (opening input)
opening_counted input = record { key = tt; put = tt; asks = tt; output = tt; bare = λ h c. refl }

-- a mark comes where no reads are held
abbrev pub MayCount : Instr → UniformPart → Type 0
MayCount (Mark line) u = u.asks ≡ []
MayCount i u = Unit {0}

one_more : (n m : ℕ) → m ≤ n → m ≤ n + 1
one_more n m h = omega (arith, h)

at_most : (n : ℕ) → n ≤ n
at_most n = omega arith

module _ (code : SuperstepCode) (f : Flat) (c : IsCounted f) where
  key_here : (i : Instr) → IsKeyOf (λ n. n ≤ f.uniform.count) (least f.key (noted code i f))
  key_here i = least_of (λ n. n ≤ f.uniform.count) f.key (noted code i f) c.key
      (noted_of (λ n. n ≤ f.uniform.count) code i f (at_most f.uniform.count))

  pub counted_instr : (i : Instr) → MayCount i f.uniform → IsCounted (after_instr code i f)
  counted_instr (Mark line) h = record {
    key = key_also (λ n. n ≤ f.uniform.count) (λ n. n ≤ f.uniform.count + 1) (one_more f.uniform.count)
        (least f.key (noted code (Mark line) f))
        (key_here (Mark line));
    put = put_also (λ n. n ≤ f.uniform.count) (λ n. n ≤ f.uniform.count + 1) (one_more f.uniform.count) f.uniform.put c.put;
    asks = subst (λ xs. AreReadsOf (λ n. n ≡ f.uniform.count + 1) xs) (sym h) tt;
    output = items_also (λ n. n ≤ f.uniform.count) (λ n. n ≤ f.uniform.count + 1) (one_more f.uniform.count) f.uniform.output c.output;
    bare = c.bare;
  }
  counted_instr (Ask Uniform d e s q) h = record {
    key = key_here (Ask Uniform d e s q);
    put = c.put;
    asks = all_add (λ (x : Read). x.moment.count ≡ f.uniform.count) f.uniform.asks _ c.asks refl;
    output = c.output;
    bare = c.bare;
  }
  counted_instr (Ask Private d e s q) h = record {
    key = key_here (Ask Private d e s q);
    put = c.put;
    asks = all_add (λ (x : Read). x.moment.count ≡ f.uniform.count) f.uniform.asks _ c.asks refl;
    output = c.output;
    bare = c.bare;
  }
  counted_instr (Put side e s v q) h = record {
    key = key_here (Put side e s v q);
    put = at_most f.uniform.count;
    asks = c.asks;
    output = c.output;
    bare = λ k. cc;
  }
  counted_instr (Print s) h = record {
    key = key_here (Print s);
    put = c.put;
    asks = c.asks;
    output = all_add (λ (x : ℕ × ℤ). x.0 ≤ f.uniform.count) f.uniform.output _ c.output (at_most f.uniform.count);
    bare = c.bare;
  }
  counted_instr i h = record { key = key_here i; put = c.put; asks = c.asks; output = c.output; bare = c.bare }

  pub counted_send : IsCounted (after_send code f)
  counted_send = record {
    key = least_of (λ n. n ≤ f.uniform.count) f.key (conflicts code f) c.key
        (least_of (λ n. n ≤ f.uniform.count) (owed code f) (if shares_reads code.rule then None else read_conflicts code f 0 f.uniform.asks)
        (owed_of (λ n. n ≤ f.uniform.count) code f c.put)
        (reads_of (λ n. n ≤ f.uniform.count) code f (reads_also (λ n. n ≡ f.uniform.count) (λ n. n ≤ f.uniform.count) same f.uniform.asks
        c.asks)));
    put = tt;
    asks = tt;
    output = c.output;
    bare = λ h cell. refl;
  }
    where
      same : (n : ℕ) → n ≡ f.uniform.count → n ≤ f.uniform.count
      same n h = omega (arith, h)

  pub counted_reply : IsCounted (after_reply f)
  counted_reply = record { key = c.key; put = c.put; asks = c.asks; output = c.output; bare = c.bare }

  pub counted_vote : (d : ℕ) → IsCounted (after_vote d f)
  counted_vote d = record { key = c.key; put = c.put; asks = c.asks; output = c.output; bare = c.bare }
