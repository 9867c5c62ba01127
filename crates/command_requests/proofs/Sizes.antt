-- The sizes that words give, word by word, and the words of sizes that a text doesn't declare.
use Rattle.std.proofs.Common.{◌≡◌, ◌∙◌, ◌+◌, ◌<◌, ℕ, List, [], ◌∷◌, ◌++◌, length, take, drop, get_or, ap, arith, length-append, refl, subst}
use Rattle.std.proofs.Common.{sym}
use Rattle.std.proofs.lemmas.List.{drop_more, take-append-drop, take_more}
use Rattle.std.proofs.lemmas.List.Quantifiers.{position-Some}
use Rattle.std.proofs.lemmas.Option.{slice_get_read}
use Rattle.std.specs.Prelude.{Bool, true, false, if◌then◌else◌, nat_lt, Option, Some, None, Result, Ok, Err, IfErr, IsErrAnd, IsSomeAnd}
use Rattle.std.specs.List.{position, slice_get}
use Rattle.pram_tokens.specs.Scanning.{longest}
use Rattle.sized_texts.specs.Expansion.{expanded, expanded_by, expansion, short, undeclared}
use Rattle.sized_texts.specs.Faults.{in_text}
use Rattle.sized_texts.specs.Pieces.{Expansion, pieces_of}
use Rattle.sized_texts.specs.Reading.{◌>>=◌}
use Rattle.sized_texts.specs.SizeLines.{is_none, sizes_of}
use Rattle.sized_texts.specs.Sizes.{value_in}
use Rattle.sized_texts.specs.declared.fault.SizeFault.TheVariants.{NotDeclared, TooLong}
use Rattle.sized_texts.specs.declared.size.Size.{Size}
use Rattle.sized_texts.specs.declared.stop.Wrong.{Wrong}
use Rattle.program_texts.specs.declared.from_text.Refusal.TheVariants as refusal
use Rattle.program_texts.specs.declared.stop.Stop.{Stop}
use Rattle.program_texts.specs.declared.stop.Stop.TheVariants as stop
use Rattle.command_requests.specs.declared.request.SizeWord.{SizeWord}
use Rattle.command_requests.specs.Given.{AreSizesOf, GiveSizes, IsFirstWrong, IsNewSize, IsNoNewSize, IsOfSizes, IsWordRefused, word_text}

-- ---- word by word

-- one more word gives one more size
pub behind : (before : List Size) (words : List SizeWord) (all : List Size) (w : SizeWord) (s : Size) → GiveSizes before words all →
    IsNewSize all w s → GiveSizes before (words ++ w ∷ []) (all ++ s ∷ [])
behind before [] all w s given new =
    (s, subst (λ (m : List Size). IsNewSize m w s) given new, ap (λ (m : List Size). m ++ s ∷ []) given)
behind before (v ∷ words) all w s given new = (given.0, given.1, behind (before ++ given.0 ∷ []) words all w s given.2 new)

as_many : (before : List Size) (words : List SizeWord) (all : List Size) → GiveSizes before words all →
    length all ≡ length before + length words
as_many before [] all given = let e : length all ≡ length before = ap length given in omega (arith, e)
as_many before (w ∷ words) all given =
    let more = as_many (before ++ given.0 ∷ []) words all given.2 in
    let one = length-append before (given.0 ∷ []) in
    grind (arith, more, one)

-- there are as many sizes as words
pub one_each : (words : List SizeWord) (all : List Size) → AreSizesOf words all → length all ≡ length words
one_each words all given = let many = as_many [] words all given in omega (arith, many)

module _ (words : List SizeWord) (i : ℕ) (d : SizeWord) (inside : i < length words) (sizes : List Size)
    (given : AreSizesOf (take i words) sizes) where
  -- so the next word does, if it gives one
  pub one_more : (before all : List Size) (s : Size) → before ≡ sizes → IsNewSize before (get_or words i d) s → all ≡ sizes ++ s ∷ [] →
      AreSizesOf (take (i + 1) words) all
  one_more before all s same new is =
      let more = behind [] (take i words) sizes (get_or words i d) s given
      (subst (λ (m : List Size). IsNewSize m (get_or words i d) s) same new) in
      subst (λ (ws : List SizeWord). AreSizesOf ws all) (sym (take_more words i d inside)) (subst (AreSizesOf _) (sym is) more)

  whole_of : words ≡ take i words ++ get_or words i d ∷ drop (i + 1) words
  whole_of =
      sym (take-append-drop i words) ∙ ap (λ (rest : List SizeWord). take i words ++ rest) (drop_more words i d inside)

  -- and if it doesn't, it is the first one
  first_wrong : (before : List Size) (told : List ℕ) → before ≡ sizes → told ≡ word_text (get_or words i d) →
      IsNoNewSize before (get_or words i d) →
      IsFirstWrong words told
  first_wrong before told same is wrong = record {
    front = take i words;
    word = get_or words i d;
    back = drop (i + 1) words;
    whole = whole_of;
    is_told = is;
    sizes = sizes;
    given = given;
    wrong = subst (λ (m : List Size). IsNoNewSize m (get_or words i d)) same wrong;
  }

  pub refused_at : (before : List Size) (why : Stop) → before ≡ sizes → IsWordRefused before (get_or words i d) why →
      IsOfSizes words why
  refused_at before (stop.Number word) same h = first_wrong before word.now same h.0 h.1
  refused_at before (stop.Refused refusal.OutOfMemory) same h = tt
  refused_at before (stop.Refused (refusal.Text fault)) same h = absurd h
  refused_at before (stop.Refused (refusal.Program breach)) same h = absurd h
  refused_at before (stop.Refused refusal.InputTooLong) same h = absurd h
  refused_at before (stop.Refused refusal.BadMap) same h = absurd h
  refused_at before (stop.Refused refusal.BadWorkers) same h = absurd h
  refused_at before (stop.Refused refusal.OutOfReserve) same h = absurd h
  refused_at before (stop.Words text) same h = absurd h
  refused_at before (stop.Unreadable name) same h = absurd h
  refused_at before (stop.NotVerified at reason) same h = absurd h
  refused_at before (stop.BadListing at) same h = absurd h
  refused_at before stop.WriteFailed same h = absurd h
  refused_at before (stop.BadSize at reason) same h = absurd h

-- what an answer hands on
pub hands_on : {X E : Type 0} (r : Result X E) (e : E) (P : E → Type 0) → IsErrAnd r (λ x. x ≡ e) → P e → IfErr r P
hands_on (Ok x) e P is h = absurd is
hands_on (Err x) e P is h = subst P (sym is) h

-- ---- sizes that a text doesn't declare

at_position : (p : Size → Bool) (given : List Size) (i : ℕ) → position p given ≡ Some i → i < length given
at_position p [] i is = cc
at_position p (g ∷ given) i is = (position-Some p (g ∷ given) i g is).0

module _ (given : List Size) (text : List ℕ) (i : ℕ) where
  not_long : (long : Bool) (e : Expansion) → (if long then Err TooLong else Ok e) ≡ Err (NotDeclared i) → ⊥
  not_long true e is = cc
  not_long false e is = cc

  no_pieces : (r : Result Expansion Wrong) → (in_text (length text) r >>= short) ≡ Err (NotDeclared i) → ⊥
  no_pieces (Ok e) is = not_long (nat_lt longest (length e.text)) e is
  no_pieces (Err w) is = cc

  no_expansion : (sizes : List Size) → expanded sizes text ≡ Err (NotDeclared i) → ⊥
  no_expansion [] is = cc
  no_expansion (s ∷ sizes) is = no_pieces (pieces_of (s ∷ sizes) text) is

  by_number : (sizes : List Size) (n : Option ℕ) → undeclared sizes given ≡ n → expanded_by sizes text n ≡ Err (NotDeclared i) →
      i < length given
  by_number sizes (Some n) found is =
      let same : n ≡ i = cc in
      at_position (λ g. is_none (value_in sizes g.name)) given i (subst (λ (k : ℕ). undeclared sizes given ≡ Some k) same found)
  by_number sizes None found is = absurd (no_expansion sizes is)

  by_sizes : (r : Result (List Size) Wrong) →
      (in_text (length text) r >>= λ sizes. expanded_by sizes text (undeclared sizes given)) ≡ Err (NotDeclared i) → i < length given
  by_sizes (Ok sizes) is = by_number sizes (undeclared sizes given) refl is
  by_sizes (Err w) is = cc

  -- it is one of those that are given
  pub within : expansion given text ≡ Err (NotDeclared i) → i < length given
  within is = by_sizes (sizes_of given text) is

-- the word that stands at a place
pub word_at : (words : List SizeWord) (i : ℕ) (w : SizeWord) (told : List ℕ) → i < length words → w ≡ get_or words i w → told ≡
    word_text w →
    IsSomeAnd (slice_get words i) (λ x. told ≡ word_text x)
word_at words i w told inside is says =
    subst (λ (o : Option SizeWord). IsSomeAnd o (λ x. told ≡ word_text x))
    (sym (slice_get_read words (length words) i w refl inside is)) says
