-- What a run owns is cut, joined, forgotten and added to. Assumes `Logic`.
use Rattle.std.proofs.Common.{length-append, ◌≡◌, ℕ, zero, suc, ◌+◌, ◌-◌, ◌*◌, ◌≤◌, ◌<◌, List, [], ◌∷◌, ◌++◌, length, refl, subst, ◌∙◌}
use Rattle.std.proofs.Common.{arith, w64}
use seplogic.Ra.Ura.{Ura}
use base.Fraction.{full_share}
use mir.Syntax.{ty_int}
use mir.Val.{Val, vint}
use base.Logic.{SProp, ent, sep, never, fst∗}
use base.Fml.{Fml, ftrue, fsep, feq, fat, froom}
use types.Logic.{Logic, sem}
use types.Kit.{‵, ◌⊛◌, some, ◌$◌, ◌∵◌, !, qed, by, move, keep, drop, use1, use2, pick, split, rewrite, fsplit, fjoin, feq_i, done}
use denote.Array.{Array}
use denote.ArrayMemory.{Array-apart, Array-whole}
use denote.Index.{row}
use denote.Plain.{uint_in}
use denote.Builtin.{u64}
use denote.Memory.{part_at}
use denote.RawPtr.{block_ptr, null_ptr}
use denote.RawPtr.Room.{past, room_cut, room_glue}
use denote.Steps.{nothing}
use borrow.Table.OneValue.{part_out}
use Rattle.exchange_arena.specs.Ownership.{words, run_owns}

past_is : (m o : ℕ) → past (ty_int w64) m o ≡ o + m * 8
past_is zero o = omega arith
past_is (suc m) o = past_is m (o + 8) ∙ omega arith

module _ {M : Type 1} {𝓤 : Ura M} (𝓛 : Logic 𝓤) (b : ℕ) where
  open 𝓛 use {H}

  abbrev ◌⊢◌ : SProp 𝓤 → SProp 𝓤 → Type 1
  P ⊢ Q = ent 𝓤 P Q

  abbrev ◌∗◌ : SProp 𝓤 → SProp 𝓤 → SProp 𝓤
  P ∗ Q = sep 𝓤 P Q

  infix 26 ◌⊢◌
  infixr 35 ◌∗◌
  abbrev pub room : ℕ → ℕ → SProp 𝓤
  room n o = H.room (words n) b o

  -- room for t words is room for m and then for n
  pub room_parted : (m n t o : ℕ) → m + n ≡ t → room t o ⊢ room m o ∗ room n (o + m * 8)
  room_parted m n t o e =
      subst (λ (k : ℕ). room k o ⊢ room m o ∗ room n (o + m * 8)) e
      (subst (λ (j : ℕ). room (m + n) o ⊢ room m o ∗ room n j) (past_is m o) (room_cut 𝓛 (ty_int w64) m n b o))

  pub room_joined : (m n t o : ℕ) → m + n ≡ t → room m o ∗ room n (o + m * 8) ⊢ room t o
  room_joined m n t o e =
      subst (λ (k : ℕ). room m o ∗ room n (o + m * 8) ⊢ room k o) e
      (subst (λ (j : ℕ). room m o ∗ room n j ⊢ room (m + n) o) (past_is m o) (room_glue 𝓛 (ty_int w64) m n b o))

  -- words are room, if they are forgotten
  forgets : (xs : List ℕ) (n o : ℕ) → sem 𝓛 (part_at (Array u64 n) full_share xs b o) ⊢ room n o
  forgets xs n o = qed 𝓛 (‵ (part_at (Array u64 n) full_share xs b o) ∷ []) ∵
      use1 𝓛 (some (λ (v : Val). ‵ (fat full_share (words n) b o v) ⊛ ‵ ((Array u64 n).own_val xs (v ∷ []))))
      (part_out 𝓛 (Array u64 n) refl full_share xs b o) $ pick ! (λ v. split ! $
      keep ! (0 ∷ []) $ by ! (𝓛.laws.at_room (words n) b o v))

  pub all_out : (xs : List ℕ) (n o : ℕ) → length xs ≤ n → sem 𝓛 (run_owns (block_ptr b o) n xs) ⊢ room n o
  all_out xs n o le = qed 𝓛 (‵ (run_owns (block_ptr b o) n xs) ∷ []) ∵ fsplit ! $
      use1 𝓛 (‵ (froom (words (length xs)) b o)) (forgets xs (length xs) o) $ by !
      (room_joined (length xs) (n - length xs) n o (omega arith))

  pub all_in : (n o : ℕ) → room n o ⊢ sem 𝓛 (run_owns (block_ptr b o) n [])
  all_in n o =
      let same : n ≡ n - 0 = omega arith in let at : o ≡ o + 0 * 8 = omega arith in
      qed 𝓛 (‵ (froom (words n) b o) ∷ []) ∵
      rewrite ! 0 (λ (u : ℕ × ℕ). ‵ (froom (words u.0) b u.1)) {x = (n - 0, o + 0 * 8)} {y = (n, o)} (λ i. (same i, at i)) refl $
      nothing ! $ feq_i ! ℕ 0 0 refl $ fjoin ! $ use1 𝓛 (‵ (part_at (Array u64 0) full_share [] b o))
      (Array-whole 𝓛 u64 full_share 0 [] b o) $ fjoin ! $ done !

  abbrev Row : ℕ → List ℕ → Fml
  Row o xs = row u64 full_share xs b o

  glued : (xs ys : List ℕ) (o at : ℕ) → at ≡ length xs * 8 + o → sem 𝓛 (Row o xs) ∗ sem 𝓛 (Row at ys) ⊢ sem 𝓛 (Row o (xs ++ ys))
  glued [] ys o at e = qed 𝓛 (‵ ftrue ∷ ‵ (Row at ys) ∷ []) ∵ drop ! $ rewrite ! 0 (λ (k : ℕ). ‵ (Row k ys)) {x =
      o} (omega arith) refl $ done !
  glued (x ∷ xs) ys o at e = let more : at ≡ suc (length xs) * 8 + o = e in
      qed 𝓛 (‵ (Row o (x ∷ xs)) ∷ ‵ (Row at ys) ∷ []) ∵ fsplit ! $ move ! (1 ∷ 2 ∷ []) $
      use2 𝓛 (‵ (Row (o + 8) (xs ++ ys))) (glued xs ys (o + 8) at (omega arith)) $ move ! (1 ∷ 0 ∷ []) $ fjoin ! $ done !

  whole : (xs : List ℕ) (n o : ℕ) → length xs ≡ n → sem 𝓛 (Row o xs) ⊢ sem 𝓛 (part_at (Array u64 n) full_share xs b o)
  whole xs n o e = qed 𝓛 (‵ (Row o xs) ∷ []) ∵ feq_i ! ℕ (length xs) n e $ fjoin ! $ by ! (Array-whole 𝓛 u64 full_share n xs b o)

  apart : (xs : List ℕ) (n o : ℕ) → sem 𝓛 (part_at (Array u64 n) full_share xs b o) ⊢ sem 𝓛 (Row o xs)
  apart xs n o = qed 𝓛 (‵ (part_at (Array u64 n) full_share xs b o) ∷ []) ∵
      use1 𝓛 (‵ (fsep (feq ℕ (length xs) n) (Row o xs))) (Array-apart 𝓛 u64 full_share tt n xs b o) $ fsplit ! $ drop ! $ done !

  -- the words, and the room after the one that is next
  abbrev pub Others : List ℕ → ℕ → ℕ → Fml
  Others xs n o = fsep (part_at (Array u64 (length xs)) full_share xs b o) (froom (words (n - suc (length xs))) b (o + length xs * 8 + 8))

  pub next_out : (xs : List ℕ) (n o : ℕ) → length xs < n →
      sem 𝓛 (run_owns (block_ptr b o) n xs) ⊢ H.room (ty_int w64) b (length xs * 8 + o) ∗ sem 𝓛 (Others xs n o)
  next_out xs n o lt =
      let k = length xs in let one : n - k ≡ suc (n - suc k) = omega arith in
      qed 𝓛 (‵ (run_owns (block_ptr b o) n xs) ∷ []) ∵ fsplit ! $ move ! (1
      ∷ []) $ rewrite ! 0 (λ (j : ℕ). ‵ (froom (words j) b (o + k * 8))) one refl $
      use1 𝓛 (‵ (froom (ty_int w64) b (o + k * 8)) ⊛ ‵ (froom (words (n - suc k)) b (o + k * 8 + 8)))
      (𝓛.laws.room_uncons (ty_int w64) (n - suc k) b (o + k * 8)) $ split ! $
      rewrite ! 0 (λ (j : ℕ). ‵ (froom (ty_int w64) b j)) {x = k * 8 + o} (omega arith) refl $ move ! (0 ∷ 2 ∷ 1 ∷ []) $ done !

  pub next_in : (xs : List ℕ) (x n o : ℕ) → length xs < n → H.at full_share (ty_int w64) b (length xs * 8 + o)
      (vint w64 x) ∗ sem 𝓛 (Others xs n o) ⊢ sem 𝓛 (run_owns (block_ptr b o) n (xs ++ x ∷ []))
  next_in xs x n o lt =
      let k = length xs in let long : length (xs ++ x ∷ []) ≡ suc k = length-append xs (x ∷ []) ∙ omega arith in
      qed 𝓛 (‵ (fat full_share (ty_int w64) b (k * 8 + o) (vint w64 x)) ∷ ‵ (Others xs n o) ∷ []) ∵
      use1 𝓛 (‵ (part_at u64 full_share x b (k * 8 + o))) (uint_in 𝓛 full_share w64 x b (k * 8 + o)) $ nothing ! $ move ! (1 ∷ 0
      ∷ []) $ fjoin ! $ move ! (1 ∷ []) $ fsplit ! $
      use1 𝓛 (‵ (Row o xs)) (apart xs k o) $ move ! (0 ∷ 2 ∷ []) $ use2 𝓛 (‵ (Row o (xs ++ x ∷ [])))
      (glued xs (x ∷ []) o (k * 8 + o) refl) $
      use1 𝓛 (‵ (part_at (Array u64 (length (xs ++ x ∷ []))) full_share (xs ++ x ∷ []) b o))
      (whole (xs ++ x ∷ []) (length (xs ++ x ∷ [])) o refl) $ move ! (1 ∷ []) $
      rewrite ! 0 (λ (u : ℕ × ℕ). ‵ (froom (words u.0) b u.1)) {x = (n - length (xs ++ x ∷ []), o + length (xs ++ x ∷ []) * 8)} {y =
      (n - suc k, o + k * 8 + 8)}
      (let e₀ : n - suc k ≡ n - length (xs ++ x ∷ []) = omega arith in let e₁ : o + k * 8 + 8 ≡ o + length (xs ++ x ∷ []) * 8 =
      omega arith in λ i. (e₀ i, e₁ i)) refl $ move ! (1 ∷ 0 ∷ []) $ fjoin ! $ done !

  -- the words, and the room after the m that are next
  abbrev pub Around : List ℕ → ℕ → ℕ → ℕ → Fml
  Around xs m n o = fsep (part_at (Array u64 (length xs)) full_share xs b o)
      (froom (words (n - (length xs + m))) b (o + length xs * 8 + m * 8))

  pub chunk_out : (xs : List ℕ) (m n o : ℕ) → length xs + m ≤ n →
      sem 𝓛 (run_owns (block_ptr b o) n xs) ⊢ room m (length xs * 8 + o) ∗ sem 𝓛 (Around xs m n o)
  chunk_out xs m n o le =
      let k = length xs in
      qed 𝓛 (‵ (run_owns (block_ptr b o) n xs) ∷ []) ∵ fsplit ! $ move ! (1 ∷ []) $
      use1 𝓛 (‵ (froom (words m) b (o + k * 8)) ⊛ ‵ (froom (words (n - (k + m))) b (o + k * 8 + m * 8)))
      (room_parted m (n - (k + m)) (n - k) (o + k * 8) (omega arith)) $ split ! $
      rewrite ! 0 (λ (j : ℕ). ‵ (froom (words m) b j)) {x = k * 8 + o} (omega arith) refl $ move ! (0 ∷ 2 ∷ 1 ∷ []) $ done !

  pub chunk_in : (xs ys : List ℕ) (m n o : ℕ) → length ys ≡ m → length xs + m ≤ n
      → sem 𝓛 (part_at (Array u64 m) full_share ys b (length xs * 8 + o)) ∗ sem 𝓛 (Around xs m n o) ⊢ sem 𝓛 (run_owns (block_ptr b o) n (xs
      ++ ys))
  chunk_in xs ys m n o count le =
      let k = length xs in let all = xs ++ ys in let long : length all ≡ k + m = length-append xs ys ∙ omega (arith, count) in
      qed 𝓛 (‵ (part_at (Array u64 m) full_share ys b (k * 8 + o)) ∷ ‵ (Around xs m n o) ∷ []) ∵
      use1 𝓛 (‵ (Row (k * 8 + o) ys)) (apart ys m (k * 8 + o)) $ move ! (1 ∷ []) $ fsplit ! $
      use1 𝓛 (‵ (Row o xs)) (apart xs k o) $ move ! (0 ∷ 2 ∷ []) $ use2 𝓛 (‵ (Row o all)) (glued xs ys o (k * 8 + o) refl) $
      use1 𝓛 (‵ (part_at (Array u64 (length all)) full_share all b o)) (whole all (length all) o refl) $ move ! (1 ∷ []) $
      rewrite ! 0 (λ (u : ℕ × ℕ). ‵ (froom (words u.0) b u.1)) {x = (n - length all, o + length all * 8)} {y =
      (n - (k + m), o + k * 8 + m * 8)}
      (let e₀ : n - (k + m) ≡ n - length all = omega (arith, long) in let e₁ : o + k * 8 + m * 8 ≡ o + length all * 8 =
      omega (arith, long) in λ i. (e₀ i, e₁ i)) refl $ move ! (1 ∷ 0 ∷ []) $ fjoin ! $ done !

pub none_at_null : {M : Type 1} {𝓤 : Ura M} (𝓛 : Logic 𝓤) (n : ℕ) (xs : List ℕ) → ent 𝓤 (sem 𝓛 (run_owns null_ptr n xs)) (never 𝓤)
none_at_null {𝓤 = 𝓤} 𝓛 n xs = fst∗ 𝓤 (never 𝓤) (never 𝓤)
