-- Texts of several parts, one written behind the other.
use Rattle.std.proofs.Common.{◌≡◌, ◌++◌, List, ℕ}
use Rattle.std.specs.Prelude.{Result, Ok, Err, IsErrAnd}
use Rattle.text_out.specs.Out.{OutState, StopsIn, Writes, with_bytes}
use Rattle.text_out.proofs.Writing.{stops_before, stops_behind, writes_stopped, writes_then}

-- the first part is written, and of the other what is written of it
pub two_parts : {E : Type 0} (s t u : OutState) (a b : List ℕ) (r : Result Unit E) → t ≡ with_bytes s a → Writes t u b r
    → Writes s u (a ++ b) r
two_parts s t u a b (Ok v) first second = writes_then s t u a b first second
two_parts s t u a b (Err e) first second = stops_behind s t u a b first second

pub three_parts : {E : Type 0} (s t u v : OutState) (a b c : List ℕ) (r : Result Unit E) → t ≡ with_bytes s a → u ≡ with_bytes t b
    → Writes u v c r → Writes s v (a ++ (b ++ c)) r
three_parts s t u v a b c r first second third = two_parts s t v a (b ++ c) r first (two_parts t u v b c r second third)

pub four_parts : {E : Type 0} (s t u v w : OutState) (a b c d : List ℕ) (r : Result Unit E) → t ≡ with_bytes s a → u ≡ with_bytes t b
    → v ≡ with_bytes u c → Writes v w d r → Writes s w (a ++ (b ++ (c ++ d))) r
four_parts s t u v w a b c d r first second third fourth =
    two_parts s t w a (b ++ (c ++ d)) r first (three_parts t u v w b c d r second third fourth)

-- the writer stopped in the first part
pub stopped_in_first : {E : Type 0} (s t : OutState) (a b : List ℕ) (r : Result Unit E) (P : E → Type 0) → IsErrAnd r P → StopsIn s t a
    → Writes s t (a ++ b) r
stopped_in_first s t a b r P is stopped = writes_stopped s t (a ++ b) r P is (stops_before b stopped)

-- in the second
pub stopped_in_second : {E : Type 0} (s t u : OutState) (a b c : List ℕ) (r : Result Unit E) (P : E → Type 0) → t ≡ with_bytes s a
    → IsErrAnd r P → StopsIn t u b → Writes s u (a ++ (b ++ c)) r
stopped_in_second s t u a b c r P first is stopped = two_parts s t u a (b ++ c) r first (stopped_in_first t u b c r P is stopped)

-- in the third
pub stopped_in_third : {E : Type 0} (s t u v : OutState) (a b c d : List ℕ) (r : Result Unit E) (P : E → Type 0) → t ≡ with_bytes s a
    → u ≡ with_bytes t b → IsErrAnd r P → StopsIn u v c → Writes s v (a ++ (b ++ (c ++ d))) r
stopped_in_third s t u v a b c d r P first second is stopped =
    two_parts s t v a (b ++ (c ++ d)) r first (stopped_in_second t u v b c d r P second is stopped)
