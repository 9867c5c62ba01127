-- What a call has written, by what was written and what the last flush said.
use Rattle.std.proofs.Common.{◌≡◌, ◌∙◌, List, [], ℕ, ap, inl, inr, sym, subst}
use Rattle.std.proofs.lemmas.List.{append-nil}
use Rattle.std.specs.Prelude.{true, false, Result, Ok, Err, IfOk, IfErr, IsErrAnd, OnErr, OnOk, is_ok}
use Rattle.text_out.specs.Out.{OutState, StopsIn, Writes, with_bytes, with_failure}
use Rattle.program_texts.specs.declared.status.Status.{Status}
use Rattle.program_texts.specs.declared.stop.Stop.{Stop}
use Rattle.program_texts.specs.declared.stop.Stop.TheVariants.{WriteFailed}
use Rattle.command_facts.specs.Written.{IsReported, Wrote, WroteSome}

-- all of the text, and what the last flush said
pub wrote : (ends given : Status) (text : List ℕ) (old mid new : OutState) (r : Result Status Stop) → given ≡ ends → mid ≡ with_bytes
    old text →
    IfOk r (λ s. (s ≡ given) × (new ≡ mid)) → IfErr r (λ stop. (stop ≡ WriteFailed) × (new ≡ with_failure mid)) → Wrote ends text old new r
wrote ends given text old mid new (Ok s) is written ok failed = (ok.0 ∙ is, ok.1 ∙ written)
wrote ends given text old mid new (Err why) is written ok failed = (
  failed.0,
  record { front = text; rest = []; whole = sym (append-nil text); stopped = failed.1 ∙ ap with_failure written },
)

-- a beginning of it, and the writer failed
pub cut_off : (ends : Status) (text : List ℕ) (old new : OutState) (r : Result Status Stop) → IsErrAnd r (λ why. why ≡ WriteFailed) →
    StopsIn old new text → Wrote ends text old new r
cut_off ends text old new (Ok s) is stops = absurd is
cut_off ends text old new (Err why) is stops = (is, stops)

-- a text was written whole, and then the stream was flushed, whatever came of it
pub reported : {E F : Type 0} (old mid new : OutState) (given text : List ℕ) (r : Result Unit E) (flushed : Result Unit F) → given ≡ text →
    Writes old mid given r → true ≡ is_ok r → OnOk flushed (new ≡ mid) → OnErr flushed (new ≡ with_failure mid) → IsReported old new text
reported old mid new given text (Ok u) (Ok v) is w whole ok failed = subst (IsReported old new) is (inl (ok ∙ w))
reported old mid new given text (Ok u) (Err f) is w whole ok failed = subst (IsReported old new) is
    (inr (record { front = given; rest = []; whole = sym (append-nil given); stopped = failed ∙ ap with_failure w }))
reported old mid new given text (Err e) flushed is w whole ok failed = cc

-- the stream failed within it
pub reported_in_part : {E : Type 0} (old new : OutState) (given text : List ℕ) (r : Result Unit E) → given ≡ text → Writes old new given r →
    false ≡ is_ok r → IsReported old new text
reported_in_part old new given text (Ok u) is w part = cc
reported_in_part old new given text (Err e) is w part = subst (IsReported old new) is (inr w)

-- a text that was written is one of its kind
pub wrote_some : (ends : Status) (Needs : Type 0) (Is : List ℕ → Type 0) (text : List ℕ) (old new : OutState) (r : Result Status Stop)
    → Is text →
    Wrote ends text old new r → WroteSome ends Needs Is old new r
wrote_some ends Needs Is text old new (Ok s) is w = (w.0, (text, is, w.1))
wrote_some ends Needs Is text old new (Err why) is w = inl (w.0, (text, is, w.1))
