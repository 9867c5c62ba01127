-- Files are taken one by one.
use Rattle.std.proofs.Common.{◌≡◌, ℕ, ◌+◌, ◌<◌, List, [], ◌∷◌, ◌++◌, length, take, get_or, subst, sym, ap, ◌∙◌}
use Rattle.std.proofs.lemmas.List.{take_more}
use Rattle.std.specs.Prelude.{Option, Result, Ok, Err, OnErr}
use Rattle.text_out.specs.Out.{OutState}
use Rattle.program_texts.specs.declared.status.Status.{Status}
use Rattle.program_texts.specs.declared.status.Status.TheVariants as status
use Rattle.program_texts.specs.declared.stop.Stop.{Stop}
use Rattle.diagnoses.specs.declared.about.About.{About}
use Rattle.command_requests.specs.declared.arrange_words.ArrangeForm.{ArrangeForm}
use Rattle.command_requests.specs.declared.request.ProgramFile.{ProgramFile}
use Rattle.command_files.specs.declared.arranging.ArrangedFile.{ArrangedFile}
use Rattle.command_files.specs.Left as left
use Rattle.command_files.specs.Left.{Found, Gathers, Takes, Writes, WritesOne}

next_of : {A : Type 0} (xs : List A) (i : ℕ) (x : A) → i < length xs → x ≡ get_or xs i x → take i xs ++ x ∷ [] ≡ take (i + 1) xs
next_of xs i x more is = ap (λ y. take i xs ++ y ∷ []) is ∙ sym (take_more xs i x more)

pub one_more : (refuses : Stop → About → (err err_new : OutState) → Type 0) (holds : List ℕ → Option (List ℕ) → Type 0) (form : ArrangeForm)
    (err between err_new : OutState) (files : List ProgramFile) (i : ℕ) (file : ProgramFile) (f g : Found) → i < length files →
    file ≡ get_or files i file → Gathers refuses holds form err (take i files) between f →
    Takes refuses holds form file f between err_new g → Gathers refuses holds form err (take (i + 1) files) err_new g
one_more refuses holds form err between err_new files i file f g more is so takes =
    subst (λ (fs : List ProgramFile). Gathers refuses holds form err fs err_new g) (next_of files i file more is)
    (left.OneMore (take i files) file between err_new f g so takes)

pub one_written : (refuses : Stop → About → (err err_new : OutState) → Type 0) (before s ends : Status) (err between err_new : OutState)
    (files : List ArrangedFile) (i : ℕ) (file : ArrangedFile) → i < length files → file ≡ get_or files i file →
    Writes refuses before err (take i files) between s → WritesOne refuses file s between err_new ends →
    Writes refuses before err (take (i + 1) files) err_new ends
one_written refuses before s ends err between err_new files i file more is so one =
    subst (λ (fs : List ArrangedFile). Writes refuses before err fs err_new ends) (next_of files i file more is)
    (left.OneWritten (take i files) file between err_new s ends so one)

pub on_err : {X E : Type 0} (r : Result X E) (P : Type 0) → P → OnErr r P
on_err (Ok x) P p = tt
on_err (Err e) P p = p

pub begun : (refuses : Stop → About → (err err_new : OutState) → Type 0) (holds : List ℕ → Option (List ℕ) → Type 0) (form : ArrangeForm)
    (err : OutState) (told : List ℕ) (written : List ArrangedFile) → told ≡ [] → written ≡ [] →
    Gathers refuses holds form err [] err (left.found_of told written status.Done)
begun refuses holds form err told written no_text no_file =
    subst (λ (t : List ℕ). Gathers refuses holds form err [] err (left.found_of t written status.Done)) (sym no_text)
    (subst (λ (w : List ArrangedFile). Gathers refuses holds form err [] err (left.found_of [] w status.Done)) (sym no_file) left.NoFile)
