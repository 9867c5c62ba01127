-- Processors, those that met, columns and names of rows, one behind the other.
use Rattle.std.proofs.Common.{◌≡◌, ◌∙◌, ◌<◌, ◌+◌, ◌%◌, ◌++◌, List, ℕ, ℤ, ap, arith, drop, get_or, length, map, sym}
use Rattle.std.proofs.lemmas.List.{drop_more}
use Rattle.std.specs.Prelude.{nat_eq, if◌then◌else◌}
use Rattle.pram_model.specs.Layout.{SharedEntry}
use Rattle.journal.specs.declared.act as act
use Rattle.journal.specs.declared.entry as entry
use Rattle.journal.specs.Entries.{act_is, entry_is}
use Rattle.text_out.specs.Out.{OutState, with_bytes}
use Rattle.text_out.proofs.Progress.{Progress, goes_on}
use Rattle.pictures.specs.Steps.Bands.{band_front, columns_from, front_of, label, label_line, labels_from, with_front}
use Rattle.pictures.specs.Steps.Columns.{act_drawn, acts_drawn, all_met, met_drawn}
use Rattle.pictures.specs.Steps.Measures.{Column, Frame, rows_top}
use Rattle.pictures.specs.Steps.Picture.{behind_blank, indices_words}
use Rattle.svg_texts.specs.Shapes.{Empty, shape_text, words_text}

pub acts_at : (layout : List SharedEntry) (rows : List ℤ) (c : Column) (acts : List act.Act.Act) (i : ℕ) (a : act.Act.Act) →
    i < length acts → a ≡ get_or acts i a → shape_text (acts_drawn layout rows c (map act_is (drop i acts))) ≡
    shape_text (act_drawn layout rows c (act_is a)) ++ shape_text (acts_drawn layout rows c (map act_is (drop (i + 1) acts)))
acts_at layout rows c acts i a below is =
    ap (λ acts. shape_text (acts_drawn layout rows c (map act_is acts))) (drop_more acts i a below)
    ∙ ap (λ a. shape_text (act_drawn layout rows c (act_is a)) ++ shape_text (acts_drawn layout rows c (map act_is (drop (i + 1) acts))))
    (sym is)

pub met_at : (rows : List ℤ) (c : Column) (met : List ℤ) (i : ℕ) (m : ℤ) → i < length met → m ≡ get_or met i m →
    shape_text (all_met rows c (drop i met)) ≡ shape_text (met_drawn rows c m) ++ shape_text (all_met rows c (drop (i + 1) met))
met_at rows c met i m below is =
    ap (λ met. shape_text (all_met rows c met)) (drop_more met i m below)
    ∙ ap (λ m. shape_text (met_drawn rows c m) ++ shape_text (all_met rows c (drop (i + 1) met))) (sym is)

pub indices_at : (met : List ℤ) (i : ℕ) (m : ℤ) → i < length met → m ≡ get_or met i m →
    words_text (indices_words (drop i met)) ≡ words_text (behind_blank m) ++ words_text (indices_words (drop (i + 1) met))
indices_at met i m below is =
    ap (λ met. words_text (indices_words met)) (drop_more met i m below)
    ∙ ap (λ m. words_text (behind_blank m) ++ words_text (indices_words (drop (i + 1) met))) (sym is)

-- names of rows on their way: what was written, and how many are behind
pub record InLabels (old new : OutState) (all : List ℕ) (top : ℕ) (rows : List ℤ) (i before : ℕ) : Type 0 where
  pub progress : Progress old new all (shape_text (labels_from top (before + 1) (drop i rows)))
  pub counted : before ≡ i

pub labels_at : (top : ℕ) (rows : List ℤ) (i before y : ℕ) (m : ℤ) → y ≡ label_line top (before + 1) → i < length rows →
    m ≡ get_or rows i m → shape_text (labels_from top (before + 1) (drop i rows)) ≡
    shape_text (label y m) ++ shape_text (labels_from top ((before + 1) + 1) (drop (i + 1) rows))
labels_at top rows i before y m at below is =
    ap (λ rows. shape_text (labels_from top (before + 1) rows)) (drop_more rows i m below)
    ∙ (λ k. shape_text (label (sym at k) (sym is k)) ++ shape_text (labels_from top ((before + 1) + 1) (drop (i + 1) rows)))

pub label_written : (old now new : OutState) (all : List ℕ) (top : ℕ) (rows : List ℤ) (i before y : ℕ) (m : ℤ) →
    InLabels old now all top rows i before → y ≡ label_line top (before + 1) → i < length rows → m ≡ get_or rows i m →
    new ≡ with_bytes now (shape_text (label y m)) → InLabels old new all top rows (i + 1) (before + 1)
label_written old now new all top rows i before y m c at below is w = record {
  progress = goes_on _ _ _ _ _ _ _ c.progress (labels_at top rows i before y m at below is) w;
  counted = let d : before ≡ i = c.counted in omega (arith, d);
}

-- columns on their way
pub record InColumns (old new : OutState) (all : List ℕ) (f : Frame) (j k : ℕ) (es : List entry.Entry.Entry) (i before : ℕ) : Type 0 where
  pub progress : Progress old new all (shape_text (columns_from f (j + before) (k + before) (map entry_is (drop i es))))
  pub counted : before ≡ i

pub columns_at : (f : Frame) (j k : ℕ) (es : List entry.Entry.Entry) (i before : ℕ) (e : entry.Entry.Entry) →
    i < length es → e ≡ get_or es i e → shape_text (columns_from f (j + before) (k + before) (map entry_is (drop i es))) ≡
    shape_text (with_front f (j + before) (k + before) (entry_is e)) ++
    shape_text (columns_from f (j + (before + 1)) (k + (before + 1)) (map entry_is (drop (i + 1) es)))
columns_at f j k es i before e below is =
    let left : (j + before) + 1 ≡ j + (before + 1) = omega arith in
    let right : (k + before) + 1 ≡ k + (before + 1) = omega arith in
    ap (λ es. shape_text (columns_from f (j + before) (k + before) (map entry_is es))) (drop_more es i e below)
    ∙ (λ x. shape_text (with_front f (j + before) (k + before) (entry_is (sym is x)))
    ++ shape_text (columns_from f (left x) (right x) (map entry_is (drop (i + 1) es))))

pub column_written : (old now new : OutState) (all : List ℕ) (f : Frame) (j k : ℕ) (es : List entry.Entry.Entry) (i before : ℕ)
    (e : entry.Entry.Entry) → InColumns old now all f j k es i before → i < length es → e ≡ get_or es i e →
    new ≡ with_bytes now (shape_text (with_front f (j + before) (k + before) (entry_is e))) →
    InColumns old new all f j k es (i + 1) (before + 1)
column_written old now new all f j k es i before e c below is w = record {
  progress = goes_on _ _ _ _ _ _ _ c.progress (columns_at f j k es i before e below is) w;
  counted = let d : before ≡ i = c.counted in omega (arith, d);
}

-- what the first column of a band begins with
pub front_here : (f : Frame) (j top : ℕ) → j % 16 ≡ 0 → top ≡ rows_top f j → band_front f.rows top ≡ front_of f j
front_here f j top first at =
    ap (band_front f.rows) at ∙ sym (ap (λ n. if nat_eq n 0 then band_front f.rows (rows_top f j) else Empty) first)
