-- A file of each refusal, by its bytes, with its number and the line that decides: whoever meets the promises of specs/Promises.antt answers so. A file is a
-- banner and the lines that the words above it show, with LF behind each.
--
-- Pins, which nothing else cites: `refused_2`, `refused_2_integer`, `refused_3`, `refused_4`, `refused_4_end`, `refused_5`, `refused_6`, `refused_6_comment`,
-- `refused_7`, `refused_8`, `refused_9_end`.
use Prim.Native.Nat.{ℕ}
use mathlib.Core.Path.{◌≡◌, refl, ap, ◌∙◌}
use mathlib.Core.List.{List, [], ◌∷◌, ◌++◌}
use mathlib.Core.Bool.{true, false}
use native.Mathlib.Omega.{arith}
use lib.ListN.{replicate, length-replicate}
use Rattle.sets.specs.Sets.{bit, join}
use Rattle.table.specs.declared.Table.{Table}
use Rattle.recorded.specs.declared.Kind.TheVariants.{Pattern, Integer}
use Rattle.refusals.specs.Answers.{Answer}
use Rattle.file_text.specs.Bytes.{small}
use Rattle.file_text.specs.Fields.{scan}
use Rattle.file_text.specs.Lines.{lines}
use Rattle.file_entries.specs.Values.{number_from, is_minus, unsigned}
use Rattle.file_entries.specs.Words.{words}
use Rattle.file_kinds.specs.Banner.{banner_of}
use Rattle.file_kinds.specs.Kinds.{fields_by, entry_of, entry_line}
use Rattle.refusals.specs.declared.Refusal.TheVariants.{FileTooLong}
use Rattle.file_reader.specs.Files.{Fault, file_too_long}
use Rattle.file_reader.specs.Promises.{TableOfFile, TestAndTable, TestOfFile, LineOfFile}
use Rattle.file_reader.specs.private.Reading.{read_entries, read_head, read_lines, read_recorded, read_file, read_test}
use Rattle.file_reader.specs.private.Stopping.{stop_entries, stop_head, stop_lines, stop_line}
use Rattle.file_reader.proofs.Promising.{table_is_read, test_is_read, line_of_file, line_of_file_unique}

-- 01's reader answers to the file f with the number n, and the line k decides
pub record Answers (f : List ℕ) (n k : ℕ) : Type 0 where
  pub number : (a : Answer Table) → TableOfFile f a → a.refusal ≡ n
  pub line : (m : ℕ) → LineOfFile false f m → m ≡ k

answers : (f : List ℕ) (n k : ℕ) → (read_file f).refusal ≡ n → stop_line false f ≡ k → Answers f n k
answers f n k p q = record {
  number = λ a x. ap (λ (y : Answer Table). y.refusal) (table_is_read f a x) ∙ p;
  line = λ m x. line_of_file_unique false f m (stop_line false f) x (line_of_file false f (stop_line false f) refl) ∙ q;
}

-- the reader with a cutoff, here 7
pub record AnswersAt7 (f : List ℕ) (n k : ℕ) : Type 0 where
  pub number : (a : Answer TestAndTable) → TestOfFile f 7 a → a.refusal ≡ n
  pub line : (m : ℕ) → LineOfFile true f m → m ≡ k

answers_at_7 : (f : List ℕ) (n k : ℕ) → (read_test f 7).refusal ≡ n → stop_line true f ≡ k → AnswersAt7 f n k
answers_at_7 f n k p q = record {
  number = λ a x. ap (λ (y : Answer TestAndTable). y.refusal) (test_is_read f 7 a x) ∙ p;
  line = λ m x. line_of_file_unique true f m (stop_line true f) x (line_of_file true f (stop_line true f) refl) ∙ q;
}

-- a file of pairs, and an integer file, with these bytes behind the banner
abbrev of_pairs : List ℕ → List ℕ
of_pairs s = banner_of Pattern ++ 10 ∷ s

abbrev of_readings : List ℕ → List ℕ
of_readings s = banner_of Integer ++ 10 ∷ s

-- 0: a legal file, `1 2 1`, `1 2`
pub accepted_pairs : Answers (of_pairs (49 ∷ 32 ∷ 50 ∷ 32 ∷ 49 ∷ 10 ∷ 49 ∷ 32 ∷ 50 ∷ 10 ∷ [])) 0 0
unfolding small scan lines words number_from fields_by entry_of entry_line bit join read_entries read_head read_lines read_recorded read_file
    stop_entries stop_head stop_lines stop_line
accepted_pairs = answers _ 0 0 refl refl

-- 1: 65,537 bytes
pub refused_1 : Answers (replicate 65537 10) 1 0
refused_1 = record {
  number = λ a x. ap (λ (y : Answer Table). y.refusal) (x.refusing 0 _ long);
  line = λ m x. x.first 0 _ long;
}
  where
    long : Fault false (replicate 65537 10) 0 FileTooLong
    long = file_too_long (omega (arith, length-replicate {A = ℕ} 65537 10))

-- 2: an empty file
pub refused_2 : Answers [] 2 1
unfolding small scan lines words number_from fields_by entry_of entry_line bit join read_entries read_head read_lines read_recorded read_file
    stop_entries stop_head stop_lines stop_line
refused_2 = answers _ 2 1 refl refl

-- 2: the banner of an integer file, to 01's reader
pub refused_2_integer : Answers (of_readings (49 ∷ 32 ∷ 49 ∷ 32 ∷ 48 ∷ 10 ∷ [])) 2 1
unfolding small scan lines words number_from fields_by entry_of entry_line bit join read_entries read_head read_lines read_recorded read_file
    stop_entries stop_head stop_lines stop_line
refused_2_integer = answers _ 2 1 refl refl

-- 3: a comment, and behind it a line of 1,025 times `%`
pub refused_3 : Answers (of_pairs (37 ∷ 10 ∷ replicate 1025 37)) 3 3
unfolding small scan lines words number_from fields_by entry_of entry_line bit join read_entries read_head read_lines read_recorded read_file
    stop_entries stop_head stop_lines stop_line
refused_3 = answers _ 3 3 refl refl

-- 4: `2 3`
pub refused_4 : Answers (of_pairs (50 ∷ 32 ∷ 51 ∷ 10 ∷ [])) 4 2
unfolding small scan lines words number_from fields_by entry_of entry_line bit join read_entries read_head read_lines read_recorded read_file
    stop_entries stop_head stop_lines stop_line
refused_4 = answers _ 4 2 refl refl

-- 4: `%` alone, so the end of the file decides
pub refused_4_end : Answers (of_pairs (37 ∷ 10 ∷ [])) 4 3
unfolding small scan lines words number_from fields_by entry_of entry_line bit join read_entries read_head read_lines read_recorded read_file
    stop_entries stop_head stop_lines stop_line
refused_4_end = answers _ 4 3 refl refl

-- 5: `65 1 0`
pub refused_5 : Answers (of_pairs (54 ∷ 53 ∷ 32 ∷ 49 ∷ 32 ∷ 48 ∷ 10 ∷ [])) 5 2
unfolding small scan lines words number_from fields_by entry_of entry_line bit join read_entries read_head read_lines read_recorded read_file
    stop_entries stop_head stop_lines stop_line
refused_5 = answers _ 5 2 refl refl

-- 6: `1 1 1`, `1 1 1`
pub refused_6 : Answers (of_pairs (49 ∷ 32 ∷ 49 ∷ 32 ∷ 49 ∷ 10 ∷ 49 ∷ 32 ∷ 49 ∷ 32 ∷ 49 ∷ 10 ∷ [])) 6 3
unfolding small scan lines words number_from fields_by entry_of entry_line bit join read_entries read_head read_lines read_recorded read_file
    stop_entries stop_head stop_lines stop_line
refused_6 = answers _ 6 3 refl refl

-- 6: `1 1 1`, `%`
pub refused_6_comment : Answers (of_pairs (49 ∷ 32 ∷ 49 ∷ 32 ∷ 49 ∷ 10 ∷ 37 ∷ 10 ∷ [])) 6 3
unfolding small scan lines words number_from fields_by entry_of entry_line bit join read_entries read_head read_lines read_recorded read_file
    stop_entries stop_head stop_lines stop_line
refused_6_comment = answers _ 6 3 refl refl

-- 7: `1 1 1`, `0 1`
pub refused_7 : Answers (of_pairs (49 ∷ 32 ∷ 49 ∷ 32 ∷ 49 ∷ 10 ∷ 48 ∷ 32 ∷ 49 ∷ 10 ∷ [])) 7 3
unfolding small scan lines words number_from fields_by entry_of entry_line bit join read_entries read_head read_lines read_recorded read_file
    stop_entries stop_head stop_lines stop_line
refused_7 = answers _ 7 3 refl refl

-- 8: `1 1 1`, a blank line, `1 1`, `1 1`: ahead of 9
pub refused_8 : Answers (of_pairs (49 ∷ 32 ∷ 49 ∷ 32 ∷ 49 ∷ 10 ∷ 10 ∷ 49 ∷ 32 ∷ 49 ∷ 10 ∷ 49 ∷ 32 ∷ 49 ∷ 10 ∷ [])) 8 5
unfolding small scan lines words number_from fields_by entry_of entry_line bit join read_entries read_head read_lines read_recorded read_file
    stop_entries stop_head stop_lines stop_line
refused_8 = answers _ 8 5 refl refl

-- 9: `1 2 1`, `1 1`, `1 2`
pub refused_9 : Answers (of_pairs (49 ∷ 32 ∷ 50 ∷ 32 ∷ 49 ∷ 10 ∷ 49 ∷ 32 ∷ 49 ∷ 10 ∷ 49 ∷ 32 ∷ 50 ∷ 10 ∷ [])) 9 4
unfolding small scan lines words number_from fields_by entry_of entry_line bit join read_entries read_head read_lines read_recorded read_file
    stop_entries stop_head stop_lines stop_line
refused_9 = answers _ 9 4 refl refl

-- 9: `1 2 2`, `1 1`, so the end of the file decides
pub refused_9_end : Answers (of_pairs (49 ∷ 32 ∷ 50 ∷ 32 ∷ 50 ∷ 10 ∷ 49 ∷ 32 ∷ 49 ∷ 10 ∷ [])) 9 4
unfolding small scan lines words number_from fields_by entry_of entry_line bit join read_entries read_head read_lines read_recorded read_file
    stop_entries stop_head stop_lines stop_line
refused_9_end = answers _ 9 4 refl refl

-- 0: an integer file, `1 2 1`, `1 2 -7`
pub accepted_readings : AnswersAt7 (of_readings (49 ∷ 32 ∷ 50 ∷ 32 ∷ 49 ∷ 10 ∷ 49 ∷ 32 ∷ 50 ∷ 32 ∷ 45 ∷ 55 ∷ 10 ∷ [])) 0 0
unfolding small scan lines words number_from is_minus unsigned fields_by entry_of entry_line bit join read_entries read_head read_lines read_recorded read_test
    stop_entries stop_head stop_lines stop_line
accepted_readings = answers_at_7 _ 0 0 refl refl

-- 20: `1 1 2`, `1 1 7`, `1 1 1000001`: ahead of 8
pub refused_20 : AnswersAt7 (of_readings (49 ∷ 32 ∷ 49 ∷ 32 ∷ 50 ∷ 10 ∷ 49 ∷ 32 ∷ 49 ∷ 32 ∷ 55 ∷ 10 ∷
    49 ∷ 32 ∷ 49 ∷ 32 ∷ 49 ∷ 48 ∷ 48 ∷ 48 ∷ 48 ∷ 48 ∷ 49 ∷ 10 ∷ [])) 20 4
unfolding small scan lines words number_from is_minus unsigned fields_by entry_of entry_line bit join read_entries read_head read_lines read_recorded read_test
    stop_entries stop_head stop_lines stop_line
refused_20 = answers_at_7 _ 20 4 refl refl

-- 21: a cutoff of 0, whatever the file
pub refused_21 : (f : List ℕ) (a : Answer TestAndTable) → TestOfFile f 0 a → a.refusal ≡ 21
refused_21 f a x = ap (λ (y : Answer TestAndTable). y.refusal) (x.cutoff_refused (λ k. omega (arith, k)))
